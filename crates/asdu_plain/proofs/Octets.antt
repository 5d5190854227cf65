-- Octets without reserved bits: which forms have none, and the test of the last octet that stands for the whole form. Assumes nothing.
use Prim.Native.Nat.{ℕ, zero, suc, ◌+◌, ◌*◌, ◌/◌, ◌%◌, ◌<◌, ◌≤◌}
use mathlib.Core.Path.{◌≡◌, refl, sym, subst, ◌∙◌}
use mathlib.Core.Bool.{false, and-true}
use mathlib.Core.List.{List, [], ◌∷◌, ◌++◌}
use native.Mathlib.Omega.{arith}
use native.Mathlib.Nat.{add-zero}
use lib.Dec.{T, eqb, eqb-suc-zero}
use lib.ListN.{length, get_or}
use lib.Pow.{mod-pow-add}
use lib.Seq.{get_or-drop}
use Rattle.laws.specs.Bits.{Layout, ◌at◌, kept, reserved}
use Rattle.laws.specs.Lists.{Octets}
use Rattle.laws.proofs.Layouts.{kept_whole}
use Rattle.elements.specs.Quality.{qds_layout}
use Rattle.elements.specs.Points.{diq_layout}
use Rattle.objects.specs.Kinds.{form_of}
use Rattle.objects.specs.declared.kinds.Kind.{Kind}
use Rattle.objects.specs.declared.kinds.Kind.TheVariants.{MSpNa1, MDpNa1, MStNa1, MBoNa1, MMeNa1, MMeNb1, MMeNc1, MItNa1, MMeNd1, MEiNa1, CIcNa1, CCiNa1, CRdNa1}
use Rattle.asdu.specs.Plain.{plain_form, has_reserved}
use Rattle.asdu.proofs.Kept.{Covered, plain_append, plain_covered}

-- ---- forms with no reserved bit

pub covered : (k : Kind) → has_reserved k ≡ false → Covered (form_of k)
covered MSpNa1 e = absurd (subst T e tt)
covered MDpNa1 e = absurd (subst T e tt)
covered MStNa1 e = absurd (subst T e tt)
covered MBoNa1 e = absurd (subst T e tt)
covered MMeNa1 e = absurd (subst T e tt)
covered MMeNb1 e = absurd (subst T e tt)
covered MMeNc1 e = absurd (subst T e tt)
covered MItNa1 e = ((tt, tt), ((tt, tt), ((tt, tt), ((tt, tt), ((tt, (tt, (tt, (tt, tt)))), tt)))))
covered MMeNd1 e = ((tt, tt), ((tt, tt), tt))
covered MEiNa1 e = ((tt, tt), tt)
covered CIcNa1 e = ((tt, tt), tt)
covered CCiNa1 e = ((tt, tt), tt)
covered CRdNa1 e = tt

-- ---- the last octet stands for the form where the others are covered

pub plain_last : (f : List Layout) (l : Layout) (s : List ℕ) → Covered f → Octets s → plain_form (f ++ (l ∷ [])) s ≡ eqb (reserved l (get_or s (length f) 0)) 0
plain_last f l s c o =
    plain_append f (l ∷ []) s
    ∙ rw (plain_covered f s c o, get_or-drop (length f) s 0 0, add-zero (length f)) (and-true (eqb (reserved l (get_or s (length f) 0)) 0))

-- ---- the reserved bits of QDS, SIQ and DIQ

-- a number and up to four times it are 0 together
same_test : (n a : ℕ) → n ≤ a → a ≤ n * 4 → eqb n 0 ≡ eqb a 0
same_test zero zero h g = refl
same_test zero (suc a) h g = absurd (omega arith)
same_test (suc n) zero h g = absurd (omega arith)
same_test (suc n) (suc a) h g = eqb-suc-zero n ∙ sym (eqb-suc-zero a)

-- bits 4 to 7 are marks in all three, so that what is left over lies in bits 0 to 3
abbrev marks : Layout
marks = 1 at 4 ∷ 1 at 5 ∷ 1 at 6 ∷ 1 at 7 ∷ []

split : (b : ℕ) → b < 256 → b % 16 + kept marks b ≡ b
split b h = let e = kept_whole b (4 at 0 ∷ marks) (tt, (tt, (tt, (tt, (tt, tt))))) h in omega arith

qds_left : (b : ℕ) → b < 256 → reserved qds_layout b ≡ b / 2 % 8 * 2
qds_left b h = let e = split b h in let g = mod-pow-add b 3 1 in omega arith

diq_left : (b : ℕ) → b < 256 → reserved diq_layout b ≡ b / 4 % 4 * 4
diq_left b h = let e = split b h in let g = mod-pow-add b 2 2 in omega arith

pub qds_test : (b : ℕ) → b < 256 → eqb (b / 2 % 8) 0 ≡ eqb (reserved qds_layout b) 0
qds_test b h = rw (qds_left b h) (same_test (b / 2 % 8) (b / 2 % 8 * 2) (omega arith) (omega arith))

pub diq_test : (b : ℕ) → b < 256 → eqb (b / 4 % 4) 0 ≡ eqb (reserved diq_layout b) 0
diq_test b h = rw (diq_left b h) (same_test (b / 4 % 4) (b / 4 % 4 * 4) (omega arith) (omega arith))

-- Plain form is that the form keeps every octet: no reserved bit is set exactly if what is kept is what stood there. Assumes nothing.
use Prim.Native.Nat.{ℕ, ◌≤◌}
use mathlib.Core.Path.{◌≡◌, refl, sym, ap, subst}
use mathlib.Core.Bool.{Bool, true, false, ◌&&◌, and_assoc}
use mathlib.Core.List.{List, [], ◌∷◌, ◌++◌}
use native.Mathlib.Omega.{arith}
use borrow.Author.Tests.{eqb-true, eq-eqb}
use lib.Dec.{T, eqb}
use lib.ListN.{length, get_or, take, drop}
use lib.Seq.{drop-nil}
use Rattle.laws.specs.Bits.{Layout, kept, reserved, apart}
use Rattle.laws.specs.Lists.{Octets}
use Rattle.laws.proofs.Layouts.{Covers, kept_whole, kept_most}
use Rattle.laws.proofs.Lists.{octet_fits, octets_drop}
use Rattle.objects.specs.Kinds.{form_of}
use Rattle.objects.specs.Promises.{kept_by}
use Rattle.objects.specs.declared.kinds.Kind.{Kind}
use Rattle.objects.specs.declared.kinds.Kind.TheVariants.{MSpNa1, MDpNa1, MStNa1, MBoNa1, MMeNa1, MMeNb1, MMeNc1, MItNa1, MMeNd1, MEiNa1, CIcNa1, CCiNa1, CRdNa1}
use Rattle.asdu.specs.Plain.{plain_form}

-- ---- fields that lie apart

-- each octet's fields lie apart
abbrev pub Apart : List Layout → Type 0
Apart [] = Unit {0}
Apart (l ∷ ls) = T (apart 0 l 8) × Apart ls

pub apart_form : (k : Kind) → Apart (form_of k)
apart_form MSpNa1 = (tt, tt)
apart_form MDpNa1 = (tt, tt)
apart_form MStNa1 = (tt, (tt, tt))
apart_form MBoNa1 = (tt, (tt, (tt, (tt, (tt, tt)))))
apart_form MMeNa1 = (tt, (tt, (tt, tt)))
apart_form MMeNb1 = (tt, (tt, (tt, tt)))
apart_form MMeNc1 = (tt, (tt, (tt, (tt, (tt, tt)))))
apart_form MItNa1 = (tt, (tt, (tt, (tt, (tt, tt)))))
apart_form MMeNd1 = (tt, (tt, tt))
apart_form MEiNa1 = (tt, tt)
apart_form CIcNa1 = (tt, tt)
apart_form CCiNa1 = (tt, tt)
apart_form CRdNa1 = tt

pub apart_append : (f g : List Layout) → Apart f → Apart g → Apart (f ++ g)
apart_append [] g a b = b
apart_append (l ∷ f) g a b = (a.0, apart_append f g a.1 b)

-- ---- plain is kept

both_true : (x y : Bool) → (x && y) ≡ true → (x ≡ true) × (y ≡ true)
both_true true y e = (refl, e)
both_true false y e = absurd (subst T (sym e) tt)

pub plain_kept : (f : List Layout) (s : List ℕ) → Apart f → length f ≤ length s → plain_form f s ≡ true → kept_by f s ≡ take (length f) s
unfolding kept_by
plain_kept [] s a h e = refl
plain_kept (l ∷ f) [] a h e = absurd (omega arith)
plain_kept (l ∷ f) (b ∷ s) a h e =
    let (x, y) = both_true (eqb (reserved l b) 0) (plain_form f s) e in
    let all : kept l b ≡ b = omega (arith, kept_most 8 l b a.0, eqb-true (reserved l b) 0 x) in
    rw (all, plain_kept f s a.1 (omega arith) y)

pub kept_plain : (f : List Layout) (s : List ℕ) → length f ≤ length s → kept_by f s ≡ take (length f) s → plain_form f s ≡ true
unfolding kept_by
kept_plain [] s h e = refl
kept_plain (l ∷ f) [] h e = absurd (omega arith)
kept_plain (l ∷ f) (b ∷ s) h e =
    let first : kept l b ≡ b = ap (λ (x : List ℕ). get_or x 0 0) e in
    rw (eq-eqb (reserved l b) 0 (omega arith)) (kept_plain f s (omega arith) (ap (drop 1) e))

-- ---- forms in two parts, and forms with no reserved bit

pub plain_append : (f g : List Layout) (s : List ℕ) → plain_form (f ++ g) s ≡ (plain_form f s && plain_form g (drop (length f) s))
plain_append [] g s = refl
plain_append (l ∷ f) g [] = rw (plain_append f g [], drop-nil (length f)) (sym (and_assoc (eqb (reserved l 0) 0) (plain_form f []) (plain_form g [])))
plain_append (l ∷ f) g (b ∷ s) = rw (plain_append f g s) (sym (and_assoc (eqb (reserved l b) 0) (plain_form f s) (plain_form g (drop (length f) s))))

abbrev pub Covered : List Layout → Type 0
Covered [] = Unit {0}
Covered (l ∷ f) = Covers 0 l 8 × Covered f

pub plain_covered : (f : List Layout) (s : List ℕ) → Covered f → Octets s → plain_form f s ≡ true
plain_covered [] s c o = refl
plain_covered (l ∷ f) s c o =
    let b = get_or s 0 0 in
    let e = kept_whole b l c.0 (octet_fits s 0 o) in
    rw (eq-eqb (reserved l b) 0 (omega arith)) (plain_covered f (drop 1 s) c.1 (octets_drop 1 s o))

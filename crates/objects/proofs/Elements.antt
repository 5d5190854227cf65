-- Demand 2 for one element, from the laws of octets and of numbers. Assumes nothing.
use Prim.Native.Nat.{ℕ, zero, suc, ◌<◌, ◌≤◌}
use mathlib.Core.Path.{◌≡◌, refl, sym, ap, ◌∙◌}
use mathlib.Core.List.{List, [], ◌∷◌, ◌++◌, append_assoc, append-nil}
use native.Mathlib.Nat.{add-zero}
use native.Mathlib.Omega.{arith}
use lib.ListN.{length, get_or, take, drop, replicate}
use lib.Seq.{get_or_at, get_or-drop}
use Rattle.laws.specs.Bits.{Layout, kept, whole}
use Rattle.laws.specs.Lists.{Octets}
use Rattle.laws.specs.Numbers.{le_of, le_octets, signed_of, bits_of}
use Rattle.laws.proofs.Layouts.{kept_whole}
use Rattle.laws.proofs.Lists.{octet_fits}
use Rattle.laws.proofs.Numbers.{length_octets}
use Rattle.elements.specs.Refusals.{octet_in}
use Rattle.elements.specs.Quality.{qds_layout, qds_of, qds_octet, seq_qd_layout, seq_qd_of, seq_qd_answer}
use Rattle.elements.specs.declared.quality_descriptors.Qds.{Qds}
use Rattle.elements.proofs.Promises.{octet_level}
use Rattle.objects.specs.Kinds.{size_of, form_of, value_kind}
use Rattle.objects.specs.Elements.{element_of, element_octets, value_refusal}
use Rattle.objects.specs.Promises.{Typed, kept_by, ElementLevel}
use Rattle.objects.specs.declared.kinds.Kind.{Kind}
use Rattle.objects.specs.declared.values.Value.{Value}
use Rattle.objects.specs.declared.values.Value.TheVariants.{MSpNa1, MDpNa1, MStNa1, MBoNa1, MMeNa1, MMeNb1, MMeNc1, MItNa1, MMeNd1, MEiNa1, CIcNa1, CCiNa1, CRdNa1}

-- ---- octets of a list

-- octets that are kept whole, and what a form keeps after them
pub kept_wholes : (n : ℕ) (ls : List Layout) (s : List ℕ) → Octets s → n ≤ length s → kept_by (replicate n whole ++ ls) s ≡ take n s ++ kept_by ls (drop n s)
unfolding kept_by
kept_wholes zero ls s o h = refl
kept_wholes (suc n) ls [] o h = absurd (omega arith)
kept_wholes (suc n) ls (b ∷ s) o h = rw (kept_whole b whole (tt, tt) o.0, kept_wholes n ls s o.1 (omega arith))

-- ---- a number of n octets followed by one octet

-- whatever follows: `number` reads the first n octets, `of` the next
number_back : {N R : Type 0} (value : N → R → Value) (number : List ℕ → N) (of : ℕ → R) (n v b : ℕ) (rest : List ℕ) {m : N} {q : R}
    → ((t : List ℕ) → number (le_octets n v ++ t) ≡ m) → of b ≡ q
    → let s = (le_octets n v ++ (b ∷ [])) ++ rest in value (number s) (of (get_or s n 0)) ≡ value m q
number_back value number of n v b rest p e = rw (append_assoc (le_octets n v) (b ∷ []) rest, p (b ∷ rest), get_or_at (le_octets n v) b rest 0 n (length_octets n v), e)

number_again : (n : ℕ) (l : Layout) (s : List ℕ) {number : List ℕ} {b : ℕ} → Octets s → n < length s → number ≡ take n s → b ≡ kept l (get_or s n 0)
    → number ++ (b ∷ []) ≡ kept_by (replicate n whole ++ (l ∷ [])) s
unfolding kept_by
number_again n l s o h p e = rw (kept_wholes n (l ∷ []) s o (omega arith), get_or-drop n s 0 0, add-zero n, p, e)

-- ---- each kind

sized : (v : Value) → length (element_octets v) ≡ size_of (value_kind v)
unfolding element_octets le_octets
sized (MSpNa1 q) = refl
sized (MDpNa1 q) = refl
sized (MStNa1 v) = refl
sized (MBoNa1 q n) = refl
sized (MMeNa1 n q) = refl
sized (MMeNb1 n q) = refl
sized (MMeNc1 q n) = refl
sized (MItNa1 n q) = refl
sized (MMeNd1 n) = refl
sized (MEiNa1 c) = refl
sized (CIcNa1 n) = refl
sized (CCiNa1 n) = refl
sized CRdNa1 = refl

back : (v : Value) (rest : List ℕ) → Typed v → value_refusal v ≡ 0 → element_of (value_kind v) (element_octets v ++ rest) ≡ v
unfolding element_of element_octets value_refusal
back (MSpNa1 q) rest h r = ap MSpNa1 (octet_level.siq.back q refl)
back (MDpNa1 q) rest h r = ap MDpNa1 (octet_level.diq.back q refl)
back (MStNa1 v) rest h r = ap MStNa1 (octet_level.vti.back v r)
back (MBoNa1 q n) rest h r = number_back (λ (n : ℕ) (q : Qds). MBoNa1 q n) (le_of 4) qds_of 4 n (qds_octet q) rest (λ t. octet_level.bits32.back n t h) (octet_level.qds.back q refl)
back (MMeNa1 n q) rest h r = number_back MMeNa1 (λ s. signed_of 16 (le_of 2 s)) qds_of 2 (bits_of 16 n) (qds_octet q) rest (λ t. octet_level.i16.back n t h) (octet_level.qds.back q refl)
back (MMeNb1 n q) rest h r = number_back MMeNb1 (λ s. signed_of 16 (le_of 2 s)) qds_of 2 (bits_of 16 n) (qds_octet q) rest (λ t. octet_level.i16.back n t h) (octet_level.qds.back q refl)
back (MMeNc1 q n) rest h r = number_back (λ (n : ℕ) (q : Qds). MMeNc1 q n) (le_of 4) qds_of 4 n (qds_octet q) rest (λ t. octet_level.bits32.back n t h) (octet_level.qds.back q refl)
back (MItNa1 n q) rest h r =
    number_back MItNa1 (λ s. signed_of 32 (le_of 4 s)) seq_qd_of 4 (bits_of 32 n) (octet_in (seq_qd_answer q)) rest (λ t. octet_level.i32.back n t h)
    (octet_level.counter.back q r)
back (MMeNd1 n) rest h r = ap MMeNd1 (octet_level.i16.back n rest h)
back (MEiNa1 c) rest h r = ap MEiNa1 (octet_level.coi.back c r)
back (CIcNa1 n) rest h r = refl
back (CCiNa1 n) rest h r = refl
back CRdNa1 rest h r = refl

kinded : (k : Kind) (s : List ℕ) → value_kind (element_of k s) ≡ k
unfolding element_of
kinded Kind.MSpNa1 s = refl
kinded Kind.MDpNa1 s = refl
kinded Kind.MStNa1 s = refl
kinded Kind.MBoNa1 s = refl
kinded Kind.MMeNa1 s = refl
kinded Kind.MMeNb1 s = refl
kinded Kind.MMeNc1 s = refl
kinded Kind.MItNa1 s = refl
kinded Kind.MMeNd1 s = refl
kinded Kind.MEiNa1 s = refl
kinded Kind.CIcNa1 s = refl
kinded Kind.CCiNa1 s = refl
kinded Kind.CRdNa1 s = refl

accepted : (k : Kind) (s : List ℕ) → Octets s → size_of k ≤ length s → value_refusal (element_of k s) ≡ 0
unfolding element_of value_refusal
accepted Kind.MSpNa1 s o h = refl
accepted Kind.MDpNa1 s o h = refl
accepted Kind.MStNa1 s o h = (octet_level.vti.again (get_or s 0 0) (get_or s 1 0) (octet_fits s 0 o) (octet_fits s 1 o)).accepted
accepted Kind.MBoNa1 s o h = refl
accepted Kind.MMeNa1 s o h = refl
accepted Kind.MMeNb1 s o h = refl
accepted Kind.MMeNc1 s o h = refl
accepted Kind.MItNa1 s o h = (octet_level.counter.again (get_or s 4 0) (octet_fits s 4 o)).0
accepted Kind.MMeNd1 s o h = refl
accepted Kind.MEiNa1 s o h = (octet_level.coi.again (get_or s 0 0) (octet_fits s 0 o)).0
accepted Kind.CIcNa1 s o h = refl
accepted Kind.CCiNa1 s o h = refl
accepted Kind.CRdNa1 s o h = refl

one : {a b : ℕ} → a ≡ b → a ∷ [] ≡ b ∷ []
one e = ap (λ (x : ℕ). x ∷ []) e

again : (k : Kind) (s : List ℕ) → Octets s → size_of k ≤ length s → element_octets (element_of k s) ≡ kept_by (form_of k) s
unfolding element_of element_octets kept_by
again Kind.MSpNa1 s o h = one (octet_level.siq.again (get_or s 0 0) (octet_fits s 0 o)).1
again Kind.MDpNa1 s o h = one (octet_level.diq.again (get_or s 0 0) (octet_fits s 0 o)).1
again Kind.MStNa1 s o h =
    let e = octet_level.vti.again (get_or s 0 0) (get_or s 1 0) (octet_fits s 0 o) (octet_fits s 1 o) in
    rw (get_or-drop 1 s 0 0, e.first, e.second)
again Kind.MBoNa1 s o h = number_again 4 qds_layout s o h (octet_level.bits32.again s o (omega arith)) (octet_level.qds.again (get_or s 4 0) (octet_fits s 4 o)).1
again Kind.MMeNa1 s o h = number_again 2 qds_layout s o h (octet_level.i16.again s o (omega arith)) (octet_level.qds.again (get_or s 2 0) (octet_fits s 2 o)).1
again Kind.MMeNb1 s o h = number_again 2 qds_layout s o h (octet_level.i16.again s o (omega arith)) (octet_level.qds.again (get_or s 2 0) (octet_fits s 2 o)).1
again Kind.MMeNc1 s o h = number_again 4 qds_layout s o h (octet_level.bits32.again s o (omega arith)) (octet_level.qds.again (get_or s 4 0) (octet_fits s 4 o)).1
again Kind.MItNa1 s o h = number_again 4 seq_qd_layout s o h (octet_level.i32.again s o (omega arith)) (octet_level.counter.again (get_or s 4 0) (octet_fits s 4 o)).1
again Kind.MMeNd1 s o h = octet_level.i16.again s o h ∙ sym (kept_wholes 2 [] s o h ∙ append-nil (take 2 s))
again Kind.MEiNa1 s o h = one (octet_level.coi.again (get_or s 0 0) (octet_fits s 0 o)).1
again Kind.CIcNa1 s o h = one (sym (kept_whole (get_or s 0 0) whole (tt, tt) (octet_fits s 0 o)))
again Kind.CCiNa1 s o h = one (sym (kept_whole (get_or s 0 0) whole (tt, tt) (octet_fits s 0 o)))
again Kind.CRdNa1 s o h = refl

pub element_level : ElementLevel
element_level = record { sized = sized; back = back; kinded = kinded; accepted = accepted; again = again }

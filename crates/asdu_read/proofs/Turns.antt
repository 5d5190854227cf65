-- One turn of the reader's loop, and its ends. Assumes nothing.
use Prim.Native.Nat.{ℕ, suc, ◌+◌, ◌-◌, ◌<◌, ◌≤◌}
use mathlib.Core.Path.{◌≡◌, refl, sym, ap, ◌∙◌}
use mathlib.Core.List.{List}
use native.Mathlib.Omega.{arith}
use native.Mathlib.Numerals.{add-one}
use borrow.Author.Tests.{ne_eqb}
use lib.ListN.{set, get_or}
use lib.Seq.{sets}
use Rattle.std.specs.Prelude.{Option, Some, None, Ok, Err}
use Rattle.laws.specs.Lists.{tabulate}
use Rattle.laws.proofs.Choices.{both}
use Rattle.elements.specs.Refusals.{number, answer_number}
use Rattle.elements.specs.declared.refusals.Refusal.{Refusal}
use Rattle.elements.proofs.Refused.{number_some}
use Rattle.objects.specs.Kinds.{kind_of}
use Rattle.objects.specs.declared.kinds.Kind.{Kind}
use Rattle.objects.specs.declared.Object.{Object}
use Rattle.asdu.specs.Header.{early_refusal, header_refusal_by, header_refusal, header_by, header_answer}
use Rattle.asdu.specs.Records.{asdu_of, filled, no_asdu}
use Rattle.asdu.specs.Reading.{answer_at, first_number, objects_refusal, objects_refusal_by, objects_in, read_refusal, checked_header, read_asdu}
use Rattle.asdu.specs.declared.Asdu.{Asdu}
use Rattle.asdu.specs.declared.header.Header.{Header}
use Rattle.asdu.proofs.Checked.{taken, checked_is}
use Rattle.asdu.proofs.Starts.{answers}
use Rattle.asdu.proofs.Walk.{first_pass, first_stop}

-- the turn stores object i
pub fill_next : (g : ℕ → Object) (os : List Object) (i n : ℕ) → i < n
    → sets (set os i (g i)) (i + 1) (tabulate g (i + 1) (n - (i + 1))) ≡ sets os i (tabulate g i (n - i))
unfolding tabulate
fill_next g os i n h =
    let k : n - i ≡ suc (n - suc i) = omega arith in
    rw (add-one, k)

pub fill_end : (g : ℕ → Object) (os : List Object) (i n : ℕ) → n ≤ i → sets os i (tabulate g i (n - i)) ≡ os
unfolding tabulate
fill_end g os i n h = let k : n - i ≡ 0 = omega arith in rw k

-- leaving where reading refuses
left : (s : List ℕ) → (read_refusal s ≡ 0 → ⊥) → no_asdu ≡ (read_asdu s).asdu
unfolding read_asdu checked_header
left s e = rw (ne_eqb (read_refusal s) 0 e)

-- with the header's refusal
pub header_left : (s : List ℕ) (r : Refusal) → header_answer s ≡ Err r → no_asdu ≡ (read_asdu s).asdu
unfolding header_refusal read_refusal
header_left s r e =
    left s
    (λ z.
    let none = (both (header_refusal s) (objects_refusal_by (kind_of (get_or s 0 0)) s) z).0 in
    let kind = (both (early_refusal s) (header_refusal_by (kind_of (get_or s 0 0)) s) none).1 in
    by (kind_of (get_or s 0 0)) kind (answers s (kind_of (get_or s 0 0)) none refl ∙ e))
  where
    by : (k : Option Kind) → header_refusal_by k s ≡ 0 → header_by k s ≡ Err r → ⊥
    by None z f = absurd (omega arith)
    by (Some k) z f = let q : ◌≡◌ {A = ℕ} 0 1 = cc in absurd (omega arith)

module _ (h : Header) (s : List ℕ) where
  abbrev pub number_at : ℕ → ℕ
  number_at i = answer_number (answer_at h s i)

  pub pass : (i n : ℕ) (o : Object) → i < n → answer_at h s i ≡ Ok o → first_number number_at (i + 1) (n - (i + 1)) ≡ first_number number_at i (n - i)
  pass i n o l e = rw add-one (first_pass number_at i n l (ap answer_number e))

  pub stop : (i n : ℕ) (r : Refusal) → i < n → answer_at h s i ≡ Err r → first_number number_at i (n - i) ≡ number r
  stop i n r l e =
      let z : number_at i ≡ number r = ap answer_number e in
      first_stop number_at i n l (λ q. number_some r (sym z ∙ q)) ∙ z

  -- with an object's, and at the end
  pub object_left : (r : Refusal) → header_answer s ≡ Ok h → objects_refusal h s ≡ number r → no_asdu ≡ (read_asdu s).asdu
  unfolding read_refusal
  object_left r e q =
      left s
      (λ z.
      let none = (both (header_refusal s) (objects_refusal_by (kind_of (get_or s 0 0)) s) z).1 in
      number_some r (sym q ∙ (sym (taken s h e).objects ∙ none)))

  pub done : (a : Asdu) → header_answer s ≡ Ok h → objects_refusal h s ≡ 0 → a ≡ asdu_of h a.objects → a.objects ≡ filled (objects_in h s) → a ≡ (read_asdu s).asdu
  unfolding read_asdu
  done a r q e f = rw (checked_is s h r q) (e ∙ ap (asdu_of h) f)

-- What is known of octets that reading does not refuse, and what each answer of the plain form shows. Assumes nothing.
use Prim.Native.Nat.{ℕ, ◌≤◌}
use mathlib.Core.Path.{◌≡◌, refl}
use mathlib.Core.Bool.{Bool, true, false, not}
use mathlib.Core.List.{List}
use native.Mathlib.Omega.{arith}
use lib.ListN.{length, get_or}
use lib.Dec.{eqb, ltb}
use borrow.Author.Tests.{ltb-false, eqb-true}
use Rattle.std.specs.Prelude.{Result, Ok, Err}
use Rattle.laws.specs.Choice.{pick}
use Rattle.objects.specs.Kinds.{kind_of}
use Rattle.asdu.specs.declared.Form.{Form}
use Rattle.laws.proofs.Choices.{passed, both}
use Rattle.elements.specs.Refusals.{refusal}
use Rattle.elements.specs.declared.refusals.Refusal.{Refusal}
use Rattle.asdu.specs.declared.header.Header.{Header}
use Rattle.asdu.specs.Header.{cause_listed, cause_in, early_refusal, header_refusal, header_by}
use Rattle.asdu.specs.Reading.{read_refusal, checked_header}
use Rattle.asdu.specs.Plain.{plain_by, plain_answer}
use Rattle.asdu.specs.declared.Form.TheVariants.{Plain}

-- ---- reading

start_sized : (s : List ℕ) → early_refusal s ≡ 0 → (6 ≤ length s) × (length s ≤ 249)
unfolding early_refusal
start_sized s h =
    let long = passed (ltb 249 (length s)) 16 _ h in
    let short = passed (ltb (length s) 3) 8 _ long.1 in
    let cause = passed (not (cause_listed (cause_in s))) 9 _ short.1 in
    let six = passed (ltb (length s) 6) 8 0 cause.1 in
    (ltb-false _ _ six.0, ltb-false _ _ long.0)

pub read_sized : (s : List ℕ) → read_refusal s ≡ 0 → (6 ≤ length s) × (length s ≤ 249)
unfolding read_refusal header_refusal
read_sized s h = start_sized s (both (early_refusal s) _ (both (header_refusal s) _ h).0).0

-- ---- plain form

module _ (s : List ℕ) where
  pub plain_reads : plain_answer s ≡ Ok Plain → read_refusal s ≡ 0
  unfolding plain_answer checked_header
  plain_reads e = by (eqb (read_refusal s) 0) refl e
    where
      by : (t : Bool) → eqb (read_refusal s) 0 ≡ t → plain_by (pick {A = Result Header Refusal} t (header_by (kind_of (get_or s 0 0)) s) (Err (refusal (read_refusal s)))) s ≡ Ok Plain → read_refusal s ≡ 0
      by true f g = eqb-true _ _ f
      by false f g = let z : ◌≡◌ {A = ℕ} 0 1 = cc in absurd (omega arith)

  pub plain_sized : plain_answer s ≡ Ok Plain → (6 ≤ length s) × (length s ≤ 249)
  plain_sized e = read_sized s (plain_reads e)

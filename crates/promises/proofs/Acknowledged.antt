-- The acknowledgement check accepts exactly the numbers of a total from A to S, and frees up to that total. Assumes nothing.
use Prim.Native.Nat.{ℕ, ◌+◌, ◌-◌, ◌%◌, ◌≤◌}
use mathlib.Core.Path.{◌≡◌, refl, sym, ap, ◌∙◌}
use mathlib.Core.Bool.{Bool, true, false}
use native.Mathlib.Omega.{arith}
use borrow.Author.Tests.{leb-true, leb-false, le-leb}
use lib.Dec.{eqb, leb}
use Rattle.laws.specs.Choice.{pick}
use Rattle.laws.specs.Window.{Confirms, freed}
use Rattle.laws.specs.Promises.{WindowLaw}
use Rattle.laws.proofs.Window.{window}
use Rattle.elements.specs.Refusals.{refusal, wrong_receive_number}
use Rattle.link_state.specs.Acknowledging.{confirms, numbers_in_limits, ack_refusal, acknowledged, ack_freed}
use Rattle.elements.proofs.Refused.{number_some}
use Rattle.promises.specs.Acknowledged.{Acknowledged, AckLevel}
use Rattle.std.specs.Prelude.{Result, Ok, Err}
use Rattle.elements.specs.Refusals.{answer_number}
use Rattle.elements.specs.declared.refusals.Refusal.{Refusal}

-- numbers of 15 bits: accepted, or refused with 27
pub ack_is : (next held number : ℕ) → next ≤ 32767 → held ≤ 32767 → number ≤ 32767
    → acknowledged next held number
    ≡ pick {A = Result ℕ Refusal} (leb (confirms next held number) held) (Ok (confirms next held number)) (Err (refusal wrong_receive_number))
unfolding acknowledged ack_refusal numbers_in_limits
ack_is next held number a b c = rw (le-leb next 32767 a, le-leb held 32767 b, le-leb number 32767 c) (by (leb (confirms next held number) held))
  where
    by : (t : Bool)
        → pick {A = Result ℕ Refusal} (eqb (pick t 0 wrong_receive_number) 0) (Ok (confirms next held number)) (Err (refusal (pick t 0 wrong_receive_number)))
        ≡ pick {A = Result ℕ Refusal} t (Ok (confirms next held number)) (Err (refusal wrong_receive_number))
    by true = refl
    by false = refl

module _ (s a r : ℕ) (order : a ≤ s) (narrow : s - a ≤ 32767) (small : r ≤ 32767) where
  law : WindowLaw 32768 a s r
  law = window 32768 a s r order (omega arith) (omega arith)

  -- the oldest has A's remainder
  from_a : confirms (s % 32768) (s - a) r ≡ freed 32768 a r
  unfolding confirms
  from_a =
      let same : (s % 32768 + 32768 - (s - a)) % 32768 ≡ a % 32768 = omega arith in
      ap (λ (k : ℕ). (r + 32768 - k) % 32768) same

  is : acknowledged (s % 32768) (s - a) r
      ≡ pick {A = Result ℕ Refusal} (leb (freed 32768 a r) (s - a)) (Ok (freed 32768 a r)) (Err (refusal wrong_receive_number))
  is =
      ack_is (s % 32768) (s - a) r (omega arith) narrow small
      ∙ ap (λ (d : ℕ). pick {A = Result ℕ Refusal} (leb d (s - a)) (Ok d) (Err (refusal wrong_receive_number))) from_a

  by_test : (t : Bool) → leb (freed 32768 a r) (s - a) ≡ t → Acknowledged s a r
  by_test true e =
      let n : acknowledged (s % 32768) (s - a) r ≡ Ok (freed 32768 a r) = is ∙ rw e in
      let low = leb-true (freed 32768 a r) (s - a) e in
      record {
        exactly = ((λ z. (a + freed 32768 a r, law.some (omega arith))), (λ x. ap answer_number n));
        leads = λ c k. ap (λ (q : Result ℕ Refusal). a + ack_freed q) n ∙ sym (law.one c k);
      }
  by_test false e =
      let n : acknowledged (s % 32768) (s - a) r ≡ Err (refusal wrong_receive_number) = is ∙ rw e in
      let high = leb-false (freed 32768 a r) (s - a) e in
      let none : (c : ℕ) → Confirms 32768 a s r c → ⊥ = λ c k. let one = law.one c k in let most = k.most in omega arith in
      record {
        exactly = ((λ z. absurd (number_some (refusal wrong_receive_number) (sym (ap answer_number n) ∙ z))), (λ x. absurd (none x.0 x.1)));
        leads = λ c k. absurd (none c k);
      }

pub acknowledges : AckLevel
acknowledges s a r order narrow small = by_test s a r order narrow small (leb (freed 32768 a r) (s - a)) refl

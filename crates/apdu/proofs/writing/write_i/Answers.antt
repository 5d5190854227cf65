use Rattle.std.proofs.Common.{rules}
use Prim.Native.Nat.{ℕ, ◌+◌, ◌-◌, ◌≤◌}
use mathlib.Core.Path.{◌≡◌, refl, sym, ap, ◌∙◌}
use native.Mathlib.Omega.{arith}
use lib.ListN.{length}
use Rattle.std.specs.Prelude.{Result, Err}
use Rattle.std.specs.Result.{result_and}
use Rattle.elements.specs.declared.refusals.Refusal.{Refusal}
use Rattle.elements.proofs.Refused.{made_some}
use Rattle.asdu.specs.Writing.{write_refusal, asdu_octets}
use Rattle.apdu.specs.Writing.{i_octets, i_refusal}
use Rattle.apdu.proofs.Answers.{refuse, accept, then_goes, record_refused, asdu_refuses, asdu_fits, asdu_stored, i_long, i_stored}
use Rattle.apdu.proofs.writing.write_i.Goals as goal

pub returns-then-out-lt-ASDU_START : goal.returns-then-out-lt-ASDU_START
unfolding i_refusal
returns-then-out-lt-ASDU_START c =
    let a = c.args in
    let passed = made_some _ tt _ (sym c.check_numbers.ensures.value ∙ c.in_ok-check_numbers.was) in
    let no_room : length a.out.now - 6 ≡ 0 = omega (arith, c.if-out-lt-ASDU_START.true) in
    let both = refuse _ _ _ (then_goes _ _ passed ∙ ap (write_refusal a.asdu.now) no_room) (record_refused a.asdu.now) refl in
    let is = c.and.ensures ∙ (ap (λ (r : Result (Unit {0}) Refusal). result_and r (Err Refusal.OutputTooShort)) c.check_write.ensures ∙ rw (record_refused a.asdu.now)) in
    record { value = is ∙ both.0; out_after = both.1 }

pub returns-in_err-n : goal.returns-in_err-n
unfolding i_refusal
returns-in_err-n c =
    let a = c.args in
    let passed = made_some _ tt _ (sym c.check_numbers.ensures.value ∙ c.in_ok-check_numbers.was) in
    let both = asdu_refuses a.asdu.now a.out.now c.write_asdu.ensures.value (i_octets a.send.0 a.receive.0 (asdu_octets a.asdu.now)) c.in_err-n.was c.write_asdu.ensures.out_after (then_goes _ _ passed) in
    let is : c.from_residual-in_err-n.result ≡ Err c.in_err-n.field-0.0 = search rules in
    record { value = is ∙ both.0; out_after = both.1 }

pub returns : goal.returns
unfolding i_refusal
returns c =
    let a = c.args in
    let w = c.write_asdu in
    let small = c.in_ok-n.ensures.bounds in
    let fits = asdu_fits a.asdu.now a.out.now w.ensures.value c.in_ok-n.was small.1 in
    let passed = made_some _ tt _ (sym c.check_numbers.ensures.value ∙ c.in_ok-check_numbers.was) in
    let stored = asdu_stored a.asdu.now a.out.now w.ensures.value c.in_ok-n.was small.1 w.ensures.out_after in
    let octets = asdu_octets a.asdu.now in
    let room : 6 + length octets ≤ length a.out.now = omega (arith, fits.1, fits.2, c.if-out-lt-ASDU_START.false) in
    let both = accept (i_octets a.send.0 a.receive.0 octets) a.out.now
    (then_goes _ _ passed ∙ fits.0)
    (ap (λ (n : ℕ). 6 + n) fits.1 ∙ sym (i_long a.send.0 a.receive.0 octets))
    (omega (arith, fits.1, room))
    (c.put_start.ensures ∙ i_stored a.send.0 a.receive.0 octets a.out.now fits.1 stored room) in
    record { value = both.0; out_after = both.1 }

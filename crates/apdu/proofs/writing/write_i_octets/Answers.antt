use mathlib.Core.Path.{refl, sym, ◌∙◌}
use native.Mathlib.Omega.{arith}
use Rattle.elements.proofs.Refused.{made_some}
use Rattle.asdu.proofs.Passed.{read_sized}
use Rattle.apdu.specs.Writing.{i_octets, relay_refusal}
use Rattle.apdu.proofs.Answers.{accept, then_goes, some_room, i_long, i_stored}
use Rattle.apdu.proofs.writing.write_i_octets.Goals as goal

pub overflow_cast-size : goal.overflow_cast-size
overflow_cast-size c =
    let read = made_some _ tt _ (sym c.check_asdu.ensures ∙ c.in_ok-check_asdu.was) in
    omega (arith, (read_sized _ read).1)

pub returns : goal.returns
unfolding relay_refusal
returns c =
    let a = c.args in
    let passed = made_some _ tt _ (sym c.check_numbers.ensures.value ∙ c.in_ok-check_numbers.was) in
    let read = made_some _ tt _ (sym c.check_asdu.ensures ∙ c.in_ok-check_asdu.was) in
    let octets = a.asdu.now in
    let room = c.if-out-size.false in
    let both = accept (i_octets a.send.0 a.receive.0 octets) a.out.now
    (then_goes _ _ passed ∙ (then_goes _ _ read ∙ some_room _ _ room))
    (sym (i_long a.send.0 a.receive.0 octets))
    room
    (c.put_start.ensures ∙ i_stored a.send.0 a.receive.0 octets a.out.now refl c.put_octets.ensures room) in
    record { value = both.0; out_after = both.1 }

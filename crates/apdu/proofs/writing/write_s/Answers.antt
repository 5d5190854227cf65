use Prim.Native.Nat.{◌*◌}
use mathlib.Core.Path.{sym, ◌∙◌}
use Rattle.elements.proofs.Refused.{made_some}
use Rattle.apdu.specs.Writing.{s_octets, s_refusal}
use Rattle.apdu.proofs.Answers.{accept, then_goes, some_room, start_long}
use Rattle.apdu.proofs.writing.write_s.Goals as goal

pub returns : goal.returns
unfolding s_refusal s_octets
returns c =
    let a = c.args in
    let passed = made_some _ tt _ (sym c.check_number.ensures.value ∙ c.in_ok-check_number.was) in
    let both = accept (s_octets a.receive.0) a.out.now
    (then_goes _ _ passed ∙ some_room _ _ c.if-out-lt-ASDU_START.false)
    (sym (start_long 4 1 (a.receive.0 * 2)))
    c.if-out-lt-ASDU_START.false
    c.put_start.ensures in
    record { value = both.0; out_after = both.1 }

use mathlib.Core.Path.{sym, ◌∙◌}
use Rattle.std.proofs.Common.{rules}
use Rattle.asdu_write.proofs.Rows.{refusal_here}
use Rattle.asdu_write.proofs.check_objects.Goals as goal

pub returns-in_err-check_object : goal.returns-in_err-check_object
returns-in_err-check_object c =
    let a = c.args in
    let h = refusal_here a.own.now c.loop-i.i a.kind a.sequence a.first _ c.loop-i-test.true (sym c.check_object.ensures ∙ c.in_err-check_object.was) in
    search (rules, h)

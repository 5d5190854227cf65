use mathlib.Core.Path.{sym, ◌∙◌}
use Rattle.link.specs.Events.{ticked_t3}
use Rattle.link_steps.proofs.Made.{makes_tested, makes_none}
use Rattle.link_time.proofs.tick_t3.Goals as goal

pub returns-then-is_due : goal.returns-then-is_due
unfolding ticked_t3
returns-then-is_due c =
    let yes = sym c.is_due.ensures ∙ c.if-is_due.true in
    λ ts. rw yes (makes_tested _ _ ts _ _ c.send_test.ensures.value c.send_test.ensures.out_after)

pub returns : goal.returns
unfolding ticked_t3
returns c =
    let no = sym c.is_due.ensures ∙ c.if-is_due.false in
    λ ts. rw no (makes_none _ ts _ _)

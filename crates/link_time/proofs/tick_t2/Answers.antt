use mathlib.Core.Path.{sym, ◌∙◌}
use Rattle.link.specs.Events.{ticked_t2}
use Rattle.link_steps.proofs.Made.{makes_confirm, makes_none}
use Rattle.link_time.proofs.tick_t2.Goals as goal

pub returns-then-is_due : goal.returns-then-is_due
unfolding ticked_t2
returns-then-is_due c =
    let yes = sym c.is_due.ensures ∙ c.if-is_due.true in
    λ ts. rw yes (makes_confirm c.args.s ts 0 _ (rw c.new-made.ensures at c.confirm.ensures.value) (rw c.new-made.ensures at c.confirm.ensures.out_after))

pub returns : goal.returns
unfolding ticked_t2
returns c =
    let no = sym c.is_due.ensures ∙ c.if-is_due.false in
    λ ts. rw (no, c.new-made.ensures) (makes_none _ ts _ _)

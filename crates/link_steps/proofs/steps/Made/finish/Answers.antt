use mathlib.Core.Path.{sym, ◌∙◌}
use Rattle.link.specs.Making.{ending, due}
use Rattle.link_steps.proofs.Made.{makes_confirm, makes_none}
use Rattle.link_steps.proofs.steps.Made.finish.Goals as goal

pub returns-then-must_confirm : goal.returns-then-must_confirm
unfolding ending due
returns-then-must_confirm c =
    let yes = sym c.must_confirm.ensures ∙ c.if-must_confirm.true in
    λ ts. rw yes (makes_confirm _ ts _ _ c.confirm.ensures.value c.confirm.ensures.out_after)

pub returns : goal.returns
unfolding ending due
returns c =
    let no = sym c.must_confirm.ensures ∙ c.if-must_confirm.false in
    λ ts. rw no (makes_none _ ts _ _)

use mathlib.Core.Path.{sym, ◌∙◌}
use native.Mathlib.Omega.{arith}
use Rattle.assembly.proofs.Moves.{moved_small}
use Rattle.assembly.proofs.Steps.{carry_topped}
use Rattle.assembly.proofs.stepping.step.Goals as goal

pub returns-in_err-moved-clause-carry_after : goal.returns-in_err-moved-clause-carry_after
returns-in_err-moved-clause-carry_after c = carry_topped _ _ _ c.which.ensures c.in_ok-picked.was c.in-More.is c.top_up.ensures.carry_after

pub overflow_add-held : goal.overflow_add-held
overflow_add-held c = omega (arith, moved_small _ _ _ _ (sym c.top_up.ensures.value ∙ c.in_ok-moved.was))

pub returns-in_err-which-clause-carry_after : goal.returns-in_err-which-clause-carry_after
returns-in_err-which-clause-carry_after c = carry_topped _ _ _ c.which.ensures c.in_ok-picked.was c.in-More.is c.top_up.ensures.carry_after

pub returns-clause-carry_after : goal.returns-clause-carry_after
returns-clause-carry_after c = carry_topped _ _ _ c.which.ensures c.in_ok-picked.was c.in-More.is c.top_up.ensures.carry_after

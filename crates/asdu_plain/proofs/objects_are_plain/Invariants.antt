use mathlib.Core.Path.{◌≡◌}
use mathlib.Core.Bool.{true}
use Rattle.laws.specs.Lists.{every}
use Rattle.asdu_plain.proofs.Objects.{plain_at}
use Rattle.asdu_plain.proofs.objects_are_plain.Given as goal

abbrev pub invariant-loop-i : goal.invariant-loop-i
invariant-loop-i l = every (plain_at l.kind l.step l.s) l.i ≡ true

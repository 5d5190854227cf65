use Rattle.std.proofs.Common.{◌≡◌}
use lib.ListN.{drop}
use Rattle.asdu.specs.Writing.{first_refusal}
use Rattle.asdu_write.proofs.check_objects.Given as goal

abbrev pub invariant-loop-i : goal.invariant-loop-i
invariant-loop-i l = first_refusal l.kind l.sequence l.first l.i (drop l.i l.own) ≡ first_refusal l.kind l.sequence l.first 0 l.own

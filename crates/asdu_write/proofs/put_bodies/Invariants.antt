use Rattle.std.proofs.Common.{◌≡◌, ◌+◌, length}
use Rattle.std.proofs.lemmas.List.Edits.{sets}
use lib.ListN.{drop}
use Rattle.asdu.specs.Writing.{objects_octets}
use Rattle.asdu_write.proofs.put_bodies.Given as goal

abbrev pub invariant-loop-object : goal.invariant-loop-object
invariant-loop-object l =
    (length l.out ≡ length l.initial.out)
    × (sets l.out l.at (objects_octets l.sequence (drop l.object-index l.own)) ≡ sets l.initial.out l.from (objects_octets l.sequence l.own))
    × (l.at + length (objects_octets l.sequence (drop l.object-index l.own)) ≡ l.from + length (objects_octets l.sequence l.own))

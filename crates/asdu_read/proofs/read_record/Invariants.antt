use Prim.Native.Nat.{◌-◌}
use mathlib.Core.Path.{◌≡◌}
use lib.Seq.{sets}
use Rattle.laws.specs.Lists.{tabulate}
use Rattle.asdu.specs.Records.{asdu_of, filled}
use Rattle.asdu.specs.Reading.{object_at, first_number, objects_refusal, objects_in}
use Rattle.asdu_read.proofs.Turns.{number_at}
use Rattle.asdu_read.proofs.read_record.Given as goal

abbrev pub invariant-loop-i : goal.invariant-loop-i
invariant-loop-i l =
    (l.asdu ≡ asdu_of l.h l.asdu.objects)
    × (first_number (number_at l.h l.s) l.i (l.i-end - l.i) ≡ objects_refusal l.h l.s)
    × (sets l.asdu.objects l.i (tabulate (object_at l.h l.s) l.i (l.i-end - l.i)) ≡ filled (objects_in l.h l.s))

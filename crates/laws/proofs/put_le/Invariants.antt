use Rattle.std.proofs.Common.{◌≡◌, ◌-◌}
use Rattle.std.proofs.lemmas.List.Edits.{sets}
use Rattle.laws.specs.Numbers.{le_octets}
use Rattle.laws.proofs.put_le.Given as goal

-- what is left to write, written, gives what all of it gives
abbrev pub invariant-loop-i : goal.invariant-loop-i
invariant-loop-i g l = sets l.part l.i (le_octets (g.row.N - l.i) l.rest) ≡ sets l.initial.part 0 (le_octets g.row.N l.fn.n)

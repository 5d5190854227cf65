use Rattle.std.proofs.Common.{◌≡◌, ◌-◌, ◌^◌, ◌<◌, min, drop}
use Rattle.laws.specs.Numbers.{le_of}
use Rattle.laws.proofs.le.Given as goal

-- the octets from i on are read
abbrev pub invariant-loop-i : goal.invariant-loop-i
invariant-loop-i g l = (l.n ≡ le_of (min g.row.N 4 - l.i) (drop l.i l.part)) × (l.n < 256 ^ (min g.row.N 4 - l.i))

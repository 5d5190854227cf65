use Prim.Native.Nat.{◌+◌, ◌-◌, ◌%◌, ◌≤◌}
use Rattle.link_state.proofs.acknowledging.acknowledge.Given as goal

abbrev pub invariant-loop-freed : goal.invariant-loop-freed
invariant-loop-freed l = l.freed ≤ (l.number + 32768 - l.oldest) % 32768

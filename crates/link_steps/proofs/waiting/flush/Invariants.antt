use Prim.Native.Nat.{◌*◌, ◌≤◌}
use mathlib.Core.Path.{◌≡◌}
use lib.ListN.{length}
use Rattle.link.specs.Making.{flushed}
use Rattle.link.specs.Events.{start}
use Rattle.link_steps.specs.Steps.{HandsOut}
use Rattle.link_steps.proofs.waiting.flush.Given as goal

abbrev pub invariant-loop : goal.invariant-loop
invariant-loop l =
    (l.made.end ≤ 255 * l.counter) × (length l.out ≡ length l.initial.out) × (length l.times ≡ length l.initial.times) × HandsOut (flushed l.counter l.moment l.pool (start l.fn.s l.initial.times)) 0 l.initial.out l.made l.times l.out

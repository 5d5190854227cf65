use mathlib.Core.Path.{refl}
use Rattle.link.specs.Making.{queued}
use Rattle.link_steps.proofs.waiting.enqueue.Goals as goal

pub returns : goal.returns
unfolding queued
returns c =
    record { value = refl; pool_after = c.put_octets.ensures }

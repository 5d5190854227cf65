use Rattle.link.specs.Making.{send_waiting}
use Rattle.link_steps.proofs.Flushing.{can_flush}
use Rattle.link_steps.proofs.waiting.send_waiting.Goals as goal

pub flush-requires : goal.flush-requires
flush-requires c = rw c.room_of-n.ensures (can_flush _ _ _ _ _ c.requires)

pub returns : goal.returns
unfolding send_waiting
returns c = rw c.room_of-n.ensures at c.flush.ensures

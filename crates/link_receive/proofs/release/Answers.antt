use Rattle.link.specs.Events.{release}
use Rattle.link_receive.proofs.Incoming.{open_freed}
use Rattle.link_receive.proofs.release.Goals as goal

pub send_waiting-requires : goal.send_waiting-requires
send_waiting-requires c =
    rw c.free-m.ensures (open_freed c.args.s _ _ _ _ c.requires.0 c.args.freed)

pub returns : goal.returns
unfolding release
returns c = rw c.free-m.ensures at c.send_waiting.ensures

use mathlib.Core.Path.{refl}
use Rattle.link.specs.Events.{received}
use Rattle.link_receive.proofs.receive_one.Goals as goal

pub returns : goal.returns
unfolding received
returns c = refl

use mathlib.Core.Path.{refl}
use Rattle.link_steps.proofs.Made.{hands_out}
use Rattle.link_steps.proofs.steps.Made.hand_out.Goals as goal

pub returns : goal.returns
returns c = hands_out _ _ _ _ _ _ c.sent.ensures refl c.put_start.ensures c.put_octets.ensures refl

use mathlib.Core.Path.{refl}
use Rattle.link.specs.Making.{sent_of}
use Rattle.link_steps.proofs.steps.sent.Goals as goal

pub returns : goal.returns
unfolding sent_of
returns c = refl

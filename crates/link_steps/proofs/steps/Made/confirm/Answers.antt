use mathlib.Core.Path.{refl}
use Rattle.apdu.specs.Writing.{s_octets}
use Rattle.link.specs.Making.{confirmed_of}
use Rattle.link_steps.proofs.steps.Made.confirm.Goals as goal

pub returns : goal.returns
unfolding confirmed_of s_octets
returns c =
    record { value = refl; out_after = c.put_start.ensures }

use mir.Syntax.{w16}
use mir.ValLaws.{to_z-of_z}
use Rattle.objects.specs.Elements.{element_of}
use Rattle.objects.proofs.values.read_element.Goals as goal

-- The check finds this one too; written out, it tells by what a wrong octet is refused, as the edit of it shows.
pub returns-in-MMeNb1 : goal.returns-in-MMeNb1
unfolding element_of
returns-in-MMeNb1 c =
    let n = c.i16_in-in-MMeNb1 in
    rw (c.in-MMeNb1.is, to_z-of_z w16 n.result (record { sfits = n.type_inv }), n.ensures, c.quality_at-in-MMeNb1.ensures)

use Rattle.asdu.proofs.Placed.{placed}
use Rattle.asdu.proofs.objects_at.object_in.Goals as goal

pub returns : goal.returns
returns c =
    let a = c.args in
    rw (c.read_element-value.ensures, c.part_from.ensures, c.address_at-address.ensures, c.step_of.ensures.value)
    (placed a.kind a.sequence a.s.now a.i)

use mathlib.Core.Path.{ap, ◌∙◌}
use Rattle.objects.specs.Kinds.{size_of}
use Rattle.asdu.specs.Writing.{body_octets}
use Rattle.asdu_write.proofs.Places.{element_put, object_put}
use Rattle.asdu_write.proofs.put_body.Goals as goal

pub returns-then-sequence : goal.returns-then-sequence
unfolding body_octets
returns-then-sequence c =
    let a = c.args in
    let size = c.size_of-size.ensures.value ∙ ap size_of c.from.ensures in
    rw c.if-sequence.true (element_put a.out.now a.at a.object.value size c.put_element.ensures)

pub returns : goal.returns
unfolding body_octets
returns c =
    let a = c.args in
    let size = c.size_of-size.ensures.value ∙ ap size_of c.from.ensures in
    rw c.if-sequence.false (object_put a.out.now a.at a.object size c.put_object.ensures)

use Prim.Native.Nat.{◌+◌, ◌-◌}
use mathlib.Core.Path.{sym, ap, ◌∙◌}
use mathlib.Core.List.{List}
use native.Mathlib.Nat.{sub-zero}
use lib.ListN.{set}
use lib.Seq.{sets}
use Rattle.laws.specs.Lists.{tabulate}
use Rattle.objects.specs.declared.Object.{Object}
use Rattle.asdu.specs.Records.{asdu_of}
use Rattle.asdu.specs.Reading.{object_at, objects_refusal}
use Rattle.asdu.specs.declared.Asdu.{Asdu}
use Rattle.asdu.proofs.Walk.{object_read, filled_from, first_end}
use Rattle.asdu_read.proofs.Turns.{number_at, fill_next, fill_end, pass, stop, header_left, object_left, done}
use Rattle.asdu_read.proofs.read_record.Goals as goal

-- the record with other objects
abbrev with_objects : List Object → Asdu → Asdu
with_objects os a = record {
  objects = os;
  count = a.count;
  type_id = a.type_id;
  sequence = a.sequence;
  test = a.test;
  negative = a.negative;
  cause = a.cause;
  originator = a.originator;
  address = a.address;
}

pub returns-in_default : goal.returns-in_default
returns-in_default c =
    c.no_record.ensures ∙ header_left c.args.s.now c.in_default.field-0 (sym c.read_header.ensures.value ∙ c.in_default.is)

pub loop-i-init : goal.loop-i-init
unfolding objects_refusal
loop-i-init c =
    let h = c.in-Ok.h in
    let g = object_at h c.args.s.now in
    let e = c.with_objects-asdu.ensures in (
      e ∙ ap (λ (x : Asdu). asdu_of h x.objects) (sym e),
      rw (sub-zero h.count),
      ap (λ (x : Asdu). sets x.objects 0 (tabulate g 0 (h.count - 0))) e
          ∙ rw (sub-zero h.count) (filled_from g h.count c.in-Ok.ensures.count_bound),
    )

pub returns-in_default-object_answer : goal.returns-in_default-object_answer
returns-in_default-object_answer c =
    let s = c.args.s.now in
    let h = c.in-Ok.h in
    let r = c.in_default-object_answer.field-0 in
    let is = sym c.object_answer.ensures ∙ c.in_default-object_answer.is in
    c.no_record-in_default-object_answer.ensures
    ∙ object_left h s r (sym c.read_header.ensures.value ∙ c.in-Ok.is)
    (sym c.loop-i.invariant.1 ∙ stop h s c.loop-i.i h.count r c.loop-i-test.true is)

pub loop-i-preserved : goal.loop-i-preserved
loop-i-preserved c =
    let s = c.args.s.now in
    let h = c.in-Ok.h in
    let g = object_at h s in
    let i = c.loop-i.i in
    let os = c.loop-i.asdu.objects in
    let inv = c.loop-i.invariant in
    let more = c.loop-i-test.true in
    let o = c.in-Ok-object_answer.object in
    let is = sym c.object_answer.ensures ∙ c.in-Ok-object_answer.is in (
      ap (with_objects (set os i o)) inv.0,
      pass h s i h.count o more is ∙ inv.1,
      ap (λ (x : Object). sets (set os i x) (i + 1) (tabulate g (i + 1) (h.count - (i + 1)))) (object_read h s i o is)
          ∙ (fill_next g os i h.count more ∙ inv.2),
    )

pub returns : goal.returns
returns c =
    let s = c.args.s.now in
    let h = c.in-Ok.h in
    let i = c.loop-i.i in
    let inv = c.loop-i.invariant in
    let over = c.loop-i-test.false in
    done h s c.loop-i.asdu (sym c.read_header.ensures.value ∙ c.in-Ok.is)
    (sym inv.1 ∙ first_end (number_at h s) i h.count over)
    inv.0
    (sym (fill_end (object_at h s) c.loop-i.asdu.objects i h.count over) ∙ inv.2)

use Prim.Native.Nat.{◌+◌, ◌*◌}
use mathlib.Core.Path.{◌≡◌, refl, sym, ap, ◌∙◌}
use native.Mathlib.Omega.{arith}
use lib.ListN.{drop}
use Rattle.laws.specs.Lists.{every}
use Rattle.laws.proofs.Lists.{octets_all, octets_drop}
use Rattle.objects.specs.Kinds.{form_of}
use Rattle.asdu.specs.Header.{step_of}
use Rattle.asdu.specs.Plain.{plain_form}
use Rattle.asdu.proofs.Kept.{plain_covered}
use Rattle.asdu_plain.proofs.Octets.{covered}
use Rattle.asdu_plain.proofs.Objects.{plain_at, plain_objects_law, every_none, every_next, every_all, every_stop}
use Rattle.asdu_plain.proofs.objects_are_plain.Goals as goal

pub returns-then-not-has_reserved : goal.returns-then-not-has_reserved
returns-then-not-has_reserved c =
    let a = c.args in
    let s = a.s.now in
    let k = a.h.kind in
    let step = step_of k a.h.sequence in
    let none = covered k (sym c.has_reserved.ensures ∙ c.if-not-has_reserved.true) in
    let plain = every_all (plain_at k step s) a.h.count (λ i. plain_covered (form_of k) (drop (9 + i * step) s) none (octets_drop (9 + i * step) s (octets_all s (λ j. (c.shared_slice_known-1.given j).fits)))) in
    sym plain ∙ plain_objects_law a.h s step refl

pub loop-i-init : goal.loop-i-init
loop-i-init c = sym (every_none (plain_at c.args.h.kind c.step_of-step.result c.args.s.now))

pub returns-then-not-element_is_plain : goal.returns-then-not-element_is_plain
returns-then-not-element_is_plain c =
    let a = c.args in
    let s = a.s.now in
    let step = c.step_of-step.result in
    let here = sym (c.element_is_plain.ensures ∙ ap (plain_form (form_of a.h.kind)) c.part_from.ensures) ∙ c.if-not-element_is_plain.true in
    sym (every_stop (plain_at a.h.kind step s) c.loop-i.i a.h.count c.loop-i-test.true here) ∙ plain_objects_law a.h s step c.step_of-step.ensures.value

pub loop-i-preserved : goal.loop-i-preserved
loop-i-preserved c =
    let a = c.args in
    let here = sym (c.element_is_plain.ensures ∙ ap (plain_form (form_of a.h.kind)) c.part_from.ensures) ∙ c.if-not-element_is_plain.false in
    every_next (plain_at a.h.kind c.step_of-step.result a.s.now) c.loop-i.i c.loop-i.invariant here

pub returns : goal.returns
returns c =
    let a = c.args in
    let s = a.s.now in
    let step = c.step_of-step.result in
    let all : c.loop-i.i ≡ a.h.count = omega arith in
    sym c.loop-i.invariant ∙ (ap (every (plain_at a.h.kind step s)) all ∙ plain_objects_law a.h s step c.step_of-step.ensures.value)

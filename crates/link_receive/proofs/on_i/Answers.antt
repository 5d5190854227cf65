use mathlib.Core.Path.{◌≡◌, refl, ap, ◌∙◌}
use native.Mathlib.Omega.{arith}
use lib.ListN.{length}
use borrow.Author.Tests.{ne_eqb}
use Rattle.elements.specs.declared.refusals.Refusal.TheVariants.{WrongSendNumber}
use Rattle.link_state.specs.declared.State.{State}
use Rattle.link.specs.Events.{release, received, closing, on_i}
use Rattle.link_steps.proofs.Made.{answers_closing}
use Rattle.link_steps.specs.declared.steps.Made.{Made}
use Rattle.link_receive.proofs.Incoming.{timed_by, Released, open_received, released, frees_held, i_refused, i_frees}
use Rattle.link_receive.proofs.on_i.Goals as goal

pub returns-then-sent-s : goal.returns-then-sent-s
unfolding on_i closing
returns-then-sent-s c =
    let a = c.args in
    rw (ne_eqb _ _ c.if-sent-s.true) (record { answers = answers_closing WrongSendNumber a.s a.times.now a.pool.now a.out.now c.close.ensures; ring = refl })

pub returns-in-Err : goal.returns-in-Err
returns-in-Err c =
    let a = c.args in
    i_refused a.s a.number.0 a.times.now a.pool.now a.out.now a.more a.moment c.acknowledge.ensures c.in-Err.is c.close-in-Err.ensures a.sent.0 c.if-sent-s.false

pub release-requires : goal.release-requires
unfolding received
release-requires c =
    let within = frees_held c.args.s.window.next.0 c.args.s.window.held c.args.number.0 c.acknowledge.ensures c.in-Ok.is in
    rw c.receive_one.ensures (open_received c.args.s _ _ _ _ c.requires.0, within)

pub start_t2-requires : goal.start_t2-requires
unfolding received
start_t2-requires c =
    let a = c.args in
    let counted = c.receive_one in
    let left : Released counted.result (release c.in-Ok.freed a.moment counted.result a.times.now a.pool.now) =
    released counted.result a.times.now a.pool.now (length a.pool.now) (length a.out.now) a.moment c.in-Ok.freed (rw counted.ensures (open_received a.s _ _ _ _ c.requires.0)) in
    let settings : c.release.result.state.settings ≡ a.s.settings =
    ap (λ (x : State). x.settings) c.release.ensures.makes.state ∙ (left.settings ∙ ap (λ (x : State). x.settings) counted.ensures) in
    timed_by settings c.requires.0.calm.timed

pub set_t3-requires : goal.set_t3-requires
unfolding received
set_t3-requires c =
    let a = c.args in
    let counted = c.receive_one in
    let left : Released counted.result (release c.in-Ok.freed a.moment counted.result a.times.now a.pool.now) =
    released counted.result a.times.now a.pool.now (length a.pool.now) (length a.out.now) a.moment c.in-Ok.freed (rw counted.ensures (open_received a.s _ _ _ _ c.requires.0)) in
    let settings : c.release.result.state.settings ≡ a.s.settings =
    ap (λ (x : State). x.settings) c.release.ensures.makes.state ∙ (left.settings ∙ ap (λ (x : State). x.settings) counted.ensures) in
    timed_by (ap (λ (m : Made). m.state.settings) c.start_t2.ensures ∙ settings) c.requires.0.calm.timed

pub finish-requires : goal.finish-requires
finish-requires c =
    let out = c.release in
    let a = c.args in
    let counted = c.receive_one in
    let left : Released counted.result (release c.in-Ok.freed a.moment counted.result a.times.now a.pool.now) =
    released counted.result a.times.now a.pool.now (length a.pool.now) (length a.out.now) a.moment c.in-Ok.freed (rw counted.ensures (open_received a.s _ _ _ _ c.requires.0)) in
    let end = out.ensures.makes.end in
    let short = left.short in
    let end-started = ap (λ (m : Made). m.end) c.start_t2.ensures in
    let end-timed = ap (λ (m : Made). m.end) c.set_t3.ensures in
    let next : c.set_t3.result.state.receive.next.0 ≡ (received c.args.s).receive.next.0 =
    ap (λ (m : Made). m.state.receive.next.0) c.set_t3.ensures
    ∙ (ap (λ (m : Made). m.state.receive.next.0) c.start_t2.ensures ∙ (ap (λ (x : State). x.receive.next.0) out.ensures.makes.state ∙ (left.next ∙ ap (λ (x : State). x.receive.next.0) c.receive_one.ensures))) in
    let long = out.auto.out in
    let room = c.requires.0.calm.out_room in
    let high = (open_received c.args.s _ _ _ _ c.requires.0).calm.recv_high in
    (omega arith, omega arith)

pub returns : goal.returns
returns c =
    let a = c.args in
    i_frees a.s a.number.0 a.times.now a.pool.now a.out.now a.more a.moment c.acknowledge.ensures a.sent.0 c.if-sent-s.false c.in-Ok.is c.receive_one.ensures c.release.ensures c.start_t2.ensures c.set_t3.ensures c.finish.ensures c.accept.ensures

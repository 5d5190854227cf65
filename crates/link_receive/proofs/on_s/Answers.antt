use mathlib.Core.Path.{◌≡◌, ap, ◌∙◌}
use native.Mathlib.Omega.{arith}
use Rattle.link_state.specs.declared.State.{State}
use Rattle.link_steps.specs.declared.steps.Made.{Made}
use Rattle.link_receive.proofs.Incoming.{timed_by, released, frees_held, s_refused, s_frees}
use Rattle.link_receive.proofs.on_s.Goals as goal

pub returns-in-Err : goal.returns-in-Err
returns-in-Err c =
    let a = c.args in
    s_refused a.s a.number.0 a.times.now a.pool.now a.out.now a.more a.moment c.acknowledge.ensures c.in-Err.is c.close.ensures

pub release-requires : goal.release-requires
release-requires c =
    (c.requires, frees_held c.args.s.window.next.0 c.args.s.window.held c.args.number.0 c.acknowledge.ensures c.in-Ok.is)

pub set_t3-requires : goal.set_t3-requires
set_t3-requires c =
    let out = c.release.ensures.makes.state in
    let left = released c.args.s c.args.times.now c.args.pool.now _ _ c.args.moment c.in-Ok.freed c.requires in
    timed_by (ap (λ (x : State). x.settings) out ∙ left.settings) c.requires.calm.timed

pub finish-requires : goal.finish-requires
finish-requires c =
    let out = c.release in
    let left = released c.args.s c.args.times.now c.args.pool.now _ _ c.args.moment c.in-Ok.freed c.requires in
    let end = out.ensures.makes.end in
    let short = left.short in
    let end-timed = ap (λ (m : Made). m.end) c.set_t3.ensures in
    let next : c.set_t3.result.state.receive.next.0 ≡ c.args.s.receive.next.0 =
    ap (λ (m : Made). m.state.receive.next.0) c.set_t3.ensures ∙ (ap (λ (x : State). x.receive.next.0) out.ensures.makes.state ∙ left.next) in
    let long = out.auto.out in
    let room = c.requires.calm.out_room in
    let high = c.requires.calm.recv_high in
    (omega arith, omega arith)

pub returns : goal.returns
returns c =
    let a = c.args in
    s_frees a.s a.number.0 a.times.now a.pool.now a.out.now a.more a.moment c.acknowledge.ensures c.in-Ok.is c.release.ensures c.set_t3.ensures c.finish.ensures c.accept.ensures

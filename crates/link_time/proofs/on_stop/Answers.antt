use mathlib.Core.Path.{◌≡◌, ap}
use mathlib.Core.Bool.{false}
use native.Mathlib.Omega.{arith}
use Rattle.link_steps.specs.declared.steps.Made.{Made}
use Rattle.link_steps.specs.Steps.{made_of}
use Rattle.link.specs.Frames.{stop_act}
use Rattle.link.specs.Making.{confirmed_of, set_t1u}
use Rattle.link.specs.Events.{on_stop}
use Rattle.link_steps.proofs.Made.{makes_u, makes_confirm, makes_become, makes_then, confirm_appends, answers_ending}
use Rattle.link_time.proofs.on_stop.Goals as goal

pub set_t1u-timed-requires : goal.set_t1u-timed-requires
unfolding confirmed_of
set_t1u-timed-requires c =
    let t = c.requires.timed in
    let said : c.put_u.result ≡ made_of c.args.s 6 = rw c.new.ensures at c.put_u.ensures.value in
    let sure : c.confirm-said.result ≡ made_of (confirmed_of c.args.s) 12 = rw said at c.confirm-said.ensures.value in
    rw sure (record { t1_high = t.t1_high; t2_high = t.t2_high; t3_high = t.t3_high; now_high = t.now_high })

pub finish-requires : goal.finish-requires
unfolding confirmed_of
finish-requires c =
    let said : c.put_u.result ≡ made_of c.args.s 6 = rw c.new.ensures at c.put_u.ensures.value in
    let sure : c.confirm-said.result ≡ made_of (confirmed_of c.args.s) 12 = rw said at c.confirm-said.ensures.value in
    let end = ap (λ (m : Made). m.end) sure in
    let next = ap (λ (m : Made). m.state.receive.next.0) sure in
    let end-timed = ap (λ (m : Made). m.end) c.set_t1u-timed.ensures in
    let next-timed = ap (λ (m : Made). m.state.receive.next.0) c.set_t1u-timed.ensures in
    let room = c.requires.out_room in
    let high = c.requires.recv_high in
    let long = c.confirm-said.auto.out in
    let before = c.put_u.auto.out in
    (omega arith, omega arith)

pub returns : goal.returns
unfolding on_stop
returns c =
    let a = c.args in
    λ ts ps.
    let one = makes_u stop_act a.s ts 0 a.out.now (rw c.new.ensures at c.put_u.ensures.value) (rw c.new.ensures at c.put_u.ensures.out_after) in
    let two = makes_then confirm_appends one (makes_confirm _ ts _ _ c.confirm-said.ensures.value c.confirm-said.ensures.out_after) in
    answers_ending false false a.moment ps (makes_become (set_t1u a.moment) two c.set_t1u-timed.ensures) c.finish.ensures c.accept.ensures

use mathlib.Core.Path.{◌≡◌, sym, ap, ◌∙◌}
use mathlib.Core.Bool.{false}
use mathlib.Core.List.{[]}
use native.Mathlib.Omega.{arith}
use Rattle.elements.proofs.Refused.{made_some}
use Rattle.link.proofs.Numbered.{refused_some, refused_number}
use Rattle.link_state.specs.declared.State.{State}
use Rattle.link.specs.Events.{start, tick_refusal, ticked, ticked_t2, on_tick}
use Rattle.link_steps.proofs.Made.{makes_then, answers_ending, answers_closing}
use Rattle.link_time.proofs.Ticks.{calm_t2, short_t2, short_t3, next_t3, ticked_t3_appends, tick_row}
use Rattle.link_time.proofs.on_tick.Goals as goal

pub returns-in-Err : goal.returns-in-Err
unfolding on_tick
returns-in-Err c =
    let a = c.args in
    let refused = sym c.check_tick.ensures ∙ c.in-Err.is in
    let number = refused_number (tick_refusal a.s a.times.now a.moment) tt (tick_row a.s a.times.now a.moment) refused in
    λ ps. rw (refused_some (tick_refusal a.s a.times.now a.moment) tt refused).0 (rw number at (answers_closing c.in-Err.r a.s a.times.now ps a.out.now c.close.ensures))

pub tick_t3-tested-requires : goal.tick_t3-tested-requires
tick_t3-tested-requires c =
    let t2 = c.tick_t2-confirmed in
    let done = t2.ensures [] in
    let end = done.end in
    let short = short_t2 c.args.s [] 0 c.args.moment in
    (rw (done.state, t2.auto.out) (calm_t2 c.args.s [] _ c.args.moment c.requires.0), omega arith)

pub finish-requires : goal.finish-requires
finish-requires c =
    let t2 = c.tick_t2-confirmed in
    let t3 = c.tick_t3-tested in
    let one = t2.ensures [] in
    let two = t3.ensures [] in
    let end-one = one.end in
    let end-two = two.end in
    let short-one = short_t2 c.args.s [] 0 c.args.moment in
    let short-two = short_t3 t2.result.state [] 0 c.args.moment c.args.s.timers.t3 in
    let calm = calm_t2 c.args.s [] 0 c.args.moment in
    let next : t3.result.state.receive.next.0 ≡ (ticked_t2 c.args.moment (start c.args.s [])).state.receive.next.0 =
    ap (λ (x : State). x.receive.next.0) two.state ∙ (next_t3 t2.result.state [] 0 c.args.moment c.args.s.timers.t3 ∙ ap (λ (x : State). x.receive.next.0) one.state) in
    let high = (calm_t2 c.args.s [] _ c.args.moment c.requires.0).recv_high in
    let room = c.requires.0.out_room in
    let long-two = t3.auto.out in
    let long-one = t2.auto.out in
    (omega arith, omega arith)

pub returns : goal.returns
unfolding on_tick ticked
returns c =
    let a = c.args in
    let passed = made_some (tick_refusal a.s a.times.now a.moment) tt _ (sym c.check_tick.ensures ∙ c.in_default.is) in
    let g₂ = ticked_t2 a.moment (start a.s a.times.now) in
    let one = c.tick_t2-confirmed.ensures a.times.now in
    let two = makes_then (ticked_t3_appends a.s.timers.t3 a.moment) one (c.tick_t3-tested.ensures g₂.times) in
    λ ps. rw passed (answers_ending false false a.moment ps two c.finish.ensures c.accept.ensures)

use mathlib.Core.Path.{refl, ap, ◌∙◌}
use Rattle.std.specs.Prelude.{Ok}
use Rattle.apdu.specs.declared.frame.Frame.{Frame}
use Rattle.link.specs.Events.{on_answer}
use Rattle.link_steps.proofs.Unchanged.{u_times, does_same}
use Rattle.link_receive.proofs.Incoming.{frame_answered, frame_refused}
use Rattle.link_receive.proofs.on_frame.Goals as goal

pub returns-in-Ok-I : goal.returns-in-Ok-I
unfolding on_answer
returns-in-Ok-I c =
    let a = c.args in
    frame_answered a.f.now a.s a.times.now a.pool.now a.out.now a.more a.moment c.read_frame.ensures (c.in-Ok-I.is ∙ ap (λ (x : Frame). Ok x) c.in-Ok-I.field-0-is) c.on_i.ensures

pub returns-in-Ok-S : goal.returns-in-Ok-S
unfolding on_answer
returns-in-Ok-S c =
    let a = c.args in
    frame_answered a.f.now a.s a.times.now a.pool.now a.out.now a.more a.moment c.read_frame.ensures (c.in-Ok-S.is ∙ ap (λ (x : Frame). Ok x) c.in-Ok-S.field-0-is) c.on_s.ensures

pub returns-in-Ok-U : goal.returns-in-Ok-U
unfolding on_answer
returns-in-Ok-U c =
    let a = c.args in
    let u = c.in-Ok-U.u in
    let done = does_same (c.on_u.ensures a.times.now a.pool.now) (u_times a.s a.times.now a.pool.now a.moment u a.more) in
    frame_answered a.f.now a.s a.times.now a.pool.now a.out.now a.more a.moment c.read_frame.ensures (c.in-Ok-U.is ∙ ap (λ (x : Frame). Ok x) c.in-Ok-U.field-0-is) done

pub returns-in-Err : goal.returns-in-Err
returns-in-Err c =
    let a = c.args in
    frame_refused a.f.now a.s a.times.now a.pool.now a.out.now a.more a.moment c.read_frame.ensures c.in-Err.is refl refl c.close.ensures

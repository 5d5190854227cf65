use mathlib.Core.Path.{◌≡◌, sym, ◌∙◌}
use lib.ListN.{length}
use Rattle.elements.proofs.Refused.{made_some}
use Rattle.link.specs.Events.{send, event_outcome}
use Rattle.link_steps.proofs.Calls.{opened, call_refused, call_sends}
use Rattle.link_send.proofs.send.Goals as goal

pub returns-in-Err : goal.returns-in-Err
returns-in-Err c =
    let r = call_refused (send c.args.asdu.now) c.args.l c.args.pool.now c.args.out.now c.args.moment (sym c.check_call.ensures ∙ c.in-Err.is) c.refuse_call.ensures in
    record { value = r.0; pool_after = r.1; out_after = r.2 }

pub on_send-step-requires : goal.on_send-step-requires
on_send-step-requires c =
    let passes = made_some _ _ _ (sym c.check_call.ensures ∙ c.in_default.is) in
    let long : length c.args.l.times ≡ 32 = c.well_formed.0.1.1.0.1.0.1 in
    opened c.args.l (length c.args.out.now) (length c.args.pool.now) c.args.moment passes long

pub returns : goal.returns
unfolding event_outcome
returns c =
    let passes = made_some _ _ _ (sym c.check_call.ensures ∙ c.in_default.is) in
    let r = call_sends (send c.args.asdu.now) c.args.l c.args.pool.now c.args.out.now c.args.moment passes c.end_call.ensures c.on_send-step.ensures in
    record { value = r.0; pool_after = r.1; out_after = r.2 }

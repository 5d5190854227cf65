use Rattle.std.proofs.Common.{◌≡◌, ◌≤◌, rules, length}
use Rattle.link.specs.Events.{frame, event_outcome}
use Rattle.link.specs.Answering.{Open}
use Rattle.link_steps.proofs.Calls.{opened, few_unconfirmed, call_comes}
use Rattle.link_receive.proofs.receive.Goals as goal

pub call-requires : goal.call-requires
call-requires c =
    λ passes.
    record {
      at = λ ring octets same out.
          let a = c.args in
          let long : length a.l.times ≡ 32 = c.well_formed.0.1.1.0.1.0.1 in
          let can : Open a.l.state (length ring.now) (length a.pool.now) (length octets.now) a.moment = rw (same, out) (opened a.l (length a.out.now) (length a.pool.now) a.moment passes long) in
          let few : a.l.state.receive.unconfirmed ≤ 32767 = few_unconfirmed a.l (length a.out.now) (length a.pool.now) a.moment passes in
          search rules;
    }

pub returns : goal.returns
unfolding event_outcome
returns c =
    let a = c.args in
    let both = call_comes (frame a.f.now a.more) a.l a.pool.now a.out.now a.moment _ c.call.ensures (λ r ts ran. search rules) in
    record { value = both.0; out_after = both.1 }

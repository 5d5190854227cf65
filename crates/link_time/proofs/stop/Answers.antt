use Rattle.std.proofs.Common.{◌≡◌, ℕ, List, rules, length}
use Rattle.link.specs.Events.{stop, on_stop, event_outcome}
use Rattle.link.specs.Answering.{Calm, Answers}
use Rattle.link_steps.proofs.Unchanged.{stop_times, does_same}
use Rattle.link_steps.proofs.Calls.{calm, call_comes}
use Rattle.link_time.proofs.stop.Goals as goal

pub call-requires : goal.call-requires
call-requires c =
    λ passes.
    record {
      at = λ ring octets same out.
          let can : Calm c.args.l.state (length octets.now) c.args.moment = rw out (calm c.args.l (length c.args.out.now) (length c.args.pool.now) c.args.moment passes) in
          search rules;
    }

pub returns : goal.returns
unfolding event_outcome
returns c =
    let a = c.args in
    let both = call_comes stop a.l a.pool.now a.out.now a.moment _ c.call.ensures (λ r ts ran.
    let answers : (ts₀ ps : List ℕ) → Answers (on_stop a.l.state ts₀ ps a.moment) a.out.now r c.call.new.out = search rules in
    let same : ts ≡ a.l.times = search rules in
    rw same (does_same (answers a.l.times a.pool.now) (stop_times a.l.state a.l.times a.pool.now a.moment))) in
    record { value = both.0; out_after = both.1 }

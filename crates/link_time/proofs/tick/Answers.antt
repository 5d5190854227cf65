use Rattle.std.proofs.Common.{◌≡◌, ℕ, List, rules, length}
use Rattle.link.specs.Events.{tick, on_tick, event_outcome}
use Rattle.link.specs.Answering.{Calm, Aged, Answers}
use Rattle.link_steps.proofs.Unchanged.{tick_times, does_same}
use Rattle.link_steps.proofs.Calls.{calm, aged, call_comes}
use Rattle.link_time.proofs.tick.Goals as goal

pub call-requires : goal.call-requires
call-requires c =
    λ passes.
    record {
      at = λ ring octets same out.
          let long : length c.args.l.times ≡ 32 = c.well_formed.0.1.1.0.1.0.1 in
          let can : Calm c.args.l.state (length octets.now) c.args.moment = rw out (calm c.args.l (length c.args.out.now) (length c.args.pool.now) c.args.moment passes) in
          let old : Aged c.args.l.state ring.now = rw same (aged c.args.l (length c.args.out.now) (length c.args.pool.now) c.args.moment passes long) in
          search rules;
    }

pub returns : goal.returns
unfolding event_outcome
returns c =
    let a = c.args in
    let both = call_comes tick a.l a.pool.now a.out.now a.moment _ c.call.ensures (λ r ts ran.
    let answers : (ps : List ℕ) → Answers (on_tick a.l.state a.l.times ps a.moment) a.out.now r c.call.new.out = search rules in
    let same : ts ≡ a.l.times = search rules in
    rw same (does_same (answers a.pool.now) (tick_times a.l.state a.l.times a.pool.now a.moment))) in
    record { value = both.0; out_after = both.1 }

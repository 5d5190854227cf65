use mathlib.Core.Path.{◌≡◌, refl, ◌∙◌}
use native.Mathlib.Omega.{arith}
use native.Mathlib.Numerals.{add-one}
use lib.ListN.{length}
use Rattle.link.specs.Making.{flushed}
use Rattle.link.specs.Answering.{CanLetOut}
use Rattle.link_steps.proofs.Made.{makes_none, hands_then, let_out_appends}
use Rattle.link_steps.proofs.Flushing.{can_let_out, let_out_short}
use Rattle.link_steps.proofs.waiting.flush.Goals.{In-loop}
use Rattle.link_steps.proofs.waiting.flush.Goals as goal

pub loop-init : goal.loop-init
unfolding flushed
loop-init c =
    let a = c.args in
    rw c.new-made.ensures (omega arith, refl, refl, record { makes = makes_none a.s a.times.now 0 a.out.now; ring = refl })

-- the next one can go
next : (c : In-loop) → CanLetOut c.loop.made.state (length c.loop.times) (length c.args.pool.now) (length c.loop.out) c.loop.made.end
next c =
    let l = c.loop in
    rw (l.invariant.3.makes.state, l.invariant.2, l.invariant.1)
    (can_let_out c.args.s c.args.n l.counter _ _ _ l.made.end c.args.moment c.args.times.now c.args.pool.now c.requires c.loop-test.true l.invariant.0)

pub let_out-made-requires : goal.let_out-made-requires
let_out-made-requires c = next (goal.at.let_out-made-requires c).In-loop

pub loop-preserved : goal.loop-preserved
unfolding flushed
loop-preserved c =
    let l = c.loop in
    let f = c.let_out-made in
    let end = f.ensures.makes.end in
    let short = let_out_short c.args.moment l.made.state l.times c.args.pool.now (next (goal.at.loop-preserved c).In-loop).sends.size_high in
    let so_far = l.invariant.0 in
    (omega arith, f.auto.out ∙ l.invariant.1, f.auto.times ∙ l.invariant.2, rw add-one (hands_then (let_out_appends c.args.moment c.args.pool.now) l.invariant.3 f.ensures))

pub returns : goal.returns
returns c =
    let l = c.loop in
    let done : l.counter ≡ c.args.n = omega arith in
    rw done at l.invariant.3

use Prim.Native.Nat.{◌*◌}
use mathlib.Core.Path.{◌≡◌, refl, sym}
use mathlib.Core.Bool.{false}
use lib.ListN.{length}
use lib.Seq.{sets}
use borrow.Author.Tests.{lt-ltb, le-ltb, le-leb, lt-leb}
use Rattle.elements.specs.declared.refusals.Refusal.TheVariants.{QueueFull}
use Rattle.link.specs.Making.{with_queue, queued, free_slot, window_open}
use Rattle.link.specs.Events.{start, accepting, send_plain}
use Rattle.link_steps.specs.Steps.{made_of}
use Rattle.link_steps.proofs.Made.{makes_none, answers_ending}
use Rattle.link_steps.proofs.Unchanged.{ending_times}
use Rattle.link_send.proofs.Outgoing.{refuses}
use Rattle.link_send.proofs.send_plain.Goals as goal

pub returns-then-s : goal.returns-then-s
unfolding send_plain window_open accepting
returns-then-s c = rw (lt-ltb _ _ c.if-s.true) (record { does = c.send_now.ensures c.args.pool.now; pool = refl })

pub returns-then-s-2 : goal.returns-then-s-2
unfolding send_plain window_open
returns-then-s-2 c =
    let a = c.args in
    rw (le-ltb _ _ c.if-s.false, le-leb _ _ c.if-s-2.true) (refuses QueueFull a.s a.times.now a.pool.now a.out.now c.refuse.ensures)

pub returns : goal.returns
unfolding send_plain window_open accepting
returns c =
    let a = c.args in
    let t = with_queue a.s (queued a.s.queue (length a.asdu.now)) in
    let g = start t a.times.now in
    let pool = sets a.pool.now (free_slot a.s.queue * 249) a.asdu.now in
    let made : c.new.result ≡ made_of t 0 = rw c.enqueue.ensures.value at c.new.ensures in
    rw (le-ltb _ _ c.if-s.false, lt-leb _ _ c.if-s-2.false)
    (record { does = record { answers = answers_ending false false a.moment pool (rw made (makes_none t a.times.now 0 a.out.now)) c.finish.ensures c.accept.ensures; ring = sym (ending_times false a.moment g) }; pool = c.enqueue.ensures.pool_after })

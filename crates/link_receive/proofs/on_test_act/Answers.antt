use mathlib.Core.Bool.{false}
use Rattle.link.specs.Frames.{test_con}
use Rattle.link.specs.Making.{set_t3}
use Rattle.link.specs.Events.{test_acted}
use Rattle.link_steps.proofs.Made.{makes_u, makes_become, answers_ending}
use Rattle.link_receive.proofs.on_test_act.Goals as goal

pub returns : goal.returns
unfolding test_acted
returns c =
    let a = c.args in
    λ ts ps.
    let one = makes_u test_con a.s ts 0 a.out.now (rw c.new.ensures at c.put_u-said.ensures.value) (rw c.new.ensures at c.put_u-said.ensures.out_after) in
    answers_ending false a.more a.moment ps (makes_become (set_t3 a.moment) one c.set_t3-timed.ensures) c.finish.ensures c.accept.ensures

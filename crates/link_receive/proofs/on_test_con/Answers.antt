use mathlib.Core.Bool.{false}
use Rattle.link_state.specs.declared.State.{State}
use Rattle.link.specs.Making.{set_t3}
use Rattle.link.specs.Events.{tests_answered, test_confirmed}
use Rattle.link_steps.proofs.Made.{makes_none, makes_become, answers_ending}
use Rattle.link_receive.proofs.on_test_con.Goals as goal

pub returns : goal.returns
unfolding test_confirmed
returns c =
    let a = c.args in
    let f : State → State = λ x. set_t3 a.moment (tests_answered x) in
    λ ts ps.
    let one = makes_become f (makes_none a.s ts 0 a.out.now) (rw (c.new.ensures, c.tests_answered.ensures) at c.set_t3.ensures) in
    answers_ending false a.more a.moment ps one c.finish.ensures c.accept.ensures

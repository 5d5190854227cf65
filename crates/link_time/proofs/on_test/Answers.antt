use mathlib.Core.Path.{◌≡◌}
use mathlib.Core.Bool.{false}
use native.Mathlib.Omega.{arith}
use borrow.Author.Tests.{lt-ltb, le-ltb}
use Rattle.elements.specs.declared.refusals.Refusal.TheVariants.{TooManyTests}
use Rattle.link_steps.specs.Steps.{made_of}
use Rattle.link.specs.Making.{tested_of}
use Rattle.link.specs.Events.{on_test, too_many}
use Rattle.link_steps.proofs.Made.{makes_tested, answers_ending, answers_closing}
use Rattle.link_time.proofs.on_test.Goals as goal

pub returns-then-s-gt2 : goal.returns-then-s-gt2
unfolding on_test too_many
returns-then-s-gt2 c = λ ts ps. rw (lt-ltb _ _ c.if-s-gt2.true) (answers_closing TooManyTests _ ts ps _ c.close.ensures)

pub finish-requires : goal.finish-requires
unfolding tested_of
finish-requires c =
    let tested : c.send_test.result ≡ made_of (tested_of c.args.moment c.args.s) 6 = rw c.new.ensures at c.send_test.ensures.value in
    let long = c.send_test.auto.out in
    let room = c.requires.out_room in
    rw tested (omega arith, c.requires.recv_high)

pub returns : goal.returns
unfolding on_test too_many
returns c =
    let a = c.args in
    λ ts ps.
    let one = makes_tested a.moment a.s ts 0 a.out.now (rw c.new.ensures at c.send_test.ensures.value) (rw c.new.ensures at c.send_test.ensures.out_after) in
    rw (le-ltb _ _ c.if-s-gt2.false) (answers_ending false false a.moment ps one c.finish.ensures c.accept.ensures)

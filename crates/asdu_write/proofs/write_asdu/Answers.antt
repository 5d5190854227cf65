use mathlib.Core.Path.{◌≡◌, sym, ◌∙◌}
use native.Mathlib.Omega.{arith}
use borrow.Author.Tests.{eq-eqb}
use lib.ListN.{length}
use Rattle.elements.proofs.Refused.{made_some}
use Rattle.asdu.specs.Writing.{write_refusal, written}
use Rattle.asdu_write.proofs.Places.{parts_stored}
use Rattle.asdu_write.proofs.write_asdu.Goals as goal

pub returns-clause-out_after : goal.returns-clause-out_after
unfolding written
returns-clause-out_after c =
    let a = c.args.a.now in
    let l = c.args.out.now in
    let no = made_some (write_refusal a (length l)) tt _ (sym c.check_write.ensures ∙ c.in_ok-check_write.was) in
    let n : length a.objects ≡ 127 = omega arith in
    rw (eq-eqb _ _ no) (parts_stored a l no n c.put_header.ensures c.put_first-from.ensures c.put_bodies.ensures)

use mathlib.Core.Path.{sym}
use Rattle.laws.proofs.Lists.{sets_past}
use Rattle.apdu.specs.Writing.{start_octets}
use Rattle.apdu.proofs.Answers.{start_stored}
use Rattle.apdu.proofs.writing.put_start.Goals as goal

pub returns-then-at-out : goal.returns-then-at-out
returns-then-at-out c =
    let a = c.args in
    start_stored a.at a.length a.a a.b a.out.now
    c.put_octet.ensures
    c.put_octet-then-at-out.ensures
    c.put_le.ensures
    c.put_le-then-at-out.ensures

pub returns-else-at-out : goal.returns-else-at-out
returns-else-at-out c =
    let a = c.args in
    sym (sets_past a.out.now a.at (start_octets a.length a.a a.b) c.if-at-out.false)

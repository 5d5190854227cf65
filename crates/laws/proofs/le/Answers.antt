use Rattle.std.proofs.Common.{◌≤◌, min, arith, ◌∙◌}
use Rattle.laws.proofs.Numbers.{le_turn, four_fit}
use Rattle.laws.proofs.le.Goals as goal

pub overflow_mul-n : goal.overflow_mul-n
overflow_mul-n g c =
    let l = c.loop-i in
    let m = min g.row.N 4 in
    let most : l.i ≤ m = omega arith in
    record { fits = omega (arith, (four_fit m l.i c.loop-i-test.true most {a = 0} (omega arith) l.invariant.1 (omega arith)).fits) }

pub overflow_add-n : goal.overflow_add-n
overflow_add-n g c =
    let l = c.loop-i in
    let m = min g.row.N 4 in
    let most : l.i ≤ m = omega arith in
    four_fit m l.i c.loop-i-test.true most c.wide.ensures.upper_bound l.invariant.1 (omega arith)

pub loop-i-preserved : goal.loop-i-preserved
loop-i-preserved g c =
    let l = c.loop-i in
    let m = min g.row.N 4 in
    let most : l.i ≤ m = omega arith in
    le_turn m l.i c.loop-i-test.true most c.wide.ensures.upper_bound l.invariant.1 c.part_from-part.result.now (c.wide.ensures.value ∙ c.octet_at.ensures) l.invariant.0

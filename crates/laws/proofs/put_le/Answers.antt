use Rattle.laws.proofs.Numbers.{put_turn}
use Rattle.laws.proofs.put_le.Goals as goal

pub loop-i-preserved : goal.loop-i-preserved
loop-i-preserved g c =
    let l = c.loop-i in
    put_turn g.row.N l.i c.loop-i-test.true l.part l.rest c.put_octet.ensures c.low.ensures l.invariant

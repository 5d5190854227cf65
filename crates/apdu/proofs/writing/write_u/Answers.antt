use Prim.Native.Nat.{ℕ}
use mathlib.Core.Path.{sym, ap, ◌∙◌}
use lib.Seq.{sets}
use Rattle.apdu.specs.Control.{u_octet}
use Rattle.apdu.specs.Writing.{start_octets, u_octets}
use Rattle.apdu.proofs.Answers.{accept, some_room, start_long}
use Rattle.apdu.proofs.writing.write_u.Goals as goal

pub returns : goal.returns
unfolding u_octets
returns c =
    let a = c.args in
    let octet = c.to_byte.ensures in
    let both = accept (u_octets a.u) a.out.now
    (some_room _ _ c.if-out-lt-ASDU_START.false)
    (sym (start_long 4 (u_octet a.u) 0))
    c.if-out-lt-ASDU_START.false
    (c.put_start.ensures ∙ ap (λ (o : ℕ). sets a.out.now 0 (start_octets 4 o 0)) octet) in
    record { value = both.0; out_after = both.1 }

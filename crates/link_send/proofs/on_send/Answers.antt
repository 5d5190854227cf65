use mathlib.Core.Path.{ap, ◌∙◌}
use Rattle.std.specs.Prelude.{Ok}
use Rattle.asdu.specs.declared.Form.{Form}
use Rattle.link.specs.Events.{send_by}
use Rattle.link_send.proofs.Outgoing.{plain_small, send_answered, send_reserved, send_refused}
use Rattle.link_send.proofs.on_send.Goals as goal

pub send_plain-requires : goal.send_plain-requires
send_plain-requires c =
    (c.requires, plain_small c.args.asdu.now c.plain_asdu.ensures (c.in-Ok-Plain.is ∙ ap (λ (x : Form). Ok x) c.in-Ok-Plain.field-0-is))

pub returns-in-Ok-Plain : goal.returns-in-Ok-Plain
unfolding send_by
returns-in-Ok-Plain c =
    let a = c.args in
    send_answered a.asdu.now c.plain_asdu.ensures a.s a.times.now a.pool.now a.out.now a.moment (c.in-Ok-Plain.is ∙ ap (λ (x : Form). Ok x) c.in-Ok-Plain.field-0-is) c.send_plain.ensures

pub returns-in-Ok-Reserved : goal.returns-in-Ok-Reserved
returns-in-Ok-Reserved c =
    let a = c.args in
    send_reserved a.asdu.now c.plain_asdu.ensures a.s a.times.now a.pool.now a.out.now a.moment (c.in-Ok-Reserved.is ∙ ap (λ (x : Form). Ok x) c.in-Ok-Reserved.field-0-is) c.refuse.ensures

pub returns-in-Err : goal.returns-in-Err
returns-in-Err c =
    let a = c.args in
    send_refused a.asdu.now c.plain_asdu.ensures a.s a.times.now a.pool.now a.out.now a.moment c.in-Err.is c.refuse-in-Err.ensures

use mathlib.Core.Path.{refl, sym, ◌∙◌}
use native.Mathlib.Omega.{arith}
use Rattle.link_receive.proofs.Incoming.{u_test_act, u_test_con, u_stop_act, u_stop_con, u_other}
use Rattle.link_receive.proofs.on_u.Goals as goal

pub returns-in-67 : goal.returns-in-67
returns-in-67 c =
    let a = c.args in
    let is = sym c.to_byte.ensures ∙ (sym c.from.ensures ∙ c.in-67.is) in
    λ ts ps. u_test_act a.u a.s ts ps a.out.now a.more a.moment is (c.on_test_act.ensures ts ps)

pub returns-in-131 : goal.returns-in-131
returns-in-131 c =
    let a = c.args in
    let is = sym c.to_byte.ensures ∙ (sym c.from.ensures ∙ c.in-131.is) in
    λ ts ps. u_test_con a.u a.s ts ps a.out.now a.more a.moment is (c.on_test_con.ensures ts ps)

pub returns-in-19 : goal.returns-in-19
returns-in-19 c =
    let a = c.args in
    let is = sym c.to_byte.ensures ∙ (sym c.from.ensures ∙ c.in-19.is) in
    λ ts ps.
    u_stop_act a.u a.s ts ps a.out.now a.more a.moment is (rw c.new.ensures at c.put_u.ensures.out_after) (rw (c.put_u.ensures.value, c.new.ensures) at c.end_by_stop.ensures)

pub returns-in-35 : goal.returns-in-35
returns-in-35 c =
    let a = c.args in
    let is = sym c.to_byte.ensures ∙ (sym c.from.ensures ∙ c.in-35.is) in
    λ ts ps. u_stop_con a.u a.s ts ps a.out.now a.more a.moment is refl (rw c.new-in-35.ensures at c.end_by_stop-in-35.ensures)

pub returns-in_default : goal.returns-in_default
returns-in_default c =
    let a = c.args in
    let byte = c.to_byte.ensures in
    let octet = c.from.ensures in
    λ ts ps.
    u_other a.u a.s ts ps a.out.now a.more a.moment (λ e. omega arith) (λ e. omega arith) (λ e. omega arith) (λ e. omega arith) refl c.close.ensures

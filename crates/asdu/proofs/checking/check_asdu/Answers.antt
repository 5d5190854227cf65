use Prim.Native.Nat.{ℕ, ◌/◌, ◌%◌}
use mathlib.Core.Path.{sym, ap, ◌∙◌}
use lib.Dec.{eqb}
use Rattle.laws.proofs.Lists.{octets_all}
use Rattle.elements.specs.Refusals.{answer}
use Rattle.elements.proofs.Refused.{made_some}
use Rattle.asdu.specs.Header.{header_refusal}
use Rattle.asdu.specs.Reading.{addresses_refusal}
use Rattle.asdu.proofs.Checked.{checked}
use Rattle.asdu.proofs.checking.check_asdu.Goals as goal

pub returns : goal.returns
returns c =
    let s = c.args.s.now in
    let no = made_some (header_refusal s) tt _ (sym c.check_header.ensures ∙ c.in_ok-check_header.was) in
    c.check_addresses.ensures
    ∙ (ap (λ (o : ℕ). answer (addresses_refusal (eqb (o / 128 % 2) 1) (o % 128) s) tt) c.octet_at-size.ensures
    ∙ ap (λ (n : ℕ). answer n tt) (sym (checked s (octets_all s (λ i. (c.shared_slice_known-1.given i).fits)) no)))

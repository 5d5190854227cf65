-- Cause of initialisation, type 70. Document 01 takes the whole octet as the cause, so no bit is reserved;
-- IEC 60870-5-101 keeps bit 7 for a change of local parameters (docs/DIFFERENCES.md, D8).
use Rattle.std.specs.Prelude.{ℕ, eqb, ltb, Result, Ok, Err}
use Rattle.laws.specs.Choice.{pick}
use Rattle.elements.specs.Refusals.{refusal, value_out_of_range}
use Rattle.elements.specs.declared.refusals.Refusal.{Refusal}
use Rattle.elements.specs.declared.information_elements.Coi.{Coi}
use Rattle.elements.specs.declared.information_elements.Coi.TheVariants.{LocalPowerOn, LocalManualReset, RemoteReset, Other}

-- 0, 1 and 2 are named, the others stay as they come
abbrev pub coi_of : ℕ → Coi
coi_of n = pick (eqb n 0) LocalPowerOn (pick (eqb n 1) LocalManualReset (pick (eqb n 2) RemoteReset (Other n)))

-- a named cause has one form only: Other with its number is refused
abbrev pub coi_answer : Coi → Result ℕ Refusal
coi_answer LocalPowerOn = Ok 0
coi_answer LocalManualReset = Ok 1
coi_answer RemoteReset = Ok 2
coi_answer (Other n) = pick (ltb n 3) (Err (refusal value_out_of_range)) (Ok n)

-- The answers of the acknowledgement check, by what the walk found. Assumes nothing.
use Prim.Native.Nat.{ℕ, ◌<◌, ◌≤◌}
use mathlib.Core.Path.{◌≡◌}
use mathlib.Core.Bool.{true, false}
use borrow.Author.Tests.{le-leb, lt-leb, leb-true}
use Rattle.laws.proofs.Choices.{held}
use Rattle.elements.specs.Refusals.{refusal, outside_limits, wrong_receive_number}
use Rattle.link_state.specs.Acknowledging.{confirms, numbers_in_limits, ack_refusal, acknowledged}
use Rattle.std.specs.Prelude.{Ok, Err}
use Rattle.laws.proofs.Clauses.{and_iff, leb_iff}

module _ (next window received : ℕ) where
  pub in_limits : numbers_in_limits next window received ≡ true → (next ≤ 32767) × (window ≤ 32767) × (received ≤ 32767)
  unfolding numbers_in_limits
  in_limits e = let h = simp (and_iff, leb_iff) at e in (h.0.0, h.0.1, h.1)

  pub outside : numbers_in_limits next window received ≡ false → Err (refusal outside_limits) ≡ acknowledged next window received
  unfolding acknowledged ack_refusal
  outside e = rw e

  pub frees : (d : ℕ) → numbers_in_limits next window received ≡ true → d ≡ confirms next window received → d ≤ window
      → Ok d ≡ acknowledged next window received
  unfolding acknowledged ack_refusal
  frees d e is h = rw (e, ← is, le-leb d window h)

  pub past : numbers_in_limits next window received ≡ true → window < confirms next window received
      → Err (refusal wrong_receive_number) ≡ acknowledged next window received
  unfolding acknowledged ack_refusal
  past e h = rw (e, lt-leb _ _ h)

  -- what an accepted number frees is outstanding
  pub frees_within : ack_refusal next window received ≡ 0 → confirms next window received ≤ window
  unfolding ack_refusal
  frees_within e = leb-true _ _ (held _ 26 0 (held (numbers_in_limits next window received) 18 _ e).1).0

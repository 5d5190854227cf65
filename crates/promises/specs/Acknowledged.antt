-- The acknowledgement check `link_state::acknowledging::acknowledge` by totals, for every window up to 32,767: S I frames were
-- handed out and A of them are confirmed, so that S − A are outstanding and the next has S's remainder as its number.
use Rattle.std.specs.Prelude.{ℕ, ◌+◌, ◌-◌, ◌%◌, ◌≤◌, ◌≡◌, ◌↔◌}
use Rattle.laws.specs.Window.{Confirms}
use Rattle.link_state.specs.Acknowledging.{acknowledged, ack_freed}
use Rattle.elements.specs.Refusals.{answer_number}

-- "accepted exactly if some whole a from A to S has its receive number as remainder by 32,768"; what is freed leads from A to it
pub record Acknowledged (s a r : ℕ) : Type 0 where
  pub exactly : (answer_number (acknowledged (s % 32768) (s - a) r) ≡ 0) ↔ ((c : ℕ) × Confirms 32768 a s r c)
  pub leads : (c : ℕ) → Confirms 32768 a s r c → a + ack_freed (acknowledged (s % 32768) (s - a) r) ≡ c

abbrev pub AckLevel : Type 0
AckLevel = (s a r : ℕ) → a ≤ s → s - a ≤ 32767 → r ≤ 32767 → Acknowledged s a r

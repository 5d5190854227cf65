-- For contracts of helpers that write: octets that are stored from a place on. No promise speaks of it.
use Rattle.std.specs.Prelude.{ℕ, ◌+◌, ◌≡◌, List, length}
use Rattle.std.proofs.lemmas.List.Edits.{sets}

-- vs stored from place p on, and r the place after them
pub record Put (l : List ℕ) (p : ℕ) (vs : List ℕ) (r : ℕ) (l' : List ℕ) : Type 0 where
  pub stored : l' ≡ sets l p vs
  pub next : r ≡ p + length vs

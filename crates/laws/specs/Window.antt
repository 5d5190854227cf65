-- A window of numbered frames: numbers go round by a modulus m (32,768 on the wire).
-- a is the number of frames confirmed so far, s of those handed out, r the receive number.
use Rattle.std.specs.Prelude.{ℕ, ◌+◌, ◌-◌, ◌%◌, ◌≤◌, ◌≡◌}

-- c lies in the window from a to s and has r as remainder: what r may confirm
pub record Confirms (m a s r c : ℕ) : Type 0 where
  pub least : a ≤ c
  pub most : c ≤ s
  pub remainder : c % m ≡ r

-- how many frames lie between a and the next number with remainder r: what r frees
abbrev pub freed : ℕ → ℕ → ℕ → ℕ
freed m a r = (r + m - a % m) % m

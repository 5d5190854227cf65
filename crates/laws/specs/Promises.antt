-- What the laws say, each once: the width, the length or the modulus is a parameter. The proofs stand in proofs/.
use Rattle.std.specs.Prelude.{ℕ, ◌+◌, ◌-◌, ◌^◌, ◌<◌, ◌≤◌, ◌≡◌, List, [], ◌∷◌, ◌++◌, T, ℤ, length, take}
use Rattle.std.specs.Int.Signed.{mag}
use Rattle.laws.specs.Choice.{pick}
use Rattle.laws.specs.Bits.{Layout, field, fields, octet, kept, reserved, keeps, apart}
use Rattle.laws.specs.Numbers.{le_of, le_octets, signed_of, bits_of}
use Rattle.laws.specs.Lists.{Octets}
use Rattle.laws.specs.Window.{Confirms, freed}

-- each value fits its field, and there is one for each
abbrev pub Fitting : Layout → List ℕ → Type 0
Fitting [] [] = Unit {0}
Fitting [] (v ∷ vs) = ⊥
Fitting (f ∷ l) [] = ⊥
Fitting (f ∷ l) (v ∷ vs) = (v < 2 ^ f.wide) × Fitting l vs

-- Reads back: values that fit come back from the octet that holds them.
abbrev pub ReadsBack : Type 0
ReadsBack = (hi : ℕ) (l : Layout) (vs : List ℕ) → T (apart 0 l hi) → Fitting l vs → fields l (octet l vs) ≡ vs

-- Writes again: the octet written from an octet's fields has, bit by bit, the bits that a field keeps, and 0 elsewhere.
abbrev pub WritesAgain : Type 0
WritesAgain = (hi : ℕ) (l : Layout) (b i : ℕ) → T (apart 0 l hi) → field i 1 (kept l b) ≡ pick (keeps l i) (field i 1 b) 0

-- Reserved bits: bit by bit, exactly those that no field keeps.
abbrev pub Reserves : Type 0
Reserves = (hi : ℕ) (l : Layout) (b i : ℕ) → T (apart 0 l hi) → field i 1 (reserved l b) ≡ pick (keeps l i) 0 (field i 1 b)

-- Numbers of n octets: written and read, whatever follows; read and written.
abbrev pub NumberReadsBack : Type 0
NumberReadsBack = (n v : ℕ) (rest : List ℕ) → v < 256 ^ n → le_of n (le_octets n v ++ rest) ≡ v

abbrev pub NumberWritesAgain : Type 0
NumberWritesAgain = (n : ℕ) (s : List ℕ) → Octets s → n ≤ length s → le_octets n (le_of n s) ≡ take n s

-- Two's complement of w bits: mag z is z for z from 0 on, and -z - 1 below 0.
abbrev pub SignedReadsBack : Type 0
SignedReadsBack = (w : ℕ) → 1 ≤ w → (z : ℤ) → mag z < 2 ^ (w - 1) → signed_of w (bits_of w z) ≡ z

abbrev pub SignedWritesAgain : Type 0
SignedWritesAgain = (w : ℕ) → 1 ≤ w → (n : ℕ) → n < 2 ^ w → bits_of w (signed_of w n) ≡ n

-- The window: of fewer than m frames, at most one number has a given remainder, and it frees `freed`;
-- where `freed` lies within the window, there is one.
pub record WindowLaw (m a s r : ℕ) : Type 0 where
  pub one : (c : ℕ) → Confirms m a s r c → c ≡ a + freed m a r
  pub some : a + freed m a r ≤ s → Confirms m a s r (a + freed m a r)

abbrev pub Window : Type 0
Window = (m a s r : ℕ) → a ≤ s → s - a < m → r < m → WindowLaw m a s r

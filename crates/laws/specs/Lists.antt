-- Lists that contracts cite: a part written back, values by index, padding, a ring.
-- `sets l i vs` of the library stores vs in l from place i on; what lies past the end is left out.
use Rattle.std.specs.Prelude.{ℕ, zero, suc, ◌+◌, ◌%◌, ◌<◌, Bool, true, ◌&&◌, List, [], ◌∷◌, ◌++◌, length, take, drop, replicate}

-- every element is an octet
abbrev pub Octets : List ℕ → Type 0
Octets [] = Unit {0}
Octets (b ∷ s) = (b < 256) × Octets s

-- d with s in the place of what stood from place `at` on: a part that was lent and wholly written (`at` is in d)
unfoldable pub put {ℓ} : {A : Type ℓ} → List A → ℕ → List A → List A
put d at s = take at d ++ (s ++ drop (length s) (drop at d))

-- f i, f (i + 1), .., n of them
unfoldable pub tabulate {ℓ} : {A : Type ℓ} → (ℕ → A) → ℕ → ℕ → List A
tabulate f i zero = []
tabulate f i (suc n) = f i ∷ tabulate f (suc i) n

-- the list, followed by copies of a up to m elements in all
unfoldable pub padded {ℓ} : {A : Type ℓ} → ℕ → A → List A → List A
padded m a l = l ++ drop (length l) (replicate m a)

-- the n elements of a ring of m places that begin at place p
unfoldable pub ring {ℓ} : {A : Type ℓ} → (ℕ → A) → ℕ → ℕ → ℕ → List A
ring f m p n = tabulate (λ (i : ℕ). f ((p + i) % m)) 0 n

-- the test holds at each number below n
unfoldable pub every : (ℕ → Bool) → ℕ → Bool
every t zero = true
every t (suc n) = every t n && t n

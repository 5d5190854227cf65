-- A choice by a test, and refusals in a row.
use Rattle.std.specs.Prelude.{ℕ, Bool, true, false, eqb}

-- a if the test holds, else b
abbrev pub pick {ℓ} : {A : Type ℓ} → Bool → A → A → A
pick true a b = a
pick false a b = b

-- a refusal's number, or, where that is 0, what comes next
infixr 20 ◌then◌
abbrev pub ◌then◌ : ℕ → ℕ → ℕ
r then x = pick (eqb r 0) x r

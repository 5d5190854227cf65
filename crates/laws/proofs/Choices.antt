-- What is known of a choice, and what a refusal of 0 shows: each test in the row was passed. Assumes nothing.
use Prim.Native.Nat.{ℕ, suc}
use mathlib.Core.Path.{◌≡◌, refl}
use mathlib.Core.Bool.{Bool, true, false}
use native.Mathlib.Omega.{arith}
use lib.Dec.{eqb}
use borrow.Author.Tests.{eqb-true, eqb-false}
use Rattle.laws.specs.Choice.{pick, ◌then◌}

-- what holds of both holds of the one that is picked
pub picked : {A : Type 0} (P : A → Type 0) (b : Bool) {x y : A} → P x → P y → P (pick b x y)
picked P true p q = p
picked P false p q = q

pub pick_same : {A : Type 0} (b : Bool) (x : A) → pick b x x ≡ x
pick_same true x = refl
pick_same false x = refl

-- a test that refuses where it holds, and one that refuses where it does not
pub passed : (b : Bool) (n x : ℕ) → pick b (suc n) x ≡ 0 → (b ≡ false) × (x ≡ 0)
passed true n x h = absurd (omega arith)
passed false n x h = (refl, h)

pub held : (b : Bool) (n x : ℕ) → pick b x (suc n) ≡ 0 → (b ≡ true) × (x ≡ 0)
held true n x h = (refl, h)
held false n x h = absurd (omega arith)

-- a refusal and what comes next
pub both : (r x : ℕ) → (r then x) ≡ 0 → (r ≡ 0) × (x ≡ 0)
both r x h = by (eqb r 0) refl h
  where
    by : (b : Bool) → eqb r 0 ≡ b → pick b x r ≡ 0 → (r ≡ 0) × (x ≡ 0)
    by true e g = (eqb-true r 0 e, g)
    by false e g = absurd (eqb-false r 0 e g)

-- A refusal's number is that of its row, and is not 0. Assumes nothing.
use Prim.Native.Nat.{ℕ, zero, suc, ◌≤◌}
use mathlib.Core.Path.{◌≡◌, refl, sym}
use mathlib.Core.Bool.{Bool, true, false}
use native.Mathlib.Omega.{arith}
use borrow.Author.Tests.{eqb-true, eqb-false}
use lib.Dec.{eqb}
use Rattle.laws.specs.Lists.{every}
use Rattle.laws.proofs.Clauses.{every_iff}
use Rattle.std.specs.Prelude.{Result, Ok, Err}
use Rattle.laws.specs.Choice.{pick}
use Rattle.elements.specs.Refusals.{number, refusal, answer, answer_number, RowsNamed}
use Rattle.elements.specs.declared.refusals.Refusal.{Refusal}
use Rattle.elements.specs.declared.refusals.Refusal.TheVariants as Refusal

-- all 33 rows, looked at one by one
rows : every (λ (i : ℕ). eqb (number (refusal (suc i))) (suc i)) 33 ≡ true
unfolding every refusal
rows = refl

-- and their names
pub rows_named : RowsNamed
rows_named = refl

pub number_of_refusal : (n : ℕ) → 1 ≤ n → n ≤ 33 → number (refusal n) ≡ n
number_of_refusal zero low high = absurd (omega arith)
number_of_refusal (suc i) low high =
    eqb-true (number (refusal (suc i))) (suc i) ((every_iff (λ (i : ℕ). eqb (number (refusal (suc i))) (suc i)) 33).0 rows i (omega arith))

-- its number is from 1 to 33
pub number_range : (r : Refusal) → (1 ≤ number r) × (number r ≤ 33)
number_range Refusal.FrameTooShort = (omega arith, omega arith)
number_range Refusal.WrongStart = (omega arith, omega arith)
number_range Refusal.FrameTooLong = (omega arith, omega arith)
number_range Refusal.LengthMismatch = (omega arith, omega arith)
number_range Refusal.IWithoutAsdu = (omega arith, omega arith)
number_range Refusal.BadUControl = (omega arith, omega arith)
number_range Refusal.BadSControl = (omega arith, omega arith)
number_range Refusal.BadIControl = (omega arith, omega arith)
number_range Refusal.AsduTooShort = (omega arith, omega arith)
number_range Refusal.CauseNotListed = (omega arith, omega arith)
number_range Refusal.TypeNotCarried = (omega arith, omega arith)
number_range Refusal.LayoutMismatch = (omega arith, omega arith)
number_range Refusal.EmptySequence = (omega arith, omega arith)
number_range Refusal.WrongAddress = (omega arith, omega arith)
number_range Refusal.ValueOutOfRange = (omega arith, omega arith)
number_range Refusal.WrongKind = (omega arith, omega arith)
number_range Refusal.AsduTooLong = (omega arith, omega arith)
number_range Refusal.OutputTooShort = (omega arith, omega arith)
number_range Refusal.OutsideLimits = (omega arith, omega arith)
number_range Refusal.LinkClosed = (omega arith, omega arith)
number_range Refusal.ClockWentBack = (omega arith, omega arith)
number_range Refusal.ClockTooLate = (omega arith, omega arith)
number_range Refusal.LinkOutputTooShort = (omega arith, omega arith)
number_range Refusal.PoolTooShort = (omega arith, omega arith)
number_range Refusal.QueueFull = (omega arith, omega arith)
number_range Refusal.NotPlainForm = (omega arith, omega arith)
number_range Refusal.WrongReceiveNumber = (omega arith, omega arith)
number_range Refusal.WrongSendNumber = (omega arith, omega arith)
number_range Refusal.UNotAnswered = (omega arith, omega arith)
number_range Refusal.UTimedOut = (omega arith, omega arith)
number_range Refusal.ITimedOut = (omega arith, omega arith)
number_range Refusal.TooManyTests = (omega arith, omega arith)
number_range Refusal.BadCarry = (omega arith, omega arith)

pub number_some : (r : Refusal) → number r ≡ 0 → ⊥
number_some r e = let h = (number_range r).0 in omega arith

pub answer_high : {A : Type 0} (a : Result A Refusal) → answer_number a ≤ 33
answer_high (Ok made) = omega arith
answer_high (Err r) = (number_range r).1

-- where it is low, so is the refusal's number
pub number_low : (m n : ℕ) → 1 ≤ m → m ≤ 33 → n ≤ m → number (refusal n) ≤ m
unfolding refusal
number_low m zero some high h = omega arith
number_low m (suc n) some high h = let e = number_of_refusal (suc n) (omega arith) (omega arith) in rw e h

-- ---- what an answer shows

module _ {A : Type 0} (n : ℕ) (made : A) where
  -- something was made: there is no refusal, and it is what was asked for
  pub made_some : (given : A) → answer n made ≡ Ok given → (n ≡ 0)
  made_some given e = by (eqb n 0) refl e
    where
      by : (t : Bool) → eqb n 0 ≡ t → pick {A = Result A Refusal} t (Ok made) (Err (refusal n)) ≡ Ok given → n ≡ 0
      by true f g = eqb-true n 0 f
      by false f g = let z : ◌≡◌ {A = ℕ} 0 1 = cc in absurd (omega arith)

  -- its number is the refusal's
  pub answer_numbered : n ≤ 33 → answer_number (answer n made) ≡ n
  answer_numbered high = by (eqb n 0) refl
    where
      by : (t : Bool) → eqb n 0 ≡ t → answer_number (pick {A = Result A Refusal} t (Ok made) (Err (refusal n))) ≡ n
      by true f = sym (eqb-true n 0 f)
      by false f = let some = eqb-false n 0 f in number_of_refusal n (omega (arith, some)) high

-- A refusal and its number, and what an answer that is a refusal shows. Assumes nothing.
use Prim.Native.Nat.{ℕ, ◌≤◌}
use mathlib.Core.Path.{◌≡◌, refl, sym, ap, ◌∙◌}
use mathlib.Core.Bool.{Bool, true, false}
use native.Mathlib.Omega.{arith}
use lib.Dec.{eqb}
use Rattle.std.specs.Prelude.{Result, Ok, Err}
use Rattle.laws.specs.Choice.{pick}
use Rattle.elements.specs.Refusals.{number, refusal, answer, answer_number}
use Rattle.elements.specs.declared.refusals.Refusal.{Refusal}
use Rattle.elements.proofs.Refused.{answer_numbered}
use Rattle.elements.specs.declared.refusals.Refusal.TheVariants.{FrameTooShort, WrongStart, FrameTooLong, LengthMismatch, IWithoutAsdu, BadUControl, BadSControl, BadIControl, AsduTooShort, CauseNotListed, TypeNotCarried, LayoutMismatch, EmptySequence, WrongAddress, ValueOutOfRange, WrongKind, AsduTooLong, OutputTooShort, OutsideLimits, LinkClosed, ClockWentBack, ClockTooLate, LinkOutputTooShort, PoolTooShort, QueueFull, NotPlainForm, WrongReceiveNumber, WrongSendNumber, UNotAnswered, UTimedOut, ITimedOut, TooManyTests, BadCarry}

-- a refusal's number is not 0, and tells the refusal
pub some_number : (r : Refusal) → eqb (number r) 0 ≡ false
some_number FrameTooShort = refl
some_number WrongStart = refl
some_number FrameTooLong = refl
some_number LengthMismatch = refl
some_number IWithoutAsdu = refl
some_number BadUControl = refl
some_number BadSControl = refl
some_number BadIControl = refl
some_number AsduTooShort = refl
some_number CauseNotListed = refl
some_number TypeNotCarried = refl
some_number LayoutMismatch = refl
some_number EmptySequence = refl
some_number WrongAddress = refl
some_number ValueOutOfRange = refl
some_number WrongKind = refl
some_number AsduTooLong = refl
some_number OutputTooShort = refl
some_number OutsideLimits = refl
some_number LinkClosed = refl
some_number ClockWentBack = refl
some_number ClockTooLate = refl
some_number LinkOutputTooShort = refl
some_number PoolTooShort = refl
some_number QueueFull = refl
some_number NotPlainForm = refl
some_number WrongReceiveNumber = refl
some_number WrongSendNumber = refl
some_number UNotAnswered = refl
some_number UTimedOut = refl
some_number ITimedOut = refl
some_number TooManyTests = refl
some_number BadCarry = refl

pub numbered : (r : Refusal) → refusal (number r) ≡ r
unfolding refusal
numbered FrameTooShort = refl
numbered WrongStart = refl
numbered FrameTooLong = refl
numbered LengthMismatch = refl
numbered IWithoutAsdu = refl
numbered BadUControl = refl
numbered BadSControl = refl
numbered BadIControl = refl
numbered AsduTooShort = refl
numbered CauseNotListed = refl
numbered TypeNotCarried = refl
numbered LayoutMismatch = refl
numbered EmptySequence = refl
numbered WrongAddress = refl
numbered ValueOutOfRange = refl
numbered WrongKind = refl
numbered AsduTooLong = refl
numbered OutputTooShort = refl
numbered OutsideLimits = refl
numbered LinkClosed = refl
numbered ClockWentBack = refl
numbered ClockTooLate = refl
numbered LinkOutputTooShort = refl
numbered PoolTooShort = refl
numbered QueueFull = refl
numbered NotPlainForm = refl
numbered WrongReceiveNumber = refl
numbered WrongSendNumber = refl
numbered UNotAnswered = refl
numbered UTimedOut = refl
numbered ITimedOut = refl
numbered TooManyTests = refl
numbered BadCarry = refl

pub refused_some : {A : Type 0} (n : ℕ) (made : A) {r : Refusal} → answer n made ≡ Err r → (eqb n 0 ≡ false) × (refusal n ≡ r)
refused_some {A} n made {r} e = by (eqb n 0) e
  where
    by : (t : Bool) → pick {A = Result A Refusal} t (Ok made) (Err (refusal n)) ≡ Err r → (t ≡ false) × (refusal n ≡ r)
    by true g = let z : ◌≡◌ {A = ℕ} 0 1 = cc in absurd (omega arith)
    by false g = (refl, cc)

pub refused_number : {A : Type 0} (n : ℕ) (made : A) {r : Refusal} → n ≤ 33 → answer n made ≡ Err r → number r ≡ n
refused_number {A} n made {r} high e = ap (λ (a : Result A Refusal). answer_number a) (sym e) ∙ answer_numbered n made high

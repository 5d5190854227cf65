-- A carry that is not refused, and how much topping up moves into it at most. Assumes nothing.
use Prim.Native.Nat.{ℕ, ◌+◌, ◌-◌, ◌≤◌, min}
use mathlib.Core.Path.{◌≡◌, refl, subst}
use mathlib.Core.Bool.{Bool, true, false}
use mathlib.Core.List.{List}
use native.Mathlib.Omega.{arith}
use lib.Dec.{ltb}
use lib.ListN.{length, get_or}
use borrow.Author.Tests.{ltb-true, ltb-false}
use Rattle.std.specs.Prelude.{Ok}
use Rattle.laws.specs.Choice.{pick}
use Rattle.laws.proofs.Choices.{passed, both}
use Rattle.elements.specs.Refusals.{answer}
use Rattle.elements.proofs.Refused.{made_some}
use Rattle.assembly.specs.Start.{start_refusal, carry_refusal}
use Rattle.assembly.specs.Topping.{on_hand, top_up_refusal, moving, top_up_answer}
use Rattle.assembly.proofs.Sights.{taken}

-- a carry that is not refused
pub carry_fits : (room held : ℕ) → carry_refusal room held ≡ 0 → (255 ≤ room) × (held ≤ 255)
unfolding carry_refusal
carry_fits room held h =
    let a = passed (ltb room 255) 32 _ h in
    let b = passed (ltb 255 held) 32 _ a.1 in
    (ltb-false _ _ a.0, ltb-false _ _ b.0)

module _ (carry : List ℕ) (held : ℕ) (chunk : List ℕ) where
  -- what is moved never brings the carry above the longest frame
  small : top_up_refusal carry held chunk ≡ 0 → held + moving carry held chunk ≤ 255
  unfolding top_up_refusal moving
  small none =
      let start = both (carry_refusal (length carry) held) _ none in
      by (ltb (held + length chunk) 3) (carry_fits _ _ start.0).1 refl start.1
    where
      l : ℕ
      l = get_or (on_hand carry held chunk) 1 0

      by : (t : Bool) → held ≤ 255 → ltb (held + length chunk) 3 ≡ t → pick t 0 (start_refusal (get_or (on_hand carry held chunk) 0 0) l) ≡ 0
          → held + pick t (length chunk) (min (2 + l - held) (length chunk)) ≤ 255
      by true h b z = omega (arith, ltb-true (held + length chunk) 3 b)
      by false h b z = omega (arith, (taken _ l z).most)

  -- an answer that tells of moved bytes was not refused
  pub moved_small : (m : ℕ) → top_up_answer carry held chunk ≡ Ok m → held + m ≤ 255
  unfolding top_up_answer
  moved_small m e =
      let none = made_some (top_up_refusal carry held chunk) _ m e in
      let moved = subst (λ (n : ℕ). answer n (moving carry held chunk) ≡ Ok m) none e in
      let same : moving carry held chunk ≡ m = cc in
      omega (arith, small none)

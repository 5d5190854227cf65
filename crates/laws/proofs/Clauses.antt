-- A row of tests as a row of facts, in both directions. Assumes nothing.
use Prim.Native.Nat.{ℕ, zero, suc, ◌<◌, ◌≤◌}
use mathlib.Core.Path.{◌≡◌, refl, sym, subst, ◌∙◌}
use mathlib.Core.Bool.{Bool, true, false, ◌&&◌, ◌||◌, false≢true}
use mathlib.Core.Logic.{◌⊎◌, inl, inr, ◌↔◌, ⊎_elim}
use native.Mathlib.Omega.{arith}
use native.Mathlib.Decide.{dec_lt}
use lib.Dec.{leb, eqb}
use borrow.Author.Tests.{leb-true, le-leb, eqb-true, eq-eqb}
use Rattle.laws.specs.Lists.{every}

pub leb_iff : (a b : ℕ) → (leb a b ≡ true) ↔ (a ≤ b)
leb_iff a b = (leb-true a b, le-leb a b)

pub eqb_iff : (a b : ℕ) → (eqb a b ≡ true) ↔ (a ≡ b)
eqb_iff a b = (eqb-true a b, eq-eqb a b)

pub and_iff : (a b : Bool) → (a && b ≡ true) ↔ ((a ≡ true) × (b ≡ true))
and_iff true b = ((λ e. (refl, e)), (λ p. p.1))
and_iff false b = ((λ e. absurd (false≢true e)), (λ p. p.0))

-- one of two tests
pub or_iff : {A B : Type 0} (a b : Bool) → (a ≡ true) ↔ A → (b ≡ true) ↔ B → (a || b ≡ true) ↔ (A ⊎ B)
or_iff true b f g = ((λ e. inl (f.0 refl)), (λ s. refl))
or_iff false b f g = ((λ e. inr (g.0 e)), ⊎_elim (λ x. absurd (false≢true (f.1 x))) g.1)

-- a test at each number below n
pub every_iff : (t : ℕ → Bool) (n : ℕ) → (every t n ≡ true) ↔ ((i : ℕ) → i < n → t i ≡ true)
unfolding every
every_iff t zero = ((λ e i h. absurd (omega arith)), (λ f. refl))
every_iff t (suc n) = (
  (λ e i h.
      let p = (and_iff (every t n) (t n)).0 e in
      elim (dec_lt i n) [
        | yes l ↦ (every_iff t n).0 p.0 i l
        | no l ↦ let s : n ≡ i = omega arith in subst (λ (j : ℕ). t j ≡ true) s p.1
      ]),
  (λ f. (and_iff (every t n) (t n)).1 ((every_iff t n).1 (λ i l. f i (omega arith)), f n (omega arith))),
)

-- a test that a call made, and that a branch looked at
pub failed : {a b : Bool} → a ≡ b → a ≡ false → b ≡ false
failed e h = sym e ∙ h

pub holds : {a b : Bool} → a ≡ b → a ≡ true → b ≡ true
holds e h = sym e ∙ h

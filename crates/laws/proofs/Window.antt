-- The remainder law of a window, for any modulus.
use Prim.Native.Nat.{ℕ, ◌+◌, ◌-◌, ◌%◌, ◌<◌}
use mathlib.Core.Path.{◌≡◌, sym, ap, ◌∙◌}
use native.Mathlib.Omega.{arith}
use native.Mathlib.Nat.{mod-add-mod, mod-lt, mod-eq_of_lt, mod-eq-sub-mod}
use native.Mathlib.Decide.{dec_lt}
use Rattle.laws.specs.Window.{freed}
use Rattle.laws.specs.Promises.{Window}

-- the remainder d places after one that has remainder x
turn : (a d m : ℕ) → (a + d) % m ≡ (a % m + d) % m
turn a d m = sym (mod-add-mod a m d)

module _ (x d m r : ℕ) (xs : x < m) (ds : d < m) (rs : r < m) where
  -- d places after x lies r exactly if d is how far r lies after x, going up and round
  pub ahead : (x + d) % m ≡ r → d ≡ (r + m - x) % m
  ahead e = elim (dec_lt (x + d) m) [
    | yes l ↦
        let u : x + d ≡ r = sym (mod-eq_of_lt l) ∙ e in
        let v : r + m - x ≡ d + m = omega arith in
        let k : (d + m) % m ≡ d = mod-eq-sub-mod (omega arith) ∙ (ap (λ (n : ℕ). n % m) (omega arith) ∙ mod-eq_of_lt ds) in
        sym (ap (λ (n : ℕ). n % m) v ∙ k)
    | no l ↦
        let u : x + d - m ≡ r = sym (mod-eq_of_lt (omega arith)) ∙ (sym (mod-eq-sub-mod (omega arith)) ∙ e) in
        let v : r + m - x ≡ d = omega arith in
        sym (ap (λ (n : ℕ). n % m) v ∙ mod-eq_of_lt ds)
  ]

module _ (x m r : ℕ) (xs : x < m) (rs : r < m) where
  arrives : (x + (r + m - x) % m) % m ≡ r
  arrives = elim (dec_lt r x) [
    | yes l ↦
        let p : (r + m - x) % m ≡ r + m - x = mod-eq_of_lt (omega arith) in
        rw p (let q : x + (r + m - x) ≡ r + m = omega arith in rw q (mod-eq-sub-mod (omega arith) ∙ (ap (λ (n : ℕ). n % m) (omega arith) ∙ mod-eq_of_lt rs)))
    | no l ↦
        let p : (r + m - x) % m ≡ r - x = mod-eq-sub-mod (omega arith) ∙ (ap (λ (n : ℕ). n % m) (omega arith) ∙ mod-eq_of_lt (omega arith)) in
        rw p (let q : x + (r - x) ≡ r = omega arith in rw q (mod-eq_of_lt rs))
  ]

pub window : Window
window m a s r order small rs =
    let xs : a % m < m = mod-lt a (omega arith) in
    record {
      one = λ c k.
          let d = c - a in
          let ds : d < m = omega (arith, k.least, k.most) in
          let e : a + d ≡ c = omega (arith, k.least) in
          let g = ahead (a % m) d m r xs ds rs (sym (turn a d m) ∙ (ap (λ (n : ℕ). n % m) e ∙ k.remainder)) in
          omega arith;
      some = λ h. record { least = omega arith; most = h; remainder = turn a (freed m a r) m ∙ arrives (a % m) m r xs rs };
    }

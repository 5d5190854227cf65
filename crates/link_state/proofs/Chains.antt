-- A test at each number of a range, as `all` walks it. Assumes nothing.
use Rattle.std.proofs.Common.{◌≡◌, ℕ, zero, suc, ◌+◌, Bool, ◌&&◌, sym, ap, ◌∙◌, arith}
use Rattle.std.specs.List.{range_with_len, list_all}
use mathlib.Core.Bool.{and-true, and_assoc}
use native.Mathlib.Nat.{add-zero, zero-add}
use Rattle.laws.specs.Lists.{every}

module _ (t : ℕ → Bool) where
  from_on : (m i : ℕ) → every t i && list_all t (range_with_len i m) ≡ every t (i + m)
  unfolding every
  from_on zero i = rw (add-zero i) (and-true (every t i))
  from_on (suc m) i =
      let e : suc i + m ≡ i + suc m = omega arith in
      let next : i + 1 ≡ suc i = omega arith in
      rw next (sym (and_assoc (every t i) (t i) _) ∙ (from_on m (suc i) ∙ ap (every t) e))

  pub every_all : (n : ℕ) → list_all t (range_with_len 0 n) ≡ every t n
  unfolding every
  every_all n = from_on n 0 ∙ ap (every t) (zero-add n)

-- A test at each object, one after the other, and the objects of a header by it. Assumes nothing.
use Prim.Native.Nat.{ℕ, zero, suc, ◌+◌, ◌*◌, ◌<◌}
use mathlib.Core.Path.{◌≡◌, refl}
use mathlib.Core.Bool.{Bool, true, false, and-false}
use mathlib.Core.List.{List}
use native.Mathlib.Omega.{arith}
use native.Mathlib.Numerals.{add-one}
use native.Mathlib.Decide.{dec_lt}
use lib.ListN.{drop}
use Rattle.laws.specs.Lists.{every}
use Rattle.objects.specs.Kinds.{form_of}
use Rattle.objects.specs.declared.kinds.Kind.{Kind}
use Rattle.asdu.specs.Header.{step_of}
use Rattle.asdu.specs.Plain.{plain_form, plain_element, plain_objects}
use Rattle.asdu.specs.declared.header.Header.{Header}

-- ---- a test at each number

module _ (t : ℕ → Bool) where
  pub every_none : true ≡ every t 0
  unfolding every
  every_none = refl

  pub every_next : (i : ℕ) → every t i ≡ true → t i ≡ true → every t (i + 1) ≡ true
  unfolding every
  every_next i e f = rw (add-one i, e) f

  pub every_all : (n : ℕ) → ((i : ℕ) → t i ≡ true) → every t n ≡ true
  unfolding every
  every_all zero f = refl
  every_all (suc n) f = rw (every_all n f) (f n)

  pub every_stop : (i n : ℕ) → i < n → t i ≡ false → every t n ≡ false
  unfolding every
  every_stop i zero h e = absurd (omega arith)
  every_stop i (suc n) h e = elim (dec_lt i n) [
    | yes u ↦ rw (every_stop i n u e)
    | no u ↦ let g : n ≡ i = omega arith in rw (g, e) (and-false (every t i))
  ]

-- ---- the objects of a header

-- element i, by the kind and the step that the loop knows
abbrev pub plain_at : Kind → ℕ → List ℕ → ℕ → Bool
plain_at k step s i = plain_form (form_of k) (drop (9 + i * step) s)

pub plain_objects_law : (h : Header) (s : List ℕ) (step : ℕ) → step ≡ step_of h.kind h.sequence → every (plain_at h.kind step s) h.count ≡ plain_objects h s
unfolding plain_objects plain_element
plain_objects_law h s step e = rw e

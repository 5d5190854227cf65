-- The header's answer, as the code comes to it: one refusal after the other, then the header; and what an answer shows. Assumes nothing.
use Prim.Native.Nat.{ℕ, ◌*◌, ◌≤◌}
use mathlib.Core.Path.{◌≡◌, ap, subst, ◌∙◌}
use mathlib.Core.Bool.{Bool, true, false}
use mathlib.Core.List.{List}
use native.Mathlib.Omega.{arith}
use native.Mathlib.Nat.{mul-le-mul}
use lib.Dec.{eqb}
use lib.ListN.{get_or, length}
use Rattle.std.specs.Prelude.{Option, Some, None, Result, Ok, Err}
use Rattle.laws.specs.Choice.{pick}
use Rattle.elements.specs.Refusals.{refusal}
use Rattle.elements.specs.declared.refusals.Refusal.{Refusal}
use Rattle.objects.specs.Kinds.{kind_of}
use Rattle.objects.specs.declared.kinds.Kind.{Kind}
use Rattle.asdu.specs.Header.{early_refusal, layout_refusal, header_refusal_by, header_refusal, header_in, header_by, header_answer, sequence_in, count_in}
use Rattle.asdu.specs.declared.header.Header.{Header}

-- a step times a count of one octet
pub product_small : (n e : ℕ) → n ≤ 255 → e ≤ 8 → n * e ≤ 2040
product_small n e h g = mul-le-mul h g

module _ (s : List ℕ) where
  -- the header's refusal once the start has none
  past_start : early_refusal s ≡ 0 → header_refusal s ≡ header_refusal_by (kind_of (get_or s 0 0)) s
  unfolding header_refusal
  past_start e = rw e

  abbrev layout_here : Kind → ℕ
  layout_here k = layout_refusal k (sequence_in s) (count_in s) (length s)

  pub refuses : eqb (header_refusal s) 0 ≡ false → Err (refusal (header_refusal s)) ≡ header_answer s
  unfolding header_answer
  refuses t = rw t

  pub answers : (a : Option Kind) → header_refusal s ≡ 0 → kind_of (get_or s 0 0) ≡ a → header_by a s ≡ header_answer s
  unfolding header_answer
  answers a z f = rw (z, f)

  pub accepts : (k : Kind) → early_refusal s ≡ 0 → kind_of (get_or s 0 0) ≡ Some k → layout_here k ≡ 0 → Ok (header_in k s) ≡ header_answer s
  accepts k e f l = answers (Some k) (past_start e ∙ (ap (λ (a : Option Kind). header_refusal_by a s) f ∙ l)) f

-- ---- what an answer shows

-- at most 127 objects
abbrev Told : Result Header Refusal → Type 0
Told (Ok h) = h.count ≤ 127
Told (Err r) = Unit {0}

told_by : (t : Bool) (k : Option Kind) (n : ℕ) (s : List ℕ) → Told (pick t (header_by k s) (Err (refusal n)))
unfolding header_in
told_by true None n s = tt
told_by true (Some k) n s = omega arith
told_by false k n s = tt

told : (s : List ℕ) → Told (header_answer s)
unfolding header_answer
told s = told_by (eqb (header_refusal s) 0) (kind_of (get_or s 0 0)) (header_refusal s) s

module _ (s : List ℕ) where
  pub count_fits : (h : Header) → header_answer s ≡ Ok h → h.count ≤ 127
  count_fits h e = subst Told e (told s)

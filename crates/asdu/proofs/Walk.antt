-- The objects of an ASDU, one by one: what the reader's loop and the check that needs none come to. Assumes nothing.
use Prim.Native.Nat.{ℕ, zero, suc, ◌+◌, ◌-◌, ◌*◌, ◌<◌, ◌≤◌}
use mathlib.Core.Path.{◌≡◌, refl, ap, ◌∙◌}
use mathlib.Core.Bool.{Bool, true, false, ◌&&◌}
use mathlib.Core.List.{List}
use native.Mathlib.Omega.{arith}
use native.Mathlib.Decide.{dec_lt}
use borrow.Author.Tests.{lt-ltb, le-ltb, ne_eqb}
use lib.Dec.{ltb}
use lib.ListN.{drop, replicate}
use lib.Seq.{sets}
use Rattle.std.specs.Prelude.{Result, Ok, Err}
use Rattle.laws.specs.Choice.{pick}
use Rattle.laws.specs.Lists.{Octets, tabulate, padded}
use Rattle.laws.specs.Numbers.{le_of}
use Rattle.laws.proofs.Lists.{octets_drop, sets_padded, length_tabulate}
use Rattle.laws.proofs.Numbers.{le_fits}
use Rattle.elements.specs.Refusals.{refusal, wrong_address, answer_number}
use Rattle.objects.specs.Objects.{blank, object_of, object_answer}
use Rattle.objects.specs.declared.Object.{Object}
use Rattle.elements.specs.declared.refusals.Refusal.{Refusal}
use Rattle.objects.specs.declared.values.Value.{Value}
use Rattle.asdu.specs.Header.{step_of}
use Rattle.asdu.specs.Records.{blanks, filled}
use Rattle.asdu.specs.Reading.{object_in, object_at, answer_at, first_number, objects_refusal, addresses_refusal}
use Rattle.asdu.specs.declared.header.Header.{Header}

-- ---- the first refusal

module _ (f : ℕ → ℕ) where
  pub first_pass : (i n : ℕ) → i < n → f i ≡ 0 → first_number f (suc i) (n - suc i) ≡ first_number f i (n - i)
  unfolding first_number
  first_pass i n h e =
      let k : n - i ≡ suc (n - suc i) = omega arith in
      rw (k, e)

  pub first_stop : (i n : ℕ) → i < n → (f i ≡ 0 → ⊥) → first_number f i (n - i) ≡ f i
  unfolding first_number
  first_stop i n h e =
      let k : n - i ≡ suc (n - suc i) = omega arith in
      rw (k, ne_eqb (f i) 0 e)

  pub first_end : (i n : ℕ) → n ≤ i → first_number f i (n - i) ≡ 0
  unfolding first_number
  first_end i n h = let k : n - i ≡ 0 = omega arith in rw k

  pub first_none : (i n : ℕ) → ((j : ℕ) → f j ≡ 0) → first_number f i n ≡ 0
  unfolding first_number
  first_none i zero e = refl
  first_none i (suc n) e = rw (e i) (first_none (suc i) n e)

-- ---- addresses that rise

abbrev rising : ℕ → ℕ → ℕ
rising a i = pick (ltb 16777215 (a + i)) wrong_address 0

rise_low : (a i n : ℕ) → a + i + n ≤ 16777216 → first_number (rising a) i n ≡ 0
unfolding first_number
rise_low a i zero h = refl
rise_low a i (suc n) h = rw (le-ltb 16777215 (a + i) (omega arith)) (rise_low a (suc i) n (omega arith))

rise_high : (a i n : ℕ) → a + i ≤ 16777216 → 16777216 < a + i + n → first_number (rising a) i n ≡ wrong_address
unfolding first_number
rise_high a i zero h g = absurd (omega arith)
rise_high a i (suc n) h g =
    elim (dec_lt 16777215 (a + i)) [
      | yes l ↦ rw (lt-ltb 16777215 (a + i) l)
      | no l ↦ rw (le-ltb 16777215 (a + i) (omega arith)) (rise_high a (suc i) n (omega arith) (omega arith))
    ]

-- ---- one object's answer

answer_number_law : (a : ℕ) (v : Value) → answer_number (object_answer a v) ≡ pick (ltb 16777215 a) wrong_address 0
unfolding object_answer refusal
answer_number_law a v = by (ltb 16777215 a)
  where
    by : (t : Bool) → answer_number (pick {A = Result Object Refusal} t (Err (refusal wrong_address)) (Ok (record { address = a; value = v }))) ≡ pick t wrong_address 0
    by true = refl
    by false = refl

-- an answer that is an object is the object asked for
answer_object : (a : ℕ) (v : Value) (o : Object) → object_answer a v ≡ Ok o → o ≡ record { address = a; value = v }
unfolding object_answer
answer_object a v o e = by (ltb 16777215 a) e
  where
    by : (t : Bool) → pick {A = Result Object Refusal} t (Err (refusal wrong_address)) (Ok (record { address = a; value = v })) ≡ Ok o → o ≡ record { address = a; value = v }
    by true e = let z : ◌≡◌ {A = ℕ} 0 1 = cc in absurd (omega arith)
    by false e = cc

module _ (h : Header) (s : List ℕ) where
  pub object_read : (i : ℕ) (o : Object) → answer_at h s i ≡ Ok o → o ≡ object_at h s i
  unfolding answer_at
  object_read i o e = answer_object (object_at h s i).address (object_at h s i).value o e

-- ---- what the loop comes to

pub blanks_are : blanks ≡ replicate 127 blank
unfolding blanks padded
blanks_are = refl

pub filled_from : (f : ℕ → Object) (n : ℕ) → n ≤ 127 → sets blanks 0 (tabulate f 0 n) ≡ filled (tabulate f 0 n)
filled_from f n h = rw blanks_are (sets_padded 127 blank (tabulate f 0 n) (rw (length_tabulate f 0 n) h))

-- ---- the check that needs no loop

first_ext : (f g : ℕ → ℕ) (i n : ℕ) → ((j : ℕ) → f j ≡ g j) → first_number f i n ≡ first_number g i n
unfolding first_number
first_ext f g i zero e = refl
first_ext f g i (suc n) e = rw (e i, first_ext f g (suc i) n e)

-- the refusal of object i by its address alone
number_at : (h : Header) (s : List ℕ) (i : ℕ) → answer_number (answer_at h s i) ≡ pick (ltb 16777215 (object_at h s i).address) wrong_address 0
unfolding answer_at
number_at h s i = answer_number_law (object_at h s i).address (object_at h s i).value

-- its address in the plain layout, and in a sequence
plain_address : (h : Header) (s : List ℕ) (i : ℕ) → h.sequence ≡ false → (object_at h s i).address ≡ le_of 3 (drop (6 + i * step_of h.kind false) s)
unfolding object_in object_of
plain_address h s i q = rw q

sequence_address : (h : Header) (s : List ℕ) (i : ℕ) → h.sequence ≡ true → (object_at h s i).address ≡ le_of 3 (drop 6 s) + i
unfolding object_in
sequence_address h s i q = rw q

module _ (h : Header) (s : List ℕ) where
  pub plain_refusal : h.sequence ≡ false → Octets s → objects_refusal h s ≡ 0
  unfolding objects_refusal
  plain_refusal q o =
      first_none (λ (i : ℕ). answer_number (answer_at h s i)) 0 h.count
      (λ i.
      let p = 6 + i * step_of h.kind false in
      let small = le_fits 3 (drop p s) (octets_drop p s o) in
      let at = plain_address h s i q in
      number_at h s i ∙ rw (le-ltb 16777215 (object_at h s i).address (omega arith)))

  in_sequence : h.sequence ≡ true → objects_refusal h s ≡ first_number (rising (le_of 3 (drop 6 s))) 0 h.count
  unfolding objects_refusal
  in_sequence q =
      first_ext (λ (i : ℕ). answer_number (answer_at h s i)) (rising (le_of 3 (drop 6 s))) 0 h.count
      (λ i. number_at h s i ∙ ap (λ (a : ℕ). pick (ltb 16777215 a) wrong_address 0) (sequence_address h s i q))

  pub sequence_low : h.sequence ≡ true → le_of 3 (drop 6 s) + h.count ≤ 16777216 → objects_refusal h s ≡ 0
  sequence_low q l = in_sequence q ∙ rise_low (le_of 3 (drop 6 s)) 0 h.count (omega arith)

  pub sequence_high : h.sequence ≡ true → le_of 3 (drop 6 s) ≤ 16777216 → 16777216 < le_of 3 (drop 6 s) + h.count → objects_refusal h s ≡ wrong_address
  sequence_high q m l = in_sequence q ∙ rise_high (le_of 3 (drop 6 s)) 0 h.count (omega arith) (omega arith)

-- whatever the kind: by the sequence mark, the count and the first address
by_mark : (h : Header) (s : List ℕ) (q : Bool) → h.sequence ≡ q → Octets s → objects_refusal h s ≡ pick (q && ltb 16777216 (le_of 3 (drop 6 s) + h.count)) wrong_address 0
by_mark h s false e o = plain_refusal h s e o
by_mark h s true e o =
    let fits = le_fits 3 (drop 6 s) (octets_drop 6 s o) in
    elim (dec_lt 16777216 (le_of 3 (drop 6 s) + h.count)) [
      | yes l ↦ rw (lt-ltb 16777216 (le_of 3 (drop 6 s) + h.count) l) (sequence_high h s e (omega arith) l)
      | no l ↦ rw (le-ltb 16777216 (le_of 3 (drop 6 s) + h.count) (omega arith)) (sequence_low h s e (omega arith))
    ]

pub by_addresses : (h : Header) (s : List ℕ) → Octets s → objects_refusal h s ≡ addresses_refusal h.sequence h.count s
unfolding addresses_refusal
by_addresses h s o = by_mark h s h.sequence refl o

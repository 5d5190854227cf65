-- Which numbers reading may refuse with: an ASDU 9 to 14 and 17, a frame 1 to 14. Assumes nothing.
use Prim.Native.Nat.{ℕ, zero, suc, ◌+◌, ◌%◌, ◌≤◌}
use mathlib.Core.Path.{◌≡◌, refl}
use mathlib.Core.Bool.{Bool, true, false, not, ◌&&◌, ◌||◌}
use mathlib.Core.List.{List, [], ◌∷◌}
use native.Mathlib.Omega.{arith}
use borrow.Author.Tests.{eqb-true, ltb-true, ltb-false}
use lib.ListN.{length, get_or, drop, length-drop}
use lib.Dec.{eqb, ltb}
use Rattle.laws.specs.Choice.{pick, ◌then◌}
use Rattle.laws.specs.Numbers.{le_of}
use Rattle.laws.proofs.Choices.{passed, held}
use Rattle.elements.specs.Refusals.{refusal, wrong_address, bad_i_control}
use Rattle.elements.proofs.Refused.{number_low, answer_high}
use Rattle.elements.specs.Quality.{seq_qd_answer}
use Rattle.elements.specs.Steps.{vti_answer}
use Rattle.elements.specs.Causes.{coi_answer}
use Rattle.objects.specs.Kinds.{type_of, kind_of, size_of, value_kind}
use Rattle.objects.specs.Elements.{value_refusal}
use Rattle.objects.specs.Objects.{object_answer, kind_refusal, address_refusal, object_refusal}
use Rattle.objects.specs.declared.values.Value.{Value}
use Rattle.asdu.specs.Writing.{own_objects, first_address, first_refusal, shape_refusal, size_refusal, write_refusal_by, write_refusal}
use Rattle.asdu.specs.declared.Asdu.{Asdu}
use Rattle.objects.specs.declared.kinds.Kind.{Kind}
use Rattle.objects.specs.declared.Object.{Object}
use Rattle.asdu.specs.Header.{cause_listed, cause_in, needed, sequence_in, count_in, layout_refusal, early_refusal, header_refusal_by, header_refusal}
use Rattle.asdu.specs.Reading.{object_at, answer_at, first_number, objects_refusal, objects_refusal_by, read_refusal}
use Rattle.asdu.specs.declared.header.Header.{Header}
use Rattle.apdu.specs.Reading.{outer_refusal, short_answer, long_answer, frame_answer}
use Rattle.std.specs.Prelude.{Option, Some, None, Result, Ok, Err}
use Rattle.elements.specs.Refusals.{answer_number}
use Rattle.elements.specs.declared.refusals.Refusal.{Refusal}
use Rattle.apdu.specs.declared.frame.Frame.{Frame}

-- ---- choices

pick_most : {m x y : ℕ} (b : Bool) → x ≤ m → y ≤ m → pick b x y ≤ m
pick_most true p q = p
pick_most false p q = q

then_most : {m : ℕ} (x y : ℕ) → x ≤ m → y ≤ m → (x then y) ≤ m
then_most x y p q = pick_most (eqb x 0) q p

-- ---- an ASDU

-- m is 17; where the octets are at most 249, it may be 14
module _ (m : ℕ) (h : 14 ≤ m) where
  layout_most : (k : Kind) (q : Bool) (n len : ℕ) → layout_refusal k q n len ≤ m
  unfolding layout_refusal
  layout_most k q n len =
      pick_most (eqb len (needed k q n)) (pick_most (q && (eqb n 0 || eqb (size_of k) 0)) (omega arith) (omega arith)) (omega arith)

  kind_most : (a : Option Kind) (s : List ℕ) → header_refusal_by a s ≤ m
  kind_most None s = omega arith
  kind_most (Some k) s = layout_most k (sequence_in s) (count_in s) (length s)

  early_most : (s : List ℕ) → (ltb 249 (length s) ≡ true → 17 ≤ m) → early_refusal s ≤ m
  unfolding early_refusal
  early_most s long = by (ltb 249 (length s)) refl
    where
      rest : pick (ltb (length s) 3) 9 (pick (not (cause_listed (cause_in s))) 10 (pick (ltb (length s) 6) 9 0)) ≤ m
      rest = pick_most (ltb (length s) 3) (omega arith) (pick_most (not (cause_listed (cause_in s))) (omega arith) (pick_most (ltb (length s) 6) (omega arith) (omega arith)))

      by : (b : Bool) → ltb 249 (length s) ≡ b → pick b 17 (pick (ltb (length s) 3) 9 (pick (not (cause_listed (cause_in s))) 10 (pick (ltb (length s) 6) 9 0))) ≤ m
      by true e = long e
      by false e = rest

  header_most : (s : List ℕ) → (ltb 249 (length s) ≡ true → 17 ≤ m) → header_refusal s ≤ m
  unfolding header_refusal
  header_most s long = then_most (early_refusal s) (header_refusal_by (kind_of (get_or s 0 0)) s) (early_most s long) (kind_most (kind_of (get_or s 0 0)) s)

  answer_most : (b : Bool) (o : Object) → answer_number (pick {A = Result Object Refusal} b (Err (refusal wrong_address)) (Ok o)) ≤ m
  unfolding refusal
  answer_most true o = omega arith
  answer_most false o = omega arith

  object_most : (g : Header) (s : List ℕ) (i : ℕ) → answer_number (answer_at g s i) ≤ m
  unfolding answer_at object_answer
  object_most g s i = answer_most (ltb 16777215 (object_at g s i).address) _

  first_most : (f : ℕ → ℕ) → ((i : ℕ) → f i ≤ m) → (i n : ℕ) → first_number f i n ≤ m
  unfolding first_number
  first_most f each i zero = omega arith
  first_most f each i (suc n) = then_most (f i) (first_number f (suc i) n) (each i) (first_most f each (suc i) n)

  objects_most : (g : Header) (s : List ℕ) → objects_refusal g s ≤ m
  unfolding objects_refusal
  objects_most g s = first_most (λ (i : ℕ). answer_number (answer_at g s i)) (object_most g s) 0 g.count

  by_most : (a : Option Kind) (s : List ℕ) → objects_refusal_by a s ≤ m
  by_most None s = omega arith
  by_most (Some k) s = objects_most _ s

  pub read_most : (s : List ℕ) → (ltb 249 (length s) ≡ true → 17 ≤ m) → read_refusal s ≤ m
  unfolding read_refusal
  read_most s long = then_most (header_refusal s) (objects_refusal_by (kind_of (get_or s 0 0)) s) (header_most s long) (by_most (kind_of (get_or s 0 0)) s)

-- ---- a record that is written

value_most : (v : Value) → value_refusal v ≤ 33
unfolding value_refusal
value_most (Value.MSpNa1 q) = omega arith
value_most (Value.MDpNa1 q) = omega arith
value_most (Value.MStNa1 v) = answer_high (vti_answer v)
value_most (Value.MBoNa1 q n) = omega arith
value_most (Value.MMeNa1 n q) = omega arith
value_most (Value.MMeNb1 n q) = omega arith
value_most (Value.MMeNc1 q n) = omega arith
value_most (Value.MItNa1 n q) = answer_high (seq_qd_answer q)
value_most (Value.MMeNd1 n) = omega arith
value_most (Value.MEiNa1 c) = answer_high (coi_answer c)
value_most (Value.CIcNa1 n) = omega arith
value_most (Value.CCiNa1 n) = omega arith
value_most Value.CRdNa1 = omega arith

written_object_most : (k : Kind) (q : Bool) (first i : ℕ) (o : Object) → object_refusal k q first i o ≤ 33
unfolding object_refusal kind_refusal address_refusal
written_object_most k q first i o =
    then_most _ _ (pick_most (eqb (type_of (value_kind o.value)) (type_of k)) (omega arith) (omega arith))
    (then_most _ _
    (pick_most (ltb 16777215 o.address) (omega arith) (pick_most q (pick_most (eqb o.address (first + i)) (omega arith) (omega arith)) (omega arith)))
    (value_most o.value))

written_objects_most : (k : Kind) (q : Bool) (first i : ℕ) (os : List Object) → first_refusal k q first i os ≤ 33
unfolding first_refusal
written_objects_most k q first i [] = omega arith
written_objects_most k q first i (o ∷ os) = then_most _ _ (written_object_most k q first i o) (written_objects_most k q first (suc i) os)

pub write_most : (a : Asdu) (room : ℕ) → write_refusal a room ≤ 33
unfolding write_refusal write_refusal_by shape_refusal size_refusal
write_most a room = pick_most (cause_listed a.cause) (by (kind_of a.type_id)) (omega arith)
  where
    by : (f : Option Kind) → write_refusal_by f a room ≤ 33
    by None = omega arith
    by (Some k) =
        then_most _ _
        (pick_most (ltb 127 a.count) (omega arith) (pick_most (a.sequence && (eqb a.count 0 || eqb (size_of k) 0)) (omega arith) (omega arith)))
        (then_most _ _ (written_objects_most k a.sequence (first_address a) 0 (own_objects a))
        (pick_most (ltb 249 (needed k a.sequence a.count)) (omega arith) (pick_most (ltb room (needed k a.sequence a.count)) (omega arith) (omega arith))))

-- ---- a frame

outer_most : (f : List ℕ) → outer_refusal f ≤ 14
unfolding outer_refusal
outer_most f =
    pick_most (ltb (length f) 6) (omega arith)
    (pick_most (eqb (get_or f 0 0) 104)
    (pick_most (ltb 253 (get_or f 1 0)) (omega arith) (pick_most (eqb (length f) (2 + get_or f 1 0)) (omega arith) (omega arith)))
    (omega arith))

-- at most 255 octets, where the outside is not refused
bounded : (f : List ℕ) → outer_refusal f ≡ 0 → length f ≤ 255
unfolding outer_refusal
bounded f h =
    let a = passed (ltb (length f) 6) 0 _ h in
    let b = held (eqb (get_or f 0 0) 104) 1 _ a.1 in
    let c = passed (ltb 253 (get_or f 1 0)) 2 _ b.1 in
    let d = held (eqb (length f) (2 + get_or f 1 0)) 3 _ c.1 in
    omega (arith, ltb-false 253 (get_or f 1 0) c.0, eqb-true (length f) (2 + get_or f 1 0) d.0)

record Low (a : Result Frame Refusal) : Type 0 where
  most : answer_number a ≤ 14

low_pick : {x y : Result Frame Refusal} (b : Bool) → Low x → Low y → Low (pick b x y)
low_pick true p q = p
low_pick false p q = q

short_low : (f : List ℕ) → Low (short_answer f)
unfolding short_answer refusal
short_low f =
    low_pick (eqb (get_or f 2 0 % 4) 3)
    (low_pick (eqb (get_or f 3 0) 0 && eqb (le_of 2 (drop 4 f)) 0) (record { most = omega arith }) (record { most = omega arith }))
    (low_pick (eqb (get_or f 2 0 % 4) 1)
    (low_pick (eqb (le_of 2 (drop 2 f)) 1) (record { most = omega arith }) (record { most = omega arith }))
    (record { most = omega arith }))

long_low : (f : List ℕ) → length f ≤ 255 → Low (long_answer f)
unfolding long_answer
long_low f h =
    let short : ltb 249 (length (drop 6 f)) ≡ true → 17 ≤ 14 = λ e. absurd (omega (arith, ltb-true 249 (length (drop 6 f)) e, length-drop 6 f)) in
    low_pick (eqb (get_or f 2 0 % 2) 0 && eqb (get_or f 4 0 % 2) 0)
    (low_pick (eqb (read_refusal (drop 6 f)) 0) (record { most = omega arith }) (record { most = number_low 14 _ (omega arith) (omega arith) (read_most 14 (omega arith) (drop 6 f) short) }))
    (record { most = number_low 14 bad_i_control (omega arith) (omega arith) (omega arith) })

pub frame_most : (f : List ℕ) → answer_number (frame_answer f) ≤ 14
unfolding frame_answer
frame_most f = (by (eqb (outer_refusal f) 0) refl).most
  where
    by : (b : Bool) → eqb (outer_refusal f) 0 ≡ b → Low (pick b (pick (eqb (get_or f 1 0) 4) (short_answer f) (long_answer f)) (Err (refusal (outer_refusal f))))
    by true e = low_pick (eqb (get_or f 1 0) 4) (short_low f) (long_low f (bounded f (eqb-true (outer_refusal f) 0 e)))
    by false e = record { most = number_low 14 _ (omega arith) (omega arith) (outer_most f) }

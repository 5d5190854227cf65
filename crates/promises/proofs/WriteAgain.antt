-- What the reader accepts the writer accepts, and writes as long, each octet with what its layout keeps. Assumes nothing.
use Prim.Native.Nat.{ℕ, zero, suc, ◌+◌, ◌-◌, ◌*◌, ◌<◌, ◌≤◌}
use mathlib.Core.Path.{◌≡◌, refl, sym, ap, ◌∙◌}
use mathlib.Core.Bool.{Bool, true, false}
use mathlib.Core.List.{List, [], ◌∷◌, ◌++◌, append-nil}
use native.Mathlib.Omega.{arith}
use native.Mathlib.Nat.{add-zero, zero-add, zero-mul, add-mul, le_trans, le_of_eq}
use borrow.Author.Tests.{eq-eqb, le-ltb}
use lib.ListN.{length, get_or, take, drop, replicate, length-append, length-drop}
use lib.Seq.{drop-drop, drop-nil}
use Rattle.laws.specs.Bits.{Layout, whole, kept}
use Rattle.laws.specs.Choice.{pick}
use Rattle.laws.specs.Lists.{Octets, tabulate, padded}
use Rattle.laws.specs.Numbers.{le_of}
use Rattle.laws.proofs.Lists.{octets_drop, length_tabulate}
use Rattle.laws.proofs.Numbers as Numbers
use Rattle.objects.specs.Kinds.{type_of, kind_of, size_of, form_of, value_kind}
use Rattle.objects.specs.Elements.{element_of, value_refusal}
use Rattle.objects.specs.Objects.{blank, object_of, object_octets, kind_refusal, address_refusal, object_refusal}
use Rattle.objects.specs.Promises.{kept_by}
use Rattle.objects.specs.declared.kinds.Kind.{Kind}
use Rattle.objects.specs.declared.Object.{Object}
use Rattle.objects.proofs.TypeNumbers.{kind_type}
use Rattle.objects.proofs.Elements.{element_level, kept_wholes}
use Rattle.asdu.specs.Header.{cause_listed, step_of, needed, sequence_in, count_in, header_in, header_answer}
use Rattle.asdu.specs.Records.{filled, asdu_of}
use Rattle.asdu.specs.Reading.{object_in, objects_in, read_asdu}
use Rattle.asdu.specs.Writing.{own_objects, first_address, first_refusal, shape_refusal, size_refusal, write_refusal_by, write_refusal, header_octets, body_octets, objects_octets, address_octets, asdu_octets}
use Rattle.asdu.specs.declared.Asdu.{Asdu}
use Rattle.asdu.specs.declared.ReadAsdu.{ReadAsdu}
use Rattle.asdu.proofs.Lengths.{some_passes, needed_parts, needed_next}
use Rattle.promises.specs.Asdus.{times, body_form, asdu_form, WrittenAgain, AsduWritesAgain}
use Rattle.promises.proofs.Bodies.{head_read, Accepted, accepted, header_taken, rising, read_is, own_back}
use Rattle.std.specs.Prelude.{Some}

-- ---- what forms keep

kept_none : (s : List ℕ) → kept_by [] s ≡ []
unfolding kept_by
kept_none s = refl

kept_append : (f g : List Layout) (s : List ℕ) → kept_by (f ++ g) s ≡ kept_by f s ++ kept_by g (drop (length f) s)
unfolding kept_by
kept_append [] g s = refl
kept_append (l ∷ f) g [] = rw (kept_append f g [], drop-nil (length f))
kept_append (l ∷ f) g (b ∷ s) = ap (λ (x : List ℕ). kept l b ∷ x) (kept_append f g s)

length_kept : (f : List Layout) (s : List ℕ) → length (kept_by f s) ≡ length f
unfolding kept_by
length_kept [] s = refl
length_kept (l ∷ f) s = ap suc (length_kept f (drop 1 s))

-- the form of one object in each layout, and of the address before all
abbrev pub unit_form : Bool → Kind → List Layout
unit_form true k = form_of k
unit_form false k = replicate 3 whole ++ form_of k

abbrev pub address_form : Bool → List Layout
address_form true = replicate 3 whole
address_form false = []

pub body_form_law : (q : Bool) (k : Kind) (n : ℕ) → body_form q k n ≡ address_form q ++ times n (unit_form q k)
body_form_law true k n = refl
body_form_law false k n = refl

-- ---- where objects begin: object i at `needed k q i`, one step after the one before

unit_long : (k : Kind) (q : Bool) → length (unit_form q k) ≡ step_of k q
unfolding step_of
unit_long k true = refl
unit_long k false = omega arith

unit_size : (k : Kind) (q : Bool) → length (unit_form q k) ≡ pick q 0 3 + size_of k
unit_size k true = omega arith
unit_size k false = omega arith

-- object 0 begins after the header and the address before all
address_long : (k : Kind) (q : Bool) → 6 + length (address_form q) ≡ needed k q 0
unfolding needed
address_long k true = omega (arith, zero-mul (step_of k true))
address_long k false = omega (arith, zero-mul (step_of k false))

module _ (k : Kind) (q : Bool) where
  needed_mono : (i m : ℕ) → needed k q i ≤ needed k q (i + m)
  needed_mono i m = omega (arith, needed_parts k q i, needed_parts k q (i + m), add-mul i m (step_of k q))

  pub next_unit : (s : List ℕ) (i : ℕ) → drop (length (unit_form q k)) (drop (needed k q i) s) ≡ drop (needed k q (suc i)) s
  next_unit s i = drop-drop (length (unit_form q k)) (needed k q i) s ∙ rw (unit_long k q, needed_next k q i)

  times_long : (n i : ℕ) → needed k q i + length (times n (unit_form q k)) ≡ needed k q (i + n)
  times_long zero i = rw (add-zero i) (add-zero (needed k q i))
  times_long (suc n) i =
      let e : i + suc n ≡ suc i + n = omega arith in
      rw (e, length-append (unit_form q k) (times n (unit_form q k))) (omega (arith, unit_long k q, needed_next k q i, times_long n (suc i)))

  pub after_address : (s : List ℕ) → drop (length (address_form q)) (drop 6 s) ≡ drop (needed k q 0) s
  after_address s = drop-drop (length (address_form q)) 6 s ∙ rw (address_long k q)

  pub form_long : (n : ℕ) → length (replicate 6 whole ++ body_form q k n) ≡ needed k q n
  form_long n =
      rw (body_form_law q k n, length-append (address_form q) (times n (unit_form q k)))
      (omega (arith, address_long k q, times_long n 0, ap (needed k q) (zero-add n)))

-- ---- the objects

-- the octets of an object's element
abbrev element_at : Kind → Bool → List ℕ → ℕ → List ℕ
element_at k q s i = drop (pick q 0 3) (drop (needed k q i) s)

module _ (k : Kind) (s : List ℕ) (o : Octets s) where
  value_at : (q : Bool) (i : ℕ) → (object_in k q s i).value ≡ element_of k (element_at k q s i)
  unfolding object_in object_of needed
  value_at true i = refl
  value_at false i = refl

  module _ (q : Bool) (i : ℕ) (h : needed k q (suc i) ≤ length s) where
    unit_fits : length (unit_form q k) ≤ length (drop (needed k q i) s)
    unit_fits = rw length-drop (omega (arith, unit_long k q, needed_next k q i))

    element_octets_law : Octets (element_at k q s i)
    element_octets_law = octets_drop (pick q 0 3) (drop (needed k q i) s) (octets_drop (needed k q i) s o)

    element_fits : size_of k ≤ length (element_at k q s i)
    element_fits = let l = unit_fits in rw (length-drop (pick q 0 3) (drop (needed k q i) s)) (omega (arith, unit_size k q))

    -- its value is of the kind and can be written
    value_kind_law : value_kind (object_in k q s i).value ≡ k
    value_kind_law = ap value_kind (value_at q i) ∙ element_level.kinded k (element_at k q s i)

    value_accepted : value_refusal (object_in k q s i).value ≡ 0
    value_accepted = ap value_refusal (value_at q i) ∙ element_level.accepted k (element_at k q s i) element_octets_law element_fits

  -- an object that is read is written again with what its form keeps
  object_kept : (q : Bool) (i : ℕ) → needed k q (suc i) ≤ length s → body_octets q (object_in k q s i) ≡ kept_by (unit_form q k) (drop (needed k q i) s)
  unfolding body_octets object_in object_of object_octets needed
  object_kept true i h = element_level.again k (element_at k true s i) (element_octets_law true i h) (element_fits true i h)
  object_kept false i h =
      let u = drop (needed k false i) s in
      let ou = octets_drop (needed k false i) s o in
      let l = unit_fits false i h in
      rw (Numbers.writes_again 3 u ou (omega arith), element_level.again k (drop 3 u) (element_octets_law false i h) (element_fits false i h))
      (sym (kept_wholes 3 (form_of k) u ou (omega arith)))

  -- m objects from object i on
  objects_kept : (q : Bool) (m i : ℕ) → needed k q (i + m) ≤ length s
      → objects_octets q (tabulate (object_in k q s) i m) ≡ kept_by (times m (unit_form q k)) (drop (needed k q i) s)
  unfolding objects_octets tabulate
  objects_kept q zero i h = sym (kept_none (drop (needed k q i) s))
  objects_kept q (suc m) i h =
      let e : i + suc m ≡ suc i + m = omega arith in
      let h' = rw e at h in
      rw (
        kept_append (unit_form q k) (times m (unit_form q k)) (drop (needed k q i) s),
        next_unit k q s i,
        object_kept q i (le_trans (needed_mono k q (suc i) m) h'),
        objects_kept q m (suc i) h',
      )

-- ---- the record

-- what reading gives
abbrev record_in : Kind → List ℕ → Asdu
record_in k s = asdu_of (header_in k s) (filled (objects_in (header_in k s) s))

first_filled : (f : ℕ → Object) (n : ℕ) → 1 ≤ n → get_or (filled (tabulate f 0 n)) 0 blank ≡ f 0
unfolding padded tabulate
first_filled f zero h = absurd (omega arith)
first_filled f (suc n) h = refl

-- ---- what the writer accepts

-- the record: no refusal of cause, type, shape, objects or room
record_accepted : (a : Asdu) (k : Kind) (room : ℕ) → cause_listed a.cause ≡ true → kind_of a.type_id ≡ Some k → a.count ≤ 127
    → (a.sequence ≡ true → (1 ≤ a.count) × (1 ≤ size_of k)) → first_refusal k a.sequence (first_address a) 0 (own_objects a) ≡ 0
    → needed k a.sequence a.count ≤ 249 → needed k a.sequence a.count ≤ room → write_refusal a room ≡ 0
unfolding write_refusal write_refusal_by shape_refusal size_refusal
record_accepted a k room c e n q f l r =
    let long = needed k a.sequence a.count in
    rw (c, e, le-ltb 127 a.count n, some_passes a.sequence a.count (size_of k) q, f, le-ltb 249 long l, le-ltb room long r)

-- an object of the kind with an address in its place, and all of them
object_accepted : (k : Kind) (q : Bool) (first i : ℕ) (o : Object) → value_kind o.value ≡ k → value_refusal o.value ≡ 0 → o.address < 16777216
    → (q ≡ true → o.address ≡ first + i) → object_refusal k q first i o ≡ 0
unfolding object_refusal kind_refusal address_refusal
object_accepted k true first i o e v l a = rw (e, eq-eqb (type_of k) (type_of k) refl, le-ltb 16777215 o.address (omega arith), eq-eqb o.address (first + i) (a refl), v)
object_accepted k false first i o e v l a = rw (e, eq-eqb (type_of k) (type_of k) refl, le-ltb 16777215 o.address (omega arith), v)

objects_accepted : (k : Kind) (q : Bool) (first : ℕ) (f : ℕ → Object) (m i : ℕ) → ((j : ℕ) → j < i + m → object_refusal k q first j (f j) ≡ 0)
    → first_refusal k q first i (tabulate f i m) ≡ 0
unfolding first_refusal tabulate
objects_accepted k q first f zero i h = refl
objects_accepted k q first f (suc m) i h = rw (h i (omega arith)) (objects_accepted k q first f m (suc i) (λ j b. h j (omega arith)))

-- ---- an accepted list of octets

module _ (k : Kind) (s : List ℕ) (o : Octets s) (c : Accepted k s) where
  record_is : (read_asdu s).asdu ≡ record_in k s
  record_is = ap (λ (r : ReadAsdu). r.asdu) (read_is (header_in k s) s (header_taken k s c.headed) c.none)

  own : own_objects (record_in k s) ≡ tabulate (object_in k (sequence_in s) s) 0 (count_in s)
  unfolding header_in
  own = own_back (count_in s) _ (length_tabulate (object_in k (sequence_in s) s) 0 (count_in s))

  head : header_octets (record_in k s) ≡ take 6 s
  unfolding header_octets
  head = head_read k s o c.headed

  -- addresses: of three octets, and in a sequence the first and the index
  low : (q : Bool) → sequence_in s ≡ q → (i : ℕ) → i < count_in s → (object_in k q s i).address < 16777216
  unfolding object_in object_of
  low true e i h = omega (arith, rising k s o c e)
  low false e i h = Numbers.le_fits 3 (drop (6 + i * step_of k false) s) (octets_drop (6 + i * step_of k false) s o)

  rises : (q : Bool) (i : ℕ) → q ≡ true → (object_in k q s i).address ≡ le_of 3 (drop 6 s) + i
  unfolding object_in
  rises q i e = rw e

  first_is : sequence_in s ≡ true → first_address (record_in k s) ≡ le_of 3 (drop 6 s)
  unfolding header_in
  first_is e =
      ap (λ (x : Object). x.address) (first_filled (object_in k (sequence_in s) s) (count_in s) (c.headed.some e).0)
      ∙ (rises (sequence_in s) 0 e ∙ add-zero (le_of 3 (drop 6 s)))

  within : (i : ℕ) → i ≤ count_in s → needed k (sequence_in s) i ≤ length s
  within i h =
      let n = count_in s in
      let e : i + (n - i) ≡ n = omega arith in
      omega (arith, c.headed.long, needed_mono k (sequence_in s) i (n - i), ap (needed k (sequence_in s)) e)

  -- in a sequence the address is written again as the three octets that it has
  address_kept : (q : Bool) → sequence_in s ≡ q → address_octets q (first_address (record_in k s)) ≡ kept_by (address_form q) (drop 6 s)
  unfolding address_octets
  address_kept true e =
      let ou = octets_drop 6 s o in
      let l : 3 ≤ length (drop 6 s) = rw length-drop (omega (arith, within 0 (omega arith), address_long k true, ap (λ (q : Bool). needed k q 0) e)) in
      rw (first_is e, Numbers.writes_again 3 (drop 6 s) ou l) (sym (kept_wholes 3 [] (drop 6 s) ou l ∙ rw (kept_none (drop 3 (drop 6 s)), append-nil)))
  address_kept false e = sym (kept_none (drop 6 s))

  objects_none : first_refusal k (sequence_in s) (first_address (record_in k s)) 0 (own_objects (record_in k s)) ≡ 0
  objects_none =
      let q = sequence_in s in
      rw own
      (objects_accepted k q (first_address (record_in k s)) (object_in k q s) (count_in s) 0
      (λ j h.
      let g = within (suc j) (omega arith) in
      object_accepted k q (first_address (record_in k s)) j (object_in k q s j) (value_kind_law k s o q j g) (value_accepted k s o q j g) (low q refl j (omega arith))
      (λ e. rises q j e ∙ ap (λ (a : ℕ). a + j) (sym (first_is e)))))

  -- header, address and objects together
  kept_again : asdu_octets (record_in k s) ≡ kept_by (replicate 6 whole ++ body_form (sequence_in s) k (count_in s)) s
  unfolding asdu_octets header_in
  kept_again =
      let q = sequence_in s in
      let n = count_in s in
      let first = first_address (record_in k s) in
      let objects : objects_octets q (own_objects (record_in k s)) ≡ kept_by (times n (unit_form q k)) (drop (needed k q 0) s) =
      ap (objects_octets q) own ∙ objects_kept k s o q n 0 (rw (zero-add n) (le_of_eq (sym c.headed.long))) in
      let body : address_octets q first ++ objects_octets q (own_objects (record_in k s)) ≡ kept_by (body_form q k n) (drop 6 s) =
      rw (address_kept q refl, objects, body_form_law q k n, kept_append (address_form q) (times n (unit_form q k)) (drop 6 s), after_address k q s) in
      rw (head, body) (sym (kept_wholes 6 (body_form q k n) s o c.headed.six))

  by_answer : kept_by (asdu_form (header_answer s)) s ≡ kept_by (replicate 6 whole ++ body_form (sequence_in s) k (count_in s)) s
  unfolding header_in
  by_answer = rw (header_taken k s c.headed)

  accepted_again : (room : ℕ) → length s ≤ room → write_refusal (record_in k s) room ≡ 0
  unfolding header_in
  accepted_again room h =
      let g = c.headed in
      record_accepted (record_in k s) k room g.listed (kind_type k) (omega arith) g.some objects_none
      (omega (arith, g.long, g.short)) (omega (arith, g.long))

  -- the writing of the reading
  pub written : asdu_octets (read_asdu s).asdu ≡ kept_by (replicate 6 whole ++ body_form (sequence_in s) k (count_in s)) s
  written = ap asdu_octets record_is ∙ kept_again

  again : (room : ℕ) → length s ≤ room → WrittenAgain s room
  again room h = record {
    accepted = rw record_is (accepted_again room h);
    long = ap length written ∙ (length_kept _ s ∙ (form_long k (sequence_in s) (count_in s) ∙ sym c.headed.long));
    kept = written ∙ sym by_answer;
  }

-- What the reader accepts and we write again differs only in the reserved bits.
pub writes_again : AsduWritesAgain
writes_again s room o none h = let (k, c) = accepted s none in again k s o c room h

-- What the writer accepts reads back as the same record, blank past its count. Assumes nothing.
use Prim.Native.Nat.{ℕ, zero, suc, ◌+◌, ◌*◌, ◌≤◌}
use mathlib.Core.Path.{◌≡◌, refl, sym, ap, ◌∙◌}
use mathlib.Core.Bool.{Bool, true, false}
use mathlib.Core.List.{List, [], ◌∷◌, ◌++◌, append_assoc}
use native.Mathlib.Omega.{arith}
use native.Mathlib.Nat.{zero-mul}
use lib.ListN.{length, drop, take}
use lib.Seq.{drop_at, drop-drop}
use borrow.Author.Tests.{le-ltb}
use Rattle.laws.specs.Choice.{pick}
use Rattle.laws.specs.Lists.{tabulate}
use Rattle.laws.specs.Numbers.{le_of, le_octets}
use Rattle.laws.proofs.Numbers.{reads_back as number_back, length_octets}
use Rattle.objects.specs.Elements.{element_of, element_octets}
use Rattle.objects.specs.Objects.{object_of, object_octets, object_answer}
use Rattle.objects.specs.Promises.{Typed}
use Rattle.objects.specs.declared.kinds.Kind.{Kind}
use Rattle.objects.specs.declared.Object.{Object}
use Rattle.objects.proofs.TypeNumbers.{type_kind}
use Rattle.objects.proofs.Elements.{element_level}
use Rattle.objects.proofs.Objects.{Fit}
use Rattle.asdu.specs.Header.{step_of, needed, header_answer}
use Rattle.asdu.specs.Records.{filled, asdu_of}
use Rattle.asdu.specs.Reading.{object_in, object_at, answer_at, first_number, objects_refusal, objects_in, read_asdu}
use Rattle.asdu.specs.Writing.{own_objects, first_address, first_refusal, header_octets, body_octets, objects_octets, address_octets, asdu_octets}
use Rattle.asdu.specs.declared.Asdu.{Asdu}
use Rattle.asdu.specs.declared.header.Header.{Header}
use Rattle.asdu.proofs.Lengths.{fits, body_long, address_long, needed_parts, needed_next, Writable, writable, own_long, asdu_long}
use Rattle.promises.specs.Asdus.{TypedObjects, TypedAsdu, Back, ReadBack, AsduReadsBack}
use Rattle.asdu.proofs.Checked.{read_passes}
use Rattle.promises.proofs.Bodies.{head_octets, long_head, Fields, header_passes, after_head, read_is, own_back, past_blank}
use Rattle.std.specs.Prelude.{Ok}
use Rattle.elements.specs.Refusals.{answer_number}

-- ---- objects come back

-- object i, from the place where it begins, whatever follows
object_back : (k : Kind) (q : Bool) (s : List ℕ) (first i : ℕ) (o : Object) (rest : List ℕ) → Fit k q first i o → Typed o.value
    → (q ≡ true → le_of 3 (drop 6 s) ≡ first) → drop (needed k q i) s ≡ body_octets q o ++ rest → object_in k q s i ≡ o
unfolding object_in needed body_octets object_of object_octets
object_back k true s first i o rest f t l e =
    let a : le_of 3 (drop 6 s) + i ≡ o.address = omega (arith, l refl, f.next refl) in
    let v : element_of k (drop (9 + i * step_of k true) s) ≡ o.value =
    rw (e, ← f.kind) (element_level.back o.value rest t f.value) in
    λ j. record { address = a j; value = v j }
object_back k false s first i o rest f t l e =
    let g = e ∙ append_assoc (le_octets 3 o.address) (element_octets o.value) rest in
    let a : le_of 3 (drop (6 + i * step_of k false) s) ≡ o.address = rw g (number_back 3 o.address (element_octets o.value ++ rest) (omega (arith, f.small))) in
    let v : element_of k (drop 3 (drop (6 + i * step_of k false) s)) ≡ o.value =
    rw (g, drop_at (le_octets 3 o.address) (element_octets o.value ++ rest) 3 (length_octets 3 o.address), ← f.kind) (element_level.back o.value rest t f.value) in
    λ j. record { address = a j; value = v j }

small_passes : (h : Header) (s : List ℕ) (i : ℕ) → (object_at h s i).address ≤ 16777215 → answer_number (answer_at h s i) ≡ 0
unfolding answer_at object_answer
small_passes h s i l = rw (le-ltb 16777215 (object_at h s i).address l)

-- all of them, and none is refused
record AllBack (h : Header) (s : List ℕ) (i : ℕ) (os : List Object) : Type 0 where
  are : tabulate (object_at h s) i (length os) ≡ os
  pass : first_number (λ (j : ℕ). answer_number (answer_at h s j)) i (length os) ≡ 0

all_back : (h : Header) (s : List ℕ) (first : ℕ) → (h.sequence ≡ true → le_of 3 (drop 6 s) ≡ first)
    → (i : ℕ) (os : List Object) → first_refusal h.kind h.sequence first i os ≡ 0 → TypedObjects os
    → drop (needed h.kind h.sequence i) s ≡ objects_octets h.sequence os → AllBack h s i os
unfolding objects_octets tabulate first_number
all_back h s first l i [] r t e = record { are = refl; pass = refl }
all_back h s first l i (o ∷ os) r t e =
    let k = h.kind in
    let q = h.sequence in
    let (f, r') = fits k q first i o os r in
    let e' : drop (needed k q (suc i)) s ≡ objects_octets q os =
    ap (λ (n : ℕ). drop n s) (needed_next k q i)
    ∙ (sym (drop-drop (step_of k q) (needed k q i) s)
    ∙ (ap (drop (step_of k q)) e ∙ drop_at (body_octets q o) (objects_octets q os) (step_of k q) (body_long k q o f.kind))) in
    let one : object_at h s i ≡ o = object_back k q s first i o (objects_octets q os) f t.1.0 l e in
    let more = all_back h s first l (suc i) os r' t.1.1 e' in
    let none : answer_number (answer_at h s i) ≡ 0 = small_passes h s i (rw one f.small) in
    record { are = rw (one, more.are); pass = rw (none, more.pass) }

-- ---- the record comes back

typed_take : (n : ℕ) (os : List Object) → TypedObjects os → TypedObjects (take n os)
typed_take zero os t = tt
typed_take (suc n) [] t = tt
typed_take (suc n) (o ∷ os) t = (t.0, (t.1.0, typed_take n os t.1.1))

-- the first address of a sequence fits three octets
first_small : (k : Kind) (first : ℕ) (os : List Object) → first_refusal k true first 0 os ≡ 0 → 1 ≤ length os → first ≤ 16777215
first_small k first [] r h = absurd (omega arith)
first_small k first (o ∷ os) r h = let f = (fits k true first 0 o os r).0 in omega (arith, f.small, f.next refl)

-- what stands after the header, and where its objects begin
abbrev body : Asdu → List ℕ
body a = address_octets a.sequence (first_address a) ++ objects_octets a.sequence (own_objects a)

abbrev header_for : Kind → Asdu → Header
header_for k a = record {
  kind = k;
  count = a.count;
  sequence = a.sequence;
  test = a.test;
  negative = a.negative;
  cause = a.cause;
  originator = a.originator;
  address = a.address;
}

begin_at : (k : Kind) (q : Bool) (s : List ℕ) (first : ℕ) (l : List ℕ) → drop 6 s ≡ address_octets q first ++ l → drop (needed k q 0) s ≡ l
begin_at k q s first l e =
    let m : needed k q 0 ≡ 6 + pick q 3 0 = omega (arith, needed_parts k q 0, zero-mul (step_of k q)) in
    ap (λ (n : ℕ). drop n s) m
    ∙ (sym (drop-drop (pick q 3 0) 6 s) ∙ (ap (drop (pick q 3 0)) e ∙ drop_at (address_octets q first) l (pick q 3 0) (address_long q first)))

first_back : (q : Bool) (s : List ℕ) (first : ℕ) (l : List ℕ) → drop 6 s ≡ address_octets q first ++ l → (q ≡ true → first ≤ 16777215) → q ≡ true → le_of 3 (drop 6 s) ≡ first
unfolding address_octets
first_back true s first l e h g = rw e (number_back 3 first l (omega (arith, h refl)))
first_back false s first l e h g = let z : ◌≡◌ {A = ℕ} 0 1 = cc in absurd (omega arith)

objects_pass : (h : Header) (s : List ℕ) (os : List Object) → length os ≡ h.count → AllBack h s 0 os → (objects_refusal h s ≡ 0) × (objects_in h s ≡ os)
unfolding objects_refusal
objects_pass h s os n b = (ap (first_number (λ (j : ℕ). answer_number (answer_at h s j)) 0) (sym n) ∙ b.pass, ap (tabulate (object_at h s) 0) (sym n) ∙ b.are)

-- a record that is not refused: its octets are six of its header and the body, and reading them gives it again
module _ (k : Kind) (a : Asdu) (room : ℕ) (w : Writable k a room) (t : TypedAsdu a) where
  fields : Fields (header_for k a)
  fields = record { counted = w.counted; listed = w.listed; addressed = t.address_octets_law }

  own : length (own_objects a) ≡ a.count
  own = own_long k a room w t.array

  octets_are : asdu_octets a ≡ head_octets (header_for k a) ++ body a
  unfolding asdu_octets header_octets
  octets_are = rw (type_kind a.type_id k w.kind)

  whole_long : 6 + length (body a) ≡ needed k a.sequence a.count
  whole_long = omega (arith, long_head (header_for k a) (body a), ap length octets_are, asdu_long k a room w t.array)

  answered : header_answer (asdu_octets a) ≡ Ok (header_for k a)
  answered = rw octets_are (header_passes (header_for k a) (body a) fields whole_long (omega (arith, whole_long, w.short)) w.some)

  after : drop 6 (asdu_octets a) ≡ body a
  after = rw octets_are (after_head (header_for k a) (body a))

  low : a.sequence ≡ true → first_address a ≤ 16777215
  low e = first_small k (first_address a) (own_objects a) (rw e at w.each) (omega (arith, own, (w.some e).0))

  objects : (objects_refusal (header_for k a) (asdu_octets a) ≡ 0) × (objects_in (header_for k a) (asdu_octets a) ≡ own_objects a)
  objects = objects_pass (header_for k a) (asdu_octets a) (own_objects a) own
      (all_back (header_for k a) (asdu_octets a) (first_address a) (first_back a.sequence (asdu_octets a) (first_address a) _ after low)
      0 (own_objects a) w.each (typed_take a.count a.objects t.typed) (begin_at k a.sequence (asdu_octets a) (first_address a) _ after))

  back_is : Back a (asdu_of (header_for k a) (filled (own_objects a)))
  back_is = record {
    same = record {
      type_same = type_kind a.type_id k w.kind;
      count_same = refl;
      sequence_same = refl;
      test_same = refl;
      negative_same = refl;
      cause_same = refl;
      originator_same = refl;
      address_same = refl;
      objects_same = sym (own_back a.count (own_objects a) own);
    };
    rest = past_blank a.count (own_objects a) own;
  }

  read_back : ReadBack a
  read_back =
      let is : read_asdu (asdu_octets a) ≡ record { asdu = asdu_of (header_for k a) (filled (own_objects a)); answer = Ok tt } =
      read_is (header_for k a) (asdu_octets a) answered objects.0 ∙ ap (λ (os : List Object). record { asdu = asdu_of (header_for k a) (filled os); answer = Ok tt }) objects.1 in
      record {
        accepted = read_passes (asdu_octets a) (header_for k a) answered objects.0;
        answered = rw is;
        back = rw is back_is;
      }

-- What the writer accepts reads back as the same record.
pub reads_back : AsduReadsBack
reads_back a room t h = let (k, w) = writable a room h in read_back k a room w t

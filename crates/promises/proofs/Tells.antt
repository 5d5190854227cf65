-- The test for plain form tells exactly whether writing the reading gives the same octets. Assumes nothing.
use Prim.Native.Nat.{ℕ, zero, suc, ◌+◌, ◌*◌}
use mathlib.Core.Path.{◌≡◌, refl, sym, ap, ◌∙◌}
use mathlib.Core.Bool.{Bool, true, false, ◌&&◌, and-true, and_assoc}
use mathlib.Core.List.{List, ◌++◌}
use native.Mathlib.Omega.{arith}
use native.Mathlib.Nat.{add-zero, zero-add, le_of_eq}
use borrow.Author.Tests.{eqb-true, eqb-false}
use lib.Dec.{eqb}
use lib.ListN.{length, take, drop, replicate}
use lib.Seq.{drop-drop, take-length}
use Rattle.laws.specs.Bits.{Layout, whole}
use Rattle.laws.specs.Lists.{Octets, every}
use Rattle.laws.proofs.Lists.{octets_drop}
use Rattle.elements.specs.Refusals.{refusal}
use Rattle.objects.specs.Kinds.{form_of}
use Rattle.objects.specs.declared.kinds.Kind.{Kind}
use Rattle.asdu.specs.Header.{step_of, needed, sequence_in, count_in, header_in}
use Rattle.asdu.specs.Reading.{read_refusal, checked_header, read_asdu}
use Rattle.asdu.specs.Writing.{asdu_octets}
use Rattle.asdu.specs.Plain.{plain_form, plain_element, plain_objects, plain_answer}
use Rattle.asdu.proofs.Kept.{Apart, apart_form, apart_append, plain_kept, kept_plain, plain_append, Covered, plain_covered}
use Rattle.laws.specs.Choice.{pick}
use Rattle.asdu.proofs.Checked.{checked_is}
use Rattle.promises.specs.Asdus.{times, body_form, Told, Tells}
use Rattle.promises.proofs.Bodies.{Accepted, accepted, header_taken}
use Rattle.promises.proofs.WriteAgain.{unit_form, address_form, body_form_law, next_unit, after_address, form_long, written}
use Rattle.std.specs.Prelude.{Ok, Err}
use Rattle.asdu.specs.declared.Form.TheVariants.{Plain, Reserved}

-- ---- the fields of every form lie apart

unit_apart : (q : Bool) (k : Kind) → Apart (unit_form q k)
unit_apart true k = apart_form k
unit_apart false k = (tt, (tt, (tt, apart_form k)))

address_apart : (q : Bool) → Apart (address_form q)
address_apart true = (tt, (tt, (tt, tt)))
address_apart false = tt

times_apart : (n : ℕ) (f : List Layout) → Apart f → Apart (times n f)
times_apart zero f a = tt
times_apart (suc n) f a = apart_append f (times n f) a (times_apart n f a)

form_apart : (q : Bool) (k : Kind) (n : ℕ) → Apart (replicate 6 whole ++ body_form q k n)
form_apart q k n =
    let body : Apart (body_form q k n) = rw (body_form_law q k n) (apart_append (address_form q) (times n (unit_form q k)) (address_apart q) (times_apart n (unit_form q k) (unit_apart q k))) in
    (tt, (tt, (tt, (tt, (tt, (tt, body))))))

-- ---- the objects' test is that of all octets

-- whole octets have no reserved bit
three : Covered (replicate 3 whole)
three = ((tt, tt), ((tt, tt), ((tt, tt), tt)))

module _ (k : Kind) (s : List ℕ) (o : Octets s) where
  -- an address has no reserved bit, so that an object is plain where its element is
  unit_plain : (q : Bool) (i : ℕ) → plain_form (unit_form q k) (drop (needed k q i) s) ≡ plain_form (form_of k) (drop (9 + i * step_of k q) s)
  unfolding needed
  unit_plain true i = refl
  unit_plain false i =
      let p = 6 + i * step_of k false in
      let e : p + 3 ≡ 9 + i * step_of k false = omega arith in
      plain_append (replicate 3 whole) (form_of k) (drop p s)
      ∙ rw (plain_covered (replicate 3 whole) (drop p s) three (octets_drop p s o), drop-drop 3 p s, e)

  -- m objects from object i on, after those before
  objects_plain : (m i : ℕ) → every (plain_element (header_in k s) s) (i + m)
      ≡ (every (plain_element (header_in k s) s) i && plain_form (times m (unit_form (sequence_in s) k)) (drop (needed k (sequence_in s) i) s))
  unfolding every plain_element header_in
  objects_plain zero i = rw (add-zero i) (sym (and-true (every (plain_element (header_in k s) s) i)))
  objects_plain (suc m) i =
      let q = sequence_in s in
      let test = plain_element (header_in k s) s in
      let f = unit_form q k in
      let u = drop (needed k q i) s in
      let e : i + suc m ≡ suc i + m = omega arith in
      let first : plain_form (f ++ times m f) u ≡ (test i && plain_form (times m f) (drop (needed k q (suc i)) s)) =
      plain_append f (times m f) u ∙ rw (unit_plain q i, next_unit k q s i) in
      ap (every test) e ∙ (objects_plain m (suc i) ∙ (and_assoc (every test i) (test i) _ ∙ ap (λ (b : Bool). every test i && b) (sym first)))

  all_plain : (n : ℕ) → every (plain_element (header_in k s) s) n ≡ plain_form (times n (unit_form (sequence_in s) k)) (drop (needed k (sequence_in s) 0) s)
  unfolding every
  all_plain n = ap (every (plain_element (header_in k s) s)) (sym (zero-add n)) ∙ objects_plain n 0

  address_plain : (q : Bool) → plain_form (address_form q) (drop 6 s) ≡ true
  address_plain true = plain_covered (replicate 3 whole) (drop 6 s) three (octets_drop 6 s o)
  address_plain false = refl

  -- header and addresses have no reserved bit, so that the test of the elements is that of all octets
  form_plain : plain_form (replicate 6 whole ++ body_form (sequence_in s) k (count_in s)) s ≡ plain_objects (header_in k s) s
  unfolding plain_objects header_in
  form_plain =
      let q = sequence_in s in
      let n = count_in s in
      let f = times n (unit_form q k) in
      let rest : plain_form (body_form q k n) (drop 6 s) ≡ every (plain_element (header_in k s) s) n =
      rw (body_form_law q k n) (plain_append (address_form q) f (drop 6 s) ∙ rw (address_plain q, after_address k q s) (sym (all_plain n))) in
      plain_append (replicate 6 whole) (body_form q k n) s ∙ rw (plain_covered (replicate 6 whole) s ((tt, tt), ((tt, tt), ((tt, tt), three))) o) rest

-- ---- the answer

module _ (k : Kind) (s : List ℕ) (o : Octets s) (c : Accepted k s) where
  -- the form of all octets, as long as they are
  abbrev form : List Layout
  form = replicate 6 whole ++ body_form (sequence_in s) k (count_in s)

  test_is : plain_objects (header_in k s) s ≡ plain_form form s
  test_is = sym (form_plain k s o)

  answer_is : plain_answer s ≡ Ok (pick (plain_objects (header_in k s) s) Plain Reserved)
  unfolding plain_answer
  answer_is = rw (checked_is s (header_in k s) (header_taken k s c.headed) c.none)

  long : length form ≡ length s
  long = form_long k (sequence_in s) (count_in s) ∙ sym c.headed.long

  all : take (length form) s ≡ s
  all = ap (λ (n : ℕ). take n s) long ∙ take-length s

  -- plain by the test exactly if writing the reading gives the same octets
  same_if : plain_objects (header_in k s) s ≡ true → asdu_octets (read_asdu s).asdu ≡ s
  same_if p = written k s o c ∙ (plain_kept form s (form_apart (sequence_in s) k (count_in s)) (le_of_eq long) (sym test_is ∙ p) ∙ all)

  only_if : asdu_octets (read_asdu s).asdu ≡ s → plain_objects (header_in k s) s ≡ true
  only_if e = test_is ∙ kept_plain form s (le_of_eq long) (sym (written k s o c) ∙ (e ∙ sym all))

-- plain or reserved by the test, where nothing is refused
module _ (s : List ℕ) (o : Octets s) where
  by_test : (k : Kind) (c : Accepted k s) (t : Bool) → plain_objects (header_in k s) s ≡ t → read_refusal s ≡ 0 → Told s
  by_test k c true p r =
      let is : plain_answer s ≡ Ok Plain = answer_is k s o c ∙ rw p in
      let same = same_if k s o c p in
      record {
        plain = ((λ a. (r, same)), (λ x. is));
        differs = ((λ a. let z : ◌≡◌ {A = ℕ} 0 1 = cc in absurd (omega arith)), (λ x. absurd (x.1 same)));
        refused = λ n. absurd (n r);
      }
  by_test k c false p r =
      let is : plain_answer s ≡ Ok Reserved = answer_is k s o c ∙ rw p in
      let differs : asdu_octets (read_asdu s).asdu ≡ s → ⊥ = λ e. let g = only_if k s o c e in let z : ◌≡◌ {A = ℕ} 0 1 = cc in omega arith in
      record {
        plain = ((λ a. let z : ◌≡◌ {A = ℕ} 0 1 = cc in absurd (omega arith)), (λ x. absurd (differs x.1)));
        differs = ((λ a. (r, differs)), (λ x. is));
        refused = λ n. absurd (n r);
      }

  refused : eqb (read_refusal s) 0 ≡ false → Told s
  unfolding plain_answer checked_header
  refused h =
      let is : plain_answer s ≡ Err (refusal (read_refusal s)) = rw h in
      let not = eqb-false (read_refusal s) 0 h in
      record {
        plain = ((λ a. let z : ◌≡◌ {A = ℕ} 0 1 = cc in absurd (omega arith)), (λ x. absurd (not x.0)));
        differs = ((λ a. let z : ◌≡◌ {A = ℕ} 0 1 = cc in absurd (omega arith)), (λ x. absurd (not x.0)));
        refused = λ n. is;
      }

-- A call tells exactly whether it differs.
pub tells : Tells
tells s o = by (eqb (read_refusal s) 0) refl
  where
    by : (t : Bool) → eqb (read_refusal s) 0 ≡ t → Told s
    by true e = let r = eqb-true (read_refusal s) 0 e in let (k, c) = accepted s r in by_test s o k c (plain_objects (header_in k s) s) refl r
    by false e = refused s o e

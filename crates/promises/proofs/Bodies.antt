-- The header in the octets of an ASDU, and what an accepted list of octets shows. Assumes nothing.
use Prim.Native.Nat.{ℕ, ◌+◌, ◌<◌, ◌≤◌}
use mathlib.Core.Path.{◌≡◌, refl, sym, ap, ◌∙◌}
use mathlib.Core.Bool.{Bool, true, not}
use mathlib.Core.List.{List, [], ◌∷◌, ◌++◌}
use native.Mathlib.Omega.{arith}
use native.Mathlib.Decide.{dec_le}
use lib.ListN.{length, get_or, take, drop, replicate, length-drop}
use lib.Seq.{drop_at}
use lib.Dec.{eqb, ltb}
use borrow.Author.Tests.{eqb-true, ltb-false, not-false, le-ltb, eq-eqb}
use Rattle.laws.specs.Bits.{field, flag, num, octet}
use Rattle.laws.specs.Lists.{Octets, padded}
use Rattle.laws.specs.Numbers.{le_of, le_octets}
use Rattle.laws.proofs.Layouts.{fields_octet, flag_num, num_flag, num_fits, kept_whole}
use Rattle.laws.proofs.Choices.{passed, held, both}
use Rattle.laws.proofs.Lists.{octet_fits, octets_drop, take_padded}
use Rattle.laws.proofs.Numbers.{reads_back, writes_again, le_fits}
use Rattle.objects.specs.Kinds.{type_of, kind_of, size_of}
use Rattle.objects.specs.Objects.{blank}
use Rattle.objects.specs.declared.kinds.Kind.{Kind}
use Rattle.objects.specs.declared.Object.{Object}
use Rattle.objects.proofs.TypeNumbers.{kind_type, type_kind}
use Rattle.asdu.specs.Header.{count_layout, cause_layout, cause_listed, needed, sequence_in, count_in, cause_in, header_in, early_refusal, layout_refusal, header_refusal_by, header_refusal, header_answer}
use Rattle.asdu.specs.Records.{filled, blanks, asdu_of}
use Rattle.asdu.specs.Reading.{objects_refusal, objects_in, objects_refusal_by, read_refusal, read_asdu}
use Rattle.asdu.specs.declared.header.Header.{Header}
use Rattle.asdu.proofs.Checked.{read_passes, checked_is}
use Rattle.asdu.proofs.Starts.{accepts}
use Rattle.asdu.proofs.Walk.{sequence_high}
use Rattle.asdu.proofs.Lengths.{some_of, some_passes, listed_small}
use Rattle.std.specs.Prelude.{Option, Some, None, Ok}

-- ---- the header's octets

-- fields that fit come back
record CountBack (n : ℕ) (q : Bool) (b : ℕ) : Type 0 where
  count : field 0 7 b ≡ n
  sequence : flag 7 b ≡ q

count_back : (n : ℕ) (q : Bool) → n ≤ 127 → CountBack n q (octet count_layout (n ∷ num q ∷ []))
count_back n q h =
    let e = fields_octet 8 count_layout (n ∷ num q ∷ []) tt (omega arith, (num_fits q, tt)) in
    record { count = ap (λ (l : List ℕ). get_or l 0 0) e; sequence = ap (λ (l : List ℕ). eqb (get_or l 1 0) 1) e ∙ num_flag q }

record CauseBack (c : ℕ) (negative test : Bool) (b : ℕ) : Type 0 where
  cause : field 0 6 b ≡ c
  negative_bit : flag 6 b ≡ negative
  test_bit : flag 7 b ≡ test

cause_back : (c : ℕ) (p t : Bool) → cause_listed c ≡ true → CauseBack c p t (octet cause_layout (c ∷ num p ∷ num t ∷ []))
cause_back c p t h =
    let small = listed_small c h in
    let e = fields_octet 8 cause_layout (c ∷ num p ∷ num t ∷ []) tt (omega arith, (num_fits p, (num_fits t, tt))) in
    record {
      cause = ap (λ (l : List ℕ). get_or l 0 0) e;
      negative_bit = ap (λ (l : List ℕ). eqb (get_or l 1 0) 1) e ∙ num_flag p;
      test_bit = ap (λ (l : List ℕ). eqb (get_or l 2 0) 1) e ∙ num_flag t;
    }

-- and an octet made of its own fields is the octet
count_whole : (b : ℕ) → b < 256 → octet count_layout (field 0 7 b ∷ num (flag 7 b) ∷ []) ≡ b
count_whole b h = rw (flag_num 7 b) (kept_whole b count_layout (tt, (tt, tt)) h)

cause_whole : (b : ℕ) → b < 256 → octet cause_layout (field 0 6 b ∷ num (flag 6 b) ∷ num (flag 7 b) ∷ []) ≡ b
cause_whole b h = rw (flag_num 6 b, flag_num 7 b) (kept_whole b cause_layout (tt, (tt, (tt, tt))) h)

six : (s : List ℕ) → 6 ≤ length s → get_or s 0 0 ∷ get_or s 1 0 ∷ get_or s 2 0 ∷ get_or s 3 0 ∷ take 2 (drop 4 s) ≡ take 6 s
six [] h = absurd (omega arith)
six (b0 ∷ []) h = absurd (omega arith)
six (b0 ∷ b1 ∷ []) h = absurd (omega arith)
six (b0 ∷ b1 ∷ b2 ∷ []) h = absurd (omega arith)
six (b0 ∷ b1 ∷ b2 ∷ b3 ∷ s) h = refl

-- ---- headers that are taken

-- what the header's refusals leave
pub record Headed (k : Kind) (s : List ℕ) : Type 0 where
  pub short : length s ≤ 249
  pub six : 6 ≤ length s
  pub listed : cause_listed (cause_in s) ≡ true
  pub kind : kind_of (get_or s 0 0) ≡ Some k
  pub long : length s ≡ needed k (sequence_in s) (count_in s)
  pub some : sequence_in s ≡ true → (1 ≤ count_in s) × (1 ≤ size_of k)

starts : (s : List ℕ) → length s ≤ 249 → 6 ≤ length s → cause_listed (cause_in s) ≡ true → early_refusal s ≡ 0
unfolding early_refusal
starts s h g c = rw (le-ltb 249 (length s) h, le-ltb (length s) 3 (omega arith), c, le-ltb (length s) 6 g)

laid_out : (k : Kind) (s : List ℕ) → Headed k s → layout_refusal k (sequence_in s) (count_in s) (length s) ≡ 0
unfolding layout_refusal
laid_out k s h = rw (eq-eqb (length s) (needed k (sequence_in s) (count_in s)) h.long) (some_passes (sequence_in s) (count_in s) (size_of k) h.some)

-- they are all that is asked of the header
pub header_taken : (k : Kind) (s : List ℕ) → Headed k s → header_answer s ≡ Ok (header_in k s)
header_taken k s h = sym (accepts s k (starts s h.short h.six h.listed) h.kind (laid_out k s h))

-- ---- six octets made of a header's fields, and any octets after them

abbrev pub head_octets : Header → List ℕ
head_octets h =
    type_of h.kind
    ∷ octet count_layout (h.count ∷ num h.sequence ∷ [])
    ∷ octet cause_layout (h.cause ∷ num h.negative ∷ num h.test ∷ [])
    ∷ h.originator
    ∷ le_octets 2 h.address

pub after_head : (h : Header) (body : List ℕ) → drop 6 (head_octets h ++ body) ≡ body
unfolding le_octets
after_head h body = refl

pub long_head : (h : Header) (body : List ℕ) → length (head_octets h ++ body) ≡ 6 + length body
unfolding le_octets
long_head h body = omega arith

-- the header's fields that can be out of range
pub record Fields (h : Header) : Type 0 where
  pub counted : h.count ≤ 127
  pub listed : cause_listed h.cause ≡ true
  pub addressed : h.address < 65536

module _ (h : Header) (body : List ℕ) (f : Fields h) where
  -- the header comes back
  header_back : header_in h.kind (head_octets h ++ body) ≡ h
  unfolding header_in
  header_back =
      let n = count_back h.count h.sequence f.counted in
      let c = cause_back h.cause h.negative h.test f.listed in
      let a = reads_back 2 h.address body f.addressed in
      λ i. record {
        kind = h.kind;
        count = n.count i;
        sequence = n.sequence i;
        test = c.test_bit i;
        negative = c.negative_bit i;
        cause = c.cause i;
        originator = h.originator;
        address = a i;
      }

  -- and is taken, if the rest is as long as it says
  pub header_passes : 6 + length body ≡ needed h.kind h.sequence h.count → 6 + length body ≤ 249
      → (h.sequence ≡ true → (1 ≤ h.count) × (1 ≤ size_of h.kind)) → header_answer (head_octets h ++ body) ≡ Ok h
  header_passes l s some =
      let n = count_back h.count h.sequence f.counted in
      let c = cause_back h.cause h.negative h.test f.listed in
      header_taken h.kind (head_octets h ++ body) (record {
        short = omega (arith, long_head h body);
        six = omega (arith, long_head h body);
        listed = ap cause_listed c.cause ∙ f.listed;
        kind = kind_type h.kind;
        long = long_head h body ∙ (l ∙ sym (ap (λ (q : Bool). needed h.kind q (count_in (head_octets h ++ body))) n.sequence ∙ ap (needed h.kind h.sequence) n.count));
        some = λ e. let (x, y) = some (sym n.sequence ∙ e) in (rw n.count x, y);
      })
      ∙ ap Ok header_back

-- the header read from octets makes their first six again
pub head_read : (k : Kind) (s : List ℕ) → Octets s → Headed k s → head_octets (header_in k s) ≡ take 6 s
unfolding header_in
head_read k s o h =
    let l : 2 ≤ length (drop 4 s) = rw (length-drop 4 s) (omega (arith, h.six)) in
    let e = writes_again 2 (drop 4 s) (octets_drop 4 s o) l in
    rw (← type_kind (get_or s 0 0) k h.kind, count_whole (get_or s 1 0) (octet_fits s 1 o), cause_whole (get_or s 2 0) (octet_fits s 2 o), e) (six s h.six)

-- ---- what reading gives

-- reading octets whose header is taken, and of whose objects none is refused
pub read_is : (h : Header) (s : List ℕ) → header_answer s ≡ Ok h → objects_refusal h s ≡ 0
    → read_asdu s ≡ record { asdu = asdu_of h (filled (objects_in h s)); answer = Ok tt }
unfolding read_asdu
read_is h s e o = rw (checked_is s h e o, read_passes s h e o)

-- of such a record, its own objects, and what stands past them
pub own_back : (n : ℕ) (os : List Object) → length os ≡ n → take n (filled os) ≡ os
own_back n os e = ap (λ (m : ℕ). take m (filled os)) (sym e) ∙ take_padded 127 blank os

pub past_blank : (n : ℕ) (os : List Object) → length os ≡ n → drop n (filled os) ≡ drop n blanks
unfolding padded blanks
past_blank n os e = drop_at os (drop (length os) (replicate 127 blank)) n e ∙ ap (λ (m : ℕ). drop m (replicate 127 blank)) e

-- ---- lists that are accepted

-- a list that is accepted: its header is taken, and no object is refused
pub record Accepted (k : Kind) (s : List ℕ) : Type 0 where
  pub headed : Headed k s
  pub none : objects_refusal (header_in k s) s ≡ 0

-- what the refusals before the type leave
record Started (s : List ℕ) : Type 0 where
  short : length s ≤ 249
  six : 6 ≤ length s
  listed : cause_listed (cause_in s) ≡ true

started : (s : List ℕ) → early_refusal s ≡ 0 → Started s
unfolding early_refusal
started s h =
    let a = passed (ltb 249 (length s)) 16 _ h in
    let b = passed (ltb (length s) 3) 8 _ a.1 in
    let c = passed (not (cause_listed (cause_in s))) 9 _ b.1 in
    let d = passed (ltb (length s) 6) 8 _ c.1 in
    record { short = ltb-false 249 (length s) a.0; six = ltb-false (length s) 6 d.0; listed = not-false (cause_listed (cause_in s)) c.0 }

by_kind : (f : Option Kind) (s : List ℕ) → kind_of (get_or s 0 0) ≡ f → Started s → header_refusal_by f s ≡ 0 → objects_refusal_by f s ≡ 0 → (k : Kind) × Accepted k s
unfolding layout_refusal
by_kind None s f t h g = absurd (omega arith)
by_kind (Some k) s f t h g =
    let p = held (eqb (length s) (needed k (sequence_in s) (count_in s))) 11 _ h in
    let l = eqb-true (length s) (needed k (sequence_in s) (count_in s)) p.0 in (
      k,
      record {
        headed = record { short = t.short; six = t.six; listed = t.listed; kind = f; long = l; some = some_of (sequence_in s) (count_in s) (size_of k) p.1 };
        none = g;
      },
    )

header_zero : (s : List ℕ) → read_refusal s ≡ 0 → (header_refusal s ≡ 0) × (objects_refusal_by (kind_of (get_or s 0 0)) s ≡ 0)
unfolding read_refusal
header_zero s h = both (header_refusal s) (objects_refusal_by (kind_of (get_or s 0 0)) s) h

header_both : (s : List ℕ) → header_refusal s ≡ 0 → (early_refusal s ≡ 0) × (header_refusal_by (kind_of (get_or s 0 0)) s ≡ 0)
unfolding header_refusal
header_both s h = both (early_refusal s) (header_refusal_by (kind_of (get_or s 0 0)) s) h

-- what is not refused is accepted, as some kind
pub accepted : (s : List ℕ) → read_refusal s ≡ 0 → (k : Kind) × Accepted k s
accepted s h =
    let r = header_zero s h in
    let e = header_both s r.0 in
    by_kind (kind_of (get_or s 0 0)) s refl (started s e.0) e.1 r.1

-- in a sequence, the last address still fits three octets
pub rising : (k : Kind) (s : List ℕ) → Octets s → Accepted k s → sequence_in s ≡ true → le_of 3 (drop 6 s) + count_in s ≤ 16777216
unfolding header_in
rising k s o a q =
    let small = le_fits 3 (drop 6 s) (octets_drop 6 s o) in
    elim (dec_le (le_of 3 (drop 6 s) + count_in s) 16777216) [
      | yes g ↦ g
      | no g ↦ absurd (omega (arith, a.none, sequence_high (header_in k s) s q (omega arith) (omega arith)))
    ]

-- How many octets an ASDU takes, and what is known of a record that writing does not refuse. Assumes nothing.
use Prim.Native.Nat.{ℕ, suc, ◌+◌, ◌*◌, ◌<◌, ◌≤◌}
use mathlib.Core.Path.{◌≡◌, refl, sym, ap, ◌∙◌}
use mathlib.Core.Bool.{Bool, true, false, ◌&&◌, ◌||◌}
use mathlib.Core.List.{List, [], ◌∷◌}
use native.Mathlib.Omega.{arith}
use native.Mathlib.Nat.{suc-mul, zero-mul}
use native.Mathlib.Decide.{dec_le}
use lib.ListN.{length, length-append}
use lib.Seq.{length-take-le}
use lib.Dec.{eqb, ltb}
use borrow.Author.Tests.{eqb-false, ltb-false, ne_eqb, le-leb, lt-leb}
use Rattle.laws.specs.Choice.{pick}
use Rattle.laws.specs.Numbers.{le_octets}
use Rattle.laws.proofs.Choices.{passed, held, both}
use Rattle.laws.proofs.Numbers.{length_octets}
use Rattle.elements.specs.Refusals.{empty_sequence}
use Rattle.objects.specs.Kinds.{kind_of, size_of, value_kind}
use Rattle.objects.specs.Objects.{object_refusal}
use Rattle.objects.specs.declared.kinds.Kind.{Kind}
use Rattle.std.specs.Prelude.{Option, Some, None}
use Rattle.objects.specs.declared.Object.{Object}
use Rattle.objects.proofs.Elements.{element_level}
use Rattle.objects.proofs.Objects.{object_long, Fit, fit}
use Rattle.asdu.specs.Header.{cause_listed, step_of, needed}
use Rattle.asdu.specs.Writing.{first_refusal, shape_refusal, size_refusal, write_refusal_by, write_refusal, body_octets, objects_octets, address_octets, header_octets, asdu_octets, own_objects, first_address}
use Rattle.asdu.specs.declared.Asdu.{Asdu}

-- ---- single refusals

-- a sequence of no object or of elements without octets is the only one refused
pub some_of : (q : Bool) (n e : ℕ) → pick (q && (eqb n 0 || eqb e 0)) empty_sequence 0 ≡ 0 → q ≡ true → (1 ≤ n) × (1 ≤ e)
some_of q n e h g = by (eqb n 0) (eqb e 0) refl refl (rw g at h)
  where
    by : (a b : Bool) → eqb n 0 ≡ a → eqb e 0 ≡ b → pick (a || b) empty_sequence 0 ≡ 0 → (1 ≤ n) × (1 ≤ e)
    by true b p r z = absurd (omega arith)
    by false true p r z = absurd (omega arith)
    by false false p r z = (omega (arith, eqb-false n 0 p), omega (arith, eqb-false e 0 r))

pub some_passes : (q : Bool) (n e : ℕ) → (q ≡ true → (1 ≤ n) × (1 ≤ e)) → pick (q && (eqb n 0 || eqb e 0)) empty_sequence 0 ≡ 0
some_passes true n e h =
    let (a, b) = h refl in
    rw (ne_eqb n 0 (λ z. omega arith), ne_eqb e 0 (λ z. omega arith))
some_passes false n e h = refl

pub listed_small : (c : ℕ) → cause_listed c ≡ true → c ≤ 47
unfolding cause_listed
listed_small c h = elim (dec_le c 47) [ yes g ↦ g | no g ↦ absurd (high (omega (arith, g))) ]
  where
    high : 47 < c → ⊥
    high g =
        let e =
        simp (
          le-leb 1 c (omega arith),
          lt-leb c 13 (omega arith),
          le-leb 20 c (omega arith),
          lt-leb c 41 (omega arith),
          le-leb 44 c (omega arith),
          lt-leb c 47 g,
        ) at h
        in
        let z : ◌≡◌ {A = ℕ} 0 1 = cc e in
        omega arith

-- ---- objects

-- the first object of a row that is not refused, and the others
pub fits : (k : Kind) (q : Bool) (first i : ℕ) (o : Object) (os : List Object) → first_refusal k q first i (o ∷ os) ≡ 0
    → Fit k q first i o × (first_refusal k q first (suc i) os ≡ 0)
unfolding first_refusal
fits k q first i o os h = let x = both (object_refusal k q first i o) (first_refusal k q first (suc i) os) h in (fit k q first i o x.0, x.1)

pub body_long : (k : Kind) (q : Bool) (o : Object) → value_kind o.value ≡ k → length (body_octets q o) ≡ step_of k q
unfolding body_octets step_of
body_long k true o e = element_level.sized o.value ∙ ap size_of e
body_long k false o e = omega (arith, object_long o, ap size_of e)

pub objects_long : (k : Kind) (q : Bool) (first i : ℕ) (os : List Object) → first_refusal k q first i os ≡ 0
    → length (objects_octets q os) ≡ length os * step_of k q
unfolding objects_octets
objects_long k q first i [] h = sym (zero-mul (step_of k q))
objects_long k q first i (o ∷ os) h =
    let (f, r) = fits k q first i o os h in
    length-append (body_octets q o) (objects_octets q os)
    ∙ omega (arith, body_long k q o f.kind, objects_long k q first (suc i) os r, suc-mul (length os) (step_of k q))

-- ---- the whole

pub address_long : (q : Bool) (first : ℕ) → length (address_octets q first) ≡ pick q 3 0
unfolding address_octets
address_long true first = length_octets 3 first
address_long false first = refl

pub asdu_parts : (a : Asdu) → length (asdu_octets a) ≡ 6 + (pick a.sequence 3 0 + length (objects_octets a.sequence (own_objects a)))
unfolding asdu_octets header_octets le_octets
asdu_parts a =
    let m = length-append (address_octets a.sequence (first_address a)) (objects_octets a.sequence (own_objects a)) in
    omega (arith, m, address_long a.sequence (first_address a))

pub needed_parts : (k : Kind) (q : Bool) (n : ℕ) → needed k q n ≡ 6 + (pick q 3 0 + n * step_of k q)
unfolding needed
needed_parts k true n = omega arith
needed_parts k false n = omega arith

pub needed_next : (k : Kind) (q : Bool) (i : ℕ) → needed k q (suc i) ≡ needed k q i + step_of k q
needed_next k q i = omega (arith, needed_parts k q i, needed_parts k q (suc i), suc-mul i (step_of k q))

-- ---- a record that writing does not refuse

pub record Writable (k : Kind) (a : Asdu) (room : ℕ) : Type 0 where
  pub listed : cause_listed a.cause ≡ true
  pub kind : kind_of a.type_id ≡ Some k
  pub counted : a.count ≤ 127
  pub some : a.sequence ≡ true → (1 ≤ a.count) × (1 ≤ size_of k)
  pub each : first_refusal k a.sequence (first_address a) 0 (own_objects a) ≡ 0
  pub short : needed k a.sequence a.count ≤ 249
  pub enough : needed k a.sequence a.count ≤ room

pub shape_fits : (k : Kind) (q : Bool) (n : ℕ) → shape_refusal k q n ≡ 0 → (n ≤ 127) × (q ≡ true → (1 ≤ n) × (1 ≤ size_of k))
unfolding shape_refusal
shape_fits k q n h = let x = passed (ltb 127 n) 11 _ h in (ltb-false 127 n x.0, some_of q n (size_of k) x.1)

room_fits : (n room : ℕ) → size_refusal n room ≡ 0 → (n ≤ 249) × (n ≤ room)
unfolding size_refusal
room_fits n room h =
    let x = passed (ltb 249 n) 16 _ h in
    (ltb-false 249 n x.0, ltb-false room n (passed (ltb room n) 17 _ x.1).0)

by_kind : (f : Option Kind) (a : Asdu) (room : ℕ) → cause_listed a.cause ≡ true → kind_of a.type_id ≡ f → write_refusal_by f a room ≡ 0
    → (k : Kind) × Writable k a room
unfolding write_refusal_by
by_kind None a room c f h = absurd (omega arith)
by_kind (Some k) a room c f h =
    let x = both _ _ h in
    let y = both _ _ x.1 in
    let (n, some) = shape_fits k a.sequence a.count x.0 in
    let (l, r) = room_fits (needed k a.sequence a.count) room y.1 in
    (k, record { listed = c; kind = f; counted = n; some = some; each = y.0; short = l; enough = r })

pub writable : (a : Asdu) (room : ℕ) → write_refusal a room ≡ 0 → (k : Kind) × Writable k a room
unfolding write_refusal
writable a room h =
    let c = held (cause_listed a.cause) 9 _ h in
    by_kind (kind_of a.type_id) a room c.0 refl c.1

module _ (k : Kind) (a : Asdu) (room : ℕ) (w : Writable k a room) (l : length a.objects ≡ 127) where
  pub own_long : length (own_objects a) ≡ a.count
  own_long = length-take-le a.count a.objects (omega (arith, l, w.counted))

  pub asdu_long : length (asdu_octets a) ≡ needed k a.sequence a.count
  asdu_long =
      let n = ap (λ (n : ℕ). n * step_of k a.sequence) own_long in
      omega (arith, asdu_parts a, needed_parts k a.sequence a.count, objects_long k a.sequence (first_address a) 0 (own_objects a) w.each)

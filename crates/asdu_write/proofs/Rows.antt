-- The objects of a list from object i on: their first refusal and their octets, as the loops come to them. Assumes nothing.
use Prim.Native.Nat.{ℕ, ◌+◌, ◌<◌, ◌≤◌}
use mathlib.Core.Path.{◌≡◌, refl, ap, ◌∙◌}
use mathlib.Core.Bool.{Bool, true, false}
use mathlib.Core.List.{List, [], ◌∷◌, ◌++◌}
use native.Mathlib.Numerals.{add-one}
use native.Mathlib.Omega.{arith}
use lib.Dec.{eqb}
use lib.ListN.{length, get_or, drop, drop_of_length-le, length-append}
use lib.Seq.{drop-cons}
use Rattle.std.specs.Prelude.{Result, Ok, Err}
use Rattle.laws.specs.Choice.{pick, ◌then◌}
use Rattle.elements.specs.Refusals.{refusal, answer}
use Rattle.elements.specs.declared.refusals.Refusal.{Refusal}
use Rattle.objects.specs.Objects.{blank, object_refusal}
use Rattle.objects.specs.declared.kinds.Kind.{Kind}
use Rattle.objects.specs.declared.Object.{Object}
use Rattle.asdu.specs.Writing.{first_refusal, body_octets, objects_octets}

-- a refusal is the answer of a row that it begins
stops : (n m : ℕ) (r : Refusal) → answer {A = Unit {0}} n tt ≡ Err r → answer {A = Unit {0}} (n then m) tt ≡ Err r
stops n m r e = by (eqb n 0) refl e
  where
    by : (t : Bool) → eqb n 0 ≡ t → pick {A = Result (Unit {0}) Refusal} t (Ok tt) (Err (refusal n)) ≡ Err r → answer {A = Unit {0}} (pick t m n) tt ≡ Err r
    by true z x = let no : ◌≡◌ {A = ℕ} 0 1 = cc in absurd (omega arith)
    by false z x = rw z x

module _ (own : List Object) (i : ℕ) where
  one_more : i < length own → drop i own ≡ get_or own i blank ∷ drop (i + 1) own
  one_more h = rw (add-one i, drop-cons own i blank h)

  no_more : length own ≤ i → drop i own ≡ []
  no_more h = drop_of_length-le own {i = i} h

  module _ (k : Kind) (q : Bool) (first : ℕ) where
    pub refusal_more : i < length own
        → first_refusal k q first i (drop i own) ≡ (object_refusal k q first i (get_or own i blank) then first_refusal k q first (i + 1) (drop (i + 1) own))
    unfolding first_refusal
    refusal_more h = rw (one_more h, add-one i)

    pub refusal_here : (r : Refusal) → i < length own → answer {A = Unit {0}} (object_refusal k q first i (get_or own i blank)) tt ≡ Err r
        → answer {A = Unit {0}} (first_refusal k q first i (drop i own)) tt ≡ Err r
    refusal_here r h e = rw (refusal_more h) (stops (object_refusal k q first i (get_or own i blank)) _ r e)

    pub refusal_end : length own ≤ i → first_refusal k q first i (drop i own) ≡ 0
    unfolding first_refusal
    refusal_end h = rw (no_more h)

  module _ (q : Bool) where
    pub octets_more : i < length own → objects_octets q (drop i own) ≡ body_octets q (get_or own i blank) ++ objects_octets q (drop (i + 1) own)
    unfolding objects_octets
    octets_more h = rw (one_more h)

    pub octets_long : i < length own → length (objects_octets q (drop i own)) ≡ length (body_octets q (get_or own i blank)) + length (objects_octets q (drop (i + 1) own))
    octets_long h = ap length (octets_more h) ∙ length-append (body_octets q (get_or own i blank)) (objects_octets q (drop (i + 1) own))

    pub octets_end : length own ≤ i → objects_octets q (drop i own) ≡ []
    unfolding objects_octets
    octets_end h = rw (no_more h)

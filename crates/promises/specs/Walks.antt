-- Walking over the objects of an ASDU: from the start on, step by step, it finds what reading gives.
use Rattle.std.specs.Prelude.{ℕ, zero, suc, ◌+◌, ◌≡◌, List, [], ◌∷◌, ◌++◌, map, replicate}
use Rattle.std.specs.Borrow.{Bor}
use Rattle.elements.specs.Refusals.{refusal}
use Rattle.asdu.specs.Reading.{read_refusal, read_asdu}
use Rattle.asdu.specs.Writing.{own_objects}
use Rattle.asdu_walk.specs.Places.{start_of, found_at, after_of}
use Rattle.asdu_walk.specs.Walks.{walk_of, next_of, walk_after}
use Rattle.asdu_walk.specs.declared.Place.{Place}
use Rattle.asdu_walk.specs.declared.Walk.{Walk}
use Rattle.std.specs.Prelude.{Option, Some, None, Result, Ok, Err}
use Rattle.elements.specs.declared.refusals.Refusal.{Refusal}
use Rattle.objects.specs.declared.Object.{Object}

-- what a step finds: an object, or none at the end, or what reading refuses
abbrev pub Found : Type 0
Found = Result (Option Object) Refusal

-- what n steps find: at each what stands there (`next`, `object_from`), then one further (`after`, `Place::after`)
abbrev pub steps : Walk → ℕ → List Found
steps w zero = []
steps w (suc n) = next_of w ∷ steps (walk_after w) n

abbrev pub place_steps : List ℕ → Place → ℕ → List Found
place_steps s p zero = []
place_steps s p (suc n) = found_at s p ∷ place_steps s (after_of p) n

-- of an ASDU that reads: the objects of its record, in order, then the end as long as one goes on
abbrev pub in_order : List ℕ → ℕ → List Found
in_order s n = map (λ (o : Object). Ok (Some o)) (own_objects (read_asdu s).asdu) ++ replicate n (Ok None)

-- so many steps reach the record's last object
abbrev pub count_of : List ℕ → ℕ
count_of s = (read_asdu s).asdu.count

-- of one that does not read: at every step the reading's refusal
abbrev pub refusing : List ℕ → ℕ → List Found
refusing s n = replicate n (Err (refusal (read_refusal s)))

-- a walk that skips, repeats or changes an object, ends early, goes on after the end, or takes what reading refuses, fails
pub record Walks : Type 0 where
  pub walks : (x : Bor (List ℕ)) (n : ℕ) → read_refusal x.now ≡ 0
      → steps (walk_of x) (count_of x.now + n) ≡ in_order x.now n
  pub refuses : (x : Bor (List ℕ)) (n : ℕ) → (read_refusal x.now ≡ 0 → ⊥) → steps (walk_of x) n ≡ refusing x.now n
  pub walks_plain : (s : List ℕ) (n : ℕ) → read_refusal s ≡ 0 → place_steps s (start_of s) (count_of s + n) ≡ in_order s n
  pub refuses_plain : (s : List ℕ) (n : ℕ) → (read_refusal s ≡ 0 → ⊥) → place_steps s (start_of s) n ≡ refusing s n

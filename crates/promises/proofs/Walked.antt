-- A walk finds the objects of the record that reading gives, in order, then the end; or the reading's refusal. Assumes nothing.
use Prim.Native.Nat.{ℕ, zero, suc, ◌+◌, ◌≤◌}
use mathlib.Core.Path.{◌≡◌, refl, sym, ap, ◌∙◌}
use mathlib.Core.Bool.{Bool, true, false}
use mathlib.Core.List.{List, ◌∷◌, ◌++◌, map}
use native.Mathlib.Omega.{arith}
use native.Mathlib.Numerals.{add-one}
use borrow.Author.Tests.{lt-ltb, le-ltb, ne_eqb}
use lib.Dec.{eqb}
use lib.ListN.{get_or, replicate}
use Rattle.laws.specs.Choice.{pick}
use Rattle.laws.specs.Lists.{tabulate}
use Rattle.laws.proofs.Lists.{length_tabulate}
use Rattle.elements.specs.Refusals.{refusal, answer}
use Rattle.elements.specs.declared.refusals.Refusal.{Refusal}
use Rattle.objects.specs.Kinds.{kind_of}
use Rattle.objects.specs.declared.kinds.Kind.{Kind}
use Rattle.objects.specs.declared.Object.{Object}
use Rattle.asdu.specs.Header.{sequence_in, count_in, header_in}
use Rattle.asdu.specs.Reading.{object_in, objects_in, read_refusal}
use Rattle.asdu.specs.Writing.{own_objects}
use Rattle.asdu.specs.declared.Asdu.{Asdu}
use Rattle.asdu.specs.declared.ReadAsdu.{ReadAsdu}
use Rattle.asdu_walk.specs.Places.{start_of, found_at, after_of}
use Rattle.asdu_walk.specs.Walks.{walk_of}
use Rattle.asdu_walk.specs.declared.Place.{Place}
use Rattle.asdu_walk.specs.declared.Walk.{Walk}
use Rattle.promises.specs.Walks.{Found, Walks, steps, place_steps, in_order, count_of, refusing}
use Rattle.promises.proofs.Bodies.{accepted, header_taken, read_is, own_back}
use Rattle.std.specs.Prelude.{Some, None, Ok, Err}

abbrev found : Object → Found
found o = Ok (Some o)

-- ---- an ASDU that does not read

-- the refusal stays, wherever the walk goes
refused_on : (s : List ℕ) (r : Refusal) (i n : ℕ) → place_steps s (record { answer = Err r; index = i }) n ≡ replicate n (Err r)
unfolding found_at after_of
refused_on s r i zero = refl
refused_on s r i (suc n) = ap (λ (l : List Found). Err r ∷ l) (refused_on s r (pick (eqb i 255) 255 (i + 1)) n)

refuses_plain : (s : List ℕ) (n : ℕ) → (read_refusal s ≡ 0 → ⊥) → place_steps s (start_of s) n ≡ refusing s n
unfolding start_of
refuses_plain s n e = rw (ne_eqb (read_refusal s) 0 e) (refused_on s (refusal (read_refusal s)) 0 n)

-- ---- one that reads

-- the place of an index, with no refusal
abbrev index : ℕ → Place
index i = record { answer = Ok tt; index = i }

module _ (s : List ℕ) (k : Kind) (f : kind_of (get_or s 0 0) ≡ Some k) where
  abbrev object : ℕ → Object
  object = object_in k (sequence_in s) s

  at_object : (i : ℕ) → suc i ≤ count_in s → found_at s (index i) ≡ Ok (Some (object i))
  unfolding found_at
  at_object i l = rw (f, lt-ltb i (count_in s) (omega arith))

  at_end : (i : ℕ) → count_in s ≤ i → found_at s (index i) ≡ Ok None
  unfolding found_at
  at_end i l = rw (f, le-ltb i (count_in s) l)

  -- past the last object there is the end, and past it the end
  ends : (i n : ℕ) → count_in s ≤ i → place_steps s (index i) n ≡ replicate n (Ok None)
  unfolding after_of
  ends i zero l = refl
  ends i (suc n) l = rw (at_end i l) (ap (λ (t : List Found). (Ok None) ∷ t) (by (eqb i 255) (λ j h. ends j n h)))
    where
      by : (b : Bool) → ((j : ℕ) → count_in s ≤ j → place_steps s (index j) n ≡ replicate n (Ok None)) → place_steps s (index (pick b 255 (i + 1))) n ≡ replicate n (Ok None)
      by true on = on 255 (omega arith)
      by false on = on (i + 1) (omega arith)

  walks_from : (i m n : ℕ) → i + m ≡ count_in s → place_steps s (index i) (m + n) ≡ map found (tabulate object i m) ++ replicate n (Ok None)
  unfolding after_of tabulate
  walks_from i zero n e = let none : 0 + n ≡ n = omega arith in rw none (ends i n (omega arith))
  walks_from i (suc m) n e =
      let more : suc m + n ≡ suc (m + n) = omega arith in
      rw (more, at_object i (omega arith), ne_eqb i 255 (λ x. omega arith), add-one i)
      (ap (λ (t : List Found). Ok (Some (object i)) ∷ t) (walks_from (suc i) m n (omega arith)))

walks_plain : (s : List ℕ) (n : ℕ) → read_refusal s ≡ 0 → place_steps s (start_of s) (count_of s + n) ≡ in_order s n
unfolding start_of header_in
walks_plain s n z =
    let (k, a) = accepted s z in
    let h = header_in k s in
    let read = ap (λ (r : ReadAsdu). r.asdu) (read_is h s (header_taken k s a.headed) a.none) in
    let own = ap own_objects read ∙ own_back (count_in s) (objects_in h s) (length_tabulate (object_in k (sequence_in s) s) 0 (count_in s)) in
    ap (λ (m : ℕ). place_steps s (start_of s) (m + n)) (ap (λ (r : Asdu). r.count) read)
    ∙ ap (λ (r : ℕ). place_steps s (record { answer = answer r tt; index = 0 }) (count_in s + n)) z
    ∙ walks_from s k a.headed.kind 0 (count_in s) n (omega arith)
    ∙ ap (λ (os : List Object). map found os ++ replicate n (Ok None)) (sym own)

-- ---- the same of a walk that keeps the slice

by_places : (w : Walk) (n : ℕ) → steps w n ≡ place_steps w.asdu.now w.place n
by_places w zero = refl
by_places w (suc n) = ap (λ (t : List Found). found_at w.asdu.now w.place ∷ t) (by_places (record { asdu = w.asdu; place = after_of w.place }) n)

pub walked : Walks
walked = record {
  walks = λ x n z. by_places (walk_of x) (count_of x.now + n) ∙ walks_plain x.now n z;
  refuses = λ x n e. by_places (walk_of x) n ∙ refuses_plain x.now n e;
  walks_plain = walks_plain;
  refuses_plain = refuses_plain;
}

-- A walk over the objects of an ASDU: where it starts, what stands at a place, and which place comes after it.
use Rattle.std.specs.Prelude.{ℕ, ◌+◌, List, eqb, ltb, get_or, Option, Some, None, Result, Ok}
use Rattle.std.specs.Result.{result_and}
use Rattle.laws.specs.Choice.{pick}
use Rattle.elements.specs.Refusals.{answer}
use Rattle.elements.specs.declared.refusals.Refusal.{Refusal}
use Rattle.objects.specs.Kinds.{kind_of}
use Rattle.objects.specs.declared.kinds.Kind.{Kind}
use Rattle.objects.specs.declared.Object.{Object}
use Rattle.asdu.specs.Header.{sequence_in, count_in}
use Rattle.asdu.specs.Reading.{object_in, read_refusal}
use Rattle.asdu_walk.specs.declared.Place.{Place}

-- before the first object, with the reading's refusal
unfoldable pub start_of : List ℕ → Place
start_of s = record { answer = answer (read_refusal s) tt; index = 0 }

-- the object of this index, and none from the count on: there is the end
abbrev pub found_by : Option Kind → List ℕ → ℕ → Option Object
found_by None s i = None
found_by (Some k) s i = pick (ltb i (count_in s)) (Some (object_in k (sequence_in s) s i)) None

-- a refusal, wherever the walk stands; else what the index says
unfoldable pub found_at : List ℕ → Place → Result (Option Object) Refusal
found_at s p = result_and p.answer (Ok (found_by (kind_of (get_or s 0 0)) s p.index))

-- one further; 255, past the last object of any ASDU, stays
unfoldable pub after_of : Place → Place
after_of p = record { answer = p.answer; index = pick (eqb p.index 255) 255 (p.index + 1) }

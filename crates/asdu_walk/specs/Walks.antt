-- A walk that keeps the ASDU and a place: its start, what it finds, the walk after it.
use Rattle.std.specs.Prelude.{ℕ, List, Option, Result}
use Rattle.std.specs.Borrow.{Bor}
use Rattle.elements.specs.declared.refusals.Refusal.{Refusal}
use Rattle.objects.specs.declared.Object.{Object}
use Rattle.asdu_walk.specs.Places.{start_of, found_at, after_of}
use Rattle.asdu_walk.specs.declared.Walk.{Walk}

abbrev pub walk_of : Bor (List ℕ) → Walk
walk_of x = record { asdu = x; place = start_of x.now }

abbrev pub next_of : Walk → Result (Option Object) Refusal
next_of w = found_at w.asdu.now w.place

abbrev pub walk_after : Walk → Walk
walk_after w = record { asdu = w.asdu; place = after_of w.place }

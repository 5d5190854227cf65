-- What a step of a call has done. In contracts of helpers only: no promise speaks of it.
use Rattle.std.specs.Prelude.{ℕ, ◌+◌, ◌≡◌, List, length}
use Rattle.std.proofs.lemmas.List.Edits.{sets}
use Rattle.link_state.specs.declared.State.{State}
use Rattle.link.specs.Frames.{wire}
use Rattle.link.specs.Making.{Making}
use Rattle.link_steps.specs.declared.steps.Made.{Made}

abbrev pub made_of : State → ℕ → Made
made_of s end = record { state = s; end = end }

-- the frames of a call in the making, written from place `at` on
pub record Makes (g : Making) (at : ℕ) (out : List ℕ) (r : Made) (out' : List ℕ) : Type 0 where
  pub state : r.state ≡ g.state
  pub end : r.end ≡ at + length (wire g.frames)
  pub octets : out' ≡ sets out at (wire g.frames)

-- the same, with the ring lent
pub record HandsOut (g : Making) (at : ℕ) (out : List ℕ) (r : Made) (times' out' : List ℕ) : Type 0 where
  pub makes : Makes g at out r out'
  pub ring : times' ≡ g.times

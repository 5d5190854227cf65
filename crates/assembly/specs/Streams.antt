-- The frames of a whole stream and what ends them, from its bytes alone: no carry and no chunk is in it.
use Rattle.std.specs.Prelude.{ℕ, zero, suc, ◌+◌, List, [], ◌∷◌, ◌++◌, length, take, drop, Option, None, Some, Result, Ok, Err}
use Rattle.elements.specs.Refusals.{number}
use Rattle.elements.specs.declared.refusals.Refusal.{Refusal}
use Rattle.assembly.specs.Start.{start_answer}

-- the bytes left over, of which more is needed; or a refusal's number, and the place in the stream of the frame refused
pub data End : Type 0 where
  rest : List ℕ → End
  refused : ℕ → ℕ → End

-- the frames, and what ends them
pub record StreamOutcome : Type 0 where
  pub frames : List (List ℕ)
  pub end : End

-- no frame, and this end
abbrev pub no_frames : End → StreamOutcome
no_frames e = record { frames = []; end = e }

-- a frame, and then the outcome of what follows it
abbrev pub handed : List ℕ → StreamOutcome → StreamOutcome
handed f o = record { frames = f ∷ o.frames; end = o.end }

-- by what stands at the start of the bytes from place `at` on; `next` goes on after a frame
abbrev pub outcome_by : Result (Option ℕ) Refusal → ℕ → List ℕ → (ℕ → List ℕ → StreamOutcome) → StreamOutcome
outcome_by (Ok (Some n)) at s next = handed (take n s) (next (at + n) (drop n s))
outcome_by (Ok None) at s next = no_frames (rest s)
outcome_by (Err r) at s next = no_frames (refused (number r) at)

-- the first number bounds the frames: a stream has no more of them than bytes
abbrev pub stream_from : ℕ → ℕ → List ℕ → StreamOutcome
stream_from zero at s = no_frames (rest s)
stream_from (suc most) at s = outcome_by (start_answer s) at s (stream_from most)

-- the whole stream
unfoldable pub stream : List ℕ → StreamOutcome
stream s = stream_from (length s) 0 s

-- chunks one after the other
abbrev pub joined : List (List ℕ) → List ℕ
joined [] = []
joined (c ∷ cs) = c ++ joined cs

-- Demand 1: what a refusal leaves. A call is refused where its answer's number is not 0. In which case a number is given is
-- what the definitions of the refusals say (`read_refusal`, `write_refusal`, `frame_answer`, `top_up_refusal`, `called`, ..)
use Rattle.std.specs.Prelude.{ℕ, ◌<◌, ◌≤◌, ◌≡◌, Bool, true, false, ◌&&◌, ◌||◌, List, [], length, eqb}
use Rattle.laws.specs.Choice.{pick}
use Rattle.asdu.specs.Header.{between}
use Rattle.elements.specs.Refusals.{answer_number}
use Rattle.asdu.specs.Records.{no_asdu}
use Rattle.asdu.specs.Reading.{read_asdu}
use Rattle.asdu.specs.Writing.{write_answer, written}
use Rattle.asdu.specs.declared.Asdu.{Asdu}
use Rattle.apdu.specs.Reading.{frame_answer, asdu_part}
use Rattle.apdu.specs.Writing.{answer_for, output_for}
use Rattle.assembly.specs.Picking.{pick_answer, pick_part}
use Rattle.assembly.specs.Topping.{top_up_answer, topped}
use Rattle.assembly.specs.Stepping.{step_answer, step_carry}
use Rattle.link_state.specs.Opening.{blank_link, opened}
use Rattle.link_state.specs.declared.Settings.{Settings}
use Rattle.link_state.specs.declared.Link.{Link}
use Rattle.link.specs.Making.{window_full, shut}
use Rattle.link.specs.Events.{Event, frame, send, stop, test, tick}
use Rattle.link.specs.Answering.{link_full, link_came}
use Rattle.link_meaning.specs.Meaning.{OctetsIn}
use Rattle.promises.specs.Demand3.{Call, answered, output_after, pool_after, entry_of, Brought, an_i, an_s, an_asdu, other, brings}

-- ---- reading, writing, assembling, opening

-- for every input, what stands beside a number that is not 0
pub record RefusedLeaves : Type 0 where
  -- "a new record or link beside it is all 0, clear and unset"
  pub reading : (s : List ℕ) → 0 < answer_number (read_asdu s).answer → (read_asdu s).asdu ≡ no_asdu
  pub opening : (s : Settings) (now : ℕ) → 0 < answer_number (opened s now).answer → (opened s now).link ≡ blank_link
  -- the ASDU's part "is empty for .. a refused frame"; "more and a refusal have the empty part"
  pub frame_part : (f : List ℕ) → 0 < answer_number (frame_answer f) → asdu_part f ≡ []
  pub picked_part : (carry : List ℕ) (held : ℕ) (chunk : List ℕ) → 0 < answer_number (pick_answer carry held chunk) → pick_part carry held chunk ≡ []
  -- "changes no lent byte": the output of writing an ASDU, of writing a frame, the carry
  pub asdu_output : (a : Asdu) (out : List ℕ) → 0 < answer_number (write_answer a (length out)) → written a out ≡ out
  pub frame_output : (refused : ℕ) (octets out : List ℕ) → 0 < answer_number (answer_for refused octets) → output_for refused octets out ≡ out
  pub topped_carry : (carry : List ℕ) (held : ℕ) (chunk : List ℕ) → 0 < answer_number (top_up_answer carry held chunk) → topped carry held chunk ≡ carry
  pub stepped_carry : (carry : List ℕ) (held : ℕ) (chunk : List ℕ) → 0 < answer_number (step_answer carry held chunk) → step_carry carry held chunk ≡ carry

-- ---- the link

-- the event is a frame received
abbrev pub brings_frame : Event → Bool
brings_frame (frame f more) = true
brings_frame (send asdu) = false
brings_frame stop = false
brings_frame test = false
brings_frame tick = false

-- whether a refusal with this number closes the link: "27 to 32, and 1 to 14 for a received frame, close the link."
abbrev pub closes : Event → ℕ → Bool
closes e n = between 27 32 n || (brings_frame e && between 1 14 n)

-- only the closed mark and the reason set (`shut`)
abbrev pub closed_by : ℕ → Link → Link
closed_by n l = record { times = l.times; state = shut n l.state }

-- the call brings an I frame
abbrev pub is_i : Brought → Bool
is_i (an_i s r) = true
is_i (an_s r) = false
is_i (an_asdu x) = false
is_i other = false

-- the mark "more to come"
abbrev pub more_to_come : Event → Bool
more_to_come (frame f more) = more
more_to_come (send asdu) = false
more_to_come stop = false
more_to_come test = false
more_to_come tick = false

-- a call on any record and any pool, sound or not
pub record LinkCall (c : Call) (l : Link) (pool : List ℕ) : Type 0 where
  -- "Every refusal has a number from document 01"
  pub numbered : (entry_of c l pool).number ≤ 33
  -- "and changes no lent byte"
  pub output_same : 0 < (entry_of c l pool).number → output_after c l pool ≡ c.output
  pub pool_same : 0 < (entry_of c l pool).number → pool_after c l pool ≡ pool
  -- "One that closes the link sets only the closed mark and reason; any other leaves the link as it was."
  pub link_after_law : 0 < (entry_of c l pool).number
      → (answered c l pool).link ≡ pick (closes c.event (entry_of c l pool).number) (closed_by (entry_of c l pool).number l) l
  -- "An accepted call sets the link's clock to its now."
  pub clocked : (entry_of c l pool).number ≡ 0 → (answered c l pool).link.state.clock ≡ c.now
  -- "The answer reports whether the window is full"; "the link's answer says that an ASDU came": an I frame that was accepted
  pub full : (entry_of c l pool).number ≡ 0 → link_full (answered c l pool).answer ≡ window_full (answered c l pool).link.state
  pub came : link_came (answered c l pool).answer ≡ (eqb (entry_of c l pool).number 0 && is_i (brings c.event))
  -- "After every accepted call that has not ended the link, except a frame marked "more to come", confirm if the count is above w":
  -- so the count is never above w then. "always at 32,768" is in `StaysSound`: the count of a sound link is at most 32,767
  pub confirmed : (entry_of c l pool).number ≡ 0 → (answered c l pool).link.state.status.closed ≡ false → more_to_come c.event ≡ false
      → (answered c l pool).link.state.receive.unconfirmed ≤ (answered c l pool).link.state.settings.w

-- ---- all of it

pub record Demand1Level : Type 0 where
  pub leaves : RefusedLeaves
  pub calls : (c : Call) (l : Link) (pool : List ℕ) → OctetsIn c.event → LinkCall c l pool

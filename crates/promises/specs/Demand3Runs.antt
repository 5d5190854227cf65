-- Demand 3 is not met by default: there are runs, of any length, and what they show.
use Rattle.std.specs.Prelude.{ℕ, ◌%◌, ◌≤◌, ◌≡◌, false, List, [], ◌∷◌, length, replicate}
use Rattle.apdu.specs.Writing.{i_octets}
use Rattle.link_state.specs.Limits.{call_refusal}
use Rattle.link_state.specs.declared.Settings.{Settings}
use Rattle.link_state.specs.declared.Link.{Link}
use Rattle.link.specs.Events.{frame, send}
use Rattle.link.specs.Answering.{link_written}
use Rattle.link_meaning.specs.Meaning.{OctetsIn}
use Rattle.promises.specs.Demand3.{Call, answered, Entry, entry_of, Run, s_of, send_times, have_left, r_of, a_of, Demand3}

-- ---- which calls make a run

-- Every call whose answer is no number from 19 to 24 may follow in a run: what `after` asks for shuts out nothing else.
abbrev pub Covers : Type 0
Covers = (c : Call) (l : Link) (pool : List ℕ) → (19 ≤ (entry_of c l pool).number → (entry_of c l pool).number ≤ 24 → ⊥)
    → call_refusal l (length c.output) (length pool) c.now ≡ 0

-- Whatever was called so far, as long as the link is not closed, a call with an output of 4,096 bytes or more and a now from the
-- clock on, up to 2^48 − 1, is not refused under 19 to 24: a run goes on with any event.
abbrev pub GoesOn : Type 0
GoesOn = (s : Settings) (start : ℕ) (pool : List ℕ) (past : List Entry) (l : Link) (between : List ℕ) → Run s start pool past l between
    → 3984 ≤ length pool → l.state.status.closed ≡ false → (output now : ℕ) → 4096 ≤ output → l.state.clock ≤ now → now ≤ 281474976710655
    → call_refusal l output (length between) now ≡ 0

-- What a call of a run writes is at most 4,096 bytes: an output that the check lets pass is always enough.
abbrev pub RoomEnough : Type 0
RoomEnough = (s : Settings) (start : ℕ) (pool : List ℕ) (past : List Entry) (l : Link) (between : List ℕ) → Run s start pool past l between
    → (c : Call) → OctetsIn c.event → call_refusal l (length c.output) (length between) c.now ≡ 0 → link_written (answered c l between).answer ≤ 4096

-- ---- a run that is shown

-- A run with k = 1, the last call first: an ASDU goes out at 10; the next waits, for the window is full; an I frame comes,
-- and nothing can go out; an S frame confirms the first, and what waited goes out at 40 with the numbers 1 and 1; then a receive
-- number that fits no total closes the link.
abbrev pub small : Settings
small = record { k = 1; w = 8; p = 2; t1 = 15000; t2 = 10000; t3 = 20000 }

-- two ASDUs, each with one counter: 1000 at address 10, 2000 at address 11
abbrev pub first : List ℕ
first = 0x0F ∷ 0x01 ∷ 0x03 ∷ 0x00 ∷ 0x01 ∷ 0x00 ∷ 0x0A ∷ 0x00 ∷ 0x00 ∷ 0xE8 ∷ 0x03 ∷ 0x00 ∷ 0x00 ∷ 0x05 ∷ []

abbrev pub second : List ℕ
second = 0x0F ∷ 0x01 ∷ 0x03 ∷ 0x00 ∷ 0x01 ∷ 0x00 ∷ 0x0B ∷ 0x00 ∷ 0x00 ∷ 0xD0 ∷ 0x07 ∷ 0x00 ∷ 0x00 ∷ 0x05 ∷ []

-- frames by their control octets: the octet is twice the number
abbrev pub i_with : ℕ → ℕ → List ℕ → List ℕ
i_with sent received asdu = 0x68 ∷ 0x12 ∷ sent ∷ 0x00 ∷ received ∷ 0x00 ∷ asdu

abbrev pub s_with : ℕ → List ℕ
s_with received = 0x68 ∷ 0x04 ∷ 0x01 ∷ 0x00 ∷ received ∷ 0x00 ∷ []

abbrev pub shown : List Entry
shown =
    record { event = frame (s_with 0x06) false; now = 50; number = 27; handed = [] }
    ∷ record { event = frame (s_with 0x02) false; now = 40; number = 0; handed = i_with 0x02 0x02 second }
    ∷ record { event = frame (i_with 0x00 0x00 first) false; now = 30; number = 0; handed = [] }
    ∷ record { event = send second; now = 20; number = 0; handed = [] }
    ∷ record { event = send first; now = 10; number = 0; handed = i_with 0x00 0x00 first }
    ∷ []

-- it is a run, and what it counts
pub record Shown : Type 0 where
  pub link : Link
  pub pool : List ℕ
  pub run : Run small 0 (replicate 3984 0) shown link pool
  pub sent : s_of shown ≡ 2
  pub received : r_of shown ≡ 1
  pub confirmed : a_of shown ≡ 1
  pub times : send_times shown ≡ 10 ∷ 40 ∷ []
  pub have_gone : have_left shown ≡ first ∷ second ∷ []

-- ---- runs of any length

-- a call that sends
abbrev pub sending : Call
sending = record { event = send first; output = replicate 4096 0; now = 0 }

-- For every n there is a run that hands out n I frames and has each of them confirmed, and the next ASDU then goes out with the
-- remainder of n. So runs have any length, and the totals go on where the numbers begin again: with n 32,767 the number is
-- 32,767, and with n 32,768 it is 0.
pub record Reached (n : ℕ) : Type 0 where
  pub past : List Entry
  pub link : Link
  pub pool : List ℕ
  pub run : Run small 0 (replicate 3984 0) past link pool
  pub sent : s_of past ≡ n
  pub confirmed : a_of past ≡ n
  pub next : (entry_of sending link pool).handed ≡ i_octets (n % 32768) 0 first

-- ---- all of it

pub record Demand3Level : Type 0 where
  pub claims : Demand3
  pub covers : Covers
  pub goes_on : GoesOn
  pub room : RoomEnough
  pub shows : Shown
  pub reaches : (n : ℕ) → Reached n

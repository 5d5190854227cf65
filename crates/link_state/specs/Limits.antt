-- Document 01, "The link": the limits of settings and record (refusal 19), and what every call checks.
use Rattle.std.specs.Prelude.{ℕ, ◌+◌, ◌%◌, Bool, true, Option, None, Some, ◌&&◌, ◌||◌, leb, eqb, ltb, get_or}
use Rattle.laws.specs.Choice.{pick}
use Rattle.laws.specs.Lists.{every}
use Rattle.elements.specs.Refusals.{outside_limits, link_closed, link_output_too_short, pool_too_short, clock_too_late, clock_went_back}
use Rattle.link_state.specs.declared.Settings.{Settings}
use Rattle.link_state.specs.declared.Queue.{Queue}
use Rattle.link_state.specs.declared.Timers.{Timers}
use Rattle.link_state.specs.declared.State.{State}
use Rattle.link_state.specs.declared.Link.{Link}

-- k from 1 to 32, w from 1 to 32,767, p from 1 to 16, and the three times
unfoldable pub sound_settings : Settings → Bool
sound_settings s =
    leb 1 s.k
    && leb s.k 32
    && leb 1 s.w
    && leb s.w 32767
    && leb 1 s.p
    && leb s.p 16
    && leb 1 s.t1
    && leb s.t1 172800000
    && leb 1 s.t2
    && leb s.t2 172800000
    && leb 1 s.t3
    && leb s.t3 172800000

-- outstanding up to k; waiting up to p, and none with outstanding below k; numbers and unconfirmed up to 32,767;
-- places of the rings up to 31 and 15; open tests up to 3; the clock of 48 bits
unfoldable pub sound_counts : State → Bool
sound_counts s =
    leb s.window.held s.settings.k
    && leb s.queue.count s.settings.p
    && (eqb s.queue.count 0 || leb s.settings.k s.window.held)
    && leb s.window.next.0 32767
    && leb s.receive.next.0 32767
    && leb s.receive.unconfirmed 32767
    && leb s.window.first 31
    && leb s.queue.place 15
    && leb s.timers.tests 3
    && leb s.clock 281474976710655

-- the length of the i-th waiting ASDU, and that it is from 6 to 249
abbrev pub length_at : Queue → ℕ → ℕ
length_at q i = get_or q.lengths ((q.place + i) % 16) 0

unfoldable pub sound_length : Queue → ℕ → Bool
sound_length q i = leb 6 (length_at q i) && leb (length_at q i) 249

unfoldable pub sound_lengths : Queue → Bool
sound_lengths q = every (sound_length q) q.count

-- the send time of the i-th outstanding frame, and that it is not after the clock
abbrev pub time_at : Link → ℕ → ℕ
time_at l i = get_or l.times ((l.state.window.first + i) % 32) 0

unfoldable pub sound_time_at : Link → ℕ → Bool
sound_time_at l i = leb (time_at l i) l.state.clock

unfoldable pub sound_times : Link → Bool
sound_times l = every (sound_time_at l) l.state.window.held

-- a set deadline is at most 48 hours after the clock
abbrev pub sound_deadline : Option ℕ → ℕ → Bool
sound_deadline None clock = true
sound_deadline (Some at) clock = leb at (clock + 172800000)

unfoldable pub sound_timers : Timers → ℕ → Bool
sound_timers t clock = sound_deadline t.t1u clock && sound_deadline t.t2 clock && sound_deadline t.t3 clock

-- refusal 19 is given exactly where this is false
unfoldable pub sound_link : Link → Bool
sound_link l =
    sound_settings l.state.settings
    && (sound_counts l.state
    && (sound_times l && sound_lengths l.state.queue && sound_timers l.state.timers l.state.clock))

-- what every call refuses first: 19, 20, 23, 24, 22, 21
unfoldable pub call_refusal : Link → ℕ → ℕ → ℕ → ℕ
call_refusal l output pool now =
    pick (sound_link l)
    (pick l.state.status.closed link_closed
    (pick (ltb output 4096) link_output_too_short
    (pick (ltb pool 3984) pool_too_short
    (pick (ltb 281474976710655 now) clock_too_late
    (pick (ltb now l.state.clock) clock_went_back 0)))))
    outside_limits

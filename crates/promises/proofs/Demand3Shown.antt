-- The run that is shown, by evaluation of the definitions. Assumes nothing.
use Prim.Native.Nat.{ℕ}
use mathlib.Core.Path.{◌≡◌, refl}
use mathlib.Core.Bool.{Bool, true, false, ◌&&◌, false≢true}
use mathlib.Core.List.{List, [], ◌∷◌}
use borrow.Author.Tests.{ltb-true}
use lib.Dec.{ltb}
use lib.ListN.{replicate}
use Rattle.laws.specs.Lists.{Octets, every}
use Rattle.laws.specs.Numbers.{le_of, le_octets}
use Rattle.objects.specs.Objects.{object_of, object_answer}
use Rattle.asdu.specs.Header.{cause_listed, step_of, needed, header_in, layout_refusal, early_refusal, header_refusal, header_answer}
use Rattle.asdu.specs.Reading.{object_in, answer_at, first_number, objects_refusal, read_refusal, checked_header}
use Rattle.asdu.specs.Plain.{plain_element, plain_objects, plain_answer}
use Rattle.apdu.specs.Reading.{outer_refusal, short_answer, long_answer, frame_answer, asdu_part}
use Rattle.apdu.specs.Writing.{i_octets}
use Rattle.assembly.specs.Start as starts
use Rattle.assembly.specs.Start.{sight}
use Rattle.assembly.specs.Streams.{stream}
use Rattle.link_state.specs.Acknowledging.{confirms, numbers_in_limits, ack_refusal, acknowledged}
use Rattle.link_state.specs.Limits.{sound_settings, sound_counts, sound_length, sound_lengths, sound_time_at, sound_times, sound_timers, sound_link, call_refusal}
use Rattle.link_state.specs.Opening.{fresh_link, open_refusal, opened}
use Rattle.link_state.specs.declared.Link.{Link}
use Rattle.link.specs.Frames.{octets_of, wire}
use Rattle.link.specs.Making.{window_open, window_full, freed_of, sent_of, hand_out, first_waiting, shifted, queued, let_out, flushed, room, send_waiting, due, ending, shut}
use Rattle.link.specs.Events.{closing, accepting, release, s_freeing, on_s, received, i_freeing, on_i, on_answer, on_frame, send_plain, send_by, on_send, Event, frame, send, event_outcome, called}
use Rattle.link.specs.Answering.{answer_of, called_of}
use Rattle.elements.specs.Refusals.{refusal}
use Rattle.promises.specs.Demand3.{Call, answered, pool_after, opening, after}
use Rattle.promises.specs.Demand3Runs.{small, first, second, i_with, s_with, Shown}
use Rattle.std.specs.Prelude.{Ok}
use Rattle.asdu.specs.declared.Form.TheVariants.{Plain}

-- bytes, by a test of each
abbrev bytes : List ℕ → Bool
bytes [] = true
bytes (b ∷ s) = ltb b 256 && bytes s

split : (t v : Bool) → t && v ≡ true → (t ≡ true) × (v ≡ true)
split true v e = (refl, e)
split false v e = absurd (false≢true e)

octets_of_law : (s : List ℕ) → bytes s ≡ true → Octets s
octets_of_law [] e = tt
octets_of_law (b ∷ s) e = let p = split (ltb b 256) (bytes s) e in (ltb-true b 256 p.0, octets_of_law s p.1)

-- a link and its pool, and both after a call with 4,096 bytes of output
record Kept : Type 0 where
  link : Link
  pool : List ℕ

abbrev at : ℕ → Event → Call
at now event = record { event = event; output = replicate 4096 0; now = now }

abbrev next : Kept → Call → Kept
next k c = record { link = (answered c k.link k.pool).link; pool = pool_after c k.link k.pool }

abbrev last : Kept
last =
    next
    (next
    (next
    (next
    (next (record { link = (opened small 0).link; pool = replicate 3984 0 }) (at 10 (send first)))
    (at 20 (send second)))
    (at 30 (frame (i_with 0x00 0x00 first) false)))
    (at 40 (frame (s_with 0x02) false)))
    (at 50 (frame (s_with 0x06) false))

pub first_plain : plain_answer first ≡ Ok Plain
unfolding le_of object_of object_answer every cause_listed step_of needed header_in layout_refusal early_refusal header_refusal header_answer object_in answer_at first_number objects_refusal read_refusal checked_header plain_element plain_objects plain_answer
first_plain = refl

pub shows : Shown
unfolding refusal every le_of le_octets object_of object_answer cause_listed step_of needed header_in layout_refusal early_refusal header_refusal header_answer object_in answer_at first_number objects_refusal read_refusal checked_header plain_element plain_objects plain_answer outer_refusal short_answer long_answer frame_answer asdu_part i_octets starts.start_refusal sight stream confirms numbers_in_limits ack_refusal acknowledged sound_settings sound_counts sound_length sound_lengths sound_time_at sound_times sound_timers sound_link call_refusal fresh_link open_refusal opened octets_of wire window_open window_full freed_of sent_of hand_out first_waiting shifted queued let_out flushed room send_waiting due ending shut closing accepting release s_freeing on_s received i_freeing on_i on_answer on_frame send_plain send_by on_send event_outcome called answer_of called_of
shows =
    record {
      link = last.link;
      pool = last.pool;
      run =
          after
          (after
          (after
          (after
          (after (opening refl) (at 10 (send first)) tt refl)
          (at 20 (send second)) tt refl)
          (at 30 (frame (i_with 0x00 0x00 first) false)) (octets_of_law (i_with 0x00 0x00 first) refl) refl)
          (at 40 (frame (s_with 0x02) false)) (octets_of_law (s_with 0x02) refl) refl)
          (at 50 (frame (s_with 0x06) false)) (octets_of_law (s_with 0x06) refl) refl;
      sent = refl;
      received = refl;
      confirmed = refl;
      times = refl;
      have_gone = refl;
    }

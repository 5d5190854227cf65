-- Document 01's marked cases, by evaluation of the definitions. Assumes nothing.
use Prim.Native.Nat.{ℕ, ◌+◌, ◌-◌, ◌%◌, ◌≤◌}
use mathlib.Core.Path.{◌≡◌, refl}
use native.Mathlib.Omega.{arith}
use borrow.Author.Tests.{le-leb, lt-leb}
use Rattle.laws.specs.Lists.{tabulate, padded}
use Rattle.laws.specs.Numbers.{le_of}
use Rattle.objects.specs.Elements.{element_of}
use Rattle.objects.specs.Objects.{object_of, object_answer}
use Rattle.asdu.specs.Header.{cause_listed, step_of, needed, header_in, layout_refusal, early_refusal, header_refusal, header_answer}
use Rattle.asdu.specs.Reading.{object_in, answer_at, first_number, objects_refusal, read_refusal, checked_header, read_asdu}
use Rattle.asdu.specs.Plain.{plain_answer}
use Rattle.apdu.specs.Reading.{outer_refusal, short_answer, long_answer, frame_answer, asdu_part}
use Rattle.apdu.specs.Plain.{plain_frame}
use Rattle.elements.specs.Refusals.{refusal}
use Rattle.link_state.specs.Acknowledging.{confirms, numbers_in_limits, ack_refusal, acknowledged}
use Rattle.promises.specs.Cases.{answer, marked, MarkedCases}
use Rattle.std.specs.Prelude.{Err}

-- with none outstanding every number but the next is refused
only_none : (r : ℕ) → r ≤ 32767 → (r ≡ 0 → ⊥) → answer 32768 32768 r ≡ Err (refusal 27)
unfolding acknowledged ack_refusal numbers_in_limits confirms
only_none r h some =
    let e : (r + 32768 - 0) % 32768 ≡ r = omega arith in
    rw (le-leb r 32767 h, e, lt-leb r 0 (omega arith))

pub cases : MarkedCases
unfolding marked tabulate padded le_of element_of object_of object_answer cause_listed step_of needed header_in layout_refusal early_refusal header_refusal header_answer object_in answer_at first_number objects_refusal read_refusal checked_header read_asdu plain_answer outer_refusal short_answer long_answer frame_answer asdu_part plain_frame acknowledged ack_refusal numbers_in_limits confirms
cases = (
  refl,
  (
    (refl, refl),
    (
      (refl, refl),
      (
        (refl, refl),
        (
          (refl, refl),
          (
            (refl, (refl, refl)),
            (
              (refl, refl),
              (
                (refl, refl),
                (
                  (refl, refl),
                  (
                    (refl, refl),
                    (refl, (refl, (refl, (refl, (refl, (refl, (refl, (refl, (refl, ((refl, only_none), tt)))))))))),
                  ),
                ),
              ),
            ),
          ),
        ),
      ),
    ),
  ),
)

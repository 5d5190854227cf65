-- IEC 60870-5-104: the receive number of an I or S frame confirms all frames with lower numbers; numbers go round by 32,768.
use Rattle.std.specs.Prelude.{ℕ, ◌+◌, ◌-◌, Bool, ◌&&◌, leb, Result}
use Rattle.std.specs.Result.{result_unwrap_or}
use Rattle.laws.specs.Choice.{pick}
use Rattle.laws.specs.Window.{freed}
use Rattle.elements.specs.Refusals.{answer, outside_limits, wrong_receive_number}
use Rattle.elements.specs.declared.refusals.Refusal.{Refusal}

-- how many frames a receive number confirms, `next` being the number of the next frame to be sent and `held` the frames
-- outstanding, so that the oldest has the number next - held, going round. With next 5 and held 3 the number 2 confirms none,
-- 5 confirms three, and 1 would confirm 32,767
unfoldable pub confirms : ℕ → ℕ → ℕ → ℕ
confirms next held received = freed 32768 (next + 32768 - held) received

-- numbers of 15 bits, and a window that they can tell apart
unfoldable pub numbers_in_limits : ℕ → ℕ → ℕ → Bool
numbers_in_limits next held received = leb next 32767 && leb held 32767 && leb received 32767

-- 27 where that is more than are outstanding; 19 for numbers that no link has
unfoldable pub ack_refusal : ℕ → ℕ → ℕ → ℕ
ack_refusal next held received =
    pick (numbers_in_limits next held received)
    (pick (leb (confirms next held received) held) 0 wrong_receive_number)
    outside_limits

-- how many are freed, or the refusal
unfoldable pub acknowledged : ℕ → ℕ → ℕ → Result ℕ Refusal
acknowledged next held received = answer (ack_refusal next held received) (confirms next held received)

-- how many an answer frees
abbrev pub ack_freed : Result ℕ Refusal → ℕ
ack_freed a = result_unwrap_or a 0

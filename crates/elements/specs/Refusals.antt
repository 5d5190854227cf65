-- Why a call says no: the rows of document 01's table. A refusal has its row's number; 0 is no refusal.
use Rattle.std.specs.Prelude.{◌≡◌, ℕ, ◌-◌, List, [], ◌∷◌, map, get_or, eqb, Option, Some, None, Result, Ok, Err}
use Rattle.std.specs.Result.{result_unwrap_or}
use Rattle.laws.specs.Choice.{pick}
use Rattle.elements.specs.declared.refusals.Refusal.{Refusal}
use Rattle.elements.specs.declared.refusals.Refusal.TheVariants.{FrameTooShort, WrongStart, FrameTooLong, LengthMismatch, IWithoutAsdu, BadUControl, BadSControl, BadIControl, AsduTooShort, CauseNotListed, TypeNotCarried, LayoutMismatch, EmptySequence, WrongAddress, ValueOutOfRange, WrongKind, AsduTooLong, OutputTooShort, OutsideLimits, LinkClosed, ClockWentBack, ClockTooLate, LinkOutputTooShort, PoolTooShort, QueueFull, NotPlainForm, WrongReceiveNumber, WrongSendNumber, UNotAnswered, UTimedOut, ITimedOut, TooManyTests, BadCarry}

-- a refusal's number
abbrev pub number : Refusal → ℕ
number FrameTooShort = 1
number WrongStart = 2
number FrameTooLong = 3
number LengthMismatch = 4
number IWithoutAsdu = 5
number BadUControl = 6
number BadSControl = 7
number BadIControl = 8
number AsduTooShort = 9
number CauseNotListed = 10
number TypeNotCarried = 11
number LayoutMismatch = 12
number EmptySequence = 13
number WrongAddress = 14
number ValueOutOfRange = 15
number WrongKind = 16
number AsduTooLong = 17
number OutputTooShort = 18
number OutsideLimits = 19
number LinkClosed = 20
number ClockWentBack = 21
number ClockTooLate = 22
number LinkOutputTooShort = 23
number PoolTooShort = 24
number QueueFull = 25
number NotPlainForm = 26
number WrongReceiveNumber = 27
number WrongSendNumber = 28
number UNotAnswered = 29
number UTimedOut = 30
number ITimedOut = 31
number TooManyTests = 32
number BadCarry = 33

-- every refusal, by its number, and the one with number n, for n from 1 to 33
abbrev pub refusals : List Refusal
refusals =
    FrameTooShort ∷ WrongStart ∷ FrameTooLong ∷ LengthMismatch ∷ IWithoutAsdu ∷ BadUControl ∷ BadSControl ∷
    BadIControl ∷ AsduTooShort ∷ CauseNotListed ∷ TypeNotCarried ∷ LayoutMismatch ∷ EmptySequence ∷ WrongAddress ∷
    ValueOutOfRange ∷ WrongKind ∷ AsduTooLong ∷ OutputTooShort ∷ OutsideLimits ∷ LinkClosed ∷ ClockWentBack ∷
    ClockTooLate ∷ LinkOutputTooShort ∷ PoolTooShort ∷ QueueFull ∷ NotPlainForm ∷ WrongReceiveNumber ∷
    WrongSendNumber ∷ UNotAnswered ∷ UTimedOut ∷ ITimedOut ∷ TooManyTests ∷ BadCarry ∷ []

unfoldable pub refusal : ℕ → Refusal
refusal n = get_or refusals (n - 1) BadCarry

-- the refusal of the list that has this number, if there is one
abbrev pub among : List Refusal → ℕ → Option Refusal
among [] n = None
among (r ∷ rs) n = pick (eqb n (number r)) (Some r) (among rs n)

-- the refusal whose number is n: there is one for n from 1 to 33, and for no other
abbrev pub refusal_of : ℕ → Option Refusal
refusal_of n = among refusals n

-- what a call answers: what it made where the refusal's number is 0, else the refusal
abbrev pub answer : {A : Type 0} → ℕ → A → Result A Refusal
answer n made = pick (eqb n 0) (Ok made) (Err (refusal n))

-- an answer's number, 0 for what was made
abbrev pub answer_number : {A : Type 0} → Result A Refusal → ℕ
answer_number (Ok made) = 0
answer_number (Err r) = number r

-- the octet of an answer, and the two of one, 0 where they were refused
abbrev pub octet_in : Result ℕ Refusal → ℕ
octet_in a = result_unwrap_or a 0

abbrev pub pair_first : Result (ℕ × ℕ) Refusal → ℕ
pair_first a = (result_unwrap_or a (0, 0)).0

abbrev pub pair_second : Result (ℕ × ℕ) Refusal → ℕ
pair_second a = (result_unwrap_or a (0, 0)).1

-- the rows by their names
abbrev pub frame_too_short : ℕ
frame_too_short = 1

abbrev pub wrong_start : ℕ
wrong_start = 2

abbrev pub frame_too_long : ℕ
frame_too_long = 3

abbrev pub length_mismatch : ℕ
length_mismatch = 4

abbrev pub i_without_asdu : ℕ
i_without_asdu = 5

abbrev pub bad_u_control : ℕ
bad_u_control = 6

abbrev pub bad_s_control : ℕ
bad_s_control = 7

abbrev pub bad_i_control : ℕ
bad_i_control = 8

abbrev pub asdu_too_short : ℕ
asdu_too_short = 9

abbrev pub cause_not_listed : ℕ
cause_not_listed = 10

abbrev pub type_not_carried : ℕ
type_not_carried = 11

abbrev pub layout_mismatch : ℕ
layout_mismatch = 12

abbrev pub empty_sequence : ℕ
empty_sequence = 13

abbrev pub wrong_address : ℕ
wrong_address = 14

abbrev pub value_out_of_range : ℕ
value_out_of_range = 15

abbrev pub wrong_kind : ℕ
wrong_kind = 16

abbrev pub asdu_too_long : ℕ
asdu_too_long = 17

abbrev pub output_too_short : ℕ
output_too_short = 18

abbrev pub outside_limits : ℕ
outside_limits = 19

abbrev pub link_closed : ℕ
link_closed = 20

abbrev pub clock_went_back : ℕ
clock_went_back = 21

abbrev pub clock_too_late : ℕ
clock_too_late = 22

abbrev pub link_output_too_short : ℕ
link_output_too_short = 23

abbrev pub pool_too_short : ℕ
pool_too_short = 24

abbrev pub queue_full : ℕ
queue_full = 25

abbrev pub not_plain_form : ℕ
not_plain_form = 26

abbrev pub wrong_receive_number : ℕ
wrong_receive_number = 27

abbrev pub wrong_send_number : ℕ
wrong_send_number = 28

abbrev pub u_not_answered : ℕ
u_not_answered = 29

abbrev pub u_timed_out : ℕ
u_timed_out = 30

abbrev pub i_timed_out : ℕ
i_timed_out = 31

abbrev pub too_many_tests : ℕ
too_many_tests = 32

abbrev pub bad_carry : ℕ
bad_carry = 33

-- The names in order, and that each is the number of its refusal: so no contract can use a name for another row.
abbrev pub row_names : List ℕ
row_names =
    frame_too_short ∷ wrong_start ∷ frame_too_long ∷ length_mismatch ∷ i_without_asdu ∷ bad_u_control ∷ bad_s_control ∷
    bad_i_control ∷ asdu_too_short ∷ cause_not_listed ∷ type_not_carried ∷ layout_mismatch ∷ empty_sequence ∷
    wrong_address ∷ value_out_of_range ∷ wrong_kind ∷ asdu_too_long ∷ output_too_short ∷ outside_limits ∷ link_closed ∷
    clock_went_back ∷ clock_too_late ∷ link_output_too_short ∷ pool_too_short ∷ queue_full ∷ not_plain_form ∷
    wrong_receive_number ∷ wrong_send_number ∷ u_not_answered ∷ u_timed_out ∷ i_timed_out ∷ too_many_tests ∷ bad_carry ∷ []

abbrev pub RowsNamed : Type 0
RowsNamed = map number refusals ≡ row_names

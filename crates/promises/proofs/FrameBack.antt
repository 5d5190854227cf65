-- What the writer of frames accepts reads back: the same numbers, the same ASDU, the same flags. Assumes nothing.
use Prim.Native.Nat.{ℕ, ◌+◌, ◌*◌, ◌/◌, ◌%◌, ◌-◌, ◌<◌, ◌≤◌}
use mathlib.Core.Path.{◌≡◌, refl, ap, ◌∙◌}
use mathlib.Core.List.{List, [], ◌∷◌}
use native.Mathlib.Omega.{arith}
use borrow.Author.Tests.{eq-eqb, ne_eqb, le-ltb}
use lib.Dec.{eqb}
use lib.ListN.{length, drop, get_or}
use Rattle.laws.specs.Bits.{fields, num}
use Rattle.laws.specs.Numbers.{le_of, le_octets}
use Rattle.laws.specs.Choice.{◌then◌}
use Rattle.laws.proofs.Choices.{both}
use Rattle.laws.proofs.Layouts.{fields_octet, num_flag, num_fits}
use Rattle.asdu.specs.Reading.{read_refusal}
use Rattle.asdu.specs.Writing.{write_refusal, asdu_octets}
use Rattle.asdu.specs.declared.Asdu.{Asdu}
use Rattle.asdu.proofs.Lengths.{asdu_parts}
use Rattle.apdu.specs.Control.{send_number, receive_number, number_at, u_layout, u_of, u_octet}
use Rattle.apdu.specs.Reading.{outer_refusal, short_answer, long_answer, frame_answer, asdu_part}
use Rattle.apdu.specs.Writing.{start_octets, i_octets, s_octets, u_octets, numbers_refusal, number_refusal, room_refusal, i_refusal, relay_refusal, s_refusal}
use Rattle.apdu.specs.declared.frame.UFrame.{UFrame}
use Rattle.asdu.proofs.Passed.{read_sized}
use Rattle.apdu.proofs.Answers.{i_long, number_small, numbers_small}
use Rattle.promises.specs.Asdus.{TypedAsdu, ReadBack}
use Rattle.promises.specs.Frames.{IBack, FrameReadsBack}
use Rattle.promises.proofs.ReadBack.{reads_back}
use Rattle.apdu.specs.declared.frame.Frame.TheVariants.{I, S, U}
use Rattle.std.specs.Prelude.{Ok}

-- ---- an I frame

outer_passes : (f : List ℕ) → 6 ≤ length f → get_or f 0 0 ≡ 104 → get_or f 1 0 ≤ 253 → length f ≡ 2 + get_or f 1 0 → outer_refusal f ≡ 0
unfolding outer_refusal
outer_passes f h a b c = rw (le-ltb (length f) 6 h, eq-eqb (get_or f 0 0) 104 a, le-ltb 253 (get_or f 1 0) b, eq-eqb (length f) (2 + get_or f 1 0) c)

long_reads : (f : List ℕ) → get_or f 2 0 % 2 ≡ 0 → get_or f 4 0 % 2 ≡ 0 → read_refusal (drop 6 f) ≡ 0
    → long_answer f ≡ Ok (I (send_number (number_at 2 f)) (receive_number (number_at 4 f)))
unfolding long_answer
long_reads f a b c = rw (eq-eqb (get_or f 2 0 % 2) 0 a, eq-eqb (get_or f 4 0 % 2) 0 b, eq-eqb (read_refusal (drop 6 f)) 0 c)

long_frame : (f : List ℕ) → outer_refusal f ≡ 0 → (get_or f 1 0 ≡ 4 → ⊥) → frame_answer f ≡ long_answer f
unfolding frame_answer
long_frame f a b = rw (eq-eqb (outer_refusal f) 0 a, ne_eqb (get_or f 1 0) 4 b)

-- a number of 15 bits, shifted left by 1, in two octets
even_octet : (n : ℕ) → n * 2 % 256 % 2 ≡ 0
even_octet n = omega arith

halved : (n : ℕ) → n ≤ 32767 → (n * 2 % 256 + (n * 2 / 256 % 256 + 0 * 256) * 256) / 2 ≡ n
halved n h = omega arith

module _ (s r : ℕ) (asdu : List ℕ) where
  start_is : get_or (i_octets s r asdu) 0 0 ≡ 104
  unfolding i_octets
  start_is = refl

  long_is : get_or (i_octets s r asdu) 1 0 ≡ 4 + length asdu
  unfolding i_octets
  long_is = refl

  third_is : get_or (i_octets s r asdu) 2 0 ≡ s * 2 % 256
  unfolding i_octets le_octets
  third_is = refl

  fifth_is : get_or (i_octets s r asdu) 4 0 ≡ r * 2 % 256
  unfolding i_octets le_octets
  fifth_is = refl

  rest_is : drop 6 (i_octets s r asdu) ≡ asdu
  unfolding i_octets le_octets
  rest_is = refl

  send_is : s ≤ 32767 → number_at 2 (i_octets s r asdu) ≡ s
  unfolding i_octets le_octets le_of
  send_is h = halved s h

  receive_is : r ≤ 32767 → number_at 4 (i_octets s r asdu) ≡ r
  unfolding i_octets le_octets le_of
  receive_is h = halved r h

  pub i_reads : s ≤ 32767 → r ≤ 32767 → 1 ≤ length asdu → read_refusal asdu ≡ 0 → frame_answer (i_octets s r asdu) ≡ Ok (I (send_number s) (receive_number r))
  i_reads hs hr some h =
      let f = i_octets s r asdu in
      let small = (read_sized asdu h).1 in
      let outer : outer_refusal f ≡ 0 =
      outer_passes f (omega (arith, i_long s r asdu)) start_is (omega (arith, long_is)) (omega (arith, i_long s r asdu, long_is)) in
      let long = long_frame f outer (λ e. omega (arith, long_is)) in
      let read =
      long_reads f (ap (λ (n : ℕ). n % 2) third_is ∙ even_octet s) (ap (λ (n : ℕ). n % 2) fifth_is ∙ even_octet r) (ap read_refusal rest_is ∙ h) in
      long ∙ (read ∙ rw (send_is hs, receive_is hr))

  pub part_is : {n m : ℕ} → frame_answer (i_octets s r asdu) ≡ Ok (I (send_number n) (receive_number m)) → asdu_part (i_octets s r asdu) ≡ asdu
  unfolding asdu_part
  part_is e = rw e rest_is

carried_back : (s r : ℕ) (asdu : List ℕ) → numbers_refusal s r ≡ 0 → 1 ≤ length asdu → read_refusal asdu ≡ 0 → IBack s r asdu
carried_back s r asdu h some reads =
    let (hs, hr) = numbers_small s r h in
    let answer = i_reads s r asdu hs hr some reads in
    record { answer = answer; part = part_is s r asdu answer }

i_back : (s r : ℕ) (a : Asdu) (room : ℕ) → TypedAsdu a → i_refusal s r a room ≡ 0 → IBack s r (asdu_octets a) × ReadBack a
unfolding i_refusal
i_back s r a room typed h =
    let x = both (numbers_refusal s r) (write_refusal a (room - 6)) h in
    let back = reads_back a (room - 6) typed x.1 in
    (carried_back s r (asdu_octets a) x.0 (omega (arith, asdu_parts a)) back.accepted, back)

relay_back : (s r : ℕ) (asdu : List ℕ) (room : ℕ) → relay_refusal s r asdu room ≡ 0 → IBack s r asdu
unfolding relay_refusal
relay_back s r asdu room h =
    let x = both (numbers_refusal s r) (read_refusal asdu then room_refusal (6 + length asdu) room) h in
    let reads = (both (read_refusal asdu) (room_refusal (6 + length asdu) room) x.1).0 in
    carried_back s r asdu x.0 (omega (arith, (read_sized asdu reads).0)) reads

-- ---- an S frame

pub s_reads : (r : ℕ) → r ≤ 32767 → frame_answer (s_octets r) ≡ Ok (S (receive_number r))
unfolding frame_answer outer_refusal short_answer s_octets le_octets le_of
s_reads r h = ap (λ (n : ℕ). Ok (S (receive_number n))) (halved r h)

s_back : (r room : ℕ) → s_refusal r room ≡ 0 → frame_answer (s_octets r) ≡ Ok (S (receive_number r))
unfolding s_refusal
s_back r room h = s_reads r (number_small r (both (number_refusal r) _ h).0)

-- ---- a U frame

u_reads : (b : ℕ) → b < 256 → b % 4 ≡ 3 → frame_answer (start_octets 4 b 0) ≡ Ok (U (u_of b))
unfolding frame_answer outer_refusal short_answer le_octets le_of
u_reads b h low =
    let e : b % 256 ≡ b = omega arith in
    let g : b / 256 % 256 ≡ 0 = omega arith in
    rw (e, g, low)

module _ (u : UFrame) where
  bits : List ℕ
  bits = 3 ∷ num u.start_act ∷ num u.start_con ∷ num u.stop_act ∷ num u.stop_con ∷ num u.test_act ∷ num u.test_con ∷ []

  bit : (i : ℕ) → get_or (fields u_layout (u_octet u)) i 0 ≡ get_or bits i 0
  unfolding bits
  bit i =
      ap (λ (l : List ℕ). get_or l i 0)
      (fields_octet 8 u_layout bits tt (
        omega arith,
        (
          num_fits u.start_act,
          (
            num_fits u.start_con,
            (
              num_fits u.stop_act,
              (num_fits u.stop_con, (num_fits u.test_act, (num_fits u.test_con, tt))),
            ),
          ),
        ),
      ))

  u_small : u_octet u < 256
  u_small =
      omega (
        arith,
        num_fits u.start_act,
        num_fits u.start_con,
        num_fits u.stop_act,
        num_fits u.stop_con,
        num_fits u.test_act,
        num_fits u.test_con,
      )

  one : (i : ℕ) → eqb (get_or (fields u_layout (u_octet u)) i 0) 1 ≡ eqb (get_or bits i 0) 1
  one i = ap (λ (n : ℕ). eqb n 1) (bit i)

  flags : u_of (u_octet u) ≡ u
  unfolding bits
  flags = λ j. record {
    start_act = (one 1 ∙ num_flag u.start_act) j;
    start_con = (one 2 ∙ num_flag u.start_con) j;
    stop_act = (one 3 ∙ num_flag u.stop_act) j;
    stop_con = (one 4 ∙ num_flag u.stop_con) j;
    test_act = (one 5 ∙ num_flag u.test_act) j;
    test_con = (one 6 ∙ num_flag u.test_con) j;
  }

  pub u_back : frame_answer (u_octets u) ≡ Ok (U u)
  unfolding u_octets bits
  u_back = u_reads (u_octet u) u_small (bit 0) ∙ ap (λ (u : UFrame). Ok (U u)) flags

pub frame_reads_back : FrameReadsBack
frame_reads_back = record { i = i_back; relay = relay_back; s = s_back; u = u_back }

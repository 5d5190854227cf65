-- A frame that the reader accepts the writer accepts, and writes as long, each octet with what its layout keeps. Assumes nothing.
use Prim.Native.Nat.{ℕ, ◌+◌, ◌-◌, ◌*◌, ◌/◌, ◌%◌, ◌<◌, ◌≤◌}
use mathlib.Core.Path.{◌≡◌, sym, ap, ◌∙◌}
use mathlib.Core.List.{List, [], ◌∷◌, ◌++◌, append-nil}
use native.Mathlib.Omega.{arith}
use native.Mathlib.Nat.{le_of_eq}
use borrow.Author.Tests.{le-ltb}
use lib.ListN.{length, get_or, take, drop, replicate, length-drop}
use lib.Seq.{get_or-drop, take-add, take_all}
use Rattle.laws.specs.Bits.{◌at◌, whole, fields, kept, octet}
use Rattle.laws.specs.Lists.{Octets}
use Rattle.laws.specs.Numbers.{le_of, le_octets}
use Rattle.laws.proofs.Layouts.{kept_whole, flag_num}
use Rattle.laws.proofs.Lists.{octets_drop, octet_fits}
use Rattle.laws.proofs.Numbers as Numbers
use Rattle.objects.specs.Promises.{kept_by}
use Rattle.objects.proofs.Elements.{kept_wholes}
use Rattle.asdu.specs.Header.{header_answer}
use Rattle.asdu.specs.Reading.{read_asdu}
use Rattle.asdu.specs.Writing.{asdu_octets}
use Rattle.apdu.specs.Control.{send_number, receive_number, number_at, u_layout, u_of, u_octet}
use Rattle.apdu.specs.Reading.{frame_answer}
use Rattle.apdu.specs.Writing.{start_octets, i_octets, s_octets, u_octets, number_refusal, numbers_refusal, i_refusal, s_refusal}
use Rattle.apdu.proofs.Answers.{then_goes, some_room, start_long, i_long}
use Rattle.apdu.proofs.Shapes.{Outer, ITaken, STaken, UTaken, Shape, i_shape, s_shape, u_shape, refused_shape, shape}
use Rattle.promises.specs.Asdus.{asdu_form}
use Rattle.promises.specs.Frames.{FrameAgain, FrameWritesAgain, rewritten, rewrite_refusal, frame_form}
use Rattle.promises.proofs.WriteAgain.{writes_again}
use Rattle.std.specs.Prelude.{Result}
use Rattle.elements.specs.Refusals.{answer_number}
use Rattle.elements.specs.declared.refusals.Refusal.{Refusal}
use Rattle.apdu.specs.declared.frame.Frame.TheVariants.{I, S, U}
use Rattle.apdu.specs.declared.frame.Frame.{Frame}
use Rattle.std.specs.Prelude.{Ok}

-- ---- the six octets

-- 68 hex, L and a number of two octets
first_four : (f : List ℕ) {l : ℕ} (x : List ℕ) → 6 ≤ length f → get_or f 0 0 ≡ 104 → get_or f 1 0 ≡ l
    → 104 ∷ l ∷ (take 2 (drop 2 f) ++ x) ≡ take 4 f ++ x
first_four [] x h p q = absurd (omega arith)
first_four (a ∷ []) x h p q = absurd (omega arith)
first_four (a ∷ b ∷ []) x h p q = absurd (omega arith)
first_four (a ∷ b ∷ c ∷ []) x h p q = absurd (omega arith)
first_four (a ∷ b ∷ c ∷ d ∷ f) x h p q = λ i. sym p i ∷ (sym q i ∷ (c ∷ (d ∷ x)))

module _ (f : List ℕ) (o : Octets f) (out : Outer f) where
  two : (i : ℕ) → i + 2 ≤ length f → le_octets 2 (le_of 2 (drop i f)) ≡ take 2 (drop i f)
  two i h = Numbers.writes_again 2 (drop i f) (octets_drop i f o) (rw (length-drop i f) (omega arith))

  -- as they stood, where L and the numbers are theirs
  front : (l x y : ℕ) → get_or f 1 0 ≡ l → x ≡ le_of 2 (drop 2 f) → start_octets l x y ≡ take 4 f ++ le_octets 2 y
  front l x y p q = rw (q, two 2 (omega (arith, out.six))) (first_four f (le_octets 2 y) out.six out.start p)

  pub all_six : (l x y : ℕ) → get_or f 1 0 ≡ l → x ≡ le_of 2 (drop 2 f) → y ≡ le_of 2 (drop 4 f) → start_octets l x y ≡ take 6 f
  all_six l x y p q r = front l x y p q ∙ rw (r, two 4 out.six) (sym (take-add 4 2 f))

  -- two octets whose bit 0 is clear
  even : (i : ℕ) → get_or f i 0 % 2 ≡ 0 → number_at i f * 2 ≡ le_of 2 (drop i f)
  even i h = omega (arith, Numbers.le_step 1 f i)

  pub number_accepted : (i : ℕ) → number_refusal (number_at i f) ≡ 0
  unfolding number_refusal
  number_accepted i = rw (le-ltb 32767 (number_at i f) (omega (arith, Numbers.le_fits 2 (drop i f) (octets_drop i f o))))

  -- a frame of six octets
  no_more : get_or f 1 0 ≡ 4 → length f ≡ 6
  no_more e = omega (arith, out.long)

  pub only_six : get_or f 1 0 ≡ 4 → take 6 f ≡ f
  only_six e = take_all 6 f (le_of_eq (no_more e))

-- ---- each kind of frame

-- two octets, with bit 0 of the first cleared
cleared : (d e : ℕ) → d < 256 → e < 256 → ((d + e * 256) / 2 * 2 % 256 ≡ d / 2 * 2) × ((d + e * 256) / 2 * 2 / 256 % 256 ≡ e)
cleared d e p q =
    let h : (d + e * 256) / 2 * 2 ≡ d / 2 * 2 + e * 256 = omega arith in
    let m : d / 2 < 128 = omega arith in
    rw h (parts (d / 2) e m q)
  where
    parts : (x y : ℕ) → x < 128 → y < 256 → ((x * 2 + y * 256) % 256 ≡ x * 2) × ((x * 2 + y * 256) / 256 % 256 ≡ y)
    parts x y p q = (omega arith, omega arith)

module _ (f : List ℕ) (o : Octets f) where
  pub i_octets_law : ITaken f → (asdu : List ℕ) → length asdu ≡ length (drop 6 f) → i_octets (number_at 2 f) (number_at 4 f) asdu ≡ take 6 f ++ asdu
  unfolding i_octets
  i_octets_law c asdu e =
      let out = c.outside in
      let l : get_or f 1 0 ≡ 4 + length asdu = omega (arith, out.long, out.six, length-drop 6 f) in
      ap (λ (x : List ℕ). x ++ asdu) (all_six f o out (4 + length asdu) _ _ l (even f o out 2 c.send_bit) (even f o out 4 c.receive_bit))

  -- bit 0 of octet 4 is cleared
  s_octets_law : STaken f → s_octets (number_at 4 f) ≡ take 4 f ++ (get_or f 4 0 / 2 * 2 ∷ get_or f 5 0 ∷ [])
  unfolding s_octets le_octets
  s_octets_law c =
      let v = number_at 4 f * 2 in
      let d = octet_fits f 4 o in
      let e = octet_fits f 5 o in
      let x : le_of 2 (drop 4 f) ≡ get_or f 4 0 + get_or f 5 0 * 256 = omega (arith, Numbers.le_step 1 f 4, Numbers.le_one f 5) in
      let y = ap (λ (n : ℕ). n / 2 * 2) x in
      let p : v % 256 ≡ get_or f 4 0 / 2 * 2 = ap (λ (n : ℕ). n % 256) y ∙ (cleared (get_or f 4 0) (get_or f 5 0) d e).0 in
      let q : v / 256 % 256 ≡ get_or f 5 0 = ap (λ (n : ℕ). n / 256 % 256) y ∙ (cleared (get_or f 4 0) (get_or f 5 0) d e).1 in
      front f o c.outside 4 1 v c.four (sym c.first) ∙ rw (p, q)

  pub s_same : STaken f → get_or f 4 0 % 2 ≡ 0 → s_octets (number_at 4 f) ≡ f
  unfolding s_octets
  s_same c h =
      let out = c.outside in
      all_six f o out 4 1 (number_at 4 f * 2) c.four (sym c.first) (even f o out 4 h) ∙ only_six f o out c.four

  -- a U frame's octet has no reserved bit, and its low bits are 11
  u_octet_law : get_or f 2 0 % 4 ≡ 3 → u_octet (u_of (get_or f 2 0)) ≡ get_or f 2 0
  u_octet_law h =
      let b = get_or f 2 0 in
      rw (flag_num 2 b, flag_num 3 b, flag_num 4 b, flag_num 5 b, flag_num 6 b, flag_num 7 b)
      (ap (λ (x : ℕ). octet u_layout (x ∷ drop 1 (fields u_layout b))) (sym h) ∙ kept_whole b u_layout (tt, (tt, (tt, (tt, (tt, (tt, (tt, tt))))))) (octet_fits f 2 o))

  pub u_same : UTaken f → u_octets (u_of (get_or f 2 0)) ≡ f
  unfolding u_octets
  u_same c =
      let out = c.outside in
      let x : u_octet (u_of (get_or f 2 0)) ≡ le_of 2 (drop 2 f) = u_octet_law c.low ∙ omega (arith, Numbers.le_step 1 f 2, Numbers.le_one f 3, c.second) in
      all_six f o out 4 _ 0 c.four x (sym c.rest) ∙ only_six f o out c.four

-- ---- written again

module _ (f : List ℕ) (room : ℕ) (o : Octets f) (h : length f ≤ room) where
  -- by the answer
  again_by : {a : Result Frame Refusal} → frame_answer f ≡ a → rewrite_refusal a f room ≡ 0 → length (rewritten a f) ≡ length f → rewritten a f ≡ kept_by (frame_form a f) f
      → FrameAgain f room
  again_by e p q r = record { accepted = rw e p; long = rw e q; kept = rw e r }

  i_again : ITaken f → frame_answer f ≡ Ok (I (send_number (number_at 2 f)) (receive_number (number_at 4 f))) → FrameAgain f room
  unfolding i_refusal numbers_refusal
  i_again c e =
      let out = c.outside in
      let asdu = drop 6 f in
      let w = writes_again asdu (room - 6) (octets_drop 6 f o) c.reads (rw (length-drop 6 f) (omega arith)) in
      again_by e
      (then_goes _ _ (then_goes _ _ (number_accepted f o out 2) ∙ number_accepted f o out 4) ∙ w.accepted)
      (i_long (number_at 2 f) (number_at 4 f) (asdu_octets (read_asdu asdu).asdu) ∙ omega (arith, w.long, length-drop 6 f, out.six))
      (i_octets_law f o c (asdu_octets (read_asdu asdu).asdu) w.long
      ∙ (ap (λ (x : List ℕ). take 6 f ++ x) w.kept ∙ sym (kept_wholes 6 (asdu_form (header_answer asdu)) f o out.six)))

  s_kept : 6 ≤ length f → kept_by (replicate 4 whole ++ ((7 at 1 ∷ []) ∷ whole ∷ [])) f ≡ take 4 f ++ (get_or f 4 0 / 2 * 2 ∷ get_or f 5 0 ∷ [])
  unfolding kept_by
  s_kept l =
      let d = octet_fits f 4 o in
      let p : kept (7 at 1 ∷ []) (get_or f 4 0) ≡ get_or f 4 0 / 2 * 2 = omega arith in
      let q : kept whole (get_or f 5 0) ≡ get_or f 5 0 = kept_whole (get_or f 5 0) whole (tt, tt) (octet_fits f 5 o) in
      kept_wholes 4 ((7 at 1 ∷ []) ∷ whole ∷ []) f o (omega arith)
      ∙ rw (get_or-drop 4 f 0 0, get_or-drop 1 (drop 4 f) 0 0, get_or-drop 4 f 1 0, p, q)

  s_again : STaken f → frame_answer f ≡ Ok (S (receive_number (number_at 4 f))) → FrameAgain f room
  unfolding s_refusal s_octets
  s_again c e =
      let out = c.outside in
      again_by e
      (then_goes _ _ (number_accepted f o out 4) ∙ some_room 6 room (omega (arith, out.six)))
      (start_long 4 1 (number_at 4 f * 2) ∙ sym (no_more f o out c.four))
      (s_octets_law f o c ∙ sym (s_kept out.six))

  u_again : UTaken f → frame_answer f ≡ Ok (U (u_of (get_or f 2 0))) → FrameAgain f room
  unfolding kept_by
  u_again c e =
      let out = c.outside in
      let same = u_same f o c in
      again_by e
      (some_room 6 room (omega (arith, out.six)))
      (ap length same)
      (same ∙ sym (kept_wholes 6 [] f o out.six ∙ (append-nil (take 6 f) ∙ only_six f o out c.four)))

pub frame_writes_again : FrameWritesAgain
frame_writes_again f room o h l = by (shape f)
  where
    by : Shape f → FrameAgain f room
    by (i_shape c e) = i_again f room o l c e
    by (s_shape c e) = s_again f room o l c e
    by (u_shape c e) = u_again f room o l c e
    by (refused_shape r n e) = absurd (n (sym (ap answer_number e) ∙ h))

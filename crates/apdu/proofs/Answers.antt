-- The answers and the outputs of writing a frame, as the code comes to them, and the six octets before an ASDU. Assumes nothing.
use Prim.Native.Nat.{ℕ, suc, ◌+◌, ◌-◌, ◌*◌, ◌<◌, ◌≤◌}
use mathlib.Core.Path.{◌≡◌, refl, sym, ap, subst, ◌∙◌}
use mathlib.Core.Bool.{Bool, true, false}
use mathlib.Core.List.{List, [], ◌++◌, append_assoc}
use native.Mathlib.Omega.{arith}
use borrow.Author.Tests.{eqb-true, ltb-false, lt-ltb, le-ltb, ne_eqb}
use lib.Dec.{eqb, ltb}
use lib.ListN.{length, set, take, drop, length-append, length-take, length-drop}
use lib.Seq.{sets, sets-eq, length-sets, drop_at}
use Rattle.laws.specs.Choice.{pick, ◌then◌}
use Rattle.laws.specs.Numbers.{le_octets}
use Rattle.laws.proofs.Lists.{to_the_end, sets_all, rest_sets}
use Rattle.elements.specs.Refusals.{refusal, output_too_short}
use Rattle.elements.specs.declared.refusals.Refusal.{Refusal}
use Rattle.objects.specs.declared.kinds.Kind.{Kind}
use Rattle.asdu.specs.Header.{needed}
use Rattle.asdu.specs.Writing.{write_refusal, asdu_octets, write_answer, written}
use Rattle.asdu.specs.declared.Asdu.{Asdu}
use Rattle.std.specs.Prelude.{Result, Ok, Err}
use Rattle.laws.proofs.Choices.{passed, both}
use Rattle.asdu.proofs.Lengths.{writable}
use Rattle.apdu.specs.Control.{u_octet}
use Rattle.apdu.specs.declared.frame.UFrame.{UFrame}
use Rattle.apdu.specs.Writing.{start_octets, i_octets, s_octets, u_octets, number_refusal, numbers_refusal, room_refusal, answer_for, output_for}

-- ---- the answer and the output

pub refuse : {w : Refusal} {q : ℕ} (r : ℕ) (octets out : List ℕ) → q ≡ r → eqb r 0 ≡ false → w ≡ refusal r
    → (Err w ≡ answer_for q octets) × (out ≡ output_for q octets out)
unfolding answer_for output_for
refuse r octets out e some is = (rw (e, some, is), rw (e, some))

pub accept : {q n : ℕ} {out' : List ℕ} (octets out : List ℕ) → q ≡ 0 → n ≡ length octets → n ≤ length out → out' ≡ sets out 0 octets
    → (Ok n ≡ answer_for q octets) × (out' ≡ output_for q octets out)
unfolding answer_for output_for
accept octets out none e h s = (rw (none, e), rw none (s ∙ sets_all out octets (omega (arith, e, h))))

-- ---- refusals in a row, and the room

pub then_goes : (r x : ℕ) → r ≡ 0 → (r then x) ≡ x
then_goes r x none = rw none

pub no_room : (n room : ℕ) → room < n → room_refusal n room ≡ output_too_short
unfolding room_refusal
no_room n room h = rw (lt-ltb room n h)

pub some_room : (n room : ℕ) → n ≤ room → room_refusal n room ≡ 0
unfolding room_refusal
some_room n room h = rw (le-ltb room n h)

-- numbers that are not refused have 15 bits
pub number_small : (n : ℕ) → number_refusal n ≡ 0 → n ≤ 32767
unfolding number_refusal
number_small n h = ltb-false _ _ (passed (ltb 32767 n) 14 0 h).0

pub numbers_small : (s r : ℕ) → numbers_refusal s r ≡ 0 → (s ≤ 32767) × (r ≤ 32767)
unfolding numbers_refusal
numbers_small s r h = let n = both _ _ h in (number_small s n.0, number_small r n.1)

-- ---- how long an ASDU is

-- no record goes into an output without room
pub record_refused : (a : Asdu) → eqb (write_refusal a 0) 0 ≡ false
unfolding needed
record_refused a = ne_eqb (write_refusal a 0) 0 (λ h. let (k, w) = writable a 0 h in at_least k a.sequence a.count w.enough)
  where
    at_least : (k : Kind) (q : Bool) (n : ℕ) → needed k q n ≤ 0 → ⊥
    at_least k true n h = omega arith
    at_least k false n h = omega arith

-- ---- the six octets

pub start_long : (l a b : ℕ) → length (start_octets l a b) ≡ 6
unfolding le_octets
start_long l a b = refl

pub start_stored : (at l a b : ℕ) (out : List ℕ) {o₁ o₂ o₃ o₄ : List ℕ}
    → o₁ ≡ set out at 104 → o₂ ≡ set o₁ (at + 1) l → o₃ ≡ sets o₂ (at + 2) (le_octets 2 a) → o₄ ≡ sets o₃ (at + 4) (le_octets 2 b)
    → o₄ ≡ sets out at (start_octets l a b)
unfolding le_octets
start_stored at l a b out e₁ e₂ e₃ e₄ =
    let one : at + 1 ≡ suc at = omega arith in
    let two : at + 2 ≡ suc (suc at) = omega arith in
    let four : at + 4 ≡ suc (suc (suc (suc at))) = omega arith in
    rw (e₄, e₃, e₂, e₁, one, two, four)

-- ---- octets stored

-- a row that stands before one that is stored already
sets_before : (l vs ws : List ℕ) (n : ℕ) → length vs ≡ n → n + length ws ≤ length l → sets (sets l n ws) 0 vs ≡ sets l 0 (vs ++ ws)
sets_before l vs ws n e h =
    let m = sets l n ws in
    let lm : length m ≡ length l = length-sets l n ws in
    let front : length (take n l) ≡ n = length-take n l ∙ omega arith in
    let long : length (vs ++ ws) ≡ n + length ws = omega (arith, length-append vs ws) in
    let rest : drop n m ≡ ws ++ drop (n + length ws) l =
    ap (drop n) (sets-eq ws l n h ∙ append_assoc (take n l) ws _) ∙ drop_at (take n l) _ n front in
    sets_all m vs (omega (arith, lm))
    ∙ (ap (λ (k : ℕ). vs ++ drop k m) e
    ∙ (ap (λ (x : List ℕ). vs ++ x) rest
    ∙ (sym (append_assoc vs ws _)
    ∙ (ap (λ (k : ℕ). (vs ++ ws) ++ drop k l) (sym long) ∙ sym (sets_all l (vs ++ ws) (omega (arith, long)))))))

pub s_long : (r : ℕ) → length (s_octets r) ≡ 6
unfolding s_octets
s_long r = start_long 4 1 (r * 2)

pub u_long : (u : UFrame) → length (u_octets u) ≡ 6
unfolding u_octets
u_long u = start_long 4 (u_octet u) 0

-- an I frame: the ASDU's octets, then the six before them
pub i_long : (s r : ℕ) (asdu : List ℕ) → length (i_octets s r asdu) ≡ 6 + length asdu
unfolding i_octets le_octets
i_long s r asdu = omega arith

pub i_stored : (s r : ℕ) (asdu out : List ℕ) {n : ℕ} {m : List ℕ} → n ≡ length asdu → m ≡ sets out 6 asdu → 6 + length asdu ≤ length out
    → sets m 0 (start_octets (4 + n) (s * 2) (r * 2)) ≡ sets out 0 (i_octets s r asdu)
unfolding i_octets
i_stored s r asdu out e stored h =
    let l = 4 + length asdu in
    rw (e, stored) (sets_before out (start_octets l (s * 2) (r * 2)) asdu 6 (start_long l (s * 2) (r * 2)) h)

-- ---- an ASDU written into the part after the six octets

abbrev part : List ℕ → List ℕ
part out = take (length out - 6) (drop 6 out)

part_long : (out : List ℕ) → length (part out) ≡ length out - 6
part_long out = ap length (to_the_end out 6) ∙ length-drop 6 out

-- what an answer tells of the record
abbrev Outcome : Asdu → ℕ → Result ℕ Refusal → Type 0
Outcome a room (Ok n) = (write_refusal a room ≡ 0) × (n ≡ length (asdu_octets a))
Outcome a room (Err r) = (eqb (write_refusal a room) 0 ≡ false) × (r ≡ refusal (write_refusal a room))

outcome : (a : Asdu) (room : ℕ) → Outcome a room (write_answer a room)
unfolding write_answer
outcome a room = by (eqb (write_refusal a room) 0) refl
  where
    by : (b : Bool) → eqb (write_refusal a room) 0 ≡ b → Outcome a room (pick {A = Result ℕ Refusal} b (Ok (length (asdu_octets a))) (Err (refusal (write_refusal a room))))
    by true e = (eqb-true _ _ e, refl)
    by false e = (e, refl)

written_none : (a : Asdu) (l : List ℕ) → eqb (write_refusal a (length l)) 0 ≡ false → written a l ≡ l
unfolding written
written_none a l e = rw e

written_some : (a : Asdu) (l : List ℕ) → write_refusal a (length l) ≡ 0 → length (asdu_octets a) ≤ length l → written a l ≡ sets l 0 (asdu_octets a)
unfolding written
written_some a l e h = rw e (sym (sets_all l (asdu_octets a) h))

module _ (a : Asdu) (out : List ℕ) {w : Result ℕ Refusal} (answered : w ≡ write_answer a (length (part out))) where
  told : {v : Result ℕ Refusal} → w ≡ v → Outcome a (length (part out)) v
  told e = subst (Outcome a (length (part out))) (sym answered ∙ e) (outcome a (length (part out)))

  pub asdu_refuses : {r : Refusal} {s : List ℕ} {q : ℕ} (octets : List ℕ) → w ≡ Err r → s ≡ written a (part out) → q ≡ write_refusal a (length out - 6)
      → (Err r ≡ answer_for q octets) × (take 6 out ++ (s ++ drop (length out - 6) (drop 6 out)) ≡ output_for q octets out)
  asdu_refuses octets e stored same =
      let o = told e in
      let answers = refuse (write_refusal a (length (part out))) octets out (same ∙ ap (write_refusal a) (sym (part_long out))) o.0 o.1 in
      (answers.0, rest_sets out 6 [] (stored ∙ written_none a (part out) o.0) ∙ answers.1)

  pub asdu_fits : {n : ℕ} → w ≡ Ok n → n ≤ length (part out) → (write_refusal a (length out - 6) ≡ 0) × (n ≡ length (asdu_octets a)) × (n ≤ length out - 6)
  asdu_fits e h = let o = told e in (ap (write_refusal a) (sym (part_long out)) ∙ o.0, o.1, omega (arith, h, part_long out))

  pub asdu_stored : {n : ℕ} {s : List ℕ} → w ≡ Ok n → n ≤ length (part out) → s ≡ written a (part out)
      → take 6 out ++ (s ++ drop (length out - 6) (drop 6 out)) ≡ sets out 6 (asdu_octets a)
  asdu_stored e h stored = let o = told e in rest_sets out 6 (asdu_octets a) (stored ∙ written_some a (part out) o.0 (omega (arith, h, o.1)))

-- Each call's answer has the number of the refusal that the other promises speak of. Assumes nothing.
use Prim.Native.Nat.{ℕ, ◌≤◌}
use mathlib.Core.Path.{◌≡◌, refl, sym, ap, ◌∙◌}
use mathlib.Core.Bool.{Bool, true, false}
use mathlib.Core.List.{List}
use mathlib.Core.Logic.{◌↔◌}
use native.Mathlib.Omega.{arith}
use borrow.Author.Tests.{eqb-true, eqb-false, ltb-true, ltb-false, le-ltb}
use lib.Dec.{eqb, ltb}
use lib.ListN.{length}
use Rattle.laws.specs.Choice.{pick}
use Rattle.elements.specs.Refusals.{refusal, wrong_address}
use Rattle.objects.specs.Kinds.{type_of, kind_of, kind_number}
use Rattle.objects.specs.Objects.{object_answer, object_given}
use Rattle.objects.specs.declared.kinds.Kind.{Kind}
use Rattle.objects.specs.declared.values.Value.{Value}
use Rattle.objects.proofs.TypeNumbers.{kind_type, type_kind}
use Rattle.asdu.specs.Header.{header_in}
use Rattle.asdu.specs.Reading.{read_refusal, checked_header, read_asdu}
use Rattle.asdu.specs.Writing.{asdu_octets, write_refusal, write_answer, written_count}
use Rattle.asdu.specs.Plain.{plain_by, plain_answer}
use Rattle.asdu.specs.declared.Asdu.{Asdu}
use Rattle.elements.proofs.Refused.{number_of_refusal, answer_numbered}
use Rattle.objects.specs.declared.Object.{Object}
use Rattle.asdu.proofs.Checked.{checked_is}
use Rattle.promises.specs.Asdus.{AnswerNumbers}
use Rattle.promises.proofs.Bodies.{accepted, header_taken}
use Rattle.promises.proofs.Ranges.{read_most, write_most}
use Rattle.std.specs.Prelude.{Option, Some, None, Result, Ok, Err}
use Rattle.elements.specs.Refusals.{answer_number}
use Rattle.elements.specs.declared.refusals.Refusal.{Refusal}

-- reading refuses with 17 at most
read_high : (s : List ℕ) → read_refusal s ≤ 33
read_high s = let h = read_most 17 (omega arith) s (λ e. omega arith) in omega arith

reading : (s : List ℕ) → answer_number (read_asdu s).answer ≡ read_refusal s
unfolding read_asdu
reading s = answer_numbered (read_refusal s) tt (read_high s)

refused_number : (s : List ℕ) → eqb (read_refusal s) 0 ≡ false → answer_number (plain_by (checked_header s) s) ≡ read_refusal s
unfolding checked_header
refused_number s e = let some = eqb-false (read_refusal s) 0 e in rw e (number_of_refusal (read_refusal s) (omega (arith, some)) (read_high s))

telling : (s : List ℕ) → answer_number (plain_answer s) ≡ read_refusal s
unfolding plain_answer
telling s = by (eqb (read_refusal s) 0) refl
  where
    by : (t : Bool) → eqb (read_refusal s) 0 ≡ t → answer_number (plain_by (checked_header s) s) ≡ read_refusal s
    by true e =
        let none = eqb-true (read_refusal s) 0 e in
        let (k, c) = accepted s none in
        rw (checked_is s (header_in k s) (header_taken k s c.headed) c.none) (sym none)
    by false e = refused_number s e

writing : (a : Asdu) (room : ℕ) → answer_number (write_answer a room) ≡ write_refusal a room
unfolding write_answer
writing a room = answer_numbered (write_refusal a room) (length (asdu_octets a)) (write_most a room)

counting : (a : Asdu) (room : ℕ) → write_refusal a room ≡ 0 → written_count (write_answer a room) ≡ length (asdu_octets a)
unfolding write_answer
counting a room e = rw e

-- ---- the type and one object

kind_of_law : (t : ℕ) (q : Option Kind) → kind_of t ≡ q → kind_number q ≡ 0 → (k : Kind) × (t ≡ type_of k)
kind_of_law t (Some k) e z = (k, type_kind t k e)
kind_of_law t None e z = absurd (omega arith)

addressed : (a : ℕ) (v : Value) → (answer_number (object_answer a v) ≡ 0) ↔ (a ≤ 16777215)
unfolding object_answer refusal
addressed a v = by (ltb 16777215 a) refl
  where
    by : (t : Bool) → ltb 16777215 a ≡ t
        → (answer_number (pick {A = Result Object Refusal} t (Err (refusal wrong_address)) (Ok (record { address = a; value = v }))) ≡ 0) ↔ (a ≤ 16777215)
    by true e = ((λ z. absurd (omega arith)), (λ h. let x = ltb-true 16777215 a e in absurd (omega arith)))
    by false e = ((λ z. ltb-false 16777215 a e), (λ h. refl))

given : (a : ℕ) (v : Value) → a ≤ 16777215 → object_given (object_answer a v) ≡ record { address = a; value = v }
unfolding object_answer
given a v h = rw (le-ltb 16777215 a h)

pub answers : AnswerNumbers
answers = record {
  carried = kind_type;
  not_carried = λ t. ((λ z. kind_of_law t (kind_of t) refl z), (λ x. ap (λ (n : ℕ). kind_number (kind_of n)) x.1 ∙ ap kind_number (kind_type x.0)));
  addressed = addressed;
  given = given;
  reading = reading;
  telling = telling;
  writing = writing;
  counting = counting;
}

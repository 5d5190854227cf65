-- What reading refuses, by the header's refusal and the last address: how checking comes to it. Assumes nothing.
use Prim.Native.Nat.{ℕ}
use mathlib.Core.Path.{◌≡◌, refl, ◌∙◌}
use mathlib.Core.Bool.{Bool, true, false}
use mathlib.Core.List.{List}
use native.Mathlib.Omega.{arith}
use borrow.Author.Tests.{eqb-true}
use lib.Dec.{eqb}
use lib.ListN.{get_or}
use Rattle.std.specs.Prelude.{Option, Some, None, Result, Ok, Err}
use Rattle.laws.specs.Choice.{pick}
use Rattle.elements.specs.Refusals.{refusal}
use Rattle.elements.specs.declared.refusals.Refusal.{Refusal}
use Rattle.laws.specs.Lists.{Octets}
use Rattle.laws.proofs.Choices.{both}
use Rattle.objects.specs.Kinds.{kind_of}
use Rattle.objects.specs.declared.kinds.Kind.{Kind}
use Rattle.asdu.specs.Header.{sequence_in, count_in, early_refusal, header_refusal_by, header_refusal, header_in, header_by, header_answer}
use Rattle.asdu.specs.Reading.{objects_refusal, objects_refusal_by, read_refusal, checked_header, addresses_refusal}
use Rattle.asdu.specs.declared.header.Header.{Header}
use Rattle.asdu.proofs.Walk.{by_addresses}

module _ (s : List ℕ) where
  -- a type that is not carried has a refusal
  by_kind : (a : Option Kind) → Octets s → header_refusal_by a s ≡ 0 → objects_refusal_by a s ≡ addresses_refusal (sequence_in s) (count_in s) s
  unfolding header_in
  by_kind None o z = absurd (omega arith)
  by_kind (Some k) o z = by_addresses (header_in k s) s o

  past : header_refusal s ≡ 0 → header_refusal_by (kind_of (get_or s 0 0)) s ≡ 0
  unfolding header_refusal
  past z = (both (early_refusal s) (header_refusal_by (kind_of (get_or s 0 0)) s) z).1

  pub checked : Octets s → header_refusal s ≡ 0 → read_refusal s ≡ addresses_refusal (sequence_in s) (count_in s) s
  unfolding read_refusal
  checked o z = rw z (by_kind (kind_of (get_or s 0 0)) o (past z))

-- ---- what a header that was read shows

pub record Taken (s : List ℕ) (h : Header) : Type 0 where
  pub none : header_refusal s ≡ 0
  pub header : header_by (kind_of (get_or s 0 0)) s ≡ Ok h
  pub objects : objects_refusal_by (kind_of (get_or s 0 0)) s ≡ objects_refusal h s

pub taken : (s : List ℕ) (h : Header) → header_answer s ≡ Ok h → Taken s h
unfolding header_answer
taken s h e = by (eqb (header_refusal s) 0) (kind_of (get_or s 0 0)) refl refl e
  where
    by : (t : Bool) (a : Option Kind) → eqb (header_refusal s) 0 ≡ t → kind_of (get_or s 0 0) ≡ a
        → pick {A = Result Header Refusal} t (header_by a s) (Err (refusal (header_refusal s))) ≡ Ok h → Taken s h
    by true None f g e = let z : ◌≡◌ {A = ℕ} 0 1 = cc in absurd (omega arith)
    by true (Some k) f g e =
        let same : h ≡ header_in k s = cc in
        record { none = eqb-true _ _ f; header = rw g e; objects = rw (g, same) }
    by false a f g e = let z : ◌≡◌ {A = ℕ} 0 1 = cc in absurd (omega arith)

module _ (s : List ℕ) (h : Header) (read : header_answer s ≡ Ok h) (none : objects_refusal h s ≡ 0) where
  pub read_passes : read_refusal s ≡ 0
  unfolding read_refusal
  read_passes = let t = taken s h read in rw t.none (t.objects ∙ none)

  pub checked_is : checked_header s ≡ Ok h
  unfolding checked_header
  checked_is = rw read_passes (taken s h read).header

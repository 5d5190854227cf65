-- Writing depends on header, count and the first count objects alone. Assumes nothing.
use Prim.Native.Nat.{ℕ, zero, suc, ◌≤◌}
use mathlib.Core.Path.{◌≡◌, refl, sym, ap, ◌∙◌}
use mathlib.Core.Bool.{Bool, true, false}
use mathlib.Core.List.{List, []}
use native.Mathlib.Omega.{arith}
use lib.ListN.{get_or}
use lib.Seq.{get_or-take}
use Rattle.objects.specs.Kinds.{kind_of}
use Rattle.objects.specs.Objects.{blank}
use Rattle.objects.specs.declared.kinds.Kind.{Kind}
use Rattle.objects.specs.declared.Object.{Object}
use Rattle.asdu.specs.Writing.{own_objects, first_address, first_refusal, write_refusal_by, write_refusal, header_octets, address_octets, asdu_octets}
use Rattle.asdu.specs.declared.Asdu.{Asdu}
use Rattle.asdu.proofs.Lengths.{writable}
use Rattle.promises.specs.Asdus.{Same, WritesAlike}
use Rattle.std.specs.Prelude.{Option, Some, None}

module _ (a b : Asdu) (same : Same a b) where
  -- the first object is one of its own, where there is one
  first_same : 1 ≤ a.count → first_address a ≡ first_address b
  first_same h =
      let n = same.count_same in
      ap (λ (o : Object). o.address)
      (sym (get_or-take a.count a.objects 0 blank h)
      ∙ (ap (λ (l : List Object). get_or l 0 blank) same.objects_same ∙ get_or-take b.count b.objects 0 blank (omega arith)))

  -- with no object the first address is not looked at
  none_refused : (k : Kind) (q : Bool) (first : ℕ) (os : List Object) → os ≡ [] → first_refusal k q first 0 os ≡ 0
  unfolding first_refusal
  none_refused k q first os e = rw e

  objects_alike : (k : Kind) → first_refusal k a.sequence (first_address a) 0 (own_objects a) ≡ first_refusal k b.sequence (first_address b) 0 (own_objects b)
  objects_alike k = by a.count refl
    where
      by : (n : ℕ) → a.count ≡ n → first_refusal k a.sequence (first_address a) 0 (own_objects a) ≡ first_refusal k b.sequence (first_address b) 0 (own_objects b)
      by zero e =
          let own : own_objects a ≡ [] = rw e in
          none_refused k a.sequence (first_address a) (own_objects a) own
          ∙ sym (none_refused k b.sequence (first_address b) (own_objects b) (sym same.objects_same ∙ own))
      by (suc n) e = cc (same.sequence_same, first_same (omega arith), same.objects_same)

  kind_alike : (q : Option Kind) (room : ℕ) → write_refusal_by q a room ≡ write_refusal_by q b room
  unfolding write_refusal_by
  kind_alike None room = refl
  kind_alike (Some k) room = cc (same.sequence_same, same.count_same, objects_alike k)

  refused_alike : (room : ℕ) → write_refusal a room ≡ write_refusal b room
  unfolding write_refusal
  refused_alike room = cc (same.cause_same, same.type_same, kind_alike (kind_of a.type_id) room)

  header_alike : header_octets a ≡ header_octets b
  unfolding header_octets
  header_alike =
      cc (
        same.type_same,
        same.count_same,
        same.sequence_same,
        same.test_same,
        same.negative_same,
        same.cause_same,
        same.originator_same,
        same.address_same,
      )

  address_alike : (q : Bool) → (q ≡ true → 1 ≤ a.count) → address_octets q (first_address a) ≡ address_octets q (first_address b)
  unfolding address_octets
  address_alike true h = cc (first_same (h refl))
  address_alike false h = refl

  octets_alike : (a.sequence ≡ true → 1 ≤ a.count) → asdu_octets a ≡ asdu_octets b
  unfolding asdu_octets
  octets_alike h = cc (header_alike, address_alike a.sequence h, same.sequence_same, same.objects_same)

pub writes_alike : WritesAlike
writes_alike a b room same = record {
  refused = refused_alike a b same room;
  octets = λ h. let (k, w) = writable a room h in octets_alike a b same (λ q. (w.some q).0);
}

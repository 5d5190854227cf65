-- What an event does to totals and lists, in the terms of a transcript. Assumes nothing.
use Prim.Native.Nat.{ℕ, zero, suc, ◌+◌, ◌%◌, ◌≤◌}
use mathlib.Core.Path.{◌≡◌, refl, sym, ap, ◌∙◌}
use mathlib.Core.Bool.{Bool, true, false}
use mathlib.Core.List.{List, [], ◌∷◌, ◌++◌}
use mathlib.Core.Logic.{◌↔◌}
use native.Mathlib.Omega.{arith}
use native.Mathlib.Nat.{add-zero}
use lib.ListN.{length, length-append}
use borrow.Author.Tests.{ne_eqb}
use lib.Dec.{eqb}
use Rattle.laws.specs.Choice.{pick}
use Rattle.laws.specs.Window.{Confirms}
use Rattle.laws.proofs.Choices.{picked, pick_same}
use Rattle.asdu.specs.Plain.{plain_answer}
use Rattle.elements.specs.Refusals.{number}
use Rattle.elements.proofs.Refused.{number_some}
use Rattle.apdu.specs.Reading.{frame_answer}
use Rattle.link_state.specs.declared.Settings.{Settings}
use Rattle.link.specs.Frames.{wire}
use Rattle.link.specs.Events.{Event, frame, send, stop, test, tick}
use Rattle.link_meaning.specs.Abstract.{Abstract, Result, refuse, step_send, step_frame, step}
use Rattle.link_meaning.specs.Effects.{asdus_of, counts_by, frees_by, frees, counts, takes, Effect}
use Rattle.link_meaning.specs.Runs.{Within}
use Rattle.link_meaning.proofs.Effects.{accepts_exactly}
use Rattle.promises.specs.Demand3.{Brought, an_i, an_s, an_asdu, other, framed, brings, received_by, confirmed_by, taken_by}
use Rattle.promises.proofs.Demand3Wire.{AllFit, AllPlain, wire_most}
use Rattle.std.specs.Prelude.{Ok, Err}
use Rattle.elements.specs.declared.refusals.Refusal.{Refusal}
use Rattle.apdu.specs.declared.frame.Frame.TheVariants.{I, S, U}
use Rattle.apdu.specs.declared.frame.Frame.{Frame}
use Rattle.asdu.specs.declared.Form.{Form}
use Rattle.asdu.specs.declared.Form.TheVariants.{Plain, Reserved}
use Rattle.std.specs.Prelude as prelude

-- ---- what is counted

-- with the number answered: nothing is added where it refuses
added : (n x d y : ℕ) → x + d ≡ y → x + pick (eqb n 0) d 0 ≡ pick (eqb n 0) y x
added n x d y h = by (eqb n 0)
  where
    by : (b : Bool) → x + pick b d 0 ≡ pick b y x
    by true = h
    by false = add-zero x

none_added : (n x : ℕ) → x + 0 ≡ pick (eqb n 0) x x
none_added n x = add-zero x ∙ sym (pick_same (eqb n 0) x)

received_by_law : (q : prelude.Result Frame Refusal) (x : ℕ) → x + counts_by q ≡ received_by (framed q) x
received_by_law (Ok (I s r)) x = refl
received_by_law (Ok (S r)) x = add-zero x
received_by_law (Ok (U u)) x = add-zero x
received_by_law (Err r) x = add-zero x

confirmed_by_law : (q : prelude.Result Frame Refusal) (x : ℕ) → x + frees_by q x ≡ confirmed_by (framed q) x
confirmed_by_law (Ok (I s r)) x = refl
confirmed_by_law (Ok (S r)) x = refl
confirmed_by_law (Ok (U u)) x = add-zero x
confirmed_by_law (Err r) x = add-zero x

none_taken : (q : prelude.Result Frame Refusal) → taken_by (framed q) ≡ []
none_taken (Ok (I s r)) = refl
none_taken (Ok (S r)) = refl
none_taken (Ok (U u)) = refl
none_taken (Err r) = refl

pub counts_are : (e : Event) (n x : ℕ) → x + counts e n ≡ pick (eqb n 0) (received_by (brings e) x) x
counts_are (frame f more) n x = added n x (counts_by (frame_answer f)) (received_by (framed (frame_answer f)) x) (received_by_law (frame_answer f) x)
counts_are (send asdu) n x = none_added n x
counts_are stop n x = none_added n x
counts_are test n x = none_added n x
counts_are tick n x = none_added n x

pub frees_are : (e : Event) (n x : ℕ) → x + frees e n x ≡ pick (eqb n 0) (confirmed_by (brings e) x) x
frees_are (frame f more) n x = added n x (frees_by (frame_answer f) x) (confirmed_by (framed (frame_answer f)) x) (confirmed_by_law (frame_answer f) x)
frees_are (send asdu) n x = none_added n x
frees_are stop n x = none_added n x
frees_are test n x = none_added n x
frees_are tick n x = none_added n x

pub takes_are : (e : Event) (n : ℕ) → takes e n ≡ pick (eqb n 0) (taken_by (brings e)) []
takes_are (frame f more) n = sym (ap (λ (l : List (List ℕ)). pick (eqb n 0) l []) (none_taken (frame_answer f)) ∙ pick_same (eqb n 0) [])
takes_are (send asdu) n = refl
takes_are stop n = sym (pick_same (eqb n 0) [])
takes_are test n = sym (pick_same (eqb n 0) [])
takes_are tick n = sym (pick_same (eqb n 0) [])

-- ---- what is taken is plain

taken_plain : (x : List ℕ) (p : prelude.Result Form Refusal) (now : ℕ) (a : Abstract) → plain_answer x ≡ p → AllPlain (pick (eqb (step_send p x now a).refused 0) (x ∷ []) [])
unfolding step_send refuse
taken_plain x (Ok Plain) now a e = picked AllPlain (eqb (step_send (Ok Plain) x now a).refused 0) (e, tt) tt
taken_plain x (Ok Reserved) now a e = tt
taken_plain x (Err r) now a e = rw (ne_eqb (number r) 0 (number_some r)) tt

pub takes_plain : (e : Event) (now : ℕ) (a : Abstract) → AllPlain (takes e (step e now a).refused)
unfolding step
takes_plain (frame f more) now a = tt
takes_plain (send x) now a = taken_plain x (plain_answer x) now a refl
takes_plain stop now a = tt
takes_plain test now a = tt
takes_plain tick now a = tt

-- ---- what goes out fits in 4,096 octets

waited : (a : Abstract) (r : Result) → a.waiting ++ [] ≡ asdus_of r.frames ++ r.link.waiting → length a.waiting ≤ 16 → length (asdus_of r.frames) ≤ 16
waited a r e few = omega (arith, ap length e, length-append a.waiting [], length-append (asdus_of r.frames) r.link.waiting)

-- what goes out has waited, or is taken while none waits
out_most : (e : Event) (now : ℕ) (a : Abstract) (r : Result) → Effect e now a r → Within a → Within r.link → length a.waiting ≤ 16 → length (asdus_of r.frames) ≤ 16
out_most (send x) now a r f w v few = by (length a.waiting) refl
  where
    one : (b : Bool) → length (pick b (x ∷ []) []) ≤ 1
    one true = omega arith
    one false = omega arith

    by : (n : ℕ) → length a.waiting ≡ n → length (asdus_of r.frames) ≤ 16
    by zero e = omega (arith, ap length f.order, length-append a.waiting (takes (send x) r.refused), length-append (asdus_of r.frames) r.link.waiting, one (eqb r.refused 0))
    by (suc n) e = omega (arith, w.only_full (omega arith), w.confirmed, v.window, ap (λ (s : Settings). s.k) f.settings, f.sent, f.confirmed)
out_most (frame g more) now a r f w v few = waited a r f.order few
out_most stop now a r f w v few = waited a r f.order few
out_most test now a r f w v few = waited a r f.order few
out_most tick now a r f w v few = waited a r f.order few

pub wire_fits : (e : Event) (now : ℕ) (a : Abstract) (r : Result) → Effect e now a r → Within a → Within r.link → length a.waiting ≤ 16 → AllFit r.frames
    → length (wire r.frames) ≤ 4096
wire_fits e now a r f w v few fit = omega (arith, wire_most r.frames fit, out_most e now a r f w v few, f.few)

-- ---- which frames are accepted

-- accepted exactly if, in totals
abbrev pub Exact : Brought → ℕ → ℕ → ℕ → ℕ → Type 0
Exact (an_i n r) number s c t = (number ≡ 0) ↔ (((a : ℕ) × Confirms 32768 c s r a) × (n ≡ t % 32768))
Exact (an_s r) number s c t = (number ≡ 0) ↔ ((a : ℕ) × Confirms 32768 c s r a)
Exact (an_asdu x) number s c t = Unit {0}
Exact other number s c t = Unit {0}

-- the receive number, if any
abbrev pub number_of : Brought → ℕ
number_of (an_i n r) = r
number_of (an_s r) = r
number_of (an_asdu x) = 0
number_of other = 0

module _ (now : ℕ) (a : Abstract) (within : Within a) where
  abbrev Exactly : Brought → Result → Type 0
  Exactly b r = Exact b r.refused a.sent a.confirmed a.received

  exact_frame : (f : prelude.Result Frame Refusal) (more : Bool) → number_of (framed f) ≤ 32767 → Exactly (framed f) (step_frame f more now a)
  unfolding step_frame
  exact_frame (Ok (I n r)) more h =
      let x = (accepts_exactly now more a n.0 r.0 within (omega arith)).i_frame_accepted in
      ((λ z. let p = x.0 z in (p.1, p.0)), (λ p. x.1 (p.1, p.0)))
  exact_frame (Ok (S r)) more h = (accepts_exactly now more a 0 r.0 within (omega arith)).s_frame_accepted
  exact_frame (Ok (U u)) more h = tt
  exact_frame (Err r) more h = tt

  pub exactly : (e : Event) → number_of (brings e) ≤ 32767 → Exactly (brings e) (step e now a)
  unfolding step
  exactly (frame f more) h = exact_frame (frame_answer f) more h
  exactly (send x) h = tt
  exactly stop h = tt
  exactly test h = tt
  exactly tick h = tt

-- What waits goes out: one, and n in a row. Assumes nothing.
use Prim.Native.Nat.{ℕ, zero, suc, ◌+◌, ◌-◌, ◌*◌, ◌%◌, ◌<◌, ◌≤◌}
use mathlib.Core.Path.{◌≡◌, refl, ap, ◌∙◌}
use mathlib.Core.List.{List, ◌++◌}
use native.Mathlib.Omega.{arith}
use lib.ListN.{length, get_or, length-set, length-append, length-take, length-drop}
use Rattle.link_state.specs.declared.State.{State}
use Rattle.apdu.specs.declared.frame.ReceiveNumber.{ReceiveNumber}
use Rattle.link_steps.specs.declared.steps.Made.{Made}
use Rattle.link.specs.Frames.{i_frame, octets_of, wire}
use Rattle.link.specs.Making.{Making, with_queue, sent_of, hand_out, shifted, slot, first_waiting, let_out, flushed, room}
use Rattle.link.specs.Events.{start}
use Rattle.link.specs.Answering.{CanLetOut, CanFlush, Open}
use Rattle.link_steps.specs.Steps.{HandsOut}
use Rattle.apdu.proofs.Answers.{i_long}
use Rattle.link.proofs.Wires.{wire_append, wire_one}
use Rattle.link_steps.proofs.Made.{let_out_appends}

pub slot_length : (pool : List ℕ) (place n : ℕ) → place ≤ 15 → n ≤ 249 → 3984 ≤ length pool → length (slot pool place n) ≡ n
slot_length pool place n p h r = simp (length-take, length-drop) (omega arith)

-- the first that waits goes out, and the queue moves on
pub let_out_law : (now : ℕ) (s : State) (ts pool : List ℕ) (at : ℕ) (out : List ℕ) {m : Made} {r : State} {ts₁ out₁ : List ℕ}
    → HandsOut (hand_out now (first_waiting s pool) (start s ts)) at out m ts₁ out₁ → r ≡ with_queue m.state (shifted m.state.queue)
    → HandsOut (let_out now pool (start s ts)) at out (record { state = r; end = m.end }) ts₁ out₁
unfolding let_out hand_out sent_of
let_out_law now s ts pool at out {m} one e =
    record {
      makes = record { state = e ∙ ap (λ (x : State). with_queue x (shifted x.queue)) one.makes.state; end = one.makes.end; octets = one.makes.octets };
      ring = one.ring;
    }

-- the state after n went out
pub record After (n : ℕ) (g h : Making) : Type 0 where
  pub settings : h.state.settings ≡ g.state.settings
  pub held : h.state.window.held ≡ g.state.window.held + n
  pub first : h.state.window.first ≡ g.state.window.first
  pub next : h.state.window.next.0 ≡ (g.state.window.next.0 + n) % 32768
  pub receive : h.state.receive.next ≡ g.state.receive.next
  pub lengths : h.state.queue.lengths ≡ g.state.queue.lengths
  pub count : h.state.queue.count ≡ g.state.queue.count - n
  pub place : h.state.queue.place ≡ (g.state.queue.place + n) % 16
  pub places : length h.times ≡ length g.times

pub after_flush : (n now : ℕ) (pool : List ℕ) (g : Making) → g.state.window.next.0 ≤ 32767 → g.state.queue.place ≤ 15 → After n g (flushed n now pool g)
unfolding flushed let_out hand_out sent_of shifted
after_flush zero now pool g hn hp =
    record { settings = refl; held = omega arith; first = refl; next = omega arith; receive = refl; lengths = refl; count = omega arith; place = omega arith; places = refl }
after_flush (suc n) now pool g hn hp =
    let i = after_flush n now pool g hn hp in
    record {
      settings = i.settings;
      held = omega arith;
      first = i.first;
      next = omega arith;
      receive = i.receive;
      lengths = i.lengths;
      count = omega arith;
      place = omega arith;
      places = length-set (flushed n now pool g).times _ now ∙ i.places;
    }

-- the next one can go
pub can_let_out : (s : State) (n i places poolLen outLen at : ℕ) (now : ℕ) (ts pool : List ℕ)
    → CanFlush s n places poolLen outLen → i < n → at ≤ 255 * i → CanLetOut (flushed i now pool (start s ts)).state places poolLen outLen at
can_let_out s n i places poolLen outLen at now ts pool f h a =
    let g = flushed i now pool (start s ts) in
    let k = after_flush i now pool (start s ts) f.next_high f.place_high in
    let size : get_or g.state.queue.lengths g.state.queue.place 0 ≤ 249 = rw (k.lengths, k.place) (f.lengths_high i h) in
    let same : g.state.receive.next.0 ≡ s.receive.next.0 = ap (λ (x : ReceiveNumber). x.0) k.receive in
    let r = f.out_room in
    let c = f.n_count in
    let u = f.n_high in
    let w = f.n_window in
    let q = f.recv_high in
    let fl = f.first_low in
    record {
      sends = record { out_room = omega arith; size_high = size; held_low = omega arith; first_low = omega arith; places_high = f.places_high; next_high = omega arith; recv_high = omega arith };
      pool_room = f.pool_room;
      some = omega arith;
      place_high = omega arith;
    }

-- a frame handed out is short, and so are n that were let out
pub hand_out_short : (now : ℕ) (s : State) (ts asdu : List ℕ) → length asdu ≤ 249 → length (wire (hand_out now asdu (start s ts)).frames) ≤ 255
unfolding hand_out octets_of
hand_out_short now s ts asdu h =
    let a = s.window.next.0 in
    let b = s.receive.next.0 in
    rw (wire_one (i_frame a b asdu), i_long a b asdu) (omega arith)

pub let_out_short : (now : ℕ) (s : State) (ts pool : List ℕ) → get_or s.queue.lengths s.queue.place 0 ≤ 249 → length (wire (let_out now pool (start s ts)).frames) ≤ 255
unfolding let_out first_waiting
let_out_short now s ts pool h =
    let asdu = slot pool s.queue.place (get_or s.queue.lengths s.queue.place 0) in
    let t : length asdu ≤ 249 = simp length-take (omega arith) in
    hand_out_short now s ts asdu t

pub flush_short : (s : State) (n places poolLen outLen now : ℕ) (ts pool : List ℕ) → CanFlush s n places poolLen outLen
    → (i : ℕ) → i ≤ n → length (wire (flushed i now pool (start s ts)).frames) ≤ 255 * i
unfolding flushed wire
flush_short s n places poolLen outLen now ts pool f zero h = omega arith
flush_short s n places poolLen outLen now ts pool f (suc i) h =
    let g = flushed i now pool (start s ts) in
    let one = let_out now pool (start g.state g.times) in
    let e : (let_out now pool g).frames ≡ g.frames ++ one.frames = ap (λ (m : Making). m.frames) (let_out_appends now pool g) in
    let w : wire (g.frames ++ one.frames) ≡ wire g.frames ++ wire one.frames = wire_append g.frames one.frames in
    let l = length-append (wire g.frames) (wire one.frames) in
    let size = (can_let_out s n i places poolLen outLen 0 now ts pool f (omega arith) (omega arith)).sends.size_high in
    let short = let_out_short now g.state g.times pool size in
    let so_far = flush_short s n places poolLen outLen now ts pool f i (omega arith) in
    rw (e, w) (omega arith)

-- what a call that passed its checks may let out
pub can_flush : (s : State) (places poolLen outLen now : ℕ) → Open s places poolLen outLen now → CanFlush s (room s) places poolLen outLen
unfolding room
can_flush s places poolLen outLen now o =
    let k = o.k_places in
    let p = o.p_high in
    let c = o.count_p in
    let h = o.held_k in
    record {
      out_room = o.calm.out_room;
      pool_room = o.pool_room;
      n_count = omega arith;
      n_high = omega arith;
      n_window = omega arith;
      first_low = o.first_low;
      places_high = o.places_high;
      next_high = o.next_high;
      recv_high = o.calm.recv_high;
      place_high = o.place_high;
      lengths_high = λ i q. o.lengths_high i (omega arith);
    }

-- The rings and the pool as lists: the oldest leave, one more comes to the end. Assumes nothing.
use Prim.Native.Nat.{ℕ, suc, ◌+◌, ◌-◌, ◌*◌, ◌%◌, ◌<◌, ◌≤◌}
use mathlib.Core.Path.{◌≡◌, sym, ap, ◌∙◌}
use mathlib.Core.List.{List, [], ◌∷◌, ◌++◌}
use mathlib.Core.Logic.{inl, inr}
use native.Mathlib.Omega.{arith}
use native.Mathlib.Numerals.{add-one}
use native.Mathlib.Nat.{mod-lt}
use native.Mathlib.Decide.{dec_lt}
use lib.ListN.{length, drop, get_or, set, length-set}
use lib.Seq.{sets, get_or-set_same, get_or-set_other}
use Rattle.laws.specs.Lists.{put, ring}
use Rattle.laws.proofs.Lists.{put_part, sets_put, put_apart, mod_apart, length_ring, ring_first, ring_drop, ring_more}
use Rattle.link_state.specs.declared.Window.{Window}
use Rattle.link_state.specs.declared.Queue.{Queue}
use Rattle.link.specs.Making.{slot, shifted, queued, free_slot}
use Rattle.link_meaning.specs.Meaning.{times_of, waiting_of}

-- ---- the send times

pub times_freed : (w : Window) (times : List ℕ) (d : ℕ) → d ≤ w.held
    → times_of (record { first = (w.first + d) % length times; held = w.held - d; next = w.next }) times ≡ drop d (times_of w times)
unfolding times_of
times_freed w times d h = sym (ring_drop (λ (q : ℕ). get_or times q 0) (length times) w.first w.held d h)

-- one more at the end, in a ring that is not full
pub times_handed : (w v : Window) (times : List ℕ) (now : ℕ) → v.first ≡ w.first → v.held ≡ w.held + 1 → w.held < length times
    → times_of v (set times ((w.first + w.held) % length times) now) ≡ times_of w times ++ (now ∷ [])
unfolding times_of
times_handed w v times now e f h =
    let m = length times in
    let q = (w.first + w.held) % m in
    rw (e, f, add-one w.held, length-set times q now)
    (ring_more (λ (i : ℕ). get_or times i 0) (λ (i : ℕ). get_or (set times q now) i 0) m w.first w.held now
    (λ i l. get_or-set_other times q _ now 0 (mod_apart w.first i w.held m l h))
    (get_or-set_same times q now 0 (mod-lt (w.first + w.held) (omega arith))))

pub times_long : (w : Window) (times : List ℕ) → length (times_of w times) ≡ w.held
unfolding times_of
times_long w times = length_ring _ (length times) w.first w.held

-- ---- what waits

pub waiting_long : (q : Queue) (pool : List ℕ) → length (waiting_of q pool) ≡ q.count
unfolding waiting_of
waiting_long q pool = length_ring _ 16 q.place q.count

-- the first, and the others
pub waiting_first : (q : Queue) (pool x : List ℕ) (xs : List (List ℕ)) → q.place ≤ 15 → waiting_of q pool ≡ x ∷ xs
    → (slot pool q.place (get_or q.lengths q.place 0) ≡ x) × (waiting_of (shifted q) pool ≡ xs)
unfolding waiting_of shifted
waiting_first q pool x xs h e =
    let f : ℕ → List ℕ = λ i. slot pool i (get_or q.lengths i 0) in
    let long = length_ring f 16 q.place q.count in
    let n = ap length e in
    let c : q.count ≡ suc (q.count - 1) = omega arith in
    let d : drop 1 (ring f 16 q.place q.count) ≡ xs = ap (drop 1) e in
    let first : f q.place ∷ drop 1 (ring f 16 q.place (suc (q.count - 1))) ≡ x ∷ xs =
    sym (ring_first f 16 q.place (q.count - 1) (omega arith)) ∙ (ap (ring f 16 q.place) (sym c) ∙ e) in
    (cc, sym (ring_drop f 16 q.place q.count 1 (omega arith)) ∙ d)

pub waiting_queued : (q : Queue) (pool x : List ℕ) → q.count < 16 → length q.lengths ≡ 16 → length x ≤ 249 → 3984 ≤ length pool
    → ((i : ℕ) → i < q.count → get_or q.lengths ((q.place + i) % 16) 0 ≤ 249)
    → waiting_of (queued q (length x)) (sets pool (free_slot q * 249) x) ≡ waiting_of q pool ++ (x ∷ [])
unfolding waiting_of queued
waiting_queued q pool x h slots long room lengths =
    let last = free_slot q in
    let fits : last * 249 + length x ≤ length pool = omega arith in
    rw (add-one q.count, sets_put pool (last * 249) x fits)
    (ring_more (λ (i : ℕ). slot pool i (get_or q.lengths i 0))
    (λ (i : ℕ). slot (put pool (last * 249) x) i (get_or (set q.lengths last (length x)) i 0)) 16 q.place q.count x
    (λ i l.
    let here = (q.place + i) % 16 in
    let apart : here ≡ last → ⊥ = mod_apart q.place i q.count 16 l h in
    let small = lengths i l in
    rw (get_or-set_other q.lengths last here (length x) 0 apart)
    (put_apart pool (last * 249) x (here * 249) (get_or q.lengths here 0) 0 fits
    (elim (dec_lt here last) [
      | yes y ↦ inl (omega arith)
      | no y ↦ inr (omega arith)
    ])))
    (rw (get_or-set_same q.lengths last (length x) 0 (omega arith)) (put_part pool (last * 249) x fits)))

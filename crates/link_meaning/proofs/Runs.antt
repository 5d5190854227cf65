-- Runs of calls from opening on: the two links agree after each. Assumes nothing.
use Prim.Native.Nat.{ℕ}
use mathlib.Core.Path.{◌≡◌, sym, ap, ◌∙◌}
use mathlib.Core.Bool.{true}
use mathlib.Core.List.{List}
use mathlib.Core.Logic.{⊎_elim}
use native.Mathlib.Omega.{arith}
use lib.ListN.{length}
use Rattle.link_state.specs.Limits.{sound_link}
use Rattle.link_state.specs.Opening.{opened}
use Rattle.link_state.specs.declared.Settings.{Settings}
use Rattle.link_state.specs.declared.Link.{Link}
use Rattle.link_state.proofs.Sound.{sound_state, opened_sound}
use Rattle.link_meaning.specs.Abstract.{Abstract, fresh}
use Rattle.link_meaning.specs.Meaning.{Means}
use Rattle.link_meaning.specs.Runs.{opening, after, Within, RunsAgree}
use Rattle.link_meaning.proofs.Kept.{shaped_fresh, stays_sound}
use Rattle.link_meaning.proofs.Pool.{times_long}
use Rattle.link_meaning.proofs.Pieces.{means_count}
use Rattle.link_meaning.proofs.Meaning.{steps_alike, opens_fresh}

within : (l : Link) (pool : List ℕ) (a : Abstract) → sound_link l ≡ true → Means l.state l.times pool a → Within a
within l pool a e m =
    let s = sound_state l e in
    let h = m.held in
    let k = ap (λ (x : Settings). x.k) m.settings in
    let p = ap (λ (x : Settings). x.p) m.settings in
    let c = means_count l.state l.times pool a m in
    let t : length a.times ≡ l.state.window.held = ap length (sym m.send_times_law) ∙ times_long l.state.window l.times in
    record {
      confirmed = omega arith;
      times = omega arith;
      window = omega arith;
      k_high = omega arith;
      waiting = omega arith;
      only_full = λ q. ⊎_elim (λ none. omega arith) (λ full. omega arith) s.full;
    }

pub runs_agree : RunsAgree
runs_agree s start pool l between a (opening e) =
    let sound = opened_sound s start e in
    let m = opens_fresh s start pool e in
    record { sound = sound; shaped = shaped_fresh s start e; means = m; within = within (opened s start).link pool (fresh s start) sound m }
runs_agree s start pool l between a (after {l = k} {between = q} {a = b} before c o r) =
    let h = runs_agree s start pool k q b before in
    let kept = stays_sound c.event k q c.output c.now h.shaped h.sound in
    let same = steps_alike c.event k q c.output c.now b h.shaped o r h.means in
    record { sound = kept.sound; shaped = kept.shaped; means = same.means; within = within _ _ _ kept.sound same.means }

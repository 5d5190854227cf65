-- From opening on, through any calls that are not refused under 19 to 24: the code's link beside the link by totals and lists.
use Rattle.std.specs.Prelude.{ℕ, ◌<◌, ◌≤◌, true, ◌≡◌, List, length}
use Rattle.link_state.specs.Limits.{sound_link, call_refusal}
use Rattle.link_state.specs.Opening.{opened, open_refusal}
use Rattle.link_state.specs.declared.Settings.{Settings}
use Rattle.link_state.specs.declared.Link.{Link}
use Rattle.link.specs.Events.{called}
use Rattle.link_meaning.specs.Kept.{Shaped, link_after, SizedCall}
use Rattle.link_meaning.specs.Abstract.{Abstract, outstanding, fresh, step}
use Rattle.link_meaning.specs.Meaning.{Means, OctetsIn}

-- the link and the pool after some calls, handed back untouched between them, and the link by totals and lists after the same
pub data Run (s : Settings) (start : ℕ) (pool : List ℕ) : Link → List ℕ → Abstract → Type 0 where
  opening : open_refusal s start ≡ 0 → Run s start pool (opened s start).link pool (fresh s start)
  after : {l : Link} {between : List ℕ} {a : Abstract} → Run s start pool l between a → (c : SizedCall) → OctetsIn c.event
      → call_refusal l c.output (length between) c.now ≡ 0
      → Run s start pool (link_after (called c.event l between c.output c.now)) (called c.event l between c.output c.now).pool
      (step c.event c.now a).link

-- what the limits of refusal 19 say of totals and lists: S − A send times, at most k; what waits, at most p, and only with k
-- outstanding
pub record Within (a : Abstract) : Type 0 where
  pub confirmed : a.confirmed ≤ a.sent
  pub times : length a.times ≡ outstanding a
  pub window : outstanding a ≤ a.settings.k
  pub k_high : a.settings.k ≤ 32
  pub waiting : length a.waiting ≤ a.settings.p
  pub only_full : 0 < length a.waiting → outstanding a ≡ a.settings.k

-- a sound link that means the other, which is within the limits
pub record Agrees (l : Link) (pool : List ℕ) (a : Abstract) : Type 0 where
  pub sound : sound_link l ≡ true
  pub shaped : Shaped l
  pub means : Means l.state l.times pool a
  pub within : Within a

-- so it is after every run; by `StepsAlike` the next call then answers and hands out what the event does to totals and lists
abbrev pub RunsAgree : Type 0
RunsAgree = (s : Settings) (start : ℕ) (pool : List ℕ) (l : Link) (between : List ℕ) (a : Abstract) → Run s start pool l between a → Agrees l between a

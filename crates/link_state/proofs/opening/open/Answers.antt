use mathlib.Core.Path.{◌≡◌}
use mathlib.Core.Bool.{true}
use native.Mathlib.Omega.{arith}
use borrow.Author.Tests.{lt-ltb, le-ltb}
use Rattle.elements.specs.Refusals.{refusal}
use Rattle.link_state.specs.Limits.{sound_settings}
use Rattle.link_state.specs.Opening.{opened, open_refusal}
use Rattle.laws.proofs.Clauses.{failed, holds}
use Rattle.link_state.proofs.Sound.{t3_small}
use Rattle.link_state.proofs.opening.open.Goals as goal

pub returns-then-not-sound_settings : goal.returns-then-not-sound_settings
unfolding opened open_refusal refusal
returns-then-not-sound_settings c = rw (c.refused.ensures, failed c.sound_settings.ensures c.if-not-sound_settings.true)

pub returns-then-moment-gt-MAX_CLOCK : goal.returns-then-moment-gt-MAX_CLOCK
unfolding opened open_refusal refusal
returns-then-moment-gt-MAX_CLOCK c =
    let sound : sound_settings c.args.settings ≡ true = holds c.sound_settings.ensures c.if-not-sound_settings.false in
    rw (c.refused-then-moment-gt-MAX_CLOCK.ensures, sound, lt-ltb _ _ c.if-moment-gt-MAX_CLOCK.true)

pub overflow_add-t3 : goal.overflow_add-t3
overflow_add-t3 c =
    let sound : sound_settings c.args.settings ≡ true = holds c.sound_settings.ensures c.if-not-sound_settings.false in
    let h = t3_small _ sound in omega arith

pub returns : goal.returns
unfolding opened open_refusal
returns c =
    let sound : sound_settings c.args.settings ≡ true = holds c.sound_settings.ensures c.if-not-sound_settings.false in
    rw (c.fresh.ensures, sound, le-ltb _ _ c.if-moment-gt-MAX_CLOCK.false)

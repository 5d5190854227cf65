use mathlib.Core.Path.{◌≡◌}
use mathlib.Core.Bool.{true}
use native.Mathlib.Omega.{arith}
use Rattle.link_state.specs.Limits.{sound_link, sound_settings, sound_counts}
use Rattle.laws.proofs.Clauses.{failed, holds}
use Rattle.link_state.proofs.Sound.{Sound, sound_counts_law}
use Rattle.link_state.proofs.limits.sound_link.Goals as goal

pub returns-then-not-sound_settings : goal.returns-then-not-sound_settings
unfolding sound_link
returns-then-not-sound_settings c = rw (failed c.sound_settings.ensures c.if-not-sound_settings.true)

pub returns-then-not-sound_counts : goal.returns-then-not-sound_counts
unfolding sound_link
returns-then-not-sound_counts c =
    let settings : sound_settings c.args.l.state.settings ≡ true = holds c.sound_settings.ensures c.if-not-sound_settings.false in
    rw (settings, failed c.sound_counts.ensures c.if-not-sound_counts.true)

pub sound_times-requires : goal.sound_times-requires
sound_times-requires c =
    let settings : sound_settings c.args.l.state.settings ≡ true = holds c.sound_settings.ensures c.if-not-sound_settings.false in
    let counts : sound_counts c.args.l.state ≡ true = holds c.sound_counts.ensures c.if-not-sound_counts.false in
    let facts : Sound c.args.l.state = sound_counts_law _ settings counts in
    let h = facts in omega arith

pub sound_lengths-requires : goal.sound_lengths-requires
sound_lengths-requires c =
    let settings : sound_settings c.args.l.state.settings ≡ true = holds c.sound_settings.ensures c.if-not-sound_settings.false in
    let counts : sound_counts c.args.l.state ≡ true = holds c.sound_counts.ensures c.if-not-sound_counts.false in
    let facts : Sound c.args.l.state = sound_counts_law _ settings counts in
    let h = facts in omega arith

pub sound_timers-requires : goal.sound_timers-requires
sound_timers-requires c =
    let settings : sound_settings c.args.l.state.settings ≡ true = holds c.sound_settings.ensures c.if-not-sound_settings.false in
    let counts : sound_counts c.args.l.state ≡ true = holds c.sound_counts.ensures c.if-not-sound_counts.false in
    let facts : Sound c.args.l.state = sound_counts_law _ settings counts in
    facts.clock_high

pub returns : goal.returns
unfolding sound_link
returns c =
    let settings : sound_settings c.args.l.state.settings ≡ true = holds c.sound_settings.ensures c.if-not-sound_settings.false in
    let counts : sound_counts c.args.l.state ≡ true = holds c.sound_counts.ensures c.if-not-sound_counts.false in
    rw (settings, counts, ← c.sound_times.ensures, ← c.sound_lengths.ensures, ← c.sound_timers.ensures)

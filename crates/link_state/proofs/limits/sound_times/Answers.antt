use Rattle.std.proofs.Common.{refl, ◌∙◌, rules, tests, arith}
use Rattle.std.proofs.lemmas.Iterator.{YieldsList-from_range}
use Rattle.std.proofs.lemmas.Iterator.Search.{all_from_yields_List}
use Rattle.link_state.specs.Limits.{sound_time_at, sound_times}
use Rattle.link_state.proofs.Chains.{every_all}
use Rattle.link_state.proofs.limits.sound_times.Goals as goal

pub returns : goal.returns
unfolding sound_times sound_time_at
returns c =
    let l = c.args.l in
    let n = l.state.window.held in
    all_from_yields_List (sound_time_at l) _ _ _ c.all.ensures.ran (YieldsList-from_range 0 n n refl (omega arith)) (λ x b f k. search (rules, tests)) ∙ every_all (sound_time_at l) n

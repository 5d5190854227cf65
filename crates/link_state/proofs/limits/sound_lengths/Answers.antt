use Rattle.std.proofs.Common.{refl, ◌∙◌, rules, tests, arith}
use Rattle.std.proofs.lemmas.Iterator.{YieldsList-from_range}
use Rattle.std.proofs.lemmas.Iterator.Search.{all_from_yields_List}
use Rattle.link_state.specs.Limits.{sound_length, sound_lengths}
use Rattle.link_state.proofs.Chains.{every_all}
use Rattle.link_state.proofs.limits.sound_lengths.Goals as goal

pub returns : goal.returns
unfolding sound_lengths sound_length
returns c =
    let q = c.args.q in
    all_from_yields_List (sound_length q) _ _ _ c.all.ensures.ran (YieldsList-from_range 0 q.count q.count refl (omega arith)) (λ x b f k. search (rules, tests)) ∙ every_all (sound_length q) q.count

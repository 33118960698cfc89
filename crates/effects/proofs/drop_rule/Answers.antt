use mathlib.Core.List.{[], ◌∷◌}
use mathlib.Core.Bool.{false, not}
use Rattle.model.specs.Requests.{DROPRULE}
use Rattle.model.specs.Encoding.{decode}
use Rattle.effects.specs.EffectRecords.{drops_by}
use Rattle.effects.proofs.AllowedEffects.{allowed-written, effect-drop}
use Rattle.effects.proofs.Changes.{clock_holds, rules_done}
use Rattle.effects.proofs.drop_rule.Goals as goal

pub set_clock-requires : goal.set_clock-requires
set_clock-requires c = allowed-written (DROPRULE ∷ []) _ _ c.requires

pub drop_rules-requires : goal.drop_rules-requires
drop_rules-requires c =
    let p = c in
    let d = p in
    (clock_holds (DROPRULE ∷ []) d.args.s.now d.args.q d.requires _ p.set_clock.ensures).written

pub returns : goal.returns
returns c =
    let r = c in
    let p = r in
    let d = p in
    rules_done (DROPRULE ∷ []) d.args.s.now d.args.q d.requires _ p.set_clock.ensures
    (λ r. not (drops_by false false d.args.q r))
    (effect-drop (decode d.args.s.now) d.args.q false false d.requires.kind) _
    r.drop_rules.ensures

use mathlib.Core.Bool.{Bool, not}
use Rattle.model.specs.declared.Rule.{Rule}
use Rattle.model.specs.declared.Request.{Request}
use Rattle.model.specs.Encoding.{decode}
use Rattle.effects.specs.EffectRecords.{drops_by}
use Rattle.effects.proofs.Dropping.{Dropped}
use Rattle.effects.proofs.rules.drop_rules.Given as goal

-- the rules that remain
abbrev pub remains : Bool → Bool → Request → Rule → Bool
remains refers administers q r = not (drops_by refers administers q r)

abbrev pub invariant-loop-i : goal.invariant-loop-i
invariant-loop-i l = Dropped (remains l.refers l.administers l.q) (decode l.initial.s) l.i l.s

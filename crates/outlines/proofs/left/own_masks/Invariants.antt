use mathlib.Core.Bool.{Bool}
use Prim.Native.Nat.{ℕ, ◌≤◌}
use Rattle.foundation.specs.BitMasks.{MaskBuilt}
use mathlib.Core.List.{List}
use Rattle.model.specs.declared.Rule.{Rule}
use Rattle.model.specs.Encoding.{rule_of, decode}
use Rattle.model.specs.Rules.{stands_on}
use Rattle.outlines.specs.LeftMasks.{on_subject}
use Rattle.outlines.proofs.left.own_masks.Given as goal

abbrev pub on_object : List ℕ → ℕ → Rule → Bool
on_object s o r = stands_on (decode s) r o

abbrev pub invariant-loop-i : goal.invariant-loop-i
invariant-loop-i l =
    (l.i ≤ l.n) × MaskBuilt 28 rule_of (on_object l.base.bytes.now l.x.object) l.n l.body l.objects l.i
    × MaskBuilt 28 rule_of (on_subject l.x.subject) l.n l.body l.subjects l.i

-- Where none of the authorizations that matter has an asked instant and no rule that matters negates, nothing
-- is found (`nothing-found`).
use mathlib.Core.Path.{◌≡◌, refl, sym, ap, ◌∙◌, subst}
use mathlib.Core.Bool.{true, false}
use mathlib.Core.List.{List, []}
use Prim.Native.Nat.{ℕ, suc, ◌≤◌}
use native.Mathlib.Omega.{arith}
use Rattle.foundation.specs.Tests.{cases}
use Rattle.foundation.specs.Lists.{Mem, keep_if, keep_if-mem}
use Rattle.foundation.specs.Intervals.{in_interval}
use Rattle.foundation.specs.MaximalRuns.{maximal_skip}
use Rattle.foundation.specs.BitMasks.{bit}
use Rattle.model.specs.declared.Access.{Access}
use Rattle.model.specs.declared.Authorization.{Authorization}
use Rattle.model.specs.declared.Rule.{Rule}
use Rattle.model.specs.Base.{Base}
use Rattle.model.specs.Stratification.{negates}
use Rattle.model.specs.Rules.{may}
use Rattle.encoding.specs.Format.{rule_at}
use Rattle.laws.specs.NothingHeld.{nothing-may}
use Rattle.relevance.specs.declared.Chosen.{Chosen}
use Rattle.relevance.specs.Chosen.{picked}
use Rattle.relevance.proofs.PickedFacts.{picked_none}
use Rattle.relevance.specs.Forgotten.{during}
use Rattle.selection.proofs.Selected.{selected-rule}
use Rattle.scan.specs.Filled.{filled}
use Rattle.outlines.specs.Coordinates.{Chart}
use Rattle.grounding.specs.RuleTurns.{Prepared}
use Rattle.engine.specs.declared.Query.{Query}
use Rattle.engine.specs.Posed.{Walks, nothing, Finds}
use Rattle.engine.proofs.LeftOut.{none_during}

module _ {lines which : List ℕ} {c : Chosen} {lasting : ℕ} {q : Query} {C : Chart} {p : Prepared}
    {words bits : List ℕ} {base : Base} {x : Access}
    (w : Walks lines which c lasting q C p words bits base x) (none : c.authorizations ≡ 0)
    (positive : (r : ℕ) → bit r c.needed ≡ true → negates (rule_at p.body r) ≡ false) where
  passed : keep_if (during q.from q.to) base.authorizations ≡ []
  passed = sym w.picked_all ∙ ap (picked lines which) none ∙ picked_none lines which

  uncovered : (t : ℕ) → q.from ≤ t → t ≤ q.to → (a : Authorization) → Mem a base.authorizations →
      in_interval a.interval t ≡ false
  uncovered t h k a m = cases (during q.from q.to a)
      (λ e. absurd (subst (λ (l : List Authorization). Mem a l) passed
      (keep_if-mem (during q.from q.to) base.authorizations a m e)).lower)
      (λ e. none_during q.from q.to a e t h k)

  no_negation : (r : Rule) → Mem r base.rules → negates r ≡ false
  no_negation r m =
      let s = selected-rule c.needed c.rules p.body r
      (subst (λ (l : List Rule). Mem r l) w.posed.rules m) in
      ap negates s.2 ∙ positive s.0 s.1

  not-may : (t : ℕ) → q.from ≤ t → t ≤ q.to → may base x t ≡ false
  not-may t h k = nothing-may base t (uncovered t h k) no_negation w.posed.strata x

  pub nothing-found : (old : List ℕ) → Finds q base x nothing old old
  unfolding filled
  nothing-found old = record {
    last = sym (not-may q.to w.forward (omega arith));
    listed = λ l. record {
      listed = record {
        done = [];
        all = w.fresh l ∙ maximal_skip q.from (suc q.to) q.to (may base x)
            (omega (arith, w.forward)) (λ t h k. not-may t h (omega arith));
        count_is = refl;
        list_is = refl;
      };
      held = λ from e. cc;
    };
  }

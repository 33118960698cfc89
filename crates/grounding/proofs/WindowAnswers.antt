-- Once all rules have given what they derive, the words of the tables say what holds over the window
-- (`words-exact`), and those of an access what it may (`may-exact`).
use mathlib.Core.Path.{◌≡◌, ap₂}
use mathlib.Core.Bool.{Bool, not, ◌&&◌}
use mathlib.Core.List.{List}
use Prim.Native.Nat.{ℕ, ◌<◌}
use Rattle.foundation.specs.Lists.{Mem}
use Rattle.foundation.specs.Intervals.{always}
use Rattle.foundation.specs.BitMasks.{bit}
use Rattle.model.specs.declared.Rule.{Rule}
use Rattle.model.specs.declared.Access.{Access}
use Rattle.model.specs.Rules.{holds, may}
use Rattle.derivation.proofs.Exact.{exact}
use Rattle.grounding.specs.Meaning.{Kept}
use Rattle.grounding.proofs.MeaningFacts.{pat_on}
use Rattle.grounding.proofs.Order.{WindowInputs, window_mapping, window_rule, pattern_of, W, RightIn}
use Rattle.grounding.proofs.Order.{DoneIn}

module _ (o : WindowInputs) (words : List ℕ) (right : RightIn o words)
    (done : (q : Rule) → Mem q o.base.rules → DoneIn o words q) where
  pub words_exact : (T : ℕ) (x : Access) → Kept (window_mapping o) T x → (i : ℕ) → i < o.count →
      bit i (W o words T x) ≡ holds always o.base (o.ms i) (pattern_of o T x)
  words_exact T x k = exact o.base o.count o.ms (pattern_of o) (pat_on (window_rule o))
      (Kept (window_mapping
      o))
      (W o words) right T x k (λ q m d. done q m x)

  pub may_exact : (x : Access) → Kept (window_mapping o) 0 x → Kept (window_mapping o) 1 x → (i : ℕ) →
      i < o.count →
      bit i (W o words 0 x) && not (bit i (W o words 1 x)) ≡ may o.base x (o.ms i)
  unfolding may
  may_exact x k l i h = ap₂ (λ (a b : Bool). a && not b) (words_exact 0 x k i h) (words_exact 1 x l i h)

-- Rules of which none negates and none has a denial on its left: no step counts, and all are in stratum 0
-- (`stratum-none`).
use Rattle.std.specs.Prelude.{◌≡◌, false, List, ℕ}
use Rattle.std.proofs.Common.{sym, ap, ◌∙◌, true≢false, arith}
use Rattle.foundation.specs.Tests.{cases}
use Rattle.foundation.specs.Lists.{Mem}
use Rattle.foundation.specs.BitMasks.{as_bit}
use Rattle.foundation.specs.Graph.{alone, then}
use Rattle.model.specs.declared.Rule.{Rule}
use Rattle.model.specs.Stratification.{negates, links, stratum}
use Rattle.model.specs.Stratification.{FeedingWalk}
use Rattle.model.proofs.StratificationFacts.{stratum-walk}
use Rattle.model.proofs.SideFacts.{links_is}

-- no step to the rule or from it counts
abbrev pub Plain : Rule → Type 0
Plain r = (negates r ≡ false) × (r.left.negative ≡ false)

no_link : (q r : Rule) → q.left.negative ≡ false → links q r ≡ false
no_link q r e = cases (links q r)
    (λ l. absurd (true≢false (sym ((links_is q r).0 l).0 ∙ e)))
    (λ l. l)

module _ (rules : List Rule) (plain : (r : Rule) → Mem r rules → Plain r) where
  -- no path counts anything, and a rank is what one counts
  walk_none : {n : ℕ} {r : Rule} → FeedingWalk rules n r → Mem r rules → n ≡ 0
  walk_none (alone {r}) m = ap as_bit (plain r m).0
  walk_none (then {n} {q} {r} w k e) m = omega (
    arith,
    walk_none w k,
    ap as_bit (plain r m).0,
    ap as_bit (no_link q r (plain q k).1),
  )

  pub stratum_none : (r : Rule) → Mem r rules → stratum rules r ≡ 0
  stratum_none r m = walk_none (stratum-walk rules r) m

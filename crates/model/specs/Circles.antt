-- Circles of feeding of any sort (02, change request 6), a WHENEVERNOT or UNLESS on them or not, beside the
-- forbidden ones of Stratification; 02: "For CR 6 such links count as feeding". `circular_path` in CirclePaths:
-- the test finds exactly the circles.
use Rattle.std.specs.Prelude.{List}
use Rattle.std.proofs.Math.Bool.{Bool}
use Rattle.foundation.specs.Lists.{anyb, Mem}
use Rattle.foundation.specs.Graph.{reaches}
use Rattle.model.specs.declared.Rule.{Rule}
use Rattle.model.specs.Stratification.{precedes}
use Rattle.model.specs.Stratification.{FeedingPath}

-- 02: "some feeding circle exists": feeding, links counting as feeding, leads from some rule back to it
unfoldable pub circular : List Rule → Bool
unfolding reaches
circular rules = anyb (λ r. reaches precedes precedes rules r r) rules

-- 01: "a rule that feeds itself is a circle": a rule with a path of feeding and links to itself
abbrev pub Circle : List Rule → Type 0
Circle rules = (r : Rule) × Mem r rules × FeedingPath rules r r

use mathlib.Core.Path.{◌≡◌}
use Prim.Native.Nat.{ℕ, ◌≤◌}
use lib.ListN.{length, get_or}
use Rattle.encoding.specs.Format.{rules_in}
use Rattle.rules.specs.RankTables.{RuleTable}
use Rattle.sections.specs.Sections.{left_of, feed_of}
use Rattle.outlines.specs.Feed.{feeders_of}
use Rattle.outlines.proofs.feed.draw_feeders.Given as goal

abbrev pub invariant-loop-i : goal.invariant-loop-i
invariant-loop-i l =
    (l.i ≤ l.n) × RuleTable l.i l.body (feeders_of (rules_in l.n l.body)) (feed_of l.outline)
    × ((k : ℕ) → l.i ≤ k → get_or (feed_of l.outline) k 0 ≡ get_or (feed_of l.initial.outline) k 0)
    × (left_of l.outline ≡ left_of l.initial.outline) × (length l.outline ≡ length l.initial.outline)

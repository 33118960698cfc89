-- Which rule precedes which, and feeds which, from the masks: what the tables are that this is read from
-- (`Outlined`), and the table of it (`FeedTable`).
use Rattle.std.specs.Prelude.{◌≡◌, Bool, true, false, not, ◌&&◌, List, ℕ, ◌+◌, ◌*◌, ◌/◌, ◌<◌, eqb, get_or}
use Rattle.std.specs.Int.Bits.{bit_and, bit_or}
use Rattle.foundation.specs.Tests.{pick}
use Rattle.foundation.specs.BitMasks.{bit, mask_of}
use Rattle.model.specs.declared.Rule.{Rule}
use Rattle.model.specs.declared.OptionTerm.{OptionTerm}
use Rattle.model.specs.declared.OptionTerm.TheVariants.{With, Without, Either}
use Rattle.model.specs.Stratification.{is_star, feeds, precedes}
use Rattle.encoding.specs.Format.{rules_in, rule_at}
use Rattle.rules.specs.RankTables.{RuleTable}
use Rattle.outlines.specs.Coordinates.{WellFormed, Chart, Charted}
use Rattle.outlines.specs.Outline.{RightSides, LeftSides}
use Rattle.outlines.specs.LeftMasks.{WrittenMasks}

-- an option that fits any
abbrev pub is_either : OptionTerm → Bool
is_either With = false
is_either Without = false
is_either Either = true

-- a rule whose right side names a grantor or an option
abbrev pub is_choosy : Rule → Bool
is_choosy r = not (is_star r.grantor && is_either r.option)

-- what was drawn of n rules
pub record Outlined (n : ℕ) (body left right sides : List ℕ) : Type 0 where
  pub well_formed : WellFormed n body
  pub chart : Chart
  pub charted : Charted n body chart
  pub rights : RightSides chart.subjects chart.objects n body right
  pub lefts : LeftSides chart.subjects chart.objects n body sides
  pub masks : WrittenMasks n chart.width sides left

-- the word of what a right side's mode meets, with a sign: of the sign alone for a star
abbrev pub right_mode_word : ℕ → ℕ → ℕ
right_mode_word code sign = pick (eqb code 255) (146 + sign) (130 + (code + 8 * sign))

-- the rules with a sign on the left that rule i meets in mode, subject and object: a starred object meets
-- all, a named one the rules that name it and the starred ones
unfoldable pub meeting_word : List ℕ → List ℕ → ℕ → ℕ → ℕ
meeting_word left right i sign =
    let m = get_or left (right_mode_word (get_or right (4 * i + 2) 0) sign) 0 in
    let s = get_or right (4 * i + 1) 0 in
    let o = get_or right (4 * i) 0 in
    let f = pick (eqb s 255) m (bit_and m (get_or left (65 + s) 0)) in
    pick (eqb o 255) f (bit_and f (bit_or (get_or left 151 0) (get_or left o 0)))

-- the rules that link to rule i: denials that a positive right side meets
unfoldable pub linkers_word : List ℕ → List ℕ → List ℕ → ℕ → ℕ
linkers_word left right sides i = pick (eqb (get_or sides (4 * i + 3) 0 / 2) 0) (meeting_word left right i 1) 0

-- the mask of the rules that feed r
abbrev pub feeders_of : List Rule → Rule → ℕ
feeders_of rules r = mask_of (λ q. feeds q r) rules

-- the mask of the rules that precede r
abbrev pub preceders_of : List Rule → Rule → ℕ
preceders_of rules r = mask_of (λ q. precedes q r) rules

-- the table
pub record FeedTable (n : ℕ) (body : List ℕ) (choosy : ℕ) (feed : List ℕ) : Type 0 where
  -- the rules that precede each rule
  pub preceders : RuleTable n body (preceders_of (rules_in n body)) feed
  -- the choosy rules that each rule feeds
  pub onward : (i c : ℕ) → i < n → c < n →
      bit c (get_or feed (64 + i) 0) ≡ bit c choosy && feeds (rule_at body i) (rule_at body c)

-- Which rule feeds which, forbidden circles and ranks (01, "Rules"): a graph with weights, and its strata.
-- Theorem 3: `stratified-path`, `stratum-most`, `stratum-walk` in StratificationFacts.
-- `feeds`, `links`, `precedes` and `weight` are used through the laws of FeedingLaws and SideFacts.
use Rattle.std.specs.Prelude.{ℕ, ◌+◌, Bool, true, false, not, ◌&&◌, ◌||◌, List, eqb}
use Rattle.std.specs.Bool.{beq}
use Rattle.foundation.specs.BitMasks.{as_bit}
use Rattle.foundation.specs.Graph.{heavy, cyclic, rank, Path, CountedPath}
use Rattle.model.specs.declared.Rule.{Rule}
use Rattle.model.specs.declared.Operator.{Operator}
use Rattle.model.specs.declared.Operator.TheVariants.{Whenever, AsLongAs, WheneverNot, Unless}
use Rattle.model.specs.declared.OptionTerm.{OptionTerm}
use Rattle.model.specs.declared.OptionTerm.TheVariants.{With, Without, Either}

-- 01, The base as bytes: "Zero is the star for subject, mode and right granter"; 02: for the object too
abbrev pub star : ℕ
star = 0

abbrev pub is_star : ℕ → Bool
is_star n = eqb n star

-- 01: "equal or starred on either side"
abbrev pub meets : ℕ → ℕ → Bool
meets a b = is_star a || is_star b || eqb a b

-- the right side's option fits what is, or is not, transferable
abbrev pub fits_option : OptionTerm → Bool → Bool
fits_option With o = o
fits_option Without o = not o
fits_option Either o = true

-- 01: "Rule q feeds rule r if q's left side can fit r's right: same sign and object, subject and mode equal
-- or starred on either side, granter starred or q's author, option starred or not transferable"; 02: "A
-- starred object fits any in feeding", whoever the authors are
unfoldable pub feeds : Rule → Rule → Bool
feeds q r =
    beq q.left.negative r.right.negative
    && meets q.left.object r.right.object
    && meets q.left.subject r.right.subject
    && meets q.left.mode r.right.mode
    && (is_star r.grantor || eqb r.grantor q.author)
    && fits_option r.option false

abbrev pub negating : Operator → Bool
negating Whenever = false
negating AsLongAs = false
negating WheneverNot = true
negating Unless = true

-- the operators that look back to the rule's start
abbrev pub lasting : Operator → Bool
lasting Whenever = false
lasting AsLongAs = true
lasting WheneverNot = false
lasting Unless = true

-- 01: "with a WHENEVERNOT or UNLESS in it"
abbrev pub negates : Rule → Bool
negates r = negating r.operator

-- 02: "a rule with a denial on its left also links to every rule whose positive right side has the same
-- object, with subject and mode equal or starred on either side"; "A starred object fits any in feeding and
-- in the links"
unfoldable pub links : Rule → Rule → Bool
links q r =
    q.left.negative
    && not r.right.negative
    && meets q.left.object r.right.object
    && meets q.left.subject r.right.subject
    && meets q.left.mode r.right.mode

-- q is looked at by r: what q derives may bear on whether r's right side counts as held
unfoldable pub precedes : Rule → Rule → Bool
precedes q r = feeds q r || links q r

-- what the step from q to r counts in a rank: one if r is a rule with WHENEVERNOT or UNLESS, and, 02, "the
-- link counts one"
unfoldable pub weight : Rule → Rule → ℕ
weight q r = as_bit (negates r) + as_bit (links q r)

-- 01: "A circle of feeding with a WHENEVERNOT or UNLESS in it is forbidden"; 02: "a circle with such a link
-- is forbidden"
unfoldable pub stratified : List Rule → Bool
stratified rules = not (cyclic precedes (heavy weight) rules)

-- 01: "A rule's rank is the most WHENEVERNOT and UNLESS rules on a feeding path that ends in it, itself
-- included"; 02: "the link counts one in a rank"
unfoldable pub stratum : List Rule → Rule → ℕ
stratum rules r = rank precedes weight negates rules r

-- ---- paths of feeding; a rule but for its label

-- 01's feeding, or 02's link
abbrev pub leads : Rule → Rule → Bool
leads q r = feeds q r || links q r

-- a path: each rule feeds the next, or links to it
abbrev pub FeedingPath : List Rule → Rule → Rule → Type 0
FeedingPath rules q r = Path leads leads rules q r

-- a path that ends in the rule; what it counts: the WHENEVERNOT and UNLESS rules on it, both ends included,
-- and the links on it
abbrev pub FeedingWalk : List Rule → ℕ → Rule → Type 0
FeedingWalk rules n r = CountedPath leads (λ q r. as_bit (negates r) + as_bit (links q r)) negates rules n r

abbrev pub unlabelled : Rule → Rule
unlabelled r = record {
  label = 0;
  author = r.author;
  left = r.left;
  operator = r.operator;
  right = r.right;
  grantor = r.grantor;
  option = r.option;
  interval = r.interval;
}

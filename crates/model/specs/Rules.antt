-- What holds by authorizations and rules, and the question MAY (01, "Rules").
-- Theorem 4: `closed` and `smallest` in HoldsFacts. Theorem 5: HoldsMarks.
use Prim.Native.Nat.{ℕ, zero, suc, ◌+◌, ◌*◌}
use Rattle.std.specs.Prelude.{Bool, true, not, ◌&&◌, ◌||◌, List, ltb, eqb, ◌≡◌}
use Rattle.std.proofs.Math.Bool.{false}
use Rattle.std.specs.Bool.{beq}
use Rattle.std.proofs.Math.ListN.{length}
use Rattle.foundation.specs.Tests.{pick}
use Rattle.foundation.specs.Lists.{anyb}
use Rattle.foundation.specs.Closure.{iter}
use Rattle.foundation.specs.declared.Interval.{Interval}
use Rattle.foundation.specs.Intervals.{in_interval, maximal, always}
use Rattle.foundation.specs.Graph.{heavy}
use Rattle.model.specs.declared.Head.{Head}
use Rattle.model.specs.declared.Rule.{Rule}
use Rattle.model.specs.declared.Operator.{Operator}
use Rattle.model.specs.declared.Operator.TheVariants.{Whenever, AsLongAs, WheneverNot, Unless}
use Rattle.model.specs.declared.OptionTerm.TheVariants.{Either}
use Rattle.model.specs.declared.Access.{Access}
pub use Rattle.model.specs.declared.Pattern.{Pattern}
use Rattle.model.specs.Ranges.{last_instant}
use Rattle.model.specs.Base.{Base, controls}
use Rattle.model.specs.Support.{live}
use Rattle.model.specs.Stratification.{star, is_star, fits_option, stratum, precedes, weight}

-- 01: "A star for granter or option fits any"
abbrev pub fits_grantor : ℕ → ℕ → Bool
fits_grantor wanted g = is_star wanted || eqb wanted g

-- an authorization with the head h is what is looked for
unfoldable pub fits : Pattern → Head → Bool
fits p h =
    eqb h.subject p.access.subject
    && eqb h.mode p.access.mode
    && eqb h.object p.access.object
    && beq h.negative p.negative
    && fits_grantor p.grantor h.grantor
    && fits_option p.option h.option

-- 02: a rule with starred objects "stands for each object on which its author is owner or administrator at
-- the time of the question"; another for the one that it names
abbrev pub stands_on : Base → Rule → ℕ → Bool
stands_on b r o = pick (is_star r.left.object) (controls b o r.author) (eqb r.left.object o)

-- 01: "A starred rule stands for one rule per subject or mode": the accesses on the left of the rules it
-- stands for in the base (SideFacts: `stands-named`, `stands-starred`)
unfoldable pub stands_for : Base → Rule → Access → Bool
stands_for b r x =
    (is_star r.left.subject || eqb r.left.subject x.subject)
    && (is_star r.left.mode || eqb r.left.mode x.mode)
    && stands_on b r x.object

-- 01: "The left side is never transferable and its granter is the author": what the rule derives is what is
-- looked for
unfoldable pub derives_for : Base → Pattern → Rule → Bool
derives_for b p r =
    stands_for b r p.access
    && beq r.left.negative p.negative
    && fits_grantor p.grantor r.author
    && fits_option p.option false

-- 01: "the same on both sides": the right side of the rule that stands for x
unfoldable pub right_of : Rule → Access → Pattern
right_of r x = record {
  access = record {
    subject = pick (is_star r.right.subject) x.subject r.right.subject;
    mode = pick (is_star r.right.mode) x.mode r.right.mode;
    object = pick (is_star r.right.object) x.object r.right.object;
  };
  negative = r.right.negative;
  grantor = r.grantor;
  option = r.option;
}

-- the rule derives its left side for that access at that instant
pub record Fact : Type 0 where
  pub rule : Rule
  pub access : Access
  pub at : ℕ

abbrev pub fact : Rule → Access → ℕ → Fact
fact r x t = record { rule = r; access = x; at = t }

-- any grantor, any option
abbrev pub asked : Access → Bool → Pattern
asked x negative = record { access = x; negative = negative; grantor = star; option = Either }

-- What counts as held on a rule's right side, `same` being what holds up to the rule's stratum and `lower`
-- what holds below it, where the denials are. 02: "a positive right side counts as held at t ... exactly if
-- it is held and no denial for that subject, object and mode is held at t, whoever gave it. A denial on the
-- right counts as before"
abbrev pub right_holds : (Pattern → Bool) → (Pattern → Bool) → Pattern → Bool
right_holds same lower p =
    let d = lower (asked p.access true) in
    same p && (p.negative || not d)

-- 01: "WHENEVER gives the left side at t if the right is held at t; ASLONGAS if held at all instants from the
-- rule's start to t; WHENEVERNOT and UNLESS likewise with 'not held'". The negating ones look at the strata
-- below, `lower`. `every a t f` says that f holds at all instants from a to t.
abbrev pub operate : (ℕ → ℕ → (ℕ → Bool) → Bool) → Operator → (ℕ → Bool) → (ℕ → Bool) → ℕ → ℕ → Bool
operate every Whenever same lower start t = same t
operate every AsLongAs same lower start t = every start t same
operate every WheneverNot same lower start t = not (lower t)
operate every Unless same lower start t = every start t (λ u. not (lower u))

module _ (every : ℕ → ℕ → (ℕ → Bool) → Bool) (b : Base) where
  -- 01: "Held means given by a line or by a rule, denied or not", S saying what rules derive
  abbrev pub holds_by : (Fact → Bool) → ℕ → Pattern → Bool
  holds_by S t p =
      let by_rule = anyb (λ r. let d = S (fact r p.access t) in derives_for b p r && d) b.rules in
      anyb (fits p) (live t b.authorizations) || by_rule

  -- whether the right side p counts as held, instant by instant
  abbrev pub right_by : (Fact → Bool) → (Fact → Bool) → Pattern → ℕ → Bool
  right_by lower S p u = right_holds (holds_by S u) (holds_by lower u) p

  -- the rule derives x, S saying what rules of its stratum and below derive, `lower` those below
  abbrev pub derives : (Fact → Bool) → (Fact → Bool) → Fact → Bool
  derives lower S x =
      let r = x.rule in
      let p = right_of r x.access in
      let v = operate every r.operator (right_by lower S p) (right_by lower lower p) r.interval.start
      x.at in
      in_interval r.interval x.at && v

  -- one round in stratum k: what lower strata derive stays, what a rule of the stratum derives is added
  abbrev pub round : ℕ → (Fact → Bool) → (Fact → Bool) → Fact → Bool
  round k lower S x =
      let n = stratum b.rules x.rule in
      let l = lower x in
      let d = derives lower S x in
      pick (ltb n k) l (eqb n k && d)

  -- rounds enough that one more would add nothing (`closed`): one for each rule, subject, mode, object and
  -- mark
  abbrev pub enough : ℕ
  enough =
      let m = length b.rules in
      let n = suc m in
      suc (m * (n * (n * (n * suc (2 * length b.authorizations + 2 * m)))))

  -- 01: "What is held is built rank by rank, each the smallest set closed under its rules": what the strata
  -- below k derive
  unfoldable pub derived_below : ℕ → Fact → Bool
  unfolding iter
  derived_below zero x = false
  derived_below (suc k) x = iter (λ S. round k (λ y. derived_below k y) S) enough (λ y. derived_below k y) x

  unfoldable pub holds : ℕ → Pattern → Bool
  unfolding derived_below
  holds t p = holds_by (derived_below (suc (2 * length b.rules))) t p

-- 01: "MAY is yes exactly if a positive authorization is held and no denial is"
unfoldable pub may_with : (ℕ → ℕ → (ℕ → Bool) → Bool) → Base → Access → ℕ → Bool
unfolding holds
may_with every b x t = holds every b t (asked x false) && not (holds every b t (asked x true))

unfoldable pub may : Base → Access → ℕ → Bool
unfolding may_with
may b x t = may_with always b x t

-- 01: "WHEN ... writes the longest runs of instants where MAY says yes, rising"
unfoldable pub when : Base → Access → List Interval
when b x = maximal 0 last_instant (λ t. may b x t)

-- ---- what holds at last

module _ (base : Base) where
  -- what the rules derive, all strata together
  abbrev pub derived : Fact → Bool
  derived = derived_below always base (suc (2 * length base.rules))

  -- what counts as held on a right side at u
  abbrev pub holding : ℕ → Pattern → Bool
  holding u p = right_holds (holds always base u) (holds always base u) p

-- ---- what precedes a rule

-- what holds of p is derived only by rules that r looks at
abbrev pub PrecededOnly : Base → Rule → Pattern → Type 0
PrecededOnly base r p = (q : Rule) → derives_for base p q ≡ true → precedes q r ≡ true

-- and by steps that count in a rank
abbrev pub StrictlyFed : Base → Rule → Pattern → Type 0
StrictlyFed base r p =
    (q : Rule) → derives_for base p q ≡ true → (precedes q r ≡ true) × (heavy weight q r ≡ true)

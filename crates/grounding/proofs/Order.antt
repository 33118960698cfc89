-- What the turns of the rules mean. Where each rule has its turn behind those that precede it, all have given
-- what they derive over the window (`turns-done`).
use mathlib.Core.Path.{◌≡◌, refl, sym, ap, ◌∙◌, subst}
use mathlib.Core.Logic.{inl, inr}
use mathlib.Core.Bool.{Bool, true, false, true≢false, false≢true}
use mathlib.Core.List.{List}
use Prim.Native.Nat.{ℕ, ◌≤◌, ◌<◌}
use native.Mathlib.Omega.{arith}
use lib.Dec.{eqb}
use lib.ListN.{get_or}
use Rattle.foundation.specs.Tests.{cases, true_eq, false_eq, and-true}
use Rattle.foundation.specs.Lists.{Mem}
use Rattle.foundation.specs.Intervals.{in_interval, always}
use Rattle.foundation.specs.BitMasks.{bit, bit-zero}
use Rattle.places.specs.declared.Point.{Point}
use Rattle.tables.specs.declared.Place.{Place}
use Rattle.tables.specs.TableGiving.{table_takes}
use Rattle.model.specs.declared.Rule.{Rule}
use Rattle.model.specs.declared.Access.{Access}
use Rattle.model.specs.declared.Pattern.{Pattern}
use Rattle.model.specs.Base.{Base}
use Rattle.model.specs.Stratification.{stratified, precedes}
use Rattle.model.specs.Rules.{stands_for, derives_for, right_of, operate}
use Rattle.model.proofs.SideFacts.{derives-stands}
use Rattle.model.specs.Rules.{holding}
use Rattle.model.proofs.HoldsLaws.{derived-law}
use Rattle.encoding.specs.Format.{rule_at}
use Rattle.derivation.proofs.Window.{Window}
use Rattle.derivation.specs.Carried.{Carried}
use Rattle.derivation.specs.Words.{AccessWords}
use Rattle.derivation.proofs.Exact.{Valued, GivenEverywhere}
use Rattle.derivation.proofs.Joined.{Joined, joined_more}
use Rattle.grounding.specs.declared.RuleTurn.{RuleTurn}
use Rattle.grounding.specs.RuleSteps.{broken_in, Step, Steps, none, then, Visited, AtPair, PairsRan}
use Rattle.grounding.specs.Meaning.{Mapping, Placed, TurnOf, StandsIn, Kept, place_of, words_in, pat}
use Rattle.grounding.proofs.MeaningFacts.{pat_on, given_grows, step-joined, steps_keep, turn-given}
use Rattle.grounding.specs.RuleTurns as turns
use Rattle.grounding.specs.RuleTurns.{Prepared, turn_in, range_for, RuleRan, Turns}

-- ---- rows of steps

module _ {Does : Place → List ℕ → List ℕ → Type 0} {At : Place → Type 0} where
  -- what each step keeps, a row keeps
  pub steps_along : (Inv : List ℕ → Type 0) →
      ((a b : List ℕ) (q : Place) → At q → Does q a b → Inv a → Inv b) →
      {u v : List ℕ} → Steps Does At u v → Inv u → Inv v
  steps_along Inv f none i = i
  steps_along Inv f (then {u = a} {v = b} q s d rest) i = steps_along Inv f rest (f a b q s d i)

  module _ {More : Place → Type 0} (f : (q : Place) → At q → More q) where
    pub steps_within : {u v : List ℕ} → Steps Does At u v → Steps Does More u v
    steps_within none = none
    steps_within (then q s d rest) = then q (f q s) d (steps_within rest)

    pub visited_within : {q : Place} {u v : List ℕ} → Visited Does At q u v → Visited Does More q u v
    visited_within seen = record {
      before = seen.before;
      after = seen.after;
      to = steps_within seen.to;
      step = seen.step;
      from = steps_within seen.from;
    }

-- ---- the rules of a question

-- The tables of a question, the base with the rules that matter to it, the accesses that do and their places;
-- and a window: its instants, those of each rule's interval, and what is kept of the windows before
pub record WindowInputs : Type 0 where
  pub prepared : Prepared
  pub base : Base
  pub matters : Access → Bool
  pub point : Access → Point
  pub needed : ℕ
  pub count : ℕ
  pub ms : ℕ → ℕ
  pub active : List ℕ
  pub bits : List ℕ

module _ (o : WindowInputs) where
  abbrev p : Prepared
  p = o.prepared

  abbrev base : Base
  base = o.base

  abbrev matters : Access → Bool
  matters = o.matters

  abbrev needed : ℕ
  needed = o.needed

  abbrev count : ℕ
  count = o.count

  abbrev ms : ℕ → ℕ
  ms = o.ms

  abbrev active : List ℕ
  active = o.active

  abbrev bits : List ℕ
  bits = o.bits

  abbrev pub window_mapping : Mapping
  window_mapping = record {
    base = o.base;
    rule = rule_at o.prepared.body;
    matters = o.matters;
    point = o.point;
    number = o.prepared.number;
    frame = o.prepared.frame;
    right = o.prepared.right;
    first = o.prepared.first;
  }

  abbrev pub window_rule : ℕ → Rule
  window_rule = rule_at p.body

  abbrev pub pattern_of : ℕ → Access → Pattern
  pattern_of = pat window_rule

  abbrev pub turn_of : ℕ → RuleTurn
  turn_of = turn_in p active

  abbrev pub W : List ℕ → AccessWords
  W = words_in window_mapping

  -- the places at which rule r has a step
  abbrev pub PlaceFor : ℕ → Place → Type 0
  PlaceFor r = AtPair (turn_of r) p.frame p.left p.need p.codes
      (range_for p active r).from (range_for p active r).to

  -- the words of the tables say nothing wrong and have the authorizations in them
  abbrev pub RightIn : List ℕ → Type 0
  RightIn u = Valued base count ms pattern_of (Kept window_mapping) (W u)

  -- they have in them what a rule derives
  abbrev pub DoneIn : List ℕ → Rule → Type 0
  DoneIn u = GivenEverywhere base count ms pattern_of (Kept window_mapping) (W u)

  -- no bit is lost
  abbrev pub Gained : List ℕ → List ℕ → Type 0
  Gained u v = (T : ℕ) (y : Access) → Kept window_mapping T y → (i : ℕ) → bit i (W u T y) ≡ true →
      bit i (W v T y) ≡ true

  pub done_gained : (u v : List ℕ) → Gained u v → (q : Rule) → DoneIn u q → DoneIn v q
  done_gained u v g q d x T k f i h n = g T x k i (d x T k f i h n)

  -- The needed rules stand ready for their turns: they are all rules of the base, and each has a step exactly
  -- where it stands; what is kept of the windows before is right.
  pub record Staged : Type 0 where
    pub placed : Placed window_mapping
    pub strata : stratified base.rules ≡ true
    pub window : Window base count ms
    pub low : (r : ℕ) → bit r needed ≡ true → r < 64
    pub turn : (r : ℕ) → bit r needed ≡ true → TurnOf window_mapping count ms (window_rule r) (turn_of r)
    pub stands : (r : ℕ) → bit r needed ≡ true → (q : Place) → PlaceFor r q → StandsIn window_mapping
        (window_rule r) q
    pub reached : (r : ℕ) → bit r needed ≡ true → (x : Access) → matters x ≡ true →
        stands_for base (window_rule r) x ≡ true → PlaceFor r (place_of window_mapping x)
    pub carried : (r : ℕ) → bit r needed ≡ true → (x : Access) → matters x ≡ true →
        stands_for base (window_rule r) x ≡ true →
        Carried base (ms 0) (window_rule r) x (broken_in (turn_of r) p.frame.grid bits
        (place_of window_mapping x))
    pub feed : (q r : ℕ) → bit q needed ≡ true → bit r needed ≡ true →
        precedes (window_rule q) (window_rule r) ≡ true →
        bit q (get_or p.feed r 0) ≡ true
    pub all : (q : Rule) → Mem q base.rules → (r : ℕ) × (bit r needed ≡ true) × (q ≡ window_rule r)

  module _ (staged : Staged) where
    -- ---- the steps of a rule

    module _ (r : ℕ) (n : bit r needed ≡ true) where
      abbrev pub Does : Place → List ℕ → List ℕ → Type 0
      Does = Step (turn_of r) p.frame p.number bits p.right p.first

      abbrev pub TurnRan : List ℕ → List ℕ → Type 0
      TurnRan = PairsRan (turn_of r) p.frame p.left p.need p.codes Does
          (range_for p active r).from (range_for p active r).to

      abbrev pub StepRow : List ℕ → List ℕ → Type 0
      StepRow = Steps Does (StandsIn window_mapping (window_rule r))

      pub row_of : {u v : List ℕ} → TurnRan u v → StepRow u v
      row_of ran = steps_within (staged.stands r n) ran.steps

      pub visited_of : {u v : List ℕ} → TurnRan u v → (x : Access) → matters x ≡ true →
          stands_for base (window_rule r) x ≡ true →
          Visited Does (StandsIn window_mapping (window_rule r)) (place_of window_mapping x) u v
      visited_of {u} {v} ran x m s =
          let a = staged.reached r n x m s in
          subst (λ (q : Place). Visited Does (StandsIn window_mapping (window_rule r)) q u v) (sym a.5)
          (visited_within (staged.stands r n) (ran.all a.0 a.1 a.2 a.3 a.4))

      -- a rule derives for a pattern where it stands
      pub stands-there : (T : ℕ) (x : Access) → derives_for base (pattern_of T x) (window_rule r) ≡ true →
          stands_for base (window_rule r) x ≡ true
      stands-there T x d = subst (λ (y : Access). stands_for base (window_rule r) y ≡ true)
          (pat_on window_rule T x)
          (derives-stands base (pattern_of T x) (window_rule r) d)

      module _ (a b : List ℕ) (q : Place) (s : StandsIn window_mapping (window_rule r) q) (d : Does q a b) where
        pub there : Does (place_of window_mapping s.access) a b
        there = subst (λ (q : Place). Does q a b) s.place d

        pub row-joined : Joined (Kept window_mapping) (W a) (W b)
            (λ T. derives_for base (pattern_of T s.access) (window_rule r)) s.access there.value
        row-joined = step-joined window_mapping staged.placed staged.strata count ms staged.window
            (window_rule r) (turn_of r) (staged.turn r n) bits (staged.carried r n) s.access s.matters
            s.stands a b there

        row_grows : (T : ℕ) (y : Access) → Kept window_mapping T y → W a T y ≤ W b T y
        row_grows = given_grows window_mapping staged.placed s.access s.matters
            (table_takes (turn_of r).sign (turn_of r).takers) there.value a b
            (λ T. derives_for base (pattern_of T s.access) (window_rule r))
            ((staged.turn r n).gives s.access s.matters s.stands) there.given

      pub steps_gained : {u v : List ℕ} → StepRow u v → Gained u v
      steps_gained {u} row = steps_along (Gained u)
          (λ a b q s d g T y k i e. joined_more (Kept window_mapping) (W a) (W b)
          (λ T. derives_for base (pattern_of T s.access) (window_rule r)) s.access (there a b q s d).value
          (row-joined a b q s d) T y k i (g T y k i e))
          row (λ T y k i e. e)

      pub steps_grow : {u v : List ℕ} → StepRow u v → (T : ℕ) (y : Access) → Kept window_mapping T y →
          W u T y ≤ W v T
          y
      steps_grow {u} row = steps_along (λ v. (T : ℕ) (y : Access) → Kept window_mapping T y → W u T y ≤ W v T
          y)
          (λ a b q s d g T y k. omega (arith, g T y k, row_grows a b q s d T y k))
          row (λ T y k. omega arith)

      -- only words change that the rule derives for
      abbrev pub Untouched : List ℕ → List ℕ → Type 0
      Untouched u v = (T : ℕ) (y : Access) → Kept window_mapping T y →
          (derives_for base (pattern_of T y) (window_rule r) ≡ true → ⊥) → W v T y ≡ W u T y

      pub steps_untouched : {u v : List ℕ} → StepRow u v → Untouched u v
      steps_untouched {u} row = steps_along (Untouched u)
          (λ a b q s d g T y k no. (row-joined a b q s d).else_kept T y k
          (λ e t. no (subst (λ (x : Access). derives_for base (pattern_of T x) (window_rule r) ≡ true) (sym e)
          t))
          ∙ g T y k no)
          row (λ T y k no. refl)

      -- ---- the turn of a rule

      pub turn_gained : {u v : List ℕ} → RuleRan p active bits r u v → Gained u v
      turn_gained {u} {v} (inl e) = subst (Gained u) (sym e.1) (λ T y k i b. b)
      turn_gained (inr ran) = steps_gained (row_of ran)

      pub turn_untouched : {u v : List ℕ} → RuleRan p active bits r u v → Untouched u v
      turn_untouched {u} {v} (inl e) = subst (Untouched u) (sym e.1) (λ T y k no. refl)
      turn_untouched (inr ran) = steps_untouched (row_of ran)

      -- a rule with no instant in the window derives nothing
      pub idle_done : get_or active r 0 ≡ 0 → (u : List ℕ) → DoneIn u (window_rule r)
      idle_done e u x T k d i h t =
          let t' = staged.turn r n in
          let right : ℕ → Bool = λ j. holding base j (right_of (window_rule r) x) in
          let now = and-true (in_interval (window_rule r).interval (ms i))
          (operate always (window_rule r).operator right right (window_rule r).interval.start (ms i))
          (sym (derived-law base staged.strata (window_rule r) t'.mem x (ms i)) ∙ t) in
          absurd (false≢true (sym (ap (bit i) e ∙ bit-zero i) ∙ t'.acts i h ∙ now.0))

      -- the rules that precede it have given what they derive
      abbrev pub PrecedersDone : List ℕ → Type 0
      PrecedersDone u = (q : Rule) → Mem q base.rules → precedes q (window_rule r) ≡ true → DoneIn u q

      -- then the rule gives what it derives
      pub turn-done : {u v : List ℕ} → RuleRan p active bits r u v → RightIn u → PrecedersDone u →
          RightIn v × DoneIn v (window_rule r)
      turn-done {u} {v} (inl e) a fed = (subst RightIn (sym e.1) a, idle_done e.0 v)
      turn-done {u} {v} (inr ran) a fed = (
        (steps_keep window_mapping staged.placed staged.strata count ms staged.window (window_rule r)
            (turn_of r)
            (staged.turn r n) bits (staged.carried r n) (row_of ran) a fed).valued,
        λ x T k d. turn-given window_mapping staged.placed staged.strata count ms staged.window
            (window_rule r)
            (turn_of r) (staged.turn r n) bits (staged.carried r n) x k.0 (stands-there T x d)
            (visited_of ran x k.0 (stands-there T x d)) a fed T k d,
      )

    -- ---- rules in their order

    -- the needed rules that are not in `rest` have given what they derive
    abbrev pub DoneBut : ℕ → List ℕ → Type 0
    DoneBut rest u = (r : ℕ) → bit r needed ≡ true → bit r rest ≡ false → DoneIn u (window_rule r)

    -- where none is in it, all rules have
    pub none_left : (rest : ℕ) (u : List ℕ) → ((q : ℕ) → q < 64 → bit q rest ≡ true → ⊥) → DoneBut rest u →
        (q : Rule) → Mem q base.rules → DoneIn u q
    none_left rest u clean done q m =
        let c = staged.all q m in
        subst (DoneIn u) (sym c.2) (done c.0 c.1 (cases (bit c.0 rest)
        (λ e. absurd (clean c.0 (staged.low c.0 c.1) e)) (λ e. e)))

    pub record Onward (rest left : ℕ) (u v : List ℕ) : Type 0 where
      pub right : RightIn v
      pub done : DoneBut left v
      pub gained : Gained u v
      pub fewer : (q : ℕ) → bit q left ≡ true → bit q rest ≡ true

    pub turns-done : {rest left : ℕ} {u v : List ℕ} → Turns p active bits rest u left v →
        ((q : ℕ) → bit q rest ≡ true → bit q needed ≡ true) → RightIn u → DoneBut rest u →
        Onward rest left u v
    turns-done turns.Turns.none within a done =
        record { right = a; done = done; gained = λ T y k i b. b; fewer = λ q e. e }
    turns-done {rest} {u = u} (turns.Turns.then {rest' = rest'} {v = b} r there free kept fewer ran more)
        within a done =
        let n = within r there in
        let fed : PrecedersDone r n u = λ q m f.
        let c = staged.all q m in
        subst (DoneIn u) (sym c.2) (done c.0 c.1 (cases (bit c.0 rest)
        (λ e. absurd (free c.0 (staged.low c.0 c.1)
        (staged.feed c.0 r c.1 n
        (subst (λ (q : Rule). precedes q (window_rule r) ≡ true) c.2 f)) e))
        (λ e. e))) in
        let gain = turn_gained r n ran in
        let now = turn-done r n ran a fed in
        let done' : DoneBut rest' b = λ q m e. cases (eqb q r)
        (λ s. subst (λ (j : ℕ). DoneIn b (window_rule j)) (sym (true_eq q r s)) now.1)
        (λ s. done_gained u b gain (window_rule q) (done q m (cases (bit q rest)
        (λ c. absurd (true≢false (sym (kept q c (false_eq q r s)) ∙ e)))
        (λ c. c)))) in
        let o = turns-done more (λ q e. within q (fewer q e)) now.0 done' in
        record {
          right = o.right;
          done = o.done;
          gained = λ T y k i e. o.gained T y k i (gain T y k i e);
          fewer = λ q e. fewer q (o.fewer q e);
        }

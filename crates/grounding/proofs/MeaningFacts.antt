-- A step gives what the rule derives, and once all steps of a turn are done that is in the tables
-- (`turn-given`).
use mathlib.Core.Path.{◌≡◌, refl, sym, ap, ap₂, ◌∙◌, subst}
use mathlib.Core.Bool.{Bool, true, false, not, ◌&&◌, ◌||◌, true≢false}
use mathlib.Core.List.{List}
use Prim.Native.Nat.{ℕ, zero, suc, ◌+◌, ◌≤◌, ◌<◌}
use native.Mathlib.Omega.{arith}
use lib.Bits.{bit_or, or_add_and, and_le_r}
use lib.Dec.{eqb}
use lib.ListN.{get_or}
use Rattle.foundation.specs.Tests.{pick, cases, and-true, and_three, true_eq, eq_true}
use Rattle.foundation.specs.Lists.{Mem}
use Rattle.foundation.specs.BitMasks.{bit}
use Rattle.foundation.specs.BitLaws.{bit_or_lem}
use Rattle.words.specs.Bits.{less}
use Rattle.words.proofs.CutBit.{bit-less}
use Rattle.words.specs.Fields.{field_of}
use Rattle.places.specs.declared.Region.{Region}
use Rattle.places.specs.declared.Point.{Point}
use Rattle.places.specs.Regions.{size_of, index_in}
use Rattle.tables.specs.declared.Place.{Place}
use Rattle.tables.specs.TableLayout.{field_in, whole_region}
use Rattle.tables.specs.TableGiving.{tables_of, table_takes, same_place, TablesGiven}
use Rattle.model.specs.declared.Operator.{Operator}
use Rattle.model.specs.declared.Rule.{Rule}
use Rattle.model.specs.declared.Access.{Access}
use Rattle.model.specs.declared.Pattern.{Pattern}
use Rattle.model.specs.Stratification.{stratified, precedes}
use Rattle.model.specs.Rules.{stands_for, derives_for, right_of}
use Rattle.questions.specs.Table.{truth}
use Rattle.derivation.proofs.Window.{Window}
use Rattle.derivation.specs.Derive.{Derived}
use Rattle.derivation.specs.Carried.{Carried}
use Rattle.derivation.proofs.Exact.{Valued, GivenAt, GivenEverywhere}
use Rattle.derivation.proofs.Joined.{Joined, given_stays, rule_valued, rule-given}
use Rattle.derivation.proofs.Turn.{Evaluated, turn_right}
use Rattle.grounding.specs.declared.RuleTurn.{RuleTurn}
use Rattle.grounding.specs.RuleSteps.{pair_in, force_at, force_in, broken_in, Step, Steps}
use Rattle.grounding.specs.RuleSteps.{none, then, Visited}
use Rattle.grounding.specs.Meaning.{pat, Mapping, place_of, Kept, words_in, Placed, TurnOf, StandsIn}

pub pat_on : (rule : ℕ → Rule) (T : ℕ) (x : Access) → (pat rule T x).access ≡ x
pat_on rule zero x = refl
pat_on rule (suc zero) x = refl
pat_on rule (suc (suc c)) x = refl

module _ (z : Mapping) where
  -- the table of denials keeps what any table keeps
  kept_denials : (T : ℕ) (x : Access) → Kept z T x → Kept z 1 x
  kept_denials T x k = (
    k.0,
    record {
      table = refl;
      within = k.1.within;
      inside = record {
        subject = λ e. absurd (true≢false e);
        object = λ e. absurd (true≢false e);
        mode = λ e. absurd (true≢false e);
      };
    },
  )

  -- ---- a step joins words

  module _ (placed : Placed z) (x : Access) (m : z.matters x ≡ true) (taken : ℕ → Bool) (v : ℕ)
      (old new : List ℕ) (wanted : ℕ → Bool)
      (alike : (T : ℕ) → Kept z T x → taken T ≡ wanted T)
      (g : TablesGiven (tables_of z.frame z.right z.first) z.frame.width (place_of z x).pair
      (z.point x)
      taken
      v old new) where
    abbrev field : ℕ → Access → ℕ
    field T y = field_in (tables_of z.frame z.right z.first) T (place_of z y).pair (z.point y)

    given_at_lem : (T : ℕ) (y : Access) → Kept z T y → words_in z new T y
        ≡ pick (taken T && same_place (z.point y) (z.point x)) (bit_or (words_in z old T y) v)
        (words_in z old T y)
    given_at_lem T y k = g.fields T (place_of z y).pair (z.point y) k.1 (placed.paired y x k.0 m)

    -- no word becomes less
    pub given_grows : (T : ℕ) (y : Access) → Kept z T y → words_in z old T y ≤ words_in z new T y
    given_grows T y k =
        let a : ℕ = words_in z old T y in
        let n : ℕ = words_in z new T y in
        let e : n ≡ pick (taken T && same_place (z.point y) (z.point x)) (bit_or a v) a = given_at_lem T y k in
        cases (taken T && same_place (z.point y) (z.point x))
        (λ c. let q : n ≡ bit_or a v = e ∙ rw c in omega (arith, or_add_and a v, and_le_r a v))
        (λ c. let q : n ≡ a = e ∙ rw c in omega arith)

    same_refl : same_place (z.point x) (z.point x) ≡ true
    same_refl =
        let p = z.point x in
        (and_three (eqb p.subject p.subject) (eqb p.object p.object) (eqb p.mode p.mode)).1 (
          eq_true p.subject p.subject refl,
          eq_true p.object p.object refl,
          eq_true p.mode p.mode refl,
        )

    same_access : (y : Access) → z.matters y ≡ true → same_place (z.point y) (z.point x) ≡ true → y ≡ x
    same_access y n e =
        let p = z.point y in
        let q = z.point x in
        let w = (and_three (eqb p.subject q.subject) (eqb p.object q.object) (eqb p.mode q.mode)).0
        e in
        placed.apart y x n m (true_eq p.subject q.subject w.0) (true_eq p.object q.object w.1)
        (true_eq p.mode q.mode w.2)

    pub given-joined : Joined (Kept z) (words_in z old) (words_in z new) wanted x v
    given-joined = record {
      there = λ T k t i.
          ap (bit i) (given_at_lem T x k ∙ rw (alike T k ∙ t, same_refl)) ∙ bit_or_lem (words_in z old T x) v i;
      else_kept = λ T y k n.
          given_at_lem T y k ∙ cases (taken T && same_place (z.point y) (z.point x))
          (λ e. let w = and-true (taken T) (same_place (z.point y) (z.point x)) e in
          let q = same_access y k.0 w.1 in
          absurd (n q (sym (alike T (subst (Kept z T) q k)) ∙ w.0)))
          (λ e. rw e);
    }

  module _ (placed : Placed z) (strata : stratified z.base.rules ≡ true) (count : ℕ) (ms : ℕ → ℕ)
      (w : Window z.base count ms) (r : Rule) (t : RuleTurn) (turn : TurnOf z count ms r t) (bits : List ℕ)
      (carried : (x : Access) → z.matters x ≡ true → stands_for z.base r x ≡ true →
      Carried z.base (ms 0) r x (broken_in t z.frame.grid bits (place_of z x))) where
    abbrev Does : List ℕ → Place → List ℕ → List ℕ → Type 0
    Does bits = Step t z.frame z.number bits z.right z.first

    abbrev patterns : ℕ → Access → Pattern
    patterns = pat z.rule

    abbrev RightWords : List ℕ → Type 0
    RightWords u = Valued z.base count ms patterns (Kept z) (words_in z u)

    -- the rules that precede it have given what they derive
    abbrev PrecedersDone : List ℕ → Type 0
    PrecedersDone u = (q : Rule) → Mem q z.base.rules → precedes q r ≡ true →
        GivenEverywhere z.base count ms patterns (Kept z) (words_in z u) q

    -- what is in force, from x, by the words of the right side's access
    force_words : (u : List ℕ) (x : Access) → z.matters x ≡ true → stands_for z.base r x ≡ true →
        force_in t z.frame z.number u (z.point x)
        ≡ pick r.right.negative (words_in z u turn.looked (right_of r x).access)
        (less (words_in z u turn.looked (right_of r x).access) (words_in z u 1 (right_of r x).access))
    force_words u x m s =
        let y = (right_of r x).access in
        let field : ℕ → Region → ℕ = λ from b. field_of z.frame.width u
        (from + index_in z.frame.grid b (place_of z y).pair (z.point y)) in
        let denials = field (size_of z.frame.grid whole_region) whole_region in
        ap (λ (q : Point). force_at t z.frame u
        (record { pair = get_or z.number (pair_in z.frame.grid q) 0; point = q })) (sym (turn.point x m
        s))
        ∙ ap₂ (λ (o : ℕ) (b : Region). pick t.denied (field o b) (less (field o b) denials))
        turn.offset turn.region
        ∙ ap (λ (n : Bool). pick n (words_in z u turn.looked y)
        (less (words_in z u turn.looked y) denials))
        turn.denied

    force_bit : (n : Bool) (a d i : ℕ) → bit i (pick n a (less a d)) ≡ bit i a && (n || not (bit i d))
    force_bit true a d i = cases (bit i a) (λ e. rw e) (λ e. rw e)
    force_bit false a d i = bit-less i a d

    -- what it derives of what is in force
    pub evaluated_at : (u : List ℕ) (x : Access) → z.matters x ≡ true → stands_for z.base r x ≡ true →
        (v : ℕ) → Derived t.operator (force_in t z.frame z.number u (z.point x)) t.active
        (broken_in t z.frame.grid bits (place_of z x)) v →
        Evaluated z.base count ms patterns (Kept z) (words_in z u) r x v
    evaluated_at u x m s v d =
        let b = broken_in t z.frame.grid bits (place_of z x) in
        let y = (right_of r x).access in
        let seen = force_in t z.frame z.number u (z.point x) in
        record {
          table = turn.looked;
          fits_right = turn.pattern x;
          kept = turn.side x m s;
          denials = 1;
          denies = λ n. (refl, kept_denials turn.looked y (turn.side x m s));
          seen = seen;
          seen_is = λ i. ap (bit i) (force_words u x m s)
              ∙ force_bit r.right.negative (words_in z u turn.looked y) (words_in z u 1 y) i;
          active = t.active;
          acts = turn.acts;
          inside = turn.inside;
          broken = b;
          carried = carried x m s;
          derived = subst (λ (o : Operator). Derived o seen t.active b v) turn.operator d;
        }

    module _ (x : Access) (m : z.matters x ≡ true) (s : stands_for z.base r x ≡ true) (old new : List ℕ)
        (step : Does bits (place_of z x) old new) where
      pub step-joined : Joined (Kept z) (words_in z old) (words_in z new)
          (λ T. derives_for z.base (patterns T x) r) x step.value
      step-joined = given-joined placed x m (table_takes t.sign t.takers) step.value old new
          (λ T. derives_for z.base (patterns T x) r) (turn.gives x m s) step.given

      pub step_evaluated : Evaluated z.base count ms patterns (Kept z) (words_in z old) r x step.value
      step_evaluated = evaluated_at old x m s step.value step.derived

      step_right : RightWords old → PrecedersDone old → (i : ℕ) → i < count →
          bit i step.value ≡ truth z.base (ms i) r x
      step_right a fed = turn_right z.base strata count ms w patterns (pat_on z.rule) (Kept z)
          (words_in z old) a r turn.mem x step.value step_evaluated s fed

      pub step_valued : RightWords old → PrecedersDone old → RightWords new
      step_valued a fed = rule_valued z.base count ms patterns (pat_on z.rule) (Kept z) (words_in z old)
          (words_in z new) r x step.value step-joined turn.mem
          (λ i h e. sym (step_right a fed i h) ∙ e) a

      pub step_given : RightWords old → PrecedersDone old →
          GivenAt z.base count ms patterns (Kept z) (words_in z new) r x
      step_given a fed = rule-given z.base count ms patterns (pat_on z.rule) (Kept z) (words_in z old)
          (words_in z new) r x step.value step-joined (step_right a fed)

      pub step_stays : (q : Rule) (y : Access) →
          GivenAt z.base count ms patterns (Kept z) (words_in z old) q y →
          GivenAt z.base count ms patterns (Kept z) (words_in z new) q y
      step_stays q y = given_stays z.base count ms patterns (pat_on z.rule) (Kept z) (words_in z old)
          (words_in z new) (λ T. derives_for z.base (patterns T x) r) x step.value step-joined q y

    -- ---- a row of steps

    -- the row keeps the words right, and what is given
    pub record Kept-on (old new : List ℕ) : Type 0 where
      pub valued : RightWords new
      pub stays : (q : Rule) (y : Access) → GivenAt z.base count ms patterns (Kept z) (words_in z old) q y →
          GivenAt z.base count ms patterns (Kept z) (words_in z new) q y

    done-stays : (u v : List ℕ) → Kept-on u v → PrecedersDone u → PrecedersDone v
    done-stays u v k fed q m f y = k.stays q y (fed q m f y)

    one_step : {u v : List ℕ} (p : Place) → StandsIn z r p →
        Does bits p u v → RightWords u → PrecedersDone u → Kept-on u v
    one_step {u} {v} p s step a fed =
        let x = s.access in
        let step' = subst (λ (q : Place). Does bits q u v) s.place
        step in
        record {
          valued = step_valued x s.matters s.stands u v step' a fed;
          stays = step_stays x s.matters s.stands u v step';
        }

    pub steps_keep : {u v : List ℕ} → Steps (Does bits) (StandsIn z r) u v →
        RightWords u → PrecedersDone u → Kept-on u v
    steps_keep none a fed = record { valued = a; stays = λ q y g. g }
    steps_keep {u} {v} (then {v = b} p s step rest) a fed =
        let k = one_step p s step a fed in
        let l = steps_keep rest k.valued (done-stays u b k fed) in
        record { valued = l.valued; stays = λ q y g. l.stays q y (k.stays q y g) }

    -- what the rule derives where it was visited is in the tables
    pub turn-given : {u v : List ℕ} (x : Access) → z.matters x ≡ true → stands_for z.base r x ≡ true →
        Visited (Does bits) (StandsIn z r) (place_of z x) u v →
        RightWords u → PrecedersDone u → GivenAt z.base count ms patterns (Kept z) (words_in z v) r x
    turn-given {u} {v} x m s seen a fed =
        let k = steps_keep seen.to a fed in
        let there = step_given x m s seen.before seen.after seen.step k.valued
        (done-stays u seen.before k fed) in
        let b = step_valued x m s seen.before seen.after seen.step k.valued
        (done-stays u seen.before k fed) in
        let stay : Kept-on seen.before seen.after = record {
          valued = b;
          stays = step_stays x m s seen.before seen.after seen.step;
        } in
        let l = steps_keep seen.from b
        (done-stays seen.before seen.after stay (done-stays u seen.before k fed)) in
        l.stays r x there

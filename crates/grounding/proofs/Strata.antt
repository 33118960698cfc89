-- What the rounds of the strata mean. The rules of a stratum have their turns until nothing is new that one
-- of them looks at. Then what each derives of the tables is in them (`NothingNew`), and so they have given
-- all that they derive (`rounds-done`); stratum by stratum all rules have (`strata-done`).
use mathlib.Core.Path.{◌≡◌, refl, sym, ap, ◌∙◌, subst}
use mathlib.Core.Logic.{◌⊎◌, inl, inr, ⊎_elim}
use mathlib.Core.Bool.{Bool, true, false, true≢false, false≢true}
use mathlib.Core.List.{List}
use Prim.Native.Nat.{ℕ, suc, ◌≤◌, ◌<◌}
use native.Mathlib.Omega.{arith}
use lib.Dec.{eqb, ltb}
use lib.ListN.{length, get_or}
use Rattle.foundation.specs.Tests.{cases, true-le, false-le, true_eq, false_eq, or_true_right}
use Rattle.foundation.specs.Lists.{Mem}
use Rattle.foundation.specs.BitMasks.{bit}
use Rattle.words.specs.Sums.{SumGrown}
use Rattle.tables.specs.declared.Place.{Place}
use Rattle.model.specs.declared.Rule.{Rule}
use Rattle.model.specs.declared.Access.{Access}
use Rattle.model.specs.Stratification.{precedes, stratum}
use Rattle.model.proofs.StratificationFacts.{stratum-few}
use Rattle.model.specs.Rules.{stands_for, right_of}
use Rattle.laws.specs.Dependence.{Depends, depends_fed}
use Rattle.derivation.proofs.Joined.{rule_valued}
use Rattle.derivation.proofs.Turn.{Evaluated, evaluated_stays}
use Rattle.derivation.proofs.Fixpoint.{NothingNew, none_new-stays, sound-stratum, none_new-done}
use Rattle.grounding.specs.RuleSteps.{Steps, then}
use Rattle.grounding.specs.Meaning.{StandsIn, Kept, place_of}
use Rattle.grounding.proofs.MeaningFacts.{pat_on, step-joined, step_evaluated}
use Rattle.grounding.specs.RuleTurns as turns
use Rattle.grounding.specs.RuleTurns.{RuleRan, Turns, Rounds, Strata}
use Rattle.grounding.proofs.Order.{WindowInputs, Staged, window_mapping, window_rule}
use Rattle.grounding.proofs.Order.{pattern_of, turn_of, W, RightIn, DoneIn}
use Rattle.grounding.proofs.Order.{Gained, done_gained, steps_along, Does, TurnRan, StepRow, row_of}
use Rattle.grounding.proofs.Order.{visited_of}
use Rattle.grounding.proofs.Order.{stands-there, there, row-joined, steps_gained, steps_grow}
use Rattle.grounding.proofs.Order.{steps_untouched, turn_gained, turn_untouched, idle_done, DoneBut}
use Rattle.grounding.proofs.Order.{none_left, turns-done}

module _ (o : WindowInputs) (staged : Staged o) where
  abbrev rank : Rule → ℕ
  rank = stratum o.base.rules

  -- the strata below k have given what they derive
  abbrev pub Below : ℕ → List ℕ → Type 0
  Below k u = (q : Rule) → Mem q o.base.rules → rank q < k → DoneIn o u q

  abbrev pub NothingNewIn : List ℕ → Rule → Type 0
  NothingNewIn u = NothingNew o.base o.count o.ms (pattern_of o) (Kept (window_mapping o)) (W o u)

  below_gained : (k : ℕ) (u v : List ℕ) → Gained o u v → Below k u → Below k v
  below_gained k u v g b q m h = done_gained o u v g q (b q m h)

  -- ---- the turn of a rule of stratum k

  module _ (r : ℕ) (n : bit r o.needed ≡ true) where
    evaluated_of : (x : Access) → o.matters x ≡ true → stands_for o.base (window_rule o r) x ≡ true →
        (a b : List ℕ) (d : Does o staged r n (place_of (window_mapping o) x) a b) →
        Evaluated o.base o.count o.ms (pattern_of o) (Kept (window_mapping o)) (W o a) (window_rule o r)
        x
        d.value
    evaluated_of = step_evaluated (window_mapping o) staged.placed staged.strata o.count o.ms
        staged.window (window_rule o r) (turn_of o r) (staged.turn r n) o.bits (staged.carried r n)

    module _ (k : ℕ) (h : rank (window_rule o r) ≡ k) where
      row-sound : (a b : List ℕ) (q : Place) → StandsIn (window_mapping o) (window_rule o r) q →
          Does o staged r n q a b → RightIn o a × Below k a → RightIn o b × Below k b
      row-sound a b q s d g =
          let m = (staged.turn r n).mem in
          let e = there o staged r n a b q s d in
          let v = evaluated_of s.access s.matters s.stands a b e in
          let one : StepRow o staged r n a b = then q s d Steps.none in (
            rule_valued o.base o.count o.ms (pattern_of o) (pat_on (window_rule o))
                (Kept (window_mapping o))
                (W o a) (W o b) (window_rule o r) s.access e.value (row-joined o staged r n a b q s d) m
                (sound-stratum o.base staged.strata o.count o.ms staged.window (pattern_of o)
                (pat_on (window_rule o)) (Kept (window_mapping o)) (W o a) g.0 k g.1 (window_rule o r) m h
                s.access
                e.value v s.stands) g.0,
            below_gained k a b (steps_gained o staged r n one) g.1,
          )

      -- keeps the words right
      turn-sound : {u v : List ℕ} → RuleRan o.prepared o.active o.bits r u v → RightIn o u →
          Below k u → RightIn o v
      turn-sound (inl e) a b = subst (RightIn o) (sym e.1) a
      turn-sound (inr ran) a b =
          (steps_along (λ v. RightIn o v × Below k v) row-sound (row_of o staged r n ran) (a, b)).0

    -- ---- a rule derives nothing new behind its turn, if it does not precede itself or nothing was new

    module _ (u v : List ℕ) (still : (precedes (window_rule o r) (window_rule o r) ≡ false) ⊎ (v ≡ u)) where
      -- what it looked at did not change behind it
      same_behind : (b : List ℕ) → StepRow o staged r n u b → StepRow o staged r n b v →
          (x : Access) (R : ℕ) →
          Depends (window_rule o r) x (pattern_of o R (right_of (window_rule o r) x).access) →
          Kept (window_mapping o) R (right_of (window_rule o r) x).access →
          W o v R (right_of (window_rule o r) x).access ≡ W o b R (right_of (window_rule o r) x).access
      same_behind b to from x R e k = ⊎_elim
          (λ f. steps_untouched o staged r n from R (right_of (window_rule o r) x).access k
          (λ d. false≢true (sym f ∙ depends_fed (window_rule o r) x (pattern_of o R (right_of (window_rule o r) x
          ).access)
          o.base e (window_rule o r) d)))
          (λ e.
          let y = (right_of (window_rule o r) x).access in
          let q : W o v R y ≡ W o u R y = ap (λ (w : List ℕ). W o w R y) e in
          omega (arith, steps_grow o staged r n to R y k, steps_grow o staged r n from R y k))
          still

      ran_none_new : TurnRan o staged r n u v → NothingNewIn v (window_rule o r)
      ran_none_new ran T x k d =
          let s = stands-there o staged r n T x d in
          let seen = visited_of o staged r n ran x k.0 s in
          let here : StandsIn (window_mapping o) (window_rule o r) (place_of (window_mapping o) x) =
          record { access = x; matters = k.0; stands = s; place = refl } in
          let e = seen.step in
          let j = step-joined (window_mapping o) staged.placed staged.strata o.count o.ms
          staged.window (window_rule o r) (turn_of o r) (staged.turn r n) o.bits (staged.carried r n) x
          k.0 s seen.before seen.after e in (
            e.value,
            evaluated_stays o.base o.count o.ms (pattern_of o) (Kept (window_mapping o)) (W o seen.before)
                (W o v) (window_rule o r) x e.value
                (same_behind seen.before seen.to (then (place_of (window_mapping o) x) here e
                seen.from) x)
                (evaluated_of x k.0 s seen.before seen.after e),
            λ i l b. steps_gained o staged r n seen.from T x k i
                (j.there T k d i ∙ or_true_right (bit i (W o seen.before T x)) (bit i e.value) b),
          )

      turn_none_new : RuleRan o.prepared o.active o.bits r u v →
          DoneIn o v (window_rule o r) ⊎ NothingNewIn v (window_rule o r)
      turn_none_new (inl e) = inl (idle_done o staged r n e.0 v)
      turn_none_new (inr ran) = inr (ran_none_new ran)

    -- nor does another rule that it does not precede, if it did not before
    none_new_kept : {u v : List ℕ} → RuleRan o.prepared o.active o.bits r u v → (q : Rule) →
        precedes (window_rule o r) q ≡ false → NothingNewIn u q → NothingNewIn v q
    none_new_kept {u} {v} ran q f none-new T x k d =
        none_new-stays o.base o.count o.ms (pattern_of o) (Kept (window_mapping o)) (W o u) (W o v) q T
        x
        (λ R e c. turn_untouched o staged r n ran R (right_of q x).access c
        (λ d. false≢true (sym f ∙ depends_fed q x (pattern_of o R (right_of q x).access) o.base e
        (window_rule o r) d)))
        (turn_gained o staged r n ran T x k) (none-new T x k d)

  -- ---- the rounds of stratum k

  module _ (rules k : ℕ)
      (within : (q : ℕ) → bit q rules ≡ true → (bit q o.needed ≡ true) × (rank (window_rule o q) ≡ k)) where
    -- a rule has given what it derives, or is of the set and still to come, or derives nothing new
    abbrev Settling : ℕ → List ℕ → ℕ → Type 0
    Settling dirty u q = DoneIn o u (window_rule o q)
        ⊎ ((bit q rules ≡ true) × ((bit q dirty ≡ true) ⊎ NothingNewIn u (window_rule o q)))

    abbrev pub AllSettling : ℕ → List ℕ → Type 0
    AllSettling dirty u = (q : ℕ) → bit q o.needed ≡ true → rank (window_rule o q) ≡ k → Settling dirty u q

    module _ (r : ℕ) (fresh : Bool) (in-set : bit r rules ≡ true) (u v : List ℕ) (dirty dirty' : ℕ)
        (ran : RuleRan o.prepared o.active o.bits r u v) (grown : SumGrown fresh u v)
        (kept : (q : ℕ) → bit q dirty ≡ true → (q ≡ r → ⊥) → bit q dirty' ≡ true)
        (again : fresh ≡ true → (q : ℕ) → q < 64 → bit q rules ≡ true →
        bit r (get_or o.prepared.feed q 0) ≡ true → bit q dirty' ≡ true) where
      abbrev n : bit r o.needed ≡ true
      n = (within r in-set).0

      -- a rule is still to come, or the rule does not precede it or nothing was new
      preceded_or_not : {X : Type 0} (q : ℕ) → bit q rules ≡ true → (bit q dirty' ≡ true → X) →
          ((precedes (window_rule o r) (window_rule o q) ≡ false) ⊎ (v ≡ u) → X) → X
      preceded_or_not q e f g = cases (precedes (window_rule o r) (window_rule o q))
          (λ c. cases fresh
          (λ t. f (again t q (staged.low q (within q e).0) e (staged.feed r q n (within q e).0 c)))
          (λ t. g (inr (grown.same t))))
          (λ c. g (inl c))

      turn_settles : (q : ℕ) → Settling dirty u q → Settling dirty' v q
      turn_settles q (inl d) = inl (done_gained o u v (turn_gained o staged r n ran) (window_rule o q) d)
      turn_settles q (inr (e, inr none-new)) = preceded_or_not q e
          (λ d. inr (e, inl d))
          (λ s. inr (
            e,
            inr (⊎_elim
                (λ f. none_new_kept r n ran (window_rule o q) f none-new)
                (λ f. subst (λ (w : List ℕ). NothingNewIn w (window_rule o q)) (sym f) none-new) s),
          ))
      turn_settles q (inr (e, inl d)) = cases (eqb q r)
          (λ s. let t = true_eq q r s in
          preceded_or_not q e
          (λ d. inr (e, inl d))
          (λ still. let c = turn_none_new r n u v
          (subst (λ (j : ℕ). (precedes (window_rule o r) (window_rule o j) ≡ false) ⊎ (v ≡ u)) t still) ran in
          subst (Settling dirty' v) (sym t) (⊎_elim (λ d. inl d) (λ f. inr (in-set, inr f)) c)))
          (λ s. inr (e, inl (kept q d (false_eq q r s))))

    pub record StratumDone (u v : List ℕ) : Type 0 where
      pub right : RightIn o v
      pub done : Below (suc k) v
      pub gained : Gained o u v

    pub rounds-done : {dirty : ℕ} {u v : List ℕ} →
        Rounds o.prepared o.active o.bits rules dirty u v →
        RightIn o u → Below k u → AllSettling dirty u → StratumDone u v
    rounds-done {dirty} {u} (turns.Rounds.none clean) a below settled = record {
      right = a;
      gained = λ T y t i e. e;
      done = λ q m h. cases (ltb (rank q) k)
          (λ c. below q m (true-le (suc (rank q)) k c))
          (λ c. let l = false-le (suc (rank q)) k c in
          let e : rank q ≡ k = omega arith in
          none_new-done o.base staged.strata o.count o.ms staged.window (pattern_of o)
          (pat_on (window_rule o)) (Kept (window_mapping o)) (W o u) a k below (λ q m e. end q m e) q m e);
    }
      where
        end : (q : Rule) → Mem q o.base.rules → rank q ≡ k → DoneIn o u q ⊎ NothingNewIn u q
        end q m e =
            let c = staged.all q m in
            let j = c.0 in
            subst (λ (q : Rule). DoneIn o u q ⊎ NothingNewIn u q) (sym c.2) (⊎_elim
            (λ d. inl d)
            (λ s. ⊎_elim (λ b. absurd (clean j (staged.low j c.1) b)) (λ f. inr f) s.1)
            (settled j c.1 (ap rank (sym c.2) ∙ e)))
    rounds-done {u = u}
        (turns.Rounds.then {dirty} {dirty'} {v = b} r fresh there in-set ran grown kept again more) a below
        settled =
        let n = (within r in-set).0 in
        let gain = turn_gained o staged r n ran in
        let c = rounds-done more (turn-sound r n k (within r in-set).1 ran a below)
        (below_gained k u b gain below)
        (λ q m e. turn_settles r fresh in-set u b dirty dirty' ran grown kept again q (settled q m e)) in
        record {
          right = c.right;
          done = c.done;
          gained = λ T y t i e. c.gained T y t i (gain T y t i e);
        }

  -- ---- stratum by stratum

  module _ (strata : List ℕ)
      (ranks : (r : ℕ) → bit r o.needed ≡ true → get_or strata r 0 ≡ rank (window_rule o r))
      (few : length o.base.rules ≤ 64) where
    pub record AllDone (u v : List ℕ) : Type 0 where
      pub right : RightIn o v
      pub done : (q : Rule) → Mem q o.base.rules → DoneIn o v q
      pub gained : Gained o u v

    strata-from : {todo k : ℕ} {u v : List ℕ} →
        Strata o.prepared o.active o.bits strata todo k u v →
        ((q : ℕ) → bit q todo ≡ true → bit q o.needed ≡ true) → RightIn o u → Below k u →
        DoneBut o staged todo u → AllDone u v
    strata-from {todo} {k} {u} (turns.Strata.none end) within a below done = record {
      right = a;
      gained = λ T y t i e. e;
      done = λ q m. ⊎_elim
          (λ f. none_left o staged todo u f done q m)
          (λ l. below q m (omega (arith, stratum-few o.base.rules staged.strata q m)))
          end;
    }
    strata-from {todo} {k} {u}
        (turns.Strata.then {todo' = todo'} {now = now} {v = b} picks picked kept fewer rounds more) within a
        below done =
        let inside : (q : ℕ) → bit q now ≡ true → (bit q o.needed ≡ true) × (rank (window_rule o q) ≡ k) =
        λ q e. let m = within q (picked q e).0 in (m, sym (ranks q m) ∙ (picked q e).1) in
        let start : AllSettling now k inside now u = λ q m e. cases (bit q now)
        (λ c. inr (c, inl c))
        (λ c. inl (done q m (cases (bit q todo)
        (λ d. absurd (true≢false (sym (picks q (staged.low q m) d (ranks q m ∙ e)) ∙ c))) (λ d. d)))) in
        let w = rounds-done now k inside rounds a below start in
        let left : DoneBut o staged todo' b = λ q m e. cases (bit q todo)
        (λ c. cases (bit q now)
        (λ d. w.done (window_rule o q) (staged.turn q m).mem (omega (arith, (inside q d).1)))
        (λ d. absurd (true≢false (sym (kept q c (λ f. true≢false (sym f ∙ d))) ∙ e))))
        (λ c. done_gained o u b w.gained (window_rule o q) (done q m c)) in
        let s = strata-from more (λ q e. within q (fewer q e)) w.right w.done left in
        record {
          right = s.right;
          done = s.done;
          gained = λ T y t i e. s.gained T y t i (w.gained T y t i e);
        }

    -- once the rules that are left have had their rounds, all rules have given what they derive
    pub strata-done : {rest : ℕ} {u v : List ℕ} →
        Strata o.prepared o.active o.bits strata rest 0 u v →
        ((q : ℕ) → bit q rest ≡ true → bit q o.needed ≡ true) → RightIn o u → DoneBut o staged rest u →
        AllDone u v
    strata-done s within a done = strata-from s within a (λ q m h. absurd (omega arith)) done

    -- so they have after all turns: first those that are not on circles or behind them, then the others
    pub rules_done : {rest : ℕ} {u v w : List ℕ} →
        Turns o.prepared o.active o.bits o.needed u rest v →
        Strata o.prepared o.active o.bits strata rest 0 v w → RightIn o u → AllDone u w
    rules_done {u = u} t s a =
        let f = turns-done o staged t (λ q e. e) a (λ r m e. absurd (true≢false (sym m ∙ e))) in
        let g = strata-done s f.fewer f.right f.done in
        record {
          right = g.right;
          done = g.done;
          gained = λ T y k i e. g.gained T y k i (f.gained T y k i e);
        }

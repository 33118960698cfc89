-- The rules of one stratum, which may feed each other. With the strata below given, a word that is derived of
-- tables which say nothing wrong says nothing wrong (`sound-stratum`). And once each of the stratum's rules
-- has given what it derives, or derives nothing that is not in the tables, all have given what they derive
-- (`none-new-done`): by induction over the instants of the window and the rounds of the stratum.
use mathlib.Core.Path.{◌≡◌, refl, sym, ◌∙◌, subst}
use mathlib.Core.Logic.{◌⊎◌, ⊎_elim}
use Prim.Native.Nat.{ℕ, zero, suc, ◌*◌, ◌-◌, ◌≤◌, ◌<◌}
use native.Mathlib.Omega.{arith}
use mathlib.Core.Bool.{Bool, true, not, ◌&&◌, ◌||◌}
use lib.Dec.{eqb, ltb}
use lib.ListN.{length}
use Rattle.foundation.specs.Tests.{cases, le-false, true-le, false-le, eq_true, and-true, and_intro, or_true}
use Rattle.foundation.specs.Tests.{and_mono, or_mono}
use Rattle.foundation.specs.Lists.{Mem}
use Rattle.foundation.specs.Closure.{iter}
use Rattle.foundation.specs.Intervals.{in_interval, in_interval-true, always}
use Rattle.foundation.specs.BitMasks.{bit}
use Rattle.model.specs.declared.Rule.{Rule}
use Rattle.model.specs.declared.Access.{Access}
use Rattle.model.specs.declared.Pattern.{Pattern}
use Rattle.model.specs.Base.{Base}
use Rattle.model.specs.Stratification.{negating, stratified, stratum, links}
use Rattle.model.proofs.FeedingLaws.{links-precedes, links-heavy}
use Rattle.model.proofs.FeedingLaws.{negates-heavy}
use Rattle.model.specs.Stratification.{lasting}
use Rattle.model.proofs.StratificationFacts.{feeder_below, stratum-few}
use Rattle.model.specs.Rules.{Fact, fact, fits, stands_for, derives_for, right_of, operate, holds_by, right_by}
use Rattle.model.specs.Rules.{asked, derives, enough, derived_below, holds}
use Rattle.model.proofs.SideFacts.{right_sign}
use Rattle.model.proofs.RightFacts.{right_is}
use Rattle.model.proofs.HoldsFacts.{below_steady, below-stratum, rounds, rounds-below}
use Rattle.model.specs.Rules.{holding}
use Rattle.model.proofs.HoldsLaws.{fit_precedes, strictly_fed, right_settled}
use Rattle.model.specs.Rules.{StrictlyFed}
use Rattle.model.proofs.HoldsLaws.{strictly_linked, strictly_settled, settled_at}
use Rattle.laws.specs.Dependence.{Depends}
use Rattle.questions.proofs.OperatorSteps.{sense, operate-back, operate-now, sense_more}
use Rattle.questions.specs.Table.{truth}
use Rattle.questions.proofs.OneInstant.{instant-before}
use Rattle.derivation.proofs.Window.{Window, made}
use Rattle.derivation.proofs.Lasting.{prior, made_by}
use Rattle.derivation.specs.Words.{AccessWords}
use Rattle.derivation.proofs.Exact.{Valued, GivenEverywhere, held_cases}
use Rattle.derivation.proofs.Turn.{Evaluated, evaluated_stays, right_seen, right_sound}
use Rattle.derivation.proofs.Turn.{right_exact, evaluated_made, right_made}

-- of a right side that is as the operator wants no less often no less is made
made_more : (r : Rule) (ms : ℕ → ℕ) (right more : ℕ → Bool) (before : Bool) (k : ℕ) →
    ((i : ℕ) → i < k → sense r.operator (right i) ≡ true → sense r.operator (more i) ≡ true) →
    (i : ℕ) → i < k → made r ms right before i ≡ true → made r ms more before i ≡ true
made_more r ms right more before k f zero h e =
    and_mono (in_interval r.interval (ms 0)
    && (not (lasting r.operator) || eqb (ms 0) r.interval.start || before))
    (sense r.operator (right 0)) (sense r.operator (more 0)) (f 0 h) e
made_more r ms right more before k f (suc i) h e =
    let t = ms (suc i) in
    let o = not (lasting r.operator) || eqb t r.interval.start in
    let a = made r ms right before i in
    let b = made r ms more before i in
    let w = and-true (in_interval r.interval t && (o || a)) (sense r.operator (right (suc i))) e in
    and_intro (in_interval r.interval t && (o || b)) (sense r.operator (more (suc i)))
    (and_mono (in_interval r.interval t) (o || a) (o || b)
    (or_mono o a b (made_more r ms right more before k f i (omega arith))) w.0)
    (f (suc i) h w.1)

module _ (base : Base) (count : ℕ) (ms : ℕ → ℕ) (pat : ℕ → Access → Pattern)
    (Kept : ℕ → Access → Type 0) where
  -- what the rule derives for x of the tables is in table T already
  abbrev pub NothingNewAt : AccessWords → Rule → ℕ → Access → Type 0
  NothingNewAt W r T x = (v : ℕ) × Evaluated base count ms pat Kept W r x v
      × ((i : ℕ) → i < count → bit i v ≡ true → bit i (W T x) ≡ true)

  -- and so for all words that the rule derives for
  abbrev pub NothingNew : AccessWords → Rule → Type 0
  NothingNew W r = (T : ℕ) (x : Access) → Kept T x → derives_for base (pat T x) r ≡ true → NothingNewAt W r T x

  -- that stays so while the words that the rule looks at do not change, and no bit is lost
  pub none_new-stays : (W W' : AccessWords) (r : Rule) (T : ℕ) (x : Access) →
      ((R : ℕ) → Depends r x (pat R (right_of r x).access) → Kept R (right_of r x).access →
      W' R (right_of r x).access ≡ W R (right_of r x).access) →
      ((i : ℕ) → bit i (W T x) ≡ true → bit i (W' T x) ≡ true) →
      NothingNewAt W r T x → NothingNewAt W' r T x
  none_new-stays W W' r T x same more z = (
    z.0,
    evaluated_stays base count ms pat Kept W W' r x z.0 same z.1,
    λ i h b. more i (z.2 i h b),
  )

module _ (base : Base) (s : stratified base.rules ≡ true) (count : ℕ) (ms : ℕ → ℕ)
    (w : Window base count ms) (pat : ℕ → Access → Pattern)
    (on : (T : ℕ) (x : Access) → (pat T x).access ≡ x) (Kept : ℕ → Access → Type 0)
    (W : AccessWords) (a : Valued base count ms pat Kept W) (k : ℕ)
    (below : (q : Rule) → Mem q base.rules → stratum base.rules q < k →
    GivenEverywhere base count ms pat Kept W q) where
  module _ (r : Rule) (m : Mem r base.rules) (h : stratum base.rules r ≡ k) (x : Access) (v : ℕ)
      (e : Evaluated base count ms pat Kept W r x v) where
    -- what is seen of the right side, and what is to be seen
    abbrev read : ℕ → Bool
    read i = bit i e.seen

    abbrev right : ℕ → Bool
    right i = holding base (ms i) (right_of r x)

    -- denials of the right side's access are derived in the strata below alone
    linked_done : (q : Rule) → Mem q base.rules → links q r ≡ true → GivenEverywhere base count ms pat Kept
        W q
    linked_done q n l = below q n (omega (
      arith,
      feeder_below base.rules s q r n m (links-precedes q r l) (links-heavy q r l),
    ))

    -- and what a negating operator looks at
    negating_exact : negating r.operator ≡ true → (i : ℕ) → i < count → read i ≡ right i
    negating_exact g = right_exact base s count ms w pat on Kept W a r m x v e linked_done
        (λ q n d. below q n (omega (
          arith,
          feeder_below base.rules s q r n m (fit_precedes base q r x d)
              (negates-heavy q r g),
        )))

    pub sound-stratum : stands_for base r x ≡ true → (i : ℕ) → i < count → bit i v ≡ true →
        truth base (ms i) r x ≡ true
    sound-stratum n i l b =
        sym (right_made base s count ms w r m x n right (λ j g. refl) i l)
        ∙ made_more r ms read right (truth base (ms 0 - 1) r x) count
        (λ j g. sense_more r.operator (read j) (right j)
        (right_sound base s count ms w pat on Kept W a r m x v e linked_done j g)
        (λ z. negating_exact z j g)) i l
        (sym (evaluated_made base s count ms w pat on Kept W a r m x v e i l) ∙ b)

  -- ---- the rounds of the stratum

  abbrev lower : Fact → Bool
  lower = derived_below always base k

  abbrev stage : ℕ → Fact → Bool
  stage n = rounds base k n

  -- each word that is derived has what its rule derives at instant i
  abbrev MadeAt : ℕ → Type 0
  MadeAt i = (r : Rule) → Mem r base.rules → stratum base.rules r ≡ k → (x : Access) (v : ℕ) →
      Evaluated base count ms pat Kept W r x v → truth base (ms i) r x ≡ true → bit i v ≡ true

  module _ (few : k ≤ 2 * length base.rules)
      (none-new : (r : Rule) → Mem r base.rules → stratum base.rules r ≡ k →
      GivenEverywhere base count ms pat Kept W r ⊎ NothingNew base count ms pat Kept W r) where
    -- what a round derives is derived at last, and by a rule of this stratum or one below
    round-true : (n : ℕ) → n ≤ enough always base → (r : Rule) → Mem r base.rules → (x : Access) (u : ℕ) →
        stage n (fact r x u) ≡ true → (stratum base.rules r < suc k) × (truth base u r x ≡ true)
    round-true n l r m x u e =
        let b = rounds-below base k n l (fact r x u) e in
        let h = below-stratum base (suc k) (fact r x u) b in
        (h, settled_at base (suc k) (fact r x u) m h (omega arith) ∙ b)

    -- instant i, the instants before being as they should
    module _ (i : ℕ) (inside : i < count) (earlier : (j : ℕ) → suc j ≡ i → MadeAt j) where
      -- one round more, the words having what the first n derive
      module _ (n : ℕ) (l : suc n ≤ enough always base)
          (found : (r : Rule) → Mem r base.rules → stratum base.rules r ≡ k → (x : Access) (v : ℕ) →
          Evaluated base count ms pat Kept W r x v → stage n (fact r x (ms i)) ≡ true → bit i v ≡ true)
          (r : Rule) (m : Mem r base.rules) (h : stratum base.rules r ≡ k) (x : Access) (v : ℕ)
          (e : Evaluated base count ms pat Kept W r x v) where
        abbrev y : Access
        y = (right_of r x).access

        -- what a rule derives by then is in the table that the right side looks at
        given : (q : Rule) → Mem q base.rules → derives_for base (pat e.table y) q ≡ true →
            stage n (fact q y (ms i)) ≡ true → bit i (W e.table y) ≡ true
        given q p d b =
            let g = round-true n (omega arith) q p y (ms i) b in
            let done : GivenEverywhere base count ms pat Kept W q → bit i (W e.table y) ≡ true =
            λ f. f y e.table e.kept d i inside g.1 in
            cases (ltb (stratum base.rules q) k)
            (λ z. done (below q p (true-le (suc (stratum base.rules q)) k z)))
            (λ z. let o = false-le (suc (stratum base.rules q)) k z in
            let c : stratum base.rules q ≡ k = omega (arith, g.0) in
            ⊎_elim done
            (λ f. let u = f e.table y e.kept d in u.2 i inside (found q p c y u.0 u.1 b))
            (none-new q p c))

        -- the right side, as the round looks at it, up to the stratum and below it
        abbrev same : ℕ → Bool
        same u = right_by always base lower (stage n) (right_of r x) u

        abbrev under : ℕ → Bool
        under u = right_by always base lower lower (right_of r x) u

        abbrev allowed : ℕ → Bool
        allowed u = operate always r.operator same under r.interval.start u

        -- what those derive whose step counts is settled below the stratum
        settled : (p : Pattern) → StrictlyFed base r p →
            holds_by always base lower (ms i) p ≡ holds always base (ms i) p
        settled p f = subst (λ (j : ℕ).
            holds_by always base (derived_below always base j) (ms i) p ≡ holds always base (ms i) p)
            h (strictly_settled base s r m (ms i) p f)

        same_in : same (ms i) ≡ true → bit i e.seen ≡ true
        same_in b =
            let c = (right_is (holds_by always base (stage n) (ms i)) (holds_by always base lower (ms i))
            (right_of r x)).0 b in
            let held : bit i (W e.table y) ≡ true = held_cases base (stage n) (ms i) (right_of r x) c.0
            (λ c p f t. a.lines c p e.table y e.kept
            (subst (λ (z : Pattern). fits z c.head ≡ true) (sym e.fits_right) f) i inside t)
            (λ q p d t. given q p
            (subst (λ (z : Pattern). derives_for base z q ≡ true) (sym e.fits_right) d) t) in
            right_seen base s count ms w pat on Kept W a r m x v e (linked_done r m h x v e) i inside held
            (λ d. sym (settled (asked y true) (strictly_linked base r x d)) ∙ c.1 (right_sign r x ∙ d))

        under_is : negating r.operator ≡ true → under (ms i) ≡ bit i e.seen
        under_is g =
            let L = holds_by always base lower (ms i) in
            right_settled base r x L L (holds always base (ms i))
            (λ p f. settled p (strictly_fed base r g p f)) settled
            ∙ sym (negating_exact r m h x v e g i inside)

        -- what is seen of the right side, and what the rule made of it at the instant before
        abbrev seen : ℕ → Bool
        seen = read r m h x v e

        abbrev was : ℕ → Bool
        was = prior r ms seen (truth base (ms 0 - 1) r x)

        -- what it derived then it has made
        was-made : (j : ℕ) → j ≡ i → truth base (ms j - 1) r x ≡ true → was j ≡ true
        was-made zero q b = b
        was-made (suc j) q b =
            let g : suc j < count = omega arith in
            let z : ms j ≤ ms (suc j) - 1 = omega (arith, w.rising j g) in
            sym (evaluated_made base s count ms w pat on Kept W a r m x v e j (omega arith))
            ∙ earlier j q r m h x v e
            (sym (below_steady base (suc (2 * length base.rules)) r m x (ms j) (ms (suc j) - 1) z
            (w.between j g)) ∙ b)

        -- where the operator looks back, the rule derived at the instant before
        was_open : in_interval r.interval (ms i) ≡ true → allowed (ms i) ≡ true →
            not (lasting r.operator) || eqb (ms i) r.interval.start || was i ≡ true
        unfolding iter
        was_open t b = cases (eqb (ms i) r.interval.start)
            (λ c. rw (c, or_true (not (lasting r.operator))))
            (λ c. cases (lasting r.operator)
            (λ f. let z = instant-before r (ms i) t c in
            let u = ms i - 1 in
            let j = stratum base.rules r in
            let o = and_intro (in_interval r.interval u) (allowed u) z.2
            (operate-back r.operator same under r.interval.start u (ms i) f z.0 b) in
            rw (f, c) (was-made i refl (round-true (suc n) l r m x u
            (rw (le-false (suc j) k (omega arith), eq_true j k h) o)).1))
            (λ f. rw f))

        derived_in : derives always base lower (stage n) (fact r x (ms i)) ≡ true → bit i v ≡ true
        derived_in b =
            let o = r.operator in
            let t = in_interval r.interval (ms i) in
            let c = and-true t (allowed (ms i)) b in
            let open-then = not (lasting o) || eqb (ms i) r.interval.start || was i in
            evaluated_made base s count ms w pat on Kept W a r m x v e i inside
            ∙ made_by r ms seen (truth base (ms 0 - 1) r x) i
            ∙ and_intro (t && open-then) (sense o (seen i))
            (and_intro t open-then c.0 (was_open c.0 c.1))
            (operate-now o same under (seen i) r.interval.start (ms i)
            (in_interval-true r.interval (ms i) c.0).0 same_in under_is c.1)

      -- by induction over the rounds: the words have what they derive
      found_in_lem : (n : ℕ) → n ≤ enough always base → (r : Rule) → Mem r base.rules →
          stratum base.rules r ≡ k → (x : Access) (v : ℕ) →
          Evaluated base count ms pat Kept W r x v → stage n (fact r x (ms i)) ≡ true → bit i v ≡ true
      unfolding iter
      found_in_lem zero l r m h x v e b = absurd (omega (arith, below-stratum base k (fact r x (ms i)) b))
      found_in_lem (suc n) l r m h x v e b =
          let j = stratum base.rules r in
          derived_in n l (found_in_lem n (omega arith)) r m h x v e
          (rw (le-false (suc j) k (omega arith), eq_true j k h) at b)

      made-now : MadeAt i
      unfolding derived_below
      made-now r m h x v e b = found_in_lem (enough always base) (omega arith) r m h x v e
          (sym (settled_at base (suc k) (fact r x (ms i)) m (omega arith) (omega arith)) ∙ b)

    made_at : (i : ℕ) → i < count → MadeAt i
    made_at zero g = made-now 0 g (λ j q. absurd (omega arith))
    made_at (suc i) g = made-now (suc i) g (λ j q. let p : i ≡ j = omega arith in
        subst MadeAt p (made_at i (omega arith)))

    none_new-given : (r : Rule) → Mem r base.rules → stratum base.rules r ≡ k →
        NothingNew base count ms pat Kept W r → GivenEverywhere base count ms pat Kept W r
    none_new-given r m h f x T t d i g b =
        let u = f T x t d in u.2 i g (made_at i g r m h x u.0 u.1 b)

  -- every rule of the stratum has given what it derives
  pub none_new-done : ((r : Rule) → Mem r base.rules → stratum base.rules r ≡ k →
      GivenEverywhere base count ms pat Kept W r ⊎ NothingNew base count ms pat Kept W r) →
      (r : Rule) → Mem r base.rules → stratum base.rules r ≡ k → GivenEverywhere base count ms pat Kept
      W r
  none_new-done none-new r m h = ⊎_elim (λ d. d)
      (none_new-given (omega (arith, stratum-few base.rules s r m)) none-new r m h) (none-new r m h)

-- What holds is what is held in the papers' words: `held`, `right-held` for what counts as held on a right
-- side, and `may-held` for the question MAY. Rank by rank: `held_below`.
use Rattle.std.specs.Prelude.{◌≡◌, refl, ◌↔◌, ◌⊎◌, Bool, true, false, ◌&&◌, leb, ltb, eqb, length}
use Rattle.std.proofs.Common.{sym, ap, ◌∙◌, inl, inr, ⊎_elim, arith, true≢false}
use Prim.Native.Nat.{ℕ, zero, suc, ◌*◌, ◌≤◌}
use Rattle.std.proofs.Math.Bool.{not}
use Rattle.std.proofs.lemmas.Bool.{false≢true}
use Rattle.foundation.specs.Tests.{cases, le-true, true-le, false-le, true_eq, not-true}
use Rattle.foundation.specs.Tests.{and-true, and_intro, or_intro_left, or_true_right, or_cases}
use Rattle.foundation.specs.Lists.{anyb, Mem, any_mem, mem_any}
use Rattle.foundation.specs.Closure.{iter}
use Rattle.foundation.specs.Intervals.{in_interval, always, always_all, all_always}
use Rattle.model.specs.declared.Rule.{Rule}
use Rattle.model.specs.declared.Operator.{Operator}
use Rattle.model.specs.declared.Operator.TheVariants.{Whenever, AsLongAs, WheneverNot, Unless}
use Rattle.model.specs.declared.Access.{Access}
use Rattle.model.specs.Base.{Base}
use Rattle.model.specs.Support.{live}
use Rattle.model.proofs.SupportFacts.{mem-live, live-mem}
use Rattle.model.specs.Stratification.{stratified, stratum}
use Rattle.model.proofs.StratificationFacts.{stratum-few}
use Rattle.model.specs.Rules.{Pattern, Fact, fact, fits, derives_for, right_of, right_holds, operate}
use Rattle.model.specs.Rules.{holds_by, derives, enough, derived_below, holds, asked, may_with, may}
use Rattle.model.proofs.RightFacts.{right_is}
use Rattle.model.proofs.HoldsSteady.{holds_from, below}
use Rattle.model.proofs.HoldsFacts.{rounds, rounds-below, below-stratum, closed}
use Rattle.model.proofs.HoldsLaws.{settled_at, at_stratum}
use Rattle.model.specs.Held.{ByAuthorization, Undenied, Applies, HeldUpTo, HeldBelow, Held}
use Rattle.model.specs.Held.{lower, whenever, as_long_as, whenever_not, unless}

module _ (base : Base) where
  -- the definitions for this base, in short
  abbrev Below : ℕ → ℕ → Pattern → Type 0
  Below = HeldBelow base

  abbrev UpTo : ℕ → ℕ → Pattern → Type 0
  UpTo k = HeldUpTo base k (Below k)

  -- ---- by an authorization or by a rule

  abbrev direct : ℕ → Pattern → Bool
  direct t p = anyb (fits p) (live t base.authorizations)

  abbrev derives_it : (Fact → Bool) → ℕ → Pattern → Rule → Bool
  derives_it S t p r = derives_for base p r && S (fact r p.access t)

  by_given : (S : Fact → Bool) (t : ℕ) (p : Pattern) → ByAuthorization base t p → holds_from base S t p ≡ true
  by_given S t p g =
      or_intro_left (direct t p) (anyb (derives_it S t p) base.rules)
      (mem_any (fits p) (live t base.authorizations) g.authorization.head
      (mem-live t base.authorizations g.authorization g.listed g.covers) g.fitting)

  by_rule : (S : Fact → Bool) (t : ℕ) (p : Pattern) (r : Rule) → Mem r base.rules →
      derives_for base p r ≡ true → S (fact r p.access t) ≡ true → holds_from base S t p ≡ true
  by_rule S t p r m d e =
      or_true_right (direct t p) (anyb (derives_it S t p) base.rules)
      (mem_any (derives_it S t p) base.rules r m
      (and_intro (derives_for base p r) (S (fact r p.access t)) d e))

  -- and in no other way
  either : {X : Type 0} (S : Fact → Bool) (t : ℕ) (p : Pattern) → holds_from base S t p ≡ true →
      (ByAuthorization base t p → X) →
      ((r : Rule) → Mem r base.rules → derives_for base p r ≡ true → S (fact r p.access t) ≡ true → X) →
      X
  either S t p e f g =
      or_cases (direct t p) (anyb (derives_it S t p) base.rules) e
      (λ a. let m = any_mem (fits p) (live t base.authorizations) a in
      let l = live-mem t base.authorizations m.0 m.1 in
      f (record { authorization = l.0; listed = l.1; covers = l.3; fitting = ap (fits p) l.2 ∙ m.2 }))
      (λ a. let m = any_mem (derives_it S t p) base.rules a in
      let w = and-true (derives_for base p m.0) (S (fact m.0 p.access t)) m.2 in
      g m.0 m.1 w.0 w.1)

  -- what an authorization gives is held by every rank
  given_below : (k : ℕ) {t : ℕ} {p : Pattern} → ByAuthorization base t p → Below k t p
  given_below zero g = g
  given_below (suc k) g = lower (given_below k g)

  -- ---- one rank, the ranks below it being settled

  module _ (k : ℕ)
      (settled : (t : ℕ) (p : Pattern) → (holds_from base (below base k) t p ≡ true) ↔ Below k t p) where
    -- what counts as held on a right side, S being what rules up to the rank derive
    abbrev forced : (Fact → Bool) → Pattern → ℕ → Bool
    forced S q u = right_holds (holds_from base S u) (holds_from base (below base k) u) q

    in_force : (S : Fact → Bool) (Here : ℕ → Pattern → Type 0) →
        ((u : ℕ) (q : Pattern) → holds_from base S u q ≡ true → Here u q) → (u : ℕ) (q : Pattern) →
        forced S q u ≡ true → Here u q × Undenied (Below k) u q
    in_force S Here h u q e =
        let w = (right_is (holds_from base S u) (holds_from base (below base k) u) q).0 e in
        (h u q w.0, λ n d. true≢false (sym ((settled u (asked q.access true)).1 d) ∙ w.1 n))

    forced_by : (S : Fact → Bool) (u : ℕ) (q : Pattern) → holds_from base S u q ≡ true →
        Undenied (Below k) u q → forced S q u ≡ true
    forced_by S u q e h = (right_is (holds_from base S u) (holds_from base (below base k) u) q).1 (
      e,
      λ n.
          cases (holds_from base (below base k) u (asked q.access true))
          (λ d. absurd (h n ((settled u (asked q.access true)).0 d)))
          (λ d. d),
    )

    -- what the operator of a rule allows, from what rounds have found
    allowed : (S : Fact → Bool) → ((u : ℕ) (q : Pattern) → holds_from base S u q ≡ true → UpTo k u q) →
        (o : Operator) (r : Rule) (t : ℕ) (p : Pattern) → Applies base k o r t p →
        operate always o (forced S (right_of r p.access)) (forced (below base k) (right_of r p.access))
        r.interval.start t ≡ true → UpTo k t p
    allowed S h Whenever r t p a e =
        let w = in_force S (UpTo k) h t (right_of r p.access) e in
        whenever r a w.0 w.1
    allowed S h AsLongAs r t p a e =
        let q = right_of r p.access in
        let w : (u : ℕ) → r.interval.start ≤ u → u ≤ t → UpTo k u q × Undenied (Below k) u q =
        λ u i j. in_force S (UpTo k) h u q (always_all r.interval.start t (forced S q) e u i j) in
        as_long_as r a (λ u i j. (w u i j).0) (λ u i j. (w u i j).1)
    allowed S h WheneverNot r t p a e =
        let q = right_of r p.access in
        whenever_not r a (λ b d. true≢false (sym (forced_by (below base k) t q ((settled t q).1 b) d)
        ∙ not-true (forced (below base k) q t) e))
    allowed S h Unless r t p a e =
        let q = right_of r p.access in
        unless r a (λ u i j b d. true≢false (sym (forced_by (below base k) u q ((settled u q).1 b) d)
        ∙ not-true (forced (below base k) q u)
        (always_all r.interval.start t (λ u. not (forced (below base k) q u)) e u i j)))

    -- what rounds find is held
    rounds-held : (n t : ℕ) (p : Pattern) → holds_from base (rounds base k n) t p ≡ true → UpTo k t p
    unfolding iter
    rounds-held zero t p e = lower ((settled t p).0 e)
    rounds-held (suc n) t p e = either (rounds base k (suc n)) t p e (λ g. lower (given_below k g))
        (λ r m d s.
        let S = rounds base k n in
        let i = stratum base.rules r in
        let x = fact r p.access t in
        cases (ltb i k)
        (λ l. lower ((settled t p).0 (by_rule (below base k) t p r m d (rw l at s))))
        (λ l. let w = and-true (eqb i k) (derives always base (below base k) S x) (rw l at s) in
        let q = right_of r p.access in
        let v = and-true (in_interval r.interval t) (operate always r.operator (forced S q)
        (forced (below base k) q) r.interval.start t) w.1 in
        allowed S (rounds-held n) r.operator r t p
        (record { listed = m; rank = true_eq i k w.0; operator = refl; left = d; inside = v.0 }) v.1))

    -- what a rule of the rank gives holds
    gives : {t : ℕ} {p : Pattern} (o : Operator) (r : Rule) → Applies base k o r t p →
        operate always o (forced (below base (suc k)) (right_of r p.access))
        (forced (below base k) (right_of r p.access)) r.interval.start t ≡ true →
        holds_from base (below base (suc k)) t p ≡ true
    gives {t} {p} o r a e =
        let right : (Fact → Bool) → ℕ → Bool = λ S. forced S (right_of r p.access) in
        let from : Operator → Bool =
        λ o. operate always o (right (below base (suc k))) (right (below base k)) r.interval.start t in
        by_rule (below base (suc k)) t p r a.listed a.left
        (at_stratum base k (fact r p.access t) a.listed a.rank
        ∙ and_intro (in_interval r.interval t) (from r.operator) a.inside (ap from a.operator ∙ e))

    not-below : (u : ℕ) (q : Pattern) → (Below k u q → Undenied (Below k) u q → ⊥) →
        not (forced (below base k) q u) ≡ true
    not-below u q h = cases (forced (below base k) q u)
        (λ e. let w = in_force (below base k) (Below k) (λ u q. (settled u q).0) u q e in
        absurd (h w.0 w.1))
        (λ e. ap not e)

    -- what is held is found by enough rounds
    held_found : {t : ℕ} {p : Pattern} → UpTo k t p → holds_from base (below base (suc k)) t p ≡ true
    unfolding iter
    held_found {t} {p} (lower h) = either (below base k) t p ((settled t p).1 h)
        (by_given (below base (suc k)) t p)
        (λ r m d e. by_rule (below base (suc k)) t p r m d
        (rounds-below base k 0 (omega arith) (fact r p.access t) e))
    held_found {t} {p} (whenever r a h d) = gives Whenever r a
        (forced_by (below base (suc k)) t (right_of r p.access) (held_found h) d)
    held_found {t} {p} (as_long_as r a h d) = gives AsLongAs r a
        (all_always r.interval.start t (forced (below base (suc k)) (right_of r p.access))
        (λ u i j. forced_by (below base (suc k)) u (right_of r p.access) (held_found (h u i j)) (d u i j)))
    held_found {t} {p} (whenever_not r a h) = gives WheneverNot r a (not-below t (right_of r p.access) h)
    held_found {t} {p} (unless r a h) = gives Unless r a
        (all_always r.interval.start t (λ u. not (forced (below base k) (right_of r p.access) u))
        (λ u i j. not-below u (right_of r p.access) (h u i j)))

  -- ---- rank by rank

  -- what holds by the strata below k is what is held below rank k
  pub held_below : (k t : ℕ) (p : Pattern) →
      (holds_by always base (derived_below always base k) t p ≡ true) ↔ HeldBelow base k t p
  unfolding derived_below
  held_below zero t p = (
    (λ e. either (below base 0) t p e (λ g. g) (λ r m d s. absurd (false≢true s))),
    by_given (below base 0) t p,
  )
  held_below (suc k) t p =
      (rounds-held k (held_below k) (enough always base) t p, held_found k (held_below k))

  module _ (s : stratified base.rules ≡ true) where
    -- no rule's rank is above twice their number: further ranks add nothing
    abbrev last : ℕ
    last = suc (2 * length base.rules)

    ranks-end : (k : ℕ) (x : Fact) → Mem x.rule base.rules → below base k x ≡ true →
        below base last x ≡ true
    ranks-end zero x m e = settled_at base 0 x m (below-stratum base 0 x e) (omega arith) ∙ e
    ranks-end (suc k) x m e = cases (leb (suc k) last)
        (λ l. settled_at base (suc k) x m (below-stratum base (suc k) x e) (true-le (suc k) last l) ∙ e)
        (λ l. let i = stratum base.rules x.rule in
        let b : suc i ≤ k = omega (arith, stratum-few base.rules s x.rule m, false-le (suc k) last l) in
        ranks-end k x m (rw (le-true (suc i) k b) at (closed base k x m ∙ e)))

    -- THEOREM: what holds is what is held
    pub held : (t : ℕ) (p : Pattern) → (holds always base t p ≡ true) ↔ Held base t p
    unfolding holds
    held t p = (
      (λ e. (last, (held_below last t p).0 e)),
      (λ h. let S = below base last in
          either (below base h.0) t p ((held_below h.0 t p).1 h.1) (by_given S t p)
          (λ r m d e. by_rule S t p r m d (ranks-end h.0 (fact r p.access t) m e))),
    )

    -- THEOREM. 02: "a positive right side counts as held at t ... exactly if it is held and no denial for
    -- that subject, object and mode is held at t, whoever gave it. A denial on the right counts as before"
    pub right_held : (t : ℕ) (p : Pattern) →
        (right_holds (holds always base t) (holds always base t) p ≡ true)
        ↔ (Held base t p × ((p.negative ≡ true) ⊎ (Held base t (asked p.access true) → ⊥)))
    right_held t p =
        let all = holds always base t in
        let denial = asked p.access true in
        let w = right_is all all p in (
          (λ e. (
            (held t p).0 (w.0 e).0,
            cases p.negative (λ n. inl n)
                (λ n. inr (λ d. true≢false (sym ((held t denial).1 d) ∙ (w.0 e).1 n))),
          )),
          (λ h. w.1 (
            (held t p).1 h.0,
            λ n. ⊎_elim (λ m. absurd (true≢false (sym m ∙ n)))
                (λ d. cases (all denial) (λ e. absurd (d ((held t denial).0 e))) (λ e. e)) h.1,
          )),
        )

-- THEOREM. 01: "MAY is yes exactly if a positive authorization is held and no denial is"
pub may-held : (b : Base) → stratified b.rules ≡ true → (x : Access) (t : ℕ) → (may b x t ≡ true)
    ↔ (Held b t (asked x false) × (Held b t (asked x true) → ⊥))
unfolding may may_with
may-held b s x t =
    let positive = holds always b t (asked x false) in
    let denial = holds always b t (asked x true) in
    let positively = held b s t (asked x false) in
    let denied = held b s t (asked x true) in (
      (λ e. let w = and-true positive (not denial) e in
          (positively.0 w.0, λ h. true≢false (sym (denied.1 h) ∙ not-true denial w.1))),
      (λ h. and_intro positive (not denial) (positively.1 h.0)
          (cases denial (λ e. absurd (h.1 (denied.0 e))) (λ e. ap not e))),
    )

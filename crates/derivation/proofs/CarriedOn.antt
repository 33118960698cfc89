-- What a rule derived before a window (`Carried`) is carried on from one window to the next (`carried_on`).
use mathlib.Core.Path.{◌≡◌, refl, sym, ap, ◌∙◌, subst}
use Prim.Native.Nat.{ℕ, zero, suc, ◌+◌, ◌*◌, ◌-◌, ◌≤◌, ◌<◌}
use native.Mathlib.Omega.{arith}
use mathlib.Core.Bool.{Bool, true, false, not, ◌&&◌, ◌||◌, false≢true}
use mathlib.Core.List.{List, [], ◌∷◌}
use mathlib.Core.Logic.{inl, inr}
use lib.Dec.{leb, ltb}
use lib.ListN.{length}
use Rattle.foundation.specs.Tests.{cases, le-true, le-false, true-le, false-le, and-true}
use Rattle.foundation.specs.Lists.{Mem}
use Rattle.foundation.specs.Intervals.{in_interval, in_interval_in, in_interval-true, always}
use Rattle.foundation.specs.Marks.{clear, clear_both}
use Rattle.model.specs.declared.Operator.{Operator}
use Rattle.model.specs.declared.Rule.{Rule}
use Rattle.model.specs.declared.Access.{Access}
use Rattle.model.specs.Base.{Base}
use Rattle.model.specs.Means.{marks_of, rule_marks, all_marks}
use Rattle.model.specs.Stratification.{stratified, lasting}
use Rattle.model.specs.Rules.{operate, right_of}
use Rattle.model.proofs.HoldsFacts.{below_steady}
use Rattle.model.specs.Rules.{holding}
use Rattle.model.proofs.HoldsLaws.{derived-law}
use Rattle.questions.proofs.OperatorSteps.{operate-back}
use Rattle.questions.specs.Table.{truth}
use Rattle.derivation.proofs.Window.{Window}
use Rattle.derivation.proofs.MadeWords.{Framed}
use Rattle.derivation.specs.Carried.{Carried}

-- ---- windows and the starts of rules

-- where no mark lies between a and t, no rule starts there
rule-unmarked : (rs : List Rule) (r : Rule) → Mem r rs → (a t : ℕ) → clear (rule_marks rs) a t ≡ true →
    a < r.interval.start → t < r.interval.start
rule-unmarked [] r m a t c h = absurd m.lower
rule-unmarked (q ∷ rs) r (inl e) a t c h =
    let b : ℕ = q.interval.start in
    let s : r.interval.start ≡ b = ap (λ (z : Rule). z.interval.start) e in
    let w = and-true (not (ltb a b && leb b t)) (clear (suc q.interval.end ∷ rule_marks rs) a t) c in
    cases (leb b t)
    (λ y. absurd (false≢true (sym (rw (le-true (suc a) b (omega arith), y)) ∙ w.0)))
    (λ y. omega (arith, false-le b t y))
rule-unmarked (q ∷ rs) r (inr m) a t c h =
    let b : ℕ = q.interval.start in
    let e : ℕ = suc q.interval.end in
    let w = and-true (not (ltb a b && leb b t)) (clear (e ∷ rule_marks rs) a t) c in
    rule-unmarked rs r m a t (and-true (not (ltb a e && leb e t)) (clear (rule_marks rs) a t) w.1).1 h

module _ (base : Base) where
  start-unmarked : (r : Rule) → Mem r base.rules → (a t : ℕ) → clear (all_marks base) a t ≡ true →
      a < r.interval.start → t < r.interval.start
  start-unmarked r m a t c = rule-unmarked base.rules r m a t
      (clear_both (marks_of base.authorizations) (rule_marks base.rules) a t c).1

  -- the instants of a window rise, and no rule starts between two of them
  window_rises : (count : ℕ) (ms : ℕ → ℕ) → Window base count ms → (i j : ℕ) → i < j → j < count → ms i < ms j
  window_rises count ms w i zero h l = absurd (omega arith)
  window_rises count ms w i (suc j) h l = cases (ltb i j)
      (λ e. omega (arith, window_rises count ms w i j (true-le (suc i) j e) (omega arith), w.rising j l))
      (λ e. let q : i ≡ j = omega (arith, false-le (suc i) j e) in rw q (w.rising j l))

  pub window_framed : (count : ℕ) (ms : ℕ → ℕ) → Window base count ms → (r : Rule) → Mem r base.rules →
      Framed r count ms
  window_framed count ms w r m = record {
    rising = window_rises count ms w;
    between = λ i l h.
        omega (arith, start-unmarked r m (ms i) (ms (suc i) - 1) (w.between i l) h);
  }

-- ---- what a rule derived before

-- what an operator that looks back allows, it allowed at all instants before
operate_earlier : (o : Operator) (f : ℕ → Bool) (a u d : ℕ) → lasting o ≡ true →
    operate always o f f a (u + d) ≡ true → operate always o f f a u ≡ true
operate_earlier o f a u zero l e =
    let z : u + 0 ≡ u = omega arith in
    subst (λ (t : ℕ). operate always o f f a t ≡ true) z e
operate_earlier o f a u (suc d) l e =
    operate_earlier o f a u d l (operate-back o f f a (u + d) (u + suc d) l (omega arith) e)

-- a rule that has not started is not broken
pub carried_first : (base : Base) (t : ℕ) (r : Rule) (x : Access) →
    (lasting r.operator ≡ true → t ≤ r.interval.start) → Carried base t r x false
carried_first base t r x h = record { fresh = λ e. refl; past = λ l g i. absurd (omega (arith, h l)) }

module _ (base : Base) (s : stratified base.rules ≡ true) (r : Rule) (m : Mem r base.rules)
    (x : Access) where
  -- what a rule that looks back derives, it derived at all instants of its interval before
  pub lasting-back : lasting r.operator ≡ true → (u t : ℕ) → r.interval.start ≤ u → u ≤ t →
      truth base t r x ≡ true → truth base u r x ≡ true
  lasting-back l u t h g e =
      let right : ℕ → Bool = λ j. holding base j (right_of r x) in
      let allowed : ℕ → Bool = λ j. operate always r.operator right right r.interval.start j in
      let w = and-true (in_interval r.interval t) (allowed t) (sym (derived-law base s r m x t) ∙ e) in
      let v = in_interval-true r.interval t w.0 in
      let d : u + (t - u) ≡ t = omega arith in
      derived-law base s r m x u
      ∙ rw (in_interval_in r.interval u h (omega arith))
      (operate_earlier r.operator right r.interval.start u (t - u) l
      (subst (λ (j : ℕ). allowed j ≡ true) (sym d) w.1))

  -- after a window from t to its last instant e: b says what the rule derived then, and u is the first
  -- instant of the next window
  pub carried_on : (t e u : ℕ) (broken b : Bool) → t ≤ e → e < u → clear (all_marks base) e (u - 1) ≡ true →
      b ≡ truth base e r x → Carried base t r x broken →
      Carried base u r x (broken || (leb r.interval.start e && not b))
  carried_on t e u broken b h g c right k = record {
    fresh = λ y. let z : broken ≡ false = k.fresh (omega arith) in
        rw (z, le-false r.interval.start e (omega arith));
    past = λ l y i.
        let started : r.interval.start ≤ e = not-later y in
        let same : truth base (u - 1) r x ≡ truth base e r x =
        below_steady base (suc (2 * length base.rules)) r m x e (u - 1) (omega arith) c in
        same ∙ sym right ∙ rw (le-true r.interval.start e started) (kept l i broken refl);
  }
    where
      not-later : r.interval.start < u → r.interval.start ≤ e
      not-later y = cases (leb r.interval.start e)
          (λ q. true-le r.interval.start e q)
          (λ q. absurd (omega (
            arith,
            start-unmarked base r m e (u - 1) c (false-le r.interval.start e
                q),
          )))

      -- once broken, it stays so
      gone : lasting r.operator ≡ true → in_interval r.interval u ≡ true → broken ≡ true → b ≡ false
      gone l i q =
          let v = in_interval-true r.interval u i in
          let y : r.interval.start < t = cases (leb t r.interval.start)
          (λ z. absurd (false≢true (sym (k.fresh (true-le t r.interval.start z)) ∙ q)))
          (λ z. false-le t r.interval.start z) in
          let z = k.past l y (in_interval_in r.interval t (omega arith) (omega arith)) in
          cases b
          (λ w. absurd (false≢true (sym (z ∙ ap not q)
          ∙ lasting-back l (t - 1) e (omega arith) (omega arith) (sym right ∙ w))))
          (λ w. w)

      kept : lasting r.operator ≡ true → in_interval r.interval u ≡ true → (a : Bool) → a ≡ broken →
          b ≡ not (a || not b)
      kept l i true q = gone l i (sym q)
      kept l i false q = cases b (λ w. rw w) (λ w. rw w)

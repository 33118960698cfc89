-- The turn of a rule at an access: the word that is derived of the words that it looks at (`Evaluated`).
-- Where the rules that precede it have given what they derive, both are right (`turn-right`).
use mathlib.Core.Path.{◌≡◌, refl, sym, ap, ◌∙◌, subst}
use Prim.Native.Nat.{ℕ, ◌-◌, ◌<◌}
use native.Mathlib.Omega.{arith}
use mathlib.Core.Logic.{inl, inr}
use mathlib.Core.Bool.{Bool, true, false, not, ◌&&◌, ◌||◌}
use Rattle.foundation.specs.Tests.{cases, not-true, and-true}
use Rattle.foundation.specs.Lists.{Mem}
use Rattle.foundation.specs.Intervals.{in_interval, always}
use Rattle.foundation.specs.BitMasks.{bit}
use Rattle.model.specs.declared.Rule.{Rule}
use Rattle.model.specs.declared.Access.{Access}
use Rattle.model.specs.declared.Pattern.{Pattern}
use Rattle.model.specs.Base.{Base}
use Rattle.model.specs.Stratification.{stratified, links, precedes}
use Rattle.model.proofs.FeedingLaws.{links-precedes}
use Rattle.model.specs.Rules.{asked, stands_for, derives_for, right_of, holds}
use Rattle.model.proofs.SideFacts.{right_sign, fit_links}
use Rattle.model.proofs.RightFacts.{right_own, right_is}
use Rattle.model.specs.Rules.{holding}
use Rattle.model.proofs.HoldsLaws.{fit_precedes}
use Rattle.laws.specs.Dependence.{Depends}
use Rattle.questions.specs.Table.{truth}
use Rattle.questions.proofs.OneInstant.{Before, right_truth}
use Rattle.derivation.proofs.Window.{Window, made, word_right}
use Rattle.derivation.specs.Derive.{Derived}
use Rattle.derivation.proofs.DerivedWords.{derived-made}
use Rattle.derivation.specs.Carried.{Carried}
use Rattle.derivation.proofs.CarriedOn.{window_framed}
use Rattle.derivation.specs.Words.{AccessWords}
use Rattle.derivation.proofs.Exact.{Valued, GivenEverywhere, exact}

-- what was derived at the instant before
pub before_right : (base : Base) (D : Access → Bool) (t : ℕ) → Before base D (λ r x. truth base (t - 1) r x) t
before_right base D t r x n l u q h =
    let e : t - 1 ≡ u = omega arith in
    ap (λ (v : ℕ). truth base v r x) e

-- made of the right side as it is, a word is right
pub right_made : (base : Base) → stratified base.rules ≡ true → (count : ℕ) (ms : ℕ → ℕ) →
    Window base count ms → (r : Rule) → Mem r base.rules → (x : Access) → stands_for base r x ≡ true →
    (right : ℕ → Bool) → ((i : ℕ) → i < count → right i ≡ holding base (ms i) (right_of r x)) →
    (i : ℕ) → i < count → made r ms right (truth base (ms 0 - 1) r x) i ≡ truth base (ms i) r x
right_made base s count ms w r m x n right e =
    word_right base s count ms w (λ y. true) r x (m, refl, n) right
    (λ i h. e i h ∙ sym (right_truth base (ms i) r x))
    (λ q z. truth base (ms 0 - 1) q z) (before_right base (λ y. true) (ms 0))

-- v is what r derives for x over the window, of the words that it looks at
module _ (base : Base) (count : ℕ) (ms : ℕ → ℕ) (pat : ℕ → Access → Pattern)
    (Kept : ℕ → Access → Type 0) where
  pub record Evaluated (W : AccessWords) (r : Rule) (x : Access) (v : ℕ) : Type 0 where
    -- a table that has the right side's pattern, and keeps its word
    pub table : ℕ
    pub fits_right : pat table (right_of r x).access ≡ right_of r x
    pub kept : Kept table (right_of r x).access
    -- where the right side is positive, a table that has the denials of its access
    pub denials : ℕ
    pub denies : r.right.negative ≡ false →
        (pat denials (right_of r x).access ≡ asked (right_of r x).access true)
        × Kept denials (right_of r x).access
    -- the instants at which the right side counts as held
    pub seen : ℕ
    pub seen_is : (i : ℕ) → bit i seen ≡ bit i (W table (right_of r x).access)
        && (r.right.negative || not (bit i (W denials (right_of r x).access)))
    -- the instants of the rule's interval
    pub active : ℕ
    pub acts : (i : ℕ) → i < count → bit i active ≡ in_interval r.interval (ms i)
    pub inside : (i : ℕ) → bit i active ≡ true → i < count
    pub broken : Bool
    pub carried : Carried base (ms 0) r x broken
    pub derived : Derived r.operator seen active broken v

  -- it is so of all tables with the same words of what the rule looks at
  pub evaluated_stays : (W W' : AccessWords) (r : Rule) (x : Access) (v : ℕ) →
      ((R : ℕ) → Depends r x (pat R (right_of r x).access) → Kept R (right_of r x).access →
      W' R (right_of r x).access ≡ W R (right_of r x).access) →
      Evaluated W r x v → Evaluated W' r x v
  unfolding Depends
  evaluated_stays W W' r x v same e = record {
    table = e.table;
    fits_right = e.fits_right;
    kept = e.kept;
    denials = e.denials;
    denies = e.denies;
    seen = e.seen;
    seen_is = λ i. e.seen_is i ∙ cases r.right.negative
        (λ n. rw (same e.table (inl e.fits_right) e.kept, n))
        (λ n. let d = e.denies n in
        rw (same e.table (inl e.fits_right) e.kept, same e.denials (inr (n, d.0)) d.1));
    active = e.active;
    acts = e.acts;
    inside = e.inside;
    broken = e.broken;
    carried = e.carried;
    derived = e.derived;
  }

module _ (base : Base) (s : stratified base.rules ≡ true) (count : ℕ) (ms : ℕ → ℕ)
    (w : Window base count ms) (pat : ℕ → Access → Pattern)
    (on : (T : ℕ) (x : Access) → (pat T x).access ≡ x) (Kept : ℕ → Access → Type 0)
    (W : AccessWords) (a : Valued base count ms pat Kept W) (r : Rule) (m : Mem r base.rules) (x : Access)
    (v : ℕ) (e : Evaluated base count ms pat Kept W r x v) where
  -- what is seen of the right side
  abbrev pub right_bit : ℕ → Bool
  right_bit i = bit i e.seen

  -- ---- when a right side counts as held: nothing else here looks into that

  -- the rules by which denials of the right side's access are derived have given what they derive
  module _ (linked : (q : Rule) → Mem q base.rules → links q r ≡ true →
      GivenEverywhere base count ms pat Kept W q) where
    denials_exact : r.right.negative ≡ false → (i : ℕ) → i < count →
        bit i (W e.denials (right_of r x).access)
        ≡ holds always base (ms i) (asked (right_of r x).access true)
    denials_exact n i h =
        let d = e.denies n in
        exact base count ms pat on Kept W a e.denials (right_of r x).access d.1
        (λ q k f. linked q k (fit_links base q r x n
        (subst (λ (p : Pattern). derives_for base p q ≡ true) d.0 f)) (right_of r x).access) i h
        ∙ ap (holds always base (ms i)) d.0

    -- it is seen where the table has it and no denial holds
    pub right_seen : (i : ℕ) → i < count → bit i (W e.table (right_of r x).access) ≡ true →
        (r.right.negative ≡ false →
        holds always base (ms i) (asked (right_of r x).access true) ≡ false) → right_bit i ≡ true
    right_seen i h b d = e.seen_is i ∙ rw b (cases r.right.negative
        (λ n. rw n) (λ n. rw (denials_exact n i h, d n, n)))

    pub right_sound : (i : ℕ) → i < count → right_bit i ≡ true → holding base (ms i) (right_of r x) ≡ true
    right_sound i h b =
        let y = (right_of r x).access in
        let all : Pattern → Bool = holds always base (ms i) in
        let c = and-true (bit i (W e.table y)) (r.right.negative || not (bit i (W e.denials y)))
        (sym (e.seen_is i) ∙ b) in
        (right_is all all (right_of r x)).1 (
          subst (λ (p : Pattern). all p ≡ true) e.fits_right (a.sound e.table y e.kept i h c.0),
          λ k. let n = sym (right_sign r x) ∙ k in
              sym (denials_exact n i h) ∙ not-true (bit i (W e.denials y))
              (subst (λ (g : Bool). g || not (bit i (W e.denials y)) ≡ true) n c.1),
        )

    -- what is seen is right, if the rules that derive for the right side have given what they derive, too
    pub right_exact : ((q : Rule) → Mem q base.rules → derives_for base (right_of r x) q ≡ true →
        GivenEverywhere base count ms pat Kept W q) →
        (i : ℕ) → i < count → right_bit i ≡ holding base (ms i) (right_of r x)
    right_exact fed i h =
        let y = (right_of r x).access in
        let all : Pattern → Bool = holds always base (ms i) in
        let held : bit i (W e.table y) ≡ all (right_of r x) =
        exact base count ms pat on Kept W a e.table y e.kept
        (λ q n d. fed q n (subst (λ (p : Pattern). derives_for base p q ≡ true) e.fits_right d) y) i h
        ∙ ap all e.fits_right in
        e.seen_is i
        ∙ ap (λ (n : Bool). bit i (W e.table y) && (n || not (bit i (W e.denials y))))
        (sym (right_sign r x))
        ∙ right_own (λ p. bit i (W e.table y)) all (λ p. bit i (W e.denials y)) all (right_of r x)
        held (λ n. denials_exact (sym (right_sign r x) ∙ n) i h)

  -- ---- the word that is derived

  pub evaluated_made : (i : ℕ) → i < count → bit i v ≡ made r ms right_bit (truth base (ms 0 - 1) r x) i
  evaluated_made = derived-made r count ms (window_framed base count ms w r m) right_bit
      (truth base (ms 0 - 1) r x) e.broken
      e.seen e.active v e.acts e.inside (λ i h. refl)
      e.carried.fresh e.carried.past e.derived

  pub turn_right : stands_for base r x ≡ true →
      ((q : Rule) → Mem q base.rules → precedes q r ≡ true → GivenEverywhere base count ms pat Kept W q) →
      (i : ℕ) → i < count → bit i v ≡ truth base (ms i) r x
  turn_right n fed i h =
      let right = right_exact (λ q k l. fed q k (links-precedes q r l))
      (λ q k d. fed q k (fit_precedes base q r x d)) in
      evaluated_made i h ∙ right_made base s count ms w r m x n right_bit right i h

-- When a rule's right side holds, and what its operator makes of that: the laws of `right_holds` and
-- `operate`. Both change at marks only, and from more facts they give no less.
use Rattle.std.specs.Prelude.{◌≡◌, refl, ◌↔◌, ℕ, ◌≤◌, Bool, true, false, not, ◌&&◌, ◌||◌, List}
use Rattle.std.proofs.Common.{sym, ap, ap₂, ◌∙◌}
use Rattle.foundation.specs.Tests.{cases, agree, not-true, and-true, and_intro, and_yes}
use Rattle.foundation.specs.Intervals.{always, always_mono}
use Rattle.foundation.specs.Marks.{clear, not_steady, Steady, always_steady}
use Rattle.model.specs.declared.Operator.{Operator}
use Rattle.model.specs.declared.Operator.TheVariants.{Whenever, AsLongAs, WheneverNot, Unless}
use Rattle.model.specs.Rules.{Pattern, asked, right_holds, operate}

-- ---- the laws of `right_holds`; nothing else looks into it

-- where more holds up to the stratum, no less counts as held
pub right_mono : (same more lower : Pattern → Bool) (p : Pattern) →
    ((q : Pattern) → same q ≡ true → more q ≡ true) →
    right_holds same lower p ≡ true → right_holds more lower p ≡ true
right_mono same more lower p h e =
    let d = lower (asked p.access true) in
    let w = and-true (same p) (p.negative || not d) e in
    and_intro (more p) (p.negative || not d) (h p w.0) w.1

-- it looks only at what holds of the right side's access
pub right_cong : (same same' lower lower' : Pattern → Bool) (p : Pattern) →
    ((q : Pattern) → q.access ≡ p.access → same q ≡ same' q) →
    ((q : Pattern) → q.access ≡ p.access → lower q ≡ lower' q) →
    right_holds same lower p ≡ right_holds same' lower' p
right_cong same same' lower lower' p h k =
    ap₂ (λ (a d : Bool). a && (p.negative || not d)) (h p refl) (k (asked p.access true) refl)

-- and therefore changes only where that does
pub right_steady : (marks : List ℕ) (same lower : ℕ → Pattern → Bool) (p : Pattern) →
    ((q : Pattern) → Steady (λ u. same u q) marks) → ((q : Pattern) → Steady (λ u. lower u q) marks) →
    Steady (λ u. right_holds (same u) (lower u) p) marks
right_steady marks same lower p c d a t h e =
    right_cong (same t) (same a) (lower t) (lower a) p (λ q x. c q a t h e) (λ q x. d q a t h e)

-- of what holds up to the stratum it looks only at the right side itself, and of what holds below it only at
-- denials of the right side's access, if that is positive
pub right_own : (same same' lower lower' : Pattern → Bool) (p : Pattern) → same p ≡ same' p →
    (p.negative ≡ false → lower (asked p.access true) ≡ lower' (asked p.access true)) →
    right_holds same lower p ≡ right_holds same' lower' p
right_own same same' lower lower' p e k =
    own (same p) (same' p) p.negative (lower (asked p.access true)) (lower' (asked p.access true))
    e k
  where
    own : (a b n d d' : Bool) → a ≡ b → (n ≡ false → d ≡ d') → a && (n || not d) ≡ b && (n || not d')
    own a b true d d' e k = rw e
    own a b false d d' e k = rw (e, k refl)

-- 02: "a positive right side counts as held at t ... exactly if it is held and no denial for that subject,
-- object and mode is held at t"
pub right_positive : (same lower : Pattern → Bool) (p : Pattern) → p.negative ≡ false →
    right_holds same lower p ≡ same p && not (lower (asked p.access true))
right_positive same lower p e =
    ap (λ (n : Bool). same p && (n || not (lower (asked p.access true)))) e

-- 02: "A denial on the right counts as before"
pub right_denial : (same lower : Pattern → Bool) (p : Pattern) → p.negative ≡ true →
    right_holds same lower p ≡ same p
right_denial same lower p e =
    ap (λ (n : Bool). same p && (n || not (lower (asked p.access true)))) e ∙ and_yes (same p)

-- both at once
pub right_is : (same lower : Pattern → Bool) (p : Pattern) → (right_holds same lower p ≡ true)
    ↔ ((same p ≡ true) × (p.negative ≡ false → lower (asked p.access true) ≡ false))
right_is same lower p = (
  (λ e. let w = and-true (same p) (p.negative || not (lower (asked p.access true))) e in
      (w.0, λ n. not-true (lower (asked p.access true)) (rw n at w.1))),
  (λ w. and_intro (same p) (p.negative || not (lower (asked p.access true))) w.0
      (cases p.negative (λ n. rw n) (λ n. rw (n, w.1 n)))),
)

-- ---- the laws of `operate`

pub operate_steady : (marks : List ℕ) (f g : ℕ → Bool) → Steady f marks → Steady g marks →
    (o : Operator) (s a t : ℕ) →
    s ≤ a → a ≤ t → clear marks a t ≡ true → operate always o f g s t ≡ operate always o f g s a
operate_steady marks f g c d Whenever s a t h k e = c a t k e
operate_steady marks f g c d AsLongAs s a t h k e = always_steady marks f c s a t h k e
operate_steady marks f g c d WheneverNot s a t h k e = not_steady marks g d a t k e
operate_steady marks f g c d Unless s a t h k e =
    always_steady marks (λ u. not (g u)) (not_steady marks g d) s a t h k e

pub operate_mono : (f f' g : ℕ → Bool) → ((u : ℕ) → f u ≡ true → f' u ≡ true) → (o : Operator) (s t : ℕ) →
    operate always o f g s t ≡ true → operate always o f' g s t ≡ true
operate_mono f f' g h Whenever s t e = h t e
operate_mono f f' g h AsLongAs s t e = always_mono s t f f' h e
operate_mono f f' g h WheneverNot s t e = e
operate_mono f f' g h Unless s t e = e

pub operate_cong : (f f' g : ℕ → Bool) → ((u : ℕ) → f u ≡ f' u) → (o : Operator) (s t : ℕ) →
    operate always o f g s t ≡ operate always o f' g s t
operate_cong f f' g h o s t = agree (operate always o f g s t) (operate always o f' g s t)
    (operate_mono f f' g (λ u e. sym (h u) ∙ e) o s t) (operate_mono f' f g (λ u e. h u ∙ e) o s t)

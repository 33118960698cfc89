-- Words that say what holds over a window. There are several tables; the word of an access x in table T has a
-- bit for each instant of the window, which says whether the pattern that T has for x holds then. A word that
-- says nothing wrong, has the authorizations in it and what the rules derive that derive for its pattern, is
-- right (`exact`). Nothing is asked of words that are not kept.
use mathlib.Core.Path.{◌≡◌, sym, ap, ◌∙◌, subst}
use Prim.Native.Nat.{ℕ, ◌<◌}
use mathlib.Core.Bool.{Bool, true, ◌&&◌, false≢true}
use Rattle.foundation.specs.Tests.{agree, and-true, and_intro, or_cases, or_intro_left, or_true_right}
use Rattle.foundation.specs.Lists.{anyb, Mem, any_mem, mem_any}
use Rattle.foundation.specs.Intervals.{in_interval, always}
use Rattle.foundation.specs.BitMasks.{bit, bit-zero}
use Rattle.model.specs.declared.Authorization.{Authorization}
use Rattle.model.specs.declared.Rule.{Rule}
use Rattle.model.specs.declared.Access.{Access}
use Rattle.model.specs.Base.{Base}
use Rattle.model.specs.Support.{live}
use Rattle.model.proofs.SupportFacts.{live-mem, mem-live}
use Rattle.model.specs.declared.Pattern.{Pattern}
use Rattle.model.specs.Rules.{Fact, fact, fits, derives_for, holds_by, holds}
use Rattle.model.specs.Rules.{derived}
use Rattle.model.proofs.HoldsLaws.{holds-law}
use Rattle.questions.specs.Table.{truth}
use Rattle.derivation.specs.Words.{AccessWords}

module _ (base : Base) (count : ℕ) (ms : ℕ → ℕ) (pat : ℕ → Access → Pattern)
    (Kept : ℕ → Access → Type 0) where
  -- what the words say holds
  abbrev pub SoundWords : AccessWords → Type 0
  SoundWords W = (T : ℕ) (x : Access) → Kept T x → (i : ℕ) → i < count → bit i (W T x) ≡ true →
      holds always base (ms i) (pat T x) ≡ true

  -- an authorization is in the words
  abbrev pub LineIn : AccessWords → Authorization → Type 0
  LineIn W a = (T : ℕ) (x : Access) → Kept T x → fits (pat T x) a.head ≡ true → (i : ℕ) → i < count →
      in_interval a.interval (ms i) ≡ true → bit i (W T x) ≡ true

  -- the words say nothing wrong, and have all authorizations in them
  pub record Valued (W : AccessWords) : Type 0 where
    pub sound : SoundWords W
    pub lines : (a : Authorization) → Mem a base.authorizations → LineIn W a

  -- what the rule derives for x is in the words, for all x
  abbrev pub GivenAt : AccessWords → Rule → Access → Type 0
  GivenAt W r x = (T : ℕ) → Kept T x → derives_for base (pat T x) r ≡ true → (i : ℕ) → i < count →
      truth base (ms i) r x ≡ true → bit i (W T x) ≡ true

  abbrev pub GivenEverywhere : AccessWords → Rule → Type 0
  GivenEverywhere W r = (x : Access) → GivenAt W r x

  -- words with no bit say nothing wrong
  pub none_sound : (W : AccessWords) → ((T : ℕ) (x : Access) → Kept T x → W T x ≡ 0) → SoundWords W
  none_sound W z T x k i h e = absurd (false≢true (sym (ap (bit i) (z T x k) ∙ bit-zero i) ∙ e))

-- ---- what holds, and by what

-- a pattern holds by an authorization that fits it
pub line-holds : (base : Base) (t : ℕ) (p : Pattern) (a : Authorization) → Mem a base.authorizations →
    fits p a.head ≡ true → in_interval a.interval t ≡ true → holds always base t p ≡ true
line-holds base t p a m f i = holds-law base t p
    ∙ or_intro_left (anyb (fits p) (live t base.authorizations))
    (anyb (λ r. derives_for base p r && truth base t r p.access) base.rules)
    (mem_any (fits p) (live t base.authorizations) a.head (mem-live t base.authorizations a m i) f)

-- and by a rule that derives for it
pub rule-holds : (base : Base) (t : ℕ) (p : Pattern) (r : Rule) → Mem r base.rules →
    derives_for base p r ≡ true → truth base t r p.access ≡ true → holds always base t p ≡ true
rule-holds base t p r m d e =
    let by : Rule → Bool = λ r. derives_for base p r && truth base t r p.access in
    holds-law base t p
    ∙ or_true_right (anyb (fits p) (live t base.authorizations)) (anyb by base.rules)
    (mem_any by base.rules r m (and_intro (derives_for base p r) (truth base t r p.access) d e))

-- and by nothing else, S saying what rules derive
pub held_cases : {X : Type 0} (base : Base) (S : Fact → Bool) (t : ℕ) (p : Pattern) →
    holds_by always base S t p ≡ true →
    ((a : Authorization) → Mem a base.authorizations → fits p a.head ≡ true →
    in_interval a.interval t ≡ true → X) →
    ((r : Rule) → Mem r base.rules → derives_for base p r ≡ true → S (fact r p.access t) ≡ true → X) → X
held_cases base S t p e f g =
    let by : Rule → Bool = λ r. derives_for base p r && S (fact r p.access t) in
    or_cases (anyb (fits p) (live t base.authorizations)) (anyb by base.rules) e
    (λ q. let m = any_mem (fits p) (live t base.authorizations) q in
    let a = live-mem t base.authorizations m.0 m.1 in
    f a.0 a.1 (ap (fits p) a.2 ∙ m.2) a.3)
    (λ q. let m = any_mem by base.rules q in
    let w = and-true (derives_for base p m.0) (S (fact m.0 p.access t)) m.2 in
    g m.0 m.1 w.0 w.1)

module _ (base : Base) (count : ℕ) (ms : ℕ → ℕ) (pat : ℕ → Access → Pattern)
    (on : (T : ℕ) (x : Access) → (pat T x).access ≡ x) (Kept : ℕ → Access → Type 0) where
  -- the word is right, if the rules that derive for its pattern have given what they derive
  pub exact : (W : AccessWords) → Valued base count ms pat Kept W → (T : ℕ) (x : Access) → Kept T x →
      ((r : Rule) → Mem r base.rules → derives_for base (pat T x) r ≡ true →
      GivenAt base count ms pat Kept W r x) →
      (i : ℕ) → i < count → bit i (W T x) ≡ holds always base (ms i) (pat T x)
  exact W v T x k given i h = agree (bit i (W T x)) (holds always base (ms i) (pat T x))
      (v.sound T x k i h)
      (λ e. held_cases base (derived base) (ms i) (pat T x) (sym (holds-law base (ms i) (pat T x)) ∙ e)
      (λ a m f n. v.lines a m T x k f i h n)
      (λ r m d n. given r m d T k d i h (subst (λ (y : Access). truth base (ms i) r y ≡ true) (on T x) n)))

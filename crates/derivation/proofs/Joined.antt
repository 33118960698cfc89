-- A word joined to the words of one access: what it leaves as it was (`joined-more`, `joined-from`), and that
-- the tables stay sound and have in them what was joined, of a rule (`rule-valued`, `rule-given`) and of an
-- authorization (`line-sound`, `line-in`).
use mathlib.Core.Path.{◌≡◌, sym, ap, ◌∙◌, subst}
use Prim.Native.Nat.{ℕ, ◌<◌}
use mathlib.Core.Bool.{Bool, true, ◌||◌, false≢true}
use lib.Dec.{eqb}
use Rattle.foundation.specs.Tests.{cases, true_eq, eq_true, or_cases, or_intro_left, or_true_right}
use Rattle.foundation.specs.Lists.{Mem}
use Rattle.foundation.specs.Intervals.{in_interval}
use Rattle.foundation.specs.BitMasks.{bit}
use Rattle.model.specs.declared.Authorization.{Authorization}
use Rattle.model.specs.declared.Rule.{Rule}
use Rattle.model.specs.declared.Access.{Access}
use Rattle.model.specs.declared.Pattern.{Pattern}
use Rattle.model.specs.Base.{Base}
use Rattle.model.specs.Rules.{fits, derives_for}
use Rattle.laws.specs.Narrowing.{access_of, fits-access}
use Rattle.questions.specs.Table.{truth}
use Rattle.derivation.specs.Words.{AccessWords}
use Rattle.derivation.proofs.Exact.{SoundWords, LineIn, Valued, GivenAt, line-holds, rule-holds}

-- two accesses are the same or not
same_or_not : {X : Type 0} (z x : Access) → (z ≡ x → X) → ((z ≡ x → ⊥) → X) → X
same_or_not z x f g = cases (eqb z.subject x.subject)
    (λ a. cases (eqb z.mode x.mode)
    (λ b. cases (eqb z.object x.object)
    (λ c. f (λ t. record {
      subject = true_eq z.subject x.subject a t;
      mode = true_eq z.mode x.mode b t;
      object = true_eq z.object x.object c t;
    }))
    (λ c. g (λ e. false≢true (sym c ∙ eq_true z.object x.object (ap (λ (y : Access). y.object) e)))))
    (λ b. g (λ e. false≢true (sym b ∙ eq_true z.mode x.mode (ap (λ (y : Access). y.mode) e)))))
    (λ a. g (λ e. false≢true (sym a ∙ eq_true z.subject x.subject (ap (λ (y : Access). y.subject) e))))

module _ (Kept : ℕ → Access → Type 0) where
  -- v is joined to the words of x in the tables that take it, and no other word that is kept changes
  pub record Joined (W W' : AccessWords) (takes : ℕ → Bool) (x : Access) (v : ℕ) : Type 0 where
    pub there : (T : ℕ) → Kept T x → takes T ≡ true → (i : ℕ) → bit i (W' T x) ≡ bit i (W T x) || bit i v
    pub else_kept : (T : ℕ) (z : Access) → Kept T z → (z ≡ x → takes T ≡ true → ⊥) → W' T z ≡ W T z

  module _ (W W' : AccessWords) (takes : ℕ → Bool) (x : Access) (v : ℕ) (j : Joined W W' takes x v) where
    -- a word changes only if v is joined to it
    word_cases : {X : Type 0} (T : ℕ) (z : Access) → Kept T z →
        (z ≡ x → takes T ≡ true → ((i : ℕ) → bit i (W' T z) ≡ bit i (W T z) || bit i v) → X) →
        (W' T z ≡ W T z → X) → X
    word_cases T z k f g = same_or_not z x
        (λ e. cases (takes T)
        (λ t. f e t (subst (λ (y : Access). (i : ℕ) → bit i (W' T y) ≡ bit i (W T y) || bit i v) (sym e)
        (j.there T (subst (Kept T) e k) t)))
        (λ t. g (j.else_kept T z k (λ e n. false≢true (sym t ∙ n)))))
        (λ n. g (j.else_kept T z k (λ e t. n e)))

    -- no bit is lost
    pub joined_more : (T : ℕ) (z : Access) → Kept T z → (i : ℕ) → bit i (W T z) ≡ true →
        bit i (W' T z) ≡ true
    joined_more T z k i e = word_cases T z k
        (λ s t w. w i ∙ or_intro_left (bit i (W T z)) (bit i v) e)
        (λ w. ap (bit i) w ∙ e)

    -- and each bit was there, or is one of v
    pub joined-from : {X : Type 0} (T : ℕ) (z : Access) → Kept T z → (i : ℕ) → bit i (W' T z) ≡ true →
        (bit i (W T z) ≡ true → X) → (z ≡ x → takes T ≡ true → bit i v ≡ true → X) → X
    joined-from T z k i e f g = word_cases T z k
        (λ s t w. or_cases (bit i (W T z)) (bit i v) (sym (w i) ∙ e) f (g s t))
        (λ w. f (ap (bit i) (sym w) ∙ e))

module _ (base : Base) (count : ℕ) (ms : ℕ → ℕ) (pat : ℕ → Access → Pattern)
    (on : (T : ℕ) (x : Access) → (pat T x).access ≡ x) (Kept : ℕ → Access → Type 0) where
  -- what is in the tables stays there
  module _ (W W' : AccessWords) (takes : ℕ → Bool) (x : Access) (v : ℕ) (j : Joined Kept W W' takes x v) where
    pub line_stays : (a : Authorization) → LineIn base count ms pat Kept W a →
        LineIn base count ms pat Kept W' a
    line_stays a l T z k f i h n = joined_more Kept W W' takes x v j T z k i (l T z k f i h n)

    pub given_stays : (q : Rule) (z : Access) → GivenAt base count ms pat Kept W q z →
        GivenAt base count ms pat Kept W' q z
    given_stays q z g T k d i h n = joined_more Kept W W' takes x v j T z k i (g T k d i h n)

  -- what a rule derives for x is joined to the tables that it derives for
  module _ (W W' : AccessWords) (r : Rule) (x : Access) (v : ℕ)
      (j : Joined Kept W W' (λ T. derives_for base (pat T x) r) x v) where
    pub rule_valued : Mem r base.rules →
        ((i : ℕ) → i < count → bit i v ≡ true → truth base (ms i) r x ≡ true) →
        Valued base count ms pat Kept W → Valued base count ms pat Kept W'
    rule_valued m right a = record {
      sound = λ T z k i h e.
          joined-from Kept W W' (λ T. derives_for base (pat T x) r) x v j T z k i e (a.sound T z k i h)
          (λ s d b. rule-holds base (ms i) (pat T z) r m
          (subst (λ (y : Access). derives_for base (pat T y) r ≡ true) (sym s) d)
          (subst (λ (y : Access). truth base (ms i) r y ≡ true) (sym (on T z ∙ s)) (right i h b)));
      lines = λ b n. line_stays W W' (λ T. derives_for base (pat T x) r) x v j b (a.lines b n);
    }

    pub rule-given : ((i : ℕ) → i < count → bit i v ≡ truth base (ms i) r x) →
        GivenAt base count ms pat Kept W' r x
    rule-given right T k d i h e =
        j.there T k d i ∙ or_true_right (bit i (W T x)) (bit i v) (right i h ∙ e)

  -- the instants of an authorization are joined to the tables that it fits
  module _ (W W' : AccessWords) (a : Authorization) (x : Access) (v : ℕ)
      (j : Joined Kept W W' (λ T. fits (pat T x) a.head) x v)
      (right : (i : ℕ) → i < count → bit i v ≡ in_interval a.interval (ms i)) where
    pub line-sound : Mem a base.authorizations → SoundWords base count ms pat Kept W →
        SoundWords base count ms pat Kept W'
    line-sound m s T z k i h e =
        joined-from Kept W W' (λ T. fits (pat T x) a.head) x v j T z k i e (s T z k i h)
        (λ q f b. line-holds base (ms i) (pat T z) a m
        (subst (λ (y : Access). fits (pat T y) a.head ≡ true) (sym q) f) (sym (right i h) ∙ b))

    pub line_in_lem : x ≡ access_of a.head → LineIn base count ms pat Kept W' a
    line_in_lem q T z k f i h n =
        let e : x ≡ z = q ∙ fits-access (pat T z) a.head f ∙ on T z in
        let k' : Kept T x = subst (Kept T) (sym e) k in
        let f' : fits (pat T x) a.head ≡ true =
        subst (λ (y : Access). fits (pat T y) a.head ≡ true) (sym e) f in
        ap (λ (y : Access). bit i (W' T y)) (sym e)
        ∙ j.there T k' f' i ∙ or_true_right (bit i (W T x)) (bit i v) (right i h ∙ n)

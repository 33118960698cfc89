-- What is needed grows (`ask-grown`, `grown-then`), and what is closed but for what is to do stays so
-- (`closed-grown`). A bit that was followed is no longer to do (`step-law`), and where nothing is to do all
-- is closed (`closed-end`).
use mathlib.Core.Path.{◌≡◌, refl, sym, ap, ◌∙◌}
use mathlib.Core.Logic.{◌⊎◌, inl, inr, ⊎_elim}
use mathlib.Core.Bool.{Bool, true, false, ◌&&◌, ◌||◌, false≢true}
use mathlib.Core.List.{List, [], ◌∷◌, ◌++◌}
use Prim.Native.Nat.{ℕ, suc, ◌/◌, ◌%◌, ◌≤◌, ◌<◌}
use native.Mathlib.Omega.{arith}
use lib.Bits.{bit_or, or_add_and, and_comm, or_lt, and_le_l}
use lib.Dec.{eqb, ltb}
use lib.ListN.{length, get_or, set, length-set}
use Rattle.foundation.specs.Tests.{cases, or_cases, true_eq, false_eq, or_intro_left, or_true_right}
use Rattle.foundation.specs.Tests.{and_intro, and-true, eq_true, true-le, false-le}
use Rattle.foundation.specs.BitMasks.{bit, none_set}
use Rattle.foundation.specs.BitLaws.{bit_or_lem}
use Rattle.words.specs.Bits.{less}
use Rattle.words.specs.SetBits.{among}
use Rattle.words.proofs.SetBitLoops.{among_more}
use Rattle.words.proofs.CutBit.{bit-less}
use Rattle.words.proofs.SumFacts.{sum-set}
use Rattle.reach.specs.Net.{Net, has, standing, right_pair, right_needs, Followed, ClosedBut, ClosedNet}
use Rattle.reach.specs.Net.{OnlyWhere, ClosedUnderRules}
use Rattle.reach.specs.Reach.{remaining, Grown, KeepsWithin, ReachStep}
use Rattle.reach.proofs.Tables.{has-set, sum_small, set_small, past}

-- ---- one more is needed

-- a store where P holds
set-within : (P : ℕ → Bool) (l : List ℕ) (p v : ℕ) → p < length l → P p ≡ true → OnlyWhere P l →
    OnlyWhere P (set l p v)
set-within P l p v h e w j k f = cases (eqb j p)
    (λ y. ap P (true_eq j p y) ∙ e)
    (λ y. w j k (sym (has-set l p v j k h ∙ rw y) ∙ f))

module _ (need todo : List ℕ) (p bits : ℕ) (h : p < length need) (g : p < length todo)
    (small : (i : ℕ) → get_or need i 0 < 65536) (word : bits < 65536) where
  abbrev old : ℕ
  old = get_or need p 0

  abbrev was : ℕ
  was = get_or todo p 0

  abbrev pub need' : List ℕ
  need' = set need p (bit_or old bits)

  abbrev pub todo' : List ℕ
  todo' = set todo p (bit_or was (less bits old))

  more : (j k : ℕ) → has need j k ≡ true → has need' j k ≡ true
  more j k e = has-set need p (bit_or old bits) j k h ∙ cases (eqb j p)
      (λ y. rw y (bit_or_lem old bits k ∙ or_intro_left (bit k old) (bit k bits)
      (ap (λ (i : ℕ). has need i k) (sym (true_eq j p y)) ∙ e)))
      (λ y. rw y e)

  kept : (j k : ℕ) → has todo j k ≡ true → has todo' j k ≡ true
  kept j k e = has-set todo p (bit_or was (less bits old)) j k g ∙ cases (eqb j p)
      (λ y. rw y (bit_or_lem was (less bits old) k ∙ or_intro_left (bit k was) (bit k (less bits old))
      (ap (λ (i : ℕ). has todo i k) (sym (true_eq j p y)) ∙ e)))
      (λ y. rw y e)

  -- a bit at p that was not needed is to do
  newly : (k : ℕ) → bit k bits ≡ true → bit k old ≡ false → has todo' p k ≡ true
  newly k e f = has-set todo p (bit_or was (less bits old)) p k g ∙ cases (eqb p p)
      (λ y. rw y (bit_or_lem was (less bits old) k ∙ or_true_right (bit k was) (bit k (less bits old))
      (bit-less k bits old ∙ rw (e, f))))
      (λ y. absurd (false_eq p p y refl))

  fresh : (j k : ℕ) → has need' j k ≡ true → (has need j k ≡ true) ⊎ (has todo' j k ≡ true)
  fresh j k e = cases (eqb j p)
      (λ y. let q = true_eq j p y in
      let b : bit k (bit_or old bits) ≡ true = sym (has-set need p (bit_or old bits) j k h ∙ rw y) ∙ e in
      let c : bit k old || bit k bits ≡ true = sym (bit_or_lem old bits k) ∙ b in
      cases (bit k old)
      (λ x. inl (ap (λ (i : ℕ). has need i k) q ∙ x))
      (λ x. inr (ap (λ (i : ℕ). has todo' i k) q ∙ newly k (rw x at c) x)))
      (λ y. inl (sym (has-set need p (bit_or old bits) j k h ∙ rw y) ∙ e))

  fewer_left : remaining need' todo' ≤ remaining need todo
  fewer_left =
      let a = or_add_and old bits in
      let b = and_comm old bits in
      let l = and_le_l bits old in
      let c = or_add_and was (less bits old) in
      let o = sum-set need p (bit_or old bits) h in
      let t = sum-set todo p (bit_or was (less bits old)) g in
      let f = sum_small need' (set_small need p (bit_or old bits) h (or_lt 16 old bits (small p) word)
      small) in
      let n = length-set need p (bit_or old bits) in
      omega arith

  pub ask_grown : Grown need todo need' todo'
  ask_grown = record {
    more = more;
    kept = kept;
    fresh = fresh;
    less = fewer_left;
    needs = length-set need p (bit_or old bits);
    todos = length-set todo p (bit_or was (less bits old));
  }

  -- neither table has anything new but at p
  pub ask_kept : (P : ℕ → Bool) → P p ≡ true → KeepsWithin P need todo need' todo'
  ask_kept P e n t = (
    set-within P need p (bit_or old bits) h e n,
    set-within P todo p (bit_or was (less bits old)) g e t,
  )

  pub asked : (b : ℕ) → bit b bits ≡ true → has need' p b ≡ true
  asked b e = has-set need p (bit_or old bits) p b h ∙ cases (eqb p p)
      (λ y. rw y (bit_or_lem old bits b ∙ or_true_right (bit b old) (bit b bits) e))
      (λ y. absurd (false_eq p p y refl))

-- ---- one growth after another

pub need_kept : (need todo : List ℕ) → Grown need todo need todo
need_kept need todo = record {
  more = λ j k e. e;
  kept = λ j k e. e;
  fresh = λ j k e. inl e;
  less = omega arith;
  needs = refl;
  todos = refl;
}

pub grown_then : {n t n' t' n'' t'' : List ℕ} → Grown n t n' t' → Grown n' t' n'' t'' → Grown n t n'' t''
grown_then a b = record {
  more = λ j k e. b.more j k (a.more j k e);
  kept = λ j k e. b.kept j k (a.kept j k e);
  fresh = λ j k e. ⊎_elim (λ f. ⊎_elim (λ g. inl g) (λ g. inr (b.kept j k g)) (a.fresh j k f)) (λ f. inr f)
      (b.fresh j k e);
  less = omega (arith, a.less, b.less);
  needs = b.needs ∙ a.needs;
  todos = b.todos ∙ a.todos;
}

-- ---- what rules look at

module _ (right : List ℕ) (subjects o s m : ℕ) where
  -- what the rules in a list look at is needed
  abbrev pub RightsNeeded : List ℕ → List ℕ → Type 0
  RightsNeeded rules need = (q : ℕ) → among q rules ≡ true → (b : ℕ) → bit b (right_needs right q m) ≡ true →
      has need (right_pair right subjects q o s) b ≡ true

  pub done-turn : (r : ℕ) (rules : List ℕ) {n t n' t' : List ℕ} → RightsNeeded rules n → Grown n t n' t' →
      ((b : ℕ) → bit b (right_needs right r m) ≡ true → has n' (right_pair right subjects r o s) b ≡ true) →
      RightsNeeded (rules ++ r ∷ []) n'
  done-turn r rules {n' = n'} d g now q e b f = or_cases (among q rules) (eqb q r) (sym (among_more q r rules) ∙ e)
      (λ l. g.more (right_pair right subjects q o s) b (d q l b f))
      (λ u. let v = true_eq q r u in
      ap (λ (q : ℕ). has n' (right_pair right subjects q o s) b) v
      ∙ now b (ap (λ (q : ℕ). bit b (right_needs right q m)) (sym v) ∙ f))

-- where nothing is, P need hold nowhere
pub none_within : (P : ℕ → Bool) (l : List ℕ) → ((i : ℕ) → get_or l i 0 ≡ 0) → OnlyWhere P l
none_within P l z j k e = absurd (none_set k (ap (bit k) (sym (z j)) ∙ e))

-- ---- what is closed

pub closed_grown : (net : Net) {n t n' t' : List ℕ} → Grown n t n' t' → ClosedBut net n t →
    ClosedBut net n' t'
closed_grown net {n = n} g c j k e f r l o b x =
    ⊎_elim
    (λ (y : has n j k ≡ true). g.more _ b (c j k y (λ z. f (g.kept j k z)) r l o b x))
    (λ y. absurd (f y))
    (g.fresh j k e)

-- where nothing is needed, all is closed
pub closed_start : (net : Net) (need todo : List ℕ) → ((i : ℕ) → get_or need i 0 ≡ 0) → ClosedBut net need todo
closed_start net need todo z j k e f = absurd (none_set k (ap (bit k) (sym (z j)) ∙ e))

-- where nothing is to do, all is
pub closed_end : (net : Net) (need todo : List ℕ) → ((i : ℕ) → i < length todo → get_or todo i 0 ≡ 0) →
    ClosedBut net need todo → ClosedNet net need
closed_end net need todo z c j k e = c j k e (λ f. none_set k (ap (bit k) (sym (nothing j)) ∙ f))
  where
    nothing : (j : ℕ) → get_or todo j 0 ≡ 0
    nothing j = cases (ltb j (length todo))
        (λ y. z j (true-le (suc j) (length todo) y))
        (λ y. past todo j (omega (arith, false-le (suc j) (length todo) y)))

-- ---- a bit was followed

module _ (net : Net) (n t n' t' : List ℕ) (p k y : ℕ) (g : Grown n t n' t') (h : p < length t')
    (followed : (r : ℕ) → r < 64 →
    bit r (standing net.left (p / net.subjects) (p % net.subjects) k) ≡ true →
    Followed net p k r n')
    (lower : y < get_or t' p 0)
    (others : (i : ℕ) → bit i (get_or t' p 0) ≡ true → (i ≡ k → ⊥) → bit i y ≡ true)
    (stays : (P : ℕ → Bool) → ClosedUnderRules net P → KeepsWithin P n t n' t')
    (fewer : (i : ℕ) → bit i y ≡ true → bit i (get_or t' p 0) ≡ true) where
  abbrev after : List ℕ
  after = set t' p y

  -- what is no longer to do was not to do, or is the bit
  still : (j i : ℕ) → ((j ≡ p) → (i ≡ k) → ⊥) → has t' j i ≡ true → has after j i ≡ true
  still j i d e = has-set t' p y j i h ∙ cases (eqb j p)
      (λ x. let q = true_eq j p x in
      rw x (others i (ap (λ (j : ℕ). has t' j i) (sym q) ∙ e) (λ z. d q z)))
      (λ x. rw x e)

  closed : ClosedBut net n t → ClosedBut net n' after
  closed c j i e f = cases (eqb j p && eqb i k)
      (λ x. let w = and-true (eqb j p) (eqb i k) x in
      let a = true_eq j p w.0 in
      let b = true_eq i k w.1 in
      rw (a, b) followed)
      (λ x. closed_grown net g c j i e (λ z. f (still j i (λ a b.
      false≢true (sym x ∙ and_intro (eqb j p) (eqb i k) (eq_true j p a) (eq_true i k b))) z)))

  within : (P : ℕ → Bool) → ClosedUnderRules net P → KeepsWithin P n t n' after
  within P c a b =
      let w = stays P c a b in (
        w.0,
        λ j i e. w.1 j i (cases (eqb j p)
            (λ x. ap (λ (j : ℕ). has t' j i) (true_eq j p x)
            ∙ fewer i (sym (has-set t' p y j i h ∙ rw x) ∙ e))
            (λ x. sym (has-set t' p y j i h ∙ rw x) ∙ e)),
      )

  pub step-law : ReachStep net n t n' after
  step-law = record {
    more = g.more;
    closed = closed;
    within = within;
    less = omega (arith, g.less, sum-set t' p y h);
    needs = g.needs;
    todos = length-set t' p y ∙ g.todos;
  }

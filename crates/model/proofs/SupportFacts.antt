-- What supports what: more roots and heads support more, the supported support one another, and one hop is
-- enough (theorem 2, second half: `one-hop`). A chain stays on one object and mode (`chain-local`).
use Rattle.std.specs.Prelude.{◌≡◌, refl, ◌⊎◌, ◌↔◌, ℕ, zero, suc, ◌≤◌, ◌<◌, Bool, true, false, ◌&&◌, List, [], ◌∷◌, ◌++◌}
use Rattle.std.proofs.Common.{sym, ◌∙◌, inl, inr, ⊎_elim, arith}
use Rattle.std.proofs.Math.Path.{ap}
use Rattle.std.proofs.Math.Bool.{not}
use Rattle.std.proofs.lemmas.Bool.{false≢true}
use Rattle.foundation.specs.Tests.{cases, agree, and-true, or_true_right, or_intro_left, or_cases}
use Rattle.foundation.specs.Tests.{not-true, not-false}
use Rattle.foundation.specs.Lists.{anyb, allb, keep_if, Mem, any_mem, mem_any, all_mem, mem_all, mem_left}
use Rattle.foundation.specs.Lists.{mem_right}
use Rattle.foundation.specs.Lists.{last_mem, keep_if-mem}
use Rattle.foundation.specs.declared.Interval.{Interval}
use Rattle.foundation.specs.Intervals.{in_interval, in_interval-true, in_interval_in, none?, always, always_all}
use Rattle.foundation.specs.Intervals.{all_always, first_start, maximal_first, first_one}
use Rattle.model.specs.declared.Head.{Head}
use Rattle.model.specs.declared.Authorization.{Authorization}
use Rattle.model.specs.Support.{supports, supported}
use Rattle.model.proofs.SupportChains.{supports-rises, supports-object, supports-mode}
use Rattle.model.proofs.SupportChains.{supported-chain, supported-step}
use Rattle.model.specs.Support.{Chain, first, then, live, covered_for}
use Rattle.model.specs.Support.{gaps}
use Rattle.model.specs.Support.{hop}
use Rattle.model.specs.Support.{Earliest}

-- ---- the heads that cover an instant

-- a test of the heads that cover t, as one of the authorizations
pub any_live : (p : Head → Bool) (t : ℕ) (xs : List Authorization) →
    anyb p (live t xs) ≡ anyb (λ a. in_interval a.interval t && p a.head) xs
any_live p t [] = refl
any_live p t (a ∷ xs) = cases (in_interval a.interval t)
    (λ e. rw (e, any_live p t xs))
    (λ e. rw (e, any_live p t xs))

pub mem-live : (t : ℕ) (xs : List Authorization) (a : Authorization) → Mem a xs →
    in_interval a.interval t ≡ true → Mem a.head (live t xs)
mem-live t [] a m e = absurd m.lower
mem-live t (c ∷ xs) a (inl q) e =
    rw (ap (λ (x : Authorization). in_interval x.interval t) (sym q) ∙ e)
    (inl (ap (λ (x : Authorization). x.head) q))
mem-live t (c ∷ xs) a (inr m) e = cases (in_interval c.interval t)
    (λ z. rw z (inr (mem-live t xs a m e)))
    (λ z. rw z (mem-live t xs a m e))

pub live-mem : (t : ℕ) (xs : List Authorization) (h : Head) → Mem h (live t xs) →
    (a : Authorization) × Mem a xs × (a.head ≡ h) × (in_interval a.interval t ≡ true)
live-mem t [] h m = absurd m.lower
live-mem t (c ∷ xs) h m = cases (in_interval c.interval t)
    (λ z. let k : (h ≡ c.head) ⊎ Mem h (live t xs) = rw z at m in ⊎_elim
    (λ q. (c, inl refl, sym q, z))
    (λ n. let w = live-mem t xs h n in (w.0, inr w.1, w.2, w.3))
    k)
    (λ z. let r = live-mem t xs h (rw z at m) in (r.0, inr r.1, r.2, r.3))

pub live_append : (t : ℕ) (xs ys : List Authorization) → live t (xs ++ ys) ≡ live t xs ++ live t ys
live_append t [] ys = refl
live_append t (x ∷ xs) ys = cases (in_interval x.interval t)
    (λ e. rw (e, live_append t xs ys))
    (λ e. rw (e, live_append t xs ys))

-- with one more at the end: a head that covered t, or the new one, which does
pub live-last : (t : ℕ) (xs : List Authorization) (a : Authorization) (h : Head) →
    Mem h (live t (xs ++ (a ∷ []))) →
    Mem h (live t xs) ⊎ ((h ≡ a.head) × (in_interval a.interval t ≡ true))
live-last t xs a h m =
    let w = live-mem t (xs ++ (a ∷ [])) h m in ⊎_elim
    (λ n. inl (rw (← w.2) (mem-live t xs w.0 n w.3)))
    (λ e. inr (
      sym w.2 ∙ ap (λ (c : Authorization). c.head) e,
      ap (λ (c : Authorization). in_interval c.interval t) (sym e) ∙ w.3,
    ))
    (last_mem w.0 xs a w.1)

pub live-old : (t : ℕ) (xs : List Authorization) (a : Authorization) (h : Head) → Mem h (live t xs) →
    Mem h (live t (xs ++ (a ∷ [])))
live-old t xs a h m = rw (live_append t xs (a ∷ [])) (mem_left h (live t xs) (live t (a ∷ [])) m)

pub live-new : (t : ℕ) (xs : List Authorization) (a : Authorization) → in_interval a.interval t ≡ true →
    Mem a.head (live t (xs ++ (a ∷ [])))
live-new t xs a e = mem-live t (xs ++ (a ∷ [])) a (mem_right a xs (a ∷ []) (inl refl)) e

-- ---- chains

-- A chain stays on the object and mode of its end: only the roots and heads there matter
module _ (root root' : Head → Bool) (heads heads' : List Head) (o m : ℕ)
    (roots : (k : Head) → k.object ≡ o → k.mode ≡ m → root k ≡ true → root' k ≡ true)
    (more : (k : Head) → k.object ≡ o → k.mode ≡ m → Mem k heads → Mem k heads') where
  chain_on : {h : Head} → h.object ≡ o → h.mode ≡ m → Chain root heads h → Chain root' heads' h
  chain_on p q (first {h} r) = first (roots h p q r)
  chain_on p q (then {k} {h} c n s) =
      let p' = supports-object k h s ∙ p in
      let q' = supports-mode k h s ∙ q in
      then (chain_on p' q' c) (more k p' q' n) s

pub chain_local : (root root' : Head → Bool) (heads heads' : List Head) (h : Head) → Chain root heads h →
    ((k : Head) → k.object ≡ h.object → k.mode ≡ h.mode → Mem k heads → Mem k heads') →
    ((k : Head) → k.object ≡ h.object → k.mode ≡ h.mode → root k ≡ true → root' k ≡ true) →
    Chain root' heads' h
chain_local root root' heads heads' h c more roots =
    chain_on root root' heads heads' h.object h.mode roots more refl refl c

-- more roots and more heads support more
pub chain_more : (root root' : Head → Bool) (heads heads' : List Head) →
    ((k : Head) → root k ≡ true → root' k ≡ true) → ((k : Head) → Mem k heads → Mem k heads') →
    (h : Head) → Chain root heads h → Chain root' heads' h
chain_more root root' heads heads' roots more h c =
    chain_local root root' heads heads' h c (λ k p q n. more k n) (λ k p q r. roots k r)

pub supported_more : (root root' : Head → Bool) (heads heads' : List Head) →
    ((k : Head) → root k ≡ true → root' k ≡ true) → ((k : Head) → Mem k heads → Mem k heads') →
    (h : Head) → supported root heads h ≡ true → supported root' heads' h ≡ true
supported_more root root' heads heads' roots more h e =
    (supported-chain root' heads' h).1
    (chain_more root root' heads heads' roots more h ((supported-chain root heads h).0 e))

-- the supported heads support one another
pub still : (root : Head → Bool) (heads : List Head) {h : Head} → Chain root heads h →
    Chain root (keep_if (λ k. supported root heads k) heads) h
still root heads (first r) = first r
still root heads (then {k} c m s) =
    then (still root heads c)
    (keep_if-mem (λ x. supported root heads x) heads k m ((supported-chain root heads k).1 c)) s

-- ---- one hop is enough

module _ (root : Head → Bool) (xs : List Authorization) where
  pub supported-hop : (h : Head) (t : ℕ) → supported root (live t xs) h ≡ true → hop root xs h t ≡ true
  supported-hop h t e =
      or_cases (root h) (anyb (λ k. supports k h && supported root (live t xs) k) (live t xs))
      (sym (supported-step root (live t xs) h) ∙ e)
      (λ r. or_intro_left (root h) (anyb (λ k. supports k h) (live t xs)) r)
      (λ r. let m = any_mem (λ k. supports k h && supported root (live t xs) k) (live t xs) r in
      or_true_right (root h) (anyb (λ k. supports k h) (live t xs))
      (mem_any (λ k. supports k h) (live t xs) m.0 m.1
      (and-true (supports m.0 h) (supported root (live t xs) m.0) m.2).0))

  module _ (t : ℕ) (each-hop : (h : Head) → Mem h (live t xs) → hop root xs h t ≡ true) where
    hop-chain : (n : ℕ) (h : Head) → Mem h (live t xs) → h.granted < n → Chain root (live t xs) h
    hop-chain zero h m l = absurd (omega arith)
    hop-chain (suc n) h m l = or_cases (root h) (anyb (λ k. supports k h) (live t xs)) (each-hop h m)
        (λ r. first r)
        (λ r. let w = any_mem (λ k. supports k h) (live t xs) r in
        then (hop-chain n w.0 w.1 (omega (arith, supports-rises w.0 h w.2))) w.1 w.2)

    -- where each head of an instant has a root or a head before it, each is supported
    pub hop-supported : (h : Head) → Mem h (live t xs) → supported root (live t xs) h ≡ true
    hop-supported h m = (supported-chain root (live t xs) h).1 (hop-chain (suc h.granted) h m (omega arith))

-- a test of heads passes at every instant of every authorization exactly if, at every instant, it passes of
-- each head that covers it
module _ (xs : List Authorization) (f : Head → ℕ → Bool) where
  pub everywhere_live : allb (λ a. always a.interval.start a.interval.end (f a.head)) xs ≡ true →
      (t : ℕ) (h : Head) → Mem h (live t xs) → f h t ≡ true
  everywhere_live e t h m =
      let w = live-mem t xs h m in
      let s = in_interval-true w.0.interval t w.3 in
      ap (λ (k : Head). f k t) (sym w.2)
      ∙ always_all w.0.interval.start w.0.interval.end (f w.0.head)
      (all_mem (λ a. always a.interval.start a.interval.end (f a.head)) xs e w.0 w.1) t
      s.0 s.1

  pub live_everywhere : ((t : ℕ) (h : Head) → Mem h (live t xs) → f h t ≡ true) →
      allb (λ a. always a.interval.start a.interval.end (f a.head)) xs ≡ true
  live_everywhere g = mem_all (λ a. always a.interval.start a.interval.end (f a.head)) xs
      (λ a m. all_always a.interval.start a.interval.end (f a.head)
      (λ t p q. g t a.head (mem-live t xs a m (in_interval_in a.interval t p q))))

-- THEOREM 2, second half: each authorization is supported at each of its instants exactly if at each of them
-- its head is a root or one that covers the instant may stand directly before it
pub one_hop : (root : Head → Bool) (xs : List Authorization) →
    allb (λ a. always a.interval.start a.interval.end (λ t. supported root (live t xs) a.head)) xs
    ≡ allb (λ a. always a.interval.start a.interval.end (hop root xs a.head)) xs
one_hop root xs = agree
    (allb (λ a. always a.interval.start a.interval.end (λ t. supported root (live t xs) a.head))
    xs)
    (allb (λ a. always a.interval.start a.interval.end (hop root xs a.head)) xs)
    (λ e. live_everywhere xs (hop root xs) (λ t h m. supported-hop root xs h t
    (everywhere_live xs (λ h t. supported root (live t xs) h) e t h m)))
    (λ e. live_everywhere xs (λ h t. supported root (live t xs) h) (λ t h m. hop-supported root xs t
    (λ k n. everywhere_live xs (hop root xs) e t k n) h m))

-- ---- the cover that a new authorization needs

gaps-always : (xs : List Authorization) (h : Head) (i : Interval) →
    none? (gaps xs h i) ≡ always i.start i.end (λ t. covered_for xs h t)
unfolding gaps always
gaps-always xs h i = refl

-- 01, GRANT: "that together cover every instant": nothing is uncovered exactly if at each instant some
-- authorization that covers it may stand directly before the new one; they need not be one
pub covered_together : (xs : List Authorization) (h : Head) (i : Interval) → (none? (gaps xs h i) ≡ true) ↔
    ((t : ℕ) → i.start ≤ t → t ≤ i.end → (k : Head) × Mem k (live t xs) × (supports k h ≡ true))
unfolding covered_for
covered_together xs h i = (
  (λ e t p q. any_mem (λ k. supports k h) (live t xs)
      (always_all i.start i.end (λ u. covered_for xs h u) (sym (gaps-always xs h i) ∙ e) t p q)),
  (λ f. gaps-always xs h i ∙ all_always i.start i.end (λ u. covered_for xs h u)
      (λ t p q. let w = f t p q in mem_any (λ k. supports k h) (live t xs) w.0 w.1 w.2)),
)

module _ (xs : List Authorization) (h : Head) (i : Interval) where
  -- where there are gaps, the first of them starts there,
  pub gaps_earliest : none? (gaps xs h i) ≡ false → Earliest xs h i (first_start (gaps xs h i))
  unfolding gaps
  gaps_earliest e =
      let f = maximal_first i.start i.end (λ t. not (covered_for xs h t)) e in
      record {
        within = in_interval_in i (first_start (gaps xs h i)) f.low f.high;
        uncovered = not-true (covered_for xs h (first_start (gaps xs h i))) f.here;
        before = λ u p q. not-false (covered_for xs h u) (f.before u p q);
      }

  -- where there is such an instant, there are gaps,
  pub earliest_gaps : (t : ℕ) → Earliest xs h i t → none? (gaps xs h i) ≡ false
  earliest_gaps t w = cases (none? (gaps xs h i))
      (λ e. let p = in_interval-true i t w.within in absurd (false≢true (sym w.uncovered
      ∙ always_all i.start i.end (λ u. covered_for xs h u) (sym (gaps-always xs h i) ∙ e) t
      p.0 p.1)))
      (λ e. e)

  -- and it is the only one
  pub earliest_only : (t : ℕ) → Earliest xs h i t → t ≡ first_start (gaps xs h i)
  unfolding gaps
  earliest_only t w =
      let p = in_interval-true i t w.within in
      first_one i.start i.end (λ u. not (covered_for xs h u)) t (first_start (gaps xs h i))
      (record {
        low = p.0;
        high = p.1;
        here = ap not w.uncovered;
        before = λ u a b. ap not (w.before u a b);
      })
      (maximal_first i.start i.end (λ u. not (covered_for xs h u)) (earliest_gaps t w))

-- Theorem 3: forbidden circles and ranks in the papers' words: by feeding, links, and which rules have a
-- WHENEVERNOT or UNLESS (`negates-is`). `label-free`: a rule's label does not matter for them.
use Rattle.std.specs.Prelude.{◌≡◌, refl, ◌↔◌, ◌⊎◌, ℕ, ◌*◌, ◌≤◌, ◌<◌, Bool, true, false, List, [], ◌∷◌, ◌++◌, map, length}
use Rattle.std.proofs.Common.{sym, ◌∙◌, ⊎_elim, true≢false}
use Rattle.std.proofs.Math.Path.{ap, subst}
use Rattle.std.proofs.Math.Logic.{inl, inr}
use Rattle.std.proofs.Math.Bool.{not}
use Rattle.std.proofs.lemmas.List.{map-append}
use Rattle.foundation.specs.Tests.{and-true, and_intro, or_cases, not-true, not-false}
use Rattle.foundation.specs.Lists.{Mem}
use Rattle.foundation.specs.Graph.{Path, direct, onward, CountedPath, strict_edge, heavy, cyclic, cyclic_path}
use Rattle.foundation.specs.Graph.{cyclic-map}
use Rattle.foundation.specs.GraphFacts.{Ranked, ranked, rank_most, rank-walk}
use Rattle.model.specs.declared.Operator.{Operator}
use Rattle.model.specs.declared.Operator.TheVariants.{Whenever, AsLongAs, WheneverNot, Unless}
use Rattle.model.specs.declared.Rule.{Rule}
use Rattle.model.specs.Stratification.{feeds, links, precedes, negating, negates, weight, stratified}
use Rattle.model.specs.Stratification.{stratum}
use Rattle.model.proofs.FeedingLaws.{precedes_either, links-precedes, weight_is, heavy_either}
use Rattle.model.proofs.FeedingLaws.{weight_small, negates-heavy, links-heavy}
use Rattle.model.specs.Stratification.{FeedingPath, FeedingWalk, unlabelled}

-- 01: "a WHENEVERNOT or UNLESS"
pub negates_is : (r : Rule) → (negates r ≡ true) ↔ ((r.operator ≡ WheneverNot) ⊎ (r.operator ≡ Unless))
negates_is r = (there r.operator, ⊎_elim (λ e. ap negating e) (λ e. ap negating e))
  where
    there : (o : Operator) → negating o ≡ true → (o ≡ WheneverNot) ⊎ (o ≡ Unless)
    there Whenever e = absurd (true≢false (sym e))
    there AsLongAs e = absurd (true≢false (sym e))
    there WheneverNot e = inl refl
    there Unless e = inr refl

-- the paths of `precedes`, and what `weight` counts on them
pub path_feeds : (rules : List Rule) (q r : Rule) → Path precedes precedes rules q r ≡ FeedingPath rules q r
path_feeds rules q r t =
    let edge : Rule → Rule → Bool = λ p s. precedes_either p s t in
    Path edge edge rules q r

walk-feeds : (rules : List Rule) (n : ℕ) (r : Rule) →
    CountedPath precedes weight negates rules n r ≡ FeedingWalk rules n r
walk-feeds rules n r t = CountedPath (λ p s. precedes_either p s t) (λ p s. weight_is p s t) negates rules n r

module _ (rules : List Rule) where
  abbrev Strictly : Rule → Rule → Type 0
  Strictly q r = Path (strict_edge precedes (heavy weight)) precedes rules q r

  -- from a path that begins with a step that counts: that step, and the path from there on
  begins : {q r : Rule} → Strictly q r → Mem r rules →
      (p : Rule) × Mem p rules × (heavy weight q p ≡ true) × (precedes q p ≡ true)
      × ((s : Rule) → precedes r s ≡ true → Path precedes precedes rules p s)
  begins {q} (direct {r} e) m =
      let w = and-true (precedes q r) (heavy weight q r) e in
      (r, m, w.1, w.0, λ s f. direct f)
  begins (onward {p} {r} c n e) m =
      let w = begins c n in
      (w.0, w.1, w.2, w.3, λ s f. onward (w.4 r e) m f)

  -- and back: a path to a rule, closed by a step that counts
  closes : {r p : Rule} → Path precedes precedes rules r p → precedes p r ≡ true → heavy weight p r ≡ true →
      Mem r rules → Strictly p p
  closes {r} {p} c e n m = go c
    where
      go : {s : Rule} → Path precedes precedes rules r s → Strictly p s
      go (direct f) = onward (direct (and_intro (precedes p r) (heavy weight p r) e n)) m f
      go (onward d k f) = onward (go d) k f

  -- a WHENEVERNOT or UNLESS rule has a path to itself, or a link leads from a rule to itself or to one with a
  -- path back
  abbrev pub Forbidden : Type 0
  Forbidden = ((r : Rule) × Mem r rules × (negates r ≡ true) × FeedingPath rules r r)
      ⊎ ((q r : Rule) × Mem q rules × Mem r rules × (links q r ≡ true) × ((r ≡ q) ⊎ FeedingPath rules r q))

  -- 01: "A circle of feeding with a WHENEVERNOT or UNLESS in it is forbidden"; 02: "a circle with such a link
  -- is forbidden"
  pub stratified_path : (stratified rules ≡ false) ↔ Forbidden
  unfolding stratified begins
  stratified_path = (
    (λ e. let w = (cyclic_path precedes (heavy weight) rules).0
        (not-false (cyclic precedes (heavy weight) rules) e) in
        found w.0 w.1 w.2),
    (λ c. ap not (⊎_elim (λ w. circle w.0 w.1 w.2 (there w.0 w.0 w.3))
        (λ w. linked w.0 w.1 w.2 w.3 w.4
        (⊎_elim (λ e. inl e) (λ p. inr (there w.1 w.0 p)) w.5)) c)),
  )
    where
      here : (q r : Rule) → Path precedes precedes rules q r → FeedingPath rules q r
      here q r p = subst (λ (T : Type 0). T) (path_feeds rules q r) p

      there : (q r : Rule) → FeedingPath rules q r → Path precedes precedes rules q r
      there q r p = subst (λ (T : Type 0). T) (sym (path_feeds rules q r)) p

      found : (q : Rule) → Mem q rules → Strictly q q → Forbidden
      found q m c =
          let v = begins c m in
          let p = v.0 in
          or_cases (negates p) (links q p) (sym (heavy_either q p) ∙ v.2)
          (λ n. inl (p, v.1, n, here p p (v.4 p v.3)))
          (λ l. inr (q, p, m, v.1, l, back c))
        where
          back : (c : Strictly q q) → ((begins c m).0 ≡ q) ⊎ FeedingPath rules (begins c m).0 q
          back (direct e) = inl refl
          back (onward {p} d n e) = inr (here (begins d n).0 q ((begins d n).4 q e))

      circle : (r : Rule) → Mem r rules → negates r ≡ true → Path precedes precedes rules r r →
          cyclic precedes (heavy weight) rules ≡ true
      circle r m n (direct e) = (cyclic_path precedes (heavy weight) rules).1
          (r, m, direct (and_intro (precedes r r) (heavy weight r r) e (negates-heavy r r n)))
      circle r m n (onward {p} c k e) =
          (cyclic_path precedes (heavy weight) rules).1 (p, k, closes c e (negates-heavy p r n) m)

      linked : (q r : Rule) → Mem q rules → Mem r rules → links q r ≡ true →
          (r ≡ q) ⊎ Path precedes precedes rules r q → cyclic precedes (heavy weight) rules ≡ true
      linked q r m n l (inl e) =
          let k : links q q ≡ true = ap (λ (z : Rule). links q z) (sym e) ∙ l in
          (cyclic_path precedes (heavy weight) rules).1 (
            q,
            m,
            direct (and_intro (precedes q q) (heavy weight q q) (links-precedes q q k) (links-heavy q q k)),
          )
      linked q r m n l (inr c) = (cyclic_path precedes (heavy weight) rules).1
          (q, m, closes c (links-precedes q r l) (links-heavy q r l) n)

  -- 01: "A rule's rank is the most WHENEVERNOT and UNLESS rules on a feeding path that ends in it, itself
  -- included"; 02: "the link counts one in a rank": a path has as many,
  pub stratum-walk : (r : Rule) → FeedingWalk rules (stratum rules r) r
  unfolding stratum
  stratum-walk r = subst (λ (T : Type 0). T) (walk-feeds rules (stratum rules r) r)
      (rank-walk precedes weight negates rules weight_small r)

  module _ (s : stratified rules ≡ true) where
    free : cyclic precedes (heavy weight) rules ≡ false
    unfolding stratified
    free = not-true (cyclic precedes (heavy weight) rules) s

    -- and none has more
    pub stratum-most : (r : Rule) → Mem r rules → {n : ℕ} → FeedingWalk rules n r → n ≤ stratum rules r
    unfolding stratum
    stratum-most r m {n} w = rank_most precedes weight negates rules weight_small free r m
        (subst (λ (T : Type 0). T) (sym (walk-feeds rules n r)) w)

    laws : Ranked precedes weight negates rules
    laws = ranked precedes weight negates rules weight_small free

    -- the rank of a rule that r looks at is not above r's,
    pub feeder_not-above : (q r : Rule) → Mem q rules → Mem r rules → precedes q r ≡ true →
        stratum rules q ≤ stratum rules r
    unfolding stratum
    feeder_not-above q r m n e = laws.atmost q r m n e

    -- and below it where the step counts
    pub feeder_below : (q r : Rule) → Mem q rules → Mem r rules → precedes q r ≡ true →
        heavy weight q r ≡ true →
        stratum rules q < stratum rules r
    unfolding stratum
    feeder_below q r m n e g = laws.less q r m n e g

    pub stratum-few : (r : Rule) → Mem r rules → stratum rules r ≤ 2 * length rules
    unfolding stratum
    stratum-few r m = laws.few r m

-- ---- labels do not matter

unlabelled_same : (rules : List Rule) → stratified (map unlabelled rules) ≡ stratified rules
unfolding stratified precedes feeds links weight
unlabelled_same rules = ap not (cyclic-map unlabelled precedes rules (heavy weight))

-- one more rule, under this label or another
pub label-free : (rules : List Rule) (r u : Rule) → unlabelled r ≡ unlabelled u →
    stratified (rules ++ (r ∷ [])) ≡ stratified (rules ++ (u ∷ []))
label-free rules r u e = sym (unlabelled_same (rules ++ (r ∷ [])))
    ∙ ap stratified (map-append unlabelled rules (r ∷ [])
    ∙ ap (λ (x : Rule). map unlabelled rules ++ (x ∷ [])) e
    ∙ sym (map-append unlabelled rules (u ∷ [])))
    ∙ unlabelled_same (rules ++ (u ∷ []))

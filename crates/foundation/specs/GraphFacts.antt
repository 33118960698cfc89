-- Ranks in a graph where no strict edge lies on a cycle: they rise along the edges, strictly along the strict
-- ones, none exceeds the number of nodes (`ranked`), and they are the most that a walk counts (`rank_most`,
-- `rank-walk`). As many rounds as there are nodes find them (`rank-soon`). At the end, for code that computes
-- them: rounds until nothing changes, or until a rank exceeds the number of nodes.
use Rattle.std.specs.Prelude.{◌≡◌, ◌⊎◌, ◌↔◌, Bool, true, false, not, List, [], ◌∷◌, leb}
use Rattle.std.proofs.Math.Path.{refl, sym}
use Rattle.std.proofs.Common.{ap, ap₂, ◌∙◌, inl, inr, ⊎_elim}
use Prim.Native.Nat.{ℕ, zero, suc, ◌+◌, ◌-◌, ◌*◌, ◌≤◌, ◌<◌, max}
use native.Mathlib.Omega.{arith}
use Rattle.std.proofs.Math.ListN.{length}
use Rattle.foundation.specs.Tests.{cases, must_fail, and-true, and_intro, le-true, true-le, false-le}
use Rattle.foundation.specs.Lists.{keep_if, Mem, keep_if-mem, kept}
use Rattle.foundation.specs.Totals.{total-le, still_after}
use Rattle.foundation.specs.BitMasks.{as_bit, bit_le, bit_mono, bit_same}
use Rattle.foundation.specs.Closure.{set_size, set_size-le, set_size_mono, set_size-less}
use Rattle.foundation.specs.Graph.{Path, direct, onward, reaches, strict_edge, cyclic, most, heavy}
use Rattle.foundation.specs.Graph.{rank_in, rank}
use Rattle.foundation.specs.Graph.{CountedPath, alone, then, reaches_path, cyclic_path}

-- ---- the most of a list

module _ {K : Type 0} where
  pub most-le : (f : K → ℕ) (l : List K) (b : ℕ) → ((r : K) → Mem r l → f r ≤ b) → most f l ≤ b
  most-le f [] b h = omega arith
  most-le f (r ∷ l) b h = omega (arith, h r (inl refl), most-le f l b (λ q m. h q (inr m)))

  pub le-most : (f : K → ℕ) (l : List K) (r : K) → Mem r l → f r ≤ most f l
  le-most f [] r m = absurd m.lower
  le-most f (q ∷ l) r (inl e) = rw e (omega arith)
  le-most f (q ∷ l) r (inr m) = omega (arith, le-most f l r m)

  most_cong : (f g : K → ℕ) (l : List K) → ((r : K) → Mem r l → f r ≡ g r) → most f l ≡ most g l
  most_cong f g [] h = refl
  most_cong f g (r ∷ l) h = ap₂ max (h r (inl refl)) (most_cong f g l (λ q m. h q (inr m)))

  -- b, or f of a member, is the largest of all these
  abbrev From : (K → ℕ) → List K → ℕ → Type 0
  From f l b = (max b (most f l) ≡ b) ⊎ ((q : K) × Mem q l × (max b (most f l) ≡ f q))

  most-from : (f : K → ℕ) (l : List K) (b : ℕ) → From f l b
  most-from f [] b = inl (omega arith)
  most-from f (r ∷ l) b = cases (leb (f r) (max b (most f l)))
      (λ e. let n = true-le (f r) (max b (most f l)) e in ⊎_elim
      (λ q. inl (omega arith))
      (λ w. inr (w.0, inr w.1, omega (arith, w.2)))
      (most-from f l b))
      (λ e. let n = false-le (f r) (max b (most f l)) e in inr (r, inl refl, omega arith))

-- ---- rounds

pub record Ranked {K : Type 0} (edge : K → K → Bool) (weight : K → K → ℕ) (own : K → Bool) (nodes : List K) :
    Type 0 where
  pub atmost : (q r : K) → Mem q nodes → Mem r nodes → edge q r ≡ true →
      rank edge weight own nodes q ≤ rank edge weight own nodes r
  pub less : (q r : K) → Mem q nodes → Mem r nodes → edge q r ≡ true → heavy weight q r ≡ true →
      rank edge weight own nodes q < rank edge weight own nodes r
  pub few : (r : K) → Mem r nodes → rank edge weight own nodes r ≤ 2 * length nodes

module _ {K : Type 0} (edge : K → K → Bool) (weight : K → K → ℕ) (own : K → Bool) (nodes : List K)
    (weight_small : (q r : K) → weight q r ≤ 2) where
  abbrev strict : K → K → Bool
  strict = heavy weight

  -- the rank after n rounds
  abbrev after : ℕ → K → ℕ
  after n = rank_in edge weight own n nodes

  -- one more round changes no node's rank
  abbrev pub Still : ℕ → Type 0
  Still n = (r : K) → Mem r nodes → rank_in edge weight own n nodes r ≡ rank_in edge weight own (suc n) nodes r

  -- the nodes with an edge to r, and what such a node q contributes
  abbrev before : K → List K
  before r = keep_if (λ q. edge q r) nodes

  abbrev by : ℕ → K → K → ℕ
  by n r q = weight q r + after n q

  rank-zero : (r : K) → after zero r ≡ as_bit (own r)
  unfolding rank_in
  rank-zero r = refl

  rank_step : (n : ℕ) (r : K) → after (suc n) r ≡ max (as_bit (own r)) (most (by n r) (before r))
  unfolding rank_in
  rank_step n r = refl

  own_le : (n : ℕ) (r : K) → as_bit (own r) ≤ after n r
  own_le zero r = omega (arith, rank-zero r)
  own_le (suc n) r = omega (arith, rank_step n r)

  by_le : (n : ℕ) (q r : K) → Mem q nodes → edge q r ≡ true → by n r q ≤ after (suc n) r
  by_le n q r m e = omega (
    arith,
    rank_step n r,
    le-most (by n r) (before r) q (keep_if-mem (λ q. edge q r) nodes q m e),
  )

  -- no more than what the node has of its own and what others contribute
  after-le : (n b : ℕ) (r : K) → as_bit (own r) ≤ b →
      ((q : K) → Mem q nodes → edge q r ≡ true → by n r q ≤ b) →
      after (suc n) r ≤ b
  after-le n b r g h = omega (
    arith,
    rank_step n r,
    most-le (by n r) (before r) b
        (λ q k. let w = kept (λ q. edge q r) nodes q k in h q w.0 w.1),
  )

  rises : (n : ℕ) (r : K) → after n r ≤ after (suc n) r
  rises zero r = omega (arith, rank-zero r, own_le 1 r)
  rises (suc n) r = after-le n (after (suc (suc n)) r) r (own_le (suc (suc n)) r)
      (λ q m e. omega (arith, rises n q, by_le (suc n) q r m e))

  -- a round adds at most two
  pub rank-rounds : (n : ℕ) (r : K) → rank_in edge weight own n nodes r ≤ 2 * n + 1
  rank-rounds zero r = omega (arith, rank-zero r, bit_le (own r))
  rank-rounds (suc n) r = after-le n (2 * suc n + 1) r (omega (arith, bit_le (own r)))
      (λ q m e. omega (arith, rank-rounds n q, weight_small q r))

  -- a bound that every node's own and every edge keep to is kept to by the ranks
  within : (g : K → ℕ) → ((r : K) → Mem r nodes → as_bit (own r) ≤ g r) →
      ((q r : K) → Mem q nodes → Mem r nodes → edge q r ≡ true → weight q r + g q ≤ g r) →
      (n : ℕ) (r : K) → Mem r nodes → after n r ≤ g r
  within g a b zero r m = omega (arith, rank-zero r, a r m)
  within g a b (suc n) r m = after-le n (g r) r (a r m)
      (λ q k e. omega (arith, within g a b n q k, b q r k m e))

  -- a round looks at the nodes' ranks only
  step_cong : (m n : ℕ) → ((q : K) → Mem q nodes → after m q ≡ after n q) →
      (r : K) → after (suc m) r ≡ after (suc n) r
  step_cong m n h r = rank_step m r ∙ ap (max (as_bit (own r))) (most_cong (by m r) (by n r) (before r)
      (λ q k. ap (λ (i : ℕ). weight q r + i) (h q (kept (λ q. edge q r) nodes q k).0))) ∙ sym (rank_step n r)

  -- some walk counts as much
  walk_after : (n : ℕ) (r : K) → CountedPath edge weight own nodes (after n r) r
  walk_after zero r = rw (rank-zero r) alone
  walk_after (suc n) r = rw (rank_step n r) (⊎_elim
      (λ e. rw e alone)
      (λ w. let k = kept (λ q. edge q r) nodes w.0 w.1 in
      rw w.2 (then (walk_after n w.0) k.0 k.1))
      (most-from (by n r) (before r) (as_bit (own r))))

  -- the rank is what some walk counts
  pub rank-walk : (r : K) → CountedPath edge weight own nodes (rank edge weight own nodes r) r
  unfolding rank
  rank-walk r = walk_after (length nodes * (2 * length nodes)) r

  rank_own : (r : K) → as_bit (own r) ≤ rank edge weight own nodes r
  unfolding rank
  rank_own r = own_le (length nodes * (2 * length nodes)) r

  -- ---- no strict edge lies on a cycle

  module _ (free : cyclic edge strict nodes ≡ false) where
    -- a path that begins with a strict edge leads from q to r
    abbrev above : K → K → Bool
    above r q = reaches (strict_edge edge strict) edge nodes q r

    above_path : (q r : K) → Mem r nodes → (above r q ≡ true) ↔ Path (strict_edge edge strict) edge nodes q r
    above_path = reaches_path (strict_edge edge strict) edge nodes

    no_return : (r : K) → Mem r nodes → above r r ≡ false
    no_return r m = must_fail (cyclic edge strict nodes) (above r r) free
        (λ e. (cyclic_path edge strict nodes).1 (r, m, (above_path r r m).0 e))

    -- an edge to r: what is above q is above r, and so is q itself, which is not above q, if the edge is
    -- strict
    above-less : (q r : K) → Mem q nodes → Mem r nodes → edge q r ≡ true →
        weight q r + 2 * set_size (above q) nodes ≤ 2 * set_size (above r) nodes
    above-less q r m n e = cases (strict q r)
        (λ s. omega (
          arith,
          weight_small q r,
          set_size-less (above q) (above r) nodes more q m (no_return q m)
              ((above_path q r n).1 (direct (and_intro (edge q r) (strict q r) e s))),
        ))
        (λ s. omega (arith, false-le 1 (weight q r) s, set_size_mono (above q) (above r) nodes more))
      where
        more : (p : K) → Mem p nodes → above q p ≡ true → above r p ≡ true
        more p k a = (above_path p r n).1 (onward ((above_path p q m).0 a) m e)

    after-above : (n : ℕ) (r : K) → Mem r nodes → after n r ≤ 1 + 2 * set_size (above r) nodes
    after-above = within (λ r. 1 + 2 * set_size (above r) nodes) (λ r m. omega (arith, bit_le (own r)))
        (λ q r m k e. omega (arith, above-less q r m k e))

    -- r itself is not above r
    after-few : (n : ℕ) (r : K) → Mem r nodes → after n r ≤ 2 * length nodes
    after-few n r m = omega (
      arith,
      after-above n r m,
      set_size-le (λ p. true) nodes,
      set_size-less (above r) (λ p. true) nodes (λ p k a. refl) r m (no_return r m) refl,
    )

    -- the rank's rounds are enough
    pub rank_settled : Still (length nodes * (2 * length nodes))
    rank_settled = still_after nodes after (length nodes * (2 * length nodes)) (λ n r m. rises n r)
        (λ n h r m. step_cong n (suc n) h r)
        (λ n. total-le (after n) (2 * length nodes) nodes (after-few n)) (length nodes * (2 * length nodes))
        (omega arith)

    -- what q contributes is in r's rank
    rank_by : (q r : K) → Mem q nodes → Mem r nodes → edge q r ≡ true →
        weight q r + rank edge weight own nodes q ≤ rank edge weight own nodes r
    unfolding rank
    rank_by q r m n e = omega (arith, by_le (length nodes * (2 * length nodes)) q r m e, rank_settled r n)

    pub ranked : Ranked edge weight own nodes
    unfolding rank
    ranked = record {
      atmost = λ q r m n e. omega (arith, rank_by q r m n e);
      less = λ q r m n e s. omega (arith, rank_by q r m n e, true-le 1 (weight q r) s);
      few = after-few (length nodes * (2 * length nodes));
    }

    walk-le : {n : ℕ} {r : K} → CountedPath edge weight own nodes n r → Mem r nodes →
        n ≤ rank edge weight own nodes r
    walk-le (alone {r}) m = rank_own r
    walk-le (then {n} {q} {r} w k e) m = omega (arith, walk-le w k, rank_by q r k m e)

    -- no walk counts more
    pub rank_most : (r : K) → Mem r nodes → {n : ℕ} → CountedPath edge weight own nodes n r →
        n ≤ rank edge weight own nodes r
    rank_most r m w = walk-le w m

    -- ---- as many rounds as there are nodes are enough: each finds the rank of one node more, until all are
    -- found

    -- n rounds find the rank of r
    abbrev known : ℕ → K → Bool
    known n r = leb (rank edge weight own nodes r) (after n r)

    known-le : (n : ℕ) (r : K) → known n r ≡ true → rank edge weight own nodes r ≤ after n r
    known-le n r e = true-le (rank edge weight own nodes r) (after n r) e

    unknown_less : (n : ℕ) (r : K) → known n r ≡ false → after n r < rank edge weight own nodes r
    unknown_less n r e = false-le (rank edge weight own nodes r) (after n r) e

    known_on : (n : ℕ) (r : K) → known n r ≡ true → known (suc n) r ≡ true
    known_on n r e = le-true (rank edge weight own nodes r) (after (suc n) r)
        (omega (arith, known-le n r e, rises n r))

    -- if a round finds no further one, all were found: else one less for each that is missing would bound the
    -- ranks
    module _ (n : ℕ) (none : (r : K) → Mem r nodes → as_bit (known n r) ≡ as_bit (known (suc n) r)) where
      abbrev lower : K → ℕ
      lower r = rank edge weight own nodes r - as_bit (not (known n r))

      lower_own : (r : K) → Mem r nodes → as_bit (own r) ≤ lower r
      lower_own r m = cases (known n r)
          (λ e. rw e (omega (arith, rank_own r)))
          (λ e. rw e (omega (arith, unknown_less n r e, own_le n r)))

      lower-edge : (q r : K) → Mem q nodes → Mem r nodes → edge q r ≡ true → weight q r + lower q ≤ lower r
      lower-edge q r m k e = cases (known n r)
          (λ a. rw a (omega (arith, rank_by q r m k e)))
          (λ a. cases (known n q)
          (λ b. let less = unknown_less (suc n) r (sym (bit_same (known n r) (known (suc n) r) (none r k))
          ∙ a) in
          rw (a, b) (omega (arith, known-le n q b, by_le n q r m e)))
          (λ b. rw (a, b) (omega (arith, unknown_less n q b, rank_by q r m k e))))

      known_all : (r : K) → Mem r nodes → known n r ≡ true
      unfolding rank
      known_all r m = cases (known n r) (λ e. e) (λ e. absurd (omega (
        arith,
        unknown_less n r e,
        rw e at (within lower lower_own lower-edge (length nodes * (2 * length nodes)) r m),
      )))

    all_known : (r : K) → Mem r nodes → known (length nodes) r ≡ true
    all_known = known_all (length nodes) (still_after nodes (λ n r. as_bit (known n r)) (length nodes)
        (λ n r m. bit_mono (known n r) (known (suc n) r) (known_on n r))
        (λ n h r m. let e = known_on n r (known_all n h r m) in ap as_bit (e ∙ sym (known_on (suc n) r e)))
        (λ n. omega (arith, total-le (λ r. as_bit (known n r)) 1 nodes (λ r m. bit_le (known n r))))
        (length nodes) (omega arith))

    known-rank : (n : ℕ) (r : K) → Mem r nodes → known n r ≡ true → after n r ≡ rank edge weight own nodes r
    known-rank n r m e = omega (
      arith,
      known-le n r e,
      within (rank edge weight own nodes) (λ r m. rank_own r) rank_by n r m,
    )

    pub rank_soon : Still (length nodes)
    rank_soon r m =
        let e = all_known r m in
        known-rank (length nodes) r m e ∙ sym (known-rank (suc (length nodes)) r m
        (known_on (length nodes) r e))

  -- ---- for code: rounds until nothing changes, or until a rank exceeds the number of nodes

  -- nothing changes any more
  pub still_on : (n j : ℕ) → Still n → n ≤ j → (r : K) → Mem r nodes →
      rank_in edge weight own j nodes r ≡ rank_in edge weight own n nodes r
  still_on n zero h l r m = let e : 0 ≡ n = omega arith in ap (λ (k : ℕ). after k r) e
  still_on n (suc j) h l r m = cases (leb n j)
      (λ e. step_cong j n (still_on n j h (true-le n j e)) r ∙ sym (h r m))
      (λ e. let g = false-le n j e in let q : suc j ≡ n = omega arith in ap (λ (k : ℕ). after k r) q)

  -- the ranks rise along a path that begins with a strict edge
  still_less : (n : ℕ) → Still n → {q r : K} → Path (strict_edge edge strict) edge nodes q r →
      Mem q nodes → Mem r nodes → after n q < after n r
  still_less n h {q} (direct {r} e) m k =
      let w = and-true (edge q r) (strict q r) e in
      omega (arith, by_le n q r m w.0, true-le 1 (weight q r) w.1, h r k)
  still_less n h (onward {p} {r} c j e) m k = omega (arith, still_less n h c m j, by_le n p r j e, h r k)

  -- then no strict edge lies on a cycle
  pub still_sound : (n : ℕ) → Still n → cyclic edge strict nodes ≡ false
  still_sound n h = cases (cyclic edge strict nodes)
      (λ e. let w = (cyclic_path edge strict nodes).0 e in
      absurd (omega (arith, still_less n h w.2 w.1 w.1)))
      (λ e. e)

  -- and the ranks are found
  pub still_rank : (n : ℕ) → Still n → (r : K) → Mem r nodes →
      rank edge weight own nodes r ≡ rank_in edge weight own n nodes r
  unfolding rank
  still_rank n h r m =
      let j : ℕ = length nodes * (2 * length nodes) in
      cases (leb n j)
      (λ e. still_on n j h (true-le n j e) r m)
      (λ e. let l = false-le n j e in sym (still_on j n (rank_settled (still_sound n h)) (omega arith) r m))

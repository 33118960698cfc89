-- Directed graphs over a list of nodes: paths, cycles through a strict edge, and ranks. `edge` says which
-- node leads to which, `strict` which edges no cycle may have, `weight` what an edge counts in a rank, and
-- `own` which nodes count by themselves. `reaches-path` and `cyclic-path`: the tests find exactly the paths.
-- `cyclic-map`: nodes may have other names. What ranks are is shown in GraphFacts.
use Rattle.std.specs.Prelude.{◌≡◌, ◌↔◌, Bool, false, ◌&&◌, ◌||◌, List, [], ◌∷◌, map, ltb}
use Rattle.std.proofs.Math.Path.{refl, ap}
use Rattle.std.proofs.Common.{◌∙◌, arith}
use Prim.Native.Nat.{ℕ, zero, suc, ◌+◌, ◌*◌, max}
use Rattle.std.proofs.Math.Bool.{true}
use Rattle.std.proofs.lemmas.Bool.{false≢true}
use Rattle.std.proofs.Math.ListN.{length}
use Rattle.std.proofs.lemmas.List.{length-map}
use Rattle.foundation.specs.Tests.{and-true, and_intro, or_true_right, or_intro_left, or_cases}
use Rattle.foundation.specs.Lists.{anyb, keep_if, Mem, any_mem, mem_any, any_cong, any_cong_mem, any_map}
use Rattle.foundation.specs.BitMasks.{as_bit}
use Rattle.foundation.specs.Closure.{iter, settled}

module _ {K : Type 0} where
  -- a path from q: its first edge is one of `first`, every further one is of `edge` and leaves a node of the
  -- list
  pub data Path (first edge : K → K → Bool) (nodes : List K) (q : K) : K → Type 0 where
    direct : {r : K} → first q r ≡ true → Path first edge nodes q r
    onward : {p r : K} → Path first edge nodes q p → Mem p nodes → edge p r ≡ true → Path first edge nodes q r

  -- q leads to r, or a node of S does. S is asked only of nodes with an edge to r
  abbrev pub further : (first edge : K → K → Bool) → List K → K → (K → Bool) → K → Bool
  further first edge nodes q S r =
      let over = anyb (λ p. let s = S p in edge p r && s) nodes in
      first q r || over

  -- a path leads from q to r: as many rounds as there are nodes find it (`reaches-path`)
  unfoldable pub reaches : (first edge : K → K → Bool) → List K → K → K → Bool
  unfolding iter
  reaches first edge nodes q r = iter (further first edge nodes q) (length nodes) (λ r. false) r

  abbrev pub strict_edge : (edge strict : K → K → Bool) → K → K → Bool
  strict_edge edge strict q r = edge q r && strict q r

  -- a strict edge lies on a cycle (`cyclic-path`)
  unfoldable pub cyclic : (edge strict : K → K → Bool) → List K → Bool
  unfolding reaches
  cyclic edge strict nodes = anyb (λ q. reaches (strict_edge edge strict) edge nodes q q) nodes

  -- the largest value of f on the list, 0 on none
  abbrev pub most : (K → ℕ) → List K → ℕ
  most f [] = 0
  most f (r ∷ rs) = max (f r) (most f rs)

  -- an edge that counts is strict
  abbrev pub heavy : (K → K → ℕ) → K → K → Bool
  heavy weight q r = ltb 0 (weight q r)

  -- the most that a path of at most n edges counts which ends in r: its edges' weights, and its first node's
  -- own
  unfoldable pub rank_in : (edge : K → K → Bool) (weight : K → K → ℕ) (own : K → Bool) → ℕ → List K → K → ℕ
  rank_in edge weight own zero nodes r = as_bit (own r)
  rank_in edge weight own (suc n) nodes r = max (as_bit (own r))
      (most (λ q. weight q r + rank_in edge weight own n nodes q) (keep_if (λ q. edge q r) nodes))

  -- rounds enough that one more adds nothing, if no edge that counts lies on a cycle (`rank-settled`)
  unfoldable pub rank : (edge : K → K → Bool) (weight : K → K → ℕ) (own : K → Bool) → List K → K → ℕ
  unfolding rank_in
  rank edge weight own nodes r = rank_in edge weight own (length nodes * (2 * length nodes)) nodes r

  -- a path that ends in r, with what it counts
  pub data CountedPath (edge : K → K → Bool) (weight : K → K → ℕ) (own : K → Bool) (nodes : List K) :
      ℕ → K → Type 0 where
    alone : {r : K} → CountedPath edge weight own nodes (as_bit (own r)) r
    then : {n : ℕ} {q r : K} → CountedPath edge weight own nodes n q → Mem q nodes → edge q r ≡ true →
        CountedPath edge weight own nodes (weight q r + n) r

-- ---- what `reaches` finds

module _ {K : Type 0} (first edge : K → K → Bool) (nodes : List K) (q : K) where
  abbrev round : (K → Bool) → K → Bool
  round = further first edge nodes q

  -- a node of S has an edge to r
  abbrev over : (K → Bool) → K → Bool
  over S r = anyb (λ p. edge p r && S p) nodes

  over_node : (S : K → Bool) (r : K) → over S r ≡ true →
      (p : K) × Mem p nodes × (edge p r ≡ true) × (S p ≡ true)
  over_node S r e =
      let m = any_mem (λ p. edge p r && S p) nodes e in
      let w = and-true (edge m.0 r) (S m.0) m.2 in
      (m.0, m.1, w.0, w.1)

  node_over : (S : K → Bool) (r p : K) → Mem p nodes → edge p r ≡ true → S p ≡ true → round S r ≡ true
  node_over S r p m e s = or_true_right (first q r) (over S r)
      (mem_any (λ p. edge p r && S p) nodes p m (and_intro (edge p r) (S p) e s))

  round_mono : (S Q : K → Bool) → ((r : K) → S r ≡ true → Q r ≡ true) → (r : K) → round S r ≡ true →
      round Q r ≡ true
  round_mono S Q h r e = or_cases (first q r) (over S r) e
      (λ a. or_intro_left (first q r) (over Q r) a)
      (λ a. let w = over_node S r a in node_over Q r w.0 w.1 w.2 (h w.0 w.3))

  -- one more round finds nothing new
  reaches_closed : (r : K) → Mem r nodes → reaches first edge nodes q r ≡ round (reaches first edge nodes q) r
  unfolding reaches
  reaches_closed r m = settled nodes round
      (λ S. (r : K) → S r ≡ true → round S r ≡ true)
      (λ S g. round_mono S (round S) g)
      (λ S Q g g' h r m. ap (λ (b : Bool). first q r || b)
      (any_cong_mem (λ p. edge p r && S p) (λ p. edge p r && Q p)
      nodes (λ p n. ap (λ (b : Bool). edge p r && b) (h p n))))
      (λ S g r e. g r e)
      (λ r. false) (λ r e. absurd (false≢true e)) (length nodes) (omega arith) r m

  found : (n : ℕ) (r : K) → iter round n (λ r. false) r ≡ true → Path first edge nodes q r
  unfolding iter
  found zero r e = absurd (false≢true e)
  found (suc n) r e = or_cases (first q r) (over (iter round n (λ r. false)) r) e
      (λ a. direct a)
      (λ a. let w = over_node (iter round n (λ r. false)) r a in onward (found n w.0 w.3) w.1 w.2)

  finds : {r : K} → Path first edge nodes q r → Mem r nodes → reaches first edge nodes q r ≡ true
  finds (direct {r} e) m = reaches_closed r m ∙ or_intro_left (first q r)
      (over (reaches first edge nodes q) r) e
  finds (onward {p} {r} c n e) m = reaches_closed r m
      ∙ node_over (reaches first edge nodes q) r p n e (finds c n)

  pub reaches_path : (r : K) → Mem r nodes → (reaches first edge nodes q r ≡ true) ↔ Path first edge nodes q r
  unfolding reaches
  reaches_path r m = (found (length nodes) r, λ c. finds c m)

-- from some node a path that begins with a strict edge leads back to it
pub cyclic_path : {K : Type 0} (edge strict : K → K → Bool) (nodes : List K) →
    (cyclic edge strict nodes ≡ true) ↔ ((q : K) × Mem q nodes × Path (strict_edge edge strict) edge nodes q q)
unfolding cyclic
cyclic_path {K} edge strict nodes = (
  (λ e. let w = any_mem back nodes e in
      (w.0, w.1, (reaches_path (strict_edge edge strict) edge nodes w.0 w.0 w.1).0 w.2)),
  (λ c. mem_any back nodes c.0 c.1
      ((reaches_path (strict_edge edge strict) edge nodes c.0 c.0 c.1).1 c.2)),
)
  where
    back : K → Bool
    back q = reaches (strict_edge edge strict) edge nodes q q

-- ---- nodes under other names

-- edges that look at the nodes through f only are those between their images
module _ {K L : Type 0} (f : K → L) (edge : L → L → Bool) (nodes : List K) where
  abbrev through : (L → L → Bool) → K → K → Bool
  through link q r = link (f q) (f r)

  iter-map : (first : L → L → Bool) (q : K) (n : ℕ) (r : K) →
      iter (further first edge (map f nodes) (f q)) n (λ p. false) (f r)
      ≡ iter (further (through first) (through edge) nodes q) n (λ p. false) r
  unfolding iter
  iter-map first q zero r = refl
  iter-map first q (suc n) r = ap (λ (b : Bool). first (f q) (f r) || b)
      (any_map (λ p. edge p (f r) && iter (further first edge (map f nodes) (f q)) n (λ p. false) p) f nodes
      ∙ any_cong (λ p. edge (f p) (f r) && iter (further first edge (map f nodes) (f q)) n (λ p. false) (f p))
      (λ p. edge (f p) (f r) && iter (further (through first) (through edge) nodes q) n (λ p. false) p) nodes
      (λ p. ap (λ (b : Bool). edge (f p) (f r) && b) (iter-map first q n p)))

  reaches-map : (first : L → L → Bool) (q : K) →
      reaches first edge (map f nodes) (f q) (f q) ≡ reaches (through first) (through edge) nodes q q
  unfolding reaches
  reaches-map first q =
      ap (λ (n : ℕ). iter (further first edge (map f nodes) (f q)) n (λ p. false) (f q)) (length-map nodes f)
      ∙ iter-map first q (length nodes) q

  pub cyclic-map : (strict : L → L → Bool) →
      cyclic edge strict (map f nodes) ≡ cyclic (λ q r. edge (f q) (f r)) (λ q r. strict (f q) (f r)) nodes
  unfolding cyclic
  cyclic-map strict = any_map (λ q. reaches (strict_edge edge strict) edge (map f nodes) q q) f nodes
      ∙ any_cong (λ q. reaches (strict_edge edge strict) edge (map f nodes) (f q) (f q))
      (λ q. reaches (strict_edge (through edge) (through strict)) (through edge) nodes q q) nodes
      (reaches-map (strict_edge edge strict))

-- The steps into a rule: they come from rules that are there, and what a round makes of them is what it makes
-- of the rules (`row_raised`).
use Rattle.std.proofs.Common.{sym, ap, ◌∙◌, arith, get_or-drop, drop-drop, append_assoc}
use Rattle.std.specs.Prelude.{◌≡◌, true, false, List, [], ◌∷◌, ℕ, zero, suc, ◌+◌, ◌*◌, ◌/◌, ◌%◌, ◌≤◌, ◌<◌, max, map, fold, length, take, drop, get_or, set, ◌++◌, Option, None, Some, is_some}
use Rattle.std.specs.List.{All}
use Rattle.std.proofs.lemmas.Bool.{false≢true}
use Rattle.std.proofs.lemmas.List.{take_more_set}
use Rattle.foundation.specs.Tests.{cases}
use Rattle.foundation.specs.Lists.{keep_if}
use Rattle.foundation.specs.Graph.{most}
use Rattle.foundation.specs.BitMasks.{as_bit}
use Rattle.model.specs.declared.Rule.{Rule}
use Rattle.model.specs.Stratification.{precedes}
use Rattle.model.proofs.FeedingLaws.{weight_small}
use Rattle.rules.specs.RankTables.{count_of, own_count, step_of, raised}
use Rattle.rules.specs.Edges.{steps_into, row_of, best_of}
use Rattle.rules.specs.declared.ranks.Counting.{Counting}
use Rattle.rules.specs.declared.ranks.Counting.TheVariants.{Steps, Strata}

pub count_small : (counting : Counting) (q r : Rule) → count_of counting q r ≤ 2
count_small Steps q r = omega arith
count_small Strata q r = weight_small q r

-- ---- a step, and a row's steps one by one

pub step_some : (counting : Counting) (q r : Rule) (n : ℕ) → step_of counting q r ≡ Some n →
    (precedes q r ≡ true) × (n ≡ count_of counting q r)
step_some counting q r n e = cases (precedes q r)
    (λ p. let z : Some (count_of counting q r) ≡ Some n = rw p at e in (p, sym (ap (λ (o : Option ℕ). elim o [ None ↦ 0 | Some k ↦ k ]) z)))
    (λ p. let z : None ≡ Some n = rw p at e in absurd (false≢true (ap is_some z)))

pub step_none : (counting : Counting) (q r : Rule) → step_of counting q r ≡ None → precedes q r ≡ false
step_none counting q r e = cases (precedes q r)
    (λ p. let z : Some (count_of counting q r) ≡ None = rw p at e in absurd (false≢true (sym (ap is_some z))))
    (λ p. p)

module _ (counting : Counting) (rules : List Rule) (q r : Rule) (i : ℕ) (e : drop i rules ≡ q ∷ drop (i + 1) rules)
    (steps : List ℕ) (len : ℕ) where
  abbrev left : List ℕ
  left = take len steps ++ steps_into counting r (drop i rules) i

  pub one_more : (n : ℕ) → step_of counting q r ≡ Some n → len < length steps →
      take (len + 1) (set steps len (3 * i + n)) ++ steps_into counting r (drop (i + 1) rules) (i + 1) ≡ left
  one_more n h low =
      let w = step_some counting q r n h in
      let next : i + 1 ≡ suc i = omega arith in
      rw (e, take_more_set steps len (3 * i + n) low, w.0, w.1, next) (append_assoc (take len steps) _ _)

  pub no_more : step_of counting q r ≡ None →
      take len steps ++ steps_into counting r (drop (i + 1) rules) (i + 1) ≡ left
  no_more h = let next : i + 1 ≡ suc i = omega arith in rw (e, step_none counting q r h, next)

pub all_cons : {A : Type 0} (P : A → Type 0) (x : A) (xs : List A) → P x → All P xs → All P (x ∷ xs)
all_cons P x xs p h zero d k = p
all_cons P x xs p h (suc i) d k = h i d (omega arith)

-- ---- a table's numbers

-- where the first numbers from a place on are known, so is the one there, and those behind it
front : (l : List ℕ) (y n : ℕ) (ys : List ℕ) → take (suc n) l ≡ y ∷ ys → (get_or l 0 0 ≡ y) × (take n (drop 1 l) ≡ ys)
front [] y n ys e = absurd (omega (arith, ap length e))
front (x ∷ l) y n ys e = (ap (λ (t : List ℕ). get_or t 0 0) e, ap (drop 1) e)

module _ (counting : Counting) (r : Rule) (l : List ℕ) where
  -- what a step makes of them
  abbrev through : ℕ → ℕ
  through x = x % 3 + get_or l (x / 3) 0

  module _ (f : Rule → ℕ) where
    abbrev by : Rule → ℕ
    by q = count_of counting q r + f q

    steps_best : (qs : List Rule) (i b : ℕ) → take (length qs) (drop i l) ≡ map f qs →
        fold max b (map through (steps_into counting r qs i)) ≡ max b (most by (keep_if (λ q. precedes q r) qs))
    steps_best [] i b e = omega arith
    steps_best (q ∷ qs) i b e =
        let w = front (drop i l) (f q) (length qs) (map f qs) e in
        let same : i ≡ i + 0 = omega arith in
        let here : get_or l i 0 ≡ f q = ap (λ (k : ℕ). get_or l k 0) same ∙ sym (get_or-drop i l 0 0) ∙ w.0 in
        let behind : take (length qs) (drop (suc i) l) ≡ map f qs =
        let next : i + 1 ≡ suc i = omega arith in
        ap (take (length qs)) (sym (drop-drop 1 i l ∙ ap (λ (k : ℕ). drop k l) next)) ∙ w.1 in
        cases (precedes q r)
        (λ p. rw p (
        let x : ℕ = 3 * i + count_of counting q r in
        let c = count_small counting q r in
        let n : x / 3 ≡ i = omega arith in
        let v : through x ≡ by q = omega (arith, ap (λ (k : ℕ). get_or l k 0) n) in
        steps_best qs (suc i) (max b (through x)) behind ∙ omega (arith, v)))
        (λ p. rw p (steps_best qs (suc i) b behind))

  -- a step fits where the rule that it comes from is there, and each of those has a number
  module _ (n : ℕ) (few : n ≤ 65) (small : (k : ℕ) → k < n → get_or l k 0 < 65000) where
    abbrev Fits : ℕ → Type 0
    Fits x = (x / 3 < 65) × (get_or l (x / 3) 0 < 65000)

    pub steps_fit : (qs : List Rule) (i : ℕ) → i + length qs ≤ n → All Fits (steps_into counting r qs i)
    steps_fit [] i h = λ k d m. absurd (omega arith)
    steps_fit (q ∷ qs) i h = cases (precedes q r)
        (λ p. rw p (
        let x : ℕ = 3 * i + count_of counting q r in
        let c = count_small counting q r in
        let n : x / 3 ≡ i = omega arith in
        let v : get_or l (x / 3) 0 < 65000 = small (x / 3) (omega arith) in
        all_cons Fits x (steps_into counting r qs (suc i)) (omega arith, v) (steps_fit qs (suc i) (omega arith))))
        (λ p. rw p (steps_fit qs (suc i) (omega arith)))

pub row_raised : (counting : Counting) (rules : List Rule) (r : Rule) (f : Rule → ℕ) (l : List ℕ) →
    take (length rules) l ≡ map f rules → best_of l (row_of counting rules r) ≡ raised counting rules f r
row_raised counting rules r f l e = steps_best counting r l f rules 0 (as_bit (own_count counting r)) e

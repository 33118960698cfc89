-- The least distance is that of the next mark; marks can be looked at in any order, and kind by kind; and the
-- next mark of a kind stands as long as it is not reached.
use Rattle.std.proofs.Common.{◌≡◌, ℕ, zero, suc, ◌+◌, ◌-◌, ◌*◌, ◌<◌, ◌≤◌, min, Bool, true, false, ◌&&◌, ltb, leb, List, [], ◌∷◌, ◌++◌, length, get_or, drop, sym, refl, ap, ◌∙◌, subst, add-one, arith, drop_of_length-le, drop-drop}
use Rattle.foundation.specs.Tests.{cases, le-true, le-false, true-le, false-le}
use Rattle.foundation.specs.Tests.{and-false, and-true}
use Rattle.foundation.specs.Marks.{next, next_above, next_le}
use Rattle.foundation.specs.BitMasks.{bit, none_set}
use Rattle.marks.specs.Least.{NextMark, next_mark}
use Rattle.marks.specs.NextMarks.{sooner}
use Rattle.marks.proofs.NextFacts.{next_append, next_nil}
use Rattle.model.specs.declared.Authorization.{Authorization}
use Rattle.model.specs.declared.Rule.{Rule}
use Rattle.model.specs.Encoding.{rule_of}
use Rattle.model.specs.Means.{marks_of, rule_marks, marks}
use Rattle.encoding.specs.Format.{rules_in}
use Rattle.foundation.specs.ByteRecords.{record_nth, length-records}
use Rattle.relevance.specs.Chosen.{authorization_at, picked}
use Rattle.relevance.proofs.PickedFacts.{picked_none, picked_more}
use Rattle.relevance.specs.Chosen.{selected_from, selected}
use Rattle.relevance.specs.Distance.{edge, line_edges, rule_edges, Away, reached}
use Rattle.relevance.specs.Ahead.{IsNext, NearAt, Standing}
use Rattle.relevance.specs.declared.ahead.Near.{Near}

-- ---- sooner is a least number

sooner_low : (t m r : ℕ) → t < m → m < r → sooner t m r ≡ m
sooner_low t m r h l = rw (le-true (suc t) m h, le-true (suc m) r l)

sooner_past : (t m r : ℕ) → m ≤ t → sooner t m r ≡ r
sooner_past t m r h = rw (le-false (suc t) m (omega arith))

sooner-high : (t m r : ℕ) → r ≤ m → sooner t m r ≡ r
sooner-high t m r h = rw (le-false (suc m) r (omega arith), and-false (ltb t m))

-- the order of two marks does not matter
pub sooner_swap : (t x y d : ℕ) → sooner t x (sooner t y d) ≡ sooner t y (sooner t x d)
sooner_swap t x y d = cases (leb x t)
    (λ e. let h = true-le x t e in
    sooner_past t x (sooner t y d) h ∙ ap (sooner t y) (sym (sooner_past t x d h)))
    (λ e. let h = false-le x t e in cases (leb y t)
    (λ f. let g = true-le y t f in
    ap (sooner t x) (sooner_past t y d g) ∙ sym (sooner_past t y (sooner t x d) g))
    (λ f. both h (false-le y t f)))
  where
    behind : t < x → t < y → d ≤ y → sooner t x (sooner t y d) ≡ sooner t y (sooner t x d)
    behind h g l = ap (sooner t x) (sooner-high t y d l) ∙ cases (ltb x d)
        (λ e. let k = true-le (suc x) d e in
        let q : sooner t x d ≡ x = sooner_low t x d h k in
        q ∙ sym (ap (sooner t y) q ∙ sooner-high t y x (omega arith)))
        (λ e. let k = false-le (suc x) d e in
        let q : sooner t x d ≡ d = sooner-high t x d (omega arith) in
        q ∙ sym (ap (sooner t y) q ∙ sooner-high t y d l))

    both : t < x → t < y → sooner t x (sooner t y d) ≡ sooner t y (sooner t x d)
    both h g = cases (leb d y)
        (λ e. behind h g (true-le d y e))
        (λ e. let k = false-le d y e in
        let p : sooner t y d ≡ y = sooner_low t y d g k in
        ap (sooner t x) p ∙ cases (ltb x y)
        (λ u. let v = true-le (suc x) y u in
        let q : sooner t x d ≡ x = sooner_low t x d h (omega arith) in
        sooner_low t x y h v ∙ sym (ap (sooner t y) q ∙ sooner-high t y x (omega arith)))
        (λ u. let v = false-le (suc x) y u in
        sooner-high t x y (omega arith) ∙ sym (lower h g k (omega arith))))
      where
        lower : t < x → t < y → y < d → y ≤ x → sooner t y (sooner t x d) ≡ y
        lower h g k v = cases (ltb x d)
            (λ e. let w = true-le (suc x) d e in
            ap (sooner t y) (sooner_low t x d h w) ∙ cases (ltb y x)
            (λ n. sooner_low t y x g (true-le (suc y) x n))
            (λ n. let o = false-le (suc y) x n in
            sooner-high t y x (omega arith) ∙ omega arith))
            (λ e. let w = false-le (suc x) d e in
            ap (sooner t y) (sooner-high t x d (omega arith)) ∙ sooner_low t y d g k)

-- a mark looked at first, or last
pub next_first : (t x : ℕ) (ms : List ℕ) (d : ℕ) → next t (x ∷ ms) d ≡ next t ms (sooner t x d)
unfolding next
next_first t x [] d = refl
next_first t x (m ∷ ms) d =
    sooner_swap t x m (next t ms d) ∙ ap (sooner t m) (next_first t x ms d)

-- ---- the rules whose bit is set

-- those without a bit are passed over, whether there are so many or not
skip : {A : Type 0} (m : ℕ) (n i : ℕ) (xs : List A) →
    ((j : ℕ) → i ≤ j → j < i + n → bit j m ≡ false) →
    selected_from m i xs ≡ selected_from m (i + n) (drop n xs)
skip m zero i [] h = refl
skip m zero i (x ∷ xs) h =
    let z : i ≡ i + 0 = omega arith in ap (λ (k : ℕ). selected_from m k (x ∷ xs)) z
skip m (suc n) i [] h = refl
skip m (suc n) i (x ∷ xs) h =
    let z : suc i + n ≡ i + suc n = omega arith in
    rw (h i (omega arith) (omega arith))
    (skip m n (suc i) xs (λ j k l. h j (omega arith) (omega arith))
    ∙ ap (λ (k : ℕ). selected_from m k (drop n xs)) z)

pub skip_to : {A : Type 0} (m : ℕ) (xs : List A) (i j : ℕ) → i ≤ j →
    ((k : ℕ) → i ≤ k → k < j → bit k m ≡ false) →
    selected_from m i (drop i xs) ≡ selected_from m j (drop j xs)
skip_to {A} m xs i j h none =
    let e : i + (j - i) ≡ j = omega arith in
    skip m (j - i) i (drop i xs) (λ k l g. none k l (omega arith))
    ∙ ap (selected_from m (i + (j - i))) (drop-drop (j - i) i xs)
    ∙ ap (λ (k : ℕ). selected_from m k (drop k xs)) e

-- the rules that are left: those from the r-th on, which is one of them
pub record Rest (needed rest r : ℕ) : Type 0 where
  pub few : r ≤ 64
  pub here : r < 64 → bit r rest ≡ true
  pub below : (j : ℕ) → j < r → bit j rest ≡ false
  pub same : (j : ℕ) → r ≤ j → bit j rest ≡ bit j needed

some-bit : (i m : ℕ) → bit i m ≡ true → 1 ≤ m
some-bit i zero e = absurd (none_set i e)
some-bit i (suc m) e = omega arith

pub rest_some : (needed rest r : ℕ) → Rest needed rest r → r < 64 → 1 ≤ rest
rest_some needed rest r w h = some-bit r rest (w.here h)

module _ (needed rest r rest' r' : ℕ) (w : Rest needed rest r) (h : r < 64)
    (left : (i : ℕ) → bit i rest' ≡ ltb r i && bit i rest) (few : r' ≤ 64)
    (none : (i : ℕ) → 0 ≤ i → i < r' → bit i rest' ≡ false) (here : r' < 64 → bit r' rest' ≡ true) where
  pub rest_up : r < r'
  rest_up = cases (ltb r' 64)
      (λ e. true-le (suc r) r' (and-true (ltb r r') (bit r' rest)
      (sym (left r') ∙ here (true-le (suc r') 64 e))).0)
      (λ e. omega (arith, false-le (suc r') 64 e))

  kept : (j : ℕ) → r < j → bit j rest' ≡ bit j needed
  kept j l = left j ∙ rw (le-true (suc r) j l) (w.same j (omega arith))

  pub rest_turn : Rest needed rest' r'
  rest_turn = record {
    few = few;
    here = here;
    below = λ j l. none j (omega arith) l;
    same = λ j l. kept j (omega (arith, rest_up));
  }

  pub rest_between : (j : ℕ) → suc r ≤ j → j < r' → bit j needed ≡ false
  rest_between j l g = sym (kept j l) ∙ none j (omega arith) g

-- ---- authorizations, from the first to the last

pub line_none : (s which : List ℕ) (ends : Bool) (t d : ℕ) → next t (line_edges ends (picked s which 0)) d ≡ d
line_none s which ends t d =
    ap (λ (xs : List Authorization). next t (line_edges ends xs) d) (picked_none s which) ∙ next_nil t d

edges_more : (ends : Bool) (xs : List Authorization) (a : Authorization) →
    line_edges ends (xs ++ (a ∷ [])) ≡ line_edges ends xs ++ (edge ends a.interval ∷ [])
edges_more ends [] a = refl
edges_more ends (x ∷ xs) a = ap (λ (ms : List ℕ). edge ends x.interval ∷ ms) (edges_more ends xs a)

-- a mark behind others
next_last : (t : ℕ) (ms : List ℕ) (m d : ℕ) → next t (ms ++ (m ∷ [])) d ≡ sooner t m (next t ms d)
unfolding next
next_last t ms m d = next_append t ms (m ∷ []) d ∙ sym (next_first t m ms d)

-- a turn
pub line_turn_lem : (s which : List ℕ) (ends : Bool) (t d i : ℕ) (a : Authorization) → i < length which →
    a ≡ authorization_at s (get_or which i 0) →
    next t (line_edges ends (picked s which (i + 1))) d
    ≡ sooner t (edge ends a.interval) (next t (line_edges ends (picked s which i)) d)
line_turn_lem s which ends t d i a h e =
    ap (λ (k : ℕ). next t (line_edges ends (picked s which k)) d) (add-one i)
    ∙ ap (λ (xs : List Authorization). next t (line_edges ends xs) d) (picked_more s which i h
    ∙ ap (λ (b : Authorization). picked s which i ++ (b ∷ [])) (sym e))
    ∙ ap (λ (xs : List ℕ). next t xs d) (edges_more ends (picked s which i) a)
    ∙ next_last t (line_edges ends (picked s which i)) (edge ends a.interval) d

-- ---- rules, from the first to the last

-- the marks of the needed rules from the r-th on, and what is found so far, lead to the mark looked for
unfoldable pub MarksLeft : List ℕ → ℕ → ℕ → Bool → ℕ → ℕ → ℕ → Type 0
MarksLeft body k needed ends t best r =
    next t (rule_edges ends (selected_from needed r (drop r (rules_in k body)))) best
    ≡ next t (rule_edges ends (selected needed (rules_in k body))) 4294967296

module _ (body : List ℕ) (k needed : ℕ) (ends : Bool) (t : ℕ) where
  pub left_start : (r : ℕ) → ((j : ℕ) → j < r → bit j needed ≡ false) →
      MarksLeft body k needed ends t 4294967296 r
  unfolding MarksLeft
  left_start r h =
      ap (λ (rs : List Rule). next t (rule_edges ends rs) 4294967296)
      (sym (skip_to needed (rules_in k body) 0 r (omega arith) (λ j l g. h j g)))

  pub left_turn : (best more r r' : ℕ) (q : Rule) → r < k → bit r needed ≡ true →
      q ≡ rule_of (drop (r * 28) body) →
      more ≡ sooner t (edge ends q.interval) best → suc r ≤ r' →
      ((j : ℕ) → suc r ≤ j → j < r' → bit j needed ≡ false) → MarksLeft body k needed ends t best r →
      MarksLeft body k needed ends t more r'
  unfolding MarksLeft
  left_turn best more r r' q h b e f l none i =
      let rs = rules_in k body in
      let ms = rule_edges ends (selected_from needed (suc r) (drop (suc r) rs)) in
      let nth : drop r rs ≡ q ∷ drop (suc r) rs =
      record_nth 28 rule_of k body r h ∙ ap (λ (x : Rule). x ∷ drop (suc r) rs) (sym e) in
      let here : selected_from needed r (drop r rs) ≡ q ∷ selected_from needed (suc r) (drop (suc r) rs) =
      ap (selected_from needed r) nth ∙ rw b in
      ap (λ (xs : List Rule). next t (rule_edges ends xs) more)
      (sym (skip_to needed rs (suc r) r' l none))
      ∙ ap (next t ms) f
      ∙ sym (next_first t (edge ends q.interval) ms best)
      ∙ ap (λ (xs : List Rule). next t (rule_edges ends xs) best) (sym here)
      ∙ i

  pub left_end : (best r : ℕ) → k ≤ r → MarksLeft body k needed ends t best r →
      best ≡ next t (rule_edges ends (selected needed (rules_in k body))) 4294967296
  unfolding MarksLeft
  left_end best r h i =
      let rs = rules_in k body in
      let l = length-records 28 rule_of k body in
      let z : drop r rs ≡ [] = drop_of_length-le rs {i = r} (omega arith) in
      sym (ap (λ (xs : List Rule). next t (rule_edges ends (selected_from needed r xs)) best) z
      ∙ next_nil t best)
      ∙ i

-- ---- distances

pub reached_none : (t d : ℕ) → 4294967295 - t ≤ d → reached t d ≡ 4294967296
unfolding reached
reached_none t d h = rw (le-false (suc d) (4294967295 - t) (omega arith))

pub reached_near : (t d : ℕ) → d < 4294967295 - t → reached t d ≡ t + 1 + d
unfolding reached
reached_near t d h = rw (le-true (suc d) (4294967295 - t) h)

min_left : (a b : ℕ) → a ≤ b → min a b ≡ a
min_left a b h = omega arith

min_right : (a b : ℕ) → b ≤ a → min a b ≡ b
min_right a b h = omega arith

-- the lesser distance is that of the sooner mark, a being the distance of m
pub closer : (t best a m : ℕ) → t < 4294967296 → Away t m a →
    reached t (min best a) ≡ sooner t m (reached t best)
unfolding reached
closer t best a m ht w = let hm = w.bounded in cases (leb m t)
    (λ e. let h = true-le m t e in
    let f = w.far h in
    cases (ltb best a)
    (λ l. let k = true-le (suc best) a l in
    ap (reached t) (min_left best a (omega arith)) ∙ sym (sooner_past t m (reached t best) h))
    (λ l. let k = false-le (suc best) a l in
    ap (reached t) (min_right best a (omega arith)) ∙ reached_none t a (omega arith)
    ∙ sym (sooner_past t m (reached t best) h ∙ reached_none t best (omega arith))))
    (λ e. let h = false-le m t e in
    let f = w.near h in
    cases (ltb best a)
    (λ l. let k = true-le (suc best) a l in
    ap (reached t) (min_left best a (omega arith))
    ∙ sym (sooner-high t m (reached t best) (some best m (omega arith) hm)))
    (λ l. let k = false-le (suc best) a l in
    ap (reached t) (min_right best a (omega arith)) ∙ here h f (omega arith)))
  where
    some : (d m : ℕ) → t + 1 + d < m → m ≤ 4294967296 → reached t d ≤ m
    some d m h l = omega (arith, reached_near t d (omega arith))

    here : t < m → a + t + 1 ≡ m → a ≤ best → reached t a ≡ sooner t m (reached t best)
    here h f l = cases (ltb a (4294967295 - t))
        (λ e. let g = true-le (suc a) (4294967295 - t) e in cases (ltb best (4294967295 - t))
        (λ u. let v = true-le (suc best) (4294967295 - t) u in cases (ltb a best)
        (λ p. let q = true-le (suc a) best p in
        reached_near t a g
        ∙ sym (ap (sooner t m) (reached_near t best v) ∙ sooner_low t m (t + 1 + best) h (omega arith)
        ∙ omega arith))
        (λ p. let q = false-le (suc a) best p in
        reached_near t a g
        ∙ sym (ap (sooner t m) (reached_near t best v) ∙ sooner-high t m (t + 1 + best) (omega arith)
        ∙ omega arith)))
        (λ u. let v = false-le (suc best) (4294967295 - t) u in
        reached_near t a g
        ∙ sym (ap (sooner t m) (reached_none t best (omega arith))
        ∙ sooner_low t m 4294967296 h (omega arith)
        ∙ omega arith)))
        (λ e. let g = false-le (suc a) (4294967295 - t) e in
        reached_none t a (omega arith)
        ∙ sym (ap (sooner t m) (reached_none t best (omega arith))
        ∙ sooner-high t m 4294967296 (omega arith)))

-- ---- kind by kind

-- marks of starts, then those of ends
line-kinds : (t : ℕ) (xs : List Authorization) (d : ℕ) →
    next t (marks_of xs) d ≡ next t (line_edges false xs) (next t (line_edges true xs) d)
unfolding next
line-kinds t [] d = refl
line-kinds t (x ∷ xs) d =
    let s : ℕ = x.interval.start in
    let e : ℕ = suc x.interval.end in
    let fs = line_edges false xs in
    ap (λ (k : ℕ). sooner t s (sooner t e k)) (line-kinds t xs d)
    ∙ ap (sooner t s) (next_first t e fs (next t (line_edges true xs) d))

rule-kinds : (t : ℕ) (xs : List Rule) (d : ℕ) →
    next t (rule_marks xs) d ≡ next t (rule_edges false xs) (next t (rule_edges true xs) d)
unfolding next
rule-kinds t [] d = refl
rule-kinds t (x ∷ xs) d =
    let s : ℕ = x.interval.start in
    let e : ℕ = suc x.interval.end in
    let fs = rule_edges false xs in
    ap (λ (k : ℕ). sooner t s (sooner t e k)) (rule-kinds t xs d)
    ∙ ap (sooner t s) (next_first t e fs (next t (rule_edges true xs) d))

-- a mark that is sooner than the lesser of two
sooner_least : (t m x d : ℕ) → sooner t m (min x d) ≡ min (sooner t m x) d
sooner_least t m x d = cases (leb m t)
    (λ e. let h = true-le m t e in
    sooner_past t m (min x d) h ∙ sym (ap (λ (k : ℕ). min k d) (sooner_past t m x h)))
    (λ e. let h = false-le m t e in cases (ltb m x)
    (λ f. let l = true-le (suc m) x f in
    let q : sooner t m x ≡ m = sooner_low t m x h l in
    cases (ltb m d)
    (λ g. let k = true-le (suc m) d g in
    sooner_low t m (min x d) h (above l k) ∙ sym (ap (λ (n : ℕ). min n d) q ∙ min_left m d (omega arith)))
    (λ g. let k = false-le (suc m) d g in
    let p : min x d ≡ d = min_right x d (omega arith) in
    ap (sooner t m) p ∙ sooner-high t m d (omega arith)
    ∙ sym (ap (λ (n : ℕ). min n d) q ∙ min_right m d (omega arith))))
    (λ f. let l = false-le (suc m) x f in
    sooner-high t m (min x d) (omega arith)
    ∙ sym (ap (λ (n : ℕ). min n d) (sooner-high t m x (omega arith)))))
  where
    above : m < x → m < d → m < min x d
    above h l = omega arith

-- marks are looked at from d on, or by themselves
next_least_of : (t : ℕ) (ms : List ℕ) (d : ℕ) → d ≤ 4294967296 →
    next t ms d ≡ min (next t ms 4294967296) d
unfolding next
next_least_of t [] d h = sym (min_right 4294967296 d h)
next_least_of t (m ∷ ms) d h =
    ap (sooner t m) (next_least_of t ms d h) ∙ sooner_least t m (next t ms 4294967296) d

-- the next mark is still the next at an instant before it
next_stands : (t m : ℕ) (ms : List ℕ) → t ≤ m → m < next t ms 4294967296 →
    next t ms 4294967296 ≡ next m ms 4294967296
unfolding next
next_stands t m [] h l = refl
next_stands t m (x ∷ ms) h l =
    let n : ℕ = next t ms 4294967296 in
    cases (leb x t)
    (λ e. let k = true-le x t e in
    let p : sooner t x n ≡ n = sooner_past t x n k in
    p ∙ next_stands t m ms h (omega arith)
    ∙ sym (sooner_past m x (next m ms 4294967296) (omega arith)))
    (λ e. let k = false-le x t e in cases (ltb x n)
    (λ f. let g = true-le (suc x) n f in
    let p : sooner t x n ≡ x = sooner_low t x n k g in
    let i : n ≡ next m ms 4294967296 = next_stands t m ms h (omega arith) in
    p ∙ sym (sooner_low m x (next m ms 4294967296) (omega arith) (omega arith)))
    (λ f. let g = false-le (suc x) n f in
    let p : sooner t x n ≡ n = sooner-high t x n (omega arith) in
    let i : n ≡ next m ms 4294967296 = next_stands t m ms h (omega arith) in
    p ∙ i ∙ sym (sooner-high m x (next m ms 4294967296) (omega arith))))

module _ (xs : List Authorization) (rs : List Rule) (t : ℕ) (n : Near) (w : NearAt xs rs t n) where
  abbrev least_rule : ℕ
  least_rule = min n.rules.starts n.rules.ends

  abbrev least_end : ℕ
  least_end = min n.lines.ends least_rule

  -- the next mark is the least of the four
  pub least_mark : min n.lines.starts least_end ≡ next t (marks xs rs) 4294967296
  least_mark =
      let a : ℕ = next t (rule_edges true rs) 4294967296 in
      let b : ℕ = next t (rule_edges false rs) a in
      let c : ℕ = next t (line_edges true xs) b in
      let p : b ≡ least_rule =
      next_least_of t (rule_edges false rs) a (next_le t (rule_edges true rs) 4294967296)
      ∙ ap (λ (k : ℕ). min k a) (sym w.rule-starts) ∙ ap (min n.rules.starts) (sym w.rule_ends) in
      let u : a ≤ 4294967296 = next_le t (rule_edges true rs) 4294967296 in
      let q : c ≡ least_end =
      next_least_of t (line_edges true xs) b
      (omega (arith, w.rule_ends))
      ∙ ap (λ (k : ℕ). min k b) (sym w.line_ends) ∙ ap (min n.lines.ends) p in
      let r : next t (line_edges false xs) c ≡ min n.lines.starts least_end =
      next_least_of t (line_edges false xs) c
      (omega (arith, w.rule_ends))
      ∙ ap (λ (k : ℕ). min k c) (sym w.line-starts) ∙ ap (min n.lines.starts) q in
      sym (next_append t (marks_of xs) (rule_marks rs) 4294967296
      ∙ ap (next t (marks_of xs)) (rule-kinds t rs 4294967296)
      ∙ line-kinds t xs b
      ∙ r)

  -- what is promised of it
  pub promised : (m : ℕ) → m ≡ min n.lines.starts least_end →
      (m ≡ next t (marks xs rs) 4294967296) × NextMark xs rs t m × Standing xs rs m n
  promised m e =
      let f : m ≡ next t (marks xs rs) 4294967296 = e ∙ least_mark in
      let h : t < m = subst (λ (k : ℕ). t < k) (sym f)
      (next_above t (marks xs rs) 4294967296 w.instant) in (
        f,
        subst (NextMark xs rs t) (sym f) (next_mark xs rs t),
        record {
          line-starts = stands h (line_edges false xs) n.lines.starts w.line-starts;
          line_ends = stands h (line_edges true xs) n.lines.ends w.line_ends;
          rule-starts = stands h (rule_edges false rs) n.rules.starts w.rule-starts;
          rule_ends = stands h (rule_edges true rs) n.rules.ends w.rule_ends;
        },
      )
    where
      stands : t < m → (ms : List ℕ) (k : ℕ) → k ≡ next t ms 4294967296 → IsNext m ms k
      stands h ms k q l = q ∙ next_stands t m ms (omega arith) (omega arith)

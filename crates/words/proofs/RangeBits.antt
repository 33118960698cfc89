-- The numbers of a range that pass a test: they are those (`among_range`), the first of them comes first
-- (`filter_first`), the last last (`filter_last`), and what stands before one of them lies below it (`split_range`).
use Rattle.std.specs.Prelude.{◌≡◌, refl, Bool, true, false, cond, ◌&&◌, ◌||◌, List, [], ◌∷◌, ◌++◌, ℕ, zero, suc, ◌+◌, ◌-◌, ◌≤◌, ◌<◌, eqb, leb, ltb}
use Rattle.std.proofs.Common.{sym, ap, ap₂, ◌∙◌, arith}
use Rattle.std.specs.List.{filter, range_with_len}
use Rattle.std.proofs.lemmas.Bool.Decides.{nat_tests}
use Rattle.foundation.specs.Tests.{cases}
use Rattle.words.specs.SetBits.{among}

pub filter_same : (p q : ℕ → Bool) (a n : ℕ) → ((i : ℕ) → a ≤ i → p i ≡ q i) →
    filter p (range_with_len a n) ≡ filter q (range_with_len a n)
filter_same p q a zero h = refl
filter_same p q a (suc n) h =
    let e = h a (omega arith) in
    let r = filter_same p q (a + 1) n (λ i l. h i (omega arith)) in
    ap₂ (λ (b : Bool) (l : List ℕ). cond b (a ∷ l) l) e r

pub filter_none : (p : ℕ → Bool) (a n : ℕ) → ((i : ℕ) → a ≤ i → p i ≡ false) → filter p (range_with_len a n) ≡ []
filter_none p a zero h = refl
filter_none p a (suc n) h =
    let e = h a (omega arith) in
    rw e (filter_none p (a + 1) n (λ i l. h i (omega arith)))

-- k is the first that passes p, and the others pass q
pub filter_first : (p q : ℕ → Bool) (k a n : ℕ) → a ≤ k → k < a + n → ((i : ℕ) → i < k → p i ≡ false) →
    p k ≡ true → ((i : ℕ) → q i ≡ ltb k i && p i) →
    filter p (range_with_len a n) ≡ k ∷ filter q (range_with_len a n)
filter_first p q k a zero h l none own others = absurd (omega arith)
filter_first p q k a (suc n) h l none own others = cases (eqb a k)
    (λ e. let y : a ≡ k = grind (arith, nat_tests) in
    let o : p a ≡ true = rw y own in
    let z : q a ≡ false = let m = others a in grind (arith, nat_tests) in
    rw (o, z) (ap₂ (λ (x : ℕ) (l : List ℕ). x ∷ l) y
    (filter_same p q (a + 1) n (λ i m. let s = others i in grind (arith, nat_tests)))))
    (λ e. let y : a < k = grind (arith, nat_tests) in
    let o = none a y in
    let z : q a ≡ false = let m = others a in grind (arith, nat_tests) in
    rw (o, z) (filter_first p q k (a + 1) n (omega arith) (omega arith) none own others))

-- k is the last that passes p, and the others pass q
pub filter_last : (p q : ℕ → Bool) (k a n : ℕ) → a ≤ k → k < a + n → ((i : ℕ) → k < i → p i ≡ false) →
    p k ≡ true → ((i : ℕ) → q i ≡ ltb i k && p i) →
    filter p (range_with_len a n) ≡ filter q (range_with_len a n) ++ k ∷ []
filter_last p q k a zero h l none own others = absurd (omega arith)
filter_last p q k a (suc n) h l none own others = cases (eqb a k)
    (λ e. let y : a ≡ k = grind (arith, nat_tests) in
    let o : p a ≡ true = rw y own in
    let z : q a ≡ false = let m = others a in grind (arith, nat_tests) in
    let r = filter_none p (a + 1) n (λ i m. none i (omega arith)) in
    let s = filter_none q (a + 1) n (λ i m. let t = others i in grind (arith, nat_tests)) in
    rw (o, z, r, s) (ap (λ (x : ℕ). x ∷ []) y))
    (λ e. let y : a < k = grind (arith, nat_tests) in
    let s : q a ≡ p a = let m = others a in grind (arith, nat_tests) in
    let r = filter_last p q k (a + 1) n (omega arith) (omega arith) none own others in
    cases (p a)
    (λ o. let w : q a ≡ true = s ∙ o in rw (o, w) (ap (λ (l : List ℕ). a ∷ l) r))
    (λ o. let w : q a ≡ false = s ∙ o in rw (o, w) r))

-- what is among them
one_taken : (a n i : ℕ) (t : Bool) → (i ≡ a → t ≡ true) →
    eqb i a || leb (a + 1) i && (ltb i (a + 1 + n) && t) ≡ leb a i && (ltb i (a + suc n) && t)
one_taken a n i t h = grind (arith, nat_tests)

one_passed : (a n i : ℕ) (t : Bool) → (i ≡ a → t ≡ false) →
    leb (a + 1) i && (ltb i (a + 1 + n) && t) ≡ leb a i && (ltb i (a + suc n) && t)
one_passed a n i t h = grind (arith, nat_tests)

none_there : (a i : ℕ) (t : Bool) → false ≡ leb a i && (ltb i (a + 0) && t)
none_there a i t = grind (arith, nat_tests)

pub among_range : (p : ℕ → Bool) (a n i : ℕ) →
    among i (filter p (range_with_len a n)) ≡ leb a i && (ltb i (a + n) && p i)
among_range p a zero i = none_there a i (p i)
among_range p a (suc n) i =
    let r = among_range p (a + 1) n i in
    cases (p a)
    (λ e. rw (e, r) (one_taken a n i (p i) (λ y. rw y e)))
    (λ e. rw (e, r) (one_passed a n i (p i) (λ y. rw y e)))

-- ---- one of them, what stands before it and what behind

pub record Split (p : ℕ → Bool) (a n r : ℕ) (xs ys : List ℕ) : Type 0 where
  pub low : a ≤ r
  pub high : r < a + n
  pub own : p r ≡ true
  pub front : xs ≡ filter p (range_with_len a (r - a))
  pub before : (i : ℕ) → among i xs ≡ leb a i && (ltb i r && p i)
  pub behind : (i : ℕ) → among i ys ≡ ltb r i && (ltb i (a + n) && p i)

nothing_before : (a i : ℕ) (t : Bool) → false ≡ leb a i && (ltb i a && t)
nothing_before a i t = grind (arith, nat_tests)

rest_behind : (a n i : ℕ) (t : Bool) →
    leb (a + 1) i && (ltb i (a + 1 + n) && t) ≡ ltb a i && (ltb i (a + suc n) && t)
rest_behind a n i t = grind (arith, nat_tests)

taken_before : (a r i : ℕ) (t : Bool) → a + 1 ≤ r → (i ≡ a → t ≡ true) →
    eqb i a || leb (a + 1) i && (ltb i r && t) ≡ leb a i && (ltb i r && t)
taken_before a r i t h e = grind (arith, nat_tests)

passed_before : (a r i : ℕ) (t : Bool) → (i ≡ a → t ≡ false) →
    leb (a + 1) i && (ltb i r && t) ≡ leb a i && (ltb i r && t)
passed_before a r i t e = grind (arith, nat_tests)

same_end : (a n r i : ℕ) (t : Bool) → ltb r i && (ltb i (a + 1 + n) && t) ≡ ltb r i && (ltb i (a + suc n) && t)
same_end a n r i t = grind (arith, nat_tests)

pub split_range : (p : ℕ → Bool) (a n r : ℕ) (xs ys : List ℕ) →
    filter p (range_with_len a n) ≡ xs ++ r ∷ ys → Split p a n r xs ys
split_range p a zero r [] ys e = let z : ◌≡◌ {A = List ℕ} [] (r ∷ ys) = e in cc
split_range p a zero r (x ∷ xs) ys e = let z : ◌≡◌ {A = List ℕ} [] (x ∷ (xs ++ r ∷ ys)) = e in cc
split_range p a (suc n) r xs ys e = cases (p a)
    (λ o. taken (λ zs. split_range p (a + 1) n r zs ys) xs o (rw o at e))
    (λ o. let s = split_range p (a + 1) n r xs ys (rw o at e) in record {
      low = omega (arith, s.low);
      high = omega (arith, s.high);
      own = s.own;
      front = let k : r - a ≡ suc (r - (a + 1)) = omega (arith, s.low) in rw (k, o) s.front;
      before = λ i. s.before i ∙ passed_before a r i (p i) (λ y. rw y o);
      behind = λ i. s.behind i ∙ same_end a n r i (p i);
    })
  where
    taken : ((zs : List ℕ) → filter p (range_with_len (a + 1) n) ≡ zs ++ r ∷ ys → Split p (a + 1) n r zs ys) →
        (xs : List ℕ) → p a ≡ true → a ∷ filter p (range_with_len (a + 1) n) ≡ xs ++ r ∷ ys →
        Split p a (suc n) r xs ys
    taken g [] o f =
        let y : a ≡ r = cc in
        let t : filter p (range_with_len (a + 1) n) ≡ ys = cc in
        rw (← y) (record {
          low = omega arith;
          high = omega arith;
          own = o;
          front = let k : a - a ≡ 0 = omega arith in rw k;
          before = λ i. nothing_before a i (p i);
          behind = λ i. ap (among i) (sym t) ∙ among_range p (a + 1) n i ∙ rest_behind a n i (p i);
        })
    taken g (x ∷ xs) o f =
        let y : a ≡ x = cc in
        let t : filter p (range_with_len (a + 1) n) ≡ xs ++ r ∷ ys = cc in
        let s = g xs t in
        rw (← y) (record {
          low = omega (arith, s.low);
          high = omega (arith, s.high);
          own = s.own;
          front = let k : r - a ≡ suc (r - (a + 1)) = omega (arith, s.low) in
              rw (k, o) (ap (λ (l : List ℕ). a ∷ l) s.front);
          before = λ i. ap (λ (b : Bool). eqb i a || b) (s.before i)
              ∙ taken_before a r i (p i) s.low (λ z. rw z o);
          behind = λ i. s.behind i ∙ same_end a n r i (p i);
        })

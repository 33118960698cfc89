-- Loops over the set bits of a mask: `for r in ones(m)`. At each turn, those before r have been given (`turn`);
-- at the end all have (`finished`). An invariant may say which have been (`among i l.yielded`, with
-- `among_more`, `ForEach`, `Collected`), or hold at any place below which these are the set bits (`AtPlace`).
use Rattle.std.specs.Prelude.{◌≡◌, refl, Bool, true, false, ◌&&◌, ◌||◌, List, [], ◌∷◌, ◌++◌, ℕ, suc, ◌+◌, ◌≤◌, ◌<◌, eqb, ltb}
use Rattle.std.proofs.Common.{sym, ap, ◌∙◌, arith}
use Rattle.std.proofs.lemmas.Bool.{false≢true}
use Rattle.std.proofs.lemmas.List.{append-nil}
use Rattle.std.proofs.lemmas.List.Folds.{list_any-append}
use Rattle.std.specs.Iterator.{YieldsFirst, YieldsLast, Yields}
use Rattle.std.specs.Iterator.Adapters.{rev_steps, rev_source}
use Rattle.std.specs.declared.iter.Rev.{Rev}
use Rattle.foundation.specs.BitMasks.{bit, bit-inside, bit-zero}
use Rattle.foundation.specs.Tests.{cases, eq_true, or_intro_left, or_true_right, le-true, true-le, true_eq, and-false, and-true, or_cases}
use Rattle.words.specs.declared.bits.SetBits.{SetBits}
use Rattle.words.specs.SetBits.{bits_below, bits_left, among}
use Rattle.words.proofs.SetBitFacts.{Around, around, among_bits}

-- no bit lies from a on below b
abbrev pub NoneIn : ℕ → ℕ → ℕ → Type 0
NoneIn m a b = (i : ℕ) → a ≤ i → i < b → bit i m ≡ false

-- ---- what the iterator has given

given : (s t : SetBits) (xs : List ℕ) → Yields (YieldsFirst bits_left) s xs t → bits_left s ≡ xs ++ bits_left t
given s t [] e = ap bits_left e
given s t (x ∷ xs) y = y.1 ∙ ap (λ (l : List ℕ). x ∷ l) (given y.0 t xs y.2)

-- r has its turn, behind xs
pub record Turn (m : ℕ) (xs : List ℕ) (r : ℕ) : Type 0 where
  pub low : r < 64
  pub own : bit r m ≡ true
  -- those before it
  pub passed : xs ≡ bits_below r m
  pub seen : (i : ℕ) → among i xs ≡ ltb i r && bit i m

pub turn : {m r : ℕ} {s₀ : SetBits} {xs ys : List ℕ} (s : SetBits) → s₀.left ≡ m →
    Yields (YieldsFirst bits_left) s₀ xs s → bits_left s ≡ r ∷ ys → Turn m xs r
turn {m} {r} {s₀} {xs} {ys} s e y h =
    let a = around 64 m r xs ys
    (ap (bits_below 64) (sym e) ∙ given s₀ s xs y ∙ ap (λ (l : List ℕ). xs ++ l) h) in
    record { low = a.low; own = a.own; passed = a.front; seen = a.before }

-- all have been given
pub finished : {m : ℕ} {s₀ : SetBits} {xs : List ℕ} (s : SetBits) → s₀.left ≡ m →
    Yields (YieldsFirst bits_left) s₀ xs s → {Z : Type 0} → (bits_left s ≡ []) × Z → xs ≡ bits_below 64 m
finished {m} {s₀} {xs} s e y h =
    sym (append-nil xs) ∙ ap (λ (l : List ℕ). xs ++ l) (sym h.0) ∙ sym (given s₀ s xs y) ∙ ap (bits_below 64) e

or_right : (a b : Bool) → a || (b || false) ≡ a || b
or_right a true = refl
or_right a false = refl

pub among_more : (i r : ℕ) (xs : List ℕ) → among i (xs ++ r ∷ []) ≡ among i xs || eqb i r
among_more i r xs = list_any-append (eqb i) xs (r ∷ []) ∙ or_right (among i xs) (eqb i r)

-- ---- one bit of a word

set_bit : (r m : ℕ) → among r (bits_below 64 m) ≡ true → (r < 64) × (bit r m ≡ true)
set_bit r m e = let w = and-true (ltb r 64) (bit r m) (sym (among_bits r 64 m) ∙ e) in (true-le (suc r) 64 w.0, w.1)

-- the lowest and the highest
pub first_bit : {r : ℕ} {ys : List ℕ} (m : ℕ) → bits_below 64 m ≡ r ∷ ys → (r < 64) × (bit r m ≡ true)
first_bit {r} {ys} m h = set_bit r m (ap (among r) h ∙ or_intro_left (eqb r r) (among r ys) (eq_true r r refl))

pub last_bit : {r : ℕ} (m : ℕ) (ys : List ℕ) → bits_below 64 m ≡ ys ++ r ∷ [] → (r < 64) × (bit r m ≡ true)
last_bit {r} m ys h = set_bit r m (ap (among r) h ∙ among_more r r ys
    ∙ or_true_right (among r ys) (eqb r r) (eq_true r r refl))

-- ---- loops from behind: `for r in ones(m).rev()`

given_back : (s t : Rev SetBits) (xs : List ℕ) → Yields (rev_steps (YieldsLast bits_left)) s xs t →
    (i : ℕ) → among i (bits_left (rev_source t)) ≡ true → among i (bits_left (rev_source s)) ≡ true
given_back s t [] e i a = ap (λ (k : Rev SetBits). among i (bits_left (rev_source k))) e ∙ a
given_back s t (x ∷ xs) y i a =
    let j = bits_left (rev_source y.0) in
    ap (among i) y.1 ∙ among_more i x j ∙ or_intro_left (among i j) (eqb i x) (given_back y.0 t xs y.2 i a)

-- r has its turn
pub turn_back : {m r : ℕ} {s₀ : Rev SetBits} (s : Rev SetBits) (xs ys : List ℕ) → (rev_source s₀).left ≡ m →
    Yields (rev_steps (YieldsLast bits_left)) s₀ xs s → bits_left (rev_source s) ≡ ys ++ r ∷ [] →
    (r < 64) × (bit r m ≡ true)
turn_back {m} {r} {s₀} s xs ys e y h =
    set_bit r m (ap (λ (k : ℕ). among r (bits_below 64 k)) (sym e)
    ∙ given_back s₀ s xs y r (ap (among r) h ∙ among_more r r ys
    ∙ or_true_right (among r ys) (eqb r r) (eq_true r r refl)))

-- ---- which have been given

pub among_all : (i m : ℕ) (xs : List ℕ) → m < 18446744073709551616 → xs ≡ bits_below 64 m →
    among i xs ≡ bit i m
among_all i m xs h e = ap (among i) e ∙ among_bits i 64 m ∙ cases (bit i m)
    (λ y. rw (y, le-true (suc i) 64 (bit-inside 64 m i h y)))
    (λ y. rw (y, and-false (ltb i 64)))

-- ---- what holds of those that have been given

abbrev pub ForEach : List ℕ → (ℕ → Type 0) → Type 0
ForEach xs P = (i : ℕ) → among i xs ≡ true → P i

pub each_start : (P : ℕ → Type 0) → ForEach [] P
each_start P i e = absurd (false≢true e)

-- r has its turn
pub each_turn : {m r : ℕ} {xs : List ℕ} (P Q : ℕ → Type 0) → Turn m xs r → ForEach xs P →
    ((i : ℕ) → i < r → P i → Q i) → Q r → ForEach (xs ++ r ∷ []) Q
each_turn {m} {r} {xs} P Q t d f q i e = or_cases (among i xs) (eqb i r) (sym (among_more i r xs) ∙ e)
    (λ a. f i (true-le (suc i) r (and-true (ltb i r) (bit i m) (sym (t.seen i) ∙ a)).0) (d i a))
    (λ y. let k = true_eq i r y in rw k q)

pub each_end : (m : ℕ) {xs : List ℕ} (P : ℕ → Type 0) → m < 18446744073709551616 → xs ≡ bits_below 64 m →
    ForEach xs P → (i : ℕ) → bit i m ≡ true → P i
each_end m {xs} P h e d i b = d i (among_all i m xs h e ∙ b)

-- ---- which of them a test collects

-- one with what it brings
pub bring_one : (a e t u : Bool) → (e ≡ true → u ≡ t) → (a && t) || (e && u) ≡ (a || e) && t
bring_one a e t u f = grind arith

module _ (t : ℕ → Bool) where
  -- m has those that pass
  abbrev pub Collected : List ℕ → ℕ → Type 0
  Collected xs m = (i : ℕ) → bit i m ≡ among i xs && t i

  pub collect_start : Collected [] 0
  collect_start i = bit-zero i

  pub collect_turn : (r : ℕ) (xs : List ℕ) (m m' : ℕ) (b : Bool) → Collected xs m → b ≡ t r →
      ((i : ℕ) → bit i m' ≡ bit i m || (eqb i r && b)) → Collected (xs ++ r ∷ []) m'
  collect_turn r xs m m' b d e s i =
      s i ∙ ap (λ (x : Bool). x || (eqb i r && b)) (d i)
      ∙ bring_one (among i xs) (eqb i r) (t i) b (λ y. e ∙ ap t (sym (true_eq i r y)))
      ∙ ap (λ (x : Bool). x && t i) (sym (among_more i r xs))

  pub collect_end : (m : ℕ) (xs : List ℕ) (m' : ℕ) → m < 18446744073709551616 → xs ≡ bits_below 64 m →
      Collected xs m' → (i : ℕ) → bit i m' ≡ bit i m && t i
  collect_end m xs m' h e d i = d i ∙ ap (λ (x : Bool). x && t i) (among_all i m xs h e)

-- ---- what holds at a place below which they are the set bits

abbrev pub AtPlace : ℕ → List ℕ → (ℕ → Type 0) → Type 0
AtPlace m xs P = (n : ℕ) → xs ≡ bits_below n m → P n

none_below : (m n : ℕ) → [] ≡ bits_below n m → NoneIn m 0 n
none_below m n e i g l = rw (le-true (suc i) n l) at (sym (ap (among i) e ∙ among_bits i n m))

none_behind : (m n r : ℕ) (xs : List ℕ) → Around n m r xs [] → NoneIn m (r + 1) n
none_behind m n r xs a i g l = rw (le-true (suc r) i (omega arith), le-true (suc i) n l) at (sym (a.behind i))

pub place_start : (m : ℕ) (P : ℕ → Type 0) → ((n : ℕ) → NoneIn m 0 n → P n) → AtPlace m [] P
place_start m P f n e = f n (none_below m n e)

-- r has its turn
pub place_turn : {m r : ℕ} {xs : List ℕ} (P Q : ℕ → Type 0) → Turn m xs r → AtPlace m xs P →
    (P r → (n : ℕ) → r < n → NoneIn m (r + 1) n → Q n) → AtPlace m (xs ++ r ∷ []) Q
place_turn {m} {r} {xs} P Q t d f n e =
    let a = around n m r xs [] (sym e) in
    f (d r t.passed) n a.low (none_behind m n r xs a)

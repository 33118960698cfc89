-- Tests: what a Bool test says, as equations. Tests of numbers, and the laws of not, && and ||.
use Rattle.std.specs.Prelude.{◌≡◌, refl, ◌≢◌, ◌↔◌, ℕ, suc, ◌≤◌, ◌<◌, Bool, true, false, not, ◌&&◌, ◌||◌, T, leb, ltb, eqb}
use Rattle.std.proofs.Common.{sym, ◌∙◌, arith, true≢false, leb→le, le→leb, eqb→eq}
use Rattle.std.specs.Bool.{beq}
use Rattle.std.proofs.lemmas.Bool.{false≢true}
use Rattle.std.proofs.Math.Bool as core
use Rattle.std.proofs.Math.Dec.{nleb→lt}
use Rattle.std.proofs.Math.Facts.{no_leb, no_eqb, yes_eqb, eqb_no}

-- ---- tests of numbers, as equations

pub T→eq : (b : Bool) → T b → b ≡ true
T→eq true t = refl
T→eq false t = absurd t

pub T→not : (b : Bool) → T (not b) → b ≡ false
T→not true t = absurd t
T→not false t = refl

pub eq→T : (b : Bool) → b ≡ true → T b
eq→T true e = tt
eq→T false e = false≢true e

pub eq→T_not : (b : Bool) → b ≡ false → T (not b)
eq→T_not true e = true≢false e
eq→T_not false e = tt

pub le-true : (m n : ℕ) → m ≤ n → leb m n ≡ true
le-true m n h = T→eq (leb m n) (le→leb m n h)

pub le-false : (m n : ℕ) → n < m → leb m n ≡ false
le-false m n h = T→not (leb m n) (no_leb h)

pub true-le : (m n : ℕ) → leb m n ≡ true → m ≤ n
true-le m n e = leb→le m n (eq→T (leb m n) e)

pub false-le : (m n : ℕ) → leb m n ≡ false → n < m
false-le m n e = nleb→lt m n (eq→T_not (leb m n) e)

pub eq_true : (m n : ℕ) → m ≡ n → eqb m n ≡ true
eq_true m n e = T→eq (eqb m n) (yes_eqb e)

pub true_eq : (m n : ℕ) → eqb m n ≡ true → m ≡ n
true_eq m n e = eqb→eq m n (eq→T (eqb m n) e)

pub false_eq : (m n : ℕ) → eqb m n ≡ false → m ≢ n
false_eq m n e = eqb_no (eq→T_not (eqb m n) e)

pub ne_false : (m n : ℕ) → m ≢ n → eqb m n ≡ false
ne_false m n e = T→not (eqb m n) (no_eqb e)

pub ltb_trans : (l m n : ℕ) → ltb l m ≡ true → ltb m n ≡ true → ltb l n ≡ true
ltb_trans l m n e f = le-true (suc l) n (omega (arith, true-le (suc l) m e, true-le (suc m) n f))

-- ---- by cases

-- a test passes or fails, with the equation
pub cases {ℓ} : {X : Type ℓ} (b : Bool) → (b ≡ true → X) → (b ≡ false → X) → X
cases true f g = f refl
cases false f g = g refl

-- the first if the test passes, else the second
abbrev pub pick {ℓ} : {X : Type ℓ} → Bool → X → X → X
pick true x y = x
pick false x y = y

-- two tests agree if each passes where the other does
pub agree : (a b : Bool) → (a ≡ true → b ≡ true) → (b ≡ true → a ≡ true) → a ≡ b
agree true b f g = sym (f refl)
agree false true f g = g refl
agree false false f g = refl

-- t passes, as c fails and would pass if t failed
pub must_pass : (c t : Bool) → c ≡ false → (t ≡ false → c ≡ true) → t ≡ true
must_pass c true e h = refl
must_pass c false e h = absurd (true≢false (sym (h refl) ∙ e))

-- t fails, as c fails and would pass if t passed
pub must_fail : (c t : Bool) → c ≡ false → (t ≡ true → c ≡ true) → t ≡ false
must_fail c true e h = absurd (true≢false (sym (h refl) ∙ e))
must_fail c false e h = refl

-- which of two numbers stands first is all the same
pub eqb_sym : (m n : ℕ) → eqb m n ≡ eqb n m
eqb_sym m n = agree (eqb m n) (eqb n m)
    (λ e. eq_true n m (sym (true_eq m n e))) (λ e. eq_true m n (sym (true_eq n m e)))

-- ---- not

pub not-true : (a : Bool) → not a ≡ true → a ≡ false
not-true true e = absurd (false≢true e)
not-true false e = refl

pub not-false : (a : Bool) → not a ≡ false → a ≡ true
not-false true e = refl
not-false false e = absurd (true≢false e)

-- a test that is not failed where it is asked
pub asked_passes : (asked test : Bool) → asked ≡ true → asked && not test ≡ false → test ≡ true
asked_passes true test p e = not-false test e
asked_passes false test p e = absurd (false≢true p)

-- ---- conjunction

pub and-true : (a b : Bool) → a && b ≡ true → (a ≡ true) × (b ≡ true)
and-true true b e = (refl, e)
and-true false b e = absurd (false≢true e)

pub and_intro : (a b : Bool) → a ≡ true → b ≡ true → a && b ≡ true
and_intro true b p q = q
and_intro false b p q = absurd (false≢true p)

pub and_yes : (a : Bool) → a && true ≡ a
and_yes = core.and-true

pub and-false : (a : Bool) → a && false ≡ false
and-false true = refl
and-false false = refl

pub and_assoc : (a b c : Bool) → a && b && c ≡ a && (b && c)
and_assoc true b c = refl
and_assoc false b c = refl

pub and_mono : (a b c : Bool) → (b ≡ true → c ≡ true) → a && b ≡ true → a && c ≡ true
and_mono a b c h e = let w = and-true a b e in and_intro a c w.0 (h w.1)

-- a conjunction passes exactly if each of its tests does
pub and_three : (a b c : Bool) → (a && b && c ≡ true) ↔ ((a ≡ true) × (b ≡ true) × (c ≡ true))
and_three a b c = (
  (λ e. let w = and-true (a && b) c e in let v = and-true a b w.0 in (v.0, v.1, w.1)),
  (λ w. and_intro (a && b) c (and_intro a b w.0 w.1) w.2),
)

pub and-four : (a b c d : Bool) → (a && b && c && d ≡ true) ↔ ((a ≡ true) × (b ≡ true) × (c ≡ true)
    × (d ≡ true))
and-four a b c d = (
  (λ e. let w = (and_three (a && b) c d).0 e in let v = and-true a b w.0 in (v.0, v.1, w.1, w.2)),
  (λ w. (and_three (a && b) c d).1 (and_intro a b w.0 w.1, w.2, w.3)),
)

pub and_six : (a b c d e f : Bool) → (a && b && c && d && e && f ≡ true)
    ↔ ((a ≡ true) × (b ≡ true) × (c ≡ true) × (d ≡ true) × (e ≡ true) × (f ≡ true))
and_six a b c d e f = (
  (λ i. let w = (and_three (a && b && c && d) e f).0 i in
      let v = (and-four a b c d).0 w.0 in
      (v.0, v.1, v.2, v.3, w.1, w.2)),
  (λ w. (and_three (a && b && c && d) e f).1 ((and-four a b c d).1 (w.0, w.1, w.2, w.3), w.4, w.5)),
)

-- ---- disjunction

pub or_intro_left : (a b : Bool) → a ≡ true → a || b ≡ true
or_intro_left true b e = refl
or_intro_left false b e = absurd (false≢true e)

pub or_true_right : (a b : Bool) → b ≡ true → a || b ≡ true
or_true_right true b e = refl
or_true_right false b e = e

-- one test or the other passes
pub or_cases {ℓ} : {X : Type ℓ} (a b : Bool) → a || b ≡ true → (a ≡ true → X) → (b ≡ true → X) → X
or_cases true b e f g = f refl
or_cases false b e f g = g e

-- of a disjunction that fails, neither passes
pub or_none : (a b : Bool) → a || b ≡ false → (a ≡ false) × (b ≡ false)
or_none true b e = absurd (true≢false e)
or_none false b e = (refl, e)

-- an implication, written with `not`
pub implied : (a b : Bool) → a ≡ true → not a || b ≡ true → b ≡ true
implied true b p e = e
implied false b p e = absurd (false≢true p)

pub or_true : (a : Bool) → a || true ≡ true
or_true true = refl
or_true false = refl

pub or_false : (a : Bool) → a || false ≡ a
or_false true = refl
or_false false = refl

pub or_assoc : (a b c : Bool) → a || b || c ≡ a || (b || c)
or_assoc true b c = refl
or_assoc false b c = refl

-- one test before another
pub or_swap : (a b c : Bool) → a || (b || c) ≡ b || (a || c)
or_swap true true c = refl
or_swap true false c = refl
or_swap false b c = refl

pub or_mono : (a b c : Bool) → (b ≡ true → c ≡ true) → a || b ≡ true → a || c ≡ true
or_mono a b c h e = or_cases a b e (or_intro_left a c) (λ p. or_true_right a c (h p))

pub and_or : (a b c : Bool) → (a && b) || (a && c) ≡ a && (b || c)
and_or a b c = sym (core.and-or_distrib_left a b c)

pub or_and : (a b c : Bool) → (a && c) || (b && c) ≡ (a || b) && c
or_and true b true = refl
or_and true true false = refl
or_and true false false = refl
or_and false b c = refl

-- ---- tests that are compared

pub beq_eq : (a b : Bool) → beq a b ≡ true → a ≡ b
beq_eq true true e = refl
beq_eq true false e = absurd (false≢true e)
beq_eq false true e = absurd (false≢true e)
beq_eq false false e = refl

pub beq_self : (a : Bool) → beq a a ≡ true
beq_self true = refl
beq_self false = refl

pub beq-yes : (a b : Bool) → a ≡ true → b ≡ beq a b
beq-yes true true e = refl
beq-yes true false e = refl
beq-yes false b e = absurd (false≢true e)

pub beq-pick : (a b : Bool) → beq a b ≡ pick b a (not a)
beq-pick true true = refl
beq-pick true false = refl
beq-pick false true = refl
beq-pick false false = refl

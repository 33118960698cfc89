-- What the table says: a refusal's number is that of the first row that applies, and an accepted request
-- passes every row.
use Rattle.std.specs.Prelude.{◌≡◌, refl, ◌≢◌, Bool, true, false, not, ◌&&◌, List, [], ◌∷◌, ◌++◌, map, ℕ, suc, ◌≤◌, ◌<◌, ltb, eqb}
use Rattle.std.proofs.Common.{sym, ap, subst, ◌∙◌, inl, inr, ⊎_elim, true≢false, arith}
use Rattle.foundation.specs.Tests.{pick, cases, eq_true, ne_false, true_eq, false_eq, true-le, and-true}
use Rattle.foundation.specs.Tests.{not-true}
use Rattle.foundation.specs.Lists.{Mem, allb, any_false}
use Rattle.foundation.specs.Intervals.{none?}
use Rattle.model.specs.declared.Head.{Head}
use Rattle.model.specs.declared.Request.{Request}
use Rattle.model.specs.declared.Reply.TheVariants.{Refused, Unsupported}
use Rattle.model.specs.Base.{Base, controls}
use Rattle.model.specs.Support.{gaps}
use Rattle.model.proofs.SupportFacts.{gaps_earliest, earliest_only}
use Rattle.model.specs.Requests.{grants, new_head}
use Rattle.model.specs.Means.{Means, plainly}
use Rattle.model.specs.Step.{Row, first_number, range_tests, out_of_range}
use Rattle.model.specs.Step.{not_supported}
use Rattle.model.specs.Step.{table, refusal, refused_or, accepting, effect, Outcome, step}
use Rattle.model.specs.Step.{earliest_gap, refusal_reply}
use Rattle.model.specs.Step.{Accepted}
use Rattle.model.specs.Step.{Numbered, row_given, numbered?, rising?}
use Rattle.model.specs.Step.{IsEarliest}

-- ---- the first row that applies

-- a number that is given is a row's whose condition holds
pub first-given : (rows : List Row) → first_number rows ≢ 0 →
    (r : Row) × Mem r rows × (r.given ≡ true) × (r.number ≡ first_number rows)
first-given [] n = absurd (n refl)
first-given (r ∷ rest) n = cases r.given
    (λ g. (r, inl refl, g, sym (rw g)))
    (λ g. let w = first-given rest (λ z. n (rw g z)) in (w.0, inr w.1, w.2, w.3 ∙ sym (rw g)))

-- where a row's condition holds and that of none before it, its number is given
pub first_applies : (front : List Row) (r : Row) (rest : List Row) →
    ((s : Row) → Mem s front → s.given ≡ false) →
    r.given ≡ true → first_number (front ++ (r ∷ rest)) ≡ r.number
first_applies [] r rest h g = rw g
first_applies (s ∷ front) r rest h g = rw (h s (inl refl)) (first_applies front r rest (λ x m. h x (inr m)) g)

-- where none is given, no row's condition holds
pub first_none : (rows : List Row) → Numbered rows → first_number rows ≡ 0 → (r : Row) → Mem r rows →
    r.given ≡ false
first_none [] up z r m = absurd m.lower
first_none (s ∷ rest) up z r m = cases s.given
    (λ g. let w : s.number ≡ 0 = rw g at z in absurd (omega (arith, up.0)))
    (λ g. ⊎_elim (λ e. rw e g) (λ k. first_none rest up.1 (rw g at z) r k) m)

-- where no number is given, no row's condition holds
pub none_given : (rows : List Row) → Numbered rows → first_number rows ≡ 0 → (n : ℕ) →
    row_given n rows ≡ false
none_given [] up z n = refl
none_given (r ∷ rest) up z n =
    let f : r.given ≡ false = first_none (r ∷ rest) up z r (inl refl) in
    cases (eqb r.number n) (λ e. rw e f) (λ e. rw e (none_given rest up.1 (rw f at z) n))

-- rows behind others count where none of those applies
pub first_append : (front rest : List Row) → Numbered front →
    first_number (front ++ rest) ≡ pick (eqb (first_number front) 0) (first_number rest) (first_number front)
first_append [] rest up = refl
first_append (x ∷ front) rest up = cases x.given
    (λ e. let f : eqb x.number 0 ≡ false = ne_false x.number 0 (λ z. omega (arith, up.0)) in rw (e, f))
    (λ e. rw e (first_append front rest up.1))

-- what 0 and the number of every row have, the number that is given has
pub first_all : (p : ℕ → Bool) (rows : List Row) → p 0 ≡ true → allb (λ r. p r.number) rows ≡ true →
    p (first_number rows) ≡ true
first_all p [] z e = z
first_all p (r ∷ rest) z e =
    let w = and-true (p r.number) (allb (λ s. p s.number) rest) e in
    cases r.given (λ g. rw g w.0) (λ g. rw g (first_all p rest z w.1))

pub numbered : (rows : List Row) → numbered? rows ≡ true → Numbered rows
numbered [] e = tt
numbered (r ∷ rest) e =
    let w = and-true (ltb 0 r.number) (numbered? rest) e in
    (true-le 1 r.number w.0, numbered rest w.1)

-- ---- the table

pub table_numbered : (M : Means) (b : Base) (q : Request) → Numbered (table M b q)
table_numbered M b q = numbered (table M b q) refl

-- where they rise, the first number that applies is the lowest
pub first_lowest : (n : ℕ) (rows : List Row) → rising? n rows ≡ true → (r : Row) → Mem r rows →
    r.given ≡ true →
    first_number rows ≤ r.number
first_lowest n [] up r m g = absurd m.lower
first_lowest n (s ∷ rest) up r m g =
    let w = and-true (ltb n s.number) (rising? s.number rest) up in
    cases s.given
    (λ h. rw h (⊎_elim (λ e. rw e (omega arith)) (λ k. omega (arith, past s.number rest w.1 k)) m))
    (λ h. rw h (⊎_elim (λ e. absurd (true≢false (sym g ∙ ap (λ (x : Row). x.given) e ∙ h)))
    (λ k. first_lowest s.number rest w.1 r k g) m))
  where
    past : (m : ℕ) (rows : List Row) → rising? m rows ≡ true → Mem r rows → m < r.number
    past m [] u k = absurd k.lower
    past m (x ∷ xs) u (inl e) = let w = and-true (ltb m x.number) (rising? x.number xs) u in
        rw e (true-le (suc m) x.number w.0)
    past m (x ∷ xs) u (inr k) = let w = and-true (ltb m x.number) (rising? x.number xs) u in
        let i = past x.number xs w.1 k in omega (arith, true-le (suc m) x.number w.0)

-- In the table they rise but for 14, which 02 has "checked after 8 and before 9"
pub table-order : (M : Means) (b : Base) (q : Request) →
    map (λ r. r.number) (table M b q) ≡ 3 ∷ 4 ∷ 5 ∷ 6 ∷ 7 ∷ 8 ∷ 14 ∷ 9 ∷ 10 ∷ 11 ∷ 12 ∷ 13 ∷ []
table-order M b q = refl

pub accepted : (b : Base) (q : Request) → refusal plainly b q ≡ 0 → Accepted b q
accepted b q z =
    let none : (n : ℕ) → row_given n (table plainly b q) ≡ false =
    none_given (table plainly b q) (table_numbered plainly b q) z in
    record {
      range = none 3;
      clock = none 4;
      interval = none 5;
      object = none 6;
      label = none 7;
      permitted = none 8;
      unbarred = none 14;
      support = none 9;
      fresh = none 10;
      held = none 11;
      strata = none 12;
      room = none 13;
    }

-- one of the tests of row 3
pub in_range : (q : Request) → out_of_range q ≡ false → (x : Bool) → Mem x (range_tests q) → x ≡ false
in_range q = any_false (λ y. y) (range_tests q)

-- ---- the reply that refuses

module _ (b : Base) (q : Request) where
  -- the authorization that is asked for
  abbrev asked_head : Head
  asked_head = new_head (suc b.last) q

  -- 02: "the earliest uncovered" instant is what goes with 9, where row 9 applies,
  pub earliest_gap_lem : not_supported plainly b q ≡ true → IsEarliest b q (earliest_gap plainly b q)
  earliest_gap_lem e =
      let lacks = not (none? (gaps b.authorizations asked_head q.interval)) in
      let outside = not (controls b q.object q.requester) in
      gaps_earliest b.authorizations asked_head q.interval
      (not-true (none? (gaps b.authorizations asked_head q.interval))
      (and-true (grants q && outside) lacks e).1)

  -- and no other instant is
  pub earliest_one : (t : ℕ) → IsEarliest b q t → t ≡ earliest_gap plainly b q
  earliest_one = earliest_only b.authorizations asked_head q.interval

  -- with 9 the instant, with any other number nothing
  pub reply_nine : refusal_reply plainly b q 9 ≡ Unsupported (earliest_gap plainly b q)
  reply_nine = refl

  pub reply_number_lem : (n : ℕ) → n ≢ 9 → refusal_reply plainly b q n ≡ Refused n
  reply_number_lem n e = rw (ne_false n 9 e, refusal_reply)

-- ---- the outcome

module _ {A : Type 0} (rows : List Row) (refuse : ℕ → A) (answer : A) where
  pub answered : first_number rows ≡ 0 → refused_or rows refuse answer ≡ answer
  answered z = rw (eq_true (first_number rows) 0 z, refused_or)

  pub turned_away : first_number rows ≢ 0 → refused_or rows refuse answer ≡ refuse (first_number rows)
  turned_away n = rw (ne_false (first_number rows) 0 n, refused_or)

  -- what the refusal by rows and the answer have, the outcome has
  pub by_rows : (P : A → Type 0) → P (refuse (first_number rows)) → (first_number rows ≡ 0 → P answer) →
      P (refused_or rows refuse answer)
  by_rows P r p = cases (eqb (first_number rows) 0)
      (λ e. let z = true_eq (first_number rows) 0 e in subst P (sym (answered z)) (p z))
      (λ e. subst P (sym (turned_away (false_eq (first_number rows) 0 e))) r)

module _ (b : Base) (q : Request) where
  abbrev refusing : ℕ → Outcome
  refusing n = record { reply = refusal_reply plainly b q n; base = b }

  abbrev accepted_outcome : Outcome
  accepted_outcome = record { reply = accepting b q (effect plainly b q); base = effect plainly b q }

  -- accepted: the effect
  pub step-accepted : refusal plainly b q ≡ 0 → step b q ≡ accepted_outcome
  unfolding step
  step-accepted z = answered (table plainly b q) refusing accepted_outcome z

  -- refused: the number, and the base as it was
  pub step-refused : refusal plainly b q ≢ 0 → step b q ≡ refusing (refusal plainly b q)
  unfolding step
  step-refused n = turned_away (table plainly b q) refusing accepted_outcome n

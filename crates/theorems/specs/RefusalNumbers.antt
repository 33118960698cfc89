-- The number that a request's reply refuses with is the table's (`encoded-number`), so that the condition of
-- its row holds (`nine-applies`, `fourteen-barred`), and that of no row before it.
use Rattle.std.specs.Prelude.{◌≡◌, refl, ◌≢◌, ℕ, Bool, true, false, not, List, [], ◌∷◌, eqb}
use Rattle.std.proofs.Common.{sym, ap, ◌∙◌, inl}
use Rattle.std.proofs.lemmas.Bool.{false≢true}
use Rattle.foundation.specs.Tests.{cases, true_eq, false_eq, eq_true, not-false}
use Rattle.foundation.specs.Lists.{allb, keep_if}
use Rattle.model.specs.declared.Request.{Request}
use Rattle.model.specs.declared.Reply.TheVariants.{Done}
use Rattle.model.specs.Base.{Base}
use Rattle.model.specs.Means.{plainly}
use Rattle.model.specs.Step.{Row, first_number, accepting, refusal, effect, barred, not_supported}
use Rattle.model.proofs.StepFacts.{by_rows, first_all, first_none, numbered, none_given}
use Rattle.model.specs.Step.{Numbered, row_given}
use Rattle.model.specs.Encoding.{encode, decode}
use Rattle.model.specs.Soundness.{sound, sound_bytes}
use Rattle.model.specs.SoundnessFacts.{decoded-sound}
use Rattle.model.specs.Step.{Barred}
use Rattle.model.proofs.GrantFacts.{barred-instant}
use Rattle.model.specs.Answers.{Answer, answering, request_table, request, refusal_number}
use Rattle.laws.specs.EarlyRows.{rows_until}
use Rattle.laws.specs.RequestFacts.{reply_refusal, refused_with, encoded_table}

-- ---- the rows before one

-- where a row's number is given, no row before it applies
none_until : (n : ℕ) (rows : List Row) → first_number rows ≡ n → first_number (rows_until n rows) ≡ 0
none_until n [] z = refl
none_until n (r ∷ rest) z = cases (eqb r.number n)
    (λ e. rw e)
    (λ e. cases r.given
    (λ g. absurd (false_eq r.number n e (rw g at z)))
    (λ g. rw (e, g) (none_until n rest (rw g at z))))

-- and where no row before it applies and its condition holds, its number is given
pub given_behind : (n : ℕ) (rows : List Row) → Numbered (rows_until n rows) →
    first_number (rows_until n rows) ≡ 0 → row_given n rows ≡ true → first_number rows ≡ n
given_behind n [] up z g = absurd (false≢true g)
given_behind n (r ∷ rest) up z g = cases (eqb r.number n)
    (λ e. let h : r.given ≡ true = rw e at g in rw h (true_eq r.number n e))
    (λ e. let u : Numbered (r ∷ rows_until n rest) = rw e at up in
    let y : first_number (r ∷ rows_until n rest) ≡ 0 = rw e at z in
    let f : r.given ≡ false = first_none (r ∷ rows_until n rest) u y r (inl refl) in
    rw f (given_behind n rest u.1 (rw f at y) (rw e at g)))

-- ---- the number that is given

-- the reply has the number of the first row that applies
request-number : (s : List ℕ) (q : Request) →
    refusal_number (request s q).reply ≡ first_number (request_table s q)
unfolding request
request-number s q =
    let after = effect plainly (decode s) q in
    by_rows (request_table s q) (refused_with s q) (answering (accepting (decode s) q after) (encode after))
    (λ (a : Answer). refusal_number a.reply ≡ first_number (request_table s q))
    (reply_refusal (decode s) q (first_number (request_table s q))) sym

-- ---- on the encoding of a sound base

module _ (b : Base) (q : Request) (s : sound b ≡ true) where
  encoded_number : refusal_number (request (encode b) q).reply ≡ refusal plainly b q
  encoded_number = request-number (encode b) q ∙ encoded_table b q s

  -- so it tells whether the table lets the request pass
  pub done_passes : {label count : ℕ} → (request (encode b) q).reply ≡ Done label count →
      refusal plainly b q ≡ 0
  done_passes e = sym encoded_number ∙ ap refusal_number e

  pub number-refused : refusal_number (request (encode b) q).reply ≢ 0 → refusal plainly b q ≢ 0
  number-refused n z = n (encoded_number ∙ z)

  pub refused-number : refusal plainly b q ≢ 0 → refusal_number (request (encode b) q).reply ≢ 0
  refused-number n z = n (sym encoded_number ∙ z)

-- ---- the condition of its row

-- the rows without one
abbrev rows_but : List ℕ → Request → ℕ → List Row
rows_but s q k = keep_if (λ r. not (eqb r.number k)) (request_table s q)

module _ (s : List ℕ) (q : Request) where
  -- a condition holds where, if it did not, rows would decide of which none has the number that is given
  must_hold : (k : ℕ) (c : Bool) (others : List Row) →
      (c ≡ false → first_number (request_table s q) ≡ first_number others) → not (eqb 0 k) ≡ true →
      allb (λ r. not (eqb r.number k)) others ≡ true → refusal_number (request s q).reply ≡ k → c ≡ true
  must_hold k c others same z e n = cases c (λ f. f) (λ f.
      let w : not (eqb (first_number others) k) ≡ true = first_all (λ m. not (eqb m k)) others z e in
      let given : first_number others ≡ k = sym (same f) ∙ sym (request-number s q) ∙ n in
      absurd (false≢true (sym (ap not (eq_true (first_number others) k given)) ∙ w)))

  -- where 9 is given, the condition of row 9 holds (and `uncovered-reply` says what the reply tells)
  pub nine_applies : refusal_number (request s q).reply ≡ 9 → not_supported plainly (decode s) q ≡ true
  nine_applies = must_hold 9 (not_supported plainly (decode s) q) (rows_but s q 9) (λ f. rw f) refl refl

  -- where 14 is given, the condition of row 14 holds, and that of no row before it
  fourteen_applies : refusal_number (request s q).reply ≡ 14 → barred (decode s) q ≡ true
  fourteen_applies = must_hold 14 (barred (decode s) q) (rows_but s q 14) (λ f. rw f) refl refl

  fourteen_first : refusal_number (request s q).reply ≡ 14 → (n : ℕ) →
      row_given n (rows_until 14 (request_table s q)) ≡ false
  fourteen_first e =
      let rows = request_table s q in
      none_given (rows_until 14 rows) (numbered (rows_until 14 rows) refl)
      (none_until 14 rows (sym (request-number s q) ∙ e))

  -- 02, CR 4: so a requester that is told 14 is barred (and one that is barred is told 14:
  -- `barred-fourteen` in Refusals)
  pub fourteen_barred : refusal_number (request s q).reply ≡ 14 → Barred (decode s) q
  fourteen_barred e =
      let sound? = not-false (sound_bytes s) (fourteen_first e 2) in
      (barred-instant (decode s) q (decoded-sound s sound?) (fourteen_first e 5)).0 (fourteen_applies e)

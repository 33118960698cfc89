-- Which numbers each public function refuses with, and that a refusal leaves what was lent (demand 1): one
-- theorem a function, each an instance of `refused`.
use Rattle.std.specs.Prelude.{Ok, ◌≡◌, refl, ◌≢◌, ℕ, suc, ◌*◌, ◌/◌, ◌≤◌, true, false, not, List, [], ◌∷◌, ◌++◌, map, ltb, eqb, length, drop}
use Rattle.std.proofs.Common.{sym, ap, ◌∙◌, subst, inl, inr, ⊎_elim, arith}
use Rattle.foundation.specs.Tests.{cases, true_eq, false_eq, and-true, le-false, not-false}
use Rattle.foundation.specs.Lists.{Mem, anyb, allb, any_mem, mem-map, keep_if}
use Rattle.model.specs.declared.Request.{Request}
use Rattle.model.specs.declared.Access.{Access}
use Rattle.model.specs.declared.Question.{Question}
use Rattle.model.specs.declared.Reply.{Reply}
use Rattle.model.specs.declared.Reply.TheVariants.{Done, Refused, Unsupported, Runs}
use Rattle.model.specs.Ranges.{is_object}
use Rattle.model.specs.Base.{Base, empty_base, exists}
use Rattle.model.specs.Rules.{may, when}
use Rattle.model.specs.Means.{plainly}
use Rattle.model.specs.Step.{Row, row, first_number, refused_or, accepting, effect, earliest_gap}
use Rattle.model.proofs.StepFacts.{first-given, answered, turned_away, numbered}
use Rattle.model.specs.Step.{rising?}
use Rattle.model.specs.Step.{IsEarliest}
use Rattle.model.proofs.StepFacts.{earliest_gap_lem, earliest_one, none_given}
use Rattle.model.specs.Encoding.{size, encode, decode}
use Rattle.model.specs.Soundness.{sound, sound_bytes}
use Rattle.model.specs.SoundnessFacts.{sound_bytes_lem, decoded-sound}
use Rattle.model.specs.Answers.{Answer, answering, refusing, refusal_number, create, request_table}
use Rattle.model.specs.Answers.{request}
use Rattle.model.specs.Answers.{may_table, when_table, words, may_reply, may_answer, when_answer}
use Rattle.model.specs.Simple.{simple_table, simple_answer}
use Rattle.model.proofs.SimpleFacts.{replied}
use Rattle.model.specs.Counting.{Counting, counting, declining, counted_refusal}
use Rattle.model.specs.Report.{is_on, report_of, report_table, report_answer}
use Rattle.model.specs.ReportFacts.{report_length}
use Rattle.model.specs.Text.{Line, order, asks_may, asks_when, unreadable}
use Rattle.model.specs.Session.{pairs, when_list, byte_turn}
use Rattle.model.specs.Step.{Barred}
use Rattle.model.proofs.GrantFacts.{barred-instant}
use Rattle.laws.specs.EarlyRows.{rows_until}
use Rattle.laws.specs.SessionFacts.{when-most}
use Rattle.laws.specs.RequestFacts.{reply_refusal, refused_with, uncovered_reply}
use Rattle.theorems.specs.RefusalNumbers.{given_behind, nine_applies, fourteen_barred}

-- an answer with a number that is not 0 is the refusal by a row, and the number is that row's
refused : {A : Type 0} (rows : List Row) (refuse : ℕ → A) (answer : A) (number : A → ℕ) →
    ((n : ℕ) → number (refuse n) ≡ n) → number answer ≡ 0 →
    let a = refused_or rows refuse answer in
    number a ≢ 0 → Mem (number a) (map (λ r. r.number) rows) × (a ≡ refuse (first_number rows))
refused {A} rows refuse answer number as-refused as-answered n = cases (eqb (first_number rows) 0)
    (λ e. absurd (n (ap number (answered rows refuse answer (true_eq (first_number rows) 0 e)) ∙ as-answered)))
    (λ e. let k = false_eq (first_number rows) 0 e in
    let same : refused_or rows refuse answer ≡ refuse (first_number rows) = turned_away rows refuse answer k in
    let w = first-given rows k in
    let given : number (refused_or rows refuse answer) ≡ w.0.number =
    ap number same ∙ as-refused (first_number rows) ∙ sym w.3 in (
      subst (λ (x : ℕ). Mem x (map (λ r. r.number) rows)) (sym given)
          (mem-map (λ r. r.number) rows w.0 w.1),
      same,
    ))

abbrev number : Answer → ℕ
number a = refusal_number a.reply

-- where the reply is a refusal, the bytes or the list are as before
kept : (a : Answer) (s : List ℕ) (n : ℕ) → a ≡ refusing s n → a.lent ≡ s
kept a s n e = ap (λ (x : Answer). x.lent) e

-- the table's numbers for a request, in its order; 1 is a line's that cannot be read
abbrev pub request_numbers : List ℕ
request_numbers = 2 ∷ 3 ∷ 4 ∷ 5 ∷ 6 ∷ 7 ∷ 8 ∷ 14 ∷ 9 ∷ 10 ∷ 11 ∷ 12 ∷ 13 ∷ []

pub create_refuses : (s : List ℕ) → refusal_number (create s).reply ≢ 0 →
    Mem (refusal_number (create s).reply) (2 ∷ []) × ((create s).lent ≡ s)
unfolding create
create_refuses s n =
    let rows = row 2 (not (eqb (length s) size)) ∷ [] in
    let w = refused rows (refusing s) (answering (Done 0 0) (encode empty_base)) number (λ k. refl) refl n in
    (w.0, kept (create s) s (first_number rows) w.1)

pub request_refuses : (s : List ℕ) (q : Request) → refusal_number (request s q).reply ≢ 0 →
    Mem (refusal_number (request s q).reply) request_numbers × ((request s q).lent ≡ s)
unfolding request
request_refuses s q n =
    let after = effect plainly (decode s) q in
    let w = refused (request_table s q) (refused_with s q)
    (answering (accepting (decode s) q after) (encode after)) number
    (reply_refusal (decode s) q) refl n in
    (w.0, ap (λ (a : Answer). a.lent) w.1)

-- MAY gets nothing that it could alter
pub may_refuses : (s : List ℕ) (q : Question) → refusal_number (may_answer s q) ≢ 0 →
    Mem (refusal_number (may_answer s q)) (2 ∷ 3 ∷ 6 ∷ [])
unfolding may_answer
may_refuses s q n =
    let yes? = may (decode s) q.access q.instant in
    (refused (row 2 (not (sound_bytes s)) ∷ may_table (decode s) q) Refused (may_reply yes?) refusal_number
    (λ k. refl) (replied yes?) n).0

-- nor does the simple engine's
pub simple_refuses : (s : List ℕ) (q : Question) → refusal_number (simple_answer s q) ≢ 0 →
    Mem (refusal_number (simple_answer s q)) (2 ∷ 3 ∷ 6 ∷ 15 ∷ [])
unfolding simple_answer
simple_refuses s q n =
    let yes? = may (decode s) q.access q.instant in
    (refused (row 2 (not (sound_bytes s)) ∷ simple_table (decode s) q) Refused (may_reply yes?) refusal_number
    (λ k. refl) (replied yes?) n).0

-- the first row that applies is the lowest number that applies
pub simple_rises : (s : List ℕ) (q : Question) →
    rising? 1 (row 2 (not (sound_bytes s)) ∷ simple_table (decode s) q) ≡ true
simple_rises s q = refl

pub when_refuses : (s : List ℕ) (x : Access) (list : List ℕ) →
    refusal_number (when_answer s x list).reply ≢ 0 →
    Mem (refusal_number (when_answer s x list).reply) (2 ∷ 3 ∷ 6 ∷ 13 ∷ [])
    × ((when_answer s x list).lent ≡ list)
unfolding when_answer
when_refuses s x list n =
    let runs = when (decode s) x in
    let k = length runs in
    let rows = row 2 (not (sound_bytes s)) ∷ when_table (decode s) x (length list / 2) k in
    let w = refused rows (refusing list) (answering (Runs k) (words runs ++ drop (2 * k) list)) number
    (λ k. refl) refl n in
    (w.0, kept (when_answer s x list) list (first_number rows) w.1)

-- theorem 5: a session's WHEN, whose list has 1,100 pairs, is never refused with 13
pub list_suffices : (b : Base) → sound b ≡ true → (x : Access) → ltb pairs (length (when b x)) ≡ false
list_suffices b s x = le-false (suc pairs) (length (when b x)) (let h = when-most b s x in omega arith)

-- the sheet, and its page
pub report_refuses : (s : List ℕ) (o : ℕ) (page : List ℕ) →
    counted_refusal (report_answer s o page).reply ≢ 0 →
    Mem (counted_refusal (report_answer s o page).reply) (2 ∷ 3 ∷ 6 ∷ 13 ∷ [])
    × ((report_answer s o page).lent ≡ page)
unfolding report_answer
report_refuses s o page n =
    let text = report_of (decode s) o in
    let k = length text in
    let rows = row 2 (not (sound_bytes s)) ∷ report_table (decode s) o (length page) k in
    let w = refused rows (declining page) (counting (Ok k) (text ++ drop k page))
    (λ (a : Counting). counted_refusal a.reply) (λ k. refl) refl n in
    (w.0, ap (λ (a : Counting). a.lent) w.1)

-- the first row of a sheet that applies is the lowest number that applies
pub report_rises : (s : List ℕ) (o room need : ℕ) →
    rising? 1 (row 2 (not (sound_bytes s)) ∷ report_table (decode s) o room need) ≡ true
report_rises s o room need = refl

-- a page of 44 bytes for each authorization on the object suffices, and none is needed where there is none
pub report_fills : (s : List ℕ) (o : ℕ) (page : List ℕ) → sound_bytes s ≡ true → is_object o ≡ true →
    exists (decode s) o ≡ true → 44 * length (keep_if (is_on o) (decode s).authorizations) ≤ length page →
    (report_answer s o page).reply ≡ Ok (44 * length (keep_if (is_on o) (decode s).authorizations))
unfolding report_answer
report_fills s o page sound? object there room =
    let text = report_of (decode s) o in
    let n = report_length (decode s) o (sound_bytes_lem s sound?).1 in
    let rows = row 2 (not (sound_bytes s)) ∷ report_table (decode s) o (length page) (length text) in
    let fits : ltb (length page) (length text) ≡ false =
    le-false (suc (length page)) (length text) (omega (arith, n)) in
    let none : first_number rows ≡ 0 = rw (sound?, object, there, fits) in
    ap (λ (a : Counting). a.reply) (answered rows (declining page)
    (counting (Ok (length text)) (text ++ drop (length text) page)) none)
    ∙ ap Ok n

-- ---- the same about the code

-- by the contract of the library's request
pub answered_refuses : (s : List ℕ) (q : Request) (r : Reply) (s' : List ℕ) →
    answering r s' ≡ request s q → refusal_number r ≢ 0 → Mem (refusal_number r) request_numbers × (s' ≡ s)
answered_refuses s q r s' a n =
    let same : (request s q).reply ≡ r = ap (λ (x : Answer). x.reply) (sym a) in
    let w = request_refuses s q (λ z. n (ap refusal_number (sym same) ∙ z)) in (
      subst (λ (x : Reply). Mem (refusal_number x) request_numbers) same w.0,
      ap (λ (x : Answer). x.lent) a ∙ w.1,
    )

-- 02, CR 3: a refusal with 9 tells the earliest uncovered instant: it lies in the span, nothing covers it,
-- every instant of the span before it is covered, and no other instant is such
pub answered_nine : (s : List ℕ) (q : Request) (r : Reply) (s' : List ℕ) → answering r s' ≡ request s q →
    refusal_number r ≡ 9 →
    (t : ℕ) × (r ≡ Unsupported t) × IsEarliest (decode s) q t
    × ((u : ℕ) → IsEarliest (decode s) q u → u ≡ t)
answered_nine s q r s' a n =
    let same : r ≡ (request s q).reply = ap (λ (x : Answer). x.reply) a in
    let nine : refusal_number (request s q).reply ≡ 9 = ap refusal_number (sym same) ∙ n in (
      earliest_gap plainly (decode s) q,
      same ∙ uncovered_reply s q nine,
      earliest_gap_lem (decode s) q (nine_applies s q nine),
      earliest_one (decode s) q,
    )

-- 02, CR 4: a requester that is told 14 is one that its row names
pub answered_fourteen : (s : List ℕ) (q : Request) (r : Reply) (s' : List ℕ) →
    answering r s' ≡ request s q → refusal_number r ≡ 14 → Barred (decode s) q
answered_fourteen s q r s' a n =
    fourteen_barred s q (ap (λ (x : Answer). refusal_number x.reply) (sym a) ∙ n)

-- and one that it names is told 14, where no row before it applies
pub barred_fourteen : (s : List ℕ) (q : Request) → first_number (rows_until 14 (request_table s q)) ≡ 0 →
    Barred (decode s) q → request s q ≡ answering (Refused 14) s
unfolding request
barred_fourteen s q z w =
    let rows = request_table s q in
    let up = numbered (rows_until 14 rows) refl in
    let passed = none_given (rows_until 14 rows) up z in
    let sound? = not-false (sound_bytes s) (passed 2) in
    let given = (barred-instant (decode s) q (decoded-sound s sound?) (passed 5)).1 w in
    let n : first_number rows ≡ 14 = given_behind 14 rows up z given in
    turned_away rows (refused_with s q) _ (λ y. omega (arith, n)) ∙ ap (refused_with s q) n

-- ---- a line of text

-- the numbers that a line's reply may tell: 1 for one that cannot be read, and those of a request
abbrev pub line_numbers : List ℕ
line_numbers = 1 ∷ request_numbers

-- a list within another, by a test
within : (xs ys : List ℕ) → allb (λ x. anyb (λ y. eqb x y) ys) xs ≡ true → (n : ℕ) → Mem n xs → Mem n ys
within [] ys e n m = absurd m.lower
within (x ∷ xs) ys e n m =
    let w = and-true (anyb (λ y. eqb x y) ys) (allb (λ z. anyb (λ y. eqb z y) ys) xs) e in
    ⊎_elim
    (λ i. let f = any_mem (λ y. eqb x y) ys w.0 in
    subst (λ (k : ℕ). Mem k ys) (sym (i ∙ true_eq x f.0 f.2)) f.1)
    (λ k. within xs ys w.1 n k)
    m

pub line_refuses : (s : List ℕ) (l : Line) → refusal_number (byte_turn s l).reply ≢ 0 →
    Mem (refusal_number (byte_turn s l).reply) line_numbers × ((byte_turn s l).lent ≡ s)
line_refuses s (order q) n = let w = request_refuses s q n in (inr w.0, w.1)
line_refuses s (asks_may q) n = (within (2 ∷ 3 ∷ 6 ∷ []) line_numbers refl _ (may_refuses s q n), refl)
line_refuses s (asks_when x) n =
    (within (2 ∷ 3 ∷ 6 ∷ 13 ∷ []) line_numbers refl _ (when_refuses s x when_list n).0, refl)
line_refuses s unreadable n = (inl refl, refl)

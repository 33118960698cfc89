-- What base's functions reply is small enough to come apart again: every packed reply gives back its refusal,
-- its label and its number (PackedReplies), a packed reply to a request says what the request's definition
-- says (`request-parts`), and so does one to a line of text (`text-parts`) and one with a rights sheet
-- (`report-parts`).
use Rattle.std.specs.Prelude.{Ok, Result, ◌≡◌, refl, Bool, true, false, not, List, [], ◌∷◌, ◌++◌, ℕ, suc, ◌*◌, ◌/◌, ◌%◌, ◌≤◌, ◌<◌, ltb, eqb, length, drop}
use Rattle.std.proofs.Common.{ap, ◌∙◌, inl, ⊎_elim, arith}
use Rattle.foundation.specs.Tests.{true-le, not-false}
use Rattle.foundation.specs.Lists.{allb, kept_length}
use Rattle.model.specs.declared.Request.{Request}
use Rattle.model.specs.declared.Access.{Access}
use Rattle.model.specs.declared.Question.{Question}
use Rattle.model.specs.declared.Reply.{Reply}
use Rattle.model.specs.declared.Reply.TheVariants.{Done, Refused, Unsupported, Yes, No, Runs}
use Rattle.model.specs.Base.{empty_base}
use Rattle.model.specs.Rules.{may, when}
use Rattle.model.specs.Means.{plainly}
use Rattle.model.specs.Step.{Row, row, first_number, earliest_gap}
use Rattle.model.proofs.StepFacts.{first_all, first_none, numbered, by_rows}
use Rattle.model.specs.Encoding.{size, encode, decode}
use Rattle.model.specs.FitsFacts.{counts_fit_lem}
use Rattle.model.specs.Soundness.{sound_bytes}
use Rattle.model.specs.SoundnessFacts.{sound_tests_lem, sound_bytes_lem}
use Rattle.model.specs.Answers.{Answer, answering, refusing, refusal_number, create, request, label_of}
use Rattle.model.specs.Answers.{when_table, may_reply, may_answer, when_answer, words}
use Rattle.model.specs.Simple.{simple_table, simple_answer}
use Rattle.model.specs.Counting.{Counting, counting, declining, counted_refusal, counted_number}
use Rattle.model.specs.Report.{is_on, report_of, report_table, report_answer}
use Rattle.model.specs.ReportFacts.{report_length}
use Rattle.model.specs.Session.{WrittenText, text_answer}
use Rattle.laws.specs.RequestFacts.{uncovered_reply}
use Rattle.printing.specs.Print.{Short}
use Rattle.printing.proofs.ShortReplies.{request-short, may-short}
use Rattle.text.specs.Room.{refused_untouched}
use Rattle.records.specs.Records.{body_of, width_of, rows, page_rows, paged, page_answer, records_answer}
use Rattle.ffi.specs.PackedReplies.{reply_number, packed_count, packed_text, refusal-back}
use Rattle.ffi.specs.PackedReplies.{label-back}
use Rattle.ffi.specs.PackedReplies.{number-back}
use Rattle.ffi.specs.PackedReplies.{AnsweredBy}

-- the bounds under which a packed reply comes apart again
pub record SmallReply (r : Reply) : Type 0 where
  pub refusal : refusal_number r < 65536
  pub label : label_of r < 65536

-- the refusal by rows is small if a test over them says so
refused_small : (rows : List Row) → allb (λ r. ltb r.number 65536) rows ≡ true →
    SmallReply (Refused (first_number rows))
refused_small rows e =
    let w : ltb (first_number rows) 65536 ≡ true = first_all (λ n. ltb n 65536) rows refl e in
    record { refusal = true-le (suc (first_number rows)) 65536 w; label = omega arith }

-- the replies that a text of 16 bytes has room for
short_small : (r : Reply) → Short r → SmallReply r
short_small (Done label count) h = record { refusal = omega arith; label = h.0 }
short_small (Refused n) h = record { refusal = omega arith; label = omega arith }
short_small (Unsupported t) h = record { refusal = omega arith; label = omega arith }
short_small Yes h = record { refusal = omega arith; label = omega arith }
short_small No h = record { refusal = omega arith; label = omega arith }
short_small (Runs n) h = absurd h

-- ---- every reply is small

pub create_small : (s : List ℕ) → SmallReply (create s).reply
unfolding create
create_small s =
    let rows = row 2 (not (eqb (length s) size)) ∷ [] in
    by_rows rows (refusing s) (answering (Done 0 0) (encode empty_base))
    (λ (a : Answer). SmallReply a.reply)
    (refused_small rows refl) (λ z. record { refusal = omega arith; label = omega arith })

pub may_small : (s : List ℕ) (q : Question) → SmallReply (may_answer s q)
may_small s q = short_small (may_answer s q) (may-short s q)

pub simple_small : (s : List ℕ) (q : Question) → SmallReply (simple_answer s q)
unfolding simple_answer
simple_small s q =
    let yes? = may (decode s) q.access q.instant in
    let rows = row 2 (not (sound_bytes s)) ∷ simple_table (decode s) q in
    by_rows rows Refused (may_reply yes?) SmallReply (refused_small rows refl) (λ z. said yes?)
  where
    said : (yes? : Bool) → SmallReply (may_reply yes?)
    said true = record { refusal = omega arith; label = omega arith }
    said false = record { refusal = omega arith; label = omega arith }

pub when_small : (s : List ℕ) (x : Access) (list : List ℕ) → SmallReply (when_answer s x list).reply
unfolding when_answer
when_small s x list =
    let runs = when (decode s) x in
    let n = length runs in
    let rows = row 2 (not (sound_bytes s)) ∷ when_table (decode s) x (length list / 2) n in
    by_rows rows (refusing list) (answering (Runs n) (words runs ++ drop (2 * n) list))
    (λ (a : Answer). SmallReply a.reply) (refused_small rows refl)
    (λ z. record { refusal = omega arith; label = omega arith })

pub records_small : (s : List ℕ) (source first : ℕ) (list : List ℕ) →
    SmallReply (records_answer s source first list).reply
unfolding records_answer page_answer
records_small s source first list =
    let b = body_of source in
    let all = rows (decode s) b in
    let front = row 2 (not (sound_bytes s)) ∷ row 3 (ltb 5 source) ∷ [] in
    let behind = page_rows all (width_of b) first list in
    by_rows front (refusing list) (page_answer s b first list) (λ (a : Answer). SmallReply a.reply)
    (refused_small front refl)
    (λ z. by_rows behind (refusing list) (paged all (width_of b) first list)
    (λ (a : Answer). SmallReply a.reply)
    (refused_small behind refl) (λ z. record { refusal = omega arith; label = omega arith }))

pub request_small : (s : List ℕ) (q : Request) → SmallReply (request s q).reply
request_small s q = short_small (request s q).reply (request-short s q)

-- ---- the parts of a reply to a request

-- what the number that the exported request gives says of the request's definition: with 9 comes the
-- earliest uncovered instant
pub record RequestParts (s : List ℕ) (q : Request) (n : ℕ) : Type 0 where
  pub refusal : n % 65536 ≡ refusal_number (request s q).reply
  pub label : n / 65536 % 65536 ≡ label_of (request s q).reply
  pub number : n / 4294967296 ≡ reply_number (request s q).reply
  pub uncovered : refusal_number (request s q).reply ≡ 9 →
      n / 4294967296 ≡ earliest_gap plainly (decode s) q

pub request-parts : (s : List ℕ) (q : Request) (n : ℕ) (s' : List ℕ) → AnsweredBy s q n s' →
    RequestParts s q n
request-parts s q n s' w =
    let r = (request s q).reply in
    let small = request_small s q in
    let number : n / 4294967296 ≡ reply_number r = ap (λ (x : ℕ). x / 4294967296) w.0 ∙ number-back r in
    record {
      refusal = ap (λ (x : ℕ). x % 65536) w.0 ∙ refusal-back r small.refusal;
      label = ap (λ (x : ℕ). x / 65536 % 65536) w.0 ∙ label-back r small.label;
      number = number;
      uncovered = λ h. number ∙ ap reply_number (uncovered_reply s q h);
    }

-- ---- the parts of a reply in text

-- what the number that the exported text gives says of the text's definition
pub record TextParts (w : WrittenText) (n : ℕ) : Type 0 where
  pub refusal : n % 65536 ≡ w.refusal
  pub label : n / 65536 % 65536 ≡ 0
  pub count : n / 4294967296 ≡ w.count

pub text-parts : (s line out : List ℕ) → TextParts (text_answer s line out)
    (packed_text (text_answer s line out))
text-parts s line out =
    let w = text_answer s line out in
    let h : w.refusal < 65536 = ⊎_elim (λ e. omega (arith, e))
    (λ e. omega (arith, ap (λ (x : WrittenText). x.refusal) e)) (refused_untouched s line out) in
    record { refusal = omega arith; label = omega arith; count = omega arith }

-- ---- the parts of a reply with a rights sheet

-- 1,024 rows of 44 bytes always suffice
pub report_most : (s : List ℕ) (o : ℕ) → sound_bytes s ≡ true → length (report_of (decode s) o) ≤ 45056
report_most s o e =
    let b = decode s in
    let w = (sound_bytes_lem s e).1 in
    omega (
      arith,
      report_length b o w,
      kept_length (is_on o) b.authorizations,
      (counts_fit_lem b (sound_tests_lem b w).counts).authorizations,
    )

-- what the number that the exported report gives says of the sheet's definition
pub record CountParts (r : Result ℕ ℕ) (n : ℕ) : Type 0 where
  pub refusal : n % 65536 ≡ counted_refusal r
  pub label : n / 65536 % 65536 ≡ 0
  pub number : n / 4294967296 ≡ counted_number r

pub report_parts : (s : List ℕ) (o : ℕ) (page : List ℕ) →
    CountParts (report_answer s o page).reply (packed_count (report_answer s o page).reply)
unfolding report_answer
report_parts s o page =
    let text = report_of (decode s) o in
    let n = length text in
    let rows = row 2 (not (sound_bytes s)) ∷ report_table (decode s) o (length page) n in
    by_rows rows (declining page) (counting (Ok n) (text ++ drop n page))
    (λ (a : Counting). CountParts a.reply (packed_count a.reply))
    (let h = (refused_small rows refl).refusal in
    record { refusal = omega arith; label = omega arith; number = omega arith })
    (λ z. let e = not-false (sound_bytes s) (first_none rows (numbered rows refl) z _ (inl refl)) in
    let h = report_most s o e in
    record { refusal = omega arith; label = omega arith; number = omega arith })

-- What the sheet's definition says of lengths: a row of an authorization in its ranges has 44 bytes
-- (`row-width`), and the sheet of a sound base 44 for each authorization on the object (`report-length`).
use Rattle.std.specs.Prelude.{◌≡◌, refl, ℕ, suc, ◌+◌, ◌*◌, ◌-◌, ◌≤◌, Bool, true, List, [], ◌∷◌, ◌++◌, length, replicate}
use Rattle.std.proofs.Common.{sym, ap, ◌∙◌, inl, inr, sub-add_cancel, arith, length-append}
use Rattle.std.proofs.lemmas.List.{length-replicate}
use Rattle.foundation.specs.Tests.{and-true, cases}
use Rattle.foundation.specs.Lists.{allb, keep_if, each, Mem, all_mem, mem_all, kept, conjunct}
use Rattle.model.specs.declared.Head.{Head}
use Rattle.model.specs.declared.Authorization.{Authorization}
use Rattle.model.specs.Ranges.{is_instant, is_subject, is_object, is_mode, last_label, is_label}
use Rattle.model.specs.Base.{Base}
use Rattle.model.specs.Text.{space, decimal, print_instant}
use Rattle.model.specs.TextFacts.{decimal-below, instant-most}
use Rattle.model.specs.Soundness.{interval_in, authorization_in, sound}
use Rattle.model.specs.SoundnessFacts.{sound_tests_lem}
use Rattle.model.specs.SoundTests.{ranges_test}
use Rattle.model.specs.FitsFacts.{at_most}
use Rattle.model.specs.Report.{aligned, print_sign, print_option, report_row, is_on, report_of}

-- ---- one column

pub aligned-width : (w : ℕ) (text : List ℕ) → length text ≤ w → length (aligned w text) ≡ w
unfolding aligned
aligned-width w text h =
    length-append (replicate (w - length text) space) text
    ∙ ap (λ (n : ℕ). n + length text) (length-replicate (w - length text) space)
    ∙ sub-add_cancel h

-- a column with the blank before it is a column that is one wider
pub aligned_more : (w : ℕ) (text : List ℕ) → length text ≤ w → space ∷ aligned w text ≡ aligned (suc w) text
unfolding aligned
aligned_more w text h =
    let e : suc w - length text ≡ suc (w - length text) = omega arith in
    sym (ap (λ (n : ℕ). replicate n space ++ text) e)

sign-width : (h : Head) → length (print_sign h) ≡ 1
sign-width h = cases h.negative (λ e. rw e) (λ e. rw e)

option-width : (h : Head) → length (print_option h) ≡ 1
option-width h = cases h.negative
    (λ e. rw e)
    (λ e. rw e (cases h.option (λ f. rw f) (λ f. rw f)))

-- ---- one row

-- the numbers of an authorization fit their columns; an instant fits always
pub record Fits (h : Head) : Type 0 where
  pub label : length (decimal h.label) ≤ 5
  pub grantor : length (decimal h.grantor) ≤ 4
  pub subject : length (decimal h.subject) ≤ 4
  pub mode : length (decimal h.mode) ≤ 1

abbrev field_tests : Authorization → List Bool
field_tests a =
    is_label a.head.label
    ∷ is_subject a.head.grantor
    ∷ is_subject a.head.subject
    ∷ is_object a.head.object
    ∷ is_mode a.head.mode
    ∷ is_instant a.head.granted
    ∷ interval_in a.interval
    ∷ []

pub head_fits : (a : Authorization) → authorization_in a ≡ true → Fits a.head
head_fits a e =
    let t : (x : Bool) → Mem x (field_tests a) → x ≡ true = conjunct (field_tests a) e in
    let label = at_most 1 last_label a.head.label (t _ (inl refl)) in
    let grantor = at_most 1 1023 a.head.grantor (t _ (inr (inl refl))) in
    let subject = at_most 1 1023 a.head.subject (t _ (inr (inr (inl refl)))) in
    let mode = at_most 1 8 a.head.mode (t _ (inr (inr (inr (inr (inl refl)))))) in
    record {
      label = decimal-below 4 a.head.label (omega arith);
      grantor = decimal-below 3 a.head.grantor (omega arith);
      subject = decimal-below 3 a.head.subject (omega arith);
      mode = decimal-below 0 a.head.mode (omega arith);
    }

-- 02: "44 bytes a row"
pub row-width : (a : Authorization) → authorization_in a ≡ true → length (report_row a) ≡ 44
unfolding report_row
row-width a e =
    let f = head_fits a e in
    simp length-append (omega (
      arith,
      aligned-width 5 (decimal a.head.label) f.label,
      aligned-width 4 (decimal a.head.grantor) f.grantor,
      aligned-width 4 (decimal a.head.subject) f.subject,
      aligned-width 1 (decimal a.head.mode) f.mode,
      sign-width a.head,
      option-width a.head,
      aligned-width 10 (print_instant a.interval.start) (instant-most a.interval.start),
      aligned-width 10 (print_instant a.interval.end) (instant-most a.interval.end),
    ))

-- ---- the sheet

pub rows-length : (xs : List Authorization) → allb authorization_in xs ≡ true →
    length (each xs report_row) ≡ 44 * length xs
rows-length [] e = refl
rows-length (a ∷ xs) e =
    let w = and-true (authorization_in a) (allb authorization_in xs) e in
    length-append (report_row a) (each xs report_row)
    ∙ rw (row-width a w.0, rows-length xs w.1) (omega arith)

-- those on the object are in their ranges, if all are
pub on_in : (o : ℕ) (xs : List Authorization) → allb authorization_in xs ≡ true →
    allb authorization_in (keep_if (is_on o) xs) ≡ true
on_in o xs e = mem_all authorization_in (keep_if (is_on o) xs)
    (λ a m. all_mem authorization_in xs e a (kept (is_on o) xs a m).0)

-- the sheet of a sound base: 44 bytes for each authorization on the object
pub report_length : (b : Base) (o : ℕ) → sound b ≡ true →
    length (report_of b o) ≡ 44 * length (keep_if (is_on o) b.authorizations)
report_length b o e =
    let t = ranges_test b (sound_tests_lem b e) (allb authorization_in b.authorizations)
    (inr (inr (inr (inr (inr (inl refl)))))) in
    rows-length (keep_if (is_on o) b.authorizations) (on_in o b.authorizations t)

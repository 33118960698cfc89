-- The rights sheet of an object, which is hung up in the meter room (02, change request 1).
use Rattle.std.specs.Prelude.{Ok, ℕ, ◌-◌, Bool, not, List, [], ◌∷◌, ◌++◌, ltb, eqb, length, drop, replicate}
use Rattle.foundation.specs.Tests.{pick}
use Rattle.foundation.specs.Lists.{keep_if, each}
use Rattle.model.specs.declared.Head.{Head}
use Rattle.model.specs.declared.Authorization.{Authorization}
use Rattle.model.specs.Ranges.{is_object}
use Rattle.model.specs.Base.{Base, exists}
use Rattle.model.specs.Step.{Row, row, refused_or}
use Rattle.model.specs.Encoding.{decode}
use Rattle.model.specs.Soundness.{sound_bytes}
use Rattle.model.specs.Text.{ascii, newline, space, decimal, print_instant}
use Rattle.model.specs.Counting.{Counting, counting, declining}

-- ---- one row

-- 02: "right-aligned with blanks", in a column of w bytes
unfoldable pub aligned : ℕ → List ℕ → List ℕ
aligned w text = replicate (w - length text) space ++ text

-- 01: "sign `+` or `-`"
abbrev pub print_sign : Head → List ℕ
print_sign h = pick h.negative (ascii "-") (ascii "+")

-- 02: "option 1 (`n` for a denial)"; 01: "option `y` or `n`"
abbrev pub print_option : Head → List ℕ
print_option h = pick h.negative (ascii "n") (pick h.option (ascii "y") (ascii "n"))

-- 02: "one blank between columns, a newline byte last"
abbrev pub columns : List (List ℕ) → List ℕ
columns [] = newline ∷ []
columns (c ∷ []) = c ++ (newline ∷ [])
columns (c ∷ d ∷ rest) = c ++ (space ∷ columns (d ∷ rest))

-- 02: "label 5 wide, granter 4, subject 4, mode 1, sign 1, option 1 ..., start 10, end 10, numbers and `inf`
-- right-aligned with blanks"; "The last instant prints as `inf`". `row-width` in ReportFacts: "44 bytes a
-- row"
unfoldable pub report_row : Authorization → List ℕ
report_row a = columns (
    aligned 5 (decimal a.head.label)
    ∷ aligned 4 (decimal a.head.grantor)
    ∷ aligned 4 (decimal a.head.subject)
    ∷ aligned 1 (decimal a.head.mode)
    ∷ print_sign a.head
    ∷ print_option a.head
    ∷ aligned 10 (print_instant a.interval.start)
    ∷ aligned 10 (print_instant a.interval.end)
    ∷ [])

-- ---- the sheet

abbrev pub is_on : ℕ → Authorization → Bool
is_on o a = eqb a.head.object o

-- 02: "For one object, write a page of rows, one per line on it in base order"
abbrev pub rows_on : ℕ → List Authorization → List ℕ
rows_on o authorizations = each (keep_if (is_on o) authorizations) report_row

abbrev pub report_of : Base → ℕ → List ℕ
report_of b o = rows_on o b.authorizations

-- 3: the object's number is outside its range; 02: "A page buffer that is too small gets 13, an unknown
-- object 6"
abbrev pub report_table : Base → ℕ → ℕ → ℕ → List Row
report_table b o room need =
    row 3 (not (is_object o))
    ∷ row 6 (not (exists b o))
    ∷ row 13 (ltb room need)
    ∷ []

-- The sheet over lent bytes and a lent page. 02: "The reply is the byte count; bytes behind it are untouched"
unfoldable pub report_answer : List ℕ → ℕ → List ℕ → Counting
report_answer s o page =
    let text = report_of (decode s) o in
    let n = length text in
    let a = counting (Ok n) (text ++ drop n page) in
    refused_or (row 2 (not (sound_bytes s)) ∷ report_table (decode s) o (length page) n) (declining page) a

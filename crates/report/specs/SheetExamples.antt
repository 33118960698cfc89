-- Rows as they are printed: those of session S's meter, a denial, numbers as wide as they get, and the last
-- instant.
use Rattle.std.specs.Prelude.{◌≡◌, refl, ℕ, Bool, true, false, List, [], ◌∷◌, ◌++◌}
use Prim.Native.String.{String}
use Rattle.foundation.specs.Intervals.{interval}
use Rattle.model.specs.declared.Authorization.{Authorization}
use Rattle.model.specs.Ranges.{last_instant}
use Rattle.model.specs.Text.{ascii, newline, decimal}
use Rattle.model.specs.Report.{aligned, report_row, rows_on}

abbrev line : (label grantor subject object mode : ℕ) (negative option : Bool) (start end : ℕ) → Authorization
line label grantor subject object mode negative option start end = record {
  head = record {
    label = label;
    grantor = grantor;
    subject = subject;
    object = object;
    mode = mode;
    negative = negative;
    option = option;
    granted = 4;
  };
  interval = interval start end;
}

abbrev text : List String → List ℕ
text [] = []
text (l ∷ rest) = ascii l ++ (newline ∷ text rest)

pub shown : rows_on 7 (
    line 1 1 2 7 1 false true 50 59
    ∷ line 2 5 2 7 1 false true 80 150
    ∷ line 3 2 3 7 1 false true 55 59
    ∷ line 3 2 3 7 1 false true 80 150
    ∷ line 4 1 2 8 1 false true 80 150
    ∷ line 65534 1023 1022 7 8 true false 4294967294 last_instant
    ∷ line 65535 1023 1023 7 8 false false last_instant last_instant
    ∷ [])
    ≡ text (
    "    1    1    2 1 + y         50         59"
    ∷ "    2    5    2 1 + y         80        150"
    ∷ "    3    2    3 1 + y         55         59"
    ∷ "    3    2    3 1 + y         80        150"
    ∷ "65534 1023 1022 8 - n 4294967294        inf"
    ∷ "65535 1023 1023 8 + n        inf        inf"
    ∷ [])
unfolding report_row aligned decimal
shown = refl

-- A line is its fields, if it is short and none of them is left over.
use Rattle.std.specs.Prelude.{◌≡◌, refl, ℕ, ◌≤◌, ◌<◌, List, [], ◌∷◌, length}
use Rattle.std.proofs.Common.{ap}
use Rattle.foundation.specs.Bytes.{eq_list}
use Rattle.foundation.specs.Tests.{cases, le-true, le-false}
use Rattle.model.specs.Text.{any_line, or_unreadable, unreadable, read_line, space, split, whole, ascii}
use Rattle.reading.specs.ParsedLines.{asked_line}

whole_line : (fields : List (List ℕ)) → any_line fields ≡ whole (asked_line fields)
whole_line [] = refl
whole_line (f ∷ rest) = cases (eq_list f (ascii "MAY"))
    (λ e. rw e)
    (λ e. cases (eq_list f (ascii "WHEN")) (λ g. rw (e, g)) (λ g. rw (e, g)))

pub line_short : (s : List ℕ) → length s ≤ 96 → read_line s ≡ or_unreadable (whole (asked_line (split space s)))
unfolding read_line
line_short s h = rw (le-true (length s) 96 h, read_line) (ap or_unreadable (whole_line (split space s)))

pub line_long : (s : List ℕ) → 96 < length s → read_line s ≡ unreadable
unfolding read_line
line_long s h = rw (le-false (length s) 96 h, read_line)

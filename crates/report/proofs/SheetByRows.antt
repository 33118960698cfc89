-- The sheet over bytes, by the row of the table that applies: 2, 3, 6, 13, or none.
use Prim.Native.Nat.{ℕ, suc, ◌≤◌, ◌<◌}
use Rattle.std.specs.Prelude.{Ok}
use mathlib.Core.Path.{◌≡◌, ap}
use mathlib.Core.Bool.{Bool, true, false, not}
use mathlib.Core.List.{List, [], ◌∷◌, ◌++◌}
use native.Mathlib.Omega.{arith}
use lib.Dec.{ltb}
use lib.ListN.{length, drop}
use Rattle.foundation.specs.Tests.{le-true, le-false}
use Rattle.model.specs.Ranges.{is_object}
use Rattle.model.specs.Base.{exists}
use Rattle.model.specs.Step.{row, refused_or}
use Rattle.model.specs.Encoding.{decode}
use Rattle.model.specs.Soundness.{sound_bytes}
use Rattle.model.specs.Counting.{Counting, counting, declining}
use Rattle.model.specs.Report.{report_of, report_answer}
use Rattle.report.specs.Sheet.{sheet_filled}

-- row 13 applies, or not
module _ (text page : List ℕ) where
  abbrev written : Counting
  written = counting (Ok (length text)) (text ++ drop (length text) page)

  abbrev by_room : Bool → Counting
  by_room short? = refused_or (row 13 short? ∷ []) (declining page) written

  pub filled-refused : length page < length text → sheet_filled text page ≡ declining page 13
  filled-refused h = ap by_room (le-true (suc (length page)) (length text) h)

  pub filled-written : length text ≤ length page → sheet_filled text page ≡ written
  filled-written h = ap by_room (le-false (suc (length page)) (length text) (omega arith))

module _ (s : List ℕ) (o : ℕ) (page : List ℕ) where
  abbrev text : List ℕ
  text = report_of (decode s) o

  -- by what the rows before it ask
  abbrev over : Bool → Bool → Bool → Counting
  over sound? in? there? =
      refused_or (
      row 2 (not sound?)
      ∷ row 3 (not in?)
      ∷ row 6 (not there?)
      ∷ row 13 (ltb (length page) (length text))
      ∷ []) (declining page) (written text page)

  pub report_unsound : sound_bytes s ≡ false → report_answer s o page ≡ declining page 2
  unfolding report_answer
  report_unsound e = λ k. over (e k) (is_object o) (exists (decode s) o)

  pub report_range : sound_bytes s ≡ true → is_object o ≡ false → report_answer s o page ≡ declining page 3
  unfolding report_answer
  report_range e i = λ k. over (e k) (i k) (exists (decode s) o)

  pub report_unknown : sound_bytes s ≡ true → is_object o ≡ true → exists (decode s) o ≡ false →
      report_answer s o page ≡ declining page 6
  unfolding report_answer
  report_unknown e i t = λ k. over (e k) (i k) (t k)

  pub report_filled : sound_bytes s ≡ true → is_object o ≡ true → exists (decode s) o ≡ true →
      report_answer s o page ≡ sheet_filled text page
  unfolding report_answer
  report_filled e i t = λ k. over (e k) (i k) (t k)

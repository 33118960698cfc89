-- What the contracts of the sheet's inner functions say.
use Rattle.std.specs.Prelude.{ℕ, List, [], ◌∷◌, ◌++◌, Ok, ltb, length, drop}
use Rattle.model.specs.Step.{row, refused_or}
use Rattle.model.specs.Counting.{Counting, counting, declining}

-- a text at the front of the page, if the page has room for it
abbrev pub sheet_filled : List ℕ → List ℕ → Counting
sheet_filled text page =
    let n = length text in
    refused_or (row 13 (ltb (length page) n) ∷ []) (declining page) (counting (Ok n) (text ++ drop n page))

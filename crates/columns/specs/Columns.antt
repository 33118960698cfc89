-- A row as it is filled.
use Rattle.std.specs.Prelude.{List, ◌∷◌, ◌++◌, ℕ}
use Rattle.model.specs.declared.Head.{Head}
use Rattle.model.specs.Text.{space, decimal}
use Rattle.model.specs.Report.{aligned, print_sign, print_option}

-- the columns up to the option
unfoldable pub head_columns : Head → List ℕ
head_columns h =
    aligned 5 (decimal h.label)
    ++ aligned 5 (decimal h.grantor)
    ++ aligned 5 (decimal h.subject)
    ++ aligned 2 (decimal h.mode)
    ++ (space ∷ (print_sign h ++ (space ∷ print_option h)))

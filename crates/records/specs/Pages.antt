-- What the contracts of the page's inner functions say.
use Rattle.std.specs.Prelude.{ℕ, List}
use Rattle.model.specs.Step.{refused_or}
use Rattle.model.specs.Answers.{Answer, refusing}
use Rattle.records.specs.Records.{page_rows, paged}

-- a page of rows of a width, from the first on
abbrev pub page_given : List (List ℕ) → ℕ → ℕ → List ℕ → Answer
page_given all width first list =
    refused_or (page_rows all width first list) (refusing list) (paged all width first list)

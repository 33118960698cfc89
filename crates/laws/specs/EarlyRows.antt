-- The rows of a table before one, by its number. Those of the table of refusals before 13, which is asked of
-- the effect, are `early_rows`: what they leave to say is row 13 (`refusal-early`).
use Rattle.std.specs.Prelude.{◌≡◌, refl, ℕ, List, [], ◌∷◌, eqb}
use Rattle.foundation.specs.Tests.{pick}
use Rattle.model.specs.declared.Request.{Request}
use Rattle.model.specs.Base.{Base}
use Rattle.model.specs.Means.{plainly}
use Rattle.model.specs.Step.{Row, row, first_number, full, refusal, table}
use Rattle.model.specs.Step.{Numbered}
use Rattle.model.proofs.StepFacts.{numbered, first_append}

-- the rows that stand before the one numbered n
abbrev pub rows_until : ℕ → List Row → List Row
rows_until n [] = []
rows_until n (r ∷ rest) = pick (eqb r.number n) [] (r ∷ rows_until n rest)

module _ (b : Base) (q : Request) where
  -- the table without its last row, 13
  abbrev pub early_rows : List Row
  early_rows = rows_until 13 (table plainly b q)

  pub early_numbered : Numbered early_rows
  early_numbered = numbered early_rows refl

  -- row 13 behind all of these
  pub refusal_early : refusal plainly b q
      ≡ pick (eqb (first_number early_rows) 0) (pick (full plainly b q) 13 0)
      (first_number early_rows)
  refusal_early = first_append early_rows (row 13 (full plainly b q) ∷ []) early_numbered

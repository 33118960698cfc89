-- What is read, as the model says it, and the fields of a line that are left.
use Rattle.std.specs.Prelude.{ℕ, List, [], map, Option, Some, None}
use Rattle.std.proofs.Common.{Bor}
use Rattle.std.proofs.Math.Option.{Option as ModelOption, none, some}
use Rattle.model.specs.Text.{space, split}
use Rattle.reading.specs.declared.fields.Fields.{Fields}

-- a value that was read or was not, in the model's words
abbrev pub told : {A : Type 0} → Option A → ModelOption A
told None = none
told (Some a) = some a

-- the same with the fields left behind it
abbrev pub told_with : {A : Type 0} → Option A → List (List ℕ) → ModelOption (A × List (List ℕ))
told_with None rest = none
told_with (Some a) rest = some (a, rest)

-- the fields that are left
abbrev pub fields_left : Fields → List (List ℕ)
fields_left f = elim f.rest [ None ↦ [] | Some s ↦ split space s.now ]

-- words as code has them, each with what it stands for
abbrev pub words_of : {A : Type 0} → List (Bor (List ℕ) × A) → List (List ℕ × A)
words_of ws = map (λ w. (w.0.now, w.1)) ws

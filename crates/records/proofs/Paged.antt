-- Rows 2 and 3 of the table over bytes.
use mathlib.Core.Path.{◌≡◌, ap}
use mathlib.Core.Bool.{Bool, true, false, not}
use mathlib.Core.List.{List, [], ◌∷◌}
use Prim.Native.Nat.{ℕ, ◌≤◌, ◌<◌}
use native.Mathlib.Omega.{arith}
use lib.Dec.{ltb}
use Rattle.foundation.specs.Tests.{le-true, le-false}
use Rattle.model.specs.Step.{row, refused_or}
use Rattle.model.specs.Soundness.{sound_bytes}
use Rattle.model.specs.Answers.{Answer, refusing}
use Rattle.records.specs.Records.{body_of, page_answer, records_answer}

module _ (s : List ℕ) (source first : ℕ) (list : List ℕ) where
  abbrev over_all : Bool → Bool → Answer
  over_all sound? past? =
      refused_or (row 2 (not sound?) ∷ row 3 past? ∷ []) (refusing list)
      (page_answer s (body_of source) first list)

  pub unsound : sound_bytes s ≡ false → records_answer s source first list ≡ refusing list 2
  unfolding records_answer
  unsound e = ap (λ (g : Bool). over_all g (ltb 5 source)) e

  pub no_body : sound_bytes s ≡ true → 5 < source → records_answer s source first list ≡ refusing list 3
  unfolding records_answer
  no_body e h = λ k. over_all (e k) (le-true 6 source h k)

  pub of_body : sound_bytes s ≡ true → source ≤ 5 →
      records_answer s source first list ≡ page_answer s (body_of source) first list
  unfolding records_answer
  of_body e h = λ k. over_all (e k) (le-false 6 source (omega arith) k)

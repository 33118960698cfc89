-- The authorizations that numbers name, one more at a time, and the marks of what matters.
use Rattle.std.proofs.Common.{◌≡◌, ℕ, suc, ◌<◌, List, [], ◌∷◌, ◌++◌, map, length, get_or, take, refl, ap, ◌∙◌, take-suc}
use mathlib.Core.List.{map-append}
use Rattle.model.specs.Means.{marks}
use Rattle.encoding.specs.Format.{rules_in}
use Rattle.relevance.specs.declared.Chosen.{Chosen}
use Rattle.relevance.specs.Chosen.{authorization_at, picked, selected, marks_for}

pub picked_none : (s which : List ℕ) → picked s which 0 ≡ []
unfolding picked
picked_none s [] = refl
picked_none s (w ∷ which) = refl

-- one more
pub picked_more : (s which : List ℕ) (n : ℕ) → n < length which →
    picked s which (suc n) ≡ picked s which n ++ (authorization_at s (get_or which n 0) ∷ [])
unfolding picked
picked_more s which n h =
    ap (map (authorization_at s)) (take-suc which n 0 h)
    ∙ map-append (authorization_at s) (take n which) (get_or which n 0 ∷ [])

pub marks_for_lem : (lines which body : List ℕ) (c : Chosen) → marks_for lines which body c
    ≡ marks (picked lines which c.authorizations) (selected c.needed (rules_in c.rules body))
unfolding marks_for
marks_for_lem lines which body c = refl

-- The tests of a body's records by a number.
use Rattle.std.specs.Prelude.{ℕ, Bool, not, ◌&&◌, List, eqb}
use Rattle.foundation.specs.Lists.{anyb}
use Rattle.model.specs.declared.Privilege.{Privilege}
use Rattle.model.specs.declared.Authorization.{Authorization}
use Rattle.model.specs.declared.Rule.{Rule}

-- an object is among those of a body
abbrev pub exists_in : List Privilege → ℕ → Bool
exists_in os o = anyb (λ p. eqb p.object o) os

-- an authorization of the label, and one that is not the grantor's
abbrev pub has_label : ℕ → Authorization → Bool
has_label label a = eqb a.head.label label

abbrev pub of_other : ℕ → ℕ → Authorization → Bool
of_other label g a = eqb a.head.label label && not (eqb a.head.grantor g)

-- a rule of the label, and one that is not the author's
abbrev pub labelled : ℕ → Rule → Bool
labelled label r = eqb r.label label

abbrev pub of_other_author : ℕ → ℕ → Rule → Bool
of_other_author label u r = eqb r.label label && not (eqb r.author u)

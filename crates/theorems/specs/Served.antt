-- DEMAND 3 ABOUT THE CODE: it cites the contract of the library's request alone, and that of create. Of the
-- bytes that a program leaves which answers one request after the other, each on the bytes that the one
-- before left, and the first on those that create left, demand 3 holds: `demand3-code`.
use Rattle.std.specs.Prelude.{◌≡◌, ℕ, List, [], ◌∷◌, length}
use Rattle.std.proofs.Common.{sym, ap, ◌∙◌, subst}
use Rattle.model.specs.declared.Request.{Request}
use Rattle.model.specs.declared.Reply.{Reply}
use Rattle.model.specs.Encoding.{size}
use Rattle.model.specs.Answers.{Answer, answering, create, request, requests}
use Rattle.laws.specs.Created.{created}
use Rattle.theorems.specs.Demand3.{Demand3, demand3}

-- the bytes s' are left in the place of s by requests that were answered one after the other
abbrev pub Served : List Request → List ℕ → List ℕ → Type 0
Served [] s s' = s' ≡ s
Served (q ∷ rest) s s'' = (r : Reply) × (s' : List ℕ) × (answering r s' ≡ request s q) × Served rest s' s''

-- they are the model's
pub served_bytes : (qs : List Request) (s s' : List ℕ) → Served qs s s' → s' ≡ requests qs s
served_bytes [] s s' e = e
served_bytes (q ∷ rest) s s'' (r, s', a, w) =
    served_bytes rest s' s'' w ∙ ap (λ (x : Answer). requests rest x.lent) a

pub demand3_code : (qs : List Request) (lent s s' : List ℕ) → length lent ≡ size → s ≡ (create lent).lent →
    Served qs s s' → Demand3 qs s'
demand3_code qs lent s s' n e w =
    subst (Demand3 qs) (sym (served_bytes qs s s' w ∙ ap (requests qs) (e ∙ created lent n))) (demand3 qs)

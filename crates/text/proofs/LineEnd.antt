-- A newline behind a text that was printed at the front of a buffer.
use mathlib.Core.Path.{◌≡◌, ap, ap₂, ◌∙◌}
use mathlib.Core.List.{List, [], ◌∷◌, ◌++◌}
use Prim.Native.Nat.{ℕ, ◌+◌, ◌<◌}
use native.Mathlib.Omega.{arith}
use lib.ListN.{length, drop, set}
use Rattle.fields.specs.Field.{splice}
use Rattle.fields.proofs.ByteLaws.{stores, splice-join}
use Rattle.model.specs.Text.{newline}
use Rattle.printing.specs.Print.{Printed}
use Rattle.printing.proofs.Placed.{printed-room}

-- bytes put at the front
front : (t a : List ℕ) → splice 0 t a ≡ t ++ drop (length t) a
unfolding splice
front t a = let e : 0 + length t ≡ length t = omega arith in ap (λ (k : ℕ). t ++ drop k a) e

pub line_ended : {n : ℕ} {t a b : List ℕ} → Printed 0 t a b n → length t < length a →
    set b n newline ≡ (t ++ (newline ∷ [])) ++ drop (length (t ++ (newline ∷ []))) a
line_ended {n} {t} {a} {b} p h =
    let r = printed-room p (omega arith) in
    stores n (newline ∷ []) b (omega (arith, p.ends))
    ∙ ap₂ (λ (k : ℕ) (s : List ℕ). splice k (newline ∷ []) s) p.ends p.bytes
    ∙ splice-join 0 t (newline ∷ []) a (omega arith)
    ∙ front (t ++ (newline ∷ [])) a

-- What `create` leaves: an empty base, which is sound.
use Rattle.std.specs.Prelude.{◌≡◌, ℕ, true, not, List, [], ◌∷◌, eqb, length}
use Rattle.std.proofs.Common.{ap, ◌∙◌}
use Rattle.foundation.specs.Tests.{eq_true}
use Rattle.model.specs.declared.Reply.TheVariants.{Done}
use Rattle.model.specs.Base.{empty_base}
use Rattle.model.specs.Encoding.{size, encode}
use Rattle.model.specs.EncodingFacts.{encode-sound, empty_sound}
use Rattle.model.specs.Soundness.{sound_bytes}
use Rattle.model.specs.Step.{row, first_number}
use Rattle.model.proofs.StepFacts.{answered}
use Rattle.model.specs.Answers.{Answer, answering, refusing, create}

-- a buffer of the right length is made an empty base
pub created : (s : List ℕ) → length s ≡ size → (create s).lent ≡ encode empty_base
unfolding create
created s e =
    let given : first_number (row 2 (not (eqb (length s) size)) ∷ []) ≡ 0 = rw (eq_true (length s) size e) in
    ap (λ (a : Answer). a.lent) (answered (row 2 (not (eqb (length s) size)) ∷ []) (refusing s)
    (answering (Done 0 0) (encode empty_base)) given)

-- and that is sound
pub created_sound : (lent s : List ℕ) → length lent ≡ size → s ≡ (create lent).lent → sound_bytes s ≡ true
created_sound lent s n e = ap sound_bytes (e ∙ created lent n) ∙ encode-sound empty_base empty_sound

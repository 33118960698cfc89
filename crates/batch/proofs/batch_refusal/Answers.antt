use Prim.Native.Nat.{ℕ}
use mathlib.Core.Path.{◌≡◌, sym, ap, ◌∙◌}
use mathlib.Core.Bool.{Bool, false, not}
use mathlib.Core.List.{[], ◌∷◌}
use lib.Dec.{ltb}
use borrow.Author.Tests.{lt-ltb, le-ltb}
use Rattle.model.specs.Step.{row, first_number}
use Rattle.model.specs.Soundness.{sound_bytes}
use Rattle.model.specs.Batch.{batch_refusal}
use Rattle.batch.proofs.batch_refusal.Goals as goal

-- by what rows 2 and 13 answer
abbrev of_rows : Bool → Bool → ℕ
of_rows g h = first_number (row 2 g ∷ row 13 h ∷ [])

pub returns-then-not-is_sound : goal.returns-then-not-is_sound
unfolding batch_refusal
returns-then-not-is_sound c =
    let a = c.args in
    let t = sym (ap not c.if-not-is_sound.true) ∙ ap not c.is_sound.ensures in
    λ k. of_rows (t k) (ltb a.room a.questions)

pub returns-then-room-questions : goal.returns-then-room-questions
unfolding batch_refusal
returns-then-room-questions c =
    let passes-2 : (let a = c.args in false ≡ not (sound_bytes a.base.now)) = sym (ap not c.if-not-is_sound.false) ∙ ap not c.is_sound.ensures in
    λ k. of_rows (passes-2 k) (sym (lt-ltb _ _ c.if-room-questions.true) k)

pub returns : goal.returns
unfolding batch_refusal
returns c =
    let passes-2 : (let a = c.args in false ≡ not (sound_bytes a.base.now)) = sym (ap not c.if-not-is_sound.false) ∙ ap not c.is_sound.ensures in
    λ k. of_rows (passes-2 k) (sym (le-ltb _ _ c.if-room-questions.false) k)

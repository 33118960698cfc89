use Rattle.std.specs.Prelude.{Option, Some, None}
use Prim.Native.Nat.{ℕ}
use mathlib.Core.Path.{sym, ◌∙◌}
use mathlib.Core.Bool.{Bool, not}
use mathlib.Core.List.{[], ◌∷◌}
use Rattle.model.specs.Base.{exists}
use Rattle.model.specs.Encoding.{decode}
use Rattle.model.specs.Step.{row, refused_or}
use Rattle.answers.proofs.asking.refusal_of.Goals as goal

-- by what rows 3 and 6 ask
abbrev of_rows : Bool → Bool → Option ℕ
of_rows g h = refused_or (row 3 (not g) ∷ row 6 (not h) ∷ []) Some None

pub returns-then-not-access_in : goal.returns-then-not-access_in
returns-then-not-access_in c =
    let a = c.args in
    let t = sym c.if-not-access_in.true ∙ c.access_in.ensures in
    λ k. of_rows (t k) (exists (decode a.s.now) a.x.object)

pub returns-then-not-exists : goal.returns-then-not-exists
returns-then-not-exists c =
    let passes-3 = sym c.if-not-access_in.false ∙ c.access_in.ensures in
    let t = sym c.if-not-exists.true ∙ c.exists.ensures in
    λ k. of_rows (passes-3 k) (t k)

pub returns : goal.returns
returns c =
    let passes-3 = sym c.if-not-access_in.false ∙ c.access_in.ensures in
    let t = sym c.if-not-exists.false ∙ c.exists.ensures in
    λ k. of_rows (passes-3 k) (t k)

-- The first field of a line ends at its first space.
use Rattle.std.specs.Prelude.{◌≡◌, refl, ℕ, suc, ◌+◌, ◌-◌, ◌<◌, ◌≤◌, false, List, [], ◌∷◌, eqb, length, take, drop, Some, None}
use Rattle.std.specs.List.{position, position_or_len}
use Rattle.std.proofs.Common.{arith}
use Rattle.std.proofs.lemmas.Grind.{common_steps}
use Rattle.foundation.specs.Tests.{cases}
use Rattle.model.specs.Text.{space, split}

-- how many bytes the first field has
abbrev width : List ℕ → ℕ
width s = position_or_len (λ c. eqb c space) s

width_more : (c : ℕ) (s : List ℕ) → eqb c space ≡ false → width (c ∷ s) ≡ suc (width s)
width_more c s e = rw e (omega arith)

at_space : (s : List ℕ) → width s < length s → split space s ≡ take (width s) s ∷ split space (drop (suc (width s)) s)
at_space [] h = absurd (omega arith)
at_space (c ∷ s) h = cases (eqb c space)
    (λ e. rw e)
    (λ e. let w = width_more c s e in
    let l : width s < length s = omega arith in rw (w, e, at_space s l))

no_space : (s : List ℕ) → length s ≤ width s → split space s ≡ s ∷ []
no_space [] h = refl
no_space (c ∷ s) h = cases (eqb c space)
    (λ e. absurd (omega (arith, rw e at h)))
    (λ e. let w = width_more c s e in
    let l : length s ≤ width s = omega arith in rw (e, no_space s l))

-- it ends at a space
pub split_some : (s : List ℕ) (i : ℕ) → Some i ≡ position (λ c. eqb c space) s →
    split space s ≡ take i s ∷ split space (take (length s - (i + 1)) (drop (i + 1) s))
split_some s i e =
    let h : width s < length s = grind arith in
    let w : i ≡ width s = grind arith in
    rw (w, at_space s h) (grind (arith, common_steps))

-- or it is the whole line
pub split_none : (s : List ℕ) → None ≡ position (λ c. eqb c space) s → split space s ≡ s ∷ []
split_none s e =
    let h : length s ≤ width s = grind arith in
    no_space s h

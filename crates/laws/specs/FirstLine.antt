-- The first line of some bytes: what stands before its newline, and behind it.
use Rattle.std.specs.Prelude.{◌≡◌, refl, ℕ, Bool, true, false, List, [], ◌∷◌, ◌++◌, eqb}
use Rattle.std.proofs.Common.{ap, true≢false}
use Rattle.std.proofs.lemmas.Bool.{false≢true}
use Rattle.foundation.specs.Tests.{cases, pick, true_eq}
use Rattle.foundation.specs.Lists.{anyb}
use Rattle.model.specs.Text.{newline, extend, split}

-- there is a newline
abbrev pub has_newline : List ℕ → Bool
has_newline s = anyb (λ c. eqb c newline) s

-- the bytes before the first newline, or all
abbrev pub before_newline : List ℕ → List ℕ
before_newline [] = []
before_newline (c ∷ s) = let r = before_newline s in pick (eqb c newline) [] (c ∷ r)

-- the bytes behind the first newline, or none
abbrev pub behind_newline : List ℕ → List ℕ
behind_newline [] = []
behind_newline (c ∷ s) = let r = behind_newline s in pick (eqb c newline) s r

-- ---- where the newline stands

-- without a newline all is before it
pub before_all : (s : List ℕ) → has_newline s ≡ false → before_newline s ≡ s
before_all [] e = refl
before_all (c ∷ s) e = cases (eqb c newline)
    (λ p. absurd (true≢false (rw p at e)))
    (λ p. rw p (ap (λ (r : List ℕ). c ∷ r) (before_all s (rw p at e))))

-- and nothing behind it
pub behind_none : (s : List ℕ) → has_newline s ≡ false → behind_newline s ≡ []
behind_none [] e = refl
behind_none (c ∷ s) e = cases (eqb c newline)
    (λ p. absurd (true≢false (rw p at e)))
    (λ p. rw p (behind_none s (rw p at e)))

-- with one, it stands between the two parts, and the first part has none
pub before_behind : (s : List ℕ) → has_newline s ≡ true → s ≡ before_newline s ++ (newline ∷ behind_newline s)
before_behind [] e = absurd (false≢true e)
before_behind (c ∷ s) e = cases (eqb c newline)
    (λ p. rw p (ap (λ (b : ℕ). b ∷ s) (true_eq c newline p)))
    (λ p. rw p (ap (λ (r : List ℕ). c ∷ r) (before_behind s (rw p at e))))

pub before_none : (s : List ℕ) → has_newline (before_newline s) ≡ false
before_none [] = refl
before_none (c ∷ s) = cases (eqb c newline)
    (λ p. rw p)
    (λ p. rw p (rw p (before_none s)))

-- they are the first line and those behind it
pub split_ended : (s : List ℕ) → has_newline s ≡ true → split newline s ≡ before_newline s ∷ split newline
    (behind_newline s)
split_ended [] e = absurd (false≢true e)
split_ended (c ∷ s) e = cases (eqb c newline)
    (λ p. rw p)
    (λ p. rw p (ap (extend c) (split_ended s (rw p at e))))

pub split-whole : (s : List ℕ) → has_newline s ≡ false → split newline s ≡ s ∷ []
split-whole [] e = refl
split-whole (c ∷ s) e = cases (eqb c newline)
    (λ p. absurd (true≢false (rw p at e)))
    (λ p. rw p (ap (extend c) (split-whole s (rw p at e))))

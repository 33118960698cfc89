-- A store to a table of words: which bits it has then (`has-set`), and that words stay small (`set-small`).
use mathlib.Core.Path.{◌≡◌, refl, ap, ◌∙◌}
use mathlib.Core.List.{List, [], ◌∷◌}
use Prim.Native.Nat.{ℕ, zero, suc, ◌*◌, ◌≤◌, ◌<◌}
use native.Mathlib.Omega.{arith}
use lib.Dec.{eqb}
use lib.ListN.{length, get_or, set}
use lib.Seq.{get_or-set_same, get_or-set_other}
use Rattle.foundation.specs.Tests.{pick, cases, true_eq, false_eq}
use Rattle.foundation.specs.BitMasks.{bit}
use Rattle.words.specs.Sums.{sum}
use Rattle.reach.specs.Net.{has}

pub has-set : (l : List ℕ) (p v j k : ℕ) → p < length l →
    has (set l p v) j k ≡ pick (eqb j p) (bit k v) (has l j k)
has-set l p v j k h = cases (eqb j p)
    (λ e. rw e (ap (λ (i : ℕ). bit k (get_or (set l p v) i 0)) (true_eq j p e)
    ∙ ap (bit k) (get_or-set_same l p v 0 h)))
    (λ e. rw e (ap (bit k) (get_or-set_other l p j v 0 (false_eq j p e))))

-- words of 16 bits
pub sum_small : (l : List ℕ) → ((i : ℕ) → get_or l i 0 < 65536) → sum l ≤ 65535 * length l
sum_small [] h = omega arith
sum_small (x ∷ l) h = let i = sum_small l (λ i. h (suc i)) in let f = h 0 in omega arith

pub set_small : (l : List ℕ) (p v : ℕ) → p < length l → v < 65536 → ((i : ℕ) → get_or l i 0 < 65536) →
    (i : ℕ) → get_or (set l p v) i 0 < 65536
set_small l p v h o f i = cases (eqb i p)
    (λ e. let q = true_eq i p e in rw (q, get_or-set_same l p v 0 h) o)
    (λ e. rw (get_or-set_other l p i v 0 (false_eq i p e)) (f i))

-- behind the last there is nothing
pub past : (l : List ℕ) (i : ℕ) → length l ≤ i → get_or l i 0 ≡ 0
past [] i h = refl
past (x ∷ l) zero h = absurd (omega arith)
past (x ∷ l) (suc i) h = past l i (omega arith)

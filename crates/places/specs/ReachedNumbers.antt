-- Numbers for what is reached: the pairs at which something is needed, in the order of their codes, and the
-- modes, in theirs. That different pairs have different numbers, below their count, and that every number
-- below it is that of one, is proved in `proofs/NumberFacts.antt`.
use Rattle.std.specs.Prelude.{Bool, not, List, [], ◌∷◌, ℕ, zero, suc, ◌+◌, ◌*◌, ◌/◌, ◌%◌, ◌^◌, eqb}
use Rattle.std.specs.Int.Count.{ones}
use Rattle.foundation.specs.BitMasks.{as_bit}

-- ---- pairs

-- something is needed
abbrev pub used : ℕ → Bool
used x = not (eqb x 0)

-- how many of the first j are used
unfoldable pub used_before : List ℕ → ℕ → ℕ
used_before [] j = 0
used_before (x ∷ l) zero = 0
used_before (x ∷ l) (suc j) = as_bit (used x) + used_before l j

-- ---- modes

-- how many modes below m are reached
abbrev pub modes_below : ℕ → ℕ → ℕ
modes_below modes m = ones (modes % 2 ^ m)

-- ---- where a pair lies

-- pairs lie object by object, `subjects` each: where those of an object start, and where a pair lies
abbrev pub row_index : ℕ → ℕ → ℕ
row_index subjects o = o * subjects

abbrev pub pair_index : ℕ → ℕ → ℕ → ℕ
pair_index subjects o s = row_index subjects o + s

-- the object and the subject of pair j
abbrev pub index_object : ℕ → ℕ → ℕ
index_object subjects j = j / subjects

abbrev pub index_subject : ℕ → ℕ → ℕ
index_subject subjects j = j % subjects

-- the object and the subject of a code: a pair as one number, however many subjects there are
abbrev pub code_object : ℕ → ℕ
code_object code = code / 256

abbrev pub code_subject : ℕ → ℕ
code_subject code = code % 256

-- where the pair with a code lies
abbrev pub code_index : ℕ → ℕ → ℕ
code_index subjects code = pair_index subjects (code_object code) (code_subject code)

-- the code of pair j
unfoldable pub code_of : ℕ → ℕ → ℕ
code_of subjects j = 256 * index_object subjects j + index_subject subjects j

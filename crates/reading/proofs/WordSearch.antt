-- Words looked for one after the other.
use Rattle.std.specs.Prelude.{◌≡◌, refl, ℕ, ◌+◌, ◌<◌, true, false, List, [], ◌∷◌, eqb, length, drop, get_or}
use Rattle.std.specs.Cmp.Lexicographic.{pointwise}
use Rattle.std.proofs.Common.{Bor, add-one}
use Rattle.std.proofs.Math.Option.{some}
use Rattle.std.proofs.Math.Seq.{drop-cons}
use Rattle.foundation.specs.Bytes.{eq_list}
use Rattle.model.specs.Text.{one_of}
use Rattle.reading.specs.LineFields.{words_of}

pointwise-eq_list : (xs ys : List ℕ) → pointwise eqb xs ys ≡ eq_list xs ys
pointwise-eq_list [] [] = refl
pointwise-eq_list [] (y ∷ ys) = refl
pointwise-eq_list (x ∷ xs) [] = refl
pointwise-eq_list (x ∷ xs) (y ∷ ys) = rw (pointwise-eq_list xs ys)

-- the word at a place, which the field is or is not
pub word_is : {A : Type 0} (ws : List (Bor (List ℕ) × A)) (s : List ℕ) (i : ℕ) (w : Bor (List ℕ) × A) →
    i < length ws → w ≡ get_or ws i w → pointwise eqb s w.0.now ≡ true → one_of (words_of (drop i ws)) s ≡ some w.1
word_is ws s i w h e r = rw (drop-cons ws i w h, ← e, ← pointwise-eq_list s w.0.now, r)

pub word_is_not : {A : Type 0} (ws : List (Bor (List ℕ) × A)) (s : List ℕ) (i : ℕ) (w : Bor (List ℕ) × A) →
    i < length ws → w ≡ get_or ws i w → pointwise eqb s w.0.now ≡ false →
    one_of (words_of (drop i ws)) s ≡ one_of (words_of (drop (i + 1) ws)) s
word_is_not ws s i w h e r = rw (add-one, drop-cons ws i w h, ← e, ← pointwise-eq_list s w.0.now, r)

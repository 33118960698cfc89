-- Rows of numbers written one behind the other, and a page of them.
use Rattle.std.proofs.Common.{◌≡◌, refl, sym, ap, ◌∙◌, true, false, List, [], ◌∷◌, ◌++◌, ℕ, suc, ◌+◌, ◌-◌, ◌*◌, ◌/◌, ◌≤◌, ◌<◌, length, take, drop, min, map, arith}
use Rattle.std.proofs.Common.{add-mul, one-mul, mul_comm, length-append, length-drop, take_all}
use Rattle.std.proofs.Math.Nat.{mul-le-mul_right}
use Rattle.std.specs.Prelude.{ltb, leb}
use lib.Seq.{take_at, drop_at, length-take-le, take-length}
use Rattle.foundation.specs.Tests.{cases, true-le, false-le}
use Rattle.foundation.specs.Lists.{each}
use Rattle.fields.specs.Field.{splice}
use Rattle.fields.proofs.ByteLaws.{length-splice, part-back}
use Rattle.model.specs.declared.Reply.TheVariants.{Runs}
use Rattle.model.specs.Answers.{answering, refusing}
use Rattle.records.specs.Records.{page_of}
use Rattle.records.specs.Pages.{page_given}

-- where a row fits
pub row_fits : (i k w : ℕ) → i < k → i * w + w ≤ k * w
row_fits i k w h =
    let m : (i + 1) * w ≡ i * w + w = add-mul i 1 w ∙ ap (λ (n : ℕ). i * w + n) (one-mul w) in
    let l : (i + 1) * w ≤ k * w = mul-le-mul_right w (omega (arith, h)) in
    omega (arith, m, l)

pub next_place : (i w : ℕ) → (i + 1) * w ≡ i * w + w
next_place i w = add-mul i 1 w ∙ ap (λ (n : ℕ). i * w + n) (one-mul w)

-- a row that is put at a place
module _ (w at : ℕ) (list row : List ℕ) (h : at + w ≤ length list) (l : length row ≡ w) where
  abbrev pub put : List ℕ
  put = take at list ++ (row ++ drop (at + w - at) (drop at list))

  put_is : put ≡ splice at row list
  put_is = part-back list at (at + w) row (omega arith) h (omega (arith, l))

  front_length : length (take at list ++ row) ≡ at + w
  front_length = length-append (take at list) row ∙ omega (arith, length-take-le at list (omega (arith, h)), l)

  pub put_length : length put ≡ length list
  put_length = ap length put_is ∙ length-splice at row list (omega (arith, h, l))

  pub put_front : take (at + w) put ≡ take at list ++ row
  unfolding splice
  put_front = ap (take (at + w)) put_is
      ∙ take_at (take at list ++ row) (drop (at + length row) list) (at + w) front_length

  pub put_behind : drop (at + w) put ≡ drop (at + w) list
  unfolding splice
  put_behind = ap (drop (at + w)) put_is
      ∙ drop_at (take at list ++ row) (drop (at + length row) list) (at + w) front_length
      ∙ ap (λ (n : ℕ). drop n list) (omega (arith, l))

-- the next row comes behind those that are written
pub next_row : {R : Type 0} (f : R → List ℕ) (xs rest : List R) (r : R) (k i : ℕ) → i < k → xs ≡ r ∷ rest →
    each (take (k - i) xs) f ≡ f r ++ each (take (k - (i + 1)) rest) f
next_row f xs rest r k i h e =
    let q : k - i ≡ suc (k - (i + 1)) = omega (arith, h) in
    rw (e, q)

-- at most as many as there are
take_least : {A : Type 0} (n : ℕ) (xs : List A) → take n xs ≡ take (min n (length xs)) xs
take_least n xs = cases (leb n (length xs))
    (λ e. let h = true-le n (length xs) e in
    let m : n ≡ min n (length xs) = omega (arith, h) in ap (λ (k : ℕ). take k xs) m)
    (λ e. let h = false-le n (length xs) e in
    let m : length xs ≡ min n (length xs) = omega (arith, h) in
    take_all n xs (omega (arith, h)) ∙ sym (take-length xs) ∙ ap (λ (k : ℕ). take k xs) m)

-- the rows of records
pub each_map : {R : Type 0} (f : R → List ℕ) (xs : List R) → each (map f xs) (λ r. r) ≡ each xs f
each_map f [] = refl
each_map f (x ∷ xs) = ap (λ (l : List ℕ). f x ++ l) (each_map f xs)

-- ---- a page, by the row of the table that applies

module _ (all : List (List ℕ)) (w first : ℕ) (list : List ℕ) where
  abbrev pub most : ℕ
  most = min (length list / w) (length all - first)

  pub beyond : ltb (length all) first ≡ true → page_given all w first list ≡ refusing list 3
  beyond e = rw e

  pub short : ltb (length all) first ≡ false → ltb (length list) w ≡ true →
      page_given all w first list ≡ refusing list 13
  short e f = rw (e, f)

  pub written : ltb (length all) first ≡ false → ltb (length list) w ≡ false → (k : ℕ) → k ≡ most →
      answering (Runs k) (each (take k (drop first all)) (λ r. r) ++ drop (k * w) list)
      ≡ page_given all w first list
  written e f k q =
      let n : length (drop first all) ≡ length all - first = length-drop first all in
      let page : page_of all w first list ≡ take k (drop first all) =
      take_least (length list / w) (drop first all)
      ∙ ap (λ (j : ℕ). take j (drop first all)) (ap (min (length list / w)) n ∙ sym q) in
      let many : length (page_of all w first list) ≡ k =
      ap length page ∙ length-take-le k (drop first all) (omega (arith, n, q)) in
      let place : k * w ≡ w * length (page_of all w first list) =
      mul_comm k w ∙ ap (λ (j : ℕ). w * j) (sym many) in
      rw (e, f) (λ i. answering (Runs (sym many i)) (each (sym page i) (λ r. r) ++ drop (place i) list))

-- The runs in a list, one more at the end.
use mathlib.Core.Path.{◌≡◌, refl, sym, ap, ◌∙◌}
use mathlib.Core.List.{List, [], ◌∷◌, ◌++◌, append_assoc, append-nil}
use Prim.Native.Nat.{ℕ, zero, suc, ◌+◌, ◌-◌, ◌*◌, ◌≤◌}
use native.Mathlib.Numerals.{add-one}
use native.Mathlib.Omega.{arith}
use lib.ListN.{length, take, drop, get_or, length-drop, length-append}
use lib.Seq.{get_or-drop, take_all}
use Rattle.foundation.specs.declared.Interval.{Interval}
use Rattle.foundation.specs.Intervals.{interval}
use Rattle.model.specs.Text.{ascii, print_run, print_more, print_runs}
use Rattle.model.specs.Session.{pairs_of}

more_append : (xs : List Interval) (x : Interval) →
    print_more (xs ++ (x ∷ [])) ≡ print_more xs ++ (ascii " " ++ print_run x)
more_append [] x = append-nil (ascii " " ++ print_run x)
more_append (y ∷ xs) x =
    ap (λ (l : List ℕ). ascii " " ++ print_run y ++ l) (more_append xs x)
    ∙ sym (append_assoc (ascii " " ++ print_run y) (print_more xs) (ascii " " ++ print_run x))

-- the pair at i
abbrev pub pair_at : ℕ → List ℕ → Interval
pair_at i list = interval (get_or list (2 * i) 0) (get_or list (2 * i + 1) 0)

pairs-last : (i : ℕ) (list : List ℕ) → pairs_of (suc i) list ≡ pairs_of i list ++ (pair_at i list ∷ [])
pairs-last zero list = refl
pairs-last (suc i) list =
    let a : get_or (drop 2 list) (2 * i) 0 ≡ get_or list (2 * suc i) 0 =
    get_or-drop 2 list (2 * i) 0 ∙ ap (λ (n : ℕ). get_or list n 0) (omega arith) in
    let b : get_or (drop 2 list) (2 * i + 1) 0 ≡ get_or list (2 * suc i + 1) 0 =
    get_or-drop 2 list (2 * i + 1) 0 ∙ ap (λ (n : ℕ). get_or list n 0) (omega arith) in
    ap (λ (l : List Interval). interval (get_or list 0 0) (get_or list 1 0) ∷ l)
    (pairs-last i (drop 2 list) ∙ (λ k. pairs_of i (drop 2 list) ++ (interval (a k) (b k) ∷ [])))

-- one run more, behind a space
pub more_last : (i : ℕ) (list : List ℕ) →
    print_more (pairs_of (suc i) list) ≡ print_more (pairs_of i list) ++ (ascii " " ++ print_run (pair_at i list))
more_last i list = ap print_more (pairs-last i list) ∙ more_append (pairs_of i list) (pair_at i list)

pub more_last-length : (i : ℕ) (list : List ℕ) →
    length (print_more (pairs_of (i + 1) list))
    ≡ length (print_more (pairs_of i list)) + 1 + length (print_run (pair_at i list))
more_last-length i list =
    let run = print_run (pair_at i list) in
    ap (λ (j : ℕ). length (print_more (pairs_of j list))) (add-one i) ∙ ap length (more_last i list)
    ∙ omega (
      arith,
      length-append (print_more (pairs_of i list)) (ascii " " ++ run),
      length-append (ascii " ") run,
    )

-- the first run, and those behind it
pub runs_first : (n : ℕ) (list : List ℕ) → 1 ≤ n →
    print_run (pair_at 0 list) ++ print_more (pairs_of (n - 1) (take (length list - 2) (drop 2 list)))
    ≡ print_runs (pairs_of n list)
runs_first n list h =
    let e : suc (n - 1) ≡ n = omega arith in
    let t : take (length list - 2) (drop 2 list) ≡ drop 2 list =
    take_all (length list - 2) (drop 2 list) (rw (length-drop 2 list) (omega arith)) in
    ap (λ (l : List ℕ). print_run (pair_at 0 list) ++ print_more (pairs_of (n - 1) l)) t
    ∙ ap (λ (j : ℕ). print_runs (pairs_of j list)) e

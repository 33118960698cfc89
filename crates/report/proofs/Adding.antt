-- The rows of a body of authorizations, one after the other: what one authorization adds, and what stands on
-- the page.
use mathlib.Core.Path.{◌≡◌, sym, ap, ◌∙◌}
use mathlib.Core.Bool.{Bool, true, false}
use mathlib.Core.List.{List, [], ◌∷◌, ◌++◌}
use Prim.Native.Nat.{ℕ, ◌+◌, ◌≤◌}
use native.Mathlib.Omega.{arith}
use lib.ListN.{length, take, drop, length-append}
use lib.Seq.{take_at, drop_at, length-take-le}
use Rattle.foundation.specs.Tests.{pick, and-true}
use Rattle.foundation.specs.Lists.{allb, keep_if}
use Rattle.model.specs.declared.Authorization.{Authorization}
use Rattle.model.specs.Soundness.{authorization_in}
use Rattle.model.specs.Report.{is_on, rows_on, report_row}
use Rattle.fields.specs.Field.{splice}
use Rattle.printing.specs.Print.{Printed}

-- what an authorization adds to the sheet
abbrev pub row_of : Bool → Authorization → List ℕ
row_of on a = pick on (report_row a) []

module _ (o : ℕ) (xs : List Authorization) (i : ℕ) (a : Authorization) (e : drop i xs ≡ a ∷ drop (i + 1) xs) where
  -- one more is counted, or not
  pub count_next : (on : Bool) → is_on o a ≡ on →
      length (keep_if (is_on o) (drop i xs)) ≡ pick on 1 0 + length (keep_if (is_on o) (drop (i + 1) xs))
  count_next true q = rw (e, q) (omega arith)
  count_next false q = rw (e, q) (omega arith)

  -- its row comes next, or not
  pub rows_next : (on : Bool) → is_on o a ≡ on →
      rows_on o (drop i xs) ≡ row_of on a ++ rows_on o (drop (i + 1) xs)
  rows_next true q = rw (e, q)
  rows_next false q = rw (e, q)

  -- its fields are in their ranges, and so are those behind it
  pub ranges_next : allb authorization_in (drop i xs) ≡ true →
      (authorization_in a ≡ true) × (allb authorization_in (drop (i + 1) xs) ≡ true)
  ranges_next r = and-true (authorization_in a) (allb authorization_in (drop (i + 1) xs)) (rw e at r)

-- a text that is put at a place: what stands before its end, and behind it
module _ {at e : ℕ} {t s s' : List ℕ} (p : Printed at t s s' e) (h : at + length t ≤ length s) where
  front_length : length (take at s ++ t) ≡ e
  front_length =
      length-append (take at s) t
      ∙ ap (λ (n : ℕ). n + length t) (length-take-le at s (omega arith))
      ∙ sym p.ends

  pub put-before : take e s' ≡ take at s ++ t
  unfolding splice
  put-before =
      ap (take e) p.bytes ∙ take_at (take at s ++ t) (drop (at + length t) s) e front_length

  pub put_behind : drop e s' ≡ drop e s
  unfolding splice
  put_behind =
      ap (drop e) p.bytes
      ∙ drop_at (take at s ++ t) (drop (at + length t) s) e front_length
      ∙ ap (λ (n : ℕ). drop n s) (sym p.ends)

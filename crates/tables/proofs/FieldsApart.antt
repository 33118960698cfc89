-- Tables that lie one behind the other: a field belongs to one table (`table_same`) and one place
-- (`field_apart`), and lies before the end (`field_below`).
use mathlib.Core.Path.{◌≡◌, sym, ap, ◌∙◌}
use Prim.Native.Nat.{ℕ, suc, ◌<◌}
use native.Mathlib.Omega.{arith}
use lib.Dec.{ltb}
use Rattle.foundation.specs.Tests.{cases, true-le, false-le}
use Rattle.places.specs.declared.Point.{Point}
use Rattle.places.specs.Regions.{In}
use Rattle.places.proofs.IndexFacts.{index_below, index_apart}
use Rattle.tables.specs.TableLayout.{Tables, field_in, TablesLaid, Has}

module _ (t : Tables) (from to : ℕ) (laid : TablesLaid t from to) where
  pub field_below : (c n : ℕ) (x : Point) → Has t c n x → field_in t c n x < to
  field_below c n x h =
      omega (arith, laid.high c h.table, index_below t.grid (t.region c) n x h.within)

  -- a field of a table lies before those of the tables behind it
  before : (c d n m : ℕ) (x y : Point) → Has t c n x → Has t d m y → c < d → field_in t c n x < field_in t d m y
  before c d n m x y h k l = omega (
    arith,
    laid.behind c d h.table k.table l,
    index_below t.grid (t.region c) n x h.within,
  )

  -- so one field is of one table
  pub table_same : (c d n m : ℕ) (x y : Point) → Has t c n x → Has t d m y →
      field_in t c n x ≡ field_in t d m y → c ≡ d
  table_same c d n m x y h k e = cases (ltb c d)
      (λ l. absurd (omega (arith, before c d n m x y h k (true-le (suc c) d l))))
      (λ l. cases (ltb d c)
      (λ g. absurd (omega (arith, before d c m n y x k h (true-le (suc d) c g))))
      (λ g. omega (arith, false-le (suc c) d l, false-le (suc d) c g)))

  -- and of one place
  pub field_apart : (c d n m : ℕ) (x y : Point) → Has t c n x → Has t d m y →
      (n ≡ m → (x.subject ≡ y.subject) × (x.object ≡ y.object)) → field_in t c n x ≡ field_in t d m y →
      (c ≡ d) × (x.subject ≡ y.subject) × (x.object ≡ y.object) × (x.mode ≡ y.mode)
  field_apart c d n m x y h k one e =
      let q = table_same c d n m x y h k e in
      let f : field_in t c n x ≡ field_in t c m y = e ∙ ap (λ (i : ℕ). field_in t i m y) (sym q) in
      let j : In (t.region c) y = rw q k.inside in
      let p = index_apart t.grid (t.region c) n m x y h.within k.within h.inside j one
      (omega arith) in
      (q, p.0, p.1, p.2)

use mathlib.Core.Path.{◌≡◌, sym, ◌∙◌}
use mathlib.Core.Bool.{Bool, true, false, ◌||◌, true≢false}
use mathlib.Core.Logic.{◌↔◌}
use Prim.Native.Nat.{ℕ}
use lib.Dec.{eqb}
use Rattle.foundation.specs.Tests.{cases, eq_true, true_eq, and_three, or_cases, or_intro_left, or_true_right}
use Rattle.places.specs.Regions.{free}
use Rattle.tables.proofs.is_in.Goals as goal

named : (code v : ℕ) (r : Bool) → r ≡ free code || eqb code v → (r ≡ true) ↔ (free code ≡ false → v ≡ code)
named code v r e = (
  (λ t f. or_cases (free code) (eqb code v) (sym e ∙ t)
      (λ g. absurd (true≢false (sym g ∙ f)))
      (λ g. sym (true_eq code v g))),
  (λ h. e ∙ cases (free code)
      (λ f. or_intro_left (free code) (eqb code v) f)
      (λ f. or_true_right (free code) (eqb code v) (eq_true code v (sym (h f))))),
)

pub returns : goal.returns
returns c =
    let b = c.args.b in
    let x = c.args.x in
    let n = c.names_coordinate in
    let s = named b.subject x.subject n.result n.ensures in
    let o = named b.object x.object c.names_coordinate-2.result
    c.names_coordinate-2.ensures in
    let m = named b.mode x.mode c.names_coordinate-3.result c.names_coordinate-3.ensures in
    let w = and_three n.result c.names_coordinate-2.result c.names_coordinate-3.result in (
      (λ t. let v = w.0 t in record { subject = s.0 v.0; object = o.0 v.1; mode = m.0 v.2 }),
      (λ i. w.1 (s.1 i.subject, o.1 i.object, m.1 i.mode)),
    )

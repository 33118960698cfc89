use native.Mathlib.Omega.{arith}
use mathlib.Core.Path.{◌≡◌, ap, ◌∙◌}
use Prim.Native.Nat.{ℕ, ◌+◌, ◌*◌}
use Rattle.places.specs.Regions.{size_of}
use Rattle.tables.specs.TableLayout.{whole_region, room_of}
use Rattle.tables.proofs.Rooms.{all_laid}
use Rattle.tables.proofs.TableSizes.{size_small, room_small}
use Rattle.tables.proofs.lay_all.Goals as goal

pub denials_start-requires : goal.denials_start-requires
denials_start-requires c =
    let s = c in
    omega (arith, size_small s.args.g s.requires.0 whole_region)

pub overflow_mul-denials_start : goal.overflow_mul-denials_start
overflow_mul-denials_start c =
    let s = c in
    omega (arith, c.denials_start.ensures, size_small s.args.g s.requires.0 whole_region)

pub lay_out-requires : goal.lay_out-requires
lay_out-requires c =
    let s = c in
    let a = s.args in
    let p = s.requires in (
      omega (
        arith,
        c.denials_start.ensures,
        size_small a.g p.0 whole_region,
        room_small a.g p.0 a.right.now a.rules 64,
      ),
      p.1,
      p.2,
    )

pub returns : goal.returns
returns c =
    let s = c in
    let a = s.args in
    let z : 2 * c.denials_start.result ≡ 2 * size_of a.g whole_region =
    ap (λ (n : ℕ). 2 * n) c.denials_start.ensures in
    let e = c.lay_out.ensures in (
      e.0 ∙ ap (λ (n : ℕ). n + room_of a.g a.right.now a.rules 64) z,
      all_laid a.g a.right.now a.rules _ c.lay_out.result (rw z at e.1),
      e.2,
    )

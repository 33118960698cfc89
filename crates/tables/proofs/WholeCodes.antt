-- The codes of all places, one by one.
use mathlib.Core.Path.{◌≡◌, refl, ap, ◌∙◌}
use mathlib.Core.List.{List}
use Prim.Native.Nat.{ℕ, ◌+◌, ◌*◌, ◌<◌}
use native.Mathlib.Omega.{arith}
use lib.ListN.{get_or, replicate, get_or-replicate}
use Rattle.tables.specs.TableLayout.{region_at, whole_region}
use Rattle.tables.specs.TableGiving.{whole_codes}

pub whole_codes_lem : whole_codes ≡ replicate 256 255
unfolding whole_codes
whole_codes_lem = refl

pub whole_at : (c : ℕ) → c < 64 → region_at whole_codes c ≡ whole_region
whole_at c h =
    let code : (i : ℕ) → i < 256 → get_or whole_codes i 0 ≡ 255 =
    λ i l. ap (λ (u : List ℕ). get_or u i 0) whole_codes_lem ∙ get_or-replicate 256 i 255 0 l in
    let s = code (4 * c + 1) (omega arith) in
    let m = code (4 * c + 2) (omega arith) in
    let o = code (4 * c) (omega arith) in
    λ i. record { subject = s i; mode = m i; object = o i }

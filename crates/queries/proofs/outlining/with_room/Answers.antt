use native.Mathlib.Omega.{arith}
use mathlib.Core.Path.{◌≡◌}
use mathlib.Core.List.{List}
use Prim.Native.Nat.{ℕ, ◌*◌}
use lib.ListN.{length, take, replicate}
use lib.Seq.{length-take-le}
use Rattle.std.proofs.lemmas.List.{length-replicate}
use Rattle.queries.proofs.AskingFacts.{part-blank, zeros-blank, outline_few}
use Rattle.queries.proofs.outlining.with_room.Goals as goal

pub overflow_mul-size : goal.overflow_mul-size
overflow_mul-size g c = omega (arith, outline_few c.requires.5.1.asked_outline)

pub with_pairs-requires : goal.with_pairs-requires
with_pairs-requires g c =
    let k = c.args.k in
    let size : ℕ = k.extent.objects * k.extent.subjects in
    let need : List ℕ = replicate g.row.NEED 0 in
    let need-long : length need ≡ g.row.NEED = length-replicate g.row.NEED 0 in
    let numbers-long : length {A = ℕ} (replicate g.row.NUMBERS 0) ≡ g.row.NUMBERS = length-replicate g.row.NUMBERS 0 in
    let taken : length (take size need) ≡ size = length-take-le size need (omega (arith, c.requires.3)) in (
      c.requires.0,
      (λ i. (part-blank size need (zeros-blank g.row.NEED) i, zeros-blank g.row.NUMBERS i)),
      taken,
      omega (arith, taken, numbers-long, c.requires.4),
      c.requires.5,
    )

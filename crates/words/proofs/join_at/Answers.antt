use native.Mathlib.Omega.{arith}
use mathlib.Core.Path.{ap, ◌∙◌}
use Prim.Native.Nat.{ℕ, ◌*◌, ◌/◌, ◌%◌, ◌^◌}
use lib.Bits.{bit_or}
use lib.ListN.{get_or, set, length-set}
use Rattle.words.specs.Fields.{field_of}
use Rattle.words.proofs.SumFacts.{join_grown}
use Rattle.words.proofs.FieldLaws.{join-law}
use Rattle.words.proofs.join_at.Goals as goal

pub returns : goal.returns
returns c =
    let a = c.args in
    let p = c.requires in
    let ws = a.words.now in (
      λ j. ap (λ (n : ℕ). field_of a.k
          (set ws (n / 64) (bit_or (get_or ws (n / 64) 0) (a.v * 2 ^ (n % 64) % 18446744073709551616))) j)
          c.start_of-n.ensures
          ∙ join-law a.k a.i a.v ws p.0 p.1 p.2 j,
      simp length-set,
      let n : ℕ = c.start_of-n.result in
          join_grown ws (n / 64) (a.v * 2 ^ (n % 64) % 18446744073709551616)
          (omega (arith, c.start_of-n.ensures)),
    )

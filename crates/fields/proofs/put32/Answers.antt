use Rattle.std.proofs.Common.{◌≡◌, ◌∙◌, refl, ℕ, ◌+◌, ◌*◌}
use Rattle.std.proofs.Math.Nat.{div-div-eq-div-mul}
use Rattle.std.specs.Int.{w32, to_le_bytes}
use Rattle.foundation.specs.Bytes.{bytes_of}
use Rattle.fields.proofs.ByteLaws.{part-put}
use Rattle.fields.proofs.put32.Goals as goal

four : (n : ℕ) → to_le_bytes w32 n ≡ bytes_of 4 n
four n = rw (div-div-eq-div-mul n 256 256, div-div-eq-div-mul n (256 * 256) 256) refl

pub returns : goal.returns
returns c = part-put c.args.at (c.args.at + 4) c.args.s.now
    (c.copy_from_slice.ensures.after ∙ c.to_le_bytes.ensures ∙ four c.args.n) refl

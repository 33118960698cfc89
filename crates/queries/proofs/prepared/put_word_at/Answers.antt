use native.Mathlib.Omega.{arith}
use mathlib.Core.Path.{◌∙◌, ap}
use Prim.Native.Nat.{◌+◌, ◌/◌, ◌≤◌}
use lib.ListN.{length}
use Rattle.foundation.specs.Bytes.{bytes_of}
use Rattle.fields.specs.Field.{splice}
use Rattle.fields.proofs.ByteLaws.{put-join}
use Rattle.queries.proofs.prepared.put_word_at.Goals as goal

pub returns : goal.returns
returns c =
    let a = c.args in
    let h : a.at + 4 ≤ length a.bytes.now = omega arith in
    c.put32-2.ensures
    ∙ ap (splice (a.at + 4) (bytes_of 4 (a.w / 4294967296)))
    c.put32.ensures
    ∙ put-join 4 4 a.at a.w a.bytes.now h

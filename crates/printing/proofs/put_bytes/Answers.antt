use Rattle.std.proofs.Common.{refl, ◌+◌, length}
use Rattle.fields.proofs.ByteLaws.{part-put}
use Rattle.printing.proofs.put_bytes.Goals as goal

pub returns : goal.returns
returns c =
    let a = c.args in record {
      ends = refl;
      bytes = part-put a.at (a.at + length a.text.now) a.out.now c.copy_from_slice.ensures.after refl;
    }

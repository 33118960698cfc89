use Rattle.std.proofs.Common.{ap, ◌++◌, List, ℕ, drop}
use Rattle.fields.specs.Field.{splice}
use Rattle.encoding.proofs.heading.put_mark.Goals as goal

pub returns : goal.returns
unfolding splice
returns c = ap (λ (l : List ℕ). l ++ drop 4 c.args.s.now) c.copy_from_slice.ensures.after

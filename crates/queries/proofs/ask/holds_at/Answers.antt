use mathlib.Core.Path.{refl}
use Rattle.model.specs.Encoding.{decode}
use Rattle.queries.proofs.ask.holds_at.Goals as goal

pub returns : goal.returns
returns c = (c.with_outline.ensures (decode c.args.s.now) c.new-base.ensures.3).yes _ refl

use Rattle.std.proofs.Common.{rules, sym, ◌∙◌, ◌&&◌}
use Rattle.foundation.specs.Intervals.{in_interval}
use Rattle.model.specs.Encoding.{decode}
use Rattle.model.specs.Rules.{fits}
use Rattle.model.proofs.SupportFacts.{any_live}
use Rattle.simple.proofs.sides.is_granted.Goals as goal

pub returns : goal.returns
returns c =
    let p = c.args.p in
    let t = c.args.t in
    c.any.ensures (λ a. in_interval a.interval t && fits p a.head) (λ a b k. search rules)
    ∙ rw c.authorizations.ensures
    (sym (any_live (fits p) t (decode c.args.base.now.bytes.now).authorizations))

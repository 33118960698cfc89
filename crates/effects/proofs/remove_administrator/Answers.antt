use mathlib.Core.Path.{ap, ◌∙◌}
use Rattle.model.specs.declared.Privilege.{Privilege}
use Rattle.model.specs.Base.{listed}
use Rattle.model.specs.Requests.{without}
use Rattle.model.specs.Encoding.{encode, decode}
use Rattle.model.specs.Effects.{with_administrators}
use Rattle.effects.proofs.remove_administrator.Goals as goal

pub named_privilege-requires : goal.named_privilege-requires
named_privilege-requires c = c.requires.1

pub take_privilege-requires : goal.take_privilege-requires
take_privilege-requires c =
    let d = c in
    let ps = (decode d.args.s.now).administrators in (
      d.requires.0,
      d.requires.2,
      ap (λ (p : Privilege). listed ps p.object p.subject) c.named_privilege.ensures ∙ d.requires.3,
    )

pub returns : goal.returns
returns c =
    let r = c in
    let b = decode r.args.s.now in
    r.take_privilege.ensures
    ∙ ap (λ (p : Privilege). encode (with_administrators
    (without p.object p.subject b.administrators) b))
    r.named_privilege.ensures

-- The base whose bodies are lent, and what of its soundness its bodies say one by one.
use Rattle.std.specs.Prelude.{Bool, ◌&&◌}
use Rattle.model.specs.Base.{Base}
use Rattle.bodies.specs.BodyTests.{objects_part, privileges_part, authorizations_part, rules_part}
use Rattle.bodies.specs.declared.Bodies.{Bodies}

abbrev pub base_of : Bodies → Base
base_of b = record {
  clock = b.clock;
  last = b.last;
  objects = b.roots.owners;
  administrators = b.roots.administrators;
  referrers = b.referrers;
  authorizations = b.authorizations;
  rules = b.rules;
}

-- each body beside the others
abbrev pub bodies_hold : Base → Bool
bodies_hold b =
    objects_part b.objects
    && privileges_part b.objects b.administrators
    && privileges_part b.objects b.referrers
    && authorizations_part b.objects b.rules b.clock b.last b.authorizations
    && rules_part b.objects b.administrators b.referrers b.last b.rules

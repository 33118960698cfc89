-- THEOREM 7: an accepted request on a sound base leaves a sound base, for all twelve kinds. The parts are in
-- SoundPrivileges, SoundRules, SoundAuthors, SoundAuthorizations and SoundSupport; what it says of lent bytes
-- is in RequestFacts.
use Rattle.std.specs.Prelude.{◌≡◌, true}
use Rattle.model.specs.declared.Request.{Request}
use Rattle.model.specs.Base.{Base}
use Rattle.model.specs.Means.{plainly}
use Rattle.model.specs.Step.{refusal, effect}
use Rattle.model.specs.Step.{Accepted}
use Rattle.model.proofs.StepFacts.{accepted}
use Rattle.model.specs.Soundness.{sound}
use Rattle.model.specs.SoundnessFacts.{Sound, sound_tests_lem, tests-sound}
use Rattle.laws.specs.SoundPrivileges.{counts-after, order-objects, order_administrators}
use Rattle.laws.specs.SoundPrivileges.{order_referrers}
use Rattle.laws.specs.SoundPrivileges.{ranges_clock, ranges_last, ranges_objects, ranges_administrators}
use Rattle.laws.specs.SoundPrivileges.{ranges_referrers, exist_administrators, exist_referrers}
use Rattle.laws.specs.SoundPrivileges.{owners_after}
use Rattle.laws.specs.SoundRules.{order_rules, ranges_rules, intervals_rules, exist_rules, labels_rules}
use Rattle.laws.specs.SoundRules.{stars_after, right_after, strata-after}
use Rattle.laws.specs.SoundAuthorizations.{order-authorizations, ranges_authorizations}
use Rattle.laws.specs.SoundAuthorizations.{intervals_authorizations, granted_after, denials_after}
use Rattle.laws.specs.SoundAuthorizations.{exist_authorizations, agree_after, labels-authorizations}
use Rattle.laws.specs.SoundAuthorizations.{labels_apart_lem}
use Rattle.laws.specs.SoundAuthors.{authors_after}
use Rattle.laws.specs.SoundSupport.{support_after}

pub sound-after : (b : Base) (q : Request) → Sound b → Accepted b q → Sound (effect plainly b q)
sound-after b q s g = record {
  counts = counts-after b q s g;
  order = rw (
    order-objects b q s g,
    order_administrators b q s g,
    order_referrers b q s g,
    order-authorizations b q s g,
    order_rules b q s g,
  );
  ranges = rw (
    ranges_clock b q s g,
    ranges_last b q s g,
    ranges_objects b q s g,
    ranges_administrators b q s g,
    ranges_referrers b q s g,
    ranges_authorizations b q s g,
    ranges_rules b q s g,
  );
  intervals = rw (intervals_authorizations b q s g, intervals_rules b q s g);
  granted = granted_after b q s g;
  denials = denials_after b q s g;
  objects = rw (
    exist_administrators b q s g,
    exist_referrers b q s g,
    exist_authorizations b q s g,
    exist_rules b q s g,
  );
  owners = owners_after b q s g;
  labels = rw (labels_apart_lem b q s g, labels-authorizations b q s g, labels_rules b q s g);
  agree = agree_after b q s g;
  support = support_after b q s g;
  authors = authors_after b q s g;
  stars = stars_after b q s g;
  right = right_after b q s g;
  strata = strata-after b q s g;
}

-- the same by the tests: a request that no row refuses
pub effect-sound : (b : Base) (q : Request) → sound b ≡ true → refusal plainly b q ≡ 0 →
    sound (effect plainly b q) ≡ true
effect-sound b q s z = tests-sound (effect plainly b q) (sound-after b q (sound_tests_lem b s) (accepted b q z))

-- Two sound bases that differ next door and agree on a block, meter 7: what the theorems of `IsolatedReplies` ask
-- for is there. `beside` has what `alone` has, and another clock and last label, a meter with its owner and
-- administrator, a referrer, a line, and a rule that looks into the block.
use Rattle.std.specs.Prelude.{◌≡◌, refl, Bool, true, false, [], ◌∷◌, ℕ, eqb}
use Rattle.std.proofs.Common.{inl, inr, true≢false}
use Rattle.foundation.specs.Tests.{true_eq}
use Rattle.foundation.specs.Closure.{iter}
use Rattle.foundation.specs.Graph.{reaches, cyclic, rank_in, rank}
use Rattle.foundation.specs.Intervals.{all_always}
use Rattle.model.specs.declared.Authorization.{Authorization}
use Rattle.model.specs.declared.Rule.{Rule}
use Rattle.model.specs.declared.Side.{Side}
use Rattle.model.specs.declared.Operator.TheVariants.{Whenever}
use Rattle.model.specs.declared.OptionTerm.TheVariants.{Either}
use Rattle.model.specs.Base.{Base, privilege, exists}
use Rattle.model.specs.Support.{supports, supported_in, supported}
use Rattle.model.specs.Stratification.{feeds, links, precedes, weight, stratified, stratum}
use Rattle.model.specs.Rules.{fits, stands_for, derives_for, right_of, derived_below, holds, may_with, may}
use Rattle.model.specs.Soundness.{sound}
use Rattle.theorems.specs.Isolation.{Whole, Closed, RightsInside}

abbrev line : ℕ → ℕ → ℕ → Authorization
line l g o = record {
  head = record {
    label = l;
    grantor = g;
    subject = 4;
    object = o;
    mode = 1;
    negative = false;
    option = false;
    granted = 0;
  };
  interval = record { start = 5; end = 9 };
}

abbrev side : ℕ → ℕ → Side
side s o = record { subject = s; mode = 1; object = o; negative = false }

abbrev rule : ℕ → ℕ → ℕ → ℕ → Rule
rule l u left right = record {
  label = l;
  author = u;
  left = side 3 left;
  operator = Whenever;
  right = side 4 right;
  grantor = 0;
  option = Either;
  interval = record { start = 0; end = 99 };
}

abbrev pub alone : Base
alone = record {
  clock = 0;
  last = 2;
  objects = privilege 7 1 ∷ [];
  administrators = [];
  referrers = [];
  authorizations = line 1 1 7 ∷ [];
  rules = rule 2 1 0 0 ∷ [];
}

abbrev pub beside : Base
beside = record {
  clock = 5;
  last = 4;
  objects = privilege 7 1 ∷ privilege 8 2 ∷ [];
  administrators = privilege 8 5 ∷ [];
  referrers = privilege 7 2 ∷ [];
  authorizations = line 1 1 7 ∷ line 3 2 8 ∷ [];
  rules = rule 2 1 0 0 ∷ rule 4 2 8 7 ∷ [];
}

-- the block
abbrev pub seven : ℕ → Bool
seven o = eqb o 7

-- both are sound
pub alone-sound : sound alone ≡ true
unfolding sound stratified cyclic iter reaches supports supported_in supported feeds links precedes weight
alone-sound = rw (all_always 5 9 (λ t. true) (λ u h k. refl))

pub beside-sound : sound beside ≡ true
unfolding sound stratified cyclic iter reaches supports supported_in supported feeds links precedes weight
beside-sound = rw (all_always 5 9 (λ t. true) (λ u h k. refl))

-- they agree, and no rule of the block looks outside
pub agreeing : Whole seven alone beside
agreeing = refl

pub seven-exists : (o : ℕ) → seven o ≡ true → exists alone o ≡ true
seven-exists o e = rw (true_eq o 7 e)

pub seven_closed : Closed seven alone
seven_closed = record {
  existing = seven-exists;
  rights_inside = inside;
}
  where
    inside : RightsInside seven alone
    inside r (inl e) z h = absurd (true≢false (rw e at z))
    inside r (inr m) z h = absurd m.lower

-- and something is to be told of the block, by the starred rule
pub says-yes : may alone (record { subject = 3; mode = 1; object = 7 }) 6 ≡ true
unfolding iter reaches cyclic rank_in rank feeds links precedes weight stratified holds stratum derived_below
    may_with may fits stands_for derives_for right_of
says-yes = refl

-- What `precedes` and `weight` of Stratification say, as equations and one by one: the steps of a path, and which of
-- them count.
use Rattle.std.specs.Prelude.{◌≡◌, refl, ◌+◌, ◌≤◌, true, ◌||◌}
use Rattle.std.proofs.Common.{ap, ◌∙◌, arith}
use Rattle.foundation.specs.Tests.{le-true, cases, le-false, or_intro_left, or_true_right}
use Rattle.foundation.specs.BitMasks.{as_bit, bit_le}
use Rattle.foundation.specs.Graph.{heavy}
use Rattle.model.specs.declared.Rule.{Rule}
use Rattle.model.specs.Stratification.{feeds, negates, links, precedes, weight}

-- ---- laws

pub precedes_either : (q r : Rule) → precedes q r ≡ feeds q r || links q r
unfolding precedes
precedes_either q r = refl

pub feeds-precedes : (q r : Rule) → feeds q r ≡ true → precedes q r ≡ true
feeds-precedes q r e = precedes_either q r ∙ or_intro_left (feeds q r) (links q r) e

pub links-precedes : (q r : Rule) → links q r ≡ true → precedes q r ≡ true
links-precedes q r e = precedes_either q r ∙ or_true_right (feeds q r) (links q r) e

pub weight_is : (q r : Rule) → weight q r ≡ as_bit (negates r) + as_bit (links q r)
unfolding weight
weight_is q r = refl

pub weight_small : (q r : Rule) → weight q r ≤ 2
weight_small q r = omega (arith, weight_is q r, bit_le (negates r), bit_le (links q r))

-- a step counts exactly if it leads to a rule with WHENEVERNOT or UNLESS, or is a link
pub heavy_either : (q r : Rule) → heavy weight q r ≡ negates r || links q r
heavy_either q r = cases (negates r)
    (λ e. le-true 1 (weight q r) (omega (arith, weight_is q r, ap as_bit e)) ∙ rw e)
    (λ e. cases (links q r)
    (λ l. le-true 1 (weight q r) (omega (arith, weight_is q r, ap as_bit l)) ∙ rw (e, l))
    (λ l. le-false 1 (weight q r) (omega (arith, weight_is q r, ap as_bit e, ap as_bit l)) ∙ rw (e, l)))

pub negates-heavy : (q r : Rule) → negates r ≡ true → heavy weight q r ≡ true
negates-heavy q r e = heavy_either q r ∙ or_intro_left (negates r) (links q r) e

pub links-heavy : (q r : Rule) → links q r ≡ true → heavy weight q r ≡ true
links-heavy q r e = heavy_either q r ∙ or_true_right (negates r) (links q r) e

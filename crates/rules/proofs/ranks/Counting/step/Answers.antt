use Rattle.std.proofs.Common.{sym, ap, ap₂, ◌∙◌, arith}
use Rattle.std.specs.Prelude.{◌≡◌, refl, ℕ, Bool, true, false, ◌||◌, Some}
use mir.Val.{bool_byte}
use Rattle.foundation.specs.BitMasks.{as_bit}
use Rattle.model.specs.declared.Rule.{Rule}
use Rattle.model.specs.Stratification.{feeds, links, precedes}
use Rattle.model.proofs.FeedingLaws.{precedes_either, weight_is}
use Rattle.rules.proofs.ranks.Counting.step.Goals as goal

byte_of : (b : Bool) → bool_byte b ≡ as_bit b
byte_of true = refl
byte_of false = refl

-- in the tests that the code makes
looks : (q r : Rule) (f l : Bool) → f ≡ feeds q r → l ≡ links q r → precedes q r ≡ f || l
looks q r f l e g = precedes_either q r ∙ sym (ap₂ (λ (a b : Bool). a || b) e g)

pub returns-then-not-fed-linked : goal.returns-then-not-fed-linked
returns-then-not-fed-linked c =
    let a = c.args in
    rw (looks a.q a.r _ _ c.feeds-fed.ensures c.links-linked.ensures, c.if-not-fed-linked.true)

pub returns-in-Steps : goal.returns-in-Steps
returns-in-Steps c =
    let a = c.args in
    rw (c.in-Steps.is, looks a.q a.r _ _ c.feeds-fed.ensures c.links-linked.ensures, c.if-not-fed-linked.false)

pub returns-in-Strata : goal.returns-in-Strata
returns-in-Strata c =
    let a = c.args in
    rw (c.in-Strata.is, looks a.q a.r _ _ c.feeds-fed.ensures c.links-linked.ensures, c.if-not-fed-linked.false)
    (ap (λ (n : ℕ). Some n) (omega (
      arith,
      c.from.ensures ∙ byte_of _ ∙ ap as_bit c.negates.ensures,
      c.from-in-Strata.ensures ∙ byte_of _ ∙ ap as_bit c.links-linked.ensures,
      weight_is a.q a.r,
    )))

-- A question that no rule can answer: the authorizations alone decide (`direct-may`), and the rules can be
-- left out (`ruleless-may`, `ruleless-when`).
use mathlib.Core.Path.{◌≡◌, refl, sym, ap, ap₂, ◌∙◌}
use mathlib.Core.Bool.{Bool, true, false, not, ◌&&◌, ◌||◌}
use mathlib.Core.List.{List, []}
use Prim.Native.Nat.{ℕ, suc, ◌*◌}
use lib.ListN.{length}
use Rattle.foundation.specs.Tests.{or_false}
use Rattle.foundation.specs.Lists.{anyb, any_false, any_none, any_cong_mem}
use Rattle.foundation.specs.Intervals.{always, maximal}
use Rattle.model.specs.declared.Rule.{Rule}
use Rattle.model.specs.declared.Access.{Access}
use Rattle.model.specs.declared.Authorization.{Authorization}
use Rattle.model.specs.Ranges.{last_instant}
use Rattle.model.specs.Base.{Base}
use Rattle.model.specs.Support.{live}
use Rattle.model.specs.Rules.{Fact, fact, fits, stands_for, derives_for, derived_below, holds}
use Rattle.model.specs.Rules.{asked, may, may_with, when}
use Rattle.model.proofs.SideFacts.{derives_eq}
use Rattle.direct.specs.Direct.{held_directly}

-- no rule stands for the access
module _ (b : Base) (x : Access) (t : ℕ) (none : anyb (λ r. stands_for b r x) b.rules ≡ false) where
  -- no rule derives it, whatever rules derive
  underived : (negative : Bool) (S : Fact → Bool) →
      anyb (λ r. let d = S (fact r x t) in derives_for b (asked x negative) r && d) b.rules ≡ false
  underived negative S =
      any_cong_mem (λ r. let d = S (fact r x t) in derives_for b (asked x negative) r && d) (λ r. false)
      b.rules (λ r m. rw (
        derives_eq b (asked x negative) r,
        any_false (λ q. stands_for b q x) b.rules none r m,
      ) refl)
      ∙ any_none (λ (r : Rule). false) b.rules (λ r. refl)

  direct-holds : (negative : Bool) →
      holds always b t (asked x negative) ≡ anyb (fits (asked x negative)) (live t b.authorizations)
  unfolding holds
  direct-holds negative =
      let given = anyb (fits (asked x negative)) (live t b.authorizations) in
      ap (λ (d : Bool). given || d)
      (underived negative (derived_below always b (suc (2 * length b.rules))))
      ∙ or_false given

  pub direct-may : may b x t ≡ held_directly b.authorizations x t
  unfolding may may_with
  direct-may = ap₂ (λ (y z : Bool). y && not z) (direct-holds false) (direct-holds true)

-- so the rules can be left out where no rule stands for the access
module _ (b c : Base) (x : Access) (none : anyb (λ r. stands_for b r x) b.rules ≡ false)
    (same : c.authorizations ≡ b.authorizations) (ruleless : c.rules ≡ []) where
  pub ruleless_may : (t : ℕ) → may c x t ≡ may b x t
  ruleless_may t =
      direct-may c x t (ap (anyb (λ r. stands_for c r x)) ruleless)
      ∙ ap (λ (xs : List Authorization). held_directly xs x t) same
      ∙ sym (direct-may b x t none)

  pub ruleless_when : when c x ≡ when b x
  unfolding when
  ruleless_when = λ i. maximal 0 last_instant (λ t. ruleless_may t i)

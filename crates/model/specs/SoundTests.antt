-- The tests of a sound base that are joined by &&, one by one.
use Rattle.std.specs.Prelude.{◌≡◌, Bool, true, not, ◌&&◌, ◌||◌, List, [], ◌∷◌, leb, ltb, eqb}
use Rattle.foundation.specs.Lists.{anyb, allb, Mem, conjunct}
use Rattle.model.specs.Ranges.{is_instant, last_label}
use Rattle.model.specs.Base.{Base, exists, owns}
use Rattle.model.specs.Stratification.{is_star}
use Rattle.model.specs.Requests.{before}
use Rattle.model.specs.Soundness.{chained, rises, privilege_in, authorization_in, rule_in, starts_first}
use Rattle.model.specs.SoundnessFacts.{Sound}

module _ (b : Base) where
  abbrev pub order_tests : List Bool
  order_tests =
      (chained (λ p q. ltb p.object q.object) b.objects
      ∷ chained before b.administrators
      ∷ chained before b.referrers
      ∷ chained rises b.authorizations
      ∷ chained (λ r s. ltb r.label s.label) b.rules
      ∷ [])

  abbrev pub ranges_tests : List Bool
  ranges_tests =
      (is_instant b.clock
      ∷ leb b.last last_label
      ∷ allb privilege_in b.objects
      ∷ allb privilege_in b.administrators
      ∷ allb privilege_in b.referrers
      ∷ allb authorization_in b.authorizations
      ∷ allb rule_in b.rules
      ∷ [])

  abbrev pub intervals_tests : List Bool
  intervals_tests =
      (allb (λ a. starts_first a.interval) b.authorizations
      ∷ allb (λ r. starts_first r.interval) b.rules
      ∷ [])

  abbrev pub exist_tests : List Bool
  exist_tests =
      (allb (λ p. exists b p.object) b.administrators
      ∷ allb (λ p. exists b p.object) b.referrers
      ∷ allb (λ a. exists b a.head.object) b.authorizations
      ∷ allb (λ r. is_star r.left.object || (exists b r.left.object && exists b r.right.object))
      b.rules
      ∷ [])

  abbrev pub owners_tests : List Bool
  owners_tests =
      (allb (λ p. not (owns b p.object p.subject)) b.administrators
      ∷ allb (λ p. not (owns b p.object p.subject)) b.referrers
      ∷ [])

  abbrev pub labels_tests : List Bool
  labels_tests =
      (allb (λ a. not (anyb (λ r. eqb r.label a.head.label) b.rules)) b.authorizations
      ∷ allb (λ a. leb a.head.label b.last) b.authorizations
      ∷ allb (λ r. leb r.label b.last) b.rules
      ∷ [])

  module _ (s : Sound b) where
    pub order_test : (x : Bool) → Mem x order_tests → x ≡ true
    order_test = conjunct order_tests s.order

    pub ranges_test : (x : Bool) → Mem x ranges_tests → x ≡ true
    ranges_test = conjunct ranges_tests s.ranges

    pub intervals_test : (x : Bool) → Mem x intervals_tests → x ≡ true
    intervals_test = conjunct intervals_tests s.intervals

    pub exist_test : (x : Bool) → Mem x exist_tests → x ≡ true
    exist_test = conjunct exist_tests s.objects

    pub owners_test : (x : Bool) → Mem x owners_tests → x ≡ true
    owners_test = conjunct owners_tests s.owners

    pub labels_test : (x : Bool) → Mem x labels_tests → x ≡ true
    labels_test = conjunct labels_tests s.labels

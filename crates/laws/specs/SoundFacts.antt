-- What soundness says of the authorizations and rules of a base, member by member and in the numbers' own
-- terms.
use Rattle.std.specs.Prelude.{◌≡◌, refl, ℕ, ◌≤◌, true, ◌&&◌, leb}
use Rattle.std.proofs.Common.{inl, inr}
use Rattle.foundation.specs.Tests.{true-le, and-true}
use Rattle.foundation.specs.Lists.{Mem, all_mem}
use Rattle.model.specs.declared.Head.{Head}
use Rattle.model.specs.declared.Authorization.{Authorization}
use Rattle.model.specs.declared.Rule.{Rule}
use Rattle.model.specs.Base.{Base}
use Rattle.model.specs.Support.{live, supported_at}
use Rattle.model.proofs.SupportFacts.{everywhere_live}
use Rattle.model.specs.Soundness.{rises, starts_first}
use Rattle.model.specs.SoundnessFacts.{Sound}
use Rattle.model.specs.SoundTests.{order_test, intervals_test, labels_test}
use Rattle.laws.specs.Chained.{chained-both, chained_pairwise}
use Rattle.laws.specs.KeepFacts.{apart, Precedes, Sorted, precedes_trans, tests-precedes}

module _ (b : Base) (s : Sound b) where
  -- start is not above end
  pub interval-rises : (a : Authorization) → Mem a b.authorizations → a.interval.start ≤ a.interval.end
  interval-rises a m = true-le a.interval.start a.interval.end
      (all_mem (λ a. starts_first a.interval) b.authorizations (intervals_test b s _ (inl refl)) a m)

  pub granted_before : (a : Authorization) → Mem a b.authorizations →
      (a.head.granted ≤ a.interval.start) × (a.head.granted ≤ b.clock)
  granted_before a m =
      let w = and-true (leb a.head.granted a.interval.start) (leb a.head.granted b.clock)
      (all_mem (λ a. leb a.head.granted a.interval.start && leb a.head.granted b.clock)
      b.authorizations s.granted a m) in
      (true-le a.head.granted a.interval.start w.0, true-le a.head.granted b.clock w.1)

  -- no label is above the last given
  pub label-given : (a : Authorization) → Mem a b.authorizations → a.head.label ≤ b.last
  label-given a m = true-le a.head.label b.last
      (all_mem (λ a. leb a.head.label b.last) b.authorizations
      (labels_test b s _ (inr (inl refl))) a m)

  pub rule-label-given : (r : Rule) → Mem r b.rules → r.label ≤ b.last
  rule-label-given r m = true-le r.label b.last
      (all_mem (λ r. leb r.label b.last) b.rules (labels_test b s _ (inr (inr (inl refl)))) r m)

  -- the authorizations stand in order, pieces of one label apart
  pub sorted : Sorted b.authorizations
  sorted = chained_pairwise Precedes (λ a c. rises a c && apart a c) precedes_trans b.authorizations
      (λ a c m n e. tests-precedes a c (interval-rises a m) e)
      (chained-both rises apart b.authorizations (order_test b s _ (inr (inr (inr (inl refl)))))
      s.agree)

  pub all_supported_lem : (t : ℕ) (h : Head) → Mem h (live t b.authorizations) → supported_at b t h ≡ true
  all_supported_lem = everywhere_live b.authorizations (λ h t. supported_at b t h) s.support

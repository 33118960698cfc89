-- Where the bodies of a sound base stand, and what is in them as they are lent. Assumes nothing.
use mathlib.Core.Path.{◌≡◌, refl, sym, ap, ◌∙◌}
use mathlib.Core.Logic.{inl, inr}
use mathlib.Core.Bool.{true}
use mathlib.Core.List.{List}
use Prim.Native.Nat.{ℕ, ◌-◌, ◌≤◌}
use native.Mathlib.Omega.{arith}
use lib.ListN.{length, take, drop, length-drop}
use Rattle.foundation.specs.Lists.{allb, lent_rest}
use Rattle.model.specs.Encoding.{decode}
use Rattle.model.specs.EncodingFacts.{sound-length}
use Rattle.model.specs.Soundness.{sound_bytes, privilege_in, authorization_in, rule_in}
use Rattle.model.specs.FitsFacts.{CountsFit, counts_fit_lem}
use Rattle.model.specs.SoundnessFacts.{Sound, decoded-sound}
use Rattle.model.specs.SoundTests.{ranges_test}
use Rattle.encoding.specs.declared.Counts.{Counts}
use Rattle.encoding.specs.Format.{counts_of, counts_fit, administrators_at, referrers_at, authorizations_at}
use Rattle.encoding.specs.Format.{rules_at, privileges_in, authorizations_in, rules_in}
use Rattle.encoding.proofs.FormatFacts.{decoded-objects, decoded_administrators, decoded_referrers}
use Rattle.encoding.proofs.FormatFacts.{decoded-authorizations, decoded_rules, decoded-counts}
use Rattle.encoding.proofs.Contents.{CountsWithin, fit_within}

-- a slice that is lent from a on
abbrev pub lent : List ℕ → ℕ → List ℕ
lent s a = take (length s - a) (drop a s)

pub rest_of : (s : List ℕ) (a b : ℕ) → a ≡ b → lent s a ≡ drop b s
rest_of s a b e = lent_rest a s ∙ ap (λ (n : ℕ). drop n s) e

module _ (s : List ℕ) (e : sound_bytes s ≡ true) where
  -- the heading is there
  pub heading-there : 32 ≤ length s
  heading-there = omega (arith, sound-length s e)

  pub base-sound : Sound (decode s)
  base-sound = decoded-sound s e

  pub counts_in : CountsFit (decode s)
  counts_in = counts_fit_lem (decode s) base-sound.counts

  pub objects_in : allb privilege_in (decode s).objects ≡ true
  objects_in = ranges_test (decode s) base-sound _ (inr (inr (inl refl)))

  pub administrators_in : allb privilege_in (decode s).administrators ≡ true
  administrators_in = ranges_test (decode s) base-sound _ (inr (inr (inr (inl refl))))

  pub referrers_in : allb privilege_in (decode s).referrers ≡ true
  referrers_in = ranges_test (decode s) base-sound _ (inr (inr (inr (inr (inl refl)))))

  pub authorizations_in_lem : allb authorization_in (decode s).authorizations ≡ true
  authorizations_in_lem = ranges_test (decode s) base-sound _ (inr (inr (inr (inr (inr (inl refl))))))

  pub rules_in_lem : allb rule_in (decode s).rules ≡ true
  rules_in_lem = ranges_test (decode s) base-sound _ (inr (inr (inr (inr (inr (inr (inl refl)))))))

-- the length, and the counts' bounds
pub record Fitting (s : List ℕ) (c : Counts) : Type 0 where
  pub long : length s ≡ 27936
  pub counts : CountsWithin c

pub fitting : (s : List ℕ) → sound_bytes s ≡ true → (c : Counts) → c ≡ counts_of s → Fitting s c
fitting s e c q = record {
  long = sound-length s e;
  counts = fit_within c (ap counts_fit q ∙ sym (decoded-counts s) ∙ (base-sound s e).counts);
}

-- n records of w bytes are lent from a on
pub there : (s : List ℕ) (a b m : ℕ) → a ≡ b → m ≤ length s - b → m ≤ length (lent s a)
there s a b m q h = rw (rest_of s a b q) (simp length-drop h)

pub rest_long : (s : List ℕ) (a m : ℕ) → m ≤ length s - a → m ≤ length (lent s a)
rest_long s a m h = there s a a m refl h

-- what the bodies hold
module _ (s : List ℕ) (c : Counts) (q : c ≡ counts_of s) where
  pub objects-lent : privileges_in c.objects (lent s 32) ≡ (decode s).objects
  objects-lent = (λ k. privileges_in (q k).objects (rest_of s 32 32 refl k)) ∙ sym (decoded-objects s)

  module _ (a : ℕ) where
    pub administrators_lent : a ≡ administrators_at c →
        privileges_in c.administrators (lent s a) ≡ (decode s).administrators
    administrators_lent e = (λ k. privileges_in (q k).administrators
        (rest_of s a (administrators_at (counts_of s)) (e ∙ ap administrators_at q) k))
        ∙ sym (decoded_administrators s)

    pub referrers_lent : a ≡ referrers_at c → privileges_in c.referrers (lent s a) ≡ (decode s).referrers
    referrers_lent e = (λ k. privileges_in (q k).referrers
        (rest_of s a (referrers_at (counts_of s)) (e ∙ ap referrers_at q) k))
        ∙ sym (decoded_referrers s)

    pub authorizations-lent : a ≡ authorizations_at c →
        authorizations_in c.authorizations (lent s a) ≡ (decode s).authorizations
    authorizations-lent e = (λ k. authorizations_in (q k).authorizations
        (rest_of s a (authorizations_at (counts_of s)) (e ∙ ap authorizations_at q) k))
        ∙ sym (decoded-authorizations s)

    pub rules_lent : a ≡ rules_at c → rules_in c.rules (lent s a) ≡ (decode s).rules
    rules_lent e = (λ k. rules_in (q k).rules (rest_of s a (rules_at (counts_of s)) (e ∙ ap rules_at q) k))
        ∙ sym (decoded_rules s)

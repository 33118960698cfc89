-- What `search` is handed at each need of a method that lends a body of a sound base: `c` are the base's counts as they were read, and the body starts at `a`. Assumes nothing.
use borrow.Author.Rules.{rules}
use mathlib.Core.Path.{◌≡◌, refl}
use mathlib.Core.Bool.{true}
use mathlib.Core.List.{List}
use Prim.Native.Nat.{ℕ, ◌*◌, ◌≤◌}
use native.Mathlib.Omega.{arith}
use lib.ListN.{length}
use Rattle.model.specs.Soundness.{sound_bytes}
use Rattle.encoding.specs.declared.Counts.{Counts}
use Rattle.encoding.specs.Format.{counts_of, administrators_at, referrers_at, authorizations_at, rules_at}
use Rattle.encoding.proofs.SoundBodies.{heading-there, lent, fitting, there, objects-lent}
use Rattle.encoding.proofs.SoundBodies.{administrators_lent, referrers_lent, authorizations-lent, rules_lent}

module _ (s : List ℕ) (c : Counts) (e : sound_bytes s ≡ true) (q : c ≡ counts_of s) where
  pub objects-lent-whole : c.objects * 4 ≤ length (lent s 32)
  objects-lent-whole = let f = fitting s e c q in there s 32 32 _ refl (omega arith)

  module _ (a : ℕ) where
    pub administrators_begin : a ≡ administrators_at c → a ≤ length s
    administrators_begin p = let f = fitting s e c q in omega arith

    pub administrators_lent-whole : a ≡ administrators_at c → c.administrators * 4 ≤ length (lent s a)
    administrators_lent-whole p = let f = fitting s e c q in there s a (administrators_at c) _ p (omega arith)

    pub referrers_begin : a ≡ referrers_at c → a ≤ length s
    referrers_begin p = let f = fitting s e c q in omega arith

    pub referrers_lent-whole : a ≡ referrers_at c → c.referrers * 4 ≤ length (lent s a)
    referrers_lent-whole p = let f = fitting s e c q in there s a (referrers_at c) _ p (omega arith)

    pub authorizations-begin : a ≡ authorizations_at c → a ≤ length s
    authorizations-begin p = let f = fitting s e c q in omega arith

    pub authorizations-lent-whole : a ≡ authorizations_at c → c.authorizations * 24 ≤ length (lent s a)
    authorizations-lent-whole p = let f = fitting s e c q in there s a (authorizations_at c) _ p (omega arith)

    pub rules_begin : a ≡ rules_at c → a ≤ length s
    rules_begin p = let f = fitting s e c q in omega arith

    pub rules_lent-whole : a ≡ rules_at c → c.rules * 28 ≤ length (lent s a)
    rules_lent-whole p = let f = fitting s e c q in there s a (rules_at c) _ p (omega arith)

pub ruleset lent-body = (
  heading-there,
  objects-lent-whole,
  administrators_begin,
  administrators_lent-whole,
  referrers_begin,
  referrers_lent-whole,
  authorizations-begin,
  authorizations-lent-whole,
  rules_begin,
  rules_lent-whole,
  objects-lent,
  administrators_lent,
  referrers_lent,
  authorizations-lent,
  rules_lent,
  rules,
)

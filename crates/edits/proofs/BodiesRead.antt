-- The bodies of a base in its bytes. Assumes nothing.
use mathlib.Core.Path.{◌≡◌, sym, ap, ◌∙◌}
use native.Mathlib.Nat.{mul_comm}
use Rattle.encoding.proofs.SoundBodies.{lent, there, rest_of}
use Prim.Native.Nat.{ℕ, ◌+◌, ◌-◌, ◌*◌, ◌≤◌}
use native.Mathlib.Omega.{arith}
use mathlib.Core.List.{List}
use lib.ListN.{length, drop}
use Rattle.foundation.specs.Bytes.{records}
use Rattle.model.specs.Encoding.{decode, privilege_of, rule_of}
use Rattle.encoding.specs.Format.{counts_of, rules_at}
use Rattle.encoding.proofs.FormatFacts.{decoded-objects, decoded_administrators, decoded_referrers}
use Rattle.encoding.proofs.FormatFacts.{decoded_rules, decoded_lengths}
use Rattle.edits.specs.declared.PrivilegeBody.{PrivilegeBody}
use Rattle.edits.specs.declared.PrivilegeBody.TheVariants.{Objects, Administrators, Referrers}
use Rattle.edits.specs.Edits.{Written, privileges_of, privileges_at, privilege_count}
use Rattle.edits.proofs.EditedBytes.{written-length}

-- a body in the bytes: n records of w bytes, from a place on
pub record BodyInBytes {R : Type 0} (w : ℕ) (f : List ℕ → R) (xs : List R) (n at : ℕ)
    (s : List ℕ) : Type 0 where
  pub read : xs ≡ records w f n (drop at s)
  pub count : length xs ≡ n
  pub within : at + w * n ≤ length s

pub rules_body : (s : List ℕ) → Written s →
    BodyInBytes 28 rule_of (decode s).rules (counts_of s).rules (rules_at (counts_of s)) s
rules_body s W = record {
  read = decoded_rules s;
  count = (decoded_lengths s).4;
  within = omega (arith, W.fits.counts, decoded_lengths s, written-length s W);
}

pub privileges-body : (k : PrivilegeBody) (s : List ℕ) → Written s →
    BodyInBytes 4 privilege_of (privileges_of k (decode s)) (privilege_count k (counts_of s))
    (privileges_at k (counts_of s)) s
privileges-body Objects s W = record {
  read = decoded-objects s;
  count = (decoded_lengths s).0;
  within = omega (arith, W.fits.counts, decoded_lengths s, written-length s W);
}
privileges-body Administrators s W = record {
  read = decoded_administrators s;
  count = (decoded_lengths s).1;
  within = omega (arith, W.fits.counts, decoded_lengths s, written-length s W);
}
privileges-body Referrers s W = record {
  read = decoded_referrers s;
  count = (decoded_lengths s).2;
  within = omega (arith, W.fits.counts, decoded_lengths s, written-length s W);
}

-- and as it is lent, from a on
module _ {R : Type 0} {w : ℕ} {f : List ℕ → R} {xs : List R} {n at : ℕ} {s : List ℕ}
    (b : BodyInBytes w f xs n at s) (a : ℕ) (e : a ≡ at) where
  pub lent_starts : a ≤ length s
  lent_starts = omega (arith, b.within)

  pub lent_room : (m : ℕ) → m ≡ n → m * w ≤ length (lent s a)
  lent_room m q =
      let l : m * w ≤ length s - at = omega (arith, b.within, q, mul_comm w n, ap (λ (k : ℕ). k * w) q) in
      there s a at (m * w) e l

  pub lent_is : (m : ℕ) → m ≡ n → records w f m (lent s a) ≡ xs
  lent_is m q = (λ k. records w f (q k) (rest_of s a at e k)) ∙ sym b.read

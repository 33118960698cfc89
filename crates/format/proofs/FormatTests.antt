-- The tests of a base's bytes as code asks them. Assumes nothing.
use Rattle.std.proofs.Common.{sym, ap, ◌∙◌, arith, drop-drop, suc-mul}
use Rattle.std.specs.Prelude.{◌≡◌, refl, Bool, true, false, ◌&&◌, List, ℕ, zero, suc, ◌+◌, ◌*◌, ◌-◌, length, take, drop}
use Rattle.std.specs.List.{list_all, range_with_len}
use borrow.Author.Tests.{eq-eqb, ne_eqb}
use Rattle.model.specs.Encoding.{size}
use Rattle.encoding.specs.Format.{counts_of, counts_fit, heading_fits, authorizations_at, rules_at, end_at}
use Rattle.encoding.specs.Format.{authorization_clean, rule_clean, each_record, zeros, format_fits}
use Rattle.encoding.proofs.SoundBodies.{rest_of}

-- the n records from the i-th of those at a place on, asked by their numbers
asked_from : (w : ℕ) (p : List ℕ → Bool) (at : ℕ) (s : List ℕ) (n i : ℕ) →
    list_all (λ i. p (drop (at + i * w) s)) (range_with_len i n) ≡ each_record w p n (drop (at + i * w) s)
asked_from w p at s zero i = refl
asked_from w p at s (suc n) i =
    let next : i + 1 ≡ suc i = omega arith in
    let m : at + suc i * w ≡ at + i * w + w = omega (arith, suc-mul i w) in
    ap (λ (b : Bool). p (drop (at + i * w) s) && b)
    (ap (λ (j : ℕ). list_all (λ i. p (drop (at + i * w) s)) (range_with_len j n)) next
    ∙ asked_from w p at s n (suc i)
    ∙ ap (λ (k : ℕ). each_record w p n (drop k s)) m
    ∙ ap (each_record w p n) (sym (drop-drop w (at + i * w) s)))

pub asked_each : (w : ℕ) (p : List ℕ → Bool) (at : ℕ) (s : List ℕ) (n : ℕ) →
    list_all (λ i. p (drop (at + i * w) s)) (range_with_len 0 n) ≡ each_record w p n (drop at s)
asked_each w p at s n =
    let z : at + 0 * w ≡ at = omega arith in
    asked_from w p at s n 0 ∙ ap (λ (k : ℕ). each_record w p n (drop k s)) z

pub other_length : (s : List ℕ) → (length s ≡ 27936 → ⊥) → false ≡ format_fits s
unfolding format_fits
other_length s h = λ k. sym (ne_eqb (length s) size h) k && counts_fit (counts_of s) && heading_fits s
    && each_record 24 authorization_clean (counts_of s).authorizations (drop (authorizations_at (counts_of s)) s)
    && each_record 28 rule_clean (counts_of s).rules (drop (rules_at (counts_of s)) s)
    && zeros (drop (end_at (counts_of s)) s)

module _ (s : List ℕ) (l : length s ≡ 27936) where
  pub counts_beyond : counts_fit (counts_of s) ≡ false → false ≡ format_fits s
  unfolding format_fits
  counts_beyond f = rw (eq-eqb (length s) size l, f)

  -- the bytes from z on are lent
  pub format_asked : (z : ℕ) → counts_fit (counts_of s) ≡ true → z ≡ end_at (counts_of s) →
      heading_fits s
      && each_record 24 authorization_clean (counts_of s).authorizations (drop (authorizations_at (counts_of s)) s)
      && each_record 28 rule_clean (counts_of s).rules (drop (rules_at (counts_of s)) s)
      && zeros (take (length s - z) (drop z s)) ≡ format_fits s
  unfolding format_fits
  format_asked z f e = rw (eq-eqb (length s) size l, f, rest_of s z (end_at (counts_of s)) e)

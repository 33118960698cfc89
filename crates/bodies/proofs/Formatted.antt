-- What bytes of the format say of the counts, and of what they decode to.
use Rattle.std.proofs.Common.{ap, ◌∙◌, inl, inr}
use Rattle.std.specs.Prelude.{◌≡◌, refl, Bool, true, List, [], ◌∷◌, ℕ, eqb, length, drop}
use Rattle.foundation.specs.Tests.{true_eq}
use Rattle.foundation.specs.Lists.{Mem, conjunct}
use Rattle.model.specs.Encoding.{size}
use Rattle.encoding.specs.declared.Counts.{Counts}
use Rattle.encoding.specs.Format.{counts_of, counts_fit, heading_fits, authorizations_at, rules_at, end_at}
use Rattle.encoding.specs.Format.{authorization_clean, rule_clean, each_record, zeros, format_fits}
use Rattle.encoding.proofs.Contents.{fit_within}
use Rattle.encoding.proofs.SoundBodies.{Fitting}

module _ (s : List ℕ) (e : format_fits s ≡ true) where
  abbrev format_tests : List Bool
  format_tests =
      (eqb (length s) size
      ∷ counts_fit (counts_of s)
      ∷ heading_fits s
      ∷ each_record 24 authorization_clean (counts_of s).authorizations (drop (authorizations_at (counts_of s)) s)
      ∷ each_record 28 rule_clean (counts_of s).rules (drop (rules_at (counts_of s)) s)
      ∷ zeros (drop (end_at (counts_of s)) s)
      ∷ [])

  format_test : (x : Bool) → Mem x format_tests → x ≡ true
  unfolding format_fits
  format_test = conjunct format_tests e

  pub format_length : length s ≡ size
  format_length = true_eq (length s) size (format_test _ (inl refl))

  pub format_counts : counts_fit (counts_of s) ≡ true
  format_counts = format_test _ (inr (inl refl))

  -- the length, and the counts' bounds
  pub formatted : (c : Counts) → c ≡ counts_of s → Fitting s c
  formatted c q = record { long = format_length; counts = fit_within c (ap counts_fit q ∙ format_counts) }

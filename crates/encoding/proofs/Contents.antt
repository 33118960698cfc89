-- The counts that fit, and the contents. Assumes nothing.
use mathlib.Core.Path.{◌≡◌, refl}
use mathlib.Core.Logic.{inl, inr}
use mathlib.Core.Bool.{true}
use mathlib.Core.List.{[], ◌∷◌}
use Prim.Native.Nat.{◌≤◌}
use lib.Dec.{leb}
use lib.ListN.{replicate}
use Rattle.foundation.specs.Tests.{true-le}
use Rattle.foundation.specs.Lists.{conjunct}
use Rattle.fields.specs.Field.{splice}
use Rattle.encoding.specs.Format.{counts_fit, contents_of}
use Rattle.encoding.specs.declared.Counts.{Counts}

-- no count is above its most
pub record CountsWithin (c : Counts) : Type 0 where
  pub objects : c.objects ≤ 128
  pub administrators : c.administrators ≤ 128
  pub referrers : c.referrers ≤ 128
  pub authorizations : c.authorizations ≤ 1024
  pub rules : c.rules ≤ 64

pub fit_within : (c : Counts) → counts_fit c ≡ true → CountsWithin c
fit_within c e =
    let t = conjunct (leb c.objects 128 ∷ leb c.administrators 128 ∷ leb c.referrers 128
    ∷ leb c.authorizations 1024 ∷ leb c.rules 64 ∷ []) e in
    record {
      objects = true-le c.objects 128 (t _ (inl refl));
      administrators = true-le c.administrators 128 (t _ (inr (inl refl)));
      referrers = true-le c.referrers 128 (t _ (inr (inr (inl refl))));
      authorizations = true-le c.authorizations 1024 (t _ (inr (inr (inr (inl refl)))));
      rules = true-le c.rules 64 (t _ (inr (inr (inr (inr (inl refl))))));
    }

-- the contents in bytes that have room for them alone
pub contents-alone : (c : Counts) → splice 0 (contents_of c) (replicate 20 0) ≡ contents_of c
unfolding splice
contents-alone c = refl

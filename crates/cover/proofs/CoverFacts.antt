-- What is wanted of an authorization is what the model asks of one that stands directly before another:
-- `supports-wanted`.
use mathlib.Core.Path.{◌≡◌, sym, ◌∙◌}
use Prim.Native.Nat.{ℕ}
use mathlib.Core.List.{List}
use Rattle.foundation.specs.Lists.{any_cong}
use Rattle.model.specs.declared.Head.{Head}
use Rattle.model.specs.declared.Authorization.{Authorization}
use Rattle.model.specs.Support.{supports, live, covered_for}
use Rattle.model.proofs.SupportChains.{supports_eq}
use Rattle.model.proofs.SupportFacts.{any_live}
use Rattle.cover.specs.Cover.{want_of, head_for, wanted, covered_by}

pub supports-wanted : (k h : Head) → supports k h ≡ wanted (want_of h) k
unfolding wanted
supports-wanted k h = supports_eq k h ∙ sym (supports_eq k (head_for (want_of h)))

-- ---- what covers an instant

pub covered_by_lem : (xs : List Authorization) (h : Head) (t : ℕ) → covered_for xs h t ≡ covered_by (want_of h) xs t
unfolding covered_for
covered_by_lem xs h t =
    any_cong (λ k. supports k h) (wanted (want_of h)) (live t xs) (λ k. supports-wanted k h)
    ∙ any_live (wanted (want_of h)) t xs

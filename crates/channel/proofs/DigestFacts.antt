-- The digest of two texts, of none, and of the rest of one.
use Rattle.std.specs.Prelude.{◌≡◌, refl, ℕ, suc, ◌<◌, List, [], ◌∷◌, ◌++◌, length, drop, get_or}
use Rattle.std.proofs.Common.{drop-cons}
use Rattle.channel.specs.Digests.{mixed, digest}

-- two texts are one
pub digest-twice : (before : ℕ) (a b : List ℕ) → digest (digest before a) b ≡ digest before (a ++ b)
unfolding digest
digest-twice before [] b = refl
digest-twice before (c ∷ a) b = digest-twice (mixed before c) a b

pub digest_none : (before : ℕ) → digest before [] ≡ before
unfolding digest
digest_none before = refl

-- one byte of the rest
pub digest_next : (before i : ℕ) (text : List ℕ) → i < length text →
    digest before (drop i text) ≡ digest (mixed before (get_or text i 0)) (drop (suc i) text)
unfolding digest
digest_next before i text h = rw (drop-cons text i 0 h)

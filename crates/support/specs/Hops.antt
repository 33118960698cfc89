-- That each authorization is supported at each of its instants (01, "Support"), and the one step of it that
-- the code asks.
use Rattle.std.specs.Prelude.{Bool, List}
use Rattle.foundation.specs.Lists.{allb}
use Rattle.foundation.specs.Intervals.{always}
use Rattle.model.specs.declared.Head.{Head}
use Rattle.model.specs.declared.Authorization.{Authorization}
use Rattle.model.specs.Support.{supported, live}
use Rattle.model.specs.Support.{hop}

-- each is supported at each of its instants
abbrev pub each_supported : (Head → Bool) → List Authorization → Bool
each_supported root xs =
    allb (λ a. always a.interval.start a.interval.end (λ t. supported root (live t xs) a.head)) xs

-- at each instant of a, its grantor is a root or one of xs covers it that may stand directly before a
abbrev pub ever_hop : (Head → Bool) → List Authorization → Authorization → Bool
ever_hop root xs a = always a.interval.start a.interval.end (hop root xs a.head)

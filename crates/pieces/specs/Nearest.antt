-- What one authorization says of the first instant of a stretch that is covered.
use Rattle.std.specs.Prelude.{ℕ, max, Bool, ◌&&◌, leb, ltb}
use Rattle.foundation.specs.Tests.{pick}
use Rattle.model.specs.declared.Authorization.{Authorization}
use Rattle.cover.specs.declared.Want.{Want}
use Rattle.cover.specs.Cover.{wanted}

-- an authorization is wanted and covers an instant from a on that is before d
abbrev pub nearer : Want → ℕ → ℕ → Authorization → Bool
nearer w a d x =
    leb (max x.interval.start a) x.interval.end
    && ltb (max x.interval.start a) d
    && wanted w x.head

-- the first such instant, or d
unfoldable pub near_of : Want → ℕ → ℕ → Authorization → ℕ
near_of w a d x = pick (nearer w a d x) (max x.interval.start a) d

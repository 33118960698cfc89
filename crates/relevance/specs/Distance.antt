-- Marks of one kind, and marks by their distance.
use Rattle.std.specs.Prelude.{◌≡◌, ℕ, suc, ◌+◌, ◌-◌, ◌<◌, ◌≤◌, Bool, List, map, nat_lt}
use Rattle.foundation.specs.Tests.{pick}
use Rattle.foundation.specs.declared.Interval.{Interval}
use Rattle.model.specs.declared.Authorization.{Authorization}
use Rattle.model.specs.declared.Rule.{Rule}

-- a mark of an interval: the instant behind its end, or its start
abbrev pub edge : Bool → Interval → ℕ
edge ends i = pick ends (suc i.end) i.start

abbrev pub line_edges : Bool → List Authorization → List ℕ
line_edges ends xs = map (λ a. edge ends a.interval) xs

abbrev pub rule_edges : Bool → List Rule → List ℕ
rule_edges ends rs = map (λ r. edge ends r.interval) rs

-- d is the distance of m, modulo 2^32, from the instant after t
pub record Away (t m d : ℕ) : Type 0 where
  pub near : t < m → d + t + 1 ≡ m
  pub far : m ≤ t → d + t + 1 ≡ m + 4294967296
  pub bounded : m ≤ 4294967296

-- the mark at distance d behind the instant after t, or 2^32 where that lies behind the last instant
unfoldable pub reached : ℕ → ℕ → ℕ
reached t d = pick (nat_lt d (4294967295 - t)) (t + 1 + d) 4294967296

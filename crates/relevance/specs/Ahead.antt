-- What is near at an instant, and what stands of it at a later one.
use Rattle.std.specs.Prelude.{◌≡◌, ℕ, ◌<◌, true, false, List}
use Rattle.foundation.specs.Marks.{next}
use Rattle.model.specs.declared.Authorization.{Authorization}
use Rattle.model.specs.declared.Rule.{Rule}
use Rattle.relevance.specs.Distance.{line_edges, rule_edges}
use Rattle.relevance.specs.declared.ahead.Near.{Near}

-- k is the next mark behind t, if it lies behind it
abbrev pub IsNext : ℕ → List ℕ → ℕ → Type 0
IsNext t ms k = t < k → k ≡ next t ms 4294967296

module _ (xs : List Authorization) (rs : List Rule) (t : ℕ) (n : Near) where
  -- the next mark of each kind behind t
  pub record NearAt : Type 0 where
    pub instant : t < 4294967296
    pub line-starts : n.lines.starts ≡ next t (line_edges false xs) 4294967296
    pub line_ends : n.lines.ends ≡ next t (line_edges true xs) 4294967296
    pub rule-starts : n.rules.starts ≡ next t (rule_edges false rs) 4294967296
    pub rule_ends : n.rules.ends ≡ next t (rule_edges true rs) 4294967296

  -- the same of those that lie behind t
  pub record Standing : Type 0 where
    pub line-starts : IsNext t (line_edges false xs) n.lines.starts
    pub line_ends : IsNext t (line_edges true xs) n.lines.ends
    pub rule-starts : IsNext t (rule_edges false rs) n.rules.starts
    pub rule_ends : IsNext t (rule_edges true rs) n.rules.ends

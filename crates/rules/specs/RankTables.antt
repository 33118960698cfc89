-- What rules and steps between them count, the ranks of rules, and tables with a number for each rule.
use Rattle.std.specs.Prelude.{◌≡◌, ℕ, ◌+◌, ◌<◌, max, Bool, true, List, map, get_or, Option, None, Some}
use Rattle.foundation.specs.Tests.{pick}
use Rattle.foundation.specs.Lists.{keep_if}
use Rattle.foundation.specs.Graph.{most, heavy, cyclic, rank}
use Rattle.foundation.specs.BitMasks.{as_bit}
use Rattle.model.specs.declared.Rule.{Rule}
use Rattle.encoding.specs.Format.{rule_at}
use Rattle.model.specs.Stratification.{precedes, negates, weight, stratified, stratum}
use Rattle.rules.specs.declared.ranks.Counting.{Counting}
use Rattle.rules.specs.declared.ranks.Counting.TheVariants.{Steps, Strata}

-- the first n numbers of l are those of f
abbrev pub FilledWith : ℕ → (ℕ → ℕ) → List ℕ → Type 0
FilledWith n f l = (i : ℕ) → i < n → get_or l i 0 ≡ f i

-- l holds f of each of the n rules of some bytes, at the rule's place
abbrev pub RuleTable : ℕ → List ℕ → (Rule → ℕ) → List ℕ → Type 0
RuleTable n s f l = FilledWith n (λ i. f (rule_at s i)) l

-- What a step from q to r counts, and whether r counts by itself: each step one, or as in a stratum. No step
-- that counts is on a circle then exactly if there is none.
abbrev pub count_of : Counting → Rule → Rule → ℕ
count_of Steps q r = 1
count_of Strata q r = weight q r

abbrev pub own_count : Counting → Rule → Bool
own_count Steps r = true
own_count Strata r = negates r

-- what the step from q to r counts, if r looks at q
abbrev pub step_of : Counting → Rule → Rule → Option ℕ
step_of counting q r = pick (precedes q r) (Some (count_of counting q r)) None

-- what a round makes of the numbers f of the rules: the most that a rule has by itself or by a step into it
abbrev pub raised : Counting → List Rule → (Rule → ℕ) → Rule → ℕ
raised counting rules f r =
    max (as_bit (own_count counting r)) (most (λ q. count_of counting q r + f q) (keep_if (λ q. precedes q r) rules))

-- the most that a path counts which ends in each rule, if no step that counts is on a circle
abbrev pub ranks_found : Counting → List Rule → Option (List ℕ)
ranks_found counting rules =
    pick (cyclic precedes (heavy (count_of counting)) rules)
    None (Some (map (rank precedes (count_of counting) (own_count counting) rules) rules))

-- the stratum of each rule, if there is no forbidden circle
abbrev pub strata : List Rule → Option (List ℕ)
strata rules = pick (stratified rules) (Some (map (stratum rules) rules)) None

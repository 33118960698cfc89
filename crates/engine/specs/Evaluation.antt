-- One window evaluated: what is done, one thing after the other. What that means is no matter here.
use Rattle.std.specs.Prelude.{◌≡◌, ◌⊎◌, true, List, ℕ, ◌^◌, ◌<◌, get_or}
use Rattle.foundation.specs.BitMasks.{bit}
use Rattle.model.specs.declared.Authorization.{Authorization}
use Rattle.model.specs.Stratification.{stratum}
use Rattle.encoding.specs.Format.{rules_in, rule_at}
use Rattle.words.specs.Fields.{field_of}
use Rattle.windows.specs.Windows.{inside}
use Rattle.relevance.specs.Chosen.{selected}
use Rattle.facts.specs.Facts.{Setting, LineSteps}
use Rattle.grounding.specs.RuleTurns.{Prepared, Turns, Strata}

-- the instants of the rules of a mask fit into fields of 2^width bits
abbrev pub Low : List ℕ → ℕ → ℕ → Type 0
Low active rules width = (r : ℕ) → bit r rules ≡ true →
    (get_or active r 0 < 9223372036854775808) × (get_or active r 0 < 2 ^ (2 ^ width))

-- a table has the stratum of each rule of a mask, among these
abbrev pub StrataKnown : ℕ → ℕ → List ℕ → List ℕ → Type 0
StrataKnown n needed body l = (r : ℕ) → bit r needed ≡ true →
    get_or l r 0 ≡ stratum (selected needed (rules_in n body)) (rule_at body r)

-- those of a mask have their turns stratum by stratum
pub record StrataRan (p : Prepared) (n needed rest : ℕ) (active bits old new : List ℕ) : Type 0 where
  pub strata : List ℕ
  pub numbered : StrataKnown n needed p.body strata
  pub ran : Strata p active bits strata rest 0 old new

-- the rules have their turns behind those that precede them, those that are left theirs stratum by stratum
pub record RulesRan (p : Prepared) (n needed : ℕ) (active bits old new : List ℕ) : Type 0 where
  pub rest : ℕ
  pub turned : List ℕ
  pub turns : Turns p active bits needed old rest turned
  pub fewer : (r : ℕ) → bit r rest ≡ true → bit r needed ≡ true
  pub strata : List ℕ
  pub closed : (((q : ℕ) → q < 64 → bit q rest ≡ true → ⊥) × (new ≡ turned))
      ⊎ (StrataKnown n needed p.body strata × Strata p active bits strata rest 0 turned new)

-- the words are cleared, the authorizations given, and the rules have their turns
pub record Evaluation (e : Setting) (p : Prepared) (given-lines : List Authorization) (n needed : ℕ)
    (active bits new : List ℕ) : Type 0 where
  pub acts : (r j : ℕ) → bit r needed ≡ true → bit j (get_or active r 0)
      ≡ inside e.count e.marks (rule_at p.body r).interval j
  pub low : Low active needed p.frame.width
  pub cleared : List ℕ
  pub zero : (i : ℕ) → i < p.frame.fields → field_of p.frame.width cleared i ≡ 0
  pub given : List ℕ
  pub lines : LineSteps e given-lines cleared given
  pub rules : RulesRan p n needed active bits given new

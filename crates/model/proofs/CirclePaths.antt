-- The test `circular` of Circles finds exactly the circles of feeding: `circular_path`.
use Rattle.std.specs.Prelude.{◌≡◌, ◌↔◌, true, List}
use Rattle.std.proofs.Math.Path.{sym, subst}
use Rattle.std.proofs.Math.Bool.{Bool, and-true}
use Rattle.foundation.specs.Lists.{anyb, any_mem, mem_any}
use Rattle.foundation.specs.Graph.{reaches, cyclic, reaches_path}
use Rattle.model.specs.declared.Rule.{Rule}
use Rattle.model.specs.Stratification.{precedes}
use Rattle.model.proofs.StratificationFacts.{path_feeds}
use Rattle.model.specs.Circles.{circular, Circle}

module _ (rules : List Rule) where
  pub circular_path : (circular rules ≡ true) ↔ Circle rules
  unfolding circular
  circular_path = (
    (λ e. let w = any_mem back rules e in
        let p = (reaches_path precedes precedes rules w.0 w.0 w.1).0 w.2 in
        (w.0, w.1, subst (λ (T : Type 0). T) (path_feeds rules w.0 w.0) p)),
    (λ c. let p = subst (λ (T : Type 0). T) (sym (path_feeds rules c.0 c.0)) c.2 in
        mem_any back rules c.0 c.1 ((reaches_path precedes precedes rules c.0 c.0 c.1).1 p)),
  )
    where
      back : Rule → Bool
      back r = reaches precedes precedes rules r r

  -- it is a cycle of the graph in which every edge counts
  pub circular-cyclic : circular rules ≡ cyclic precedes (λ q r. true) rules
  unfolding circular cyclic
  circular-cyclic t = anyb (λ r. reaches (λ p s. sym (and-true (precedes p s)) t) precedes rules r r) rules

use borrow.Author.Rules.{rules}
use native.Mathlib.Omega.{arith}
use mathlib.Core.Path.{◌≡◌, sym, ap, ap₂, ◌∙◌, subst}
use mathlib.Core.Bool.{true}
use Prim.Native.Nat.{ℕ, ◌<◌}
use lib.ListN.{get_or}
use Rattle.foundation.specs.Lists.{Mem}
use Rattle.model.specs.declared.Rule.{Rule}
use Rattle.model.specs.Stratification.{stratified, stratum}
use Rattle.laws.specs.Plain.{Plain, stratum_none}
use Rattle.encoding.specs.Format.{rules_in, rule_at}
use Rattle.relevance.specs.Chosen.{selected}
use Rattle.selection.specs.Selection.{position}
use Rattle.selection.proofs.Selected.{rule-selected, selected-rule}
use Rattle.selection.proofs.SelectedLoop.{at_position}
use Rattle.std.specs.Prelude.{refl, Bool, List, [], Option, Some, None, option_map, is_some, unwrap_or, map, take, length}
use Rattle.foundation.specs.Tests.{pick}
use Rattle.foundation.specs.ByteRecords.{length-records}
use Rattle.model.specs.Encoding.{rule_of}
use Rattle.rules.specs.RankTables.{strata}
use Rattle.rules.proofs.Tables.{table_of}
use Rattle.selection.proofs.ranking.strata_of.Goals.{After-stratify}
use Rattle.selection.proofs.ranking.strata_of.Goals as goal

-- the bytes hold the rules of the mask
pub counts_some-requires : goal.counts_some-requires
counts_some-requires c = λ r e.
    let p = c.requires in
    (omega (arith, p.2 r e, p.0), omega (arith, p.2 r e, p.1))

pub returns-then-not-counts_some : goal.returns-then-not-counts_some
returns-then-not-counts_some c =
    let t = c in
    let k = t.counts_some in
    let s = t in
    let a = s.args in
    let body = a.body.now in
    let plain : (q : Rule) → Mem q (selected a.needed (rules_in a.n body)) → Plain q = λ q m.
    let w = selected-rule a.needed a.n body q m in
    subst Plain (sym w.2) (k.ensures t.if-not-counts_some.true
    w.0 w.1) in
    let zeroed : (r : ℕ) → r < 64 → get_or c.fill.new.self r 0 ≡ 0 = search rules in
    λ r b.
    let h = s.requires.2 r b in
    zeroed r (omega (arith, s.requires.0))
    ∙ sym (stratum_none (selected a.needed (rules_in a.n body)) plain (rule_at body r)
    (rule-selected a.needed a.n r body h b))

-- they are stratified, so each has its stratum
found : (xs : List Rule) (o : Option (List ℕ)) → option_map (take (length xs)) o ≡ strata xs → stratified xs ≡ true →
    option_map (take (length xs)) o ≡ Some (map (stratum xs) xs)
found xs o e h = e ∙ ap (λ (b : Bool). pick b (Some (map (stratum xs) xs)) None) h

is_there : (xs : List Rule) (o : Option (List ℕ)) → option_map (take (length xs)) o ≡ strata xs → stratified xs ≡ true →
    is_some o ≡ true
is_there xs (Some l) e h = refl
is_there xs None e h = ap is_some (found xs None e h)

listed : (xs : List Rule) (o : Option (List ℕ)) (l : List ℕ) → option_map (take (length xs)) o ≡ strata xs →
    stratified xs ≡ true → o ≡ Some l → take (length xs) l ≡ map (stratum xs) xs
listed xs o l e h q = ap (λ (p : Option (List ℕ)). unwrap_or p [])
    (ap (option_map (take (length xs))) (sym q) ∙ found xs o e h)

pub stratify-requires : goal.stratify-requires
stratify-requires c =
    let k = c.select-k in
    let l : length c.new.result ≡ k.result = ap length c.new.ensures ∙ length-records 28 rule_of k.result k.new.few in
    omega (arith, l, k.ensures.0)

-- what stratify was handed is stratified
sound : (c : After-stratify) → stratified c.new.result ≡ true
sound c =
    let d = c.new.ensures ∙ c.select-k.ensures.2 in
    ap stratified d ∙ c.requires.3

pub unwrap-ranks-requires : goal.unwrap-ranks-requires
unwrap-ranks-requires c = is_there c.new.result c.stratify.result c.stratify.ensures (sound c)

pub returns : goal.returns
returns c =
    let k = c.select-k in
    let a = c.args in
    let body = a.body.now in
    let rs = c.new.result in
    let d = (goal.at.returns c).After-stratify in
    let e = k.ensures.2 in
    let w = listed rs c.stratify.result c.unwrap-ranks.result c.stratify.ensures (sound d) c.unwrap-ranks.ensures in
    let n : length rs ≡ k.result = ap length c.new.ensures ∙ length-records 28 rule_of k.result k.new.few in
    let t : take k.result c.unwrap-ranks.result ≡ map (stratum rs) (rules_in k.result k.new.few) =
    ap (λ (m : ℕ). take m c.unwrap-ranks.result) (sym n) ∙ w ∙ ap (map (stratum rs)) c.new.ensures in
    λ r b.
    let h = c.requires.2 r b in
    let p = at_position a.needed body k.new.few k.result a.n r e h b in
    c.spread_strata.ensures r (omega (arith, c.requires.0)) b
    ∙ table_of k.result k.new.few (stratum rs) c.unwrap-ranks.result t (position a.needed r) p.0
    ∙ ap₂ (λ (rules : List Rule) (q : Rule). stratum rules q) (c.new.ensures ∙ e) p.1

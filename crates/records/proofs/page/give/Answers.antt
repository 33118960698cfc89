use Rattle.std.proofs.Common.{◌≡◌, sym, ap, ◌∙◌, false, List, ◌++◌, ℕ, suc, ◌-◌, ◌*◌, ◌/◌, ◌≤◌, length, take, drop, map, min, arith}
use Rattle.std.specs.Prelude.{ltb}
use Rattle.std.proofs.lemmas.List.{length-map, drop-map, take-map}
use Rattle.foundation.specs.Tests.{le-false}
use Rattle.foundation.specs.Lists.{each}
use Rattle.model.specs.declared.Reply.TheVariants.{Runs}
use Rattle.model.specs.Answers.{answering}
use Rattle.records.proofs.Filled.{most, written, each_map}
use Rattle.records.proofs.page.give.Goals as goal

pub returns : goal.returns
returns g c =
    let w = g.R.Numbered.WIDTH in
    let f = g.R.Numbered.numbers in
    let xs = c.args.records.now in
    let first = c.args.first in
    let list = c.args.list.now in
    let k = c.min-k.result in
    let all = map f xs in
    let many : length all ≡ c.len-count.result = length-map xs f ∙ sym c.len-count.ensures in
    let beyond : ltb (length all) first ≡ false =
    le-false (suc (length all)) first (omega (arith, many, c.if-count-first.false)) in
    let room : w ≤ length list = omega (arith, c.WIDTH.ensures, c.if-list-WIDTH.false) in
    let short : ltb (length list) w ≡ false = le-false (suc (length list)) w (omega (arith, room)) in
    let shown : each (take k (drop first xs)) f ≡ each (take k (drop first all)) (λ r. r) =
    sym (each_map f (take k (drop first xs)))
    ∙ ap (λ (l : List (List ℕ)). each l (λ r. r))
    (sym (ap (take k) (drop-map f first xs) ∙ take-map f k (drop first xs))) in
    let least : k ≡ most all w first list =
    c.min-k.ensures ∙ (λ i. min (length list / c.WIDTH-2.ensures i) (sym many i - first)) in
    ap (answering (Runs k)) (c.fill.ensures ∙ ap (λ (l : List ℕ). l ++ drop (k * w) list) shown)
    ∙ written all w first list beyond short k least

use Rattle.std.proofs.Common.{arith, ◌∙◌, sym, ap, length-set, length-take}
use Rattle.std.proofs.lemmas.List.{take_more_set, map-append, take_all}
use Rattle.std.specs.Prelude.{◌≡◌, ℕ, List, [], ◌∷◌, ◌+◌, ◌≤◌, Some, length, take}
use Rattle.std.proofs.lemmas.Bool.{true≢false}
use native.Mathlib.Numerals.{add-one}
use lib.Pointwise.{pointwise}
use lib.Dec.{eqb}
use Rattle.rules.specs.RankTables.{own_count}
use Rattle.rules.specs.Edges.{shown, row_of}
use Rattle.foundation.specs.BitMasks.{as_bit}
use Rattle.rules.proofs.Rounds.{round, equal_lists, lists_equal, first_ranks, settled, circle, ranks_fit, rows_fit, one_longer}
use Rattle.rules.proofs.ranks.rank.Goals as goal

pub loop-j-preserved : goal.loop-j-preserved
loop-j-preserved c =
    let a = c.args in
    let l = c.loop-j in
    let i = l.invariant in
    let row = c.row_of-row.result in
    let room : l.j + 1 ≤ 65 = omega (arith, c.requires, c.loop-j-test.true, c.len-n.ensures) in (
      omega (arith, c.loop-j-test.true, c.len-n.ensures),
      length-set l.rows l.j row ∙ i.1,
      length-set l.ranks l.j row.own ∙ i.2,
      rw (take_more_set l.rows l.j row (omega (arith, i.1, room)), map-append shown (take l.j l.rows) (row ∷ []), i.3, c.row_of-row.ensures)
          (one_longer (row_of a.counting a.rules.now) a.rules.now l.j c.get.result c.get.ensures),
      rw (take_more_set l.ranks l.j row.own (omega (arith, i.2, room)), i.4, ap (λ (w : ℕ × List ℕ). w.0) c.row_of-row.ensures)
          (one_longer (λ r. as_bit (own_count a.counting r)) a.rules.now l.j c.get.result c.get.ensures),
    )

pub loop-init : goal.loop-init
loop-init c =
    let a = c.args in
    let i = c.loop-j.invariant in
    let all : c.loop-j.j ≡ c.len-n.result = omega (arith, i.0, c.len-n.ensures, c.loop-j-test.false) in
    let whole : take c.len-n.result a.rules.now ≡ a.rules.now = take_all c.len-n.result a.rules.now (omega (arith, c.len-n.ensures)) in (
      omega arith,
      rw (all, whole) at i.3,
      (rw (all, whole) at i.4) ∙ first_ranks a.counting a.rules.now,
    )

pub next_ranks-next-requires : goal.next_ranks-next-requires
next_ranks-next-requires c =
    let a = c.args in
    let i = c.loop.invariant in (
      omega (arith, c.requires, c.len-n.ensures, length-take c.len-n.result c.loop-j.rows),
      rows_fit a.counting a.rules.now c.loop.ranks
          (ranks_fit a.counting a.rules.now c.len-n.result c.loop.counter c.len-n.ensures c.loop.ranks c.requires
          (omega (arith, i.0, c.requires, c.len-n.ensures)) i.2)
          (take c.len-n.result c.loop-j.rows) a.rules.now i.1,
    )

pub returns-then-eq : goal.returns-then-eq
returns-then-eq c =
    let a = c.args in
    let l = c.loop in
    let rules = a.rules.now in
    let i = l.invariant in
    let next = c.next_ranks-next.result in
    let after = round a.counting rules c.len-n.result l.counter c.len-n.ensures l.ranks next
    (take c.len-n.result c.loop-j.rows) i.2 i.1 c.next_ranks-next.ensures in
    let same = equal_lists (take c.len-n.result next) (take c.len-n.result l.ranks) (sym c.eq.ensures ∙ c.if-eq.true) in
    ap (λ (n : ℕ). Some (take n l.ranks)) (sym c.len-n.ensures) ∙ ap Some i.2
    ∙ settled a.counting rules l.counter (sym i.2 ∙ sym same ∙ after)

pub loop-preserved : goal.loop-preserved
loop-preserved c =
    let a = c.args in
    let l = c.loop in
    let i = l.invariant in
    let after = round a.counting a.rules.now c.len-n.result l.counter c.len-n.ensures l.ranks c.next_ranks-next.result
    (take c.len-n.result c.loop-j.rows) i.2 i.1 c.next_ranks-next.ensures in
    (omega arith, i.1, rw add-one after)

pub returns-else-eq : goal.returns-else-eq
returns-else-eq c =
    let a = c.args in
    let l = c.loop in
    let rules = a.rules.now in
    let i = l.invariant in
    let next = c.next_ranks-next.result in
    let last : l.counter ≡ length rules = omega (arith, c.len-n.ensures) in
    let after = round a.counting rules c.len-n.result l.counter c.len-n.ensures l.ranks next
    (take c.len-n.result c.loop-j.rows) i.2 i.1 c.next_ranks-next.ensures in
    circle a.counting rules (λ q.
    let same : take c.len-n.result next ≡ take c.len-n.result l.ranks = after ∙ sym (rw last q) ∙ sym i.2 in
    true≢false (sym (c.eq.ensures ∙ ap (λ (xs : List ℕ). pointwise eqb xs (take c.len-n.result l.ranks)) same
    ∙ lists_equal (take c.len-n.result l.ranks)) ∙ c.if-eq.false))

use Rattle.std.proofs.Common.{rules, ◌≡◌, sym, ap, ◌∙◌, List, ◌++◌, ℕ, ◌+◌, ◌-◌, ◌*◌, ◌<◌, ◌≤◌, length, take, drop, append_assoc, arith}
use Rattle.foundation.specs.BytesFacts.{rest_behind}
use Rattle.foundation.specs.Lists.{each}
use Rattle.records.proofs.Filled.{row_fits, next_place, put_length, put_front, put_behind, next_row}
use Rattle.records.proofs.page.fill.Goals as goal

pub loop-i-preserved : goal.loop-i-preserved
loop-i-preserved g c =
    let a = c.args in
    let l = c.loop-i in
    let w = g.R.Numbered.WIDTH in
    let f = g.R.Numbered.numbers in
    let at = l.i * w in
    let row = c.put_numbers.new.row in
    let h : l.i < a.k = omega arith in
    let fits : at + w ≤ length l.list = omega (arith, row_fits l.i a.k w h, l.invariant.1, c.requires.2) in
    let part : length row ≡ c.WIDTH-in-loop-i.result = search rules in
    let long : length row ≡ w = part ∙ c.WIDTH-in-loop-i.ensures in
    let rest = drop (a.first + l.i + 1) a.records.now in
    let last = each (take (a.k - (l.i + 1)) rest) f in
    let q : a.first + (l.i + 1) ≡ a.first + l.i + 1 = omega arith in
    let next = next_row f (drop (a.first + l.i) a.records.now) rest c.get.result a.k l.i h c.get.ensures in
    rw (c.WIDTH.ensures, c.WIDTH-in-loop-i.ensures, next_place l.i w, q) (
      omega (arith, h),
      put_length w at l.list row fits long ∙ l.invariant.1,
      ap (λ (s : List ℕ). s ++ last) (put_front w at l.list row fits long)
          ∙ append_assoc (take at l.list) row last
          ∙ ap (λ (s : List ℕ). take at l.list ++ s)
          (ap (λ (s : List ℕ). s ++ last) c.put_numbers.ensures ∙ sym next)
          ∙ l.invariant.2,
      put_behind w at l.list row fits long
          ∙ rest_behind a.list.now l.list at (at + w) (omega arith) l.invariant.3,
    )

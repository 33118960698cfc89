use Rattle.std.proofs.Common.{Bool, List, ap, arith, drop, eqb, get_or, length, rules, take, ℕ, ◌&&◌, ◌-◌, ◌∙◌, ◌≡◌}
use borrow.Author.Rules.{part_to_end}
use Rattle.foundation.specs.Bytes.{eq_list}
use Rattle.vectors.proofs.LineWalks.{none_owed, with_last_lem}
use Rattle.vectors.proofs.stages.tells_owed.Goals as goal

pub returns-then-owed-eq0 : goal.returns-then-owed-eq0
returns-then-owed-eq0 c =
    let d = c in
    none_owed (drop 2 d.args.line.now) d.args.owed.now 10 (search rules)

pub returns : goal.returns
returns c =
    let a = c.args.line.now in
    let b = c.args.owed.now in
    let e : c.eq.result ≡ eq_list (drop 2 a) (take (length b - 1) b) =
    c.eq.ensures ∙ ap (λ (x : List ℕ). eq_list x (take (length b - 1) b)) (part_to_end a 2) in
    ap (λ (x : Bool). x && eqb (get_or b (length b - 1) 0) 10) e
    ∙ with_last_lem (drop 2 a) b 10 (length b - 1) (omega arith)

use borrow.Author.Rules.{rules}
use native.Mathlib.Omega.{arith}
use mathlib.Core.Path.{◌∙◌}
use Rattle.queries.proofs.Handing.{none_unpacked, one_unpacked, all_unpacked}
use Rattle.queries.proofs.prepared.unpack.Goals as goal

pub loop-i-init : goal.loop-i-init
loop-i-init c =
    let a = c.args in
    (search rules, search rules, none_unpacked a.words.now a.bytes.now)

pub loop-i-preserved : goal.loop-i-preserved
loop-i-preserved c =
    let a = c.args in
    let l = c.loop-i in
    let p = c.put_word_at in (
      search rules,
      p.auto.bytes ∙ l.invariant.1,
      one_unpacked a.words.now a.bytes.now l.i (omega arith) (omega arith) l.invariant.2
          p.ensures,
    )

pub returns : goal.returns
returns c =
    let d = c in
    let l = c.loop-i in
    l.invariant.2 ∙ all_unpacked d.args.words.now d.args.bytes.now l.i d.requires (omega arith)

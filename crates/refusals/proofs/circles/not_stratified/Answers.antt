use borrow.Author.Rules.{rules}
use mathlib.Core.Path.{◌≡◌, sym, ap, ◌∙◌}
use mathlib.Core.Bool.{not}
use mathlib.Core.List.{List, [], ◌∷◌, ◌++◌}
use Prim.Native.Nat.{ℕ, ◌+◌, ◌*◌, ◌≤◌}
use native.Mathlib.Omega.{arith}
use lib.ListN.{length, take, drop, replicate, length-append, length-drop, length-replicate}
use lib.Seq.{length-take-le}
use Rattle.model.specs.declared.Rule.{Rule}
use Rattle.foundation.specs.ByteRecords.{length-records}
use Rattle.model.specs.Encoding.{decode, rule_of, rule_bytes}
use Rattle.model.specs.EncodingFacts.{sound-length}
use Rattle.model.specs.Requests.{new_rule}
use Rattle.model.specs.Stratification.{stratified}
use Rattle.fields.specs.Field.{splice}
use Rattle.fields.proofs.ByteLaws.{front-put}
use Rattle.encoding.specs.Format.{rules_at, rules_in}
use Rattle.refusals.proofs.AskedFacts.{rule-request_in, strata-rule, strata_none}
use Rattle.encoding.proofs.SoundBodies.{lent, Fitting, fitting, there, rules_lent}
use Rattle.refusals.proofs.Added.{added_rules}
use Rattle.refusals.proofs.circles.not_stratified.Goals as goal
use Rattle.refusals.proofs.circles.not_stratified.Goals.{After-rules_at-at}

-- behind the counts: the bodies fit
fits : (c : After-rules_at-at) → Fitting c.args.base.now.bytes.now c.counts_of-c.result
fits c = fitting c.args.base.now.bytes.now c.args.base.now.sound c.counts_of-c.result c.counts_of-c.ensures

-- the rules lie in what is lent from their place on
long : (c : After-rules_at-at) → c.counts_of-c.result.rules * 28 ≤ length (lent c.args.base.now.bytes.now c.rules_at-at.result)
long c =
    there c.args.base.now.bytes.now c.rules_at-at.result (rules_at c.counts_of-c.result) _
    c.rules_at-at.ensures (omega (arith, fits c))

pub returns-then-q-ne-ADDRULE : goal.returns-then-q-ne-ADDRULE
returns-then-q-ne-ADDRULE c =
    let a = c.args in
    strata_none (decode a.base.now.bytes.now) a.q c.if-q-ne-ADDRULE.true

pub counts_of-c-requires : goal.counts_of-c-requires
counts_of-c-requires c = omega (arith, sound-length c.args.base.now.bytes.now c.args.base.now.sound)

pub slice_bounds-body-count : goal.slice_bounds-body-count
slice_bounds-body-count c =
    omega (arith, fits (goal.at.slice_bounds-body-count c).After-rules_at-at, c.rules_at-at.ensures)

pub slice_bounds-body-start : goal.slice_bounds-body-start
slice_bounds-body-start c =
    omega (arith, fits (goal.at.slice_bounds-body-start c).After-rules_at-at, c.rules_at-at.ensures)

-- the rules of the base fit the buffer
room : (c : After-rules_at-at) → length (take (c.counts_of-c.result.rules * 28) (replicate {A = ℕ} 1820 0))
    ≡ c.counts_of-c.result.rules * 28
room c = length-take-le (c.counts_of-c.result.rules * 28) (replicate 1820 0)
    (omega (arith, length-replicate {A = ℕ} 1820 0, (fits c).counts))

pub slice_bounds-all-end : goal.slice_bounds-all-end
slice_bounds-all-end c = omega (arith, (fits (goal.at.slice_bounds-all-end c).After-rules_at-at).counts)

pub slice_bounds-copy-end : goal.slice_bounds-copy-end
slice_bounds-copy-end c = sym (room (goal.at.slice_bounds-copy-end c).After-rules_at-at)

pub slice_bounds-copy-end-2 : goal.slice_bounds-copy-end-2
slice_bounds-copy-end-2 c = sym (length-take-le (c.counts_of-c.result.rules * 28) _
    (long (goal.at.slice_bounds-copy-end-2 c).After-rules_at-at))

pub copy-requires : goal.copy-requires
copy-requires c =
    let l = (goal.at.copy-requires c).After-rules_at-at in
    room l ∙ sym (length-take-le (c.counts_of-c.result.rules * 28) _ (long l))

pub new_rule-requires : goal.new_rule-requires
new_rule-requires c =
    let w = rule-request_in c.args.q c.requires c.if-q-ne-ADDRULE.false in
    (w.rule, w.operator)

pub put_rule-requires : goal.put_rule-requires
put_rule-requires c =
    let l = (goal.at.put_rule-requires c).After-rules_at-at in
    let n = c.counts_of-c.result.rules * 28 in
    let z : List ℕ = replicate 1820 0 in
    omega (
      arith,
      length-append c.copy.new.to (drop n z),
      length-drop n z,
      c.copy.ensures.len,
      room l,
      length-replicate {A = ℕ} 1820 0,
      (fits l).counts,
    )

pub overflow_add-n : goal.overflow_add-n
overflow_add-n c = omega (arith, (fits (goal.at.overflow_add-n c).After-rules_at-at).counts)

pub new-requires : goal.new-requires
new-requires c =
    let f = (fits (goal.at.new-requires c).After-rules_at-at).counts in
    let l : length c.put_rule.new.s ≡ 1820 = search rules in
    omega (arith, f, l)

pub is_stratified-requires : goal.is_stratified-requires
is_stratified-requires c =
    let n = c.counts_of-c.result.rules + 1 in
    let l : length c.new.result ≡ n = ap length c.new.ensures ∙ length-records 28 rule_of n c.put_rule.new.s in
    omega (arith, (fits (goal.at.is_stratified-requires c).After-rules_at-at).counts, l)

pub returns : goal.returns
returns c =
    let d = (goal.at.returns c).After-rules_at-at in
    let n = c.counts_of-c.result in
    let at = c.rules_at-at.result in
    let s = c.args.base.now.bytes.now in
    let q = c.args.q in
    let w = rule-request_in q c.requires c.if-q-ne-ADDRULE.false in
    let z : List ℕ = replicate 1820 0 in
    let t : List ℕ = c.copy.new.to ++ drop (n.rules * 28) z in
    let copied = front-put (n.rules * 28) z c.copy.ensures.after
    (length-take-le (n.rules * 28) (lent s at) (long d)) in
    let all : rules_in (n.rules + 1) c.put_rule.new.s ≡ rules_in n.rules (lent s at) ++ (new_rule 1 q ∷ []) =
    added_rules n.rules (lent s at) z t
    c.put_rule.new.s (new_rule 1 q) w.rule (long d) (omega (arith, (fits d).counts)) copied
    (c.put_rule.ensures
    ∙ ap (λ (x : Rule). splice (n.rules * 28) (rule_bytes x) t)
    c.new_rule.ensures) in
    ap not (c.is_stratified.ensures ∙ ap stratified (c.new.ensures ∙ all ∙ ap (λ (rs : List Rule). rs ++ (new_rule 1 q ∷ []))
    (rules_lent s n c.counts_of-c.ensures at c.rules_at-at.ensures)))
    ∙ strata-rule (decode s) q c.if-q-ne-ADDRULE.false

use borrow.Author.Rules.{rules}
use Rattle.std.proofs.Common.{◌≡◌, refl, sym, ◌∙◌, arith, List, [], ◌∷◌, ℕ, ◌≤◌}
use Rattle.std.proofs.lemmas.List.{at_drop_all}
use Rattle.model.specs.declared.Authorization.{Authorization}
use Rattle.cover.specs.declared.Want.{Want}
use Rattle.cover.specs.First.{first}
use Rattle.cover.proofs.FirstFacts.{first_past}
use Rattle.cover.specs.Cover.{covered_by}
use Rattle.pieces.specs.Nearest.{near_of}
use Rattle.pieces.proofs.NearestFacts.{near_low, near_step, nearest_none}
use Rattle.pieces.proofs.granting.cover_from.Goals as goal

-- a turn, over the rest x ∷ xs of ys
turn : (w : Want) (a d r : ℕ) (ys xs : List Authorization) (x : Authorization) → ys ≡ x ∷ xs →
    r ≡ near_of w a d x → a ≤ d → (a ≤ r) × (first (covered_by w ys) a d ≡ first (covered_by w xs) a r)
turn w a d r ys xs x e q h = rw (e, q) (near_low w a d x h, near_step w a d x h xs)

pub returns-then-d-a : goal.returns-then-d-a
returns-then-d-a c =
    let l = c.loop-i.invariant in
    let t = turn _ _ _ _ _ _ _ c.get.ensures c.nearest-d.ensures l.1 in
    sym (l.2 ∙ t.1 ∙ first_past _ _ _ c.if-d-a.true)

pub loop-i-preserved : goal.loop-i-preserved
loop-i-preserved c =
    let l = c.loop-i.invariant in
    let t = turn _ _ _ _ _ _ _ c.get.ensures c.nearest-d.ensures l.1 in
    (search rules, t.0, l.2 ∙ t.1)

pub returns : goal.returns
returns c =
    let a = c.args in
    let l = c.loop-i in
    sym (l.invariant.2
    ∙ at_drop_all (λ (xs : List Authorization). first (covered_by a.w xs) a.a l.d) a.authorizations.now l.i (omega arith)
    ∙ nearest_none (covered_by a.w []) a.a l.d l.invariant.1 (λ t. refl))

use native.Mathlib.Omega.{arith}
use mathlib.Core.Path.{◌≡◌, refl, sym, ap, ◌∙◌, subst}
use mathlib.Core.Bool.{Bool, true, false, not, ◌&&◌, true≢false, false≢true}
use Prim.Native.Nat.{ℕ, ◌<◌}
use lib.Bits.{and_le_l}
use lib.Dec.{eqb}
use lib.ListN.{length, get_or, set}
use Rattle.foundation.specs.Tests.{cases, and-true, and_intro, and-false, not-true, or_cases, true_eq, false_eq}
use Rattle.foundation.specs.BitMasks.{bit}
use Rattle.words.specs.Bits.{less}
use Rattle.words.specs.SetBits.{among}
use Rattle.words.proofs.CutBit.{bit-less}
use Rattle.words.proofs.SetBitLoops.{Turn, turn, finished, among_more, among_all}
use Rattle.facts.specs.Sharing.{UsesTable}
use Rattle.facts.proofs.TableSharing.{shares_self, uses_still, start_still, uses_new}
use Rattle.facts.proofs.sharing.share_starts.Goals as goal
use Rattle.facts.proofs.sharing.share_starts.Goals.{In-Some}

-- a rule without a table is of the mask and not of the tables
rest_is : (rules tables i : ℕ) → bit i (less rules tables) ≡ true →
    (bit i rules ≡ true) × (bit i tables ≡ false)
rest_is rules tables i e =
    let w = and-true (bit i rules) (not (bit i tables)) (sym (bit-less i rules tables) ∙ e) in
    (w.0, not-true (bit i tables) w.1)

rest_so : (rules tables i : ℕ) → bit i rules ≡ true → bit i tables ≡ false → bit i (less rules tables) ≡ true
rest_so rules tables i r t = bit-less i rules tables
    ∙ and_intro (bit i rules) (not (bit i tables)) r (ap not t)

-- one with a table is not one of these
rest_not : (rules tables i : ℕ) → bit i tables ≡ true → bit i (less rules tables) ≡ false
rest_not rules tables i e = bit-less i rules tables
    ∙ ap (λ (b : Bool). bit i rules && not b) e ∙ and-false (bit i rules)

at : (c : In-Some) → Turn (less c.args.rules c.args.tables) c.loop-c.yielded c.in-Some.c
at c = turn c.loop-c.c-iterator (cc) c.loop-c.yielded_by c.in-Some.ensures.steps

pub overflow_sub-rest : goal.overflow_sub-rest
overflow_sub-rest c = and_le_l c.args.rules _

pub loop-c-init : goal.loop-c-init
loop-c-init c = ((λ i h. refl), λ i e. absurd (false≢true e))

pub first_sharing-requires : goal.first_sharing-requires
first_sharing-requires c =
    let p = c.requires in
    let t = at (goal.at.first_sharing-requires c).In-Some in
    let h = rest_is c.args.rules c.args.tables c.in-Some.c t.own in
    let w = p.0 c.in-Some.c h.0 in
    ((λ i e. p.0 i (p.3.some i e)), w.0, w.1, p.1)

pub bounds-first-c : goal.bounds-first-c
bounds-first-c c =
    omega (arith, (at (goal.at.bounds-first-c c).In-Some).low, c.loop-c.auto.first, c.requires.2)

pub loop-c-preserved-in-Some-first_sharing : goal.loop-c-preserved-in-Some-first_sharing
loop-c-preserved-in-Some-first_sharing c =
    let t = at (goal.at.loop-c-preserved-in-Some-first_sharing c).In-Some in
    let l = c.loop-c in
    let a = c.args in
    let body = a.body.now in
    let right = a.right.now in
    let rest = less a.rules a.tables in
    let r = c.in-Some.c in
    let d = c.in-Some-first_sharing.d in
    let new = set l.first r (get_or l.first d 0) in
    let found = c.in-Some-first_sharing.ensures in
    let h = rest_is a.rules a.tables r t.own in
    let room : r < length l.first = omega (arith, t.low, l.auto.first, c.requires.2) in (
      (λ i e. start_still body right a.tables r d l.first new h.1 found.0 room refl i
          (λ q. true≢false (sym t.own ∙ ap (λ (n : ℕ). bit n rest) (sym q) ∙ e)) ∙ l.invariant.0 i e),
      (λ i e. cases (eqb i r)
          (λ y. subst (λ (n : ℕ). (k : ℕ) × UsesTable body right new a.tables n k) (sym (true_eq i r y))
          (d, uses_new body right a.tables r d l.first new h.1 found.0 room refl found.1))
          (λ n. let v = l.invariant.1 i (or_cases (among i l.yielded) (eqb i r)
          (sym (among_more i r l.yielded) ∙ e) (λ y. y) (λ y. absurd (true≢false (sym y ∙ n)))) in (
            v.0,
            uses_still body right a.tables r d l.first new h.1 found.0 room refl i v.0
                (false_eq i r n) v.1,
          ))),
    )

pub loop-c-preserved : goal.loop-c-preserved
loop-c-preserved c =
    let t = at (goal.at.loop-c-preserved c).In-Some in
    let r = c.in-Some.c in
    let y = c.requires.3.enough r (rest_is c.args.rules c.args.tables r t.own).0 in
    absurd (c.in_default.ensures y.0 y.1 y.2)

pub returns : goal.returns
returns c =
    let l = c.loop-c in
    let a = c.args in
    let rest = less a.rules a.tables in (
      (λ i e. cases (bit i a.tables)
          (λ t. (
            i,
            record { there = t; shares = shares_self a.body.now a.right.now i; start = refl },
          ))
          (λ t. l.invariant.1 i (among_all i rest l.yielded (omega arith)
          (finished l.c-iterator (cc) l.yielded_by c.in-None.ensures.steps) ∙ rest_so a.rules a.tables i e t))),
      (λ i t. l.invariant.0 i (rest_not a.rules a.tables i t)),
      l.auto.first,
    )

-- A round over the base: what was granted at its times goes in between the pieces of what was granted before.
-- The base is walked in its order with a place in the body that runs along, so that the body stands in that
-- order too.
use mathlib.Core.Path.{◌≡◌, refl, sym, ap, ◌∙◌, fun_ext}
use mathlib.Core.Logic.{inl, inr}
use Prim.Native.Nat.{ℕ, suc, ◌+◌, ◌≤◌, ◌<◌}
use native.Mathlib.Omega.{arith}
use mathlib.Core.Bool.{Bool, true, false, ◌&&◌, ◌||◌, false≢true}
use mathlib.Core.List.{List, [], ◌∷◌, ◌++◌, append_assoc}
use lib.Dec.{ltb}
use lib.ListN.{length, drop, length-append}
use lib.Seq.{take_at, drop_at}
use Rattle.foundation.specs.Tests.{cases, le-true, le-false, true-le, false-le, and-false}
use Rattle.foundation.specs.Lists.{Mem, any_cong_mem, placed, any_append}
use Rattle.foundation.specs.Intervals.{maximal}
use Rattle.model.specs.declared.Head.{Head}
use Rattle.model.specs.declared.Authorization.{Authorization}
use Rattle.model.specs.Support.{live}
use Rattle.model.proofs.SupportFacts.{live-mem}
use Rattle.model.specs.Withdrawal.{pieces, keep}
use Rattle.laws.specs.KeepFacts.{Sorted}
use Rattle.cover.specs.Cover.{want_of, wanted, covers, covered_by}
use Rattle.pieces.specs.declared.cut.Cut.{Cut}
use Rattle.pieces.proofs.StretchFacts.{in_stretch_lem, stretch-true}
use Rattle.withdrawal.proofs.StayFacts.{left, keep_nil, keep_cons, covered-keep, stays_step}
use Rattle.withdrawal.proofs.StayFacts.{left_before, left_after, covered-up_to, up_to_fewer}
use Rattle.pieces.proofs.PartFacts.{wanted-before, parts_left}
use Rattle.withdrawal.specs.Stays.{stays, until_instant}
use Rattle.pieces.specs.Cuts.{spared, CutOrdered, behind_all, taken_of}
use Rattle.pieces.proofs.BodyFacts.{placed_none}
use Rattle.pieces.specs.CutParts.{parts_of}
use Rattle.withdrawal.specs.RoundTurns.{piece_of, leading, in_of, by_of}
use Rattle.withdrawal.proofs.TurnFacts.{leading_left}
use Rattle.withdrawal.specs.Times.{among, InTime}
use Rattle.withdrawal.specs.WithdrawalRounds.{stayed}

-- ---- the state of a round

-- The authorizations ys of the base are still to come. What stands before `pos` of the body stays, and behind
-- it stands what `before` leaves of ys. With what `after` leaves of them instead, it is what the round makes.
pub record Round (after before : Head → ℕ → Bool) (xs ys os : List Authorization) (pos : ℕ) : Type 0 where
  pub front : List Authorization
  pub is : os ≡ front ++ keep before ys
  pub long : length front ≡ pos
  pub final : front ++ keep after ys ≡ keep after xs

module _ (after before : Head → ℕ → Bool) (xs : List Authorization) where
  pub round-start : (os : List Authorization) → os ≡ keep before xs → Round after before xs xs os 0
  round-start os e = record { front = []; is = e; long = refl; final = refl }

  pub round-end : (os : List Authorization) (pos : ℕ) → Round after before xs [] os pos → os ≡ keep after xs
  round-end os pos r =
      r.is ∙ ap (λ (x : List Authorization). r.front ++ x) (keep_nil before ∙ sym (keep_nil after))
      ∙ r.final

  module _ (ys os : List Authorization) (pos : ℕ) where
    pub round-drop : Round after before xs ys os pos → drop pos os ≡ keep before ys
    round-drop r = ap (drop pos) r.is ∙ drop_at r.front (keep before ys) pos r.long

    pub round-pos : Round after before xs ys os pos → pos ≤ length os
    round-pos r = omega (
      arith,
      r.long,
      ap (λ (x : List Authorization). length x) r.is,
      length-append r.front (keep before ys),
    )

    module _ (a : Authorization) (r : Round after before xs (a ∷ ys) os pos) where
      -- one of which nothing was in goes in
      round_in : (ps : List Authorization) → left before a ≡ [] → ps ≡ left after a →
          Round after before xs ys (placed pos ps os) (pos + length ps)
      unfolding placed
      round_in ps e f =
          let q : os ≡ r.front ++ keep before ys =
          r.is ∙ ap (λ (x : List Authorization). r.front ++ x)
          (keep_cons before a ys ∙ ap (λ (x : List Authorization). x ++ keep before ys) e) in
          record {
            front = r.front ++ ps;
            is = rw (
              q,
              take_at r.front (keep before ys) pos r.long,
              drop_at r.front (keep before ys) pos r.long,
            ) (sym (append_assoc r.front ps (keep before ys)));
            long = length-append r.front ps ∙ ap (λ (n : ℕ). n + length ps) r.long;
            final = append_assoc r.front ps (keep after ys)
                ∙ ap (λ (x : List Authorization). r.front ++ (x ++ keep after ys)) f
                ∙ ap (λ (x : List Authorization). r.front ++ x) (sym (keep_cons after a ys))
                ∙ r.final;
          }

      -- one that the round does not change is passed over
      round_by : left after a ≡ left before a → Round after before xs ys os (pos + length (left before a))
      round_by e = record {
        front = r.front ++ left before a;
        is = r.is
            ∙ ap (λ (x : List Authorization). r.front ++ x) (keep_cons before a ys)
            ∙ sym (append_assoc r.front (left before a) (keep before ys));
        long = length-append r.front (left before a)
            ∙ ap (λ (n : ℕ). n + length (left before a)) r.long;
        final = append_assoc r.front (left before a) (keep after ys)
            ∙ ap (λ (x : List Authorization). r.front ++ (x ++ keep after ys)) (sym e)
            ∙ ap (λ (x : List Authorization). r.front ++ x) (sym (keep_cons after a ys))
            ∙ r.final;
      }

-- ---- a turn

module _ (root : Head → Bool) (c : Cut) (xs : List Authorization) (T U : ℕ) (o : T ≤ U) (h : CutOrdered c)
    (a : Authorization) (fits : a.interval.end < behind_all) (ys os : List Authorization) (pos : ℕ)
    (s : Sorted (a ∷ ys)) (v : InTime T U (a ∷ ys))
    (r : Round (stayed root c xs U) (stayed root c xs T) xs (a ∷ ys) os pos) where
  -- what stays in the end
  abbrev stay : Head → ℕ → Bool
  stay = stays root (spared c) xs

  module _ (e : among T U a ≡ true) where
    -- of what is still to come, nothing supports a
    covered_time : (t : ℕ) → covered_by (want_of a.head) (keep (until_instant T stay) (a ∷ ys)) t
        ≡ covered_by (want_of a.head) (keep (until_instant U stay) (a ∷ ys)) t
    covered_time t =
        covered-keep (want_of a.head) (until_instant T stay) (a ∷ ys) t
        ∙ any_cong_mem _ _ (live t (a ∷ ys)) one
        ∙ sym (covered-keep (want_of a.head) (until_instant U stay) (a ∷ ys) t)
      where
        i : (T ≤ a.head.granted) × (a.head.granted < U)
        i = stretch-true T U a.head.granted e

        -- it would be of the round, granted before a, and stand behind it
        never : (x : Authorization) → Mem x (a ∷ ys) → T ≤ x.head.granted →
            x.head.granted < a.head.granted → ⊥
        never x (inl q) p z = omega (arith, ap (λ (y : Authorization). y.head.granted) q)
        never x (inr m) p z =
            omega (arith, v.0 e x m (in_stretch_lem T U x.head.granted p (omega (arith, i))))

        one : (k : Head) → Mem k (live t (a ∷ ys)) →
            until_instant T stay k t && wanted (want_of a.head) k ≡ until_instant U stay k t
            && wanted (want_of a.head) k
        one k m = cases (wanted (want_of a.head) k)
            (λ z. let y = wanted-before (want_of a.head) k z in cases (ltb k.granted T)
            (λ x. let x' = true-le (suc k.granted) T x in
            rw (x, le-true (suc k.granted) U (omega arith)))
            (λ x. let x' = false-le (suc k.granted) T x in
            let w = live-mem t (a ∷ ys) k m in
            let g = ap (λ (y : Head). y.granted) w.2 in
            absurd (never w.0 w.1 (omega arith) (omega arith))))
            (λ z. rw z (and-false (until_instant T stay k t) ∙ sym (and-false (until_instant U stay k t))))

    -- all that can support a is in the body
    covered-body : (t : ℕ) → covered_by (want_of a.head) os t ≡ covered_by (want_of a.head) (keep stay xs) t
    covered-body t =
        let w = want_of a.head in
        let i = stretch-true T U a.head.granted e in
        ap (λ (x : List Authorization). covered_by w x t) r.is
        ∙ any_append (covers w t) r.front (keep (until_instant T stay) (a ∷ ys))
        ∙ ap (λ (b : Bool). covered_by w r.front t || b) (covered_time t)
        ∙ sym (any_append (covers w t) r.front (keep (until_instant U stay) (a ∷ ys)))
        ∙ ap (λ (x : List Authorization). covered_by w x t) r.final
        ∙ covered-up_to stay w U xs t (omega arith)

    -- so what goes in is what stays of it
    parts_stay : parts_of (taken_of c a.head) (root a.head) os a ≡ left (until_instant U stay) a
    unfolding left
    parts_stay =
        let i = stretch-true T U a.head.granted e in
        parts_left c (root a.head) os a h fits
        ∙ ap (λ (f : ℕ → Bool). pieces a.head (maximal a.interval.start a.interval.end f))
        (fun_ext (λ t. ap (λ (b : Bool). spared c a.head t && (root a.head || b)) (covered-body t)
        ∙ sym (stays_step root (spared c) xs a.head t)))
        ∙ sym (left_before stay U a i.1)

  -- the round after the turn
  pub round-turn : Round (until_instant U stay) (until_instant T stay) xs ys
      (placed pos (in_of c T U (root a.head) os a) os)
      (pos + length (in_of c T U (root a.head) os a) + by_of T a (drop pos os))
  round-turn = cases (among T U a)
      (λ e. let i = stretch-true T U a.head.granted e in
      let ps = parts_of (taken_of c a.head) (root a.head) os a in
      let n : pos + length ps + 0 ≡ pos + length ps = omega arith in
      rw (e, le-false (suc a.head.granted) T (omega arith), n)
      (round_in (until_instant U stay) (until_instant T stay) xs ys os pos a r ps
      (left_after stay T a (omega arith))
      (parts_stay e)))
      (λ e. cases (ltb a.head.granted T)
      (λ f. let y = true-le (suc a.head.granted) T f in
      let d = round-drop (until_instant U stay) (until_instant T stay) xs (a ∷ ys) os pos r
      ∙ keep_cons (until_instant T stay) a ys in
      let n : pos + 0 + leading (piece_of a) (drop pos os) ≡ pos + length (left (until_instant T stay) a) =
      omega (arith, ap (leading (piece_of a)) d ∙ leading_left (until_instant T stay) a ys s.0) in
      rw (e, f, placed_none pos os, n) (round_by (until_instant U stay) (until_instant T stay) xs ys os pos a r
      (left_before stay U a (omega arith) ∙ sym (left_before stay T a y))))
      (λ f. let y = false-le (suc a.head.granted) T f in
      let g : left (until_instant T stay) a ≡ [] = left_after stay T a (omega arith) in
      let n : pos + 0 + 0 ≡ pos + length (left (until_instant T stay) a) =
      omega (arith, ap (λ (x : List Authorization). length x) g) in
      rw (e, f, placed_none pos os, n) (round_by (until_instant U stay) (until_instant T stay) xs ys os pos a r
      (left_after stay U a (beyond e (omega arith)) ∙ sym g))))
    where
      beyond : among T U a ≡ false → T ≤ a.head.granted → U ≤ a.head.granted
      beyond e z = cases (ltb a.head.granted U)
          (λ x. let x' = true-le (suc a.head.granted) U x in
          absurd (false≢true (sym e ∙ in_stretch_lem T U a.head.granted z x')))
          (λ x. let x' = false-le (suc a.head.granted) U x in omega arith)

  -- too many by stay are too many in the end
  pub round-full : 1024 < length (placed pos (in_of c T U (root a.head) os a) os) →
      1024 < length (keep (until_instant U stay) xs)
  round-full f =
      let w = round-turn in
      let n = ap (λ (x : List Authorization). length x) w.is in
      let m = ap (λ (x : List Authorization). length x) w.final in
      let l = up_to_fewer stay T (until_instant U stay) ys (λ k q. left_before stay U k (omega arith)) in
      omega (
        arith,
        n,
        m,
        l,
        length-append w.front (keep (until_instant T stay) ys),
        length-append w.front (keep (until_instant U stay) ys),
      )

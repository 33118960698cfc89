-- A round's walk over the base: the state between two turns, and how it goes on. Then what the rounds
-- together make.
use mathlib.Core.Path.{◌≡◌, refl, sym, ap, ◌∙◌, subst}
use Prim.Native.Nat.{ℕ, ◌+◌, ◌≤◌, ◌<◌}
use native.Mathlib.Omega.{arith}
use mathlib.Core.Bool.{Bool, true}
use mathlib.Core.List.{List, [], ◌∷◌}
use lib.ListN.{length, drop}
use Rattle.foundation.specs.Lists.{Mem, placed}
use Rattle.model.specs.declared.Head.{Head}
use Rattle.model.specs.declared.Authorization.{Authorization}
use Rattle.model.specs.Withdrawal.{keep, restrict}
use Rattle.laws.specs.KeepFacts.{Sorted}
use Rattle.pieces.specs.declared.cut.Cut.{Cut}
use Rattle.withdrawal.specs.Stays.{stays}
use Rattle.withdrawal.proofs.StayFacts.{restricted, up_to_none, up_to_all, up_to_fewer}
use Rattle.pieces.specs.Cuts.{spared, CutOrdered, behind_all}
use Rattle.withdrawal.specs.Times.{InTime}
use Rattle.withdrawal.specs.RoundTurns.{in_of, by_of}
use Rattle.withdrawal.proofs.RoundFacts.{Round, round-start, round-end, round-pos, round-turn}
use Rattle.withdrawal.proofs.RoundFacts.{round-full}
use Rattle.withdrawal.specs.WithdrawalRounds.{stayed, stayers}

module _ (root : Head → Bool) (c : Cut) (xs : List Authorization) (T U : ℕ) where
  abbrev Midway : List Authorization → List Authorization → ℕ → Type 0
  Midway ys os pos = Round (stayed root c xs U) (stayed root c xs T) xs ys os pos

  -- the authorizations ys of the base are still to come, and the body os has come to the place pos
  pub record RoundAt (ys os : List Authorization) (pos : ℕ) : Type 0 where
    pub order : Sorted ys
    pub times : InTime T U ys
    pub round : Midway ys os pos

  pub walk_start : (os : List Authorization) → Sorted xs → InTime T U xs → os ≡ stayers root c xs T →
      RoundAt xs os 0
  walk_start os s t b = record {
    order = s;
    times = t;
    round = round-start (stayed root c xs U) (stayed root c xs T) xs os b;
  }

  module _ (ys os : List Authorization) (pos : ℕ) (w : RoundAt ys os pos) where
    pub walk-pos : pos ≤ length os
    walk-pos = round-pos (stayed root c xs U) (stayed root c xs T) xs ys os pos w.round

    pub walk_end : ys ≡ [] → os ≡ stayers root c xs U
    walk_end e =
        let r = subst (λ (y : List Authorization). Midway y os pos) e w.round in
        round-end (stayed root c xs U) (stayed root c xs T) xs os pos r

    -- a turn
    module _ (o : T ≤ U) (h : CutOrdered c) (a : Authorization) (fits : a.interval.end < behind_all)
        (rest : List Authorization) (e : ys ≡ a ∷ rest) where
      abbrev ps : List Authorization
      ps = in_of c T U (root a.head) os a

      order' : Sorted (a ∷ rest)
      order' = subst Sorted e w.order

      times' : InTime T U (a ∷ rest)
      times' = subst (InTime T U) e w.times

      round' : Midway (a ∷ rest) os pos
      round' = subst (λ (y : List Authorization). Midway y os pos) e w.round

      pub walk_next : (os' : List Authorization) (p : ℕ) →
          (os' ≡ placed pos ps os) × (p ≡ pos + length ps + by_of T a (drop pos os)) → RoundAt rest os' p
      walk_next os' p t = record {
        order = order'.1;
        times = times'.1;
        round = subst (λ (x : List Authorization × ℕ). Midway rest x.0 x.1)
            (λ i. (sym t.0 i, sym t.1 i))
            (round-turn root c xs T U o h a fits rest os pos order' times' round');
      }

      pub walk-full : 1024 < length (placed pos ps os) → 1024 < length (stayers root c xs U)
      walk-full f = round-full root c xs T U o h a fits rest os pos order' times' round' f

-- ---- all rounds

module _ (root : Head → Bool) (c : Cut) (xs : List Authorization) where
  abbrev left : List Authorization
  left = restrict root (λ h. true) (keep (spared c) xs)

  -- before the first
  pub rounds-start : [] ≡ stayers root c xs 0
  rounds-start = sym (up_to_none (stays root (spared c) xs) xs)

  -- behind the last
  pub rounds-end : (T : ℕ) (os : List Authorization) → ((a : Authorization) → Mem a xs → a.head.granted < T) →
      os ≡ stayers root c xs T → os ≡ left
  rounds-end T os h b = b ∙ up_to_all (stays root (spared c) xs) T xs h ∙ sym (restricted root (spared c) xs)

  -- too many after a round are too many
  pub rounds-full : (T : ℕ) → 1024 < length (stayers root c xs T) → 1024 < length left
  rounds-full T f =
      let q = stays root (spared c) xs in
      omega (
        arith,
        f,
        up_to_fewer q T q xs (λ a l. refl),
        ap (λ (x : List Authorization). length x) (restricted root (spared c) xs),
      )

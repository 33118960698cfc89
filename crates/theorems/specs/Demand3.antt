-- DEMAND 3, in the order of the request's own words: `demand3`. The words `after`, `Given`, `Stands`,
-- `Behind` and `Survives` are in the model's Survival.
use Rattle.std.specs.Prelude.{◌≡◌, ◌↔◌, ℕ, suc, true, List, [], ◌∷◌, ◌++◌, length}
use Rattle.std.proofs.Common.{subst, ⊎_elim}
use Rattle.foundation.specs.Intervals.{in_interval-true}
use Rattle.model.specs.declared.Head.{Head}
use Rattle.model.specs.declared.Request.{Request}
use Rattle.model.specs.Base.{Base, empty_base}
use Rattle.model.specs.Means.{plainly}
use Rattle.model.specs.Step.{effect}
use Rattle.model.specs.Encoding.{decode}
use Rattle.model.specs.EncodingFacts.{empty_sound}
use Rattle.model.specs.Soundness.{sound_bytes}
use Rattle.model.specs.Ledger.{ledger, lines_of}
use Rattle.model.specs.Survival.{after, Given, Stands, Behind, Survives}
use Rattle.theorems.specs.LedgerLines.{ledger-lines}
use Rattle.theorems.specs.PlayFacts.{base_after, after-base, accepted-done}
use Rattle.theorems.specs.Remains.{Entered, stood_or_entered, head_gives, remains}
use Rattle.theorems.specs.Labels.{one_place}

-- what demand 3 says of a list of requests and the bytes s after it
pub record Demand3 (qs : List Request) (s : List ℕ) : Type 0 where
  -- "each instant of an accepted grant or denial remains exactly if its giver has neither taken it back nor
  -- lost the meter's administration since, and if after that and every later accepted request it had a chain
  -- behind it"; "what remains stands ... with its giver, receiver, meter, mode, sign, option and time": the
  -- head h
  pub instants : {earlier : List Request} {g : Request} {later : List Request} {h : Head} {t : ℕ} →
      Given qs earlier g later h t →
      let next = after (earlier ++ (g ∷ [])) in
      Stands (decode s) h t ↔ (Behind (decode next) h t × Survives h t later next)
  -- "in lines of its own label": a label has one place in the list
  pub own_label : {earlier earlier' : List Request} {g g' : Request} {later later' : List Request}
      {h h' : Head}
      {t t' : ℕ} →
      Given qs earlier g later h t → Given qs earlier' g' later' h' t' → h.label ≡ h'.label →
      (earlier ≡ earlier') × (g ≡ g') × (later ≡ later')
  -- the lines of a label are the longest runs of the instants that remain of it (01: the account)
  pub lines : (decode s).authorizations ≡ lines_of (ledger qs).entries
  -- "and the base is sound"
  pub base-sound : sound_bytes s ≡ true
  -- "and has no other lines": whatever stands was given by a request of the list (by one, as `own-label`
  -- says)
  pub no_other : {h : Head} {t : ℕ} → Stands (decode s) h t →
      (earlier : List Request) × (g : Request) × (later : List Request) × Given qs earlier g later h t

-- what stands after a list is given by it
gives_all : (qs : List Request) (h : Head) (t : ℕ) → Stands (decode (after qs)) h t →
    (earlier : List Request) × (g : Request) × (later : List Request) × Given qs earlier g later h t
gives_all qs h t m = ⊎_elim
    (λ n. absurd n.lower)
    (λ (w : Entered h t qs empty_base).
    let i = in_interval-true w.giving.interval t w.inside in (
      w.earlier,
      w.giving,
      w.later,
      record {
        place = w.place;
        label = suc (base_after w.earlier).last;
        count = length (effect plainly (base_after w.earlier) w.giving).authorizations;
        done = accepted-done w.earlier w.giving w.passes w.is_grant;
        gives = head_gives w.giving (suc (base_after w.earlier).last) h w.is_grant w.head;
        starts = i.0;
        ends = i.1;
      },
    ))
    (stood_or_entered h t qs empty_base empty_sound (subst (λ (b : Base). Stands b h t) (after-base qs) m))

-- DEMAND 3: for every list of requests, malformed or refused ones included, from an empty base
pub demand3 : (qs : List Request) → Demand3 qs (after qs)
demand3 qs = record {
  instants = λ {earlier} {g} {later} {h} {t} x. remains qs earlier g later h t x;
  own_label = λ {earlier} {earlier'} {g} {g'} {later} {later'} {h} {h'} {t} {t'} x y e.
      one_place qs earlier g later h t earlier' g' later' h' t' x y e;
  lines = (ledger-lines qs).1;
  base-sound = (ledger-lines qs).0;
  no_other = λ {h} {t} m. gives_all qs h t m;
}

-- What it means that authorizations are given to the tables: words stay sound (`lines-sound`) and have in
-- them what was given (`lines-in`). Empty words are sound (`blank-sound`).
use mathlib.Core.Path.{◌≡◌, refl, sym, ap, ◌∙◌, subst}
use mathlib.Core.Logic.{⊎_elim, inl, inr}
use mathlib.Core.Bool.{Bool, true, false, ◌&&◌, beq}
use mathlib.Core.List.{List}
use Prim.Native.Nat.{ℕ, zero, suc, ◌<◌}
use lib.Dec.{eqb}
use lib.ListN.{get_or}
use Rattle.foundation.specs.Tests.{eq_true, le-true}
use Rattle.foundation.specs.Lists.{Mem}
use Rattle.foundation.specs.Intervals.{in_interval}
use Rattle.foundation.specs.BitMasks.{as_bit, bit}
use Rattle.model.specs.declared.Access.{Access}
use Rattle.model.specs.declared.Authorization.{Authorization}
use Rattle.model.specs.declared.Head.{Head}
use Rattle.model.specs.declared.Pattern.{Pattern}
use Rattle.model.specs.Stratification.{fits_option}
use Rattle.model.specs.Rules.{fits, fits_grantor}
use Rattle.model.proofs.SideFacts.{fits_eq}
use Rattle.laws.specs.Narrowing.{access_of}
use Rattle.encoding.specs.Format.{rule_at}
use Rattle.words.specs.Fields.{field_of}
use Rattle.places.specs.declared.Point.{Point}
use Rattle.tables.specs.TableLayout.{field_in, TablesLaid}
use Rattle.tables.proofs.FieldsApart.{field_below}
use Rattle.tables.specs.TableGiving.{tables_of, TablesGiven}
use Rattle.facts.specs.Facts.{fits_kind, fits_rule, taken_by, Setting, setting, place_in}
use Rattle.facts.specs.Facts.{LineStep, LineSteps, none, then}
use Rattle.derivation.proofs.Exact.{SoundWords, LineIn, none_sound}
use Rattle.derivation.proofs.Joined.{Joined, line_stays, line-sound, line_in_lem}
use Rattle.grounding.specs.RuleSteps.{pair_in}
use Rattle.grounding.specs.Meaning.{pat, Mapping, place_of, Kept, words_in, Placed}
use Rattle.grounding.proofs.MeaningFacts.{pat_on, given-joined}

-- ---- who takes an authorization

-- a pattern of its access fits it if sign, grantor and option do
own_fits : (p : Pattern) (h : Head) → p.access ≡ access_of h → fits p h
    ≡ beq h.negative p.negative && fits_grantor p.grantor h.grantor
    && fits_option p.option h.option
own_fits p h e = rw (
  fits_eq p h,
  eq_true h.subject p.access.subject (sym (ap (λ (x : Access). x.subject) e)),
  eq_true h.mode p.access.mode (sym (ap (λ (x : Access). x.mode) e)),
  eq_true h.object p.access.object (sym (ap (λ (x : Access). x.object) e)),
)

module _ (z : Mapping) (body : List ℕ)
    (rules : (c : ℕ) → bit c z.frame.tables ≡ true → z.rule c ≡ rule_at body c) where
  -- those tables whose pattern it fits
  takes-fits : (h : Head) (T : ℕ) → Kept z T (access_of h) →
      taken_by body z.frame.tables h T ≡ fits (pat z.rule T (access_of h)) h
  takes-fits h zero k = positive h.negative ∙ sym (own_fits (pat z.rule 0 (access_of h)) h refl)
    where
      positive : (b : Bool) → eqb 0 (as_bit b) ≡ beq b false && true && true
      positive true = refl
      positive false = refl
  takes-fits h (suc zero) k = negative h.negative ∙ sym (own_fits (pat z.rule 1 (access_of h)) h refl)
    where
      negative : (b : Bool) → eqb 1 (as_bit b) ≡ beq b true && true && true
      negative true = refl
      negative false = refl
  takes-fits h (suc (suc c)) k =
      let t : bit c z.frame.tables ≡ true = k.1.table in
      ap (λ (b : Bool). b && fits_rule body h c) t ∙ ap (fits_kind h) (sym (rules c t))
      ∙ sym (own_fits (pat z.rule (suc (suc c)) (access_of h)) h refl)

-- ---- a step

-- what the authorizations of a mapping are given by
abbrev pub setting_of : Mapping → List ℕ → Access → List ℕ → List ℕ → List ℕ → ℕ → Setting
setting_of z body asked subjects objects marks count =
    setting body asked subjects objects z.number marks count z.frame z.right z.first

-- an authorization matters, and is given where its access is
pub record LineAt (z : Mapping) (e : Setting) (a : Authorization) : Type 0 where
  pub matters : z.matters (access_of a.head) ≡ true
  pub point : (place_in e a.head).point ≡ z.point (access_of a.head)

module _ (z : Mapping) (placed : Placed z) (body : List ℕ) (asked : Access) (subjects objects marks : List ℕ)
    (count : ℕ) (rules : (c : ℕ) → bit c z.frame.tables ≡ true → z.rule c ≡ rule_at body c) where
  abbrev by : Setting
  by = setting_of z body asked subjects objects marks count

  abbrev instant : ℕ → ℕ
  instant i = get_or marks i 0

  abbrev patterns : ℕ → Access → Pattern
  patterns = pat z.rule

  abbrev Sound : List ℕ → Type 0
  Sound w = SoundWords z.base count instant patterns (Kept z) (words_in z w)

  abbrev In : List ℕ → Authorization → Type 0
  In w = LineIn z.base count instant patterns (Kept z) (words_in z w)

  module _ (a : Authorization) (at : LineAt z by a) (old new : List ℕ)
      (step : LineStep by a old new) where
    abbrev access : Access
    access = access_of a.head

    abbrev taken : ℕ → Bool
    taken T = fits (patterns T access) a.head

    line-joined : Joined (Kept z) (words_in z old) (words_in z new) taken access step.value
    line-joined = given-joined z placed access at.matters (taken_by body z.frame.tables a.head)
        step.value old new taken (takes-fits z body rules a.head)
        (subst (λ (p : Point). TablesGiven (tables_of z.frame z.right z.first) z.frame.width
        (get_or z.number (pair_in z.frame.grid p) 0) p (taken_by body z.frame.tables a.head)
        step.value old new) at.point step.given)

    line_instants : (i : ℕ) → i < count → bit i step.value ≡ in_interval a.interval (instant i)
    line_instants i h = step.instants i
        ∙ ap (λ (b : Bool). b && in_interval a.interval (instant i)) (le-true (suc i) count h)

    step-sound : Mem a z.base.authorizations → Sound old → Sound new
    step-sound = line-sound z.base count instant patterns (pat_on z.rule) (Kept z) (words_in z old)
        (words_in z new) a access step.value line-joined line_instants

    step_in : In new a
    step_in = line_in_lem z.base count instant patterns (pat_on z.rule) (Kept z) (words_in z old)
        (words_in z new) a access step.value line-joined line_instants refl

    step_stays : (b : Authorization) → In old b → In new b
    step_stays = line_stays z.base count instant patterns (pat_on z.rule) (Kept z) (words_in z old)
        (words_in z new) taken access step.value line-joined

  -- ---- a row of steps

  -- authorizations of the base that can be given
  abbrev All : List Authorization → Type 0
  All l = (a : Authorization) → Mem a l → Mem a z.base.authorizations × LineAt z by a

  -- the words stay sound
  pub lines-sound : {l : List Authorization} {u w : List ℕ} → LineSteps by l u w → All l → Sound u → Sound w
  lines-sound none all s = s
  lines-sound {u = u} (then {a = a} {v = v} step rest) all s =
      let h = all a (inl refl) in
      lines-sound rest (λ b m. all b (inr m)) (step-sound a h.1 u v step h.0 s)

  lines_stay : {l : List Authorization} {u w : List ℕ} → LineSteps by l u w → All l → (b : Authorization) →
      In u b → In w b
  lines_stay none all b i = i
  lines_stay {u = u} (then {a = a} {v = v} step rest) all b i =
      lines_stay rest (λ d m. all d (inr m)) b (step_stays a (all a (inl refl)).1 u v step b i)

  -- and have those in them that are given
  pub lines_in : {l : List Authorization} {u w : List ℕ} → LineSteps by l u w → All l → (b : Authorization) →
      Mem b l → In w b
  lines_in none all b m = absurd m.lower
  lines_in {w = w} (then {a = a} {rest = tail} {u = u} {v = v} step rest) all b m =
      let left : All tail = λ d n. all d (inr n) in
      ⊎_elim
      (λ q. subst (In w) (sym q) (lines_stay rest left a (step_in a (all a (inl refl)).1 u v step)))
      (λ n. lines_in rest left b n) m

  -- words that are empty say nothing wrong
  pub blank-sound : (w : List ℕ) → TablesLaid (tables_of z.frame z.right z.first) 0
      z.frame.fields →
      ((i : ℕ) → i < z.frame.fields → field_of z.frame.width w i ≡ 0) → Sound w
  blank-sound w laid empty =
      let t = tables_of z.frame z.right z.first in
      none_sound z.base count instant patterns (Kept z) (words_in z w) (λ T x k.
      empty (field_in t T (place_of z x).pair (z.point x))
      (field_below t 0 z.frame.fields laid T (place_of z x).pair (z.point x) k.1))

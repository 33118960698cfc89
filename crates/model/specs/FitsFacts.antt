-- Each field of a base in its ranges fits the bytes that it is written in: `base-fits`, with a record for
-- what each part says.
use Rattle.std.specs.Prelude.{◌≡◌, refl, ℕ, ◌^◌, ◌≤◌, ◌<◌, Bool, true, List, [], ◌∷◌, leb, length}
use Rattle.std.proofs.Common.{inl, inr, arith}
use Rattle.foundation.specs.Tests.{and-true, or_cases, true-le, true_eq}
use Rattle.foundation.specs.Lists.{allb, Mem, all_mem, conjunct}
use Rattle.foundation.specs.declared.Interval.{Interval}
use Rattle.model.specs.declared.Privilege.{Privilege}
use Rattle.model.specs.declared.Authorization.{Authorization}
use Rattle.model.specs.declared.Side.{Side}
use Rattle.model.specs.declared.Rule.{Rule}
use Rattle.model.specs.Ranges.{between, is_instant, is_subject, is_object, is_mode, is_label, last_instant}
use Rattle.model.specs.Ranges.{last_label}
use Rattle.model.specs.Ranges.{most_objects, most_administrators, most_referrers, most_authorizations}
use Rattle.model.specs.Ranges.{most_rules}
use Rattle.model.specs.Base.{Base}
use Rattle.model.specs.Stratification.{is_star}
use Rattle.model.specs.Step.{counts_hold}
use Rattle.model.specs.Soundness.{privilege_in, interval_in, authorization_in, or_star, side_in, rule_in}
use Rattle.model.specs.Soundness.{sound}
use Rattle.model.specs.SoundnessFacts.{sound_tests_lem}
use Rattle.model.specs.SoundTests.{ranges_test}

-- a number in a range is at most its highest,
pub at_most : (lowest highest n : ℕ) → between lowest highest n ≡ true → n ≤ highest
at_most lowest highest n e = true-le n highest (and-true (leb lowest n) (leb n highest) e).1

-- and below a bound that lies above
below : (lowest most bound n : ℕ) → most < bound → between lowest most n ≡ true → n < bound
below lowest most bound n h e = omega (arith, at_most lowest most n e)

instant-fits : (n : ℕ) → is_instant n ≡ true → n < 256 ^ 4
instant-fits n e = omega (arith, true-le n last_instant e)

label-fits : (n : ℕ) → is_label n ≡ true → n < 256 ^ 2
label-fits n = below 1 last_label (256 ^ 2) n (omega arith)

pub subject-fits : (n : ℕ) → is_subject n ≡ true → n < 256 ^ 2
subject-fits n = below 1 1023 (256 ^ 2) n (omega arith)

pub object-fits : (n : ℕ) → is_object n ≡ true → n < 256 ^ 2
object-fits n = below 1 128 (256 ^ 2) n (omega arith)

-- a mode is written as the byte that it is
mode-fits : (n : ℕ) → is_mode n ≡ true → n < 256
mode-fits n = below 1 8 256 n (omega arith)

-- where the numbers of a range fit, so does the star
or_star_lem : (range : ℕ → Bool) (bound n : ℕ) → 0 < bound → (range n ≡ true → n < bound) →
    or_star range n ≡ true →
    n < bound
or_star_lem range bound n h f e = or_cases (is_star n) (range n) e (λ z. omega (arith, true_eq n 0 z)) f

subject-or_star-fits : (n : ℕ) → or_star is_subject n ≡ true → n < 256 ^ 2
subject-or_star-fits n = or_star_lem is_subject (256 ^ 2) n (omega arith) (subject-fits n)

object-or_star-fits : (n : ℕ) → or_star is_object n ≡ true → n < 256 ^ 2
object-or_star-fits n = or_star_lem is_object (256 ^ 2) n (omega arith) (object-fits n)

mode-or_star-fits : (n : ℕ) → or_star is_mode n ≡ true → n < 256
mode-or_star-fits n = or_star_lem is_mode 256 n (omega arith) (mode-fits n)

pub record PrivilegeFits (p : Privilege) : Type 0 where
  pub object : p.object < 256 ^ 2
  pub subject : p.subject < 256 ^ 2

privilege-fits : (p : Privilege) → privilege_in p ≡ true → PrivilegeFits p
privilege-fits p e =
    let t = and-true (is_object p.object) (is_subject p.subject) e in
    record { object = object-fits p.object t.0; subject = subject-fits p.subject t.1 }

pub record IntervalFits (i : Interval) : Type 0 where
  pub start : i.start < 256 ^ 4
  pub end : i.end < 256 ^ 4

interval-fits : (i : Interval) → interval_in i ≡ true → IntervalFits i
interval-fits i e =
    let t = and-true (is_instant i.start) (is_instant i.end) e in
    record { start = instant-fits i.start t.0; end = instant-fits i.end t.1 }

pub record AuthorizationFits (a : Authorization) : Type 0 where
  pub label : a.head.label < 256 ^ 2
  pub grantor : a.head.grantor < 256 ^ 2
  pub subject : a.head.subject < 256 ^ 2
  pub object : a.head.object < 256 ^ 2
  pub mode : a.head.mode < 256
  pub granted : a.head.granted < 256 ^ 4
  pub interval : IntervalFits a.interval

authorization-fits : (a : Authorization) → authorization_in a ≡ true → AuthorizationFits a
authorization-fits a e =
    let h = a.head in
    let t = conjunct (is_label h.label ∷ is_subject h.grantor ∷ is_subject h.subject
    ∷ is_object h.object
    ∷ is_mode h.mode ∷ is_instant h.granted ∷ interval_in a.interval ∷ []) e in
    record {
      label = label-fits h.label (t _ (inl refl));
      grantor = subject-fits h.grantor (t _ (inr (inl refl)));
      subject = subject-fits h.subject (t _ (inr (inr (inl refl))));
      object = object-fits h.object (t _ (inr (inr (inr (inl refl)))));
      mode = mode-fits h.mode (t _ (inr (inr (inr (inr (inl refl))))));
      granted = instant-fits h.granted (t _ (inr (inr (inr (inr (inr (inl refl)))))));
      interval = interval-fits a.interval (t _ (inr (inr (inr (inr (inr (inr (inl refl))))))));
    }

pub record SideFits (s : Side) : Type 0 where
  pub subject : s.subject < 256 ^ 2
  pub mode : s.mode < 256
  pub object : s.object < 256 ^ 2

side-fits : (s : Side) → side_in s ≡ true → SideFits s
side-fits s e =
    let t = conjunct (or_star is_subject s.subject ∷ or_star is_mode s.mode ∷ or_star is_object s.object
    ∷ []) e in
    record {
      subject = subject-or_star-fits s.subject (t _ (inl refl));
      mode = mode-or_star-fits s.mode (t _ (inr (inl refl)));
      object = object-or_star-fits s.object (t _ (inr (inr (inl refl))));
    }

pub record RuleFits (r : Rule) : Type 0 where
  pub label : r.label < 256 ^ 2
  pub author : r.author < 256 ^ 2
  pub left : SideFits r.left
  pub right : SideFits r.right
  pub grantor : r.grantor < 256 ^ 2
  pub interval : IntervalFits r.interval

pub rule_fits : (r : Rule) → rule_in r ≡ true → RuleFits r
rule_fits r e =
    let t = conjunct (is_label r.label ∷ is_subject r.author ∷ side_in r.left ∷ side_in r.right
    ∷ or_star is_subject r.grantor ∷ interval_in r.interval ∷ []) e in
    record {
      label = label-fits r.label (t _ (inl refl));
      author = subject-fits r.author (t _ (inr (inl refl)));
      left = side-fits r.left (t _ (inr (inr (inl refl))));
      right = side-fits r.right (t _ (inr (inr (inr (inl refl)))));
      grantor = subject-or_star-fits r.grantor (t _ (inr (inr (inr (inr (inl refl))))));
      interval = interval-fits r.interval (t _ (inr (inr (inr (inr (inr (inl refl)))))));
    }

pub record CountsFit (b : Base) : Type 0 where
  pub objects : length b.objects ≤ most_objects
  pub administrators : length b.administrators ≤ most_administrators
  pub referrers : length b.referrers ≤ most_referrers
  pub authorizations : length b.authorizations ≤ most_authorizations
  pub rules : length b.rules ≤ most_rules

pub counts_fit_lem : (b : Base) → counts_hold b ≡ true → CountsFit b
counts_fit_lem b e =
    let t = conjunct (leb (length b.objects) most_objects
    ∷ leb (length b.administrators) most_administrators
    ∷ leb (length b.referrers) most_referrers ∷ leb (length b.authorizations) most_authorizations
    ∷ leb (length b.rules) most_rules ∷ []) e in
    record {
      objects = true-le (length b.objects) most_objects (t _ (inl refl));
      administrators = true-le (length b.administrators) most_administrators (t _ (inr (inl refl)));
      referrers = true-le (length b.referrers) most_referrers (t _ (inr (inr (inl refl))));
      authorizations = true-le (length b.authorizations) most_authorizations
          (t _ (inr (inr (inr (inl refl)))));
      rules = true-le (length b.rules) most_rules (t _ (inr (inr (inr (inr (inl refl))))));
    }

pub record BaseFits (b : Base) : Type 0 where
  pub counts : CountsFit b
  pub clock : b.clock < 256 ^ 4
  pub last : b.last < 256 ^ 2
  pub objects : (p : Privilege) → Mem p b.objects → PrivilegeFits p
  pub administrators : (p : Privilege) → Mem p b.administrators → PrivilegeFits p
  pub referrers : (p : Privilege) → Mem p b.referrers → PrivilegeFits p
  pub authorizations : (a : Authorization) → Mem a b.authorizations → AuthorizationFits a
  pub rules : (r : Rule) → Mem r b.rules → RuleFits r

privileges_fit : (ps : List Privilege) → allb privilege_in ps ≡ true → (p : Privilege) → Mem p ps →
    PrivilegeFits p
privileges_fit ps e p m = privilege-fits p (all_mem privilege_in ps e p m)

pub base-fits : (b : Base) → sound b ≡ true → BaseFits b
base-fits b e =
    let s = sound_tests_lem b e in
    let t = ranges_test b s in
    record {
      counts = counts_fit_lem b s.counts;
      clock = instant-fits b.clock (t _ (inl refl));
      last = omega (arith, true-le b.last last_label (t _ (inr (inl refl))));
      objects = privileges_fit b.objects (t _ (inr (inr (inl refl))));
      administrators = privileges_fit b.administrators (t _ (inr (inr (inr (inl refl)))));
      referrers = privileges_fit b.referrers (t _ (inr (inr (inr (inr (inl refl))))));
      authorizations = λ a m. authorization-fits a
          (all_mem authorization_in b.authorizations (t _ (inr (inr (inr (inr (inr (inl refl))))))) a m);
      rules = λ r m. rule_fits r
          (all_mem rule_in b.rules (t _ (inr (inr (inr (inr (inr (inr (inl refl)))))))) r m);
    }

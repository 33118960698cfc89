-- When a base is sound (01, "The base as bytes": "A base is sound if all this holds and also: ...").
use Rattle.std.specs.Prelude.{ℕ, suc, Bool, true, not, ◌&&◌, ◌||◌, List, [], ◌∷◌, leb, ltb, eqb}
use Rattle.std.specs.Bool.{beq}
use Rattle.foundation.specs.Lists.{anyb, allb}
use Rattle.foundation.specs.Bytes.{eq_list}
use Rattle.foundation.specs.declared.Interval.{Interval}
use Rattle.foundation.specs.Intervals.{always}
use Rattle.model.specs.declared.Privilege.{Privilege}
use Rattle.model.specs.declared.Head.{Head}
use Rattle.model.specs.declared.Authorization.{Authorization}
use Rattle.model.specs.declared.Side.{Side}
use Rattle.model.specs.declared.Rule.{Rule}
use Rattle.model.specs.Ranges.{is_instant, is_subject, is_object, is_mode, is_label, last_label}
use Rattle.model.specs.Base.{Base, exists, owns, may_rule}
use Rattle.model.specs.Support.{supported_at}
use Rattle.model.specs.Stratification.{is_star, stratified}
use Rattle.model.specs.Requests.{before}
use Rattle.model.specs.Step.{counts_hold, option_fits}
use Rattle.model.specs.Encoding.{encode, decode}

-- each element and the next pass the test
abbrev pub chained : {A : Type 0} → (A → A → Bool) → List A → Bool
chained p [] = true
chained p (x ∷ []) = true
chained p (x ∷ y ∷ rest) = let r = chained p (y ∷ rest) in p x y && r

-- 01: "Lines rise by label, then start"
abbrev pub rises : Authorization → Authorization → Bool
rises a c =
    ltb a.head.label c.head.label
    || (eqb a.head.label c.head.label && ltb a.interval.start c.interval.start)

-- 01: "Objects name their owner and rise by number; the other two rise by object, then subject"; "Lines rise
-- by label, then start"; "Rules rise by label"
abbrev pub in_order : Base → Bool
in_order b =
    chained (λ p q. ltb p.object q.object) b.objects
    && chained before b.administrators
    && chained before b.referrers
    && chained rises b.authorizations
    && chained (λ r s. ltb r.label s.label) b.rules

abbrev pub privilege_in : Privilege → Bool
privilege_in p = is_object p.object && is_subject p.subject

abbrev pub interval_in : Interval → Bool
interval_in i = is_instant i.start && is_instant i.end

abbrev pub authorization_in : Authorization → Bool
authorization_in a =
    let h = a.head in
    is_label h.label && is_subject h.grantor && is_subject h.subject && is_object h.object
    && is_mode h.mode
    && is_instant h.granted && interval_in a.interval

-- in its range, or the star
abbrev pub or_star : (ℕ → Bool) → ℕ → Bool
or_star range n = is_star n || range n

abbrev pub side_in : Side → Bool
side_in s = or_star is_subject s.subject && or_star is_mode s.mode && or_star is_object s.object

abbrev pub rule_in : Rule → Bool
rule_in r =
    is_label r.label && is_subject r.author && side_in r.left && side_in r.right
    && or_star is_subject r.grantor && interval_in r.interval

-- 01: "ranges hold"
abbrev pub ranges_hold : Base → Bool
ranges_hold b =
    is_instant b.clock
    && leb b.last last_label
    && allb privilege_in b.objects
    && allb privilege_in b.administrators
    && allb privilege_in b.referrers
    && allb authorization_in b.authorizations
    && allb rule_in b.rules

abbrev pub starts_first : Interval → Bool
starts_first i = leb i.start i.end

-- 01: "start is not above end"
abbrev pub intervals_hold : Base → Bool
intervals_hold b =
    allb (λ a. starts_first a.interval) b.authorizations
    && allb (λ r. starts_first r.interval) b.rules

-- 01: "granted-at is not above start or clock"
abbrev pub granted_in_time : Base → Bool
granted_in_time b =
    allb (λ a. leb a.head.granted a.interval.start && leb a.head.granted b.clock)
    b.authorizations

-- 01: "a denial is not transferable"
abbrev pub denials_plain : Base → Bool
denials_plain b = allb (λ a. not (a.head.negative && a.head.option)) b.authorizations

-- 01: "objects named exist"; a star names none
abbrev pub objects_exist : Base → Bool
objects_exist b =
    allb (λ p. exists b p.object) b.administrators
    && allb (λ p. exists b p.object) b.referrers
    && allb (λ a. exists b a.head.object) b.authorizations
    && allb (λ r. is_star r.left.object || (exists b r.left.object && exists b r.right.object))
    b.rules

-- 01: "the owner is no administrator or referrer of that object"
abbrev pub owners_apart : Base → Bool
owners_apart b =
    allb (λ p. not (owns b p.object p.subject)) b.administrators
    && allb (λ p. not (owns b p.object p.subject)) b.referrers

-- 01: "no line and rule share a label, and none exceeds the last given"
abbrev pub labels_apart : Base → Bool
labels_apart b =
    allb (λ a. not (anyb (λ r. eqb r.label a.head.label) b.rules)) b.authorizations
    && allb (λ a. leb a.head.label b.last) b.authorizations
    && allb (λ r. leb r.label b.last) b.rules

abbrev pub same_head : Head → Head → Bool
same_head h k =
    eqb h.label k.label
    && eqb h.grantor k.grantor
    && eqb h.subject k.subject
    && eqb h.object k.object
    && eqb h.mode k.mode
    && beq h.negative k.negative
    && beq h.option k.option
    && eqb h.granted k.granted

-- 01: "lines of one label differ only in their intervals, with at least one instant missing between two". As
-- they rise by label, those of one label stand together
abbrev pub labels_agree : Base → Bool
labels_agree b = chained (λ a c. not (eqb a.head.label c.head.label)
    || (same_head a.head c.head && ltb (suc a.interval.end) c.interval.start))
    b.authorizations

-- 01: "each line is backed at each of its instants"
abbrev pub all_supported : Base → Bool
all_supported b =
    allb (λ a. always a.interval.start a.interval.end (λ t. supported_at b t a.head))
    b.authorizations

-- 01: "each author has the powers that ADDRULE needs"; 02: of a starred rule "soundness wants no powers"
abbrev pub authors_may : Base → Bool
authors_may b =
    allb (λ r. is_star r.left.object || may_rule b r.author r.left.object r.right.object)
    b.rules

-- 01: "a star for subject or mode is on both sides of a rule or neither"; 02: for the object likewise
abbrev pub stars_meet : Rule → Bool
stars_meet r =
    beq (is_star r.left.subject) (is_star r.right.subject)
    && beq (is_star r.left.mode) (is_star r.right.mode)
    && beq (is_star r.left.object) (is_star r.right.object)

abbrev pub stars_match : Base → Bool
stars_match b = allb stars_meet b.rules

-- 01: "a denial on the right isn't marked transferable"
abbrev pub right_denials_plain : Base → Bool
right_denials_plain b = allb (λ r. option_fits r.right.negative r.option) b.rules

-- in the order of 01; the last: "the rules have no forbidden circle"
abbrev pub sound_tests : Base → List Bool
sound_tests b =
    counts_hold b
    ∷ in_order b
    ∷ ranges_hold b
    ∷ intervals_hold b
    ∷ granted_in_time b
    ∷ denials_plain b
    ∷ objects_exist b
    ∷ owners_apart b
    ∷ labels_apart b
    ∷ labels_agree b
    ∷ all_supported b
    ∷ authors_may b
    ∷ stars_match b
    ∷ right_denials_plain b
    ∷ stratified b.rules
    ∷ []

unfoldable pub sound : Base → Bool
sound b = allb (λ x. x) (sound_tests b)

-- Bytes are sound exactly if they are how a sound base is written: the mark, the contents, the zero bytes and
-- the unused flag bits are as `encode` puts them
unfoldable pub sound_bytes : List ℕ → Bool
sound_bytes s = eq_list (encode (decode s)) s && sound (decode s)

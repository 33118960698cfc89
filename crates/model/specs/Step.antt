-- One request on a base: its effect, the table of refusals, and the outcome (01, "Requests" and "Replies that
-- refuse"). The section's parameter says how the answers about every instant are found (Means): `step` takes
-- the definition.
use Rattle.std.specs.Prelude.{ℕ, suc, Bool, true, false, not, ◌&&◌, ◌||◌, List, [], ◌∷◌, ◌++◌, leb, ltb, eqb, length}
use Rattle.foundation.specs.Tests.{pick}
use Rattle.foundation.specs.Lists.{anyb, allb, Mem}
use Rattle.foundation.specs.Intervals.{overlap, first_start, none?, in_interval}
use Rattle.std.specs.Prelude.{◌≡◌, ◌<◌, ◌⊎◌}
use Rattle.model.specs.declared.Privilege.{Privilege}
use Rattle.model.specs.Support.{Earliest}
use Rattle.model.specs.declared.Head.{Head}
use Rattle.model.specs.declared.Authorization.{Authorization}
use Rattle.model.specs.declared.OptionTerm.{OptionTerm}
use Rattle.model.specs.declared.OptionTerm.TheVariants.{With, Without, Either}
use Rattle.model.specs.declared.Term.{Term}
use Rattle.model.specs.declared.Term.TheVariants.{Any, Number}
use Rattle.model.specs.declared.SideTerms.{SideTerms}
use Rattle.model.specs.declared.RuleTerms.{RuleTerms}
use Rattle.model.specs.declared.Request.{Request}
use Rattle.model.specs.declared.Reply.{Reply}
use Rattle.model.specs.declared.Reply.TheVariants.{Done, Refused, Unsupported}
use Rattle.model.specs.Ranges.{between, is_instant, is_subject, is_object, is_mode, is_label, last_label}
use Rattle.model.specs.Ranges.{most_administrators, most_referrers, most_authorizations, most_rules}
use Rattle.model.specs.Ranges.{most_objects}
use Rattle.model.specs.Base.{Base, exists, owns, administers, refers, controls, may_rule, privilege}
use Rattle.model.specs.Withdrawal.{authorization}
use Rattle.model.specs.Stratification.{is_star, stratified}
use Rattle.model.specs.Requests.{NEW, GRANT, DENY, REVOKE, REVOKEP, REVOKEN, ADDRULE, DROPRULE}
use Rattle.model.specs.Requests.{GRANTADM}
use Rattle.model.specs.Requests.{REVOKEADM, GRANTREF, REVOKEREF, is, grants, labels, withdraws}
use Rattle.model.specs.Requests.{objects_after}
use Rattle.model.specs.Requests.{administrators_after, referrers_after, root_after, new_head, affects}
use Rattle.model.specs.Requests.{number_of, rules_after}
use Rattle.model.specs.Means.{Means, plainly}

-- ---- the table's conditions, one a row

-- 3: "unknown kind"
abbrev pub unknown_kind : Request → Bool
unknown_kind q = not (between NEW REVOKEREF q.kind)

-- the kinds that name an object, a subject, a mode, an interval, a label
abbrev pub names_object : Request → Bool
names_object q =
    is q (NEW ∷ GRANT ∷ DENY ∷ REVOKEP ∷ REVOKEN ∷ GRANTADM ∷ REVOKEADM ∷ GRANTREF ∷ REVOKEREF ∷ [])

abbrev pub names_subject : Request → Bool
names_subject q = is q (GRANT ∷ DENY ∷ REVOKEP ∷ REVOKEN ∷ GRANTADM ∷ REVOKEADM ∷ GRANTREF ∷ REVOKEREF ∷ [])

abbrev pub names_mode : Request → Bool
names_mode q = is q (GRANT ∷ DENY ∷ REVOKEP ∷ REVOKEN ∷ [])

abbrev pub names_interval : Request → Bool
names_interval q = is q (GRANT ∷ DENY ∷ REVOKEP ∷ REVOKEN ∷ ADDRULE ∷ [])

abbrev pub names_label : Request → Bool
names_label q = is q (REVOKE ∷ DROPRULE ∷ [])

-- a number in the range, or a star
abbrev pub term_in : (ℕ → Bool) → Term → Bool
term_in range Any = true
term_in range (Number n) = range n

-- 01: "a star for subject or mode is on both sides of a rule or neither"; 02: for the object likewise
abbrev pub stars_agree : Term → Term → Bool
stars_agree Any Any = true
stars_agree Any (Number n) = false
stars_agree (Number m) Any = false
stars_agree (Number m) (Number n) = true

-- 01: "a denial on the right isn't marked transferable"
abbrev pub option_fits : Bool → OptionTerm → Bool
option_fits negative With = not negative
option_fits negative Without = true
option_fits negative Either = true

abbrev pub side_terms_in : SideTerms → Bool
side_terms_in s = term_in is_subject s.subject && term_in is_mode s.mode && term_in is_object s.object

-- the fields of a rule, with "a sound rule's star or option rule"
abbrev pub rule_terms_in : RuleTerms → Bool
rule_terms_in u =
    side_terms_in u.left
    && side_terms_in u.right
    && between 1 4 u.operator
    && term_in is_subject u.grantor
    && stars_agree u.left.subject u.right.subject
    && stars_agree u.left.mode u.right.mode
    && stars_agree u.left.object u.right.object
    && option_fits u.right.negative u.option

-- 3: "a field outside its range, or a sound rule's star or option rule broken"
abbrev pub range_tests : Request → List Bool
range_tests q =
    (unknown_kind q
    ∷ not (is_instant q.now)
    ∷ not (is_subject q.requester)
    ∷ (names_object q && not (is_object q.object))
    ∷ (names_subject q && not (is_subject q.subject))
    ∷ (names_mode q && not (is_mode q.mode))
    ∷ (names_interval q && not (is_instant q.interval.start && is_instant q.interval.end))
    ∷ (names_label q && not (is_label q.label))
    ∷ (is q (ADDRULE ∷ []) && not (rule_terms_in q.rule))
    ∷ [])

abbrev pub out_of_range : Request → Bool
out_of_range q = anyb (λ x. x) (range_tests q)

-- 4: "now is below the clock"
abbrev pub behind_clock : Base → Request → Bool
behind_clock b q = ltb q.now b.clock

-- 5: "end below start; or a grant, denial or rule starts before now"
abbrev pub bad_interval : Request → Bool
bad_interval q =
    (names_interval q && ltb q.interval.end q.interval.start)
    || (labels q && ltb q.interval.start q.now)

-- the objects of a request's rule as the base would have them
abbrev pub left_object : Request → ℕ
left_object q = number_of q.rule.left.object

abbrev pub right_object : Request → ℕ
right_object q = number_of q.rule.right.object

-- the rule's objects are starred. 02: "6 and 8 are not tested for it at ADDRULE"
abbrev pub any_object : RuleTerms → Bool
any_object u = is_star (number_of u.left.object)

-- 6: "the object (for a rule, either one) does not exist, NEW excepted"
abbrev pub no_object : Base → Request → Bool
no_object b q =
    (names_object q && not (is q (NEW ∷ [])) && not (exists b q.object))
    || (is q (ADDRULE ∷ []) && not (any_object q.rule
    || (exists b (left_object q) && exists b (right_object q))))

-- 7: "no line (REVOKE) or rule (DROPRULE) has the label"
abbrev pub no_label : Base → Request → Bool
no_label b q =
    (is q (REVOKE ∷ []) && not (anyb (λ a. eqb a.head.label q.label) b.authorizations))
    || (is q (DROPRULE ∷ []) && not (anyb (λ r. eqb r.label q.label) b.rules))

-- 8: "requester is not its granter (REVOKE) or author (DROPRULE), not the owner (the four privilege
-- requests), or lacks a rule's powers (ADDRULE)"
abbrev pub not_permitted : Base → Request → Bool
not_permitted b q =
    (is q (REVOKE ∷ []) && anyb (λ a. eqb a.head.label q.label
    && not (eqb a.head.grantor q.requester))
    b.authorizations)
    || (is q (DROPRULE ∷ []) && anyb (λ r. eqb r.label q.label && not (eqb r.author q.requester))
    b.rules)
    || (is q (GRANTADM ∷ REVOKEADM ∷ GRANTREF ∷ REVOKEREF ∷ []) && not (owns b q.object q.requester))
    || (is q (ADDRULE ∷ []) && not (any_object q.rule
    || may_rule b q.requester (left_object q) (right_object q)))

-- 02, CR 4: "a line denying the requester that object and mode"
abbrev pub denies : Request → Head → Bool
denies q h =
    h.negative
    && eqb h.subject q.requester
    && eqb h.object q.object
    && eqb h.mode q.mode

-- some instant of the interval "is covered by" it
abbrev pub bars : Request → Authorization → Bool
bars q a = denies q a.head && overlap a.interval q.interval

-- 14: "A GRANT or DENY fails if some instant of its interval is covered by a line denying the requester that
-- object and mode. Owners and administrators of the object are exempt" (`barred-instant` in GrantFacts)
abbrev pub barred : Base → Request → Bool
barred b q =
    grants q && not (controls b q.object q.requester) && anyb (bars q) b.authorizations

-- 10: "object exists (NEW); subject is owner or already holds that privilege (GRANTADM, GRANTREF)"
abbrev pub already_there : Base → Request → Bool
already_there b q =
    (is q (NEW ∷ []) && exists b q.object)
    || (is q (GRANTADM ∷ []) && controls b q.object q.subject)
    || (is q (GRANTREF ∷ []) && (owns b q.object q.subject || refers b q.object q.subject))

-- 11: "the privilege to withdraw is not there"
abbrev pub not_held : Base → Request → Bool
not_held b q =
    (is q (REVOKEADM ∷ []) && not (administers b q.object q.subject))
    || (is q (REVOKEREF ∷ []) && not (refers b q.object q.subject))

-- 12: "the rule would close a forbidden circle"
abbrev pub not_stratified : Base → Request → Bool
not_stratified b q = is q (ADDRULE ∷ []) && not (stratified (rules_after b q))

-- 01, Ranges: "At most 1,024 lines, 64 rules, 128 administrators, 128 referrers"
abbrev pub counts_hold : Base → Bool
counts_hold b =
    leb (length b.objects) most_objects
    && leb (length b.administrators) most_administrators
    && leb (length b.referrers) most_referrers
    && leb (length b.authorizations) most_authorizations
    && leb (length b.rules) most_rules

-- ---- the table

-- a row: the number, and whether its condition holds
pub record Row : Type 0 where
  pub number : ℕ
  pub given : Bool

abbrev pub row : ℕ → Bool → Row
row n g = record { number = n; given = g }

-- The number of the first row whose condition holds, or 0. 01: "The lowest number that applies is given"; 02
-- puts 14 between 8 and 9. So the rows stand in the order in which they are given (StepFacts: `table-order`),
-- and the first that applies is it (`first-given`, `first-applies`, `first-none`).
abbrev pub first_number : List Row → ℕ
first_number [] = 0
first_number (r ∷ rest) = let n = first_number rest in pick r.given r.number n

-- refused by the first row that applies, or answered
abbrev pub refused_or : {A : Type 0} → List Row → (ℕ → A) → A → A
refused_or rows refuse answer = let n = first_number rows in elim (eqb n 0) [ true ↦ answer | false ↦ refuse n ]

-- The outcome of a request: the reply and the base after it
pub record Outcome : Type 0 where
  pub reply : Reply
  pub base : Base

-- the reply to an accepted request: the new label or 0, and the number of authorizations (01: lines) now in
-- the base
abbrev pub accepting : Base → Request → Base → Reply
accepting b q after = Done (pick (labels q) (suc b.last) 0) (length after.authorizations)

module _ (M : Means) where
  abbrev pub authorizations_after : Base → Request → List Authorization
  authorizations_after b q =
      pick (grants q) (b.authorizations ++ (authorization (new_head (suc b.last) q) q.interval ∷ []))
      (pick (withdraws q)
      (M.restricted (root_after b q) (affects b.authorizations q) (M.left q b.authorizations))
      b.authorizations)

  -- 01: "An accepted request sets the clock to now"; a new label "is the last given plus one"
  abbrev pub effect : Base → Request → Base
  effect b q = record {
    clock = q.now;
    last = pick (labels q) (suc b.last) b.last;
    objects = objects_after q b.objects;
    administrators = administrators_after q b.administrators;
    referrers = referrers_after q b.referrers;
    authorizations = authorizations_after b q;
    rules = rules_after b q;
  }

  -- 9: "the giver of a grant or denial is neither owner nor administrator, and some instant of it is not
  -- covered"
  abbrev pub not_supported : Base → Request → Bool
  not_supported b q =
      grants q
      && not (controls b q.object q.requester)
      && not (none? (M.uncovered b.authorizations (new_head (suc b.last) q) q.interval))

  -- what goes with it: the instant "must now be the earliest uncovered one" (02; StepFacts: `earliest-gap`)
  abbrev pub earliest_gap : Base → Request → ℕ
  earliest_gap b q =
      first_start (M.uncovered b.authorizations (new_head (suc b.last) q) q.interval)

  -- 13: "the resulting base would pass a count, no label is left for a new line or rule"
  abbrev pub full : Base → Request → Bool
  full b q = not (counts_hold (effect b q)) || (labels q && leb last_label b.last)

  -- rows 3 to 14, in their order
  abbrev pub table : Base → Request → List Row
  table b q =
      (row 3 (out_of_range q)
      ∷ row 4 (behind_clock b q)
      ∷ row 5 (bad_interval q)
      ∷ row 6 (no_object b q)
      ∷ row 7 (no_label b q)
      ∷ row 8 (not_permitted b q)
      ∷ row 14 (barred b q)
      ∷ row 9 (not_supported b q)
      ∷ row 10 (already_there b q)
      ∷ row 11 (not_held b q)
      ∷ row 12 (not_stratified b q)
      ∷ row 13 (full b q)
      ∷ [])

  abbrev pub refusal : Base → Request → ℕ
  refusal b q = first_number (table b q)

  -- the reply that refuses: with 9 the earliest uncovered instant; "all other refusals give only the number".
  -- It is looked for with 9 alone.
  abbrev pub refusal_reply : Base → Request → ℕ → Reply
  refusal_reply b q n = elim (eqb n 9) [ true ↦ Unsupported (earliest_gap b q) | false ↦ Refused n ]

  -- 01: "Nothing lent is altered" by a refusal
  abbrev pub step_by : Base → Request → Outcome
  step_by b q =
      let after = effect b q in
      let outcome : Outcome = record { reply = accepting b q after; base = after } in
      refused_or (table b q) (λ n. record { reply = refusal_reply b q n; base = b }) outcome

-- the outcome by the definition
unfoldable pub step : Base → Request → Outcome
step b q = step_by plainly b q

-- the base after a list of requests, refused ones passed over
abbrev pub play : List Request → Base → Base
play [] b = b
play (q ∷ rest) b = play rest (step b q).base

-- ---- a request that is accepted

-- every row passed
pub record Accepted (b : Base) (q : Request) : Type 0 where
  pub range : out_of_range q ≡ false
  pub clock : behind_clock b q ≡ false
  pub interval : bad_interval q ≡ false
  pub object : no_object b q ≡ false
  pub label : no_label b q ≡ false
  pub permitted : not_permitted b q ≡ false
  pub unbarred : barred b q ≡ false
  pub support : not_supported plainly b q ≡ false
  pub fresh : already_there b q ≡ false
  pub held : not_held b q ≡ false
  pub strata : not_stratified b q ≡ false
  pub room : full plainly b q ≡ false

-- ---- rows by their numbers

-- every row has a number
abbrev pub Numbered : List Row → Type 0
Numbered [] = Unit {0}
Numbered (r ∷ rest) = (0 < r.number) × Numbered rest

-- whether the condition of the row numbered n holds
abbrev pub row_given : ℕ → List Row → Bool
row_given n [] = false
row_given n (r ∷ rest) = pick (eqb r.number n) r.given (row_given n rest)

-- rows are numbered if a test over them says so
abbrev pub numbered? : List Row → Bool
numbered? rows = allb (λ r. ltb 0 r.number) rows

-- the numbers rise from n on
abbrev pub rising? : ℕ → List Row → Bool
rising? n [] = true
rising? n (r ∷ rest) = ltb n r.number && rising? r.number rest

-- ---- the instant that goes with 9

-- t lies in the span and is not covered, and every instant of the span before it is
abbrev pub IsEarliest : Base → Request → ℕ → Type 0
IsEarliest b q = Earliest b.authorizations (new_head (suc b.last) q) q.interval

-- ---- who is barred, and what is not covered, in plain logic

-- the privilege is not on the list
abbrev pub Unlisted : List Privilege → ℕ → ℕ → Type 0
Unlisted ps o s = Mem (privilege o s) ps → ⊥

-- a grant or denial by somebody who neither owns nor administers the object
pub record Outside (b : Base) (q : Request) : Type 0 where
  pub kind : (q.kind ≡ GRANT) ⊎ (q.kind ≡ DENY)
  pub owner : Unlisted b.objects q.object q.requester
  pub administrator : Unlisted b.administrators q.object q.requester

-- an authorization that denies the requester what the request names, at t
pub record DeniedAt (b : Base) (q : Request) (t : ℕ) : Type 0 where
  pub line : Authorization
  pub stands : Mem line b.authorizations
  pub covers : in_interval line.interval t ≡ true
  pub negative : line.head.negative ≡ true
  pub subject : line.head.subject ≡ q.requester
  pub object : line.head.object ≡ q.object
  pub mode : line.head.mode ≡ q.mode

-- 02, CR 4: "A GRANT or DENY fails if some instant of its interval is covered by a line denying the requester
-- that object and mode. Owners and administrators of the object are exempt."
pub record Barred (b : Base) (q : Request) : Type 0 where
  pub outside : Outside b q
  pub instant : ℕ
  pub within : in_interval q.interval instant ≡ true
  pub denied : DeniedAt b q instant

-- 01, row 9: "the giver of a grant or denial is neither owner nor administrator, and some instant of it is
-- not covered"; 02, CR 3: the earliest
pub record Uncovered (b : Base) (q : Request) : Type 0 where
  pub outside : Outside b q
  pub instant : ℕ
  pub earliest : IsEarliest b q instant

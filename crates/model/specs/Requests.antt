-- The twelve requests and what each changes (01, "Requests").
use Rattle.std.specs.Prelude.{ℕ, suc, Bool, false, not, ◌&&◌, ◌||◌, List, [], ◌∷◌, ◌++◌, ltb, eqb}
use Rattle.foundation.specs.Tests.{pick}
use Rattle.foundation.specs.Lists.{anyb, keep_if}
use Rattle.foundation.specs.Intervals.{in_interval}
use Rattle.model.specs.declared.Privilege.{Privilege}
use Rattle.model.specs.declared.Head.{Head}
use Rattle.model.specs.declared.Authorization.{Authorization}
use Rattle.model.specs.declared.Operator.{Operator}
use Rattle.model.specs.declared.Operator.TheVariants.{Whenever, AsLongAs, WheneverNot, Unless}
use Rattle.model.specs.declared.Side.{Side}
use Rattle.model.specs.declared.Rule.{Rule}
use Rattle.model.specs.declared.Term.{Term}
use Rattle.model.specs.declared.Term.TheVariants.{Any, Number}
use Rattle.model.specs.declared.SideTerms.{SideTerms}
use Rattle.model.specs.declared.Request.{Request}
use Rattle.model.specs.Base.{Base, privilege, is_privilege, administers, refers}
use Rattle.model.specs.Support.{root_in, same_object_and_mode}
use Rattle.model.specs.Withdrawal.{keep}
use Rattle.model.specs.Stratification.{star}

-- ---- kinds

abbrev pub NEW : ℕ
NEW = 1

abbrev pub GRANT : ℕ
GRANT = 2

abbrev pub DENY : ℕ
DENY = 3

abbrev pub REVOKE : ℕ
REVOKE = 4

abbrev pub REVOKEP : ℕ
REVOKEP = 5

abbrev pub REVOKEN : ℕ
REVOKEN = 6

abbrev pub ADDRULE : ℕ
ADDRULE = 7

abbrev pub DROPRULE : ℕ
DROPRULE = 8

abbrev pub GRANTADM : ℕ
GRANTADM = 9

abbrev pub REVOKEADM : ℕ
REVOKEADM = 10

abbrev pub GRANTREF : ℕ
GRANTREF = 11

abbrev pub REVOKEREF : ℕ
REVOKEREF = 12

-- the request is of one of these kinds
abbrev pub is : Request → List ℕ → Bool
is q kinds = anyb (λ k. eqb q.kind k) kinds

-- 01: "GRANT and DENY add one line with a new label"
abbrev pub grants : Request → Bool
grants q = is q (GRANT ∷ DENY ∷ [])

-- 01, Ranges: "one supply for lines and rules": the kinds that take a new label
abbrev pub labels : Request → Bool
labels q = is q (GRANT ∷ DENY ∷ ADDRULE ∷ [])

abbrev pub withdraws : Request → Bool
withdraws q = is q (REVOKE ∷ REVOKEP ∷ REVOKEN ∷ REVOKEADM ∷ [])

-- ---- privileges

-- 01, The base as bytes: "rise by object, then subject"
abbrev pub before : Privilege → Privilege → Bool
before p q = ltb p.object q.object || (eqb p.object q.object && ltb p.subject q.subject)

-- a privilege put in its place
abbrev pub insert : Privilege → List Privilege → List Privilege
insert p [] = p ∷ []
insert p (q ∷ qs) = let r = insert p qs in pick (before p q) (p ∷ q ∷ qs) (q ∷ r)

abbrev pub without : ℕ → ℕ → List Privilege → List Privilege
without o s ps = keep_if (λ p. not (is_privilege o s p)) ps

-- 01: "NEW object: the requester becomes owner"
abbrev pub objects_after : Request → List Privilege → List Privilege
objects_after q os = pick (is q (NEW ∷ [])) (insert (privilege q.object q.requester) os) os

-- 01: "GRANTADM, REVOKEADM, GRANTREF, REVOKEREF (object, subject)"
abbrev pub administrators_after : Request → List Privilege → List Privilege
administrators_after q ps =
    pick (is q (GRANTADM ∷ [])) (insert (privilege q.object q.subject) ps)
    (pick (is q (REVOKEADM ∷ [])) (without q.object q.subject ps)
    ps)

abbrev pub referrers_after : Request → List Privilege → List Privilege
referrers_after q ps =
    pick (is q (GRANTREF ∷ [])) (insert (privilege q.object q.subject) ps)
    (pick (is q (REVOKEREF ∷ [])) (without q.object q.subject ps)
    ps)

-- who gives without support after the request
abbrev pub root_after : Base → Request → Head → Bool
root_after b q h = root_in (objects_after q b.objects) (administrators_after q b.administrators) h

-- ---- grants and denials

-- 01: "GRANT and DENY add one line with a new label, granted-at now"; a denial is not transferable
abbrev pub new_head : ℕ → Request → Head
new_head label q = record {
  label = label;
  grantor = q.requester;
  subject = q.subject;
  object = q.object;
  mode = q.mode;
  negative = is q (DENY ∷ []);
  option = is q (GRANT ∷ []) && q.option;
  granted = q.now;
}

-- ---- withdrawals

-- 01: "the requester's positive lines or denials" of that mode, object and subject
abbrev pub names : Request → Head → Bool
names q h =
    eqb h.grantor q.requester
    && eqb h.subject q.subject
    && eqb h.object q.object
    && eqb h.mode q.mode
    && pick (is q (REVOKEN ∷ [])) h.negative (not h.negative)

-- The instants that a request takes out of an authorization, whatever supports it. 01: "REVOKE label removes
-- all lines of that label"; "REVOKEP and REVOKEN (mode, object, subject, interval) take the interval out of
-- the requester's positive lines or denials"; "REVOKEADM removes every line on the object that the subject
-- granted, even one a transferable grant would back"
unfoldable pub takes : Request → Head → ℕ → Bool
takes q h t =
    pick (is q (REVOKE ∷ [])) (eqb h.label q.label)
    (pick (is q (REVOKEP ∷ REVOKEN ∷ [])) (names q h && in_interval q.interval t)
    (pick (is q (REVOKEADM ∷ [])) (eqb h.object q.object && eqb h.grantor q.subject)
    false))

-- the authorizations without what the request takes out of them
unfoldable pub leave : Request → List Authorization → List Authorization
unfolding keep
leave q xs = keep (λ h t. not (takes q h t)) xs

-- The authorizations that a withdrawal then restricts to their supported instants. 01: "All three then take
-- out of the lines on that object and mode every instant that is not backed"; REVOKEADM "then all unbacked
-- instants on that object"
unfoldable pub affects : List Authorization → Request → Head → Bool
affects xs q h =
    pick (is q (REVOKE ∷ [])) (anyb (λ a. eqb a.head.label q.label && same_object_and_mode a.head h)
    xs)
    (pick (is q (REVOKEP ∷ REVOKEN ∷ [])) (eqb h.object q.object && eqb h.mode q.mode)
    (pick (is q (REVOKEADM ∷ [])) (eqb h.object q.object)
    false))

-- ---- rules

-- the operator with that number in the base's bytes
abbrev pub operator_of : ℕ → Operator
operator_of n = pick (eqb n 1) Whenever (pick (eqb n 2) AsLongAs (pick (eqb n 3) WheneverNot Unless))

-- a request's star as the base has it
abbrev pub number_of : Term → ℕ
number_of Any = star
number_of (Number n) = n

abbrev pub side_of : SideTerms → Side
side_of s = record {
  subject = number_of s.subject;
  mode = number_of s.mode;
  object = number_of s.object;
  negative = s.negative;
}

-- 01: ADDRULE, whose author is the requester
abbrev pub new_rule : ℕ → Request → Rule
new_rule label q = record {
  label = label;
  author = q.requester;
  left = side_of q.rule.left;
  operator = operator_of q.rule.operator;
  right = side_of q.rule.right;
  grantor = number_of q.rule.grantor;
  option = q.rule.option;
  interval = q.interval;
}

-- The rules that a request removes. 01: "DROPRULE label"; REVOKEADM: "the subject's rules with it on the
-- left, and on the right unless a referrer"; "REVOKEREF removes the subject's rules with it on the right
-- unless an administrator"
abbrev pub drops : Base → Request → Rule → Bool
drops b q r =
    pick (is q (DROPRULE ∷ [])) (eqb r.label q.label)
    (pick (is q (REVOKEADM ∷ [])) (eqb r.author q.subject && (eqb r.left.object q.object
    || (eqb r.right.object q.object && not (refers b q.object q.subject))))
    (pick (is q (REVOKEREF ∷ [])) (eqb r.author q.subject && eqb r.right.object q.object
    && not (administers b q.object q.subject))
    false))

abbrev pub rules_after : Base → Request → List Rule
rules_after b q =
    pick (is q (ADDRULE ∷ [])) (b.rules ++ (new_rule (suc b.last) q ∷ []))
    (pick (is q (DROPRULE ∷ REVOKEADM ∷ REVOKEREF ∷ [])) (keep_if (λ r. not (drops b q r)) b.rules)
    b.rules)

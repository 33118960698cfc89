-- The library's answers over lent bytes: create, a request, MAY and WHEN, with their refusals (01,
-- "Requests", "Replies that refuse", "What the promises settle").
use Rattle.std.specs.Prelude.{ℕ, ◌*◌, ◌/◌, Bool, not, ◌&&◌, List, [], ◌∷◌, ◌++◌, ltb, eqb, length, drop}
use Rattle.foundation.specs.Tests.{pick}
use Rattle.foundation.specs.declared.Interval.{Interval}
use Rattle.model.specs.declared.Request.{Request}
use Rattle.model.specs.declared.Access.{Access}
use Rattle.model.specs.declared.Question.{Question}
use Rattle.model.specs.declared.Reply.{Reply}
use Rattle.model.specs.declared.Reply.TheVariants.{Done, Refused, Unsupported, Yes, No, Runs}
use Rattle.model.specs.Ranges.{is_instant, is_subject, is_object, is_mode}
use Rattle.model.specs.Base.{Base, empty_base, exists}
use Rattle.model.specs.Rules.{may, when}
use Rattle.model.specs.Means.{plainly}
use Rattle.model.specs.Step.{Row, row, refused_or, accepting, table, effect, refusal_reply}
use Rattle.model.specs.Encoding.{size, encode, decode}
use Rattle.model.specs.Soundness.{sound_bytes}

-- ---- replies

-- 01's number for each reply: a refusal's, or 0
abbrev pub refusal_number : Reply → ℕ
refusal_number (Done label count) = 0
refusal_number (Refused n) = n
refusal_number (Unsupported t) = 9
refusal_number Yes = 0
refusal_number No = 0
refusal_number (Runs n) = 0

-- the new label, or 0 where the reply has none
abbrev pub label_of : Reply → ℕ
label_of (Done label count) = label
label_of (Refused n) = 0
label_of (Unsupported t) = 0
label_of Yes = 0
label_of No = 0
label_of (Runs n) = 0

-- a reply, and the lent bytes or list after it
pub record Answer : Type 0 where
  pub reply : Reply
  pub lent : List ℕ

abbrev pub answering : Reply → List ℕ → Answer
answering r s = record { reply = r; lent = s }

-- a refusal leaves what was lent
abbrev pub refusing : List ℕ → ℕ → Answer
refusing s n = answering (Refused n) s

-- ---- create and request

-- 01: "making one in a buffer of another length is refused with 2"
unfoldable pub create : List ℕ → Answer
create s =
    let a = answering (Done 0 0) (encode empty_base) in
    refused_or (row 2 (not (eqb (length s) size)) ∷ []) (refusing s) a

-- 2: "wrong length or not sound"; then the table
abbrev pub request_table : List ℕ → Request → List Row
request_table s q = row 2 (not (sound_bytes s)) ∷ table plainly (decode s) q

-- a request over lent bytes
unfoldable pub request : List ℕ → Request → Answer
request s q =
    let after = effect plainly (decode s) q in
    let a = answering (accepting (decode s) q after) (encode after) in
    refused_or (request_table s q) (λ n. answering (refusal_reply plainly (decode s) q n) s) a

-- the bytes after a list of requests, each on the bytes that the one before left
abbrev pub requests : List Request → List ℕ → List ℕ
requests [] s = s
requests (q ∷ rest) s = requests rest (request s q).lent

-- ---- questions

-- 3: a field of a question outside its range
abbrev pub access_in : Access → Bool
access_in x = is_subject x.subject && is_mode x.mode && is_object x.object

abbrev pub may_table : Base → Question → List Row
may_table b q =
    row 3 (not (access_in q.access && is_instant q.instant))
    ∷ row 6 (not (exists b q.access.object))
    ∷ []

-- 13: "a WHEN list has fewer pairs than runs"
abbrev pub when_table : Base → Access → ℕ → ℕ → List Row
when_table b x pairs runs =
    row 3 (not (access_in x))
    ∷ row 6 (not (exists b x.object))
    ∷ row 13 (ltb pairs runs)
    ∷ []

-- "as pairs of 32-bit numbers"
abbrev pub words : List Interval → List ℕ
words [] = []
words (i ∷ rest) = i.start ∷ i.end ∷ words rest

abbrev pub may_reply : Bool → Reply
may_reply yes? = pick yes? Yes No

-- MAY over lent bytes, which it leaves as they are
unfoldable pub may_answer : List ℕ → Question → Reply
may_answer s q =
    let r = may_reply (may (decode s) q.access q.instant) in
    refused_or (row 2 (not (sound_bytes s)) ∷ may_table (decode s) q) Refused r

-- WHEN over lent bytes and a lent list: the runs "at the front of a lent list; the reply is the number of
-- runs, and the rest of the list is untouched"
unfoldable pub when_answer : List ℕ → Access → List ℕ → Answer
when_answer s x list =
    let runs = when (decode s) x in
    let n = length runs in
    let a = answering (Runs n) (words runs ++ drop (2 * n) list) in
    refused_or (row 2 (not (sound_bytes s)) ∷ when_table (decode s) x (length list / 2) n) (refusing list) a

-- The records of a base as numbers: what the library gives of each body, from a record on, in a lent list.
use Rattle.std.specs.Prelude.{ℕ, ◌*◌, ◌/◌, not, List, [], ◌∷◌, ◌++◌, map, ltb, eqb, length, take, drop}
use Rattle.foundation.specs.Tests.{pick}
use Rattle.foundation.specs.Lists.{each}
use Rattle.model.specs.declared.Privilege.{Privilege}
use Rattle.model.specs.declared.Authorization.{Authorization}
use Rattle.model.specs.declared.Rule.{Rule}
use Rattle.model.specs.declared.OptionTerm.{OptionTerm}
use Rattle.model.specs.declared.OptionTerm.TheVariants.{With, Without, Either}
use Rattle.model.specs.declared.Reply.TheVariants.{Runs}
use Rattle.model.specs.Base.{Base}
use Rattle.model.specs.Step.{Row, row, refused_or}
use Rattle.model.specs.Encoding.{as_bit, operator_number, decode}
use Rattle.model.specs.Soundness.{sound_bytes}
use Rattle.model.specs.Answers.{Answer, answering, refusing}
use Rattle.records.specs.declared.Body.{Body}
use Rattle.records.specs.declared.Body.TheVariants.{Heading, Objects, Administrators, Referrers}
use Rattle.records.specs.declared.Body.TheVariants.{Authorizations, Rules}

-- ---- one record

abbrev pub privilege_numbers : Privilege → List ℕ
privilege_numbers p = p.object ∷ p.subject ∷ []

-- a denial is 1 and a grant 0; with the grant option 1, without it 0
abbrev pub authorization_numbers : Authorization → List ℕ
authorization_numbers a =
    let h = a.head in
    h.label ∷ h.grantor ∷ h.subject ∷ h.object ∷ h.mode ∷ as_bit h.negative ∷ as_bit h.option
    ∷ h.granted ∷ a.interval.start ∷ a.interval.end ∷ []

abbrev pub option_number : OptionTerm → ℕ
option_number Without = 0
option_number With = 1
option_number Either = 2

-- 0 is the star, as in the base
abbrev pub rule_numbers : Rule → List ℕ
rule_numbers r =
    r.label ∷ r.author
    ∷ r.left.subject ∷ r.left.mode ∷ r.left.object ∷ as_bit r.left.negative
    ∷ operator_number r.operator
    ∷ r.right.subject ∷ r.right.mode ∷ r.right.object ∷ as_bit r.right.negative
    ∷ r.grantor ∷ option_number r.option
    ∷ r.interval.start ∷ r.interval.end ∷ []

-- the clock, the last label, and how many records each body has
abbrev pub heading_numbers : Base → List ℕ
heading_numbers b =
    b.clock ∷ b.last ∷ length b.objects ∷ length b.administrators ∷ length b.referrers
    ∷ length b.authorizations ∷ length b.rules ∷ []

-- ---- a body

-- 0 the heading, then the bodies in their order
abbrev pub body_of : ℕ → Body
body_of n =
    pick (eqb n 0) Heading (pick (eqb n 1) Objects (pick (eqb n 2) Administrators (pick (eqb n 3) Referrers
    (pick (eqb n 4) Authorizations Rules))))

-- how many numbers a record of the body is
abbrev pub width_of : Body → ℕ
width_of Heading = 7
width_of Objects = 2
width_of Administrators = 2
width_of Referrers = 2
width_of Authorizations = 10
width_of Rules = 15

-- the records in the base's order, each as its numbers
abbrev pub rows : Base → Body → List (List ℕ)
rows b Heading = heading_numbers b ∷ []
rows b Objects = map privilege_numbers b.objects
rows b Administrators = map privilege_numbers b.administrators
rows b Referrers = map privilege_numbers b.referrers
rows b Authorizations = map authorization_numbers b.authorizations
rows b Rules = map rule_numbers b.rules

-- ---- a page of a body over lent bytes

-- the records from `first` on, as many as the list has room for
abbrev pub page_of : List (List ℕ) → ℕ → ℕ → List ℕ → List (List ℕ)
page_of all width first list = take (length list / width) (drop first all)

-- 3: there are fewer than `first` records. 13: the list has no room for one
abbrev pub page_rows : List (List ℕ) → ℕ → ℕ → List ℕ → List Row
page_rows all width first list = row 3 (ltb (length all) first) ∷ row 13 (ltb (length list) width) ∷ []

-- their numbers at the front of the list, whose rest is untouched; the reply is how many records they are
abbrev pub paged : List (List ℕ) → ℕ → ℕ → List ℕ → Answer
paged all width first list =
    let page = page_of all width first list in
    answering (Runs (length page)) (each page (λ r. r) ++ drop (width * length page) list)

-- of a sound base
unfoldable pub page_answer : List ℕ → Body → ℕ → List ℕ → Answer
page_answer s source first list =
    let all = rows (decode s) source in
    refused_or (page_rows all (width_of source) first list) (refusing list)
    (paged all (width_of source) first list)

-- 2: no sound base. 3: no such body, too
unfoldable pub records_answer : List ℕ → ℕ → ℕ → List ℕ → Answer
records_answer s source first list =
    refused_or (row 2 (not (sound_bytes s)) ∷ row 3 (ltb 5 source) ∷ []) (refusing list)
    (page_answer s (body_of source) first list)

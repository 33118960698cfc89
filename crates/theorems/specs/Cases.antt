-- The twelve cases of 01 ("Session S" and "More pairs to prove") as one table of text in and text out, and
-- one theorem over its rows about the definitions: `twelve`. Beside it a session with a rule for all meters:
-- `starred`.
use Rattle.std.specs.Prelude.{◌≡◌, refl, ℕ, zero, suc, List, [], ◌∷◌, ◌++◌}
use Rattle.std.proofs.Common.{sym, ap₂, ◌∙◌, subst, inl, inr}
use Prim.Native.String.{String}
use Rattle.foundation.specs.Lists.{Mem}
use Rattle.foundation.specs.Closure.{iter}
use Rattle.foundation.specs.Graph.{reaches, cyclic, rank_in, rank}
use Rattle.foundation.specs.Intervals.{prepend}
use Rattle.foundation.specs.Marks.{next, walk}
use Rattle.model.specs.Base.{empty_base}
use Rattle.model.specs.Support.{supports, supported_in, supported, covered_for}
use Rattle.model.specs.Stratification.{feeds, links, precedes, weight, stratified, stratum}
use Rattle.model.specs.Requests.{takes, affects}
use Rattle.model.specs.Rules.{fits, stands_for, derives_for, right_of, derived_below, holds, may_with}
use Rattle.model.specs.Means.{Means, at_marks, keep_at, leave_at, restrict_at, gaps_at}
use Rattle.model.specs.Questions.{Questions, read_at_marks, always_at, may_at_marks, when_at_marks}
use Rattle.model.proofs.MeansFacts.{same_means, same_questions}
use Rattle.model.specs.Text.{ascii, decimal, lines, read_line}
use Rattle.model.specs.Session.{transcript, session}

pub record Case : Type 0 where
  pub input : List ℕ
  pub output : List ℕ

abbrev pub case : List ℕ → List ℕ → Case
case i o = record { input = i; output = o }

-- the lines of a text, each with its newline
abbrev pub case_text : List String → List ℕ
case_text [] = []
case_text (l ∷ rest) = ascii l ++ (10 ∷ case_text rest)

-- the beginning of the four cases with a rule: meters 7 and 8
abbrev pub rule_case : String → String → String → String → Case
rule_case first second rule runs = case
    (case_text ("0 1 NEW 7" ∷ "0 1 NEW 8" ∷ first ∷ second ∷ rule ∷ "WHEN 3 1 7" ∷ []))
    (case_text ("done 0 0" ∷ "done 0 0" ∷ "done 1 1" ∷ "done 2 2" ∷ "done 3 2" ∷ runs ∷ []))

-- "Line 1,024 is taken, 1,025 gets 13": n grants and one more
abbrev pub many_grants : ℕ → List ℕ
many_grants zero = case_text ("1 1 GRANT 1 7 2 50 50 n" ∷ [])
many_grants (suc n) = case_text ("1 1 GRANT 1 7 2 50 50 n" ∷ []) ++ many_grants n

abbrev pub many_done : ℕ → ℕ → List ℕ
many_done zero i = case_text ("refused 13" ∷ [])
many_done (suc n) i = ascii "done " ++ decimal i ++ ascii " " ++ decimal i ++ (10 ∷ many_done n (suc i))

abbrev pub case_table : List Case
case_table =
    -- session S
    case (case_text (
    "4 1 NEW 7"
    ∷ "4 1 GRANTADM 7 5"
    ∷ "5 1 GRANT 1 7 2 50 200 y"
    ∷ "50 5 GRANT 1 7 2 80 150 y"
    ∷ "55 2 GRANT 1 7 3 55 180 y"
    ∷ "60 3 DENY 1 7 4 60 70"
    ∷ "61 1 REVOKEP 1 7 2 60 200"
    ∷ "MAY 3 1 7 79"
    ∷ "WHEN 3 1 7"
    ∷ "61 3 GRANT 1 7 9 61 90 n"
    ∷ "60 1 REVOKE 1"
    ∷ []))
    (case_text (
    "done 0 0"
    ∷ "done 0 0"
    ∷ "done 1 1"
    ∷ "done 2 2"
    ∷ "done 3 3"
    ∷ "done 4 4"
    ∷ "done 0 4"
    ∷ "no"
    ∷ "55-59 80-150"
    ∷ "refused 9"
    ∷ "refused 4"
    ∷ []))
    -- "owner gives 2, 2 gives 3, 3 gives 2 ...: withdrawing the first leaves 0 lines"
    ∷ case (case_text (
    "0 1 NEW 7"
    ∷ "1 1 GRANT 1 7 2 10 20 y"
    ∷ "2 2 GRANT 1 7 3 10 20 y"
    ∷ "3 3 GRANT 1 7 2 10 20 y"
    ∷ "4 1 REVOKE 1"
    ∷ []))
    (case_text ("done 0 0" ∷ "done 1 1" ∷ "done 2 2" ∷ "done 3 3" ∷ "done 0 0" ∷ []))
    -- "Grant 40 to 100 with denial 50 to 70: 40-49 71-100"
    ∷ case (case_text ("0 1 NEW 7" ∷ "0 1 GRANT 1 7 3 40 100 n" ∷ "0 1 DENY 1 7 3 50 70" ∷ "WHEN 3 1 7" ∷ []))
    (case_text ("done 0 0" ∷ "done 1 1" ∷ "done 2 2" ∷ "40-49 71-100" ∷ []))
    -- "Right side held 10 to 40 and 50 to 100, rule 10 to 90: WHENEVER 10-40 50-90, ASLONGAS 10-40"
    ∷ rule_case "0 1 GRANT 1 8 2 10 40 n" "0 1 GRANT 1 8 2 50 100 n"
    "0 1 ADDRULE 3 1 7 + WHENEVER 2 1 8 + * * 10 90" "10-40 50-90"
    ∷ rule_case "0 1 GRANT 1 8 2 10 40 n" "0 1 GRANT 1 8 2 50 100 n"
    "0 1 ADDRULE 3 1 7 + ASLONGAS 2 1 8 + * * 10 90" "10-40"
    -- "Right held 10 to 50 and 80 to 90, rule 30 to inf: WHENEVERNOT 51-79 91-inf"
    ∷ rule_case "0 1 GRANT 1 8 2 10 50 n" "0 1 GRANT 1 8 2 80 90 n"
    "0 1 ADDRULE 3 1 7 + WHENEVERNOT 2 1 8 + * * 30 inf" "51-79 91-inf"
    -- "Right held from 120, rule 40 to 300: UNLESS 40-119"
    ∷ rule_case "0 1 GRANT 1 8 2 120 200 n" "0 1 GRANT 1 8 2 201 inf n"
    "0 1 ADDRULE 3 1 7 + UNLESS 2 1 8 + * * 40 300" "40-119"
    -- "Grant on 50 to 50: one instant"
    ∷ case (case_text ("0 1 NEW 7" ∷ "0 1 GRANT 1 7 3 50 50 n" ∷ "WHEN 3 1 7" ∷ []))
    (case_text ("done 0 0" ∷ "done 1 1" ∷ "50-50" ∷ []))
    -- "Withdrawing 50 to 50 from 50 to 51 leaves 51-51"
    ∷ case
    (case_text ("0 1 NEW 7" ∷ "0 1 GRANT 1 7 3 50 51 n" ∷ "1 1 REVOKEP 1 7 3 50 50" ∷ "WHEN 3 1 7" ∷ []))
    (case_text ("done 0 0" ∷ "done 1 1" ∷ "done 0 1" ∷ "51-51" ∷ []))
    -- "A grant at the very time its backing was granted: 9"
    ∷ case (case_text ("0 1 NEW 7" ∷ "1 1 GRANT 1 7 2 50 51 y" ∷ "1 2 GRANT 1 7 3 50 51 y" ∷ []))
    (case_text ("done 0 0" ∷ "done 1 1" ∷ "refused 9" ∷ []))
    -- "WHENEVERNOT feeding itself: 12"
    ∷ case (case_text ("0 1 NEW 7" ∷ "0 1 ADDRULE 3 1 7 + WHENEVERNOT 3 1 7 + * * 0 9" ∷ []))
    (case_text ("done 0 0" ∷ "refused 12" ∷ []))
    -- "Line 1,024 is taken, 1,025 gets 13"
    ∷ case (case_text ("0 1 NEW 7" ∷ []) ++ many_grants 1024) (case_text ("done 0 0" ∷ []) ++ many_done 1024 1)
    ∷ []

-- 02, CR 8: subject 9 has nothing and writes a rule for all meters. Who refers to a meter gains nothing by
-- it, an administrator does while it is one, and an owner; a star on one side gets 3, and one closes a circle
abbrev pub all_meters : Case
all_meters = case
    (case_text ("0 9 ADDRULE 3 1 * + WHENEVER 4 1 * + * * 0 99" ∷ "0 1 NEW 7" ∷ "0 1 GRANT 1 7 4 5 9 n"
    ∷ "0 1 GRANTREF 7 9" ∷ "WHEN 3 1 7" ∷ "1 1 GRANTADM 7 9" ∷ "WHEN 3 1 7" ∷ "2 1 REVOKEADM 7 9" ∷
    "WHEN 3 1 7"
    ∷ "2 9 ADDRULE 3 1 * + WHENEVER 4 1 7 + * * 2 9" ∷ "2 8 ADDRULE 4 1 * + WHENEVERNOT 3 1 * + * * 2 9"
    ∷ "3 9 NEW 8" ∷ "3 9 GRANT 1 8 4 6 7 n" ∷ "WHEN 3 1 8" ∷ []))
    (case_text ("done 1 0" ∷ "done 0 0" ∷ "done 2 1" ∷ "done 0 1" ∷ "none" ∷ "done 0 1" ∷ "5-9" ∷ "done 0 1" ∷
    "none"
    ∷ "refused 3" ∷ "refused 12" ∷ "done 0 1" ∷ "done 3 2" ∷ "6-7" ∷ []))

-- computed once over the whole table, by asking at marks
abbrev Passes : List Case → Type 0
Passes [] = Unit {0}
Passes (c ∷ rest) = (transcript (at_marks 64) (read_at_marks 64) (lines c.input) empty_base ≡ c.output)
    × Passes rest

computed : Passes (all_meters ∷ case_table)
unfolding iter reaches cyclic rank_in rank prepend next walk supports supported_in supported covered_for feeds
    links precedes weight stratified holds stratum derived_below may_with keep_at leave_at restrict_at gaps_at
    always_at may_at_marks when_at_marks decimal read_line fits stands_for derives_for right_of takes affects
computed = (
  refl,
  (
    refl,
    (
      refl,
      (
        refl,
        (
          refl,
          (
            refl,
            (
              refl,
              (
                refl,
                (
                  refl,
                  (
                    refl,
                    (
                      refl,
                      (
                        refl,
                        (
                          refl,
                          tt,
                        ),
                      ),
                    ),
                  ),
                ),
              ),
            ),
          ),
        ),
      ),
    ),
  ),
)

at : (cs : List Case) → Passes cs → (c : Case) → Mem c cs →
    transcript (at_marks 64) (read_at_marks 64) (lines c.input) empty_base ≡ c.output
at [] p c m = absurd m.lower
at (d ∷ cs) p c (inl e) =
    subst (λ (x : Case). transcript (at_marks 64) (read_at_marks 64) (lines x.input) empty_base ≡ x.output)
    (sym e) p.0
at (d ∷ cs) p c (inr m) = at cs p.1 c m

-- a row that passes is what the definitions say
said : (c : Case) → Mem c (all_meters ∷ case_table) → session c.input ≡ c.output
unfolding session
said c m =
    ap₂ (λ (M : Means) (Q : Questions). transcript M Q (lines c.input) empty_base) (same_means 64)
    (same_questions 64)
    ∙ at (all_meters ∷ case_table) computed c m

-- THEOREM 10: every row of the table is what the definitions say
pub twelve : (c : Case) → Mem c case_table → session c.input ≡ c.output
twelve c m = said c (inr m)

-- THEOREM: so is the session with a rule for all meters
pub starred : session all_meters.input ≡ all_meters.output
starred = said all_meters (inl refl)

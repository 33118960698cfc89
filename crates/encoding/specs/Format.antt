-- The format of a base's bytes, test by test, as code asks it: `format-is` says that bytes pass exactly if
-- they are the encoding of their decoding.
use Rattle.std.specs.Prelude.{ℕ, ◌+◌, ◌*◌, Bool, ◌&&◌, List, leb, ltb, eqb, length, take, drop, get_or}
use Rattle.foundation.specs.Lists.{allb}
use Rattle.foundation.specs.Bytes.{le, records, eq_list}
use Rattle.foundation.specs.ByteRecords.{rest}
use Rattle.model.specs.Ranges.{between, most_objects, most_administrators, most_referrers, most_authorizations}
use Rattle.model.specs.Ranges.{most_rules}
use Rattle.model.specs.declared.Privilege.{Privilege}
use Rattle.model.specs.declared.Authorization.{Authorization}
use Rattle.model.specs.declared.Rule.{Rule}
use Rattle.model.specs.Encoding.{size, mark, contents, privilege_of, authorization_of, rule_of}
use Rattle.encoding.specs.declared.Counts.{Counts}

-- the counts that the contents name
abbrev pub counts_of : List ℕ → Counts
counts_of s = record {
  objects = le 2 (drop 14 s);
  administrators = le 2 (drop 18 s);
  referrers = le 2 (drop 22 s);
  authorizations = le 2 (drop 26 s);
  rules = le 2 (drop 30 s);
}

abbrev pub contents_of : Counts → List ℕ
contents_of c = contents c.objects c.administrators c.referrers c.authorizations c.rules

-- the n privileges, authorizations or rules that s begins with
abbrev pub privileges_in : ℕ → List ℕ → List Privilege
privileges_in n s = records 4 privilege_of n s

abbrev pub authorizations_in : ℕ → List ℕ → List Authorization
authorizations_in n s = records 24 authorization_of n s

abbrev pub rules_in : ℕ → List ℕ → List Rule
rules_in n s = records 28 rule_of n s

-- those of the n authorizations from number i on
abbrev pub authorizations_from : ℕ → List ℕ → ℕ → List Authorization
authorizations_from n s i = rest 24 authorization_of n s i

-- the rule at i of the rules
abbrev pub rule_at : List ℕ → ℕ → Rule
rule_at s i = rule_of (drop (i * 28) s)

-- where the bodies start, and where the last one ends
abbrev pub administrators_at : Counts → ℕ
administrators_at c = 32 + 4 * c.objects

abbrev pub referrers_at : Counts → ℕ
referrers_at c = administrators_at c + 4 * c.administrators

abbrev pub authorizations_at : Counts → ℕ
authorizations_at c = referrers_at c + 4 * c.referrers

abbrev pub rules_at : Counts → ℕ
rules_at c = authorizations_at c + 24 * c.authorizations

abbrev pub end_at : Counts → ℕ
end_at c = rules_at c + 28 * c.rules

abbrev pub counts_fit : Counts → Bool
counts_fit c =
    leb c.objects most_objects
    && leb c.administrators most_administrators
    && leb c.referrers most_referrers
    && leb c.authorizations most_authorizations
    && leb c.rules most_rules

-- the mark, the zero bytes and the contents
abbrev pub heading_fits : List ℕ → Bool
heading_fits s =
    eq_list (take 4 s) mark
    && eqb (le 2 (drop 10 s)) 0
    && eq_list (take 20 (drop 12 s)) (contents_of (counts_of s))

-- 01: "the other bits are clear" and "two zero" of a line
abbrev pub authorization_clean : List ℕ → Bool
authorization_clean s = ltb (get_or s 9 0) 4 && eqb (le 2 (drop 10 s)) 0

-- of a rule: operator 1 to 4, flag bits 2 and 3 not both set and no higher one, two zero
abbrev pub rule_clean : List ℕ → Bool
rule_clean s = between 1 4 (get_or s 16 0) && ltb (get_or s 17 0) 12 && eqb (le 2 (drop 18 s)) 0

-- a test passes of each of n records of w bytes
abbrev pub each_record : ℕ → (List ℕ → Bool) → ℕ → List ℕ → Bool
each_record w p n s = allb (λ x. x) (records w p n s)

abbrev pub zeros : List ℕ → Bool
zeros s = allb (λ x. eqb x 0) s

-- the length, the counts, the heading, the records and the rest
unfoldable pub format_fits : List ℕ → Bool
format_fits s =
    let c = counts_of s in
    eqb (length s) size
    && counts_fit c
    && heading_fits s
    && each_record 24 authorization_clean c.authorizations (drop (authorizations_at c) s)
    && each_record 28 rule_clean c.rules (drop (rules_at c) s)
    && zeros (drop (end_at c) s)

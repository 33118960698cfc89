-- What soundness asks of each body, as code asks it: the order of its records and every record by itself,
-- beside the other bodies.
use Rattle.std.specs.Prelude.{ℕ, suc, Bool, not, ◌&&◌, ◌||◌, List, leb, ltb, eqb}
use Rattle.foundation.specs.Lists.{anyb, allb}
use Rattle.model.specs.declared.Privilege.{Privilege}
use Rattle.model.specs.declared.Authorization.{Authorization}
use Rattle.model.specs.declared.Rule.{Rule}
use Rattle.model.specs.Base.{listed}
use Rattle.model.specs.Requests.{before}
use Rattle.model.specs.Stratification.{is_star}
use Rattle.model.specs.Step.{option_fits}
use Rattle.model.specs.Soundness.{chained, rises, privilege_in, authorization_in, rule_in, starts_first, same_head}
use Rattle.model.specs.Soundness.{stars_meet}
use Rattle.lookup.specs.RecordTests.{exists_in}

-- objects rise by number, in range
abbrev pub objects_part : List Privilege → Bool
objects_part os = chained (λ p r. ltb p.object r.object) os && allb privilege_in os

-- a privilege in range, of an object that exists, and not its owner's
abbrev pub privilege_test : List Privilege → Privilege → Bool
privilege_test os p = privilege_in p && exists_in os p.object && not (listed os p.object p.subject)

abbrev pub privileges_part : List Privilege → List Privilege → Bool
privileges_part os ps = chained before ps && allb (privilege_test os) ps

-- two authorizations next to each other: they rise, and those of one label agree, with an instant missing
-- between
abbrev pub neighbours : Authorization → Authorization → Bool
neighbours a c =
    rises a c
    && (not (eqb a.head.label c.head.label)
    || (same_head a.head c.head && ltb (suc a.interval.end) c.interval.start))

-- one authorization by itself, beside the objects and the rules
abbrev pub authorization_test : List Privilege → List Rule → ℕ → ℕ → Authorization → Bool
authorization_test os rs clock last a =
    authorization_in a
    && starts_first a.interval
    && (leb a.head.granted a.interval.start && leb a.head.granted clock)
    && not (a.head.negative && a.head.option)
    && exists_in os a.head.object
    && not (anyb (λ r. eqb r.label a.head.label) rs)
    && leb a.head.label last

abbrev pub authorizations_part : List Privilege → List Rule → ℕ → ℕ → List Authorization → Bool
authorizations_part os rs clock last xs = chained neighbours xs && allb (authorization_test os rs clock last) xs

-- who owns or administers, and who may refer
abbrev pub may_rule_in : List Privilege → List Privilege → List Privilege → ℕ → ℕ → ℕ → Bool
may_rule_in os ads rfs s left right =
    (listed os left s || listed ads left s)
    && ((listed os right s || listed ads right s) || listed rfs right s)

-- one rule by itself, beside the privileges; starred objects need not exist and give no need of powers
abbrev pub rule_test : List Privilege → List Privilege → List Privilege → ℕ → Rule → Bool
rule_test os ads rfs last r =
    rule_in r
    && starts_first r.interval
    && (is_star r.left.object || (exists_in os r.left.object && exists_in os r.right.object))
    && leb r.label last
    && (is_star r.left.object || may_rule_in os ads rfs r.author r.left.object r.right.object)
    && stars_meet r
    && option_fits r.right.negative r.option

abbrev pub rules_part : List Privilege → List Privilege → List Privilege → ℕ → List Rule → Bool
rules_part os ads rfs last rs =
    chained (λ r u. ltb r.label u.label) rs && allb (rule_test os ads rfs last) rs

use Rattle.std.proofs.Common.{sym, ap, ◌∙◌, List, length, map, arith}
use Rattle.model.specs.declared.Privilege.{Privilege}
use Rattle.model.specs.declared.Authorization.{Authorization}
use Rattle.model.specs.declared.Rule.{Rule}
use Rattle.encoding.proofs.SoundBodies.{counts_in}
use Rattle.records.specs.declared.Body.{Body}
use Rattle.records.specs.Records.{privilege_numbers, authorization_numbers, rule_numbers, page_answer}
use Rattle.records.specs.Pages.{page_given}
use Rattle.records.proofs.page.page.Goals as goal

pub give-requires : goal.give-requires
give-requires c =
    let b = c.args.base.now in
    (omega arith, omega (arith, ap length c.objects.ensures, (counts_in b.bytes.now b.sound).objects))

pub give-requires-in-Administrators : goal.give-requires-in-Administrators
give-requires-in-Administrators c =
    let b = c.args.base.now in
    (omega arith, omega (arith, ap length c.administrators.ensures, (counts_in b.bytes.now b.sound).administrators))

pub give-requires-in-Referrers : goal.give-requires-in-Referrers
give-requires-in-Referrers c =
    let b = c.args.base.now in
    (omega arith, omega (arith, ap length c.referrers.ensures, (counts_in b.bytes.now b.sound).referrers))

pub give-requires-in-Authorizations : goal.give-requires-in-Authorizations
give-requires-in-Authorizations c =
    let b = c.args.base.now in
    (omega arith, omega (arith, ap length c.authorizations.ensures, (counts_in b.bytes.now b.sound).authorizations))

pub give-requires-in-Rules : goal.give-requires-in-Rules
give-requires-in-Rules c =
    let b = c.args.base.now in
    (omega arith, omega (arith, ap length c.rules.ensures, (counts_in b.bytes.now b.sound).rules))

pub returns-in-Heading : goal.returns-in-Heading
unfolding page_answer
returns-in-Heading c =
    let a = c.args in
    c.give_heading.ensures
    ∙ ap (λ (b : Body). page_answer a.base.now.bytes.now b a.first a.list.now) (sym c.in-Heading.is)

pub returns-in-Objects : goal.returns-in-Objects
unfolding page_answer
returns-in-Objects c =
    let a = c.args in
    c.give.ensures
    ∙ ap (λ (xs : List Privilege). page_given (map privilege_numbers xs) 2 a.first a.list.now) c.objects.ensures
    ∙ ap (λ (b : Body). page_answer a.base.now.bytes.now b a.first a.list.now) (sym c.in-Objects.is)

pub returns-in-Administrators : goal.returns-in-Administrators
unfolding page_answer
returns-in-Administrators c =
    let a = c.args in
    c.give-in-Administrators.ensures
    ∙ ap (λ (xs : List Privilege). page_given (map privilege_numbers xs) 2 a.first a.list.now) c.administrators.ensures
    ∙ ap (λ (b : Body). page_answer a.base.now.bytes.now b a.first a.list.now) (sym c.in-Administrators.is)

pub returns-in-Referrers : goal.returns-in-Referrers
unfolding page_answer
returns-in-Referrers c =
    let a = c.args in
    c.give-in-Referrers.ensures
    ∙ ap (λ (xs : List Privilege). page_given (map privilege_numbers xs) 2 a.first a.list.now) c.referrers.ensures
    ∙ ap (λ (b : Body). page_answer a.base.now.bytes.now b a.first a.list.now) (sym c.in-Referrers.is)

pub returns-in-Authorizations : goal.returns-in-Authorizations
unfolding page_answer
returns-in-Authorizations c =
    let a = c.args in
    c.give-in-Authorizations.ensures
    ∙ ap (λ (xs : List Authorization). page_given (map authorization_numbers xs) 10 a.first a.list.now) c.authorizations.ensures
    ∙ ap (λ (b : Body). page_answer a.base.now.bytes.now b a.first a.list.now) (sym c.in-Authorizations.is)

pub returns-in-Rules : goal.returns-in-Rules
unfolding page_answer
returns-in-Rules c =
    let a = c.args in
    c.give-in-Rules.ensures
    ∙ ap (λ (xs : List Rule). page_given (map rule_numbers xs) 15 a.first a.list.now) c.rules.ensures
    ∙ ap (λ (b : Body). page_answer a.base.now.bytes.now b a.first a.list.now) (sym c.in-Rules.is)

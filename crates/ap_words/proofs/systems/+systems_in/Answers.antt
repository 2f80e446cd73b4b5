use Rattle.std.proofs.Common.{◌≡◌, ◌∙◌, Some, sym, ap, arith}
use Rattle.std.specs.Option.{option_map, option_and_then}
use Rattle.std.proofs.lemmas.Str.Pattern.{split_parts}
use Rattle.ap_words.specs.Systems.{both_systems, systems_in, system_named}
use Rattle.ap_words.proofs.SystemNames.{one-system, systems-one, systems-more}
use Rattle.ap_words.proofs.systems.+systems_in.Goals as goal

pub returns-in_default : goal.returns-in_default
returns-in_default t c =
    let list = c.args.list.now in
    let parts = split_parts 44 list c.split_once.result c.split_once.ensures.cases (omega arith) in
    let parts' = rw c.in_default.is at parts in
    c.system_named.ensures ∙ sym (systems-one list parts')

pub returns-in_err-system : goal.returns-in_err-system
returns-in_err-system t c =
    let list = c.args.list.now in
    let name = c.in-Some.name.now in
    let rest = c.in-Some.rest.now in
    let parts = split_parts 44 list (Some (c.in-Some.name, c.in-Some.rest)) c.in-Some.ensures.cases (omega arith) in
    c.from_residual.ensures
    ∙ sym (systems-more list name rest parts.0 parts.1 ∙ ap (option_and_then (λ s. option_map (both_systems s) (systems_in rest))) (sym c.in_err-system.ensures))

pub returns-in_err-others : goal.returns-in_err-others
returns-in_err-others t c =
    let list = c.args.list.now in
    let name = c.in-Some.name.now in
    let rest = c.in-Some.rest.now in
    let system = c.in_ok-system.system in
    let parts = split_parts 44 list (Some (c.in-Some.name, c.in-Some.rest)) c.in-Some.ensures.cases (omega arith) in
    let first : system_named name ≡ Some system = sym c.in_ok-system.ensures in
    c.from_residual-in_err-others.ensures
    ∙ sym (systems-more list name rest parts.0 parts.1 ∙ ap (option_and_then (λ s. option_map (both_systems s) (systems_in rest))) first ∙ ap (option_map (both_systems system)) (sym c.in_err-others.ensures))

pub returns : goal.returns
returns t c =
    let list = c.args.list.now in
    let name = c.in-Some.name.now in
    let rest = c.in-Some.rest.now in
    let system = c.in_ok-system.system in
    let others = c.in_ok-others.others in
    let parts = split_parts 44 list (Some (c.in-Some.name, c.in-Some.rest)) c.in-Some.ensures.cases (omega arith) in
    let first : system_named name ≡ Some system = sym c.in_ok-system.ensures in
    let behind : systems_in rest ≡ Some others = sym c.in_ok-others.ensures in
    let all : systems_in list ≡ Some (both_systems system others) =
    systems-more list name rest parts.0 parts.1 ∙ ap (option_and_then (λ s. option_map (both_systems s) (systems_in rest))) first ∙ ap (option_map (both_systems system)) behind in
    ap Some (one-system c.union.result (both_systems system others) (c.union.ensures tt)) ∙ sym all

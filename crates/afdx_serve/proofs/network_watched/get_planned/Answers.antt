use Rattle.std.proofs.Common.{rules, ◌≡◌, ◌∙◌, length, map, string_bytes, Ok, inl, inr, sym, ap, subst}
use Rattle.afdx_network_check.specs.Net.{Network}
use Rattle.afdx_network_check.specs.Order.{misfit}
use Rattle.afdx_network_check.specs.Rules.{IsAcceptedNetwork}
use Rattle.afdx_network.specs.Given.{NoneShareAPort}
use Rattle.afdx_serve.specs.Networks.{names_of, HasNetwork}
use Rattle.afdx_serve.proofs.Errors.{of_error}
use Rattle.afdx_serve.proofs.NetworkRunLemmas.{none_share_a_port, as_many_tables}
use Rattle.afdx_serve.proofs.network_watched.get_planned.Goals as goal

pub returns-in_err-network-clause-got : goal.returns-in_err-network-clause-got
returns-in_err-network-clause-got g c = of_error _ _ _ c.in_err-network.field-0.0 c.from_residual.ensures (inl c.in_err-network.ensures.got)

pub returns-in_err-plan-clause-got : goal.returns-in_err-plan-clause-got
returns-in_err-plan-clause-got g c =
    let got = c.in_ok-network.ensures.got in
    of_error _ _ _ c.in_err-plan.field-0.0 c.from_residual-in_err-plan.ensures (inr (c.in_ok-network.network, got.0, inl (c.in_err-plan.ensures, got.1)))

pub returns-clause-got : goal.returns-clause-got
returns-clause-got g c =
    let net = c.in_ok-network.network in
    let got = c.in_ok-network.ensures.got in
    let planned = c.in_ok-plan.ensures in
    let files = g.F.Folder.files c.args.folder.now in
    let named : map string_bytes c.in_ok-names.names.items ≡ names_of net.layout.switches = search rules in
    let same = sym planned.0 in (
      record {
        has_network = subst (HasNetwork files c.args.inputs.now.network.now) same got.0;
        names = named ∙ ap (λ (n : Network). names_of n.layout.switches) same;
        tables = subst (λ (n : Network). length n.tables ≡ length n.layout.switches) same
            (as_many_tables c.tables_are_well_formed.ensures c.layouts_are_within_limits.ensures files c.args.inputs.now.network.now net got.0);
        one_each = subst NoneShareAPort same (none_share_a_port c.no_port_has_two_wires.ensures files c.args.inputs.now.network.now net got.0);
        chosen = planned.1;
        accepted = λ checked. subst IsAcceptedNetwork same (planned.2 checked);
        kept = λ checked. subst (λ (n : Network). misfit n ≡ Ok tt) same (planned.3 checked);
      },
      got.1,
    )

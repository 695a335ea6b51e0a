use Rattle.std.proofs.Common.{◌≤◌, ap, ◌∙◌, sym, subst}
use Rattle.std.proofs.lemmas.List.{get_or_default}
use Rattle.afdx_port.specs.Service.{reach}
use Rattle.afdx_port.specs.Admission.{occupied}
use Rattle.afdx_port.specs.Lagging.{has_due}
use Rattle.afdx_core.specs.Inner.OutputPorts.{OutletValue}
use Rattle.afdx_core.proofs.output_port.occupied_at.Goals as goal

pub occupied-requires-clause-still_open : goal.occupied-requires-clause-still_open
occupied-requires-clause-still_open g c =
    let o = c.index-output_ports-place.result in
    ap (λ (x : OutletValue _). x.port.content.finished) c.index-output_ports-place.is ∙ c.requires.still_open o

pub occupied-requires-clause-in_order : goal.occupied-requires-clause-in_order
occupied-requires-clause-in_order g c =
    let o = c.index-output_ports-place.result in
    subst (λ (x : OutletValue _). x.port.content.horizon ≤ c.args.at) (sym c.index-output_ports-place.is) (c.requires.in_order o)

pub occupied-requires-clause-none_due : goal.occupied-requires-clause-none_due
occupied-requires-clause-none_due g c =
    let o = c.index-output_ports-place.result in
    ap (λ (x : OutletValue _). has_due c.args.at x.port.content) c.index-output_ports-place.is ∙ c.requires.none_due o

pub returns : goal.returns
returns g c d =
    let os = c.args.output_ports.now in
    c.occupied.ensures
    ∙ ap (λ (o : OutletValue _). occupied o.port.content.settings (reach o.port.content.settings c.args.at) o.port.content.admitted)
    (c.index-output_ports-place.is ∙ get_or_default os c.args.place c.index-output_ports-place.result d c.requires.place)

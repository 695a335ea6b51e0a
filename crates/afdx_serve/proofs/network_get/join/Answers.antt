use Rattle.std.proofs.Common.{rules, ◌≡◌, Err, refl, sym, subst}
use Rattle.afdx_network_check.specs.Order.{lost_port}
use Rattle.afdx_messages.specs.declared.failure.Failure.{Failure}
use Rattle.afdx_serve.specs.Networks.{bytes_in, HasTexts, AreTables, FailsToJoin}
use Rattle.afdx_serve.proofs.NetworkLemmas.{of_wiring}
use Rattle.afdx_serve.proofs.network_get.join.Goals as goal

pub returns-clause-got : goal.returns-clause-got
returns-clause-got g c =
    let has : HasTexts (g.F.Folder.files c.args.folder.now) c.args.path.now c.args.layout.switches (bytes_in c.in_ok-texts.texts.items) = search rules in
    let are : AreTables (bytes_in c.in_ok-texts.texts.items) c.in_ok-tables.tables.items = search rules in
    let lost : lost_port c.in_ok-tables.tables.items c.args.layout.wires ≡ Err c.in-Err.fault = search rules in
    subst (λ (f : Failure). FailsToJoin f (g.F.Folder.files c.args.folder.now) c.args.path.now c.args.layout (g.F.Folder.failed c.args.folder.now) (g.F.Folder.failed c.get_texts.new.folder))
    (sym c.from.ensures)
    (of_wiring (λ (f : Failure). FailsToJoin f (g.F.Folder.files c.args.folder.now) c.args.path.now c.args.layout (g.F.Folder.failed c.args.folder.now) (g.F.Folder.failed c.get_texts.new.folder))
    c.in-Err.fault tt (λ no. ((_, _, has, are, lost), refl, c.in_ok-texts.ensures.got.1)))

use Rattle.std.proofs.Common.{◌≡◌, ◌∙◌, ℕ, List, length, map, string_bytes, sym, ap, subst}
use Rattle.std.proofs.lemmas.List.{length-map}
use Rattle.afdx_wiring.specs.declared.layout.End.{End}
use Rattle.afdx_wiring.specs.File.{Switch}
use Rattle.afdx_network_check.specs.Net.{Network}
use Rattle.afdx_network.specs.Given.{open_ends}
use Rattle.afdx_network.specs.Outage.{coming}
use Rattle.afdx_network_report.specs.Lines.{Names, name_of}
use Rattle.afdx_serve.specs.Runs.{capture_name}
use Rattle.afdx_serve.specs.NetworkRuns.{switch_folder, runs_text, FailsToGetGiven}
use Rattle.afdx_serve.specs.Networks.{names_of}
use Rattle.afdx_serve.specs.Inner.NetworkRunning.{network_in, end_names, AreOpenedEnds}
use Rattle.afdx_serve.proofs.Errors.{of_error}
use Rattle.afdx_serve.proofs.GivenLemmas.{not_got_given}
use Rattle.afdx_serve.proofs.NetworkRunLemmas.{outcome_count, as_many_counts, as_many_incoming, names_opened, come_at, leads_from, never_wrong}
use Rattle.afdx_serve.proofs.network_run.reports_of_folder.Given.{Over}
use Rattle.afdx_serve.proofs.network_run.reports_of_folder.Goals.{After-deref-2, After-deref_mut}
use Rattle.afdx_serve.proofs.network_run.reports_of_folder.Goals as goal

-- the names of the captures
named : (g : Over) (c : After-deref-2 g)
    → map string_bytes c.in_ok-opened_names.opened_names.items ≡ end_names c.args.path.now (names_of (network_in c.args.plan.now).layout.switches) (open_ends (network_in c.args.plan.now))
named g c =
    rw c.deref.ensures.value at c.in_ok-opened_names.ensures
    ∙ ap (λ (ns : Names). end_names c.args.path.now ns c.in_ok-ends.ends.items) c.requires.names
    ∙ ap (end_names c.args.path.now (names_of (network_in c.args.plan.now).layout.switches)) (c.in_ok-ends.ensures ∙ ap (λ (n : Network). open_ends n) c.network.ensures)

-- what comes in at the ports
opened : (g : Over) (c : After-deref_mut g)
    → AreOpenedEnds g.F.Opened.Read.remaining (g.F.Folder.files c.args.folder.now) c.args.path.now (network_in c.args.plan.now)
    (map string_bytes c.in_ok-opened_names.opened_names.items) c.in_ok-all.all.items
opened g c =
    let path = c.args.path.now in
    let net = network_in c.args.plan.now in
    let ends : c.in_ok-ends.ends.items ≡ open_ends net = c.in_ok-ends.ensures ∙ ap (λ (n : Network). open_ends n) c.network.ensures in
    let named = rw c.deref.ensures.value at c.in_ok-opened_names.ensures
    ∙ ap (λ (ns : Names). end_names path ns c.in_ok-ends.ends.items) c.requires.names ∙ ap (end_names path (names_of net.layout.switches)) ends in
    let opened = rw c.deref-2.ensures.value at c.in_ok-opened.ensures.opened.0 in
    let come = come_at g.F.Opened.Read.remaining _ net _ c.in_ok-opened.opened.items c.in_ok-all.all.items c.network-2.ensures (c.deref-3.ensures.value ∙ ends) c.in_ok-all.ensures in
    record { readers = c.in_ok-opened.opened.items; named = named; opened = opened; come = come }

pub returns-in_err-opened-clause-led : goal.returns-in_err-opened-clause-led
returns-in_err-opened-clause-led g c =
    let p = (goal.at.returns-in_err-opened-clause-led g c).After-deref-2 in
    let fails = rw c.deref-2.ensures.value at c.in_err-opened.ensures.opened in
    of_error _ _ _ c.in_err-opened.field-0.0 c.from_residual-in_err-opened.ensures
    (not_got_given c.in_err-opened.field-0.0 _ c.args.path.now (network_in c.args.plan.now) _ _ _ (names_opened c.args.path.now (network_in c.args.plan.now) _ c.requires.tables (named g p)) fails)

pub incoming_at-requires : goal.incoming_at-requires
incoming_at-requires g c =
    let p = (goal.at.incoming_at-requires g c).After-deref-2 in
    let net = network_in c.args.plan.now in
    let opened = rw c.deref-2.ensures.value at c.in_ok-opened.ensures.opened.0 in
    rw c.deref-3.ensures.value
    (opened.many ∙ ap (λ (ns : List (List ℕ)). length ns) (named g p)
    ∙ length-map (open_ends net) (λ (e : End). capture_name (switch_folder c.args.path.now (name_of (names_of net.layout.switches) e.switch)) e.port)
    ∙ ap (λ (es : List End). length es) (sym (c.in_ok-ends.ensures ∙ ap (λ (n : Network). open_ends n) c.network.ensures)))

pub counts_of-requires-clause-readers : goal.counts_of-requires-clause-readers
counts_of-requires-clause-readers g c =
    let p = (goal.at.counts_of-requires-clause-readers g c).After-deref_mut in
    rw c.deref_mut.ensures.value (as_many_incoming g.F.Opened.Read.remaining _ c.args.path.now (network_in c.args.plan.now) _ _ (opened g p))

pub runs_text-requires : goal.runs_text-requires
runs_text-requires g c =
    let net = network_in c.args.plan.now in
    let ran = rw c.deref_mut.ensures.value at c.in-Ok.ensures.ok in
    sym (length-map c.args.names.now (λ s. string_bytes s)) ∙ ap (λ (ns : Names). length ns) c.requires.names ∙ length-map net.layout.switches (λ (s : Switch). s.name) ∙ sym c.requires.tables
    ∙ outcome_count net.tables ran.3.0 ran.1 ran.3.1.outcomes ∙ sym (as_many_counts c.deref-in-Ok.result.now ran.1 (c.deref-in-Ok.ensures.value ∙ ran.4.counted))

pub returns-in-Ok-clause-led : goal.returns-in-Ok-clause-led
returns-in-Ok-clause-led g c =
    let p = (goal.at.returns-in-Ok-clause-led g c).After-deref_mut in
    let ran = rw c.deref_mut.ensures.value at c.in-Ok.ensures.ok in
    let left = ran.1 in
    let text = c.in_ok-runs_text-in-Ok.ensures left (c.deref-in-Ok.ensures.value ∙ ran.4.counted) ∙ ap (λ (ns : Names). runs_text c.args.form ns left) c.requires.names in (
      (left, leads_from g.F.Opened.Read.remaining _ c.args.path.now c.args.plan.now _ _ ran.0 left c.requires.tables (opened g p) ran.2 ran.3, ran.4.appended, text),
      c.in_ok-opened.ensures.opened.1,
    )

pub run_failure-requires-clause-wires : goal.run_failure-requires-clause-wires
run_failure-requires-clause-wires g c =
    never_wrong (coming g.F.Opened.Read.remaining) (network_in c.args.plan.now) c.deref_mut.result.now c.in-Err.fault c.requires.one_each c.in-Err.ensures.err

pub run_failure-requires-clause-of : goal.run_failure-requires-clause-of
run_failure-requires-clause-of g c =
    let p = (goal.at.run_failure-requires-clause-of g c).After-deref_mut in
    let is = rw c.deref_mut.ensures.value at c.in-Err.ensures.err in
    (g.F.Folder.files c.args.folder.now, c.args.path.now, network_in c.args.plan.now, c.in_ok-all.all.items, rw c.deref-in-Err.ensures.value (opened g p), is)

pub returns-clause-led : goal.returns-clause-led
returns-clause-led g c =
    let p = (goal.at.returns-clause-led g c).After-deref_mut in
    let is = rw c.deref_mut.ensures.value at c.in-Err.ensures.err in
    let files = g.F.Folder.files c.args.folder.now in
    let path = c.args.path.now in
    let net = network_in c.args.plan.now in
    subst (λ before. FailsToGetGiven c.run_failure.result files path net before (g.F.Folder.failed c.run_failure.new.folder)) c.in_ok-opened.ensures.opened.1
    (c.run_failure.ensures.failed files path net c.in_ok-all.all.items c.requires.names c.requires.tables (rw c.deref-in-Err.ensures.value (opened g p)) is)

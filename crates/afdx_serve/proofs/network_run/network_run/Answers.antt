use Rattle.std.proofs.Common.{rules, ◌≡◌, ◌∙◌, ℕ, List, None, String, Global, length, map, string_bytes, refl, inl, inr, sym, ap, subst}
use Rattle.std.proofs.KnownBytes.{Keeps-refl}
use Rattle.std.proofs.lemmas.List.{length-map}
use Rattle.afdx_wiring.specs.declared.layout.End.{End}
use Rattle.afdx_network_check.specs.Net.{Network}
use Rattle.afdx_network.specs.Given.{NoneShareAPort}
use Rattle.afdx_network_report.specs.Lines.{Names, name_of}
use Rattle.afdx_serve.proofs.Errors.{of_error}
use Rattle.afdx_serve.proofs.FileLemmas.{KeepsFiles-refl, KeepsFiles-trans}
use Rattle.afdx_serve.proofs.LeadLemmas.{have_before}
use Rattle.afdx_messages.specs.declared.failure.Failure.TheVariants.{Memory, Write}
use Rattle.afdx_serve.specs.Runs.{capture_name}
use Rattle.afdx_serve.specs.Networks.{names_of}
use Rattle.afdx_serve.specs.NetworkRuns.{switch_folder, names_at, bytes_at, captures_of, runs_text}
use Rattle.afdx_serve.specs.Serving.{world, PutsNetwork}
use Rattle.afdx_serve.specs.Inner.NetworkRunning.{network_in}
use Rattle.afdx_serve.proofs.NetworkRunLemmas.{IsLed, none_share_a_port, is_led, as_many_tables, outputs_named, files_named, no_run, not_given, not_put_network, puts_network}
use Rattle.afdx_serve.proofs.network_run.network_run.Given.{Over}
use Rattle.afdx_serve.proofs.network_run.network_run.Goals.{After-deref-7, After-deref-8}
use Rattle.afdx_serve.proofs.network_run.network_run.Goals as goal

-- what was led to is a run of the file's network
led : (g : Over) (c : After-deref-7 g)
    → IsLed c.args.paths.now (g.F.Folder.files c.args.folder.now) c.in_ok-network.network (map string_bytes c.in_ok-names.names.items) c.in_ok-files.ensures.led.0.0
led g c =
    let net = c.in_ok-network.network in
    let got = c.in_ok-network.ensures in
    let planned = c.in_ok-plan.ensures in
    let from = c.in_ok-files.ensures.led.0 in
    let named : map string_bytes c.in_ok-names.names.items ≡ names_of net.layout.switches = search rules in
    is_led c.tables_are_well_formed.ensures c.layouts_are_within_limits.ensures c.network_runs_deliver.ensures c.args.paths.now _ _ net c.in_ok-plan.plan from.0 _
    got.got.0 planned.0 planned.1 planned.2 got.same from.1 named

-- its captures have these names
outputs_are : (g : Over) (c : After-deref-7 g)
    → map string_bytes c.in_ok-outputs.outputs.items ≡ names_at c.args.paths.now.output.now (names_of c.in_ok-network.network.layout.switches) (captures_of c.in_ok-files.ensures.led.0.0)
outputs_are g c =
    let net = c.in_ok-network.network in
    let named = rw (c.deref-3.ensures.value, c.deref-4.ensures.value) at c.in_ok-outputs.ensures in
    let ends = rw c.network-2.ensures at c.in_ok-ends.ensures in
    outputs_named c.args.paths.now.output.now net (map string_bytes c.in_ok-names.names.items) c.in_ok-plan.plan _ c.args.paths.now.input.now c.in_ok-files.ensures.led.0.0 c.in_ok-ends.ends.items _
    (as_many_tables c.tables_are_well_formed.ensures c.layouts_are_within_limits.ensures _ c.args.paths.now.network.now net c.in_ok-network.ensures.got.0) c.in_ok-plan.ensures.0 (led g c).named ends
    named c.in_ok-files.ensures.led.0.1

-- all of them were put
puts : (g : Over) (c : After-deref-8 g)
    → IsLed c.args.paths.now (g.F.Folder.files c.args.folder.now) c.in_ok-network.network (map string_bytes c.in_ok-names.names.items) c.in_ok-files.ensures.led.0.0
    → map string_bytes c.in_ok-outputs.outputs.items ≡ names_at c.args.paths.now.output.now (names_of c.in_ok-network.network.layout.switches) (captures_of c.in_ok-files.ensures.led.0.0)
    → PutsNetwork c.args.paths.now (world None (g.F.Folder.files c.args.folder.now) (g.F.Folder.failed c.args.folder.now))
    (world None (g.F.Folder.files c.put_all.new.folder) (g.F.Folder.failed c.put_all.new.folder)) c.in_ok-network.network c.in_ok-files.ensures.led.0.0
puts g c l names =
    let got = c.in_ok-network.ensures in
    let from = c.in_ok-files.ensures.led in
    let str : String Global → _ = λ s. string_bytes s in
    let first = g.F.Folder.files c.args.folder.now in
    let all = bytes_at (captures_of from.0.0) in
    let puts = rw c.deref-7.ensures.value at c.in_ok-put_all.ensures in
    let long = files_named c.args.paths.now.output.now (names_of c.in_ok-network.network.layout.switches) from.0.0 _ (ap (λ (ns : Names). length ns) (sym l.named) ∙ l.count) names
    ∙ length-map c.in_ok-outputs.outputs.items str in
    let done = puts first all (KeepsFiles-trans _ _ _ got.same c.in_ok-files.ensures.same) long (have_before g.F.New.NewFile.contents first _ c.in_ok-files.files.items all got.same from.0.2) in
    puts_network c.args.paths.now c.in_ok-network.network from.0.0 _ _ first first _ _ _ _ l.leads names refl (KeepsFiles-refl first) (from.1 ∙ got.got.1) done.0 done.1 None None

-- and these are the reports
text_is : (g : Over) (c : After-deref-8 g)
    → c.deref-8.result.now ≡ runs_text c.args.form (names_of c.in_ok-network.network.layout.switches) c.in_ok-files.ensures.led.0.0
text_is g c =
    c.deref-8.ensures.value ∙ c.in_ok-files.ensures.led.0.3
    ∙ ap (λ (n : Network). runs_text c.args.form (names_of n.layout.switches) c.in_ok-files.ensures.led.0.0) c.in_ok-plan.ensures.0

pub returns-in_err-network : goal.returns-in_err-network
returns-in_err-network g c =
    let fails = c.in_err-network.ensures in
    of_error _ _ _ c.in_err-network.field-0.0 c.from_residual.ensures
    (no_run c.args.form c.in_err-network.field-0.0 c.args.paths.now _ _ _ _ fails.same _ _ (Keeps-refl _) (inl fails.got))

pub returns-in_err-plan : goal.returns-in_err-plan
returns-in_err-plan g c =
    let got = c.in_ok-network.ensures in
    of_error _ _ _ c.in_err-plan.field-0.0 c.from_residual-in_err-plan.ensures
    (no_run c.args.form c.in_err-plan.field-0.0 c.args.paths.now _ _ _ _ got.same _ _ (Keeps-refl _) (inr (c.in_ok-network.network, got.got.0, inl (c.in_err-plan.ensures, got.got.1))))

pub returns-in_err-ends : goal.returns-in_err-ends
returns-in_err-ends g c = of_error _ _ _ Memory c.from_residual-in_err-ends.ensures (inl c.in_ok-network.ensures.same, Keeps-refl _)

pub returns-in_err-outputs : goal.returns-in_err-outputs
returns-in_err-outputs g c = of_error _ _ _ Memory c.from_residual-in_err-outputs.ensures (inl c.in_ok-network.ensures.same, Keeps-refl _)

pub lead-requires-clause-names : goal.lead-requires-clause-names
lead-requires-clause-names g c =
    let named : map string_bytes c.in_ok-names.names.items ≡ names_of c.in_ok-network.network.layout.switches = search rules in
    rw c.deref-5.ensures.value (named ∙ ap (λ (n : Network). names_of n.layout.switches) (sym c.in_ok-plan.ensures.0))

pub lead-requires-clause-tables : goal.lead-requires-clause-tables
lead-requires-clause-tables g c =
    subst (λ (n : Network). length n.tables ≡ length n.layout.switches) (sym c.in_ok-plan.ensures.0)
    (as_many_tables c.tables_are_well_formed.ensures c.layouts_are_within_limits.ensures _ c.args.paths.now.network.now c.in_ok-network.network c.in_ok-network.ensures.got.0)

pub lead-requires-clause-one_each : goal.lead-requires-clause-one_each
lead-requires-clause-one_each g c =
    subst NoneShareAPort (sym c.in_ok-plan.ensures.0)
    (none_share_a_port c.no_port_has_two_wires.ensures _ c.args.paths.now.network.now c.in_ok-network.network c.in_ok-network.ensures.got.0)

pub lead-requires-clause-outputs : goal.lead-requires-clause-outputs
lead-requires-clause-outputs g c =
    let str : String Global → _ = λ s. string_bytes s in
    let names = map str c.in_ok-names.names.items in
    let named = rw (c.deref-3.ensures.value, c.deref-4.ensures.value) at c.in_ok-outputs.ensures in
    let ends = rw c.network-2.ensures at c.in_ok-ends.ensures in
    rw c.deref-6.ensures.value
    (sym (length-map c.in_ok-outputs.outputs.items str) ∙ ap (λ (ns : List (List ℕ)). length ns) named
    ∙ length-map c.in_ok-ends.ends.items (λ (e : End). capture_name (switch_folder c.args.paths.now.output.now (name_of names e.switch)) e.port) ∙ ap (λ (es : List End). length es) ends)

pub returns-in_err-files : goal.returns-in_err-files
returns-in_err-files g c =
    let got = c.in_ok-network.ensures in
    let planned = c.in_ok-plan.ensures in
    let fails = c.in_err-files.ensures in
    of_error _ _ _ c.in_err-files.field-0.0 c.from_residual-in_err-files.ensures
    (not_given c.args.form c.in_err-files.field-0.0 c.args.paths.now _ _ _ c.in_ok-network.network (network_in c.in_ok-plan.plan) _ _ _ got.got.0 planned.0 planned.2 got.same fails.same got.got.1 _ _
    (Keeps-refl _) fails.led)

pub returns-in_err-put_all : goal.returns-in_err-put_all
returns-in_err-put_all g c =
    let p = (goal.at.returns-in_err-put_all g c).After-deref-7 in
    let l = led g p in
    let names = outputs_are g p in
    let got = c.in_ok-network.ensures in
    let from = c.in_ok-files.ensures.led in
    let str : String Global → _ = λ s. string_bytes s in
    let first = g.F.Folder.files c.args.folder.now in
    let all = bytes_at (captures_of from.0.0) in
    let puts = rw c.deref-7.ensures.value at c.in_err-put_all.ensures in
    let long = files_named c.args.paths.now.output.now (names_of c.in_ok-network.network.layout.switches) from.0.0 _ (ap (λ (ns : Names). length ns) (sym l.named) ∙ l.count) names
    ∙ length-map c.in_ok-outputs.outputs.items str in
    let fails = puts first all (KeepsFiles-trans _ _ _ got.same c.in_ok-files.ensures.same) long (have_before g.F.New.NewFile.contents first _ c.in_ok-files.files.items all got.same from.0.2) in
    of_error _ _ _ c.in_err-put_all.field-0.0 c.from_residual-in_err-put_all.ensures
    (not_put_network c.args.paths.now c.in_ok-network.network from.0.0 _ _ first first _ _ _ _ l.leads names refl (KeepsFiles-refl first)
    (from.1 ∙ got.got.1) c.args.form c.in_err-put_all.field-0.0 _ _
    (Keeps-refl _) fails)

pub returns-in_err-write_bytes : goal.returns-in_err-write_bytes
returns-in_err-write_bytes g c =
    let p = (goal.at.returns-in_err-write_bytes g c).After-deref-8 in
    let q = (goal.at.returns-in_err-write_bytes g c).After-deref-7 in
    of_error _ _ _ Write c.from_residual-in_err-write_bytes.ensures
    (_, (c.in_ok-network.network, c.in_ok-files.ensures.led.0.0, puts g p (led g q) (outputs_are g q), refl), rw (text_is g p) at c.in_err-write_bytes.ensures.prefix)

pub returns : goal.returns
returns g c =
    let p = (goal.at.returns g c).After-deref-8 in
    let q = (goal.at.returns g c).After-deref-7 in
    (_, (c.in_ok-network.network, c.in_ok-files.ensures.led.0.0, puts g p (led g q) (outputs_are g q), refl), rw (text_is g p) at c.in_ok-write_bytes.ensures.all)

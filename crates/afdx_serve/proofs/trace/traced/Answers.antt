use Rattle.std.proofs.Common.{◌+◌, ◌≤◌, ◌∙◌, ◌∷◌, length, sym, ap, subst, arith}
use Rattle.std.proofs.lemmas.List.{length-map}
use Rattle.afdx_table.specs.Content.{Content}
use Rattle.afdx_session.specs.Outcome.{table_in, is_cleared}
use Rattle.afdx_trace.specs.Arrivals.{arrivals_text}
use Rattle.afdx_trace.specs.Departures.{departures_heading}
use Rattle.afdx_serve.specs.Runs.{inputs_of, FailsToGather}
use Rattle.afdx_serve.specs.Inner.Outputs.{HaveBytes}
use Rattle.afdx_serve.proofs.FileLemmas.{KeepsFiles-trans}
use Rattle.afdx_serve.proofs.LeadLemmas.{have_before, not_led_from}
use Rattle.afdx_serve.proofs.PutLemmas.{written_back}
use Rattle.afdx_serve.proofs.TellingLemmas.{parts_of, have_told, have_texts, traces_to}
use Rattle.afdx_serve.proofs.trace.traced.Goals as goal

pub tell-requires : goal.tell-requires
tell-requires g c =
    ap length c.deref_mut.ensures.value ∙ c.in_ok-files.ensures.count ∙ ap length c.deref.ensures.value ∙ c.in_ok-names.ensures
    ∙ ap (λ n. n + 2) (ap length (c.ports.ensures.ports ∙ ap (λ (t : Content). t.ports) c.table.ensures.table))

pub join_all-requires : goal.join_all-requires
join_all-requires g c =
    let many = c.in_ok-files.ensures.count ∙ ap length c.deref.ensures.value ∙ c.in_ok-names.ensures in
    let told = rw c.deref_mut.ensures.value at c.in-Ok.ensures.led.0 in
    let same = told.many in
    let long = sym c.deref_mut.ensures.len ∙ sym c.in-Ok.ensures.led.0.many in
    let enough : 2 ≤ length c.tell.new.files = omega (arith, many, same) in
    subst (λ fs. 2 ≤ length fs) (sym (written_back c.in_ok-files.files.items c.tell.new.files c.in_ok-files.files.len long)) enough

pub returns-in-Ok-clause-led : goal.returns-in-Ok-clause-led
returns-in-Ok-clause-led g c = λ first text keeps shows is.
    let contents = g.F.New.NewFile.contents in
    let plan = c.args.plan in
    let t = table_in plan in
    let s = c.args.selection.now in
    let a = g.F.Folder.files c.args.folder.now in
    let b = g.F.Folder.files c.begin_all.new.folder in
    let begun = c.in_ok-files.files.items in
    let new = c.tell.new.files in
    let led = c.in-Ok.ensures.led in
    let told = rw c.deref_mut.ensures.value at led.0 in
    let r = told.state.run in
    let back = written_back begun new c.in_ok-files.files.len (sym c.deref_mut.ensures.len ∙ sym led.0.many) in
    let ports = c.ports.ensures.ports ∙ ap (λ (u : Content). u.ports) c.table.ensures.table in
    let many = c.in_ok-files.ensures.count ∙ ap length c.deref.ensures.value ∙ c.in_ok-names.ensures ∙ ap (λ n. n + 2) (ap length ports) in
    let parts = parts_of s r t.ports in
    let all = arrivals_text s r ∷ departures_heading ∷ parts in
    let have = have_before contents first a new all keeps (have_told contents b a c.args.paths.now.input.now (is_cleared plan) t s begun new c.in_ok-files.ensures.empty told) in
    let joined = c.in_ok-join_all-in-Ok.ensures.joined first (arrivals_text s r) departures_heading parts
    (ap (λ n. n + 2) (length-map t.ports _) ∙ sym many ∙ sym told.many ∙ ap length (sym back)) (subst (λ fs. HaveBytes contents first fs all) (sym back) have) in (
      (
        told.state,
        traces_to contents c.args.paths.now first b text plan s begun new shows is (KeepsFiles-trans first a b keeps c.in_ok-files.ensures.same) told,
        have_texts contents first _ s r t told.done.table joined,
      ),
      c.in_ok-join_all-in-Ok.ensures.failed ∙ led.1 ∙ c.in_ok-files.ensures.failed,
    )

pub returns-in_err-join_all-in-Ok-clause-same : goal.returns-in_err-join_all-in-Ok-clause-same
returns-in_err-join_all-in-Ok-clause-same g c = KeepsFiles-trans _ _ _ (KeepsFiles-trans _ _ _ c.in_ok-files.ensures.same c.in-Ok.ensures.same) c.in_err-join_all-in-Ok.ensures.same

pub returns-clause-led : goal.returns-clause-led
returns-clause-led g c = λ first text keeps shows is.
    let inputs = inputs_of c.args.paths.now in
    let log = g.F.Folder.failed c.args.folder.now in
    subst (λ now. FailsToGather c.in-Err.failure inputs first log now) (sym c.abandon_all.ensures.failed)
    (not_led_from inputs first (g.F.Folder.files c.begin_all.new.folder) text c.args.plan log (g.F.Folder.failed c.begin_all.new.folder) (g.F.Folder.failed c.tell.new.folder) shows is
    (KeepsFiles-trans first _ _ keeps c.in_ok-files.ensures.same) c.in_ok-files.ensures.failed c.in-Err.failure c.in-Err.ensures.led)

pub returns-clause-same : goal.returns-clause-same
returns-clause-same g c = KeepsFiles-trans _ _ _ (KeepsFiles-trans _ _ _ c.in_ok-files.ensures.same c.in-Err.ensures.same) c.abandon_all.ensures.same

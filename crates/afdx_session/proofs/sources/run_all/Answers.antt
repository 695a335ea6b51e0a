use Rattle.std.proofs.Common.{List, length, map, ap, sym, subst, ◌∙◌}
use Rattle.std.proofs.lemmas.List.{length-map}
use Rattle.afdx_table.specs.declared.rows.PortRow.{PortRow}
use Rattle.afdx_table.specs.Content.{Content}
use Rattle.afdx_table.specs.WellFormed.{IsWellFormed}
use Rattle.afdx_session.specs.Outcome.{table_in, is_cleared}
use Rattle.afdx_session.specs.Session.{Seen}
use Rattle.afdx_session.specs.Finish.{texts_in}
use Rattle.afdx_session.specs.Sources.{IsSourceFault}
use Rattle.afdx_session.specs.Inner.Sources.{IsOfTable}
use Rattle.afdx_session.specs.Inner.Stop.{IsStopSince}
use Rattle.afdx_session.proofs.FromReaders.{of_fresh, of_read, read_fresh, runs_from, not_finished, fault_from}
use Rattle.afdx_session.proofs.sources.run_all.Goals as goal

pub read_all-requires-clause-of : goal.read_all-requires-clause-of
read_all-requires-clause-of g c =
    let t = table_in c.args.plan in
    let formed = subst IsWellFormed c.table.ensures.table c.ports.ensures.well_formed in
    subst (λ (w : Seen). IsOfTable w.table w) (sym c.in-Ok.ensures.ok) (of_fresh (is_cleared c.args.plan) t formed.ports_rise)

pub read_all-requires-clause-readers : goal.read_all-requires-clause-readers
read_all-requires-clause-readers g c =
    let t = table_in c.args.plan in
    let rows = c.ports.ensures.ports ∙ ap (λ (u : Content). u.ports) c.table.ensures.table in
    let numbers = c.deref.ensures.value ∙ c.in_ok-ports.ensures ∙ ap (λ (ps : List PortRow). map (λ p. p.id) ps) rows in
    c.requires.readers ∙ sym (length-map t.ports (λ (p : PortRow). p.id)) ∙ ap length (sym numbers)

pub read_all-requires-clause-files : goal.read_all-requires-clause-files
read_all-requires-clause-files g c =
    let t = table_in c.args.plan in
    let rows = c.ports.ensures.ports ∙ ap (λ (u : Content). u.ports) c.table.ensures.table in
    let numbers = c.deref.ensures.value ∙ c.in_ok-ports.ensures ∙ ap (λ (ps : List PortRow). map (λ p. p.id) ps) rows in
    c.requires.files ∙ sym (length-map t.ports (λ (p : PortRow). p.id)) ∙ ap length (sym numbers)

pub first_failure-requires-clause-stopped : goal.first_failure-requires-clause-stopped
first_failure-requires-clause-stopped g c =
    let t = table_in c.args.plan in
    let rem = g.R.Read.remaining in
    let readers = c.args.readers.now in
    let since = subst (λ (w : Seen). IsStopSince rem w readers c.read_all.new.readers c.in-Err-read_all.stop) c.in-Ok.ensures.ok c.in-Err-read_all.ensures.err in
    (t, readers, since readers (read_fresh rem (is_cleared c.args.plan) t readers))

pub returns-in-Err-read_all-clause-err : goal.returns-in-Err-read_all-clause-err
returns-in-Err-read_all-clause-err g c =
    let t = table_in c.args.plan in
    let rem = g.R.Read.remaining in
    let readers = c.args.readers.now in
    let since = subst (λ (w : Seen). IsStopSince rem w readers c.read_all.new.readers c.in-Err-read_all.stop) c.in-Ok.ensures.ok c.in-Err-read_all.ensures.err in
    c.first_failure.ensures t readers (since readers (read_fresh rem (is_cleared c.args.plan) t readers))

pub returns-in-Ok-end_into-clause-ok : goal.returns-in-Ok-end_into-clause-ok
returns-in-Ok-end_into-clause-ok g c =
    let t = table_in c.args.plan in
    let formed = subst IsWellFormed c.table.ensures.table c.ports.ensures.well_formed in
    let all = c.in-Ok-read_all.ensures.ok in
    let rest = c.in-Ok-end_into.rest in
    runs_from c.takes_join_to_the_output.ensures.none g.R.Read.remaining g.F.NewFile.contents (is_cleared c.args.plan) t c.in-Ok.session c.in-Ok-read_all.session c.args.readers.now
    c.read_all.new.readers c.args.files.now c.read_all.new.files c.end_into.new.files rest.counts rest.state formed.ports_rise c.in-Ok.ensures.ok c.requires.readers all.0 all.1
    c.in-Ok-end_into.ensures.ok.0 c.in-Ok-end_into.ensures.ok.1

pub source_fault-requires-in-Err-end_into : goal.source_fault-requires-in-Err-end_into
source_fault-requires-in-Err-end_into g c =
    let later = c.in-Ok-read_all.session in
    let fault = c.in-Err-end_into.fault in
    of_read (texts_in later) fault (not_finished c.in-Ok.session.table later fault c.in-Ok-read_all.ensures.ok.0.of c.in-Err-end_into.ensures.err)

pub returns-clause-err : goal.returns-clause-err
returns-clause-err g c =
    let t = table_in c.args.plan in
    let formed = subst IsWellFormed c.table.ensures.table c.ports.ensures.well_formed in
    let all = c.in-Ok-read_all.ensures.ok in
    subst (IsSourceFault g.R.Read.remaining t c.args.readers.now) (sym c.source_fault-in-Err-end_into.ensures)
    (fault_from c.takes_join_to_the_output.ensures.none g.R.Read.remaining g.F.NewFile.contents (is_cleared c.args.plan) t c.in-Ok.session c.in-Ok-read_all.session c.args.readers.now
    c.read_all.new.readers c.args.files.now c.read_all.new.files c.in-Err-end_into.fault formed.ports_rise c.in-Ok.ensures.ok c.requires.readers all.0 all.1
    c.in-Err-end_into.ensures.err)

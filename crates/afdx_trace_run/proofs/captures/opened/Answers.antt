use Rattle.std.proofs.Common.{◌≡◌, List, [], length, sym, ap, ◌∙◌, subst}
use Rattle.std.proofs.lemmas.List.{length-map}
use Rattle.afdx_table.specs.declared.rows.PortRow.{PortRow}
use Rattle.afdx_table.specs.Content.{Content}
use Rattle.afdx_merging.specs.declared.clock.Clock.{Clock}
use Rattle.afdx_merging.specs.Inner.Merging.{HasMerged}
use Rattle.afdx_merging.proofs.Failing.{of_error}
use Rattle.afdx_merging.specs.Merge.{same_clock}
use Rattle.afdx_session.specs.declared.sources.SourceFault.{SourceFault}
use Rattle.afdx_session.specs.declared.sources.SourceFault.TheVariants.{Memory}
use Rattle.afdx_session.specs.Sources.{IsSourceFault}
use Rattle.afdx_trace_run.specs.Inner.Running.{source_fault}
use Rattle.afdx_trace_run.proofs.Faults.{is_among, is_source_fault}
use Rattle.afdx_trace_run.proofs.captures.opened.Goals as goal

pub open-requires : goal.open-requires
open-requires g c = c.requires ∙ sym (ap length (c.deref.ensures.value ∙ c.in_ok-clocks.ensures) ∙ length-map c.args.ports.now (λ (p : PortRow). same_clock))

pub returns-in-Ok-clause-ok : goal.returns-in-Ok-clause-ok
returns-in-Ok-clause-ok g c =
    subst (λ (clocks : List Clock). HasMerged g.R.Read.remaining clocks c.args.readers.now c.open.new.readers c.in-Ok.merging []) (c.deref.ensures.value ∙ c.in_ok-clocks.ensures) c.in-Ok.ensures.ok

pub source_fault-requires : goal.source_fault-requires
source_fault-requires g c = is_among g.R.Read.remaining c.args.readers.now c.args.ports.now c.in-Err.fault c.requires c.in-Err.ensures.err

pub returns-clause-err : goal.returns-clause-err
returns-clause-err g c = λ t same.
    subst (IsSourceFault g.R.Read.remaining t c.args.readers.now) (sym (c.source_fault.ensures ∙ ap (λ (ports : List PortRow). source_fault ports c.in-Err.fault) (sym same)))
    (is_source_fault g.R.Read.remaining t c.args.readers.now c.in-Err.fault (c.requires ∙ sym (ap length same)) c.in-Err.ensures.err)

pub returns-in_err-clocks-clause-err : goal.returns-in_err-clocks-clause-err
returns-in_err-clocks-clause-err g c =
    of_error (λ (fault : SourceFault). (t : Content) → t.ports ≡ c.args.ports.now → IsSourceFault g.R.Read.remaining t c.args.readers.now fault) c.from_residual.result Memory c.from_residual.ensures
    (λ t same. tt)

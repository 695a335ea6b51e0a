use Rattle.std.proofs.Common.{List, [], length, map, sym, ap, ◌∙◌}
use Rattle.std.proofs.lemmas.List.{length-map}
use Rattle.afdx_merging.specs.Merge.{same_clock}
use Rattle.afdx_wiring.specs.declared.layout.End.{End}
use Rattle.afdx_network.proofs.Taking.{opened, fault_among, fault_there}
use Rattle.afdx_network.proofs.intake.Intake.open.Goals as goal

pub open-requires : goal.open-requires
open-requires g c =
    c.requires ∙ ap (λ (es : List End). length es) (sym c.in_ok-ends.ensures) ∙ sym (length-map c.in_ok-ends.ends.items (λ (e : End). same_clock))
    ∙ ap length (ap (λ (es : List End). map (λ (e : End). same_clock) es) (sym c.deref.ensures.value) ∙ sym c.in_ok-clocks.ensures ∙ sym c.deref-2.ensures.value)

pub returns-in-Ok-clause-ok : goal.returns-in-Ok-clause-ok
returns-in-Ok-clause-ok g c =
    opened g.R.Read.remaining c.args.network.now c.args.readers.now c.open.new.readers
    (record { ends = c.in_ok-ends.ends; lines = c.in_ok-lines.lines; merging = c.in-Ok.merging }) c.deref-2.result.now []
    c.in_ok-ends.ensures c.in_ok-lines.ensures (c.deref-2.ensures.value ∙ c.in_ok-clocks.ensures ∙ ap (λ (es : List End). map (λ (e : End). same_clock) es) c.deref.ensures.value) c.in-Ok.ensures.ok

pub fault_at-requires : goal.fault_at-requires
fault_at-requires g c =
    fault_among g.R.Read.remaining c.args.readers.now c.deref-in-Err.result.now c.in-Err.fault
    (c.requires ∙ ap (λ (es : List End). length es) (sym (c.deref-in-Err.ensures.value ∙ c.in_ok-ends.ensures))) c.in-Err.ensures.err

pub returns-in-Err-clause-err : goal.returns-in-Err-clause-err
returns-in-Err-clause-err g c =
    fault_there g.R.Read.remaining c.args.network.now c.args.readers.now c.deref-in-Err.result.now c.in-Err.fault c.fault_at.result
    (c.deref-in-Err.ensures.value ∙ c.in_ok-ends.ensures) c.in-Err.ensures.err
    c.fault_at.ensures

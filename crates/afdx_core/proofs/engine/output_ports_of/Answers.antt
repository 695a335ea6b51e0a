use Rattle.afdx_table.specs.declared.rows.PortRow.{PortRow}
use Rattle.afdx_units.specs.declared.line.Speed.TheVariants.{Ten}
use Rattle.std.proofs.Common.{sym, subst, arith, ap, ◌∙◌, map, get_or}
use Rattle.afdx_core.specs.Inner.OutputPorts.{seen}
use Rattle.afdx_core.specs.Inner.Engine.{fresh_out}
use Rattle.afdx_core.proofs.Outs.{fresh_push}
use Rattle.std.specs.Prelude.{All}
use Rattle.afdx_table.specs.WellFormed.{IsPort}
use Rattle.afdx_core.proofs.Lists.{All-from}
use Rattle.afdx_core.proofs.engine.output_ports_of.Goals as goal

pub new-requires-clause-latency : goal.new-requires-clause-latency
new-requires-clause-latency g c = omega (arith, c.latency.ensures.latency, c.latency.ensures.well_formed.latency_most)

pub new-requires-clause-port : goal.new-requires-clause-port
new-requires-clause-port g c =
    let all = All-from IsPort c.args.table.now.ports c.ports-row-items.ensures.well_formed.ports in
    subst (All IsPort) (sym c.ports-row-items.ensures.ports) all c.loop-row.row-index _ (omega (arith, c.loop-row-test.true))

-- what the lists of rows are read with past their end
abbrev no_row : PortRow
no_row = record { id = 0; speed = Ten; buffer = 0; max_delay = 0 }

pub loop-row-preserved : goal.loop-row-preserved
loop-row-preserved g c =
    let rows = c.ports-row-items.result.now in
    let i = c.loop-row.row-index in (
      c.ports-row-items.ensures.ports,
      ap (map seen) c.in_ok-push.ensures.items
          ∙ fresh_push c.args.keeps c.args.table.now.latency rows c.loop-row.output_ports.items i c.new.result no_row (omega (arith, c.loop-row-test.true)) c.loop-row.invariant.1
          (c.new.ensures ∙ ap (λ n. fresh_out c.args.keeps n (get_or rows i no_row)) c.latency.ensures.latency),
    )

use Rattle.std.proofs.Common.{ℕ, [], get_or, arith, refl}
use Rattle.std.specs.Prelude.{if◌then◌else◌, option_to_list}
use Rattle.afdx_table.specs.Content.{port_row}
use Rattle.afdx_following.specs.Output.{Output}
use Rattle.afdx_recordings.specs.Recordings.{is_recorded}
use Rattle.afdx_compare.specs.Comparison.{output_first, outputs_first}
use Rattle.afdx_compare.proofs.Making.{made_more, made_all}
use Rattle.afdx_compare.proofs.comparison.outputs_of.Goals as goal

pub loop-port-preserved : goal.loop-port-preserved
loop-port-preserved g c =
    let m = c.args.making.now in
    let t = m.table.now in
    let priority = c.args.priority in
    let ports = c.args.ports.now in
    let i = c.loop-port.port-index in
    made_more {X = ℕ} {Y = Output} (λ k port. if is_recorded m.outputs port then output_first m.watch t m.keeps priority port (port_row t port) else [])
    (λ k rest. outputs_first m.watch t m.outputs m.keeps priority rest) (λ k port rest. refl) (outputs_first m.watch t m.outputs m.keeps priority ports) ports i (get_or ports i 0) 0
    c.loop-port.outputs.items (option_to_list c.output_at-output.result) c.add.new.outputs.items (omega arith) refl c.output_at-output.ensures c.in_ok-add.ensures c.loop-port.invariant

pub returns : goal.returns
returns g c =
    let m = c.args.making.now in
    let t = m.table.now in
    let priority = c.args.priority in
    let ports = c.args.ports.now in
    made_all {X = ℕ} {Y = Output} (λ k rest. outputs_first m.watch t m.outputs m.keeps priority rest) (λ k. refl) (outputs_first m.watch t m.outputs m.keeps priority ports) ports
    c.loop-port.port-index c.loop-port.outputs.items (omega arith) c.loop-port.invariant

use Rattle.std.proofs.Common.{◌≡◌, ◌++◌, drop}
use Rattle.afdx_compare.specs.Comparison.{outputs_first}
use Rattle.afdx_compare.proofs.comparison.outputs_of.Given as goal

abbrev pub invariant-loop-port : goal.invariant-loop-port
invariant-loop-port g l =
    outputs_first l.making.watch l.making.table.now l.making.outputs l.making.keeps l.priority l.ports
    ≡ l.outputs.items ++ outputs_first l.making.watch l.making.table.now l.making.outputs l.making.keeps l.priority (drop l.port-index l.ports)

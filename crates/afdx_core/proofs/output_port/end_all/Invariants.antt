use Rattle.afdx_core.specs.Inner.OutputPorts.{ended_out}
use Rattle.afdx_core.specs.Inner.Copies.{HoldsCopies, Thinned}
use Rattle.afdx_core.proofs.Outs.{BecameUpTo}
use Rattle.afdx_core.proofs.output_port.end_all.Given as goal

abbrev pub invariant-loop-output_port : goal.invariant-loop-output_port
invariant-loop-output_port g l = record {
  became : BecameUpTo (ended_out) l.initial.output_ports l.output_ports l.output_port-index;
  holds : HoldsCopies l.store.held l.output_ports;
  thinned : Thinned l.initial.store.held l.store.held;
}

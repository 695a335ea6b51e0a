use Rattle.std.proofs.Common.{◌∙◌}
use Rattle.afdx_trace.proofs.Placed.{found_within}
use Rattle.afdx_trace.proofs.tracing.find_port.Goals as goal

pub returns-clause-place : goal.returns-clause-place
returns-clause-place g c = c.place_of.ensures ∙ c.requires c.args.port

pub returns-clause-within : goal.returns-clause-within
returns-clause-within g c = found_within c.args.port c.args.ports.now c.place_of.result (c.place_of.ensures ∙ c.requires c.args.port)

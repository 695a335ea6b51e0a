use Rattle.std.proofs.Common.{[]}
use Rattle.afdx_port.proofs.Alike.{fit_alike}
use Rattle.afdx_port.proofs.laws.buffers_serve_alike.Goals as goal

pub returns : goal.returns
returns c = λ s bytes items h. fit_alike s bytes [] items h

use Rattle.std.proofs.Common.{ℕ, List, arith, subst, sym}
use Rattle.afdx_recordings.specs.Recordings.{IsPort}
use Rattle.afdx_recordings.proofs.Folding.{of_none}
use Rattle.afdx_recordings.proofs.offsets.said.Goals as goal

pub returns-in_err-port-2 : goal.returns-in_err-port-2
returns-in_err-port-2 c =
    let cut = c.in_ok-port.ensures.byte (omega arith) (λ w o h. h) in
    of_none _ _ _ c.from_residual-in_err-port-2.ensures
    (λ port offset says. c.in_err-port-2.ensures port (subst (λ (t : List ℕ). IsPort t port) (sym cut.0) says.port_is))

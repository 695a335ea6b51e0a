use Rattle.std.proofs.Common.{refl, inl}
use Rattle.afdx_wiring.specs.declared.fault.NetworkFault.TheVariants as fault
use Rattle.afdx_messages.specs.declared.failure.Failure.TheVariants.{Memory}
use Rattle.afdx_serve.proofs.Errors.{of_error}
use Rattle.afdx_serve.proofs.network_check.network_text.Goals as goal

pub returns-in_err-names : goal.returns-in_err-names
returns-in_err-names c = of_error _ _ _ Memory c.from_residual.ensures (inl (fault.Memory, (λ no. absurd (no refl)), tt))

pub returns-in_err-text : goal.returns-in_err-text
returns-in_err-text c = of_error _ _ _ Memory c.from_residual-in_err-text.ensures (inl (fault.Memory, (λ no. absurd (no refl)), tt))

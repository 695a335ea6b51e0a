use Rattle.afdx_arguments.proofs.ArgumentLemmas.{of_none}
use Rattle.afdx_arguments.proofs.FailOnLemmas.{never_twice}
use Rattle.afdx_arguments.proofs.fail_on.FailOn.of_list.Goals as goal

pub returns-in_err-policed : goal.returns-in_err-policed
returns-in_err-policed c = of_none _ _ _ c.from_residual.ensures (λ chosen h. never_twice _ chosen.policed c.in_err-policed.ensures h.policed)

pub returns-in_err-filtered : goal.returns-in_err-filtered
returns-in_err-filtered c = of_none _ _ _ c.from_residual-in_err-filtered.ensures (λ chosen h. never_twice _ chosen.filtered c.in_err-filtered.ensures h.filtered)

pub returns-in_err-lost : goal.returns-in_err-lost
returns-in_err-lost c = of_none _ _ _ c.from_residual-in_err-lost.ensures (λ chosen h. never_twice _ chosen.lost c.in_err-lost.ensures h.lost)

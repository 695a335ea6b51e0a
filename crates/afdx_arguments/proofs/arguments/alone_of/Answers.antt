use Rattle.afdx_arguments.proofs.ArgumentLemmas.{of_none}
use Rattle.afdx_arguments.proofs.arguments.alone_of.Goals as goal

pub returns-in_err-id : goal.returns-in_err-id
returns-in_err-id c = of_none _ _ _ c.from_residual.ensures (λ link h. c.in_err-id.ensures h.id h.has_id)

pub returns-in_err-bag : goal.returns-in_err-bag
returns-in_err-bag c = of_none _ _ _ c.from_residual-in_err-bag.ensures (λ link h. c.in_err-bag.ensures h.bag h.has_bag)

pub returns-in_err-jitter : goal.returns-in_err-jitter
returns-in_err-jitter c = of_none _ _ _ c.from_residual-in_err-jitter.ensures (λ link h. c.in_err-jitter.ensures h.jitter h.has_jitter)

pub returns-in_err-size : goal.returns-in_err-size
returns-in_err-size c = of_none _ _ _ c.from_residual-in_err-size.ensures (λ link h. c.in_err-size.ensures h.size h.has_size)

use Rattle.afdx_serve.proofs.CompareLemmas.{not_fitting, is_fitting, is_unfit}
use Rattle.afdx_serve.proofs.Errors.{of_error}
use Rattle.afdx_serve.proofs.compare.get_fitting.Goals as goal

pub returns-in_err-table-clause-got : goal.returns-in_err-table-clause-got
returns-in_err-table-clause-got g c =
    of_error _ _ _ c.in_err-table.field-0.0 c.from_residual.ensures (not_fitting c.in_err-table.field-0.0 _ _ c.args.recordings.now _ _ c.in_err-table.ensures.got)

pub returns-in-Some-clause-got : goal.returns-in-Some-clause-got
returns-in-Some-clause-got g c =
    let got = c.in_ok-table.ensures.got in
    (is_unfit _ _ c.args.recordings.now _ _ got.0 c.first_argument_fault.ensures _ c.in-Some.is, got.1)

pub returns-in-None-clause-got : goal.returns-in-None-clause-got
returns-in-None-clause-got g c =
    let got = c.in_ok-table.ensures.got in
    (is_fitting _ _ c.args.recordings.now _ _ got.0 c.first_argument_fault.ensures c.in-None.is, got.1)

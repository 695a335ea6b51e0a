use Rattle.std.proofs.Common.{ap, length, ◌∙◌}
use Rattle.afdx_merging.specs.Read.{IsMergeFault, WereAllRead}
use Rattle.afdx_merging.proofs.Failing.{of_error}
use Rattle.afdx_merging.proofs.Opening.{merged_first}
use Rattle.afdx_merging.proofs.merging.Merging.open.Goals as goal

pub read_first-requires-clause-fresh : goal.read_first-requires-clause-fresh
read_first-requires-clause-fresh g c = (c.args.clocks.now, c.deref_mut.ensures.value ∙ c.in_ok-lanes.ensures, c.requires)

pub returns-in_err-read_first-clause-err : goal.returns-in_err-read_first-clause-err
returns-in_err-read_first-clause-err g c =
    let out = c.from_residual-in_err-read_first in
    of_error (λ fault. IsMergeFault g.R.Read.remaining c.args.readers.now fault) out.result c.in_err-read_first.field-0.0 out.ensures c.in_err-read_first.ensures.err.0

pub returns-in_err-read_first-clause-read : goal.returns-in_err-read_first-clause-read
returns-in_err-read_first-clause-read g c =
    let out = c.from_residual-in_err-read_first in
    of_error (λ fault. WereAllRead g.R.Read.remaining c.read_first.new.readers fault) out.result c.in_err-read_first.field-0.0 out.ensures c.in_err-read_first.ensures.err.1

pub returns-clause-ok : goal.returns-clause-ok
returns-clause-ok g c =
    let are = c.in_ok-lanes.ensures in
    let on = c.in_ok-read_first.ensures in
    merged_first g.R.Read.remaining c.args.clocks.now c.args.readers.now c.read_first.new.readers c.in_ok-lanes.lanes c.in_ok-piece.piece c.read_first.new.lanes c.read_first.new.piece are
    (on.ok c.args.clocks.now (c.deref_mut.ensures.value ∙ are) c.requires) c.requires on.kept (on.room ∙ ap length c.deref_mut-2.ensures.value)

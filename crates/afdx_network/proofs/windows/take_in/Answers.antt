use Rattle.std.proofs.Common.{◌++◌, ◌∙◌}
use Rattle.afdx_network.specs.declared.fault.NetworkRunFault.TheVariants as fault
use Rattle.afdx_network.specs.declared.fault.Stop.TheVariants as stop
use Rattle.afdx_network.specs.Inner.Windows.{IsStop}
use Rattle.afdx_network.proofs.Answering.{of_error}
use Rattle.afdx_network.proofs.Going.{none_taken_in, one_taken_in, no_memory}
use Rattle.afdx_network.proofs.windows.take_in.Goals as goal

pub loop-record-init : goal.loop-record-init
loop-record-init g c = record {
  taken = none_taken_in g.R.Read.remaining c.args.readers.now c.args.intake.now c.args.sites.now c.requires.going;
  noted = λ net keeps origins known. known;
}

pub put_next-requires-clause-going : goal.put_next-requires-clause-going
put_next-requires-clause-going g c = c.loop-record.invariant.taken.going

pub put_next-requires-clause-on : goal.put_next-requires-clause-on
put_next-requires-clause-on g c =
    let on = c.requires.on in
    let now = c.loop-record.invariant.taken.on on.0 on.1 on.2 on.3 in
    (on.0, on.1, on.2 ++ now.0, now.1, c.loop-record.invariant.taken.all ∙ on.4)

pub loop-record-preserved : goal.loop-record-preserved
loop-record-preserved g c =
    let l = c.loop-record in
    let now = c.in_ok-put_next.ensures in
    record {
      taken = one_taken_in g.R.Read.remaining c.args.readers.now c.args.intake.now c.args.sites.now l.readers c.put_next.new.readers l.intake c.put_next.new.intake l.sites c.put_next.new.sites
          l.invariant.taken c.put_next.auto.sites now.going now.reached now.gone now.on now.ok;
      noted = λ net keeps origins known. now.noted net keeps origins (l.invariant.noted net keeps origins known);
    }

pub returns-clause-err : goal.returns-clause-err
returns-clause-err g c = λ net first came given h w.
    let l = c.loop-record in
    let was = l.invariant.taken.ok net first came given h w in
    no_memory g.R.Read.remaining net first l.readers l.intake (came ++ was.more) was.on.taken

pub returns-in_err-put_next-clause-err : goal.returns-in_err-put_next-clause-err
returns-in_err-put_next-clause-err g c = λ net first came given h w.
    let l = c.loop-record in
    let was = l.invariant.taken.ok net first came given h w in
    of_error (IsStop g.R.Read.remaining net first c.put_next.new.readers c.put_next.new.intake) c.from_residual.result c.in_err-put_next.field-0.0 c.from_residual.ensures
    (c.in_err-put_next.ensures.err net first (came ++ was.more) was.given h was.on)

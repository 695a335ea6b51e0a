use Rattle.std.proofs.Common.{ap, sym, subst}
use Rattle.afdx_count.specs.Tally.{Tally}
use Rattle.afdx_session.specs.Outcome.{table_in}
use Rattle.afdx_session.specs.Written.{IsWritten}
use Rattle.afdx_session.specs.Inner.Rest.{Rest}
use Rattle.afdx_session.proofs.sources.run_from.Goals as goal

pub returns-clause-ok : goal.returns-clause-ok
returns-clause-ok g c =
    let ran = c.in_ok-counts.ensures.ok in (
      ran.0,
      ran.1,
      subst (λ (counts : Tally). IsWritten g.F.NewFile.contents (table_in c.args.plan) ran.0 c.args.files.now c.run_all.new.files counts)
          (sym (ap (λ (r : Rest). r.counts) c.counts.view_is)) ran.2,
    )

use Rattle.std.proofs.Common.{[], subst}
use Rattle.std.proofs.lemmas.List.{get_or-replicate}
use Rattle.afdx_table.specs.Content.{Content}
use Rattle.afdx_core.specs.Kept.{AccountsAgree}
use Rattle.afdx_trace.proofs.tracer.Tracer.new.Goals as goal

pub returns : goal.returns
returns g c = record {
  accounts = subst (λ (t : Content). AccountsAgree t.links [] 0 c.in_ok-accounts.accounts.items) c.table.ensures c.in_ok-accounts.ensures;
  records = λ port lt. get_or-replicate 256 port 0 0 lt;
  taken = c.in_ok-taken.ensures;
}

use Rattle.std.proofs.Common.{rules, List, ap, ◌∙◌}
use Rattle.afdx_network.specs.Inner.Outputs.{Output, texts_in, gone_in}
use Rattle.afdx_network.proofs.Recording.{silent_left, silent_gone}
use Rattle.afdx_network.proofs.site.Site.new.Goals as goal

pub returns-clause-fresh : goal.returns-clause-fresh
returns-clause-fresh c =
    let outputs = rw c.ports.ensures.ports at c.in_ok-outputs.ensures in
    record {
      paced = search rules;
      left = ap (λ (all : List Output). texts_in all) outputs ∙ silent_left c.args.table.now.ports;
      gone = ap (λ (all : List Output). gone_in all) outputs ∙ silent_gone c.args.table.now.ports;
      next = search rules;
    }

use Rattle.afdx_network.proofs.Printed.{printed_delays_are_kept}
use Rattle.afdx_network.proofs.laws.printed_delays_are_kept.Goals as goal

pub returns : goal.returns
returns c =
    printed_delays_are_kept (record {
      exact = c.clean_exactly.ensures;
      verdicts = c.verdicts_name_links.ensures;
      links = c.links_are_found.ensures;
      early = c.records_are_early.ensures;
      back = c.written_texts_read_back.ensures;
    })
    c.agreement_is_wired.ensures c.network_runs_deliver.ensures

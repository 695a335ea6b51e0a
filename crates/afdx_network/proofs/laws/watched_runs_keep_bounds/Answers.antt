use Rattle.afdx_network.proofs.WatchedBounds.{watched_runs_keep_bounds}
use Rattle.afdx_network.proofs.laws.watched_runs_keep_bounds.Goals as goal

pub returns : goal.returns
returns c =
    watched_runs_keep_bounds (record {
      exact = c.clean_exactly.ensures;
      verdicts = c.verdicts_name_links.ensures;
      links = c.links_are_found.ensures;
      early = c.records_are_early.ensures;
      back = c.written_texts_read_back.ensures;
    }) (record {
      stages = c.lined_stages.ensures;
      wired = c.ports_keep_to_lines.ensures;
      grouping = record {
        links = c.links_are_found.ensures;
        asks = c.asks_what_its_account_gives.ensures;
        curves = c.curves_are_enough.ensures;
        least = c.bursts_are_least.ensures.least;
        none_more = c.bursts_are_least.ensures.most;
        once = c.no_more_is_paid_for.ensures;
      };
      scatter = c.less_scatter_bounds_no_more.ensures;
    }) c.lined_sent_keep_bounds.ensures c.outcomes_isolate.ensures.plain

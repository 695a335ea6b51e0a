use Rattle.afdx_network.proofs.site.Site.finish.Goals as goal

pub returns-clause-counts : goal.returns-clause-counts
returns-clause-counts g c = rw (← c.self.view_is) c.in_ok-counts.ensures.counts

use Rattle.afdx_network.proofs.site.Site.into_measured.Goals as goal

pub returns-clause-counts : goal.returns-clause-counts
returns-clause-counts c = rw (← c.self.view_is) c.finish.ensures.counts

pub returns-clause-switch : goal.returns-clause-switch
returns-clause-switch c = rw (← c.self.view_is) c.finish.ensures.switch

pub returns-clause-kept : goal.returns-clause-kept
returns-clause-kept c = rw (← c.self.view_is) c.finish.ensures.keeps

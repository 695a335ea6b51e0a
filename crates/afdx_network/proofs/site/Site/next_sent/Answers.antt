use Rattle.afdx_network.proofs.site.Site.next_sent.Goals as goal

pub returns : goal.returns
returns c = rw (← c.self.view_is) c.next_sent.ensures

use Rattle.afdx_core.proofs.Joining.{arrivals_go_on, advances_go_on, finish_goes_on}
use Rattle.afdx_core.proofs.laws.calls_add_what_is_sent.Goals as goal

pub returns-clause-arrivals : goal.returns-clause-arrivals
returns-clause-arrivals c = arrivals_go_on c.feeds_are_admitted_in_parts.ensures c.lagging_ports_follow.ensures.advance c.lagging_ports_follow.ensures.offer c.events_come_in_parts.ensures.sent

pub returns-clause-advance : goal.returns-clause-advance
returns-clause-advance c = advances_go_on c.lagging_ports_follow.ensures.advance c.events_come_in_parts.ensures.sent

pub returns-clause-finish : goal.returns-clause-finish
returns-clause-finish c = finish_goes_on c.lagging_ports_follow.ensures.finish c.events_come_in_parts.ensures.sent

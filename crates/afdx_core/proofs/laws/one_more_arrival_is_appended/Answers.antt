use Rattle.std.specs.Prelude.{[]}
use Rattle.afdx_core.proofs.Feeds.{fates-push, feed-push}
use Rattle.afdx_core.proofs.Lists.{each-push}
use Rattle.afdx_core.proofs.laws.one_more_arrival_is_appended.Goals as goal

pub returns : goal.returns
returns c = record { fate = fates-push; copies = feed-push; items = λ f items item. each-push f [] items item }

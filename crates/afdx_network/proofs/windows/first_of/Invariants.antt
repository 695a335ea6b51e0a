use Rattle.std.proofs.Common.{take}
use Rattle.afdx_network.specs.Inner.Sites.{IsFirst}
use Rattle.afdx_network.proofs.windows.first_of.Given as goal

abbrev pub invariant-loop-site : goal.invariant-loop-site
invariant-loop-site l = IsFirst (take l.site-index l.sites) l.first

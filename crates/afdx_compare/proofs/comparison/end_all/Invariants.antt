use Rattle.std.proofs.Common.{◌≡◌, ◌++◌, map, take, drop}
use Rattle.afdx_following.specs.Watched.{with_ends}
use Rattle.afdx_compare.proofs.comparison.end_all.Given as goal

abbrev pub invariant-loop-link : goal.invariant-loop-link
invariant-loop-link g l = l.links ≡ map (with_ends l.last) (take l.link-index l.initial.links) ++ drop l.link-index l.initial.links

use Rattle.std.proofs.Common.{◌≡◌, ◌++◌, false, length}
use Rattle.std.specs.Prelude.{All}
use Rattle.std.specs.List.{AllZip}
use Rattle.std.specs.Vec.Iter.{into_iter_items, into_iter_len}
use Rattle.afdx_network.specs.Inner.Noted.{HasEnded}
use Rattle.afdx_network.proofs.windows.measured_of.Given as goal

abbrev pub invariant-loop-site : goal.invariant-loop-site
invariant-loop-site l = record {
  whole : l.yielded ++ into_iter_items l.site-iterator ≡ into_iter_items l.initial.site-iterator;
  left : into_iter_len l.site-iterator ≡ length (into_iter_items l.site-iterator);
  going : All (λ s. s.paced.failed ≡ false) (into_iter_items l.site-iterator);
  ended : AllZip HasEnded l.yielded l.all.items;
}

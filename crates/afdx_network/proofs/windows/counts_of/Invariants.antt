use Rattle.std.proofs.Common.{◌≡◌, ◌++◌, false, length}
use Rattle.std.specs.Prelude.{All}
use Rattle.std.specs.Vec.Iter.{into_iter_items, into_iter_len}
use Rattle.afdx_network.specs.Inner.Sites.{counts_at}
use Rattle.afdx_network.proofs.Settling.{AreSettled}
use Rattle.afdx_network.proofs.windows.counts_of.Given as goal

abbrev pub invariant-loop-site : goal.invariant-loop-site
invariant-loop-site g l = record {
  whole : l.yielded ++ into_iter_items l.site-iterator ≡ into_iter_items l.initial.site-iterator;
  left : into_iter_len l.site-iterator ≡ length (into_iter_items l.site-iterator);
  going : All (λ s. s.paced.failed ≡ false) (into_iter_items l.site-iterator);
  counts : l.counts.items ≡ counts_at l.yielded;
  settled : AreSettled g.F.NewFile.contents (into_iter_items l.initial.site-iterator) l.yielded (into_iter_items l.site-iterator) l.initial.files l.files l.first;
}

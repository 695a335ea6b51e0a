use Rattle.std.proofs.Common.{◌≡◌, ◌+◌, ℕ, List, ◌∷◌, length, Option}
use Rattle.std.specs.Vec.Iter.{into_iter_items, into_iter_len}
use Rattle.afdx_folder.specs.Files.{Files, KeepsFiles}
use Rattle.afdx_serve.specs.Inner.Outputs.{HaveBytes}
use Rattle.afdx_serve.proofs.JoinLemmas.{IsJoining}
use Rattle.afdx_serve.proofs.trace.join_all.Given as goal

abbrev pub invariant-loop-part : goal.invariant-loop-part
invariant-loop-part g l = record {
  count : into_iter_len l.files ≡ length (into_iter_items l.files);
  two : length l.both.items ≡ 2;
  joining : (first : Option Files) (arrivals departures : List ℕ) (parts : List (List ℕ)) → length parts + 2 ≡ length l.fn.files.items
      → HaveBytes g.F.New.NewFile.contents first l.fn.files.items (arrivals ∷ departures ∷ parts)
      → IsJoining g.F.New.NewFile.contents first arrivals departures parts l.both.items (into_iter_items l.files);
  same : KeepsFiles (g.F.Folder.files l.fn.folder) (g.F.Folder.files l.folder);
  failed : g.F.Folder.failed l.folder ≡ g.F.Folder.failed l.fn.folder;
}

abbrev pub decreases-loop-part : goal.decreases-loop-part
decreases-loop-part g l = into_iter_len l.files

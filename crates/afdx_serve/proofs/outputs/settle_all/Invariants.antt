use Rattle.std.proofs.Common.{◌≡◌, ◌≤◌, ℕ, List, length, drop, Option, vec_capacity}
use Rattle.std.specs.Vec.Iter.{into_iter_items, into_iter_len}
use Rattle.afdx_folder.specs.Files.{Files, KeepsFiles, settled_after}
use Rattle.afdx_serve.specs.Inner.Outputs.{HaveBytes}
use Rattle.afdx_serve.proofs.outputs.settle_all.Given as goal

abbrev pub invariant-loop-name : goal.invariant-loop-name
invariant-loop-name g l = record {
  left : into_iter_items l.files ≡ drop l.name-index l.fn.files.items;
  count : into_iter_len l.files ≡ length (into_iter_items l.files);
  many : length l.settled.items ≡ l.name-index;
  room : length l.names ≤ vec_capacity l.settled;
  have : (first : Option Files) (all : List (List ℕ)) → HaveBytes g.F.New.NewFile.contents first l.fn.files.items all
      → HaveBytes g.F.New.NewFile.contents first l.settled.items all;
  same : KeepsFiles (g.F.Folder.files l.fn.folder) (g.F.Folder.files l.folder);
  failed : g.F.Folder.failed l.folder ≡ settled_after l.name-index (g.F.Folder.failed l.fn.folder);
}

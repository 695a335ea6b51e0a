use Rattle.std.proofs.Common.{◌≡◌, ℕ, List, length, map, take, drop, Option, string_bytes}
use Rattle.std.specs.Vec.Iter.{into_iter_items, into_iter_len}
use Rattle.afdx_folder.specs.Files.{Files, KeepsFiles, PutsFiles}
use Rattle.afdx_serve.specs.Inner.Outputs.{HaveBytes}
use Rattle.afdx_serve.proofs.outputs.move_all.Given as goal

abbrev pub invariant-loop-name : goal.invariant-loop-name
invariant-loop-name g l = record {
  left : into_iter_items l.files ≡ drop l.name-index l.fn.files.items;
  count : into_iter_len l.files ≡ length (into_iter_items l.files);
  put : (first : Option Files) (all : List (List ℕ)) → KeepsFiles first (g.F.Folder.files l.fn.folder) → length all ≡ length l.names
      → HaveBytes g.F.New.NewFile.contents first l.fn.files.items all
      → PutsFiles first (g.F.Folder.files l.folder) (take l.name-index (map string_bytes l.names)) (take l.name-index all);
  failed : g.F.Folder.failed l.folder ≡ g.F.Folder.failed l.fn.folder;
}

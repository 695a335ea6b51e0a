use Rattle.std.proofs.Common.{◌≡◌, ◌≤◌, length, vec_capacity}
use Rattle.afdx_folder.specs.Files.{KeepsFiles}
use Rattle.afdx_serve.specs.Inner.Outputs.{AreEmpty}
use Rattle.afdx_serve.proofs.outputs.begin_all.Given as goal

abbrev pub invariant-loop-name : goal.invariant-loop-name
invariant-loop-name g l = record {
  count : length l.files.items ≡ l.name-index;
  room : length l.names ≤ vec_capacity l.files;
  empty : AreEmpty g.F.New.NewFile.contents (g.F.Folder.files l.fn.folder) l.files.items;
  same : KeepsFiles (g.F.Folder.files l.fn.folder) (g.F.Folder.files l.folder);
  failed : g.F.Folder.failed l.folder ≡ g.F.Folder.failed l.fn.folder;
}

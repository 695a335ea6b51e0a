use Rattle.std.proofs.Common.{◌≡◌, ◌≤◌, length, map, take, string_bytes, vec_capacity}
use Rattle.afdx_folder.specs.Files.{KeepsFiles}
use Rattle.afdx_serve.specs.Inner.Leading.{AreOpened}
use Rattle.afdx_serve.proofs.get.open_all.Given as goal

abbrev pub invariant-loop-name : goal.invariant-loop-name
invariant-loop-name g l = record {
  count : length l.opened.items ≡ l.name-index;
  room : length l.names ≤ vec_capacity l.opened;
  opened : AreOpened g.F.Opened.Read.remaining (g.F.Folder.files l.fn.folder) (map string_bytes (take l.name-index l.names)) l.opened.items;
  same : KeepsFiles (g.F.Folder.files l.fn.folder) (g.F.Folder.files l.folder);
  failed : g.F.Folder.failed l.folder ≡ g.F.Folder.failed l.fn.folder;
}

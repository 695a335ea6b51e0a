use Rattle.std.proofs.Common.{◌≡◌, length, take}
use Rattle.afdx_folder.specs.Files.{ShowsAll, KeepsFiles}
use Rattle.afdx_serve.specs.Networks.{bytes_in, table_names}
use Rattle.afdx_serve.proofs.network_get.get_texts.Given as goal

abbrev pub invariant-loop-switch : goal.invariant-loop-switch
invariant-loop-switch g l = record {
  got : ShowsAll (g.F.Folder.files l.fn.folder) (table_names l.path (take l.switch-index l.switches)) (bytes_in l.texts.items);
  len : length l.texts.items ≡ l.switch-index;
  same : KeepsFiles (g.F.Folder.files l.fn.folder) (g.F.Folder.files l.folder);
  failed : g.F.Folder.failed l.folder ≡ g.F.Folder.failed l.fn.folder;
}

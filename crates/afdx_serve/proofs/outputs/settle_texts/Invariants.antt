use Rattle.std.proofs.Common.{◌≡◌, ◌≤◌, length, map, vec_capacity}
use Rattle.afdx_folder.specs.Files.{KeepsFiles, settled_after}
use Rattle.afdx_serve.specs.Inner.Outputs.{HaveBytes}
use Rattle.afdx_serve.proofs.outputs.settle_texts.Given as goal

abbrev pub invariant-loop-place : goal.invariant-loop-place
invariant-loop-place g l = record {
  many : length l.settled.items ≡ l.place;
  room : length l.names ≤ vec_capacity l.settled;
  have : HaveBytes g.F.New.NewFile.contents (g.F.Folder.files l.fn.folder) l.settled.items (map (λ text. text.items) l.texts);
  same : KeepsFiles (g.F.Folder.files l.fn.folder) (g.F.Folder.files l.folder);
  failed : g.F.Folder.failed l.folder ≡ settled_after l.place (g.F.Folder.failed l.fn.folder);
}

use Rattle.std.proofs.Common.{◌≡◌}
use Rattle.afdx_folder.specs.Files.{KeepsFiles}
use Rattle.afdx_serve.proofs.outputs.abandon_all.Given as goal

abbrev pub invariant-loop-new : goal.invariant-loop-new
invariant-loop-new g l =
    KeepsFiles (g.F.Folder.files l.fn.folder) (g.F.Folder.files l.folder) × (g.F.Folder.failed l.folder ≡ g.F.Folder.failed l.fn.folder)

-- The fault of a folder that a fault of a reader leads to.
use Rattle.afdx_folder.specs.declared.input.InputFault.{InputFault}
use Rattle.afdx_folder.specs.declared.input.InputFault.TheVariants as input
use Rattle.afdx_folder.specs.declared.folder.FolderFault.{FolderFault}
use Rattle.afdx_folder.specs.declared.folder.FolderFault.TheVariants as folder

-- the fault of a folder that a fault of a reader is reported as
abbrev pub folder_fault : InputFault → FolderFault
folder_fault input.Memory = folder.Memory
folder_fault input.Device = folder.Device

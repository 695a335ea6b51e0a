-- Why captures are not got by their names.
use Rattle.std.specs.Prelude.{◌≡◌, ℕ, List, Option, string_bytes}
use Rattle.afdx_table.specs.Content.{Content}
use Rattle.afdx_messages.specs.declared.failure.Failure.{Failure}
use Rattle.afdx_messages.specs.declared.failure.Failure.TheVariants as failure
use Rattle.afdx_folder.specs.Files.{Files, DeviceLog, one_more, one_unread}
use Rattle.afdx_serve.specs.Runs.{GetsNamed, GetsUpTo, WasNotRead}

-- what was opened under a name could not be read
abbrev pub FailsToReadOn : Failure → List ℕ → DeviceLog → DeviceLog → Type 0
FailsToReadOn (failure.Get name) path before after = (string_bytes name ≡ path) × (after ≡ one_unread path before)
FailsToReadOn failure.Memory path before after = Unit {0}
FailsToReadOn _ path before after = ⊥

-- not all of these names were opened
abbrev pub FailsToGetNamed : Failure → Option Files → List (List ℕ) → DeviceLog → DeviceLog → Type 0
FailsToGetNamed (failure.Get name) files names before after = GetsNamed (string_bytes name) files names × (after ≡ one_more (string_bytes name) before)
FailsToGetNamed failure.Memory files names before after = Unit {0}
FailsToGetNamed _ files names before after = ⊥

-- not all captures of the table's ports were opened
abbrev pub FailsToOpenAll : Failure → Option Files → List ℕ → Content → DeviceLog → DeviceLog → Type 0
FailsToOpenAll (failure.Get name) files path t before after = GetsUpTo (string_bytes name) files path t × (after ≡ one_more (string_bytes name) before)
FailsToOpenAll failure.Memory files path t before after = Unit {0}
FailsToOpenAll _ files path t before after = ⊥

-- not all of these names were opened and read
abbrev pub FailsToReadNamed : Failure → Option Files → List (List ℕ) → DeviceLog → DeviceLog → Type 0
FailsToReadNamed (failure.Get name) files names before after = GetsNamed (string_bytes name) files names × WasNotRead (string_bytes name) before after
FailsToReadNamed failure.Memory files names before after = Unit {0}
FailsToReadNamed _ files names before after = ⊥

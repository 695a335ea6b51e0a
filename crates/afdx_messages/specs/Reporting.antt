-- The line and the status of any failure (profile).
use Rattle.std.specs.Prelude.{◌≡◌, ◌⊎◌, ℕ, Bool, true, false, codes, List, [], ◌++◌, Option, Some, None, string_bytes}
use Rattle.std.specs.Io.KnownBytes.{Appends}
use Rattle.afdx_messages.specs.declared.failure.Failure.{Failure}
use Rattle.afdx_messages.specs.declared.failure.Failure.TheVariants as failure
use Rattle.afdx_wiring.specs.Lines.{as_line}
use Rattle.afdx_folder.specs.Output.{AppendsPrefix}
use Rattle.afdx_messages.specs.Lines.{memory_text, argument_line, table_line, capture_line, output_line, load_line, network_failure_line, network_status}

-- the line that says that memory ran out
abbrev pub memory_line : List ℕ
memory_line = as_line memory_text

-- the line of a failure; that something was found for which a command fails has none: the report tells it
abbrev pub line_of : Failure → List ℕ
line_of failure.Found = []
line_of failure.Usage = as_line (codes "afdx: usage")
line_of (failure.Argument f) = argument_line f
line_of (failure.Table refusal) = table_line refusal
line_of (failure.Load f) = load_line f
line_of (failure.Capture f) = capture_line None f
line_of (failure.PortCapture port f) = capture_line (Some port) f
line_of (failure.OutputCapture port f) = output_line port f
line_of (failure.Network f) = network_failure_line f
line_of (failure.Get name) = as_line (codes "afdx: device get " ++ string_bytes name)
line_of (failure.Put name) = as_line (codes "afdx: device put " ++ string_bytes name)
line_of failure.Read = as_line (codes "afdx: device read")
line_of failure.Write = as_line (codes "afdx: device write")
line_of failure.Memory = memory_line

-- the status of the program for a failure: 1 something was found, 2 usage, 3 an input is refused, 4 a rule of loads, jitters or lines is
-- broken, 5 memory or the device
abbrev pub status_of : Failure → ℕ
status_of failure.Found = 1
status_of failure.Usage = 2
status_of (failure.Argument f) = 2
status_of (failure.Table refusal) = 3
status_of (failure.Capture f) = 3
status_of (failure.PortCapture port f) = 3
status_of (failure.OutputCapture port f) = 3
status_of (failure.Load f) = 4
status_of (failure.Network f) = network_status f
status_of _ = 5

-- the line may hold a number or a name, so that it takes memory
abbrev pub IsMade : Failure → Type 0
IsMade failure.Found = ⊥
IsMade failure.Usage = ⊥
IsMade failure.Read = ⊥
IsMade failure.Write = ⊥
IsMade failure.Memory = ⊥
IsMade _ = Unit {0}

-- the failure that is reported: this one; or memory, if that ran out for its line
abbrev pub ReportsAs : Failure → Failure → Type 0
ReportsAs f reported = (reported ≡ f) ⊎ (IsMade f × (reported ≡ failure.Memory))

-- the line was written whole; or that is not said, and some prefix of it was
abbrev pub IsTold : Bool → Option (List ℕ) → Option (List ℕ) → List ℕ → Type 0
IsTold true old new line = Appends old new line
IsTold false old new line = AppendsPrefix old new line

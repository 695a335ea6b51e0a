-- New files that outputs go to, beside what a folder showed before they were begun.
use Rattle.std.specs.Prelude.{ℕ, ◌≡◌, List, [], Option, Some, IfSome, slice_get, string_bytes}
use Rattle.afdx_messages.specs.declared.failure.Failure.{Failure}
use Rattle.afdx_messages.specs.declared.failure.Failure.TheVariants as failure
use Rattle.afdx_folder.specs.Files.{Files, DeviceLog, one_more}
use Rattle.afdx_serve.specs.Runs.{StopsAt, StopsSettling}

-- ---- of the files of a folder that did not show its own, nothing is said

-- new files have no byte
abbrev pub AreEmpty : {N : Type 0} → (N → Option (List ℕ)) → Option Files → List N → Type 0
AreEmpty {N} contents shown files = IfSome shown (λ _. (place : ℕ) (new : N) → slice_get files place ≡ Some new → contents new ≡ Some [])

-- each new file has the bytes at its place
abbrev pub HaveBytes : {N : Type 0} → (N → Option (List ℕ)) → Option Files → List N → List (List ℕ) → Type 0
HaveBytes {N} contents shown files all =
    IfSome shown (λ _. (place : ℕ) (new : N) (bytes : List ℕ) → slice_get files place ≡ Some new → slice_get all place ≡ Some bytes → contents new ≡ Some bytes)

-- ---- failures

-- the device has not taken all of the new files of these names
abbrev pub FailsToSettle : Failure → List (List ℕ) → DeviceLog → DeviceLog → Type 0
FailsToSettle (failure.Put name) names before after = StopsSettling (string_bytes name) names before after
FailsToSettle failure.Memory names before after = Unit {0}
FailsToSettle _ names before after = ⊥

-- not all of the new files that the device has taken were put
abbrev pub FailsToMove : Failure → List (List ℕ) → List (List ℕ) → Option Files → Option Files → DeviceLog → DeviceLog → Type 0
FailsToMove (failure.Put name) names all old new before after = StopsAt (string_bytes name) names all old new × (after ≡ one_more (string_bytes name) before)
FailsToMove failure.Memory names all old new before after = (name : List ℕ) × StopsAt name names all old new
FailsToMove _ names all old new before after = ⊥

-- A folder's files, if it shows them, and its failures.
use Rattle.std.specs.Prelude.{◌≡◌, ◌⊎◌, ◌+◌, ◌-◌, ◌^◌, min, ℕ, zero, suc, List, ◌∷◌, false, Option, Some, None, Result, MatchResult, map, ⊤, if◌then◌else◌}
use Rattle.std.specs.Str.{bytes_eq}
use Rattle.afdx_folder.specs.declared.folder.FolderFault.{FolderFault}
use Rattle.afdx_folder.specs.declared.folder.FolderFault.TheVariants.{Memory, Device}

-- the bytes under each name
abbrev pub Files : Type 0
Files = List ℕ → Option (List ℕ)

-- the same files, and these bytes under the name
abbrev pub with_file : Files → List ℕ → List ℕ → Files
with_file f name bytes = λ q. if bytes_eq q name then Some bytes else f q

-- the files after these were put, in order
abbrev pub with_files : Files → List (List ℕ) → List (List ℕ) → Files
with_files f (name ∷ names) (bytes ∷ rest) = with_files (with_file f name bytes) names rest
with_files f _ _ = f

-- ---- of a folder that may not show its files nothing is said

-- these bytes are under the name
abbrev pub Shows : Option Files → List ℕ → List ℕ → Type 0
Shows None name bytes = ⊤
Shows (Some f) name bytes = f name ≡ Some bytes

-- these bytes are under these names
abbrev pub ShowsAll : Option Files → List (List ℕ) → List (List ℕ) → Type 0
ShowsAll None names all = ⊤
ShowsAll (Some f) names all = map f names ≡ map (λ bytes. Some bytes) all

-- a reader has the bytes that are under the name
abbrev pub IsOpened : Option Files → List ℕ → Option (List ℕ) → Type 0
IsOpened None name remaining = ⊤
IsOpened (Some f) name remaining = (bytes : List ℕ) × (f name ≡ Some bytes) × (remaining ≡ Some bytes)

-- no file has changed
abbrev pub KeepsFiles : Option Files → Option Files → Type 0
KeepsFiles None new = ⊤
KeepsFiles (Some f) None = ⊥
KeepsFiles (Some f) (Some g) = (q : List ℕ) → g q ≡ f q

-- what is under other names has not changed
abbrev pub KeepsOthers : Option Files → Option Files → List ℕ → Type 0
KeepsOthers None new name = ⊤
KeepsOthers (Some f) None name = ⊥
KeepsOthers (Some f) (Some g) name = (q : List ℕ) → bytes_eq q name ≡ false → g q ≡ f q

-- these bytes are under the name, and nothing else has changed
abbrev pub PutsFile : Option Files → Option Files → List ℕ → List ℕ → Type 0
PutsFile None new name bytes = ⊤
PutsFile (Some f) None name bytes = ⊥
PutsFile (Some f) (Some g) name bytes = (q : List ℕ) → g q ≡ with_file f name bytes q

-- these bytes were put under these names, in order, and nothing else has changed
abbrev pub PutsFiles : Option Files → Option Files → List (List ℕ) → List (List ℕ) → Type 0
PutsFiles None new names all = ⊤
PutsFiles (Some f) None names all = ⊥
PutsFiles (Some f) (Some g) names all = (q : List ℕ) → g q ≡ with_files f names all q

-- ---- failures, and new files that the device has

-- how often a folder failed, how often what it had opened could not be read, and how many new files its device has taken, as far as
-- counts of 64 bits go; and the names that the last failure was for, and the last that could not be read
pub record DeviceLog : Type 0 where
  pub count : ℕ
  pub last : Option (List ℕ)
  pub unread : ℕ
  pub last_unread : Option (List ℕ)
  pub settled : ℕ

-- one more failure, for this name
abbrev pub one_more : List ℕ → DeviceLog → DeviceLog
one_more name before = record before { count = min (before.count + 1) (2 ^ 64 - 1); last = Some name }

-- once more what was opened, under this name, could not be read
abbrev pub one_unread : List ℕ → DeviceLog → DeviceLog
one_unread name before = record before { unread = min (before.unread + 1) (2 ^ 64 - 1); last_unread = Some name }

-- one more new file that the device has taken
abbrev pub one_settled : DeviceLog → DeviceLog
one_settled before = record before { settled = min (before.settled + 1) (2 ^ 64 - 1) }

-- so many more new files that the device has taken
abbrev pub settled_after : ℕ → DeviceLog → DeviceLog
settled_after zero before = before
settled_after (suc n) before = one_settled (settled_after n before)

-- a fault of the device is counted and its name is kept, and nothing else is
abbrev pub IsCause : FolderFault → List ℕ → DeviceLog → DeviceLog → Type 0
IsCause fault name before now = ((fault ≡ Memory) × (now ≡ before)) ⊎ ((fault ≡ Device) × (now ≡ one_more name before))

-- that what was opened could not be read is counted and its name is kept, and nothing else is; or memory ran out, and nothing is
abbrev pub IsUnreadCause : FolderFault → List ℕ → DeviceLog → DeviceLog → Type 0
IsUnreadCause fault name before now = ((fault ≡ Memory) × (now ≡ before)) ⊎ ((fault ≡ Device) × (now ≡ one_unread name before))

-- what a call changes in the log of the device: nothing if it is well, else as its fault says
abbrev pub HasCause : {T : Type 0} → List ℕ → DeviceLog → DeviceLog → Result T FolderFault → Type 0
HasCause name before now r = MatchResult r (λ _. now ≡ before) (λ fault. IsCause fault name before now)

-- a new file that was taken is counted; if it was not, the fault is
abbrev pub HasSettled : {T : Type 0} → List ℕ → DeviceLog → DeviceLog → Result T FolderFault → Type 0
HasSettled name before now r = MatchResult r (λ _. now ≡ one_settled before) (λ fault. IsCause fault name before now)

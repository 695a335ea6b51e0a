-- Which fates are told of a link's frames, by all that was recorded at its ports (profile).
use Rattle.std.specs.Prelude.{◌≡◌, ◌⊎◌, ℕ, ◌+◌, ◌≤◌, Bool, List, [], ◌∷◌, map, Option}
use Rattle.std.specs.List.{AllByRecursion, list_any}
use Rattle.afdx_pcap.specs.Record.{Record}
use Rattle.afdx_account.specs.Policing.{Terms}
use Rattle.afdx_levels.specs.Levels.{Levels, at_rest, credited, outlook_of, after, fate_told, Allowed}
use Rattle.afdx_levels.specs.Inner.Laws.{chosen, AllFit}
use Rattle.afdx_pairing.specs.declared.limits.Limits.{Limits}
use Rattle.afdx_pairing.specs.Limits.{most_of, in_bound}
use Rattle.afdx_pairing.specs.Kept.{IsKeptFor}
use Rattle.afdx_following.specs.Followed.{judged}
use Rattle.afdx_compare_laws.specs.Fine.{LeavesLater}

-- what left for a link at a port: its limits, up to when records were recorded, and the records
pub record Recorded : Type 0 where
  pub limits : Limits
  pub last : Option ℕ
  pub out : List Record

-- a record that left at the port may be of the frame
abbrev pub is_seen_at : Record → Recorded → Bool
is_seen_at f p = list_any (λ r. in_bound p.limits f r) p.out

-- a record that left at any of these ports may be of the frame
abbrev pub is_seen : List Recorded → Record → Bool
is_seen ports f = list_any (λ p. is_seen_at f p) ports

-- the fates that are told: an unsure frame was passed exactly if it is seen
abbrev pub fates_seen : Terms → ℕ → (Record → Bool) → Levels → List Record → List Bool
fates_seen t tolerance seen l [] = []
fates_seen t tolerance seen l (r ∷ rs) =
    let now = credited t l r.stamp in
    let passes = fate_told (outlook_of t tolerance (judged r).size now) (seen r) in
    passes ∷ fates_seen t tolerance seen (after t tolerance (judged r).size passes now) rs

-- frames of the same bytes came at least so many ns apart
abbrev pub AllDiffer : ℕ → List Record → Type 0
AllDiffer time [] = Unit {0}
AllDiffer time (f ∷ own) = AllByRecursion (λ g. f.bytes ≡ g.bytes → f.stamp + time ≤ g.stamp) own × AllDiffer time own

-- frames came in the order of their stamps
abbrev pub OwnInOrder : List Record → Type 0
OwnInOrder [] = Unit {0}
OwnInOrder (f ∷ own) = AllByRecursion (λ g. f.stamp ≤ g.stamp) own × OwnInOrder own

-- each frame leaves the port after it came, whatever the stamps are off by
abbrev pub LeaveLater : List Record → Recorded → Type 0
LeaveLater own p = AllByRecursion (LeavesLater p.limits) own

-- frames of the same bytes came at least the port's bound and the tolerance apart
abbrev pub AreApart : List Record → Recorded → Type 0
AreApart own p = AllDiffer (most_of p.limits) own

-- all is known of the account: it was full, stamps are not off, and the frames are those that the link may send
pub record IsKnown (t : Terms) (tolerance : ℕ) (l : Levels) (own : List Record) : Type 0 where
  pub exact : tolerance ≡ 0
  pub full : l ≡ at_rest t 0
  pub fit : AllFit t (map judged own)

-- which fates there were can be told: each record is of one frame only, or all is known of the account
abbrev pub CanBeTold : Terms → ℕ → Levels → List Record → List Recorded → Type 0
CanBeTold t tolerance l own ports = AllByRecursion (AreApart own) ports ⊎ IsKnown t tolerance l own

-- the records at a port are what left of the frames of these fates
abbrev pub IsKeptBy : List Record → List Bool → Recorded → Type 0
IsKeptBy own fates p = IsKeptFor p.limits p.last own (chosen fates own) p.out

-- if fates of its frames explain all records of a link, those that are told explain them too
abbrev pub ToldFatesExplain : Type 0
ToldFatesExplain = (t : Terms) (tolerance : ℕ) (l : Levels) (own : List Record) (fates : List Bool) (ports : List Recorded) → OwnInOrder own
    → AllByRecursion (LeaveLater own) ports → CanBeTold t tolerance l own ports → Allowed t tolerance l (map judged own) fates → AllByRecursion (IsKeptBy own fates) ports
    → AllByRecursion (IsKeptBy own (fates_seen t tolerance (is_seen ports) l own)) ports

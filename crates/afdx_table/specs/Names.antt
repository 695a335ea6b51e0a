-- What the words and numbers of a table name.
use Rattle.std.specs.Prelude.{nat_le, ◌&&◌, ℕ, codes, ◌==◌, ◌++◌, if◌then◌else◌, List, [], ◌∷◌, Option, Some, None, find}
use Rattle.std.specs.Fmt.{decimal}
use Rattle.std.specs.Str.{bytes_eq}
use Rattle.afdx_units.specs.Time.{bag_ms}
use Rattle.afdx_units.specs.declared.bag.Bag.{Bag}
use Rattle.afdx_units.specs.declared.bag.Bag.TheVariants.{Ms1, Ms2, Ms4, Ms8, Ms16, Ms32, Ms64, Ms128}
use Rattle.afdx_units.specs.declared.line.Speed.{Speed}
use Rattle.afdx_units.specs.declared.line.Speed.TheVariants.{Ten, Hundred, Thousand}
use Rattle.afdx_units.specs.declared.line.Priority.{Priority}
use Rattle.afdx_units.specs.declared.line.Priority.TheVariants.{High, Low}
use Rattle.afdx_units.specs.declared.police.Police.{Police}
use Rattle.afdx_units.specs.declared.police.Police.TheVariants.{Byte, Frame}
use Rattle.afdx_table.specs.declared.fault.At.{At}
use Rattle.afdx_table.specs.declared.fault.At.TheVariants as place
use Rattle.afdx_table.specs.declared.fault.Key.{Key}
use Rattle.afdx_table.specs.declared.fault.Key.TheVariants as key

-- profile: a key as it is written in the table, and in the line of a fault
abbrev pub key_text : Key → List ℕ
key_text key.Version = codes "version"
key_text key.Constant = codes "constant"
key_text key.Latency = codes "latency_us"
key_text key.Port = codes "port"
key_text key.Link = codes "link"
key_text key.Id = codes "id"
key_text key.Mbit = codes "mbit"
key_text key.Buffer = codes "buffer"
key_text key.MaxDelay = codes "max_delay_us"
key_text key.From = codes "from"
key_text key.To = codes "to"
key_text key.Bag = codes "bag_ms"
key_text key.Jitter = codes "jitter_us"
key_text key.MaxSize = codes "max_size"
key_text key.Priority = codes "priority"
key_text key.Police = codes "police"

-- profile: a place of the table in the line of a fault
abbrev pub place_text : At → List ℕ
place_text place.Top = codes "top"
place_text (place.Port n) = codes "port " ++ decimal n
place_text (place.Link n) = codes "link " ++ decimal n

-- IEEE 802.3: the line of so many Mbit/s; profile: 1000 Mbit/s from the third version on
abbrev pub speed_of : ℕ → ℕ → Option Speed
speed_of version mbit =
    if mbit == 10 then Some Ten
    else if mbit == 100 then Some Hundred
    else if mbit == 1000 && nat_le 3 version then Some Thousand
    else None

-- ARINC 664 Part 7: the gaps (BAG) that a link can have: 1 to 128 ms, each twice the one before
abbrev pub bags : List Bag
bags = Ms1 ∷ Ms2 ∷ Ms4 ∷ Ms8 ∷ Ms16 ∷ Ms32 ∷ Ms64 ∷ Ms128 ∷ []

-- ARINC 664 Part 7: the gap of so many milliseconds
unfoldable pub bag_of : ℕ → Option Bag
bag_of ms = find (λ bag. bag_ms bag == ms) bags

-- ARINC 664 Part 7 has two priorities; profile: their names
abbrev pub priority_text : Priority → List ℕ
priority_text High = codes "high"
priority_text Low = codes "low"

-- profile: the priority of this name
abbrev pub priority_of : List ℕ → Option Priority
priority_of text = if bytes_eq text (priority_text High) then Some High else if bytes_eq text (priority_text Low) then Some Low else None

-- ARINC 664 Part 7 has two kinds of policing; profile: their names
abbrev pub police_text : Police → List ℕ
police_text Byte = codes "byte"
police_text Frame = codes "frame"

-- profile: the kind of policing of this name
abbrev pub police_of : List ℕ → Option Police
police_of text = if bytes_eq text (police_text Byte) then Some Byte else if bytes_eq text (police_text Frame) then Some Frame else None

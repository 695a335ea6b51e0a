-- When each verdict is given: its own case holds, and none of those before it does.
use Rattle.std.specs.Prelude.{◌≡◌, ◌≢◌, ◌↔◌, ℕ, ◌<◌, length, Some, None}
use Rattle.afdx_units.specs.Line.{size_of, least_size, greatest_size}
use Rattle.afdx_pcap.specs.Record.{Record}
use Rattle.afdx_frame.specs.Address.{constant_of, link_of}
use Rattle.afdx_table.specs.Link.{Link}
use Rattle.afdx_table.specs.Content.{Content, link_row}
use Rattle.afdx_filter.specs.declared.outcome.Verdict.{Verdict}
use Rattle.afdx_filter.specs.declared.outcome.Verdict.TheVariants.{Cut, Short, Long, Foreign, NoLink, WrongPort, TooBig, Clean}
use Rattle.afdx_filter.specs.Verdict.{verdict_of}

-- the link of the table that a frame's address names
abbrev pub NamesLink : Content → Record → Link → Type 0
NamesLink table frame link = link_row table (link_of frame.bytes) ≡ Some link

-- the case of a verdict, whatever the others say
abbrev pub HasCase : Content → ℕ → Record → Verdict → Type 0
HasCase table port frame Cut = length frame.bytes < frame.original
HasCase table port frame Short = size_of (length frame.bytes) < least_size
HasCase table port frame Long = greatest_size < size_of (length frame.bytes)
HasCase table port frame Foreign = constant_of frame.bytes ≢ table.constant
HasCase table port frame NoLink = link_row table (link_of frame.bytes) ≡ None
HasCase table port frame WrongPort = (link : Link) × NamesLink table frame link × (link.from ≢ port)
HasCase table port frame TooBig = (link : Link) × NamesLink table frame link × (link.max_size < size_of (length frame.bytes))
HasCase table port frame (Clean id) = (link : Link) × NamesLink table frame link × (link.id ≡ id)

-- profile: the order of the cases
abbrev pub place_of : Verdict → ℕ
place_of Cut = 0
place_of Short = 1
place_of Long = 2
place_of Foreign = 3
place_of NoLink = 4
place_of WrongPort = 5
place_of TooBig = 6
place_of (Clean id) = 7

-- the verdict's own case holds, and none of those before it does
pub record IsFirstCase (table : Content) (port : ℕ) (frame : Record) (verdict : Verdict) : Type 0 where
  pub holds : HasCase table port frame verdict
  pub none_before : (other : Verdict) → place_of other < place_of verdict → HasCase table port frame other → ⊥

-- the verdict on a frame is the one whose case is the first that holds
abbrev pub VerdictIsTheFirstCase : Type 0
VerdictIsTheFirstCase = (table : Content) (port : ℕ) (frame : Record) (verdict : Verdict)
    → (verdict_of table port frame ≡ verdict) ↔ IsFirstCase table port frame verdict

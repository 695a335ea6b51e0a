-- What a switch makes of the arrivals that it took: each is one row, in the order of arrival.
use Rattle.std.specs.Prelude.{ℕ, ◌==◌, Bool, false, ◌&&◌, if◌then◌else◌, List, [], ◌∷◌, ◌++◌, length, map, filter, Option, Some, None}
use Rattle.afdx_units.specs.Line.{size_of}
use Rattle.afdx_pcap.specs.Record.{Record}
use Rattle.afdx_frame.specs.Address.{link_of}
use Rattle.afdx_table.specs.Link.{Link, leads_to}
use Rattle.afdx_table.specs.Content.{Content, link_row}
use Rattle.afdx_filter.specs.declared.outcome.Verdict.{Verdict}
use Rattle.afdx_filter.specs.declared.outcome.Verdict.TheVariants.{Cut, Short, Long, Foreign, NoLink, WrongPort, TooBig, Clean}
use Rattle.afdx_filter.specs.Verdict.{verdict_of}
use Rattle.afdx_filter.specs.Place.{link_named}
use Rattle.afdx_account.specs.declared.frame.Frame.{Frame}
use Rattle.afdx_account.specs.Policing.{conforms, passed_frames}
use Rattle.afdx_port.specs.declared.Item.{Item}
use Rattle.afdx_load.specs.Load.{terms_of}
use Rattle.afdx_core.specs.declared.step.Row.{Row}
use Rattle.afdx_core.specs.declared.step.Fate.{Fate}
use Rattle.afdx_core.specs.declared.step.Fate.TheVariants.{Filtered, Policed, Passed}

-- the row of a frame that came in at a port
abbrev pub row_of : Content → ℕ → Record → Row
row_of t port frame = record {
  in_port = port;
  stamp = frame.stamp;
  size = size_of (length frame.bytes);
  verdict = verdict_of t port frame;
  link = link_named (verdict_of t port frame) (link_of frame.bytes);
}

-- ---- one link

-- the verdict says that the frame is a clean one of the link of this number
abbrev pub says_clean : ℕ → Verdict → Bool
says_clean i (Clean j) = i == j
says_clean i Cut = false
says_clean i Short = false
says_clean i Long = false
says_clean i Foreign = false
says_clean i NoLink = false
says_clean i WrongPort = false
says_clean i TooBig = false

-- ARINC 664 Part 7: what comes in is filtered, and policed link by link; profile: which frames are clean, and that only these are policed.
-- A link's own frames are the clean ones that came of it
abbrev pub own_frames : ℕ → List Row → List Row
own_frames i rows = filter (λ row. says_clean i row.verdict) rows

-- an arrival as an account sees it: its stamp in ns and its size in bytes
abbrev pub frame_of_row : Row → Frame
frame_of_row row = record { stamp = row.stamp; size = row.size }

-- a link's own frames, as its account sees them
unfoldable pub account_frames : ℕ → List Row → List Frame
account_frames i rows = map frame_of_row (own_frames i rows)

-- ARINC 664 Part 7: a link is policed where it comes in, each by itself; profile: its account. Whether a link's frame is passed, after
-- these arrivals
unfoldable pub passes : Link → List Row → Row → Bool
passes l before row = conforms (terms_of l) (passed_frames (terms_of l) (account_frames l.id before)) (frame_of_row row)

-- ---- one arrival, after others

-- the link of a clean frame
abbrev pub named : Content → Verdict → Option Link
named t (Clean i) = link_row t i
named t Cut = None
named t Short = None
named t Long = None
named t Foreign = None
named t NoLink = None
named t WrongPort = None
named t TooBig = None

-- what becomes of a frame, after these arrivals, by the link that the filter found it clean for
abbrev pub fate_by : Option Link → List Row → Row → Fate
fate_by None before row = Filtered row.verdict
fate_by (Some l) before row = if passes l before row then Passed l.id else Policed l.id

-- what becomes of a frame: the filter drops it, or the policing of its link does, or it is passed
abbrev pub fate_of : Content → List Row → Row → Fate
fate_of t before row = fate_by (named t row.verdict) before row

-- a frame's copy, numbered by the arrivals before it
abbrev pub copy_of : Link → List Row → Row → Item
copy_of l before row = record { number = length before; link = l.id; stamp = row.stamp; size = row.size; priority = l.priority }

-- the copy that a port is offered of a frame of this link, if any: that of a passed frame whose link leads there
abbrev pub copies_by : Option Link → ℕ → List Row → Row → List Item
copies_by None port before row = []
copies_by (Some l) port before row = if passes l before row && leads_to port l then copy_of l before row ∷ [] else []

-- the copy that a port is offered of a frame, if any
abbrev pub copies : Content → ℕ → List Row → Row → List Item
copies t port before row = copies_by (named t row.verdict) port before row

-- ---- all arrivals

-- what f gives of each element and those before it, in order
abbrev pub each_after : {X Y : Type 0} → (List X → X → List Y) → List X → List X → List Y
each_after f before [] = []
each_after f before (x ∷ xs) = f before x ++ each_after f (before ++ x ∷ []) xs

-- what becomes of all frames, in order of arrival
unfoldable pub fates_of : Content → List Row → List Fate
fates_of t rows = each_after (λ before row. fate_of t before row ∷ []) [] rows

-- what a port is offered: the copies of the frames that are passed and whose link leads there, in order
unfoldable pub feed_of : Content → ℕ → List Row → List Item
feed_of t port rows = each_after (copies t port) [] rows

-- The same on the rows of a table whose load is accepted.
use Rattle.std.specs.Prelude.{◌≡◌, ℕ, ◌≤◌, true, ◌&&◌, List, [], ◌++◌, map, All, Contains}
use Rattle.afdx_units.specs.Line.{least_size}
use Rattle.afdx_units.specs.declared.line.Speed.{Speed}
use Rattle.afdx_account.specs.declared.frame.Frame.{Frame}
use Rattle.afdx_account.specs.Policing.{conforms, passed_of, passed_frames}
use Rattle.afdx_port.specs.declared.Item.{Item}
use Rattle.afdx_port.specs.declared.Sent.{Sent}
use Rattle.afdx_port.specs.Service.{sent_of, aged_of}
use Rattle.afdx_port.specs.Admission.{admitted, AllFitIn}
use Rattle.afdx_port.specs.Content.{Content as PortContent, done}
use Rattle.afdx_table.specs.declared.rows.PortRow.{PortRow}
use Rattle.afdx_table.specs.Link.{Link, leads_to}
use Rattle.afdx_table.specs.Content.{Content}
use Rattle.afdx_table.specs.WellFormed.{IsWellFormed}
use Rattle.afdx_load.specs.Load.{routed, load_of, terms_of, weight_of}
use Rattle.afdx_load.specs.Bounds.{backlog, byte_time}
use Rattle.afdx_load.specs.Accepted.{IsAccepted}
use Rattle.afdx_isolation.specs.Inner.Flow.{Flow}
use Rattle.afdx_isolation.specs.Arrivals.{own, frame_of_item}
use Rattle.afdx_isolation.specs.Inner.Arrivals.{StampsDoNotFall, joins, feed_of}
use Rattle.afdx_isolation.specs.Table.{IsInBoundAt, settings_of}

-- a link as a port of this speed sees it
abbrev pub flow_of : Speed → Link → Flow
flow_of speed link = record { id = link.id; terms = terms_of link; weight = weight_of speed link; largest = link.max_size; priority = link.priority }

-- the links of the table that lead to the port
abbrev pub flows_at : Content → PortRow → List Flow
flows_at t row = map (flow_of row.speed) (routed row.id t.links)

-- an arrival of a link has its priority, and a size that it allows
abbrev pub IsCleanIn : Content → Item → Type 0
IsCleanIn t x = All (λ link. link.id ≡ x.link → (link.priority ≡ x.priority) × (least_size ≤ x.size) × (x.size ≤ link.max_size)) t.links

-- the arrivals at a switch with an accepted table
pub record ArriveAt (t : Content) (arrivals : List Item) : Type 0 where
  pub well_formed : IsWellFormed t
  pub accepted : IsAccepted t
  pub stamps : StampsDoNotFall arrivals
  pub clean : All (IsCleanIn t) arrivals

-- the arrivals of a link that its policing passes
abbrev pub passed_by : Link → List Item → List Item
passed_by link arrivals = passed_of frame_of_item (terms_of link) (own link.id arrivals)

-- what a port of the table has done so far if it was offered what these arrivals gave it
pub record IsIsolatedAt (t : Content) (row : PortRow) (arrivals : List Item) (c : PortContent) : Type 0 where
  -- no copy was Full
  pub none_full : c.admitted ≡ feed_of (flows_at t row) arrivals
  -- none was Aged
  pub none_aged : aged_of (done c) ≡ []
  -- each that was sent ended within the port's bound
  pub in_bound : All (IsInBoundAt t row) (sent_of (done c))
  -- of each link that leads to the port a prefix of what its policing passes of its own arrivals was sent, in their order
  pub prefix_of_passed : (link : Link) → Contains t.links link → leads_to row.id link ≡ true → (rest : List Item)
      × (own link.id (map (λ (x : Sent). x.item) (sent_of (done c))) ++ rest ≡ passed_by link arrivals)
      × (c.finished ≡ true → rest ≡ [])

-- if a table's load is accepted, each port isolates its links, whatever arrives
abbrev pub AcceptedTablesIsolate : Type 0
AcceptedTablesIsolate = (t : Content) (arrivals : List Item) → ArriveAt t arrivals → (row : PortRow) → Contains t.ports row
    → (c : PortContent) → c.settings ≡ settings_of t.latency row → c.admitted ≡ admitted (settings_of t.latency row) (feed_of (flows_at t row) arrivals)
    → IsIsolatedAt t row arrivals c

-- if a number of bytes holds all that a port's links may ask for at once, and their longest frame, the port's buffer never held more
abbrev pub BuffersHoldTheBacklog : Type 0
BuffersHoldTheBacklog = (t : Content) (arrivals : List Item) → ArriveAt t arrivals → (row : PortRow) → Contains t.ports row
    → (bytes : ℕ) → backlog (load_of t.latency row.speed row.id t.links) ≤ byte_time row.speed bytes
    → AllFitIn bytes (settings_of t.latency row) [] (admitted (settings_of t.latency row) (feed_of (flows_at t row) arrivals))

-- a copy of an arrival of a link is offered to a port exactly if the link leads there and its policing passes the frame
abbrev pub OffersWhatThePolicingPasses : Type 0
OffersWhatThePolicingPasses = (t : Content) → IsWellFormed t → (row : PortRow) (link : Link) → Contains t.links link → (before : List Item) (x : Item) → x.link ≡ link.id
    → joins (flows_at t row) before x ≡ (leads_to row.id link && conforms (terms_of link) (passed_frames (terms_of link) (map frame_of_item (own link.id before))) (frame_of_item x))

-- the frames that a port has sent for a link once it is finished
abbrev pub frames_for : ℕ → PortContent → List Frame
frames_for id c = map frame_of_item (own id (map (λ (x : Sent). x.item) (sent_of (done c))))

-- in two tables, and after two lists of arrivals, the frames that ports have sent for a link are the same if its terms and its own frames
-- are the same, whatever the other links are and send
abbrev pub OthersChangeNothingInTables : Type 0
OthersChangeNothingInTables = (t t' : Content) (arrivals arrivals' : List Item) → ArriveAt t arrivals → ArriveAt t' arrivals'
    → (row row' : PortRow) → Contains t.ports row → Contains t'.ports row'
    → (link link' : Link) → Contains t.links link → Contains t'.links link' → leads_to row.id link ≡ true → leads_to row'.id link' ≡ true
    → terms_of link ≡ terms_of link' → map frame_of_item (own link.id arrivals) ≡ map frame_of_item (own link'.id arrivals')
    → (c c' : PortContent) → c.settings ≡ settings_of t.latency row → c'.settings ≡ settings_of t'.latency row'
    → c.admitted ≡ admitted (settings_of t.latency row) (feed_of (flows_at t row) arrivals) → c'.admitted ≡ admitted (settings_of t'.latency row') (feed_of (flows_at t' row') arrivals')
    → c.finished ≡ true → c'.finished ≡ true → frames_for link.id c ≡ frames_for link'.id c'

-- What a switch that tells of its run keeps, and what it has told.
use Rattle.std.specs.Prelude.{◌≡◌, ℕ, ◌<◌, ◌≤◌, ◌==◌, true, false, Bool, if◌then◌else◌, codes, decimal, List, [], ◌∷◌, ◌++◌, length, map, drop, filter, find, All, position, slice_get}
use Rattle.std.specs.Prelude.{slice_index_or, Option, Some, None, Result}
use Rattle.std.specs.Option.{option_map}
use Rattle.std.specs.Io.KnownBytes.{Appends}
use Rattle.afdx_table.specs.declared.rows.PortRow.{PortRow}
use Rattle.afdx_table.specs.Link.{names_port}
use Rattle.afdx_table.specs.Content.{Content}
use Rattle.afdx_port.specs.declared.Settings.{Settings}
use Rattle.afdx_port.specs.declared.Item.{Item}
use Rattle.afdx_port.specs.declared.Sent.{Sent}
use Rattle.afdx_port.specs.declared.Aged.{Aged}
use Rattle.afdx_port.specs.declared.Offer.{Offer}
use Rattle.afdx_port.specs.declared.Offer.TheVariants.{Full}
use Rattle.afdx_port.specs.Admission.{admitted}
use Rattle.afdx_port.specs.Service.{Event, sent_of, aged_of}
use Rattle.afdx_port.specs.Content.{fresh, done, answer, offered, closed, answers_full}
use Rattle.afdx_port.specs.Inner.Progress.{event_of}
use Rattle.afdx_isolation.specs.Table.{settings_of}
use Rattle.afdx_core.specs.declared.step.Row.{Row}
use Rattle.afdx_core.specs.Rows.{feed_of}
use Rattle.afdx_core.specs.State.{Run}
use Rattle.afdx_core.specs.Kept.{AccountsAgree}
use Rattle.afdx_trace.specs.declared.shown.Selection.{Selection}
use Rattle.afdx_trace.specs.declared.shown.Shown.{Shown}
use Rattle.afdx_trace.specs.declared.traced_port.TracedPort.{TracedPort}
use Rattle.afdx_trace.specs.declared.tracing.Tracing.{Tracing}
use Rattle.afdx_trace.specs.declared.tracing.TracedFate.{TracedFate}
use Rattle.afdx_trace.specs.Csv.{joined_by, optional}
use Rattle.afdx_trace.specs.Shown.{shown_of}
use Rattle.afdx_trace.specs.Arrivals.{arrivals_heading, arrivals_text}
use Rattle.afdx_trace.specs.Departures.{event_lines, AreInOrder, LinesAreAppended}
use Rattle.afdx_trace.specs.Inner.Told.{told_fields, told_lines}
use Rattle.afdx_trace.specs.Inner.Lines.{whole_of, HasGone}
use Rattle.afdx_trace.specs.Inner.Tracing.{AreCounted}

-- ---- what was told of a port's events

-- of the events of a port so many of sent copies and so many of discarded ones were told, in these lines; these events are left
pub record AreTold (shown : Shown) (port : ℕ) (s : Settings) (all : List Event) (sent aged : ℕ) (lines : List ℕ) (left : List Event) : Type 0 where
  pub order : AreInOrder left
  pub sent_left : sent_of left ≡ drop sent (sent_of all)
  pub aged_left : aged_of left ≡ drop aged (aged_of all)
  pub many_sent : sent ≤ length (sent_of all)
  pub many_aged : aged ≤ length (aged_of all)
  pub text : event_lines shown port s 0 all ≡ lines ++ event_lines shown port s sent left

-- a port has told so of what it has carried out
pub record IsTelling {Z : Type 0} (shown : Shown) (o : TracedPort Z) (left : List Event) : Type 0 where
  pub told : AreTold shown o.row.id o.settings (done o.flow.content) o.sent o.aged (whole_of o.lines) left
  pub sent_first : o.flow.sent_first ≤ o.sent
  pub aged_first : o.flow.aged_first ≤ o.aged
  pub latency : o.settings.latency ≤ 100000

-- the first of the events that are left, if these are the first copy among them that is sent and the first that is discarded
abbrev pub IsFirstOf : Option Sent → Option Aged → Option (Result Sent Aged) → Type 0
IsFirstOf sent aged next = (left : List Event) → AreInOrder left → slice_get (sent_of left) 0 ≡ sent → slice_get (aged_of left) 0 ≡ aged → option_map event_of next ≡ slice_get left 0

-- a port has told of all events that it has carried out
abbrev pub HasToldAll : {Z : Type 0} → Shown → TracedPort Z → Type 0
HasToldAll shown o = IsTelling shown o []

-- a port told of the first event that was left, if there was one
abbrev pub TellsMore : {Z : Type 0} → Shown → Bool → List Event → TracedPort Z → Type 0
TellsMore shown false left o = (left ≡ []) × IsTelling shown o []
TellsMore shown true left o = (first : Event) × (later : List Event) × (left ≡ first ∷ later) × IsTelling shown o later

-- a port that was offered nothing
pub record IsFreshPort {Z : Type 0} (latency : ℕ) (p : PortRow) (o : TracedPort Z) : Type 0 where
  pub row : o.row ≡ p
  pub settings : o.settings ≡ settings_of latency p
  pub content : o.flow.content ≡ fresh (settings_of latency p)
  pub sent : o.sent ≡ 0
  pub aged : o.aged ≡ 0
  pub sent_first : o.flow.sent_first ≡ 0
  pub aged_first : o.flow.aged_first ≡ 0
  pub lines : whole_of o.lines ≡ []
  pub gone : o.lines.gone.items ≡ []

-- nothing of a port but what was told has changed
pub record IsSamePort {Z : Type 0} (old new : TracedPort Z) : Type 0 where
  pub row : new.row ≡ old.row
  pub settings : new.settings ≡ old.settings
  pub content : new.flow.content ≡ old.flow.content

-- ---- what a port was offered

-- a port admits from its feed of these arrivals, and has told of all that it has carried out
pub record TellsOf {Z : Type 0} (shown : Shown) (t : Content) (rows : List Row) (latest : ℕ) (p : PortRow) (o : TracedPort Z) : Type 0 where
  pub row : o.row ≡ p
  pub settings : o.settings ≡ settings_of t.latency p
  pub of : o.flow.content.settings ≡ settings_of t.latency p
  pub admits : o.flow.content.admitted ≡ admitted (settings_of t.latency p) (feed_of t p.id rows)
  pub numbered : All (λ x. x.number < length rows) o.flow.content.admitted
  pub horizon : o.flow.content.horizon ≤ latest
  pub still_open : o.flow.content.finished ≡ false
  pub told : HasToldAll shown o

-- each port admits from its feed of these arrivals, and has told of all that it has carried out
pub record AllTell {Z : Type 0} (shown : Shown) (t : Content) (rows : List Row) (latest : ℕ) (ports : List (TracedPort Z)) : Type 0 where
  pub many : length ports ≡ length t.ports
  pub each : (k : ℕ) (p : PortRow) (o : TracedPort Z) → slice_get t.ports k ≡ Some p → slice_get ports k ≡ Some o → TellsOf shown t rows latest p o

-- ---- the switch

-- a switch tells of this run
pub record Tells {Z : Type 0} (s : Selection) (r : Run) (t : Tracing Z) : Type 0 where
  pub table : t.table ≡ r.table
  pub selected : t.selection ≡ s
  pub shown : t.shown ≡ shown_of s r.rows
  pub still_open : r.finished ≡ false
  pub accounts : AccountsAgree r.table.links r.rows r.latest t.accounts.items
  pub records : AreCounted r.rows t.records
  pub count : t.count ≡ length r.rows
  pub rows : t.rows.items ≡ r.rows
  pub places : (port : ℕ) → slice_index_or t.places port None ≡ position (λ p. p.id == port) r.table.ports
  pub ports : AllTell (shown_of s r.rows) r.table r.rows r.latest t.ports.items
  pub lines : whole_of t.lines ≡ arrivals_heading ++ told_lines (shown_of s r.rows) r.table r.rows

-- since the start each port's file has the lines that went to it
pub record HaveGone {F Z : Type 0} (contents : F → Option (List ℕ)) (start now : List F) (ports : List (TracedPort Z)) : Type 0 where
  pub many : length start ≡ length ports
  pub long : length now ≡ length ports
  pub each : (k : ℕ) (f g : F) (o : TracedPort Z) → slice_get start k ≡ Some f → slice_get now k ≡ Some g → slice_get ports k ≡ Some o → HasGone contents f g o.lines

-- ---- a copy is offered

-- an item may be offered to a port
pub record CanBeOffered {Z : Type 0} (shown : Shown) (x : Item) (o : TracedPort Z) : Type 0 where
  pub told : HasToldAll shown o
  pub still_open : o.flow.content.finished ≡ false
  pub in_order : o.flow.content.horizon ≤ x.stamp
  pub numbered : All (λ other. other.number < x.number) o.flow.content.admitted

-- an item was offered to a port, if that is among these
pub record IsOfferedTo {Z : Type 0} (shown : Shown) (x : Item) (to : List ℕ) (old new : TracedPort Z) : Type 0 where
  pub row : new.row ≡ old.row
  pub settings : new.settings ≡ old.settings
  pub content : new.flow.content ≡ (if names_port old.row.id to then offered x old.flow.content else old.flow.content)
  pub told : HasToldAll shown new

-- an item was offered to those of several ports that are among these
pub record AreOffered {Z : Type 0} (shown : Shown) (x : Item) (to : List ℕ) (old new : List (TracedPort Z)) : Type 0 where
  pub many : length new ≡ length old
  pub each : (k : ℕ) (o n : TracedPort Z) → slice_get old k ≡ Some o → slice_get new k ≡ Some n → IsOfferedTo shown x to o n

-- the answer of the port of a number
abbrev pub answer_by : {Z : Type 0} → Item → Option (TracedPort Z) → Offer
answer_by x None = Full
answer_by x (Some o) = answer x o.flow.content

-- the answer of that of these ports which has this number
abbrev pub answer_among : {Z : Type 0} → Item → List (TracedPort Z) → ℕ → Offer
answer_among x ports port = answer_by x (find (λ o. o.row.id == port) ports)

-- of these ports those that refuse it
abbrev pub refused_among : {Z : Type 0} → Item → List (TracedPort Z) → List ℕ → List ℕ
refused_among x ports to = filter (λ port. answers_full (answer_among x ports port)) to

-- places of ports by their numbers
abbrev pub PlacesAre : {Z : Type 0} → List (Option ℕ) → List (TracedPort Z) → Type 0
PlacesAre places ports = (port : ℕ) → slice_index_or places port None ≡ position (λ o. o.row.id == port) ports

-- ---- an arrival is taken

-- the fields that say what became of an arrival
abbrev pub fields_of : TracedFate → List (List ℕ)
fields_of fate = fate.word.now ∷ optional fate.early ∷ joined_by (codes ";") (map decimal fate.full.items) ∷ []

-- a switch that tells may take an arrival after those of this run
pub record MayTake {Z : Type 0} (r : Run) (t : Tracing Z) : Type 0 where
  pub table : t.table ≡ r.table
  pub still_open : r.finished ≡ false
  pub accounts : AccountsAgree r.table.links r.rows r.latest t.accounts.items
  pub count : t.count ≡ length r.rows
  pub places : (port : ℕ) → slice_index_or t.places port None ≡ position (λ p. p.id == port) r.table.ports
  pub ports : AllTell t.shown r.table r.rows r.latest t.ports.items

-- the link and the ports of an arrival took it, and these fields say what became of it
pub record HasTaken {Z : Type 0} (r : Run) (row : Row) (fields : List (List ℕ)) (old new : Tracing Z) : Type 0 where
  pub accounts : AccountsAgree r.table.links (r.rows ++ row ∷ []) row.stamp new.accounts.items
  pub ports : AllTell old.shown r.table (r.rows ++ row ∷ []) row.stamp new.ports.items
  pub fields_are : fields ≡ told_fields r.table r.rows row

-- nothing else of a switch that tells has changed
pub record KeepsOthers {Z : Type 0} (old new : Tracing Z) : Type 0 where
  pub selection : new.selection ≡ old.selection
  pub shown : new.shown ≡ old.shown
  pub table : new.table ≡ old.table
  pub records : new.records ≡ old.records
  pub places : new.places ≡ old.places
  pub rows : new.rows.items ≡ old.rows.items
  pub count : new.count ≡ old.count
  pub lines : new.lines ≡ old.lines
  pub many : length new.ports.items ≡ length old.ports.items

-- nothing of a switch that tells but its lines has changed
pub record KeepsAllButLines {Z : Type 0} (old new : Tracing Z) : Type 0 where
  pub selection : new.selection ≡ old.selection
  pub shown : new.shown ≡ old.shown
  pub table : new.table ≡ old.table
  pub accounts : new.accounts.items ≡ old.accounts.items
  pub records : new.records ≡ old.records
  pub ports : new.ports.items ≡ old.ports.items
  pub places : new.places ≡ old.places
  pub rows : new.rows.items ≡ old.rows.items
  pub count : new.count ≡ old.count

-- nothing that a switch tells went to a file
pub record IsFresh {Z : Type 0} (t : Tracing Z) : Type 0 where
  pub arrivals : t.lines.gone.items ≡ []
  pub ports : (k : ℕ) (o : TracedPort Z) → slice_get t.ports.items k ≡ Some o → o.lines.gone.items ≡ []

-- ---- at the end

-- a port ended, and all its lines went to its file
pub record IsEnded {F Z : Type 0} (shown : Shown) (contents : F → Option (List ℕ)) (f g : F) (o n : TracedPort Z) : Type 0 where
  pub row : n.row ≡ o.row
  pub settings : n.settings ≡ o.settings
  pub content : n.flow.content ≡ closed o.flow.content
  pub told : HasToldAll shown n
  pub all : n.lines.gone.items ≡ whole_of n.lines
  pub gone : (first : F) → HasGone contents first f o.lines → HasGone contents first g n.lines

-- the ports before a place ended so, and the others are as they were
pub record AreEnded {F Z : Type 0} (shown : Shown) (contents : F → Option (List ℕ)) (place : ℕ) (befores nows : List F) (old new : List (TracedPort Z)) : Type 0 where
  pub many : length new ≡ length old
  pub long : length nows ≡ length befores
  pub ended : (k : ℕ) (f g : F) (o n : TracedPort Z) → k < place → slice_get befores k ≡ Some f → slice_get nows k ≡ Some g → slice_get old k ≡ Some o → slice_get new k ≡ Some n
      → IsEnded shown contents f g o n
  pub ports_left : (k : ℕ) → place ≤ k → slice_get new k ≡ slice_get old k
  pub files_left : (k : ℕ) → place ≤ k → slice_get nows k ≡ slice_get befores k

-- each file has all lines of a finished run
pub record HasToldRun {F Z : Type 0} (contents : F → Option (List ℕ)) (s : Selection) (r : Run) (t : Tracing Z) (before now : F) (befores nows : List F) : Type 0 where
  pub arrivals : (start : F) → HasGone contents start before t.lines → Appends (contents start) (contents now) (arrivals_text s r)
  pub departures : (start : List F) → HaveGone contents start befores t.ports.items → LinesAreAppended contents s r start nows

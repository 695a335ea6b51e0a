-- A table holds what its text says: each number, word and list is what the value under its key says.
use Rattle.std.specs.Prelude.{◌≡◌, ◌⊎◌, ℕ, pos, true, Bool, ◌*◌, ◌≤◌, List, [], ◌∷◌, Some, None, Ok}
use Rattle.std.specs.List.{AllZip, count_by}
use Rattle.hex.specs.Hex.{decode_sized}
use Rattle.toml.specs.Data.{Data, integer, string, array, table, Items, no_items, item, Members, get_member}
use Rattle.afdx_units.specs.Time.{bag_ms}
use Rattle.afdx_units.specs.declared.line.Speed.{Speed}
use Rattle.afdx_units.specs.declared.line.Speed.TheVariants.{Ten, Hundred, Thousand}
use Rattle.afdx_units.specs.declared.police.Police.{Police}
use Rattle.afdx_units.specs.declared.police.Police.TheVariants.{Byte}
use Rattle.afdx_table.specs.declared.fault.Key.{Key}
use Rattle.afdx_table.specs.declared.fault.Key.TheVariants as key
use Rattle.afdx_table.specs.declared.rows.PortRow.{PortRow}
use Rattle.afdx_table.specs.Names.{key_text, priority_text, police_text}
use Rattle.afdx_table.specs.Fields.{are_known}
use Rattle.afdx_table.specs.Link.{Link}
use Rattle.afdx_table.specs.Content.{Content}
use Rattle.afdx_table.specs.Top.{top_keys}
use Rattle.afdx_table.specs.Ports.{port_keys}
use Rattle.afdx_table.specs.Links.{link_keys}
use Rattle.afdx_table.specs.Text.{tree_of, table_of}

-- ---- what is under a key

-- the key has this value
abbrev pub Has : Members → Key → Data → Type 0
Has ms k d = get_member (key_text k) ms ≡ Some d

-- the key is missing
abbrev pub HasNone : Members → Key → Type 0
HasNone ms k = get_member (key_text k) ms ≡ None

-- the key has this whole number
abbrev pub HasNumber : Members → Key → ℕ → Type 0
HasNumber ms k n = Has ms k (integer (pos n))

-- the key has this text
abbrev pub HasText : Members → Key → List ℕ → Type 0
HasText ms k text = Has ms k (string text)

-- an array of these numbers
abbrev pub number_items : List ℕ → Items
number_items [] = no_items
number_items (n ∷ ns) = item (integer (pos n)) (number_items ns)

-- the key has an array of these numbers
abbrev pub HasNumbers : Members → Key → List ℕ → Type 0
HasNumbers ms k ns = Has ms k (array (number_items ns))

-- an array of these TOML tables
abbrev pub table_items : List Members → Items
table_items [] = no_items
table_items (m ∷ ms) = item (table m) (table_items ms)

-- the key has an array of these TOML tables, which are none if it is missing
abbrev pub HasTables : Members → Key → List Members → Type 0
HasTables ms k tables = (HasNone ms k × (tables ≡ [])) ⊎ Has ms k (array (table_items tables))

-- ---- one port, one link

-- IEEE 802.3: the Mbit/s of a line
abbrev pub mbit_of : Speed → ℕ
mbit_of Ten = 10
mbit_of Hundred = 100
mbit_of Thousand = 1000

-- profile: a line of 1000 Mbit/s is there from the third version on
abbrev pub HasSpeed : ℕ → Speed → Type 0
HasSpeed version Ten = Unit {0}
HasSpeed version Hundred = Unit {0}
HasSpeed version Thousand = 3 ≤ version

-- the port that these members give, whose delay is written in microseconds and kept in nanoseconds
pub record IsPortOf (version : ℕ) (ms : Members) (p : PortRow) : Type 0 where
  pub id : HasNumber ms key.Id p.id
  pub speed : HasNumber ms key.Mbit (mbit_of p.speed)
  pub has_speed : HasSpeed version p.speed
  pub buffer : HasNumber ms key.Buffer p.buffer
  pub max_delay : (us : ℕ) × HasNumber ms key.MaxDelay us × (p.max_delay ≡ us * 1000)
  pub no_other : are_known port_keys ms ≡ true

-- the kind of policing is stated, or by bytes
abbrev pub HasPolice : Members → Police → Type 0
HasPolice ms police = (HasNone ms key.Police × (police ≡ Byte)) ⊎ HasText ms key.Police (police_text police)

-- the link that these members give, whose jitter is written in microseconds and kept in nanoseconds
pub record IsLinkOf (version : ℕ) (ms : Members) (l : Link) : Type 0 where
  pub id : HasNumber ms key.Id l.id
  pub from : HasNumber ms key.From l.from
  pub to : HasNumbers ms key.To l.to
  pub bag : HasNumber ms key.Bag (bag_ms l.bag)
  pub jitter : (us : ℕ) × HasNumber ms key.Jitter us × (l.jitter ≡ us * 1000)
  pub max_size : HasNumber ms key.MaxSize l.max_size
  pub priority : HasText ms key.Priority (priority_text l.priority)
  pub police : HasPolice ms l.police
  -- a key of policing is there from the second version on
  pub no_other : are_known (link_keys version) ms ≡ true

-- ---- the whole

-- the version is one of the first three, and the first if it is not stated
abbrev pub HasVersion : Members → ℕ → Type 0
HasVersion ms version = (1 ≤ version) × (version ≤ 3) × ((HasNone ms key.Version × (version ≡ 1)) ⊎ HasNumber ms key.Version version)

-- the constant field is stated as eight hexadecimal digits, or 03 00 00 00
abbrev pub HasConstant : Members → List ℕ → Type 0
HasConstant ms bytes =
    (HasNone ms key.Constant × (bytes ≡ 3 ∷ 0 ∷ 0 ∷ 0 ∷ []))
    ⊎ ((text : List ℕ) × HasText ms key.Constant text × (decode_sized text 4 ≡ Ok bytes))

-- the latency is stated in microseconds and kept in nanoseconds, or 0
abbrev pub HasLatency : Members → ℕ → Type 0
HasLatency ms latency = (HasNone ms key.Latency × (latency ≡ 0)) ⊎ ((us : ℕ) × HasNumber ms key.Latency us × (latency ≡ us * 1000))

-- the same ports in any order: as many of the one list as of the other pass each test
abbrev pub AreSamePorts : List PortRow → List PortRow → Type 0
AreSamePorts ps qs = (test : PortRow → Bool) → count_by test ps ≡ count_by test qs

-- a table of the file holds what the text's tree says of it
pub record Holds (ms : Members) (c : Content) : Type 0 where
  pub version : ℕ
  pub has_version : HasVersion ms version
  pub constant : HasConstant ms c.constant
  pub latency : HasLatency ms c.latency
  -- one port for each TOML table of `port`: the ports in file order
  pub port_tables : List Members
  pub has_ports : HasTables ms key.Port port_tables
  pub rows : List PortRow
  pub rows_of : AllZip (IsPortOf version) port_tables rows
  pub ports : AreSamePorts rows c.ports
  -- one link for each TOML table of `link`, in file order
  pub link_tables : List Members
  pub has_links : HasTables ms key.Link link_tables
  pub links : AllZip (IsLinkOf version) link_tables c.links
  -- a key of the latency is there from the third version on
  pub no_other : are_known (top_keys version) ms ≡ true

-- every table of a text holds what the text says, and nothing else
abbrev pub TablesHoldTheirTexts : Type 0
TablesHoldTheirTexts = (bytes : List ℕ) (ms : Members) (c : Content) → tree_of bytes ≡ Ok ms → table_of bytes ≡ Ok c → Holds ms c

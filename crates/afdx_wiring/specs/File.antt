-- The network of a text, or the first refusal (profile): the text, the top, each switch after those before it, each wire after the
-- switches and the wires before it.
use Rattle.std.specs.Prelude.{ℕ, ◌+◌, ◌*◌, ◌==◌, ◌&&◌, ◌||◌, Bool, false, nat_lt, if◌then◌else◌, List, [], ◌∷◌, ◌++◌, length, position, slice_get}
use Rattle.std.specs.Prelude.{option_map, Result, Ok, Err}
use Rattle.std.specs.Prelude.{not}
use Rattle.std.specs.List.{list_any}
use Rattle.std.specs.Option.{option_map_or}
use Rattle.std.specs.Str.{bytes_eq, is_utf8}
use Rattle.toml.specs.Data.{Members}
use Rattle.toml.specs.Parse.{parse_document}
use Rattle.afdx_wiring.specs.declared.fault.At.{At}
use Rattle.afdx_wiring.specs.declared.fault.At.TheVariants as place
use Rattle.afdx_wiring.specs.declared.fault.Key.{Key}
use Rattle.afdx_wiring.specs.declared.fault.Key.TheVariants as key
use Rattle.afdx_wiring.specs.declared.fault.NetworkFault.{NetworkFault}
use Rattle.afdx_wiring.specs.declared.fault.NetworkFault.TheVariants.{Toml, Range, TwiceSwitch, NoSuchSwitch, TwiceFrom, TwiceTo, OwnPort}
use Rattle.afdx_wiring.specs.declared.layout.End.{End}
use Rattle.afdx_wiring.specs.declared.layout.Wire.{Wire}
use Rattle.afdx_wiring.specs.Names.{is_name, end_in}
use Rattle.afdx_wiring.specs.Refusal.{◌>>=◌, or_refuse, unless}
use Rattle.afdx_wiring.specs.Fields.{known_at, optional_number_at, flag_at, text_at, tables_at}

-- ---- what a file says

-- what the file says of a switch
pub record Switch : Type 0 where
  pub name : List ℕ
  -- the name of its table's file
  pub path : List ℕ
  -- nanoseconds that it takes for each frame, at least
  pub least : ℕ
  -- an outage: nothing comes in there
  pub down : Bool

-- what the file says of a network
pub record Layout : Type 0 where
  -- what each end system's port captured came over one line
  pub one_line : Bool
  pub switches : List Switch
  pub wires : List Wire

-- ---- outages

-- the switch at this place is down
abbrev pub is_down : List Switch → ℕ → Bool
is_down switches place = option_map_or (λ s. s.down) (slice_get switches place) false

-- ---- switches

-- one of these switches has the name
abbrev pub has_switch : List Switch → List ℕ → Bool
has_switch switches name = list_any (λ s. bytes_eq s.name name) switches

-- the switch of these fields, after the switches before it; its least latency is in whole microseconds from 0 to 100, as the greatest is
-- in its table, and 0 if it is not stated
unfoldable pub switch_at : At → List Switch → Members → Result Switch NetworkFault
switch_at at before ms = do
  known ← known_at at (key.Name ∷ key.Table ∷ key.LeastLatency ∷ key.Down ∷ []) ms
  name ← text_at at key.Name ms
  is_one ← unless (not (is_name name)) (Range at key.Name)
  path ← text_at at key.Table ms
  is_path ← unless (length path == 0) (Range at key.Table)
  least ← optional_number_at at key.LeastLatency 100 0 ms
  down ← flag_at at key.Down ms
  once ← unless (has_switch before name) (TwiceSwitch at)
  Ok (record { name = name; path = path; least = least * 1000; down = down })

-- the switches of these tables, of which n come before
unfoldable pub switches_from : ℕ → List Switch → List Members → Result (List Switch) NetworkFault
switches_from n before [] = Ok before
switches_from n before (ms ∷ rest) = do
  switch ← switch_at (place.Switch (n + 1)) before ms
  switches_from (n + 1) (before ++ switch ∷ []) rest

-- ---- wires

-- the name of a switch, and the number of a port
unfoldable pub end_at : At → Key → Members → Result (List ℕ × ℕ) NetworkFault
end_at at k ms = do
  text ← text_at at k ms
  or_refuse (Range at k) (end_in text)

-- the end at a switch of this name
unfoldable pub found : At → List Switch → List ℕ × ℕ → Result End NetworkFault
found at switches e = or_refuse (NoSuchSwitch at) (option_map (λ n. record { switch = n; port = e.1 }) (position (λ s. bytes_eq s.name e.0) switches))

-- both ends are one port of one switch
abbrev pub is_end : End → End → Bool
is_end e f = (e.switch == f.switch) && (e.port == f.port)

-- one of these wires comes from this end
abbrev pub comes_from : List Wire → End → Bool
comes_from wires e = list_any (λ w. is_end w.from e) wires

-- one of these wires goes to this end
abbrev pub goes_to : List Wire → End → Bool
goes_to wires e = list_any (λ w. is_end w.to e) wires

-- a wire beside those before it
unfoldable pub fitting : At → List Wire → Wire → Result Wire NetworkFault
fitting at before w = do
  from_once ← unless (comes_from before w.from) (TwiceFrom at)
  to_once ← unless (goes_to before w.to) (TwiceTo at)
  others ← unless (is_end w.from w.to) (OwnPort at)
  Ok w

-- the wire of these fields, after the switches and the wires before it; a millisecond at most, 5 ns for each metre. It is down if it is
-- said to be, or if a switch at one of its ends is
unfoldable pub wire_at : At → List Switch → List Wire → Members → Result Wire NetworkFault
wire_at at switches before ms = do
  known ← known_at at (key.From ∷ key.To ∷ key.Delay ∷ key.Down ∷ []) ms
  from_text ← end_at at key.From ms
  to_text ← end_at at key.To ms
  delay ← optional_number_at at key.Delay 1000000 0 ms
  down ← flag_at at key.Down ms
  from ← found at switches from_text
  to ← found at switches to_text
  fitting at before (record { from = from; to = to; delay = delay; down = down || is_down switches from.switch || is_down switches to.switch })

-- the wires of these tables, of which n come before
unfoldable pub wires_from : ℕ → List Switch → List Wire → List Members → Result (List Wire) NetworkFault
wires_from n switches before [] = Ok before
wires_from n switches before (ms ∷ rest) = do
  wire ← wire_at (place.Wire (n + 1)) switches before ms
  wires_from (n + 1) switches (before ++ wire ∷ []) rest

-- ---- the file

-- what the top of the file says, its switches and wires not read yet
pub record Top : Type 0 where
  pub one_line : Bool
  pub switches : List Members
  pub wires : List Members

-- the top of the file: its version is the first, and there are at most 64 switches
unfoldable pub top_at : Members → Result Top NetworkFault
top_at ms = do
  known ← known_at place.Top (key.Version ∷ key.OneLine ∷ key.Switch ∷ key.Wire ∷ []) ms
  version ← optional_number_at place.Top key.Version 1 1 ms
  is_first ← unless (version == 0) (Range place.Top key.Version)
  one_line ← flag_at place.Top key.OneLine ms
  switches ← tables_at place.Top key.Switch ms
  wires ← tables_at place.Top key.Wire ms
  few ← unless (nat_lt 64 (length switches)) (Range place.Top key.Switch)
  Ok (record { one_line = one_line; switches = switches; wires = wires })

-- the layout that the text's tree says: the top, then each switch, then each wire
unfoldable pub layout_in : Members → Result Layout NetworkFault
layout_in ms = do
  top ← top_at ms
  switches ← switches_from 0 [] top.switches
  wires ← wires_from 0 switches [] top.wires
  Ok (record { one_line = top.one_line; switches = switches; wires = wires })

-- TOML 1.1, as the library toml reads it: the tree of the bytes, which are UTF-8
unfoldable pub tree_of : List ℕ → Result Members NetworkFault
tree_of bytes = if is_utf8 bytes then or_refuse Toml (parse_document bytes) else Err Toml

-- the layout of a text's bytes
unfoldable pub layout_of : List ℕ → Result Layout NetworkFault
layout_of bytes = tree_of bytes >>= layout_in

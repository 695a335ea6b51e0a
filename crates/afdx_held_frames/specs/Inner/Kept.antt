-- What a store keeps between its calls.
use Rattle.std.specs.Prelude.{ℕ, ◌+◌, ◌<◌, ◌≤◌, ◌≡◌, ◌≢◌, List, map, slice_index_or, Option, Some, None, length, count_by, is_some}
use Rattle.std.specs.Option.{option_map}
use Rattle.slab.specs.Slab.{Slab, ContainsKey, get, slab_len}
use Rattle.afdx_held_frames.specs.declared.store.Store.TheInside.{Inside}
use Rattle.afdx_held_frames.specs.declared.store.Slot.{Slot}
use Rattle.afdx_held_frames.specs.Seen.{Held, StoreValue}

-- the key of an arrival of which nothing is held
abbrev pub no_key : ℕ
no_key = 4294967295

-- the key of an arrival
abbrev pub key_at : List ℕ → ℕ → ℕ
key_at keys number = slice_index_or keys number no_key

-- what the slot at a key holds
abbrev pub seen_at : {Z : Type 0} → List (Option (Slot Z)) → ℕ → Option Held
seen_at {Z} slots key = option_map (λ (slot : Slot Z). record { copies = slot.copies; frame = slot.frame }) (slice_index_or slots key None)

abbrev pub value_of : {Z : Type 0} → Inside Z → StoreValue
value_of s = record { held = map (seen_at s.slots.slots) s.keys.items; room = s.room }

-- nothing is held of the arrivals from one on and before another
abbrev pub NoneHeld : List ℕ → ℕ → ℕ → Type 0
NoneHeld keys from to = (i : ℕ) → from ≤ i → i < to → key_at keys i ≡ no_key

pub record IsKeptStore {Z : Type 0} (s : Inside Z) : Type 0 where
  -- no slot has the key of nothing
  pub vacant : get s.slots no_key ≡ None
  -- each other key has its slot, and no two arrivals have one
  pub there : (i : ℕ) → key_at s.keys.items i ≢ no_key → ContainsKey s.slots (key_at s.keys.items i)
  pub once : (i j : ℕ) → i ≢ j → key_at s.keys.items i ≡ key_at s.keys.items j → key_at s.keys.items i ≡ no_key
  -- of each frame at least one copy is left
  pub copies : (key : ℕ) (slot : Slot Z) → get s.slots key ≡ Some slot → 0 < slot.copies
  pub count : slab_len s.slots ≡ count_by is_some (map (seen_at s.slots.slots) s.keys.items)
  pub slots_room : slab_len s.slots + s.room ≤ s.slots.capacity
  pub few : 0 < s.room → s.slots.capacity ≤ no_key
  pub keys_room : s.room ≤ s.keys.room
  pub left : s.keys.first ≤ s.low
  pub low_within : s.low ≤ length s.keys.items
  pub past : (i : ℕ) → i < s.low → key_at s.keys.items i ≡ no_key

-- Which frames of a link the records are that left for it at an output port, and what became of the others (profile).
use Rattle.std.specs.Prelude.{ℕ, ◌+◌, ◌-◌, nat_lt, not, Bool, true, false, ◌&&◌, List}
use Rattle.std.specs.Prelude.{[], ◌∷◌, ◌++◌, map, take, drop, Option, Some, None, slice_get, if◌then◌else◌}
use Rattle.std.specs.List.{position, position_or_len, list_any, find}
use Rattle.std.specs.Option.{option_or, option_map}
use Rattle.afdx_pcap.specs.Record.{Record}
use Rattle.afdx_pairing.specs.declared.limits.Limits.{Limits}
use Rattle.afdx_pairing.specs.declared.event.Pair.{Pair}
use Rattle.afdx_pairing.specs.declared.event.Event.{Event}
use Rattle.afdx_pairing.specs.declared.event.Event.TheVariants.{Kept, Early, Late, Missing, After, Extra, Before}
use Rattle.afdx_pairing.specs.Events.{Numbered, mark_of}
use Rattle.afdx_pairing.specs.Limits.{left_at, most_of, is_early, is_late, in_bound, came_within, stays}

-- what is held of a link at a port: the frames that its account passed and that came after the one that was paired last, the policed ones,
-- and whether any was paired
pub record Pairing : Type 0 where
  pub limits : Limits
  pub waiting : List Numbered
  pub policed : List Numbered
  pub begun : Bool

-- a port at which nothing has come or left
abbrev pub at_first : Limits → Pairing
at_first m = record { limits = m; waiting = []; policed = []; begun = false }

-- ---- a frame came

-- a frame came: it waits if the account passed it
abbrev pub with_frame : Pairing → Numbered → Bool → Pairing
with_frame p n true = record p { waiting = p.waiting ++ n ∷ [] }
with_frame p n false = record p { policed = p.policed ++ n ∷ [] }

-- ---- a record left

-- how many frames came more than twice the bound before an instant: no record that leaves from then on is of them
abbrev pub gone_by : Limits → ℕ → List Numbered → ℕ
gone_by m at ns = position_or_len (λ n. stays m at n.frame) ns

-- what is held of frames from an instant on: those that came more than twice the bound before are let go
abbrev pub kept_at : ℕ → Pairing → Pairing
kept_at at p = record p { waiting = drop (gone_by p.limits at p.waiting) p.waiting; policed = drop (gone_by p.limits at p.policed) p.policed }

-- the place of the frame that the record is taken for: the first one within whose bounds it left, or else the first that came before it
-- left, by at most twice the bound
abbrev pub partner : Pairing → Record → Option ℕ
partner p left =
    option_or (position (λ n. in_bound p.limits n.frame left) p.waiting) (position (λ n. came_within p.limits 2 n.frame left) p.waiting)

-- what a record is taken for with a frame that has its bytes
abbrev pub taken_for : Limits → Numbered → Numbered → Event
taken_for m came left =
    let pair : Pair = record { came = mark_of came; left = mark_of left; delay = left_at m left.frame - came.frame.stamp } in
    if is_early m came.frame left.frame then Early pair
    else if is_late m came.frame left.frame then Late pair
    else Kept pair

-- what a record without such a frame is taken for: one of a frame from before the recording if it left soon after that began, none was
-- paired before it, and no frame that was policed then has its bytes; else it is extra
abbrev pub taken_alone : Pairing → Numbered → Event
taken_alone p left =
    if not p.begun && nat_lt (left_at p.limits left.frame) p.limits.before && not (list_any (λ n. came_within p.limits 2 n.frame left.frame) p.policed)
    then Before (mark_of left)
    else Extra (mark_of left) (option_map mark_of (find (λ n. came_within p.limits 1 n.frame left.frame) p.policed))

-- nothing left of these frames
abbrev pub missing : List Numbered → List Event
missing ns = map (λ n. Missing (mark_of n)) ns

-- frames before the record's partner are missing; without a partner all wait on
abbrev pub paired : Option ℕ → Pairing → Pairing
paired None p = p
paired (Some i) p = record p { waiting = drop (i + 1) p.waiting; begun = true }

-- what a record is taken for with its partner
abbrev pub taken_with : Limits → Option Numbered → Numbered → List Event
taken_with m None left = []
taken_with m (Some came) left = taken_for m came left ∷ []

-- what a record tells: the frames before its partner are missing, and what it is taken for
abbrev pub pairing_told : Option ℕ → Pairing → Numbered → List Event
pairing_told None p left = taken_alone p left ∷ []
pairing_told (Some i) p left = missing (take i p.waiting) ++ taken_with p.limits (slice_get p.waiting i) left

-- frames that wait and are let go by an instant are missing
abbrev pub gone_told : ℕ → Pairing → List Event
gone_told at p = missing (take (gone_by p.limits at p.waiting) p.waiting)

-- what is held after a record left
abbrev pub with_left : Pairing → Numbered → Pairing
with_left p left =
    let kept = kept_at (left_at p.limits left.frame) p in
    paired (partner kept left.frame) kept

-- what a record that left tells: the frames that are let go by then, and what it is taken for
abbrev pub left_told : Pairing → Numbered → List Event
left_told p left =
    let at = left_at p.limits left.frame in
    let kept = kept_at at p in
    gone_told at p ++ pairing_told (partner kept left.frame) kept left

-- ---- the end

-- what becomes of a frame that waits if records ended at an instant, or if all had left
abbrev pub ended : Limits → Option ℕ → Numbered → Event
ended m None n = Missing (mark_of n)
ended m (Some last) n = if nat_lt last (n.frame.stamp + most_of m) then After (mark_of n) else Missing (mark_of n)

-- what becomes of all frames that still wait
abbrev pub end_told : Pairing → Option ℕ → List Event
end_told p last = map (ended p.limits last) p.waiting

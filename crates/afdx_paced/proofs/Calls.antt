-- What the calls answer, as contracts see it.
use Rattle.std.proofs.Common.{◌≡◌, ℕ, ◌<◌, ◌≤◌, ◌||◌, ◌==◌, nat_lt, Bool, true, false, cond, List, [], ◌∷◌, map, length, set, get_or, Some, None, refl, ap}
use Rattle.std.proofs.Common.{sym, ◌∙◌, subst}
use Rattle.std.specs.Prelude.{find, position}
use Rattle.std.proofs.lemmas.Bool.{ltb-false}
use Rattle.std.proofs.lemmas.Option.{same_Some, slice_get-get_or, slice_get_within}
use Rattle.afdx_pcap.specs.Record.{Record}
use Rattle.afdx_pcap.specs.Fault.{last_stamp}
use Rattle.afdx_table.specs.declared.rows.PortRow.{PortRow}
use Rattle.afdx_table.specs.Content.{Content}
use Rattle.afdx_core.specs.State.{State, fresh_state}
use Rattle.afdx_session.proofs.Places.{position_at, position_none}
use Rattle.afdx_paced.specs.declared.paced.PacedFault.TheVariants.{NoSuchPort, Early}
use Rattle.afdx_paced.specs.Paced.{Lane, Paced, fresh_lane, fresh_paced, early_at, refusal_by, put_refusal, after_put, after_going, after_leaving}
use Rattle.afdx_paced.specs.Inner.Parts.{Parts, lane_of, lanes_of, joined, departed}
use Rattle.afdx_paced.specs.Inner.Kept.{paced_of, IsOfTable, IsSameTable, ComesTo, IsCut, IsGoing}
use Rattle.afdx_paced.specs.declared.feeder.Feeder.{Feeder}
use Rattle.afdx_paced.proofs.Lists.{all_at}
use Rattle.afdx_paced.proofs.Fresh.{fresh_all}
use Rattle.afdx_paced.proofs.Places.{is_of, IsPlaceOf, place_of_port, no_such_lane}
use Rattle.afdx_paced.proofs.Putting.{lanes_more}
use Rattle.afdx_paced.proofs.Handing.{lanes_left}

-- ---- at first

fresh_lanes : (ports : List PortRow) → lanes_of (fresh_all ports) ≡ map fresh_lane ports
fresh_lanes [] = refl
fresh_lanes (p ∷ ports) = ap (λ (ls : List Lane). fresh_lane p ∷ ls) (fresh_lanes ports)

pub fresh_seen : {Z : Type 0} (f : Feeder Z) (t : Content) (keeps : Bool) → f.switch ≡ fresh_state false keeps t → f.lanes.items ≡ fresh_all t.ports → paced_of f 0 false ≡ fresh_paced keeps t
fresh_seen f t keeps switch lanes =
    let made : State → List Lane → Paced = λ s ls. record { table = s.run.table; lanes = ls; reached = 0; failed = false; keeps = s.keeps } in
    ap (λ (s : State). made s (lanes_of f.lanes.items)) switch ∙ ap (made (fresh_state false keeps t)) (ap lanes_of lanes ∙ fresh_lanes t.ports)

-- ---- the place of a port

pub placed_at : {Z : Type 0} (f : Feeder Z) (lanes : List Parts) (port place : ℕ) → lanes ≡ f.lanes.items → IsOfTable f → position (is_of port) lanes ≡ Some place
    → IsPlaceOf f.switch.run.table.ports f.lanes.items port place
placed_at f lanes port place same of is =
    let at = position_at (is_of port) f.lanes.items place (subst (λ (ls : List Parts). position (is_of port) ls ≡ Some place) same is) in
    place_of_port f.switch.run.table.ports f.lanes.items port place of.ports at.0 at.1

pub not_placed : {Z : Type 0} (f : Feeder Z) (lanes : List Parts) (port : ℕ) → lanes ≡ f.lanes.items → position (is_of port) lanes ≡ None
    → find (λ (l : Lane). l.port == port) (lanes_of f.lanes.items) ≡ None
not_placed f lanes port same is =
    no_such_lane f.lanes.items port (position_none (is_of port) f.lanes.items (subst (λ (ls : List Parts). position (is_of port) ls ≡ None) same is))

pub place_fits : {X : Type 0} (test : X → Bool) (xs ys : List X) (place : ℕ) → xs ≡ ys → position test xs ≡ Some place → place < length ys
place_fits test xs ys place same is = subst (λ zs. place < length zs) same (position_at test xs place is).1

-- the lane that is read there
pub lane_read : (ports : List PortRow) (lanes : List Parts) (port place : ℕ) (l d : Parts) (is : IsPlaceOf ports lanes port place) → l ≡ get_or lanes place d → is.lane ≡ l
lane_read ports lanes port place l d is read =
    same_Some is.lane l (sym is.at ∙ slice_get-get_or lanes place d (slice_get_within lanes place is.lane is.at) ∙ ap Some (sym read))

-- ---- a record comes in

early_is : (h stamp last : ℕ) (l : Lane) (b : Bool) → last ≡ last_stamp 0 l.came → (nat_lt stamp h || nat_lt stamp last) ≡ b → early_at h stamp l ≡ cond b (Some Early) None
early_is h stamp last l b same is = ap (λ c. cond c (Some Early) None) (ap (λ n. nat_lt stamp h || nat_lt stamp n) (sym same) ∙ is)

pub refused_at : {Z : Type 0} (f : Feeder Z) (h : ℕ) (v : Paced) (port place stamp last : ℕ) (b : Bool) (is : IsPlaceOf f.switch.run.table.ports f.lanes.items port place) → paced_of f h false ≡ v
    → IsGoing h f → last ≡ is.lane.last → (nat_lt stamp h || nat_lt stamp last) ≡ b → put_refusal v port stamp ≡ cond b (Some Early) None
refused_at f h v port place stamp last b is view going same tested =
    let own : IsCut h is.lane = all_at (IsCut h) f.lanes.items place is.lane going.cut is.at in
    ap (λ (w : Paced). put_refusal w port stamp) (sym view)
    ∙ ap (refusal_by h stamp) is.lane_is
    ∙ early_is h stamp last (lane_of is.lane) b (same ∙ own.sorted.last) tested

pub refused_port : {Z : Type 0} (f : Feeder Z) (h : ℕ) (v : Paced) (port stamp : ℕ) → paced_of f h false ≡ v → find (λ (l : Lane). l.port == port) (lanes_of f.lanes.items) ≡ None
    → put_refusal v port stamp ≡ Some NoSuchPort
refused_port f h v port stamp view none = ap (λ (w : Paced). put_refusal w port stamp) (sym view) ∙ ap (refusal_by h stamp) none

-- what the test says where it does not hold
pub in_time : (h stamp last : ℕ) → (nat_lt stamp h || nat_lt stamp last) ≡ false → (h ≤ stamp) × (last ≤ stamp)
in_time h stamp last is = both (nat_lt stamp h) refl is where
  both : (b : Bool) → nat_lt stamp h ≡ b → (b || nat_lt stamp last) ≡ false → (h ≤ stamp) × (last ≤ stamp)
  both true first none = absurd cc
  both false first none = (ltb-false stamp h first, ltb-false stamp last none)

pub put_seen : {Z : Type 0} (old new : Feeder Z) (h : ℕ) (v : Paced) (port place : ℕ) (frame : Record) (is : IsPlaceOf old.switch.run.table.ports old.lanes.items port place) → paced_of old h false ≡ v
    → new.switch ≡ old.switch → new.lanes.items ≡ set old.lanes.items place (joined frame is.lane) → paced_of new h false ≡ after_put port frame v
put_seen old new h v port place frame is view switch lanes =
    let made : State → List Lane → Paced = λ s ls. record { table = s.run.table; lanes = ls; reached = h; failed = false; keeps = s.keeps } in
    ap (λ (s : State). made s (lanes_of new.lanes.items)) switch
    ∙ ap (made old.switch) (ap lanes_of lanes ∙ lanes_more old.switch.run.table.ports old.lanes.items port place frame is)
    ∙ ap (after_put port frame) view

pub leave_seen : {Z : Type 0} (old new : Feeder Z) (h : ℕ) (v : Paced) (port place : ℕ) (frame : Record) (is : IsPlaceOf old.switch.run.table.ports old.lanes.items port place)
    → paced_of old h false ≡ v
    → new.switch.run.table ≡ old.switch.run.table → new.switch.keeps ≡ old.switch.keeps → new.lanes.items ≡ set old.lanes.items place (departed frame is.lane)
    → paced_of new h false ≡ after_leaving port frame v
leave_seen old new h v port place frame is view table keeps lanes =
    let made : Content → Bool → List Lane → Paced = λ c b ls. record { table = c; lanes = ls; reached = h; failed = false; keeps = b } in
    ap (λ (c : Content). made c new.switch.keeps (lanes_of new.lanes.items)) table
    ∙ ap (λ b. made old.switch.run.table b (lanes_of new.lanes.items)) keeps
    ∙ ap (made old.switch.run.table old.switch.keeps) (ap lanes_of lanes ∙ lanes_left old.switch.run.table.ports old.lanes.items port place frame is)
    ∙ ap (after_leaving port frame) view

-- the calls are not over what has failed
pub going_is : {Z : Type 0} (f : Feeder Z) (h : ℕ) (failed : Bool) (v : Paced) → paced_of f h failed ≡ v → v.failed ≡ false → failed ≡ false
going_is f h failed v view going = ap (λ (w : Paced). w.failed) view ∙ going

pub gone_seen : {Z : Type 0} (old new : Feeder Z) (since : ℕ) (failed : Bool) (h : ℕ) (v : Paced) → paced_of old since failed ≡ v → v.failed ≡ false → IsSameTable old.switch new.switch
    → ComesTo old new
    → paced_of new h false ≡ after_going h v
gone_seen old new since failed h v view going same comes =
    let made : Content → Bool → List Lane → Bool → Paced = λ c k ls b. record { table = c; lanes = ls; reached = h; failed = b; keeps = k } in
    ap (λ (c : Content). made c new.switch.keeps (lanes_of new.lanes.items) false) same.table
    ∙ ap (λ k. made old.switch.run.table k (lanes_of new.lanes.items) false) same.keeps
    ∙ ap (λ (ls : List Lane). made old.switch.run.table old.switch.keeps ls false) comes.lanes
    ∙ ap (made old.switch.run.table old.switch.keeps (lanes_of old.lanes.items)) (sym (going_is old since failed v view going))
    ∙ ap (after_going h) view

-- A port's place: that of its lane, of its intake and of its row.
use Rattle.std.proofs.Common.{◌≡◌, ℕ, zero, suc, ◌+◌, ◌<◌, ◌≤◌, ◌==◌, nat_lt, Bool, true, false, cond, not, List, [], ◌∷◌, map, length, set, slice_get, Option, Some, None, refl, ap, sym, ◌∙◌}
use Rattle.std.proofs.Common.{get_or, drop, arith, subst}
use Rattle.std.specs.Prelude.{find, if◌then◌else◌}
use Rattle.std.specs.List.{position, position_or_len}
use Rattle.std.specs.Option.{option_map}
use Rattle.std.proofs.lemmas.Bool.{ltb-true, ltb-false}
use Rattle.std.proofs.lemmas.Option.{same_Some}
use Rattle.afdx_table.specs.declared.rows.PortRow.{PortRow}
use Rattle.afdx_session.specs.declared.lane.Lane.{Lane}
use Rattle.afdx_session.specs.Session.{Intake, changed}
use Rattle.afdx_session.specs.Inner.Lanes.{intake_of}
use Rattle.afdx_session.specs.Inner.View.{intakes_of}

-- ---- positions

abbrev found_by : Bool → ℕ → Option ℕ
found_by b n = if b then Some n else None

place_is : (b : Bool) (n k : ℕ) → found_by b n ≡ Some k → (b ≡ true) × (n ≡ k)
place_is true n k is = (refl, same_Some n k is)
place_is false n k is = absurd cc

no_place : (b : Bool) (n : ℕ) → found_by b n ≡ None → b ≡ false
no_place true n is = absurd cc
no_place false n is = refl

pub position_at : {X : Type 0} (test : X → Bool) (xs : List X) (k : ℕ) → position test xs ≡ Some k → (position_or_len test xs ≡ k) × (k < length xs)
position_at test xs k is =
    let both = place_is (nat_lt (position_or_len test xs) (length xs)) (position_or_len test xs) k is in
    let lt = ltb-true (position_or_len test xs) (length xs) both.0 in
    (both.1, subst (λ n. n < length xs) both.1 lt)

pub position_none : {X : Type 0} (test : X → Bool) (xs : List X) → position test xs ≡ None → length xs ≤ position_or_len test xs
position_none test xs is = ltb-false (position_or_len test xs) (length xs) (no_place (nat_lt (position_or_len test xs) (length xs)) (position_or_len test xs) is)

-- ---- what is there

abbrev pub is_lane_of : {Z : Type 0} → ℕ → Lane Z → Bool
is_lane_of port l = l.port == port

-- the first lane of a port, its row and its intake
pub record IsPlaceOf {Z : Type 0} (ports : List PortRow) (lanes : List (Lane Z)) (port place : ℕ) : Type 0 where
  pub lane : Lane Z
  pub at : slice_get lanes place ≡ Some lane
  pub port_is : (lane.port == port) ≡ true
  pub row : PortRow
  pub row_at : slice_get ports place ≡ Some row
  pub row_is : find (λ (p : PortRow). p.id == port) ports ≡ Some row
  pub intake_is : find (λ (i : Intake). i.port == port) (intakes_of lanes) ≡ Some (intake_of lane)
  pub changed_is : (f : Intake → Intake) → changed port f (intakes_of lanes) ≡ set (intakes_of lanes) place (f (intake_of lane))

pub place_of_port : {Z : Type 0} (ports : List PortRow) (lanes : List (Lane Z)) (port place : ℕ) → map (λ (l : Lane Z). l.port) lanes ≡ map (λ (p : PortRow). p.id) ports
    → position_or_len (is_lane_of port) lanes ≡ place → place < length lanes
    → IsPlaceOf ports lanes port place
place_of_port ports [] port place same is lt = absurd (omega (arith, lt))
place_of_port [] (l ∷ lanes) port place same is lt = absurd cc
place_of_port {Z} (p ∷ ports) (l ∷ lanes) port place same is lt = by (l.port == port) refl (place_of_port ports lanes port (position_or_len (is_lane_of port) lanes) (ap (drop 1) same) refl) where
  by : (b : Bool) → (l.port == port) ≡ b → (position_or_len (is_lane_of port) lanes < length lanes → IsPlaceOf ports lanes port (position_or_len (is_lane_of port) lanes))
      → IsPlaceOf (p ∷ ports) (l ∷ lanes) port place
  by true here further =
      let none : zero ≡ place = ap (λ b. cond (not b) (1 + position_or_len (is_lane_of port) lanes) zero) (sym here) ∙ is in
      subst (IsPlaceOf (p ∷ ports) (l ∷ lanes) port) none (record {
        lane = l;
        at = refl;
        port_is = here;
        row = p;
        row_at = refl;
        row_is = ap (λ b. cond b (Some p) (find (λ (q : PortRow). q.id == port) ports)) (ap (λ n. n == port) (sym (ap (λ (ns : List ℕ). get_or ns 0 0) same)) ∙ here);
        intake_is = ap (λ b. cond b (Some (intake_of l)) (find (λ (i : Intake). i.port == port) (intakes_of lanes))) here;
        changed_is = λ f. ap (λ b. cond b (f (intake_of l) ∷ intakes_of lanes) (intake_of l ∷ changed port f (intakes_of lanes))) here;
      })
  by false other further =
      let more : 1 + position_or_len (is_lane_of port) lanes ≡ place = ap (λ b. cond (not b) (1 + position_or_len (is_lane_of port) lanes) zero) (sym other) ∙ is in
      let rest = further (omega (arith, lt, more)) in
      let step : suc (position_or_len (is_lane_of port) lanes) ≡ place = omega (arith, more) in
      subst (IsPlaceOf (p ∷ ports) (l ∷ lanes) port) step (record {
        lane = rest.lane;
        at = rest.at;
        port_is = rest.port_is;
        row = rest.row;
        row_at = rest.row_at;
        row_is = ap (λ b. cond b (Some p) (find (λ (q : PortRow). q.id == port) ports)) (ap (λ n. n == port) (sym (ap (λ (ns : List ℕ). get_or ns 0 0) same)) ∙ other) ∙ rest.row_is;
        intake_is = ap (λ b. cond b (Some (intake_of l)) (find (λ (i : Intake). i.port == port) (intakes_of lanes))) other ∙ rest.intake_is;
        changed_is = λ f. ap (λ b. cond b (f (intake_of l) ∷ intakes_of lanes) (intake_of l ∷ changed port f (intakes_of lanes))) other ∙ ap (λ is. intake_of l ∷ is) (rest.changed_is f);
      })

-- the intake of the lane that was found, whatever the table
pub intake_found : {Z : Type 0} (lanes : List (Lane Z)) (port place : ℕ) (lane : Lane Z) → position_or_len (is_lane_of port) lanes ≡ place → place < length lanes → slice_get lanes place ≡ Some lane
    → find (λ (i : Intake). i.port == port) (intakes_of lanes) ≡ Some (intake_of lane)
intake_found [] port place lane is lt at = absurd (omega (arith, lt))
intake_found {Z} (l ∷ lanes) port place lane is lt at = by (l.port == port) refl (intake_found lanes port (position_or_len (is_lane_of port) lanes) lane refl) where
  by : (b : Bool) → (l.port == port) ≡ b
      → (position_or_len (is_lane_of port) lanes < length lanes → slice_get lanes (position_or_len (is_lane_of port) lanes) ≡ Some lane → find (λ (i : Intake). i.port == port) (intakes_of lanes)
      ≡ Some (intake_of lane))
      → find (λ (i : Intake). i.port == port) (intakes_of (l ∷ lanes)) ≡ Some (intake_of lane)
  by true here further =
      let none : zero ≡ place = ap (λ b. cond (not b) (1 + position_or_len (is_lane_of port) lanes) zero) (sym here) ∙ is in
      let same : Some l ≡ Some lane = ap (slice_get (l ∷ lanes)) none ∙ at in
      ap (λ b. cond b (Some (intake_of l)) (find (λ (i : Intake). i.port == port) (intakes_of lanes))) here ∙ ap (λ o. option_map (λ (m : Lane Z). intake_of m) o) same
  by false other further =
      let more : 1 + position_or_len (is_lane_of port) lanes ≡ place = ap (λ b. cond (not b) (1 + position_or_len (is_lane_of port) lanes) zero) (sym other) ∙ is in
      let step : suc (position_or_len (is_lane_of port) lanes) ≡ place = omega (arith, more) in
      let there : slice_get lanes (position_or_len (is_lane_of port) lanes) ≡ Some lane = ap (slice_get (l ∷ lanes)) step ∙ at in
      ap (λ b. cond b (Some (intake_of l)) (find (λ (i : Intake). i.port == port) (intakes_of lanes))) other ∙ further (omega (arith, lt, more)) there

-- a port that is not there has neither
pub no_such_intake : {Z : Type 0} (lanes : List (Lane Z)) (port : ℕ) → length lanes ≤ position_or_len (is_lane_of port) lanes → find (λ (i : Intake). i.port == port) (intakes_of lanes) ≡ None
no_such_intake [] port le = refl
no_such_intake {Z = Z} (l ∷ lanes) port le = by (l.port == port) refl (no_such_intake lanes port) where
  by : (b : Bool) → (l.port == port) ≡ b → (length lanes ≤ position_or_len (is_lane_of port) lanes → find (λ (i : Intake). i.port == port) (intakes_of lanes) ≡ None)
      → find (λ (i : Intake). i.port == port) (intakes_of (l ∷ lanes)) ≡ None
  by true here further =
      let none = ap (λ b. cond (not b) (1 + position_or_len (is_lane_of port) lanes) zero) here in
      absurd (omega (arith, le, none))
  by false other further =
      let more = ap (λ b. cond (not b) (1 + position_or_len (is_lane_of port) lanes) zero) other in
      ap (λ b. cond b (Some (intake_of l)) (find (λ (i : Intake). i.port == port) (intakes_of lanes))) other ∙ further (omega (arith, le, more))

pub no_such_row : {Z : Type 0} (ports : List PortRow) (lanes : List (Lane Z)) (port : ℕ) → map (λ (l : Lane Z). l.port) lanes ≡ map (λ (p : PortRow). p.id) ports → length lanes
    ≤ position_or_len (is_lane_of port) lanes
    → find (λ (p : PortRow). p.id == port) ports ≡ None
no_such_row [] [] port same le = refl
no_such_row [] (l ∷ lanes) port same le = absurd cc
no_such_row (p ∷ ports) [] port same le = absurd cc
no_such_row {Z} (p ∷ ports) (l ∷ lanes) port same le = by (l.port == port) refl (no_such_row ports lanes port (ap (drop 1) same)) where
  by : (b : Bool) → (l.port == port) ≡ b → (length lanes ≤ position_or_len (is_lane_of port) lanes → find (λ (q : PortRow). q.id == port) ports ≡ None)
      → find (λ (q : PortRow). q.id == port) (p ∷ ports) ≡ None
  by true here further =
      let none = ap (λ b. cond (not b) (1 + position_or_len (is_lane_of port) lanes) zero) here in
      absurd (omega (arith, le, none))
  by false other further =
      let more = ap (λ b. cond (not b) (1 + position_or_len (is_lane_of port) lanes) zero) other in
      ap (λ b. cond b (Some p) (find (λ (q : PortRow). q.id == port) ports)) (ap (λ n. n == port) (sym (ap (λ (ns : List ℕ). get_or ns 0 0) same)) ∙ other) ∙ further (omega (arith, le, more))

-- A port's place: that of its lane and of its row.
use Rattle.std.proofs.Common.{◌≡◌, ℕ, zero, suc, ◌+◌, ◌<◌, ◌≤◌, ◌==◌, Bool, true, false, cond, not, List, [], ◌∷◌, map, length, set, slice_get, Some, None, refl, ap, sym, ◌∙◌}
use Rattle.std.proofs.Common.{get_or, drop, arith, subst}
use Rattle.std.specs.Prelude.{find}
use Rattle.std.specs.List.{position_or_len}
use Rattle.afdx_table.specs.declared.rows.PortRow.{PortRow}
use Rattle.afdx_paced.specs.Paced.{Lane, changed}
use Rattle.afdx_paced.specs.Inner.Parts.{Parts, lane_of, lanes_of}

-- ---- what is there

abbrev pub is_of : ℕ → Parts → Bool
is_of port l = l.port == port

-- the first lane of a port, and its row
pub record IsPlaceOf (ports : List PortRow) (lanes : List Parts) (port place : ℕ) : Type 0 where
  pub lane : Parts
  pub at : slice_get lanes place ≡ Some lane
  pub row : PortRow
  pub row_at : slice_get ports place ≡ Some row
  pub row_is : find (λ (p : PortRow). p.id == port) ports ≡ Some row
  pub row_place : position_or_len (λ (p : PortRow). p.id == port) ports ≡ place
  pub lane_is : find (λ (l : Lane). l.port == port) (lanes_of lanes) ≡ Some (lane_of lane)
  pub changed_is : (f : Lane → Lane) → changed port f (lanes_of lanes) ≡ set (lanes_of lanes) place (f (lane_of lane))

pub place_of_port : (ports : List PortRow) (lanes : List Parts) (port place : ℕ) → map (λ (l : Parts). l.port) lanes ≡ map (λ (p : PortRow). p.id) ports
    → position_or_len (is_of port) lanes ≡ place → place < length lanes → IsPlaceOf ports lanes port place
place_of_port ports [] port place same is lt = absurd (omega (arith, lt))
place_of_port [] (l ∷ lanes) port place same is lt = absurd cc
place_of_port (p ∷ ports) (l ∷ lanes) port place same is lt = by (l.port == port) refl (place_of_port ports lanes port (position_or_len (is_of port) lanes) (ap (drop 1) same) refl) where
  number : l.port ≡ p.id
  number = ap (λ (ns : List ℕ). get_or ns 0 0) same

  by : (b : Bool) → (l.port == port) ≡ b → (position_or_len (is_of port) lanes < length lanes → IsPlaceOf ports lanes port (position_or_len (is_of port) lanes))
      → IsPlaceOf (p ∷ ports) (l ∷ lanes) port place
  by true here further =
      let none : zero ≡ place = ap (λ b. cond (not b) (1 + position_or_len (is_of port) lanes) zero) (sym here) ∙ is in
      let row : (p.id == port) ≡ true = ap (λ n. n == port) (sym number) ∙ here in
      subst (IsPlaceOf (p ∷ ports) (l ∷ lanes) port) none (record {
        lane = l;
        at = refl;
        row = p;
        row_at = refl;
        row_is = ap (λ b. cond b (Some p) (find (λ (q : PortRow). q.id == port) ports)) row;
        row_place = ap (λ b. cond (not b) (1 + position_or_len (λ (q : PortRow). q.id == port) ports) zero) row;
        lane_is = ap (λ b. cond b (Some (lane_of l)) (find (λ (m : Lane). m.port == port) (lanes_of lanes))) here;
        changed_is = λ f. ap (λ b. cond b (f (lane_of l) ∷ lanes_of lanes) (lane_of l ∷ changed port f (lanes_of lanes))) here;
      })
  by false other further =
      let more : 1 + position_or_len (is_of port) lanes ≡ place = ap (λ b. cond (not b) (1 + position_or_len (is_of port) lanes) zero) (sym other) ∙ is in
      let rest = further (omega (arith, lt, more)) in
      let step : suc (position_or_len (is_of port) lanes) ≡ place = omega (arith, more) in
      let row : (p.id == port) ≡ false = ap (λ n. n == port) (sym number) ∙ other in
      let before = rest.row_place in
      subst (IsPlaceOf (p ∷ ports) (l ∷ lanes) port) step (record {
        lane = rest.lane;
        at = rest.at;
        row = rest.row;
        row_at = rest.row_at;
        row_is = ap (λ b. cond b (Some p) (find (λ (q : PortRow). q.id == port) ports)) row ∙ rest.row_is;
        row_place = ap (λ b. cond (not b) (1 + position_or_len (λ (q : PortRow). q.id == port) ports) zero) row ∙ omega (arith, before);
        lane_is = ap (λ b. cond b (Some (lane_of l)) (find (λ (m : Lane). m.port == port) (lanes_of lanes))) other ∙ rest.lane_is;
        changed_is = λ f. ap (λ b. cond b (f (lane_of l) ∷ lanes_of lanes) (lane_of l ∷ changed port f (lanes_of lanes))) other ∙ ap (λ (ls : List Lane). lane_of l ∷ ls) (rest.changed_is f);
      })

-- a port that is not there has no lane
pub no_such_lane : (lanes : List Parts) (port : ℕ) → length lanes ≤ position_or_len (is_of port) lanes → find (λ (l : Lane). l.port == port) (lanes_of lanes) ≡ None
no_such_lane [] port le = refl
no_such_lane (l ∷ lanes) port le = by (l.port == port) refl (no_such_lane lanes port) where
  by : (b : Bool) → (l.port == port) ≡ b → (length lanes ≤ position_or_len (is_of port) lanes → find (λ (m : Lane). m.port == port) (lanes_of lanes) ≡ None)
      → find (λ (m : Lane). m.port == port) (lanes_of (l ∷ lanes)) ≡ None
  by true here further =
      let none = ap (λ b. cond (not b) (1 + position_or_len (is_of port) lanes) zero) here in
      absurd (omega (arith, le, none))
  by false other further =
      let more = ap (λ b. cond (not b) (1 + position_or_len (is_of port) lanes) zero) other in
      ap (λ b. cond b (Some (lane_of l)) (find (λ (m : Lane). m.port == port) (lanes_of lanes))) other ∙ further (omega (arith, le, more))

-- nor a row
pub no_such_row : (ports : List PortRow) (lanes : List Parts) (port : ℕ) → map (λ (l : Parts). l.port) lanes ≡ map (λ (p : PortRow). p.id) ports
    → length lanes ≤ position_or_len (is_of port) lanes → length ports ≤ position_or_len (λ (p : PortRow). p.id == port) ports
no_such_row [] lanes port same le = omega (arith)
no_such_row (p ∷ ports) [] port same le = absurd cc
no_such_row (p ∷ ports) (l ∷ lanes) port same le = by (l.port == port) refl (no_such_row ports lanes port (ap (drop 1) same)) where
  number : l.port ≡ p.id
  number = ap (λ (ns : List ℕ). get_or ns 0 0) same

  by : (b : Bool) → (l.port == port) ≡ b → (length lanes ≤ position_or_len (is_of port) lanes → length ports ≤ position_or_len (λ (q : PortRow). q.id == port) ports)
      → length (p ∷ ports) ≤ position_or_len (λ (q : PortRow). q.id == port) (p ∷ ports)
  by true here further =
      let none = ap (λ b. cond (not b) (1 + position_or_len (is_of port) lanes) zero) here in
      absurd (omega (arith, le, none))
  by false other further =
      let more = ap (λ b. cond (not b) (1 + position_or_len (is_of port) lanes) zero) other in
      let row : (p.id == port) ≡ false = ap (λ n. n == port) (sym number) ∙ other in
      let step = ap (λ b. cond (not b) (1 + position_or_len (λ (q : PortRow). q.id == port) ports) zero) row in
      let rest = further (omega (arith, le, more)) in
      omega (arith, rest, step)

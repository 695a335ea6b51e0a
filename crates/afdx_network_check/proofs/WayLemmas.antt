-- Ways that go over one line more, and the exits of rows one after another.
use Rattle.std.proofs.Common.{◌≡◌, ℕ, ◌+◌, ◌<◌, List, [], ◌∷◌, ◌++◌, map, length, take, get_or, slice_get, Option, Some, None, option_map}
use Rattle.std.proofs.Common.{option_and_then, refl, ap, sym, ◌∙◌, subst}
use Rattle.std.specs.List.{filter, AllZip}
use Rattle.std.proofs.lemmas.List.{take_more, reverse-append}
use Rattle.std.proofs.lemmas.Option.{same_Some}
use Rattle.afdx_table.specs.declared.rows.PortRow.{PortRow}
use Rattle.afdx_table.specs.Content.{Content, port_row}
use Rattle.afdx_load.specs.Bounds.{bounds_of}
use Rattle.afdx_jitter.specs.declared.delays.Delays.{Delays}
use Rattle.afdx_jitter.specs.Delay.{hop_of, joined, least_jitter}
use Rattle.afdx_network_check.specs.declared.exit.Exit.{Exit}
use Rattle.afdx_wiring.specs.declared.layout.End.{End}
use Rattle.afdx_wiring.specs.declared.layout.Wire.{Wire}
use Rattle.afdx_network_check.specs.declared.ways.Way.{Way}
use Rattle.afdx_network_check.specs.Net.{Network, Row, Back, port_at, ingress, wire_to, least_at, load_at, bound_in, bound_at, source_of}
use Rattle.afdx_network_check.specs.Order.{row_before, within_reason, hop_from, hop_on}
use Rattle.afdx_network_check.specs.Ways.{leads_out, IsWayOver, IsWayOut}
use Rattle.afdx_network_check.specs.Inner.Walks.{IsWayTo}
use Rattle.afdx_network_check.proofs.Enough.{reasonable, from_port}
use Rattle.afdx_network_check.proofs.FeedLemmas.{before_says}

-- ---- exits

abbrev pub exit_in : Row → ℕ → Exit
exit_in r port = record { link = r.link.id; switch = r.switch; port = port }

-- those at these ports
abbrev pub exits_from : Network → Row → List ℕ → List Exit
exits_from net r ports = filter (leads_out net) (map (exit_in r) ports)

-- ---- a line more

-- what a frame takes from a row's switch over a line
pub record Over (net : Network) (r : Row) (line : Wire) (hop : Delays) : Type 0 where
  pub table : Content
  pub port : PortRow
  pub bound : ℕ
  pub table_is : slice_get net.tables r.switch ≡ Some table
  pub port_is : port_at net line.from ≡ Some port
  pub bound_is : bound_at net r port ≡ Some bound
  pub hop_is : hop ≡ hop_of port.speed (least_at net r.switch table) bound line.delay

goes_over : (net : Network) (r : Row) (line : Wire) (hop : Delays) → r.switch ≡ line.from.switch → hop_on net r line.from.port line.delay ≡ Some hop → Over net r line hop
goes_over net r line hop same h = by (slice_get net.tables r.switch) refl h where
  by : (o : Option Content) → slice_get net.tables r.switch ≡ o → option_and_then (hop_from net r line.from.port line.delay) o ≡ Some hop → Over net r line hop
  by None is found = absurd cc
  by (Some t) is found = at_port (port_row t line.from.port) refl found where
    at_port : (o : Option PortRow) → port_row t line.from.port ≡ o → from_port net t r line.delay o ≡ Some hop → Over net r line hop
    at_port None p_is there = absurd cc
    at_port (Some p) p_is there = bounded (bound_in (bounds_of (load_at net r.switch t p)) r.link.priority) refl there where
      bounded : (o : Option ℕ) → bound_in (bounds_of (load_at net r.switch t p)) r.link.priority ≡ o
          → option_map (λ (n : ℕ). hop_of p.speed (least_at net r.switch t) n line.delay) (option_and_then within_reason o) ≡ Some hop → Over net r line hop
      bounded None b_is so = absurd cc
      bounded (Some bound) b_is so = reasoned (within_reason bound) refl so where
        reasoned : (o : Option ℕ) → within_reason bound ≡ o → option_map (λ (n : ℕ). hop_of p.speed (least_at net r.switch t) n line.delay) o ≡ Some hop → Over net r line hop
        reasoned None n_is last = absurd cc
        reasoned (Some n) n_is last = record {
          table = t;
          port = p;
          bound = bound;
          table_is = is;
          port_is = ap (option_and_then (λ (c : Content). port_row c line.from.port)) (ap (slice_get net.tables) (sym same) ∙ is) ∙ p_is;
          bound_is = ap (option_and_then (λ (c : Content). bound_in (bounds_of (load_at net r.switch c p)) r.link.priority)) is ∙ b_is;
          hop_is = sym (same_Some _ _ last) ∙ ap (λ (m : ℕ). hop_of p.speed (least_at net r.switch t) m line.delay) (reasonable bound n n_is);
        }

pub longer : (net : Network) (r : Row) (line : Wire) (old new : Way) (hop : Delays) → r.switch ≡ line.from.switch → hop_on net r line.from.port line.delay ≡ Some hop → new.link ≡ old.link
    → new.from ≡ old.from → new.jitter ≡ old.jitter → new.ports.items ≡ old.ports.items ++ line.from ∷ [] → new.jitters.items ≡ old.jitters.items ++ least_jitter old.delays old.jitter ∷ []
    → new.delays ≡ joined old.delays hop → (source : Row) (stages : List Back) → IsWayOver net source stages old → IsWayOver net source (record { wire = line; row = r } ∷ stages) new
longer net r line old new hop same h link from jitter ports jitters delays source stages w =
    let over = goes_over net r line hop same h in
    record {
      link = link ∙ w.link;
      from = from ∙ w.from;
      jitter = jitter ∙ w.jitter;
      ports = ports ∙ ap (λ (es : List End). es ++ line.from ∷ []) w.ports ∙ sym (reverse-append (line.from ∷ []) (map (λ (b : Back). b.wire.from) stages));
      jitters = (old.delays, old.jitters.items, w.delays, w.jitters, jitters ∙ ap (λ (first : ℕ). old.jitters.items ++ least_jitter old.delays first ∷ []) w.jitter);
      delays = (over.table, over.port, over.bound, old.delays, over.table_is, over.port_is, over.bound_is, w.delays, delays ∙ ap (joined old.delays) over.hop_is);
    }

-- ---- the way to a row

-- from the source stages over a line more
abbrev pub GoesOver : Network → Wire → Row → Way → Way → Type 0
GoesOver net line r old w = (source : Row) (stages : List Back) → IsWayOver net source stages old → IsWayOver net source (record { wire = line; row = r } ∷ stages) w

pub from_wire : (net : Network) (r before : Row) (wire : Wire) (old w : Way) → wire_to net (ingress r) ≡ Some wire → row_before net r.link.id wire ≡ Some before → IsWayTo net before old
    → GoesOver net wire before old w → IsWayTo net r w
from_wire net r before wire old w is found way further =
    let said = before_says net r.link.id wire before found in
    (record { wire = wire; row = before } ∷ way.0, (is, said.row_is, said.leads, way.1), further (source_of before way.0) way.0 way.2)

-- ---- one after another

zip_push : {X Y : Type 0} (R : X → Y → Type 0) (xs : List X) (ys : List Y) (x : X) (y : Y) → AllZip R xs ys → R x y → AllZip R (xs ++ x ∷ []) (ys ++ y ∷ [])
zip_push R [] [] x y all one = (one, tt)
zip_push R [] (z ∷ ys) x y all one = absurd all
zip_push R (z ∷ xs) [] x y all one = absurd all
zip_push R (z ∷ xs) (v ∷ ys) x y all one = (all.0, zip_push R xs ys x y all.1 one)

pub way_more : (net : Network) (exits : List Exit) (i : ℕ) (d : Exit) (ways : List Way) (w : Way) → i < length exits → AllZip (IsWayOut net) (take i exits) ways
    → IsWayOut net (get_or exits i d) w → AllZip (IsWayOut net) (take (i + 1) exits) (ways ++ w ∷ [])
way_more net exits i d ways w within all one =
    subst (λ (prefix : List Exit). AllZip (IsWayOut net) prefix (ways ++ w ∷ [])) (sym (take_more exits i d within)) (zip_push (IsWayOut net) (take i exits) ways (get_or exits i d) w all one)

-- Ways that use nothing that is down.
use Rattle.std.proofs.Common.{◌≡◌, ◌&&◌, ◌||◌, Bool, true, false, not, cond, List, [], ◌∷◌, map, refl, ap, sym, ◌∙◌}
use Rattle.std.specs.Prelude.{Contains}
use Rattle.std.specs.List.{list_any, AllByRecursion}
use Rattle.std.proofs.lemmas.List.Elements.{All-contains, All-from_recursion}
use Rattle.afdx_wiring.specs.declared.layout.End.{End}
use Rattle.afdx_wiring.specs.declared.layout.Wire.{Wire}
use Rattle.afdx_network_check.specs.declared.ways.Way.{Way}
use Rattle.afdx_wiring.specs.File.{Layout, is_down, is_end}
use Rattle.afdx_network_check.specs.Net.{Network, Row, Back, ingress, IsWayBack}
use Rattle.afdx_network_check.specs.Outage.{is_cut, is_lost, up_of}
use Rattle.afdx_network.proofs.Rows.{is_itself, wire_goes_there}

-- ---- lists

-- what holds of each way that is not lost
pub all_up_of : (l : Layout) (P : Way → Type 0) (ways : List Way) → AllByRecursion (λ w. is_lost l w ≡ false → P w) ways → AllByRecursion P (up_of l ways)
all_up_of l P [] all = tt
all_up_of l P (w ∷ ways) all = by (is_lost l w) refl (all_up_of l P ways all.1) where
  by : (b : Bool) → is_lost l w ≡ b → AllByRecursion P (up_of l ways) → AllByRecursion P (cond (not b) (w ∷ up_of l ways) (up_of l ways))
  by true lost rest = rest
  by false up rest = (all.0 up, rest)

pub none_of : {X : Type 0} (p : X → Bool) (xs : List X) → list_any p xs ≡ false → AllByRecursion (λ x. p x ≡ false) xs
none_of p [] none = tt
none_of p (x ∷ xs) none = by (p x) refl none (λ others. none_of p xs others) where
  by : (b : Bool) → p x ≡ b → (b || list_any p xs) ≡ false → (list_any p xs ≡ false → AllByRecursion (λ y. p y ≡ false) xs) → AllByRecursion (λ y. p y ≡ false) (x ∷ xs)
  by true is others rest = absurd cc
  by false is others rest = (is, rest others)

-- ---- wires

second : (a b : Bool) → (a || b) ≡ false → b ≡ false
second true b none = absurd cc
second false b none = none

-- what comes from a port that is not cut goes on
wire_up : (l : Layout) (w : Wire) → Contains l.wires w → is_cut l w.from ≡ false → w.down ≡ false
wire_up l w among none =
    let Is : Wire → Bool = λ v. is_end v.from w.from && v.down in
    let wires = second (is_down l.switches w.from.switch) (list_any Is l.wires) none in
    let here = All-contains (λ (v : Wire). Is v ≡ false) l.wires w (All-from_recursion (λ (v : Wire). Is v ≡ false) l.wires (none_of Is l.wires wires)) among in
    sym (ap (λ b. b && w.down) (is_itself w.from)) ∙ here

pub no_wire_down : (net : Network) (backs : List Back) (r : Row) → IsWayBack net r backs → AllByRecursion (λ (e : End). is_cut net.layout e ≡ false) (map (λ (b : Back). b.wire.from) backs)
    → AllByRecursion (λ (b : Back). b.wire.down ≡ false) backs
no_wire_down net [] r back none = tt
no_wire_down net (b ∷ backs) r back none =
    (wire_up net.layout b.wire (wire_goes_there net (ingress r) b.wire back.0).1 none.0, no_wire_down net backs b.row back.3 none.1)

-- ---- what comes in

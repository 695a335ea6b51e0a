-- Networks that differ in their jitters alone have the same ports.
use Rattle.std.proofs.Common.{◌≡◌, ℕ, zero, suc, ◌+◌, ◌||◌, Bool, not, List, [], ◌∷◌, map, slice_get, option_and_then, is_some, refl, ap, sym, ◌∙◌}
use Rattle.afdx_table.specs.Content.{Content, port_row}
use Rattle.afdx_wiring.specs.Refusal.{◌>>=◌, unless}
use Rattle.afdx_wiring.specs.declared.fault.At.{At}
use Rattle.afdx_wiring.specs.declared.fault.At.TheVariants as place
use Rattle.afdx_wiring.specs.declared.fault.NetworkFault.TheVariants as fault
use Rattle.afdx_wiring.specs.declared.layout.Wire.{Wire}
use Rattle.afdx_network_check.specs.Net.{Network}
use Rattle.afdx_network_check.specs.Order.{Answer, by_wires, is_port, has_ports, lost_port}
use Rattle.afdx_network_check.specs.Needs.{bare}
use Rattle.afdx_network_check.specs.Inner.Given.{given_all}
use Rattle.afdx_network_check.specs.declared.jitters.RowNeed.{RowNeed}
use Rattle.afdx_network_check.proofs.Giving.{given_alike}

bare_port : (ts : List Content) (i port : ℕ)
    → is_some (option_and_then (λ (t : Content). port_row t port) (slice_get (map bare ts) i)) ≡ is_some (option_and_then (λ (t : Content). port_row t port) (slice_get ts i))
bare_port [] i port = refl
bare_port (t ∷ ts) zero port = refl
bare_port (t ∷ ts) (suc i) port = bare_port ts i port

bare_has : (ts : List Content) (at : At) (w : Wire) → has_ports (map bare ts) at w ≡ has_ports ts at w
bare_has ts at w =
    let from : is_port (map bare ts) w.from ≡ is_port ts w.from = bare_port ts w.from.switch w.from.port in
    let to : is_port (map bare ts) w.to ≡ is_port ts w.to = bare_port ts w.to.switch w.to.port in
    ap (λ (b : Bool). unless (not b || not (is_port (map bare ts) w.to)) (fault.NoSuchPort at)) from
    ∙ ap (λ (b : Bool). unless (not (is_port ts w.from) || not b) (fault.NoSuchPort at)) to

bare_wires : (ts : List Content) (n : ℕ) (ws : List Wire) → by_wires (has_ports (map bare ts)) n ws ≡ by_wires (has_ports ts) n ws
bare_wires ts n [] = refl
bare_wires ts n (w ∷ ws) =
    let at : At = place.Wire (n + 1) in
    ap (λ (first : Answer). first >>= λ _. by_wires (has_ports (map bare ts)) (n + 1) ws) (bare_has ts at w)
    ∙ ap (λ (rest : Answer). has_ports ts at w >>= λ _. rest) (bare_wires ts (n + 1) ws)

bare_lost : (ts : List Content) (ws : List Wire) → lost_port (map bare ts) ws ≡ lost_port ts ws
unfolding lost_port
bare_lost ts ws = bare_wires ts 0 ws

pub given_ports : (needs : List RowNeed) (net : Network) → lost_port (given_all needs net.tables) net.layout.wires ≡ lost_port net.tables net.layout.wires
given_ports needs net =
    sym (bare_lost (given_all needs net.tables) net.layout.wires)
    ∙ ap (λ (ts : List Content). lost_port ts net.layout.wires) (given_alike needs net).1
    ∙ bare_lost net.tables net.layout.wires

-- An outage changes no way.
use Rattle.std.proofs.Common.{◌≡◌, ℕ, Bool, true, false, not, cond, is_some, List, [], ◌∷◌, ◌++◌, map, filter, find, reverse, slice_get, Option, Some, None, option_map, option_and_then}
use Rattle.std.proofs.Common.{refl, ap, sym, ◌∙◌, subst}
use Rattle.std.specs.Prelude.{◌-◌, min, flat_map}
use Rattle.std.specs.List.{AllZip}
use Rattle.std.specs.List.Sorted.{IsPermutation}
use Rattle.std.specs.Option.{option_map_or}
use Rattle.std.proofs.lemmas.Option.{slice_get-map}
use Rattle.afdx_account.specs.Policing.{parts}
use Rattle.afdx_serial.specs.Curves.{Curve}
use Rattle.afdx_table.specs.declared.rows.PortRow.{PortRow}
use Rattle.afdx_table.specs.Content.{Content}
use Rattle.afdx_load.specs.Load.{Load, load_of}
use Rattle.afdx_load.specs.Bounds.{bounds_of}
use Rattle.afdx_grouping.specs.Burst.{least_burst}
use Rattle.afdx_serial.specs.Serial.{KnownLine}
use Rattle.afdx_grouping.specs.Groups.{group_at, all_curve, high_curve, line_at, all_curves, high_curves, lesser_load}
use Rattle.afdx_grouping.specs.Scatter.{later}
use Rattle.afdx_jitter.specs.declared.delays.Delays.{Delays}
use Rattle.afdx_jitter.specs.Delay.{hop_of, joined}
use Rattle.afdx_network_check.specs.declared.exit.Exit.{Exit}
use Rattle.afdx_wiring.specs.declared.layout.End.{End}
use Rattle.afdx_wiring.specs.declared.layout.Wire.{Wire}
use Rattle.afdx_network_check.specs.declared.ways.Way.{Way}
use Rattle.afdx_wiring.specs.File.{Switch, is_end}
use Rattle.afdx_network_check.specs.Net.{Network, Row, Back, rows_of, ingress, wire_to, is_wired, stamp_rounding, rounding_at, stated_least, least_at, scatter_at}
use Rattle.afdx_network_check.specs.Net.{load_at, bound_in, bound_at, IsWayBack, source_of, AreDelays}
use Rattle.afdx_network_check.specs.Ways.{end_of, wire_from, leads_out, exits_at, exits_of, line_of, AreNeedsOn, IsWayOver, IsWayOut, AreWaysOf}
use Rattle.afdx_network_check.specs.Outage.{up_switch, up_wire, all_up}

-- ---- lists

map_same : {X Y : Type 0} (f g : X → Y) (xs : List X) → ((x : X) → f x ≡ g x) → map f xs ≡ map g xs
map_same f g [] same = refl
map_same {Y = Y} f g (x ∷ xs) same = ap (λ (y : Y). y ∷ map f xs) (same x) ∙ ap (λ (ys : List Y). g x ∷ ys) (map_same f g xs same)

filter_same : {X : Type 0} (p q : X → Bool) (xs : List X) → ((x : X) → p x ≡ q x) → filter p xs ≡ filter q xs
filter_same p q [] same = refl
filter_same {X = X} p q (x ∷ xs) same =
    ap (λ (b : Bool). cond b (x ∷ filter p xs) (filter p xs)) (same x) ∙ ap (λ (ys : List X). cond (q x) (x ∷ ys) ys) (filter_same p q xs same)

flat_same : {X Y : Type 0} (f g : X → List Y) (xs : List X) → ((x : X) → f x ≡ g x) → flat_map f xs ≡ flat_map g xs
flat_same f g [] same = refl
flat_same {Y = Y} f g (x ∷ xs) same = ap (λ (ys : List Y). ys ++ flat_map f xs) (same x) ∙ ap (λ (ys : List Y). g x ++ ys) (flat_same f g xs same)

zip_same : {X Y : Type 0} (R S : X → Y → Type 0) (xs : List X) (ys : List Y) → ((x : X) (y : Y) → R x y → S x y) → AllZip R xs ys → AllZip S xs ys
zip_same R S [] [] each zip = tt
zip_same R S [] (y ∷ ys) each zip = absurd zip
zip_same R S (x ∷ xs) [] each zip = absurd zip
zip_same R S (x ∷ xs) (y ∷ ys) each zip = (each x y zip.0, zip_same R S xs ys each zip.1)

-- ---- wires

found_up : (p : Wire → Bool) (ws : List Wire) → ((w : Wire) → p (up_wire w) ≡ p w) → find p (map up_wire ws) ≡ option_map up_wire (find p ws)
found_up p [] same = refl
found_up p (w ∷ ws) same =
    ap (λ (b : Bool). cond b (Some (up_wire w)) (find p (map up_wire ws))) (same w) ∙ by (p w) (found_up p ws same) where
      by : (b : Bool) → find p (map up_wire ws) ≡ option_map up_wire (find p ws)
          → cond b (Some (up_wire w)) (find p (map up_wire ws)) ≡ option_map up_wire (cond b (Some w) (find p ws))
      by true rest = refl
      by false rest = rest

is_some_up : (o : Option Wire) → is_some (option_map up_wire o) ≡ is_some o
is_some_up None = refl
is_some_up (Some w) = refl

module _ (net : Network) where
  wire_to_up : (e : End) → wire_to (all_up net) e ≡ option_map up_wire (wire_to net e)
  wire_to_up e = found_up (λ w. is_end w.to e) net.layout.wires (λ w. refl)

  wire_from_up : (e : End) → wire_from (all_up net) e ≡ option_map up_wire (wire_from net e)
  wire_from_up e = found_up (λ w. is_end w.from e) net.layout.wires (λ w. refl)

  wired_up : (switch port : ℕ) → is_wired (all_up net) switch port ≡ is_wired net switch port
  wired_up switch port = let e : End = record { switch = switch; port = port } in ap is_some (wire_to_up e) ∙ is_some_up (wire_to net e)

  rounding_up : (switch port : ℕ) → rounding_at (all_up net) switch port ≡ rounding_at net switch port
  rounding_up switch port = ap (λ (b : Bool). cond b (Some 0) (cond net.layout.one_line (Some stamp_rounding) None)) (wired_up switch port)

  -- ---- exits

  leads_up : (x : Exit) → leads_out (all_up net) x ≡ leads_out net x
  leads_up x = ap not (ap is_some (wire_from_up (end_of x)) ∙ is_some_up (wire_from net (end_of x)))

  exits_up : exits_of (all_up net) ≡ exits_of net
  exits_up =
      flat_same (exits_at (all_up net)) (exits_at net) (rows_of net)
      (λ r. filter_same (leads_out (all_up net)) (leads_out net) (map (λ port. record { link = r.link.id; switch = r.switch; port = port }) r.link.to) leads_up)

  -- ---- bounds

  stated_up : (switch : ℕ) → stated_least (all_up net) switch ≡ stated_least net switch
  stated_up switch =
      ap (λ (o : Option Switch). option_map_or (λ s. s.least) o 0) (slice_get-map up_switch net.layout.switches switch) ∙ by (slice_get net.layout.switches switch) where
        by : (o : Option Switch) → option_map_or (λ s. s.least) (option_map up_switch o) 0 ≡ option_map_or (λ s. s.least) o 0
        by None = refl
        by (Some s) = refl

  least_up : (switch : ℕ) (t : Content) → least_at (all_up net) switch t ≡ least_at net switch t
  least_up switch t = ap (λ (stated : ℕ). min stated t.latency) (stated_up switch)

  load_up : (switch : ℕ) (t : Content) (p : PortRow) → load_at (all_up net) switch t p ≡ load_at net switch t p
  load_up switch t p =
      ap (λ (scatter : ℕ). lesser_load scatter (rounding_at (all_up net) switch) t p) (scatter_up switch t) ∙ lined (scatter_at net switch t) where
        scatter_up : (n : ℕ) (u : Content) → scatter_at (all_up net) n u ≡ scatter_at net n u
        scatter_up n u = ap (λ (least : ℕ). u.latency - least) (least_up n u)

        lines : (from : PortRow) → line_at (rounding_at (all_up net) switch) from ≡ line_at (rounding_at net switch) from
        lines from = ap (option_map (λ (rounding : ℕ). let line : KnownLine = record { speed = from.speed; rounding = rounding } in line)) (rounding_up switch from.id)

        lined : (scatter : ℕ) → lesser_load scatter (rounding_at (all_up net) switch) t p ≡ lesser_load scatter (rounding_at net switch) t p
        lined scatter =
            let load : List Curve → List Curve → Load
            = λ all high. record (load_of t.latency p.speed p.id t.links) { burst = least_burst parts all; high_burst = least_burst parts high } in
            let all = map_same (λ (from : PortRow). later scatter (all_curve p.speed (line_at (rounding_at (all_up net) switch) from) (group_at t.links from.id p)))
            (λ (from : PortRow). later scatter (all_curve p.speed (line_at (rounding_at net switch) from) (group_at t.links from.id p))) t.ports
            (λ from. ap (λ (line : Option KnownLine). later scatter (all_curve p.speed line (group_at t.links from.id p))) (lines from)) in
            let high = map_same (λ (from : PortRow). later scatter (high_curve p.speed (line_at (rounding_at (all_up net) switch) from) (group_at t.links from.id p)))
            (λ (from : PortRow). later scatter (high_curve p.speed (line_at (rounding_at net switch) from) (group_at t.links from.id p))) t.ports
            (λ from. ap (λ (line : Option KnownLine). later scatter (high_curve p.speed line (group_at t.links from.id p))) (lines from)) in
            ap (λ (curves : List Curve). load curves (high_curves scatter t (rounding_at (all_up net) switch) p)) all
            ∙ ap (λ (curves : List Curve). load (all_curves scatter t (rounding_at net switch) p) curves) high

  bound_up : (r : Row) (p : PortRow) → bound_at (all_up net) r p ≡ bound_at net r p
  bound_up r p = by (slice_get net.tables r.switch) where
    by : (o : Option Content) → option_and_then (λ t. bound_in (bounds_of (load_at (all_up net) r.switch t p)) r.link.priority) o
        ≡ option_and_then (λ t. bound_in (bounds_of (load_at net r.switch t p)) r.link.priority) o
    by None = refl
    by (Some t) = ap (λ (load : Load). bound_in (bounds_of load) r.link.priority) (load_up r.switch t p)

  -- ---- ways

  abbrev up_back : Back → Back
  up_back b = record { wire = up_wire b.wire; row = b.row }

  back_up : (backs : List Back) (r : Row) → IsWayBack net r backs → IsWayBack (all_up net) r (map up_back backs)
  back_up [] r source = wire_to_up (ingress r) ∙ ap (option_map up_wire) source
  back_up (b ∷ backs) r back = (wire_to_up (ingress r) ∙ ap (option_map up_wire) back.0, back.1, back.2, back_up backs b.row back.3)

  source_up : (backs : List Back) (r : Row) → source_of r (map up_back backs) ≡ source_of r backs
  source_up [] r = refl
  source_up (b ∷ backs) r = source_up backs b.row

  ports_up : (backs : List Back) → map (λ (b : Back). b.wire.from) (map up_back backs) ≡ map (λ (b : Back). b.wire.from) backs
  ports_up [] = refl
  ports_up (b ∷ backs) = ap (λ (es : List End). b.wire.from ∷ es) (ports_up backs)

  delays_up : (backs : List Back) (d : Delays) → AreDelays net backs d → AreDelays (all_up net) (map up_back backs) d
  delays_up [] d are = are
  delays_up (b ∷ backs) d are =
      let t : Content = are.0 in
      let p : PortRow = are.1 in
      let bound : ℕ = are.2 in
      let before : Delays = are.3 in (
        t,
        p,
        bound,
        before,
        are.4,
        are.5,
        bound_up b.row p ∙ are.6,
        delays_up backs before are.7,
        are.8 ∙ ap (λ (least : ℕ). joined before (hop_of p.speed least bound b.wire.delay)) (sym (least_up b.row.switch t)),
      )

  needs_up : (first : ℕ) (backs : List Back) (needs : List ℕ) → AreNeedsOn net first backs needs → AreNeedsOn (all_up net) first (map up_back backs) needs
  needs_up first [] needs are = are
  needs_up first (b ∷ backs) needs are = (are.0, are.1, delays_up backs are.0 are.2, needs_up first backs are.1 are.3, are.4)

  over_up : (source : Row) (stages : List Back) (w : Way) → IsWayOver net source stages w → IsWayOver (all_up net) source (map up_back stages) w
  over_up source stages w is = record {
    link = is.link;
    from = is.from;
    jitter = is.jitter;
    ports = is.ports ∙ ap reverse (sym (ports_up stages));
    jitters = needs_up source.link.jitter stages w.jitters.items is.jitters;
    delays = delays_up stages w.delays is.delays;
  }

  out_up : (x : Exit) (w : Way) → IsWayOut net x w → IsWayOut (all_up net) x w
  out_up x w out =
      let r : Row = out.0 in
      let backs : List Back = out.1 in (
        r,
        map up_back backs,
        out.2,
        back_up backs r out.3,
        subst (λ (source : Row). IsWayOver (all_up net) source (record { wire = line_of x; row = r } ∷ map up_back backs) w) (sym (source_up backs r))
            (over_up (source_of r backs) (record { wire = line_of x; row = r } ∷ backs) w out.4),
      )

pub ways_up : (net : Network) (ways : List Way) → AreWaysOf net ways → AreWaysOf (all_up net) ways
ways_up net ways are = (
  are.0,
  subst (λ (xs : List Exit). IsPermutation xs are.0) (sym (exits_up net)) are.1,
  are.2,
  zip_same (IsWayOut net) (IsWayOut (all_up net)) are.0 ways (out_up net) are.3,
)

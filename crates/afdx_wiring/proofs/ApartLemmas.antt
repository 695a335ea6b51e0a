-- No two wires of a layout that is read go to one port.
use Rattle.std.proofs.Common.{◌≡◌, ℕ, zero, suc, ◌+◌, ◌==◌, ◌&&◌, ◌||◌, Bool, true, false, cond, List, [], ◌∷◌, ◌++◌, find, get_or, slice_get, Some, Ok, refl, ap, sym, ◌∙◌, subst}
use Rattle.std.specs.Prelude.{All}
use Rattle.std.specs.List.{AllByRecursion}
use Rattle.std.proofs.lemmas.Bool.{eq-eqb}
use Rattle.std.proofs.lemmas.Option.{same_Some, slice_get-get_or}
use Rattle.toml.specs.Data.{Members}
use Rattle.afdx_wiring.specs.declared.fault.At.{At}
use Rattle.afdx_wiring.specs.declared.fault.At.TheVariants as place
use Rattle.afdx_wiring.specs.declared.fault.Key.TheVariants as key
use Rattle.afdx_wiring.specs.declared.fault.NetworkFault.TheVariants.{TwiceFrom, TwiceTo}
use Rattle.afdx_wiring.specs.declared.layout.End.{End}
use Rattle.afdx_wiring.specs.declared.layout.Wire.{Wire}
use Rattle.afdx_wiring.specs.Refusal.{unless}
use Rattle.afdx_wiring.specs.Fields.{known_at, optional_number_at, flag_at}
use Rattle.afdx_wiring.specs.File.{Switch, Layout, is_down, switches_from, end_at, found, is_end, comes_from, goes_to, fitting, wire_at, wires_from, top_at, layout_in, tree_of, layout_of}
use Rattle.afdx_wiring.proofs.LimitLemmas.{ok_same, stepped, passes, same_wire, all_push}

-- each wire goes to another port than those after it
abbrev GoApart : List Wire → Type 0
GoApart [] = Unit {0}
GoApart (w ∷ ws) = AllByRecursion (λ (v : Wire). is_end w.to v.to ≡ false) ws × GoApart ws

none_goes : (ws : List Wire) (e : End) → goes_to ws e ≡ false → AllByRecursion (λ (w : Wire). is_end w.to e ≡ false) ws
none_goes [] e is = tt
none_goes (w ∷ ws) e is = by (is_end w.to e) refl is (none_goes ws e) where
  by : (b : Bool) → is_end w.to e ≡ b → (b || goes_to ws e) ≡ false → (goes_to ws e ≡ false → AllByRecursion (λ (v : Wire). is_end v.to e ≡ false) ws)
      → AllByRecursion (λ (v : Wire). is_end v.to e ≡ false) (w ∷ ws)
  by true goes none further = absurd cc
  by false other none further = (other, further none)

apart_push : (ws : List Wire) (w : Wire) → GoApart ws → AllByRecursion (λ (v : Wire). is_end v.to w.to ≡ false) ws → GoApart (ws ++ w ∷ [])
apart_push [] w apart none = (tt, tt)
apart_push (v ∷ ws) w apart none = (all_push (λ (x : Wire). is_end v.to x.to ≡ false) ws w apart.0 none.0, apart_push ws w apart.1 none.1)

-- ---- wires of the file

fits_apart : (at : At) (before : List Wire) (w v : Wire) → fitting at before w ≡ Ok v → goes_to before v.to ≡ false
unfolding fitting
fits_apart at before w v is =
    let one = stepped (unless (comes_from before w.from) (TwiceFrom at)) _ v is in
    let two = stepped (unless (goes_to before w.to) (TwiceTo at)) _ v one.rest in
    subst (λ (u : Wire). goes_to before u.to ≡ false) (same_wire at before w v is) (passes (goes_to before w.to) (TwiceTo at) two.first two.first_is)

wire_apart : (at : At) (switches : List Switch) (before : List Wire) (ms : Members) (w : Wire) → wire_at at switches before ms ≡ Ok w → goes_to before w.to ≡ false
unfolding wire_at
wire_apart at switches before ms w is =
    let known = stepped (known_at at (key.From ∷ key.To ∷ key.Delay ∷ key.Down ∷ []) ms) _ w is in
    let from_text = stepped (end_at at key.From ms) _ w known.rest in
    let to_text = stepped (end_at at key.To ms) _ w from_text.rest in
    let delay = stepped (optional_number_at at key.Delay 1000000 0 ms) _ w to_text.rest in
    let down = stepped (flag_at at key.Down ms) _ w delay.rest in
    let from = stepped (found at switches from_text.first) _ w down.rest in
    let to = stepped (found at switches to_text.first) _ w from.rest in
    fits_apart at before (record {
      from = from.first;
      to = to.first;
      delay = delay.first;
      down = down.first || is_down switches from.first.switch || is_down switches to.first.switch;
    }) w to.rest

wires_apart : (n : ℕ) (switches : List Switch) (before : List Wire) (tables : List Members) (ws : List Wire) → GoApart before → wires_from n switches before tables ≡ Ok ws → GoApart ws
unfolding wires_from
wires_apart n switches before [] ws apart is = subst GoApart (ok_same is) apart
wires_apart n switches before (ms ∷ tables) ws apart is =
    let w = stepped (wire_at (place.Wire (n + 1)) switches before ms) _ ws is in
    wires_apart (n + 1) switches (before ++ w.first ∷ []) tables ws
    (apart_push before w.first apart (none_goes before w.first.to (wire_apart (place.Wire (n + 1)) switches before ms w.first w.first_is))) w.rest

-- ---- the first one to each port

end_itself : (e : End) → is_end e e ≡ true
end_itself e = ap (λ a. a && (e.port == e.port)) (eq-eqb e.switch e.switch refl) ∙ eq-eqb e.port e.port refl

at_place : (P : Wire → Type 0) (ws : List Wire) (k : ℕ) (w : Wire) → AllByRecursion P ws → slice_get ws k ≡ Some w → P w
at_place P [] k w all is = absurd cc
at_place P (v ∷ ws) zero w all is = subst P (same_Some v w is) all.0
at_place P (v ∷ ws) (suc k) w all is = at_place P ws k w all.1 is

first_to : (ws : List Wire) (k : ℕ) (w : Wire) → GoApart ws → slice_get ws k ≡ Some w → find (λ (v : Wire). is_end v.to w.to) ws ≡ Some w
first_to [] k w apart is = absurd cc
first_to (x ∷ ws) zero w apart is =
    let here : is_end x.to w.to ≡ true = ap (λ (v : Wire). is_end x.to v.to) (sym (same_Some x w is)) ∙ end_itself x.to in
    ap (λ b. cond b (Some x) (find (λ (v : Wire). is_end v.to w.to) ws)) here ∙ is
first_to (x ∷ ws) (suc k) w apart is =
    let other : is_end x.to w.to ≡ false = at_place (λ (v : Wire). is_end x.to v.to ≡ false) ws k w apart.0 is in
    ap (λ b. cond b (Some x) (find (λ (v : Wire). is_end v.to w.to) ws)) other ∙ first_to ws k w apart.1 is

-- ---- the file

of_members : (ms : Members) (l : Layout) → layout_in ms ≡ Ok l → GoApart l.wires
unfolding layout_in
of_members ms l is =
    let top = stepped (top_at ms) _ l is in
    let switches = stepped (switches_from 0 [] top.first.switches) _ l top.rest in
    let wires = stepped (wires_from 0 switches.first [] top.first.wires) _ l switches.rest in
    subst (λ (m : Layout). GoApart m.wires) (ok_same wires.rest) (wires_apart 0 switches.first [] top.first.wires wires.first tt wires.first_is)

pub no_port_has_two_wires : (bytes : List ℕ) (l : Layout) → layout_of bytes ≡ Ok l → All (λ w. find (λ v. is_end v.to w.to) l.wires ≡ Some w) l.wires
unfolding layout_of
no_port_has_two_wires bytes l is k d within =
    let tree = stepped (tree_of bytes) layout_in l is in
    first_to l.wires k (get_or l.wires k d) (of_members tree.first l tree.rest) (slice_get-get_or l.wires k d within)

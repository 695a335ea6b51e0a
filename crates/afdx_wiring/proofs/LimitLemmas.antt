-- A layout that is read is within the limits of the file.
use Rattle.std.proofs.Common.{◌≡◌, ℕ, ◌+◌, ◌≤◌, ◌==◌, ◌||◌, Bool, true, false, cond, nat_le, nat_lt, List, [], ◌∷◌, ◌++◌, length, Option, Some, None, Result, Ok, Err}
use Rattle.std.proofs.Common.{refl, ap, arith, subst, length-append}
use Rattle.std.specs.Prelude.{All}
use Rattle.std.specs.List.{AllByRecursion}
use Rattle.std.proofs.lemmas.Bool.Decides.{nat_tests}
use Rattle.std.proofs.lemmas.List.Elements.{All-from_recursion}
use Rattle.toml.specs.Data.{Data, Members, get_member, as_integer}
use Rattle.afdx_table.specs.Fields.{natural_of}
use Rattle.afdx_wiring.specs.declared.fault.At.{At}
use Rattle.afdx_wiring.specs.declared.fault.At.TheVariants as place
use Rattle.afdx_wiring.specs.declared.fault.Key.{Key}
use Rattle.afdx_wiring.specs.declared.fault.Key.TheVariants as key
use Rattle.afdx_wiring.specs.declared.fault.NetworkFault.{NetworkFault}
use Rattle.afdx_wiring.specs.declared.fault.NetworkFault.TheVariants.{Kind, Range, TwiceFrom, TwiceTo, OwnPort}
use Rattle.afdx_wiring.specs.declared.layout.Wire.{Wire}
use Rattle.afdx_wiring.specs.Refusal.{◌>>=◌, or_refuse, unless}
use Rattle.afdx_wiring.specs.Names.{key_text}
use Rattle.afdx_wiring.specs.Fields.{known_at, number_in, number_from, optional_number_at, flag_at, tables_at}
use Rattle.afdx_wiring.specs.File.{Switch, Layout, Top, is_down, switch_at, switches_from, end_at, found, is_end, comes_from, goes_to, fitting, wire_at, wires_from}
use Rattle.afdx_wiring.specs.File.{top_at, layout_in, tree_of, layout_of}

-- ---- first refusals

abbrev pub answered : {A : Type 0} → A → Result A NetworkFault
answered x = Ok x

pub ok_same : {A : Type 0} {x y : A} → answered x ≡ answered y → x ≡ y
ok_same h = cc

-- what is answered in two steps
pub record Stepped {A B : Type 0} (r : Result A NetworkFault) (f : A → Result B NetworkFault) (y : B) : Type 0 where
  pub first : A
  pub first_is : r ≡ Ok first
  pub rest : f first ≡ Ok y

pub stepped : {A B : Type 0} (r : Result A NetworkFault) (f : A → Result B NetworkFault) (y : B) → (r >>= f) ≡ Ok y → Stepped r f y
stepped (Ok x) f y is = record { first = x; first_is = refl; rest = is }
stepped (Err e) f y is = absurd cc

pub passes : (bad : Bool) (e : NetworkFault) (x : Unit {0}) → unless bad e ≡ Ok x → bad ≡ false
passes true e x is = absurd cc
passes false e x is = refl

-- ---- numbers

in_range : (b : Bool) (e : NetworkFault) (n greatest m : ℕ) → nat_le n greatest ≡ b → cond b (Ok n) (Err e) ≡ Ok m → m ≤ greatest
in_range true e n greatest m test is = let same = ok_same is in grind (arith, nat_tests)
in_range false e n greatest m test is = absurd cc

number_within : (at : At) (k : Key) (greatest : ℕ) (d : Data) (m : ℕ) → number_in at k greatest d ≡ Ok m → m ≤ greatest
unfolding number_in
number_within at k greatest d m is =
    let z = stepped (or_refuse (Kind at k) (as_integer d)) _ m is in
    let n = stepped (or_refuse (Range at k) (natural_of z.first)) _ m z.rest in
    in_range (nat_le n.first greatest) (Range at k) n.first greatest m refl n.rest

optional_within : (at : At) (k : Key) (greatest missing : ℕ) (ms : Members) (m : ℕ) → missing ≤ greatest → optional_number_at at k greatest missing ms ≡ Ok m → m ≤ greatest
unfolding optional_number_at
optional_within at k greatest missing ms m small is = by (get_member (key_text k) ms) is where
  by : (o : Option Data) → number_from at k greatest missing o ≡ Ok m → m ≤ greatest
  by None is = subst (λ (n : ℕ). n ≤ greatest) (ok_same is) small
  by (Some d) is = number_within at k greatest d m is

-- ---- wires

pub same_wire : (at : At) (before : List Wire) (w v : Wire) → fitting at before w ≡ Ok v → w ≡ v
unfolding fitting
same_wire at before w v is =
    let one = stepped (unless (comes_from before w.from) (TwiceFrom at)) _ v is in
    let two = stepped (unless (goes_to before w.to) (TwiceTo at)) _ v one.rest in
    let three = stepped (unless (is_end w.from w.to) (OwnPort at)) _ v two.rest in
    ok_same three.rest

wire_short : (at : At) (switches : List Switch) (before : List Wire) (ms : Members) (w : Wire) → wire_at at switches before ms ≡ Ok w → w.delay ≤ 1000000
unfolding wire_at
wire_short at switches before ms w is =
    let known = stepped (known_at at (key.From ∷ key.To ∷ key.Delay ∷ key.Down ∷ []) ms) _ w is in
    let from_text = stepped (end_at at key.From ms) _ w known.rest in
    let to_text = stepped (end_at at key.To ms) _ w from_text.rest in
    let delay = stepped (optional_number_at at key.Delay 1000000 0 ms) _ w to_text.rest in
    let down = stepped (flag_at at key.Down ms) _ w delay.rest in
    let from = stepped (found at switches from_text.first) _ w down.rest in
    let to = stepped (found at switches to_text.first) _ w from.rest in
    subst (λ (v : Wire). v.delay ≤ 1000000)
    (same_wire at before (record {
      from = from.first;
      to = to.first;
      delay = delay.first;
      down = down.first || is_down switches from.first.switch || is_down switches to.first.switch;
    }) w to.rest)
    (optional_within at key.Delay 1000000 0 ms delay.first (omega arith) delay.first_is)

pub all_push : (P : Wire → Type 0) (ws : List Wire) (w : Wire) → AllByRecursion P ws → P w → AllByRecursion P (ws ++ w ∷ [])
all_push P [] w all last = (last, tt)
all_push P (v ∷ ws) w all last = (all.0, all_push P ws w all.1 last)

wires_short : (n : ℕ) (switches : List Switch) (before : List Wire) (tables : List Members) (ws : List Wire) → AllByRecursion (λ w. w.delay ≤ 1000000) before
    → wires_from n switches before tables ≡ Ok ws → AllByRecursion (λ w. w.delay ≤ 1000000) ws
unfolding wires_from
wires_short n switches before [] ws all is = subst (AllByRecursion (λ (w : Wire). w.delay ≤ 1000000)) (ok_same is) all
wires_short n switches before (ms ∷ tables) ws all is =
    let w = stepped (wire_at (place.Wire (n + 1)) switches before ms) _ ws is in
    wires_short (n + 1) switches (before ++ w.first ∷ []) tables ws
    (all_push (λ (v : Wire). v.delay ≤ 1000000) before w.first all (wire_short (place.Wire (n + 1)) switches before ms w.first w.first_is)) w.rest

-- ---- switches

as_many : (n : ℕ) (before : List Switch) (tables : List Members) (switches : List Switch) → switches_from n before tables ≡ Ok switches
    → length switches ≡ length before + length tables
unfolding switches_from
as_many n before [] switches is = let same = ap length (ok_same is) in omega (arith, same)
as_many n before (ms ∷ tables) switches is =
    let s = stepped (switch_at (place.Switch (n + 1)) before ms) _ switches is in
    let rest = as_many (n + 1) (before ++ s.first ∷ []) tables switches s.rest in
    let longer = length-append before (s.first ∷ []) in
    omega (arith, rest, longer)

few : (ms : Members) (top : Top) → top_at ms ≡ Ok top → length top.switches ≤ 64
unfolding top_at
few ms top is =
    let known = stepped (known_at place.Top (key.Version ∷ key.OneLine ∷ key.Switch ∷ key.Wire ∷ []) ms) _ top is in
    let version = stepped (optional_number_at place.Top key.Version 1 1 ms) _ top known.rest in
    let is_first = stepped (unless (version.first == 0) (Range place.Top key.Version)) _ top version.rest in
    let one_line = stepped (flag_at place.Top key.OneLine ms) _ top is_first.rest in
    let switches = stepped (tables_at place.Top key.Switch ms) _ top one_line.rest in
    let wires = stepped (tables_at place.Top key.Wire ms) _ top switches.rest in
    let small = stepped (unless (nat_lt 64 (length switches.first)) (Range place.Top key.Switch)) _ top wires.rest in
    let test = passes (nat_lt 64 (length switches.first)) (Range place.Top key.Switch) small.first small.first_is in
    let same : switches.first ≡ top.switches = ap (λ (t : Top). t.switches) (ok_same small.rest) in
    let count : length switches.first ≤ 64 = grind (arith, nat_tests) in
    subst (λ (ts : List Members). length ts ≤ 64) same count

of_members : (ms : Members) (l : Layout) → layout_in ms ≡ Ok l → (length l.switches ≤ 64) × AllByRecursion (λ w. w.delay ≤ 1000000) l.wires
unfolding layout_in
of_members ms l is =
    let top = stepped (top_at ms) _ l is in
    let switches = stepped (switches_from 0 [] top.first.switches) _ l top.rest in
    let wires = stepped (wires_from 0 switches.first [] top.first.wires) _ l switches.rest in
    let same = ok_same wires.rest in
    let count = as_many 0 [] top.first.switches switches.first switches.first_is in
    let small = few ms top.first top.first_is in
    let length_is = ap (λ (m : Layout). length m.switches) same in (
      omega (arith, count, small, length_is),
      subst (λ (m : Layout). AllByRecursion (λ w. w.delay ≤ 1000000) m.wires) same (wires_short 0 switches.first [] top.first.wires wires.first tt wires.first_is),
    )

pub layouts_are_within_limits : (bytes : List ℕ) (l : Layout) → layout_of bytes ≡ Ok l → (length l.switches ≤ 64) × All (λ w. w.delay ≤ 1000000) l.wires
unfolding layout_of
layouts_are_within_limits bytes l is =
    let tree = stepped (tree_of bytes) layout_in l is in
    let h = of_members tree.first l tree.rest in
    (h.0, All-from_recursion (λ (w : Wire). w.delay ≤ 1000000) l.wires h.1)

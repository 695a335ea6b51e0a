-- Where all has left the switches, that is a run of the network.
use Rattle.std.proofs.Common.{◌≡◌, ◌<◌, ◌≤◌, ◌+◌, ◌==◌, ℕ, zero, suc, Bool, true, false, cond, List, [], ◌∷◌, ◌++◌, map, length, find, slice_get, Option, Some, None, refl, ap, sym}
use Rattle.std.proofs.Common.{◌∙◌, arith, subst}
use Rattle.std.specs.Prelude.{All, Contains}
use Rattle.std.specs.Prelude.{option_and_then}
use Rattle.std.specs.List.{AllByRecursion, AllZip}
use Rattle.std.proofs.lemmas.Bool.{eq-eqb, eqb-true, ne_eqb}
use Rattle.std.proofs.lemmas.List.{length-append}
use Rattle.std.proofs.lemmas.List.Elements.{All-contains, All-from_recursion, recursion_from_All}
use Rattle.std.proofs.lemmas.Option.{same_Some, slice_get_read, slice_get_within, get_or_from_slice_get}
use Rattle.afdx_pcap.specs.Record.{Record, IsWithinLimit}
use Rattle.afdx_pcap.specs.Text.{capture_text, AreReadable}
use Rattle.afdx_table.specs.declared.rows.PortRow.{PortRow}
use Rattle.afdx_table.specs.Content.{Content}
use Rattle.afdx_table.specs.WellFormed.{Rises as PortsRise, IsWellFormed}
use Rattle.afdx_core.specs.Merge.{Rises}
use Rattle.afdx_session.specs.Texts.{Text}
use Rattle.afdx_session.specs.Output.{sent_by, written, output_of}
use Rattle.afdx_session.specs.Streams.{sent_up_to}
use Rattle.afdx_session.specs.Outcome.{Results, IsOutcome}
use Rattle.afdx_paced.specs.Paced.{Lane, Paced, captures_of, arrivals, out_up_to, lane_at}
use Rattle.afdx_paced.specs.Laws.{OutGoesOn, OutIsInOrder}
use Rattle.afdx_wiring.specs.declared.layout.End.{End}
use Rattle.afdx_wiring.specs.declared.layout.Wire.{Wire}
use Rattle.afdx_network_check.specs.Net.{Network, wire_to}
use Rattle.afdx_network.specs.Way.{delayed}
use Rattle.afdx_network.specs.Runs.{Given, Brings, BringsNothing, IsGiven, KeepTheirLines, AreOutcomes, IsUncheckedRunOf}
use Rattle.afdx_network.specs.Inner.Sites.{Site, left_texts, lane_there, AtPorts, IsCame, IsSite, HasSent, IsCarried, AreCarried, HasLed}
use Rattle.afdx_network.proofs.Carried.{AreWritten}
use Rattle.afdx_network.proofs.Carrying.{carried_up, carried_down, rises_front}
use Rattle.afdx_network.proofs.Found.{contains_head, contains_tail, found_passes, of_all}
use Rattle.afdx_network.proofs.Lanes.{of_port, at_lane, port_is}
use Rattle.afdx_network.proofs.LaneTexts.{IsText, texts_for, texts_read, texts_ports, text_there, lane_of_text}

-- ---- one switch

pub out_is_output : (v : Paced) (p : PortRow) → out_up_to v None p ≡ output_of v.table (arrivals v) p
unfolding sent_up_to sent_by
out_is_output v p = refl

nothing_more : (xs more : List Record) → length (xs ++ more) ≤ length xs → xs ++ more ≡ xs
nothing_more xs [] le = same xs where
  same : (ys : List Record) → ys ++ [] ≡ ys
  same [] = refl
  same (y ∷ ys) = ap (λ (zs : List Record). y ∷ zs) (same ys)
nothing_more xs (r ∷ more) le = let parts = length-append xs (r ∷ more) in absurd (omega (arith, le, parts))

pub all_left : OutGoesOn → (net : Network) (given : Given) (switch : ℕ) (s : Site) → IsSite net given switch s → HasSent None s
    → AtPorts (λ p l. l.left ≡ output_of s.paced.table (arrivals s.paced) p) s.paced
all_left on net given switch s site sent port p l row found =
    let before = site.running.prefix port p l row found in
    let more = on.in_the_end s.paced s.paced.reached p in
    let whole : out_up_to s.paced None p ≡ l.left ++ (before.0 ++ more.0)
    = more.1 ∙ ap (λ (rs : List Record). rs ++ more.0) before.1 ∙ assoc l.left before.0 more.0 in
    let le = sent port p l row found in
    let all = nothing_more l.left (before.0 ++ more.0) (subst (λ (rs : List Record). length rs ≤ length l.left) whole le) in
    sym (whole ∙ all) ∙ out_is_output s.paced p where
      assoc : (xs ys zs : List Record) → (xs ++ ys) ++ zs ≡ xs ++ (ys ++ zs)
      assoc [] ys zs = refl
      assoc (x ∷ xs) ys zs = ap (λ (rs : List Record). x ∷ rs) (assoc xs ys zs)

-- ports and lanes go together
pub texts_are : (f : PortRow → List Record) (ports : List PortRow) (lanes : List Lane) → map (λ (l : Lane). l.port) lanes ≡ map (λ (p : PortRow). p.id) ports → PortsRise ports
    → ((port : ℕ) (p : PortRow) (l : Lane) → find (λ (q : PortRow). q.id == port) ports ≡ Some p → find (of_port port) lanes ≡ Some l → l.left ≡ f p)
    → left_texts lanes ≡ map (λ (p : PortRow). (p.id, capture_text (f p))) ports
texts_are f [] [] same rises each = refl
texts_are f [] (l ∷ lanes) same rises each = absurd cc
texts_are f (p ∷ ports) [] same rises each = absurd cc
texts_are f (p ∷ ports) (l ∷ lanes) same rises each =
    let rest = texts_are f ports lanes others rises.1 later in
    ap (λ (x : Text). x ∷ left_texts lanes) (ap (λ n. (n, capture_text l.left)) number ∙ ap (λ (rs : List Record). (p.id, capture_text rs)) here)
    ∙ ap (λ (xs : List Text). (p.id, capture_text (f p)) ∷ xs) rest where
      number : l.port ≡ p.id
      number = cc

      others : map (λ (m : Lane). m.port) lanes ≡ map (λ (q : PortRow). q.id) ports
      others = cc

      here : l.left ≡ f p
      here =
          each p.id p l (ap (λ b. cond b (Some p) (find (λ (q : PortRow). q.id == p.id) ports)) (eq-eqb p.id p.id refl))
          (ap (λ b. cond b (Some l) (find (of_port p.id) lanes)) (eq-eqb l.port p.id number))

      later : (port : ℕ) (q : PortRow) (m : Lane) → find (λ (x : PortRow). x.id == port) ports ≡ Some q → find (of_port port) lanes ≡ Some m → m.left ≡ f q
      later port q m row found =
          let passes = found_passes (λ (x : PortRow). x.id == port) ports q row in
          let is = eqb-true q.id port passes.0 in
          let less = of_all (λ (x : PortRow). p.id < x.id) ports q rises.0 passes.1 in
          let apart : p.id ≡ port → ⊥ = λ e. omega (arith, e, is, less) in
          let apart_too : l.port ≡ port → ⊥ = λ e. omega (arith, e, is, less, number) in
          each port q m (ap (λ b. cond b (Some p) (find (λ (x : PortRow). x.id == port) ports)) (ne_eqb p.id port apart) ∙ row)
          (ap (λ b. cond b (Some l) (find (of_port port) lanes)) (ne_eqb l.port port apart_too) ∙ found)

-- these texts came in at a switch, and led to these results
pub record Ended (net : Network) (given : Given) (switch : ℕ) (s : Site) (results : Results) (texts : List Text) : Type 0 where
  pub own : List Text
  pub own_is : slice_get given switch ≡ Some own
  pub zip : AllZip (IsText net switch own) s.paced.lanes texts
  pub outcome : IsOutcome s.paced.table texts results
  pub read_is : outcome.read ≡ captures_of s.paced.lanes
  pub led : HasLed s results

ended : OutGoesOn → AreWritten → (net : Network) (given : Given) (switch : ℕ) (s : Site) (results : Results) → IsSite net given switch s → HasSent None s → HasLed s results
    → (texts : List Text) × Ended net given switch s results texts
ended on written net given switch s results site sent led =
    let all = texts_for written net switch site.own s.paced.lanes site.came in (
      all.0,
      record {
        own = site.own;
        own_is = site.own_is;
        zip = all.1;
        outcome = record {
          ports = texts_ports net switch site.own s.paced.lanes all.0 all.1 ∙ site.running.ports;
          read = captures_of s.paced.lanes;
          are_read = texts_read net switch site.own s.paced.lanes all.0 all.1;
          captures = led.captures ∙ site.running.left ∙ texts_are (output_of s.paced.table (arrivals s.paced)) s.paced.table.ports s.paced.lanes site.running.ports site.running.formed.ports_rise
              (all_left on net given switch s site sent);
          counts = led.counts;
        };
        read_is = refl;
        led = led;
      },
    )

-- ---- all switches

-- what is there for each element of a list, as a list
record Chosen {S X : Type 0} (P : ℕ → S → X → Type 0) (ss : List S) : Type 0 where
  pub xs : List X
  pub long : length xs ≡ length ss
  pub each : (k : ℕ) (s : S) → slice_get ss k ≡ Some s → (x : X) × (slice_get xs k ≡ Some x) × P k s x

choose : {S X : Type 0} (P : ℕ → S → X → Type 0) (ss : List S) → ((k : ℕ) (s : S) → slice_get ss k ≡ Some s → (x : X) × P k s x) → Chosen P ss
choose P [] each = record { xs = []; long = refl; each = λ k s is. absurd cc }
choose {S = S} {X = X} P (s ∷ ss) each =
    let first = each 0 s refl in
    let rest = choose (λ k. P (suc k)) ss (λ k u is. each (suc k) u is) in
    record { xs = first.0 ∷ rest.xs; long = ap suc rest.long; each = at first rest } where
      at : (first : (x : X) × P 0 s x) (rest : Chosen (λ k. P (suc k)) ss) → (k : ℕ) (u : S) → slice_get (s ∷ ss) k ≡ Some u → (x : X) × (slice_get (first.0 ∷ rest.xs) k ≡ Some x) × P k u x
      at first rest zero u is = (first.0, refl, subst (λ v. P 0 v first.0) (same_Some s u is) first.1)
      at first rest (suc k) u is = rest.each k u is

-- outcomes one by one are the outcomes
outcomes_are : (tables : List Content) (came : List (List Text)) (left : List Results) → length came ≡ length tables → length left ≡ length tables
    → ((k : ℕ) (t : Content) (texts : List Text) (r : Results) → slice_get tables k ≡ Some t → slice_get came k ≡ Some texts → slice_get left k ≡ Some r → IsOutcome t texts r)
    → AreOutcomes tables came left
outcomes_are [] [] [] long same each = tt
outcomes_are [] [] (r ∷ left) long same each = absurd (omega (arith, same))
outcomes_are [] (texts ∷ came) left long same each = absurd (omega (arith, long))
outcomes_are (t ∷ tables) [] left long same each = absurd (omega (arith, long))
outcomes_are (t ∷ tables) (texts ∷ came) [] long same each = absurd (omega (arith, same))
outcomes_are (t ∷ tables) (texts ∷ came) (r ∷ left) long same each =
    (each 0 t texts r refl refl refl, outcomes_are tables came left (omega (arith, long)) (omega (arith, same)) (λ k u c q a b d. each (suc k) u c q a b d))

pub zip_long : {X Y : Type 0} (R : X → Y → Type 0) (xs : List X) (ys : List Y) → AllZip R xs ys → length xs ≡ length ys
zip_long R [] [] zip = refl
zip_long R [] (y ∷ ys) zip = absurd zip
zip_long R (x ∷ xs) [] zip = absurd zip
zip_long R (x ∷ xs) (y ∷ ys) zip = ap suc (zip_long R xs ys zip.1)

pub zip_at : {X Y : Type 0} (R : X → Y → Type 0) (xs : List X) (ys : List Y) → AllZip R xs ys → (k : ℕ) (x : X) → slice_get xs k ≡ Some x → (y : Y) × (slice_get ys k ≡ Some y) × R x y
zip_at R [] ys zip k x is = absurd cc
zip_at R (z ∷ xs) [] zip k x is = absurd zip
zip_at R (z ∷ xs) (y ∷ ys) zip zero x is = (y, refl, subst (λ v. R v y) (same_Some z x is) zip.0)
zip_at R (z ∷ xs) (y ∷ ys) zip (suc k) x is = zip_at R xs ys zip.1 k x is

pub there_at : {X : Type 0} (xs : List X) (k : ℕ) → k < length xs → (x : X) × (slice_get xs k ≡ Some x)
there_at [] k lt = absurd (omega (arith, lt))
there_at (x ∷ xs) zero lt = (x, refl)
there_at (x ∷ xs) (suc k) lt = there_at xs k (omega (arith, lt))

among_at : {X : Type 0} (xs : List X) (x : X) → Contains xs x → (k : ℕ) × (slice_get xs k ≡ Some x)
among_at xs x among = (among.0, slice_get_read xs (length xs) among.0 x refl among.1 (sym among.2))

pub at_among : {X : Type 0} (xs : List X) (k : ℕ) (x : X) → slice_get xs k ≡ Some x → Contains xs x
at_among xs k x is = (k, slice_get_within xs k x is, get_or_from_slice_get xs k x x is)

-- ---- the wires

-- what comes over a cable in order and can be written left in order, and can be written
left_readable : (cable m last : ℕ) (rs : List Record) → m ≤ last + cable → AreReadable m (map (delayed cable) rs) → AllByRecursion (λ (r : Record). last ≤ r.stamp) rs → Rises rs
    → AllByRecursion (λ (r : Record). r.original ≡ length r.bytes) rs → AreReadable last rs
left_readable cable m last [] le are above rises whole = tt
left_readable cable m last (r ∷ rs) le are above rises whole =
    let soon = are.1 in
    (above.0, omega (arith, soon), whole.0, left_readable cable (r.stamp + cable) r.stamp rs (omega arith) are.3 rises.0 rises.1 whole.1)

left_limits : (cable : ℕ) (rs : List Record) → AllByRecursion IsWithinLimit (map (delayed cable) rs) → AllByRecursion IsWithinLimit rs
left_limits cable [] all = tt
left_limits cable (r ∷ rs) all = (all.0, left_limits cable rs all.1)

all_zero : (rs : List Record) → AllByRecursion (λ (r : Record). 0 ≤ r.stamp) rs
all_zero [] = tt
all_zero (r ∷ rs) = (omega arith, all_zero rs)

whole_front : (rs more : List Record) → AllByRecursion (λ (r : Record). r.original ≡ length r.bytes) (rs ++ more) → AllByRecursion (λ (r : Record). r.original ≡ length r.bytes) rs
whole_front [] more all = tt
whole_front (r ∷ rs) more all = (all.0, whole_front rs more all.1)

-- the text of a port that has left
left_text_among : (lanes : List Lane) (port : ℕ) (l : Lane) → find (of_port port) lanes ≡ Some l → Contains (left_texts lanes) (port, capture_text l.left)
left_text_among [] port l is = absurd cc
left_text_among (m ∷ lanes) port l is = by (m.port == port) refl (left_text_among lanes port l) is where
  by : (b : Bool) → (m.port == port) ≡ b → (find (of_port port) lanes ≡ Some l → Contains (left_texts lanes) (port, capture_text l.left)) → cond b (Some m) (find (of_port port) lanes) ≡ Some l
      → Contains (left_texts (m ∷ lanes)) (port, capture_text l.left)
  by true passes further some =
      contains_head (left_texts lanes) (port, capture_text l.left) (m.port, capture_text m.left)
      (ap (λ n. (n, capture_text m.left)) (eqb-true m.port port passes) ∙ ap (λ (x : Lane). (port, capture_text x.left)) (same_Some m l some))
  by false fails further some = contains_tail (left_texts lanes) (port, capture_text l.left) (m.port, capture_text m.left) (further some)

-- the row of a port that has a lane
pub row_there : (ports : List PortRow) (lanes : List Lane) (port : ℕ) (l : Lane) → map (λ (m : Lane). m.port) lanes ≡ map (λ (p : PortRow). p.id) ports → find (of_port port) lanes ≡ Some l
    → (p : PortRow) × (find (λ (q : PortRow). q.id == port) ports ≡ Some p)
row_there ports [] port l same is = absurd cc
row_there [] (m ∷ lanes) port l same is = absurd cc
row_there (p ∷ ports) (m ∷ lanes) port l same is = by (p.id == port) refl (λ others. row_there ports lanes port l others) where
  number : m.port ≡ p.id
  number = cc

  others : map (λ (x : Lane). x.port) lanes ≡ map (λ (q : PortRow). q.id) ports
  others = cc

  by : (b : Bool) → (p.id == port) ≡ b
      → (map (λ (x : Lane). x.port) lanes ≡ map (λ (q : PortRow). q.id) ports → find (of_port port) lanes ≡ Some l → (q : PortRow) × (find (λ (x : PortRow). x.id == port) ports ≡ Some q))
      → (q : PortRow) × (cond (p.id == port) (Some p) (find (λ (x : PortRow). x.id == port) ports) ≡ Some q)
  by true passes further = (p, ap (λ b. cond b (Some p) (find (λ (x : PortRow). x.id == port) ports)) passes)
  by false fails further =
      let past = ap (λ b. cond b (Some m) (find (of_port port) lanes)) (ap (λ n. n == port) number ∙ fails) in
      let rest = further others (sym past ∙ is) in
      (rest.0, ap (λ b. cond b (Some p) (find (λ (x : PortRow). x.id == port) ports)) fails ∙ rest.1)

-- a site with the lane of an end
pub record SiteThere (sites : List Site) (e : End) (l : Lane) : Type 0 where
  pub site : Site
  pub at : slice_get sites e.switch ≡ Some site
  pub lane_is : lane_at site.paced e.port ≡ Some l

pub site_there : (sites : List Site) (e : End) (l : Lane) → lane_there sites e ≡ Some l → SiteThere sites e l
site_there sites e l is = by (slice_get sites e.switch) refl is where
  by : (o : Option Site) → slice_get sites e.switch ≡ o → option_and_then (λ (s : Site). lane_at s.paced e.port) o ≡ Some l → SiteThere sites e l
  by None none some = absurd (differ some) where
    differ : None ≡ Some l → ⊥
    differ e = cc
  by (Some s) at found = record { site = s; at = at; lane_is = found }

-- what left a port can be written, where what came over a wire from there can
start_readable : OutGoesOn → OutIsInOrder → (net : Network) (given : Given) (switch port cable : ℕ) (s : Site) (l : Lane) → IsSite net given switch s → lane_at s.paced port ≡ Some l
    → AreReadable 0 (map (delayed cable) l.left) → All IsWithinLimit (map (delayed cable) l.left) → AreReadable 0 l.left × All IsWithinLimit l.left
start_readable on order net given switch port cable s l site found readable limits =
    let row = row_there s.paced.table.ports s.paced.lanes port l site.running.ports found in
    let before = site.running.prefix port row.0 l row.1 found in
    let more = on.in_the_end s.paced s.paced.reached row.0 in
    let all : out_up_to s.paced None row.0 ≡ (l.left ++ before.0) ++ more.0 = more.1 ∙ ap (λ (rs : List Record). rs ++ more.0) before.1 in
    let rises = rises_front l.left before.0 (rises_front (l.left ++ before.0) more.0 (subst Rises all (order.rises s.paced row.0))) in
    let whole = whole_front l.left before.0 (whole_front (l.left ++ before.0) more.0 (subst (AllByRecursion (λ (r : Record). r.original ≡ length r.bytes)) all (order.whole s.paced row.0))) in (
      left_readable cable 0 0 l.left (omega arith) readable (all_zero l.left) rises whole,
      All-from_recursion IsWithinLimit l.left (left_limits cable l.left (recursion_from_All IsWithinLimit (map (delayed cable) l.left) limits)),
    )

module _ (on : OutGoesOn) (order : OutIsInOrder) (written : AreWritten) (net : Network) (given : Given) (sites : List Site) (left : List Results) (came : List (List Text))
    (are : AreCarried net given sites) (one : All (λ w. wire_to net w.to ≡ Some w) net.layout.wires)
    (each : (k : ℕ) (s : Site) → slice_get sites k ≡ Some s → (texts : List Text) × (slice_get came k ≡ Some texts) × ((r : Results) × (slice_get left k ≡ Some r) × Ended net given k s r texts))
    (all : length came ≡ length sites) where
  -- at the end of a wire there comes what went over it
  comes_there : (w : Wire) → Contains net.layout.wires w → (c : IsCarried sites w)
      → (texts : List Text) × (slice_get came w.to.switch ≡ Some texts) × Contains texts (w.to.port, capture_text c.there.came) × AreReadable 0 c.there.came × All IsWithinLimit c.there.came
  comes_there w among c = (
    to.0,
    to.1,
    subst (λ (text : Text). Contains to.0 text) (ap (λ n. (n, text.0.1)) (text.2.port ∙ number) ∙ ap (λ (bytes : List ℕ). (w.to.port, bytes)) (text.2.brought w wired)) text.1,
    readable.0,
    readable.1,
  ) where
    there : SiteThere sites w.to c.there
    there = site_there sites w.to c.there c.there_is

    site_to : IsSite net given w.to.switch there.site
    site_to = are.are.each w.to.switch there.site there.at

    to : (texts : List Text) × (slice_get came w.to.switch ≡ Some texts) × ((r : Results) × (slice_get left w.to.switch ≡ Some r) × Ended net given w.to.switch there.site r texts)
    to = each w.to.switch there.site there.at

    own : List Text
    own = to.2.2.own

    text : (text : Text) × Contains to.0 text × IsText net w.to.switch own c.there text
    text = text_there net w.to.switch own there.site.paced.lanes to.0 w.to.port c.there to.2.2.zip there.lane_is

    number : c.there.port ≡ w.to.port
    number = port_is there.site.paced.lanes w.to.port c.there there.lane_is

    wired : wire_to net (record { switch = w.to.switch; port = c.there.port }) ≡ Some w
    wired = ap (λ n. wire_to net (record { switch = w.to.switch; port = n })) number ∙ All-contains (λ (v : Wire). wire_to net v.to ≡ Some v) net.layout.wires w one among

    came_there : IsCame net w.to.switch site_to.own c.there
    came_there = at_lane (IsCame net w.to.switch site_to.own) there.site.paced.lanes w.to.port c.there site_to.came there.lane_is

    readable : AreReadable 0 c.there.came × All IsWithinLimit c.there.came
    readable = came_there.brought w wired

  brings : (w : Wire) → Contains net.layout.wires w → w.down ≡ false → Brings left came w
  brings w among up = record {
    here = from.2.0;
    there = to.0;
    bytes = capture_text c.start.left;
    records = c.start.left;
    here_is = from.2.1;
    there_is = to.1;
    written = subst (λ (texts : List Text). Contains texts (w.from.port, capture_text c.start.left)) (sym (from.2.2.led.captures ∙ site_from.running.left))
        (left_text_among start.site.paced.lanes w.from.port c.start start.lane_is);
    read = written c.start.left again.0 again.1;
    comes = subst (λ (records : List Record). Contains to.0 (w.to.port, capture_text records)) same to.2;
  } where
    c : IsCarried sites w
    c = All-contains (IsCarried sites) net.layout.wires w are.wires among

    same : c.there.came ≡ map (delayed w.delay) c.start.left
    same = c.same ∙ carried_up w c.start.left up

    start : SiteThere sites w.from c.start
    start = site_there sites w.from c.start c.start_is

    site_from : IsSite net given w.from.switch start.site
    site_from = are.are.each w.from.switch start.site start.at

    from : (texts : List Text) × (slice_get came w.from.switch ≡ Some texts) × ((r : Results) × (slice_get left w.from.switch ≡ Some r) × Ended net given w.from.switch start.site r texts)
    from = each w.from.switch start.site start.at

    to : (texts : List Text) × (slice_get came w.to.switch ≡ Some texts) × Contains texts (w.to.port, capture_text c.there.came) × AreReadable 0 c.there.came × All IsWithinLimit c.there.came
    to = comes_there w among c

    again : AreReadable 0 c.start.left × All IsWithinLimit c.start.left
    again =
        start_readable on order net given w.from.switch w.from.port w.delay start.site c.start site_from start.lane_is
        (subst (AreReadable 0) same to.3) (subst (All IsWithinLimit) same to.4)

  -- and nothing does where it is down
  brings_nothing : (w : Wire) → Contains net.layout.wires w → w.down ≡ true → BringsNothing came w
  brings_nothing w among down =
      let c = All-contains (IsCarried sites) net.layout.wires w are.wires among in
      let to = comes_there w among c in
      record {
        there = to.0;
        there_is = to.1;
        comes = subst (λ (records : List Record). Contains to.0 (w.to.port, capture_text records)) (c.same ∙ carried_down w c.start.left down) to.2;
      }

  given_there : (e : End) (texts : List Text) (text : Text) → wire_to net e ≡ None → slice_get came e.switch ≡ Some texts → text.0 ≡ e.port → Contains texts text → IsGiven given e.switch text
  given_there e texts text unwired at number among =
      let site = there_at sites e.switch (let lt = slice_get_within came e.switch texts at in omega (arith, lt, all)) in
      let here = each e.switch site.0 site.1 in
      let same : here.0 ≡ texts = same_Some here.0 texts (sym here.1 ∙ at) in
      let own = here.2.2 in
      let place = among_at texts text among in
      let lane = lane_of_text net e.switch own.own site.0.paced.lanes here.0 text own.zip place.0 (ap (λ (ts : List Text). slice_get ts place.0) same ∙ place.1) in
      record {
        texts = own.own;
        texts_is = own.own_is;
        has = lane.1.given (ap (λ n. wire_to net (record { switch = e.switch; port = n })) (sym lane.1.port ∙ number) ∙ unwired);
      }

-- each site has ended over what came in there
abbrev pub EndedEach : Network → Given → List Site → List Results → List (List Text) → Type 0
EndedEach net given sites left came = (k : ℕ) (s : Site) → slice_get sites k ≡ Some s
    → (texts : List Text) × (slice_get came k ≡ Some texts) × ((r : Results) × (slice_get left k ≡ Some r) × Ended net given k s r texts)

pub is_unchecked_run : OutGoesOn → OutIsInOrder → AreWritten → (net : Network) (given : Given) (sites : List Site) (left : List Results) → AreCarried net given sites
    → KeepTheirLines net given → All (λ w. wire_to net w.to ≡ Some w) net.layout.wires → All (HasSent None) sites → AllZip HasLed sites left
    → (came : List (List Text)) × IsUncheckedRunOf net given came left × EndedEach net given sites left came × (length came ≡ length sites)
is_unchecked_run on order written net given sites left are lines one sent led = (
  all.xs,
  record {
    outcomes = outcomes;
    lines = lines;
    fed = record {
      wires = brings on order written net given sites left all.xs are one all.each all.long;
      down = brings_nothing on order written net given sites left all.xs are one all.each all.long;
      others = given_there on order written net given sites left all.xs are one all.each all.long;
    };
  },
  all.each,
  all.long,
) where
  P : ℕ → Site → List Text → Type 0
  P k s texts = (r : Results) × (slice_get left k ≡ Some r) × Ended net given k s r texts

  all : Chosen P sites
  all = choose P sites (λ k s is.
      let r = zip_at HasLed sites left led k s is in
      let e = ended on written net given k s r.0 (are.are.each k s is) (All-contains (HasSent None) sites s sent (at_among sites k s is)) r.2 in
      (e.0, (r.0, r.1, e.1)))

  outcomes : AreOutcomes net.tables all.xs left
  outcomes = outcomes_are net.tables all.xs left (all.long ∙ are.are.all) (sym (zip_long HasLed sites left led) ∙ are.are.all) (λ k t texts r table came_is left_is.
      let site = there_at sites k (let lt = slice_get_within net.tables k t table in let same = are.are.all in omega (arith, lt, same)) in
      let here = all.each k site.0 site.1 in
      let is = are.are.each k site.0 site.1 in
      let same_table : site.0.paced.table ≡ t = same_Some site.0.paced.table t (sym is.table_is ∙ table) in
      let same_texts : here.0 ≡ texts = same_Some here.0 texts (sym here.1 ∙ came_is) in
      let same_left : here.2.0 ≡ r = same_Some here.2.0 r (sym here.2.1 ∙ left_is) in
      subst (λ (c : Content). IsOutcome c texts r) same_table
      (subst (λ (ts : List Text). IsOutcome site.0.paced.table ts r) same_texts (subst (IsOutcome site.0.paced.table here.0) same_left here.2.2.outcome)))

-- the tables are well-formed
pub are_formed : (net : Network) (given : Given) (sites : List Site) → AreCarried net given sites → All IsWellFormed net.tables
are_formed net given sites are k t within =
    let site = there_at sites k (let same = are.are.all in omega (arith, within, same)) in
    let is = are.are.each k site.0 site.1 in
    subst IsWellFormed (sym (get_or_from_slice_get net.tables k site.0.paced.table t is.table_is)) is.running.formed

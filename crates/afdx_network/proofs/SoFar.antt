-- What was given so far: the captures of what was taken, one for each port to which no wire goes.
use Rattle.std.proofs.Common.{◌≡◌, ◌<◌, ◌≤◌, ◌+◌, ◌-◌, ℕ, zero, suc, cond, List, [], ◌∷◌, ◌++◌, length, map, filter, slice_get}
use Rattle.std.proofs.Common.{get_or, Option, Some, refl, ap, sym, ◌∙◌, arith, inl, inr, subst}
use Rattle.std.specs.Prelude.{Contains, option_to_list}
use Rattle.std.specs.List.{AllByRecursion}
use Rattle.std.specs.Option.{option_map}
use Rattle.std.proofs.lemmas.Bool.{ne_eqb, cases_lt}
use Rattle.std.proofs.lemmas.List.{map-append, length-map}
use Rattle.std.proofs.lemmas.Option.{same_Some, slice_get-map, slice_get_within}
use Rattle.afdx_pcap.specs.Record.{Record}
use Rattle.afdx_pcap.specs.Capture.{IsCapture}
use Rattle.afdx_pcap.specs.Text.{capture_text}
use Rattle.afdx_pcap.specs.Reading.{AreFirst}
use Rattle.afdx_pcap.proofs.Early.{first_early}
use Rattle.afdx_pairing.specs.Events.{Numbered}
use Rattle.afdx_merging.specs.declared.clock.Clock.{Clock}
use Rattle.afdx_merging.specs.declared.lane.Lane.{Lane as Reading}
use Rattle.afdx_merging.specs.Merge.{Arrival, at_place, numbered_from, same_clock}
use Rattle.afdx_merging.specs.Inner.Lanes.{HasGiven}
use Rattle.afdx_merging.specs.Inner.Merging.{IsLaneOf}
use Rattle.afdx_merging.proofs.Timed.{numbered_back, frames_of, there_at}
use Rattle.afdx_table.specs.declared.rows.PortRow.{PortRow}
use Rattle.afdx_table.specs.Content.{Content}
use Rattle.afdx_session.specs.Texts.{Text}
use Rattle.afdx_wiring.specs.declared.layout.End.{End}
use Rattle.afdx_network_check.specs.Net.{Network}
use Rattle.afdx_network.specs.declared.intake.Intake.{Intake}
use Rattle.afdx_network.specs.Runs.{Given}
use Rattle.afdx_network.specs.Given.{is_open, open_ends, AreOpen}
use Rattle.afdx_network.specs.Inner.Intake.{end_place, came_at, HasTaken, AreGivenSoFar}
use Rattle.afdx_network.specs.Inner.Sites.{end_at}
use Rattle.afdx_network.proofs.Carried.{AreWritten}
use Rattle.afdx_network.proofs.Cutting.{text_of_first}

-- ---- one capture

-- what was taken of a capture are the first records of what was read, so that it has a text of its own
pub front_of : {R Z : Type 0} (written : AreWritten) (remaining : R → Option (List ℕ)) (first now : R) (arrivals : List Arrival) (place : ℕ) (l : Reading Z)
    → IsLaneOf remaining same_clock first now arrivals place l
    → (text : List ℕ) × IsCapture text (map (λ (a : Arrival). a.head.frame) (at_place place arrivals))
front_of written remaining first now arrivals place l is =
    subst (λ (rs : List Record). (text : List ℕ) × IsCapture text rs) (sym came)
    (text_of_first (capture_text []) (written [] tt (λ k d lt. absurd (omega (arith, lt)))) l.reader.bytes (map (λ (m : Numbered). m.frame) is.given) rest
    (subst (λ (rs : List Record). AreFirst l.reader.bytes rs) whole has.taken.first)) where
      has : HasGiven l is.given
      has = is.read.has

      rest : List Record
      rest = map (λ (m : Numbered). m.frame) (option_to_list l.head)

      came : map (λ (a : Arrival). a.head.frame) (at_place place arrivals) ≡ map (λ (m : Numbered). m.frame) is.given
      came = ap (map (λ (a : Arrival). a.head.frame)) is.are ∙ frames_of place same_clock is.given

      whole : has.records ≡ map (λ (m : Numbered). m.frame) is.given ++ rest
      whole =
          sym (numbered_back 1 has.records (first_early l.reader.bytes has.records has.taken.first))
          ∙ ap (λ (c : Clock). map (λ (m : Numbered). m.frame) (numbered_from 1 c has.records)) (sym is.clock)
          ∙ ap (map (λ (m : Numbered). m.frame)) (sym has.numbered)
          ∙ map-append (λ (m : Numbered). m.frame) is.given (option_to_list l.head)

-- ---- all captures

none_at : (count place : ℕ) (arrivals : List Arrival) → AllByRecursion (λ (a : Arrival). a.place < count) arrivals → count ≤ place → at_place place arrivals ≡ []
none_at count place [] all past = refl
none_at count place (a ∷ arrivals) all past =
    let here = all.0 in
    ap (λ b. cond b (a ∷ at_place place arrivals) (at_place place arrivals)) (ne_eqb a.place place (λ same. omega (arith, here, past, same)))
    ∙ none_at count place arrivals all.1 past

pub text_at : {R : Type 0} → AreWritten → (remaining : R → Option (List ℕ)) (net : Network) (first now : List R) (i : Intake) (came : List Arrival) → HasTaken remaining net first now i came
    → (switch port : ℕ) → (text : List ℕ) × IsCapture text (came_at (open_ends net) came switch port)
text_at {R} written remaining net first now i came taken switch port = elim (cases_lt place (length (open_ends net))) [
  | inl within ↦
      let f = there_at first place (let long = taken.merged.long in omega (arith, within, long, count)) in
      let r = there_at now place (let long = taken.merged.readers in omega (arith, within, long, count)) in
      let l = there_at i.merging.lanes.items place (let long = taken.merged.many in omega (arith, within, long, count)) in
      let e = there_at (open_ends net) place within in
      front_of written remaining f.0 r.0 came place l.0
      (taken.merged.each place same_clock f.0 r.0 l.0 (slice_get-map (λ (x : End). same_clock) (open_ends net) place ∙ ap (option_map (λ (x : End). same_clock)) e.1) f.1 r.1 l.1)
  | inr past ↦
      subst (λ (items : List Arrival). (text : List ℕ) × IsCapture text (map (λ (a : Arrival). a.head.frame) items))
      (sym (none_at (length (map (λ (x : End). same_clock) (open_ends net))) place came taken.merged.within (omega (arith, past, count))))
      (capture_text [], written [] tt (λ k d lt. absurd (omega (arith, lt))))
] where
  place : ℕ
  place = end_place (open_ends net) (end_at switch port)

  count : length (map (λ (x : End). same_clock) (open_ends net)) ≡ length (open_ends net)
  count = length-map (open_ends net) (λ (x : End). same_clock)

-- ---- for each port

record ForPorts (f : ℕ → List Record) (ports : List ℕ) : Type 0 where
  pub texts : List Text
  pub ports_are : map (λ (text : Text). text.0) texts ≡ ports
  pub each : (text : Text) → Contains texts text → IsCapture text.1 (f text.0)

for_ports : (f : ℕ → List Record) → ((port : ℕ) → (text : List ℕ) × IsCapture text (f port)) → (ports : List ℕ) → ForPorts f ports
for_ports f text [] = record { texts = []; ports_are = refl; each = λ t among. let lt = among.1 in absurd (omega (arith, lt)) }
for_ports f text (port ∷ ports) =
    let rest = for_ports f text ports in
    record {
      texts = (port, (text port).0) ∷ rest.texts;
      ports_are = ap (λ (ns : List ℕ). port ∷ ns) rest.ports_are;
      each = λ t among. by rest t among.0 among.1 among.2;
    } where
      by : (rest : ForPorts f ports) (t : Text) (k : ℕ) → k < suc (length rest.texts) → get_or ((port, (text port).0) ∷ rest.texts) k t ≡ t → IsCapture t.1 (f t.0)
      by rest t zero lt is = subst (λ (x : Text). IsCapture x.1 (f x.0)) is (text port).1
      by rest t (suc k) lt is = rest.each t (k, omega (arith, lt), is)

record ForSwitches (net : Network) (f : ℕ → ℕ → List Record) (n : ℕ) (tables : List Content) : Type 0 where
  pub given : Given
  pub long : length given ≡ length tables
  pub each : (k : ℕ) (t : Content) → slice_get tables k ≡ Some t
      → (own : List Text) × (slice_get given k ≡ Some own) × AreOpen net (n + k) t own × ((text : Text) → Contains own text → IsCapture text.1 (f (n + k) text.0))

for_switches : (net : Network) (f : ℕ → ℕ → List Record) → ((switch port : ℕ) → (text : List ℕ) × IsCapture text (f switch port)) → (n : ℕ) (tables : List Content) → ForSwitches net f n tables
for_switches net f text n [] = record { given = []; long = refl; each = λ k t is. absurd cc }
for_switches net f text n (t ∷ tables) =
    let own = for_ports (f n) (text n) (filter (is_open net n) (map (λ (p : PortRow). p.id) t.ports)) in
    let rest = for_switches net f text (n + 1) tables in
    record { given = own.texts ∷ rest.given; long = ap suc rest.long; each = at own rest } where
      at : (own : ForPorts (f n) (filter (is_open net n) (map (λ (p : PortRow). p.id) t.ports))) (rest : ForSwitches net f (n + 1) tables) → (k : ℕ) (u : Content) → slice_get (t ∷ tables) k ≡ Some u
          → (texts : List Text) × (slice_get (own.texts ∷ rest.given) k ≡ Some texts) × AreOpen net (n + k) u texts × ((x : Text) → Contains texts x → IsCapture x.1 (f (n + k) x.0))
      at own rest zero u is =
          let number : n + 0 ≡ n = omega arith in
          subst (λ m. (texts : List Text) × (slice_get (own.texts ∷ rest.given) 0 ≡ Some texts) × AreOpen net m u texts × ((x : Text) → Contains texts x → IsCapture x.1 (f m x.0))) (sym number)
          (own.texts, refl, subst (λ (c : Content). AreOpen net n c own.texts) (same_Some t u is) own.ports_are, own.each)
      at own rest (suc k) u is =
          let number : n + suc k ≡ (n + 1) + k = omega arith in
          subst (λ m. (texts : List Text) × (slice_get (own.texts ∷ rest.given) (suc k) ≡ Some texts) × AreOpen net m u texts × ((x : Text) → Contains texts x → IsCapture x.1 (f m x.0))) (sym number)
          (rest.each k u is)

-- whatever records came at each port, captures of them were given
pub so_far_of : (net : Network) (came : List Arrival) → ((switch port : ℕ) → (text : List ℕ) × IsCapture text (came_at (open_ends net) came switch port))
    → (given : Given) × AreGivenSoFar net came given
so_far_of net came text = (
  all.given,
  record {
    are = record {
      each = λ n lt.
          let t = there_at net.tables n lt in
          let own = at n t.0 t.1 in
          record { table = t.0; texts = own.0; table_is = t.1; texts_is = own.1; of_open = own.2 };
      no_more = all.long;
    };
    each = λ n own text is among.
        let t = there_at net.tables n (let lt = slice_get_within all.given n own is in let long = all.long in omega (arith, lt, long)) in
        let there = at n t.0 t.1 in
        there.3 text (subst (λ (texts : List Text). Contains texts text) (sym (same_Some there.0 own (sym there.1 ∙ is))) among);
  },
) where
  all : ForSwitches net (came_at (open_ends net) came) 0 net.tables
  all = for_switches net (came_at (open_ends net) came) text 0 net.tables

  at : (n : ℕ) (t : Content) → slice_get net.tables n ≡ Some t
      → (own : List Text) × (slice_get all.given n ≡ Some own) × AreOpen net n t own × ((x : Text) → Contains own x → IsCapture x.1 (came_at (open_ends net) came n x.0))
  at n t is =
      let number : 0 + n ≡ n = omega arith in
      subst (λ m. (own : List Text) × (slice_get all.given n ≡ Some own) × AreOpen net m t own × ((x : Text) → Contains own x → IsCapture x.1 (came_at (open_ends net) came m x.0))) number
      (all.each n t is)

-- whatever was taken, it was given
pub given_so_far : {R : Type 0} → AreWritten → (remaining : R → Option (List ℕ)) (net : Network) (first now : List R) (i : Intake) (came : List Arrival) → HasTaken remaining net first now i came
    → (given : Given) × AreGivenSoFar net came given
given_so_far written remaining net first now i came taken = so_far_of net came (text_at written remaining net first now i came taken)

-- where nothing was
pub none_so_far : AreWritten → (net : Network) → (given : Given) × AreGivenSoFar net [] given
none_so_far written net = so_far_of net [] (λ switch port. (capture_text [], written [] tt (λ k d lt. absurd (omega (arith, lt)))))

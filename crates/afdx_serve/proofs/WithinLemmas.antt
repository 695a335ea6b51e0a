-- On no way of an accepted network does a frame take longer than is promised.
use Rattle.std.proofs.Common.{◌≡◌, ◌-◌, ◌<◌, ◌==◌, ℕ, Bool, true, false, cond, not, string_bytes, List, [], ◌∷◌, ◌++◌, map, find, get_or, length, slice_get, Option, Some, None}
use Rattle.std.proofs.Common.{refl, ap, sym, ◌∙◌, subst, arith}
use Rattle.std.specs.Prelude.{All, reverse, option_and_then}
use Rattle.std.specs.Option.{option_map, unwrap_or}
use Rattle.std.specs.List.{AllByRecursion, AllZip}
use Rattle.std.proofs.lemmas.Bool.{eqb-true}
use Rattle.std.proofs.lemmas.List.{length-reverse, get_or-reverse}
use Rattle.std.proofs.lemmas.List.Elements.{All-from_recursion}
use Rattle.std.proofs.lemmas.Option.{same_Some, unwrap_or-slice_get}
use Rattle.afdx_table.specs.Link.{Link, leads_to}
use Rattle.afdx_table.specs.WellFormed.{TablesAreWellFormed}
use Rattle.afdx_table.specs.Content.{Content, link_row}
use Rattle.afdx_core.specs.State.{State}
use Rattle.afdx_count.specs.Tally.{Tally}
use Rattle.afdx_network_check.specs.declared.exit.Exit.{Exit}
use Rattle.afdx_wiring.specs.declared.layout.End.{End}
use Rattle.afdx_wiring.specs.declared.layout.Wire.{Wire}
use Rattle.afdx_network_check.specs.declared.ways.Way.{Way}
use Rattle.afdx_network_check.specs.Net.{Network, Row, Back, row_in, row_at, source_of, IsWayBack}
use Rattle.afdx_wiring.specs.Inner.Limits.{LayoutsAreWithinLimits}
use Rattle.afdx_network_check.specs.Order.{leading, row_before}
use Rattle.afdx_network_check.specs.Ways.{end_of, line_of, IsWayOut, AreWaysOf}
use Rattle.afdx_origins.specs.Origins.{Origins, IsSummary}
use Rattle.afdx_origins.specs.Laws.{KeepBounds, NoneTakesMoreThanItsWay}
use Rattle.afdx_network.specs.Outage.{given_up}
use Rattle.afdx_network.specs.Watched.{WatchedRunsKeepBounds}
use Rattle.afdx_arguments.specs.declared.request.NetworkInputs.{NetworkInputs}
use Rattle.afdx_folder.specs.Files.{Files, KeepsFiles}
use Rattle.afdx_network_report.specs.Lines.{Names, last_end}
use Rattle.afdx_network_report.specs.LinkEnds.{link_end_of}
use Rattle.afdx_network_report.specs.declared.link_ends.LinkEnd.{LinkEnd}
use Rattle.afdx_serve.specs.Checks.{heading_in}
use Rattle.afdx_serve.specs.declared.network_watched.Planned.{Planned}
use Rattle.afdx_serve.specs.Networks.{names_of}
use Rattle.afdx_csv.specs.declared.form.Form.{Form}
use Rattle.afdx_rows.specs.Delays.{network_measure_columns}
use Rattle.afdx_rows.specs.Spells.{network_survey_columns}
use Rattle.afdx_serve.specs.NetworkMeasures.{AreEndsOf, HaveEnds, IsWithinItsWay, buffers_in, counts_in, policing_in, WatchesFrom, IsMeasuredNetwork}
use Rattle.afdx_serve.specs.NetworkMeasures.{IsMeasuredText, HasMeasuredText, HasSurveyText, MeasuresNetworkTo, SurveysNetworkTo}
use Rattle.afdx_serve.specs.Inner.NetworkRunning.{network_in, is_accepted}
use Rattle.afdx_serve.specs.Inner.Watching.{IsPlanned}
use Rattle.afdx_serve.proofs.NetworkMeasureLemmas.{watched_before}
use Rattle.afdx_serve.proofs.NetworkRunLemmas.{of_file}

-- ---- a way is of its link, and leads out where its line begins

link_found : (links : List Link) (id : ℕ) (l : Link) → find (λ (x : Link). x.id == id) links ≡ Some l → l.id ≡ id
link_found [] id l is = absurd cc
link_found (x ∷ links) id l is = by (x.id == id) refl is (link_found links id l) where
  by : (b : Bool) → (x.id == id) ≡ b → cond b (Some x) (find (λ (y : Link). y.id == id) links) ≡ Some l → (find (λ (y : Link). y.id == id) links ≡ Some l → l.id ≡ id) → l.id ≡ id
  by true passes some further = ap (λ (y : Link). y.id) (sym (same_Some x l some)) ∙ eqb-true x.id id passes
  by false fails some further = further some

row_of_link : (switch : ℕ) (t : Content) (id : ℕ) (r : Row) → option_map (row_in switch) (link_row t id) ≡ Some r → r.link.id ≡ id
row_of_link switch t id r is = by (link_row t id) refl is where
  by : (o : Option Link) → link_row t id ≡ o → option_map (row_in switch) o ≡ Some r → r.link.id ≡ id
  by None at none = absurd cc
  by (Some l) at some = ap (λ (q : Row). q.link.id) (sym (same_Some (row_in switch l) r some)) ∙ link_found t.links id l at

row_of : (net : Network) (switch id : ℕ) (r : Row) → row_at net switch id ≡ Some r → r.link.id ≡ id
row_of net switch id r is = by (slice_get net.tables switch) is where
  by : (o : Option Content) → option_and_then (λ (t : Content). option_map (row_in switch) (link_row t id)) o ≡ Some r → r.link.id ≡ id
  by None none = absurd cc
  by (Some t) some = row_of_link switch t id r some

row_on_wire : (net : Network) (id : ℕ) (w : Wire) (r : Row) → row_before net id w ≡ Some r → r.link.id ≡ id
row_on_wire net id w r is = by (row_at net w.from.switch id) refl is where
  led : (q : Row) → row_at net w.from.switch id ≡ Some q → (b : Bool) → cond b (Some q) None ≡ Some r → r.link.id ≡ id
  led q at true some = ap (λ (x : Row). x.link.id) (sym (same_Some q r some)) ∙ row_of net w.from.switch id q at
  led q at false none = absurd cc

  by : (o : Option Row) → row_at net w.from.switch id ≡ o → option_and_then (leading w.from.port) o ≡ Some r → r.link.id ≡ id
  by None at none = absurd cc
  by (Some q) at some = led q at (leads_to w.from.port q.link) some

source_is : (net : Network) (r : Row) (backs : List Back) → IsWayBack net r backs → (source_of r backs).link.id ≡ r.link.id
source_is net r [] way = refl
source_is net r (b ∷ more) way = source_is net b.row more way.3 ∙ row_of net b.wire.from.switch r.link.id b.row way.1

last_is : (e from : End) (ends : List End) → unwrap_or (slice_get (reverse (e ∷ ends)) (length (reverse (e ∷ ends)) - 1)) from ≡ e
last_is e from ends =
    let long = length-reverse (e ∷ ends) in
    let first : length (e ∷ ends) - 1 < length (e ∷ ends) = omega arith in
    let none : (length (e ∷ ends) - 1) - (length (e ∷ ends) - 1) ≡ 0 = omega arith in
    ap (λ n. unwrap_or (slice_get (reverse (e ∷ ends)) (n - 1)) from) long ∙ unwrap_or-slice_get (reverse (e ∷ ends)) (length (e ∷ ends) - 1) from
    ∙ get_or-reverse (e ∷ ends) (length (e ∷ ends) - 1) from first ∙ ap (λ n. get_or (e ∷ ends) n from) none

-- ---- so what is promised of it bounds the delays there

one_within : NoneTakesMoreThanItsWay → (o : Origins) → KeepBounds o.net o.sent → (x : Exit) (w : Way) → IsWayOut o.net x w → IsWithinItsWay o (link_end_of w)
one_within law o bounds x w way d summary =
    law o.net o.sent bounds w x.link (end_of x) d way
    (subst (λ (e : End). IsSummary o.net o.sent x.link e d) end (subst (λ (n : ℕ). IsSummary o.net o.sent n (last_end w) d) link summary)) where
      backs : List Back
      backs = way.1

      link : w.link ≡ x.link
      link = way.4.link ∙ source_is o.net way.0 backs way.3 ∙ row_on_wire o.net x.link (line_of x) way.0 way.2

      end : last_end w ≡ end_of x
      end =
          ap (λ (ends : List End). unwrap_or (slice_get ends (length ends - 1)) w.from) way.4.ports ∙ last_is (end_of x) w.from (map (λ (b : Back). b.wire.from) backs)

all_within : NoneTakesMoreThanItsWay → (o : Origins) → KeepBounds o.net o.sent → (exits : List Exit) (ways : List Way) → AllZip (IsWayOut o.net) exits ways
    → AllByRecursion (IsWithinItsWay o) (map link_end_of ways)
all_within law o bounds [] [] are = tt
all_within law o bounds [] (w ∷ ways) are = absurd are
all_within law o bounds (x ∷ exits) [] are = absurd are
all_within law o bounds (x ∷ exits) (w ∷ ways) are = (one_within law o bounds x w are.0, all_within law o bounds exits ways are.1)

pub ends_within : NoneTakesMoreThanItsWay → (net : Network) (o : Origins) (ends : List LinkEnd) → o.net ≡ net → KeepBounds net o.sent → AreEndsOf true net ends → All (IsWithinItsWay o) ends
ends_within law net o ends same bounds are =
    let bound = subst (λ (n : Network). KeepBounds n o.sent) (sym same) bounds in
    let ways = subst (λ (n : Network). AreWaysOf n are.0) (sym same) are.1 in
    subst (All (IsWithinItsWay o)) (sym are.2) (All-from_recursion (IsWithinItsWay o) (map link_end_of are.0) (all_within law o bound ways.0 are.0 ways.3))

-- ---- what is reported of a run

module _ (law : NoneTakesMoreThanItsWay) (runs : WatchedRunsKeepBounds) (formed : TablesAreWellFormed) (limits : LayoutsAreWithinLimits) where
  -- in the run of an accepted network no delay is greater than what is promised
  all_kept : (inputs : NetworkInputs) (a : Option Files) (net : Network) (switches : List (Tally × State)) (o : Origins) (ends : List LinkEnd) → IsMeasuredNetwork inputs a net switches o
      → AreEndsOf (not inputs.unchecked) net ends → inputs.unchecked ≡ false → All (IsWithinItsWay o) ends
  all_kept inputs a net switches o ends m are checked =
      let accepted = m.accepted checked in
      let w = m.watched in
      ends_within law net o ends w.sent.network
      (runs net (given_up net.layout w.given) w.came w.left switches o (of_file formed limits a inputs.network.now net m.has_network)
      (record { fits = accepted.fits; loads = accepted.loads }) w.led w.ended w.sent)
      (subst (λ unchecked. AreEndsOf (not unchecked) net ends) checked are)

  module _ (inputs : NetworkInputs) (a b : Option Files) (p : Planned) (planned : IsPlanned inputs a p) (keeps : KeepsFiles a b) (switches : List (Tally × State)) (o : Origins)
      (watched : WatchesFrom b inputs.input.now (network_in p.plan) switches o) where
    measured_by : IsMeasuredNetwork inputs a (network_in p.plan) switches o
    measured_by = record {
      has_network = planned.has_network;
      watched = watched_before a b inputs.input.now (network_in p.plan) switches o keeps watched;
      accepted = planned.accepted;
    }

    abbrev names_in : Names
    names_in = names_of (network_in p.plan).layout.switches

    said_of_it : (form : Form) (columns : List (List ℕ)) (text : List ℕ)
        → IsMeasuredText form columns (is_accepted p.plan) (network_in p.plan) (map string_bytes p.names.items) switches o text
        → IsMeasuredText form columns (not inputs.unchecked) (network_in p.plan) names_in switches o text
    said_of_it form columns text t = record {
      ends = t.ends;
      lines = t.lines;
      are_ends = subst (λ accepted. AreEndsOf accepted (network_in p.plan) t.ends) planned.chosen t.are_ends;
      lines_are = subst (λ (ns : Names). HaveEnds form columns ns o t.ends t.lines) planned.names t.lines_are;
      text_is = t.text_is ∙ ap (λ (ns : Names). t.lines ++ buffers_in form columns ns switches) planned.names;
    }

    pub measures_to : (form : Form) (text : List ℕ) → HasMeasuredText form (is_accepted p.plan) (network_in p.plan) (map string_bytes p.names.items) switches o text
        → MeasuresNetworkTo form inputs a text
    unfolding said_of_it
    measures_to form text t = record {
      net = network_in p.plan;
      switches = switches;
      origins = o;
      measured = measured_by;
      has_text = record { measured = t.measured; has_measured = said_of_it form network_measure_columns t.measured t.has_measured; text_is = t.text_is };
      within = λ checked. all_kept inputs a (network_in p.plan) switches o t.has_measured.ends measured_by (said_of_it form network_measure_columns t.measured t.has_measured).are_ends checked;
    }

    pub surveys_to : (form : Form) (text : List ℕ) → HasSurveyText form (is_accepted p.plan) (network_in p.plan) (map string_bytes p.names.items) switches o text
        → SurveysNetworkTo form inputs a text
    unfolding said_of_it
    surveys_to form text t = record {
      net = network_in p.plan;
      switches = switches;
      origins = o;
      measured = measured_by;
      has_text = record {
        measured = t.measured;
        has_measured = said_of_it form network_survey_columns t.measured t.has_measured;
        text_is = t.text_is
            ∙ ap (λ (ns : Names). heading_in form network_survey_columns ++ counts_in form ns switches ++ t.measured ++ policing_in form ns switches) planned.names;
      };
      within = λ checked. all_kept inputs a (network_in p.plan) switches o t.has_measured.ends measured_by (said_of_it form network_survey_columns t.measured t.has_measured).are_ends checked;
    }

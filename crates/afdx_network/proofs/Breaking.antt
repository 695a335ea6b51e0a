-- The first port of which what was given did not come over one line.
use Rattle.std.proofs.Common.{◌≡◌, ◌<◌, ℕ, true, List, map, take, slice_get, not, Option, Some, is_some, refl, ap, sym, ◌∙◌, subst, arith}
use Rattle.std.specs.Prelude.{Contains}
use Rattle.std.proofs.lemmas.List.Elements.{recursion_from_All}
use Rattle.std.proofs.lemmas.Option.{same_Some, slice_get_within}
use Rattle.afdx_pcap.specs.Capture.{IsCapture}
use Rattle.afdx_table.specs.declared.rows.PortRow.{PortRow}
use Rattle.afdx_table.specs.Content.{Content}
use Rattle.afdx_table.specs.WellFormed.{IsWellFormed}
use Rattle.afdx_merging.specs.Merge.{Arrival}
use Rattle.afdx_session.specs.Lined.{RecordsKeepToLineWithin}
use Rattle.afdx_wiring.specs.declared.layout.End.{End}
use Rattle.afdx_wiring.specs.declared.layout.Wire.{Wire}
use Rattle.afdx_network_check.specs.Net.{Network, stamp_rounding}
use Rattle.afdx_network.specs.Runs.{Given, AreGivenAt, KeepsItsLine}
use Rattle.afdx_network.specs.Given.{is_open, open_ends, AreGiven, IsFirstBreach}
use Rattle.afdx_network.specs.Inner.Intake.{records_at, BreaksALine}
use Rattle.afdx_network.specs.Inner.Sites.{end_at}
use Rattle.afdx_network.proofs.Answering.{all_places}
use Rattle.afdx_network.proofs.Feeding.{Unique}
use Rattle.afdx_network.proofs.Handed.{took}
use Rattle.afdx_network.proofs.OpenEnds.{Apart, IsOpenEnd, open_there, all_apart, first_place}
use Rattle.afdx_network.proofs.Started.{filter_has, text_of}
use Rattle.afdx_network.proofs.Whole.{AreOfTheirPlaces}

module _ (unique : Unique) (net : Network) (given : Given) (came : List Arrival) (are : AreGiven net given) (of : AreOfTheirPlaces net came given) (switch port number : ℕ)
    (b : BreaksALine net came switch port number) where
  apart : Apart (open_ends net)
  apart = all_apart net 0 net.tables (recursion_from_All IsWellFormed net.tables b.formed)

  -- two places of one port are one
  one_place : (e : End) (j k : ℕ) → slice_get (open_ends net) j ≡ Some e → slice_get (open_ends net) k ≡ Some e → j ≡ k
  one_place e j k here there = sym (first_place (open_ends net) j e apart here) ∙ first_place (open_ends net) k e apart there

  -- the ports before it keep to their lines
  before : (j : ℕ) (e : End) → j < b.place → slice_get (open_ends net) j ≡ Some e → KeepsItsLine net given e
  before j e lt here row records at =
      let there = of e.switch at.is_given.texts at.text at.is_given.texts_is at.is_given.has in
      let end : slice_get (open_ends net) there.0 ≡ Some e = subst (λ (p : ℕ). slice_get (open_ends net) there.0 ≡ Some (end_at e.switch p)) at.port there.1 in
      let same = one_place e j there.0 here end in
      let whole : IsCapture at.text.1 (records_at j came) = subst (λ (k : ℕ). IsCapture at.text.1 (records_at k came)) (sym same) there.2 in
      subst (RecordsKeepToLineWithin stamp_rounding row.speed) (sym (unique at.text.1 records (records_at j came) at.capture whole)) (b.before j lt e row here at.row_is)

  -- what was given for it
  here_open : IsOpenEnd net 0 net.tables (end_at switch port)
  here_open = open_there net 0 net.tables b.place (end_at switch port) b.end_is

  unwired : is_open net switch port ≡ true
  unwired = ap (λ (o : Option Wire). not (is_some o)) here_open.unwired

  given_here : AreGivenAt net given (end_at switch port) b.row (records_at b.place came)
  given_here =
      let o = here_open in
      let number : switch ≡ o.place = let is = o.switch_is in omega (arith, is) in
      let at : slice_get net.tables switch ≡ Some o.table = ap (slice_get net.tables) number ∙ o.table_is in
      let g = are.each switch (slice_get_within net.tables switch o.table at) in
      let same : g.table ≡ o.table = same_Some g.table o.table (sym g.table_is ∙ at) in
      let ports = subst (λ (t : Content). Contains (map (λ (p : PortRow). p.id) t.ports) port) (sym same) o.among in
      let among = filter_has (is_open net switch) (map (λ (p : PortRow). p.id) g.table.ports) port unwired ports in
      let text = text_of g.texts port (subst (λ (ns : List ℕ). Contains ns port) (sym g.of_open) among) in
      let there = of switch g.texts (port, text.0) g.texts_is text.1 in
      record {
        row_is = b.row_is;
        no_wire = o.unwired;
        text = (port, text.0);
        is_given = record { texts = g.texts; texts_is = g.texts_is; has = text.1 };
        port = refl;
        capture = subst (λ (k : ℕ). IsCapture text.0 (records_at k came)) (one_place (end_at switch port) there.0 b.place there.1 b.end_is) there.2;
      }

  pub first_breach : IsFirstBreach net given switch port number
  first_breach = record {
    said = b.said;
    place = b.place;
    end_is = b.end_is;
    before = all_places (KeepsItsLine net given) (take b.place (open_ends net)) (λ j e at. let here = took b.place j (open_ends net) e at in before j e here.0 here.1);
    row = b.row;
    records = records_at b.place came;
    are = given_here;
    breach = b.breach;
  }

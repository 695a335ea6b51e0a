-- What is given for a network has one run.
use Rattle.std.proofs.Common.{◌≡◌, ◌<◌, ◌≤◌, ℕ, zero, suc, Bool, true, false, List, [], ◌∷◌, ◌++◌, map, length, get_or, slice_get, Option, Some, None, refl, ap, sym, ◌∙◌, subst, arith, inl, inr}
use Rattle.std.specs.Prelude.{Contains, ◌⊎◌}
use Rattle.std.specs.List.{AllByRecursion}
use Rattle.std.proofs.lemmas.Bool.{le-leb}
use Rattle.std.proofs.lemmas.Option.{same_Some, slice_get_within}
use Rattle.afdx_units.specs.Time.{last_second}
use Rattle.afdx_pcap.specs.Record.{Record}
use Rattle.afdx_pcap.specs.Text.{capture_text}
use Rattle.afdx_pcap.specs.Capture.{IsCapture}
use Rattle.afdx_pcap.proofs.Early.{capture_early}
use Rattle.afdx_table.specs.declared.rows.PortRow.{PortRow}
use Rattle.afdx_table.specs.Content.{Content}
use Rattle.afdx_table.specs.WellFormed.{IsWellFormed}
use Rattle.afdx_count.specs.Tally.{Tally}
use Rattle.afdx_count.specs.Run.{counts_of}
use Rattle.afdx_core.specs.Merge.{Arrival, Capture, arrivals_of, merged}
use Rattle.afdx_session.specs.Texts.{Text}
use Rattle.afdx_session.specs.Reading.{AreCaptures}
use Rattle.afdx_session.specs.Output.{rows_of, output_of, output_text, outputs}
use Rattle.afdx_session.specs.Outcome.{Results, IsOutcome}
use Rattle.afdx_session.specs.Streams.{LaterArrivalsChangeNothing}
use Rattle.afdx_session.proofs.Settling.{arrived}
use Rattle.afdx_paced.specs.Laws.{below, MergesAreCut, NothingLeavesBefore, OutGoesOn}
use Rattle.afdx_paced.proofs.Puts.{below-append}
use Rattle.afdx_wiring.specs.declared.layout.End.{End}
use Rattle.afdx_wiring.specs.declared.layout.Wire.{Wire}
use Rattle.afdx_network_check.specs.Net.{Network, wire_to}
use Rattle.afdx_network.specs.Way.{delayed}
use Rattle.afdx_network.specs.Runs.{Given, Brings, AreOutcomes, IsUncheckedRunOf}
use Rattle.afdx_network.specs.Given.{is_open, AreGiven}
use Rattle.afdx_network.specs.Laws.{IsOfFile}
use Rattle.afdx_network.specs.OneRun.{GivenHasOneRun}
use Rattle.afdx_network.specs.Inner.Sites.{end_at}
use Rattle.afdx_network.proofs.Earlier.{early, all_early, below_early, same_delayed, same_out}
use Rattle.afdx_network.proofs.Found.{all_at, of_all, one_port, contains_head, contains_tail}
use Rattle.afdx_network.proofs.Lists.{all_unmap, all_weaken}
use Rattle.afdx_network.proofs.OpenEnds.{Ascend, kept_rise}
use Rattle.afdx_network.proofs.ReadAgain.{Reading, read_again, comes_again}
use Rattle.afdx_network.proofs.Rows.{wire_goes_there}
use Rattle.afdx_network.proofs.Texts.{NumbersRise, numbers_rise, read_at}

-- ---- lists

-- what is in what a map makes of a list is made of an element
made_of : {X Y : Type 0} (f : X → Y) (xs : List X) (y : Y) → Contains (map f xs) y → (x : X) × Contains xs x × (f x ≡ y)
made_of {X = X} {Y = Y} f xs y has = at xs has.0 has.1 has.2 where
  at : (zs : List X) (k : ℕ) → k < length (map f zs) → get_or (map f zs) k y ≡ y → (x : X) × Contains zs x × (f x ≡ y)
  at [] k lt is = absurd (omega (arith, lt))
  at (x ∷ zs) zero lt is = (x, contains_head zs x x refl, is)
  at (x ∷ zs) (suc k) lt is = let rest = at zs k (omega (arith, lt)) is in (rest.0, contains_tail zs rest.0 x rest.1, rest.2)

same_lists : {X : Type 0} (xs ys : List X) → length xs ≡ length ys → ((k : ℕ) (x y : X) → slice_get xs k ≡ Some x → slice_get ys k ≡ Some y → x ≡ y) → xs ≡ ys
same_lists [] [] long each = refl
same_lists [] (y ∷ ys) long each = absurd (omega (arith, long))
same_lists (x ∷ xs) [] long each = absurd (omega (arith, long))
same_lists {X = X} (x ∷ xs) (y ∷ ys) long each =
    ap (λ (z : X). z ∷ xs) (each 0 x y refl refl) ∙ ap (λ (zs : List X). y ∷ zs) (same_lists xs ys (omega (arith, long)) (λ k v w one other. each (suc k) v w one other))

-- ---- texts by rising number

rises_so : (texts : List Text) → Ascend (map (λ (text : Text). text.0) texts) → NumbersRise texts
rises_so [] rise = tt
rises_so (text ∷ texts) rise = (all_unmap (λ n. text.0 < n) (λ (other : Text). other.0) texts rise.0, rises_so texts rise.1)

-- there is one for each number
one_text : (port : ℕ) (one other : List ℕ) (texts : List Text) → NumbersRise texts → Contains texts (port, one) → Contains texts (port, other) → one ≡ other
one_text port one other texts rise has there = at texts rise has.0 there.0 has.1 there.1 has.2 there.2 where
  at : (ts : List Text) → NumbersRise ts → (j k : ℕ) → j < length ts → k < length ts → get_or ts j (port, one) ≡ (port, one) → get_or ts k (port, other) ≡ (port, other) → one ≡ other
  at [] rises j k lt less is same = absurd (omega (arith, lt))
  at (text ∷ ts) rises zero zero lt less is same = ap (λ (x : Text). x.1) (sym is ∙ same)
  at (text ∷ ts) rises zero (suc k) lt less is same =
      let above : text.0 < port = of_all (λ (x : Text). text.0 < x.0) ts (port, other) rises.0 (k, omega (arith, less), same) in
      let here : text.0 ≡ port = ap (λ (x : Text). x.0) is in
      absurd (omega (arith, above, here))
  at (text ∷ ts) rises (suc j) zero lt less is same =
      let above : text.0 < port = of_all (λ (x : Text). text.0 < x.0) ts (port, one) rises.0 (j, omega (arith, lt), is) in
      let here : text.0 ≡ port = ap (λ (x : Text). x.0) same in
      absurd (omega (arith, above, here))
  at (text ∷ ts) rises (suc j) (suc k) lt less is same = at ts rises.1 j k (omega (arith, lt)) (omega (arith, less)) is same

-- ---- the switch at a place

record OutcomeAt (tables : List Content) (came : List (List Text)) (left : List Results) (n : ℕ) : Type 0 where
  pub table : Content
  pub texts : List Text
  pub results : Results
  pub table_is : slice_get tables n ≡ Some table
  pub texts_is : slice_get came n ≡ Some texts
  pub left_is : slice_get left n ≡ Some results
  pub outcome : IsOutcome table texts results

outcome_at : (tables : List Content) (came : List (List Text)) (left : List Results) → AreOutcomes tables came left → (n : ℕ) → n < length tables → OutcomeAt tables came left n
outcome_at [] [] [] are n lt = absurd (omega (arith, lt))
outcome_at [] [] (r ∷ left) are n lt = absurd are
outcome_at [] (texts ∷ came) left are n lt = absurd are
outcome_at (t ∷ tables) [] left are n lt = absurd are
outcome_at (t ∷ tables) (texts ∷ came) [] are n lt = absurd are
outcome_at (t ∷ tables) (texts ∷ came) (r ∷ left) are zero lt =
    record { table = t; texts = texts; results = r; table_is = refl; texts_is = refl; left_is = refl; outcome = are.0 }
outcome_at (t ∷ tables) (texts ∷ came) (r ∷ left) are (suc n) lt =
    let rest = outcome_at tables came left are.1 n (omega (arith, lt)) in
    record { table = rest.table; texts = rest.texts; results = rest.results; table_is = rest.table_is; texts_is = rest.texts_is; left_is = rest.left_is; outcome = rest.outcome }

as_many : (tables : List Content) (came : List (List Text)) (left : List Results) → AreOutcomes tables came left → (length came ≡ length tables) × (length left ≡ length tables)
as_many [] [] [] are = (refl, refl)
as_many [] [] (r ∷ left) are = absurd are
as_many [] (texts ∷ came) left are = absurd are
as_many (t ∷ tables) [] left are = absurd are
as_many (t ∷ tables) (texts ∷ came) [] are = absurd are
as_many (t ∷ tables) (texts ∷ came) (r ∷ left) are = let rest = as_many tables came left are.1 in (ap suc rest.0, ap suc rest.1)

-- ---- what comes over a wire

-- the switch and the port at which a wire begins: what came over it is what left there, so much later
record Over (tables : List Content) (came : List (List Text)) (left : List Results) (w : Wire) (bytes : List ℕ) (rs : List Record) : Type 0 where
  pub at : OutcomeAt tables came left w.from.switch
  pub port : PortRow
  pub has : Contains at.table.ports port
  pub number : port.id ≡ w.from.port
  pub records_are : rs ≡ map (delayed w.delay) (output_of at.table (merged at.outcome.read) port)
  pub bytes_are : bytes ≡ capture_text rs

-- the laws that this rests on
pub record Base : Type 0 where
  pub reading : Reading
  pub one_list : (bytes : List ℕ) (rs qs : List Record) → IsCapture bytes rs → IsCapture bytes qs → rs ≡ qs
  pub later : LaterArrivalsChangeNothing
  pub cut : MergesAreCut
  pub on : OutGoesOn
  pub leaves : NothingLeavesBefore

module _ (g : Base) (net : Network) (given : Given) (of_file : IsOfFile net) (came : List (List Text)) (left : List Results) (run : IsUncheckedRunOf net given came left) where
  -- it left as this port's output
  left_there : (w : Wire) (at : OutcomeAt net.tables came left w.from.switch) (bytes : List ℕ) (rs : List Record) → Contains at.results.captures (w.from.port, bytes) → IsCapture bytes rs
      → (p : PortRow) × Contains at.table.ports p × (p.id ≡ w.from.port) × (rs ≡ output_of at.table (merged at.outcome.read) p)
  left_there w at bytes rs written read =
      let known : Contains (outputs at.table (merged at.outcome.read)) (w.from.port, bytes)
      = subst (λ (texts : List Text). Contains texts (w.from.port, bytes)) at.outcome.captures written in
      let p = made_of (λ (q : PortRow). (q.id, output_text at.table (merged at.outcome.read) q)) at.table.ports (w.from.port, bytes) known in
      let text : output_text at.table (merged at.outcome.read) p.0 ≡ bytes = ap (λ (x : Text). x.1) p.2 in (
        p.0,
        p.1,
        ap (λ (x : Text). x.0) p.2,
        read_again g.reading at.table at.texts at.outcome.read p.0 (all_at IsWellFormed net.tables w.from.switch at.table of_file.well_formed at.table_is) at.outcome.are_read p.1 rs
            (subst (λ (bs : List ℕ). IsCapture bs rs) (sym text) read),
      )

  comes_over : (w : Wire) → Contains net.layout.wires w → Brings left came w → (texts : List Text) → slice_get came w.to.switch ≡ Some texts → NumbersRise texts
      → (bytes : List ℕ) → Contains texts (w.to.port, bytes) → (rs : List Record) → IsCapture bytes rs → Over net.tables came left w bytes rs
  comes_over w among b texts is rise bytes has rs read =
      let many = as_many net.tables came left run.outcomes in
      let within = slice_get_within left w.from.switch b.here b.here_is in
      let long = many.1 in
      let at = outcome_at net.tables came left run.outcomes w.from.switch (omega (arith, within, long)) in
      let here : b.here ≡ at.results = same_Some b.here at.results (sym b.here_is ∙ at.left_is) in
      let start = left_there w at b.bytes b.records (subst (λ (r : Results). Contains r.captures (w.from.port, b.bytes)) here b.written) b.read in
      let there : b.there ≡ texts = same_Some b.there texts (sym b.there_is ∙ is) in
      let late = map (delayed w.delay) b.records in
      let text : bytes ≡ capture_text late
      = one_text w.to.port bytes (capture_text late) texts rise has (subst (λ (ts : List Text). Contains ts (w.to.port, capture_text late)) there b.comes) in
      let again : rs ≡ late
      = comes_again g.reading.back w.delay (of_all_wires w among) b.bytes b.records rs b.read (subst (λ (bs : List ℕ). IsCapture bs rs) text read) in
      record {
        at = at;
        port = start.0;
        has = start.1;
        number = start.2;
        records_are = again ∙ ap (map (delayed w.delay)) start.3;
        bytes_are = text ∙ ap capture_text (sym again);
      } where
        of_all_wires : (v : Wire) → Contains net.layout.wires v → v.delay ≤ 1000000
        of_all_wires v here = subst (λ (u : Wire). u.delay ≤ 1000000) here.2 (of_file.delays here.0 v here.1)

-- ---- two runs

-- the same came in before an instant at each switch
abbrev AreSame : (tables : List Content) (came came' : List (List Text)) (left left' : List Results) (h : ℕ) → Type 0
AreSame tables came came' left left' h = (n : ℕ) (here : OutcomeAt tables came left n) (there : OutcomeAt tables came' left' n)
    → below h (arrivals_of here.outcome.read) ≡ below h (arrivals_of there.outcome.read)

-- two texts are those of their records, and these are the same before an instant if all that came in more than a line time earlier is
record AreAlike (Same : ℕ → Type 0) (bytes bytes' : List ℕ) (rs rs' : List Record) : Type 0 where
  pub here : bytes ≡ capture_text rs
  pub there : bytes' ≡ capture_text rs'
  pub records : (h : ℕ) → Same h → early (suc h) rs ≡ early (suc h) rs'

nothing_below : (xs : List Arrival) → below 0 xs ≡ []
nothing_below [] = refl
nothing_below (a ∷ xs) = rw (le-leb 0 a.frame.stamp (omega arith)) (nothing_below xs)

-- what is the same at each port is the same of all
all_ports : (h : ℕ) (texts others : List Text) (read more : List Capture) → map (λ (text : Text). text.0) texts ≡ map (λ (text : Text). text.0) others
    → AreCaptures texts read → AreCaptures others more
    → ((port : ℕ) (bytes bytes' : List ℕ) (rs rs' : List Record) → Contains texts (port, bytes) → Contains others (port, bytes') → IsCapture bytes rs → IsCapture bytes' rs'
    → early h rs ≡ early h rs')
    → below h (arrivals_of read) ≡ below h (arrivals_of more)
all_ports h [] [] [] [] same are are' each = refl
all_ports h [] [] [] (d ∷ more) same are are' each = absurd are'
all_ports h [] [] (c ∷ read) more same are are' each = absurd are
all_ports h [] (y ∷ others) read more same are are' each = absurd cc
all_ports h (x ∷ texts) [] read more same are are' each = absurd cc
all_ports h (x ∷ texts) (y ∷ others) [] more same are are' each = absurd are
all_ports h (x ∷ texts) (y ∷ others) (c ∷ read) [] same are are' each = absurd are'
all_ports h (x ∷ texts) (y ∷ others) (c ∷ read) (d ∷ more) same are are' each =
    below-append h (arrived c.port c.records) (arrivals_of read)
    ∙ ap (λ (first : List Arrival). first ++ below h (arrivals_of read)) first
    ∙ ap (λ (rest : List Arrival). below h (arrived d.port d.records) ++ rest)
    (all_ports h texts others read more tails are.2 are'.2
    (λ port bytes bytes' rs rs' has has'. each port bytes bytes' rs rs' (contains_tail texts (port, bytes) x has) (contains_tail others (port, bytes') y has')))
    ∙ sym (below-append h (arrived d.port d.records) (arrivals_of more)) where
      number : x.0 ≡ y.0
      number = cc

      tails : map (λ (text : Text). text.0) texts ≡ map (λ (text : Text). text.0) others
      tails = cc

      first : below h (arrived c.port c.records) ≡ below h (arrived d.port d.records)
      first =
          below_early h c.port c.records
          ∙ ap (arrived c.port)
          (each x.0 x.1 y.1 c.records d.records (contains_head texts x x refl) (contains_head others (x.0, y.1) y (ap (λ n. (n, y.1)) (sym number))) are.1 are'.1)
          ∙ ap (λ n. arrived n (early h d.records)) (are.0 ∙ number ∙ sym are'.0)
          ∙ sym (below_early h d.port d.records)

same_texts : (texts others : List Text) → map (λ (text : Text). text.0) texts ≡ map (λ (text : Text). text.0) others
    → ((port : ℕ) (bytes bytes' : List ℕ) → Contains texts (port, bytes) → Contains others (port, bytes') → bytes ≡ bytes') → texts ≡ others
same_texts [] [] same each = refl
same_texts [] (y ∷ others) same each = absurd cc
same_texts (x ∷ texts) [] same each = absurd cc
same_texts (x ∷ texts) (y ∷ others) same each =
    ap (λ n. (n, x.1) ∷ texts) number
    ∙ ap (λ (bytes : List ℕ). (y.0, bytes) ∷ texts) (each x.0 x.1 y.1 (contains_head texts x x refl) (contains_head others (x.0, y.1) y (ap (λ n. (n, y.1)) (sym number))))
    ∙ ap (λ (rest : List Text). y ∷ rest)
    (same_texts texts others tails (λ port bytes bytes' has has'. each port bytes bytes' (contains_tail texts (port, bytes) x has) (contains_tail others (port, bytes') y has'))) where
      number : x.0 ≡ y.0
      number = cc

      tails : map (λ (text : Text). text.0) texts ≡ map (λ (text : Text). text.0) others
      tails = cc

one_reading : ((bytes : List ℕ) (rs qs : List Record) → IsCapture bytes rs → IsCapture bytes qs → rs ≡ qs) → (texts : List Text) (read more : List Capture)
    → AreCaptures texts read → AreCaptures texts more → read ≡ more
one_reading one [] [] [] are are' = refl
one_reading one [] [] (d ∷ more) are are' = absurd are'
one_reading one [] (c ∷ read) more are are' = absurd are
one_reading one (x ∷ texts) [] more are are' = absurd are
one_reading one (x ∷ texts) (c ∷ read) [] are are' = absurd are'
one_reading one (x ∷ texts) (c ∷ read) (d ∷ more) are are' =
    ap (λ n. capture n c.records ∷ read) (are.0 ∙ sym are'.0) ∙ ap (λ (rs : List Record). capture d.port rs ∷ read) (one x.1 c.records d.records are.1 are'.1)
    ∙ ap (λ (rest : List Capture). d ∷ rest) (one_reading one texts read more are.2 are'.2) where
      capture : ℕ → List Record → Capture
      capture port records = record { port = port; records = records }

module _ (g : Base) (net : Network) (given : Given) (of_file : IsOfFile net) (are_given : AreGiven net given) (came came' : List (List Text)) (left left' : List Results)
    (run : IsUncheckedRunOf net given came left) (run' : IsUncheckedRunOf net given came' left') where
  abbrev Same : ℕ → Type 0
  Same h = AreSame net.tables came came' left left' h

  one_table : (n : ℕ) (here : OutcomeAt net.tables came left n) (there : OutcomeAt net.tables came' left' n) → here.table ≡ there.table
  one_table n here there = same_Some here.table there.table (sym here.table_is ∙ there.table_is)

  formed_at : (n : ℕ) (t : Content) → slice_get net.tables n ≡ Some t → IsWellFormed t
  formed_at n t is = all_at IsWellFormed net.tables n t of_file.well_formed is

  -- ---- a port of a switch, in both runs

  module _ (n : ℕ) (here : OutcomeAt net.tables came left n) (there : OutcomeAt net.tables came' left' n) where
    numbers : map (λ (text : Text). text.0) here.texts ≡ map (λ (text : Text). text.0) there.texts
    numbers = here.outcome.ports ∙ ap (λ (t : Content). map (λ (p : PortRow). p.id) t.ports) (one_table n here there) ∙ sym there.outcome.ports

    rise : NumbersRise here.texts
    rise = numbers_rise here.table here.texts (formed_at n here.table here.table_is) here.outcome.ports

    rise' : NumbersRise there.texts
    rise' = numbers_rise there.table there.texts (formed_at n there.table there.table_is) there.outcome.ports

    module _ (port : ℕ) (bytes bytes' : List ℕ) (rs rs' : List Record) (has : Contains here.texts (port, bytes)) (has' : Contains there.texts (port, bytes'))
        (read : IsCapture bytes rs) (read' : IsCapture bytes' rs') where
      -- what was given for it is the same
      both_given : wire_to net (end_at n port) ≡ None → bytes ≡ bytes'
      both_given none =
          let one = run.fed.others (end_at n port) here.texts (port, bytes) none here.texts_is refl has in
          let other = run'.fed.others (end_at n port) there.texts (port, bytes') none there.texts_is refl has' in
          let own = are_given.each n (slice_get_within net.tables n here.table here.table_is) in
          let rises = rises_so own.texts (subst Ascend (sym own.of_open) (kept_rise (is_open net n) own.table.ports (formed_at n own.table own.table_is).ports_rise)) in
          one_text port bytes bytes' own.texts rises
          (subst (λ (ts : List Text). Contains ts (port, bytes)) (same_Some one.texts own.texts (sym one.texts_is ∙ own.texts_is)) one.has)
          (subst (λ (ts : List Text). Contains ts (port, bytes')) (same_Some other.texts own.texts (sym other.texts_is ∙ own.texts_is)) other.has)

      -- nothing comes over a wire that is down
      both_down : (w : Wire) → w.to ≡ end_at n port → Contains net.layout.wires w → w.down ≡ true → bytes ≡ bytes'
      both_down w to among down =
          let one = run.fed.down w among down in
          let other = run'.fed.down w among down in
          let texts : one.there ≡ here.texts = same_Some one.there here.texts (sym one.there_is ∙ ap (λ (e : End). slice_get came e.switch) to ∙ here.texts_is) in
          let texts' : other.there ≡ there.texts = same_Some other.there there.texts (sym other.there_is ∙ ap (λ (e : End). slice_get came' e.switch) to ∙ there.texts_is) in
          let number : w.to.port ≡ port = ap (λ (e : End). e.port) to in
          one_text port bytes (capture_text []) here.texts rise has
          (subst (λ m. Contains here.texts (m, capture_text [])) number (subst (λ (ts : List Text). Contains ts (w.to.port, capture_text [])) texts one.comes))
          ∙ sym (one_text port bytes' (capture_text []) there.texts rise' has'
          (subst (λ m. Contains there.texts (m, capture_text [])) number (subst (λ (ts : List Text). Contains ts (w.to.port, capture_text [])) texts' other.comes)))

      -- over one that is not there comes what left at its start
      both_over : (w : Wire) → Over net.tables came left w bytes rs → Over net.tables came' left' w bytes' rs' → AreAlike Same bytes bytes' rs rs'
      both_over w one other = record {
        here = one.bytes_are;
        there = other.bytes_are;
        records = λ h same.
            let out : List Capture → List Record = λ captures. output_of one.at.table (merged captures) one.port in
            ap (early (suc h)) one.records_are
            ∙ same_delayed (suc h) w.delay (out one.at.outcome.read) (out other.at.outcome.read)
            (same_out g.later g.cut g.on g.leaves one.at.table one.port one.at.outcome.read other.at.outcome.read h (same w.from.switch one.at other.at))
            ∙ ap (λ (p : PortRow). early (suc h) (map (delayed w.delay) (output_of one.at.table (merged other.at.outcome.read) p))) port_is
            ∙ ap (λ (t : Content). early (suc h) (map (delayed w.delay) (output_of t (merged other.at.outcome.read) other.port))) table
            ∙ ap (early (suc h)) (sym other.records_are);
      } where
        table : one.at.table ≡ other.at.table
        table = one_table w.from.switch one.at other.at

        port_is : one.port ≡ other.port
        port_is =
            one_port one.at.table one.port other.port (formed_at w.from.switch one.at.table one.at.table_is) one.has
            (subst (λ (t : Content). Contains t.ports other.port) (sym table) other.has) (one.number ∙ sym other.number)

      alike : (bytes ≡ bytes') ⊎ AreAlike Same bytes bytes' rs rs'
      alike = by (wire_to net (end_at n port)) refl where
        by : (o : Option Wire) → wire_to net (end_at n port) ≡ o → (bytes ≡ bytes') ⊎ AreAlike Same bytes bytes' rs rs'
        by None none = inl (both_given none)
        by (Some w) some = at w.down refl where
          to : w.to ≡ end_at n port
          to = (wire_goes_there net (end_at n port) w some).0

          among : Contains net.layout.wires w
          among = (wire_goes_there net (end_at n port) w some).1

          number : port ≡ w.to.port
          number = ap (λ (e : End). e.port) (sym to)

          at : (b : Bool) → w.down ≡ b → (bytes ≡ bytes') ⊎ AreAlike Same bytes bytes' rs rs'
          at true down = inl (both_down w to among down)
          at false up =
              inr (both_over w
              (comes_over g net given of_file came left run w among (run.fed.wires w among up) here.texts (ap (λ (e : End). slice_get came e.switch) to ∙ here.texts_is) rise bytes
              (subst (λ m. Contains here.texts (m, bytes)) number has) rs read)
              (comes_over g net given of_file came' left' run' w among (run'.fed.wires w among up) there.texts (ap (λ (e : End). slice_get came' e.switch) to ∙ there.texts_is) rise' bytes'
              (subst (λ m. Contains there.texts (m, bytes')) number has') rs' read'))

      -- the records of one text are one list
      one_list : bytes ≡ bytes' → rs ≡ rs'
      one_list same = g.one_list bytes' rs rs' (subst (λ (bs : List ℕ). IsCapture bs rs) same read) read'

      next : (h : ℕ) → Same h → early (suc h) rs ≡ early (suc h) rs'
      next h same = by alike where
        by : (bytes ≡ bytes') ⊎ AreAlike Same bytes bytes' rs rs' → early (suc h) rs ≡ early (suc h) rs'
        by (inl one) = ap (early (suc h)) (one_list one)
        by (inr are) = are.records h same

      in_the_end : Same last_second → bytes ≡ bytes'
      in_the_end same = by alike where
        whole : (qs : List Record) → AllByRecursion (λ (r : Record). r.stamp < last_second) qs → early (suc last_second) qs ≡ qs
        whole qs all = all_early (suc last_second) qs (all_weaken (λ (r : Record). r.stamp < last_second) (λ (r : Record). r.stamp < suc last_second) qs (λ r lt. omega (arith, lt)) all)

        by : (bytes ≡ bytes') ⊎ AreAlike Same bytes bytes' rs rs' → bytes ≡ bytes'
        by (inl one) = one
        by (inr are) =
            let records : rs ≡ rs' = sym (whole rs (capture_early bytes rs read)) ∙ are.records last_second same ∙ whole rs' (capture_early bytes' rs' read') in
            are.here ∙ ap capture_text records ∙ sym are.there

  -- ---- by induction on the instant

  all_same : (h : ℕ) → Same h
  all_same zero n here there = nothing_below (arrivals_of here.outcome.read) ∙ sym (nothing_below (arrivals_of there.outcome.read))
  all_same (suc h) n here there =
      all_ports (suc h) here.texts there.texts here.outcome.read there.outcome.read (numbers n here there) here.outcome.are_read there.outcome.are_read
      (λ port bytes bytes' rs rs' has has' read read'. next n here there port bytes bytes' rs rs' has has' read read' h (all_same h))

  texts_same : (n : ℕ) (here : OutcomeAt net.tables came left n) (there : OutcomeAt net.tables came' left' n) → here.texts ≡ there.texts
  texts_same n here there =
      same_texts here.texts there.texts (numbers n here there) (λ port bytes bytes' has has'.
      let one = read_at here.texts here.outcome.read port bytes here.outcome.are_read (rise n here there) has in
      let other = read_at there.texts there.outcome.read port bytes' there.outcome.are_read (rise' n here there) has' in
      in_the_end n here there port bytes bytes' one.records other.records has has' one.capture other.capture (all_same last_second))

  results_same : (n : ℕ) (here : OutcomeAt net.tables came left n) (there : OutcomeAt net.tables came' left' n) → here.results ≡ there.results
  results_same n here there = ap (λ (captures : List Text). made captures here.results.counts) captures ∙ ap (made there.results.captures) counts where
    made : List Text → Tally → Results
    made captures counts = record { captures = captures; counts = counts }

    read : here.outcome.read ≡ there.outcome.read
    read =
        one_reading g.one_list there.texts here.outcome.read there.outcome.read (subst (λ (ts : List Text). AreCaptures ts here.outcome.read) (texts_same n here there) here.outcome.are_read)
        there.outcome.are_read

    table : here.table ≡ there.table
    table = one_table n here there

    captures : here.results.captures ≡ there.results.captures
    captures =
        here.outcome.captures ∙ ap (λ (r : List Capture). outputs here.table (merged r)) read ∙ ap (λ (t : Content). outputs t (merged there.outcome.read)) table
        ∙ sym there.outcome.captures

    counts : here.results.counts ≡ there.results.counts
    counts =
        here.outcome.counts ∙ ap (λ (r : List Capture). counts_of here.table (rows_of here.table (merged r))) read
        ∙ ap (λ (t : Content). counts_of t (rows_of t (merged there.outcome.read))) table ∙ sym there.outcome.counts

  pub one_run : (came ≡ came') × (left ≡ left')
  one_run = (
    same_lists came came' (many.0 ∙ sym many'.0) (λ n texts texts' is is'.
        let lt = place n came texts many.0 is in
        let a = here n lt in
        let b = there n lt in
        same_Some texts a.texts (sym is ∙ a.texts_is) ∙ texts_same n a b ∙ same_Some b.texts texts' (sym b.texts_is ∙ is')),
    same_lists left left' (many.1 ∙ sym many'.1) (λ n r r' is is'.
        let lt = place n left r many.1 is in
        let a = here n lt in
        let b = there n lt in
        same_Some r a.results (sym is ∙ a.left_is) ∙ results_same n a b ∙ same_Some b.results r' (sym b.left_is ∙ is')),
  ) where
    many : (length came ≡ length net.tables) × (length left ≡ length net.tables)
    many = as_many net.tables came left run.outcomes

    many' : (length came' ≡ length net.tables) × (length left' ≡ length net.tables)
    many' = as_many net.tables came' left' run'.outcomes

    place : {X : Type 0} (n : ℕ) (xs : List X) (x : X) → length xs ≡ length net.tables → slice_get xs n ≡ Some x → n < length net.tables
    place n xs x long is = let within = slice_get_within xs n x is in omega (arith, within, long)

    here : (n : ℕ) → n < length net.tables → OutcomeAt net.tables came left n
    here n lt = outcome_at net.tables came left run.outcomes n lt

    there : (n : ℕ) → n < length net.tables → OutcomeAt net.tables came' left' n
    there n lt = outcome_at net.tables came' left' run'.outcomes n lt

pub given_has_one_run : Base → GivenHasOneRun
given_has_one_run g net given came came' left left' of_file are_given run run' = one_run g net given of_file are_given came came' left left' run run'

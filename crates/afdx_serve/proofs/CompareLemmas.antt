-- What is found out of recordings, and why nothing is.
use Rattle.std.proofs.Common.{◌≡◌, ℕ, zero, suc, ◌+◌, ◌<◌, Bool, true, false, List, [], ◌∷◌, ◌++◌, map, length, take, slice_get, Option, Some, None, get_or, refl, sym, ap, subst}
use Rattle.std.proofs.Common.{◌∙◌, inl, inr, String, Global, string_bytes, arith, append_assoc, append-nil, length-append}
use Rattle.std.specs.Prelude.{◌⊎◌, Result, Ok, Err, MatchResult, IfSome, is_some, option_map, if◌then◌else◌}
use Rattle.std.proofs.lemmas.List.{length-map, take_more}
use Rattle.std.proofs.lemmas.Option.{same_Some, slice_get-map, slice_get-get_or}
use Rattle.std.proofs.lemmas.Grind.{flat_map-append}
use Rattle.std.specs.Io.KnownBytes.{Keeps}
use Rattle.afdx_pcap.specs.declared.fault.PcapFault.{PcapFault}
use Rattle.afdx_table.specs.declared.rows.PortRow.{PortRow}
use Rattle.afdx_table.specs.Content.{Content}
use Rattle.afdx_load.specs.declared.fault.LoadFault.{LoadFault}
use Rattle.afdx_grouping.specs.Scatter.{AcceptedHasNoScatteredFault, first_scattered_fault}
use Rattle.afdx_merging.specs.Read.{AreRead}
use Rattle.afdx_recordings.specs.declared.recordings.Recordings.{Recordings}
use Rattle.afdx_recordings.specs.declared.outputs.Outputs.{Outputs}
use Rattle.afdx_recordings.specs.Recordings.{is_recorded}
use Rattle.afdx_compare.specs.Comparison.{Comparison}
use Rattle.afdx_compare.specs.Sources.{sources_of, output_clock, output_clocks, input_clock}
use Rattle.afdx_compare.specs.Found.{IsFound, IsFirstAt}
use Rattle.afdx_folder.specs.Files.{Files, ShowsAll, IsOpened, KeepsFiles, PutsFiles, DeviceLog, settled_after}
use Rattle.afdx_folder.specs.Input.{AreGiven}
use Rattle.afdx_arguments.specs.declared.request.Compare.{Compare}
use Rattle.afdx_messages.specs.declared.argument.ArgumentFault.{ArgumentFault}
use Rattle.afdx_messages.specs.declared.argument.ArgumentFault.TheVariants.{Span}
use Rattle.afdx_compare.specs.declared.findings.Findings.{Findings}
use Rattle.afdx_messages.specs.declared.failure.Failure.{Failure}
use Rattle.afdx_messages.specs.declared.failure.Failure.TheVariants as failure
use Rattle.afdx_serve.specs.Runs.{capture_name, HasTable, GetsNamed, WasNotRead, FailsToRead, FailsToPut}
use Rattle.afdx_serve.specs.Fits.{first_argument_fault}
use Rattle.afdx_serve.specs.Compares.{scatter_of, HasFittingTable, HasVaryingTable, HasFaultyTable, HasUnfitTable, output_names, recording_names, IsFoundUnder, is_over, IsFoundIn}
use Rattle.afdx_serve.specs.Compares.{rows_names, rows_texts, PutsRows, FailsToGetFitting, FailsToGetVarying, IsOver, IsFaultyUnder, FailsUnder, FailsToFind, StopsRows, EndsRows}
use Rattle.afdx_serve.specs.Inner.Leading.{AreOpened}
use Rattle.afdx_serve.specs.Inner.NotGot.{FailsToReadOn, FailsToGetNamed, FailsToReadNamed}
use Rattle.afdx_csv.specs.declared.form.Form.{Form}
use Rattle.afdx_serve.specs.Serving.{world, FailsToCompareAll}
use Rattle.afdx_serve.proofs.CaptureLemmas.{StopsAt-before, EndsAt-before}
use Rattle.afdx_serve.proofs.FileLemmas.{KeepsFiles-trans, PutsFiles-before, ShowsAll-before}
use Rattle.afdx_serve.proofs.FitLemmas.{options_fit}
use Rattle.afdx_serve.proofs.GivenLemmas.{GetsNamed-before, not_read_named, not_opened_named}
use Rattle.afdx_serve.proofs.LeadLemmas.{opened_shown}

-- ---- names, and readers

-- a port that was not recorded has no name, and another one has one
module _ (path : List ℕ) (recorded : Outputs) (p : PortRow) (old : List (List ℕ)) where
  named : (b : Bool) → is_recorded recorded p.id ≡ b → output_names path recorded (p ∷ []) ≡ (if b then capture_name path p.id ∷ [] else [])
  named b is = ap (λ (x : Bool). (if x then capture_name path p.id ∷ [] else []) ++ []) is ∙ append-nil (if b then capture_name path p.id ∷ [] else [])

  pub no_output : is_recorded recorded p.id ≡ false → old ≡ old ++ output_names path recorded (p ∷ [])
  no_output is = sym (append-nil old) ∙ ap (λ (ns : List (List ℕ)). old ++ ns) (sym (named false is))

  pub one_output : (name : List ℕ) (new : List (List ℕ)) → is_recorded recorded p.id ≡ true → name ≡ capture_name path p.id → new ≡ old ++ name ∷ []
      → new ≡ old ++ output_names path recorded (p ∷ [])
  one_output name new is same grown = grown ∙ ap (λ (n : List ℕ). old ++ n ∷ []) same ∙ ap (λ (ns : List (List ℕ)). old ++ ns) (sym (named true is))

-- the names of one more port
pub more_outputs : (path : List ℕ) (recorded : Outputs) (ports : List PortRow) (i : ℕ) (d : PortRow) (before old new : List (List ℕ)) → i < length ports
    → old ≡ before ++ output_names path recorded (take i ports) → new ≡ old ++ output_names path recorded (get_or ports i d ∷ [])
    → new ≡ before ++ output_names path recorded (take (i + 1) ports)
more_outputs path recorded ports i d before old new lt so_far grown =
    let names : PortRow → List (List ℕ) = λ p. if is_recorded recorded p.id then capture_name path p.id ∷ [] else [] in
    let more : output_names path recorded (take (i + 1) ports) ≡ output_names path recorded (take i ports) ++ output_names path recorded (get_or ports i d ∷ []) =
    ap (output_names path recorded) (take_more ports i d lt) ∙ flat_map-append names (take i ports) (get_or ports i d ∷ []) in
    grown ∙ ap (λ (ns : List (List ℕ)). ns ++ output_names path recorded (get_or ports i d ∷ [])) so_far
    ∙ append_assoc before (output_names path recorded (take i ports)) (output_names path recorded (get_or ports i d ∷ []))
    ∙ ap (λ (ns : List (List ℕ)). before ++ ns) (sym more)

-- one more of each, or none
one_or_none : {X Y : Type 0} (x : X) (y : Y) (xs : List X) (ys : List Y) (b : Bool) → length xs ≡ length ys
    → length ((if b then x ∷ [] else []) ++ xs) ≡ length ((if b then y ∷ [] else []) ++ ys)
one_or_none x y xs ys true same = ap suc same
one_or_none x y xs ys false same = same

-- there are as many names as clocks
as_many_outputs : (path : List ℕ) (r : Recordings) (ports : List PortRow) → length (output_names path r.outputs ports) ≡ length (output_clocks r ports)
as_many_outputs path r [] = refl
as_many_outputs path r (p ∷ ps) =
    one_or_none (capture_name path p.id) (output_clock r p) (output_names path r.outputs ps) (output_clocks r ps) (is_recorded r.outputs p.id) (as_many_outputs path r ps)

pub as_many_clocks : (c : Compare) (r : Recordings) (t : Content) → length (recording_names c r t) ≡ length (sources_of t r).clocks
as_many_clocks c r t =
    length-append (map (λ (p : PortRow). capture_name c.input.now p.id) t.ports) (output_names c.output.now r.outputs t.ports)
    ∙ ap (λ (n : ℕ). n + length (output_names c.output.now r.outputs t.ports))
    (length-map t.ports (λ (p : PortRow). capture_name c.input.now p.id) ∙ sym (length-map t.ports (λ (p : PortRow). input_clock)))
    ∙ ap (λ (n : ℕ). length (map (λ (p : PortRow). input_clock) t.ports) + n) (as_many_outputs c.output.now r t.ports)
    ∙ sym (length-append (map (λ (p : PortRow). input_clock) t.ports) (output_clocks r t.ports))

-- ---- what readers of files give

abbrev whole : List ℕ → Option (List ℕ)
whole text = Some text

-- texts are read where readers give exactly them
read_whole : (texts : List (List ℕ)) → AreRead whole texts texts
read_whole texts = record {
  many = refl;
  each = λ place r text is_reader is_text. sym (same_Some r text (sym is_reader ∙ is_text));
}

module _ {R : Type 0} (remaining : R → Option (List ℕ)) (f : Files) where
  given_bytes : (name bytes : List ℕ) (reader : R) → IsOpened (Some f) name (remaining reader) → AreGiven (remaining reader) bytes → f name ≡ Some bytes
  given_bytes name bytes reader opened given =
      let same : bytes ≡ opened.0 = subst (λ (o : Option (List ℕ)). IfSome o (λ all. bytes ≡ all)) opened.2 given in
      opened.1 ∙ ap (λ (b : List ℕ). Some b) (sym same)

  shown : (names : List (List ℕ)) (readers : List R) (texts : List (List ℕ)) → length readers ≡ length names → length texts ≡ length readers
      → ((place : ℕ) (reader : R) (name : List ℕ) → slice_get readers place ≡ Some reader → slice_get names place ≡ Some name → IsOpened (Some f) name (remaining reader))
      → ((place : ℕ) (reader : R) (text : List ℕ) → slice_get readers place ≡ Some reader → slice_get texts place ≡ Some text → AreGiven (remaining reader) text)
      → map f names ≡ map (λ (bytes : List ℕ). Some bytes) texts
  shown [] [] [] many as_many opened given = refl
  shown [] [] (t ∷ texts) many as_many opened given = absurd cc
  shown [] (r ∷ readers) texts many as_many opened given = absurd cc
  shown (n ∷ names) [] texts many as_many opened given = absurd cc
  shown (n ∷ names) (r ∷ readers) [] many as_many opened given = absurd cc
  shown (n ∷ names) (r ∷ readers) (t ∷ texts) many as_many opened given =
      let fewer : length readers ≡ length names = cc in
      let fewer_texts : length texts ≡ length readers = cc in
      ap (λ (o : Option (List ℕ)). o ∷ map f names) (given_bytes n t r (opened zero r n refl refl) (given zero r t refl refl))
      ∙ ap (λ (os : List (Option (List ℕ))). Some t ∷ os) (shown names readers texts fewer fewer_texts (λ place. opened (suc place)) (λ place. given (suc place)))

all_shown : {R : Type 0} (remaining : R → Option (List ℕ)) (files : Option Files) (names : List (List ℕ)) (readers : List R) (texts : List (List ℕ)) → AreOpened remaining files names readers
    → AreRead remaining readers texts → ShowsAll files names texts
all_shown remaining None names readers texts opened read = tt
all_shown remaining (Some f) names readers texts opened read = shown remaining f names readers texts opened.many read.many opened.each read.each

-- what is found out of captures that were opened
pub found_under : {R : Type 0} (remaining : R → Option (List ℕ)) (a : Option Files) (names : List (List ℕ)) (readers : List R) (t : Content) (r : Recordings) (keeping : Bool) (from until : ℕ)
    (first last : Option ℕ) (found : Comparison) → AreOpened remaining a names readers → IsFound remaining t r keeping readers from until first last found
    → IsFoundUnder names t r keeping a from until first last found
found_under remaining a names readers t r keeping from until first last found opened is =
    let merged = is.are_merged in
    record {
      texts = merged.texts;
      shown = all_shown remaining a names readers merged.texts opened merged.read;
      is_found = record {
        arrivals = is.arrivals;
        start = is.start;
        are_merged = record { texts = merged.texts; captures = merged.captures; read = read_whole merged.texts; are = merged.are; merge = merged.merge };
        from_is = is.from_is;
        until_is = is.until_is;
        first_is = is.first_is;
        last_is = is.last_is;
        begun = is.begun;
        found_is = is.found_is;
      };
    }

-- one of them has a fault
pub faulty_under : {R : Type 0} (remaining : R → Option (List ℕ)) (files : Option Files) (names : List (List ℕ)) (readers : List R) (t : Content) (r : Recordings) (leaves : Bool) (port : ℕ)
    (why : PcapFault) → AreOpened remaining files names readers → IsFirstAt remaining (sources_of t r).captures readers leaves port why → IsFaultyUnder names t r files leaves port why
faulty_under remaining files names readers t r leaves port why opened is =
    let first = is.first in
    record {
      texts = first.texts;
      shown = all_shown remaining files names readers first.texts opened first.read;
      first = record {
        place = is.place;
        source = is.source;
        there = is.there;
        of_what = is.of_what;
        of_port = is.of_port;
        first = record { texts = first.texts; read = read_whole first.texts; here = first.here; within = first.within; before = first.before };
      };
    }

-- what was found out is answered if something is judged, and else why not
pub answered_in_span : (first : Findings Global) (names : List (List ℕ)) (t : Content) (r : Recordings) (keeping : Bool) (files : Option Files) (before after : DeviceLog)
    (result : Result (Findings Global) Failure) → first.recordings ≡ r → IsFoundUnder names t r keeping files first.from first.until first.first first.last first.comparison
    → after ≡ before → MatchResult result (λ f. (f ≡ first) × (is_over f.from f.until f.first f.last ≡ false))
    (λ f. (f ≡ failure.Argument (Span first.from first.until)) × (is_over first.from first.until first.first first.last ≡ true))
    → MatchResult result
    (λ f. ((f.recordings ≡ r) × IsFoundUnder names t r keeping files f.from f.until f.first f.last f.comparison × (is_over f.from f.until f.first f.last ≡ false)) × (after ≡ before))
    (λ f. FailsUnder f names t r files before after)
answered_in_span first names t r keeping files before after (Ok f) of_these found same h =
    let judged : is_over first.from first.until first.first first.last ≡ false = subst (λ (x : Findings Global). is_over x.from x.until x.first x.last ≡ false) h.0 h.1 in
    subst (λ (x : Findings Global). ((x.recordings ≡ r) × IsFoundUnder names t r keeping files x.from x.until x.first x.last x.comparison × (is_over x.from x.until x.first x.last ≡ false))
    × (after ≡ before)) (sym h.0)
    ((of_these, found, judged), same)
answered_in_span first names t r keeping files before after (Err f) of_these found same h =
    subst (λ (x : Failure). FailsUnder x names t r files before after) (sym h.0) ((first.from, first.until, first.first, first.last, keeping, first.comparison, found, h.1, refl), same)

-- ---- why nothing is found out

-- names were not all opened and read
not_read : (f : Failure) (names : List (List ℕ)) (t : Content) (r : Recordings) (files : Option Files) (before after : DeviceLog) → FailsToReadNamed f files names before after
    → FailsUnder f names t r files before after
not_read (failure.Get s) names t r files before after h = h
not_read failure.Memory names t r files before after h = tt
not_read f names t r files before after h = absurd h

-- they were not all opened
pub not_opened : (f : Failure) (names : List (List ℕ)) (t : Content) (r : Recordings) (files : Option Files) (before after : DeviceLog) → FailsToGetNamed f files names before after
    → FailsUnder f names t r files before after
not_opened f names t r files before after h = not_read f names t r files before after (not_opened_named f files names before after h)

-- the name at a place was opened, and could not be read
pub unread_under : (f : Failure) (names : List (List ℕ)) (t : Content) (r : Recordings) (files : Option Files) (name : List ℕ) (before after : DeviceLog) → GetsNamed name files names
    → FailsToReadOn f name before after → FailsUnder f names t r files before after
unread_under f names t r files name before after at fails = not_read f names t r files before after (not_read_named f files name names before before after refl fails at)

-- that at a place of opened names
pub unread_at : {X : Type 0} (str : X → List ℕ) {R : Type 0} (remaining : R → Option (List ℕ)) (f : Failure) (files : Option Files) (names : List X) (t : Content) (r : Recordings) (place : ℕ) (d : X)
    (readers : List R) (before after : DeviceLog) → AreOpened remaining files (map str names) readers → place < length readers → FailsToReadOn f (str (get_or names place d)) before after
    → FailsUnder f (map str names) t r files before after
unread_at str remaining f files names t r place d readers before after opened within fails =
    let got = opened_shown remaining files (map str names) readers place opened in
    let many = opened.many ∙ length-map names str in
    let lt : place < length names = omega (arith, many, within) in
    let at : GetsNamed (str (get_or names place d)) files (map str names) = record {
      place = place;
      got = got.0;
      is_there = slice_get-map str names place ∙ ap (option_map str) (slice_get-get_or names place d lt);
      earlier = got.1;
    } in
    unread_under f (map str names) t r files (str (get_or names place d)) before after at fails

faulty_before : (a b : Option Files) (names : List (List ℕ)) (t : Content) (r : Recordings) (leaves : Bool) (port : ℕ) (why : PcapFault) → KeepsFiles a b → IsFaultyUnder names t r b leaves port why
    → IsFaultyUnder names t r a leaves port why
faulty_before a b names t r leaves port why keeps is = record { texts = is.texts; shown = ShowsAll-before a b _ _ keeps is.shown; first = is.first }

over_before : (fault : ArgumentFault) (a b : Option Files) (names : List (List ℕ)) (t : Content) (r : Recordings) → KeepsFiles a b → IsOver fault names t r b → IsOver fault names t r a
over_before fault a b names t r keeps is =
    let under = is.6 in
    (is.0, is.1, is.2, is.3, is.4, is.5, record { texts = under.texts; shown = ShowsAll-before a b _ _ keeps under.shown; is_found = under.is_found }, is.7, is.8)

-- nothing was put before
under_before : (f : Failure) (names : List (List ℕ)) (t : Content) (r : Recordings) (a b : Option Files) (first before after : DeviceLog) → KeepsFiles a b → before ≡ first
    → FailsUnder f names t r b before after → FailsUnder f names t r a first after
under_before (failure.PortCapture p e) names t r a b first before after keeps same h = (faulty_before a b names t r false p e keeps h.0, h.1 ∙ same)
under_before (failure.OutputCapture p e) names t r a b first before after keeps same h = (faulty_before a b names t r true p e keeps h.0, h.1 ∙ same)
under_before (failure.Argument e) names t r a b first before after keeps same h = (over_before e a b names t r keeps h.0, h.1 ∙ same)
under_before (failure.Get s) names t r a b first before after keeps same h = (GetsNamed-before (string_bytes s) a b names keeps h.0, subst (λ (log : DeviceLog). WasNotRead (string_bytes s) log after) same h.1)
under_before failure.Memory names t r a b first before after keeps same h = tt
under_before f names t r a b first before after keeps same h = absurd h

-- ---- tables

module _ (files : Option Files) (path : List ℕ) (r : Recordings) (t : Content) (found : Option ArgumentFault) (has : HasTable files path t) (is : found ≡ first_argument_fault t r) where
  -- the options fit it
  pub is_fitting : found ≡ None → HasFittingTable files path r t
  is_fitting none = (has, options_fit t r (sym is ∙ none))

  -- one does not
  pub is_unfit : (fault : ArgumentFault) → found ≡ Some fault → HasUnfitTable files path r fault
  is_unfit fault some = (t, has, sym is ∙ some)

module _ (files : Option Files) (path : List ℕ) (r : Recordings) (t : Content) (scatter : ℕ) (found : Option LoadFault) (has : HasFittingTable files path r t) (is : scatter ≡ scatter_of t r)
    (same : found ≡ first_scattered_fault scatter t.latency t.links t.ports) where
  told : found ≡ first_scattered_fault (scatter_of t r) t.latency t.links t.ports
  told = same ∙ ap (λ (d : ℕ). first_scattered_fault d t.latency t.links t.ports) is

  -- it has no fault
  pub is_varying : AcceptedHasNoScatteredFault → found ≡ None → HasVaryingTable files path r t
  is_varying law none = (has, (law (scatter_of t r) t).1 (sym told ∙ none))

  -- it has one
  pub is_faulty : (fault : LoadFault) → found ≡ Some fault → HasFaultyTable files path r fault
  is_faulty fault some = (t, has, sym told ∙ some)

-- a table was not got
pub not_fitting : (f : Failure) (files : Option Files) (path : List ℕ) (r : Recordings) (before after : DeviceLog) → FailsToRead f files path before after
    → FailsToGetFitting f files path r before after
not_fitting (failure.Table e) files path r before after h = h
not_fitting (failure.Get s) files path r before after h = h
not_fitting failure.Memory files path r before after h = h
not_fitting f files path r before after h = absurd h

-- or the options do not fit it
pub not_varying : (f : Failure) (files : Option Files) (path : List ℕ) (r : Recordings) (before after : DeviceLog) → FailsToGetFitting f files path r before after
    → FailsToGetVarying f files path r before after
not_varying (failure.Argument e) files path r before after h = h
not_varying (failure.Table e) files path r before after h = h
not_varying (failure.Get s) files path r before after h = h
not_varying failure.Memory files path r before after h = h
not_varying f files path r before after h = absurd h

pub never_refused : (c : Compare) (r : Recordings) (files : Option Files) (before after : DeviceLog) → FailsToFind failure.Usage c r files before after → ⊥
never_refused c r files before after (inl h) = h
never_refused c r files before after (inr h) = h.2

never_found : (c : Compare) (r : Recordings) (files : Option Files) (before after : DeviceLog) → FailsToFind failure.Found c r files before after → ⊥
never_found c r files before after (inl h) = h
never_found c r files before after (inr h) = h.2

never_written : (c : Compare) (r : Recordings) (files : Option Files) (before after : DeviceLog) → FailsToFind failure.Write c r files before after → ⊥
never_written c r files before after (inl h) = h
never_written c r files before after (inr h) = h.2

never_put : (s : String Global) (c : Compare) (r : Recordings) (files : Option Files) (before after : DeviceLog) → FailsToFind (failure.Put s) c r files before after → ⊥
never_put s c r files before after (inl h) = h
never_put s c r files before after (inr h) = h.2

-- nothing was found out, put or written
pub not_found : (form : Form) (f : Failure) (c : Compare) (r : Recordings) (a b : Option Files) (first after : DeviceLog) (w v : Option (List ℕ)) → KeepsFiles a b → Keeps w v
    → FailsToFind f c r a first after → FailsToCompareAll f form c r (world w a first) (world v b after)
not_found form failure.Found c r a b first after w v keeps none h = absurd (never_found c r a first after h)
not_found form failure.Usage c r a b first after w v keeps none h = ((h, keeps), none)
not_found form (failure.Argument e) c r a b first after w v keeps none h = ((h, keeps), none)
not_found form (failure.Table e) c r a b first after w v keeps none h = ((h, keeps), none)
not_found form (failure.Load e) c r a b first after w v keeps none h = ((h, keeps), none)
not_found form (failure.Capture e) c r a b first after w v keeps none h = ((h, keeps), none)
not_found form (failure.PortCapture p e) c r a b first after w v keeps none h = ((h, keeps), none)
not_found form (failure.OutputCapture p e) c r a b first after w v keeps none h = ((h, keeps), none)
not_found form (failure.Network e) c r a b first after w v keeps none h = ((h, keeps), none)
not_found form (failure.Get s) c r a b first after w v keeps none h = ((h, keeps), none)
not_found form (failure.Put s) c r a b first after w v keeps none h = absurd (never_put s c r a first after h)
not_found form failure.Read c r a b first after w v keeps none h = ((h, keeps), none)
not_found form failure.Write c r a b first after w v keeps none h = absurd (never_written c r a first after h)
not_found form failure.Memory c r a b first after w v keeps none h = (inl keeps, none)

-- a table was not got
pub not_got_varying : (form : Form) (f : Failure) (c : Compare) (r : Recordings) (a b : Option Files) (first after : DeviceLog) (w v : Option (List ℕ)) → KeepsFiles a b → Keeps w v
    → FailsToGetVarying f a c.table.now r first after → FailsToCompareAll f form c r (world w a first) (world v b after)
not_got_varying form f c r a b first after w v keeps none h = not_found form f c r a b first after w v keeps none (inl h)

-- nothing was found out of its captures
pub not_found_under : (form : Form) (f : Failure) (c : Compare) (r : Recordings) (t : Content) (a b d : Option Files) (first before after : DeviceLog) (w v : Option (List ℕ))
    → HasVaryingTable a c.table.now r t → KeepsFiles a b → before ≡ first → KeepsFiles b d → Keeps w v → FailsUnder f (recording_names c r t) t r b before after
    → FailsToCompareAll f form c r (world w a first) (world v d after)
not_found_under form f c r t a b d first before after w v has keeps same more none h =
    not_found form f c r a d first after w v (KeepsFiles-trans a b d keeps more) none
    (inr (t, has, under_before f (recording_names c r t) t r a b first before after keeps same h))

-- ---- what is found out is put, or not

-- over a table that was got
pub found_in : (c : Compare) (r : Recordings) (t : Content) (a b : Option Files) (from until : ℕ) (first last : Option ℕ) (found : Comparison) → HasVaryingTable a c.table.now r t → KeepsFiles a b
    → IsFoundUnder (recording_names c r t) t r (is_some c.rows) b from until first last found → is_over from until first last ≡ false → IsFoundIn c r a from until found
found_in c r t a b from until first last found has keeps is judged =
    (t, first, last, has, record { texts = is.texts; shown = ShowsAll-before a b _ _ keeps is.shown; is_found = is.is_found }, judged)

module _ (c : Compare) (r : Recordings) (a b d : Option Files) (first before after : DeviceLog) (from until : ℕ) (found : Comparison) (is : IsFoundIn c r a from until found)
    (keeps : KeepsFiles a b) (same : before ≡ first) where
  pub rows_put : PutsFiles b d (rows_names c) (rows_texts c r found) → after ≡ settled_after (length (rows_names c)) before → PutsRows c r a d first after from until found
  rows_put put count = (is, PutsFiles-before a b d _ _ keeps put, count ∙ ap (settled_after (length (rows_names c))) same)

  pub rows_not_put : (form : Form) (f : Failure) (w v : Option (List ℕ)) → Keeps w v → FailsToPut f (rows_names c) (rows_texts c r found) b d before after
      → FailsToCompareAll f form c r (world w a first) (world v d after)
  rows_not_put form (failure.Put s) w v none h = ((from, until, found, is, EndsAt-before (string_bytes s) (rows_names c) (rows_texts c r found) a b d first before after keeps same h), none)
  rows_not_put form failure.Memory w v none (inl kept) = (inl (KeepsFiles-trans a b d keeps kept), none)
  rows_not_put form failure.Memory w v none (inr h) = (inr (h.0, (from, until, found, is, StopsAt-before _ _ _ a b d keeps h.1)), none)
  rows_not_put form f w v none h = absurd h

-- of a name that failed: no file has changed, or those before a name were put
pub rows_ended : (name : List ℕ) (c : Compare) (r : Recordings) (a d : Option Files) (before after : DeviceLog) → EndsRows name c r a d before after
    → KeepsFiles a d ⊎ ((n : List ℕ) × StopsRows n c r a d)
rows_ended name c r a d before after h = elim h.4 [
  | inl kept ↦ inl kept.1
  | inr stops ↦ inr (name, (h.0, h.1, h.2, h.3, stops.0))
]

-- What the files of a run lead to, read in pieces or whole.
use Rattle.std.proofs.Common.{◌≡◌, ℕ, zero, suc, ◌+◌, ◌<◌, get_or, List, [], ◌∷◌, map, length, take, drop, ◌++◌, slice_get, Option, Some, None, refl, sym, ap, subst, ◌∙◌, inl, inr, arith}
use Rattle.std.proofs.Common.{string_bytes}
use Rattle.std.specs.Prelude.{IfSome, option_map}
use Rattle.afdx_pcap.specs.declared.fault.PcapFault.{PcapFault}
use Rattle.std.proofs.lemmas.List.{length-map, length-append, map-append, take_more, take-map, take-take}
use Rattle.std.proofs.lemmas.Option.{same_Some, slice_get-map, slice_get-get_or}
use Rattle.std.proofs.lemmas.Simd.{map-map}
use Rattle.afdx_table.specs.declared.rows.PortRow.{PortRow}
use Rattle.afdx_table.specs.Content.{Content}
use Rattle.afdx_table.specs.WellFormed.{TablesAreWellFormed}
use Rattle.afdx_count.specs.Tally.{Tally}
use Rattle.afdx_session.specs.Texts.{Text, AreOfPorts}
use Rattle.afdx_session.specs.declared.plan.Plan.{Plan}
use Rattle.afdx_session.specs.Outcome.{table_in}
use Rattle.afdx_session.specs.Headline.{AcceptedRunsIsolate}
use Rattle.afdx_session.specs.Sources.{AreRead, HasFirstFault}
use Rattle.afdx_session.specs.Written.{IsWritten}
use Rattle.afdx_arguments.specs.declared.request.Paths.{Paths}
use Rattle.afdx_arguments.specs.declared.request.Inputs.{Inputs}
use Rattle.afdx_messages.specs.declared.failure.Failure.{Failure}
use Rattle.afdx_messages.specs.declared.failure.Failure.TheVariants as failure
use Rattle.afdx_folder.specs.Files.{Files, DeviceLog, Shows, ShowsAll, IsOpened, KeepsFiles}
use Rattle.afdx_folder.specs.Input.{AreGiven}
use Rattle.afdx_serve.specs.Runs.{capture_name, names_in, port_names, bytes_of_captures, inputs_of, HasPlan, HasCaptures, FailsToGetAll, FailsToGather, GetsNamed, GetsUpTo}
use Rattle.afdx_serve.specs.Inner.Outputs.{AreEmpty, HaveBytes}
use Rattle.afdx_serve.specs.Inner.Leading.{IsPlanOf, AreOpened, AreOpenedPorts, IsInFiles, FailsToLeadFrom, IsLed}
use Rattle.afdx_serve.specs.Inner.NotGot.{FailsToReadOn, FailsToGetNamed, FailsToOpenAll, FailsToReadNamed}
use Rattle.afdx_serve.proofs.FileLemmas.{KeepsFiles-refl, KeepsFiles-trans, ShowsAll-before, IsOpened-before}
use Rattle.afdx_serve.proofs.GivenLemmas.{not_read_named}
use Rattle.afdx_serve.proofs.PutLemmas.{have_bytes, written_back}
use Rattle.afdx_serve.proofs.RunLemmas.{leads_to, same_names, not_gathered, not_led}

-- ---- readers

-- what holds at each place of two lists holds with one pair before them
cons_each : {R : Type 0} (P : R → List ℕ → Type 0) (reader : R) (name : List ℕ) (readers : List R) (names : List (List ℕ)) → P reader name
    → ((place : ℕ) (r : R) (n : List ℕ) → slice_get readers place ≡ Some r → slice_get names place ≡ Some n → P r n)
    → (place : ℕ) (r : R) (n : List ℕ) → slice_get (reader ∷ readers) place ≡ Some r → slice_get (name ∷ names) place ≡ Some n → P r n
cons_each P reader name readers names one rest zero r n is_reader is_name =
    let same_reader : reader ≡ r = same_Some reader r is_reader in
    let same_name : name ≡ n = same_Some name n is_name in
    subst (λ x. P x n) same_reader (subst (λ m. P reader m) same_name one)
cons_each P reader name readers names one rest (suc place) r n is_reader is_name = rest place r n is_reader is_name

-- of one pair more
push_each : {R : Type 0} (P : R → List ℕ → Type 0) (reader : R) (name : List ℕ) (readers : List R) (names : List (List ℕ)) → length readers ≡ length names → P reader name
    → ((place : ℕ) (r : R) (n : List ℕ) → slice_get readers place ≡ Some r → slice_get names place ≡ Some n → P r n)
    → (place : ℕ) (r : R) (n : List ℕ) → slice_get (readers ++ reader ∷ []) place ≡ Some r → slice_get (names ++ name ∷ []) place ≡ Some n → P r n
push_each P reader name [] [] many one rest = cons_each P reader name [] [] one rest
push_each P reader name [] (m ∷ names) many one rest = absurd cc
push_each P reader name (x ∷ readers) [] many one rest = absurd cc
push_each P reader name (x ∷ readers) (m ∷ names) many one rest =
    let fewer : length readers ≡ length names = cc in
    cons_each P x m (readers ++ reader ∷ []) (names ++ name ∷ []) (rest zero x m refl refl)
    (push_each P reader name readers names fewer one (λ place r n is_reader is_name. rest (suc place) r n is_reader is_name))

-- one more was opened
opened_push : {R : Type 0} (remaining : R → Option (List ℕ)) (files : Option Files) (names : List (List ℕ)) (readers : List R) (name : List ℕ) (new : R)
    → AreOpened remaining files names readers → IsOpened files name (remaining new) → AreOpened remaining files (names ++ name ∷ []) (readers ++ new ∷ [])
opened_push remaining files names readers name new was one = record {
  many = length-append readers (new ∷ []) ∙ ap (λ n. n + 1) was.many ∙ sym (length-append names (name ∷ []));
  each = push_each (λ r n. IsOpened files n (remaining r)) new name readers names was.many one was.each;
}

-- the next of these names was opened
pub opened_next : {X : Type 0} (str : X → List ℕ) {R : Type 0} (remaining : R → Option (List ℕ)) (a b : Option Files) (names : List X) (i : ℕ) (d : X) (name : List ℕ) (old new : List R) (one : R)
    → i < length names → KeepsFiles a b → AreOpened remaining a (map str (take i names)) old → name ≡ str (get_or names i d) → IsOpened b name (remaining one) → new ≡ old ++ one ∷ []
    → AreOpened remaining a (map str (take (i + 1) names)) new
opened_next str remaining a b names i d name old new one lt keeps was is opened grown =
    let more : map str (take (i + 1) names) ≡ map str (take i names) ++ str (get_or names i d) ∷ [] =
    ap (map str) (take_more names i d lt) ∙ map-append str (take i names) (get_or names i d ∷ []) in
    let here = subst (λ (n : List ℕ). IsOpened a n (remaining one)) is (IsOpened-before a b name (remaining one) keeps opened) in
    subst (λ all. AreOpened remaining a all new) (sym more) (subst (λ rs. AreOpened remaining a (map str (take i names) ++ str (get_or names i d) ∷ []) rs) (sym grown)
    (opened_push remaining a (map str (take i names)) old (str (get_or names i d)) one was here))

-- the texts that readers of files give are what is under the names
module _ {R : Type 0} (remaining : R → Option (List ℕ)) (f : Files) where
  given_bytes : (name bytes : List ℕ) (reader : R) → IsOpened (Some f) name (remaining reader) → AreGiven (remaining reader) bytes → f name ≡ Some bytes
  given_bytes name bytes reader opened given =
      let same : bytes ≡ opened.0 = subst (λ (o : Option (List ℕ)). IfSome o (λ all. bytes ≡ all)) opened.2 given in
      opened.1 ∙ ap (λ (b : List ℕ). Some b) (sym same)

  shown : (names : List (List ℕ)) (readers : List R) (texts : List Text) → length readers ≡ length names → length texts ≡ length readers
      → ((place : ℕ) (reader : R) (name : List ℕ) → slice_get readers place ≡ Some reader → slice_get names place ≡ Some name → IsOpened (Some f) name (remaining reader))
      → ((place : ℕ) (reader : R) (text : Text) → slice_get readers place ≡ Some reader → slice_get texts place ≡ Some text → AreGiven (remaining reader) text.1)
      → map f names ≡ map (λ (bytes : List ℕ). Some bytes) (bytes_of_captures texts)
  shown [] [] [] many as_many opened given = refl
  shown [] [] (t ∷ texts) many as_many opened given = absurd cc
  shown [] (r ∷ readers) texts many as_many opened given = absurd cc
  shown (n ∷ names) [] texts many as_many opened given = absurd cc
  shown (n ∷ names) (r ∷ readers) [] many as_many opened given = absurd cc
  shown (n ∷ names) (r ∷ readers) (t ∷ texts) many as_many opened given =
      let fewer : length readers ≡ length names = cc in
      let fewer_texts : length texts ≡ length readers = cc in
      ap (λ (o : Option (List ℕ)). o ∷ map f names) (given_bytes n t.1 r (opened zero r n refl refl) (given zero r t refl refl))
      ∙ ap (λ (os : List (Option (List ℕ))). Some t.1 ∷ os) (shown names readers texts fewer fewer_texts (λ place. opened (suc place)) (λ place. given (suc place)))

all_shown : {R : Type 0} (remaining : R → Option (List ℕ)) (files : Option Files) (names : List (List ℕ)) (readers : List R) (texts : List Text) → AreOpened remaining files names readers
    → AreRead remaining readers texts → ShowsAll files names (bytes_of_captures texts)
all_shown remaining None names readers texts opened read = tt
all_shown remaining (Some f) names readers texts opened read = shown remaining f names readers texts opened.many read.many opened.each read.each

-- the names of captures of a table's ports
pub named_ports : (path : List ℕ) (t : Content) (captures : List Text) → AreOfPorts t captures → names_in path captures ≡ port_names path t
named_ports path t captures are =
    sym (map-map (capture_name path) (λ (x : Text). x.0) captures) ∙ ap (map (capture_name path)) are ∙ map-map (capture_name path) (λ (p : PortRow). p.id) t.ports

-- what was read of opened captures are the captures of the table's ports
pub opened_are_captures : {R : Type 0} (remaining : R → Option (List ℕ)) (files : Option Files) (path : List ℕ) (t : Content) (names : List (List ℕ)) (readers : List R) (texts : List Text)
    → names ≡ port_names path t → AreOpened remaining files names readers → AreRead remaining readers texts → AreOfPorts t texts → HasCaptures files path t texts
opened_are_captures remaining files path t names readers texts named opened read are =
    (are, subst (λ (ns : List (List ℕ)). ShowsAll files ns (bytes_of_captures texts)) (named ∙ sym (named_ports path t texts are)) (all_shown remaining files names readers texts opened read))

-- ---- new files

-- what was written to new files, which were lent as a whole, is in them
pub in_files : {N : Type 0} (contents : N → Option (List ℕ)) (a b : Option Files) (t : Content) (texts : List Text) (begun new : List N) (len : ℕ) (counts : Tally)
    → KeepsFiles a b → AreEmpty contents b begun → len ≡ length new → IsWritten contents t texts begun new counts
    → IsInFiles contents a t texts (take len (new ++ drop (length new) begun)) counts
in_files contents a b t texts begun new len counts keeps empty long is = record {
  results = is.results;
  outcome = is.outcome;
  have = subst (λ files. HaveBytes contents a files (bytes_of_captures is.results.captures)) (sym (written_back begun new len long))
      (have_bytes contents a b begun new is.results.captures keeps empty is.appended);
  counted = is.counted;
}

pub have_before : {N : Type 0} (contents : N → Option (List ℕ)) (a b : Option Files) (files : List N) (all : List (List ℕ)) → KeepsFiles a b → HaveBytes contents b files all
    → HaveBytes contents a files all
have_before contents None b files all keeps have = tt
have_before contents (Some f) None files all keeps have = absurd keeps
have_before contents (Some f) (Some g) files all keeps have = have

-- ---- plans

pub has_plan : (inputs : Inputs) (files : Option Files) (text : List ℕ) (plan : Plan) → Shows files inputs.table.now text → IsPlanOf text inputs.unchecked plan → HasPlan files inputs (table_in plan)
has_plan inputs files text plan shows is = ((text, shows, is.is_table), is.accepted)

-- ---- what it leads to

-- the captures are those of the table's ports, and their outcome is in the new files
pub led : TablesAreWellFormed → AcceptedRunsIsolate → {N : Type 0} (contents : N → Option (List ℕ)) (paths : Paths) (a b : Option Files) (text : List ℕ) (plan : Plan) (captures : List Text)
    (names : List (List ℕ)) (files : List N) (counts : Tally) → Shows a paths.table.now text → IsPlanOf text paths.unchecked plan → HasCaptures a paths.input.now (table_in plan) captures
    → names ≡ port_names paths.output.now (table_in plan) → KeepsFiles a b → IsInFiles contents b (table_in plan) captures files counts → IsLed contents paths a files names counts
led formed isolate contents paths a b text plan captures names files counts shows is has named keeps in_them =
    let results = in_them.results in
    let same = named ∙ sym (named_ports paths.output.now (table_in plan) captures has.0) ∙ same_names paths.output.now (table_in plan) captures results in_them.outcome in
    record {
      results = results;
      leads = leads_to formed isolate paths a plan captures results (record { has_plan = has_plan (inputs_of paths) a text plan shows is; cleared = is.cleared; has_captures = has }) in_them.outcome;
      named = same;
      many = length-map results.captures (λ (x : Text). x.1) ∙ sym (length-map results.captures (λ (x : Text). capture_name paths.output.now x.0)) ∙ sym (ap length same);
      have = have_before contents a b files (bytes_of_captures results.captures) keeps in_them.have;
      counted = in_them.counted;
    }

-- the captures were not got, or lead to nothing
pub not_led_from : (inputs : Inputs) (a b : Option Files) (text : List ℕ) (plan : Plan) (first before after : DeviceLog) → Shows a inputs.table.now text → IsPlanOf text inputs.unchecked plan
    → KeepsFiles a b → before ≡ first → (f : Failure) → FailsToLeadFrom f b inputs.input.now (table_in plan) before after → FailsToGather f inputs a first after
not_led_from inputs a b text plan first before after shows is keeps same f (inl h) =
    not_gathered inputs a b (table_in plan) first before after (has_plan inputs a text plan shows is) keeps same f h
not_led_from inputs a b text plan first before after shows is keeps same f (inr h) =
    not_led inputs a plan h.0 first after
    (record { has_plan = has_plan inputs a text plan shows is; cleared = is.cleared; has_captures = (h.1.0, ShowsAll-before a b _ _ keeps h.1.1) })
    (h.3 ∙ same) f h.2

pub captures_before : (a b : Option Files) (path : List ℕ) (t : Content) (texts : List Text) → KeepsFiles a b → HasCaptures b path t texts → HasCaptures a path t texts
captures_before a b path t texts keeps has = (has.0, ShowsAll-before a b _ _ keeps has.1)

-- ---- names that were opened

-- what is under the names before one was there
pub opened_shown : {R : Type 0} (remaining : R → Option (List ℕ)) (files : Option Files) (names : List (List ℕ)) (readers : List R) (place : ℕ) → AreOpened remaining files names readers
    → (got : List (List ℕ)) × ShowsAll files (take place names) got
opened_shown remaining None names readers place opened = ([], tt)
opened_shown {R} remaining (Some f) names readers place opened = by names readers place opened.many opened.each where
  by : (names : List (List ℕ)) (readers : List R) (place : ℕ) → length readers ≡ length names
      → ((k : ℕ) (reader : R) (name : List ℕ) → slice_get readers k ≡ Some reader → slice_get names k ≡ Some name → IsOpened (Some f) name (remaining reader))
      → (got : List (List ℕ)) × (map f (take place names) ≡ map (λ (bytes : List ℕ). Some bytes) got)
  by [] readers zero many each = ([], refl)
  by [] readers (suc place) many each = ([], refl)
  by (n ∷ names) [] place many each = absurd cc
  by (n ∷ names) (r ∷ readers) zero many each = ([], refl)
  by (n ∷ names) (r ∷ readers) (suc place) many each =
      let fewer : length readers ≡ length names = cc in
      let here = each zero r n refl refl in
      let on = by names readers place fewer (λ k. each (suc k)) in
      (here.0 ∷ on.0, ap (λ (o : Option (List ℕ)). o ∷ map f (take place names)) here.1 ∙ ap (λ (os : List (Option (List ℕ))). Some here.0 ∷ os) on.1)

-- the next of these names was not opened
pub next_unopened : {X : Type 0} (str : X → List ℕ) {R : Type 0} (remaining : R → Option (List ℕ)) (files : Option Files) (names : List X) (i : ℕ) (d : X) (name : List ℕ) (readers : List R)
    → i < length names → AreOpened remaining files (map str (take i names)) readers → name ≡ str (get_or names i d) → GetsNamed name files (map str names)
next_unopened str remaining files names i d name readers lt opened is =
    let got = opened_shown remaining files (map str (take i names)) readers i opened in
    let same : take i (map str (take i names)) ≡ take i (map str names) = ap (take i) (sym (take-map str i names)) ∙ take-take i i (map str names) (omega (arith)) in
    record {
      place = i;
      got = got.0;
      is_there = slice_get-map str names i ∙ ap (option_map str) (slice_get-get_or names i d lt) ∙ ap (λ (n : List ℕ). Some n) (sym is);
      earlier = subst (λ ns. ShowsAll files ns got.0) same got.1;
    }

-- one of the names of a table's captures
upto : (name : List ℕ) (files : Option Files) (path : List ℕ) (t : Content) (names : List (List ℕ)) → names ≡ port_names path t → GetsNamed name files names → GetsUpTo name files path t
upto name files path t names named gets =
    let at = subst (λ ns. GetsNamed name files ns) named gets in
    record { place = at.place; got = at.got; is_there = at.is_there; earlier = at.earlier }

-- it was not read
not_read : (f : Failure) (files : Option Files) (path : List ℕ) (t : Content) (names : List (List ℕ)) (before after : DeviceLog) → names ≡ port_names path t
    → FailsToReadNamed f files names before after → FailsToGetAll f files path t before after
not_read (failure.Get s) files path t names before after named fails = (upto (string_bytes s) files path t names named fails.0, fails.1)
not_read failure.Memory files path t names before after named fails = tt
not_read f files path t names before after named fails = absurd fails

-- it was not opened
pub named_capture : (f : Failure) (files : Option Files) (path : List ℕ) (t : Content) (names : List (List ℕ)) (before after : DeviceLog) → names ≡ port_names path t
    → FailsToGetNamed f files names before after → FailsToOpenAll f files path t before after
named_capture (failure.Get s) files path t names before after named fails = (upto (string_bytes s) files path t names named fails.0, fails.1)
named_capture failure.Memory files path t names before after named fails = tt
named_capture f files path t names before after named fails = absurd fails

-- so not all were got
pub not_all_opened : (f : Failure) (files : Option Files) (path : List ℕ) (t : Content) (before after : DeviceLog) → FailsToOpenAll f files path t before after
    → FailsToGetAll f files path t before after
not_all_opened (failure.Get s) files path t before after fails = (fails.0, inl fails.1)
not_all_opened failure.Memory files path t before after fails = tt
not_all_opened f files path t before after fails = absurd fails

-- that at a place was opened, and could not be read
pub unread_capture : {X : Type 0} (str : X → List ℕ) {R : Type 0} (remaining : R → Option (List ℕ)) (f : Failure) (files : Option Files) (path : List ℕ) (t : Content) (names : List X)
    (place : ℕ) (d : X) (readers : List R) (first before after : DeviceLog) → map str names ≡ port_names path t → AreOpened remaining files (map str names) readers → place < length names
    → before ≡ first → FailsToReadOn f (str (get_or names place d)) before after → FailsToGetAll f files path t first after
unread_capture str remaining f files path t names place d readers first before after named opened lt same fails =
    let got = opened_shown remaining files (map str names) readers place opened in
    let at : GetsNamed (str (get_or names place d)) files (map str names) = record {
      place = place;
      got = got.0;
      is_there = slice_get-map str names place ∙ ap (option_map str) (slice_get-get_or names place d lt);
      earlier = got.1;
    } in
    not_read f files path t (map str names) first after named (not_read_named f files (str (get_or names place d)) (map str names) first before after same fails at)

-- what was read of opened captures has a fault
pub capture_fault : {R : Type 0} (remaining : R → Option (List ℕ)) (files : Option Files) (path : List ℕ) (t : Content) (names : List (List ℕ)) (readers : List R) (port : ℕ) (why : PcapFault)
    (before after : DeviceLog) → names ≡ port_names path t → AreOpened remaining files names readers → HasFirstFault remaining t readers port why → after ≡ before
    → FailsToLeadFrom (failure.PortCapture port why) files path t before after
capture_fault remaining files path t names readers port why before after named opened has same =
    inr (has.texts, opened_are_captures remaining files path t names readers has.texts named opened has.read has.ports, has.first, same)

-- what the captures of a folder lead to, which were opened after new files were begun, is what the files lead to
pub folder_led : TablesAreWellFormed → AcceptedRunsIsolate → {N : Type 0} (contents : N → Option (List ℕ)) (paths : Paths) (first a b : Option Files) (text : List ℕ) (plan : Plan)
    (captures : List Text) (begun new : List N) (len : ℕ) (counts : Tally) (names : List (List ℕ)) → Shows first paths.table.now text → IsPlanOf text paths.unchecked plan
    → names ≡ port_names paths.output.now (table_in plan) → KeepsFiles first a → KeepsFiles a b → AreEmpty contents a begun → len ≡ length new → HasCaptures b paths.input.now (table_in plan) captures
    → IsWritten contents (table_in plan) captures begun new counts → IsLed contents paths first (take len (new ++ drop (length new) begun)) names counts
folder_led formed isolate contents paths first a b text plan captures begun new len counts names shows is named keeps more empty long has written =
    led formed isolate contents paths first a text plan captures names (take len (new ++ drop (length new) begun)) counts shows is
    (captures_before first b paths.input.now (table_in plan) captures (KeepsFiles-trans first a b keeps more) has) named keeps
    (in_files contents a a (table_in plan) captures begun new len counts (KeepsFiles-refl a) empty long written)

-- there are as many readers as ports, and as names
module _ {R : Type 0} (remaining : R → Option (List ℕ)) (files : Option Files) (path : List ℕ) (t : Content) where
  pub as_many_readers : (names : List (List ℕ)) (readers : List R) → AreOpenedPorts remaining files path t names readers → length readers ≡ length t.ports
  as_many_readers names readers is = is.opened.many ∙ ap length is.named ∙ length-map t.ports (λ (p : PortRow). capture_name path p.id)

pub as_many_names : {X : Type 0} (str : X → List ℕ) {R : Type 0} (remaining : R → Option (List ℕ)) (files : Option Files) (path : List ℕ) (t : Content) (names : List X) (readers : List R)
    → AreOpenedPorts remaining files path t (map str names) readers → length names ≡ length readers
as_many_names str remaining files path t names readers is = sym (length-map names str) ∙ sym is.opened.many

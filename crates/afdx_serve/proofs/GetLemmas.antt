-- Networks that were got: the files of tables, and why they were not.
use Rattle.std.proofs.Common.{◌≡◌, ◌≢◌, ℕ, ◌+◌, ◌<◌, List, [], ◌∷◌, ◌++◌, map, length, take, Option, Some, Result, Ok, Err, Vec, inr, sym, ap, subst, ◌∙◌, arith, get_or}
use Rattle.std.proofs.Common.{slice_get, length-append, string_bytes}
use Rattle.std.specs.Prelude.{option_map, MatchResult}
use Rattle.std.specs.Path.{path_with_file_name}
use Rattle.std.proofs.lemmas.List.{get_or-map, map-append, take_more, take-map}
use Rattle.std.proofs.lemmas.Option.{slice_get-map, slice_get-get_or}
use Rattle.afdx_table.specs.Content.{Content}
use Rattle.afdx_table.specs.Text.{table_of}
use Rattle.afdx_table.specs.declared.fault.TableFault.{TableFault}
use Rattle.afdx_table.specs.declared.fault.TableFault.TheVariants as table
use Rattle.afdx_wiring.specs.File.{Switch, Layout}
use Rattle.afdx_network_check.specs.Net.{Network}
use Rattle.afdx_network_check.specs.Order.{lost_port}
use Rattle.afdx_messages.specs.declared.network_failure.NetworkFailure.TheVariants as network
use Rattle.afdx_messages.specs.declared.failure.Failure.{Failure}
use Rattle.afdx_messages.specs.declared.failure.Failure.TheVariants as failure
use Rattle.afdx_folder.specs.Files.{Files, Shows, ShowsAll, KeepsFiles, DeviceLog, one_more}
use Rattle.afdx_serve.specs.Runs.{FailsToGet}
use Rattle.afdx_serve.specs.Networks.{bytes_in, table_names, HasLayout, HasTexts, AreTables, GetsTables, IsRefusedTable, FailsToGetTexts, FailsToReadTables}
use Rattle.afdx_serve.specs.Networks.{FailsToJoin, HasNetwork, FailsToGetNetwork}
use Rattle.afdx_serve.proofs.FileLemmas.{ShowsAll-push, ShowsAll-before, Shows-before, KeepsFiles-trans}

-- ---- the files of tables

-- the name of a switch's table
named : (path : List ℕ) (switches : List Switch) (i : ℕ) (d : Switch) → i < length switches
    → slice_get (table_names path switches) i ≡ Some (path_with_file_name path (get_or switches i d).path)
named path switches i d lt =
    slice_get-map (λ (s : Switch). path_with_file_name path s.path) switches i ∙ ap (option_map (λ (s : Switch). path_with_file_name path s.path)) (slice_get-get_or switches i d lt)

more_names : (path : List ℕ) (switches : List Switch) (i : ℕ) (d : Switch) → i < length switches
    → table_names path (take (i + 1) switches) ≡ table_names path (take i switches) ++ path_with_file_name path (get_or switches i d).path ∷ []
more_names path switches i d lt =
    ap (table_names path) (take_more switches i d lt) ∙ map-append (λ (s : Switch). path_with_file_name path s.path) (take i switches) (get_or switches i d ∷ [])

-- one more was got
pub one_more_text : {Z : Type 0} (a b c : Option Files) (path name : List ℕ) (switches : List Switch) (i : ℕ) (d : Switch) (old new : List (Vec ℕ Z)) (bytes : Vec ℕ Z)
    → new ≡ old ++ bytes ∷ [] → i < length switches → KeepsFiles a b → KeepsFiles b c → ShowsAll a (table_names path (take i switches)) (bytes_in old) → length old ≡ i
    → name ≡ path_with_file_name path (get_or switches i d).path → Shows b name bytes.items
    → ShowsAll a (table_names path (take (i + 1) switches)) (bytes_in new) × (length new ≡ i + 1) × KeepsFiles a c
one_more_text {Z} a b c path name switches i d old new bytes grown lt first second got len is shows =
    let view : Vec ℕ Z → List ℕ = λ text. text.items in
    let texts : bytes_in new ≡ bytes_in old ++ bytes.items ∷ [] = ap (map view) grown ∙ map-append view old (bytes ∷ []) in
    let one = subst (λ (n : List ℕ). Shows a n bytes.items) is (Shows-before a b name bytes.items first shows) in
    let all = ShowsAll-push a (table_names path (take i switches)) (bytes_in old) _ bytes.items got one in (
      subst (λ (names : List (List ℕ)). ShowsAll a names (bytes_in new)) (sym (more_names path switches i d lt))
          (subst (λ (ts : List (List ℕ)). ShowsAll a (table_names path (take i switches) ++ path_with_file_name path (get_or switches i d).path ∷ []) ts) (sym texts) all),
      (let n = ap length grown ∙ length-append old (bytes ∷ []) in omega (arith, n, len)),
      KeepsFiles-trans a b c first second,
    )

-- the name of a table's file, where those of the switches before it were got
pub gets_tables : (files : Option Files) (path name : List ℕ) (switches : List Switch) (i : ℕ) (d : Switch) (got : List (List ℕ)) → i < length switches
    → name ≡ path_with_file_name path (get_or switches i d).path → ShowsAll files (table_names path (take i switches)) got → GetsTables name files path switches
gets_tables files path name switches i d got lt is earlier = record {
  place = i;
  got = got;
  is_there = named path switches i d lt ∙ ap (λ (n : List ℕ). Some n) (sym is);
  earlier = subst (λ (names : List (List ℕ)). ShowsAll files names got) (sym (take-map (λ (s : Switch). path_with_file_name path s.path) i switches)) earlier;
}

-- a table's file was not got
pub not_got_text : (f : Failure) (files : Option Files) (path name : List ℕ) (switches : List Switch) (first before after : DeviceLog) → before ≡ first → FailsToGet f name before after
    → GetsTables name files path switches → FailsToGetTexts f files path switches first after
not_got_text (failure.Get s) files path name switches first before after same fails upto =
    subst (λ (n : List ℕ). GetsTables n files path switches × (after ≡ one_more n first)) (sym fails.0) (upto, fails.1 ∙ ap (one_more name) same)
not_got_text failure.Memory files path name switches first before after same fails upto = tt
not_got_text f files path name switches first before after same fails upto = absurd fails

-- ---- why the rest was not

-- ---- tables

pub text_at : {Z : Type 0} (texts : List (Vec ℕ Z)) (i : ℕ) (text : Vec ℕ Z) → i < length texts → text ≡ get_or texts i text → get_or (bytes_in texts) i [] ≡ text.items
text_at {Z} texts i text within is = get_or-map (λ (t : Vec ℕ Z). t.items) texts i text [] within ∙ ap (λ (t : Vec ℕ Z). t.items) (sym is)

pub one_more_table : (texts : List (List ℕ)) (i : ℕ) (old new : List Content) (t : Content) → i < length texts → AreTables (take i texts) old → new ≡ old ++ t ∷ []
    → table_of (get_or texts i []) ≡ Ok t → AreTables (take (i + 1) texts) new
one_more_table texts i old new t lt are grown is =
    ap (map table_of) (take_more texts i [] lt) ∙ map-append table_of (take i texts) (get_or texts i [] ∷ [])
    ∙ ap (λ (l : List (Result Content TableFault)). l ++ table_of (get_or texts i []) ∷ []) are
    ∙ ap (λ (r : Result Content TableFault). map (λ (x : Content). Ok x) old ++ r ∷ []) is ∙ sym (map-append (λ (x : Content). Ok x) old (t ∷ [])) ∙ ap (map (λ (x : Content). Ok x)) (sym grown)

-- the failure of a table of the switch at a place
pub stops_at_table : (f : Failure) (refusal : TableFault) (switches : List Switch) (texts : List (List ℕ)) (i : ℕ) (d : Switch) (tables : List Content) → i < length texts → i < length switches
    → AreTables (take i texts) tables → (refusal ≢ table.Memory → table_of (get_or texts i []) ≡ Err refusal) → IsRefusedTable refusal (get_or switches i d).name f
    → FailsToReadTables f switches texts
stops_at_table (failure.Network (network.Table r n)) refusal switches texts i d tables in_texts within are is h = record {
  place = i;
  before = tables;
  text = get_or texts i [];
  earlier = are;
  text_is = slice_get-get_or texts i [] in_texts;
  refused = is h.1 ∙ ap (λ (x : TableFault). Err x) (sym h.0);
  name_is = slice_get-map (λ (s : Switch). s.name) switches i ∙ ap (option_map (λ (s : Switch). s.name)) (slice_get-get_or switches i d within) ∙ ap (λ (n : List ℕ). Some n) (sym h.2);
}
stops_at_table failure.Memory refusal switches texts i d tables in_texts within are is h = tt
stops_at_table f refusal switches texts i d tables in_texts within are is h = absurd h

-- ---- a network

has_before : (a b : Option Files) (path : List ℕ) (switches : List Switch) (texts : List (List ℕ)) → KeepsFiles a b → HasTexts b path switches texts → HasTexts a path switches texts
has_before a b path switches texts keeps has = (ShowsAll-before a b (table_names path switches) texts keeps has.0, has.1)

gets_before : (name : List ℕ) (a b : Option Files) (path : List ℕ) (switches : List Switch) → KeepsFiles a b → GetsTables name b path switches → GetsTables name a path switches
gets_before name a b path switches keeps s = record { place = s.place; got = s.got; is_there = s.is_there; earlier = ShowsAll-before a b _ _ keeps s.earlier }

-- the tables were not there, where nothing was put before
not_joined_before : (f : Failure) (a b : Option Files) (path : List ℕ) (l : Layout) (before after : DeviceLog) → KeepsFiles a b → FailsToJoin f b path l before after
    → FailsToJoin f a path l before after
not_joined_before (failure.Network (network.Table refusal name)) a b path l before after keeps h = ((h.0.0, has_before a b path l.switches h.0.0 keeps h.0.1, h.0.2), h.1)
not_joined_before (failure.Network (network.Refused e name)) a b path l before after keeps h =
    ((h.0.0, h.0.1, has_before a b path l.switches h.0.0 keeps h.0.2, h.0.3, h.0.4), h.1, h.2)
not_joined_before (failure.Get s) a b path l before after keeps h = (gets_before (string_bytes s) a b path l.switches keeps h.0, h.1)
not_joined_before failure.Memory a b path l before after keeps h = tt
not_joined_before f a b path l before after keeps h = absurd h

-- the network of a layout that was got, or why it was not
pub network_of : (r : Result Network Failure) (a b : Option Files) (path : List ℕ) (l : Layout) (first before after : DeviceLog) → before ≡ first → KeepsFiles a b → HasLayout a path l
    → MatchResult r
    (λ net. ((net.layout ≡ l) × ((texts : List (List ℕ)) × HasTexts b path l.switches texts × AreTables texts net.tables) × (lost_port net.tables l.wires ≡ Ok tt)) × (after ≡ before))
    (λ f. FailsToJoin f b path l before after)
    → MatchResult r (λ net. HasNetwork a path net × (after ≡ first)) (λ f. FailsToGetNetwork f a path first after)
network_of (Ok net) a b path l first before after same keeps has h = (
  record {
    texts = h.0.1.0;
    has_layout = subst (λ (k : Layout). HasLayout a path k) (sym h.0.0) has;
    has_texts = subst (λ (k : Layout). HasTexts a path k.switches h.0.1.0) (sym h.0.0) (has_before a b path l.switches h.0.1.0 keeps h.0.1.1);
    are_tables = h.0.1.2;
    ports = subst (λ (k : Layout). lost_port net.tables k.wires ≡ Ok tt) (sym h.0.0) h.0.2;
  },
  h.1 ∙ same,
)
network_of (Err f) a b path l first before after same keeps has h =
    inr (l, has, subst (λ (log : DeviceLog). FailsToJoin f a path l log after) same (not_joined_before f a b path l before after keeps h))

-- What a run of a network leads to: reports by switch, captures that are put in order, and why nothing is.
use Rattle.std.proofs.Common.{◌≡◌, ◌≢◌, ℕ, suc, ◌+◌, ◌<◌, Bool, false, not, List, [], ◌∷◌, ◌++◌, length, map, take, drop, get_or, Option, Result, Ok, Err, String, Vec, Global, string_bytes, inl, inr}
use Rattle.std.proofs.Common.{refl, sym, ap, subst, ◌∙◌, arith}
use Rattle.std.specs.Prelude.{IfOk, IfErr}
use Rattle.std.specs.Io.KnownBytes.{Keeps}
use Rattle.std.proofs.lemmas.List.{append_assoc, append-nil, map-append, length-append, length-map, length-take, take_more, get_or-map}
use Rattle.std.specs.Option.{option_map}
use Rattle.std.proofs.lemmas.Option.{slice_get-map, slice_get-get_or}
use Rattle.afdx_pcap.specs.declared.fault.PcapFault.{PcapFault}
use Rattle.afdx_table.specs.Content.{Content}
use Rattle.afdx_table.specs.Text.{table_of}
use Rattle.afdx_table.specs.WellFormed.{TablesAreWellFormed}
use Rattle.afdx_table.specs.declared.fault.TableFault.{TableFault}
use Rattle.afdx_session.specs.Texts.{Text}
use Rattle.afdx_session.specs.Outcome.{Results}
use Rattle.afdx_session.specs.Written.{AreAppended}
use Rattle.afdx_wiring.specs.File.{Switch}
use Rattle.afdx_network_check.specs.Net.{Network}
use Rattle.afdx_wiring.specs.Inner.Limits.{LayoutsAreWithinLimits, NoPortHasTwoWires}
use Rattle.afdx_network_check.specs.Rules.{IsAcceptedNetwork}
use Rattle.afdx_count.specs.Tally.{Tally}
use Rattle.afdx_wiring.specs.declared.layout.End.{End}
use Rattle.afdx_network.specs.Runs.{Given, AreOutcomes, IsRunOf, IsUncheckedRunOf}
use Rattle.afdx_network.specs.Given.{open_ends, all_ends, AreGiven, AreGivenBy, IsRefusal, IsUncheckedRefusal, IsFaultOver, NoneShareAPort}
use Rattle.afdx_network.specs.Written.{captures_in, AreWritten}
use Rattle.afdx_network.specs.Outage.{given_up, coming, AreComing}
use Rattle.afdx_network.specs.declared.outage.Incoming.{Incoming}
use Rattle.afdx_network.specs.declared.fault.NetworkRunFault.{NetworkRunFault}
use Rattle.afdx_network.specs.declared.fault.NetworkRunFault.TheVariants as run
use Rattle.afdx_network.specs.Laws.{IsOfFile, NetworkRunsDeliver, RunsAreUnchecked}
use Rattle.afdx_network_report.specs.Lines.{Names, name_of}
use Rattle.afdx_arguments.specs.declared.request.NetworkPaths.{NetworkPaths}
use Rattle.afdx_messages.specs.declared.network_failure.NetworkFailure.TheVariants as network
use Rattle.afdx_messages.specs.declared.failure.Failure.{Failure}
use Rattle.afdx_messages.specs.declared.failure.Failure.TheVariants as failure
use Rattle.afdx_folder.specs.Files.{Files, KeepsFiles, PutsFiles, DeviceLog, settled_after}
use Rattle.afdx_serve.specs.Runs.{capture_name, names_in, bytes_of_captures, StopsAt, EndsAt, FailsToPut, GetsNamed}
use Rattle.afdx_serve.specs.Networks.{names_of, verdict_of, HasNetwork}
use Rattle.afdx_serve.proofs.NetworkLemmas.{judged_write, judged_put}
use Rattle.afdx_serve.specs.NetworkRuns.{switch_folder, names_at, bytes_at, captures_of, of_switches, open_names, HasGiven}
use Rattle.afdx_serve.specs.NetworkRuns.{LeadsToNetwork, GetsGiven, FailsToGetGiven, FailsToLeadFrom, FailsToLeadNetwork, StopsNetwork, EndsNetwork}
use Rattle.afdx_csv.specs.declared.form.Form.{Form}
use Rattle.afdx_serve.specs.Serving.{world, PutsNetwork, FailsToRunNetwork}
use Rattle.afdx_serve.specs.declared.network_plan.NetworkPlan.{NetworkPlan}
use Rattle.afdx_serve.specs.declared.network_plan.NetworkPlan.TheVariants.{Unchecked, Accepted}
use Rattle.afdx_serve.specs.Inner.NotGot.{FailsToReadOn}
use Rattle.afdx_serve.specs.Inner.NetworkRunning.{network_in, is_accepted, end_names, AreOpenedEnds, HasRun, LeadsFrom, IsGivenFailure}
use Rattle.afdx_serve.proofs.CaptureLemmas.{StopsAt-before, EndsAt-before}
use Rattle.afdx_serve.proofs.GivenLemmas.{open_named, left_named, gave, not_read_named, not_read_given}
use Rattle.afdx_serve.proofs.LeadLemmas.{opened_shown}
use Rattle.afdx_serve.proofs.PutLemmas.{have_bytes, written_back}
use Rattle.afdx_serve.specs.Inner.Outputs.{AreEmpty, HaveBytes}
use Rattle.afdx_serve.proofs.FileLemmas.{KeepsFiles-refl, KeepsFiles-trans, ShowsAll-before, PutsFiles-before}

-- ---- what is said of one switch more

pub nothing_said : (said : List ℕ → Results → List ℕ) (names : Names) → of_switches said names [] ≡ []
nothing_said said [] = refl
nothing_said said (name ∷ names) = refl

of_switches-push : (said : List ℕ → Results → List ℕ) (names : Names) (left : List Results) (r : Results) → length left < length names
    → of_switches said names (left ++ r ∷ []) ≡ of_switches said names left ++ said (name_of names (length left)) r
of_switches-push said [] left r lt = absurd (omega (arith, lt))
of_switches-push said (name ∷ names) [] r lt = ap (λ (more : List ℕ). said name r ++ more) (nothing_said said names) ∙ append-nil (said name r)
of_switches-push said (name ∷ names) (x ∷ left) r lt =
    ap (λ (more : List ℕ). said name x ++ more) (of_switches-push said names left r (omega (arith, lt)))
    ∙ sym (append_assoc (said name x) (of_switches said names left) (said (name_of names (length left)) r))

taken : {X : Type 0} (xs : List X) (i : ℕ) → i < length xs → length (take i xs) ≡ i
taken xs i lt = let n = length-take i xs in omega (arith, n, lt)

-- after a text
pub one_more_said : (said : List ℕ → Results → List ℕ) (names : Names) (left : List Results) (i : ℕ) (d : Results) (text old new : List ℕ) → length names ≡ length left → i < length left
    → new ≡ old ++ said (name_of names i) (get_or left i d) → old ≡ text ++ of_switches said names (take i left) → new ≡ text ++ of_switches said names (take (i + 1) left)
one_more_said said names left i d text old new count lt grown before =
    let many = taken left i lt in
    grown ∙ ap (λ (l : List ℕ). l ++ said (name_of names i) (get_or left i d)) before
    ∙ append_assoc text (of_switches said names (take i left)) (said (name_of names i) (get_or left i d))
    ∙ ap (λ (l : List ℕ). text ++ l) (ap (λ (n : ℕ). of_switches said names (take i left) ++ said (name_of names n) (get_or left i d)) (sym many)
    ∙ sym (of_switches-push said names (take i left) (get_or left i d) (omega (arith, many, count, lt)))
    ∙ ap (of_switches said names) (sym (take_more left i d lt)))

-- the counts of a switch are those of what left it
abbrev pub of_counts : Tally → Results
of_counts counts = record { captures = []; counts = counts }

pub counted_at : (counts : List Tally) (left : List Results) (i : ℕ) (d : Tally) → counts ≡ map (λ (r : Results). r.counts) left → i < length left
    → get_or counts i d ≡ (get_or left i (of_counts d)).counts
counted_at counts left i d are lt = ap (λ (all : List Tally). get_or all i d) are ∙ get_or-map (λ (r : Results). r.counts) left i (of_counts d) d lt

pub as_many_counts : (counts : List Tally) (left : List Results) → counts ≡ map (λ (r : Results). r.counts) left → length counts ≡ length left
as_many_counts counts left are = ap (λ (all : List Tally). length all) are ∙ length-map left (λ (r : Results). r.counts)

-- as many names as texts
pub as_many : (path : List ℕ) (names : Names) (all : List (List Text)) → length names ≡ length all → length (names_at path names all) ≡ length (bytes_at all)
as_many path [] [] same = refl
as_many path [] (texts ∷ all) same = absurd (omega (arith, same))
as_many path (name ∷ names) [] same = absurd (omega (arith, same))
as_many path (name ∷ names) (texts ∷ all) same =
    let a = length-append (names_in (switch_folder path name) texts) (names_at path names all) in
    let b = length-append (bytes_of_captures texts) (bytes_at all) in
    let c = length-map texts (λ (x : Text). capture_name (switch_folder path name) x.0) in
    let d = length-map texts (λ (x : Text). x.1) in
    let more = as_many path names all (omega (arith, same)) in
    omega (arith, a, b, c, d, more)

-- the bytes of all captures that left
pub bytes_left : (left : List Results) → bytes_of_captures (captures_in left) ≡ bytes_at (captures_of left)
bytes_left [] = refl
bytes_left (r ∷ left) =
    map-append (λ (x : Text). x.1) r.captures (captures_in left) ∙ ap (λ (more : List (List ℕ)). bytes_of_captures r.captures ++ more) (bytes_left left)

-- ---- a network of a file

-- its tables are well formed, one for each switch, and the limits of the file are kept
pub of_file : TablesAreWellFormed → LayoutsAreWithinLimits → (files : Option Files) (path : List ℕ) (net : Network) → HasNetwork files path net → IsOfFile net
of_file formed limits files path net has = record {
  well_formed = λ k d lt. formed (get_or has.texts k []) (get_or net.tables k d) (is k d lt);
  tables = many ∙ has.has_texts.1;
  few = (limits has.has_layout.0 net.layout has.has_layout.2).0;
  delays = (limits has.has_layout.0 net.layout has.has_layout.2).1;
} where
  many : length net.tables ≡ length has.texts
  many = sym (length-map net.tables (λ (t : Content). Ok t)) ∙ ap (λ (l : List (Result Content TableFault)). length l) (sym has.are_tables) ∙ length-map has.texts table_of

  is : (k : ℕ) (d : Content) → k < length net.tables → table_of (get_or has.texts k []) ≡ Ok (get_or net.tables k d)
  is k d lt =
      sym (get_or-map table_of has.texts k [] (Ok d) (omega (arith, many, lt))) ∙ ap (λ (l : List (Result Content TableFault)). get_or l k (Ok d)) has.are_tables
      ∙ get_or-map (λ (t : Content). Ok t) net.tables k d (Ok d) lt

pub none_share_a_port : NoPortHasTwoWires → (files : Option Files) (path : List ℕ) (net : Network) → HasNetwork files path net → NoneShareAPort net
none_share_a_port law files path net has = law has.has_layout.0 net.layout has.has_layout.2

pub outcome_count : (tables : List Content) (came : List (List Text)) (left : List Results) → AreOutcomes tables came left → length tables ≡ length left
outcome_count [] [] [] are = refl
outcome_count [] [] (r ∷ left) are = absurd are
outcome_count [] (texts ∷ came) left are = absurd are
outcome_count (t ∷ tables) [] left are = absurd are
outcome_count (t ∷ tables) (texts ∷ came) [] are = absurd are
outcome_count (t ∷ tables) (texts ∷ came) (r ∷ left) are = ap suc (outcome_count tables came left are.1)

-- as many switches have run as there are names
run_count : (net : Network) (given : Given) (came : List (List Text)) (left : List Results) → IsOfFile net → IsUncheckedRunOf net given came left
    → length (names_of net.layout.switches) ≡ length left
run_count net given came left of is = length-map net.layout.switches (λ (s : Switch). s.name) ∙ sym of.tables ∙ outcome_count net.tables came left is.outcomes

pub has_given_before : (a b : Option Files) (path : List ℕ) (names : Names) (given : Given) → KeepsFiles a b → HasGiven b path names given → HasGiven a path names given
has_given_before a b path names given keeps = ShowsAll-before a b (names_at path names given) (bytes_at given) keeps

-- the files lead to it
leads_network : NetworkRunsDeliver → (paths : NetworkPaths) (files : Option Files) (net : Network) (given : Given) (came : List (List Text)) (left : List Results) → IsOfFile net
    → HasNetwork files paths.network.now net → (paths.unchecked ≡ false → IsAcceptedNetwork net) → HasGiven files paths.input.now (names_of net.layout.switches) given → AreGiven net given
    → IsUncheckedRunOf net (given_up net.layout given) came left → (paths.unchecked ≡ false → IsRunOf net (given_up net.layout given) came left) → LeadsToNetwork paths files net left
leads_network deliver paths files net given came left of has accepted has_given are is run = record {
  given = given;
  came = came;
  has_network = has;
  has_given = has_given;
  are_given = are;
  led = is;
  promised = λ checked. record {
    accepted = accepted checked;
    is_run = run checked;
    delivered = deliver net (given_up net.layout given) (run checked).runs (record { of_file = of; accepted = accepted checked; run = (run checked).run });
  };
}

-- a run of the network of a file, and the names of its switches
pub record IsLed (paths : NetworkPaths) (files : Option Files) (net : Network) (names : Names) (left : List Results) : Type 0 where
  pub leads : LeadsToNetwork paths files net left
  pub named : names ≡ names_of net.layout.switches
  pub count : length names ≡ length left

pub is_led : TablesAreWellFormed → LayoutsAreWithinLimits → NetworkRunsDeliver → (paths : NetworkPaths) (a b : Option Files) (net : Network) (plan : NetworkPlan) (left : List Results) (names : Names)
    → HasNetwork a paths.network.now net → network_in plan ≡ net → is_accepted plan ≡ not paths.unchecked → (paths.unchecked ≡ false → IsAcceptedNetwork net)
    → KeepsFiles a b → LeadsFrom b paths.input.now plan left → names ≡ names_of net.layout.switches → IsLed paths a net names left
is_led formed limits deliver paths a b net plan left names has same checked accepted keeps from named = record {
  leads = leads_network deliver paths a net from.given from.led.0 left of has accepted (has_given_before a b paths.input.now (names_of net.layout.switches) from.given keeps here) there is run;
  named = named;
  count = ap (λ (l : Names). length l) named ∙ run_count net (given_up net.layout from.given) from.led.0 left of is;
} where
  of : IsOfFile net
  of = of_file formed limits a paths.network.now net has

  is : IsUncheckedRunOf net (given_up net.layout from.given) from.led.0 left
  is = subst (λ (n : Network). IsUncheckedRunOf n (given_up n.layout from.given) from.led.0 left) same from.led.1

  run : paths.unchecked ≡ false → IsRunOf net (given_up net.layout from.given) from.led.0 left
  run is_checked = subst (λ (n : Network). IsRunOf n (given_up n.layout from.given) from.led.0 left) same (from.led.2 (checked ∙ ap not is_checked))

  here : HasGiven b paths.input.now (names_of net.layout.switches) from.given
  here = subst (λ (n : Network). HasGiven b paths.input.now (names_of n.layout.switches) from.given) same from.has_given

  there : AreGiven net from.given
  there = subst (λ (n : Network). AreGiven n from.given) same from.are_given

-- the tables of a file's network are as many as its switches
pub as_many_tables : TablesAreWellFormed → LayoutsAreWithinLimits → (files : Option Files) (path : List ℕ) (net : Network) → HasNetwork files path net → length net.tables ≡ length net.layout.switches
as_many_tables formed limits files path net has = (of_file formed limits files path net has).tables

-- the names of the ports of its switches are those of its captures
pub outputs_named : (path : List ℕ) (net : Network) (names : Names) (plan : NetworkPlan) (files : Option Files) (input : List ℕ) (left : List Results) (ends : List End) (outputs : List (List ℕ))
    → length net.tables ≡ length net.layout.switches → network_in plan ≡ net → names ≡ names_of net.layout.switches → ends ≡ all_ends (network_in plan) → outputs ≡ end_names path names ends
    → LeadsFrom files input plan left → outputs ≡ names_at path (names_of net.layout.switches) (captures_of left)
outputs_named path net names plan files input left ends outputs tables same named are is from =
    is ∙ ap (λ (ns : Names). end_names path ns ends) named ∙ ap (end_names path (names_of net.layout.switches)) (are ∙ ap (λ (n : Network). all_ends n) same)
    ∙ left_named path (names_of net.layout.switches) net from.led.0 left (length-map net.layout.switches (λ (s : Switch). s.name) ∙ sym tables)
    (subst (λ (n : Network). AreOutcomes n.tables from.led.0 left) same from.led.1.outcomes)

-- there is a name for each of its captures
pub files_named : (path : List ℕ) (names : Names) (left : List Results) (files : List (List ℕ)) → length names ≡ length left → files ≡ names_at path names (captures_of left)
    → length (bytes_at (captures_of left)) ≡ length files
files_named path names left files count named =
    sym (as_many path names (captures_of left) (count ∙ sym (length-map left (λ (r : Results). r.captures)))) ∙ ap (λ (l : List (List ℕ)). length l) (sym named)

-- one name more
abbrev end_name : List ℕ → Names → End → List ℕ
end_name path names e = capture_name (switch_folder path (name_of names e.switch)) e.port

pub name_more : (path : List ℕ) (names : Names) (ends : List End) (i : ℕ) (d : End) (old new : List (List ℕ)) (name : List ℕ) → i < length ends → new ≡ old ++ name ∷ []
    → old ≡ end_names path names (take i ends) → name ≡ capture_name (switch_folder path (name_of names (get_or ends i d).switch)) (get_or ends i d).port
    → new ≡ end_names path names (take (i + 1) ends)
name_more path names ends i d old new name lt grown before is =
    grown ∙ ap (λ (all : List (List ℕ)). all ++ name ∷ []) before ∙ ap (λ (n : List ℕ). end_names path names (take i ends) ++ n ∷ []) is
    ∙ sym (map-append (end_name path names) (take i ends) (get_or ends i d ∷ [])) ∙ ap (end_names path names) (sym (take_more ends i d lt))

-- ---- captures that were opened

-- their names
pub names_opened : (path : List ℕ) (net : Network) (names : List (List ℕ)) → length net.tables ≡ length net.layout.switches
    → names ≡ end_names path (names_of net.layout.switches) (open_ends net) → names ≡ open_names path (names_of net.layout.switches) net 0 net.tables
names_opened path net names tables named =
    named ∙ open_named path (names_of net.layout.switches) net (length-map net.layout.switches (λ (s : Switch). s.name) ∙ sym tables)

-- as many as ports
pub as_many_incoming : {R : Type 0} (remaining : R → Option (List ℕ)) (files : Option Files) (path : List ℕ) (net : Network) (names : List (List ℕ)) (all : List (Incoming R))
    → AreOpenedEnds remaining files path net names all → length all ≡ length (open_ends net)
as_many_incoming remaining files path net names all opened =
    opened.come.many ∙ opened.opened.many ∙ ap (λ (ns : List (List ℕ)). length ns) opened.named
    ∙ length-map (open_ends net) (λ (e : End). capture_name (switch_folder path (name_of (names_of net.layout.switches) e.switch)) e.port)

-- that at a place was opened, and could not be read
pub unread_given : {X : Type 0} (str : X → List ℕ) {R : Type 0} (remaining : R → Option (List ℕ)) (f : Failure) (files : Option Files) (path : List ℕ) (net : Network) (names : List X) (place : ℕ)
    (d : X)
    (all : List (Incoming R)) (before after : DeviceLog) → length net.tables ≡ length net.layout.switches → AreOpenedEnds remaining files path net (map str names) all → place < length all
    → FailsToReadOn f (str (get_or names place d)) before after → FailsToGetGiven f files path net before after
unread_given str remaining f files path net names place d all before after tables opened within fails =
    not_read_given f files path net (map str names) before after (names_opened path net (map str names) tables opened.named)
    (not_read_named f files (str (get_or names place d)) (map str names) before before after refl fails at) where
      lt : place < length names
      lt = let many = opened.come.many in let readers = opened.opened.many in omega (arith, within, many, readers, length-map names str)

      at : GetsNamed (str (get_or names place d)) files (map str names)
      at =
          let got = opened_shown remaining files (map str names) opened.readers place opened.opened in
          record {
            place = place;
            got = got.0;
            is_there = slice_get-map str names place ∙ ap (option_map str) (slice_get-get_or names place d lt);
            earlier = got.1;
          }

-- what they give is refused
given_refused : {R : Type 0} (remaining : R → Option (List ℕ)) (files : Option Files) (path : List ℕ) (net : Network) (names : List (List ℕ)) (all : List (Incoming R)) (up : Given)
    (why : NetworkRunFault) → length net.tables ≡ length net.layout.switches → AreOpenedEnds remaining files path net names all → AreGivenBy (coming remaining) net all up
    → IsUncheckedRefusal net up why → (given : Given) × HasGiven files path (names_of net.layout.switches) given × IsUncheckedRefusal net (given_up net.layout given) why
given_refused remaining files path net names all up why tables opened by refused =
    let found = gave remaining files path net names all up (length-map net.layout.switches (λ (s : Switch). s.name) ∙ sym tables) opened by in
    (found.0, found.1, subst (λ (given : Given). IsUncheckedRefusal net given why) (sym found.3) refused)

-- so there is no run of it
pub fault_given : {R : Type 0} (remaining : R → Option (List ℕ)) (f : Failure) (files : Option Files) (path : List ℕ) (net : Network) (names : List (List ℕ)) (all : List (Incoming R))
    (why : NetworkRunFault) (before after : DeviceLog) → length net.tables ≡ length net.layout.switches → AreOpenedEnds remaining files path net names all
    → IsFaultOver (coming remaining) net all (IsUncheckedRefusal net) why → IsGivenFailure (names_of net.layout.switches) f why → after ≡ before → FailsToGetGiven f files path net before after
fault_given remaining (failure.Network (network.Capture at reason name)) files path net names all (run.Capture switch port why) before after tables opened fault is same =
    let found = given_refused remaining files path net names all fault.0 (run.Capture switch port why) tables opened fault.1 fault.2 in
    let here = subst (λ (p : ℕ). IsUncheckedRefusal net (given_up net.layout found.0) (run.Capture switch p why)) (sym is.0) found.2 in
    let there = subst (λ (w : PcapFault). IsUncheckedRefusal net (given_up net.layout found.0) (run.Capture switch at w)) (sym is.1) here in
    ((found.0, switch, found.1, there, is.2), same)
fault_given remaining (failure.Network (network.Line at which name)) files path net names all (run.Line switch port number) before after tables opened fault is same =
    let found = given_refused remaining files path net names all fault.0 (run.Line switch port number) tables opened fault.1 fault.2 in
    let here = subst (λ (p : ℕ). IsUncheckedRefusal net (given_up net.layout found.0) (run.Line switch p number)) (sym is.0) found.2 in
    let there = subst (λ (k : ℕ). IsUncheckedRefusal net (given_up net.layout found.0) (run.Line switch at k)) (sym is.1) here in
    ((found.0, switch, found.1, there, is.2), same)
fault_given remaining failure.Memory files path net names all why before after tables opened fault is same = tt
fault_given remaining f files path net names all why before after tables opened fault is same = absurd is

-- no two wires go to one port, so that it is not why
pub never_wrong : {R : Type 0} (remaining : R → Option (List ℕ)) (net : Network) (readers : List R) (why : NetworkRunFault) → NoneShareAPort net
    → IsFaultOver remaining net readers (IsUncheckedRefusal net) why → why ≢ run.WrongWires
never_wrong remaining net readers run.WrongWires one_each fault = λ is. fault.2.3 one_each
never_wrong remaining net readers run.Memory one_each fault = λ is. absurd cc
never_wrong remaining net readers (run.Read place) one_each fault = λ is. absurd cc
never_wrong remaining net readers (run.Capture switch port why) one_each fault = λ is. absurd cc
never_wrong remaining net readers (run.Line switch port number) one_each fault = λ is. absurd cc

-- why there is no run of an accepted network is why there is none of any
looser : {R : Type 0} (remaining : R → Option (List ℕ)) (net : Network) (readers : List R) (why : NetworkRunFault) → IsFaultOver remaining net readers (IsRefusal net) why
    → IsFaultOver remaining net readers (IsUncheckedRefusal net) why
looser remaining net readers run.Memory fault = tt
looser remaining net readers (run.Read place) fault = fault
looser remaining net readers (run.Capture switch port why) fault = (
  fault.0,
  fault.1,
  (
    fault.2.0,
    elim fault.2.1 [
      | inl unsound ↦ inl unsound
      | inr late ↦ inr (late.0, late.1, late.2, λ none. late.3 none.0)
    ],
  ),
)
looser remaining net readers run.WrongWires fault = fault
looser remaining net readers (run.Line switch port number) fault = fault

-- what a plan's run leads to
module _ {R N : Type 0} (remaining : R → Option (List ℕ)) (contents : N → Option (List ℕ)) (readers : List R) (old new : List N) where
  abbrev Ran : NetworkPlan → List Tally → Type 0
  Ran plan counts = (given : Given) × (left : List Results) × AreGivenBy remaining (network_in plan) readers given × HasRun plan given left × AreWritten contents left old new counts

  pub ran_unchecked : {Z E : Type 0} (net : Network) (plan : NetworkPlan) (r : Result (Vec Tally Z) E) → plan ≡ Unchecked net
      → IfOk r (λ counts. (given : Given) × (came : List (List Text)) × (left : List Results) × AreGivenBy remaining net readers given × IsUncheckedRunOf net given came left
      × AreWritten contents left old new counts.items) → IfOk r (λ counts. Ran plan counts.items)
  ran_unchecked net plan (Ok counts) is ran =
      subst (λ (p : NetworkPlan). Ran p counts.items) (sym is) (ran.0, ran.2, ran.3, (ran.1, ran.4, λ accepted. absurd cc), ran.5)
  ran_unchecked net plan (Err e) is ran = tt

  pub ran_accepted : {Z E : Type 0} → RunsAreUnchecked → (net : Network) (plan : NetworkPlan) (r : Result (Vec Tally Z) E) → plan ≡ Accepted net
      → IfOk r (λ counts. (given : Given) × (came : List (List Text)) × (left : List Results) × AreGivenBy remaining net readers given × IsRunOf net given came left
      × AreWritten contents left old new counts.items) → IfOk r (λ counts. Ran plan counts.items)
  ran_accepted law net plan (Ok counts) is ran =
      subst (λ (p : NetworkPlan). Ran p counts.items) (sym is) (ran.0, ran.2, ran.3, (ran.1, law net ran.0 ran.1 ran.2 ran.4, λ accepted. ran.4), ran.5)
  ran_accepted law net plan (Err e) is ran = tt

pub fault_accepted : {R T : Type 0} (remaining : R → Option (List ℕ)) (net : Network) (plan : NetworkPlan) (readers : List R) (r : Result T NetworkRunFault) → plan ≡ Accepted net
    → IfErr r (IsFaultOver remaining net readers (IsRefusal net)) → IfErr r (IsFaultOver remaining (network_in plan) readers (IsUncheckedRefusal (network_in plan)))
fault_accepted remaining net plan readers (Ok x) is fault = tt
fault_accepted remaining net plan readers (Err why) is fault =
    subst (λ (p : NetworkPlan). IsFaultOver remaining (network_in p) readers (IsUncheckedRefusal (network_in p)) why) (sym is) (looser remaining net readers why fault)

-- what they give leads to this
-- what comes in at the ports of a network, by another name of it and of its ports
pub come_at : {R : Type 0} (remaining : R → Option (List ℕ)) (at net : Network) (ends : List End) (readers : List R) (all : List (Incoming R))
    → at ≡ net → ends ≡ open_ends net → AreComing remaining at.layout ends readers all → AreComing remaining net.layout (open_ends net) readers all
come_at remaining at net ends readers all same are come =
    subst (λ (n : Network). AreComing remaining n.layout (open_ends net) readers all) same
    (subst (λ (es : List End). AreComing remaining at.layout es readers all) are come)

pub leads_from : {R : Type 0} (remaining : R → Option (List ℕ)) (files : Option Files) (path : List ℕ) (plan : NetworkPlan) (names : List (List ℕ)) (all : List (Incoming R)) (up : Given)
    (left : List Results)
    → length (network_in plan).tables ≡ length (network_in plan).layout.switches → AreOpenedEnds remaining files path (network_in plan) names all
    → AreGivenBy (coming remaining) (network_in plan) all up → HasRun plan up left → LeadsFrom files path plan left
leads_from remaining files path plan names all up left tables opened by ran =
    let found = gave remaining files path (network_in plan) names all up (length-map (network_in plan).layout.switches (λ (s : Switch). s.name) ∙ sym tables) opened by in
    record {
      given = found.0;
      has_given = found.1;
      are_given = found.2;
      led = subst (λ (given : Given). HasRun plan given left) (sym found.3) ran;
    }

pub leads_before : (a b : Option Files) (path : List ℕ) (plan : NetworkPlan) (left : List Results) → KeepsFiles a b → LeadsFrom b path plan left → LeadsFrom a path plan left
leads_before a b path plan left keeps from = record {
  given = from.given;
  has_given = has_given_before a b path (names_of (network_in plan).layout.switches) from.given keeps from.has_given;
  are_given = from.are_given;
  led = from.led;
}

-- what was appended to new files, which were lent as a whole, is what they have
pub written_bytes : {N : Type 0} (contents : N → Option (List ℕ)) (files : Option Files) (begun new : List N) (len : ℕ) (left : List Results) → AreEmpty contents files begun → len ≡ length new
    → AreAppended contents begun new (captures_in left) → HaveBytes contents files (take len (new ++ drop (length new) begun)) (bytes_at (captures_of left))
written_bytes contents files begun new len left empty long appended =
    subst (λ news. HaveBytes contents files news (bytes_at (captures_of left))) (sym (written_back begun new len long))
    (subst (HaveBytes contents files new) (bytes_left left) (have_bytes contents files files begun new (captures_in left) (KeepsFiles-refl files) empty appended))

-- ---- why there is no run of a network

gets_given_before : (name : List ℕ) (a b : Option Files) (path : List ℕ) (net : Network) → KeepsFiles a b → GetsGiven name b path net → GetsGiven name a path net
gets_given_before name a b path net keeps s = record { place = s.place; got = s.got; is_there = s.is_there; earlier = ShowsAll-before a b _ _ keeps s.earlier }

-- nothing was put before
pub not_given_before : (f : Failure) (a b : Option Files) (path : List ℕ) (net : Network) (before after : DeviceLog) → KeepsFiles a b → FailsToGetGiven f b path net before after
    → FailsToGetGiven f a path net before after
not_given_before (failure.Get name) a b path net before after keeps h = (gets_given_before (string_bytes name) a b path net keeps h.0, h.1)
not_given_before failure.Memory a b path net before after keeps h = tt
not_given_before (failure.Network (network.Capture port why name)) a b path net before after keeps h =
    ((h.0.0, h.0.1, has_given_before a b path (names_of net.layout.switches) h.0.0 keeps h.0.2, h.0.3, h.0.4), h.1)
not_given_before (failure.Network (network.Line port number name)) a b path net before after keeps h =
    ((h.0.0, h.0.1, has_given_before a b path (names_of net.layout.switches) h.0.0 keeps h.0.2, h.0.3, h.0.4), h.1)
not_given_before f a b path net before after keeps h = absurd h

-- no write and no put fails so early
module _ (network : List ℕ) (unchecked : Bool) (input : List ℕ) (files : Option Files) (before after : DeviceLog) where
  pub never_write : FailsToLeadFrom failure.Write network unchecked input files before after → ⊥
  never_write (inl h) = elim h [
    | inl layout ↦ layout
    | inr join ↦ join.2
  ]
  never_write (inr h) = elim h.2 [
    | inl refused ↦ judged_write (names_of h.0.layout.switches) (verdict_of h.0) refused.0.1
    | inr given ↦ given.1
  ]

  pub never_put : (s : String Global) → FailsToLeadFrom (failure.Put s) network unchecked input files before after → ⊥
  never_put s (inl h) = elim h [
    | inl layout ↦ layout
    | inr join ↦ join.2
  ]
  never_put s (inr h) = elim h.2 [
    | inl refused ↦ judged_put s (names_of h.0.layout.switches) (verdict_of h.0) refused.0.1
    | inr given ↦ given.1
  ]

-- the files lead to no run, and nothing was put or written
pub no_run : (form : Form) (f : Failure) (paths : NetworkPaths) (a b : Option Files) (first after : DeviceLog) → KeepsFiles a b → (w v : Option (List ℕ)) → Keeps w v
    → FailsToLeadNetwork f paths a first after → FailsToRunNetwork f form paths (world w a first) (world v b after)
no_run form failure.Memory paths a b first after keeps w v none h = (inl keeps, none)
no_run form failure.Write paths a b first after keeps w v none h = absurd (never_write paths.network.now paths.unchecked paths.input.now a first after h)
no_run form (failure.Put s) paths a b first after keeps w v none h = absurd (never_put paths.network.now paths.unchecked paths.input.now a first after s h)
no_run form failure.Found paths a b first after keeps w v none h = ((h, keeps), none)
no_run form failure.Usage paths a b first after keeps w v none h = ((h, keeps), none)
no_run form (failure.Argument r) paths a b first after keeps w v none h = ((h, keeps), none)
no_run form (failure.Table r) paths a b first after keeps w v none h = ((h, keeps), none)
no_run form (failure.Load r) paths a b first after keeps w v none h = ((h, keeps), none)
no_run form (failure.Capture r) paths a b first after keeps w v none h = ((h, keeps), none)
no_run form (failure.PortCapture p r) paths a b first after keeps w v none h = ((h, keeps), none)
no_run form (failure.OutputCapture p r) paths a b first after keeps w v none h = ((h, keeps), none)
no_run form (failure.Network r) paths a b first after keeps w v none h = ((h, keeps), none)
no_run form (failure.Get s) paths a b first after keeps w v none h = ((h, keeps), none)
no_run form failure.Read paths a b first after keeps w v none h = ((h, keeps), none)

-- the captures were not all got, or lead to nothing
pub not_given : (form : Form) (f : Failure) (paths : NetworkPaths) (a b c : Option Files) (net seen : Network) (first before after : DeviceLog)
    → HasNetwork a paths.network.now net → seen ≡ net → (paths.unchecked ≡ false → IsAcceptedNetwork net) → KeepsFiles a b → KeepsFiles b c → before ≡ first
    → (w v : Option (List ℕ)) → Keeps w v → FailsToGetGiven f b paths.input.now seen before after → FailsToRunNetwork f form paths (world w a first) (world v c after)
not_given form f paths a b c net seen first before after has same accepted keeps further log w v none h =
    let here = subst (λ (n : Network). FailsToGetGiven f b paths.input.now n before after) same h in
    let fails = subst (λ (l : DeviceLog). FailsToGetGiven f b paths.input.now net l after) log here in
    no_run form f paths a c first after (KeepsFiles-trans a b c keeps further) w v none (inr (net, has, inr (accepted, not_given_before f a b paths.input.now net first after keeps fails)))

-- ---- what is put of a run

module _ (paths : NetworkPaths) (net : Network) (left : List Results) (names all : List (List ℕ)) (a b c : Option Files) (first before after : DeviceLog) (leads : LeadsToNetwork paths a net left)
    (named : names ≡ names_at paths.output.now (names_of net.layout.switches) (captures_of left)) (reported : all ≡ bytes_at (captures_of left)) (keeps : KeepsFiles a b) (same : before ≡ first) where
  stops_network : (name : List ℕ) → StopsAt name names all b c → StopsNetwork name paths a c
  stops_network name s = (net, left, leads, rw (named, reported) at (StopsAt-before name names all a b c keeps s))

  ends_network : (name : List ℕ) → EndsAt name names all b c before after → EndsNetwork name paths a c first after
  ends_network name e = (net, left, leads, rw (named, reported) at (EndsAt-before name names all a b c first before after keeps same e))

  -- not all captures were put
  pub not_put_network : (form : Form) (f : Failure) (w v : Option (List ℕ)) → Keeps w v → FailsToPut f names all b c before after → FailsToRunNetwork f form paths (world w a first) (world v c after)
  not_put_network form (failure.Put name) w v none h = (ends_network (string_bytes name) h, none)
  not_put_network form failure.Memory w v none (inl kept) = (inl (KeepsFiles-trans a b c keeps kept), none)
  not_put_network form failure.Memory w v none (inr h) = (inr (h.0, stops_network h.0 h.1), none)
  not_put_network form f w v none h = absurd h

  -- all were
  pub puts_network : PutsFiles b c names all → after ≡ settled_after (length names) before → (w v : Option (List ℕ)) → PutsNetwork paths (world w a first) (world v c after) net left
  puts_network put last w v = (leads, rw (named, reported) at (PutsFiles-before a b c names all keeps put), rw named at (last ∙ ap (λ (l : DeviceLog). settled_after (length names) l) same))

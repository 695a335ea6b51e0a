-- What is put of the trace of a network's run: of one more switch, and all of it; and why it is not.
use Rattle.std.proofs.Common.{◌≡◌, ℕ, suc, ◌+◌, ◌<◌, List, [], ◌∷◌, ◌++◌, length, map, take, get_or, Option, Result, Ok, Err, Bor, Vec, String, Global, string_bytes, inl, inr}
use Rattle.std.proofs.Common.{refl, sym, ap, subst, ◌∙◌, arith}
use Rattle.std.specs.Prelude.{MatchResult}
use Rattle.std.proofs.lemmas.List.{append_assoc, append-nil, flat_map_more, length-map, length-take-le, map-append, take_more}
use Rattle.afdx_core.specs.State.{State}
use Rattle.afdx_count.specs.Tally.{Tally}
use Rattle.afdx_trace.specs.declared.shown.Selection.{Selection}
use Rattle.afdx_network_check.specs.Net.{Network}
use Rattle.afdx_network_report.specs.Lines.{Names}
use Rattle.afdx_arguments.specs.declared.request.NetworkInputs.{NetworkInputs}
use Rattle.afdx_arguments.specs.declared.request.NetworkPaths.{NetworkPaths}
use Rattle.afdx_messages.specs.declared.failure.Failure.{Failure}
use Rattle.afdx_messages.specs.declared.failure.Failure.TheVariants as failure
use Rattle.afdx_folder.specs.Files.{Files, DeviceLog, KeepsFiles, PutsFiles, settled_after}
use Rattle.afdx_serve.specs.declared.network_watched.Planned.{Planned}
use Rattle.afdx_serve.specs.Runs.{StopsAt, EndsAt, FailsToPut}
use Rattle.afdx_serve.specs.Networks.{names_of, HasNetwork}
use Rattle.afdx_serve.specs.NetworkRuns.{switch_folder, FailsToLeadFrom}
use Rattle.afdx_serve.specs.NetworkTraces.{network_trace_names, switch_texts, network_trace_texts, IsNetworkTraceIn, StopsNetworkTrace, EndsNetworkTrace, PutsNetworkTrace, FailsToTraceNetwork}
use Rattle.afdx_serve.specs.Traces.{trace_names}
use Rattle.afdx_serve.specs.Inner.NetworkRunning.{network_in}
use Rattle.afdx_serve.specs.Inner.Watching.{IsPlanned, HasTraced}
use Rattle.afdx_serve.proofs.CaptureLemmas.{StopsAt-before, EndsAt-before}
use Rattle.afdx_serve.proofs.FileLemmas.{KeepsFiles-trans, PutsFiles-before}
use Rattle.afdx_serve.proofs.NetworkMeasureLemmas.{watched_before}
use Rattle.afdx_serve.proofs.NetworkRunLemmas.{never_put}
use Rattle.afdx_serve.proofs.WatchLemmas.{named_switches}

-- ---- one more switch

-- its names
pub names_more : (output : List ℕ) (names : List (String Global)) (i : ℕ) (d : String Global) (old own new : List (String Global)) → i < length names → new ≡ old ++ own
    → map string_bytes old ≡ network_trace_names output (map string_bytes (take i names))
    → map string_bytes own ≡ trace_names (switch_folder output (string_bytes (get_or names i d)))
    → map string_bytes new ≡ network_trace_names output (map string_bytes (take (i + 1) names))
names_more output names i d old own new lt grown was more =
    let str : String Global → List ℕ = λ s. string_bytes s in
    let of : List ℕ → List (List ℕ) = λ name. trace_names (switch_folder output name) in
    let before = map str (take i names) in
    ap (map str) grown ∙ map-append str old own ∙ ap (λ (ns : Names). ns ++ map str own) was ∙ ap (λ (ns : Names). network_trace_names output before ++ ns) more
    ∙ flat_map_more of [] before (str (get_or names i d))
    ∙ ap (network_trace_names output) (sym (map-append str (take i names) (get_or names i d ∷ [])) ∙ ap (map str) (sym (take_more names i d lt)))

-- its texts
pub two_more : {Z : Type 0} (old mid new : List (Vec ℕ Z)) (a b : Vec ℕ Z) (x y : List ℕ) → mid ≡ old ++ a ∷ [] → new ≡ mid ++ b ∷ [] → a.items ≡ x → b.items ≡ y
    → map (λ (v : Vec ℕ Z). v.items) new ≡ map (λ (v : Vec ℕ Z). v.items) old ++ x ∷ y ∷ []
two_more {Z} old mid new a b x y first second ax by =
    let items : Vec ℕ Z → List ℕ = λ v. v.items in
    ap (map items) (second ∙ ap (λ (l : List (Vec ℕ Z)). l ++ b ∷ []) first ∙ append_assoc old (a ∷ []) (b ∷ [])) ∙ map-append items old (a ∷ b ∷ [])
    ∙ ap (λ (l : List ℕ). map items old ++ l ∷ b.items ∷ []) ax ∙ ap (λ (l : List ℕ). map items old ++ x ∷ l ∷ []) by

texts-push : (selection : Selection) (firsts : List (List (Option ℕ))) (runs : List State) (own : List (Option ℕ)) (s : State) → length firsts ≡ length runs
    → network_trace_texts selection (firsts ++ own ∷ []) (runs ++ s ∷ []) ≡ network_trace_texts selection firsts runs ++ switch_texts selection own s.run
texts-push selection [] [] own s same = append-nil (switch_texts selection own s.run)
texts-push selection [] (r ∷ runs) own s same = absurd (omega (arith, same))
texts-push selection (f ∷ firsts) [] own s same = absurd (omega (arith, same))
texts-push selection (f ∷ firsts) (r ∷ runs) own s same =
    ap (λ (more : List (List ℕ)). switch_texts selection f r.run ++ more) (texts-push selection firsts runs own s (omega (arith, same)))
    ∙ sym (append_assoc (switch_texts selection f r.run) (network_trace_texts selection firsts runs) (switch_texts selection own s.run))

pub texts_more : (selection : Selection) (firsts : List (List (Option ℕ))) (runs : List State) (i : ℕ) (f : List (Option ℕ)) (s : State) (old new : List (List ℕ))
    → length firsts ≡ length runs → i < length runs → old ≡ network_trace_texts selection (take i firsts) (take i runs)
    → new ≡ old ++ switch_texts selection (get_or firsts i f) (get_or runs i s).run → new ≡ network_trace_texts selection (take (i + 1) firsts) (take (i + 1) runs)
texts_more selection firsts runs i f s old new same lt was grown =
    let within : i < length firsts = omega (arith, same, lt) in
    let many = length-take-le i firsts (omega (arith, within)) ∙ sym (length-take-le i runs (omega (arith, lt))) in
    grown ∙ ap (λ (l : List (List ℕ)). l ++ switch_texts selection (get_or firsts i f) (get_or runs i s).run) was
    ∙ sym (texts-push selection (take i firsts) (take i runs) (get_or firsts i f) (get_or runs i s) many)
    ∙ ap (λ (fs : List (List (Option ℕ))). network_trace_texts selection fs (take i runs ++ get_or runs i s ∷ [])) (sym (take_more firsts i f within))
    ∙ ap (network_trace_texts selection (take (i + 1) firsts)) (sym (take_more runs i s lt))

-- ---- there is a name for each text

two_each : (output : List ℕ) (names : Names) (selection : Selection) (firsts : List (List (Option ℕ))) (runs : List State) → length names ≡ length runs → length firsts ≡ length runs
    → length (network_trace_texts selection firsts runs) ≡ length (network_trace_names output names)
two_each output [] selection [] [] many same = refl
two_each output (n ∷ names) selection (f ∷ firsts) (r ∷ runs) many same =
    ap (λ count. suc (suc count)) (two_each output names selection firsts runs (omega (arith, many)) (omega (arith, same)))
two_each output [] selection firsts (r ∷ runs) many same = absurd (omega (arith, many))
two_each output (n ∷ names) selection firsts [] many same = absurd (omega (arith, many))
two_each output names selection [] (r ∷ runs) many same = absurd (omega (arith, same))
two_each output names selection (f ∷ firsts) [] many same = absurd (omega (arith, same))

pub as_many_texts : (inputs : NetworkInputs) (a b : Option Files) (path output : List ℕ) (p : Planned) (texts : List (List ℕ)) → IsPlanned inputs a p → HasTraced b path (network_in p.plan) texts
    → length texts ≡ length (network_trace_names output (map string_bytes p.names.items))
as_many_texts inputs a b path output p texts planned t =
    let runs = map (λ (both : Tally × State). both.1) t.switches in
    let named = length-map p.names.items (λ (s : String Global). string_bytes s) ∙ named_switches inputs a b path p t.switches t.origins planned t.watched
    ∙ sym (length-map t.switches (λ (both : Tally × State). both.1)) in
    ap (λ (l : List (List ℕ)). length l) t.texts_are ∙ two_each output (map string_bytes p.names.items) t.selection t.firsts runs named t.numbered.many

-- ---- all of it

-- what was planned of inputs of these paths, and what its run led to
pub is_trace : (paths : NetworkPaths) (inputs : NetworkInputs) (a b : Option Files) (p : Planned) (texts : List (List ℕ)) → inputs.network ≡ paths.network → inputs.input ≡ paths.input
    → inputs.unchecked ≡ paths.unchecked → IsPlanned inputs a p → KeepsFiles a b → HasTraced b paths.input.now (network_in p.plan) texts → IsNetworkTraceIn paths a (network_in p.plan) texts
is_trace paths inputs a b p texts network input unchecked planned keeps t = record {
  switches = t.switches;
  runs = map (λ (both : Tally × State). both.1) t.switches;
  firsts = t.firsts;
  selection = t.selection;
  traces = record {
    origins = t.origins;
    has_network = subst (λ (path : Bor (List ℕ)). HasNetwork a path.now (network_in p.plan)) network planned.has_network;
    watched = watched_before a b paths.input.now (network_in p.plan) t.switches t.origins keeps t.watched;
    accepted = λ checked. planned.accepted (unchecked ∙ checked);
  };
  runs_are = refl;
  numbered = t.numbered;
  whole = t.whole;
  texts_are = t.texts_are;
}

-- the files lead to no run, and nothing was put
pub not_led_to_trace : (f : Failure) (paths : NetworkPaths) (a b : Option Files) (first after : DeviceLog) → KeepsFiles a b
    → FailsToLeadFrom f paths.network.now paths.unchecked paths.input.now a first after → FailsToTraceNetwork f paths a b first after
not_led_to_trace (failure.Put s) paths a b first after keeps h = absurd (never_put paths.network.now paths.unchecked paths.input.now a first after s h)
not_led_to_trace failure.Memory paths a b first after keeps h = inl keeps
not_led_to_trace f paths a b first after keeps h = (h, keeps)

-- what was traced was put, or not all of it
module _ (paths : NetworkPaths) (net : Network) (names texts : List (List ℕ)) (a b c : Option Files) (first before after : DeviceLog) (is : IsNetworkTraceIn paths a net texts)
    (named : names ≡ network_trace_names paths.output.now (names_of net.layout.switches)) (keeps : KeepsFiles a b) (same : before ≡ first) where
  stops : (name : List ℕ) → StopsAt name names texts b c → StopsNetworkTrace name paths a c
  stops name s = (net, texts, is, subst (λ (ns : Names). StopsAt name ns texts a c) named (StopsAt-before name names texts a b c keeps s))

  ends : (name : List ℕ) → EndsAt name names texts b c before after → EndsNetworkTrace name paths a c first after
  ends name e = (net, texts, is, subst (λ (ns : Names). EndsAt name ns texts a c first after) named (EndsAt-before name names texts a b c first before after keeps same e))

  not_put : (f : Failure) → FailsToPut f names texts b c before after → FailsToTraceNetwork f paths a c first after
  not_put (failure.Put name) h = ends (string_bytes name) h
  not_put failure.Memory (inl kept) = inl (KeepsFiles-trans a b c keeps kept)
  not_put failure.Memory (inr h) = inr (h.0, stops h.0 h.1)
  not_put _ h = absurd h

  all_put : PutsFiles b c names texts → after ≡ settled_after (length names) before → PutsNetworkTrace paths a c first after
  all_put put last = (
    net,
    texts,
    is,
    subst (λ (ns : Names). PutsFiles a c ns texts) named (PutsFiles-before a b c names texts keeps put),
    last ∙ ap (λ (ns : Names). settled_after (length ns) before) named
        ∙ ap (λ (l : DeviceLog). settled_after (length (network_trace_names paths.output.now (names_of net.layout.switches))) l) same,
  )

  pub put_or_not : {T : Type 0} (r : Result T Failure) → MatchResult r (λ _. PutsFiles b c names texts × (after ≡ settled_after (length names) before)) (λ f. FailsToPut f names texts b c before after)
      → MatchResult r (λ _. PutsNetworkTrace paths a c first after) (λ f. FailsToTraceNetwork f paths a c first after)
  put_or_not (Ok x) h = all_put h.0 h.1
  put_or_not (Err f) h = not_put f h

-- What is reported of the run of a network of which nothing is put: one more end, and one more switch.
use Rattle.std.proofs.Common.{◌≡◌, ℕ, ◌+◌, ◌<◌, true, false, Option, List, [], ◌∷◌, ◌++◌, length, map, take, get_or, Result, Ok, Err, Vec, String, Global, string_bytes}
use Rattle.std.proofs.Common.{refl, ap, sym, ◌∙◌, subst, arith}
use Rattle.std.specs.Prelude.{IfOk}
use Rattle.std.specs.List.Sorted.{IsPermutation, IsSorted}
use Rattle.std.proofs.lemmas.List.{append_assoc, append-nil, length-append, length-map, take_more}
use Rattle.afdx_core.specs.State.{State}
use Rattle.afdx_count.specs.Tally.{Tally}
use Rattle.afdx_measure.specs.declared.delays.Delays.{Delays}
use Rattle.afdx_session.specs.Texts.{Text}
use Rattle.afdx_session.specs.Outcome.{Results}
use Rattle.afdx_network_check.specs.declared.exit.Exit.{Exit}
use Rattle.afdx_network_check.specs.declared.ways.Way.{Way}
use Rattle.afdx_wiring.specs.File.{Switch}
use Rattle.afdx_network_check.specs.Net.{Network}
use Rattle.afdx_network_check.specs.Ways.{exits_of, by_link, AreWaysOf}
use Rattle.afdx_network.specs.declared.outage.Incoming.{Incoming}
use Rattle.afdx_network.specs.Given.{AreGivenBy}
use Rattle.afdx_network.specs.Outage.{coming}
use Rattle.afdx_network.specs.Runs.{Given, IsUncheckedRunOf}
use Rattle.afdx_network.specs.Watched.{AreEnded, HaveSent}
use Rattle.afdx_folder.specs.Files.{Files, KeepsFiles}
use Rattle.afdx_origins.specs.Origins.{Origins, IsSummary}
use Rattle.afdx_network_report.specs.Lines.{Names, name_of}
use Rattle.afdx_network_report.specs.declared.link_ends.LinkEnd.{LinkEnd}
use Rattle.afdx_network_report.specs.LinkEnds.{link_end_of}
use Rattle.afdx_serve.specs.Networks.{names_of}
use Rattle.afdx_serve.specs.NetworkMeasures.{unchecked_end, AreEndsOf, HaveEndTexts, said_of, WatchesFrom}
use Rattle.afdx_serve.specs.Inner.NetworkRunning.{AreOpenedEnds}
use Rattle.afdx_serve.proofs.GivenLemmas.{gave}
use Rattle.afdx_serve.proofs.NetworkRunLemmas.{has_given_before}

-- ---- ends

text_more : (said : LinkEnd → Delays → List ℕ) (o : Origins) (ends : List LinkEnd) (e : LinkEnd) (d : Delays) (text : List ℕ) → HaveEndTexts said o ends text
    → IsSummary o.net o.sent e.link e.to d → HaveEndTexts said o (ends ++ e ∷ []) (text ++ said e d)
text_more said o [] e d text is summary = (d, [], summary, refl, ap (λ (t : List ℕ). t ++ said e d) is ∙ sym (append-nil (said e d)))
text_more said o (x ∷ ends) e d text are summary =
    let own = said e d in
    (are.0, are.1 ++ own, are.2, text_more said o ends e d are.1 are.3 summary, ap (λ (t : List ℕ). t ++ own) are.4 ∙ append_assoc (said x are.0) are.1 own)

-- that at a place
pub text_at : (said : LinkEnd → Delays → List ℕ) (o : Origins) (ends : List LinkEnd) (i : ℕ) (e : LinkEnd) (d : Delays) (old new : List ℕ) → i < length ends
    → HaveEndTexts said o (take i ends) old → IsSummary o.net o.sent (get_or ends i e).link (get_or ends i e).to d → new ≡ old ++ said (get_or ends i e) d
    → HaveEndTexts said o (take (i + 1) ends) new
text_at said o ends i e d old new lt texts summary grown =
    subst (λ (es : List LinkEnd). HaveEndTexts said o es new) (sym (take_more ends i e lt))
    (subst (λ (t : List ℕ). HaveEndTexts said o (take i ends ++ get_or ends i e ∷ []) t) (sym grown) (text_more said o (take i ends) (get_or ends i e) d old texts summary))

-- those of an accepted network
pub accepted_ends : {Z E : Type 0} (net : Network) (ways : List Way) (r : Result (Vec LinkEnd Z) E) → AreWaysOf net ways → IfOk r (λ ends. ends.items ≡ map link_end_of ways)
    → IfOk r (λ ends. AreEndsOf true net ends.items)
accepted_ends net ways (Ok ends) are is = (ways, are, is)
accepted_ends net ways (Err e) are is = tt

-- and of one of which nothing was checked
pub unchecked_ends : {Z E : Type 0} (net : Network) (exits : List Exit) (r : Result (Vec LinkEnd Z) E) → IsPermutation (exits_of net) exits → IsSorted by_link exits
    → IfOk r (λ ends. ends.items ≡ map (unchecked_end net) exits) → IfOk r (λ ends. AreEndsOf false net ends.items)
unchecked_ends net exits (Ok ends) all order is = (exits, all, order, is)
unchecked_ends net exits (Err e) all order is = tt

-- ---- the run

-- what opened captures give leads to it
pub watches_from : {R : Type 0} (remaining : R → Option (List ℕ)) (files : Option Files) (path : List ℕ) (net : Network) (names : List (List ℕ)) (all : List (Incoming R)) (up : Given)
    (came : List (List Text)) (left : List Results) (switches : List (Tally × State)) (o : Origins) → length net.tables ≡ length net.layout.switches → AreOpenedEnds remaining files path net names all
    → AreGivenBy (coming remaining) net all up → IsUncheckedRunOf net up came left → AreEnded net.tables came left switches → HaveSent net switches o → WatchesFrom files path net switches o
watches_from remaining files path net names all up came left switches o tables opened by ran ended sent =
    let found = gave remaining files path net names all up (length-map net.layout.switches (λ (s : Switch). s.name) ∙ sym tables) opened by in
    record {
      given = found.0;
      came = came;
      left = left;
      has_given = found.1;
      are_given = found.2;
      led = subst (λ (given : Given). IsUncheckedRunOf net given came left) (sym found.3) ran;
      ended = ended;
      sent = sent;
    }

pub watched_before : (a b : Option Files) (path : List ℕ) (net : Network) (switches : List (Tally × State)) (o : Origins) → KeepsFiles a b → WatchesFrom b path net switches o
    → WatchesFrom a path net switches o
watched_before a b path net switches o keeps w = record {
  given = w.given;
  came = w.came;
  left = w.left;
  has_given = has_given_before a b path (names_of net.layout.switches) w.given keeps w.has_given;
  are_given = w.are_given;
  led = w.led;
  ended = w.ended;
  sent = w.sent;
}

-- ---- switches

pub none_said : (said : List ℕ → Tally → State → List ℕ) (names : Names) → said_of said names [] ≡ []
none_said said [] = refl
none_said said (name ∷ names) = refl

said_more : (said : List ℕ → Tally → State → List ℕ) (names : Names) (switches : List (Tally × State)) (both : Tally × State) → length switches < length names
    → said_of said names (switches ++ both ∷ []) ≡ said_of said names switches ++ said (name_of names (length switches)) both.0 both.1
said_more said [] switches both lt = absurd (omega (arith, lt))
said_more said (name ∷ names) [] both lt =
    ap (λ (more : List ℕ). said name both.0 both.1 ++ more) (none_said said names) ∙ append-nil (said name both.0 both.1)
said_more said (name ∷ names) (x ∷ switches) both lt =
    ap (λ (more : List ℕ). said name x.0 x.1 ++ more) (said_more said names switches both (omega (arith, lt)))
    ∙ sym (append_assoc (said name x.0 x.1) (said_of said names switches) (said (name_of names (length switches)) both.0 both.1))

-- a text with one more of them, whose name is at its place
pub one_more_said_of : (said : List ℕ → Tally → State → List ℕ) (names : Names) (switches : List (Tally × State)) (both : Tally × State) (switch : ℕ) (start old new name : List ℕ)
    → switch ≡ length switches → switch < length names → name ≡ name_of names switch → old ≡ start ++ said_of said names switches → new ≡ old ++ said name both.0 both.1
    → new ≡ start ++ said_of said names (switches ++ both ∷ [])
one_more_said_of said names switches both switch start old new name count lt named was grown =
    let own : List ℕ = said (name_of names (length switches)) both.0 both.1 in
    grown ∙ ap (λ (n : List ℕ). old ++ said n both.0 both.1) (named ∙ ap (name_of names) count)
    ∙ ap (λ (t : List ℕ). t ++ own) was ∙ append_assoc start (said_of said names switches) own
    ∙ ap (λ (t : List ℕ). start ++ t) (sym (said_more said names switches both (omega (arith, count, lt))))

-- ---- switches that are taken one after the other

-- there is a name for the next
pub next_named : {X : Type 0} (yielded rest all : List X) (x : X) (names : List (String Global)) → yielded ++ x ∷ rest ≡ all → length names ≡ length all
    → length yielded < length (map string_bytes names)
next_named {X} yielded rest all x names whole many =
    omega (arith, many, length-map names (λ (s : String Global). string_bytes s), ap (λ (l : List X). length l) whole, length-append yielded (x ∷ rest))

-- all were taken
pub all_taken : {X : Type 0} (yielded rest all : List X) → yielded ++ rest ≡ all → length rest ≡ 0 → yielded ≡ all
all_taken yielded [] all whole none = sym (append-nil yielded) ∙ whole
all_taken yielded (x ∷ rest) all whole none = absurd (omega (arith, none))

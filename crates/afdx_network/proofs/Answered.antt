-- What is answered where nothing is left of a run: it is one of the network, and all that left is in the files.
use Rattle.std.proofs.Common.{◌≡◌, ℕ, List, [], ◌∷◌, ◌++◌, map, slice_get, Option, refl, ap, sym, ◌∙◌, subst}
use Rattle.std.specs.List.{AllZip}
use Rattle.std.proofs.lemmas.List.{append-nil, map-append}
use Rattle.std.proofs.lemmas.List.Elements.{recursion_from_All}
use Rattle.std.proofs.lemmas.Option.{slice_get-map}
use Rattle.std.specs.Option.{option_map}
use Rattle.afdx_table.specs.WellFormed.{IsWellFormed}
use Rattle.afdx_count.specs.Tally.{Tally}
use Rattle.afdx_count.specs.Run.{counts_of}
use Rattle.afdx_merging.specs.Merge.{Arrival, same_clock}
use Rattle.afdx_merging.specs.Read.{AreMerged}
use Rattle.afdx_session.specs.Texts.{Text}
use Rattle.afdx_session.specs.Output.{rows_of}
use Rattle.afdx_session.specs.Outcome.{Results}
use Rattle.afdx_session.specs.Written.{AreAppended}
use Rattle.afdx_paced.specs.Paced.{arrivals}
use Rattle.afdx_paced.specs.Laws.{OutGoesOn, OutIsInOrder}
use Rattle.afdx_wiring.specs.declared.layout.End.{End}
use Rattle.afdx_network_check.specs.Net.{Network}
use Rattle.afdx_network.specs.declared.intake.Intake.{Intake}
use Rattle.afdx_network.specs.Runs.{Given, IsUncheckedRunOf}
use Rattle.afdx_network.specs.Given.{open_ends, AreGivenBy}
use Rattle.afdx_network.specs.Written.{captures_in, AreWritten as ArePut}
use Rattle.afdx_network.specs.Inner.Intake.{HasTakenAll, AreGivenSoFar, AreOverLines}
use Rattle.afdx_network.specs.Inner.Outputs.{HaveGone}
use Rattle.afdx_network.specs.Inner.Sites.{Site, HasLed, counts_at, texts_of}
use Rattle.afdx_network.specs.Inner.Windows.{HasRunThrough, IsRunOver}
use Rattle.afdx_network.proofs.AllLeft.{is_unchecked_run, are_formed}
use Rattle.afdx_network.proofs.Carried.{AreWritten}
use Rattle.afdx_network.proofs.Feeding.{Unique}
use Rattle.afdx_network.proofs.Whole.{AreOfTheirPlaces, whole, lines_kept, regiven}

-- what a switch from which all has left has led to
abbrev pub led_of : Site → Results
led_of s = record { captures = s.left; counts = counts_of s.paced.table (rows_of s.paced.table (arrivals s.paced)) }

pub all_led : (sites : List Site) → AllZip HasLed sites (map led_of sites)
all_led [] = tt
all_led (s ∷ sites) = (record { captures = refl; counts = refl }, all_led sites)

same_counts : (sites : List Site) → counts_at sites ≡ map (λ (r : Results). r.counts) (map led_of sites)
same_counts [] = refl
same_counts (s ∷ sites) = ap (λ (ts : List Tally). counts_of s.paced.table (rows_of s.paced.table (arrivals s.paced)) ∷ ts) (same_counts sites)

same_texts : (sites : List Site) → texts_of sites ≡ map (λ (text : Text). text.1) (captures_in (map led_of sites))
same_texts [] = refl
same_texts (s ∷ sites) =
    ap (λ (ts : List (List ℕ)). map (λ (text : Text). text.1) s.left ++ ts) (same_texts sites)
    ∙ sym (map-append (λ (text : Text). text.1) s.left (captures_in (map led_of sites)))

are_put : {F : Type 0} (contents : F → Option (List ℕ)) (sites : List Site) (old new : List F) → HaveGone contents old new (texts_of sites)
    → AreAppended contents old new (captures_in (map led_of sites))
are_put {F} contents sites old new gone = (
  gone.long,
  λ place o n text first now is.
      gone.each place o n text.1 first now
      (ap (λ (ts : List (List ℕ)). slice_get ts place) (same_texts sites) ∙ slice_get-map (λ (x : Text). x.1) (captures_in (map led_of sites)) place ∙ ap (option_map (λ (x : Text). x.1)) is),
)

-- nothing is left of what the readers give
pub run_over : {R F : Type 0} → Unique → (remaining : R → Option (List ℕ)) (contents : F → Option (List ℕ)) (net : Network) (first now : List R) (i : Intake) (old new : List F) (sites : List Site)
    (h : HasRunThrough remaining contents net first now i old new sites) → HasTakenAll remaining net first i h.through.came → IsRunOver remaining contents net first old new sites
run_over unique remaining contents net first now i old new sites h all = record {
  given = all_given.0;
  given_by = all_given.1;
  lines = lines_kept unique net all_given.0 h.through.came all_given.3 over;
  carried = regiven unique net h.through.given all_given.0 h.through.came sites h.through.given_is all_given.2 h.through.carried;
  sent = h.through.sent;
  one_each = h.one_each;
  going = h.going;
  files = h.files;
  gone = h.gone;
} where
  merged : AreMerged remaining (map (λ (e : End). same_clock) (open_ends net)) first h.through.came
  merged =
      subst (AreMerged remaining (map (λ (e : End). same_clock) (open_ends net)) first)
      (ap (λ (more : List Arrival). h.through.came ++ more) (all.none h.through.none) ∙ append-nil h.through.came) all.merged

  over : AreOverLines net h.through.came
  over = subst (AreOverLines net) (ap (λ (more : List Arrival). h.through.came ++ more) (all.none h.through.none) ∙ append-nil h.through.came) all.lines

  all_given : (given : Given) × AreGivenBy remaining net first given × AreGivenSoFar net h.through.came given × AreOfTheirPlaces net h.through.came given
  all_given = whole remaining net first h.through.came merged (recursion_from_All IsWellFormed net.tables (are_formed net h.through.given sites h.through.carried))

-- a run of the network over all that the readers give
pub record IsAnswered {R F : Type 0} (remaining : R → Option (List ℕ)) (contents : F → Option (List ℕ)) (net : Network) (first : List R) (old new : List F) (counts : List Tally) : Type 0 where
  pub given : Given
  pub came : List (List Text)
  pub left : List Results
  pub given_by : AreGivenBy remaining net first given
  pub run : IsUncheckedRunOf net given came left
  pub put : ArePut contents left old new counts

-- once the last part is in the files, too
pub answered : {R F : Type 0} → OutGoesOn → OutIsInOrder → AreWritten → (remaining : R → Option (List ℕ)) (contents : F → Option (List ℕ)) (net : Network) (first : List R) (old now new : List F)
    (sites : List Site) (counts : List Tally) → IsRunOver remaining contents net first old now sites → counts ≡ counts_at sites → HaveGone contents old new (texts_of sites)
    → IsAnswered remaining contents net first old new counts
answered on order written remaining contents net first old now new sites counts h counted gone =
    let run = is_unchecked_run on order written net h.given sites (map led_of sites) h.carried h.lines h.one_each h.sent (all_led sites) in
    record {
      given = h.given;
      came = run.0;
      left = map led_of sites;
      given_by = h.given_by;
      run = run.1;
      put = record { counted = counted ∙ same_counts sites; appended = are_put contents sites old new gone };
    }

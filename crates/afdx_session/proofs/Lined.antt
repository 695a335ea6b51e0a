-- Records that keep to the lines of their ports, and outputs that always do.
use Rattle.std.proofs.Common.{◌≡◌, ℕ, suc, ◌+◌, ◌≤◌, ◌==◌, Bool, true, false, cond, List, [], ◌∷◌, length, map, filter, get_or, Option, refl, ap, sym, ◌∙◌, subst, arith}
use Rattle.std.specs.Prelude.{All, AllPairs, Contains, IfSome}
use Rattle.std.specs.List.{AllByRecursion, AllZip}
use Rattle.std.proofs.lemmas.List.Elements.{All-map, All-from_recursion, Contains-get_or}
use Rattle.std.proofs.lemmas.List.Kept.{AllPairs-cons}
use Rattle.afdx_units.specs.Line.{size_of, cost_of}
use Rattle.afdx_pcap.specs.Record.{Record}
use Rattle.afdx_table.specs.declared.rows.PortRow.{PortRow}
use Rattle.afdx_table.specs.Link.{Link, leads_to}
use Rattle.afdx_table.specs.Content.{Content}
use Rattle.afdx_table.specs.WellFormed.{IsWellFormed}
use Rattle.afdx_filter.specs.Frame.{frame_of}
use Rattle.afdx_serial.specs.Serial.{KeepsToLineWithin}
use Rattle.afdx_account.specs.declared.frame.Frame.{Frame}
use Rattle.afdx_port.specs.declared.Sent.{Sent}
use Rattle.afdx_port.specs.Inner.Order.{SendingsKeepToTheLine}
use Rattle.afdx_port.specs.Inner.Admission.{AdmittedInParts}
use Rattle.afdx_load.specs.Accepted.{IsAccepted}
use Rattle.afdx_isolation.specs.Inner.LineTable.{AreLesser, IsInLesserBound}
use Rattle.afdx_core.specs.Rows.{row_of, frame_of_row}
use Rattle.afdx_core.specs.Isolation.{IsRun, AcceptedTablesIsolate, IsIsolatedRun}
use Rattle.afdx_core.specs.declared.step.Row.{Row}
use Rattle.afdx_core.specs.Lined.{frames_in, RowsKeepToLines, LinedRunsKeepBounds}
use Rattle.afdx_core.specs.Merge.{Arrival, Capture, records_of, merged}
use Rattle.afdx_core.specs.Inner.Merge.{part_at, ByStampIsOrdered, MergedIsAMerge}
use Rattle.afdx_session.specs.Texts.{Text, AreOfPorts}
use Rattle.afdx_session.specs.Reading.{AreCaptures}
use Rattle.afdx_session.specs.Output.{rows_of, sent_by, bytes_in, written, output_of}
use Rattle.afdx_session.specs.Outcome.{Results, IsOutcome}
use Rattle.afdx_session.specs.Headline.{own_records, passed_records, records_for}
use Rattle.afdx_session.specs.Lined.{OutputsKeepToLines, IsInLesserTime, EndsInLesserTime, CapturesKeepToLines, LinedOutcomesKeepBounds, LinedSentKeepBounds, OutcomesIsolate, PlainHeadlines}
use Rattle.afdx_session.proofs.Isolated.{Ground, IsOffered, is_own, sent_is_offered}
use Rattle.afdx_session.proofs.PortParts.{part_is_read}
use Rattle.afdx_session.proofs.Arriving.{run_of, arrivals_are_a_run}
use Rattle.afdx_session.proofs.Leaving.{sent_is, lesser_are, copies_in_lesser, headline}

pairs_head : {X : Type 0} (R : X → X → Type 0) (x : X) (xs : List X) → AllPairs R (x ∷ xs) → All (R x) xs
pairs_head R x xs h k d lt = h 0 (suc k) d (omega arith) (omega (arith, lt))

pairs_tail : {X : Type 0} (R : X → X → Type 0) (x : X) (xs : List X) → AllPairs R (x ∷ xs) → AllPairs R xs
pairs_tail R x xs h i j d lt within = h (suc i) (suc j) d (omega (arith, lt)) (omega (arith, within))

no_pairs : {X : Type 0} (R : X → X → Type 0) → AllPairs R []
no_pairs R i j d lt within = absurd (omega (arith, within))

pairs_map : {X Y : Type 0} (R : Y → Y → Type 0) (f : X → Y) (xs : List X) → AllPairs (λ a b. R (f a) (f b)) xs → AllPairs R (map f xs)
pairs_map R f [] h = no_pairs R
pairs_map R f (x ∷ xs) h =
    AllPairs-cons R (f x) (map f xs) (All-map (R (f x)) f xs (pairs_head (λ a b. R (f a) (f b)) x xs h)) (pairs_map R f xs (pairs_tail (λ a b. R (f a) (f b)) x xs h))

-- ---- what leaves

-- where a fact of each later one helps
pairs_with : {X : Type 0} (P : X → Type 0) (R S : X → X → Type 0) → ((a b : X) → P b → R a b → S a b) → (xs : List X) → AllByRecursion P xs → AllPairs R xs → AllPairs S xs
pairs_with P R S step [] all h = no_pairs S
pairs_with P R S step (x ∷ xs) all h =
    let behind = pairs_head R x xs h in
    let facts = All-from_recursion P xs all.1 in
    AllPairs-cons S x xs (λ k d lt. step x (get_or xs k d) (facts k d lt) (behind k d lt)) (pairs_with P R S step xs all.1 (pairs_tail R x xs h))

pub outputs_keep : Ground → SendingsKeepToTheLine → OutputsKeepToLines
unfolding sent_by
outputs_keep ground sends t arrivals p =
    let sent = sent_by t arrivals p in
    let R = λ (f g : Frame). f.stamp + cost_of p.speed g.size ≤ g.stamp in
    pairs_map R frame_of (output_of t arrivals p)
    (pairs_map (λ (a b : Record). a.stamp + cost_of p.speed (size_of (length b.bytes)) ≤ b.stamp) (written arrivals) sent
    (pairs_with (λ (s : Sent). IsOffered t arrivals p.id s.item) (λ (a b : Sent). a.end + cost_of p.speed b.item.size ≤ b.end)
    (λ (a b : Sent). a.end + cost_of p.speed (size_of (length (written arrivals b).bytes)) ≤ b.end)
    (λ a b offer h.
    let c = offer.1 in
    let size : b.item.size ≡ size_of (length (written arrivals b).bytes) = c.size ∙ ap (λ (o : Option Arrival). size_of (length (bytes_in o))) (sym c.at) in
    subst (λ (n : ℕ). a.end + cost_of p.speed n ≤ b.end) size h) sent (sent_is_offered t ground arrivals p) (sends _ 0 _)))

-- ---- what comes

-- the frames of the arrivals at a port are those of its records
frames_are : (t : Content) (n : ℕ) (arrivals : List Arrival) → frames_in n (rows_of t arrivals) ≡ map frame_of (part_at n arrivals)
frames_are t n [] = refl
frames_are t n (a ∷ arrivals) = by (a.port == n) (frames_are t n arrivals) where
  by : (b : Bool) → frames_in n (rows_of t arrivals) ≡ map frame_of (part_at n arrivals)
      → map frame_of_row (cond b (row_of t a.port a.frame ∷ filter (λ (r : Row). r.in_port == n) (rows_of t arrivals)) (filter (λ (r : Row). r.in_port == n) (rows_of t arrivals)))
      ≡ map frame_of (map (λ (a : Arrival). a.frame) (cond b (a ∷ filter (λ (a : Arrival). a.port == n) arrivals) (filter (λ (a : Arrival). a.port == n) arrivals)))
  by true ih = ap (λ (fs : List Frame). frame_of a.frame ∷ fs) ih
  by false ih = ih

-- the rows of captures whose records keep to the lines
rows_keep : MergedIsAMerge → (t : Content) (texts : List Text) (read : List Capture) → IsWellFormed t → AreOfPorts t texts → AreCaptures texts read → (rounding_at : ℕ → Option ℕ)
    → CapturesKeepToLines t read rounding_at → RowsKeepToLines t rounding_at (rows_of t (merged read))
rows_keep merge t texts read formed ports are_read rounding_at lines k d lt =
    let q = get_or t.ports k d in
    let same : map frame_of (records_of read q.id) ≡ frames_in q.id (rows_of t (merged read))
    = sym (frames_are t q.id (merged read) ∙ ap (map frame_of) (part_is_read merge t texts read formed ports are_read q.id)) in
    subst (λ (fs : List Frame). IfSome (rounding_at q.id) (λ rounding. KeepsToLineWithin rounding q.speed fs)) same (lines q (Contains-get_or t.ports k d lt))

module _ (ordered : ByStampIsOrdered) (ground : Ground) (merge : MergedIsAMerge) (isolate : AcceptedTablesIsolate) (keeps : LinedRunsKeepBounds) (t : Content) (texts : List Text) (results : Results)
    (formed : IsWellFormed t) (accepted : IsAccepted t) (outcome : IsOutcome t texts results) (rounding_at : ℕ → Option ℕ) (lines : CapturesKeepToLines t outcome.read rounding_at) (p : PortRow)
    (at : Contains t.ports p) (burst high_burst : ℕ) (less : AreLesser t p rounding_at burst high_burst) (l : Link) (among : Contains t.links l) where
  abbrev all : List Arrival
  all = merged outcome.read

  is_run : IsRun (run_of t all)
  is_run = arrivals_are_a_run ordered t texts all (record { read = outcome.read; are_read = outcome.are_read; all = refl })

  isolated : IsIsolatedRun (run_of t all)
  isolated = isolate (run_of t all) is_run formed accepted

  within : All (IsInLesserBound t p burst high_burst) (sent_by t all p)
  within =
      subst (All (IsInLesserBound t p burst high_burst)) (sent_is t formed ground all isolated p at)
      (keeps (run_of t all) is_run formed accepted rounding_at (rows_keep merge t texts outcome.read formed outcome.ports outcome.are_read rounding_at lines) p at burst high_burst less)

  pub lined_outcome : leads_to p.id l ≡ true → AllZip (IsInLesserTime t p l burst high_burst) (passed_records l (own_records t l outcome.read)) (records_for l (output_of t all p))
  lined_outcome leads =
      subst (λ (xs : List Record). AllZip (IsInLesserTime t p l burst high_burst) xs (records_for l (output_of t all p)))
      (ap (λ (rs : List Record). passed_records l (filter (is_own t l) rs)) (part_is_read merge t texts outcome.read formed outcome.ports outcome.are_read l.from))
      (lesser_are t formed ground all isolated p at l among burst high_burst within leads)

  pub lined_copies : All (EndsInLesserTime t p l burst high_burst) (filter (λ (s : Sent). s.item.link == l.id) (sent_by t all p))
  lined_copies = copies_in_lesser t formed ground all isolated p at l among burst high_burst within

pub lined_outcomes : ByStampIsOrdered → Ground → MergedIsAMerge → AcceptedTablesIsolate → LinedRunsKeepBounds → LinedOutcomesKeepBounds
lined_outcomes ordered ground merge isolate keeps t texts results formed accepted outcome rounding_at lines p at burst high_burst less l among leads =
    lined_outcome ordered ground merge isolate keeps t texts results formed accepted outcome rounding_at lines p at burst high_burst less l among leads

pub lined_sent : ByStampIsOrdered → Ground → MergedIsAMerge → AcceptedTablesIsolate → LinedRunsKeepBounds → LinedSentKeepBounds
lined_sent ordered ground merge isolate keeps t texts results formed accepted outcome rounding_at lines p at burst high_burst less l among =
    lined_copies ordered ground merge isolate keeps t texts results formed accepted outcome rounding_at lines p at burst high_burst less l among

pub outcomes_isolate : ByStampIsOrdered → Ground → AdmittedInParts → MergedIsAMerge → AcceptedTablesIsolate → OutcomesIsolate
unfolding headline
outcomes_isolate ordered ground in_parts merge isolate t texts results formed accepted outcome p at =
    (headline ordered ground in_parts merge isolate t texts results formed accepted outcome).isolated p at

pub plain_headlines : ByStampIsOrdered → Ground → AdmittedInParts → MergedIsAMerge → AcceptedTablesIsolate → PlainHeadlines
unfolding headline
plain_headlines ordered ground in_parts merge isolate t texts results formed accepted outcome = (headline ordered ground in_parts merge isolate t texts results formed accepted outcome, refl, refl)

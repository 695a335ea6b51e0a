-- Arrivals that keep to the lines of their ports are copies that do.
use Rattle.std.proofs.Common.{◌≡◌, ℕ, ◌==◌, Bool, true, false, cond, ◌&&◌, ◌||◌, nat_eq, List, [], ◌∷◌, ◌++◌, map, Option, Some, None, refl, ap, sym, ◌∙◌, subst, arith, ⊎_elim}
use Rattle.std.specs.Prelude.{All, Contains, IfSome, filter, option_map}
use Rattle.std.specs.List.{list_any}
use Rattle.std.proofs.lemmas.List.Elements.{All-head, All-tail, All-map, All-weaker, Contains-append_right}
use Rattle.std.proofs.lemmas.Bool.{both_ways, cases_Bool, eq-eqb, eqb-true}
use Rattle.std.proofs.lemmas.Bool.Decides.{nat_tests}
use Rattle.std.proofs.lemmas.Option.{same_Some}
use Rattle.afdx_account.specs.declared.frame.Frame.{Frame}
use Rattle.afdx_serial.specs.Serial.{KnownLine, KeepsToLineWithin}
use Rattle.afdx_serial.specs.Laws.{PartsKeepToTheLine}
use Rattle.afdx_table.specs.declared.rows.PortRow.{PortRow}
use Rattle.afdx_table.specs.Link.{Link}
use Rattle.afdx_table.specs.Content.{Content, link_row}
use Rattle.afdx_table.specs.WellFormed.{IsWellFormed}
use Rattle.afdx_table.specs.Inner.Found.{LinksAreFound}
use Rattle.afdx_load.specs.Accepted.{IsAccepted}
use Rattle.afdx_filter.specs.Inner.Clean.{CleanFramesHaveALink}
use Rattle.afdx_port.specs.declared.Item.{Item}
use Rattle.afdx_port.specs.Admission.{admitted}
use Rattle.afdx_isolation.specs.Arrivals.{frame_of_item}
use Rattle.afdx_isolation.specs.Inner.Lines.{Line, frames_over, KeepToLines}
use Rattle.afdx_isolation.specs.Inner.LineTable.{line_at, lines_of, AreLesser, IsInLesserBound, AcceptedLinesKeepBounds}
use Rattle.afdx_isolation.specs.Inner.Table.{ArriveAt, OffersWhatThePolicingPasses}
use Rattle.afdx_isolation.specs.Table.{settings_of}
use Rattle.afdx_core.specs.declared.step.Row.{Row}
use Rattle.afdx_core.specs.Rows.{frame_of_row, named, copy_of, each_after}
use Rattle.afdx_core.specs.State.{Run, port_in, sent_in}
use Rattle.afdx_core.specs.Isolation.{IsOfAnArrival, IsRun, copy_by, clean_copies}
use Rattle.afdx_core.specs.Lined.{frames_in, RowsKeepToLines}
use Rattle.afdx_core.proofs.Isolating.{named_by, offered_is, in_order, all_clean}

found : {X : Type 0} (p : X → Bool) (xs : List X) → list_any p xs ≡ true → (x : X) × Contains xs x × (p x ≡ true)
found p [] h = (cc)
found p (x ∷ xs) h = ⊎_elim
    (λ (is : p x ≡ true). (x, (0, omega arith, refl), is))
    (λ (is : p x ≡ false).
    let rest = found p xs (right (p x) (list_any p xs) is h) in
    (rest.0, Contains-append_right (x ∷ []) xs rest.0 rest.1, rest.2))
    (cases_Bool (p x)) where
      right : (a b : Bool) → a ≡ false → a || b ≡ true → b ≡ true
      right a b e h = grind (arith, nat_tests)

both_equal : (a b c d : ℕ) → (nat_eq a b && nat_eq c d) ≡ true → (a ≡ b) × (c ≡ d)
both_equal a b c d h = (eqb-true a b (first (nat_eq a b) (nat_eq c d) h), eqb-true c d (second (nat_eq a b) (nat_eq c d) h)) where
  first : (a b : Bool) → (a && b) ≡ true → a ≡ true
  first a b h = grind (arith, nat_tests)

  second : (a b : Bool) → (a && b) ≡ true → b ≡ true
  second a b h = grind (arith, nat_tests)

module _ (links : LinksAreFound) (have_link : CleanFramesHaveALink) (t : Content) (well : IsWellFormed t) (q : PortRow) (rounding_at : ℕ → Option ℕ) where
  abbrev line : Line
  line = line_at t.links rounding_at q

  abbrev copy : List Row → Row → List Item
  copy before row = copy_by (named t row.verdict) before row

  -- a clean frame whose link comes in at the port came in there
  came_in : (row : Row) → IsOfAnArrival t row → (l : Link) → named t row.verdict ≡ Some l → line.has l.id ≡ true → row.in_port ≡ q.id
  came_in row arrival l is has =
      let names = named_by links t row.verdict l is in
      let h = have_link t arrival.0 arrival.1 l.id (sym (ap (λ (r : Row). r.verdict) arrival.2) ∙ names.0) in
      let one : h.link ≡ l = same_Some h.link l (sym h.is_link ∙ names.1) in
      let m = found (λ (m : Link). nat_eq m.id l.id && nat_eq m.from q.id) t.links has in
      let e = both_equal m.0.id l.id m.0.from q.id m.2 in
      let two : m.0 ≡ l = same_Some m.0 l (sym (links.found t well m.0 m.1) ∙ ap (link_row t) e.0 ∙ names.1) in
      ap (λ (r : Row). r.in_port) arrival.2 ∙ sym h.from_port ∙ ap (λ (x : Link). x.from) (one ∙ sym two) ∙ e.1

  -- ---- the rows of which the line has a copy

  abbrev has_copy : Option Link → Bool
  has_copy None = false
  has_copy (Some l) = line.has l.id

  abbrev counts : Row → Bool
  counts row = has_copy (named t row.verdict)

  abbrev is_here : Row → Bool
  is_here row = row.in_port == q.id

  copies_over : (before rows : List Row) → frames_over line (each_after copy before rows) ≡ map frame_of_row (filter counts rows)
  copies_over before [] = refl
  copies_over before (row ∷ rows) = by (named t row.verdict) (copies_over (before ++ row ∷ []) rows) where
    by : (o : Option Link) → frames_over line (each_after copy (before ++ row ∷ []) rows) ≡ map frame_of_row (filter counts rows)
        → frames_over line (copy_by o before row ++ each_after copy (before ++ row ∷ []) rows) ≡ map frame_of_row (cond (has_copy o) (row ∷ filter counts rows) (filter counts rows))
    by None ih = ih
    by (Some l) ih = over (line.has l.id) where
      over : (b : Bool) → map frame_of_item (cond b (copy_of l before row ∷ filter (λ (x : Item). line.has x.link) (each_after copy (before ++ row ∷ []) rows))
          (filter (λ (x : Item). line.has x.link) (each_after copy (before ++ row ∷ []) rows)))
          ≡ map frame_of_row (cond b (row ∷ filter counts rows) (filter counts rows))
      over true = ap (λ (fs : List Frame). frame_of_row row ∷ fs) ih
      over false = ih

  counted_here : (row : Row) → IsOfAnArrival t row → counts row ≡ true → is_here row ≡ true
  counted_here row arrival has = by (named t row.verdict) refl where
    by : (o : Option Link) → named t row.verdict ≡ o → is_here row ≡ true
    by None is = absurd (both_ways false refl (sym (ap has_copy is) ∙ has))
    by (Some l) is = eq-eqb row.in_port q.id (came_in row arrival l is (sym (ap has_copy is) ∙ has))

  all_here : (rows : List Row) → All (IsOfAnArrival t) rows → filter counts rows ≡ filter counts (filter is_here rows)
  all_here [] arrivals = refl
  all_here (row ∷ rows) arrivals =
      by (is_here row) (counts row) refl refl (all_here rows (All-tail (IsOfAnArrival t) row rows arrivals)) (counted_here row (All-head (IsOfAnArrival t) row rows arrivals)) where
        by : (h c : Bool) → is_here row ≡ h → counts row ≡ c → filter counts rows ≡ filter counts (filter is_here rows) → (counts row ≡ true → is_here row ≡ true)
            → cond c (row ∷ filter counts rows) (filter counts rows) ≡ filter counts (cond h (row ∷ filter is_here rows) (filter is_here rows))
        by true c is cis ih here =
            ap (λ (rs : List Row). cond c (row ∷ rs) rs) ih
            ∙ ap (λ (b : Bool). cond b (row ∷ filter counts (filter is_here rows)) (filter counts (filter is_here rows))) (sym cis)
        by false true is cis ih here = absurd (both_ways (is_here row) is (here cis))
        by false false is cis ih here = ih

  pub copies_keep : PartsKeepToTheLine Row → (rows : List Row) → All (IsOfAnArrival t) rows → IfSome (rounding_at q.id) (λ rounding. KeepsToLineWithin rounding q.speed (frames_in q.id rows))
      → IfSome line.known (λ there. KeepsToLineWithin there.rounding there.speed (frames_over line (clean_copies t rows)))
  unfolding clean_copies
  copies_keep parts rows arrivals keeps = by (rounding_at q.id) keeps where
    by : (o : Option ℕ) → IfSome o (λ rounding. KeepsToLineWithin rounding q.speed (frames_in q.id rows))
        → IfSome (option_map (λ rounding. let there : KnownLine = record { speed = q.speed; rounding = rounding } in there) o)
        (λ there. KeepsToLineWithin there.rounding there.speed (frames_over line (each_after copy [] rows)))
    by None keeps = tt
    by (Some rounding) keeps =
        subst (KeepsToLineWithin rounding q.speed) (sym (copies_over [] rows ∙ ap (map frame_of_row) (all_here rows arrivals))) (parts frame_of_row rounding q.speed counts (filter is_here rows) keeps)

pub lined_keep_bounds : LinksAreFound → CleanFramesHaveALink → OffersWhatThePolicingPasses → AcceptedLinesKeepBounds → PartsKeepToTheLine Row → (r : Run) → IsRun r → IsWellFormed r.table
    → IsAccepted r.table
    → (rounding_at : ℕ → Option ℕ) → RowsKeepToLines r.table rounding_at r.rows → (p : PortRow) → Contains r.table.ports p → (burst high_burst : ℕ) → AreLesser r.table p rounding_at burst high_burst
    → All (IsInLesserBound r.table p burst high_burst) (sent_in r (Some p))
lined_keep_bounds links have_link offers keeps parts r run well accepted rounding_at rows p among burst high_burst less =
    let t = r.table in
    let arrivals = clean_copies t r.rows in
    let arrive : ArriveAt t arrivals = record { well_formed = well; accepted = accepted; stamps = in_order links t r.rows run.stamps; clean = all_clean links t well have_link r.rows run.arrivals } in
    let kept : KeepToLines (lines_of t rounding_at) arrivals =
    All-map (λ (line : Line). IfSome line.known (λ there. KeepsToLineWithin there.rounding there.speed (frames_over line arrivals))) (line_at t.links rounding_at) t.ports
    (All-weaker (λ (q : PortRow). IfSome (rounding_at q.id) (λ rounding. KeepsToLineWithin rounding q.speed (frames_in q.id r.rows)))
    (λ (q : PortRow). let line = line_at t.links rounding_at q in IfSome line.known (λ there. KeepsToLineWithin there.rounding there.speed (frames_over line arrivals)))
    (λ q h. copies_keep links have_link t well q rounding_at parts r.rows run.arrivals h) t.ports rows) in
    keeps t arrivals arrive p among rounding_at kept burst high_burst less (port_in r p) refl (ap (admitted (settings_of t.latency p)) (offered_is links t well offers p r.rows))

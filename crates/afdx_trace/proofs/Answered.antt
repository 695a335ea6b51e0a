-- What the ports of a switch that tells of its run answer to a copy, and the fields that say what became of an arrival.
use Rattle.std.proofs.Common.{◌≡◌, ℕ, suc, ◌<◌, ◌≤◌, ◌==◌, nat_eq, Bool, true, false, cond, codes, decimal, List, [], ◌∷◌, length, map, filter, get_or, slice_get, position, Option, Some}
use Rattle.std.proofs.Common.{None, All, refl, sym, ap, ◌∙◌, arith, subst}
use Rattle.std.specs.Prelude.{find}
use Rattle.std.specs.List.{IsDistinct}
use Rattle.std.proofs.lemmas.Option.{slice_get_within, slice_get-get_or}
use Rattle.afdx_table.specs.declared.rows.PortRow.{PortRow}
use Rattle.afdx_table.specs.Link.{Link}
use Rattle.afdx_table.specs.Content.{Content, port_row}
use Rattle.afdx_table.specs.WellFormed.{Rises}
use Rattle.afdx_table.specs.Inner.Distinct.{PortsAreDistinct}
use Rattle.afdx_account.specs.Policing.{passed_frames}
use Rattle.afdx_account.specs.Early.{early_by}
use Rattle.afdx_load.specs.Load.{terms_of}
use Rattle.afdx_port.specs.declared.Settings.{Settings}
use Rattle.afdx_port.specs.declared.Item.{Item}
use Rattle.afdx_port.specs.declared.Offer.{Offer}
use Rattle.afdx_port.specs.declared.Offer.TheVariants.{Queued, Full}
use Rattle.afdx_port.specs.Admission.{fits}
use Rattle.afdx_port.specs.Content.{answer, answers_full}
use Rattle.afdx_isolation.specs.Table.{settings_of}
use Rattle.afdx_core.specs.declared.step.Row.{Row}
use Rattle.afdx_core.specs.declared.step.Fate.TheVariants.{Policed, Passed}
use Rattle.afdx_core.specs.Rows.{named, passes, copy_of, fate_by, account_frames, frame_of_row}
use Rattle.afdx_core.specs.State.{answer_of, offers_by}
use Rattle.afdx_core.proofs.Calls.{position-map}
use Rattle.afdx_trace.specs.declared.shown.Shown.{Shown}
use Rattle.afdx_trace.specs.declared.traced_port.TracedPort.{TracedPort}
use Rattle.afdx_trace.specs.Csv.{joined_by, optional}
use Rattle.afdx_trace.specs.Arrivals.{verdict_word, fate_word, early_in}
use Rattle.afdx_trace.specs.Inner.Laws.{full_ports}
use Rattle.afdx_trace.specs.Inner.Told.{run_with, told_fields}
use Rattle.afdx_trace.specs.Inner.Telling.{TellsOf, AllTell, CanBeOffered, PlacesAre, answer_by, refused_among}
use Rattle.afdx_trace.proofs.Ending.{rows_are}
use Rattle.afdx_trace.proofs.Placed.{id_of}

-- the answer of a port after these arrivals
abbrev says : Content → List Row → Item → Option PortRow → Offer
says t rows x o = answer_of (run_with t rows) x o

module _ {Z : Type 0} (shown : Shown) (t : Content) (rows : List Row) (latest : ℕ) where
  -- ---- what a port answers

  same_answer : (x : Item) (p : PortRow) (o : TracedPort Z) → TellsOf shown t rows latest p o → answer x o.flow.content ≡ says t rows x (Some p)
  same_answer x p o tells =
      ap (λ (s : Settings). cond (fits s o.flow.content.admitted x) Queued Full) tells.of ∙ ap (λ (items : List Item). cond (fits (settings_of t.latency p) items x) Queued Full) tells.admits

  found_same : (x : Item) (ps : List PortRow) (os : List (TracedPort Z)) (port : ℕ) → length os ≡ length ps
      → ((k : ℕ) (p : PortRow) (o : TracedPort Z) → slice_get ps k ≡ Some p → slice_get os k ≡ Some o → TellsOf shown t rows latest p o)
      → answer_by x (find (λ (o : TracedPort Z). o.row.id == port) os) ≡ says t rows x (find (λ (p : PortRow). p.id == port) ps)
  found_same x [] [] port long each = refl
  found_same x [] (o ∷ os) port long each = absurd (omega (arith, long))
  found_same x (p ∷ ps) [] port long each = absurd (omega (arith, long))
  found_same x (p ∷ ps) (o ∷ os) port long each =
      ap (λ (q : PortRow). answer_by x (cond (q.id == port) (Some o) (find (λ (n : TracedPort Z). n.row.id == port) os))) (each 0 p o refl refl).row
      ∙ by (p.id == port) (found_same x ps os port (omega (arith, long)) (λ k q n here there. each (suc k) q n here there)) where
        by : (b : Bool) → answer_by x (find (λ (n : TracedPort Z). n.row.id == port) os) ≡ says t rows x (find (λ (q : PortRow). q.id == port) ps)
            → answer_by x (cond b (Some o) (find (λ (n : TracedPort Z). n.row.id == port) os)) ≡ says t rows x (cond b (Some p) (find (λ (q : PortRow). q.id == port) ps))
        by true others = same_answer x p o (each 0 p o refl refl)
        by false others = others

  -- the ports that refuse it are those that answered Full
  pub refused_are : (x : Item) (ports : List (TracedPort Z)) (to : List ℕ) → AllTell shown t rows latest ports
      → refused_among x ports to ≡ full_ports (map (λ (port : ℕ). (port, says t rows x (port_row t port))) to)
  refused_are x ports [] all = refl
  refused_are x ports (port ∷ to) all =
      ap (λ (a : Offer). cond (answers_full a) (port ∷ refused_among x ports to) (refused_among x ports to)) (found_same x t.ports ports port all.many all.each)
      ∙ ap (λ (others : List ℕ). cond (answers_full (says t rows x (port_row t port))) (port ∷ others) others) (refused_are x ports to all)
      ∙ kept (answers_full (says t rows x (port_row t port))) where
        answers : List (ℕ × Offer)
        answers = map (λ (q : ℕ). (q, says t rows x (port_row t q))) to

        kept : (b : Bool) → cond b (port ∷ full_ports answers) (full_ports answers)
            ≡ map (λ (o : ℕ × Offer). o.0) (cond b ((port, says t rows x (port_row t port)) ∷ filter (λ (o : ℕ × Offer). answers_full o.1) answers)
            (filter (λ (o : ℕ × Offer). answers_full o.1) answers))
        kept true = refl
        kept false = refl

  -- ---- where the ports are

  pub can_offer : (x : Item) (ports : List (TracedPort Z)) → x.number ≡ length rows → latest ≤ x.stamp → AllTell shown t rows latest ports
      → (k : ℕ) (o : TracedPort Z) → slice_get ports k ≡ Some o → CanBeOffered shown x o
  can_offer x ports number le all k o here = record {
    told = tells.told;
    still_open = tells.still_open;
    in_order = (let before = tells.horizon in omega (arith, before, le));
    numbered = subst (λ (n : ℕ). All (λ (other : Item). other.number < n) o.flow.content.admitted) (sym number) tells.numbered;
  } where
    lt : k < length t.ports
    lt = let within = slice_get_within ports k o here in let many = all.many in omega (arith, within, many)

    tells : TellsOf shown t rows latest (get_or t.ports k o.row) o
    tells = all.each k (get_or t.ports k o.row) o (slice_get-get_or t.ports k o.row lt) here

  ids_by_rows : (os : List (TracedPort Z)) → map (λ (p : PortRow). p.id) (map (λ (o : TracedPort Z). o.row) os) ≡ map id_of os
  ids_by_rows [] = refl
  ids_by_rows (o ∷ os) = ap (λ (ids : List ℕ). o.row.id ∷ ids) (ids_by_rows os)

  pub are_distinct : PortsAreDistinct → Rises t.ports → (ports : List (TracedPort Z)) → AllTell shown t rows latest ports → IsDistinct nat_eq (map id_of ports)
  are_distinct distinct rise ports all =
      subst (IsDistinct nat_eq) (ap (map (λ (p : PortRow). p.id)) (sym (rows_are shown t rows latest ports all)) ∙ ids_by_rows ports) (distinct t.ports rise)

  pub places_are : (places : List (Option ℕ)) (ports : List (TracedPort Z)) → ((port : ℕ) → get_or places port None ≡ position (λ (p : PortRow). p.id == port) t.ports)
      → AllTell shown t rows latest ports → PlacesAre places ports
  places_are places ports at all port =
      at port ∙ ap (position (λ (p : PortRow). p.id == port)) (sym (rows_are shown t rows latest ports all))
      ∙ position-map (λ (o : TracedPort Z). o.row) (λ (p : PortRow). p.id == port) ports

-- ---- the fields of a fate

-- by the link
abbrev fields_by : Content → List Row → Row → Option Link → List (List ℕ)
fields_by t before row o =
    fate_word (fate_by o before row) ∷ optional (early_in o before row) ∷ joined_by (codes ";") (map decimal (full_ports (offers_by (run_with t before) o row))) ∷ []

-- those of a link's frame, by whether it is passed
abbrev judged_by : Content → List Row → Row → Link → Bool → List (List ℕ)
judged_by t before row l p = fate_word (cond p (Passed l.id) (Policed l.id))
    ∷ optional (cond p None (Some (early_by (terms_of l) (passed_frames (terms_of l) (account_frames l.id before)) (frame_of_row row))))
    ∷ joined_by (codes ";") (map decimal (full_ports (cond p (map (λ (port : ℕ). (port, answer_of (run_with t before) (copy_of l before row) (port_row t port))) l.to) []))) ∷ []

pub filtered_told : (t : Content) (before : List Row) (row : Row) (full : List ℕ) → full ≡ [] → named t row.verdict ≡ None
    → verdict_word row.verdict ∷ [] ∷ joined_by (codes ";") (map decimal full) ∷ [] ≡ told_fields t before row
filtered_told t before row full none names =
    ap (λ (ports : List ℕ). verdict_word row.verdict ∷ [] ∷ joined_by (codes ";") (map decimal ports) ∷ []) none ∙ sym (ap (fields_by t before row) names)

pub policed_told : (t : Content) (before : List Row) (row : Row) (l : Link) (early : ℕ) (full : List ℕ) → full ≡ [] → named t row.verdict ≡ Some l → passes l before row ≡ false
    → early ≡ early_by (terms_of l) (passed_frames (terms_of l) (account_frames l.id before)) (frame_of_row row)
    → codes "policed" ∷ decimal early ∷ joined_by (codes ";") (map decimal full) ∷ [] ≡ told_fields t before row
policed_told t before row l early full none names polices is =
    ap (λ (ports : List ℕ). codes "policed" ∷ decimal early ∷ joined_by (codes ";") (map decimal ports) ∷ []) none ∙ ap (λ (n : ℕ). codes "policed" ∷ decimal n ∷ [] ∷ []) is
    ∙ sym (ap (fields_by t before row) names ∙ ap (judged_by t before row l) polices)

pub passed_told : (t : Content) (before : List Row) (row : Row) (l : Link) (full : List ℕ) → named t row.verdict ≡ Some l → passes l before row ≡ true
    → full ≡ full_ports (map (λ (port : ℕ). (port, answer_of (run_with t before) (copy_of l before row) (port_row t port))) l.to)
    → codes "passed" ∷ [] ∷ joined_by (codes ";") (map decimal full) ∷ [] ≡ told_fields t before row
passed_told t before row l full names passed is =
    ap (λ (ports : List ℕ). codes "passed" ∷ [] ∷ joined_by (codes ";") (map decimal ports) ∷ []) is ∙ sym (ap (fields_by t before row) names ∙ ap (judged_by t before row l) passed)

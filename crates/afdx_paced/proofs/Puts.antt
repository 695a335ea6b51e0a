-- What leaves up to an instant rests on what comes before it alone.
use Rattle.std.proofs.Common.{◌≡◌, ℕ, ◌≤◌, ◌==◌, nat_le, List, [], ◌∷◌, ◌++◌, map, Option, Some, refl, ap, sym, ◌∙◌, inl, inr}
use Rattle.std.specs.List.{AllByRecursion}
use Rattle.std.proofs.lemmas.Bool.{cases_Bool, le-leb}
use Rattle.std.proofs.lemmas.List.{map-append, append-nil}
use Rattle.afdx_pcap.specs.Record.{Record}
use Rattle.afdx_table.specs.declared.rows.PortRow.{PortRow}
use Rattle.afdx_table.specs.Content.{Content}
use Rattle.afdx_core.specs.Merge.{Arrival, arrivals_of, by_stamp}
use Rattle.afdx_session.specs.Output.{written}
use Rattle.afdx_session.specs.Streams.{sent_up_to, LaterArrivalsChangeNothing}
use Rattle.afdx_session.proofs.Settling.{arrived}
use Rattle.afdx_paced.specs.Paced.{Lane, Paced, captures_of, arrivals, out_up_to, changed, came_in, after_put}
use Rattle.afdx_paced.specs.Laws.{from, below, MergesAreCut, LaterRecordsChangeNothing}
use Rattle.afdx_paced.proofs.Cut.{all_high}

abbrev pub AllFrom : ℕ → List Arrival → Type 0
AllFrom h arrivals = AllByRecursion (λ (a : Arrival). h ≤ a.frame.stamp) arrivals

abbrev pub out_by : Content → List Arrival → Option ℕ → PortRow → List Record
out_by t arrivals h p = map (written arrivals) (sent_up_to t arrivals h p)

-- what comes at the instant or later has no part in it
pub out_without : LaterArrivalsChangeNothing → (t : Content) (first later : List Arrival) (h : ℕ) (p : PortRow) → AllFrom h later
    → out_by t (first ++ later) (Some h) p ≡ out_by t first (Some h) p
out_without law t first later h p all =
    ap (map (written (first ++ later))) (law.sent t first later h p all) ∙ law.bytes t first later (Some h) p

pub out_of_below : LaterArrivalsChangeNothing → MergesAreCut → (v : Paced) (h : ℕ) (p : PortRow)
    → out_up_to v (Some h) p ≡ out_by v.table (by_stamp (below h (arrivals_of (captures_of v.lanes)))) (Some h) p
out_of_below law cut v h p =
    let all = arrivals_of (captures_of v.lanes) in
    ap (λ (xs : List Arrival). out_by v.table xs (Some h) p) (cut h all)
    ∙ out_without law v.table (by_stamp (below h all)) (by_stamp (from h all)) h p (all_high h all)

-- ---- one more record

pub below-append : (h : ℕ) (xs ys : List Arrival) → below h (xs ++ ys) ≡ below h xs ++ below h ys
below-append h [] ys = refl
below-append h (a ∷ xs) ys = elim (cases_Bool (nat_le h a.frame.stamp)) [
  | inl late ↦ rw late (below-append h xs ys)
  | inr early ↦ rw early (ap (λ (rest : List Arrival). a ∷ rest) (below-append h xs ys))
]

-- it lies at the instant or later
one_later : (h port : ℕ) (frame : Record) → h ≤ frame.stamp → below h (arrived port (frame ∷ [])) ≡ []
one_later h port frame le = rw (le-leb h frame.stamp le) refl

more_later : (h port : ℕ) (came : List Record) (frame : Record) → h ≤ frame.stamp → below h (arrived port (came ++ frame ∷ [])) ≡ below h (arrived port came)
more_later h port came frame le =
    ap (below h) (map-append (λ (r : Record). record { port = port; frame = r }) came (frame ∷ []))
    ∙ below-append h (arrived port came) (arrived port (frame ∷ []))
    ∙ ap (λ (rest : List Arrival). below h (arrived port came) ++ rest) (one_later h port frame le)
    ∙ append-nil (below h (arrived port came))

pub same_below : (h port : ℕ) (frame : Record) (lanes : List Lane) → h ≤ frame.stamp
    → below h (arrivals_of (captures_of (changed port (came_in frame) lanes))) ≡ below h (arrivals_of (captures_of lanes))
same_below h port frame [] le = refl
same_below h port frame (l ∷ lanes) le = elim (cases_Bool (l.port == port)) [
  | inl here ↦ rw here (
      below-append h (arrived l.port (l.came ++ frame ∷ [])) (arrivals_of (captures_of lanes))
      ∙ ap (λ (first : List Arrival). first ++ below h (arrivals_of (captures_of lanes))) (more_later h l.port l.came frame le)
      ∙ sym (below-append h (arrived l.port l.came) (arrivals_of (captures_of lanes)))
      )
  | inr other ↦ rw other (
      below-append h (arrived l.port l.came) (arrivals_of (captures_of (changed port (came_in frame) lanes)))
      ∙ ap (λ (rest : List Arrival). below h (arrived l.port l.came) ++ rest) (same_below h port frame lanes le)
      ∙ sym (below-append h (arrived l.port l.came) (arrivals_of (captures_of lanes)))
      )
]

pub later_records_change_nothing : LaterArrivalsChangeNothing → MergesAreCut → LaterRecordsChangeNothing
later_records_change_nothing law cut v port frame h p le =
    out_of_below law cut (after_put port frame v) h p
    ∙ ap (λ (xs : List Arrival). out_by v.table (by_stamp xs) (Some h) p) (same_below h port frame v.lanes le)
    ∙ sym (out_of_below law cut v h p)

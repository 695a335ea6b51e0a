-- Where no frame can be late, none comes late over a wire.
use Rattle.std.proofs.Common.{◌≡◌, ◌<◌, ◌≤◌, ◌+◌, ◌==◌, ℕ, zero, suc, List, [], ◌∷◌, ◌++◌, length, slice_get, Some, None, refl, ap, sym, ◌∙◌, arith, inl, inr, subst}
use Rattle.std.specs.Prelude.{slice_set, ◌⊎◌}
use Rattle.std.specs.List.{AllByRecursion, AllZip}
use Rattle.std.proofs.lemmas.Option.{same_Some}
use Rattle.afdx_units.specs.Time.{last_second}
use Rattle.afdx_pcap.specs.Record.{Record}
use Rattle.afdx_table.specs.declared.rows.PortRow.{PortRow}
use Rattle.afdx_table.specs.Content.{Content}
use Rattle.afdx_load.specs.Accepted.{IsAccepted}
use Rattle.afdx_count.specs.Run.{counts_of}
use Rattle.afdx_session.specs.Texts.{Text}
use Rattle.afdx_session.specs.Output.{rows_of, output_of, outputs}
use Rattle.afdx_session.specs.Outcome.{Results, IsOutcome}
use Rattle.afdx_paced.specs.Paced.{Lane, Paced, captures_of, arrivals, out_up_to, came_in, went_out, GoesOut}
use Rattle.afdx_paced.specs.Laws.{OutGoesOn}
use Rattle.afdx_network_check.specs.Net.{Network}
use Rattle.afdx_network.specs.Runs.{Given}
use Rattle.afdx_network.specs.Early.{RecordsLeaveInTime}
use Rattle.afdx_network.specs.Inner.Sites.{Site, IsSite, after_hops, after_putting, AreEarly, HandsOut}
use Rattle.afdx_network.proofs.AllLeft.{out_is_output}
use Rattle.afdx_network.proofs.Carried.{AreWritten}
use Rattle.afdx_network.proofs.Found.{found_passes}
use Rattle.afdx_network.proofs.InWindow.{get_seam, assoc}
use Rattle.afdx_network.proofs.Lanes.{all_changed, at_lane}
use Rattle.afdx_network.proofs.LaneTexts.{IsText, texts_for, texts_read, texts_ports, texts_by}
use Rattle.afdx_network.proofs.Places.{got_set}

at_place : {X : Type 0} (P : X → Type 0) (xs : List X) (k : ℕ) (x : X) → AllByRecursion P xs → slice_get xs k ≡ Some x → P x
at_place P [] k x all is = absurd cc
at_place P (y ∷ xs) zero x all is = subst P (same_Some y x is) all.0
at_place P (y ∷ xs) (suc k) x all is = at_place P xs k x all.1 is

abbrev pub ComeBy : ℕ → Lane → Type 0
ComeBy last l = AllByRecursion (λ (r : Record). r.stamp ≤ last) l.came

-- what leaves a switch leaves at most half a second after the last record came in
pub out_soon : RecordsLeaveInTime → AreWritten → OutGoesOn → (net : Network) (given : Given) (switch place port : ℕ) (s : Site) (new : Paced) (out : Record) → IsSite net given switch s
    → IsAccepted s.paced.table → place < 64 → AllByRecursion (ComeBy (after_hops place)) s.paced.lanes → GoesOut s.paced new port out → out.stamp ≤ after_hops place + 500000000
out_soon law written on net given switch place port s new out site accepted few early g =
    at_place (λ (r : Record). r.stamp ≤ after_hops place + 500000000) (output_of t (arrivals s.paced) g.row) (length g.lane.left) out
    (law t texts.0 results site.running.formed accepted outcome (after_hops place) (omega (arith, few))
    (texts_by net switch site.own (after_hops place) s.paced.lanes texts.0 texts.1 early) g.row (found_passes (λ (q : PortRow). q.id == port) t.ports g.row g.row_is).1)
    (ap (λ (rs : List Record). slice_get rs (length g.lane.left)) (sym (out_is_output s.paced g.row) ∙ all) ∙ get_seam g.lane.left (g.rest ++ more.0) out) where
      t : Content
      t = s.paced.table

      texts : (texts : List Text) × AllZip (IsText net switch site.own) s.paced.lanes texts
      texts = texts_for written net switch site.own s.paced.lanes site.came

      results : Results
      results = record { captures = outputs t (arrivals s.paced); counts = counts_of t (rows_of t (arrivals s.paced)) }

      outcome : IsOutcome t texts.0 results
      outcome = record {
        ports = texts_ports net switch site.own s.paced.lanes texts.0 texts.1 ∙ site.running.ports;
        read = captures_of s.paced.lanes;
        are_read = texts_read net switch site.own s.paced.lanes texts.0 texts.1;
        captures = refl;
        counts = refl;
      }

      more : (rest : List Record) × (out_up_to s.paced None g.row ≡ out_up_to s.paced (Some s.paced.reached) g.row ++ rest)
      more = on.in_the_end s.paced s.paced.reached g.row

      all : out_up_to s.paced None g.row ≡ g.lane.left ++ out ∷ (g.rest ++ more.0)
      all = more.1 ∙ ap (λ (rs : List Record). rs ++ more.0) g.next ∙ assoc g.lane.left (out ∷ g.rest) more.0

-- and comes over a wire in time
pub comes_soon : (place next stamp delay : ℕ) → place < next → next < 64 → delay ≤ 1000000 → stamp ≤ after_hops place + 500000000 → (stamp + delay ≤ after_hops next) × (stamp + delay < last_second)
comes_soon place next stamp delay rises few small by = (omega (arith, rises, small, by), omega (arith, rises, few, small, by))

-- ---- at all switches

one_more : (last : ℕ) (came : List Record) (frame : Record) → AllByRecursion (λ (r : Record). r.stamp ≤ last) came → frame.stamp ≤ last
    → AllByRecursion (λ (r : Record). r.stamp ≤ last) (came ++ frame ∷ [])
one_more last [] frame all by = (by, tt)
one_more last (r ∷ came) frame all by = (all.0, one_more last came frame all.1 by)

early_set : (place : ℕ → ℕ) (sites : List Site) (switch : ℕ) (new : Site) → AllByRecursion (ComeBy (after_hops (place switch))) new.paced.lanes → AreEarly place sites
    → AreEarly place (slice_set sites switch new)
early_set place sites switch new here early = λ n s is. by n s (got_set sites switch n new s is) where
  by : (n : ℕ) (s : Site) → ((n ≡ switch) × (new ≡ s)) ⊎ (slice_get sites n ≡ Some s) → AllByRecursion (ComeBy (after_hops (place n))) s.paced.lanes
  by n s (inl same) =
      subst (λ m. AllByRecursion (ComeBy (after_hops (place m))) s.paced.lanes) (sym same.0)
      (subst (λ (u : Site). AllByRecursion (ComeBy (after_hops (place switch))) u.paced.lanes) same.1 here)
  by n s (inr there) = early n s there

pub puts_early : (place : ℕ → ℕ) (sites : List Site) (switch port : ℕ) (s : Site) (frame : Record) → slice_get sites switch ≡ Some s → frame.stamp ≤ after_hops (place switch)
    → AreEarly place sites → AreEarly place (slice_set sites switch (after_putting port frame s))
puts_early place sites switch port s frame at by early =
    early_set place sites switch (after_putting port frame s)
    (all_changed (ComeBy (after_hops (place switch))) port (came_in frame) s.paced.lanes (early switch s at)
    (λ l found. one_more (after_hops (place switch)) l.came frame (at_lane (ComeBy (after_hops (place switch))) s.paced.lanes port l (early switch s at) found) by)) early

pub hands_early : (place : ℕ → ℕ) (sites : List Site) (switch at port : ℕ) (old new : Site) (out : Record) → slice_get sites switch ≡ Some old → HandsOut old new at port out
    → AreEarly place sites → AreEarly place (slice_set sites switch new)
hands_early place sites switch at port old new out is h early =
    early_set place sites switch new
    (subst (λ (v : Paced). AllByRecursion (ComeBy (after_hops (place switch))) v.lanes) (sym h.out_is.after)
    (all_changed (ComeBy (after_hops (place switch))) port (went_out out) old.paced.lanes (early switch old is)
    (λ l found. at_lane (ComeBy (after_hops (place switch))) old.paced.lanes port l (early switch old is) found))) early

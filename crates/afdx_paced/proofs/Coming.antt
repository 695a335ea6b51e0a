-- The switch comes to an instant.
use Rattle.std.proofs.Common.{◌≡◌, ℕ, zero, suc, ◌<◌, ◌≤◌, false, List, [], ◌∷◌, ◌++◌, map, length, slice_get, slice_index, Option, Some, refl, ap, sym, ◌∙◌, arith, subst, append_assoc}
use Rattle.std.specs.List.{AllByRecursion}
use Rattle.std.proofs.lemmas.Option.{same_Some}
use Rattle.afdx_pcap.specs.Record.{Record}
use Rattle.afdx_table.specs.declared.rows.PortRow.{PortRow}
use Rattle.afdx_table.specs.Content.{Content}
use Rattle.afdx_table.specs.WellFormed.{IsWellFormed}
use Rattle.afdx_core.specs.State.{Run, State, after_advance}
use Rattle.afdx_core.specs.Held.{Keeps}
use Rattle.afdx_core.specs.Merge.{Arrival, merged}
use Rattle.afdx_core.specs.Inner.Merge.{ByStampIsOrdered}
use Rattle.afdx_count.specs.Run.{counts_so_far}
use Rattle.afdx_session.specs.Output.{rows_of}
use Rattle.afdx_session.specs.Inner.Settled.{IsGiven, IsAt}
use Rattle.afdx_session.proofs.Drawing.{comes}
use Rattle.afdx_paced.specs.Paced.{Lane, Paced, captures_of, out_up_to}
use Rattle.afdx_paced.specs.Laws.{MergesAreCut, OutGoesOn}
use Rattle.afdx_paced.specs.Inner.Parts.{Parts, lane_of, lanes_of, waiting_of}
use Rattle.afdx_paced.specs.Inner.Kept.{paced_of, IsOfTable, IsSameTable, IsSorted, IsPassing, PassesOn, IsCut, given_of, HasLeft, HaveLeft, IsGoing}
use Rattle.afdx_paced.specs.declared.feeder.Feeder.{Feeder}
use Rattle.afdx_paced.proofs.Puts.{AllFrom, out_by}
use Rattle.afdx_paced.proofs.Lists.{all_weaker, same_starts}
use Rattle.afdx_paced.proofs.Cutting.{parted_whole, given_before, waits_from, cut_parted}

-- ---- a call begins

abbrev GoneBefore : ℕ → Parts → Type 0
GoneBefore h l = AllByRecursion (λ (r : Record). r.stamp < h) l.gone

abbrev WaitsFrom : ℕ → Parts → Type 0
WaitsFrom h l = AllByRecursion (λ (r : Record). h ≤ r.stamp) l.waiting

pub begins : {Z : Type 0} → MergesAreCut → ByStampIsOrdered → (since until : ℕ) (f : Feeder Z) → since ≤ until → IsGoing since f → IsPassing until f
begins cut ordered since until f le going =
    let lanes = f.lanes.items in
    let parted = cut_parted since lanes going.cut in
    let here = going.latest in
    record {
      given = given_of lanes;
      whole = parted_whole cut since lanes parted;
      is_given = going.is_given;
      before = all_weaker (λ (a : Arrival). a.frame.stamp < since) (λ (a : Arrival). a.frame.stamp < until) (λ a lt. omega (arith, lt, le)) (given_of lanes) (given_before ordered since lanes parted);
      latest = omega (arith, here, le);
      later = subst (λ n. AllFrom n (merged (map waiting_of lanes))) (sym here)
          (waits_from ordered since lanes (all_weaker (IsCut since) (WaitsFrom since) (λ l c. c.waiting) lanes going.cut));
      sorted = all_weaker (IsCut since) IsSorted (λ l c. c.sorted) lanes going.cut;
      gone_before = all_weaker (IsCut since) (GoneBefore until)
          (λ l c. all_weaker (λ (r : Record). r.stamp < since) (λ (r : Record). r.stamp < until) (λ r lt. omega (arith, lt, le)) l.gone c.gone) lanes going.cut;
      counts_are = going.counts_are;
      few = going.few;
    }

-- ---- a call ends

cut_now : (h : ℕ) (lanes : List Parts) → AllByRecursion IsSorted lanes → AllByRecursion (GoneBefore h) lanes → AllByRecursion (WaitsFrom h) lanes → AllByRecursion (IsCut h) lanes
cut_now h [] sorted gone waiting = tt
cut_now h (l ∷ lanes) sorted gone waiting = (record { sorted = sorted.0; gone = gone.0; waiting = waiting.0 }, cut_now h lanes sorted.1 gone.1 waiting.1)

-- at a place of lanes that look the same there was one that left the same
same_left : (old new : List Parts) (k : ℕ) (l : Parts) → lanes_of new ≡ lanes_of old → slice_get new k ≡ Some l → (m : Parts) × (slice_get old k ≡ Some m) × (m.left ≡ l.left)
same_left [] [] k l same at = absurd cc
same_left [] (n ∷ new) k l same at = absurd cc
same_left (o ∷ old) [] k l same at = absurd cc
same_left (o ∷ old) (n ∷ new) zero l same at = (o, refl, left (lane_of n) (lane_of o) (lanes_of new) (lanes_of old) same ∙ ap (λ (m : Parts). m.left) (same_Some n l at)) where
  left : (x y : Lane) (xs ys : List Lane) → (x ∷ xs) ≡ (y ∷ ys) → y.left ≡ x.left
  left x y xs ys is = let e : y ≡ x = cc in ap (λ (z : Lane). z.left) e
same_left (o ∷ old) (n ∷ new) (suc k) l same at = same_left old new k l (rest (lane_of n) (lane_of o) (lanes_of new) (lanes_of old) same) at where
  rest : (x y : Lane) (xs ys : List Lane) → (x ∷ xs) ≡ (y ∷ ys) → xs ≡ ys
  rest x y xs ys is = cc

-- what leaves of the same table and the same lanes
pub same_out : (v w : Paced) (h : Option ℕ) (p : PortRow) → w.table ≡ v.table → w.lanes ≡ v.lanes → out_up_to w h p ≡ out_up_to v h p
same_out v w h p table lanes =
    ap (λ (t : Content). out_by t (merged (captures_of w.lanes)) h p) table ∙ ap (λ (ls : List Lane). out_by v.table (merged (captures_of ls)) h p) lanes

pub ends : {Z : Type 0} → MergesAreCut → OutGoesOn → (since until : ℕ) (old mid new : Feeder Z) → since ≤ until → IsGoing since old → PassesOn until false old mid → IsSameTable old.switch mid.switch
    → new.lanes.items ≡ mid.lanes.items → new.counts ≡ mid.counts → new.switch.run ≡ after_advance until mid.switch.run → Keeps mid.switch new.switch → IsGoing until new
ends {Z} cut grows since until old mid new le going passed same lanes counts run keeps = record {
  cut = subst (AllByRecursion (IsCut until)) (sym lanes) now;
  is_given = subst (λ (c : Content). IsGiven c (given_of new.lanes.items) new.switch) (sym table) (subst (λ (xs : List Arrival). IsGiven t xs new.switch) given at.is_given);
  latest = at.latest;
  counts_are = counts ∙ passed.passing.counts_are ∙ ap (λ (xs : List Arrival). counts_so_far t (rows_of t xs)) given
      ∙ ap (λ (c : Content). counts_so_far c (rows_of c (given_of new.lanes.items))) (sym table);
  few = subst (λ (xs : List Arrival). length xs ≤ 18446744073709551616) given passed.passing.few;
  left = left;
} where
  t : Content
  t = mid.switch.run.table

  table : new.switch.run.table ≡ t
  table = ap (λ (r : Run). r.table) run

  now : AllByRecursion (IsCut until) mid.lanes.items
  now = cut_now until mid.lanes.items passed.passing.sorted passed.passing.gone_before (passed.none refl)

  given : passed.passing.given ≡ given_of new.lanes.items
  given =
      same_starts passed.passing.given (given_of mid.lanes.items) (merged (map waiting_of mid.lanes.items))
      (sym passed.passing.whole ∙ parted_whole cut until mid.lanes.items (cut_parted until mid.lanes.items now))
      ∙ ap given_of (sym lanes)

  at : IsAt t passed.passing.given until new.switch
  at = comes t passed.passing.given until mid.switch new.switch passed.passing.is_given run keeps

  all_table : new.switch.run.table ≡ old.switch.run.table
  all_table = table ∙ same.table

  all_lanes : lanes_of new.lanes.items ≡ lanes_of old.lanes.items
  all_lanes = ap lanes_of lanes ∙ passed.comes.lanes

  handed : new.switch.run.handed ≡ old.switch.run.handed
  handed = ap (λ (r : Run). r.handed) run ∙ same.handed

  left : HaveLeft until new
  left place p l is_port is_lane =
      let was = same_left old.lanes.items new.lanes.items place l all_lanes is_lane in
      let before : HasLeft since old place p was.0 = going.left place p was.0 (ap (λ (c : Content). slice_get c.ports place) (sym all_table) ∙ is_port) was.1 in
      let v = paced_of old since false in
      let more = grows.until v since until p le in
      record {
        count = ap (λ (ns : List ℕ). slice_index ns place) handed ∙ before.count ∙ ap length was.2;
        rest = before.rest ++ more.0;
        prefix = same_out v (paced_of new until false) (Some until) p all_table all_lanes ∙ more.1
            ∙ ap (λ (rs : List Record). rs ++ more.0) (before.prefix ∙ ap (λ (rs : List Record). rs ++ before.rest) was.2)
            ∙ append_assoc l.left before.rest more.0;
      }

-- the switch comes to an instant alone
pub same_on : (a b c : State) (h : ℕ) → IsSameTable a b → c.run ≡ after_advance h b.run → Keeps b c → IsSameTable a c
same_on a b c h same run keeps = record {
  table = ap (λ (r : Run). r.table) run ∙ same.table;
  accepted = keeps.accepted ∙ same.accepted;
  keeps = keeps.lists ∙ same.keeps;
  handed = ap (λ (r : Run). r.handed) run ∙ same.handed;
}

pub of_table_on : {Z : Type 0} (old new : Feeder Z) (h : ℕ) → new.lanes.items ≡ old.lanes.items → new.switch.run ≡ after_advance h old.switch.run → IsOfTable old → IsOfTable new
of_table_on old new h lanes run of = record {
  formed = subst IsWellFormed (sym (ap (λ (r : Run). r.table) run)) of.formed;
  ports = ap (map (λ (l : Parts). l.port)) lanes ∙ of.ports ∙ ap (λ (r : Run). map (λ (p : PortRow). p.id) r.table.ports) (sym run);
  handed = ap (λ (r : Run). length r.handed) run ∙ of.handed ∙ ap (λ (r : Run). length r.table.ports) (sym run);
}

-- A switch at which nothing came in.
use Rattle.std.proofs.Common.{◌≡◌, ℕ, zero, suc, ◌≤◌, Bool, false, List, [], ◌∷◌, ◌++◌, map, length, slice_get, slice_index, Some, refl, ap, sym, ◌∙◌, arith, subst}
use Rattle.std.specs.List.{AllByRecursion}
use Rattle.std.proofs.lemmas.List.{length-map}
use Rattle.std.proofs.lemmas.Option.{same_Some}
use Rattle.afdx_pcap.specs.Record.{Record}
use Rattle.afdx_table.specs.declared.rows.PortRow.{PortRow}
use Rattle.afdx_table.specs.Content.{Content}
use Rattle.afdx_table.specs.WellFormed.{IsWellFormed}
use Rattle.afdx_core.specs.State.{State, fresh_state}
use Rattle.afdx_core.specs.Merge.{Arrival, arrivals_of, by_stamp}
use Rattle.afdx_count.specs.Tally.{fresh}
use Rattle.afdx_count.specs.Run.{counts_so_far}
use Rattle.afdx_count.specs.Inner.Laws.{StartsWithNone}
use Rattle.afdx_session.specs.Output.{rows_of}
use Rattle.afdx_session.specs.Inner.Settled.{IsGiven}
use Rattle.afdx_paced.specs.Paced.{out_up_to}
use Rattle.afdx_paced.specs.Inner.Parts.{Parts, fresh_parts, gone_of}
use Rattle.afdx_paced.specs.Inner.Kept.{paced_of, IsOfTable, IsCut, given_of, IsGoing}
use Rattle.afdx_paced.specs.declared.feeder.Feeder.{Feeder}

abbrev pub fresh_all : List PortRow → List Parts
fresh_all ports = map (λ (p : PortRow). fresh_parts p.id) ports

all_cut : (ports : List PortRow) → AllByRecursion (IsCut 0) (fresh_all ports)
all_cut [] = tt
all_cut (p ∷ ports) = (record { sorted = record { rises = tt; early = tt; last = refl }; gone = tt; waiting = tt }, all_cut ports)

none_gone : (ports : List PortRow) → arrivals_of (map gone_of (fresh_all ports)) ≡ []
none_gone [] = refl
none_gone (p ∷ ports) = none_gone ports

none_left : (ports : List PortRow) (k : ℕ) (l : Parts) → slice_get (fresh_all ports) k ≡ Some l → l.left ≡ []
none_left [] k l at = absurd cc
none_left (p ∷ ports) zero l at = ap (λ (x : Parts). x.left) (sym (same_Some (fresh_parts p.id) l at))
none_left (p ∷ ports) (suc k) l at = none_left ports k l at

none_handed : (ports : List PortRow) (k : ℕ) → slice_index (map (λ (p : PortRow). 0) ports) k ≡ 0
none_handed [] k = refl
none_handed (p ∷ ports) zero = refl
none_handed (p ∷ ports) (suc k) = none_handed ports k

same_ports : (ports : List PortRow) → map (λ (l : Parts). l.port) (fresh_all ports) ≡ map (λ (p : PortRow). p.id) ports
same_ports [] = refl
same_ports (p ∷ ports) = ap (λ (ns : List ℕ). p.id ∷ ns) (same_ports ports)

pub fresh_of_table : {Z : Type 0} (f : Feeder Z) (t : Content) (keeps : Bool) → IsWellFormed t → f.switch ≡ fresh_state false keeps t → f.lanes.items ≡ fresh_all t.ports → IsOfTable f
fresh_of_table f t keeps formed switch lanes = record {
  formed = subst (λ (s : State). IsWellFormed s.run.table) (sym switch) formed;
  ports = ap (map (λ (l : Parts). l.port)) lanes ∙ same_ports t.ports ∙ ap (λ (s : State). map (λ (p : PortRow). p.id) s.run.table.ports) (sym switch);
  handed = ap (λ (s : State). length s.run.handed) switch ∙ length-map t.ports (λ (p : PortRow). 0) ∙ ap (λ (s : State). length s.run.table.ports) (sym switch);
}

pub fresh_going : {Z : Type 0} → StartsWithNone → (f : Feeder Z) (t : Content) (keeps : Bool) → f.switch ≡ fresh_state false keeps t → f.counts ≡ fresh t → f.lanes.items ≡ fresh_all t.ports
    → IsGoing 0 f
fresh_going none f t keeps switch counts lanes = record {
  cut = subst (AllByRecursion (IsCut 0)) (sym lanes) (all_cut t.ports);
  is_given = subst (λ (xs : List Arrival). IsGiven f.switch.run.table xs f.switch) (sym given) (record {
    table = refl;
    rows = ap (λ (s : State). s.run.rows) switch;
    still_open = ap (λ (s : State). s.run.finished) switch;
    frames = λ i frame lt. absurd (omega (arith, lt));
  });
  latest = ap (λ (s : State). s.run.latest) switch;
  counts_are = counts ∙ none t ∙ ap (λ (s : State). counts_so_far s.run.table []) (sym switch)
      ∙ ap (λ (xs : List Arrival). counts_so_far f.switch.run.table (rows_of f.switch.run.table xs)) (sym given);
  few = subst (λ (xs : List Arrival). length xs ≤ 18446744073709551616) (sym given) (omega arith);
  left = λ place p l is_port is_lane.
      let is = none_left t.ports place l (ap (λ (ls : List Parts). slice_get ls place) (sym lanes) ∙ is_lane) in
      record {
        count = ap (λ (s : State). slice_index s.run.handed place) switch ∙ none_handed t.ports place ∙ ap length (sym is);
        rest = out_up_to (paced_of f 0 false) (Some 0) p;
        prefix = ap (λ (rs : List Record). rs ++ out_up_to (paced_of f 0 false) (Some 0) p) (sym is);
      };
} where
  given : given_of f.lanes.items ≡ []
  given = ap given_of lanes ∙ ap by_stamp (none_gone t.ports)

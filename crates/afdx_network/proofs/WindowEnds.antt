-- A window begins where the one before ended, or where something happens first, and at its end each switch has come there.
use Rattle.std.proofs.Common.{◌≡◌, ◌<◌, ◌≤◌, ◌==◌, ℕ, max, false, map, length, Some, None, ap, sym, ◌∙◌, arith, inl, inr, subst}
use Rattle.std.specs.Prelude.{Contains}
use Rattle.std.specs.List.{AllByRecursion}
use Rattle.std.proofs.lemmas.Bool.{cases_lt}
use Rattle.afdx_units.specs.Time.{last_second, last_instant, is_before}
use Rattle.afdx_table.specs.declared.rows.PortRow.{PortRow}
use Rattle.afdx_table.specs.Content.{port_row}
use Rattle.afdx_core.specs.Merge.{Arrival}
use Rattle.afdx_session.specs.Output.{written}
use Rattle.afdx_session.specs.Streams.{AllStartBeforeTheLastInstant}
use Rattle.afdx_paced.specs.Paced.{Paced, arrivals, IsNext}
use Rattle.afdx_paced.specs.Laws.{OutGoesOn}
use Rattle.afdx_network_check.specs.Net.{Network}
use Rattle.afdx_network.specs.Runs.{Given}
use Rattle.afdx_network.specs.Inner.Sites.{Site, IsSite, HasSent, IsIn, HasCome, SendsOn}
use Rattle.afdx_network.proofs.Found.{found_passes}
use Rattle.afdx_network.proofs.Outs.{quiet_by, shorter}

-- ---- one switch

-- a port of the table
row_among : (v : Paced) (port : ℕ) (p : PortRow) → port_row v.table port ≡ Some p → Contains v.table.ports p
row_among v port p is = (found_passes (λ (q : PortRow). q.id == port) v.table.ports p is).1

-- up to an instant before which nothing happens all has left
quiet_sent : OutGoesOn → (s : Site) (begin n : ℕ) → IsNext s.paced s.next → s.paced.reached ≤ begin → s.paced.reached ≤ n → is_before n s.next ≡ false → HasSent (Some begin) s → HasSent (Some n) s
quiet_sent on s begin n next from later none sent port p l row found =
    let same = ap length (quiet_by on s.paced s.next n next later none p (row_among s.paced port p row)) in
    let first = shorter on s.paced s.paced.reached begin p from in
    let few = sent port p l row found in
    omega (arith, same, first, few)

pub begins_in : OutGoesOn → (s : Site) (end first n most : ℕ) → IsNext s.paced s.next → HasCome end s → is_before first s.next ≡ false → n ≡ max first end → n ≤ most
    → IsIn n most s × (s.paced.reached ≤ n)
begins_in on s end first n most next come none is le =
    let reached = come.reached in
    elim (cases_lt end first) [
      | inl later ↦
          let at : first ≡ n = omega (arith, is, later) in (
            record {
              reached = omega (arith, reached, is, le);
              sent = subst (λ m. HasSent (Some m) s) at (quiet_sent on s end first next reached (omega (arith, reached, later)) none come.sent);
            },
            omega (arith, reached, is),
          )
      | inr sooner ↦
          let at : end ≡ n = omega (arith, is, sooner) in (
            record { reached = omega (arith, reached, is, le); sent = subst (λ m. HasSent (Some m) s) at come.sent },
            omega (arith, reached, is),
          )
    ]

-- where nothing happens within the window, it has come to its end
pub stays_away : OutGoesOn → (s : Site) (begin end : ℕ) → IsNext s.paced s.next → s.paced.reached ≤ begin → begin ≤ end → IsIn begin end s → is_before end s.next ≡ false → HasCome end s
stays_away on s begin end next from le inside none = record {
  reached = inside.reached;
  sent = quiet_sent on s begin end next from inside.reached none inside.sent;
}

pub still_come : (end : ℕ) (was s : Site) → HasCome end was → SendsOn end was s → HasCome end s
still_come end was s come on = record {
  reached = let before = come.reached in let same = on.reached in omega (arith, before, same);
  sent = λ port p l row found.
      let left = on.left port l found in
      let before = come.sent port p left.0 (ap (λ t. port_row t port) (sym on.table) ∙ row) left.1 in
      let same = ap length (on.out end p (omega arith)) in
      let more = left.2 in
      omega (arith, before, same, more);
}

pub sends_on : (end : ℕ) (s t u : Site) → SendsOn end s t → SendsOn end t u → SendsOn end s u
sends_on end s t u first next = record {
  table = next.table ∙ first.table;
  reached = next.reached ∙ first.reached;
  out = λ h p le. next.out h p le ∙ first.out h p le;
  left = λ port l found.
      let middle = next.left port l found in
      let before = first.left port middle.0 middle.1 in
      let one = middle.2 in let other = before.2 in
      (before.0, before.1, omega (arith, one, other));
}

-- ---- the end

pub all_quiet : OutGoesOn → (s : Site) (end : ℕ) → IsNext s.paced s.next → s.next ≡ None → HasCome end s → HasSent None s
all_quiet on s end next none come port p l row found =
    let quiet = subst (IsNext s.paced) none next in
    let same = ap length (quiet p (row_among s.paced port p row)) in
    let first = shorter on s.paced s.paced.reached end p come.reached in
    let few = come.sent port p l row found in
    omega (arith, same, first, few)

pub all_started : AllStartBeforeTheLastInstant → (net : Network) (given : Given) (switch : ℕ) (s : Site) → IsSite net given switch s
    → AllByRecursion (λ (a : Arrival). a.frame.stamp < last_second) (arrivals s.paced) → HasCome last_instant s → HasSent None s
all_started law net given switch s site early come port p l row found =
    let same = ap length (ap (map (written (arrivals s.paced))) (law s.paced.table (arrivals s.paced) p site.running.formed (row_among s.paced port p row) early)) in
    let few = come.sent port p l row found in
    omega (arith, same, few)

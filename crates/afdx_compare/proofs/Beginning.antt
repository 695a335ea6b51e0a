-- What a comparison is before anything was read.
use Rattle.std.proofs.Common.{◌≡◌, ℕ, zero, suc, ◌+◌, ◌≤◌, Bool, true, false, List, [], ◌∷◌, ◌++◌, length, Option, Some, None, refl, sym, ap, subst, ◌∙◌, arith}
use Rattle.std.specs.Prelude.{◌&&◌, if◌then◌else◌, slice_get}
use Rattle.std.specs.List.{AllByRecursion}
use Rattle.std.specs.Option.{option_map_or}
use Rattle.std.proofs.Math.Nat.{min-le_left, le_trans}
use Rattle.std.proofs.lemmas.Bool.{leb-true}
use Rattle.std.proofs.lemmas.List.{length-map}
use Rattle.afdx_units.specs.Time.{last_instant}
use Rattle.afdx_units.specs.declared.line.Priority.{Priority}
use Rattle.afdx_table.specs.declared.rows.PortRow.{PortRow}
use Rattle.afdx_table.specs.Link.{Link}
use Rattle.afdx_table.specs.Content.{Content, port_row}
use Rattle.afdx_table.specs.WellFormed.{IsWellFormed}
use Rattle.afdx_following.specs.declared.watch.Watch.{Watch}
use Rattle.afdx_following.specs.declared.watch.Start.{Start}
use Rattle.afdx_following.specs.declared.watch.Start.TheVariants.{Rest, Cut}
use Rattle.afdx_following.specs.Watch.{has_begun, has_not_ended, unknown_from}
use Rattle.afdx_following.specs.Output.{Output}
use Rattle.afdx_following.specs.Watched.{Watched}
use Rattle.afdx_merging.specs.Merge.{Arrival}
use Rattle.afdx_recordings.specs.declared.recordings.Recordings.{Recordings}
use Rattle.afdx_recordings.specs.declared.outputs.Outputs.{Outputs}
use Rattle.afdx_recordings.specs.Recordings.{is_recorded}
use Rattle.afdx_compare.specs.declared.sources.Source.{Source}
use Rattle.afdx_compare.specs.Comparison.{Port, Comparison, no_records, watch_of, output_first, outputs_first, IsFirstOf, AreFirstOf, IsBegun}
use Rattle.afdx_compare.specs.Inner.Sound.{IsLimited, IsOf, IsSound, IsBy}
use Rattle.afdx_compare.specs.Inner.Due.{IsDueBy, IsDue, AreDue, counts_as, counts, AreFrom}

-- ---- a link's ports have the limits of their lines

port_limited : (w : Watch) (t : Content) (keeps : Bool) (priority : Priority) (port : ℕ) (is : Bool) (row : Option PortRow) → port_row t port ≡ row → (rest : List Output)
    → AllByRecursion (λ o. IsLimited w t o.port o.limits) rest → AllByRecursion (λ o. IsLimited w t o.port o.limits) ((if is then output_first w t keeps priority port row else []) ++ rest)
port_limited w t keeps priority port true None found rest all = all
port_limited w t keeps priority port true (Some row) found rest all = (record { row = row; is_row = found; speed = refl; gap = refl; tolerance = refl }, all)
port_limited w t keeps priority port false row found rest all = all

ports_limited : (w : Watch) (t : Content) (recorded : Outputs) (keeps : Bool) (priority : Priority) (ports : List ℕ)
    → AllByRecursion (λ o. IsLimited w t o.port o.limits) (outputs_first w t recorded keeps priority ports)
ports_limited w t recorded keeps priority [] = tt
ports_limited w t recorded keeps priority (port ∷ ports) =
    port_limited w t keeps priority port (is_recorded recorded port) (port_row t port) refl (outputs_first w t recorded keeps priority ports) (ports_limited w t recorded keeps priority ports)

first_of : (w : Watch) (t : Content) (recorded : Outputs) (keeps : Bool) (l : Link) (f : Watched) → IsFirstOf w t recorded keeps l f → IsOf w t l f
first_of w t recorded keeps l f one =
    subst (λ (x : Watched). IsOf w t l x) (sym one.first) (record { terms = one.terms; outputs = ports_limited w t recorded keeps l.priority l.to })

-- ---- all links

first_many : (w : Watch) (t : Content) (recorded : Outputs) (keeps : Bool) (ls : List Link) (fs : List Watched) → AreFirstOf w t recorded keeps ls fs → length fs ≡ length ls
first_many w t recorded keeps [] [] all = refl
first_many w t recorded keeps [] (f ∷ fs) all = absurd all
first_many w t recorded keeps (l ∷ ls) [] all = absurd all
first_many w t recorded keeps (l ∷ ls) (f ∷ fs) all = ap (λ (n : ℕ). suc n) (first_many w t recorded keeps ls fs all.1)

pub first_each : (w : Watch) (t : Content) (recorded : Outputs) (keeps : Bool) (ls : List Link) (fs : List Watched) → AreFirstOf w t recorded keeps ls fs → (place : ℕ) (l : Link) (f : Watched)
    → slice_get ls place ≡ Some l → slice_get fs place ≡ Some f → IsFirstOf w t recorded keeps l f
first_each w t recorded keeps [] [] all place l f there get = absurd (let never = there in cc)
first_each w t recorded keeps [] (g ∷ fs) all place l f there get = absurd all
first_each w t recorded keeps (m ∷ ls) [] all place l f there get = absurd all
first_each w t recorded keeps (m ∷ ls) (g ∷ fs) all zero l f there get =
    subst (λ (x : Link). IsFirstOf w t recorded keeps x f) (let same : m ≡ l = cc in same) (subst (λ (x : Watched). IsFirstOf w t recorded keeps m x) (let same : g ≡ f = cc in same) all.0)
first_each w t recorded keeps (m ∷ ls) (g ∷ fs) all (suc place) l f there get = first_each w t recorded keeps ls fs all.1 place l f there get

pub begun_sound : (t : Content) (r : Recordings) (from : ℕ) (keeping : Bool) (c : Comparison) → IsWellFormed t → IsBegun t r from keeping c → IsSound c
begun_sound t r from keeping c formed begun =
    let w = watch_of t r from in
    let first : IsSound (record { table = t; watch = w; keeps = c.keeps; links = c.links; ports = c.ports }) = record {
      formed = formed;
      many_links = first_many w t r.outputs keeping t.links c.links begun.links;
      many_ports = ap (λ (ps : List Port). length ps) begun.ports ∙ length-map t.ports (λ p. no_records);
      each = λ place l f there get. first_of w t r.outputs keeping l f (first_each w t r.outputs keeping t.links c.links begun.links place l f there get);
    } in
    subst (λ (x : Watch). IsSound (record { table = c.table; watch = x; keeps = c.keeps; links = c.links; ports = c.ports })) (sym begun.watch)
    (subst (λ (x : Content). IsSound (record { table = x; watch = w; keeps = c.keeps; links = c.links; ports = c.ports })) (sym begun.table) first)

-- ---- the instant from which on links are watched

abbrev first_from : ℕ → Start → ℕ
first_from tolerance start = option_map_or (λ at. at) (unknown_from tolerance start) 0

abbrev pub first_at : Watch → ℕ
first_at w = first_from w.tolerance w.start

first_by : (w : Watch) (t : Content) (recorded : Outputs) (keeps : Bool) (ls : List Link) (fs : List Watched) → AreFirstOf w t recorded keeps ls fs
    → AllByRecursion (λ f. f.latest ≤ first_at w) fs
first_by w t recorded keeps [] [] all = tt
first_by w t recorded keeps [] (f ∷ fs) all = absurd all
first_by w t recorded keeps (l ∷ ls) [] all = absurd all
first_by w t recorded keeps (l ∷ ls) (f ∷ fs) all =
    ((let is : f.latest ≡ first_at w = ap (λ (x : Watched). x.latest) all.0.first in omega (arith, is)), first_by w t recorded keeps ls fs all.1)

pub begun_by : (t : Content) (r : Recordings) (from : ℕ) (keeping : Bool) (c : Comparison) → IsBegun t r from keeping c → IsBy (first_at (watch_of t r from)) c
begun_by t r from keeping c begun = first_by (watch_of t r from) t r.outputs keeping t.links c.links begun.links

-- what counts is no sooner
begun_from : (tolerance : ℕ) (start : Start) (after stamp due : ℕ) → has_begun start after stamp ≡ true → stamp + tolerance ≤ due + after → first_from tolerance start ≤ due
begun_from tolerance Rest after stamp due has later = omega arith
begun_from tolerance (Cut from) after stamp due has later =
    let le = leb-true (from + after) stamp has in
    let least = min-le_left (from + tolerance) last_instant in
    let goes : from + tolerance ≤ due = omega (arith, le, later) in
    le_trans least goes

both_first : (a b : Bool) → (a && b) ≡ true → a ≡ true
both_first true b both = refl
both_first false b both = both

side_from : (w : Watch) (t : Content) (s : Source) (leaves : Bool) (a : Arrival) → IsDueBy w t s leaves a → counts_as w leaves a.head.frame.stamp ≡ true → first_at w ≤ a.due
side_from w t s true a due has =
    begun_from w.tolerance w.start 0 a.head.frame.stamp a.due
    (both_first (has_begun w.start 0 a.head.frame.stamp) (has_not_ended w.until (a.head.frame.stamp + w.tolerance)) has) (let is = due.due in omega (arith, is))
side_from w t s false a due has =
    begun_from w.tolerance w.start w.tolerance a.head.frame.stamp a.due
    (both_first (has_begun w.start w.tolerance a.head.frame.stamp) (has_not_ended w.until a.head.frame.stamp) has) (omega (arith, due))

one_from : (w : Watch) (t : Content) (s : Option Source) (a : Arrival) → IsDue w t s a → counts w s a ≡ true → first_at w ≤ a.due
one_from w t None a due has = absurd (let never = has in cc)
one_from w t (Some s) a due has = side_from w t s s.leaves a due has

pub all_from : (w : Watch) (t : Content) (captures : List Source) (arrivals : List Arrival) → AreDue w t captures arrivals → AreFrom w captures (first_at w) arrivals
all_from w t captures [] due = tt
all_from w t captures (a ∷ arrivals) due = (one_from w t (slice_get captures a.place) a due.0, all_from w t captures arrivals due.1)

-- The laws of what is reported.
use Rattle.std.proofs.Common.{◌≡◌, ℕ, ◌≤◌, ◌==◌, max, Bool, true, false, cond, List, [], ◌∷◌, ◌++◌, map, Some, refl, sym, ap, ◌∙◌, arith}
use Rattle.std.specs.Prelude.{filter, IfSome, All, Contains}
use Rattle.std.specs.List.{fold, best_of}
use Rattle.std.proofs.lemmas.Bool.Decides.{nat_tests}
use Rattle.std.proofs.lemmas.List.Elements.{All-nil, All-cons, All-head, All-tail}
use Rattle.afdx_units.specs.declared.line.Priority.{Priority}
use Rattle.afdx_table.specs.declared.rows.PortRow.{PortRow}
use Rattle.afdx_table.specs.Link.{Link}
use Rattle.afdx_table.specs.Content.{Content}
use Rattle.afdx_table.specs.WellFormed.{IsWellFormed}
use Rattle.afdx_port.specs.declared.Settings.{Settings}
use Rattle.afdx_port.specs.declared.Item.{Item}
use Rattle.afdx_port.specs.declared.Sent.{Sent}
use Rattle.afdx_port.specs.Admission.{AllFitIn}
use Rattle.afdx_port.specs.Inner.Admission.{AdmittedFit}
use Rattle.afdx_load.specs.Load.{load_of}
use Rattle.afdx_load.specs.Bounds.{backlog, byte_time}
use Rattle.afdx_load.specs.Accepted.{IsAccepted}
use Rattle.afdx_isolation.specs.Table.{settings_of, bound_of, IsInBoundAt}
use Rattle.afdx_core.specs.Rows.{feed_of}
use Rattle.afdx_core.specs.Inner.Agreement.{CopiesHaveTheirLinksPriority}
use Rattle.afdx_core.specs.Inner.Backlog.{BuffersHoldTheBacklog}
use Rattle.afdx_core.specs.Isolation.{IsRun, AcceptedTablesIsolate}
use Rattle.afdx_core.specs.State.{Run, port_in, sent_in}
use Rattle.afdx_measure.specs.declared.filling.Filling.{Filling}
use Rattle.afdx_measure.specs.Delays.{delay_of, delays_of, range_of, summary_of}
use Rattle.afdx_measure.specs.Peak.{is_fuller, fillings, peak_of}
use Rattle.afdx_measure.specs.Ports.{peak_at}

-- ---- delays

greatest_within : (bound n : ℕ) (ns : List ℕ) → n ≤ bound → All (λ k. k ≤ bound) ns → fold max n ns ≤ bound
greatest_within bound n [] le h = le
greatest_within bound n (m ∷ ns) le h =
    let first = All-head (λ k. k ≤ bound) m ns h in
    greatest_within bound (max n m) ns (omega (arith, le, first)) (All-tail (λ k. k ≤ bound) m ns h)

range_within : (bound : ℕ) (ns : List ℕ) → All (λ k. k ≤ bound) ns → IfSome (range_of ns) (λ range. range.greatest ≤ bound)
range_within bound [] h = tt
range_within bound (n ∷ ns) h = greatest_within bound n ns (All-head (λ k. k ≤ bound) n ns h) (All-tail (λ k. k ≤ bound) n ns h)

abbrev IsOf : ℕ → Priority → Sent → Type 0
IsOf link priority x = x.item.link ≡ link → x.item.priority ≡ priority

delays_within : (t : Content) (p : PortRow) (sent : List Sent) (link bound : ℕ) (priority : Priority) → All (IsInBoundAt t p) sent → All (IsOf link priority) sent
    → bound_of (load_of t.latency p.speed p.id t.links) priority ≡ Some bound → All (λ k. k ≤ bound) (delays_of link sent)
delays_within t p [] link bound priority within of_one is = All-nil (λ k. k ≤ bound)
delays_within t p (x ∷ sent) link bound priority within of_one is =
    by (x.item.link == link) refl (delays_within t p sent link bound priority (All-tail (IsInBoundAt t p) x sent within) (All-tail (IsOf link priority) x sent of_one) is)
    (All-head (IsInBoundAt t p) x sent within) (All-head (IsOf link priority) x sent of_one) where
      same : (a b : ℕ) → (a == b) ≡ true → a ≡ b
      same a b e = grind (arith, nat_tests)

      one : {a b : ℕ} → Some a ≡ Some b → a ≡ b
      one e = (cc)

      by : (b : Bool) → (x.item.link == link) ≡ b → All (λ k. k ≤ bound) (delays_of link sent) → IsInBoundAt t p x → IsOf link priority x
          → All (λ k. k ≤ bound) (map delay_of (cond b (x ∷ filter (λ (y : Sent). y.item.link == link) sent) (filter (λ (y : Sent). y.item.link == link) sent)))
      by false other more bounded of_it = more
      by true hit more bounded of_it =
          let bounds = one (sym bounded.bound_is ∙ ap (bound_of (load_of t.latency p.speed p.id t.links)) (of_it (same x.item.link link hit)) ∙ is) in
          All-cons (λ k. k ≤ bound) (delay_of x) (delays_of link sent) (omega (arith, bounded.most, bounds)) more

delays_are_within : (t : Content) (p : PortRow) (sent : List Sent) (link bound : ℕ) (priority : Priority) → All (IsInBoundAt t p) sent
    → All (λ (x : Sent). x.item.link ≡ link → x.item.priority ≡ priority) sent → bound_of (load_of t.latency p.speed p.id t.links) priority ≡ Some bound
    → IfSome (summary_of (delays_of link sent)).range (λ range. range.greatest ≤ bound)
delays_are_within t p sent link bound priority within of_one is = range_within bound (delays_of link sent) (delays_within t p sent link bound priority within of_one is)

-- ---- peaks

all_fit : (bytes : ℕ) (s : Settings) (before items : List Item) → AllFitIn bytes s before items → All (λ (f : Filling). f.bytes ≤ bytes) (fillings s before items)
all_fit bytes s before [] h = All-nil (λ (f : Filling). f.bytes ≤ bytes)
all_fit bytes s before (x ∷ items) h = All-cons (λ (f : Filling). f.bytes ≤ bytes) _ (fillings s (before ++ x ∷ []) items) h.0 (all_fit bytes s (before ++ x ∷ []) items h.1)

best_within : (most : ℕ) (f : Filling) (fs : List Filling) → f.bytes ≤ most → All (λ (g : Filling). g.bytes ≤ most) fs → (best_of is_fuller f fs).bytes ≤ most
best_within most f [] le h = le
best_within most f (g ∷ fs) le h =
    let first = All-head (λ (g : Filling). g.bytes ≤ most) g fs h in
    best_within most (cond (is_fuller g f) g f) fs (either (is_fuller g f) first) (All-tail (λ (g : Filling). g.bytes ≤ most) g fs h) where
      either : (b : Bool) → g.bytes ≤ most → (cond b g f).bytes ≤ most
      either true first = first
      either false first = le

peak_within : (most : ℕ) (fs : List Filling) → All (λ (g : Filling). g.bytes ≤ most) fs → IfSome (peak_of fs) (λ f. f.bytes ≤ most)
peak_within most [] h = tt
peak_within most (f ∷ fs) h = best_within most f fs (All-head (λ (g : Filling). g.bytes ≤ most) f fs h) (All-tail (λ (g : Filling). g.bytes ≤ most) f fs h)

pub peak_is_within : AdmittedFit → (r : Run) (p : PortRow) → IfSome (peak_at r p) (λ f. f.bytes ≤ p.buffer)
peak_is_within law r p =
    let items = (port_in r p).admitted in
    peak_within p.buffer (fillings (settings_of r.table.latency p) [] items) (all_fit p.buffer (settings_of r.table.latency p) [] items
    (law (settings_of r.table.latency p) (feed_of r.table p.id r.rows)))

-- ---- accepted tables

pub bounded : AcceptedTablesIsolate → CopiesHaveTheirLinksPriority → (r : Run) → IsRun r → IsWellFormed r.table → IsAccepted r.table → (p : PortRow) → Contains r.table.ports p
    → (l : Link) → Contains r.table.links l → (bound : ℕ) → bound_of (load_of r.table.latency p.speed p.id r.table.links) l.priority ≡ Some bound
    → IfSome (summary_of (delays_of l.id (sent_in r (Some p)))).range (λ range. range.greatest ≤ bound)
bounded isolate priorities r run well accepted p among l in_table bound is =
    delays_are_within r.table p (sent_in r (Some p)) l.id bound l.priority ((isolate r run well accepted).in_bound p among) (priorities r p l well in_table) is

pub held : BuffersHoldTheBacklog → (r : Run) → IsRun r → IsWellFormed r.table → IsAccepted r.table → (p : PortRow) → Contains r.table.ports p
    → (bytes : ℕ) → backlog (load_of r.table.latency p.speed p.id r.table.links) ≤ byte_time p.speed bytes
    → IfSome (peak_of (fillings (settings_of r.table.latency p) [] (port_in r p).admitted)) (λ f. f.bytes ≤ bytes)
held hold r run well accepted p among bytes holds =
    let items = (port_in r p).admitted in
    peak_within bytes (fillings (settings_of r.table.latency p) [] items) (all_fit bytes (settings_of r.table.latency p) [] items (hold r run well accepted p among bytes holds))

-- What an accepted table gives over the lines of its ports.
use Rattle.std.proofs.Common.{◌≡◌, ℕ, ◌+◌, ◌-◌, ◌*◌, ◌/◌, ◌<◌, ◌≤◌, Bool, true, false, cond, Option, Some, None, List, [], ◌∷◌, get_or, refl, ap, sym, ◌∙◌, subst, arith, ⊎_elim}
use Rattle.std.specs.Prelude.{nat_eq, nat_lt, ◌&&◌, ◌||◌, ◌==◌, All, Contains}
use Rattle.std.specs.List.{list_any}
use Rattle.std.proofs.lemmas.Bool.{cases_Bool}
use Rattle.std.proofs.lemmas.Bool.Decides.{nat_tests}
use Rattle.std.proofs.lemmas.Nat.{le-div}
use Rattle.std.proofs.Math.Nat.{div-mul-le_self}
use Rattle.std.proofs.lemmas.List.Elements.{All-nil, All-cons, All-map, All-filter, All-weaker, All-contains, All-contains_itself, All-from_recursion, Contains-append_right}
use Rattle.std.proofs.lemmas.Grind.{common_steps}
use Rattle.afdx_units.specs.declared.line.Priority.{Priority}
use Rattle.afdx_units.specs.declared.line.Priority.TheVariants.{High, Low}
use Rattle.afdx_account.specs.Policing.{parts}
use Rattle.afdx_account.specs.Inner.Laws.{PricesPay}
use Rattle.afdx_port.specs.declared.Settings.{Settings}
use Rattle.afdx_port.specs.declared.Item.{Item}
use Rattle.afdx_port.specs.Service.{reach, service, sent_of}
use Rattle.afdx_port.specs.Admission.{admitted}
use Rattle.afdx_port.specs.Content.{Content as PortContent, done}
use Rattle.afdx_table.specs.declared.rows.PortRow.{PortRow}
use Rattle.afdx_table.specs.Link.{Link, leads_to}
use Rattle.afdx_table.specs.Content.{Content}
use Rattle.afdx_table.specs.WellFormed.{IsLink, IsWellFormed}
use Rattle.afdx_load.specs.Load.{behind, routed, links_load, load_of}
use Rattle.afdx_load.specs.Accepted.{Carries}
use Rattle.afdx_load.specs.Inner.Laws.{AsksWhatItsAccountGives, EachLinkAsks, AcceptedKeepsBounds}
use Rattle.afdx_isolation.specs.Inner.Flow.{Flow, Demand, CarriesFlows, demand_of, bound}
use Rattle.afdx_isolation.specs.Inner.Lines.{Line, AreOnLines, demand_by}
use Rattle.afdx_isolation.specs.Inner.LineClaims.{CarriesLines, LinesIsolate}
use Rattle.afdx_isolation.specs.Inner.LineTable.{line_at, lines_of, lesser, AreLesser, AcceptedLinesKeepBounds}
use Rattle.afdx_isolation.specs.Inner.Arrivals.{IsClean, feed_of}
use Rattle.afdx_isolation.specs.Inner.Claims.{Arrive, IsInBound, IsTimely, IsIsolatedSoFar, IsolatesSoFar}
use Rattle.afdx_isolation.specs.Inner.Ground.{Ground}
use Rattle.afdx_isolation.specs.Table.{settings_of, bound_of}
use Rattle.afdx_isolation.specs.Inner.Table.{flow_of, flows_at, IsCleanIn}
use Rattle.afdx_isolation.proofs.Leaving.{all_in_bound, carried_out}
use Rattle.afdx_isolation.proofs.Tables.{SameLoad, same_load, some_high, some_low, KeepsBounds, carries, paid, clean, distinct}

-- ---- lists

found : {X : Type 0} (p : X → Bool) (xs : List X) → list_any p xs ≡ true → (x : X) × Contains xs x × (p x ≡ true)
found p [] h = (cc)
found p (x ∷ xs) h = ⊎_elim
    (λ (is : p x ≡ true). (x, (0, omega arith, refl), is))
    (λ (is : p x ≡ false).
    let rest = found p xs (right (p x) (list_any p xs) is h) in
    (rest.0, Contains-append_right (x ∷ []) xs rest.0 rest.1, rest.2))
    (cases_Bool (p x)) where
      right : (a b : Bool) → a ≡ false → a || b ≡ true → b ≡ true
      right a b e h = grind (arith, nat_tests)

shown : {X : Type 0} (p : X → Bool) (xs : List X) → All (λ x. p x ≡ true → list_any p xs ≡ true) xs
shown p [] = All-nil (λ x. p x ≡ true → list_any p [] ≡ true)
shown p (x ∷ xs) = All-cons (λ y. p y ≡ true → list_any p (x ∷ xs) ≡ true) x xs (λ is. left' (p x) (list_any p xs) is)
    (All-weaker (λ y. p y ≡ true → list_any p xs ≡ true) (λ y. p y ≡ true → list_any p (x ∷ xs) ≡ true) (λ y h is. right' (p x) (list_any p xs) (h is)) xs (shown p xs)) where
      left' : (a b : Bool) → a ≡ true → a || b ≡ true
      left' a b h = grind (arith, nat_tests)

      right' : (a b : Bool) → b ≡ true → a || b ≡ true
      right' a b h = grind (arith, nat_tests)

shares : (a b n : ℕ) → 0 < n → a ≤ b → a / n ≤ b / n
shares a b n some le = le-div (a / n) b n some (omega (arith, le, div-mul-le_self a n))

-- ---- a port of a table

module _ (t : Content) (row : PortRow) (well : IsWellFormed t) (rounding_at : ℕ → Option ℕ) where
  abbrev flows : List Flow
  flows = flows_at t row

  link_on : (l : Link) → Contains t.links l → (line : Line) × Contains (lines_of t rounding_at) line × (line.has l.id ≡ true)
  link_on l among =
      let is = All-contains (IsLink t.ports) t.links l (All-from_recursion (IsLink t.ports) t.links well.links) among in
      let q = found (λ (p : PortRow). p.id == l.from) t.ports is.from_port in
      let there : Contains (lines_of t rounding_at) (line_at t.links rounding_at q.0) = let inside = q.1 in grind (arith, common_steps, inside) in
      let both : (nat_eq l.id l.id && nat_eq l.from q.0.id) ≡ true = same l.id l.from q.0.id q.2 in (
        line_at t.links rounding_at q.0,
        there,
        All-contains (λ k. (nat_eq k.id l.id && nat_eq k.from q.0.id) ≡ true → list_any (λ m. nat_eq m.id l.id && nat_eq m.from q.0.id) t.links ≡ true) t.links l
            (shown (λ (m : Link). nat_eq m.id l.id && nat_eq m.from q.0.id) t.links) among both,
      ) where
        same : (i a b : ℕ) → (b == a) ≡ true → (nat_eq i i && nat_eq a b) ≡ true
        same i a b h = grind (arith, nat_tests)

  on_lines : AreOnLines (lines_of t rounding_at) flows
  on_lines = All-map (λ flow. (line : Line) × Contains (lines_of t rounding_at) line × (line.has flow.id ≡ true)) (flow_of row.speed) (routed row.id t.links)
      (All-filter (leads_to row.id) (λ l. (line : Line) × Contains (lines_of t rounding_at) line × (line.has l.id ≡ true)) t.links
      (All-weaker (Contains t.links) (λ l. (line : Line) × Contains (lines_of t rounding_at) line × (line.has l.id ≡ true)) link_on t.links (All-contains_itself t.links)))

  module _ (asks : AsksWhatItsAccountGives) (burst high_burst : ℕ) (less : AreLesser t row rounding_at burst high_burst) where
    abbrev links : List Link
    links = routed row.id t.links

    abbrev s : Settings
    s = settings_of t.latency row

    abbrev demand' : Demand
    demand' = demand_by s flows burst high_burst

    same : SameLoad t.latency row asks links
    same = same_load t.latency row asks links

    less_all : burst ≤ (demand_of s flows).burst
    unfolding links_load
    less_all = let e = same.burst in let le = less.all_less in omega (arith, e, le)

    less_high : high_burst ≤ (demand_of s flows).high_burst
    unfolding links_load
    less_high = let e = same.high_burst in let le = less.high_less in omega (arith, e, le)

    lesser_bound : (priority : Priority) → (priority ≡ Low → (demand_of s flows).high_rate < parts) → bound demand' priority ≤ bound (demand_of s flows) priority
    lesser_bound High some =
        let d = demand_of s flows in
        let q = shares (high_burst + parts * d.low_largest) (d.high_burst + parts * d.low_largest) parts (omega arith) (omega (arith, less_high)) in
        omega (arith, q)
    lesser_bound Low some =
        let d = demand_of s flows in
        let q = shares burst d.burst (parts - d.high_rate) (omega (arith, some refl)) less_all in
        omega (arith, q)

    -- the high links leave a part of the line where a low one leads there
    leaves : KeepsBounds t.latency row asks links → All (λ (flow : Flow). flow.priority ≡ Low → (demand_of s flows).high_rate < parts) flows
    leaves bounds = All-weaker (λ (flow : Flow). flow.priority ≡ Low → 0 < (links_load row.speed links).lows) (λ (flow : Flow). flow.priority ≡ Low → (demand_of s flows).high_rate < parts)
        (λ flow some is. let part = (bounds.1 (some is)).0 in omega (arith, part, same.high_rate)) flows (some_low t.latency row asks links)

    lines_carry : CarriesFlows s flows → KeepsBounds t.latency row asks links → CarriesLines s flows (lines_of t rounding_at) burst high_burst
    lines_carry h bounds = record {
      rate = h.rate;
      on_lines = on_lines;
      enough = less.enough;
      buffer = omega (arith, h.buffer, less_all);
      delay = by;
    } where
      by : (priority : Priority) → All (λ (flow : Flow). flow.priority ≡ priority → bound demand' priority ≤ s.max_delay) flows
      by High k d lt is = let q = h.high k d lt is in omega (arith, q, lesser_bound High (λ low. absurd (other low))) where
        other : High ≡ Low → ⊥
        other e = (cc)
      by Low k d lt is = let q = h.low k d lt is in omega (arith, q, lesser_bound Low (λ low. leaves bounds k d lt is))

    -- the bound of the lesser load, where a flow has this priority
    lesser_some : KeepsBounds t.latency row asks links → (flow : Flow) → Contains flows flow → (priority : Priority) → flow.priority ≡ priority
        → bound_of (lesser (behind t.latency (links_load row.speed links)) burst high_burst) priority ≡ Some (bound demand' priority)
    lesser_some bounds flow among High is =
        let some = All-contains (λ (flow : Flow). flow.priority ≡ High → 0 < (links_load row.speed links).highs) flows flow (some_high t.latency row asks links) among is in
        given (nat_lt 0 (links_load row.speed links).highs) _ (positive _ some) ∙ ap (λ n. Some ((high_burst + parts * n) / parts + t.latency)) (sym same.low_largest) where
          positive : (n : ℕ) → 0 < n → nat_lt 0 n ≡ true
          positive n h = grind (arith, nat_tests)

          given : (v : Bool) (o : Option ℕ) → v ≡ true → cond v o None ≡ o
          given v o is = ap (λ v. cond v o None) is
    lesser_some bounds flow among Low is =
        let some = All-contains (λ (flow : Flow). flow.priority ≡ Low → 0 < (links_load row.speed links).lows) flows flow (some_low t.latency row asks links) among is in
        given (nat_lt 0 (links_load row.speed links).lows) (nat_lt (links_load row.speed links).high_rate parts) _ (below _ _ some) (below _ _ (bounds.1 some).0)
        ∙ ap (λ n. Some (burst / (parts - n) + t.latency)) (sym same.high_rate) where
          below : (m n : ℕ) → m < n → nat_lt m n ≡ true
          below m n h = grind (arith, nat_tests)

          given : (v w : Bool) (o : Option ℕ) → v ≡ true → w ≡ true → cond (v && w) o None ≡ o
          given v w o iv iw = ap (λ v. cond (v && w) o None) iv ∙ ap (λ w. cond w o None) iw

-- what a port has done is in bound, where all that it makes of these items is timely
done_in_bound : (g : Ground) (s : Settings) (demand : Demand) (items : List Item) (c : PortContent) → c.settings ≡ s → c.admitted ≡ items → All (IsTimely s demand) (service s 0 items)
    → All (IsInBound s demand) (sent_of (done c))
done_in_bound g s demand items c settings admits timely =
    let here : All (IsTimely c.settings demand) (service c.settings 0 c.admitted)
    = subst (λ (s : Settings). All (IsTimely s demand) (service s 0 c.admitted)) (sym settings) (subst (λ xs. All (IsTimely s demand) (service s 0 xs)) (sym admits) timely) in
    subst (λ (s : Settings). All (IsInBound s demand) (sent_of (done c))) settings
    (all_in_bound c.settings demand (done c) (carried_out g c.settings demand c.admitted here c.finished (reach c.settings c.horizon)))

pub lines_keep_bounds : Ground → PricesPay → AsksWhatItsAccountGives → EachLinkAsks → AcceptedKeepsBounds → IsolatesSoFar → LinesIsolate → AcceptedLinesKeepBounds
lines_keep_bounds g pays asks some keeps isolates lines t arrivals h row among rounding_at apart burst high_burst less c settings is =
    let s = settings_of t.latency row in
    let links = routed row.id t.links in
    let flows = flows_at t row in
    let demand' = demand_by s flows burst high_burst in
    let arrive : Arrive s flows arrivals = record {
      paid = paid t row h.well_formed pays asks some;
      distinct = distinct t row h.well_formed;
      stamps = h.stamps;
      clean = All-weaker (IsCleanIn t) (IsClean flows) (λ x is. clean t row h.well_formed x is) arrivals h.clean;
    } in
    let bounds : KeepsBounds t.latency row asks links = All-contains (λ (row : PortRow). KeepsBounds t.latency row asks (routed row.id t.links)) t.ports row (keeps t h.well_formed h.accepted) among in
    let accepted = All-contains (λ (row : PortRow). 0 < (load_of t.latency row.speed row.id t.links).highs + (load_of t.latency row.speed row.id t.links).lows
    → Carries row (load_of t.latency row.speed row.id t.links)) t.ports row h.accepted among in
    let carried : CarriesFlows s flows = carries t.latency row asks links accepted bounds in
    let all : IsIsolatedSoFar flows arrivals c = isolates c flows arrivals (subst (λ s. Arrive s flows arrivals) (sym settings) arrive) (subst (λ s. CarriesFlows s flows) (sym settings) carried)
    (subst (λ s. c.admitted ≡ admitted s (feed_of flows arrivals)) (sym settings) is) in
    let by = lines s flows (lines_of t rounding_at) burst high_burst arrivals arrive apart (lines_carry t row h.well_formed rounding_at asks burst high_burst less carried bounds) in
    let in_bound = done_in_bound g s demand' (admitted s (feed_of flows arrivals)) c settings is by.timely in
    λ k d lt.
    let x = get_or (sent_of (done c)) k d in
    let of = all.of_flows k d lt in
    let within = in_bound k d lt in
    record {
      bound = bound demand' x.item.priority;
      bound_is = lesser_some t row h.well_formed rounding_at asks burst high_burst less bounds of.flow of.among x.item.priority of.priority;
      least = within.least;
      most = within.most;
    }

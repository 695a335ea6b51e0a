-- Each turn's jitters are at most those of any network that suffices, from the sources' own on.
use Rattle.std.proofs.Common.{◌≡◌, ℕ, zero, suc, ◌+◌, ◌-◌, ◌*◌, ◌/◌, ◌%◌, ◌<◌, ◌≤◌, ◌||◌, inl, inr, true, false, cond, nat_lt, List, [], ◌∷◌, map, find, length, get_or}
use Rattle.std.proofs.Common.{Option, Some, None, is_some, option_map, Ok, refl, ap, sym, ◌∙◌, arith, subst}
use Rattle.std.specs.Prelude.{All, Contains}
use Rattle.std.specs.List.{AllByRecursion, list_all}
use Rattle.std.proofs.lemmas.Bool.Decides.{nat_tests}
use Rattle.std.proofs.lemmas.List.Elements.{All-from_recursion, All-contains}
use Rattle.std.proofs.lemmas.Option.{same_Some}
use Rattle.afdx_table.specs.WellFormed.{IsLink, IsWellFormed}
use Rattle.afdx_table.specs.Inner.Found.{LinksAreFound, LinksAreAtTheirPlaces}
use Rattle.afdx_load.specs.Inner.Laws.{HighLinksLeaveAPart}
use Rattle.afdx_grouping.specs.Laws.{NoMoreIsPaidFor, LesserCurvesNeedLess}
use Rattle.afdx_jitter.specs.Delay.{at_once, IsEnough}
use Rattle.afdx_wiring.specs.declared.fault.Short.{Short}
use Rattle.afdx_network_check.specs.declared.jitters.RowNeed.{RowNeed}
use Rattle.afdx_network_check.specs.Net.{Network, Row, rows_of, row_at, ingress, wire_to, IsSource, source_of}
use Rattle.afdx_network_check.specs.Order.{most_rows, source_by, source_within, way_by, way_within, has_source, misfit, shortage}
use Rattle.afdx_network_check.specs.Needs.{DiffersInJitters, AreNeeds, KeepsToLines, IsWhole, Suffices, first_needed, needed, row_with_need, need_in, is_past, past_of, is_met}
use Rattle.afdx_network_check.specs.Inner.Given.{given_all}
use Rattle.afdx_network_check.proofs.Enough.{enough}
use Rattle.afdx_network_check.proofs.FeedLemmas.{source_there}
use Rattle.afdx_network_check.proofs.Fits.{each_has_source, fits}
use Rattle.afdx_network_check.proofs.NeedLemmas.{each_is, none_short}
use Rattle.afdx_network_check.proofs.WalkLemmas.{source_step, way_step}
use Rattle.afdx_network_check.proofs.Alike.{Pair, paired, found, all_at, Below}
use Rattle.afdx_network_check.proofs.Reaching.{Setting, Reached, reach, same_wire}
use Rattle.afdx_network_check.proofs.Growing.{Growing, flipped, need_grows}
use Rattle.afdx_network_check.proofs.RowByRow.{Both, row_by_row, by_number, known_as, among_rows}
use Rattle.afdx_network_check.proofs.Giving.{with_tables, given_alike, IsMeant, IsAmong, given_holds, given_sets}

-- what the crates below say
pub record Laws : Type 0 where
  pub links : LinksAreFound
  pub places : LinksAreAtTheirPlaces
  pub leaves : HighLinksLeaveAPart
  pub once : NoMoreIsPaidFor
  pub less : LesserCurvesNeedLess

-- ---- a turn

needs_each : (f : Row → RowNeed) (P : RowNeed → Type 0) (rs : List Row) → ((q : Row) → Contains rs q → P (f q)) → AllByRecursion P (map f rs)
needs_each f P [] each = tt
needs_each f P (r ∷ rs) each = (each r (0, omega arith, refl), needs_each f P rs (λ q among. each q (let within = among.1 in (suc among.0, omega (arith, within), among.2))))

need_among : (f : Row → RowNeed) (rs : List Row) (r : Row) (k : ℕ) → k < length rs → get_or rs k r ≡ r → IsAmong (f r) (map f rs)
need_among f [] r k within at = absurd (omega (arith, within))
need_among f (q ∷ rs) r zero within at = inl (ap f at)
need_among f (q ∷ rs) r (suc k) within at = inr (need_among f rs r k (omega (arith, within)) at)

-- the network after a turn in which rows need so much
abbrev pub needing : (Row → ℕ) → List Row → List RowNeed
needing need rows = map (λ q. row_with_need q (need q)) rows

abbrev pub turned : (Row → ℕ) → Network → Network
turned need net = with_tables net (given_all (needing need (rows_of net)) net.tables)

-- what holds of what a row needs
abbrev Each : (ℕ → Type 0) → (Row → ℕ) → Network → ℕ → ℕ → Type 0
Each P need net switch id = (q : Row) → row_at net switch id ≡ Some q → need q ≤ 10000 → P (need q * 1000)

each_meant : Laws → (P : ℕ → Type 0) (need : Row → ℕ) (net : Network) (switch id : ℕ) → All IsWellFormed net.tables → Each P need net switch id
    → AllByRecursion (λ n. IsMeant n switch id → P (n.need * 1000)) (needing need (rows_of net))
each_meant laws P need net switch id formed each =
    needs_each (λ (q : Row). row_with_need q (need q)) (λ n. IsMeant n switch id → P (n.need * 1000)) (rows_of net)
    (λ q among meant. each q (known_as laws.links net formed switch id q among meant.switch_is meant.number_is) meant.few)

turn_holds : Laws → (P : ℕ → Type 0) (need : Row → ℕ) (net : Network) (switch id : ℕ) → All IsWellFormed net.tables → Each P need net switch id
    → ((q : Row) → row_at net switch id ≡ Some q → P q.link.jitter) → (r : Row) → row_at (turned need net) switch id ≡ Some r → P r.link.jitter
turn_holds laws P need net switch id formed each was r is =
    given_holds laws.places P (needing need (rows_of net)) net switch id (each_meant laws P need net switch id formed each) was r is

turn_sets : Laws → (P : ℕ → Type 0) (need : Row → ℕ) (net : Network) (switch id : ℕ) → All IsWellFormed net.tables → Each P need net switch id
    → (q : Row) → row_at net switch id ≡ Some q → need q ≤ 10000 → (r : Row) → row_at (turned need net) switch id ≡ Some r → P r.link.jitter
turn_sets laws P need net switch id formed each q q_is few r is =
    let among = among_rows laws.links net switch id q q_is in
    let h = found net switch id q q_is in
    let number = (laws.links.is_row h.table id q.link h.link_is).0 in
    given_sets laws.places P (needing need (rows_of net)) net switch id (each_meant laws P need net switch id formed each) (row_with_need q (need q))
    (record { switch_is = h.switch_is; number_is = number; few = few })
    (need_among (λ (p : Row). row_with_need p (need p)) (rows_of net) q among.0 among.1 among.2) r is

-- ---- what a row needs

abbrev pub first : Network → Row → ℕ
first net q = first_needed (source_within most_rows net q)

abbrev pub later : Network → Row → ℕ
later net q = needed (way_within most_rows net q at_once)

-- tables have jitters of at most 10 ms
limited : Laws → (net : Network) (switch id : ℕ) (r : Row) → All IsWellFormed net.tables → row_at net switch id ≡ Some r → r.link.jitter ≤ 10000000
limited laws net switch id r formed is =
    let h = found net switch id r is in
    let table = all_at IsWellFormed net.tables switch h.table formed h.table_is in
    let member = laws.links.is_row h.table id r.link h.link_is in
    (All-contains (IsLink h.table.ports) h.table.links r.link (All-from_recursion (IsLink h.table.ports) h.table.links table.links) member.1).jitter_most

-- a network of which the least jitters are asked for, and one that suffices
pub record Asked (net other : Network) : Type 0 where
  pub laws : Laws
  pub formed : All IsWellFormed net.tables
  pub fits : misfit net ≡ Ok tt
  pub lines : KeepsToLines net
  pub suffices : Suffices net other

setting : (net other : Network) → Asked net other → Setting net other
setting net other asked = record {
  links = asked.laws.links;
  leaves = asked.laws.leaves;
  differs = asked.suffices.alike;
  there = asked.suffices.well_formed;
  lines = asked.lines;
  joins = (fits net asked.fits).wires;
}

-- the way to a row of the other network, with that row's jitter enough for it
record Way (net other : Network) (s : Row) : Type 0 where
  pub origin : Row
  pub reached : Reached 64 net other s origin
  pub enough : IsEnough reached.delays (source_of s reached.backs).link.jitter s.link.jitter
  pub whole : s.link.jitter % 1000 ≡ 0
  pub limit : s.link.jitter ≤ 10000000

record Here (net other : Network) (switch id : ℕ) (s : Row) : Type 0 where
  pub row : Row
  pub row_is : row_at net switch id ≡ Some row
  pub way : Way net other s
  pub origin_is : source_within most_rows net row ≡ Some way.origin

here : (net other : Network) → Asked net other → (switch id : ℕ) (s : Row) → row_at other switch id ≡ Some s → Here net other switch id s
here net other asked switch id s s_is =
    let back = paired other net (sym asked.suffices.alike.0, sym asked.suffices.alike.1) switch id s s_is in
    let pair = flipped other net switch id s back.0 s_is back.1 in
    let among = among_rows asked.laws.links net switch id back.0 back.1.there_is in
    let source = source_there net back.0 (All-contains (λ (r : Row). has_source net r ≡ Ok tt) (rows_of net) back.0 (each_has_source net asked.fits) among) in
    let reached = reach net other (setting net other asked) 64 switch id back.0 s source.0 back.1.there_is pair source.1 in
    let there = among_rows asked.laws.links other switch id s s_is in
    record {
      row = back.0;
      row_is = back.1.there_is;
      way = record {
        origin = source.0;
        reached = reached;
        enough = asked.suffices.enough.enough s reached.backs reached.delays there reached.back reached.are;
        whole = All-contains (λ (r : Row). r.link.jitter % 1000 ≡ 0) (rows_of other) s asked.suffices.whole there;
        limit = limited asked.laws other switch id s asked.suffices.well_formed s_is;
      };
      origin_is = source.1;
    }

-- ---- to begin with

start_below : (net other : Network) → Asked net other → Below (turned (first net) net) other
start_below net other asked switch id r s r_is s_is =
    let h = here net other asked switch id s s_is in
    let reached = h.way.reached in
    let both : Both net other = record { links = asked.laws.links; differs = asked.suffices.alike; here = asked.formed; there = asked.suffices.well_formed } in
    let source : (source_of s reached.backs).link.jitter ≡ h.way.origin.link.jitter
    = by_number net other both (λ q p. IsSource net q → p.link.jitter ≡ q.link.jitter) asked.suffices.sources reached.switch reached.id h.way.origin (source_of s reached.backs)
    reached.origin_is reached.pair.there_is reached.fed in
    let limit = limited asked.laws net reached.switch reached.id h.way.origin asked.formed reached.origin_is in
    let enough = h.way.enough in
    let order = reached.order in
    let need : first net h.row ≡ h.way.origin.link.jitter / 1000 = ap first_needed h.origin_is in
    let few : first net h.row ≤ 10000 = omega (arith, need, limit) in
    let down : first net h.row * 1000 ≤ s.link.jitter = omega (arith, need, source, enough, order) in
    turn_sets asked.laws (λ (j : ℕ). j ≤ s.link.jitter) (first net) net switch id asked.formed
    (λ q q_is q_few. subst (λ (p : Row). first net p * 1000 ≤ s.link.jitter) (same_Some h.row q (sym h.row_is ∙ q_is)) down) h.row h.row_is few r r_is

-- ---- then

growing : (net other turn : Network) → Asked net other → DiffersInJitters net turn → All IsWellFormed turn.tables → Below turn other → Growing turn other
growing net other turn asked alike formed below = record {
  links = asked.laws.links;
  once = asked.laws.once;
  less = asked.laws.less;
  origin = net;
  from_origin = alike;
  lines = asked.lines;
  differs = (asked.suffices.alike.0 ∙ sym alike.0, asked.suffices.alike.1 ∙ sym alike.1);
  here = formed;
  there = asked.suffices.well_formed;
  below = below;
}

later_below : (net other turn : Network) → Asked net other → Growing turn other → (switch id : ℕ) (q s : Row) → row_at turn switch id ≡ Some q → row_at other switch id ≡ Some s
    → later turn q * 1000 ≤ s.link.jitter
later_below net other turn asked grow switch id q s q_is s_is =
    let h = here net other asked switch id s s_is in
    let there = paired turn other grow.differs switch id q q_is in
    let pair : Pair turn other switch id q s = subst (Pair turn other switch id q) (same_Some there.0 s (sym there.1.there_is ∙ s_is)) there.1 in
    need_grows turn other grow switch id q s q_is pair h.way.reached.backs h.way.reached.delays h.way.reached.back h.way.reached.are h.way.reached.few h.way.enough h.way.whole h.way.limit

step_below : (net other turn : Network) → Asked net other → Growing turn other → Below (turned (later turn) turn) other
step_below net other turn asked grow switch id r s r_is s_is =
    turn_holds asked.laws (λ (j : ℕ). j ≤ s.link.jitter) (later turn) turn switch id grow.here
    (λ q q_is few. later_below net other turn asked grow switch id q s q_is s_is) (λ q q_is. grow.below switch id q s q_is s_is) r r_is

-- none is past what a table can have
none_past : (ns : List RowNeed) → AllByRecursion (λ n. n.need ≤ 10000) ns → past_of ns ≡ None
none_past ns all = ap (option_map (λ (n : RowNeed). let s : Short = record { switch = n.switch; link = n.link; need = n.need; has = 10000 } in s)) (unfound ns all) where
  not_past : (m : ℕ) → m ≤ 10000 → nat_lt 10000 m ≡ false
  not_past m few = grind (arith, nat_tests)

  unfound : (ns : List RowNeed) → AllByRecursion (λ n. n.need ≤ 10000) ns → find is_past ns ≡ None
  unfound [] all = refl
  unfound (n ∷ ns) all = ap (λ b. cond b (Some n) (find is_past ns)) (not_past n.need all.0) ∙ unfound ns all.1

few_later : (net other turn : Network) → Asked net other → Growing turn other → AllByRecursion (λ n. n.need ≤ 10000) (needing (later turn) (rows_of turn))
few_later net other turn asked grow =
    needs_each (λ (q : Row). row_with_need q (later turn q)) (λ n. n.need ≤ 10000) (rows_of turn)
    (λ q among.
    let q_is = known_as asked.laws.links turn grow.here q.switch q.link.id q among refl refl in
    let there = paired turn other grow.differs q.switch q.link.id q q_is in
    let most = later_below net other turn asked grow q.switch q.link.id q there.0 q_is there.1.there_is in
    let limit = limited asked.laws other q.switch q.link.id there.0 asked.suffices.well_formed there.1.there_is in
    omega (arith, most, limit))

-- ---- the sources keep their jitters

abbrev pub KeepsSources : Network → Network → Type 0
KeepsSources net turn = (switch id : ℕ) (r q : Row) → row_at net switch id ≡ Some r → row_at turn switch id ≡ Some q → IsSource net r → q.link.jitter ≡ r.link.jitter

whole_first : (m j : ℕ) → m ≡ j / 1000 → j % 1000 ≡ 0 → m * 1000 ≡ j
whole_first m j is whole = omega (arith, is, whole)

whole_later : (m j : ℕ) → m ≡ (j + 0 - 0 + 999) / 1000 → j % 1000 ≡ 0 → m * 1000 ≡ j
whole_later m j is whole = omega (arith, is, whole)

whole_there : Laws → (net : Network) (switch id : ℕ) (r : Row) → IsWhole net → row_at net switch id ≡ Some r → r.link.jitter % 1000 ≡ 0
whole_there laws net switch id r whole is = All-contains (λ (q : Row). q.link.jitter % 1000 ≡ 0) (rows_of net) r whole (among_rows laws.links net switch id r is)

start_keeps : Laws → (net : Network) → All IsWellFormed net.tables → IsWhole net → KeepsSources net (turned (first net) net)
start_keeps laws net formed whole switch id r q r_is q_is fed =
    let is : source_within most_rows net r ≡ Some r = source_step most_rows net r (omega arith) ∙ ap (source_by (source_within (most_rows - 1) net) net r) fed in
    let same : first net r * 1000 ≡ r.link.jitter = whole_first (first net r) r.link.jitter (ap first_needed is) (whole_there laws net switch id r whole r_is) in
    turn_holds laws (λ (j : ℕ). j ≡ r.link.jitter) (first net) net switch id formed
    (λ p p_is few. subst (λ (o : Row). first net o * 1000 ≡ r.link.jitter) (same_Some r p (sym r_is ∙ p_is)) same)
    (λ p p_is. ap (λ (o : Row). o.link.jitter) (same_Some p r (sym p_is ∙ r_is))) q q_is

step_keeps : Laws → (net turn : Network) → All IsWellFormed turn.tables → IsWhole net → DiffersInJitters net turn → KeepsSources net turn → KeepsSources net (turned (later turn) turn)
step_keeps laws net turn formed whole alike keeps switch id r q r_is q_is fed =
    turn_holds laws (λ (j : ℕ). j ≡ r.link.jitter) (later turn) turn switch id formed
    (λ p p_is few. needs_same p p_is) (λ p p_is. keeps switch id r p r_is p_is fed) q q_is where
      needs_same : (p : Row) → row_at turn switch id ≡ Some p → later turn p * 1000 ≡ r.link.jitter
      needs_same p p_is =
          let there = paired net turn alike switch id r r_is in
          let same_row : there.0 ≡ p = same_Some there.0 p (sym there.1.there_is ∙ p_is) in
          let pair : Pair net turn switch id r p = subst (Pair net turn switch id r) same_row there.1 in
          let fed_there : wire_to turn (ingress p) ≡ None = same_wire net turn switch id r p alike pair ∙ fed in
          let is : way_within most_rows turn p at_once ≡ Some (p.link.jitter, at_once)
          = way_step most_rows turn p at_once (omega arith) ∙ ap (way_by (way_within (most_rows - 1) turn) turn p at_once) fed_there in
          let kept = keeps switch id r p r_is p_is fed in
          let p_whole : p.link.jitter % 1000 ≡ 0 = subst (λ (j : ℕ). j % 1000 ≡ 0) (sym kept) (whole_there laws net switch id r whole r_is) in
          whole_later (later turn p) p.link.jitter (ap needed is) p_whole ∙ kept

-- ---- turn by turn

pub record Turns (net turn : Network) : Type 0 where
  pub alike : DiffersInJitters net turn
  pub keeps : IsWhole net → KeepsSources net turn
  pub below : misfit net ≡ Ok tt → KeepsToLines net → (other : Network) → Suffices net other → Below turn other

asks : Laws → (net : Network) → All IsWellFormed net.tables → misfit net ≡ Ok tt → KeepsToLines net → (other : Network) → Suffices net other → Asked net other
asks laws net formed fits lines other suffices = record { laws = laws; formed = formed; fits = fits; lines = lines; suffices = suffices }

pub begins : Laws → (net next : Network) (needs : List RowNeed) → All IsWellFormed net.tables → needs ≡ map (need_in true net) (rows_of net)
    → next ≡ record net { tables = given_all needs net.tables } → Turns net next
begins laws net next needs formed needs_are next_is =
    let is : turned (first net) net ≡ next = sym (next_is ∙ ap (λ (ns : List RowNeed). with_tables net (given_all ns net.tables)) needs_are) in
    subst (Turns net) is (record {
      alike = given_alike (needing (first net) (rows_of net)) net;
      keeps = start_keeps laws net formed;
      below = λ fits lines other suffices. start_below net other (asks laws net formed fits lines other suffices);
    })

pub goes_on : Laws → (net turn next : Network) (needs : List RowNeed) → All IsWellFormed net.tables → All IsWellFormed turn.tables → needs ≡ map (need_in false turn) (rows_of turn)
    → next ≡ record turn { tables = given_all needs turn.tables } → Turns net turn → Turns net next
goes_on laws net turn next needs formed turn_formed needs_are next_is so_far =
    let is : turned (later turn) turn ≡ next = sym (next_is ∙ ap (λ (ns : List RowNeed). with_tables turn (given_all ns turn.tables)) needs_are) in
    let alike = given_alike (needing (later turn) (rows_of turn)) turn in
    subst (Turns net) is (record {
      alike = (alike.0 ∙ so_far.alike.0, alike.1 ∙ so_far.alike.1);
      keeps = λ whole. step_keeps laws net turn turn_formed whole so_far.alike (so_far.keeps whole);
      below = λ fits lines other suffices.
          let asked = asks laws net formed fits lines other suffices in
          step_below net other turn asked (growing net other turn asked so_far.alike turn_formed (so_far.below fits lines other suffices));
    })

-- ---- the last turn

-- the jitters of a turn that are needed are whole microseconds
whole_rows : (turn : Network) (rs : List Row) → AllByRecursion (λ n. n.has ≡ n.need * 1000) (map (need_in false turn) rs) → AllByRecursion (λ r. r.link.jitter % 1000 ≡ 0) rs
whole_rows turn [] all = tt
whole_rows turn (r ∷ rs) all = (whole r.link.jitter (later turn r) all.0, whole_rows turn rs all.1) where
  whole : (j m : ℕ) → j ≡ m * 1000 → j % 1000 ≡ 0
  whole j m is = omega (arith, is)

pub are_needs : Laws → (net turn : Network) (needs : List RowNeed) (past : Option Short) → All IsWellFormed net.tables → All IsWellFormed turn.tables → Turns net turn
    → needs ≡ map (need_in false turn) (rows_of turn) → past ≡ past_of needs → (is_some past || list_all is_met needs) ≡ true → AreNeeds net needs past
are_needs laws net turn needs past formed turn_formed so_far rows past_is h = record {
  turn = turn;
  alike = so_far.alike;
  rows = rows;
  past_is = past_is;
  met = λ none.
      let met = all_where past none h in
      (All-from_recursion (λ n. n.has ≡ n.need * 1000) needs (each_is needs met), fine met, enough turn (fine met));
  suffices = λ none whole. record {
    alike = so_far.alike;
    sources = row_by_row net turn both (λ r s. IsSource net r → s.link.jitter ≡ r.link.jitter) (so_far.keeps whole);
    well_formed = turn_formed;
    whole = All-from_recursion (λ r. r.link.jitter % 1000 ≡ 0) (rows_of turn)
        (whole_rows turn (rows_of turn) (subst (AllByRecursion (λ n. n.has ≡ n.need * 1000)) rows (each_is needs (all_where past none h))));
    enough = enough turn (fine (all_where past none h));
  };
  least = λ fits lines other suffices.
      let asked = asks laws net formed fits lines other suffices in
      let grow = growing net other turn asked so_far.alike turn_formed (so_far.below fits lines other suffices) in
      let there : Both turn other = record { links = laws.links; differs = grow.differs; here = turn_formed; there = suffices.well_formed } in
      let none = none_past (needing (later turn) (rows_of turn)) (few_later net other turn asked grow) in
      (past_is ∙ ap past_of rows ∙ none, row_by_row turn other there (λ r s. r.link.jitter ≤ s.link.jitter) grow.below);
} where
  all_where : (o : Option Short) → o ≡ None → (is_some o || list_all is_met needs) ≡ true → list_all is_met needs ≡ true
  all_where None none met = met
  all_where (Some s) none met = absurd cc

  fine : list_all is_met needs ≡ true → shortage turn ≡ Ok tt
  fine met = none_short turn (sym (ap (list_all is_met) rows) ∙ met)

  both : Both net turn
  both = record { links = laws.links; differs = so_far.alike; here = formed; there = turn_formed }

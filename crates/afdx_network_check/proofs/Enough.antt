-- Rows whose jitter was found enough: it is, for the whole way to them.
use Rattle.std.proofs.Common.{◌≡◌, ℕ, zero, suc, ◌+◌, ◌-◌, ◌/◌, ◌≤◌, Bool, true, false, cond, nat_le, nat_lt, List, [], ◌∷◌, slice_get, Option, Some, None, option_map, option_and_then}
use Rattle.std.proofs.Common.{Ok, Err, Global, refl, ap, sym, ◌∙◌, arith}
use Rattle.std.specs.Prelude.{IfOk, Result, Vec}
use Rattle.std.proofs.lemmas.Bool.Decides.{nat_tests}
use Rattle.std.proofs.lemmas.List.Elements.{All-from_recursion, All-contains}
use Rattle.std.proofs.lemmas.Option.{same_Some}
use Rattle.afdx_table.specs.declared.rows.PortRow.{PortRow}
use Rattle.afdx_table.specs.Link.{Link}
use Rattle.afdx_table.specs.Content.{Content, port_row, link_row}
use Rattle.afdx_load.specs.Bounds.{bounds_of}
use Rattle.afdx_jitter.specs.declared.delays.Delays.{Delays}
use Rattle.afdx_jitter.specs.Delay.{hop_of, joined, at_once, IsEnough, least_jitter}
use Rattle.afdx_wiring.specs.declared.fault.NetworkFault.{NetworkFault}
use Rattle.afdx_wiring.specs.declared.fault.Short.{Short}
use Rattle.afdx_network_check.specs.Net.{Network, Row, Back, port_at, row_at, row_in, rows_of, least_at, load_at, bound_in, bound_at, IsWayBack, source_of, AreDelays}
use Rattle.afdx_network_check.specs.Rules.{HasJitters}
use Rattle.afdx_wiring.specs.Refusal.{◌>>=◌, Gives}
use Rattle.afdx_network_check.specs.Order.{Answer, within_reason, hop_over, hop_from, hop_on, way_by, way_within, short_by, short_after, short_at}
use Rattle.afdx_network_check.specs.Order.{shorts_in, shortages, first_short, shortage, most_rows}
use Rattle.afdx_network_check.proofs.FeedLemmas.{before_is}
use Rattle.afdx_network_check.proofs.Shorts.{all_none}

-- ---- a hop

-- the row that is found at a switch is one of it
pub row_switch : (net : Network) (switch id : ℕ) (r : Row) → row_at net switch id ≡ Some r → r.switch ≡ switch
row_switch net switch id r h = by (slice_get net.tables switch) h where
  by : (o : Option Content) → option_and_then (λ t. option_map (row_in switch) (link_row t id)) o ≡ Some r → r.switch ≡ switch
  by None is = absurd cc
  by (Some t) is = of_link (link_row t id) is where
    of_link : (l : Option Link) → option_map (row_in switch) l ≡ Some r → r.switch ≡ switch
    of_link None found = absurd cc
    of_link (Some l) found = ap (λ (q : Row). q.switch) (sym (same_Some _ _ found))

pub reasonable : (bound other : ℕ) → within_reason bound ≡ Some other → other ≡ bound
reasonable bound other h = by (nat_le bound 1000000000000) h where
  by : (b : Bool) → cond b (Some bound) None ≡ Some other → other ≡ bound
  by true is = sym (same_Some _ _ is)
  by false is = absurd cc

-- what a step back says of the hop
record Hop (net : Network) (b : Back) (d before : Delays) (hop : Delays) : Type 0 where
  pub least : d.least ≡ before.least + hop.least
  pub most : d.most ≡ before.most + hop.most

-- from a port, where there is one
abbrev pub from_port : Network → Content → Row → ℕ → Option PortRow → Option Delays
from_port net t r cable o = option_and_then (λ (p : PortRow). hop_over net t r cable p (load_at net r.switch t p)) o

hop_says : (net : Network) (b : Back) (d hop : Delays) (id : ℕ) → row_at net b.wire.from.switch id ≡ Some b.row → hop_on net b.row b.wire.from.port b.wire.delay ≡ Some hop
    → (t : Content) (p : PortRow) (bound : ℕ) (before : Delays) → slice_get net.tables b.row.switch ≡ Some t → port_at net b.wire.from ≡ Some p → bound_at net b.row p ≡ Some bound
    → d ≡ joined before (hop_of p.speed (least_at net b.row.switch t) bound b.wire.delay) → Hop net b d before hop
hop_says net b d hop id row_is hop_is t p bound before t_is p_is bound_is d_is =
    let at : b.row.switch ≡ b.wire.from.switch = row_switch net b.wire.from.switch id b.row row_is in
    let t_there : slice_get net.tables b.wire.from.switch ≡ Some t = ap (slice_get net.tables) (sym at) ∙ t_is in
    let port : port_row t b.wire.from.port ≡ Some p = sym (ap (option_and_then (λ (c : Content). port_row c b.wire.from.port)) t_there) ∙ p_is in
    let bounded : bound_in (bounds_of (load_at net b.row.switch t p)) b.row.link.priority ≡ Some bound
    = sym (ap (option_and_then (λ (c : Content). bound_in (bounds_of (load_at net b.row.switch c p)) b.row.link.priority)) t_is) ∙ bound_is in
    let found : option_map (λ (n : ℕ). hop_of p.speed (least_at net b.row.switch t) n b.wire.delay) (within_reason bound) ≡ Some hop
    = sym (ap (option_and_then (hop_from net b.row b.wire.from.port b.wire.delay)) t_is
    ∙ ap (from_port net t b.row b.wire.delay) port
    ∙ ap (λ (o : Option ℕ). option_map (λ (n : ℕ). hop_of p.speed (least_at net b.row.switch t) n b.wire.delay) (option_and_then within_reason o)) bounded) ∙ hop_is in
    by (within_reason bound) refl found where
      by : (o : Option ℕ) → within_reason bound ≡ o → option_map (λ (n : ℕ). hop_of p.speed (least_at net b.row.switch t) n b.wire.delay) o ≡ Some hop → Hop net b d before hop
      by None is found = absurd cc
      by (Some n) is found =
          let same : d ≡ joined before hop
          = d_is ∙ ap (λ (m : ℕ). joined before (hop_of p.speed (least_at net b.row.switch t) m b.wire.delay)) (sym (reasonable bound n is)) ∙ ap (joined before) (same_Some _ _ found) in
          record { least = ap (λ (e : Delays). e.least) same; most = ap (λ (e : Delays). e.most) same }

-- ---- the way

-- what a walk back found, where the way back takes so long
pub record Found (far : ℕ × Delays) (source : Row) (d after : Delays) : Type 0 where
  pub jitter : far.0 ≡ source.link.jitter
  pub least : far.1.least ≡ d.least + after.least
  pub most : far.1.most ≡ d.most + after.most

at_source : (r : Row) (d after : Delays) (far : ℕ × Delays) → Some (r.link.jitter, after) ≡ Some far → d ≡ at_once → Found far r d after
at_source r d after far h are =
    let same : (r.link.jitter, after) ≡ far = same_Some _ _ h in
    let d_least : d.least ≡ 0 = ap (λ (e : Delays). e.least) are in
    let d_most : d.most ≡ 0 = ap (λ (e : Delays). e.most) are in
    let far_least : after.least ≡ far.1.least = ap (λ (f : ℕ × Delays). f.1.least) same in
    let far_most : after.most ≡ far.1.most = ap (λ (f : ℕ × Delays). f.1.most) same in
    record { jitter = ap (λ (f : ℕ × Delays). f.0) (sym same); least = omega (arith, d_least, far_least); most = omega (arith, d_most, far_most) }

one_more : (net : Network) (b : Back) (far : ℕ × Delays) (source : Row) (d before hop after : Delays) → Hop net b d before hop → Found far source before (joined hop after) → Found far source d after
one_more net b far source d before hop after step rest =
    let step_least = step.least in
    let step_most = step.most in
    let rest_least : far.1.least ≡ before.least + (hop.least + after.least) = rest.least in
    let rest_most : far.1.most ≡ before.most + (hop.most + after.most) = rest.most in
    record { jitter = rest.jitter; least = omega (arith, step_least, rest_least); most = omega (arith, step_most, rest_most) }

pub way_says : (n : ℕ) (net : Network) (r : Row) (after : Delays) (far : ℕ × Delays) → way_within n net r after ≡ Some far → (backs : List Back) (d : Delays) → IsWayBack net r backs
    → AreDelays net backs d → Found far (source_of r backs) d after
way_says zero net r after far h backs d way are = absurd cc
way_says (suc n) net r after far h [] d way are = at_source r d after far (sym (ap (way_by (way_within n net) net r after) way) ∙ h) are
way_says (suc n) net r after far h (b ∷ more) d way are =
    let found = before_is net r.link.id b.wire b.row way.1 way.2 in
    let there : option_and_then (λ (hop : Delays). way_within n net b.row (joined hop after)) (hop_on net b.row b.wire.from.port b.wire.delay) ≡ Some far
    = sym (ap (way_by (way_within n net) net r after) way.0
    ∙ ap (option_and_then (λ (q : Row). option_and_then (λ (hop : Delays). way_within n net q (joined hop after)) (hop_on net q b.wire.from.port b.wire.delay))) found) ∙ h in
    by (λ hop before rest are_more. way_says n net b.row (joined hop after) far rest more before way.3 are_more)
    (hop_on net b.row b.wire.from.port b.wire.delay) refl there where
      by : ((hop before : Delays) → way_within n net b.row (joined hop after) ≡ Some far → AreDelays net more before → Found far (source_of b.row more) before (joined hop after))
          → (o : Option Delays) → hop_on net b.row b.wire.from.port b.wire.delay ≡ o → option_and_then (λ (hop : Delays). way_within n net b.row (joined hop after)) o ≡ Some far
          → Found far (source_of b.row more) d after
      by further None is rest = absurd cc
      by further (Some hop) is rest =
          let step = hop_says net b d hop r.link.id way.1 is are.0 are.1 are.2 are.3 are.4 are.5 are.6 are.8 in
          one_more net b far (source_of b.row more) d are.3 hop after step (further hop are.3 rest are.7)

-- ---- enough

whole : (first most least later : ℕ) → nat_lt (later / 1000) ((first + most - least + 999) / 1000) ≡ false → first + most ≤ later + least
whole first most least later h = grind (arith, nat_tests)

-- a row that does not fall short has what it needs
not_short : (r : Row) (need : ℕ) → short_by r need ≡ None → nat_lt (r.link.jitter / 1000) need ≡ false
not_short r need h = by (record { switch = r.switch; link = r.link.id; need = need; has = r.link.jitter / 1000 }) (nat_lt (r.link.jitter / 1000) need) h where
  by : (short : Short) (b : Bool) → cond b (Some short) None ≡ None → b ≡ false
  by short true is = absurd cc
  by short false is = refl

abbrev told : Option Short → Result (Option Short) NetworkFault
told = Ok

no_more : (found other : Option Short) → told found ≡ told other → found ≡ other
no_more found other h = cc

row_has : (net : Network) (r : Row) (backs : List Back) (d : Delays) → short_at net r ≡ Ok None → IsWayBack net r backs → AreDelays net backs d
    → IsEnough d (source_of r backs).link.jitter r.link.jitter
row_has net r backs d h way are = by (way_within most_rows net r at_once) refl h where
  by : (o : Option (ℕ × Delays)) → way_within most_rows net r at_once ≡ o → short_after r o ≡ Ok None → IsEnough d (source_of r backs).link.jitter r.link.jitter
  by None is kept = absurd cc
  by (Some far) is kept =
      let found = way_says most_rows net r at_once far is backs d way are in
      let jitter = found.jitter in
      let least : far.1.least ≡ d.least + 0 = found.least in
      let most : far.1.most ≡ d.most + 0 = found.most in
      let enough = whole far.0 far.1.most far.1.least r.link.jitter (not_short r (least_jitter far.1 far.0) (no_more _ None kept)) in
      omega (arith, jitter, least, most, enough)

none_short : (net : Network) → shorts_in net (rows_of net) ≡ Ok [] → HasJitters net
none_short net h =
    let kept = All-from_recursion (λ r. short_at net r ≡ Ok None) (rows_of net) (all_none net (rows_of net) h) in
    record { enough = λ r backs d among way are. row_has net r backs d (All-contains (λ r. short_at net r ≡ Ok None) (rows_of net) r kept among) way are }

first_none : (found : Result (List Short) NetworkFault) → (found >>= first_short) ≡ Ok tt → found ≡ Ok []
first_none (Ok []) h = refl
first_none (Ok (short ∷ more)) h = absurd cc
first_none (Err e) h = absurd cc

pub enough : (net : Network) → shortage net ≡ Ok tt → HasJitters net
unfolding shortage shortages
enough net h = none_short net (first_none (shorts_in net (rows_of net)) h)

-- what is listed
pub if_listed : (net : Network) (listed : Result (Vec Short Global) NetworkFault) → Gives (λ v. v.items) listed (shorts_in net (rows_of net))
    → IfOk listed (λ v. v.items ≡ [] → HasJitters net)
if_listed net (Ok v) given = λ none. none_short net (given ∙ ap Ok none)
if_listed net (Err e) given = tt

-- what the check answers
pub if_given : (net : Network) (answer : Answer) → Gives (λ u. u) answer (shortage net) → IfOk answer (λ _. HasJitters net)
if_given net (Ok tt) given = enough net given
if_given net (Err e) given = tt

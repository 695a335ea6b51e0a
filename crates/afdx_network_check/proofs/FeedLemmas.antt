-- Rows whose way back ends.
use Rattle.std.proofs.Common.{◌≡◌, ℕ, zero, suc, Bool, true, false, cond, List, [], ◌∷◌, Option, Some, None, option_and_then, is_some, Ok, refl, ap, ◌∙◌, subst}
use Rattle.std.proofs.lemmas.Option.{same_Some}
use Rattle.afdx_table.specs.Link.{leads_to}
use Rattle.afdx_wiring.specs.declared.fault.NetworkFault.TheVariants as fault
use Rattle.afdx_wiring.specs.declared.layout.Wire.{Wire}
use Rattle.afdx_network_check.specs.Net.{Network, Row, Back, row_at, ingress, wire_to, IsWayBack}
use Rattle.afdx_network_check.specs.Order.{leading, row_before, source_by, source_within, most_rows, has_source}
use Rattle.afdx_network_check.proofs.Chains.{unless_not}

-- ---- a step back

pub record Before (net : Network) (id : ℕ) (w : Wire) (b : Row) : Type 0 where
  pub row_is : row_at net w.from.switch id ≡ Some b
  pub leads : leads_to w.from.port b.link ≡ true

led : (port : ℕ) (r b : Row) → leading port r ≡ Some b → (r ≡ b) × (leads_to port r.link ≡ true)
led port r b h = by (leads_to port r.link) refl h where
  by : (t : Bool) → leads_to port r.link ≡ t → cond t (Some r) None ≡ Some b → (r ≡ b) × (leads_to port r.link ≡ true)
  by true is found = (same_Some _ _ found, is)
  by false is found = absurd cc

pub before_says : (net : Network) (id : ℕ) (w : Wire) (b : Row) → row_before net id w ≡ Some b → Before net id w b
before_says net id w b h = by (row_at net w.from.switch id) refl h where
  by : (o : Option Row) → row_at net w.from.switch id ≡ o → option_and_then (leading w.from.port) o ≡ Some b → Before net id w b
  by None is found = absurd cc
  by (Some r) is found =
      let l = led w.from.port r b found in
      record { row_is = is ∙ ap (λ (q : Row). Some q) l.0; leads = subst (λ (q : Row). leads_to w.from.port q.link ≡ true) l.0 l.1 }

pub before_is : (net : Network) (id : ℕ) (w : Wire) (b : Row) → row_at net w.from.switch id ≡ Some b → leads_to w.from.port b.link ≡ true → row_before net id w ≡ Some b
before_is net id w b is leads = ap (option_and_then (leading w.from.port)) is ∙ ap (λ t. cond t (Some b) None) leads

-- ---- the way back

-- a step more
step_back : (net : Network) (r : Row) (w : Wire) → wire_to net (ingress r) ≡ Some w → (b : Row) → row_before net r.link.id w ≡ Some b
    → ((backs : List Back) × IsWayBack net b backs) → (backs : List Back) × IsWayBack net r backs
step_back net r w is b found more =
    let said = before_says net r.link.id w b found in
    (record { wire = w; row = b } ∷ more.0, (is, said.row_is, said.leads, more.1))

-- where a walk back ends, there is a way back
pub way_back : (n : ℕ) (net : Network) (r source : Row) → source_within n net r ≡ Some source → (backs : List Back) × IsWayBack net r backs
way_back zero net r source h = absurd cc
way_back (suc n) net r source h = by (way_back n net) (wire_to net (ingress r)) refl h where
  before : ((b s : Row) → source_within n net b ≡ Some s → (backs : List Back) × IsWayBack net b backs) → (w : Wire) → wire_to net (ingress r) ≡ Some w
      → (o : Option Row) → row_before net r.link.id w ≡ o → option_and_then (source_within n net) o ≡ Some source → (backs : List Back) × IsWayBack net r backs
  before further w is None found ends = absurd cc
  before further w is (Some b) found ends = step_back net r w is b found (further b source ends)

  by : ((b s : Row) → source_within n net b ≡ Some s → (backs : List Back) × IsWayBack net b backs)
      → (o : Option Wire) → wire_to net (ingress r) ≡ o → source_by (source_within n net) net r o ≡ Some source → (backs : List Back) × IsWayBack net r backs
  by further None is ends = ([], is)
  by further (Some w) is ends = before further w is (row_before net r.link.id w) refl ends

there : (o : Option Row) → is_some o ≡ true → (source : Row) × (o ≡ Some source)
there None h = absurd cc
there (Some source) h = (source, refl)

pub source_there : (net : Network) (r : Row) → has_source net r ≡ Ok tt → (source : Row) × (source_within most_rows net r ≡ Some source)
source_there net r h = there (source_within most_rows net r) (unless_not (is_some (source_within most_rows net r)) (fault.NoSource r.switch r.link.id) h)

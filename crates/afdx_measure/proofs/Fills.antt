-- What an arrival does to the peak of each port.
use Rattle.std.proofs.Common.{◌≡◌, ℕ, ◌<◌, ◌==◌, ◌&&◌, nat_eq, Bool, true, false, cond, List, [], ◌∷◌, ◌++◌, length, map, get_or, slice_get, Option, Some, None, refl, ap, sym, ◌∙◌, arith, subst}
use Rattle.std.specs.List.{IsDistinct}
use Rattle.std.proofs.lemmas.Bool.Decides.{nat_tests}
use Rattle.std.proofs.lemmas.List.{get_or-map, length-map}
use Rattle.std.proofs.lemmas.List.Elements.{All-contains, All-from_recursion}
use Rattle.std.proofs.lemmas.List.Folds.{list_any_at}
use Rattle.afdx_table.specs.declared.rows.PortRow.{PortRow}
use Rattle.afdx_table.specs.Link.{Link, names_port, leads_to}
use Rattle.afdx_table.specs.Content.{port_row}
use Rattle.afdx_table.specs.WellFormed.{IsLink, IsWellFormed}
use Rattle.afdx_port.specs.declared.Item.{Item}
use Rattle.afdx_port.specs.declared.Offer.{Offer}
use Rattle.afdx_port.specs.declared.Offer.TheVariants.{Full, Queued}
use Rattle.afdx_isolation.specs.Table.{settings_of}
use Rattle.afdx_core.specs.declared.step.Row.{Row}
use Rattle.afdx_core.specs.Rows.{named, passes, copy_of, copies, copies_by}
use Rattle.afdx_core.specs.State.{Run, port_in, place_of, answer_of, offers_by, offers_of, after_row}
use Rattle.afdx_core.specs.Isolation.{IsRun}
use Rattle.afdx_core.specs.Inner.Agreement.{VerdictsNameLinks}
use Rattle.afdx_core.specs.Inner.Joining.{StaysOut, BecomesOf, ArrivalsJoin}
use Rattle.afdx_measure.specs.Peak.{fillings, peak_of}
use Rattle.afdx_measure.specs.Ports.{peak_at}
use Rattle.afdx_measure.specs.Inner.Gauged.{FillsBy, asked, Fill}
use Rattle.afdx_measure.proofs.Numbered.{found_at, passes_at}
use Rattle.afdx_measure.proofs.Peaks.{fillings_push}

stays : (r : Run) (row : Row) (p : PortRow) → StaysOut r row p → peak_at (after_row row r) p ≡ peak_at r p
stays r row p h = ap (λ (items : List Item). peak_of (fillings (settings_of r.table.latency p) [] items)) h

becomes : (r : Run) (row : Row) (p : PortRow) (x : Item) (o : Offer) → x.stamp ≡ row.stamp → BecomesOf r row p x o → FillsBy r (after_row row r) row.stamp p o
becomes r row p x Full at h = stays r row p h
becomes r row p x Queued at h =
    let s = settings_of r.table.latency p in
    let items = (port_in r p).admitted in
    ap (λ (all : List Item). peak_of (fillings s [] all)) h.admitted ∙ ap peak_of (fillings_push s [] items x)
    ∙ (λ i. peak_of (fillings s [] items ++ record { bytes = sym h.bytes i; at = at i } ∷ []))

asked_of : (f : ℕ → Offer) (to : List ℕ) → asked (map {B = ℕ × Offer} (λ (port : ℕ). (port, f port)) to) ≡ to
asked_of f [] = refl
asked_of f (port ∷ to) = ap (λ (ps : List ℕ). port ∷ ps) (asked_of f to)

abbrev answer_by : Run → Row → Link → ℕ → Offer
answer_by r row l port = answer_of r (copy_of l r.rows row) (port_row r.table port)

flip : (a b : ℕ) → (a == b) ≡ true → (b == a) ≡ true
flip a b e = grind (arith, nat_tests)

module _ (join : ArrivalsJoin) (names : VerdictsNameLinks) (r : Run) (row : Row) (formed : IsWellFormed r.table) (run : IsRun (after_row row r)) where
  -- no port is asked
  none_asked : ((p : PortRow) → copies r.table p.id r.rows row ≡ []) → Fill r (after_row row r) row.stamp []
  unfolding IsDistinct
  none_asked none = record {
    formed = formed;
    once = tt;
    each = λ k place d p lt found here. absurd (omega (arith, lt));
    others = λ p h. stays r row p (join.others r row p (none p));
  }

  by_link : (o : Option Link) → named r.table row.verdict ≡ o → Fill r (after_row row r) row.stamp (offers_by r o row)
  by_link None is = none_asked (λ p. ap (λ (o : Option Link). copies_by o p.id r.rows row) is)
  by_link (Some l) is = by_policing (passes l r.rows row) refl where
    copies_are : (p : PortRow) (b c : Bool) → passes l r.rows row ≡ b → leads_to p.id l ≡ c → copies r.table p.id r.rows row ≡ cond (b && c) (copy_of l r.rows row ∷ []) []
    copies_are p b c pass leads = ap (λ (o : Option Link). copies_by o p.id r.rows row) is ∙ (λ i. cond (pass i && leads i) (copy_of l r.rows row ∷ []) [])

    by_policing : (b : Bool) → passes l r.rows row ≡ b → Fill r (after_row row r) row.stamp (cond b (map {B = ℕ × Offer} (λ (port : ℕ). (port, answer_by r row l port)) l.to) [])
    by_policing false pass = none_asked (λ p. copies_are p false (leads_to p.id l) pass refl)
    by_policing true pass =
        let link = All-contains (IsLink r.table.ports) r.table.links l (All-from_recursion (IsLink r.table.ports) r.table.links formed.links) (names.named_link r.table row.verdict l is).2 in
        record {
          formed = formed;
          once = subst (λ (ps : List ℕ). IsDistinct nat_eq ps) (sym (asked_of (answer_by r row l) l.to)) link.targets.once;
          each = λ k place d p lt found here. of_one k place d p (let long = length-map {B = ℕ × Offer} l.to (λ (port : ℕ). (port, answer_by r row l port)) in omega (arith, lt, long)) found here;
          others = λ p h. stays r row p (join.others r row p (copies_are p true false pass (ap (names_port p.id) (sym (asked_of (answer_by r row l) l.to)) ∙ h)));
        } where
          of_one : (k place : ℕ) (d : ℕ × Offer) (p : PortRow) → k < length l.to
              → place_of (after_row row r) (get_or (map {B = ℕ × Offer} (λ (port : ℕ). (port, answer_by r row l port)) l.to) k d).0 ≡ Some place
              → slice_get r.table.ports place ≡ Some p → FillsBy r (after_row row r) row.stamp p (get_or (map {B = ℕ × Offer} (λ (port : ℕ). (port, answer_by r row l port)) l.to) k d).1
          of_one k place d p lt found here =
              let port = get_or l.to k 0 in
              let at : ◌≡◌ {A = ℕ × Offer} (get_or (map {B = ℕ × Offer} (λ (q : ℕ). (q, answer_by r row l q)) l.to) k d) (port, answer_by r row l port)
              = get_or-map {Y = ℕ × Offer} (λ (q : ℕ). (q, answer_by r row l q)) l.to k 0 d lt in
              let place_is : place_of r port ≡ Some place = ap (λ (o : ℕ × Offer). place_of r o.0) (sym at) ∙ found in
              let hit : (p.id == port) ≡ true = passes_at (λ (q : PortRow). q.id == port) r.table.ports place p place_is here in
              let back : (port == p.id) ≡ true = flip p.id port hit in
              let leads : leads_to p.id l ≡ true = list_any_at (λ (q : ℕ). q == p.id) l.to k 0 lt back in
              let found_is : port_row r.table port ≡ Some p = found_at (λ (q : PortRow). q.id == port) r.table.ports place p place_is here in
              let joined = join.offered r row p l run is pass leads in
              subst (FillsBy r (after_row row r) row.stamp p) (ap (answer_of r (copy_of l r.rows row)) (sym found_is) ∙ ap (λ (o : ℕ × Offer). o.1) (sym at))
              (becomes r row p (copy_of l r.rows row) (answer_of r (copy_of l r.rows row) (Some p)) refl joined)

  pub fills : Fill r (after_row row r) row.stamp (offers_of r row)
  fills = by_link (named r.table row.verdict) refl

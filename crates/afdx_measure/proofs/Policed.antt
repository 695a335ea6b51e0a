-- What is noted of policing agrees with the run after an arrival.
use Rattle.std.proofs.Common.{◌≡◌, ℕ, true, List, length, slice_get, Option, Some, ap, sym, ◌∙◌, subst}
use Rattle.std.specs.declared.vec.Vec.{Vec}
use Rattle.std.specs.Vec.{with_items}
use Rattle.std.proofs.lemmas.List.{with_items_is}
use Rattle.afdx_table.specs.Link.{Link}
use Rattle.afdx_table.specs.Content.{Content, link_row, link_place}
use Rattle.afdx_table.specs.Inner.Found.{LinksAreFound, LinksAreAtTheirPlaces}
use Rattle.afdx_load.specs.Load.{terms_of}
use Rattle.afdx_account.specs.declared.frame.Frame.{Frame}
use Rattle.afdx_account.specs.Early.{early_by}
use Rattle.afdx_account.specs.Policing.{passed_frames}
use Rattle.afdx_core.specs.declared.step.Row.{Row}
use Rattle.afdx_core.specs.declared.step.Fate.TheVariants.{Policed}
use Rattle.afdx_core.specs.Step.{Step}
use Rattle.afdx_core.specs.Rows.{named, passes, fate_of, frame_of_row, account_frames}
use Rattle.afdx_core.specs.State.{Run, after_row, early_in}
use Rattle.afdx_core.specs.Inner.Agreement.{VerdictsNameLinks}
use Rattle.afdx_core.specs.Inner.Joining.{PolicedComeEarly}
use Rattle.afdx_spells.specs.Spells.{Noted}
use Rattle.afdx_measure.specs.declared.policing.Policing.{Policing}
use Rattle.afdx_measure.specs.declared.policing.Span.{Span}
use Rattle.afdx_measure.specs.Inner.Arriving.{HasArrived}
use Rattle.afdx_measure.specs.Inner.Policed.{EndsAre, HaveSpells, IsPoliced, IsNotedAt, with_arrival}
use Rattle.afdx_measure.proofs.Spelled.{IsPolicedBy, policed_by, spanned, spells_more, spells_stay}

module _ {Z : Type 0} (names : VerdictsNameLinks) (found : LinksAreFound) (r now : Run) (row : Row) (at size : ℕ) (step : Step) (p : Policing Z)
    (h : IsPoliced r p) (arrived : HasArrived r row at size step now)
    (span : Span) (span_is : span ≡ with_arrival step.number at p.span) where
  -- with any spells that the links then have
  policed_with : (v : Vec Noted Z) → HaveSpells (after_row row r) v.items → IsPoliced now (record { spells = v; span = span })
  policed_with v spells =
      let number_is : step.number ≡ length r.rows = ap (λ (s : Step). s.number) arrived.step_is in
      let ends = spanned r row step.number p.span number_is h.count h.ends in
      let is : span ≡ with_arrival step.number row.stamp p.span = span_is ∙ ap (λ (n : ℕ). with_arrival step.number n p.span) arrived.at_is in
      subst (λ (m : Run). IsPoliced m (record { spells = v; span = span })) (sym arrived.now_is) (record {
        formed = h.formed;
        spells = spells;
        count = ap (λ (s : Span). s.count) is ∙ ends.0;
        ends = subst (λ (s : Span). EndsAre s.ends (after_row row r)) (sym is) ends.1;
      })

  -- where no link policed it
  pub passed_on : ((m : Link) → named r.table row.verdict ≡ Some m → passes m r.rows row ≡ true) → IsPoliced now (record { spells = p.spells; span = span })
  passed_on passed = policed_with p.spells (spells_stay names found r row p.spells.items h.formed passed h.spells)

  -- where the link of this number did
  fate_is : (id : ℕ) → step.fate ≡ Policed id → fate_of r.table r.rows row ≡ Policed id
  fate_is id fate = sym (ap (λ (s : Step). s.fate) arrived.step_is) ∙ fate

  by_id : (id : ℕ) (b : IsPolicedBy r.table r.rows row id) → link_row r.table id ≡ Some b.link
  by_id id b = ap (link_row r.table) (sym b.id_is) ∙ (names.named_link r.table row.verdict b.link b.names).1

  pub noted_on : PolicedComeEarly → LinksAreAtTheirPlaces → (id place early : ℕ) → step.fate ≡ Policed id → link_place now.table id ≡ Some place
      → early ≡ early_in now (slice_get now.table.links place) (record { stamp = at; size = size })
      → (old new : List Noted) → old ≡ p.spells.items → IsNotedAt place (record { at = at; early = early }) old new
      → IsPoliced now (record { spells = with_items p.spells new; span = span })
  noted_on come places id place early fate place_is early_is old new old_is noted =
      let b = policed_by r.table r.rows row id (fate_is id fate) in
      let l = b.link in
      let table_is : now.table ≡ r.table = ap (λ (m : Run). m.table) arrived.now_is in
      let there : slice_get r.table.links place ≡ Some l = places.at r.table id place (ap (λ (t : Content). link_place t id) (sym table_is) ∙ place_is) ∙ by_id id b in
      let frame : ◌≡◌ {A = Frame} (record { stamp = at; size = size }) (frame_of_row row) = λ i. record { stamp = arrived.at_is i; size = arrived.size_is i } in
      let in_time : early ≡ early_by (terms_of l) (passed_frames (terms_of l) (account_frames l.id r.rows)) (frame_of_row row)
      = early_is ∙ ap (λ (m : Run). early_in m (slice_get m.table.links place) (record { stamp = at; size = size })) arrived.now_is
      ∙ ap (λ (o : Option Link). early_in (after_row row r) o (record { stamp = at; size = size })) there ∙ ap (early_in (after_row row r) (Some l)) frame ∙ come r row l b.names b.policed in
      let items_is = with_items_is p.spells new (noted.long ∙ ap (λ (xs : List Noted). length xs) old_is ∙ sym p.spells.ok.0) in
      let noted_there = subst (λ (xs : List Noted). IsNotedAt place (record { at = row.stamp; early = early }) xs new) old_is
      (subst (λ (n : ℕ). IsNotedAt place (record { at = n; early = early }) old new) arrived.at_is noted) in
      policed_with (with_items p.spells new) (subst (HaveSpells (after_row row r)) (sym items_is)
      (spells_more names found r row l place early p.spells.items new h.formed b.names b.policed there in_time noted_there h.spells))

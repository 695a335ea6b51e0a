-- What each call adds at a port.
use Rattle.std.proofs.Common.{◌≡◌, ℕ, ◌+◌, ◌-◌, ◌≤◌, ◌⊎◌, Bool, true, false, cond, ◌&&◌, List, [], ◌∷◌, ◌++◌, length, get_or, Option, Some, None, refl, ap, sym, ◌∙◌, arith, subst, inl, inr}
use Rattle.std.proofs.Common.{length-append, append_assoc}
use Rattle.std.specs.Prelude.{AllPairs}
use Rattle.std.proofs.lemmas.Bool.{cases_Bool, cases_lt}
use Rattle.std.proofs.lemmas.List.{get_or-append_right}
use Rattle.std.proofs.lemmas.List.Quantifiers.{all_pairs_push}
use Rattle.std.proofs.lemmas.List.Sums.{sum_by_push}
use Rattle.afdx_account.specs.declared.frame.Frame.{Frame}
use Rattle.afdx_account.specs.Policing.{passed_frames}
use Rattle.afdx_account.specs.Early.{early_by}
use Rattle.afdx_account.specs.Inner.Laws.{NextFrameJoinsWhereItConforms}
use Rattle.afdx_load.specs.Load.{terms_of}
use Rattle.afdx_table.specs.declared.rows.PortRow.{PortRow}
use Rattle.afdx_table.specs.Link.{Link, leads_to}
use Rattle.afdx_table.specs.Content.{Content as TableContent}
use Rattle.afdx_port.specs.declared.Settings.{Settings}
use Rattle.afdx_port.specs.declared.Item.{Item}
use Rattle.afdx_port.specs.declared.Sent.{Sent}
use Rattle.afdx_port.specs.declared.Offer.{Offer}
use Rattle.afdx_port.specs.declared.Offer.TheVariants.{Full, Queued}
use Rattle.afdx_port.specs.Service.{Event, came, service, sent_of, aged_of}
use Rattle.afdx_port.specs.Admission.{occupied, fits, admit}
use Rattle.afdx_port.specs.Content.{Content, done}
use Rattle.afdx_port.specs.Inner.Admission.{AdmittedInParts, AdmittedInOrder}
use Rattle.afdx_port.specs.Inner.Events.{SentInParts}
use Rattle.afdx_port.specs.Inner.Gone.{gone, OccupiedIsWhatHasNotGone}
use Rattle.afdx_port.specs.Inner.Lagging.{AdvanceAdds, FinishAdds, OfferAdvances}
use Rattle.afdx_port.specs.Inner.Order.{InOrder, StampsInOrder}
use Rattle.afdx_isolation.specs.Table.{settings_of}
use Rattle.afdx_core.specs.declared.step.Row.{Row}
use Rattle.afdx_core.specs.Rows.{named, passes, copy_of, copies, copies_by, frame_of_row, account_frames}
use Rattle.afdx_core.specs.State.{Run, port_after, port_in, early_in, answer_of, after_row, after_advance, after_finish}
use Rattle.afdx_core.specs.Isolation.{IsRun}
use Rattle.afdx_core.specs.Inner.Agreement.{VerdictsNameLinks}
use Rattle.afdx_core.specs.Inner.Joining.{GoesOn, StaysOut, BecomesOf}
use Rattle.afdx_core.proofs.Feeds.{account-same, port-carried, port-offered, passed_copies}
use Rattle.afdx_core.proofs.Ordered.{admitted_rise}

-- ---- what was sent comes first

abbrev Adds : Content → Content → Type 0
Adds c d = (more : List Event) × (done d ≡ done c ++ more)

sends_more : SentInParts → (c d : Content) → Adds c d → (more : List Sent) × (sent_of (done d) ≡ sent_of (done c) ++ more)
sends_more parts c d h = (sent_of h.0, ap sent_of h.1 ∙ parts (done c) h.0)

-- the copies of an arrival at a port: none, or one
one_or_none : (t : TableContent) (port : ℕ) (rows : List Row) (row : Row) → (copies t port rows row ≡ []) ⊎ ((x : Item) × (x.stamp ≡ row.stamp) × (copies t port rows row ≡ x ∷ []))
one_or_none t port rows row = by_link (named t row.verdict) where
  by_copy : (l : Link) (b : Bool) → (cond b (copy_of l rows row ∷ []) [] ≡ []) ⊎ ((x : Item) × (x.stamp ≡ row.stamp) × (cond b (copy_of l rows row ∷ []) [] ≡ x ∷ []))
  by_copy l true = inr (copy_of l rows row, refl, refl)
  by_copy l false = inl refl

  by_link : (o : Option Link) → (copies_by o port rows row ≡ []) ⊎ ((x : Item) × (x.stamp ≡ row.stamp) × (copies_by o port rows row ≡ x ∷ []))
  by_link None = inl refl
  by_link (Some l) = by_copy l (passes l rows row && leads_to port l)

arrival_adds : AdmittedInParts → AdvanceAdds → OfferAdvances → (t : TableContent) (rows : List Row) (latest : ℕ) (row : Row) (p : PortRow) → latest ≤ row.stamp
    → Adds (port_after t rows latest false p) (port_after t (rows ++ row ∷ []) row.stamp false p)
arrival_adds in_parts adds offers t rows latest row p le =
    let c = port_after t rows latest false p in
    let d = port_after t (rows ++ row ∷ []) row.stamp false p in
    elim (one_or_none t p.id rows row) [
      | inl none ↦ subst (Adds c) (port-carried t rows row latest p none) (adds c row.stamp refl le)
      | inr one ↦
          let x = one.0 in
          let in_time : latest ≤ x.stamp = omega (arith, le, one.1) in
          let more = adds c x.stamp refl in_time in
          subst (Adds c) (port-offered in_parts t rows row latest p x one.1 one.2) (more.0, offers c x refl in_time ∙ more.1)
    ]

abbrev with_end : Run → Bool → Run
with_end r b = record { table = r.table; rows = r.rows; latest = r.latest; handed = r.handed; finished = b }

-- of runs that are not finished
of_open : (f : Run → Run) (r : Run) → r.finished ≡ false → GoesOn (with_end r false) (f (with_end r false)) → GoesOn r (f r)
of_open f r is h = subst (λ (b : Bool). GoesOn (with_end r b) (f (with_end r b))) (sym is) h

pub arrivals_go_on : AdmittedInParts → AdvanceAdds → OfferAdvances → SentInParts → (r : Run) (row : Row) → r.finished ≡ false → r.latest ≤ row.stamp → GoesOn r (after_row row r)
arrivals_go_on in_parts adds offers parts r row is le =
    of_open (after_row row) r is (λ p. sends_more parts (port_after r.table r.rows r.latest false p) (port_after r.table (r.rows ++ row ∷ []) row.stamp false p)
    (arrival_adds in_parts adds offers r.table r.rows r.latest row p le))

pub advances_go_on : AdvanceAdds → SentInParts → (r : Run) (to : ℕ) → r.finished ≡ false → r.latest ≤ to → GoesOn r (after_advance to r)
advances_go_on adds parts r to is le =
    of_open (after_advance to) r is (λ p. sends_more parts (port_after r.table r.rows r.latest false p) (port_after r.table r.rows to false p)
    (adds (port_after r.table r.rows r.latest false p) to refl le))

pub finish_goes_on : FinishAdds → SentInParts → (r : Run) → r.finished ≡ false → GoesOn r (after_finish r)
finish_goes_on adds parts r is =
    of_open after_finish r is (λ p. sends_more parts (port_after r.table r.rows r.latest false p) (port_after r.table r.rows r.latest true p)
    (adds (port_after r.table r.rows r.latest false p)))

-- ---- what a port admits of an arrival

-- in order with one more at its end, and with that one twice
twice : {X : Type 0} (R : X → X → Type 0) (xs : List X) (x : X) → R x x → AllPairs R (xs ++ x ∷ []) → AllPairs R ((xs ++ x ∷ []) ++ x ∷ [])
twice {X} R xs x itself order = all_pairs_push R (xs ++ x ∷ []) x order (λ k d lt.
    let long = length-append xs (x ∷ []) in
    let zero : length xs - length xs ≡ 0 = omega arith in
    let last : (e : X) → get_or (xs ++ x ∷ []) (length xs) e ≡ x = λ e. get_or-append_right xs (x ∷ []) (length xs) (length xs) e refl (omega arith) ∙ ap (λ n. get_or (x ∷ []) n e) zero in
    elim (cases_lt k (length xs)) [
      | inl before ↦ subst (R (get_or (xs ++ x ∷ []) k d)) (last d) (order k (length xs) d before (omega (arith, long)))
      | inr after ↦
          let same : k ≡ length xs = omega (arith, after, lt, long) in
          subst (λ (y : X). R y x) (sym (ap (λ n. get_or (xs ++ x ∷ []) n d) same ∙ last d)) itself
    ])

-- what is occupied at the instant of the last one, with it
with_last : OccupiedIsWhatHasNotGone → (s : Settings) (items : List Item) (x : Item) → InOrder s ((items ++ x ∷ []) ++ x ∷ [])
    → occupied s (came s x) (items ++ x ∷ []) ≡ x.size + occupied s (came s x) items
with_last law s items x order =
    let twofold : (items ++ x ∷ []) ++ x ∷ [] ≡ items ++ x ∷ x ∷ [] = append_assoc items (x ∷ []) (x ∷ []) in
    let first = law s items (x ∷ []) x (subst (InOrder s) twofold order) in
    let second = law s (items ++ x ∷ []) [] x order in
    let same : gone (came s x) (sent_of (service s 0 ((items ++ x ∷ []) ++ x ∷ []))) (aged_of (service s 0 ((items ++ x ∷ []) ++ x ∷ [])))
    ≡ gone (came s x) (sent_of (service s 0 (items ++ x ∷ x ∷ []))) (aged_of (service s 0 (items ++ x ∷ x ∷ [])))
    = ap (λ (all : List Item). gone (came s x) (sent_of (service s 0 all)) (aged_of (service s 0 all))) twofold in
    let sum = sum_by_push (λ (item : Item). item.size) items x in
    omega (arith, first, second, same, sum)

-- what a port that is offered a copy admits, by whether it fits
admits : (s : Settings) (items : List Item) (x : Item) (b : Bool) → fits s items x ≡ b → admit s items x ≡ cond b (items ++ x ∷ []) items
admits s items x b is = ap (λ (v : Bool). cond v (items ++ x ∷ []) items) is

says : (s : Settings) (items : List Item) (x : Item) (b : Bool) → fits s items x ≡ b → ◌≡◌ {A = Offer} (cond (fits s items x) Queued Full) (cond b Queued Full)
says s items x b is = ap (λ (v : Bool). cond v Queued Full) is

pub joins : AdmittedInParts → AdmittedInOrder → StampsInOrder → OccupiedIsWhatHasNotGone → (r : Run) (row : Row) (p : PortRow) (l : Link) → IsRun (after_row row r)
    → named r.table row.verdict ≡ Some l → passes l r.rows row ≡ true → leads_to p.id l ≡ true → BecomesOf r row p (copy_of l r.rows row) (answer_of r (copy_of l r.rows row) (Some p))
joins in_parts in_order stamps law r row p l run is pass leads =
    let s = settings_of r.table.latency p in
    let items = (port_in r p).admitted in
    let x = copy_of l r.rows row in
    let one = passed_copies r.table p.id r.rows row l true is pass leads in
    let now : admit s items x ≡ (port_in (after_row row r) p).admitted = ap (λ (c : Content). c.admitted) (port-offered in_parts r.table r.rows row r.latest p x refl one) in
    let order : AllPairs (λ (a : Item) (b : Item). a.stamp ≤ b.stamp) (port_in (after_row row r) p).admitted = admitted_rise in_order (after_row row r) (Some p) run in
    elim (cases_Bool (fits s items x)) [
      | inl fit ↦
          let grown : (port_in (after_row row r) p).admitted ≡ items ++ x ∷ [] = sym now ∙ admits s items x true fit in
          let pairs : AllPairs (λ (a : Item) (b : Item). a.stamp ≤ b.stamp) (items ++ x ∷ []) = subst (AllPairs (λ (a : Item) (b : Item). a.stamp ≤ b.stamp)) grown order in
          let both = twice (λ (a : Item) (b : Item). a.stamp ≤ b.stamp) items x (omega arith) pairs in
          subst (BecomesOf r row p x) (sym (says s items x true fit)) (record {
            admitted = grown;
            bytes = ap (λ (all : List Item). occupied s (came s x) all) grown ∙ with_last law s items x (stamps s ((items ++ x ∷ []) ++ x ∷ []) both);
          })
      | inr unfit ↦ subst (BecomesOf r row p x) (sym (says s items x false unfit)) (sym now ∙ admits s items x false unfit)
    ]

pub stays_out : AdmittedInParts → (r : Run) (row : Row) (p : PortRow) → copies r.table p.id r.rows row ≡ [] → StaysOut r row p
stays_out in_parts r row p none = sym (ap (λ (c : Content). c.admitted) (port-carried r.table r.rows row r.latest p none))

-- ---- a policed frame

pub comes_early : VerdictsNameLinks → NextFrameJoinsWhereItConforms → (r : Run) (row : Row) (l : Link) → named r.table row.verdict ≡ Some l → passes l r.rows row ≡ false
    → early_in (after_row row r) (Some l) (frame_of_row row) ≡ early_by (terms_of l) (passed_frames (terms_of l) (account_frames l.id r.rows)) (frame_of_row row)
unfolding passes
comes_early names next r row l is policed =
    let t = terms_of l in
    let before = account_frames l.id r.rows in
    let f = frame_of_row row in
    ap (λ (fs : List Frame). early_by t (passed_frames t fs) f) (account-same l.id r.rows row (names.named_link r.table row.verdict l is).0)
    ∙ ap (λ (fs : List Frame). early_by t fs f) (next t before f ∙ ap (λ (b : Bool). cond b (passed_frames t before ++ f ∷ []) (passed_frames t before)) policed)

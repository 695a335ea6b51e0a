-- A switch's rows as the arrivals of the ports' laws: the headline.
use Rattle.std.proofs.Common.{◌≡◌, ℕ, ◌≤◌, ◌<◌, ◌==◌, Bool, true, false, cond, ◌&&◌, nat_eq, List, [], ◌∷◌, ◌++◌, length, map, filter, get_or, Option, Some, None, refl, ap, sym, ◌∙◌, subst, arith}
use Rattle.std.proofs.Common.{append-nil, append_assoc}
use Rattle.std.specs.Prelude.{All, Contains}
use Rattle.std.proofs.lemmas.List.{map-append, get_or_default}
use Rattle.std.proofs.lemmas.List.Elements.{All-nil, All-cons, All-head, All-tail, All-append, filter-append}
use Rattle.std.proofs.lemmas.Bool.Decides.{nat_tests}
use Rattle.std.proofs.lemmas.Bool.{eqb-true}
use Rattle.std.proofs.lemmas.Option.{same_Some}
use Rattle.afdx_table.specs.declared.rows.PortRow.{PortRow}
use Rattle.afdx_table.specs.Link.{Link, leads_to}
use Rattle.afdx_table.specs.Content.{Content, link_row}
use Rattle.afdx_table.specs.WellFormed.{IsWellFormed}
use Rattle.afdx_table.specs.Inner.Found.{LinksAreFound}
use Rattle.afdx_load.specs.Bounds.{backlog, byte_time}
use Rattle.afdx_load.specs.Accepted.{IsAccepted}
use Rattle.afdx_filter.specs.declared.outcome.Verdict.{Verdict}
use Rattle.afdx_filter.specs.declared.outcome.Verdict.TheVariants.{Cut, Short, Long, Foreign, NoLink, WrongPort, TooBig, Clean}
use Rattle.afdx_filter.specs.Inner.Clean.{CleanFramesHaveALink}
use Rattle.afdx_account.specs.declared.frame.Frame.{Frame}
use Rattle.afdx_account.specs.Policing.{Terms, conforms, passed_of, passed_frames}
use Rattle.afdx_account.specs.Level.{InOrder}
use Rattle.afdx_account.specs.Inner.Laws.{NextJoinsWhereItConforms, PassedByTheirFrames}
use Rattle.afdx_port.specs.declared.Item.{Item}
use Rattle.afdx_port.specs.Admission.{admitted, AllFitIn}
use Rattle.afdx_isolation.specs.Arrivals.{own, frame_of_item}
use Rattle.afdx_isolation.specs.Inner.Arrivals.{joins, feed_after, feed_of as offered_of}
use Rattle.afdx_isolation.specs.Inner.Table.{flows_at, IsCleanIn, OffersWhatThePolicingPasses, AcceptedTablesIsolate as TablesIsolate, BuffersHoldTheBacklog as TablesHoldTheBacklog, ArriveAt}
use Rattle.afdx_isolation.specs.Table.{settings_of}
use Rattle.afdx_isolation.specs.Inner.Table.{IsIsolatedAt}
use Rattle.afdx_load.specs.Load.{terms_of, load_of}
use Rattle.afdx_core.specs.declared.step.Row.{Row}
use Rattle.afdx_core.specs.Rows.{frame_of_row, account_frames, says_clean, passes, named, copy_of, copies_by, copies, each_after, feed_of}
use Rattle.afdx_core.specs.State.{Run, port_in}
use Rattle.afdx_core.specs.Isolation.{IsOfAnArrival, IsRun, copy_by, clean_copies, sent_copies, PassedCopiesArePassedFrames, IsIsolatedRun, AcceptedTablesIsolate, with_bytes, OthersChangeNothing}
use Rattle.afdx_core.proofs.Lists.{each-push}

-- ---- links by their numbers

get_or_self : (links : List Link) (k : ℕ) (d : Link) → k < length links → get_or links k (get_or links k d) ≡ get_or links k d
get_or_self links k d lt = get_or_default links k (get_or links k d) d lt

-- the link that a clean row names
pub named_by : LinksAreFound → (t : Content) (v : Verdict) (l : Link) → named t v ≡ Some l → (v ≡ Clean l.id) × (link_row t l.id ≡ Some l) × Contains t.links l
named_by links t (Clean i) l is = let row = links.is_row t i l is in (ap Clean (sym row.0), ap (link_row t) row.0 ∙ is, row.1)
named_by links t Cut l is = (cc)
named_by links t Short l is = (cc)
named_by links t Long l is = (cc)
named_by links t Foreign l is = (cc)
named_by links t NoLink l is = (cc)
named_by links t WrongPort l is = (cc)
named_by links t TooBig l is = (cc)

module _ (links : LinksAreFound) (t : Content) where
  abbrev copy : List Row → Row → List Item
  copy before row = copy_by (named t row.verdict) before row

  clean-push : (before : List Row) (row : Row) → clean_copies t (before ++ row ∷ []) ≡ clean_copies t before ++ copy before row
  unfolding clean_copies
  clean-push before row = each-push copy [] before row

  -- ---- the copies of a link's own frames carry these frames

  own-append : (i : ℕ) (xs ys : List Item) → map frame_of_item (own i (xs ++ ys)) ≡ map frame_of_item (own i xs) ++ map frame_of_item (own i ys)
  own-append i xs ys = ap (map frame_of_item) (filter-append (λ (x : Item). nat_eq x.link i) xs ys) ∙ map-append frame_of_item (own i xs) (own i ys)

  own_one : (l : Link) → link_row t l.id ≡ Some l → (before : List Row) (row : Row) (v : Verdict)
      → map frame_of_item (own l.id (copy_by (named t v) before row)) ≡ map frame_of_row (cond (says_clean l.id v) (row ∷ []) [])
  own_one l found before row (Clean j) = by (link_row t j) refl where
    by : (o : Option Link) → link_row t j ≡ o → map frame_of_item (own l.id (copy_by o before row)) ≡ map frame_of_row (cond (l.id == j) (row ∷ []) [])
    by None is = ap (λ b. map frame_of_row (cond b (row ∷ []) [])) (sym (decide (l.id == j) refl)) where
      decide : (b : Bool) → (l.id == j) ≡ b → (l.id == j) ≡ false
      decide true was = let none : Some l ≡ None = sym found ∙ ap (link_row t) (eqb-true l.id j was) ∙ is in (cc)
      decide false was = was
    by (Some m) is =
        let same = (links.is_row t j m is).0 in
        out (nat_eq m.id l.id) ∙ ap (λ b. map frame_of_row (cond b (row ∷ []) [])) (turned m.id l.id j same) where
          out : (b : Bool) → map frame_of_item (cond b (copy_of m before row ∷ []) []) ≡ map frame_of_row (cond b (row ∷ []) [])
          out true = refl
          out false = refl

          turned : (a b c : ℕ) → a ≡ c → nat_eq a b ≡ (b == c)
          turned a b c is = grind (arith, nat_tests)
  own_one l found before row Cut = refl
  own_one l found before row Short = refl
  own_one l found before row Long = refl
  own_one l found before row Foreign = refl
  own_one l found before row NoLink = refl
  own_one l found before row WrongPort = refl
  own_one l found before row TooBig = refl

  own_after : (l : Link) → link_row t l.id ≡ Some l → (before rows : List Row) → map frame_of_item (own l.id (each_after copy before rows))
      ≡ map frame_of_row (filter (λ (row : Row). says_clean l.id row.verdict) rows)
  own_after l found before [] = refl
  own_after l found before (row ∷ rows) =
      own-append l.id (copy before row) (each_after copy (before ++ row ∷ []) rows)
      ∙ ap (λ fs. fs ++ map frame_of_item (own l.id (each_after copy (before ++ row ∷ []) rows))) (own_one l found before row row.verdict)
      ∙ ap (λ fs. map frame_of_row (cond (says_clean l.id row.verdict) (row ∷ []) []) ++ fs) (own_after l found (before ++ row ∷ []) rows)
      ∙ joined (says_clean l.id row.verdict) (filter (λ (row : Row). says_clean l.id row.verdict) rows) where
        joined : (b : Bool) (more : List Row) → map frame_of_row (cond b (row ∷ []) []) ++ map frame_of_row more ≡ map frame_of_row (cond b (row ∷ more) more)
        joined true more = refl
        joined false more = refl

  pub own_frames_are : (l : Link) → link_row t l.id ≡ Some l → (rows : List Row) → map frame_of_item (own l.id (clean_copies t rows)) ≡ account_frames l.id rows
  unfolding clean_copies account_frames
  own_frames_are l found rows = own_after l found [] rows

  -- ---- a port is offered what the ports' laws speak of

  module _ (well : IsWellFormed t) (offers : OffersWhatThePolicingPasses) (p : PortRow) where
    offered_one : (l : Link) → link_row t l.id ≡ Some l → Contains t.links l → (before : List Row) (row : Row)
        → joins (flows_at t p) (clean_copies t before) (copy_of l before row) ≡ (passes l before row && leads_to p.id l)
    unfolding passes
    offered_one l found among before row =
        offers t well p l among (clean_copies t before) (copy_of l before row) refl
        ∙ ap (λ fs. leads_to p.id l && conforms (terms_of l) (passed_frames (terms_of l) fs) (frame_of_row row)) (own_frames_are l found before)
        ∙ turned (leads_to p.id l) (conforms (terms_of l) (passed_frames (terms_of l) (account_frames l.id before)) (frame_of_row row)) where
          turned : (a b : Bool) → (a && b) ≡ (b && a)
          turned true true = refl
          turned true false = refl
          turned false true = refl
          turned false false = refl

    offered_after : (before rows : List Row) → each_after (copies t p.id) before rows ≡ feed_after (flows_at t p) (clean_copies t before) (each_after copy before rows)
    offered_after before [] = refl
    offered_after before (row ∷ rows) = by (offered_after (before ++ row ∷ []) rows) (named t row.verdict) refl where
      by : each_after (copies t p.id) (before ++ row ∷ []) rows ≡ feed_after (flows_at t p) (clean_copies t (before ++ row ∷ [])) (each_after copy (before ++ row ∷ []) rows)
          → (o : Option Link) → named t row.verdict ≡ o
          → copies_by o p.id before row ++ each_after (copies t p.id) (before ++ row ∷ []) rows
          ≡ feed_after (flows_at t p) (clean_copies t before) (copy_by o before row ++ each_after copy (before ++ row ∷ []) rows)
      by ih None is = ih ∙ ap (λ bs. feed_after (flows_at t p) bs (each_after copy (before ++ row ∷ []) rows))
          (clean-push before row ∙ ap (λ o. clean_copies t before ++ copy_by o before row) is ∙ append-nil (clean_copies t before))
      by ih (Some l) is =
          let names = named_by links t row.verdict l is in
          let x = copy_of l before row in
          let rest = feed_after (flows_at t p) (clean_copies t before ++ x ∷ []) (each_after copy (before ++ row ∷ []) rows) in
          let more : each_after (copies t p.id) (before ++ row ∷ []) rows ≡ rest =
          ih ∙ ap (λ bs. feed_after (flows_at t p) bs (each_after copy (before ++ row ∷ []) rows)) (clean-push before row ∙ ap (λ o. clean_copies t before ++ copy_by o before row) is) in
          ap (λ ys. cond (passes l before row && leads_to p.id l) (x ∷ []) [] ++ ys) more
          ∙ out (passes l before row && leads_to p.id l) x rest
          ∙ ap (λ b. cond b (x ∷ rest) rest) (sym (offered_one l names.1 names.2 before row)) where
            out : (b : Bool) (x : Item) (rest : List Item) → cond b (x ∷ []) [] ++ rest ≡ cond b (x ∷ rest) rest
            out true x rest = refl
            out false x rest = refl

    pub offered_is : (rows : List Row) → feed_of t p.id rows ≡ offered_of (flows_at t p) (clean_copies t rows)
    unfolding feed_of clean_copies
    offered_is rows = offered_after [] rows

  -- ---- the clean copies are clean, in order

  module _ (well : IsWellFormed t) (have_link : CleanFramesHaveALink) where
    clean_one : (before : List Row) (row : Row) → IsOfAnArrival t row → (l : Link) → named t row.verdict ≡ Some l → IsCleanIn t (copy_of l before row)
    clean_one before row arrival l is = λ k d lt same.
        let names = named_by links t row.verdict l is in
        let m = get_or t.links k d in
        let h = have_link t arrival.0 arrival.1 l.id (sym (ap (λ (r : Row). r.verdict) arrival.2) ∙ names.0) in
        let size = ap (λ (r : Row). r.size) arrival.2 in
        let one : h.link ≡ l = same_Some h.link l (sym h.is_link ∙ names.1) in
        let two : m ≡ l = same_Some m l (sym (links.found t well m (k, lt, get_or_self t.links k d lt)) ∙ ap (link_row t) same ∙ names.1) in
        (ap (λ (x : Link). x.priority) two, omega (arith, size, h.size_least), omega (arith, size, h.size_most, ap (λ (x : Link). x.max_size) one, ap (λ (x : Link). x.max_size) two))

    clean_after : (before rows : List Row) → All (IsOfAnArrival t) rows → All (IsCleanIn t) (each_after copy before rows)
    clean_after before [] h = All-nil (IsCleanIn t)
    clean_after before (row ∷ rows) h =
        All-append (IsCleanIn t) (copy before row) (each_after copy (before ++ row ∷ []) rows) (by (named t row.verdict) refl)
        (clean_after (before ++ row ∷ []) rows (All-tail (IsOfAnArrival t) row rows h)) where
          by : (o : Option Link) → named t row.verdict ≡ o → All (IsCleanIn t) (copy_by o before row)
          by None is = All-nil (IsCleanIn t)
          by (Some l) is = All-cons (IsCleanIn t) (copy_of l before row) [] (clean_one before row (All-head (IsOfAnArrival t) row rows h) l is) (All-nil (IsCleanIn t))

    pub all_clean : (rows : List Row) → All (IsOfAnArrival t) rows → All (IsCleanIn t) (clean_copies t rows)
    unfolding clean_copies
    all_clean rows h = clean_after [] rows h

  in_order_after : (low from : ℕ) (before rows : List Row) → low ≤ from → InOrder from (map frame_of_row rows) → InOrder low (map frame_of_item (each_after copy before rows))
  in_order_after low from before [] le order = tt
  in_order_after low from before (row ∷ rows) le order =
      let here : low ≤ row.stamp = (let h = order.0 in omega (arith, le, h)) in
      by here (in_order_after low row.stamp (before ++ row ∷ []) rows here order.1) (in_order_after row.stamp row.stamp (before ++ row ∷ []) rows (omega arith) order.1) (named t row.verdict) where
        by : low ≤ row.stamp → InOrder low (map frame_of_item (each_after copy (before ++ row ∷ []) rows)) → InOrder row.stamp (map frame_of_item (each_after copy (before ++ row ∷ []) rows))
            → (o : Option Link) → InOrder low (map frame_of_item (copy_by o before row ++ each_after copy (before ++ row ∷ []) rows))
        by le out joins' None = out
        by le out joins' (Some l) = (le, joins')

  pub in_order : (rows : List Row) → InOrder 0 (map frame_of_row rows) → InOrder 0 (map frame_of_item (clean_copies t rows))
  unfolding clean_copies
  in_order rows order = in_order_after 0 0 [] rows (omega arith) order

pub passed_are : LinksAreFound → PassedByTheirFrames Item → PassedCopiesArePassedFrames
passed_are links by_frames t l rows well among =
    by_frames frame_of_item (terms_of l) (own l.id (clean_copies t rows))
    ∙ ap (passed_frames (terms_of l)) (own_frames_are links t l (links.found t well l among) rows)

-- ---- the theorem

module _ (links : LinksAreFound) (have_link : CleanFramesHaveALink) (offers : OffersWhatThePolicingPasses) (isolate : TablesIsolate) (r : Run) (run : IsRun r) (well : IsWellFormed r.table)
    (accepted : IsAccepted r.table) where
  abbrev arrivals : List Item
  arrivals = clean_copies r.table r.rows

  arrive : ArriveAt r.table arrivals
  arrive = record { well_formed = well; accepted = accepted; stamps = in_order links r.table r.rows run.stamps; clean = all_clean links r.table well have_link r.rows run.arrivals }

  at_port : (p : PortRow) → Contains r.table.ports p → IsIsolatedAt r.table p arrivals (port_in r p)
  at_port p among = isolate r.table arrivals arrive p among (port_in r p) refl (ap (admitted (settings_of r.table.latency p)) (offered_is links r.table well offers p r.rows))

  pub holds_backlog : TablesHoldTheBacklog → (p : PortRow) → Contains r.table.ports p → (bytes : ℕ) → backlog (load_of r.table.latency p.speed p.id r.table.links) ≤ byte_time p.speed bytes
      → AllFitIn bytes (settings_of r.table.latency p) [] (port_in r p).admitted
  holds_backlog hold p among bytes holds =
      subst (λ (feed : List Item). AllFitIn bytes (settings_of r.table.latency p) [] (admitted (settings_of r.table.latency p) feed)) (sym (offered_is links r.table well offers p r.rows))
      (hold r.table arrivals arrive p among bytes holds)

  pub isolated : IsIsolatedRun r
  isolated = record {
    none_full = λ p among. (at_port p among).none_full ∙ sym (offered_is links r.table well offers p r.rows);
    none_aged = λ p among. (at_port p among).none_aged;
    in_bound = λ p among. (at_port p among).in_bound;
    prefix_of_passed = λ p among l in_table leads. let prefix = (at_port p among).prefix_of_passed l in_table leads in (prefix.0, prefix.1);
    all_passed_once_finished = λ ends p among l in_table leads.
        let prefix = (at_port p among).prefix_of_passed l in_table leads in
        sym (append-nil (sent_copies r p l)) ∙ ap (λ rest. sent_copies r p l ++ rest) (sym (prefix.2 ends)) ∙ prefix.1;
  }

-- ---- two worlds

-- copies as others see them, with one more where it conforms
abbrev grown : Terms → List (Frame × List ℕ) → Frame × List ℕ → List (Frame × List ℕ)
grown t seen x = cond (conforms t (map (λ (y : Frame × List ℕ). y.0) seen) x.0) (seen ++ x ∷ []) seen

frames_seen : (bytes : ℕ → List ℕ) (xs : List Item) → map frame_of_item xs ≡ map (λ (y : Frame × List ℕ). y.0) (map (with_bytes bytes) xs)
frames_seen bytes [] = refl
frames_seen bytes (x ∷ xs) = ap (λ fs. frame_of_item x ∷ fs) (frames_seen bytes xs)

seen_grown : (bytes : ℕ → List ℕ) (b : Bool) (xs : List Item) (x : Item)
    → map (with_bytes bytes) (cond b (xs ++ x ∷ []) xs) ≡ cond b (map (with_bytes bytes) xs ++ with_bytes bytes x ∷ []) (map (with_bytes bytes) xs)
seen_grown bytes true xs x = map-append (with_bytes bytes) xs (x ∷ [])
seen_grown bytes false xs x = refl

module _ (next : NextJoinsWhereItConforms Item) (t : Terms) where
  abbrev seen : (ℕ → List ℕ) → List Item → List (Frame × List ℕ)
  seen bytes xs = map (with_bytes bytes) (passed_of frame_of_item t xs)

  seen-push : (bytes : ℕ → List ℕ) (xs : List Item) (x : Item) → seen bytes (xs ++ x ∷ []) ≡ grown t (seen bytes xs) (with_bytes bytes x)
  seen-push bytes xs x =
      let ps = passed_of frame_of_item t xs in
      ap (map (with_bytes bytes)) (next frame_of_item t xs x)
      ∙ seen_grown bytes (conforms t (map frame_of_item ps) (frame_of_item x)) ps x
      ∙ ap (λ fs. cond (conforms t fs (frame_of_item x)) (seen bytes xs ++ with_bytes bytes x ∷ []) (seen bytes xs)) (frames_seen bytes ps)

  -- of copies that are seen alike, those that are passed are seen alike, and so with more of them
  seen_alike : (bytes bytes' : ℕ → List ℕ) (before before' xs ys : List Item) → seen bytes before ≡ seen bytes' before' → map (with_bytes bytes) xs ≡ map (with_bytes bytes') ys
      → seen bytes (before ++ xs) ≡ seen bytes' (before' ++ ys)
  seen_alike bytes bytes' before before' [] [] same is = ap (seen bytes) (append-nil before) ∙ same ∙ sym (ap (seen bytes') (append-nil before'))
  seen_alike bytes bytes' before before' [] (y ∷ ys) same is = (cc)
  seen_alike bytes bytes' before before' (x ∷ xs) [] same is = (cc)
  seen_alike bytes bytes' before before' (x ∷ xs) (y ∷ ys) same is =
      let first : with_bytes bytes x ≡ with_bytes bytes' y = (cc) in
      let others : map (with_bytes bytes) xs ≡ map (with_bytes bytes') ys = (cc) in
      let one : seen bytes (before ++ x ∷ []) ≡ seen bytes' (before' ++ y ∷ []) =
      seen-push bytes before x ∙ ap (λ z. grown t (seen bytes before) z) first ∙ ap (λ zs. grown t zs (with_bytes bytes' y)) same ∙ sym (seen-push bytes' before' y) in
      ap (seen bytes) (sym (append_assoc before (x ∷ []) xs))
      ∙ seen_alike bytes bytes' (before ++ x ∷ []) (before' ++ y ∷ []) xs ys one others
      ∙ ap (seen bytes') (append_assoc before' (y ∷ []) ys)

pub others_nothing : NextJoinsWhereItConforms Item → AcceptedTablesIsolate → OthersChangeNothing
others_nothing next isolate r r' bytes bytes' run run' well well' accepted accepted' ends ends' p p' l l' at at' among among' leads leads' terms same =
    ap (map (with_bytes bytes)) ((isolate r run well accepted).all_passed_once_finished ends p at l among leads)
    ∙ seen_alike next (terms_of l) bytes bytes' [] [] (own l.id (clean_copies r.table r.rows)) (own l'.id (clean_copies r'.table r'.rows)) refl same
    ∙ ap (λ t. map (with_bytes bytes') (passed_of frame_of_item t (own l'.id (clean_copies r'.table r'.rows)))) terms
    ∙ sym (ap (map (with_bytes bytes')) ((isolate r' run' well' accepted').all_passed_once_finished ends' p' at' l' among' leads'))

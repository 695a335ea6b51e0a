-- What has not left up to an instant leaves no sooner than one latency and the line time of the least frame later.
use Rattle.std.proofs.Common.{◌≡◌, ℕ, zero, suc, ◌+◌, ◌≤◌, ◌&&◌, true, List, [], ◌∷◌, ◌++◌, map, length, slice_get, Option, Some, None, refl, ap, sym, ◌∙◌, arith, subst}
use Rattle.std.specs.Prelude.{All, Contains}
use Rattle.std.specs.List.{AllByRecursion}
use Rattle.std.proofs.lemmas.List.{length-map}
use Rattle.std.proofs.lemmas.List.Elements.{All-contains, All-from_recursion}
use Rattle.std.proofs.lemmas.Option.{same_Some}
use Rattle.afdx_units.specs.declared.line.Speed.{Speed}
use Rattle.afdx_units.specs.declared.line.Speed.TheVariants.{Ten, Hundred, Thousand}
use Rattle.afdx_units.specs.Line.{cost_of}
use Rattle.afdx_pcap.specs.Record.{Record}
use Rattle.afdx_table.specs.declared.rows.PortRow.{PortRow}
use Rattle.afdx_table.specs.Link.{Link, leads_to}
use Rattle.afdx_table.specs.Content.{Content}
use Rattle.afdx_filter.specs.Verdict.{verdict_of}
use Rattle.afdx_filter.specs.Inner.Clean.{CleanFramesHaveALink}
use Rattle.afdx_port.specs.declared.Settings.{Settings}
use Rattle.afdx_port.specs.declared.Item.{Item}
use Rattle.afdx_port.specs.declared.Sent.{Sent}
use Rattle.afdx_port.specs.Service.{service, before, sent_of, reach}
use Rattle.afdx_port.specs.Admission.{admitted}
use Rattle.afdx_port.specs.Inner.Course.{SentIsOfItems}
use Rattle.afdx_isolation.specs.Table.{settings_of}
use Rattle.afdx_core.specs.declared.step.Row.{Row}
use Rattle.afdx_core.specs.Rows.{row_of, named, passes, copy_of, copies_by, copies, each_after, feed_of}
use Rattle.afdx_core.specs.Inner.Agreement.{VerdictsNameLinks}
use Rattle.afdx_core.specs.Merge.{Arrival}
use Rattle.afdx_session.specs.Output.{rows_of, written}
use Rattle.afdx_session.specs.Streams.{sent_up_to}
use Rattle.afdx_session.proofs.Numbered.{all_append, all_cond, admit_all_of}
use Rattle.afdx_paced.specs.Paced.{arrivals}
use Rattle.afdx_paced.specs.Laws.{NothingEndsBefore, NothingLeavesBefore}
use Rattle.afdx_paced.proofs.Numbered.{each_at}

-- ---- lists

-- what is at a place past the first of two lists is one of the second
second_at : {X : Type 0} (P : X → Type 0) (first second : List X) (k : ℕ) (x : X) → length first ≤ k → slice_get (first ++ second) k ≡ Some x → AllByRecursion P second → P x
second_at P [] [] k x le is all = absurd cc
second_at P [] (y ∷ second) zero x le is all = subst P (same_Some y x is) all.0
second_at P [] (y ∷ second) (suc k) x le is all = second_at P [] second k x (omega arith) is all.1
second_at P (y ∷ first) second zero x le is all = absurd (omega (arith, le))
second_at P (y ∷ first) second (suc k) x le is all = second_at P first second k x (omega (arith, le)) is all

-- ---- the sizes of what a port is offered

abbrev IsSized : Item → Type 0
IsSized x = 64 ≤ x.size

module _ (have_link : CleanFramesHaveALink) (verdicts : VerdictsNameLinks) (t : Content) (port : ℕ) where
  one_sized : (earlier : List Row) (a : Arrival) → AllByRecursion IsSized (copies t port earlier (row_of t a.port a.frame))
  one_sized earlier a = by_link (named t (verdict_of t a.port a.frame)) refl where
    by_link : (o : Option Link) → named t (verdict_of t a.port a.frame) ≡ o → AllByRecursion IsSized (copies_by o port earlier (row_of t a.port a.frame))
    by_link None is = tt
    by_link (Some l) is =
        let names = verdicts.named_link t (verdict_of t a.port a.frame) l is in
        let h = have_link t a.port a.frame l.id names.0 in
        let least = h.size_least in
        all_cond IsSized (passes l earlier (row_of t a.port a.frame) && leads_to port l) (copy_of l earlier (row_of t a.port a.frame) ∷ []) [] (omega (arith, least), tt) tt

  feed_sized : (earlier : List Row) (came : List Arrival) → AllByRecursion IsSized (each_after (copies t port) earlier (rows_of t came))
  feed_sized earlier [] = tt
  feed_sized earlier (a ∷ came) =
      let row = row_of t a.port a.frame in
      all_append IsSized (copies t port earlier row) (each_after (copies t port) (earlier ++ row ∷ []) (rows_of t came))
      (one_sized earlier a) (feed_sized (earlier ++ row ∷ []) came)

  whole_feed_sized : (came : List Arrival) → AllByRecursion IsSized (feed_of t port (rows_of t came))
  unfolding feed_of
  whole_feed_sized came = feed_sized [] came

-- ---- what leaves

cost_grows : (speed : Speed) (size : ℕ) → 64 ≤ size → cost_of speed 64 ≤ cost_of speed size
cost_grows Ten size le = omega (arith, le)
cost_grows Hundred size le = omega (arith, le)
cost_grows Thousand size le = omega (arith, le)

-- what is written at a place is what is sent there
written_at : (came : List Arrival) (sent : List Sent) (k : ℕ) (r : Record) → slice_get (map (written came) sent) k ≡ Some r → (x : Sent) × (slice_get sent k ≡ Some x) × (x.end ≡ r.stamp)
written_at came [] k r is = absurd cc
written_at came (x ∷ sent) zero r is = (x, refl, ap (λ (q : Record). q.stamp) (same_Some (written came x) r is))
written_at came (x ∷ sent) (suc k) r is = written_at came sent k r is

abbrev LeavesFrom : Settings → ℕ → Sent → Type 0
LeavesFrom s t x = t + cost_of s.speed x.item.size ≤ x.end

module _ (ends : NothingEndsBefore) (have_link : CleanFramesHaveALink) (verdicts : VerdictsNameLinks) (of_items : SentIsOfItems) (t : Content) (came : List Arrival) (p : PortRow) where
  sent_later : (h k : ℕ) (x : Sent) → length (sent_up_to t came (Some h) p) ≤ k → slice_get (sent_up_to t came None p) k ≡ Some x → h + t.latency + cost_of p.speed 64 ≤ x.end
  unfolding sent_up_to reach
  sent_later h k x le is =
      let s = settings_of t.latency p in
      let items = admitted s (feed_of t p.id (rows_of t came)) in
      let parts = ends s (reach s h) items in
      let at : slice_get (sent_of (before (reach s h) (service s 0 items)) ++ parts.0) k ≡ Some x = ap (λ (xs : List Sent). slice_get xs k) (sym parts.1) ∙ is in
      let late : LeavesFrom s (reach s h) x = second_at (LeavesFrom s (reach s h)) (sent_of (before (reach s h) (service s 0 items))) parts.0 k x le at parts.2 in
      let whole : All (λ (y : Sent). Contains items y.item) (sent_of (service s 0 items)) = of_items (record { settings = s; admitted = items; horizon = 0; finished = true }) in
      let among : Contains items x.item = each_at (λ (y : Sent). Contains items y.item) (sent_of (service s 0 items)) k x whole is in
      let sized = All-contains IsSized items x.item (All-from_recursion IsSized items
      (admit_all_of IsSized s [] (feed_of t p.id (rows_of t came)) tt (whole_feed_sized have_link verdicts t p.id came))) among in
      let cost = cost_grows p.speed x.item.size sized in
      omega (arith, late, cost)

pub nothing_leaves_before : NothingEndsBefore → CleanFramesHaveALink → VerdictsNameLinks → SentIsOfItems → NothingLeavesBefore
nothing_leaves_before ends have_link verdicts of_items v p h k r le is =
    let found = written_at (arrivals v) (sent_up_to v.table (arrivals v) None p) k r is in
    let few = length-map (sent_up_to v.table (arrivals v) (Some h) p) (written (arrivals v)) in
    subst (λ n. h + v.table.latency + cost_of p.speed 64 ≤ n) found.2
    (sent_later ends have_link verdicts of_items v.table (arrivals v) p h k found.0 (omega (arith, few, le)) found.1)

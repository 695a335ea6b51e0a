-- A run of which nothing goes out is one, and what was noted of it is what its ports sent.
use Rattle.std.proofs.Common.{Bool, ◌≡◌, ◌+◌, ◌≤◌, ◌==◌, ◌++◌, ℕ, suc, true, false, cond, List, [], ◌∷◌, map, find, drop, get_or, length, slice_get}
use Rattle.std.proofs.Common.{Some, None, refl, ap, sym, ◌∙◌, subst, arith, inl, inr}
use Rattle.std.specs.Prelude.{All}
use Rattle.std.specs.List.{AllZip}
use Rattle.std.proofs.lemmas.Bool.{cases_Bool}
use Rattle.std.proofs.lemmas.List.{length-append, length-map, append-nil}
use Rattle.std.proofs.lemmas.List.Elements.{All-contains}
use Rattle.std.proofs.lemmas.Option.{same_Some, slice_get_within}
use Rattle.afdx_table.specs.declared.rows.PortRow.{PortRow}
use Rattle.afdx_table.specs.Content.{Content, port_row}
use Rattle.afdx_port.specs.declared.Sent.{Sent}
use Rattle.afdx_port.specs.Service.{sent_of}
use Rattle.afdx_port.specs.Content.{done}
use Rattle.afdx_core.specs.declared.step.Row.{Row}
use Rattle.afdx_core.specs.Merge.{Capture, merged}
use Rattle.afdx_core.specs.State.{Run, State, port_after, sent_in}
use Rattle.afdx_count.specs.Tally.{Tally}
use Rattle.afdx_session.specs.Texts.{Text}
use Rattle.afdx_session.specs.Output.{rows_of, written}
use Rattle.afdx_session.specs.Streams.{sent_up_to}
use Rattle.afdx_session.specs.Outcome.{Results}
use Rattle.afdx_paced.specs.Paced.{Lane, Paced, arrivals, sends_up_to, out_up_to, lane_at, HasTakenAll}
use Rattle.afdx_paced.specs.Laws.{OutGoesOn, OutIsInOrder, SendsGoOn}
use Rattle.afdx_network_check.specs.Net.{Network, wire_to}
use Rattle.afdx_origins.specs.Origins.{Origins, sent_from}
use Rattle.afdx_network.specs.Runs.{Given, KeepTheirLines, IsUncheckedRunOf}
use Rattle.afdx_network.specs.Watched.{IsEnded, AreEnded, HaveSent}
use Rattle.afdx_network.specs.Inner.Sites.{Site, AreCarried, HasSent, HasLed, end_at}
use Rattle.afdx_network.specs.Inner.Noted.{NoneHasLeft, HasEnded, IsNotedAt, AreNoted}
use Rattle.afdx_network.proofs.AllLeft.{Ended, EndedEach, is_unchecked_run, there_at, zip_at, zip_long, at_among}
use Rattle.afdx_network.proofs.Answered.{led_of, all_led}
use Rattle.afdx_network.proofs.Answering.{all_places}
use Rattle.afdx_network.proofs.Carried.{AreWritten}
use Rattle.afdx_network.proofs.Lists.{zip_back}

ended_is : (net : Network) (given : Given) (k : ℕ) (s : Site) (r : Results) (texts : List Text) (both : Tally × State) → Ended net given k s r texts
    → HasEnded s both → IsEnded s.paced.table texts r both
ended_is net given k s r texts both e h = record {
  outcome = e.outcome;
  counts = h.counts ∙ sym e.led.counts;
  table = h.switch.table;
  rows = h.switch.rows ∙ ap (λ (read : List Capture). rows_of s.paced.table (merged read)) (sym e.read_is);
  is_run = h.switch.is_run;
  all = h.switch.all;
}

are_ended : (tables : List Content) (came : List (List Text)) (left : List Results) (switches : List (Tally × State)) → length came ≡ length tables → length left ≡ length tables
    → length switches ≡ length tables
    → ((k : ℕ) (t : Content) (texts : List Text) (r : Results) (both : Tally × State) → slice_get tables k ≡ Some t → slice_get came k ≡ Some texts → slice_get left k ≡ Some r
    → slice_get switches k ≡ Some both → IsEnded t texts r both)
    → AreEnded tables came left switches
are_ended [] [] [] [] a b c each = tt
are_ended [] [] [] (both ∷ switches) a b c each = absurd (omega (arith, c))
are_ended [] [] (r ∷ left) switches a b c each = absurd (omega (arith, b))
are_ended [] (texts ∷ came) left switches a b c each = absurd (omega (arith, a))
are_ended (t ∷ tables) [] left switches a b c each = absurd (omega (arith, a))
are_ended (t ∷ tables) (texts ∷ came) [] switches a b c each = absurd (omega (arith, b))
are_ended (t ∷ tables) (texts ∷ came) (r ∷ left) [] a b c each = absurd (omega (arith, c))
are_ended (t ∷ tables) (texts ∷ came) (r ∷ left) (both ∷ switches) a b c each = (
  each 0 t texts r both refl refl refl refl,
  are_ended tables came left switches (omega (arith, a)) (omega (arith, b)) (omega (arith, c)) (λ k u x q y d e f g. each (suc k) u x q y d e f g),
)

pub watched_run : OutGoesOn → OutIsInOrder → AreWritten → (net : Network) (given : Given) (sites : List Site) (switches : List (Tally × State)) → AreCarried net given sites
    → KeepTheirLines net given → All (λ w. wire_to net w.to ≡ Some w) net.layout.wires → All (HasSent None) sites → AllZip HasEnded sites switches
    → (came : List (List Text)) × ((left : List Results) × IsUncheckedRunOf net given came left × AreEnded net.tables came left switches)
watched_run on order written net given sites switches are lines one sent ended = (whole.0, (left, whole.1, all)) where
  left : List Results
  left = map led_of sites

  whole : (came : List (List Text)) × IsUncheckedRunOf net given came left × EndedEach net given sites left came × (length came ≡ length sites)
  whole = is_unchecked_run on order written net given sites left are lines one sent (all_led sites)

  all : AreEnded net.tables whole.0 left switches
  all = are_ended net.tables whole.0 left switches (whole.3 ∙ are.are.all) (sym (zip_long HasLed sites left (all_led sites)) ∙ are.are.all) (sym (zip_long HasEnded sites switches ended) ∙ are.are.all)
      (λ k t texts r both table came_is left_is both_is.
      let site = there_at sites k (let lt = slice_get_within net.tables k t table in let same = are.are.all in omega (arith, lt, same)) in
      let here = whole.2 k site.0 site.1 in
      let is = are.are.each k site.0 site.1 in
      let end = zip_at HasEnded sites switches ended k site.0 site.1 in
      let same_table : site.0.paced.table ≡ t = same_Some site.0.paced.table t (sym is.table_is ∙ table) in
      let same_texts : here.0 ≡ texts = same_Some here.0 texts (sym here.1 ∙ came_is) in
      let same_left : here.2.0 ≡ r = same_Some here.2.0 r (sym here.2.1 ∙ left_is) in
      let same_both : end.0 ≡ both = same_Some end.0 both (sym end.1 ∙ both_is) in
      let found = ended_is net given k site.0 here.2.0 here.0 end.0 here.2.2 end.2 in
      subst (λ (c : Content). IsEnded c texts r both) same_table
      (subst (λ (b : Tally × State). IsEnded site.0.paced.table texts r b) same_both
      (subst (λ (q : Results). IsEnded site.0.paced.table texts q end.0) same_left
      (subst (λ (ts : List Text). IsEnded site.0.paced.table ts here.2.0 end.0) same_texts found))))

-- ---- what was sent

-- a finished switch sent all that is sent of what came in
sent_all : (v : Paced) (r : Run) (p : PortRow) → HasTakenAll v r → sent_in r (Some p) ≡ sends_up_to v None p
unfolding sent_up_to
sent_all v r p taken =
    ap (λ b. sent_of (done (port_after r.table r.rows r.latest b p))) taken.all
    ∙ ap (λ (c : Content). sent_of (done (port_after c r.rows r.latest true p))) taken.table
    ∙ ap (λ (rows : List Row). sent_of (done (port_after v.table rows r.latest true p))) taken.rows

no_more : {X : Type 0} (mine rest more : List X) (all : List X) → all ≡ (mine ++ rest) ++ more → length all ≤ length mine → all ≡ mine
no_more mine rest more all is few =
    let whole = ap length is in
    let outer = length-append (mine ++ rest) more in
    let inner = length-append mine rest in
    is ∙ ap (λ xs. (mine ++ rest) ++ xs) (nothing more (omega (arith, whole, outer, inner, few))) ∙ append-nil (mine ++ rest)
    ∙ ap (λ xs. mine ++ xs) (nothing rest (omega (arith, whole, outer, inner, few))) ∙ append-nil mine where
      nothing : {Y : Type 0} (xs : List Y) → length xs ≤ 0 → xs ≡ []
      nothing [] le = refl
      nothing (x ∷ xs) le = absurd (omega (arith, le))

-- what was noted of a port is all that it sent
noted_all : SendsGoOn → (o : Origins) (switch : ℕ) (s : Site) (r : Run) (p : PortRow) (l : Lane) → IsNotedAt o switch s.paced p l
    → length (out_up_to s.paced None p) ≤ length l.left → HasTakenAll s.paced r
    → sent_from o.sent (end_at switch p.id) ≡ sent_in r (Some p)
noted_all on o switch s r p l noted few taken =
    let mine = sent_from o.sent (end_at switch p.id) in
    let more = on.in_the_end s.paced s.paced.reached p in
    let long = length-map (sends_up_to s.paced None p) (written (arrivals s.paced)) in
    let many = noted.many in
    let all : sends_up_to s.paced None p ≡ mine
    = no_more mine noted.rest more.0 (sends_up_to s.paced None p) (more.1 ∙ ap (λ (xs : List Sent). xs ++ more.0) noted.first) (omega (arith, few, long, many)) in
    sym (sent_all s.paced r p taken ∙ all)

-- a port of a switch has a lane
lane_is_there : (s : Site) (p : PortRow) → map (λ (l : Lane). l.port) s.paced.lanes ≡ map (λ (q : PortRow). q.id) s.paced.table.ports → port_row s.paced.table p.id ≡ Some p
    → (l : Lane) × (lane_at s.paced p.id ≡ Some l)
lane_is_there s p same row = by s.paced.lanes s.paced.table.ports same row where
  by : (lanes : List Lane) (ports : List PortRow) → map (λ (l : Lane). l.port) lanes ≡ map (λ (q : PortRow). q.id) ports → find (λ (q : PortRow). q.id == p.id) ports ≡ Some p
      → (l : Lane) × (find (λ (m : Lane). m.port == p.id) lanes ≡ Some l)
  by [] [] same row = absurd cc
  by [] (q ∷ ports) same row = absurd cc
  by (l ∷ lanes) [] same row = absurd cc
  by (l ∷ lanes) (q ∷ ports) same row = elim (cases_Bool (l.port == p.id)) [
    | inl here ↦ (l, ap (λ b. cond b (Some l) (find (λ (m : Lane). m.port == p.id) lanes)) here)
    | inr other ↦
        let number : l.port ≡ q.id = ap (λ (ns : List ℕ). get_or ns 0 0) same in
        let next : (q.id == p.id) ≡ false = ap (λ n. n == p.id) (sym number) ∙ other in
        let rest = by lanes ports (ap (drop 1) same) (sym (ap (λ b. cond b (Some q) (find (λ (x : PortRow). x.id == p.id) ports)) next) ∙ row) in
        (rest.0, ap (λ b. cond b (Some l) (find (λ (m : Lane). m.port == p.id) lanes)) other ∙ rest.1)
  ]

pub have_sent : SendsGoOn → (net : Network) (keeps : Bool) (given : Given) (sites : List Site) (switches : List (Tally × State)) (o : Origins) → AreCarried net given sites → All (HasSent None) sites
    → AllZip HasEnded sites switches → AreNoted net keeps sites (Some o) → HaveSent net switches o
have_sent on net keeps given sites switches o are sent ended noted = record {
  network = noted.network;
  each = λ n both p both_is row.
      let long = zip_long HasEnded sites switches ended in
      let site = there_at sites n (let lt = slice_get_within switches n both both_is in omega (arith, lt, long)) in
      let end = zip_at HasEnded sites switches ended n site.0 site.1 in
      let same : end.0 ≡ both = same_Some end.0 both (sym end.1 ∙ both_is) in
      let taken : HasTakenAll site.0.paced both.1.run = (subst (HasEnded site.0) same end.2).switch in
      let is = are.are.each n site.0 site.1 in
      let row_there : port_row site.0.paced.table p.id ≡ Some p = ap (λ (t : Content). port_row t p.id) (sym taken.table) ∙ row in
      let lane = lane_is_there site.0 p is.running.ports row_there in
      noted_all on o n site.0 both.1.run p lane.0 (noted.each n site.0 site.1 p.id p lane.0 row_there lane.1)
      (All-contains (HasSent None) sites site.0 sent (at_among sites n site.0 site.1) p.id p lane.0 row_there lane.1) taken;
}

-- all keep their lists, or none does
pub are_kept : (net : Network) (keeps : Bool) (sites : List Site) (switches : List (Tally × State)) (o : Origins) → AllZip HasEnded sites switches → AreNoted net keeps sites (Some o)
    → All (λ (both : Tally × State). both.1.keeps ≡ keeps) switches
are_kept net keeps sites switches o ended noted = all_places (λ (both : Tally × State). both.1.keeps ≡ keeps) switches (λ n both at.
    let was = zip_back HasEnded sites switches ended n both at in was.2.kept ∙ noted.kept n was.0 was.1)

-- before anything has left nothing has to be noted
pub none_noted : (net : Network) (keeps : Bool) (sites : List Site) → All (NoneHasLeft keeps) sites → AreNoted net keeps sites (Some (record { net = net; sent = [] }))
none_noted net keeps sites none = record {
  network = refl;
  kept = λ n s at. (All-contains (NoneHasLeft keeps) sites s none (at_among sites n s at)).kept;
  each = λ n s at port p l row found. record {
    rest = sends_up_to s.paced (Some s.paced.reached) p;
    first = refl;
    many = ap length (sym ((All-contains (NoneHasLeft keeps) sites s none (at_among sites n s at)).each port l found));
  };
}

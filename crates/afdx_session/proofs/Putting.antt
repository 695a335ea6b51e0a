-- What has left goes out to the lanes, and from there to the files, in parts.
use Rattle.std.proofs.Common.{◌≡◌, ◌≢◌, ◌⊎◌, ℕ, zero, suc, ◌+◌, ◌<◌, ◌≤◌, ◌^◌, ◌==◌, List, [], ◌∷◌, ◌++◌, map, length, drop, set, slice_get, Option, Some, None, refl, ap, sym, ◌∙◌, arith}
use Rattle.std.proofs.Common.{subst, append_assoc}
use Rattle.std.proofs.Common.{inl, inr, length-set, Vec}
use Rattle.std.specs.List.{flat_map, position}
use Rattle.std.specs.Io.KnownBytes.{Appends}
use Rattle.std.proofs.KnownBytes.{Appends-nil, Appends-trans}
use Rattle.std.proofs.lemmas.Bool.{cases_lt}
use Rattle.std.proofs.lemmas.List.{length-append, length-map}
use Rattle.std.proofs.lemmas.Option.{same_Some, slice_get_within}
use Rattle.afdx_pcap.specs.Record.{Record}
use Rattle.afdx_pcap.specs.Text.{record_text}
use Rattle.afdx_table.specs.declared.rows.PortRow.{PortRow}
use Rattle.afdx_table.specs.Content.{Content}
use Rattle.afdx_port.specs.declared.Sent.{Sent}
use Rattle.afdx_port.specs.Inner.Order.{ReachesInOrder}
use Rattle.afdx_port.specs.Inner.Events.{SentGoesOn}
use Rattle.afdx_core.specs.State.{State, place_of, next_by}
use Rattle.afdx_core.specs.Held.{IsHanded, IsNext}
use Rattle.afdx_core.specs.Merge.{Arrival}
use Rattle.afdx_core.specs.Inner.Merge.{ByStampIsOrdered}
use Rattle.afdx_count.specs.Tally.{Tally}
use Rattle.afdx_session.specs.declared.lane.Lane.{Lane}
use Rattle.afdx_session.specs.declared.machine.Machine.{Machine}
use Rattle.afdx_session.specs.Output.{written}
use Rattle.afdx_session.specs.Inner.Replay.{HasBytesOf, left_at}
use Rattle.afdx_session.specs.Inner.Settled.{IsGiven, IsAt, HandsOut, Draws}
use Rattle.afdx_session.specs.Inner.Kept.{AreOfTable, text_up_to, AreOut, Every, IsGoing, HasCome, IsRunning, IsTouched, AreTouched, IsAlike, AreAlike, IsDrawnOff, AreDrawnOff, IsOfSameTable}
use Rattle.afdx_session.specs.Inner.Files.{HandsOver}
use Rattle.afdx_session.specs.Inner.Parts.{CanTake, DrainsInto, HasPut, HavePut, RunsInto}
use Rattle.afdx_session.proofs.Bounded.{text_bound_at}
use Rattle.afdx_session.proofs.Drawing.{draws_start, draws_on, drained_on as port_drained_on, starts_drained, long_behind}
use Rattle.afdx_session.proofs.Gone.{AreDrained, drained_none, drained_all, drained_on, hands_none, hands_on, hands_at, off_none, off_on, off_ports, out_here, place_here, port_of_lane}
use Rattle.afdx_session.proofs.Gone.{runs_with, with_out}
use Rattle.afdx_session.proofs.Intakes.{still_of_table}
use Rattle.afdx_session.proofs.Parts.{at_set}
use Rattle.afdx_session.proofs.Rounds.{same_both}

-- ---- one port

alike_none : {Z : Type 0} (l : Lane Z) → IsAlike l l
alike_none l = record { port = refl; reader = refl; ended = refl; undone = refl; closed = refl; ready = refl }

pub into_none : {F Z : Type 0} (contents : F → Option (List ℕ)) (s : State) (l : Lane Z) (f : F) → DrainsInto contents s l f s l f
into_none contents s l f = record {
  drained = starts_drained l.port s;
  off = record { alike = alike_none l; last = refl; waiting = refl };
  bytes = [];
  taken = plus_none l.taken;
  draws = λ given place at long has. draws_start given l.port place s l.out.items;
  appended = Appends-nil (contents f);
} where
  plus_none : (n : ℕ) → n ≡ n + length {A = ℕ} []
  plus_none n = omega arith

-- one more frame came out to the lane
pub record TakesOut {Z : Type 0} (port : ℕ) (s : State) (l : Lane Z) (next : State) (n : Lane Z) : Type 0 where
  pub out : Record
  pub place : ℕ
  pub sent : Sent
  pub handed : IsHanded s next port out place sent
  pub text : n.out.items ≡ l.out.items ++ record_text out
  pub off : IsDrawnOff l n
  pub taken : n.taken ≡ l.taken

pub takes_out : {Z : Type 0} (port : ℕ) (s next : State) (l : Lane Z) (out : Vec ℕ Z) → l.port ≡ port
    → (r : Record) × IsNext s next l.port (Some r) × (out.items ≡ l.out.items ++ record_text r) → TakesOut port s l next (with_out out l)
takes_out port s next l out same more = record {
  out = more.0;
  place = more.1.0;
  sent = more.1.1;
  handed = subst (λ n. IsHanded s next n more.0 more.1.0 more.1.1) same more.1.2;
  text = more.2;
  off = record { alike = record { port = refl; reader = refl; ended = refl; undone = refl; closed = refl; ready = refl }; last = refl; waiting = refl };
  taken = refl;
}

into_text : {Z : Type 0} (given : List Arrival) (port place : ℕ) (start now next : State) (before bytes : List ℕ) (l n : Lane Z) (takes : TakesOut port now l next n)
    → length start.run.handed ≡ length start.run.table.ports → place_of start.run port ≡ Some place → length given ≡ length start.run.rows → HasBytesOf given start
    → Draws given port place start now before (bytes ++ l.out.items) → Draws given port place start next before (bytes ++ n.out.items)
into_text given port place start now next before bytes l n takes handed at long has was =
    draws_on given port place start now next before (bytes ++ l.out.items) (bytes ++ n.out.items) takes.out takes.place takes.sent at handed long has was takes.handed
    (ap (λ out. bytes ++ out) takes.text ∙ sym (append_assoc bytes l.out.items (record_text takes.out)))

-- so it is not more than can be counted
pub into_bound : {F Z : Type 0} (contents : F → Option (List ℕ)) (start now next : State) (first l n : Lane Z) (f g : F) (given : List Arrival) → CanTake given start first
    → length start.run.handed ≡ length start.run.table.ports → DrainsInto contents start first f now l g → TakesOut first.port now l next n → n.taken + length n.out.items < 2 ^ 128
into_bound contents start now next first l n f g given can handed was takes =
    let port = first.port in
    let at : place_of start.run port ≡ Some takes.place = ap (λ (c : Content). position (λ (p : PortRow). p.id == port) c.ports) (sym was.drained.table) ∙ takes.handed.at in
    let draws = into_text given port takes.place start now next first.out.items was.bytes l n takes handed at can.long can.frames (was.draws given takes.place at can.long can.frames) in
    let left = λ (s : State). flat_map record_text (map (written given) (left_at s.run (Some takes.place))) in
    let whole = ap length draws.rest in
    let one = length-append first.out.items (left start) in
    let two = length-append (was.bytes ++ n.out.items) (left next) in
    let both = length-append was.bytes n.out.items in
    let bound = can.bound takes.place at in
    let taken = takes.taken ∙ was.taken in
    omega (arith, whole, one, two, both, bound, taken)

-- and what is a part goes to the file
pub into_one : {F Z : Type 0} (contents : F → Option (List ℕ)) (start now next : State) (first l n m : Lane Z) (f g e : F) (bytes : List ℕ)
    → length start.run.handed ≡ length start.run.table.ports → DrainsInto contents start first f now l g → TakesOut first.port now l next n → HandsOver bytes n m
    → Appends (contents g) (contents e) bytes → DrainsInto contents start first f next m e
into_one contents start now next first l n m f g e bytes handed was takes hands appends = record {
  drained = port_drained_on first.port start now next takes.out takes.place takes.sent handed was.drained takes.handed;
  off = record {
    alike = record {
      port = hands.port ∙ takes.off.alike.port ∙ was.off.alike.port;
      reader = hands.reader ∙ takes.off.alike.reader ∙ was.off.alike.reader;
      ended = hands.ended ∙ takes.off.alike.ended ∙ was.off.alike.ended;
      undone = hands.undone ∙ takes.off.alike.undone ∙ was.off.alike.undone;
      closed = hands.closed ∙ takes.off.alike.closed ∙ was.off.alike.closed;
      ready = hands.ready ∙ takes.off.alike.ready ∙ was.off.alike.ready;
    };
    last = hands.last ∙ takes.off.last ∙ was.off.last;
    waiting = hands.waiting ∙ takes.off.waiting ∙ was.off.waiting;
  };
  bytes = was.bytes ++ bytes;
  taken = let a = hands.taken in let b = takes.taken in let c = was.taken in let d = length-append was.bytes bytes in omega (arith, a, b, c, d);
  draws = λ given place at long has.
      subst (Draws given first.port place start next first.out.items) (ap (λ out. was.bytes ++ out) hands.out ∙ sym (append_assoc was.bytes bytes m.out.items))
      (into_text given first.port place start now next first.out.items was.bytes l n takes handed at long has (was.draws given place at long has));
  appended = Appends-trans (contents f) (contents g) (contents e) was.bytes bytes was.appended appends;
}

-- where none is left nothing changes
pub into_end : {F Z : Type 0} (contents : F → Option (List ℕ)) (start now next : State) (first l : Lane Z) (out : Vec ℕ Z) (f g : F) → next ≡ now → out.items ≡ l.out.items
    → DrainsInto contents start first f now l g → DrainsInto contents start first f next (with_out out l) g
into_end contents start now next first l out f g same items was = subst (λ (s : State). DrainsInto contents start first f s (with_out out l) g) (sym same) (record {
  drained = was.drained;
  off = record {
    alike = record {
      port = was.off.alike.port;
      reader = was.off.alike.reader;
      ended = was.off.alike.ended;
      undone = was.off.alike.undone;
      closed = was.off.alike.closed;
      ready = was.off.alike.ready;
    };
    last = was.off.last;
    waiting = was.off.waiting;
  };
  bytes = was.bytes;
  taken = was.taken;
  draws = λ given place at long has. subst (λ xs. Draws given first.port place start now first.out.items (was.bytes ++ xs)) (sym items) (was.draws given place at long has);
  appended = was.appended;
})

-- ---- one port after the other

-- those before a place have put what has left, the others are as they were
pub record ArePutUpTo {F Z : Type 0} (contents : F → Option (List ℕ)) (t : Content) (given : List Arrival) (h k : ℕ) (now : State) (lanes new : List (Lane Z)) (files written : List F)
    (n : ℕ) : Type 0 where
  pub drained : AreDrained t given h k now new n
  pub put : (place : ℕ) (p : PortRow) (l m : Lane Z) (f g : F) → place < n → slice_get t.ports place ≡ Some p → slice_get lanes place ≡ Some l → slice_get new place ≡ Some m
      → slice_get files place ≡ Some f → slice_get written place ≡ Some g → HasPut contents t given k p l m f g

pub record PutsUpTo {F Z : Type 0} (contents : F → Option (List ℕ)) (start : State) (lanes : List (Lane Z)) (files : List F) (now : State) (new : List (Lane Z)) (written : List F)
    (n : ℕ) : Type 0 where
  pub hands : HandsOut start now
  pub off : AreDrawnOff lanes new
  pub long : length written ≡ length files
  pub rest : (place : ℕ) → n ≤ place → slice_get new place ≡ slice_get lanes place
  pub rest_files : (place : ℕ) → n ≤ place → slice_get written place ≡ slice_get files place
  pub all : (t : Content) (given : List Arrival) (h : ℕ) → AreOfTable t lanes → IsGiven t given start → h ≤ start.run.latest → AreOut t given h start lanes Every
      → ArePutUpTo contents t given h start.run.latest now lanes new files written n

pub puts_up_none : {F Z : Type 0} (contents : F → Option (List ℕ)) (start : State) (lanes : List (Lane Z)) (files : List F) → PutsUpTo contents start lanes files start lanes files 0
puts_up_none contents start lanes files = record {
  hands = hands_none start;
  off = off_none lanes;
  long = refl;
  rest = λ place le. refl;
  rest_files = λ place le. refl;
  all = λ t given h of is le outs. record {
    drained = drained_none t given h start.run.latest start lanes outs;
    put = λ place p l m f g lt is_port is_l is_m is_f is_g. absurd (omega (arith, lt));
  };
}

of_now : {F Z : Type 0} (contents : F → Option (List ℕ)) (start : State) (lanes : List (Lane Z)) (files : List F) (now : State) (new : List (Lane Z)) (written : List F) (n : ℕ) (t : Content)
    → PutsUpTo contents start lanes files now new written n → AreOfTable t lanes → AreOfTable t new
of_now contents start lanes files now new written n t was of = still_of_table t lanes new (off_ports lanes new was.off) of

-- the next one can take what is left of it
pub can_take : {F Z : Type 0} → ByStampIsOrdered → SentGoesOn → ReachesInOrder → (contents : F → Option (List ℕ)) (m : Machine Z) (files : List F) (now : State) (new : List (Lane Z)) (after : List F)
    (n : ℕ) (l : Lane Z) → AreOfTable m.switch.run.table m.lanes.items → IsGoing m.switch.run.table m.lanes.items m.switch m.counts
    → PutsUpTo contents m.switch m.lanes.items files now new after n → slice_get new n ≡ Some l → (given : List Arrival) × CanTake given now l
can_take ordered goes_on reaches contents m files now new after n l of going was is_l = (
  going.given,
  record {
    long = sym (ap length at.is_given.rows ∙ length-map going.given _);
    frames = at.is_given.frames;
    bound = λ place is_place.
        let same : n ≡ place = same_Some n place (sym (place_here t going.given k now new n l of_new at is_l) ∙ is_place) in
        subst (λ j. l.taken + length l.out.items + length (flat_map record_text (map (written going.given) (left_at now.run (Some j)))) < 2 ^ 128) same here;
  },
) where
  t : Content
  t = m.switch.run.table

  k : ℕ
  k = m.switch.run.latest

  of_new : AreOfTable t new
  of_new = of_now contents m.switch m.lanes.items files now new after n t was of

  at : IsAt t going.given k now
  at = hands_at t going.given k m.switch now (record { is_given = going.is_given; latest = refl }) was.hands

  here : l.taken + length l.out.items + length (flat_map record_text (map (written going.given) (left_at now.run (Some n)))) < 2 ^ 128
  here =
      let row = port_of_lane t.ports new n l of_new.ports is_l in
      let out = (was.all t going.given going.since of going.is_given going.come going.outs).drained.rest n row.0 l (omega arith) row.1 is_l in
      let long = long_behind goes_on reaches t going.given going.since k now row.0 n l.taken l.out.items at going.come row.1 out in
      let bound = text_bound_at ordered t m.lanes.items m.switch m.counts going k row.0 in
      omega (arith, long, bound)

-- what comes behind a place that is set stays
set_beyond : {X : Type 0} (xs : List X) (n place : ℕ) (x : X) → n < place → slice_get (set xs n x) place ≡ slice_get xs place
set_beyond [] n place x lt = refl
set_beyond (y ∷ xs) zero zero x lt = absurd (omega (arith, lt))
set_beyond (y ∷ xs) zero (suc place) x lt = refl
set_beyond (y ∷ xs) (suc n) zero x lt = absurd (omega (arith, lt))
set_beyond (y ∷ xs) (suc n) (suc place) x lt = set_beyond xs n place x (omega (arith, lt))

-- it puts what has left
pub puts_up_one : {F Z : Type 0} → SentGoesOn → ReachesInOrder → (contents : F → Option (List ℕ)) (start now next : State) (lanes new : List (Lane Z)) (files written : List F) (n : ℕ)
    (old drained : Lane Z) (f g : F) → slice_get new n ≡ Some old → slice_get written n ≡ Some f → DrainsInto contents now old f next drained g
    → next_by next.run (place_of next.run old.port) ≡ None → PutsUpTo contents start lanes files now new written n
    → PutsUpTo contents start lanes files next (set new n drained) (set written n g) (n + 1)
puts_up_one {F} {Z} goes_on reaches contents start now next lanes new files written n old drained f g at is_f into none was = record {
  hands = hands_on start now next old.port was.hands into.drained;
  off = off_on lanes new n old drained was.off was_there into.off;
  long = length-set written n g ∙ was.long;
  rest = λ place le. set_beyond new n place drained (omega (arith, le)) ∙ was.rest place (omega (arith, le));
  rest_files = λ place le. set_beyond written n place g (omega (arith, le)) ∙ was.rest_files place (omega (arith, le));
  all = λ t given h of is le outs.
      let puts = was.all t given h of is le outs in
      let there = hands_at t given start.run.latest start now (record { is_given = is; latest = refl }) was.hands in
      let of_new = of_now contents start lanes files now new written n t was of in
      record {
        drained = drained_on goes_on reaches t given h start.run.latest now next new n old drained into.bytes of_new there le at into.taken into.drained (into.draws given) none puts.drained;
        put = λ place p l m e d lt is_port is_l is_m is_e is_d.
            by t given h puts of_new there le place p l m e d lt is_port is_l is_e (at_set new n place drained m is_m) (at_set written n place g d is_d);
      };
} where
  was_there : slice_get lanes n ≡ Some old
  was_there = sym (was.rest n (omega arith)) ∙ at

  by : (t : Content) (given : List Arrival) (h : ℕ) → ArePutUpTo contents t given h start.run.latest now lanes new files written n → AreOfTable t new → IsAt t given start.run.latest now
      → h ≤ start.run.latest → (place : ℕ) (p : PortRow) (l m : Lane Z) (e d : F) → place < n + 1 → slice_get t.ports place ≡ Some p → slice_get lanes place ≡ Some l
      → slice_get files place ≡ Some e → ((place ≡ n) × (m ≡ drained)) ⊎ ((place ≢ n) × (slice_get new place ≡ Some m)) → ((place ≡ n) × (d ≡ g)) ⊎ ((place ≢ n) × (slice_get written place ≡ Some d))
      → HasPut contents t given start.run.latest p l m e d
  by t given h puts of_new there le place p l m e d lt is_port is_l is_e (inl one) (inr other) = absurd (other.0 one.0)
  by t given h puts of_new there le place p l m e d lt is_port is_l is_e (inr one) (inl other) = absurd (one.0 other.0)
  by t given h puts of_new there le place p l m e d lt is_port is_l is_e (inr one) (inr other) =
      let differ = one.0 in
      let before : place < n = elim (cases_lt place n) [
        | inl less ↦ less
        | inr more ↦ absurd (differ (omega (arith, lt, more)))
      ] in
      puts.put place p l m e d before is_port is_l one.1 is_e other.1
  by t given h puts of_new there le place p l m e d lt is_port is_l is_e (inl one) (inl other) =
      let lane : l ≡ old = same_Some l old (sym is_l ∙ ap (slice_get lanes) one.0 ∙ was_there) in
      let file : e ≡ f = same_Some e f (sym is_e ∙ ap (slice_get files) one.0 ∙ sym (was.rest_files n (omega arith)) ∙ is_f) in
      let out = out_here goes_on reaches t given h start.run.latest now next new n old (into.bytes ++ drained.out.items) of_new there le at (into.draws given) none puts.drained.rest p
      (ap (slice_get t.ports) (sym one.0) ∙ is_port) in
      subst (λ (x : Lane Z). HasPut contents t given start.run.latest p x m e d) (sym lane)
      (subst (λ (x : Lane Z). HasPut contents t given start.run.latest p old x e d) (sym one.1)
      (subst (λ (x : F). HasPut contents t given start.run.latest p old drained x d) (sym file)
      (subst (λ (x : F). HasPut contents t given start.run.latest p old drained f x) (sym other.1)
      (record { bytes = into.bytes; taken = into.taken; first = out.left; appended = into.appended }))))

off_alike : {Z : Type 0} (old new : List (Lane Z)) → AreDrawnOff old new → AreAlike old new
off_alike [] [] off = tt
off_alike [] (n ∷ new) off = absurd off
off_alike (l ∷ old) [] off = absurd off
off_alike (l ∷ old) (n ∷ new) off = (off.0.alike, off_alike old new off.1)

-- all ports have put what has left
pub puts_up_all : {F Z : Type 0} (contents : F → Option (List ℕ)) (m next : Machine Z) (files written : List F) (n : ℕ) → AreOfTable m.switch.run.table m.lanes.items
    → HasCome m.switch.run.table m.lanes.items m.switch m.counts → length next.lanes.items ≤ n → next.counts ≡ m.counts
    → PutsUpTo contents m.switch m.lanes.items files next.switch next.lanes.items written n → RunsInto contents m files next written
puts_up_all {F} {Z} contents m next files written n of come most counts was = record {
  same = record { table = was.hands.table; accepted = was.hands.accepted; keeps = was.hands.keeps; handed = was.hands.handed };
  alike = off_alike m.lanes.items next.lanes.items was.off;
  running = runs.0;
  put = runs.1;
} where
  t : Content
  t = m.switch.run.table

  given : List Arrival
  given = come.going.given

  k : ℕ
  k = m.switch.run.latest

  all : ArePutUpTo contents t given come.going.since k next.switch m.lanes.items next.lanes.items files written n
  all = was.all t given come.going.since of come.going.is_given come.going.come come.going.outs

  put : HavePut contents t given k m.lanes.items next.lanes.items files written
  put = record {
    long = was.long;
    each = λ place p l x f g is_port is_l is_x is_f is_g.
        all.put place p l x f g (let lt = slice_get_within next.lanes.items place x is_x in omega (arith, lt, most)) is_port is_l is_x is_f is_g;
  }

  ran : (run : IsRunning t next.lanes.items next.switch m.counts) × (run.going.given ≡ given) × (run.going.since ≡ k)
  ran = runs_with t m.lanes.items next.lanes.items m.switch next.switch m.counts come was.off was.hands (drained_all t given come.going.since k next.switch next.lanes.items n most all.drained)

  here : (run : IsRunning t next.lanes.items next.switch m.counts) × HavePut contents t run.going.given run.going.since m.lanes.items next.lanes.items files written
  here = (
    ran.0,
    subst (λ (xs : List Arrival). HavePut contents t xs ran.0.going.since m.lanes.items next.lanes.items files written) (sym ran.1)
        (subst (λ h. HavePut contents t given h m.lanes.items next.lanes.items files written) (sym ran.2) put),
  )

  runs : (run : IsRunning next.switch.run.table next.lanes.items next.switch next.counts)
      × HavePut contents next.switch.run.table run.going.given run.going.since m.lanes.items next.lanes.items files written
  runs =
      subst (λ (c : Content). (run : IsRunning c next.lanes.items next.switch next.counts) × HavePut contents c run.going.given run.going.since m.lanes.items next.lanes.items files written)
      (sym was.hands.table)
      (subst (λ (c : Tally). (run : IsRunning t next.lanes.items next.switch c) × HavePut contents t run.going.given run.going.since m.lanes.items next.lanes.items files written) (sym counts)
      here)

-- ---- since a call began

touched_at : {Z : Type 0} (old new : List (Lane Z)) (k : ℕ) (l : Lane Z) → AreTouched old new → slice_get old k ≡ Some l → (n : Lane Z) × (slice_get new k ≡ Some n) × IsTouched l n
touched_at [] new k l touched at = absurd cc
touched_at (m ∷ old) [] k l touched at = absurd touched
touched_at {Z = Z} (m ∷ old) (n ∷ new) zero l touched at = (n, refl, subst (λ (x : Lane Z). IsTouched x n) (same_Some m l at) touched.0)
touched_at (m ∷ old) (n ∷ new) (suc k) l touched at = touched_at old new k l touched.1 at

pub touched_length : {Z : Type 0} (old new : List (Lane Z)) → AreTouched old new → length new ≡ length old
touched_length [] [] touched = refl
touched_length [] (n ∷ new) touched = absurd touched
touched_length (l ∷ old) [] touched = absurd touched
touched_length (l ∷ old) (n ∷ new) touched = ap suc (touched_length old new touched.1)

touched_alike : {Z : Type 0} (a b c : List (Lane Z)) → AreTouched a b → AreAlike b c → AreAlike a c
touched_alike [] [] c touched alike = alike
touched_alike [] (m ∷ b) c touched alike = absurd touched
touched_alike (l ∷ a) [] c touched alike = absurd touched
touched_alike (l ∷ a) (m ∷ b) [] touched alike = absurd alike
touched_alike (l ∷ a) (m ∷ b) (n ∷ c) touched alike = (one touched.0 alike.0, touched_alike a b c touched.1 alike.1) where
  one : IsTouched l m → IsAlike m n → IsAlike l n
  one x y = record {
    port = y.port ∙ x.port;
    reader = y.reader ∙ x.reader;
    ended = y.ended ∙ x.ended;
    undone = y.undone ∙ x.undone;
    closed = y.closed ∙ x.closed;
    ready = y.ready ∙ x.ready;
  }

-- a lane that has taken as much as another
pub same_put : {F Z : Type 0} (contents : F → Option (List ℕ)) (t : Content) (given : List Arrival) (h : ℕ) (p : PortRow) (l m n : Lane Z) (f g : F) → m.taken ≡ l.taken
    → HasPut contents t given h p m n f g → HasPut contents t given h p l n f g
same_put contents t given h p l m n f g same put = record {
  bytes = put.bytes;
  taken = put.taken ∙ ap (λ k. k + length put.bytes) same;
  first = put.first ∙ ap (λ k. drop k (text_up_to t given h p)) same;
  appended = put.appended;
}

pub runs_since : {F Z : Type 0} (contents : F → Option (List ℕ)) (old mid m : Machine Z) (files now : List F) → AreTouched old.lanes.items mid.lanes.items → IsOfSameTable old.switch mid.switch
    → RunsInto contents mid files m now → RunsInto contents old files m now
runs_since contents old mid m files now touched same runs = record {
  same = same_both old.switch mid.switch m.switch same runs.same;
  alike = touched_alike old.lanes.items mid.lanes.items m.lanes.items touched runs.alike;
  running = runs.running;
  put = record {
    long = runs.put.long;
    each = λ place p l n f g is_port is_l is_n is_f is_g.
        let x = touched_at old.lanes.items mid.lanes.items place l touched is_l in
        same_put contents m.switch.run.table runs.running.going.given runs.running.going.since p l x.0 n f g x.2.taken (runs.put.each place p x.0 n f g is_port x.1 is_n is_f is_g);
  };
}

-- A run goes on from window to window, while what is given comes in.
use Rattle.std.proofs.Common.{◌≡◌, ◌<◌, ◌≤◌, ◌+◌, ◌*◌, ℕ, zero, suc, max, min, true, false, List, [], ◌∷◌, ◌++◌, length, slice_get, Option, Some, None, refl, ap, sym, ◌∙◌, arith, subst, append_assoc}
use Rattle.std.specs.Prelude.{All, Contains, flat_map, option_and_then, option_to_list, is_some}
use Rattle.std.specs.Option.{option_map}
use Rattle.std.specs.List.{AllByRecursion, AllZip}
use Rattle.std.specs.Io.KnownBytes.{Appends}
use Rattle.std.proofs.KnownBytes.{Appends-nil}
use Rattle.std.proofs.lemmas.Bool.{le-ltb, ltb-false}
use Rattle.std.proofs.lemmas.List.{append-nil, length-append, length-map}
use Rattle.std.proofs.lemmas.List.Elements.{All-from_recursion, All-weaker}
use Rattle.std.proofs.lemmas.Option.{same_Some, slice_get-map, slice_get_read, slice_get_within}
use Rattle.afdx_units.specs.Time.{second, last_second, last_instant, earlier_of, is_before}
use Rattle.afdx_pcap.specs.Record.{Record}
use Rattle.afdx_pcap.proofs.Early.{first_early}
use Rattle.afdx_pairing.specs.Events.{Numbered}
use Rattle.afdx_load.specs.Accepted.{IsAccepted}
use Rattle.afdx_core.specs.Inner.Merge.{ByStampIsOrdered}
use Rattle.afdx_merging.specs.declared.clock.Clock.{Clock}
use Rattle.afdx_merging.specs.declared.lane.Lane.{Lane as Reading}
use Rattle.afdx_merging.specs.Merge.{Arrival, numbered_from, same_clock}
use Rattle.afdx_merging.specs.Inner.Lanes.{HasGiven}
use Rattle.afdx_merging.specs.Inner.Merging.{IsLaneOf, least_of, stamp_of}
use Rattle.afdx_merging.proofs.Timed.{there_at}
use Rattle.afdx_session.specs.Texts.{Text}
use Rattle.afdx_session.specs.Inner.Early.{RecordsAreEarly}
use Rattle.afdx_session.specs.Streams.{AllStartBeforeTheLastInstant}
use Rattle.afdx_paced.specs.Paced.{Lane, Paced, lane_at}
use Rattle.afdx_paced.specs.Laws.{OutGoesOn}
use Rattle.afdx_wiring.specs.declared.layout.End.{End}
use Rattle.afdx_wiring.specs.declared.layout.Wire.{Wire}
use Rattle.afdx_network_check.specs.Net.{Network}
use Rattle.afdx_network.specs.declared.fault.NetworkRunFault.{NetworkRunFault}
use Rattle.afdx_network.specs.declared.fault.NetworkRunFault.TheVariants as fault
use Rattle.afdx_network.specs.declared.fault.Stop.TheVariants as stop
use Rattle.afdx_network.specs.declared.intake.Intake.{Intake}
use Rattle.afdx_network.specs.Runs.{Given}
use Rattle.afdx_network.specs.Given.{open_ends, NoneShareAPort, HasOrder, NoneComesLate, NoneIsLateAnywhere, IsWireFault}
use Rattle.afdx_network.specs.Inner.Intake.{end_place, came_at, HasTaken, AreGivenSoFar, IsNotBefore, NoneCameLate, next_of}
use Rattle.afdx_network.specs.Inner.Outputs.{HaveGone}
use Rattle.afdx_network.specs.Inner.Sites.{Site, end_at, IsSite, IsCarried, HasCome, IsIn, IsLook, AreInWindow, HaveCome, IsFirst, AreEarly, HandsOver, after_hops, gone_at}
use Rattle.afdx_network.specs.Inner.Sites.{gone_of}
use Rattle.afdx_network.specs.Inner.Windows.{IsOnWay, GoesOn, IsThrough, IsStop}
use Rattle.afdx_network.proofs.Answering.{all_places}
use Rattle.afdx_network.proofs.Carried.{AreWritten}
use Rattle.afdx_network.proofs.Carries.{KeepEarly}
use Rattle.afdx_network.proofs.Feeding.{Unique, all_at_place}
use Rattle.afdx_network.proofs.Found.{all_at}
use Rattle.afdx_network.proofs.InWindow.{at_site}
use Rattle.afdx_network.proofs.Lists.{zip_long, zip_back}
use Rattle.afdx_network.proofs.Rounds.{all_are_quiet, all_have_started}
use Rattle.afdx_network.proofs.WindowEnds.{begins_in}

-- ---- what was given so far came in time

among_at : {X : Type 0} (xs : List X) (x : X) → Contains xs x → (k : ℕ) × (slice_get xs k ≡ Some x)
among_at xs x among = (among.0, slice_get_read xs (length xs) among.0 x refl among.1 (sym among.2))

pub none_came_late : Unique → (net : Network) (came : List Arrival) (given : Given) → AreGivenSoFar net came given → NoneCameLate came → NoneComesLate given
none_came_late unique net came given so_far soon texts text records among has capture =
    let at = among_at given texts among in
    let same = unique text.1 records (came_at (open_ends net) came at.0 text.0) capture (so_far.each at.0 texts text at.1 has) in
    subst (All (λ (r : Record). r.stamp + 64 * second ≤ last_second)) (sym same)
    (All-from_recursion (λ (r : Record). r.stamp + 64 * second ≤ last_second) (came_at (open_ends net) came at.0 text.0)
    (all_at_place (λ (r : Record). r.stamp + 64 * second ≤ last_second) (end_place (open_ends net) (end_at at.0 text.0)) came soon))

pub never_late : Unique → (net : Network) (came : List Arrival) (given : Given) → AreGivenSoFar net came given → (order : HasOrder net) → All (λ (w : Wire). w.delay ≤ 1000000) net.layout.wires
    → NoneCameLate came → NoneIsLateAnywhere net given
never_late unique net came given so_far order delays soon = record { order = order; delays = delays; early = none_came_late unique net came given so_far soon }

-- of arrivals one after the other the first ones
pub soon_before : (came more : List Arrival) → NoneCameLate (came ++ more) → NoneCameLate came
soon_before [] more soon = tt
soon_before (a ∷ came) more soon = (soon.0, soon_before came more soon.1)

-- ---- where the next window begins

no_later : (a b : Option ℕ) (f : ℕ) (sites : List Site) → earlier_of a b ≡ Some f → IsFirst sites a → IsFirst sites (Some f) × IsNotBefore f b
no_later None None f sites is first = absurd (differ is) where
  differ : None ≡ Some f → ⊥
  differ e = cc
no_later None (Some m) f sites is first =
    let same : m ≡ f = same_Some m f is in
    (λ i d lt. ap (is_before f) (first i d lt), omega (arith, same))
no_later (Some n) None f sites is first =
    let same : n ≡ f = same_Some n f is in
    (subst (λ k. IsFirst sites (Some k)) same first, tt)
no_later (Some n) (Some m) f sites is first =
    let same : min n m ≡ f = same_Some (min n m) f is in
    (λ i d lt. less n f (omega (arith, same)) _ (first i d lt), omega (arith, same)) where
      less : (n f : ℕ) → f ≤ n → (next : Option ℕ) → is_before n next ≡ false → is_before f next ≡ false
      less n f le None none = refl
      less n f le (Some at) none = let from = ltb-false at n none in le-ltb at f (omega (arith, le, from))

pub way_later : {R : Type 0} → OutGoesOn
    → (remaining : R → Option (List ℕ)) (net : Network) (first now : List R) (i : Intake) (came : List Arrival) (given : Given) (h f n : ℕ) (a : Option ℕ) (sites : List Site)
    → IsOnWay remaining net first now i came given h sites → IsFirst sites a → earlier_of a (next_of i) ≡ Some f → n ≡ max f h → IsOnWay remaining net first now i came given n sites
way_later on remaining net first now i came given h f n a sites w none is at = record {
  taken = w.taken;
  given_is = w.given_is;
  come = record {
    carried = w.come.carried;
    one_each = w.come.one_each;
    come = all_places (HasCome n) sites (λ k s there.
        (begins_in on s h f n n (w.come.carried.are.each k s there).running.next (at_site (HasCome h) sites k s w.come.come there)
        (at_site (λ (x : Site). is_before f x.next ≡ false) sites k s both.0 there) at (omega arith)).0);
  };
  next = later (next_of i) both.1 w.next;
} where
  both : IsFirst sites (Some f) × IsNotBefore f (next_of i)
  both = no_later a (next_of i) f sites is none

  later : (next : Option ℕ) → IsNotBefore f next → IsNotBefore h next → IsNotBefore n next
  later None one other = tt
  later (Some m) one other = omega (arith, one, other, at)

-- the window itself
pub opens_at : (net : Network) (given : Given) (n most look : ℕ) (sites : List Site) → HaveCome net given n sites → IsLook net look → n ≤ most → most ≤ n + look
    → AreInWindow net given n most sites × All (λ (s : Site). s.paced.reached ≤ n) sites
opens_at net given n most look sites w is_look le short = (
  record {
    carried = w.carried;
    one_each = w.one_each;
    look = look;
    is_look = is_look;
    short = short;
    inside = all_places (IsIn n most) sites
        (λ k s at. let come = at_site (HasCome n) sites k s w.come at in let reached = come.reached in record { reached = omega (arith, reached, le); sent = come.sent });
  },
  all_places (λ (s : Site). s.paced.reached ≤ n) sites (λ k s at. (at_site (HasCome n) sites k s w.come at).reached),
)

-- nothing comes before it
pub not_before : (most : ℕ) (next : Option ℕ) → is_before most next ≡ false → IsNotBefore most next
not_before most None none = tt
not_before most (Some n) none = ltb-false n most none

-- ---- what has left goes to files

handed : Paced → List Text → List (List ℕ) → Option ℕ → Site
handed v left gone next = record { paced = v; left = left; gone = gone; next = next }

pub hands_on : (old new : Site) → HandsOver old new → new ≡ record { paced = old.paced; left = old.left; gone = new.gone; next = old.next }
unfolding handed
hands_on old new h =
    ap (λ (v : Paced). handed v new.left new.gone new.next) h.paced ∙ ap (λ (left : List Text). handed old.paced left new.gone new.next) h.left
    ∙ ap (handed old.paced old.left new.gone) h.next

by_handing : (net : Network) (given : Given) (n : ℕ) (old : Site) (gone : List (List ℕ)) → IsSite net given n old
    → IsSite net given n (record { paced = old.paced; left = old.left; gone = gone; next = old.next })
by_handing net given n old gone site = record {
  own = site.own;
  table_is = site.table_is;
  own_is = site.own_is;
  running = record {
    formed = site.running.formed;
    going = site.running.going;
    ports = site.running.ports;
    left = site.running.left;
    next = site.running.next;
    prefix = site.running.prefix;
  };
  came = site.came;
}

abbrev lane_by : ℕ → Site → Option Lane
lane_by port s = lane_at s.paced port

same_lane : (port : ℕ) (old new : List Site) → AllZip HandsOver old new → (k : ℕ) → option_and_then (lane_by port) (slice_get new k) ≡ option_and_then (lane_by port) (slice_get old k)
same_lane port [] [] zip k = refl
same_lane port [] (y ∷ new) zip k = absurd zip
same_lane port (x ∷ old) [] zip k = absurd zip
same_lane port (x ∷ old) (y ∷ new) zip zero = ap (λ (v : Paced). lane_at v port) zip.0.paced
same_lane port (x ∷ old) (y ∷ new) zip (suc k) = same_lane port old new zip.1 k

module _ (old new : List Site) (zip : AllZip HandsOver old new) where
  back : (k : ℕ) (s : Site) → slice_get new k ≡ Some s → (was : Site) × (slice_get old k ≡ Some was) × HandsOver was s
  back k s at = zip_back HandsOver old new zip k s at

  still_carried : (w : Wire) → IsCarried old w → IsCarried new w
  still_carried w is = record {
    start = is.start;
    there = is.there;
    start_is = same_lane w.from.port old new zip w.from.switch ∙ is.start_is;
    there_is = same_lane w.to.port old new zip w.to.switch ∙ is.there_is;
    same = is.same;
  }

  pub come_handed : (net : Network) (given : Given) (h : ℕ) → HaveCome net given h old → HaveCome net given h new
  come_handed net given h c = record {
    carried = record {
      are = record {
        each = λ k s at.
            let was = back k s at in
            subst (IsSite net given k) (sym (hands_on was.0 s was.2)) (by_handing net given k was.0 s.gone (c.carried.are.each k was.0 was.1));
        all = zip_long HandsOver old new zip ∙ c.carried.are.all;
      };
      wires = All-weaker (IsCarried old) (IsCarried new) still_carried net.layout.wires c.carried.wires;
    };
    one_each = c.one_each;
    come = all_places (HasCome h) new (λ k s at.
        let was = back k s at in
        subst (HasCome h) (sym (hands_on was.0 s was.2))
        (let come = at_site (HasCome h) old k was.0 c.come was.1 in record { reached = come.reached; sent = come.sent }));
  }

  pub early_handed : (place : ℕ → ℕ) → AreEarly place old → AreEarly place new
  early_handed place early k s at =
      let was = back k s at in
      subst (λ (v : Paced). AllByRecursion (λ (l : Lane). AllByRecursion (λ (r : Record). r.stamp ≤ after_hops (place k)) l.came) v.lanes) (sym was.2.paced) (early k was.0 was.1)

  pub going_handed : (end : ℕ) → All (λ (s : Site). (s.paced.failed ≡ false) × (s.paced.reached ≤ end)) old → All (λ (s : Site). (s.paced.failed ≡ false) × (s.paced.reached ≤ end)) new
  going_handed end going =
      all_places (λ (s : Site). (s.paced.failed ≡ false) × (s.paced.reached ≤ end)) new (λ k s at.
      let was = back k s at in
      subst (λ (v : Paced). (v.failed ≡ false) × (v.reached ≤ end)) (sym was.2.paced) (at_site (λ (x : Site). (x.paced.failed ≡ false) × (x.paced.reached ≤ end)) old k was.0 going was.1))

-- ---- one step after the other

pub nothing_more : {R : Type 0} (remaining : R → Option (List ℕ)) (net : Network) (first now : List R) (i : Intake) (came : List Arrival) (given : Given) (h : ℕ) (sites : List Site)
    → IsOnWay remaining net first now i came given h sites → GoesOn remaining net first now i came sites h sites
nothing_more remaining net first now i came given h sites w = record {
  more = [];
  given = given;
  on = subst (λ (items : List Arrival). IsOnWay remaining net first now i items given h sites) (sym (append-nil came)) w;
  early = λ order delays accepted soon early. early;
}

pub goes_then : {R : Type 0} (remaining : R → Option (List ℕ)) (net : Network) (first middle now : List R) (i j : Intake) (came : List Arrival) (old sites then : List Site) (h m : ℕ)
    → (g : GoesOn remaining net first middle i came old h sites) → GoesOn remaining net first now j (came ++ g.more) sites m then → GoesOn remaining net first now j came old m then
goes_then remaining net first middle now i j came old sites then h m g further = record {
  more = g.more ++ further.more;
  given = further.given;
  on = subst (λ (items : List Arrival). IsOnWay remaining net first now j items further.given m then) (append_assoc came g.more further.more) further.on;
  early = λ order delays accepted soon early.
      let all = subst NoneCameLate (sym (append_assoc came g.more further.more)) soon in
      further.early order delays accepted all (g.early order delays accepted (soon_before (came ++ g.more) further.more all) early);
}

-- a window after what was given came in
pub window_on : {R : Type 0} → Unique
    → (remaining : R → Option (List ℕ)) (net : Network) (first now : List R) (i : Intake) (came : List Arrival) (given : Given) (n most look : ℕ) (sites new handed : List Site)
    → IsOnWay remaining net first now i came given n sites → IsLook net look → n ≤ most → most ≤ n + look → is_before most (next_of i) ≡ false
    → ((w : AreInWindow net given n most sites) → All (λ (s : Site). s.paced.reached ≤ n) sites → AreInWindow net given n most new × All (HasCome most) new)
    → (AreInWindow net given n most sites → KeepEarly net given sites new)
    → AllZip HandsOver new handed → GoesOn remaining net first now i came sites most handed
unfolding never_late
window_on unique remaining net first now i came given n most look sites new handed w is_look le short none window early zip = record {
  more = [];
  given = given;
  on = subst (λ (items : List Arrival). IsOnWay remaining net first now i items given most handed) (sym (append-nil came)) (record {
    taken = w.taken;
    given_is = w.given_is;
    come = come_handed new handed zip net given most (record { carried = (window opened.0 opened.1).0.carried; one_each = w.come.one_each; come = (window opened.0 opened.1).1 });
    next = not_before most (next_of i) none;
  });
  early = λ order delays accepted soon was.
      early_handed new handed zip order.place
      (early opened.0 (never_late unique net came given w.given_is order delays (soon_before came [] soon)) accepted was);
} where
  opened : AreInWindow net given n most sites × All (λ (s : Site). s.paced.reached ≤ n) sites
  opened = opens_at net given n most look sites w.come is_look le short

-- ---- all windows

-- the switches that began with these have come to the end of a window
pub record OnTheRun {R : Type 0} (remaining : R → Option (List ℕ)) (net : Network) (before : List R) (start : Intake) (old : List Site) (end : ℕ) (now : List R) (i : Intake)
    (sites : List Site) : Type 0 where
  pub going : All (λ (s : Site). (s.paced.failed ≡ false) × (s.paced.reached ≤ end)) sites
  pub all : length sites ≡ length net.tables
  pub most : end ≤ last_instant
  pub taken : (first : List R) (came : List Arrival) → HasTaken remaining net first before start came → (more : List Arrival) × HasTaken remaining net first now i (came ++ more)
  pub ok : (first : List R) (given : Given) → IsOnWay remaining net first before start [] given 0 old → GoesOn remaining net first now i [] old end sites

pub run_begins : {R : Type 0} (remaining : R → Option (List ℕ)) (net : Network) (before : List R) (start : Intake) (old : List Site)
    → All (λ (s : Site). (s.paced.failed ≡ false) × (s.paced.reached ≤ 0)) old
    → length old ≡ length net.tables → OnTheRun remaining net before start old 0 before start old
run_begins remaining net before start old going all = record {
  going = going;
  all = all;
  most = omega arith;
  taken = λ first came taken. ([], subst (HasTaken remaining net first before start) (sym (append-nil came)) taken);
  ok = λ first given w. nothing_more remaining net first before start [] given 0 old w;
}

-- nothing is left
pub run_is_quiet : {R : Type 0} → OutGoesOn → (remaining : R → Option (List ℕ)) (net : Network) (first now : List R) (i : Intake) (old : List Site) (end : ℕ) (sites : List Site)
    → GoesOn remaining net first now i [] old end sites → IsFirst sites None → next_of i ≡ None → IsThrough remaining net first now i sites
run_is_quiet on remaining net first now i old end sites g quiet none = record {
  came = g.more;
  given = g.given;
  taken = g.on.taken;
  given_is = g.on.given_is;
  carried = g.on.come.carried;
  sent = all_are_quiet on net g.given sites end g.on.come.carried g.on.come.come quiet;
  none = none;
}

pub run_ends : {R : Type 0} → AllStartBeforeTheLastInstant → ByStampIsOrdered → AreWritten → RecordsAreEarly
    → (remaining : R → Option (List ℕ)) (net : Network) (first now : List R) (i : Intake) (old : List Site)
    (end : ℕ) (sites : List Site) → GoesOn remaining net first now i [] old end sites → end ≡ last_instant → next_of i ≡ None → IsThrough remaining net first now i sites
run_ends law ordered written early remaining net first now i old end sites g past none = record {
  came = g.more;
  given = g.given;
  taken = g.on.taken;
  given_is = g.on.given_is;
  carried = g.on.come.carried;
  sent = all_have_started law ordered written early net g.given sites g.on.come.carried (subst (λ n. All (HasCome n) sites) past g.on.come.come);
  none = none;
}

-- ---- it stops

pub stops : {R : Type 0} (remaining : R → Option (List ℕ)) (net : Network) (first now : List R) (i : Intake) (came : List Arrival) (why : NetworkRunFault) → HasTaken remaining net first now i came
    → IsWireFault net why → ((order : HasOrder net) → All (λ (w : Wire). w.delay ≤ 1000000) net.layout.wires → All IsAccepted net.tables → NoneCameLate came → why ≡ fault.Memory)
    → IsStop remaining net first now i (stop.Run why)
stops remaining net first now i came fault.Memory taken wired never = record { came = came; taken = taken; wired = tt; never = never }
stops remaining net first now i came (fault.Read place) taken wired never = absurd wired
stops remaining net first now i came (fault.Capture switch port why) taken wired never = record { came = came; taken = taken; wired = wired; never = never }
stops remaining net first now i came fault.WrongWires taken wired never = absurd wired
stops remaining net first now i came (fault.Line switch port number) taken wired never = absurd wired

-- ---- what is still to be read comes before the last second

abbrev pub IsEarlyStamp : Option ℕ → Type 0
IsEarlyStamp None = Unit {0}
IsEarlyStamp (Some n) = n < last_second

numbered_early : (n : ℕ) (rs : List Record) → AllByRecursion (λ (r : Record). r.stamp < last_second) rs → AllByRecursion (λ (m : Numbered). m.frame.stamp < last_second) (numbered_from n same_clock rs)
numbered_early n [] early = tt
numbered_early n (r ∷ rs) early = let first = early.0 in (omega (arith, first), numbered_early (n + 1) rs early.1)

lane_early : {R Z : Type 0} (remaining : R → Option (List ℕ)) (first now : R) (arrivals : List Arrival) (place : ℕ) (l : Reading Z) → IsLaneOf remaining same_clock first now arrivals place l
    → IsEarlyStamp (stamp_of l)
lane_early remaining first now arrivals place l is = by l.head refl where
  has : HasGiven l is.given
  has = is.read.has

  all : AllByRecursion (λ (m : Numbered). m.frame.stamp < last_second) (is.given ++ option_to_list l.head)
  all =
      subst (AllByRecursion (λ (m : Numbered). m.frame.stamp < last_second)) (sym (has.numbered ∙ ap (λ (c : Clock). numbered_from 1 c has.records) is.clock))
      (numbered_early 1 has.records (first_early l.reader.bytes has.records has.taken.first))

  by : (o : Option Numbered) → l.head ≡ o → IsEarlyStamp (option_map (λ (m : Numbered). m.frame.stamp) l.head)
  by None is_none = subst (λ (o : Option Numbered). IsEarlyStamp (option_map (λ (m : Numbered). m.frame.stamp) o)) (sym is_none) tt
  by (Some m) is_some =
      subst (λ (o : Option Numbered). IsEarlyStamp (option_map (λ (x : Numbered). x.frame.stamp) o)) (sym is_some)
      (last_of is.given m (subst (λ (o : Option Numbered). AllByRecursion (λ (x : Numbered). x.frame.stamp < last_second) (is.given ++ option_to_list o)) is_some all)) where
        last_of : (given : List Numbered) (x : Numbered) → AllByRecursion (λ (y : Numbered). y.frame.stamp < last_second) (given ++ x ∷ []) → x.frame.stamp < last_second
        last_of [] x early = early.0
        last_of (y ∷ given) x early = last_of given x early.1

least_early : {Z : Type 0} (lanes : List (Reading Z)) → ((k : ℕ) (l : Reading Z) → slice_get lanes k ≡ Some l → IsEarlyStamp (stamp_of l)) → IsEarlyStamp (least_of lanes)
least_early [] each = tt
least_early (l ∷ lanes) each = by (stamp_of l) (least_of lanes) (each 0 l refl) (least_early lanes (λ k x at. each (suc k) x at)) where
  by : (a b : Option ℕ) → IsEarlyStamp a → IsEarlyStamp b → IsEarlyStamp (earlier_of a b)
  by None b one other = other
  by (Some n) None one other = one
  by (Some n) (Some m) one other = omega (arith, one, other)

pub next_early : {R : Type 0} (remaining : R → Option (List ℕ)) (net : Network) (first now : List R) (i : Intake) (came : List Arrival) → HasTaken remaining net first now i came
    → IsEarlyStamp (next_of i)
next_early remaining net first now i came taken = least_early i.merging.lanes.items (λ k l at.
    let count = length-map (open_ends net) (λ (x : End). same_clock) in
    let within = slice_get_within i.merging.lanes.items k l at in
    let f = there_at first k (let long = taken.merged.long in let many = taken.merged.many in omega (arith, within, long, many)) in
    let r = there_at now k (let long = taken.merged.readers in let many = taken.merged.many in omega (arith, within, long, many)) in
    let e = there_at (open_ends net) k (let many = taken.merged.many in omega (arith, within, many, count)) in
    lane_early remaining f.0 r.0 came k l
    (taken.merged.each k same_clock f.0 r.0 l (slice_get-map (λ (x : End). same_clock) (open_ends net) k ∙ ap (option_map (λ (x : End). same_clock)) e.1) f.1 r.1 at))

-- none is left then at the last instant
pub none_then : (end : ℕ) (next : Option ℕ) → IsEarlyStamp next → IsNotBefore end next → last_instant ≤ end → next ≡ None
none_then end None early from past = refl
none_then end (Some n) early from past = absurd (omega (arith, early, from, past))

pub not_before_start : (next : Option ℕ) → IsNotBefore 0 next
not_before_start None = tt
not_before_start (Some n) = omega arith

-- as many files as before
pub gone_as_many : (old new : List Site) → AllZip HandsOver old new → length (gone_of new) ≡ length (gone_of old)
gone_as_many [] [] zip = refl
gone_as_many [] (y ∷ new) zip = absurd zip
gone_as_many (x ∷ old) [] zip = absurd zip
gone_as_many (x ∷ old) (y ∷ new) zip =
    let long = zip.0.long in
    omega (arith, long, gone_as_many old new zip.1, length-append y.gone (gone_of new), length-append x.gone (gone_of old))

pub same_gone : (old new : List Site) → gone_at new ≡ gone_at old → gone_of new ≡ gone_of old
same_gone old new same = ap (λ (all : List (List (List ℕ))). flat_map (λ (one : List (List ℕ)). one) all) same

-- memory ran out
pub no_memory : {R : Type 0} (remaining : R → Option (List ℕ)) (net : Network) (first now : List R) (i : Intake) (came : List Arrival) → HasTaken remaining net first now i came
    → IsStop remaining net first now i (stop.Run fault.Memory)
no_memory remaining net first now i came taken = record { came = came; taken = taken; wired = tt; never = λ order delays accepted soon. refl }

-- ---- the switches are on their way

pub reached_by : (end most : ℕ) (sites : List Site) → end ≤ most → All (λ (s : Site). (s.paced.failed ≡ false) × (s.paced.reached ≤ end)) sites → All (λ (s : Site). s.paced.reached ≤ most) sites
reached_by end most sites le all i d lt = let here = (all i d lt).1 in omega (arith, here, le)

pub started_going : (net : Network) (given : Given) (sites : List Site) → HaveCome net given 0 sites → All (λ (s : Site). (s.paced.failed ≡ false) × (s.paced.reached ≤ 0)) sites
started_going net given sites s =
    all_places (λ (x : Site). (x.paced.failed ≡ false) × (x.paced.reached ≤ 0)) sites
    (λ k x at. ((s.carried.are.each k x at).running.going, (at_site (HasCome 0) sites k x s.come at).reached))

-- no file has anything yet
pub none_have : {F : Type 0} (contents : F → Option (List ℕ)) (files : List F) (all : List (List ℕ)) → All (λ (bytes : List ℕ). bytes ≡ []) all → HaveGone contents files files all
none_have {F} contents files all empty = record {
  long = refl;
  each = λ place f g bytes first now there.
      let none : bytes ≡ [] = all_at (λ (text : List ℕ). text ≡ []) all place bytes empty there in
      subst (λ (x : F). Appends (contents f) (contents x) bytes) (same_Some f g (sym first ∙ now)) (subst (Appends (contents f) (contents f)) (sym none) (Appends-nil (contents f)));
}

-- it did not begin, since two wires go to one port
pub never_begins : {R : Type 0} (remaining : R → Option (List ℕ)) (net : Network) (first now : List R) (i : Intake) (why : NetworkRunFault) → HasTaken remaining net first now i []
    → why ≡ fault.WrongWires
    → (NoneShareAPort net → ⊥) → IsStop remaining net first now i (stop.Run why)
never_begins remaining net first now i why taken is shared =
    subst (λ (w : NetworkRunFault). IsStop remaining net first now i (stop.Run w)) (sym is)
    (record { came = []; taken = taken; wired = shared; never = λ order delays accepted soon. absurd (shared order.one_each) })

-- ---- what is given comes in

pub record HasTakenIn {R : Type 0} (remaining : R → Option (List ℕ)) (before : List R) (start : Intake) (old : List Site) (now : List R) (i : Intake) (sites : List Site) : Type 0 where
  pub all : length sites ≡ length old
  pub going : All (λ (s : Site). s.paced.failed ≡ false) sites
  pub reached : (h : ℕ) → All (λ (s : Site). s.paced.reached ≤ h) old → All (λ (s : Site). s.paced.reached ≤ h) sites
  pub gone : gone_at sites ≡ gone_at old
  pub on : (net : Network) (first : List R) (came : List Arrival) → HasTaken remaining net first before start came → (more : List Arrival) × HasTaken remaining net first now i (came ++ more)
  pub ok : (net : Network) (first : List R) (came : List Arrival) (given : Given) (h : ℕ) → IsOnWay remaining net first before start came given h old
      → GoesOn remaining net first now i came old h sites

pub none_taken_in : {R : Type 0} (remaining : R → Option (List ℕ)) (before : List R) (start : Intake) (old : List Site) → All (λ (s : Site). s.paced.failed ≡ false) old
    → HasTakenIn remaining before start old before start old
none_taken_in remaining before start old going = record {
  all = refl;
  going = going;
  reached = λ h all. all;
  gone = refl;
  on = λ net first came taken. ([], subst (HasTaken remaining net first before start) (sym (append-nil came)) taken);
  ok = λ net first came given h w. nothing_more remaining net first before start came given h old w;
}

pub one_taken_in : {R : Type 0} (remaining : R → Option (List ℕ)) (before : List R) (start : Intake) (old : List Site) (now later : List R) (i j : Intake) (sites then : List Site)
    → HasTakenIn remaining before start old now i sites → length then ≡ length sites → All (λ (s : Site). s.paced.failed ≡ false) then
    → ((h : ℕ) → All (λ (s : Site). s.paced.reached ≤ h) sites → All (λ (s : Site). s.paced.reached ≤ h) then) → gone_at then ≡ gone_at sites
    → ((net : Network) (first : List R) (came : List Arrival) → HasTaken remaining net first now i came → (one : Arrival) × HasTaken remaining net first later j (came ++ one ∷ []))
    → ((net : Network) (first : List R) (came : List Arrival) (given : Given) (h : ℕ) → IsOnWay remaining net first now i came given h sites → GoesOn remaining net first later j came sites h then)
    → HasTakenIn remaining before start old later j then
one_taken_in remaining before start old now later i j sites then t all going reached gone on ok = record {
  all = all ∙ t.all;
  going = going;
  reached = λ h was. reached h (t.reached h was);
  gone = gone ∙ t.gone;
  on = λ net first came taken.
      let was = t.on net first came taken in
      let one = on net first (came ++ was.0) was.1 in
      (was.0 ++ one.0 ∷ [], subst (HasTaken remaining net first later j) (append_assoc came was.0 (one.0 ∷ [])) one.1);
  ok = λ net first came given h w.
      let was = t.ok net first came given h w in
      goes_then remaining net first now later i j came old sites then h h was (ok net first (came ++ was.more) was.given h was.on);
}

-- what comes before an instant is there
pub there_is : (end : ℕ) (next : Option ℕ) → is_before end next ≡ true → is_some next ≡ true
there_is end None before = absurd cc
there_is end (Some n) before = refl

-- Captures that are read in pieces, one read after the other.
use Rattle.std.proofs.Common.{◌≡◌, ◌≢◌, ◌⊎◌, ℕ, zero, suc, ◌+◌, ◌<◌, ◌≤◌, ◌==◌, nat_lt, Bool, true, false, cond, not, List, [], ◌∷◌, ◌++◌, map, length, take, drop, set, get_or}
use Rattle.std.proofs.Common.{slice_get, Option, Some, None, Vec}
use Rattle.std.proofs.Common.{refl, ap, sym, ◌∙◌, arith, subst, inl, inr, length-set}
use Rattle.std.specs.Prelude.{find}
use Rattle.std.specs.List.{AllByRecursion, position, position_or_len}
use Rattle.std.specs.Io.KnownBytes.{Appends, Consumes, IsAtEnd, Keeps}
use Rattle.std.proofs.KnownBytes.{Appends-nil, Consumes-nil, Consumes-trans, Consumes-whole}
use Rattle.std.proofs.lemmas.Bool.{both_ways, eqb-true}
use Rattle.std.proofs.lemmas.List.{append-nil, length-map}
use Rattle.std.proofs.lemmas.Option.{same_Some, slice_get_within, slice_get-get_or}
use Rattle.afdx_pcap.specs.declared.fault.PcapFault.{PcapFault}
use Rattle.afdx_pcap.specs.Fault.{IsFault, IsEarlyFault}
use Rattle.afdx_table.specs.declared.rows.PortRow.{PortRow}
use Rattle.afdx_table.specs.Content.{Content}
use Rattle.afdx_table.specs.WellFormed.{Rises}
use Rattle.afdx_core.specs.State.{State}
use Rattle.afdx_count.specs.Tally.{Tally}
use Rattle.afdx_folder.specs.Input.{AreGiven}
use Rattle.afdx_session.specs.declared.plan.RunFault.{RunFault}
use Rattle.afdx_session.specs.declared.plan.RunFault.TheVariants as run
use Rattle.afdx_session.specs.Texts.{Text}
use Rattle.afdx_session.specs.Reading.{IsReadFault, IsFaultAt}
use Rattle.afdx_session.specs.Lanes.{IsPieceFault}
use Rattle.afdx_session.specs.Session.{Intake, Seen, fresh_intake, fresh_session, intake_bytes, taken_in, fed_bytes, taken_of, refusal_at, refusal, changed, fed, closed_intake}
use Rattle.afdx_session.specs.Session.{after_feed, after_close}
use Rattle.afdx_session.specs.Finish.{text_in, texts_in}
use Rattle.afdx_session.specs.Sources.{AreRead, IsSourceFault}
use Rattle.afdx_session.specs.Into.{HaveTaken, IsFinishedInto, IsNotFinishedInto}
use Rattle.afdx_session.specs.Outcome.{IsOutcome, IsDoneOf}
use Rattle.afdx_session.specs.Written.{IsWritten}
use Rattle.afdx_session.specs.Measured.{IsMeasuredRun}
use Rattle.afdx_session.specs.Inner.Pieces.{GoesOnTo, CallsGoOn, NothingWasTaken}
use Rattle.afdx_session.specs.Inner.Sources.{IsOfBytes, source_fault, IsReadUpTo, AreReadUpTo, AreAtEnd, IsOfTable, HasSameBytes, HaveSameBytes, TakesParts}
use Rattle.afdx_session.specs.Inner.Sources.{GoesOnReading, ReadsOn, IsNextAt}
use Rattle.afdx_session.specs.declared.lane.Lane.{Lane}
use Rattle.afdx_session.specs.declared.stop.Stop.{Stop}
use Rattle.afdx_session.specs.declared.stop.Stop.TheVariants as stop
use Rattle.afdx_session.specs.Inner.Stop.{IsLeftAt, AreLeft, IsStoppedBy, IsKnown, IsOn, AreStoppedAt, IsStop, stop_of, IsStopSince}
use Rattle.afdx_session.proofs.Handing.{its_place}
use Rattle.afdx_session.proofs.Into.{row_found}
use Rattle.afdx_session.proofs.Numbered.{all_slice_get, set_same}
use Rattle.afdx_session.proofs.Parts.{at_set}
use Rattle.afdx_session.proofs.Pieces.{all_fed_none}
use Rattle.afdx_session.proofs.Places.{position_at, position_none}
use Rattle.afdx_session.proofs.Writing.{mapped_from}

-- ---- the intake of a port

abbrev is_of : ℕ → Intake → Bool
is_of port i = i.port == port

abbrev is_port : ℕ → ℕ → Bool
is_port port n = n == port

abbrev ports_in : List Intake → List ℕ
ports_in intakes = map (λ (i : Intake). i.port) intakes

-- the first of a port, and what it is changed to
pub record IsIntakeAt (intakes : List Intake) (port place : ℕ) : Type 0 where
  pub intake : Intake
  pub at : slice_get intakes place ≡ Some intake
  pub port_is : intake.port ≡ port
  pub found : find (is_of port) intakes ≡ Some intake
  pub changed_is : (f : Intake → Intake) → changed port f intakes ≡ set intakes place (f intake)

intake_place : (intakes : List Intake) (port place : ℕ) → position_or_len (is_port port) (ports_in intakes) ≡ place → place < length intakes → IsIntakeAt intakes port place
intake_place [] port place is lt = absurd (omega (arith, lt))
intake_place (i ∷ intakes) port place is lt = by (i.port == port) refl (intake_place intakes port (position_or_len (is_port port) (ports_in intakes)) refl) where
  by : (b : Bool) → (i.port == port) ≡ b → (position_or_len (is_port port) (ports_in intakes) < length intakes → IsIntakeAt intakes port (position_or_len (is_port port) (ports_in intakes)))
      → IsIntakeAt (i ∷ intakes) port place
  by true here further =
      let none : zero ≡ place = ap (λ b. cond (not b) (1 + position_or_len (is_port port) (ports_in intakes)) zero) (sym here) ∙ is in
      subst (IsIntakeAt (i ∷ intakes) port) none (record {
        intake = i;
        at = refl;
        port_is = eqb-true i.port port here;
        found = ap (λ b. cond b (Some i) (find (is_of port) intakes)) here;
        changed_is = λ f. ap (λ b. cond b (f i ∷ intakes) (i ∷ changed port f intakes)) here;
      })
  by false other further =
      let more : 1 + position_or_len (is_port port) (ports_in intakes) ≡ place = ap (λ b. cond (not b) (1 + position_or_len (is_port port) (ports_in intakes)) zero) (sym other) ∙ is in
      let rest = further (omega (arith, lt, more)) in
      let step : suc (position_or_len (is_port port) (ports_in intakes)) ≡ place = omega (arith, more) in
      subst (IsIntakeAt (i ∷ intakes) port) step (record {
        intake = rest.intake;
        at = rest.at;
        port_is = rest.port_is;
        found = ap (λ b. cond b (Some i) (find (is_of port) intakes)) other ∙ rest.found;
        changed_is = λ f. ap (λ b. cond b (f i ∷ intakes) (i ∷ changed port f intakes)) other ∙ ap (λ is. i ∷ is) (rest.changed_is f);
      })

none_found : (intakes : List Intake) (port : ℕ) → length intakes ≤ position_or_len (is_port port) (ports_in intakes) → find (is_of port) intakes ≡ None
none_found [] port le = refl
none_found (i ∷ intakes) port le = by (i.port == port) refl (none_found intakes port) where
  by : (b : Bool) → (i.port == port) ≡ b → (length intakes ≤ position_or_len (is_port port) (ports_in intakes) → find (is_of port) intakes ≡ None) → find (is_of port) (i ∷ intakes) ≡ None
  by true here further =
      let none = ap (λ b. cond (not b) (1 + position_or_len (is_port port) (ports_in intakes)) zero) here in
      absurd (omega (arith, le, none))
  by false other further =
      let more = ap (λ b. cond (not b) (1 + position_or_len (is_port port) (ports_in intakes)) zero) other in
      ap (λ b. cond b (Some i) (find (is_of port) intakes)) other ∙ further (omega (arith, le, more))

-- the ports, as numbers, are those of the intakes
numbers_are : (v : Seen) (numbers : List ℕ) → IsOfTable v.table v → numbers ≡ map (λ (p : PortRow). p.id) v.table.ports → numbers ≡ ports_in v.intakes
numbers_are v numbers of are = are ∙ sym of.ports

pub place_in : (v : Seen) (numbers : List ℕ) (port place : ℕ) → IsOfTable v.table v → numbers ≡ map (λ (p : PortRow). p.id) v.table.ports → position (is_port port) numbers ≡ Some place
    → IsIntakeAt v.intakes port place
place_in v numbers port place of are at =
    let both = position_at (is_port port) (ports_in v.intakes) place (ap (position (is_port port)) (sym (numbers_are v numbers of are)) ∙ at) in
    intake_place v.intakes port place both.0 (subst (λ n. place < n) (length-map v.intakes _) both.1)

-- a port that may go on is there
pub is_there : (v : Seen) (numbers : List ℕ) (port : ℕ) → IsOfTable v.table v → numbers ≡ map (λ (p : PortRow). p.id) v.table.ports → refusal v port ≡ None
    → position (is_port port) numbers ≡ None → ⊥
is_there v numbers port of are may none =
    let le = position_none (is_port port) (ports_in v.intakes) (ap (position (is_port port)) (sym (numbers_are v numbers of are)) ∙ none) in
    let lost = none_found v.intakes port (subst (λ n. n ≤ position_or_len (is_port port) (ports_in v.intakes)) (length-map v.intakes _) le) in
    let is : cond v.failed (Some run.Failed) (Some run.WrongPorts) ≡ None = ap (λ o. cond v.failed (Some run.Failed) (refusal_at o)) (sym lost) ∙ may in
    absurd (some v.failed is) where
      some : (b : Bool) → cond b (Some run.Failed) (Some run.WrongPorts) ≡ None → ⊥
      some true is = cc
      some false is = cc

-- it has not ended
still_open : (v : Seen) (port : ℕ) (i : Intake) → refusal v port ≡ None → find (is_of port) v.intakes ≡ Some i → i.closed ≡ true → ⊥
still_open v port i may found closed = by v.failed (ap (λ o. cond v.failed (Some run.Failed) (refusal_at o)) (sym found) ∙ may) where
  by : (b : Bool) → cond b (Some run.Failed) (refusal_at (Some i)) ≡ None → ⊥
  by true is = absurd cc
  by false is = let none : Some run.Closed ≡ None = ap (λ c. cond c (Some run.Closed) None) (sym closed) ∙ is in absurd cc

-- ---- places

pub row_of_intake : (intakes : List Intake) (ports : List PortRow) (k : ℕ) (i : Intake) → ports_in intakes ≡ map (λ (p : PortRow). p.id) ports → slice_get intakes k ≡ Some i
    → (p : PortRow) × (slice_get ports k ≡ Some p) × (p.id ≡ i.port)
row_of_intake [] ports k i same at = absurd cc
row_of_intake (j ∷ intakes) [] k i same at = absurd cc
row_of_intake (j ∷ intakes) (p ∷ ports) zero i same at = (p, refl, sym (ap (λ (ns : List ℕ). get_or ns 0 0) same) ∙ ap (λ (x : Intake). x.port) (same_Some j i at))
row_of_intake (j ∷ intakes) (p ∷ ports) (suc k) i same at = row_of_intake intakes ports k i (ap (drop 1) same) at

mapped_position : (ports : List PortRow) (port : ℕ) → position_or_len (is_port port) (map (λ (p : PortRow). p.id) ports) ≡ position_or_len (λ (p : PortRow). p.id == port) ports
mapped_position [] port = refl
mapped_position (p ∷ ports) port = ap (λ n. cond (not (p.id == port)) (1 + n) zero) (mapped_position ports port)

-- a row's place is that of its number
pub position_in : (ports : List PortRow) (k : ℕ) (p : PortRow) → Rises ports → slice_get ports k ≡ Some p → position (is_port p.id) (map (λ (q : PortRow). q.id) ports) ≡ Some k
position_in ports k p rises at =
    ap (λ n. cond (nat_lt n (length (map (λ (q : PortRow). q.id) ports))) (Some n) None) (mapped_position ports p.id)
    ∙ ap (λ m. cond (nat_lt (position_or_len (λ (q : PortRow). q.id == p.id) ports) m) (Some (position_or_len (λ (q : PortRow). q.id == p.id) ports)) None) (length-map ports (λ q. q.id))
    ∙ its_place ports k p rises at

-- no two have the same port
one_place : (v : Seen) (a b : ℕ) (i j : Intake) → IsOfTable v.table v → slice_get v.intakes a ≡ Some i → slice_get v.intakes b ≡ Some j → i.port ≡ j.port → a ≡ b
one_place v a b i j of at_a at_b same =
    let p = row_of_intake v.intakes v.table.ports a i of.ports at_a in
    let q = row_of_intake v.intakes v.table.ports b j of.ports at_b in
    same_Some a b (sym (its_place v.table.ports a p.0 of.rises p.1)
    ∙ ap (λ n. position (λ (x : PortRow). x.id == n) v.table.ports) (p.2 ∙ same ∙ sym q.2) ∙ its_place v.table.ports b q.0 of.rises q.1)

-- what is at a place of a list as long as another
pub at_place : {X : Type 0} (xs : List X) (k : ℕ) → k < length xs → (x : X) × (slice_get xs k ≡ Some x)
at_place [] k lt = absurd (omega (arith, lt))
at_place (x ∷ xs) zero lt = (x, refl)
at_place (x ∷ xs) (suc k) lt = at_place xs k (omega (arith, lt))

intakes_long : (t : Content) (v : Seen) → IsOfTable t v → length v.intakes ≡ length t.ports
intakes_long t v of = sym (length-map v.intakes (λ (i : Intake). i.port)) ∙ ap (λ (ns : List ℕ). length ns) of.ports ∙ length-map t.ports (λ (p : PortRow). p.id)

-- ---- what changes in a session

-- it goes on, and nothing is taken
pub record GoesOnUntaken (v later : Seen) : Type 0 where
  pub on : GoesOnTo v later
  pub taken : (port : ℕ) → taken_of later port ≡ taken_of v port
  pub accepted : later.accepted ≡ v.accepted

changed_ports : (port : ℕ) (f : Intake → Intake) (intakes : List Intake) → ((i : Intake) → (f i).port ≡ i.port) → ports_in (changed port f intakes) ≡ ports_in intakes
changed_ports port f [] keeps = refl
changed_ports port f (i ∷ intakes) keeps = by (i.port == port) refl (changed_ports port f intakes keeps) where
  by : (b : Bool) → (i.port == port) ≡ b → ports_in (changed port f intakes) ≡ ports_in intakes → ports_in (changed port f (i ∷ intakes)) ≡ ports_in (i ∷ intakes)
  by true here more = ap (λ b. ports_in (cond b (f i ∷ intakes) (i ∷ changed port f intakes))) here ∙ ap (λ n. n ∷ ports_in intakes) (keeps i)
  by false other more = ap (λ b. ports_in (cond b (f i ∷ intakes) (i ∷ changed port f intakes))) other ∙ ap (λ ns. i.port ∷ ns) more

-- what was taken of a port stays where it is not changed
changed_taken : (port q : ℕ) (f : Intake → Intake) (intakes : List Intake) → ((i : Intake) → (f i).port ≡ i.port) → ((i : Intake) → i.port ≡ q → i.port ≡ port → (f i).taken ≡ i.taken)
    → taken_in (find (is_of q) (changed port f intakes)) ≡ taken_in (find (is_of q) intakes)
changed_taken port q f [] keeps same = refl
changed_taken port q f (i ∷ intakes) keeps same = by (i.port == port) refl (changed_taken port q f intakes keeps same) where
  head : (c : Bool) → (i.port == q) ≡ c → (i.port == port) ≡ true → taken_in (find (is_of q) (f i ∷ intakes)) ≡ taken_in (find (is_of q) (i ∷ intakes))
  head true there here =
      ap (λ b. taken_in (cond b (Some (f i)) (find (is_of q) intakes))) (ap (λ n. n == q) (keeps i) ∙ there)
      ∙ same i (eqb-true i.port q there) (eqb-true i.port port here)
      ∙ ap (λ b. taken_in (cond b (Some i) (find (is_of q) intakes))) (sym there)
  head false there here =
      ap (λ b. taken_in (cond b (Some (f i)) (find (is_of q) intakes))) (ap (λ n. n == q) (keeps i) ∙ there)
      ∙ ap (λ b. taken_in (cond b (Some i) (find (is_of q) intakes))) (sym there)

  tail : (c : Bool) → (i.port == q) ≡ c → taken_in (find (is_of q) (changed port f intakes)) ≡ taken_in (find (is_of q) intakes)
      → taken_in (find (is_of q) (i ∷ changed port f intakes)) ≡ taken_in (find (is_of q) (i ∷ intakes))
  tail true there more =
      ap (λ b. taken_in (cond b (Some i) (find (is_of q) (changed port f intakes)))) there
      ∙ ap (λ b. taken_in (cond b (Some i) (find (is_of q) intakes))) (sym there)
  tail false there more =
      ap (λ b. taken_in (cond b (Some i) (find (is_of q) (changed port f intakes)))) there
      ∙ more
      ∙ ap (λ b. taken_in (cond b (Some i) (find (is_of q) intakes))) (sym there)

  by : (b : Bool) → (i.port == port) ≡ b → taken_in (find (is_of q) (changed port f intakes)) ≡ taken_in (find (is_of q) intakes)
      → taken_in (find (is_of q) (changed port f (i ∷ intakes))) ≡ taken_in (find (is_of q) (i ∷ intakes))
  by true here more = ap (λ b. taken_in (find (is_of q) (cond b (f i ∷ intakes) (i ∷ changed port f intakes)))) here ∙ head (i.port == q) refl here
  by false other more = ap (λ b. taken_in (find (is_of q) (cond b (f i ∷ intakes) (i ∷ changed port f intakes)))) other ∙ tail (i.port == q) refl more

-- nothing was done
pub on_same : (v : Seen) → GoesOnTo v v
on_same v = record { table = refl; fed = all_fed_none v.intakes; begun = λ is. is }

pub untaken_same : (v : Seen) → GoesOnUntaken v v
untaken_same v = record { on = on_same v; taken = λ port. refl; accepted = refl }

pub untaken_feed : CallsGoOn → (v : Seen) (port : ℕ) (piece : List ℕ) → refusal v port ≡ None → GoesOnUntaken v (after_feed v port piece)
untaken_feed calls v port piece may = record { on = calls.feed v port piece may; taken = λ q. changed_taken port q (fed piece) v.intakes (λ i. refl) (λ i there here. refl); accepted = refl }

pub untaken_close : CallsGoOn → (v : Seen) (port : ℕ) → GoesOnUntaken v (after_close v port)
untaken_close calls v port = record { on = calls.close v port; taken = λ q. changed_taken port q closed_intake v.intakes (λ i. refl) (λ i there here. refl); accepted = refl }

pub of_feed : (t : Content) (v : Seen) (port : ℕ) (piece : List ℕ) → IsOfTable t v → IsOfTable t (after_feed v port piece)
of_feed t v port piece of = record { table = of.table; rises = of.rises; ports = changed_ports port (fed piece) v.intakes (λ i. refl) ∙ of.ports; none_failed = of.none_failed }

pub of_close : (t : Content) (v : Seen) (port : ℕ) → IsOfTable t v → IsOfTable t (after_close v port)
of_close t v port of = record { table = of.table; rises = of.rises; ports = changed_ports port closed_intake v.intakes (λ i. refl) ∙ of.ports; none_failed = of.none_failed }

-- files that have what was taken have it still
pub taken_on : {F : Type 0} → CallsGoOn → (contents : F → Option (List ℕ)) (v later : Seen) (start now : List F) → GoesOnUntaken v later → HaveTaken contents v start now
    → HaveTaken contents later start now
taken_on calls contents v later start now on have = record {
  long = have.long;
  each = λ place p f g is_row is_f is_g.
      let has = have.each place p f g (ap (λ (c : Content). slice_get c.ports place) (sym on.on.table) ∙ is_row) is_f is_g in
      record {
        taken = has.taken;
        were = record { before = has.were.before; was = has.were.was; on = calls.both has.were.before v later has.were.on on.on; same = on.taken p.id ∙ has.were.same };
        appended = has.appended;
      };
}

-- ---- one more read

-- it brought the session to this; where none is to be made any more, all readers are at their ends
pub record ReadsTo {R : Type 0} (remaining : R → Option (List ℕ)) (v : Seen) (readers : List R) (more : Bool) (later : Seen) (now : List R) : Type 0 where
  pub of : IsOfTable v.table later
  pub on : GoesOnUntaken v later
  pub many : length now ≡ length readers
  pub read : (first : List R) → AreReadUpTo remaining v first readers → AreReadUpTo remaining later first now
  pub all : more ≡ false → (first : List R) → AreReadUpTo remaining v first readers → AreAtEnd remaining now

pub reads_one : {R : Type 0} (remaining : R → Option (List ℕ)) (v later : Seen) (first readers : List R) (place : ℕ) (i j : Intake) (r s : R) → slice_get v.intakes place ≡ Some i
    → slice_get readers place ≡ Some r → later.intakes ≡ set v.intakes place j → ((f : R) → IsReadUpTo remaining i f r → IsReadUpTo remaining j f s)
    → AreReadUpTo remaining v first readers → AreReadUpTo remaining later first (set readers place s)
reads_one {R} remaining v later first readers place i j r s at reader_at changes step was = record {
  many = length-set readers place s ∙ was.many;
  each = λ k m f g is_m is_f is_g. by k m f g is_f (at_set v.intakes place k j m (ap (λ is. slice_get is k) (sym changes) ∙ is_m)) (at_set readers place k s g is_g);
} where
  by : (k : ℕ) (m : Intake) (f g : R) → slice_get first k ≡ Some f → ((k ≡ place) × (m ≡ j)) ⊎ ((k ≢ place) × (slice_get v.intakes k ≡ Some m))
      → ((k ≡ place) × (g ≡ s)) ⊎ ((k ≢ place) × (slice_get readers k ≡ Some g)) → IsReadUpTo remaining m f g
  by k m f g is_f (inl here) (inr other) = absurd (other.0 here.0)
  by k m f g is_f (inr other) (inl here) = absurd (other.0 here.0)
  by k m f g is_f (inr one) (inr other) = was.each k m f g one.1 is_f other.1
  by k m f g is_f (inl one) (inl here) =
      subst (λ (x : Intake). IsReadUpTo remaining x f g) (sym one.1) (subst (IsReadUpTo remaining j f) (sym here.1)
      (step f (was.each place i f r at (ap (slice_get first) (sym one.0) ∙ is_f) reader_at)))

-- a piece came of it
pub piece_read : {R : Type 0} (remaining : R → Option (List ℕ)) (i : Intake) (piece : List ℕ) (f r s : R) → (i.closed ≡ true → ⊥) → Consumes (remaining r) (remaining s) piece
    → IsReadUpTo remaining i f r → IsReadUpTo remaining (fed piece i) f s
piece_read remaining i piece f r s is_open gives was = record {
  bytes = Consumes-trans (remaining f) (remaining r) (remaining s) i.bytes piece was.bytes gives;
  ended = λ closed. absurd (is_open closed);
}

-- nothing did
nothing_read : {R : Type 0} (remaining : R → Option (List ℕ)) (i : Intake) (f r s : R) → Consumes (remaining r) (remaining s) [] → IsReadUpTo remaining i f r
    → Consumes (remaining f) (remaining s) i.bytes
nothing_read remaining i f r s gives was = subst (Consumes (remaining f) (remaining s)) (append-nil i.bytes) (Consumes-trans (remaining f) (remaining r) (remaining s) i.bytes [] was.bytes gives)

pub end_read : {R : Type 0} (remaining : R → Option (List ℕ)) (i : Intake) (f r s : R) → Consumes (remaining r) (remaining s) [] → IsAtEnd (remaining s)
    → IsReadUpTo remaining i f r → IsReadUpTo remaining (closed_intake i) f s
end_read remaining i f r s gives end was = record { bytes = nothing_read remaining i f r s gives was; ended = λ closed. end }

pub kept_consumes : (a b : Option (List ℕ)) → Keeps a b → Consumes a b []
kept_consumes None b keeps = tt
kept_consumes (Some xs) None keeps = absurd keeps
kept_consumes (Some xs) (Some ys) keeps = sym keeps

pub still_read : {R : Type 0} (remaining : R → Option (List ℕ)) (i : Intake) (f r s : R) → (i.closed ≡ true → ⊥) → Consumes (remaining r) (remaining s) []
    → IsReadUpTo remaining i f r → IsReadUpTo remaining i f s
still_read remaining i f r s is_open gives was = record { bytes = nothing_read remaining i f r s gives was; ended = λ closed. absurd (is_open closed) }

-- at the end of the last that has not ended all are at their ends
pub all_at_end : {R : Type 0} (remaining : R → Option (List ℕ)) (v : Seen) (first readers : List R) (port place : ℕ) (at : IsIntakeAt v.intakes port place) (s : R) → IsOfTable v.table v
    → length readers ≡ length v.intakes → AllByRecursion (λ (i : Intake). (i.port ≡ port) ⊎ (i.closed ≡ true)) v.intakes → IsAtEnd (remaining s) → AreReadUpTo remaining v first readers
    → AreAtEnd remaining (set readers place s)
all_at_end {R} remaining v first readers port place at s of many last end was k r is = by (at_set readers place k s r is) where
  by : ((k ≡ place) × (r ≡ s)) ⊎ ((k ≢ place) × (slice_get readers k ≡ Some r)) → IsAtEnd (remaining r)
  by (inl here) = subst (λ (x : R). IsAtEnd (remaining x)) (sym here.1) end
  by (inr other) =
      let lt = slice_get_within readers k r other.1 in
      let long = was.many in
      let i = at_place v.intakes k (omega (arith, lt, many)) in
      let f = at_place first k (omega (arith, lt, long)) in
      elim (all_slice_get (λ (x : Intake). (x.port ≡ port) ⊎ (x.closed ≡ true)) v.intakes k i.0 last i.1) [
        | inl same ↦ absurd (other.0 (one_place v k place i.0 at.intake of i.1 at.at (same ∙ sym at.port_is)))
        | inr closed ↦ (was.each k i.0 f.0 r i.1 f.1 other.1).ended closed
      ]

-- there are as many as numbers
as_many : {R : Type 0} (v : Seen) (numbers : List ℕ) (readers : List R) → IsOfTable v.table v → numbers ≡ map (λ (p : PortRow). p.id) v.table.ports → length readers ≡ length numbers
    → length readers ≡ length v.intakes
as_many v numbers readers of are many = many ∙ ap (λ (ns : List ℕ). length ns) (numbers_are v numbers of are) ∙ length-map v.intakes (λ (i : Intake). i.port)

-- the reader of a port that may go on, among as many as ports
pub record IsReaderAt {R : Type 0} (v : Seen) (readers : List R) (port place : ℕ) (r : R) : Type 0 where
  pub own : IsIntakeAt v.intakes port place
  pub at : slice_get readers place ≡ Some r
  pub many : length readers ≡ length v.intakes

pub reader_at : {R : Type 0} (v : Seen) (numbers : List ℕ) (readers : List R) (port place : ℕ) (d : R) → IsOfTable v.table v → numbers ≡ map (λ (p : PortRow). p.id) v.table.ports
    → length readers ≡ length numbers → position (is_port port) numbers ≡ Some place → IsReaderAt v readers port place (get_or readers place d)
reader_at v numbers readers port place d of are long at =
    let own = place_in v numbers port place of are at in
    let many = as_many v numbers readers of are long in
    record { own = own; at = slice_get-get_or readers place d (subst (λ n. place < n) (sym many) (slice_get_within v.intakes place own.intake own.at)); many = many }

pub place_within : {R : Type 0} (v : Seen) (numbers : List ℕ) (readers : List R) (port place : ℕ) → IsOfTable v.table v → numbers ≡ map (λ (p : PortRow). p.id) v.table.ports
    → length readers ≡ length numbers → position (is_port port) numbers ≡ Some place → place < length readers
place_within v numbers readers port place of are long at =
    let own = place_in v numbers port place of are at in
    subst (λ n. place < n) (sym (as_many v numbers readers of are long)) (slice_get_within v.intakes place own.intake own.at)

-- a read with room that gave nothing found the end
pub end_found : (a b : Option (List ℕ)) (n room : ℕ) (buf : List ℕ) → Consumes a b (take n buf) × (n ≡ 0 → 0 < length buf → IsAtEnd b) → n ≡ 0 → length buf ≡ room → 0 < room
    → Consumes a b [] × IsAtEnd b
end_found a b n room buf gave none same some = (subst (λ k. Consumes a b (take k buf)) none gave.0, gave.1 none (subst (λ k. 0 < k) (sym same) some))

-- a read gave a piece
pub reads_piece : {R : Type 0} → CallsGoOn → (remaining : R → Option (List ℕ)) (v later : Seen) (readers : List R) (port place : ℕ) (piece : List ℕ) (r s : R)
    → IsOfTable v.table v → refusal v port ≡ None → IsReaderAt v readers port place r → Consumes (remaining r) (remaining s) piece → later ≡ after_feed v port piece
    → ReadsTo remaining v readers true later (set readers place s)
reads_piece calls remaining v later readers port place piece r s of may there gives is = subst (λ (w : Seen). ReadsTo remaining v readers true w (set readers place s)) (sym is) (record {
  of = of_feed v.table v port piece of;
  on = untaken_feed calls v port piece may;
  many = length-set readers place s;
  read = λ first was.
      reads_one remaining v (after_feed v port piece) first readers place there.own.intake (fed piece there.own.intake) r s there.own.at there.at (there.own.changed_is (fed piece))
      (λ f. piece_read remaining there.own.intake piece f r s (still_open v port there.own.intake may there.own.found) gives) was;
  all = λ none. absurd (both_ways true none refl);
})

-- or the end
pub reads_end : {R : Type 0} → CallsGoOn → (remaining : R → Option (List ℕ)) (v later : Seen) (readers : List R) (port place : ℕ) (r s : R)
    → IsOfTable v.table v → IsReaderAt v readers port place r → Consumes (remaining r) (remaining s) [] → IsAtEnd (remaining s) → later ≡ after_close v port
    → ReadsTo remaining v readers true later (set readers place s)
reads_end calls remaining v later readers port place r s of there gives end is = subst (λ (w : Seen). ReadsTo remaining v readers true w (set readers place s)) (sym is) (record {
  of = of_close v.table v port of;
  on = untaken_close calls v port;
  many = length-set readers place s;
  read = λ first was.
      reads_one remaining v (after_close v port) first readers place there.own.intake (closed_intake there.own.intake) r s there.own.at there.at (there.own.changed_is closed_intake)
      (λ f. end_read remaining there.own.intake f r s gives end) was;
  all = λ none. absurd (both_ways true none refl);
})

read_nothing : {R : Type 0} (remaining : R → Option (List ℕ)) (v : Seen) (first readers : List R) (port place : ℕ) (r s : R) → refusal v port ≡ None
    → IsReaderAt v readers port place r → Consumes (remaining r) (remaining s) [] → AreReadUpTo remaining v first readers → AreReadUpTo remaining v first (set readers place s)
read_nothing remaining v first readers port place r s may there gives was =
    reads_one remaining v v first readers place there.own.intake there.own.intake r s there.own.at there.at (sym (set_same v.intakes place there.own.intake there.own.at))
    (λ f. still_read remaining there.own.intake f r s (still_open v port there.own.intake may there.own.found) gives) was

-- or nothing, since it was interrupted
pub reads_nothing : {R : Type 0} (remaining : R → Option (List ℕ)) (v : Seen) (readers : List R) (port place : ℕ) (r s : R) → IsOfTable v.table v
    → refusal v port ≡ None → IsReaderAt v readers port place r → Keeps (remaining r) (remaining s) → ReadsTo remaining v readers true v (set readers place s)
reads_nothing remaining v readers port place r s of may there keeps = record {
  of = of;
  on = untaken_same v;
  many = length-set readers place s;
  read = λ first was. read_nothing remaining v first readers port place r s may there (kept_consumes (remaining r) (remaining s) keeps) was;
  all = λ none. absurd (both_ways true none refl);
}

-- or the end of the last that has not ended
pub reads_last : {R : Type 0} (remaining : R → Option (List ℕ)) (v : Seen) (readers : List R) (port place : ℕ) (r s : R) → IsOfTable v.table v
    → refusal v port ≡ None → IsReaderAt v readers port place r → Consumes (remaining r) (remaining s) [] → IsAtEnd (remaining s)
    → AllByRecursion (λ (i : Intake). (i.port ≡ port) ⊎ (i.closed ≡ true)) v.intakes → ReadsTo remaining v readers false v (set readers place s)
reads_last remaining v readers port place r s of may there gives end last = record {
  of = of;
  on = untaken_same v;
  many = length-set readers place s;
  read = λ first was. read_nothing remaining v first readers port place r s may there gives was;
  all = λ none first was. all_at_end remaining v first readers port place there.own s of there.many last end was;
}

pub of_piece : (bytes : List ℕ) (port : ℕ) (fault : RunFault) → IsPieceFault bytes port fault → IsOfBytes fault
of_piece bytes port run.Memory is = tt
of_piece bytes port (run.Capture at why) is = tt
of_piece bytes port run.WrongPorts is = absurd is
of_piece bytes port run.Closed is = absurd is
of_piece bytes port run.Failed is = absurd is

pub of_end : (bytes : List ℕ) (port : ℕ) (fault : RunFault) → IsFaultAt bytes port fault → IsOfBytes fault
of_end bytes port run.Memory is = tt
of_end bytes port (run.Capture at why) is = tt
of_end bytes port run.WrongPorts is = absurd is
of_end bytes port run.Closed is = absurd is
of_end bytes port run.Failed is = absurd is

pub of_read : (texts : List Text) (fault : RunFault) → IsReadFault texts fault → IsOfBytes fault
of_read texts run.Memory is = tt
of_read texts (run.Capture at why) is = tt
of_read texts run.WrongPorts is = absurd is
of_read texts run.Closed is = absurd is
of_read texts run.Failed is = absurd is

-- where all have ended they are, too
pub ended_at_end : {R : Type 0} (remaining : R → Option (List ℕ)) (v : Seen) (first readers : List R) → length readers ≡ length v.intakes
    → AllByRecursion (λ (i : Intake). i.closed ≡ true) v.intakes → AreReadUpTo remaining v first readers → AreAtEnd remaining readers
ended_at_end remaining v first readers many ended was k r is =
    let lt = slice_get_within readers k r is in
    let long = was.many in
    let i = at_place v.intakes k (omega (arith, lt, many)) in
    let f = at_place first k (omega (arith, lt, long)) in
    (was.each k i.0 f.0 r i.1 f.1 is).ended (all_slice_get (λ (x : Intake). x.closed ≡ true) v.intakes k i.0 ended i.1)

-- ---- where a run stops

ports_of_texts : (intakes : List Intake) → map (λ (text : Text). text.0) (map text_in intakes) ≡ ports_in intakes
ports_of_texts [] = refl
ports_of_texts (i ∷ intakes) = ap (λ ns. i.port ∷ ns) (ports_of_texts intakes)

-- what came at a place
came_at : (intakes : List Intake) (k : ℕ) (text : Text) → slice_get (map text_in intakes) k ≡ Some text → (i : Intake) × (slice_get intakes k ≡ Some i) × (text_in i ≡ text)
came_at intakes k text at = mapped_from text_in intakes k text at

-- a call at a place stopped it, after these bytes came there
stopped : {R Z : Type 0} (remaining : R → Option (List ℕ)) (v w : Seen) (first readers : List R) (port place : ℕ) (j : Intake) (s : R) (why : PcapFault) (lanes : List (Lane Z))
    → IsOfTable v.table v → IsOfTable v.table w → (own : IsIntakeAt v.intakes port place) → length readers ≡ length v.intakes → w.intakes ≡ set v.intakes place j
    → length readers ≡ length first → AreReadUpTo remaining w first (set readers place s) → AreLeft v port lanes → IsKnown (remaining s) j.bytes why
    → AreStoppedAt remaining v.table first (set readers place s) place why lanes
stopped {R} {Z} remaining v w first readers port place j s why lanes of of_w own many changes as_many was left known = record {
  came = texts_in w;
  ports = ports_of_texts w.intakes ∙ of_w.ports;
  lane_ports = left.ports ∙ of.ports ∙ sym of_w.ports ∙ sym (ports_of_texts w.intakes);
  many = length-set readers place s ∙ long_now;
  long = sym as_many ∙ long_now;
  within = subst (λ n. place < n) (sym many ∙ long_now) (slice_get_within v.intakes place own.intake own.at);
  gave = λ k f r text is_f is_r is_text. gave k f r text is_f is_r (came_at w.intakes k text is_text);
  here = λ r text is_r is_text. here r text is_r (came_at w.intakes place text is_text);
  before = λ k r l lt is_r is_l. before k r l lt is_r is_l;
  bytes = λ k l text lt is_l is_text. bytes k l text lt is_l (came_at w.intakes k text is_text);
} where
  long_now : length readers ≡ length (texts_in w)
  long_now = many ∙ sym (length-set v.intakes place j) ∙ ap length (sym changes) ∙ sym (length-map w.intakes text_in)

  gave : (k : ℕ) (f r : R) (text : Text) → slice_get first k ≡ Some f → slice_get (set readers place s) k ≡ Some r → (i : Intake) × (slice_get w.intakes k ≡ Some i) × (text_in i ≡ text)
      → Consumes (remaining f) (remaining r) text.1
  gave k f r text is_f is_r from = subst (λ (x : Text). Consumes (remaining f) (remaining r) x.1) from.2 (was.each k from.0 f r from.1 is_f is_r).bytes

  here : (r : R) (text : Text) → slice_get (set readers place s) place ≡ Some r → (i : Intake) × (slice_get w.intakes place ≡ Some i) × (text_in i ≡ text) → IsKnown (remaining r) text.1 why
  here r text is_r from = by (at_set readers place place s r is_r) (at_set v.intakes place place j from.0 (ap (λ is. slice_get is place) (sym changes) ∙ from.1)) where
    by : ((place ≡ place) × (r ≡ s)) ⊎ ((place ≢ place) × (slice_get readers place ≡ Some r))
        → ((place ≡ place) × (from.0 ≡ j)) ⊎ ((place ≢ place) × (slice_get v.intakes place ≡ Some from.0)) → IsKnown (remaining r) text.1 why
    by (inr other) two = absurd (other.0 refl)
    by (inl one) (inr other) = absurd (other.0 refl)
    by (inl one) (inl two) =
        subst (λ (x : Text). IsKnown (remaining r) x.1 why) from.2
        (subst (λ (x : Intake). IsKnown (remaining r) x.bytes why) (sym two.1) (subst (λ (x : R). IsKnown (remaining x) j.bytes why) (sym one.1) known))

  -- the intake before the place is as it was
  same_before : (k : ℕ) (i : Intake) → k < place → slice_get w.intakes k ≡ Some i → slice_get v.intakes k ≡ Some i
  same_before k i lt is = by (at_set v.intakes place k j i (ap (λ xs. slice_get xs k) (sym changes) ∙ is)) where
    by : ((k ≡ place) × (i ≡ j)) ⊎ ((k ≢ place) × (slice_get v.intakes k ≡ Some i)) → slice_get v.intakes k ≡ Some i
    by (inl one) = let same = one.0 in absurd (omega (arith, lt, same))
    by (inr other) = other.1

  left_at : (k : ℕ) (i : Intake) (l : Lane Z) → k < place → slice_get w.intakes k ≡ Some i → slice_get lanes k ≡ Some l → IsLeftAt i l
  left_at k i l lt is is_l =
      let at = same_before k i lt is in
      left.others k i l at is_l (λ same. let here = one_place v k place i own.intake of at own.at (same ∙ sym own.port_is) in absurd (omega (arith, lt, here)))

  before : (k : ℕ) (r : R) (l : Lane Z) → k < place → slice_get (set readers place s) k ≡ Some r → slice_get lanes k ≡ Some l → IsOn (remaining r) l
  before k r l lt is_r is_l =
      let within = slice_get_within v.intakes place own.intake own.at in
      let long = ap length changes ∙ length-set v.intakes place j in
      let i = at_place w.intakes k (omega (arith, lt, within, long)) in
      let f = at_place first k (omega (arith, lt, within, many, as_many)) in
      let is_left = left_at k i.0 l lt i.1 is_l in
      record { may = is_left.may; ended = λ closed. (was.each k i.0 f.0 r i.1 f.1 is_r).ended (sym is_left.closed ∙ closed) }

  bytes : (k : ℕ) (l : Lane Z) (text : Text) → k < place → slice_get lanes k ≡ Some l → (i : Intake) × (slice_get w.intakes k ≡ Some i) × (text_in i ≡ text) → l.reader.bytes ≡ text.1
  bytes k l text lt is_l from = (left_at k from.0 l lt from.1 is_l).bytes ∙ ap (λ (x : Text). x.1) from.2

-- a piece has a fault
pub stops_at_piece : {R Z : Type 0} → CallsGoOn → (remaining : R → Option (List ℕ)) (v : Seen) (readers : List R) (port place : ℕ) (piece : List ℕ) (r s : R) (fault : RunFault)
    (lanes : Vec (Lane Z) Z) → IsOfTable v.table v → refusal v port ≡ None → IsReaderAt v readers port place r → Consumes (remaining r) (remaining s) piece
    → IsStoppedBy v port fault lanes.items (IsPieceFault (fed_bytes v port ++ piece) port fault) → IsStopSince remaining v readers (set readers place s) (stop_of place fault lanes)
stops_at_piece calls remaining v readers port place piece r s run.Memory lanes of may there gives is first was = tt
stops_at_piece calls remaining v readers port place piece r s (run.Capture at why) lanes of may there gives is first was =
    stopped remaining v (after_feed v port piece) first readers port place (fed piece there.own.intake) s why lanes.items of (of_feed v.table v port piece of) there.own there.many
    (there.own.changed_is (fed piece)) was.many ((reads_piece calls remaining v (after_feed v port piece) readers port place piece r s of may there gives refl).read first was) is.1
    (inl (subst (λ xs. IsEarlyFault (xs ++ piece) why) (ap intake_bytes there.own.found) is.0.1))
stops_at_piece calls remaining v readers port place piece r s run.WrongPorts lanes of may there gives is first was = absurd is
stops_at_piece calls remaining v readers port place piece r s run.Closed lanes of may there gives is first was = absurd is
stops_at_piece calls remaining v readers port place piece r s run.Failed lanes of may there gives is first was = absurd is

-- a capture that ended has one
pub stops_at_end : {R Z : Type 0} → CallsGoOn → (remaining : R → Option (List ℕ)) (v : Seen) (readers : List R) (port place : ℕ) (r s : R) (fault : RunFault)
    (lanes : Vec (Lane Z) Z) → IsOfTable v.table v → IsReaderAt v readers port place r → Consumes (remaining r) (remaining s) [] → IsAtEnd (remaining s)
    → IsStoppedBy v port fault lanes.items (IsFaultAt (fed_bytes v port) port fault) → IsStopSince remaining v readers (set readers place s) (stop_of place fault lanes)
stops_at_end calls remaining v readers port place r s run.Memory lanes of there gives end is first was = tt
stops_at_end calls remaining v readers port place r s (run.Capture at why) lanes of there gives end is first was =
    stopped remaining v (after_close v port) first readers port place (closed_intake there.own.intake) s why lanes.items of (of_close v.table v port of) there.own there.many
    (there.own.changed_is closed_intake) was.many ((reads_end calls remaining v (after_close v port) readers port place r s of there gives end refl).read first was) is.1
    (inr (subst (λ xs. IsFault xs why) (ap intake_bytes there.own.found) is.0.1, end))
stops_at_end calls remaining v readers port place r s run.WrongPorts lanes of there gives end is first was = absurd is
stops_at_end calls remaining v readers port place r s run.Closed lanes of there gives end is first was = absurd is
stops_at_end calls remaining v readers port place r s run.Failed lanes of there gives end is first was = absurd is

-- the reader at a place failed
pub stops_unread : {R : Type 0} (Z : Type 0) (remaining : R → Option (List ℕ)) (v : Seen) (readers : List R) (port place : ℕ) (r s : R) → IsReaderAt v readers port place r
    → IsStopSince {Z = Z} remaining v readers (set readers place s) (stop.Read place)
stops_unread Z remaining v readers port place r s there first was =
    let lt = slice_get_within readers place r there.at in
    let long = was.many in
    (omega (arith, lt, long), length-set readers place s ∙ was.many)

-- after some reads
pub stop_since : {R F Z : Type 0} (remaining : R → Option (List ℕ)) (contents : F → Option (List ℕ)) (v mid : Seen) (readers now last : List R) (files written : List F) (why : Stop Z)
    → GoesOnReading remaining contents v readers files mid now written → IsStopSince remaining mid now last why → IsStopSince remaining v readers last why
stop_since remaining contents v mid readers now last files written why was is first read =
    subst (λ (c : Content). IsStop remaining c first last why) was.of.table (is first (was.read first read))

-- ---- nothing is taken

same_bytes : (i j : Intake) → i ≡ j → HasSameBytes i j
same_bytes i j is = record { port = ap (λ (x : Intake). x.port) (sym is); bytes = ap (λ (x : Intake). x.bytes) (sym is); closed = ap (λ (x : Intake). x.closed) (sym is) }

pub parts_none : {F : Type 0} (contents : F → Option (List ℕ)) (v : Seen) (files : List F) → IsOfTable v.table v → TakesParts contents v files v files
parts_none contents v files of = record {
  of = of;
  same = (refl, λ place i j at there. same_bytes i j (same_Some i j (sym at ∙ there)));
  many = refl;
  taken = λ start have. have;
  accepted = refl;
}

-- ---- a whole run

-- both go on, one after the other
pub reads_both : {R F : Type 0} → CallsGoOn → (remaining : R → Option (List ℕ)) (contents : F → Option (List ℕ)) (v mid later : Seen) (readers now : List R)
    (files written : List F) (more : Bool) (last : List R)
    → GoesOnReading remaining contents v readers files mid now written → ReadsTo remaining mid now more later last → GoesOnReading remaining contents v readers files later last written
reads_both calls remaining contents v mid later readers now files written more last was on = record {
  of = subst (λ (c : Content). IsOfTable c later) was.of.table on.of;
  many = on.many ∙ was.many;
  long = was.long;
  read = λ first read. on.read first (was.read first read);
  taken = λ start have. taken_on calls contents mid later start written on.on (was.taken start have);
  accepted = on.on.accepted ∙ was.accepted;
}

same_read : {R : Type 0} (remaining : R → Option (List ℕ)) (v later : Seen) (first now : List R) → HaveSameBytes v.intakes later.intakes → AreReadUpTo remaining v first now
    → AreReadUpTo remaining later first now
same_read remaining v later first now same was = record {
  many = was.many;
  each = λ place j r s is_j is_r is_s.
      let lt = slice_get_within later.intakes place j is_j in
      let long = same.0 in
      let i = at_place v.intakes place (omega (arith, lt, long)) in
      let bytes = same.1 place i.0 j i.1 is_j in
      let read = was.each place i.0 r s i.1 is_r is_s in
      record { bytes = subst (Consumes (remaining r) (remaining s)) (sym bytes.bytes) read.bytes; ended = λ closed. read.ended (sym bytes.closed ∙ closed) };
}

pub takes_both : {R F : Type 0} (remaining : R → Option (List ℕ)) (contents : F → Option (List ℕ)) (v mid later : Seen) (readers now : List R) (files written after : List F)
    → GoesOnReading remaining contents v readers files mid now written → TakesParts contents mid written later after → GoesOnReading remaining contents v readers files later now after
takes_both remaining contents v mid later readers now files written after was takes = record {
  of = subst (λ (c : Content). IsOfTable c later) was.of.table takes.of;
  many = was.many;
  long = takes.many ∙ was.long;
  read = λ first read. same_read remaining mid later first now takes.same (was.read first read);
  taken = λ start have. takes.taken start (was.taken start have);
  accepted = takes.accepted ∙ was.accepted;
}

pub reads_none : {R F : Type 0} (remaining : R → Option (List ℕ)) (contents : F → Option (List ℕ)) (v : Seen) (readers : List R) (files : List F) → IsOfTable v.table v
    → GoesOnReading remaining contents v readers files v readers files
reads_none remaining contents v readers files of = record { of = of; many = refl; long = refl; read = λ first read. read; taken = λ start have. have; accepted = refl }

-- one more read, of which this was taken
pub reads_into : {R F : Type 0} → CallsGoOn → (remaining : R → Option (List ℕ)) (contents : F → Option (List ℕ)) (v mid later : Seen) (readers now : List R) (files written : List F) (more : Bool)
    → IsOfTable v.table v → ReadsTo remaining v readers more mid now → TakesParts contents mid files later written → ReadsOn remaining contents v readers files more later now written
reads_into calls remaining contents v mid later readers now files written more of on takes = record {
  on = takes_both remaining contents v mid later readers now files files written
      (reads_both calls remaining contents v v mid readers readers files files more now (reads_none remaining contents v readers files of) on) takes;
  all = on.all;
}

-- one after the other
pub reads_then : {R F : Type 0} (remaining : R → Option (List ℕ)) (contents : F → Option (List ℕ)) (v mid later : Seen) (readers now last : List R) (files written after : List F)
    → GoesOnReading remaining contents v readers files mid now written → GoesOnReading remaining contents mid now written later last after
    → GoesOnReading remaining contents v readers files later last after
reads_then remaining contents v mid later readers now last files written after was on = record {
  of = subst (λ (c : Content). IsOfTable c later) was.of.table on.of;
  many = on.many ∙ was.many;
  long = on.long ∙ was.long;
  read = λ first read. on.read first (was.read first read);
  taken = λ start have. on.taken start (was.taken start have);
  accepted = on.accepted ∙ was.accepted;
}

-- the next capture is that of one of the readers
pub next_within : {R F : Type 0} (remaining : R → Option (List ℕ)) (contents : F → Option (List ℕ)) (v mid : Seen) (readers now : List R) (files written : List F) (numbers : List ℕ)
    (place port : ℕ) → numbers ≡ map (λ (p : PortRow). p.id) v.table.ports → length readers ≡ length numbers → GoesOnReading remaining contents v readers files mid now written
    → IsNextAt mid numbers place port → (first : List R) → AreReadUpTo remaining v first readers → (place < length first) × (length now ≡ length first)
next_within remaining contents v mid readers now files written numbers place port are long was next first read =
    (subst (λ n. place < n) up.many lt, up.many) where
      up : AreReadUpTo remaining mid first now
      up = was.read first read

      of : IsOfTable mid.table mid
      of = record {
        table = refl;
        rises = subst (λ (c : Content). Rises c.ports) (sym was.of.table) was.of.rises;
        ports = was.of.ports ∙ ap (λ (c : Content). map (λ (q : PortRow). q.id) c.ports) (sym was.of.table);
        none_failed = was.of.none_failed;
      }

      lt : place < length now
      lt = place_within mid numbers now port place of (are ∙ ap (λ (c : Content). map (λ (q : PortRow). q.id) c.ports) (sym was.of.table)) (was.many ∙ long) next.place_is

-- ---- at first

fresh_ports : (ports : List PortRow) → ports_in (map fresh_intake ports) ≡ map (λ (p : PortRow). p.id) ports
fresh_ports [] = refl
fresh_ports (p ∷ ports) = ap (λ ns. p.id ∷ ns) (fresh_ports ports)

pub of_fresh : (accepted : Bool) (t : Content) → Rises t.ports → IsOfTable t (fresh_session accepted t)
of_fresh accepted t rises = record { table = refl; rises = rises; ports = fresh_ports t.ports; none_failed = refl }

pub read_fresh : {R : Type 0} (remaining : R → Option (List ℕ)) (accepted : Bool) (t : Content) (readers : List R) → AreReadUpTo remaining (fresh_session accepted t) readers readers
read_fresh {R} remaining accepted t readers = record {
  many = refl;
  each = λ place i r s is_i is_r is_s.
      let from = mapped_from fresh_intake t.ports place i is_i in
      let same : r ≡ s = same_Some r s (sym is_r ∙ is_s) in
      record {
        bytes = subst (λ (x : R). Consumes (remaining r) (remaining x) i.bytes) same
            (subst (Consumes (remaining r) (remaining r)) (ap (λ (x : Intake). x.bytes) from.2) (Consumes-nil (remaining r)));
        ended = λ closed. let none : false ≡ true = ap (λ (x : Intake). x.closed) from.2 ∙ closed in absurd cc;
      };
}

pub taken_fresh : {F : Type 0} → NothingWasTaken → (contents : F → Option (List ℕ)) (accepted : Bool) (t : Content) (files : List F) → Rises t.ports
    → HaveTaken contents (fresh_session accepted t) files files
taken_fresh {F} nothing contents accepted t files rises = record {
  long = refl;
  each = λ place p f g is_p is_f is_g. record {
    taken = [];
    were = record { before = fresh_session accepted t; was = nothing accepted t p.id p (row_found t.ports place p rises is_p); on = on_same (fresh_session accepted t); same = refl };
    appended = subst (λ (x : F). Appends (contents f) (contents x) []) (same_Some f g (sym is_f ∙ is_g)) (Appends-nil (contents f));
  };
}

-- ---- at last

-- all that the readers gave came
pub all_read : {R : Type 0} (remaining : R → Option (List ℕ)) (t : Content) (v : Seen) (first now : List R) → IsOfTable t v → length first ≡ length t.ports → AreReadUpTo remaining v first now
    → AreAtEnd remaining now → AreRead remaining first (texts_in v)
all_read remaining t v first now of long was end = record {
  many = length-map v.intakes text_in ∙ intakes_long t v of ∙ sym long;
  each = λ place r text is_r is_text.
      let from = mapped_from text_in v.intakes place text is_text in
      let lt = slice_get_within first place r is_r in
      let many = was.many in
      let s = at_place now place (omega (arith, lt, many)) in
      let read = was.each place from.0 r s.0 from.1 is_r s.1 in
      subst (λ (x : Text). AreGiven (remaining r) x.1) from.2 (Consumes-whole (remaining r) (remaining s.0) from.0.bytes (λ all. from.0.bytes ≡ all) read.bytes (end place s.0 s.1) refl);
}

-- the fault of the first of them that is no capture
pub last_fault : {R : Type 0} (remaining : R → Option (List ℕ)) (t : Content) (v : Seen) (first now : List R) (fault : RunFault) → IsOfTable t v → length first ≡ length t.ports
    → AreReadUpTo remaining v first now → AreAtEnd remaining now → IsReadFault (texts_in v) fault → IsSourceFault remaining t first (source_fault fault)
last_fault remaining t v first now run.Memory of long was end is = tt
last_fault remaining t v first now (run.Capture port why) of long was end is =
    record { texts = texts_in v; ports = ports_of_texts v.intakes ∙ of.ports; read = all_read remaining t v first now of long was end; first = is }
last_fault remaining t v first now run.WrongPorts of long was end is = absurd is
last_fault remaining t v first now run.Closed of long was end is = absurd is
last_fault remaining t v first now run.Failed of long was end is = absurd is

-- where no capture is waited for, all have ended
pub ended_of : {R F : Type 0} (remaining : R → Option (List ℕ)) (contents : F → Option (List ℕ)) (v mid : Seen) (numbers : List ℕ) (readers now : List R) (files written : List F)
    → numbers ≡ map (λ (p : PortRow). p.id) v.table.ports → length readers ≡ length numbers → GoesOnReading remaining contents v readers files mid now written
    → (mid.failed ≡ true) ⊎ AllByRecursion (λ (i : Intake). i.closed ≡ true) mid.intakes
    → (first : List R) → AreReadUpTo remaining v first readers → AreAtEnd remaining now
ended_of remaining contents v mid numbers readers now files written are long was (inl failed) first read = absurd (both_ways mid.failed was.of.none_failed failed)
ended_of remaining contents v mid numbers readers now files written are long was (inr ended) first read =
    ended_at_end remaining mid first now many ended (was.read first read) where
      many : length now ≡ length mid.intakes
      many = was.many ∙ long ∙ ap (λ (ns : List ℕ). length ns) are ∙ length-map v.table.ports (λ (p : PortRow). p.id) ∙ sym (intakes_long v.table mid was.of)

-- ---- from the first read to the last

-- a session that was fed nothing read all
record ReadsAll {R F : Type 0} (remaining : R → Option (List ℕ)) (contents : F → Option (List ℕ)) (t : Content) (readers now : List R) (files written : List F) (later : Seen) : Type 0 where
  of : IsOfTable t later
  read : AreReadUpTo remaining later readers now
  end : AreAtEnd remaining now
  taken : HaveTaken contents later files written

reads_all : {R F : Type 0} → NothingWasTaken → (remaining : R → Option (List ℕ)) (contents : F → Option (List ℕ)) (accepted : Bool) (t : Content) (v later : Seen) (readers now : List R)
    (files written : List F) → Rises t.ports → v ≡ fresh_session accepted t → GoesOnReading remaining contents v readers files later now written
    → ((first : List R) → AreReadUpTo remaining v first readers → AreAtEnd remaining now) → ReadsAll remaining contents t readers now files written later
reads_all {R} nothing remaining contents accepted t v later readers now files written rises is was ends =
    let on = subst (λ (w : Seen). GoesOnReading remaining contents w readers files later now written) is was in
    let first = read_fresh remaining accepted t readers in
    record {
      of = on.of;
      read = on.read readers first;
      end = subst (λ (w : Seen). (first : List R) → AreReadUpTo remaining w first readers → AreAtEnd remaining now) is ends readers first;
      taken = on.taken files (taken_fresh nothing contents accepted t files rises);
    }

pub runs_from : {R F : Type 0} → NothingWasTaken → (remaining : R → Option (List ℕ)) (contents : F → Option (List ℕ)) (accepted : Bool) (t : Content) (v later : Seen) (readers now : List R)
    (files written after : List F) (counts : Tally) (s : State) → Rises t.ports → v ≡ fresh_session accepted t → length readers ≡ length t.ports
    → GoesOnReading remaining contents v readers files later now written
    → ((first : List R) → AreReadUpTo remaining v first readers → AreAtEnd remaining now) → IsFinishedInto contents later written after counts
    → IsDoneOf later.accepted later.table (texts_in later) s
    → (texts : List Text) × AreRead remaining readers texts × IsWritten contents t texts files after counts × IsMeasuredRun accepted t texts counts s
runs_from nothing remaining contents accepted t v later readers now files written after counts s rises is long was ends finished done =
    let all = reads_all nothing remaining contents accepted t v later readers now files written rises is was ends in
    let texts = texts_in later in
    let outcome = subst (λ (c : Content). IsOutcome c texts finished.whole) all.of.table finished.outcome in
    let cleared = was.accepted ∙ ap (λ (w : Seen). w.accepted) is in (
      texts,
      all_read remaining t later readers now all.of long all.read all.end,
      record { results = finished.whole; outcome = outcome; counted = finished.counted; appended = finished.appended files all.taken },
      record {
        done = subst (λ (b : Bool). IsDoneOf b t texts s) cleared (subst (λ (c : Content). IsDoneOf later.accepted c texts s) all.of.table done);
        whole = finished.whole;
        outcome = outcome;
        counted = finished.counted;
      },
    )

-- it was not finished for its bytes
pub not_finished : (t : Content) (v : Seen) (fault : RunFault) → IsOfTable t v → IsNotFinishedInto v fault → IsReadFault (texts_in v) fault
not_finished t v fault of (inl failed) = absurd (both_ways v.failed of.none_failed failed.0)
not_finished t v fault of (inr why) = why.1

pub fault_from : {R F : Type 0} → NothingWasTaken → (remaining : R → Option (List ℕ)) (contents : F → Option (List ℕ)) (accepted : Bool) (t : Content) (v later : Seen) (readers now : List R)
    (files written : List F) (fault : RunFault) → Rises t.ports → v ≡ fresh_session accepted t → length readers ≡ length t.ports
    → GoesOnReading remaining contents v readers files later now written
    → ((first : List R) → AreReadUpTo remaining v first readers → AreAtEnd remaining now) → IsNotFinishedInto later fault → IsSourceFault remaining t readers (source_fault fault)
fault_from nothing remaining contents accepted t v later readers now files written fault rises is long was ends why =
    let all = reads_all nothing remaining contents accepted t v later readers now files written rises is was ends in
    last_fault remaining t later readers now fault all.of long all.read all.end (not_finished t later fault all.of why)

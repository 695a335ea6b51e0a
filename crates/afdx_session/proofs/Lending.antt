-- Captures that come whole, one lane after the other.
use Rattle.std.proofs.Common.{◌≡◌, ℕ, zero, suc, ◌+◌, ◌<◌, ◌≤◌, Bool, true, false, List, [], ◌∷◌, ◌++◌, map, length, get_or, set, slice_get, Some, Vec, refl, ap, sym, ◌∙◌, arith, subst}
use Rattle.std.proofs.Common.{drop, option_map}
use Rattle.std.specs.List.{AllByRecursion}
use Rattle.std.proofs.lemmas.List.{length-map}
use Rattle.std.proofs.lemmas.Option.{same_Some, slice_get-map, slice_get-get_or}
use Rattle.std.proofs.lemmas.Bool.{both_ways}
use Rattle.std.proofs.Math.Numerals.{suc-eq-add-one}
use Rattle.afdx_pcap.specs.Record.{Record}
use Rattle.afdx_pcap.specs.Capture.{IsCapture}
use Rattle.afdx_pcap.specs.Reading.{HasTaken, whole_reading}
use Rattle.afdx_pcap.specs.Reading as pcap
use Rattle.afdx_table.specs.declared.rows.PortRow.{PortRow}
use Rattle.afdx_core.specs.Inner.Merge.{ByStampIsOrdered, MergedIsAMerge, MergedIsByStampAndPort}
use Rattle.afdx_session.specs.declared.lane.Lane.{Lane}
use Rattle.afdx_session.specs.declared.machine.Machine.{Machine}
use Rattle.afdx_session.specs.declared.plan.RunFault.{RunFault}
use Rattle.afdx_session.specs.declared.plan.RunFault.TheVariants as run
use Rattle.afdx_session.specs.Texts.{Text, texts_of, AreOfPorts}
use Rattle.afdx_session.specs.Reading.{IsFaultAt}
use Rattle.afdx_session.specs.Inner.Lanes.{IsStill, IsReadOn, HasReadAll, Adds, HasDrawn}
use Rattle.afdx_session.specs.Inner.Lent.{IsOver, texts_over, taken_by, IsOneFault}
use Rattle.afdx_session.specs.Inner.Kept.{AreOfTable, IsGoing, AreTouched}
use Rattle.afdx_session.specs.Inner.View.{IsFreshLane, AreFreshLanes, AreLent, AreSettledLanes}
use Rattle.afdx_session.proofs.Going.{reads_on}
use Rattle.afdx_session.proofs.Intakes.{still_of_table}

-- ---- one lane

-- nothing is taken at first
taken_none : (bytes : List ℕ) (records : List Record) → length records ≡ 0 → HasTaken (record { bytes = bytes; given = 0 }) records
taken_none bytes [] count = record { first = tt; count = count }
taken_none bytes (r ∷ records) count = absurd (omega (arith, count))

pub adds_lent : {Z : Type 0} (old mid new : Lane Z) (text : List ℕ) (more : List Record) → IsFreshLane old.port old → mid.reader ≡ whole_reading text 0 → mid.last ≡ old.last → mid.waiting
    ≡ old.waiting
    → Adds mid new more → Adds old new more
adds_lent old mid new text more fresh lent last waiting adds = record {
  queue = adds.queue ∙ ap (λ w. w.items ++ more) waiting;
  read = λ records was. adds.read records (record {
    no_fault = ap (λ r. r.fault) lent;
    taken = subst (λ (r : pcap.Reading). HasTaken (record { bytes = r.bytes; given = r.given }) records) (sym lent) (taken_none text records (was.taken.count ∙ ap (λ r. r.given) fresh.reader));
    last = last ∙ was.last;
  });
}

-- a lane whose last record has gone reads the next one
pub draws_over : {Z : Type 0} (found : Bool) (old new : Lane Z) → old.reader.closed ≡ true → old.ended ≡ false → old.waiting.items ≡ [] → IsReadOn old new → HasDrawn found old new
    → IsOver new
draws_over true old new closed still_open none on drawn = record {
  closed = on.ended ∙ closed;
  head = λ is. (drawn.frame, drawn.adds.queue ∙ ap (λ rs. rs ++ drawn.frame ∷ []) none, drawn.last);
  read = λ is. absurd (both_ways new.ended (drawn.ended ∙ still_open) is);
}
draws_over false old new closed still_open none on drawn = record {
  closed = on.ended ∙ closed;
  head = λ is. absurd (both_ways new.ended is (drawn.read.ended ∙ on.ended ∙ closed));
  read = λ is. (drawn.adds.queue ∙ ap (λ rs. rs ++ []) none, drawn.read);
}

pub drawn_adds : {Z : Type 0} (found : Bool) (old new : Lane Z) → HasDrawn found old new → (more : List Record) × Adds old new more
drawn_adds true old new drawn = (drawn.frame ∷ [], drawn.adds)
drawn_adds false old new drawn = ([], drawn.adds)

pub lends_first : {Z : Type 0} (found : Bool) (old mid new : Lane Z) (text : List ℕ) → IsFreshLane old.port old → mid.reader ≡ whole_reading text 0 → mid.last ≡ old.last → mid.waiting ≡ old.waiting
    → mid.ended ≡ old.ended → IsReadOn mid new → HasDrawn found mid new
    → ((more : List Record) × Adds old new more) × IsOver new
lends_first found old mid new text fresh lent last waiting ended on drawn =
    let added = drawn_adds found mid new drawn in (
      (added.0, adds_lent old mid new text added.0 fresh lent last waiting added.1),
      draws_over found mid new (ap (λ r. r.closed) lent) (ended ∙ fresh.ended) (ap (λ w. w.items) waiting ∙ fresh.waiting) on drawn,
    )

-- a lane is over a text
abbrev pub IsOn : {Z : Type 0} → Text → Lane Z → Type 0
IsOn text l = (l.port ≡ text.0) × (l.reader.bytes ≡ text.1) × IsOver l

-- ---- one after the other

-- those before a place have theirs, the others have nothing
abbrev pub LentUpTo : {Z : Type 0} → ℕ → List Text → List (Lane Z) → Type 0
LentUpTo n [] [] = Unit {0}
LentUpTo n [] (l ∷ lanes) = ⊥
LentUpTo n (text ∷ texts) [] = ⊥
LentUpTo zero (text ∷ texts) (l ∷ lanes) = (l.port ≡ text.0) × IsFreshLane l.port l × LentUpTo zero texts lanes
LentUpTo (suc n) (text ∷ texts) (l ∷ lanes) = IsOn text l × LentUpTo n texts lanes

lent_none : {Z : Type 0} (texts : List Text) (ports : List PortRow) (lanes : List (Lane Z)) → map (λ (text : Text). text.0) texts ≡ map (λ (p : PortRow). p.id) ports → AreFreshLanes ports lanes
    → LentUpTo 0 texts lanes
lent_none [] [] [] same fresh = tt
lent_none [] [] (l ∷ lanes) same fresh = absurd fresh
lent_none [] (p ∷ ports) lanes same fresh = absurd cc
lent_none (text ∷ texts) [] lanes same fresh = absurd cc
lent_none (text ∷ texts) (p ∷ ports) [] same fresh = absurd fresh
lent_none {Z} (text ∷ texts) (p ∷ ports) (l ∷ lanes) same fresh =
    (fresh.0.port_is ∙ sym (ap (λ (ns : List ℕ). get_or ns 0 0) same), subst (λ n. IsFreshLane n l) (sym fresh.0.port_is) fresh.0, lent_none texts ports lanes (ap (drop 1) same) fresh.1)

-- the next lane is a fresh one
pub record IsNextOf {Z : Type 0} (texts : List Text) (n : ℕ) (l : Lane Z) : Type 0 where
  pub text : Text
  pub at : slice_get texts n ≡ Some text
  pub port : l.port ≡ text.0
  pub fresh : IsFreshLane l.port l

next_lane : {Z : Type 0} (n : ℕ) (texts : List Text) (lanes : List (Lane Z)) (l : Lane Z) → LentUpTo n texts lanes → slice_get lanes n ≡ Some l → IsNextOf texts n l
next_lane n [] [] l lent at = absurd cc
next_lane n [] (m ∷ lanes) l lent at = absurd lent
next_lane n (text ∷ texts) [] l lent at = absurd lent
next_lane {Z = Z} zero (text ∷ texts) (m ∷ lanes) l lent at = subst (λ (x : Lane Z). IsNextOf (text ∷ texts) 0 x) (same_Some m l at) (record { text = text; at = refl; port = lent.0; fresh = lent.1 })
next_lane (suc n) (text ∷ texts) (m ∷ lanes) l lent at = let next = next_lane n texts lanes l lent.1 at in record { text = next.text; at = next.at; port = next.port; fresh = next.fresh }

lent_suc : {Z : Type 0} (n : ℕ) (texts : List Text) (lanes : List (Lane Z)) (text : Text) (new : Lane Z) → LentUpTo n texts lanes → slice_get texts n ≡ Some text → IsOn text new
    → LentUpTo (suc n) texts (set lanes n new)
lent_suc n [] [] text new lent at is = absurd cc
lent_suc n [] (m ∷ lanes) text new lent at is = absurd lent
lent_suc n (other ∷ texts) [] text new lent at is = absurd lent
lent_suc {Z} zero (other ∷ texts) (m ∷ lanes) text new lent at is = (subst (λ (t : Text). IsOn t new) (sym (same_Some other text at)) is, lent.2)
lent_suc (suc n) (other ∷ texts) (m ∷ lanes) text new lent at is = (lent.0, lent_suc n texts lanes text new lent.1 at is)

lent_all : {Z : Type 0} (n : ℕ) (texts : List Text) (lanes : List (Lane Z)) → length lanes ≤ n → LentUpTo n texts lanes → AllByRecursion IsOver lanes × (texts_over lanes ≡ texts)
lent_all n [] [] le lent = (tt, refl)
lent_all n [] (l ∷ lanes) le lent = absurd lent
lent_all n (text ∷ texts) [] le lent = absurd lent
lent_all zero (text ∷ texts) (l ∷ lanes) le lent = absurd (omega (arith, le))
lent_all (suc n) (text ∷ texts) (l ∷ lanes) le lent =
    let rest = lent_all n texts lanes (omega (arith, le)) lent.1 in (
      (lent.0.2, rest.0),
      ap (λ m. (m, l.reader.bytes) ∷ texts_over lanes) lent.0.0 ∙ ap (λ bytes. (text.0, bytes) ∷ texts_over lanes) lent.0.1 ∙ ap (λ ts. text ∷ ts) rest.1,
    )

-- ---- the machine

pub ports_stay : {Z : Type 0} (lanes : List (Lane Z)) (k : ℕ) (old new : Lane Z) → slice_get lanes k ≡ Some old → new.port ≡ old.port → map (λ (l : Lane Z). l.port) (set lanes k new)
    ≡ map (λ (l : Lane Z). l.port) lanes
ports_stay [] k old new at port = absurd cc
ports_stay {Z = Z} (l ∷ lanes) zero old new at port = ap (λ n. n ∷ map (λ (x : Lane Z). x.port) lanes) (port ∙ ap (λ (x : Lane Z). x.port) (sym (same_Some l old at)))
ports_stay {Z = Z} (l ∷ lanes) (suc k) old new at port = ap (λ ns. l.port ∷ ns) (ports_stay lanes k old new at port)

pub taken_stays : {Z : Type 0} (lanes : List (Lane Z)) (k : ℕ) (old new : Lane Z) → slice_get lanes k ≡ Some old → new.taken ≡ old.taken → taken_by (set lanes k new) ≡ taken_by lanes
taken_stays [] k old new at taken = absurd cc
taken_stays {Z = Z} (l ∷ lanes) zero old new at taken = ap (λ n. n ∷ taken_by lanes) (taken ∙ ap (λ (x : Lane Z). x.taken) (sym (same_Some l old at)))
taken_stays (l ∷ lanes) (suc k) old new at taken = ap (λ ns. l.taken ∷ ns) (taken_stays lanes k old new at taken)

pub record Lends {Z : Type 0} (start : Machine Z) (texts : List Text) (now : List (Lane Z)) (n : ℕ) : Type 0 where
  pub lent : LentUpTo n texts now
  pub of : AreOfTable start.switch.run.table now
  pub going : IsGoing start.switch.run.table now start.switch start.counts
  pub taken : taken_by now ≡ taken_by start.lanes.items

pub lends_none : {Z : Type 0} (start : Machine Z) (texts : List Text) → map (λ (text : Text). text.0) texts ≡ map (λ (p : PortRow). p.id) start.switch.run.table.ports
    → AreFreshLanes start.switch.run.table.ports start.lanes.items → AreOfTable start.switch.run.table start.lanes.items
    → IsGoing start.switch.run.table start.lanes.items start.switch start.counts → Lends start texts start.lanes.items 0
lends_none start texts ports fresh of going = record { lent = lent_none texts start.switch.run.table.ports start.lanes.items ports fresh; of = of; going = going; taken = refl }

pub lends_next : {Z : Type 0} (start : Machine Z) (texts : List Text) (now : List (Lane Z)) (n : ℕ) (l : Lane Z) → Lends start texts now n → slice_get now n ≡ Some l → IsNextOf texts n l
lends_next start texts now n l lends at = next_lane n texts now l lends.lent at

pub lends_one : {Z : Type 0} → ByStampIsOrdered → MergedIsAMerge → MergedIsByStampAndPort
    → (start : Machine Z) (texts : List Text) (now : List (Lane Z)) (n : ℕ) (old new : Lane Z) (text : Text) (more : List Record)
    → Lends start texts now n → slice_get now n ≡ Some old → slice_get texts n ≡ Some text
    → IsStill old new → new.reader.bytes ≡ text.1 → Adds old new more → IsOver new → Lends start texts (set now n new) (n + 1)
lends_one {Z = Z} ordered merge sorted start texts now n old new text more lends at text_at still bytes adds over =
    let next = next_lane n texts now old lends.lent at in
    let same = same_Some next.text text (sym next.at ∙ text_at) in
    let is : IsOn text new = (still.port ∙ next.port ∙ ap (λ (t : Text). t.0) same, bytes, over) in
    record {
      lent = subst (λ k. LentUpTo k texts (set now n new)) (suc-eq-add-one n) (lent_suc n texts now text new lends.lent text_at is);
      of = still_of_table start.switch.run.table now (set now n new) (ports_stay now n old new at still.port) lends.of;
      going = reads_on ordered merge sorted start.switch.run.table now start.switch start.counts n old new more lends.of at next.fresh.ended still.port (ap (λ o. o.items) still.out) still.taken adds
          lends.going;
      taken = taken_stays now n old new at still.taken ∙ lends.taken;
    }

-- the text at a place has a fault
pub lends_fault : {Z : Type 0} (start : Machine Z) (texts : List Text) (now : List (Lane Z)) (n : ℕ) (old : Lane Z) (text : Text) (fault : RunFault) → Lends start texts now n → slice_get now n
    ≡ Some old → slice_get texts n ≡ Some text → IsFaultAt text.1 old.port fault → IsOneFault texts fault
lends_fault start texts now n old text run.Memory lends at text_at is = tt
lends_fault start texts now n old text (run.Capture port why) lends at text_at is =
    let next = next_lane n texts now old lends.lent at in
    let same : text.0 ≡ port = ap (λ (t : Text). t.0) (sym (same_Some next.text text (sym next.at ∙ text_at))) ∙ sym next.port ∙ sym is.0 in
    (n, text.1, text_at ∙ ap (λ m. Some (m, text.1)) same, is.1)
lends_fault start texts now n old text run.WrongPorts lends at text_at is = is
lends_fault start texts now n old text run.Closed lends at text_at is = is
lends_fault start texts now n old text run.Failed lends at text_at is = is

pub lends_all : {Z : Type 0} (start : Machine Z) (texts : List Text) (now : List (Lane Z)) (n : ℕ) → length now ≤ n → Lends start texts now n → AllByRecursion IsOver now × (texts_over now ≡ texts)
lends_all start texts now n le lends = lent_all n texts now le lends.lent

-- there are as many captures as lanes
pub as_many : {Z Y : Type 0} (f : Y → Text) (lanes : List (Lane Z)) (ports : List PortRow) (captures : List Y) → map (λ (l : Lane Z). l.port) lanes ≡ map (λ (p : PortRow). p.id) ports
    → map (λ (text : Text). text.0) (map f captures) ≡ map (λ (p : PortRow). p.id) ports → length captures ≡ length lanes
as_many f lanes ports captures of are =
    let a = sym (length-map lanes (λ l. l.port)) ∙ ap (λ (ns : List ℕ). length ns) of ∙ length-map ports (λ p. p.id) in
    let b = sym (length-map captures f) ∙ sym (length-map (map f captures) (λ text. text.0)) ∙ ap (λ (ns : List ℕ). length ns) are ∙ length-map ports (λ p. p.id) in
    omega (arith, a, b)

-- the capture at the place of a lane
pub text_at : {Z : Type 0} (start : Machine Z) (captures : List (ℕ × Vec ℕ Z)) (n : ℕ) (d : ℕ × Vec ℕ Z) → AreOfTable start.switch.run.table start.lanes.items
    → AreOfPorts start.switch.run.table (texts_of captures) → n < length start.lanes.items
    → slice_get (texts_of captures) n ≡ Some ((get_or captures n d).0, (get_or captures n d).1.items)
text_at {Z} start captures n d of ports lt = slice_get-map text captures n ∙ ap (option_map text) (slice_get-get_or captures n d (omega (arith, lt, many))) where
  text : ℕ × Vec ℕ Z → Text
  text p = (p.0, p.1.items)

  many : length captures ≡ length start.lanes.items
  many = as_many text start.lanes.items start.switch.run.table.ports captures of.ports ports

-- ---- all have ended

whole_text : {Z : Type 0} (l : Lane Z) → IsOver l → l.ended ≡ true → (records : List Record) × IsCapture l.reader.bytes records
whole_text l over ended =
    let sound = subst (pcap.IsSound l.reader.bytes l.reader.given) over.closed (over.read ended).1.sound in (sound.0, sound.1)

-- what goes on and is settled is still lent
pub lent_settled : {Z : Type 0} (texts : List Text) (a b c : List (Lane Z)) → AreLent texts a → AreTouched a b → AreSettledLanes b c → AreLent texts c
lent_settled [] [] [] [] lent touched settled = tt
lent_settled [] [] [] (n ∷ c) lent touched settled = absurd settled
lent_settled [] [] (m ∷ b) c lent touched settled = absurd touched
lent_settled [] (l ∷ a) b c lent touched settled = absurd lent
lent_settled (text ∷ texts) [] b c lent touched settled = absurd lent
lent_settled (text ∷ texts) (l ∷ a) [] c lent touched settled = absurd touched
lent_settled (text ∷ texts) (l ∷ a) (m ∷ b) [] lent touched settled = absurd settled
lent_settled (text ∷ texts) (l ∷ a) (m ∷ b) (n ∷ c) lent touched settled =
    let reader = settled.0.reader ∙ touched.0.reader in (
      record {
        port = settled.0.port ∙ touched.0.port ∙ lent.0.port;
        bytes = ap (λ r. r.bytes) reader ∙ lent.0.bytes;
        closed = ap (λ r. r.closed) reader ∙ lent.0.closed;
        sound = lent.0.sound;
        taken = settled.0.taken ∙ touched.0.taken ∙ lent.0.taken;
      },
      lent_settled texts a b c lent.1 touched.1 settled.1,
    )

-- where all have ended, they are lent
pub over_lent : {Z : Type 0} (lanes : List (Lane Z)) → AllByRecursion IsOver lanes → AllByRecursion (λ (l : Lane Z). l.ended ≡ true) lanes → AllByRecursion (λ (l : Lane Z). l.taken ≡ 0) lanes
    → AreLent (texts_over lanes) lanes
over_lent [] over ended none = tt
over_lent (l ∷ lanes) over ended none = (
  record { port = refl; bytes = refl; closed = over.0.closed; sound = whole_text l over.0 ended.0; taken = none.0 },
  over_lent lanes over.1 ended.1 none.1,
)

-- nothing was taken of lanes that were fresh
pub none_taken : {Z : Type 0} (ports : List PortRow) (old new : List (Lane Z)) → AreFreshLanes ports old → taken_by new ≡ taken_by old → AllByRecursion (λ (l : Lane Z). l.taken ≡ 0) new
none_taken ports old [] fresh same = tt
none_taken [] [] (n ∷ new) fresh same = absurd cc
none_taken [] (l ∷ old) (n ∷ new) fresh same = absurd fresh
none_taken (p ∷ ports) [] (n ∷ new) fresh same = absurd fresh
none_taken (p ∷ ports) (l ∷ old) (n ∷ new) fresh same = (ap (λ (ns : List ℕ). get_or ns 0 0) same ∙ fresh.0.taken, none_taken ports old new fresh.1 (ap (drop 1) same))

-- and all was read
pub over_read : {Z : Type 0} (lanes : List (Lane Z)) → AllByRecursion IsOver lanes → AllByRecursion (λ (l : Lane Z). l.ended ≡ true) lanes → AllByRecursion HasReadAll lanes
over_read [] over ended = tt
over_read (l ∷ lanes) over ended = ((over.0.read ended.0).1, over_read lanes over.1 ended.1)

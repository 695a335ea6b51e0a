-- However captures come in pieces, and whenever output is taken: what was taken of a port is a prefix of its output.
use Rattle.std.proofs.Common.{◌≡◌, ℕ, zero, suc, ◌==◌, Bool, true, false, cond, List, [], ◌∷◌, ◌++◌, map, length, drop, Some, None, refl, ap, sym, ◌∙◌, arith, append_assoc, subst}
use Rattle.std.specs.Prelude.{find}
use Rattle.std.specs.List.{AllZip}
use Rattle.std.proofs.lemmas.List.{append-nil}
use Rattle.std.proofs.lemmas.Option.{same_Some}
use Rattle.std.proofs.lemmas.Bool.{eqb-true}
use Rattle.afdx_pcap.specs.declared.format.Format.{Format}
use Rattle.afdx_pcap.specs.Record.{Record}
use Rattle.afdx_pcap.specs.Capture.{Splits, IsCapture, after}
use Rattle.afdx_pcap.specs.Reading.{AreFirst}
use Rattle.afdx_table.specs.declared.rows.PortRow.{PortRow}
use Rattle.afdx_table.specs.Content.{Content, port_row}
use Rattle.afdx_port.specs.Inner.Admission.{EarlierEventsStayAdmitted}
use Rattle.afdx_port.specs.Inner.Order.{ReachesInOrder}
use Rattle.afdx_port.specs.Inner.Events.{SentGoesOn}
use Rattle.afdx_core.specs.Merge.{Capture, merged}
use Rattle.afdx_core.specs.Inner.Merge.{ByStampIsOrdered}
use Rattle.afdx_session.specs.declared.plan.RunFault.TheVariants as run
use Rattle.afdx_session.specs.Texts.{Text}
use Rattle.afdx_session.specs.Reading.{AreCaptures}
use Rattle.afdx_session.specs.Output.{output_text}
use Rattle.afdx_session.specs.Streams.{Stream, AreWhole, whole_of, text_so_far, GoOn}
use Rattle.afdx_session.specs.Session.{Intake, Seen, fresh_intake, AreStreams, HasGoneOut, taken_in, intake_at, taken_of, refusal_at, refusal, changed, fed, closed_intake, took, after_take}
use Rattle.afdx_session.specs.Session.{IsFedOn, AreFedOn}
use Rattle.afdx_session.specs.Finish.{text_in, texts_in, rest_of}
use Rattle.afdx_session.specs.Inner.Pieces.{GoesOnTo, CallsGoOn, WasTaken, NothingWasTaken, TakenStays, TakesJoin, IsContinued, bytes_in, capture_at, TakenIsAPrefix, TakesAndRestAreTheOutput}
use Rattle.afdx_session.proofs.Growing.{prefix_of_output}
use Rattle.afdx_session.proofs.WholeRecords.{RecordsStay, RecordsAreUnique, holds_prefix, go_on, grows_with_bytes, streams_unique}
use Rattle.afdx_session.proofs.Fresh.{fresh_stream, no_record}

abbrev is_of : ℕ → Intake → Bool
is_of port i = i.port == port

abbrev is_text_of : ℕ → Text → Bool
is_text_of port text = text.0 == port

abbrev is_row_of : ℕ → PortRow → Bool
is_row_of port p = p.id == port

-- ---- how a session goes on

fed_none : (i : Intake) → IsFedOn i i
fed_none i = record { port = refl; more = []; bytes = sym (append-nil i.bytes); ended = λ closed. (refl, closed) }

pub all_fed_none : (intakes : List Intake) → AreFedOn intakes intakes
all_fed_none [] = tt
all_fed_none (i ∷ intakes) = (fed_none i, all_fed_none intakes)

fed_both : (i n m : Intake) → IsFedOn i n → IsFedOn n m → IsFedOn i m
fed_both i n m one two = record {
  port = two.port ∙ one.port;
  more = one.more ++ two.more;
  bytes = two.bytes ∙ ap (λ xs. xs ++ two.more) one.bytes ∙ append_assoc i.bytes one.more two.more;
  ended = λ closed. let a = one.ended closed in let b = two.ended a.1 in (ap (λ xs. xs ++ two.more) a.0 ∙ b.0, b.1);
}

all_fed_both : (a b c : List Intake) → AreFedOn a b → AreFedOn b c → AreFedOn a c
all_fed_both [] [] c one two = two
all_fed_both [] (n ∷ b) c one two = absurd one
all_fed_both (i ∷ a) [] c one two = absurd one
all_fed_both (i ∷ a) (n ∷ b) [] one two = absurd two
all_fed_both (i ∷ a) (n ∷ b) (m ∷ c) one two = (fed_both i n m one.0 two.0, all_fed_both a b c one.1 two.1)

changed_fed : (port : ℕ) (f : Intake → Intake) (intakes : List Intake) → ((i : Intake) → find (is_of port) intakes ≡ Some i → IsFedOn i (f i)) → AreFedOn intakes (changed port f intakes)
changed_fed port f [] on = tt
changed_fed port f (i ∷ intakes) on = by (i.port == port) refl (λ more. changed_fed port f intakes more) where
  by : (b : Bool) → (i.port == port) ≡ b → (((j : Intake) → find (is_of port) intakes ≡ Some j → IsFedOn j (f j)) → AreFedOn intakes (changed port f intakes))
      → AreFedOn (i ∷ intakes) (changed port f (i ∷ intakes))
  by true here more =
      subst (λ b. AreFedOn (i ∷ intakes) (cond b (f i ∷ intakes) (i ∷ changed port f intakes))) (sym here)
      (on i (ap (λ b. cond b (Some i) (find (is_of port) intakes)) here), all_fed_none intakes)
  by false other more =
      subst (λ b. AreFedOn (i ∷ intakes) (cond b (f i ∷ intakes) (i ∷ changed port f intakes))) (sym other)
      (fed_none i, more (λ j found. on j (ap (λ b. cond b (Some i) (find (is_of port) intakes)) other ∙ found)))

not_closed : (failed closed : Bool) → cond failed (Some run.Failed) (cond closed (Some run.Closed) None) ≡ None → closed ≡ true → ⊥
not_closed true closed none is = absurd cc
not_closed false true none is = absurd cc
not_closed false false none is = absurd cc

fed_more : (v : Seen) (port : ℕ) (piece : List ℕ) (i : Intake) → refusal v port ≡ None → intake_at v port ≡ Some i → IsFedOn i (fed piece i)
fed_more v port piece i none found = record {
  port = refl;
  more = piece;
  bytes = refl;
  ended = λ closed. absurd (not_closed v.failed i.closed (sym (ap (λ o. cond v.failed (Some run.Failed) (refusal_at o)) found) ∙ none) closed);
}

pub calls_go_on : CallsGoOn
calls_go_on = record {
  feed = λ v port piece none. record { table = refl; fed = changed_fed port (fed piece) v.intakes (λ i found. fed_more v port piece i none found); begun = λ is. refl };
  close = λ v port. record {
    table = refl;
    fed = changed_fed port closed_intake v.intakes (λ i found. record { port = refl; more = []; bytes = sym (append-nil i.bytes); ended = λ closed. (refl, refl) });
    begun = λ is. refl;
  };
  take = λ v port n. record {
    table = refl;
    fed = changed_fed port (took n) v.intakes (λ i found. record { port = refl; more = []; bytes = sym (append-nil i.bytes); ended = λ closed. (refl, closed) });
    begun = λ is. is;
  };
  failure = λ v. record { table = refl; fed = all_fed_none v.intakes; begun = λ is. is };
  both = λ v later last one two. record {
    table = two.table ∙ one.table;
    fed = all_fed_both v.intakes later.intakes last.intakes one.fed two.fed;
    begun = λ is. two.begun (one.begun is);
  };
}

-- ---- at first

found_fresh : (ports : List PortRow) (port : ℕ) (p : PortRow) → find (is_row_of port) ports ≡ Some p → find (is_of port) (map fresh_intake ports) ≡ Some (fresh_intake p)
found_fresh [] port p found = absurd cc
found_fresh (q ∷ ports) port p found = by (q.id == port) refl (found_fresh ports port p) where
  by : (b : Bool) → (q.id == port) ≡ b → (find (is_row_of port) ports ≡ Some p → find (is_of port) (map fresh_intake ports) ≡ Some (fresh_intake p)) → find (is_of port) (map fresh_intake (q ∷ ports))
      ≡ Some (fresh_intake p)
  by true here more =
      ap (λ b. cond b (Some (fresh_intake q)) (find (is_of port) (map fresh_intake ports))) here
      ∙ ap (λ x. Some (fresh_intake x)) (same_Some q p (sym (ap (λ b. cond b (Some q) (find (is_row_of port) ports)) here) ∙ found))
  by false other more =
      ap (λ b. cond b (Some (fresh_intake q)) (find (is_of port) (map fresh_intake ports))) other
      ∙ more (sym (ap (λ b. cond b (Some q) (find (is_row_of port) ports)) other) ∙ found)

fresh_streams : (ports : List PortRow) → AreStreams (map fresh_intake ports) (map fresh_stream ports)
fresh_streams [] = tt
fresh_streams (p ∷ ports) = (record { port = refl; records = record { first = tt; none_left = no_record 0 }; closed = refl }, fresh_streams ports)

pub nothing_was_taken : NothingWasTaken
nothing_was_taken accepted t port p row = record {
  row = p;
  row_is = row;
  intake = fresh_intake p;
  intake_is = found_fresh t.ports port p row;
  count = refl;
  text = [];
  gone = record { streams = map fresh_stream t.ports; are = fresh_streams t.ports; text_is = refl };
  rest = [];
  prefix = refl;
}

-- ---- what has gone out later

-- what has gone out, from whether a call has brought something
abbrev gone : Content → List Stream → PortRow → Bool → List ℕ
gone t streams p begun = cond begun (text_so_far t streams p) []

grown : ByStampIsOrdered → EarlierEventsStayAdmitted → ReachesInOrder → SentGoesOn → RecordsStay → RecordsAreUnique → (v later : Seen) (p : PortRow) (text next : List ℕ) → GoesOnTo v later
    → HasGoneOut v p text → HasGoneOut later p next
    → (rest : List ℕ) × (next ≡ text ++ rest)
grown ordered stay reaches goes_on records unique v later p text next on was is = by v.begun refl where
  by : (b : Bool) → v.begun ≡ b → (rest : List ℕ) × (next ≡ text ++ rest)
  by false none = (next, ap (λ xs. xs ++ next) (sym (was.text_is ∙ ap (gone v.table was.streams p) none)))
  by true some =
      let more = grows_with_bytes ordered stay reaches goes_on records unique v.table v.intakes later.intakes was.streams is.streams p on.fed was.are is.are in (
        more.0,
        is.text_is ∙ ap (gone later.table is.streams p) (on.begun some) ∙ ap (λ t. text_so_far t is.streams p) on.table
            ∙ more.1 ∙ ap (λ xs. xs ++ more.0) (sym (was.text_is ∙ ap (gone v.table was.streams p) some)),
      )

found_later : (port : ℕ) (intakes later : List Intake) (i : Intake) → AreFedOn intakes later → find (is_of port) intakes ≡ Some i → (n : Intake) × (find (is_of port) later ≡ Some n)
found_later port [] later i on found = absurd cc
found_later port (j ∷ intakes) [] i on found = absurd on
found_later port (j ∷ intakes) (n ∷ later) i on found = by (j.port == port) refl (found_later port intakes later i on.1) where
  by : (b : Bool) → (j.port == port) ≡ b → (find (is_of port) intakes ≡ Some i → (m : Intake) × (find (is_of port) later ≡ Some m)) → (m : Intake) × (find (is_of port) (n ∷ later) ≡ Some m)
  by true here more = (n, ap (λ b. cond b (Some n) (find (is_of port) later)) (ap (λ k. k == port) on.0.port ∙ here))
  by false other more =
      let next = more (sym (ap (λ b. cond b (Some j) (find (is_of port) intakes)) other) ∙ found) in
      (next.0, ap (λ b. cond b (Some n) (find (is_of port) later)) (ap (λ k. k == port) on.0.port ∙ other) ∙ next.1)

-- a prefix of a prefix
prefix_on : (whole text taken rest more : List ℕ) → whole ≡ text ++ more → text ≡ taken ++ rest → whole ≡ taken ++ (rest ++ more)
prefix_on whole text taken rest more is prefix = is ∙ ap (λ xs. xs ++ more) prefix ∙ append_assoc taken rest more

pub taken_stays : ByStampIsOrdered → EarlierEventsStayAdmitted → ReachesInOrder → SentGoesOn → RecordsStay → RecordsAreUnique → TakenStays
taken_stays ordered stay reaches goes_on records unique v later port p taken text on same row gone_out was =
    let next = found_later port v.intakes later.intakes was.intake on.fed was.intake_is in
    let own : was.row ≡ p = same_Some was.row p (sym was.row_is ∙ row) in
    let was_gone : HasGoneOut v p was.text = subst (λ q. HasGoneOut v q was.text) own was.gone in
    let more = grown ordered stay reaches goes_on records unique v later p was.text text on was_gone gone_out in
    record {
      row = p;
      row_is = ap (λ t. port_row t port) on.table ∙ row;
      intake = next.0;
      intake_is = next.1;
      count = sym (ap taken_in next.1) ∙ same ∙ ap taken_in was.intake_is ∙ was.count;
      text = text;
      gone = gone_out;
      rest = was.rest ++ more.0;
      prefix = prefix_on text was.text taken was.rest more.0 more.1 was.prefix;
    }

-- ---- a take

drop_prefix : (xs ys : List ℕ) → drop (length xs) (xs ++ ys) ≡ ys
drop_prefix [] ys = refl
drop_prefix (x ∷ xs) ys = drop_prefix xs ys

took_streams : (port n : ℕ) (intakes : List Intake) (streams : List Stream) → AreStreams intakes streams → AreStreams (changed port (took n) intakes) streams
took_streams port n [] streams are = are
took_streams port n (i ∷ intakes) [] are = absurd are
took_streams port n (i ∷ intakes) (s ∷ streams) are = by (i.port == port) refl (took_streams port n intakes streams are.1) where
  by : (b : Bool) → (i.port == port) ≡ b → AreStreams (changed port (took n) intakes) streams → AreStreams (changed port (took n) (i ∷ intakes)) (s ∷ streams)
  by true here more =
      subst (λ b. AreStreams (cond b (took n i ∷ intakes) (i ∷ changed port (took n) intakes)) (s ∷ streams)) (sym here)
      (record { port = are.0.port; records = are.0.records; closed = are.0.closed }, are.1)
  by false other more =
      subst (λ b. AreStreams (cond b (took n i ∷ intakes) (i ∷ changed port (took n) intakes)) (s ∷ streams)) (sym other)
      (are.0, more)

found_took : (port n : ℕ) (intakes : List Intake) (i : Intake) → find (is_of port) intakes ≡ Some i → find (is_of port) (changed port (took n) intakes) ≡ Some (took n i)
found_took port n [] i found = absurd cc
found_took port n (j ∷ intakes) i found = by (j.port == port) refl (found_took port n intakes i) where
  by : (b : Bool) → (j.port == port) ≡ b → (find (is_of port) intakes ≡ Some i → find (is_of port) (changed port (took n) intakes) ≡ Some (took n i))
      → find (is_of port) (changed port (took n) (j ∷ intakes)) ≡ Some (took n i)
  by true here more =
      ap (λ b. find (is_of port) (cond b (took n j ∷ intakes) (j ∷ changed port (took n) intakes))) here
      ∙ ap (λ b. cond b (Some (took n j)) (find (is_of port) intakes)) here
      ∙ ap (λ x. Some (took n x)) (same_Some j i (sym (ap (λ b. cond b (Some j) (find (is_of port) intakes)) here) ∙ found))
  by false other more =
      ap (λ b. find (is_of port) (cond b (took n j ∷ intakes) (j ∷ changed port (took n) intakes))) other
      ∙ ap (λ b. cond b (Some j) (find (is_of port) (changed port (took n) intakes))) other
      ∙ more (sym (ap (λ b. cond b (Some j) (find (is_of port) intakes)) other) ∙ found)

pub takes_join : RecordsStay → RecordsAreUnique → TakesJoin
takes_join records unique v port p taken text row gone_out was = (joined, all) where
  whole : text ≡ taken ++ was.rest
  whole =
      gone_out.text_is
      ∙ ap (λ ss. gone v.table ss p v.begun) (streams_unique records unique v.intakes gone_out.streams was.gone.streams gone_out.are was.gone.are)
      ∙ ap (λ q. gone v.table was.gone.streams q v.begun) (same_Some p was.row (sym row ∙ was.row_is))
      ∙ sym was.gone.text_is
      ∙ was.prefix

  joined : taken ++ drop (taken_of v port) text ≡ text
  joined =
      ap (λ n. taken ++ drop n text) (ap taken_in was.intake_is ∙ was.count)
      ∙ ap (λ xs. taken ++ drop (length taken) xs) whole
      ∙ ap (λ ys. taken ++ ys) (drop_prefix taken was.rest)
      ∙ sym whole

  all : WasTaken (after_take v port (length text)) port text
  all = record {
    row = p;
    row_is = row;
    intake = took (length text) was.intake;
    intake_is = found_took port (length text) v.intakes was.intake was.intake_is;
    count = refl;
    text = text;
    gone = record { streams = gone_out.streams; are = took_streams port (length text) v.intakes gone_out.streams gone_out.are; text_is = gone_out.text_is };
    rest = [];
    prefix = sym (append-nil text);
  }

-- ---- whole captures

all_gone : (f : Format) (last : ℕ) (bytes : List ℕ) (rs : List Record) (r : Record) (rest : List ℕ) → Splits f last bytes rs [] → Splits f last bytes (rs ++ r ∷ []) rest → ⊥
all_gone f last bytes [] r rest none more = let le = more.0.whole in let empty = ap length none in omega (arith, le, empty)
all_gone f last bytes (x ∷ rs) r rest none more = all_gone f x.stamp (after x bytes) rs r rest none.1 more.1

whole_capture : RecordsAreUnique → (bytes : List ℕ) (rs : List Record) → IsCapture bytes rs → AreWhole bytes rs
whole_capture unique bytes rs held = record {
  first = first rs held;
  none_left = λ r next.
      let prefix = holds_prefix bytes next.0 (r ∷ []) next.1 next.2 in
      let same : next.0 ≡ rs = unique bytes prefix.0 [] next.0 rs prefix.1 held next.3 in
      let format : next.2.format ≡ held.format = cc (next.2.header, held.header) in
      all_gone held.format 0 (drop 24 bytes) rs r next.1 held.records
      (subst (λ xs. Splits held.format 0 (drop 24 bytes) (xs ++ r ∷ []) next.1) same (subst (λ f. Splits f 0 (drop 24 bytes) (next.0 ++ r ∷ []) next.1) format next.2.records));
} where
  first : (qs : List Record) → IsCapture bytes qs → AreFirst bytes qs
  first [] is = tt
  first (q ∷ qs) is = ([], is)

-- a capture that has ended
abbrev ended_at : Text → Intake
ended_at text = record { port = text.0; bytes = text.1; closed = true; taken = 0 }

captures_are_streams : RecordsAreUnique → (texts : List Text) (read : List Capture) → AreCaptures texts read → AreStreams (map ended_at texts) (map whole_of read)
captures_are_streams unique [] [] are = tt
captures_are_streams unique [] (c ∷ read) are = absurd are
captures_are_streams unique (text ∷ texts) [] are = absurd are
captures_are_streams unique (text ∷ texts) (c ∷ read) are = (
  record { port = are.0; records = whole_capture unique text.1 c.records are.1; closed = refl },
  captures_are_streams unique texts read
      are.2,
)

continued_fed : (intakes : List Intake) (texts : List Text) → AllZip IsContinued intakes texts → AreFedOn intakes (map ended_at texts)
continued_fed [] [] on = tt
continued_fed [] (text ∷ texts) on = absurd on
continued_fed (i ∷ intakes) [] on = absurd on
continued_fed (i ∷ intakes) (text ∷ texts) on = (
  record { port = on.0.port; more = on.0.more; bytes = on.0.bytes; ended = λ closed. (on.0.ended closed, refl) },
  continued_fed intakes texts on.1,
)

pub found_output : (f : PortRow → List ℕ) (ports : List PortRow) (port : ℕ) (p : PortRow) → find (is_row_of port) ports ≡ Some p
    → find (is_text_of port) (map {B = Text} (λ (q : PortRow). (q.id, f q)) ports) ≡ Some (p.id, f p)
found_output f [] port p found = absurd cc
found_output f (q ∷ ports) port p found = by (q.id == port) refl (found_output f ports port p) where
  texts : List Text
  texts = map (λ (r : PortRow). (r.id, f r)) ports

  by : (b : Bool) → (q.id == port) ≡ b → (find (is_row_of port) ports ≡ Some p → find (is_text_of port) (map {B = Text} (λ (r : PortRow). (r.id, f r)) ports) ≡ Some (p.id, f p))
      → find (is_text_of port) (map {B = Text} (λ (r : PortRow). (r.id, f r)) (q ∷ ports)) ≡ Some (p.id, f p)
  by true here more =
      ap (λ b. cond b (Some (q.id, f q)) (find (is_text_of port) texts)) here
      ∙ ap (λ (x : PortRow). Some (x.id, f x)) (same_Some q p (sym (ap (λ b. cond b (Some q) (find (is_row_of port) ports)) here) ∙ found))
  by false other more =
      ap (λ b. cond b (Some (q.id, f q)) (find (is_text_of port) texts)) other
      ∙ more (sym (ap (λ b. cond b (Some q) (find (is_row_of port) ports)) other) ∙ found)

pub taken_is_a_prefix : ByStampIsOrdered → EarlierEventsStayAdmitted → ReachesInOrder → SentGoesOn → RecordsStay → RecordsAreUnique → TakenIsAPrefix
taken_is_a_prefix ordered stay reaches goes_on records unique v port taken texts results was continued outcome =
    (was.rest ++ whole.0, at ∙ prefix_on out was.text taken was.rest whole.0 whole.1 was.prefix) where
      out : List ℕ
      out = output_text v.table (merged outcome.read) was.row

      at : capture_at port results.captures ≡ out
      at =
          ap (capture_at port) outcome.captures
          ∙ ap bytes_in (found_output (output_text v.table (merged outcome.read)) v.table.ports port was.row was.row_is)

      on : GoOn was.gone.streams (map whole_of outcome.read)
      on =
          go_on records unique v.intakes (map ended_at texts) was.gone.streams (map whole_of outcome.read) (continued_fed v.intakes texts continued) was.gone.are
          (captures_are_streams unique texts outcome.read outcome.are_read)

      by : (b : Bool) → v.begun ≡ b → (rest : List ℕ) × (out ≡ was.text ++ rest)
      by false none = (out, ap (λ xs. xs ++ out) (sym (was.gone.text_is ∙ ap (gone v.table was.gone.streams was.row) none)))
      by true some =
          let more = prefix_of_output ordered stay reaches goes_on v.table was.gone.streams outcome.read was.row on in
          (more.0, more.1 ∙ ap (λ xs. xs ++ more.0) (sym (was.gone.text_is ∙ ap (gone v.table was.gone.streams was.row) some)))

      whole : (rest : List ℕ) × (out ≡ was.text ++ rest)
      whole = by v.begun refl

-- ---- the end

pub all_continued : (intakes : List Intake) → AllZip IsContinued intakes (map text_in intakes)
all_continued [] = tt
all_continued (i ∷ intakes) = (record { port = refl; more = []; bytes = sym (append-nil i.bytes); ended = λ closed. refl }, all_continued intakes)

drop_none : (n : ℕ) (xs : List ℕ) → xs ≡ [] → xs ≡ drop n xs
drop_none zero xs none = refl
drop_none (suc n) [] none = refl
drop_none (suc n) (x ∷ xs) none = absurd cc

rest_at : (v : Seen) (port : ℕ) (texts : List Text) → capture_at port (map (rest_of v) texts) ≡ drop (taken_of v port) (capture_at port texts)
rest_at v port [] = drop_none (taken_of v port) [] refl
rest_at v port (text ∷ texts) = by (text.0 == port) refl (rest_at v port texts) where
  by : (b : Bool) → (text.0 == port) ≡ b → capture_at port (map (rest_of v) texts) ≡ drop (taken_of v port) (capture_at port texts)
      → capture_at port (map (rest_of v) (text ∷ texts)) ≡ drop (taken_of v port) (capture_at port (text ∷ texts))
  by true here more =
      ap (λ b. bytes_in (cond b (Some (rest_of v text)) (find (is_text_of port) (map (rest_of v) texts)))) here
      ∙ ap (λ n. drop (taken_of v n) text.1) (eqb-true text.0 port here)
      ∙ ap (λ b. drop (taken_of v port) (bytes_in (cond b (Some text) (find (is_text_of port) texts)))) (sym here)
  by false other more =
      ap (λ b. bytes_in (cond b (Some (rest_of v text)) (find (is_text_of port) (map (rest_of v) texts)))) other
      ∙ more
      ∙ ap (λ b. drop (taken_of v port) (bytes_in (cond b (Some text) (find (is_text_of port) texts)))) (sym other)

pub takes_and_rest : ByStampIsOrdered → EarlierEventsStayAdmitted → ReachesInOrder → SentGoesOn → RecordsStay → RecordsAreUnique → TakesAndRestAreTheOutput
takes_and_rest ordered stay reaches goes_on records unique v port taken results end was =
    let prefix = taken_is_a_prefix ordered stay reaches goes_on records unique v port taken (texts_in v) end.whole was (all_continued v.intakes) end.outcome in
    let whole = capture_at port end.whole.captures in
    ap (λ xs. taken ++ capture_at port xs) end.captures
    ∙ ap (λ xs. taken ++ xs) (rest_at v port end.whole.captures)
    ∙ ap (λ n. taken ++ drop n whole) (ap taken_in was.intake_is ∙ was.count)
    ∙ ap (λ xs. taken ++ drop (length taken) xs) prefix.1
    ∙ ap (λ xs. taken ++ xs) (drop_prefix taken prefix.0)
    ∙ sym prefix.1

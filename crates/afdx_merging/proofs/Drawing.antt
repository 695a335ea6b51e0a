-- A capture's next record comes to hand.
use Rattle.std.proofs.Common.{◌≡◌, ℕ, ◌+◌, true, List, [], ◌∷◌, ◌++◌, length, Option, Some, None, sym, ap, subst, ◌∙◌, arith}
use Rattle.std.specs.Prelude.{option_to_list}
use Rattle.std.specs.Option.{IfNone}
use Rattle.std.proofs.lemmas.List.{append-nil, length-append}
use Rattle.afdx_pcap.specs.declared.fault.PcapFault.{PcapFault}
use Rattle.afdx_pcap.specs.Record.{Record}
use Rattle.afdx_pcap.specs.Reading.{Reading, Taking, as_taking, taking_on, HasTaken, IsNext}
use Rattle.afdx_pairing.specs.Events.{Numbered, numbered_of}
use Rattle.afdx_merging.specs.declared.clock.Clock.{Clock}
use Rattle.afdx_merging.specs.declared.lane.Lane.{Lane}
use Rattle.afdx_merging.specs.Merge.{moved, numbered_from}
use Rattle.afdx_merging.specs.Inner.Lanes.{Draws}

-- what the law of captures says of one record more
abbrev pub Joins : Type 0
Joins = (t : Taking) (rs : List Record) (r : Record) → HasTaken t rs → IsNext t.bytes t.given r → HasTaken (taking_on t) (rs ++ r ∷ [])

numbered_more : (n : ℕ) (c : Clock) (rs : List Record) (r : Record)
    → numbered_from n c (rs ++ r ∷ []) ≡ numbered_from n c rs ++ numbered_of (n + length rs) (moved c r.stamp) r ∷ []
numbered_more n c [] r =
    let same : n ≡ n + 0 = omega arith in
    ap (λ (k : ℕ). numbered_of k (moved c r.stamp) r ∷ []) same
numbered_more n c (x ∷ rs) r =
    let same : (n + 1) + length rs ≡ n + length (x ∷ rs) = omega arith in
    let first = numbered_of n (moved c x.stamp) x in
    ap (λ (ns : List Numbered). first ∷ ns)
    (numbered_more (n + 1) c rs r ∙ ap (λ (k : ℕ). numbered_from (n + 1) c rs ++ numbered_of k (moved c r.stamp) r ∷ []) same)

pub draws_one : {Z : Type 0} → Joins → (old new : Lane Z) (r : Record) → old.reader.fault ≡ None → old.head ≡ None → IsNext old.reader.bytes old.reader.given r
    → new.clock ≡ old.clock → new.reader ≡ record old.reader { given = old.reader.given + 1 } → new.count ≡ old.count + 1
    → new.head ≡ Some (numbered_of new.count (moved old.clock r.stamp) r) → Draws true old new
draws_one joins old new r no_fault none next clock reader count head =
    let fault : new.reader.fault ≡ None = ap (λ (x : Reading). x.fault) reader ∙ no_fault in
    record {
      clock = clock;
      no_fault = fault;
      bytes = ap (λ (x : Reading). x.bytes) reader;
      closed = ap (λ (x : Reading). x.closed) reader;
      on = λ given h.
          let rs = h.records in
          let so_far : given ≡ numbered_from 1 old.clock rs = sym (append-nil given) ∙ ap (λ (o : Option Numbered). given ++ option_to_list o) (sym none) ∙ h.numbered in
          let number : new.count ≡ 1 + length rs = omega (arith, count, h.count) in
          record {
            records = rs ++ r ∷ [];
            no_fault = fault;
            taken = subst (λ (x : Reading). HasTaken (as_taking x) (rs ++ r ∷ [])) (sym reader) (joins (as_taking old.reader) rs r h.taken next);
            count = omega (arith, number, length-append rs (r ∷ []));
            numbered = ap (λ (o : Option Numbered). given ++ option_to_list o) head
                ∙ ap (λ (ns : List Numbered). ns ++ numbered_of new.count (moved old.clock r.stamp) r ∷ []) so_far
                ∙ ap (λ (k : ℕ). numbered_from 1 old.clock rs ++ numbered_of k (moved old.clock r.stamp) r ∷ []) number
                ∙ sym (numbered_more 1 old.clock rs r) ∙ ap (λ (c : Clock). numbered_from 1 c (rs ++ r ∷ [])) (sym clock);
          };
      at_hand = λ done empty. absurd (let some = sym head ∙ empty in cc);
      more = λ never. absurd (let no = never in cc);
    }

pub answered : (fault : Option PcapFault) (P : Type 0) → fault ≡ None → IfNone fault P → P
answered None P none all = all
answered (Some why) P none all = absurd (let never = none in cc)

-- A reader gives more of a capture.
use Rattle.std.proofs.Common.{◌≡◌, ℕ, Bool, false, List, ◌++◌, Option, Some, None, Result, Ok, Err, inl, inr, sym, ap, subst, ◌∙◌}
use Rattle.std.proofs.lemmas.Bool.{cases_Bool}
use Rattle.std.proofs.lemmas.List.{append_assoc}
use Rattle.std.specs.Prelude.{OnOk, is_err}
use Rattle.std.specs.Io.KnownBytes.{Consumes}
use Rattle.afdx_pcap.specs.Record.{Record}
use Rattle.afdx_pcap.specs.Reading.{Taking, as_taking, HasTaken, IsWrong}
use Rattle.afdx_pairing.specs.Events.{Numbered}
use Rattle.afdx_merging.specs.declared.lane.Lane.{Lane}
use Rattle.afdx_merging.specs.declared.lane.LaneFault.{LaneFault}
use Rattle.afdx_merging.specs.declared.lane.LaneFault.TheVariants as fault
use Rattle.afdx_merging.specs.Inner.Lanes.{Draws, IsLaneFault, IsReadBy, IsStopped}

-- what the law of captures says of more bytes
abbrev pub Stays : Type 0
Stays = (t : Taking) (more : List ℕ) (rs : List Record) → HasTaken t rs → HasTaken (record t { bytes = t.bytes ++ more }) rs

pub consumes_more : (a b c : Option (List ℕ)) (xs ys : List ℕ) → Consumes a b xs → Consumes b c ys → Consumes a c (xs ++ ys)
consumes_more None b c xs ys first second = tt
consumes_more (Some xa) None c xs ys first second = absurd first
consumes_more (Some xa) (Some xb) None xs ys first second = absurd second
consumes_more (Some xa) (Some xb) (Some xc) xs ys first second = first ∙ ap (λ (zs : List ℕ). xs ++ zs) second ∙ sym (append_assoc xs ys xc)

pub reads_on : {R Z : Type 0} → Stays → (remaining : R → Option (List ℕ)) (first old now : R) (l new : Lane Z) (given : List Numbered) (more : List ℕ)
    → l.reader.closed ≡ false → Consumes (remaining old) (remaining now) more → new ≡ record l { reader = record l.reader { bytes = l.reader.bytes ++ more } }
    → IsReadBy remaining first old l given → IsReadBy remaining first now new given
reads_on {R} {Z} stays remaining first old now l new given more still_open gave new_is read =
    let later : Lane Z = record l { reader = record l.reader { bytes = l.reader.bytes ++ more } } in
    subst (λ (x : Lane Z). IsReadBy remaining first now x given) (sym new_is) (record {
      has = record {
        records = read.has.records;
        no_fault = read.has.no_fault;
        taken = stays (as_taking l.reader) more read.has.records read.has.taken;
        count = read.has.count;
        numbered = read.has.numbered;
      };
      bytes = consumes_more (remaining first) (remaining old) (remaining now) l.reader.bytes more read.bytes gave;
      ended = λ closed. absurd (let never = sym closed ∙ still_open in cc);
    })

pub unless_err : {T E : Type 0} (r : Result T E) (P : Type 0) → is_err r ≡ false → OnOk r P → P
unless_err (Ok x) P isnt all = all
unless_err (Err e) P isnt all = absurd (let never = isnt in cc)

-- what was read comes to hand
pub drawn_by : {R Z : Type 0} (remaining : R → Option (List ℕ)) (first now : R) (old new : Lane Z) (done : Bool) (given : List Numbered) → Draws done old new
    → IsReadBy remaining first now old given → IsReadBy remaining first now new given
drawn_by remaining first now old new done given draws read = record {
  has = draws.on given read.has;
  bytes = subst (λ (bs : List ℕ). Consumes (remaining first) (remaining now) bs) (sym draws.bytes) read.bytes;
  ended = λ closed. read.ended (sym draws.closed ∙ closed);
}

-- or it has a fault
pub stopped_by : {R Z : Type 0} (remaining : R → Option (List ℕ)) (first now : R) (l : Lane Z) (given : List Numbered) (why : LaneFault)
    → IsLaneFault l.reader.bytes l.reader.closed why → IsReadBy remaining first now l given → IsStopped remaining first now why
stopped_by remaining first now l given fault.Memory wrong read = tt
stopped_by remaining first now l given fault.Read wrong read = tt
stopped_by remaining first now l given (fault.Capture why) wrong read = (
  l.reader.bytes,
  read.bytes,
  elim (cases_Bool l.reader.closed) [
    | inl closed ↦ inr (subst (λ (b : Bool). IsWrong l.reader.bytes b why) closed wrong, read.ended closed)
    | inr isnt ↦ inl (subst (λ (b : Bool). IsWrong l.reader.bytes b why) isnt wrong)
  ],
)

use Rattle.std.proofs.Common.{◌≡◌, ◌+◌, ◌++◌, length, length-append, arith, [], ◌∷◌, Some, None}
use Rattle.afdx_pcap.specs.Reading.{as_taking, whole_reading}
use Rattle.afdx_pcap.proofs.Taking.{next_joins, taken_are_all, fewer_than_all, whole_answers, whole_goes_on}
use Rattle.afdx_pcap.proofs.whole.read_all.Goals as goal

pub push_reserved-requires : goal.push_reserved-requires
push_reserved-requires g c =
    let i = c.loop-reader.invariant in
    let n = length c.loop-reader.all.items in
    let next = whole_answers c.loop-reader.reader c.args.bytes.now n c.in_ok-record.field-0 (Some c.in-Some.record) i.reader c.in_ok-record.ensures.answer c.in-Some.is in
    let fewer = fewer_than_all c.args.bytes.now n i.room.0 c.in-Some.record i.room.1 next in
    let room = i.room.2 in
    omega (arith, fewer, room, c.loop-reader.all.ok.0)

pub loop-reader-preserved : goal.loop-reader-preserved
loop-reader-preserved g c =
    let i = c.loop-reader.invariant in
    let all = c.loop-reader.all.items in
    let bytes = c.args.bytes.now in
    let r = c.in-Some.record in
    let next = whole_answers c.loop-reader.reader bytes (length all) c.in_ok-record.field-0 (Some r) i.reader c.in_ok-record.ensures.answer c.in-Some.is in
    let came = whole_goes_on c.loop-reader.reader c.next.new.self bytes (length all) c.in_ok-record.field-0 r i.reader c.in_ok-record.ensures.ok c.in-Some.is in
    let longer : length (all ++ r ∷ []) ≡ length all + 1 = length-append all (r ∷ []) in
    let more = next_joins (as_taking (whole_reading bytes (length all))) all r i.taken next in
    rw (c.push_reserved.ensures.items, c.push_reserved.ensures.capacity, longer) (record { reader = came; taken = more; room = i.room })

pub returns-clause-capture : goal.returns-clause-capture
returns-clause-capture g c =
    let i = c.loop-reader.invariant in
    let n = length c.loop-reader.all.items in
    let end = whole_answers c.loop-reader.reader c.args.bytes.now n c.in_ok-record.field-0 None i.reader c.in_ok-record.ensures.answer c.in_default.is in
    taken_are_all (as_taking (whole_reading c.args.bytes.now n)) c.loop-reader.all.items i.taken end.1

use Rattle.std.proofs.Common.{◌≡◌, ◌+◌, ◌-◌, ◌^◌, ◌<◌, length, ap, sym, ◌∙◌, arith}
use Rattle.std.proofs.lemmas.Bool.{false≢true}
use Rattle.afdx_pcap.specs.Bytes.{plain_bytes}
use Rattle.afdx_pcap.proofs.Streaming.{fed}
use Rattle.afdx_pcap.proofs.reader.Reader.feed.Goals as goal

pub invariant_of-self : goal.invariant_of-self
invariant_of-self g c =
    let r = c.self-2.inside in
    let long : length c.as_slice-kept.result.now ≡ length (plain_bytes r.kept) = ap length c.as_slice-kept.ensures in
    let few : r.given + length (plain_bytes r.kept) + length c.args.piece.now < 2 ^ 64 - 1 = omega (arith, long, c.saturating_add.ensures, c.saturating_add-most.ensures, c.if-most.false) in
    let more = fed _ _ _ _ _ r.progress c.self-2.invariant.0 c.self-2.invariant.1 few in
    rw c.extend.ensures.bytes (more.0, more.1, λ lent. absurd (false≢true (sym c.extend.ensures.lent ∙ lent)))

use Rattle.std.proofs.Common.{◌+◌, ◌≤◌, length, subst}
use Rattle.std.proofs.lemmas.List.{take_rest}
use Rattle.afdx_pcap.specs.Capture.{Begins}
use Rattle.afdx_pcap.specs.Inner.Place.{found_in}
use Rattle.afdx_pcap.proofs.Streaming.{begins_ahead}
use Rattle.afdx_pcap.proofs.progress.Progress.read_on.Goals as goal

pub returns-clause-begins : goal.returns-clause-begins
returns-clause-begins c =
    let p = c.args.self in
    let x = c.in_ok-found.found in
    let same = take_rest c.args.bytes.now p.place in
    begins_ahead c.args.bytes.now p x c.requires.within
    (subst (λ t. Begins p.format p.last t (found_in t x)) same c.in_ok-found.ensures.begins)
    (subst (λ t. 16 + x.length ≤ length t) same c.in_ok-found.ensures.whole)

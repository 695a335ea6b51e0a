use Rattle.std.proofs.Common.{◌≡◌, ◌-◌, length, true, None}
use Rattle.afdx_session.proofs.check.check_text.Given as goal

abbrev pub invariant-loop-reader : goal.invariant-loop-reader
invariant-loop-reader g l = record {
  bytes : l.reader.bytes ≡ l.text;
  closed : l.reader.closed ≡ true;
  no_fault : l.reader.fault ≡ None;
  lent : l.reader.lent ≡ true;
}

abbrev pub decreases-loop-reader : goal.decreases-loop-reader
decreases-loop-reader g l = length l.reader.bytes - l.reader.given

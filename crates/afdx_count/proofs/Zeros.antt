-- Counters that are all 0 are those at the start.
use Rattle.std.proofs.Common.{◌≡◌}
use Rattle.afdx_count.specs.declared.counters.InCount.{InCount}
use Rattle.afdx_count.specs.declared.counters.LinkCount.{LinkCount}
use Rattle.afdx_count.specs.declared.counters.OutCount.{OutCount}
use Rattle.afdx_count.specs.Counting.{no_input, no_link, no_output}

-- no arrival was counted
pub record IsZeroInput (c : InCount) : Type 0 where
  pub seen : c.seen ≡ 0
  pub cut : c.cut ≡ 0
  pub short : c.short ≡ 0
  pub long : c.long ≡ 0
  pub foreign : c.foreign ≡ 0
  pub no_link : c.no_link ≡ 0
  pub wrong_port : c.wrong_port ≡ 0
  pub too_big : c.too_big ≡ 0
  pub clean : c.clean ≡ 0

-- no frame of a link was counted
pub record IsZeroLink (c : LinkCount) : Type 0 where
  pub passed : c.passed ≡ 0
  pub policed : c.policed ≡ 0

-- no copy was counted
pub record IsZeroOutput (c : OutCount) : Type 0 where
  pub offered : c.offered ≡ 0
  pub full : c.full ≡ 0
  pub aged : c.aged ≡ 0
  pub sent : c.sent ≡ 0

pub zero_input : (c : InCount) → IsZeroInput c → c ≡ no_input
zero_input c z = λ i. record {
  seen = z.seen i;
  cut = z.cut i;
  short = z.short i;
  long = z.long i;
  foreign = z.foreign i;
  no_link = z.no_link i;
  wrong_port = z.wrong_port i;
  too_big = z.too_big i;
  clean = z.clean i;
}

pub zero_link : (c : LinkCount) → IsZeroLink c → c ≡ no_link
zero_link c z = λ i. record { passed = z.passed i; policed = z.policed i }

pub zero_output : (c : OutCount) → IsZeroOutput c → c ≡ no_output
zero_output c z = λ i. record { offered = z.offered i; full = z.full i; aged = z.aged i; sent = z.sent i }

-- Worked examples of the definitions, which compute.
use Rattle.std.proofs.Common.{◌≡◌, ◌+◌, nat_le, true, false, refl}
use Rattle.afdx_units.specs.declared.line.Speed.TheVariants.{Hundred, Thousand}
use Rattle.afdx_jitter.specs.Delay.{hop_of, joined}

-- three links of 64 bytes each millisecond into a port of 100 Mbit/s, whose bound is 20,160 ns: 13,440 ns of jitter arise there
first_hop : hop_of Hundred 0 20160 0 ≡ record { least = 6720; most = 20160 }
first_hop = refl

fourteen_pass : nat_le (0 + 20160) (14000 + 6720) ≡ true
fourteen_pass = refl

thirteen_police : nat_le (0 + 20160) (13000 + 6720) ≡ false
thirteen_police = refl

-- a latency and a cable are in both ends of the delay
with_latency : hop_of Thousand 10000 11344 500 ≡ record { least = 11172; most = 11844 }
with_latency = refl

two_hops : joined (hop_of Thousand 10000 11344 500) (hop_of Thousand 20000 21345 0) ≡ record { least = 31844; most = 33189 }
two_hops = refl

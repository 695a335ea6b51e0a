-- A load with one more link, as the code adds it.
use Rattle.std.specs.Prelude.{ℕ, ◌+◌, max}
use Rattle.afdx_units.specs.declared.line.Speed.{Speed}
use Rattle.afdx_units.specs.declared.line.Priority.{Priority}
use Rattle.afdx_units.specs.declared.line.Priority.TheVariants.{High, Low}
use Rattle.afdx_table.specs.Link.{Link}
use Rattle.afdx_load.specs.Load.{Load, rate_of, burst_of, time_of}

-- a load with one more link of this priority, by its rate and burst in parts of a ns and the line time of its longest frame in ns
abbrev pub counted : Priority → ℕ → ℕ → ℕ → Load → Load
counted High rate burst time load = record {
  highs = load.highs + 1;
  lows = load.lows;
  rate = load.rate + rate;
  high_rate = load.high_rate + rate;
  burst = load.burst + burst;
  high_burst = load.high_burst + burst;
  largest = max load.largest time;
  low_largest = load.low_largest;
  latency = load.latency;
}
counted Low rate burst time load = record {
  highs = load.highs;
  lows = load.lows + 1;
  rate = load.rate + rate;
  high_rate = load.high_rate;
  burst = load.burst + burst;
  high_burst = load.high_burst;
  largest = max load.largest time;
  low_largest = max load.low_largest time;
  latency = load.latency;
}

-- a load with one more link
abbrev pub with_link : Speed → Load → Link → Load
with_link speed load link = counted link.priority (rate_of speed link) (burst_of speed link) (time_of speed link) load

-- When the records of a capture came: no stamp is of the last second.
use Rattle.std.proofs.Common.{◌<◌, ◌≤◌, ℕ, List, [], ◌∷◌, drop, sym, arith, subst}
use Rattle.std.specs.List.{AllByRecursion}
use Rattle.afdx_units.specs.Time.{last_second}
use Rattle.afdx_pcap.specs.declared.format.Format.{Format}
use Rattle.afdx_pcap.specs.declared.format.Head.{Head}
use Rattle.afdx_pcap.specs.declared.format.Resolution.{Resolution}
use Rattle.afdx_pcap.specs.declared.format.Resolution.TheVariants.{Micros, Nanos}
use Rattle.afdx_pcap.specs.Record.{Record}
use Rattle.afdx_pcap.specs.Reading.{AreFirst}
use Rattle.afdx_pcap.specs.Capture.{Splits, parts_of_second, stamp_of, head_of, after, IsCapture}

stamp_early : (resolution : Resolution) (h : Head) → h.seconds ≤ 4294967294 → h.fraction < parts_of_second resolution → stamp_of resolution h < last_second
stamp_early Micros h seconds fraction = omega (arith, seconds, fraction)
stamp_early Nanos h seconds fraction = omega (arith, seconds, fraction)

pub splits_early : (f : Format) (last : ℕ) (bytes : List ℕ) (rs : List Record) (rest : List ℕ) → Splits f last bytes rs rest → AllByRecursion (λ (r : Record). r.stamp < last_second) rs
splits_early f last bytes [] rest splits = tt
splits_early f last bytes (r ∷ rs) rest splits =
    let b = splits.0 in (
      subst (λ (n : ℕ). n < last_second) (sym b.stamp) (stamp_early f.resolution (head_of f.endian bytes) b.not_late b.fraction),
      splits_early f r.stamp (after r bytes) rs rest splits.1,
    )

pub capture_early : (bytes : List ℕ) (rs : List Record) → IsCapture bytes rs → AllByRecursion (λ (r : Record). r.stamp < last_second) rs
capture_early bytes rs capture = splits_early capture.format 0 (drop 24 bytes) rs [] capture.records

-- those that were read so far
pub first_early : (bytes : List ℕ) (rs : List Record) → AreFirst bytes rs → AllByRecursion (λ (r : Record). r.stamp < last_second) rs
first_early bytes [] first = tt
first_early bytes (r ∷ rs) first = splits_early first.1.format 0 (drop 24 bytes) (r ∷ rs) first.0 first.1.records

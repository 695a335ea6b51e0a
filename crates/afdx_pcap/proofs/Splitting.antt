-- Records one after the other.
use Rattle.std.proofs.Common.{◌≡◌, ℕ, List, [], ◌∷◌, ◌++◌, refl, sym, ap, subst}
use Rattle.afdx_pcap.specs.declared.format.Format.{Format}
use Rattle.afdx_pcap.specs.Record.{Record}
use Rattle.afdx_pcap.specs.Capture.{Begins, after, Splits}
use Rattle.afdx_pcap.specs.Fault.{last_stamp}

-- one more record
pub Splits-push : (f : Format) (last : ℕ) (bytes : List ℕ) (rs : List Record) (rest : List ℕ) (r : Record)
    → Splits f last bytes rs rest → Begins f (last_stamp last rs) rest r → Splits f last bytes (rs ++ r ∷ []) (after r rest)
Splits-push f last bytes [] rest r split begins = (subst (λ (b : List ℕ). Begins f last b r) (sym split) begins, ap (after r) split)
Splits-push f last bytes (q ∷ qs) rest r split begins = (split.0, Splits-push f q.stamp (after q bytes) qs rest r split.1 begins)

pub last_stamp-push : (last : ℕ) (rs : List Record) (r : Record) → last_stamp last (rs ++ r ∷ []) ≡ r.stamp
last_stamp-push last [] r = refl
last_stamp-push last (q ∷ qs) r = last_stamp-push q.stamp qs r

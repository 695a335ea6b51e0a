-- What is known of arrivals that were taken: when they came, and in which order.
use Rattle.std.proofs.Common.{◌≡◌, ◌<◌, ◌≤◌, ◌+◌, ℕ, List, [], ◌∷◌, ◌++◌, length, map, slice_get, Option, Some, None, refl, ap, sym, ◌∙◌, arith, inl, inr, subst}
use Rattle.std.proofs.Common.{append_assoc}
use Rattle.std.specs.Prelude.{◌⊎◌}
use Rattle.std.specs.List.{AllByRecursion}
use Rattle.std.proofs.lemmas.List.{append-nil, length-map}
use Rattle.afdx_units.specs.Time.{last_second, earlier_of}
use Rattle.afdx_pcap.specs.Record.{Record}
use Rattle.afdx_merging.specs.declared.clock.Clock.{Clock}
use Rattle.afdx_merging.specs.declared.fault.MergeFault.{MergeFault}
use Rattle.afdx_merging.specs.declared.fault.MergeFault.TheVariants as merge
use Rattle.afdx_merging.specs.declared.merging.Merging.{Merging}
use Rattle.afdx_merging.specs.Merge.{Arrival, IsBy, IsAfter, same_clock}
use Rattle.afdx_merging.specs.Read.{AreMerged, IsMergeFault}
use Rattle.afdx_merging.specs.Inner.Merging.{HasMerged}
use Rattle.afdx_merging.proofs.Timed.{IsTimed, all_timed, all_last}
use Rattle.afdx_wiring.specs.declared.layout.End.{End}
use Rattle.afdx_network_check.specs.Net.{Network}
use Rattle.afdx_network.specs.declared.intake.Intake.{Intake}
use Rattle.afdx_network.specs.declared.fault.NetworkRunFault.{NetworkRunFault}
use Rattle.afdx_network.specs.Given.{open_ends}
use Rattle.afdx_network.specs.Inner.Intake.{next_of, AreMet, HasTaken, AreOverLines, HasTakenAll, IsLineFault, IsNextIn, IsFaultAt, IsAmong, IsIntakeFault}
use Rattle.afdx_network.specs.declared.fault.NetworkRunFault.TheVariants as fault

-- none of those before came later
pub in_order : (came : List Arrival) (a : Arrival) → IsTimed a → AllByRecursion IsTimed came → AllByRecursion (λ (b : Arrival). IsBy b a) came
    → AllByRecursion (λ (b : Arrival). b.head.frame.stamp ≤ a.head.frame.stamp) came
in_order [] a timed all after = tt
in_order (b ∷ came) a timed all after = (one after.0, in_order came a timed all.1 after.1) where
  one : (b.due < a.due) ⊎ ((b.due ≡ a.due) × (b.place ≤ a.place)) → b.head.frame.stamp ≤ a.head.frame.stamp
  one (inl less) = let here = all.0.due in let there = timed.due in omega (arith, less, here, there)
  one (inr same) = let here = all.0.due in let there = timed.due in let is = same.0 in omega (arith, is, here, there)

-- ---- the next arrival of all

pub opened : {R : Type 0} (remaining : R → Option (List ℕ)) (net : Network) (first now : List R) (i : Intake) (clocks : List Clock) (came : List Arrival) → i.ends.items ≡ open_ends net
    → AreMet net i.lines.items came → clocks ≡ map (λ (e : End). same_clock) i.ends.items → HasMerged remaining clocks first now i.merging came → HasTaken remaining net first now i came
opened remaining net first now i clocks came ends met are merged = record {
  ends = ends;
  met = met;
  merged = subst (λ (cs : List Clock). HasMerged remaining cs first now i.merging came) (are ∙ ap (λ (es : List End). map (λ (e : End). same_clock) es) ends) merged;
}

-- its place is one of the ports
pub place_within : {R Z : Type 0} (remaining : R → Option (List ℕ)) (net : Network) (first now : List R) (ends : List End) (m : Merging Z) (came : List Arrival) (a : Arrival) → ends ≡ open_ends net
    → HasMerged remaining (map (λ (e : End). same_clock) (open_ends net)) first now m (came ++ a ∷ []) → a.place < length ends
place_within remaining net first now ends m came a same merged =
    let lt = all_last (λ (b : Arrival). b.place < length (map (λ (e : End). same_clock) (open_ends net))) came a merged.within in
    omega (arith, lt, length-map (open_ends net) (λ (e : End). same_clock), ap (λ (es : List End). length es) same)

pub takes_next : {R : Type 0} (remaining : R → Option (List ℕ)) (net : Network) (first before now : List R) (old new : Intake) (came : List Arrival) (a : Arrival) (to : End) (frame : Record)
    → HasTaken remaining net first before old came → new.ends.items ≡ old.ends.items → AreMet net new.lines.items (came ++ a ∷ [])
    → HasMerged remaining (map (λ (e : End). same_clock) (open_ends net)) first now new.merging (came ++ a ∷ [])
    → IsAfter (map (λ (e : End). same_clock) (open_ends net)) came a → slice_get old.ends.items a.place ≡ Some to → frame ≡ a.head.frame
    → earlier_of (Some a.head.frame.stamp) (next_of new) ≡ next_of old → IsNextIn remaining net first now old new came to frame
takes_next remaining net first before now old new came a to frame taken ends met merged after at is least = record {
  arrival = a;
  to_is = ap (λ (es : List End). slice_get es a.place) (sym taken.ends) ∙ at;
  frame_is = is;
  taken = now_taken;
  last = subst (λ (r : Record). AllByRecursion (λ (b : Arrival). b.head.frame.stamp ≤ r.stamp) came) (sym is) (in_order came a timed (all_timed remaining (open_ends net) first before old.merging came taken.merged) after.after);
  least = subst (λ (r : Record). earlier_of (Some r.stamp) (next_of new) ≡ next_of old) (sym is) least;
  early = subst (λ (r : Record). r.stamp < last_second) (sym is) timed.early;
} where
  now_taken : HasTaken remaining net first now new (came ++ a ∷ [])
  now_taken = record { ends = ends ∙ taken.ends; met = met; merged = merged }

  timed : IsTimed a
  timed = all_last IsTimed came a (all_timed remaining (open_ends net) first now new.merging (came ++ a ∷ []) now_taken.merged)

-- ---- all of them

-- more was taken; where none was left it is none
pub record ReadsOn {R : Type 0} (remaining : R → Option (List ℕ)) (net : Network) (first : List R) (start : Intake) (came : List Arrival) (now : List R) (i : Intake) : Type 0 where
  pub more : List Arrival
  pub taken : HasTaken remaining net first now i (came ++ more)
  pub none : next_of start ≡ None → (more ≡ []) × (next_of i ≡ None)

pub reads_none : {R : Type 0} (remaining : R → Option (List ℕ)) (net : Network) (first : List R) (start : Intake) (came : List Arrival) (now : List R) → HasTaken remaining net first now start came
    → ReadsOn remaining net first start came now start
reads_none remaining net first start came now taken = record {
  more = [];
  taken = subst (HasTaken remaining net first now start) (sym (append-nil came)) taken;
  none = λ is. (refl, is);
}

pub reads_one : {R : Type 0} (remaining : R → Option (List ℕ)) (net : Network) (first : List R) (start : Intake) (came : List Arrival) (now later : List R) (i new : Intake) (a : Arrival)
    → (r : ReadsOn remaining net first start came now i) → new.ends.items ≡ i.ends.items → AreMet net new.lines.items ((came ++ r.more) ++ a ∷ [])
    → HasMerged remaining (map (λ (e : End). same_clock) (open_ends net)) first later new.merging ((came ++ r.more) ++ a ∷ []) → earlier_of (Some a.head.frame.stamp) (next_of new) ≡ next_of i
    → ReadsOn remaining net first start came later new
reads_one remaining net first start came now later i new a r ends met merged least = record {
  more = r.more ++ a ∷ [];
  taken = subst (HasTaken remaining net first later new) (append_assoc came r.more (a ∷ [])) (record { ends = ends ∙ r.taken.ends; met = met; merged = merged });
  none = λ is. absurd (never (next_of new) (least ∙ (r.none is).1));
} where
  never : (o : Option ℕ) → earlier_of (Some a.head.frame.stamp) o ≡ None → ⊥
  never None is = cc
  never (Some n) is = cc

pub reads_all : {R : Type 0} (remaining : R → Option (List ℕ)) (net : Network) (first : List R) (start : Intake) (came : List Arrival) (now : List R) (i : Intake)
    → (r : ReadsOn remaining net first start came now i)
    → AreMerged remaining (map (λ (e : End). same_clock) (open_ends net)) first (came ++ r.more) → AreOverLines net (came ++ r.more) → HasTakenAll remaining net first start came
reads_all remaining net first start came now i r merged lines = record { more = r.more; merged = merged; lines = lines; none = λ is. (r.none is).0 }

-- ---- a fault of a capture

pub fault_among : {R : Type 0} (remaining : R → Option (List ℕ)) (readers : List R) (ends : List End) (fault : MergeFault) → length readers ≡ length ends → IsMergeFault remaining readers fault
    → IsAmong (length ends) fault
fault_among remaining readers ends merge.Memory same is = tt
fault_among remaining readers ends (merge.Read place) same is = omega (arith, same, is)
fault_among remaining readers ends (merge.Capture place why) same is = let lt = is.within in let many = is.read.many in omega (arith, same, lt, many)

pub fault_there : {R : Type 0} (remaining : R → Option (List ℕ)) (net : Network) (readers : List R) (ends : List End) (fault : MergeFault) (why : NetworkRunFault) → ends ≡ open_ends net
    → IsMergeFault remaining readers fault → IsFaultAt ends fault why → IsIntakeFault remaining net readers why
fault_there remaining net readers ends merge.Memory why same is at = subst (IsIntakeFault remaining net readers) (sym at) tt
fault_there remaining net readers ends (merge.Read place) why same is at = subst (IsIntakeFault remaining net readers) (sym at) is
fault_there remaining net readers ends (merge.Capture place reason) why same is at =
    subst (IsIntakeFault remaining net readers) (sym at.2) (place, ap (λ (es : List End). slice_get es place) (sym same) ∙ at.1, is)

-- or of a line, where all were read
pub line_there : {R : Type 0} (remaining : R → Option (List ℕ)) (net : Network) (readers : List R) (came : List Arrival)
    → AreMerged remaining (map (λ (e : End). same_clock) (open_ends net)) readers came
    → (why : NetworkRunFault) → IsLineFault net came why → IsIntakeFault remaining net readers why
line_there remaining net readers came merged fault.Memory is = absurd is
line_there remaining net readers came merged (fault.Read place) is = absurd is
line_there remaining net readers came merged (fault.Capture switch port why) is = absurd is
line_there remaining net readers came merged fault.WrongWires is = absurd is
line_there remaining net readers came merged (fault.Line switch port number) is = (came, merged, is)

-- The fault of captures, said of their ports.
use Rattle.std.proofs.Common.{◌≡◌, ℕ, Bool, true, false, List, length, Option, Some, refl, sym, subst, arith}
use Rattle.std.specs.Prelude.{if◌then◌else◌, slice_get}
use Rattle.std.specs.Io.KnownBytes.{IsAtEnd}
use Rattle.afdx_pcap.specs.declared.fault.PcapFault.{PcapFault}
use Rattle.afdx_merging.specs.declared.fault.MergeFault.{MergeFault}
use Rattle.afdx_merging.specs.declared.fault.MergeFault.TheVariants as merge
use Rattle.afdx_merging.specs.Read.{HasFirstFault, IsMergeFault, WereAllRead as AreReadByMerge}
use Rattle.afdx_compare.specs.declared.sources.Source.{Source}
use Rattle.afdx_compare.specs.declared.sources.CompareFault.{CompareFault}
use Rattle.afdx_compare.specs.declared.sources.CompareFault.TheVariants.{Came, Left}
use Rattle.afdx_compare.specs.Sources.{IsFaultOf, IsWithin}
use Rattle.afdx_compare.specs.Found.{IsCompareFault, WereAllRead}

pub fault_within : {R : Type 0} (remaining : R → Option (List ℕ)) (count : ℕ) (first : List R) (fault : MergeFault) → length first ≡ count → IsMergeFault remaining first fault → IsWithin count fault
fault_within remaining count first merge.Memory same why = tt
fault_within remaining count first (merge.Read place) same why = tt
fault_within remaining count first (merge.Capture place what) same why = (let lt = why.within in let many = why.read.many in omega (arith, lt, many, same))

side_is : {R : Type 0} (remaining : R → Option (List ℕ)) (captures : List Source) (first : List R) (leaves : Bool) (s : Source) (place : ℕ) (why : PcapFault) → s.leaves ≡ leaves
    → slice_get captures place ≡ Some s → HasFirstFault remaining first place why → IsCompareFault remaining captures first (if leaves then Left s.port why else Came s.port why)
side_is remaining captures first true s place why side at fault = record { place = place; source = s; there = at; of_what = side; of_port = refl; first = fault }
side_is remaining captures first false s place why side at fault = record { place = place; source = s; there = at; of_what = side; of_port = refl; first = fault }

pub fault_is : {R : Type 0} (remaining : R → Option (List ℕ)) (captures : List Source) (first : List R) (fault : MergeFault) (said : CompareFault) → IsMergeFault remaining first fault
    → IsFaultOf captures fault said → IsCompareFault remaining captures first said
fault_is remaining captures first merge.Memory said why is = subst (λ (x : CompareFault). IsCompareFault remaining captures first x) (sym is) tt
fault_is remaining captures first (merge.Read place) said why is = subst (λ (x : CompareFault). IsCompareFault remaining captures first x) (sym is) why
fault_is remaining captures first (merge.Capture place what) said why is =
    subst (λ (x : CompareFault). IsCompareFault remaining captures first x) (sym is.2) (side_is remaining captures first is.0.leaves is.0 place what refl is.1 why)

-- ---- what was read

side_read : {R : Type 0} (remaining : R → Option (List ℕ)) (now : List R) (leaves : Bool) (port : ℕ) (why : PcapFault)
    → ((k : ℕ) (r : R) → slice_get now k ≡ Some r → IsAtEnd (remaining r)) → WereAllRead remaining now (if leaves then Left port why else Came port why)
side_read remaining now true port why all = all
side_read remaining now false port why all = all

pub fault_read : {R : Type 0} (remaining : R → Option (List ℕ)) (captures : List Source) (now : List R) (fault : MergeFault) (said : CompareFault) → AreReadByMerge remaining now fault
    → IsFaultOf captures fault said → WereAllRead remaining now said
fault_read remaining captures now merge.Memory said read is = subst (λ (x : CompareFault). WereAllRead remaining now x) (sym is) tt
fault_read remaining captures now (merge.Read place) said read is = subst (λ (x : CompareFault). WereAllRead remaining now x) (sym is) read
fault_read remaining captures now (merge.Capture place what) said read is =
    subst (λ (x : CompareFault). WereAllRead remaining now x) (sym is.2) (side_read remaining now is.0.leaves is.0.port what read)

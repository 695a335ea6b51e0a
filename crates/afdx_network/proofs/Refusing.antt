-- Why there is no run.
use Rattle.std.proofs.Common.{◌≡◌, ℕ, zero, suc, ◌+◌, ◌≤◌, List, [], ◌∷◌, ◌++◌, length, slice_get, take, Option, Some, ap, sym, ◌∙◌, inl, inr, subst, Result, Ok, Err}
use Rattle.std.specs.Prelude.{All, IfErr}
use Rattle.std.proofs.lemmas.List.{take_more, take_all}
use Rattle.std.proofs.lemmas.Option.{slice_get_within, get_or_from_slice_get}
use Rattle.std.proofs.lemmas.List.Elements.{All-head, All-tail, All-push}
use Rattle.afdx_pcap.specs.declared.fault.PcapFault.{PcapFault}
use Rattle.afdx_pcap.specs.Fault.{IsFault}
use Rattle.afdx_load.specs.Accepted.{IsAccepted}
use Rattle.afdx_session.specs.Texts.{Text}
use Rattle.afdx_session.specs.Reading.{IsSound, IsFirstFault}
use Rattle.afdx_network_check.specs.Net.{Network}
use Rattle.afdx_network.specs.declared.fault.NetworkRunFault.{NetworkRunFault}
use Rattle.afdx_network.specs.declared.fault.NetworkRunFault.TheVariants as fault
use Rattle.afdx_network.specs.Runs.{Given, KeepTheirLines}
use Rattle.afdx_network.specs.Given.{AreGiven, AreSound, IsRefusalUnless, IsRefusal, IsUncheckedRefusal, IsFaultOver}
use Rattle.afdx_network.specs.Inner.Windows.{IsRunFault}

-- ---- the first given text that is no capture

-- one more element, and all
pub all_more : {X : Type 0} (P : X → Type 0) (xs : List X) (k : ℕ) (x : X) → slice_get xs k ≡ Some x → All P (take k xs) → P x → All P (take (k + 1) xs)
all_more {X = X} P xs k x at before here = subst (All P) (sym taken) (All-push P (take k xs) x before here) where
  taken : take (k + 1) xs ≡ take k xs ++ x ∷ []
  taken = take_more xs k x (slice_get_within xs k x at) ∙ ap (λ (y : X). take k xs ++ y ∷ []) (get_or_from_slice_get xs k x x at)

pub all_taken : {X : Type 0} (P : X → Type 0) (xs : List X) (k : ℕ) → length xs ≤ k → All P (take k xs) → All P xs
all_taken P xs k past taken = subst (All P) (take_all k xs past) taken

pub first_fault : (texts : List Text) (k : ℕ) (text : Text) (why : PcapFault) → slice_get texts k ≡ Some text → All IsSound (take k texts) → IsFault text.1 why
    → IsFirstFault texts text.0 why
first_fault [] k text why at sound broken = absurd cc
first_fault (x ∷ texts) zero text why at sound broken =
    let same : text ≡ x = cc in
    inl (ap (λ (y : Text). y.0) (sym same), subst (λ (y : Text). IsFault y.1 why) same broken)
first_fault (x ∷ texts) (suc k) text why at sound broken =
    inr (All-head IsSound x (take k texts) sound, first_fault texts k text why at (All-tail IsSound x (take k texts) sound) broken)

-- what stops a run on its way, or before, refuses it
pub refused_run : (none_late : Type 0) (net : Network) (given : Given) (why : NetworkRunFault) → AreGiven net given → AreSound given → KeepTheirLines net given
    → IsRunFault net why → (none_late → why ≡ fault.Memory)
    → IsRefusalUnless none_late net given why
refused_run none_late net given fault.Memory are sound lines broken soon = tt
refused_run none_late net given (fault.Read place) are sound lines broken soon = absurd broken
refused_run none_late net given (fault.Capture switch port why) are sound lines broken soon = (are, inr (sound, lines, broken, λ none. absurd (no_memory (soon none)))) where
  no_memory : fault.Capture switch port why ≡ fault.Memory → ⊥
  no_memory is = cc
refused_run none_late net given fault.WrongWires are sound lines broken soon = (are, sound, lines, broken)
refused_run none_late net given (fault.Line switch port number) are sound lines broken soon = absurd broken

-- where the loads are accepted
accepted_refusal : (net : Network) (given : Given) (why : NetworkRunFault) → All IsAccepted net.tables → IsUncheckedRefusal net given why → IsRefusal net given why
accepted_refusal net given fault.Memory accepted is = is
accepted_refusal net given (fault.Read place) accepted is = is
accepted_refusal net given (fault.Capture switch port why) accepted (are, inl broken) = (are, inl broken)
accepted_refusal net given (fault.Capture switch port why) accepted (are, inr late) = (are, inr (late.0, late.1, late.2, λ none. late.3 (none, accepted)))
accepted_refusal net given fault.WrongWires accepted is = is
accepted_refusal net given (fault.Line switch port number) accepted is = is

accepted_fault : {R : Type 0} (remaining : R → Option (List ℕ)) (net : Network) (readers : List R) (why : NetworkRunFault) → All IsAccepted net.tables
    → IsFaultOver remaining net readers (IsUncheckedRefusal net) why → IsFaultOver remaining net readers (IsRefusal net) why
accepted_fault remaining net readers fault.Memory accepted is = is
accepted_fault remaining net readers (fault.Read place) accepted is = is
accepted_fault remaining net readers (fault.Capture switch port why) accepted is = (is.0, is.1, accepted_refusal net is.0 (fault.Capture switch port why) accepted is.2)
accepted_fault remaining net readers fault.WrongWires accepted is = (is.0, is.1, accepted_refusal net is.0 fault.WrongWires accepted is.2)
accepted_fault remaining net readers (fault.Line switch port number) accepted is = (is.0, is.1, accepted_refusal net is.0 (fault.Line switch port number) accepted is.2)

pub accepted_refuses : {R V : Type 0} (r : Result V NetworkRunFault) (remaining : R → Option (List ℕ)) (net : Network) (readers : List R) → All IsAccepted net.tables
    → IfErr r (IsFaultOver remaining net readers (IsUncheckedRefusal net)) → IfErr r (IsFaultOver remaining net readers (IsRefusal net))
accepted_refuses (Ok v) remaining net readers accepted is = tt
accepted_refuses (Err why) remaining net readers accepted is = accepted_fault remaining net readers why accepted is

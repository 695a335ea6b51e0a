-- Captures that were got, and files that were put or not.
use Rattle.std.proofs.Common.{◌≡◌, ℕ, ◌<◌, List, map, length, Option, Some, Result, Ok, Err, string_bytes, inl, inr, sym, ap, subst, ◌∙◌, get_or, slice_get}
use Rattle.std.specs.Prelude.{option_map, MatchResult}
use Rattle.std.proofs.lemmas.Option.{slice_get-map, slice_get-get_or}
use Rattle.afdx_table.specs.Content.{Content}
use Rattle.afdx_messages.specs.declared.failure.Failure.{Failure}
use Rattle.afdx_messages.specs.declared.failure.Failure.TheVariants as failure
use Rattle.afdx_folder.specs.Files.{Files, KeepsFiles, PutsFiles, DeviceLog, one_more, settled_after}
use Rattle.afdx_serve.specs.Runs.{GetsUpTo, StopsAt, StopsSettling, EndsAt, FailsToPutOne, FailsToPut}
use Rattle.afdx_serve.specs.Inner.Outputs.{FailsToSettle, FailsToMove}
use Rattle.afdx_serve.proofs.FileLemmas.{KeepsFiles-trans, PutsFiles-before, ShowsAll-before}

-- ---- failures

-- a new file was not taken by the device
pub not_settled : (f : Failure) (name : List ℕ) (names : List (List ℕ)) (i : ℕ) (first before after : DeviceLog) → slice_get names i ≡ Some name → before ≡ settled_after i first
    → FailsToPutOne f name before after → FailsToSettle f names first after
not_settled (failure.Put s) name names i first before after is same fails =
    subst (λ (n : List ℕ). StopsSettling n names first after) (sym fails.0) (i, is, fails.1 ∙ ap (one_more name) same)
not_settled failure.Memory name names i first before after is same fails = tt
not_settled f name names i first before after is same fails = absurd fails

-- so none was put
pub none_put : (f : Failure) (names all : List (List ℕ)) (old new : Option Files) (before after : DeviceLog) → KeepsFiles old new → FailsToSettle f names before after
    → FailsToPut f names all old new before after
none_put (failure.Put s) names all old new before after keeps fails = inl (fails, keeps)
none_put failure.Memory names all old new before after keeps fails = inl keeps
none_put f names all old new before after keeps fails = absurd fails

-- all new files were taken, and then put or not
module _ (names all : List (List ℕ)) (old new : Option Files) (first before after : DeviceLog) (taken : before ≡ settled_after (length names) first) where
  not_all_moved : (f : Failure) → FailsToMove f names all old new before after → FailsToPut f names all old new first after
  not_all_moved (failure.Put s) fails = inr (fails.0, fails.1 ∙ ap (one_more (string_bytes s)) taken)
  not_all_moved failure.Memory fails = inr fails
  not_all_moved f fails = absurd fails

  pub moved : {T : Type 0} (r : Result T Failure)
      → MatchResult r (λ _. PutsFiles old new names all × (after ≡ before)) (λ f. FailsToMove f names all old new before after)
      → MatchResult r (λ _. PutsFiles old new names all × (after ≡ settled_after (length names) first)) (λ f. FailsToPut f names all old new first after)
  moved (Ok x) h = (h.0, h.1 ∙ taken)
  moved (Err f) h = not_all_moved f h

-- ---- places in lists of names

-- an element of a mapped list
pub mapped : {X Y : Type 0} (f : X → Y) (xs : List X) (i : ℕ) (d : X) → i < length xs → slice_get (map f xs) i ≡ Some (f (get_or xs i d))
mapped f xs i d lt = slice_get-map f xs i ∙ ap (option_map f) (slice_get-get_or xs i d lt)

pub GetsUpTo-before : (name path : List ℕ) (a b : Option Files) (t : Content) → KeepsFiles a b → GetsUpTo name b path t → GetsUpTo name a path t
GetsUpTo-before name path a b t keeps s = record { place = s.place; got = s.got; is_there = s.is_there; earlier = ShowsAll-before a b _ _ keeps s.earlier }

pub StopsAt-before : (name : List ℕ) (names all : List (List ℕ)) (a b c : Option Files) → KeepsFiles a b → StopsAt name names all b c → StopsAt name names all a c
StopsAt-before name names all a b c keeps s = record { place = s.place; before = s.before; is_there = s.is_there; earlier = PutsFiles-before a b s.before _ _ keeps s.earlier; others = s.others }

pub EndsAt-before : (name : List ℕ) (names all : List (List ℕ)) (a b c : Option Files) (first before after : DeviceLog) → KeepsFiles a b → before ≡ first → EndsAt name names all b c before after
    → EndsAt name names all a c first after
EndsAt-before name names all a b c first before after keeps same (inl h) =
    inl ((h.0.0, h.0.1, h.0.2 ∙ ap (λ (l : DeviceLog). one_more name (settled_after h.0.0 l)) same), KeepsFiles-trans a b c keeps h.1)
EndsAt-before name names all a b c first before after keeps same (inr h) =
    inr (StopsAt-before name names all a b c keeps h.0, h.1 ∙ ap (λ (l : DeviceLog). one_more name (settled_after (length names) l)) same)

-- Tables whose loads are all accepted where latencies differ.
use Rattle.std.proofs.Common.{◌≡◌, ◌+◌, ◌≤◌, ℕ, zero, suc, nat_lt, List, [], ◌∷◌, slice_get, Option, Some, None, Ok, refl, subst, arith}
use Rattle.std.specs.Prelude.{All}
use Rattle.std.specs.List.{AllByRecursion}
use Rattle.std.proofs.lemmas.Bool.{ltb-false}
use Rattle.std.proofs.lemmas.List.Elements.{All-from_recursion}
use Rattle.std.proofs.lemmas.Option.{same_Some}
use Rattle.afdx_table.specs.Content.{Content}
use Rattle.afdx_load.specs.Accepted.{IsAccepted}
use Rattle.afdx_load.specs.declared.fault.LoadFault.{LoadFault}
use Rattle.afdx_grouping.specs.Scatter.{first_scattered_fault, IsAcceptedWith, NothingIsScattered, AcceptedHasNoScatteredFault, LessScatterIsAccepted}
use Rattle.afdx_wiring.specs.declared.fault.NetworkFault.TheVariants as fault
use Rattle.afdx_wiring.specs.Refusal.{unless}
use Rattle.afdx_network_check.specs.Net.{Network, stated_least, scatter_at}
use Rattle.afdx_network_check.specs.Order.{Answer, load_fits, lost_latency, tables_fit, loads_fit}
use Rattle.afdx_network_check.specs.Rules.{FitSwitches}
use Rattle.afdx_network_check.proofs.Chains.{fine, first_kept, rest_kept, unless_so}

no_fault : (n : ℕ) (o : Option LoadFault) → load_fits n o ≡ fine → o ≡ None
no_fault n None h = refl
no_fault n (Some why) h = absurd cc

-- the table at a place, of those of which n come before
each_scattered : AcceptedHasNoScatteredFault → (net : Network) (n : ℕ) (ts : List Content) → tables_fit net n ts ≡ fine → (i : ℕ) (t : Content) → slice_get ts i ≡ Some t
    → IsAcceptedWith (scatter_at net (n + i) t) t
each_scattered law net n [] h i t is = absurd cc
each_scattered law net n (u ∷ ts) h zero t is =
    let here : Answer = load_fits n (first_scattered_fault (scatter_at net n u) u.latency u.links u.ports) in
    let rest : Unit {0} → Answer = λ _. tables_fit net (n + 1) ts in
    let none = no_fault n (first_scattered_fault (scatter_at net n u) u.latency u.links u.ports) (first_kept here rest tt h) in
    let accepted = (law (scatter_at net n u) u).1 none in
    subst (λ (k : ℕ). IsAcceptedWith (scatter_at net k t) t) (start n) (subst (λ (c : Content). IsAcceptedWith (scatter_at net n c) c) (same_Some u t is) accepted) where
      start : (m : ℕ) → m ≡ m + 0
      start m = omega arith
each_scattered law net n (u ∷ ts) h (suc i) t is =
    let here : Answer = load_fits n (first_scattered_fault (scatter_at net n u) u.latency u.links u.ports) in
    let rest : Unit {0} → Answer = λ _. tables_fit net (n + 1) ts in
    subst (λ (k : ℕ). IsAcceptedWith (scatter_at net k t) t) (next n i) (each_scattered law net (n + 1) ts (rest_kept here rest tt h) i t is) where
      next : (m k : ℕ) → m + 1 + k ≡ m + suc k
      next m k = omega arith

each_stated : (net : Network) (n : ℕ) (ts : List Content) → lost_latency net n ts ≡ fine → (i : ℕ) (t : Content) → slice_get ts i ≡ Some t → stated_least net (n + i) ≤ t.latency
each_stated net n [] h i t is = absurd cc
each_stated net n (u ∷ ts) h zero t is =
    let here : Answer = unless (nat_lt u.latency (stated_least net n)) (fault.Latency n) in
    let rest : Unit {0} → Answer = λ _. lost_latency net (n + 1) ts in
    let kept = ltb-false u.latency (stated_least net n) (unless_so (nat_lt u.latency (stated_least net n)) (fault.Latency n) (first_kept here rest tt h)) in
    subst (λ (k : ℕ). stated_least net k ≤ t.latency) (start n) (subst (λ (c : Content). stated_least net n ≤ c.latency) (same_Some u t is) kept) where
      start : (m : ℕ) → m ≡ m + 0
      start m = omega arith
each_stated net n (u ∷ ts) h (suc i) t is =
    let here : Answer = unless (nat_lt u.latency (stated_least net n)) (fault.Latency n) in
    let rest : Unit {0} → Answer = λ _. lost_latency net (n + 1) ts in
    subst (λ (k : ℕ). stated_least net k ≤ t.latency) (next n i) (each_stated net (n + 1) ts (rest_kept here rest tt h) i t is) where
      next : (m k : ℕ) → m + 1 + k ≡ m + suc k
      next m k = omega arith

pub all_fit : AcceptedHasNoScatteredFault → (net : Network) → loads_fit net ≡ Ok tt → FitSwitches net
unfolding loads_fit
all_fit law net h switch t is =
    let rest : Unit {0} → Answer = λ _. tables_fit net 0 net.tables in
    let stated = first_kept (lost_latency net 0 net.tables) rest tt h in
    let tables = rest_kept (lost_latency net 0 net.tables) rest tt h in
    record {
      latency = subst (λ (k : ℕ). stated_least net k ≤ t.latency) (start switch) (each_stated net 0 net.tables stated switch t is);
      accepted = subst (λ (k : ℕ). IsAcceptedWith (scatter_at net k t) t) (start switch) (each_scattered law net 0 net.tables tables switch t is);
    } where
      start : (m : ℕ) → 0 + m ≡ m
      start m = omega arith

-- where they do not differ too
plain : NothingIsScattered → LessScatterIsAccepted → (d : ℕ) (t : Content) → IsAcceptedWith d t → IsAccepted t
plain none less d t h = (none.1 t).0 (less 0 d t (omega arith) h)

each_accepted : AcceptedHasNoScatteredFault → NothingIsScattered → LessScatterIsAccepted → (net : Network) (n : ℕ) (ts : List Content) → tables_fit net n ts ≡ fine → AllByRecursion IsAccepted ts
each_accepted law none less net n [] h = tt
each_accepted law none less net n (t ∷ ts) h =
    let here : Answer = load_fits n (first_scattered_fault (scatter_at net n t) t.latency t.links t.ports) in
    let rest : Unit {0} → Answer = λ _. tables_fit net (n + 1) ts in
    let fault = no_fault n (first_scattered_fault (scatter_at net n t) t.latency t.links t.ports) (first_kept here rest tt h) in
    (plain none less (scatter_at net n t) t ((law (scatter_at net n t) t).1 fault), each_accepted law none less net (n + 1) ts (rest_kept here rest tt h))

pub all_accepted : AcceptedHasNoScatteredFault → NothingIsScattered → LessScatterIsAccepted → (net : Network) → loads_fit net ≡ Ok tt → All IsAccepted net.tables
unfolding loads_fit
all_accepted law none less net h =
    let rest : Unit {0} → Answer = λ _. tables_fit net 0 net.tables in
    All-from_recursion IsAccepted net.tables (each_accepted law none less net 0 net.tables (rest_kept (lost_latency net 0 net.tables) rest tt h))

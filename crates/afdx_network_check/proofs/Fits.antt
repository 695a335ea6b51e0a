-- Tables of which no rule is broken fit together.
use Rattle.std.proofs.Common.{◌≡◌, List, [], get_or, Ok, Err}
use Rattle.std.specs.Prelude.{All, IfOk}
use Rattle.std.specs.List.{AllByRecursion}
use Rattle.std.proofs.lemmas.List.Elements.{All-from_recursion}
use Rattle.afdx_wiring.specs.declared.layout.Wire.{Wire}
use Rattle.afdx_network_check.specs.declared.shared.Shared.{Shared}
use Rattle.afdx_network_check.specs.declared.shared.Shared.TheVariants as shared
use Rattle.afdx_wiring.specs.Refusal.{◌>>=◌, Gives}
use Rattle.afdx_network_check.specs.Net.{Network, rows_of, rows_on}
use Rattle.afdx_network_check.specs.Rules.{Joins, GoesOn, FitsTogether}
use Rattle.afdx_network_check.specs.Order.{Answer, first_of, by_wires, joined_at, shares, most_rows, has_source, fed_numbers, each_once, misfit}
use Rattle.afdx_network_check.proofs.Chains.{first_kept, rest_kept, wires_kept, all_kept}
use Rattle.afdx_network_check.proofs.JointLemmas.{SharesAt, joins, all_go}
use Rattle.afdx_network_check.proofs.FeedLemmas.{way_back, source_there}
use Rattle.afdx_network_check.proofs.OnceLemmas.{once}

shared_by_all : (net : Network) (what : Shared) → by_wires (shares net what) 0 net.layout.wires ≡ Ok tt → AllByRecursion (SharesAt net what) net.layout.wires
shared_by_all net what h = wires_kept (shares net what) (SharesAt net what) (λ at w kept. (at, kept)) 0 net.layout.wires h

abbrev AllKept : Network → Wire → Type 0
AllKept net w = Joins net w × (SharesAt net shared.Number w × (SharesAt net shared.Port w × SharesAt net shared.Terms w))

goes_on : (net : Network) (w : Wire) → AllKept net w → All (GoesOn net w) (rows_on net w)
goes_on net w kept = All-from_recursion (GoesOn net w) (rows_on net w) (all_go net w kept.0 kept.1.0 kept.1.1.0 kept.1.1.1)

-- no rule is broken
record Kept (net : Network) : Type 0 where
  pub joins : by_wires (joined_at net) 0 net.layout.wires ≡ Ok tt
  pub numbers : by_wires (shares net shared.Number) 0 net.layout.wires ≡ Ok tt
  pub ports : by_wires (shares net shared.Port) 0 net.layout.wires ≡ Ok tt
  pub terms : by_wires (shares net shared.Terms) 0 net.layout.wires ≡ Ok tt
  pub sources : first_of (has_source net) (rows_of net) ≡ Ok tt
  pub once : each_once [] (fed_numbers net (rows_of net)) ≡ Ok tt

kept : (net : Network) → misfit net ≡ Ok tt → Kept net
unfolding misfit
kept net h =
    let ws : List Wire = net.layout.wires in
    let joined : Answer = by_wires (joined_at net) 0 ws in
    let numbers : Answer = by_wires (shares net shared.Number) 0 ws in
    let ports : Answer = by_wires (shares net shared.Port) 0 ws in
    let terms : Answer = by_wires (shares net shared.Terms) 0 ws in
    let sources : Answer = first_of (has_source net) (rows_of net) in
    let after_sources : Unit {0} → Answer = λ _. each_once [] (fed_numbers net (rows_of net)) in
    let after_terms : Unit {0} → Answer = λ _. sources >>= after_sources in
    let after_ports : Unit {0} → Answer = λ _. terms >>= after_terms in
    let after_numbers : Unit {0} → Answer = λ _. ports >>= after_ports in
    let after_joined : Unit {0} → Answer = λ _. numbers >>= after_numbers in
    let h1 = rest_kept joined after_joined tt h in
    let h2 = rest_kept numbers after_numbers tt h1 in
    let h3 = rest_kept ports after_ports tt h2 in
    let h4 = rest_kept terms after_terms tt h3 in
    record {
      joins = first_kept joined after_joined tt h;
      numbers = first_kept numbers after_numbers tt h1;
      ports = first_kept ports after_ports tt h2;
      terms = first_kept terms after_terms tt h3;
      sources = first_kept sources after_sources tt h4;
      once = rest_kept sources after_sources tt h4;
    }

-- each row has a source
pub each_has_source : (net : Network) → misfit net ≡ Ok tt → All (λ r. has_source net r ≡ Ok tt) (rows_of net)
each_has_source net h = All-from_recursion (λ r. has_source net r ≡ Ok tt) (rows_of net) (all_kept (has_source net) (rows_of net) (kept net h).sources)

pub fits : (net : Network) → misfit net ≡ Ok tt → FitsTogether net
fits net h =
    let k = kept net h in
    let ws : List Wire = net.layout.wires in
    let js = All-from_recursion (Joins net) net.layout.wires (wires_kept (joined_at net) (Joins net) (joins net) 0 net.layout.wires k.joins) in
    let ns = All-from_recursion (SharesAt net shared.Number) net.layout.wires (shared_by_all net shared.Number k.numbers) in
    let ps = All-from_recursion (SharesAt net shared.Port) net.layout.wires (shared_by_all net shared.Port k.ports) in
    let ts = All-from_recursion (SharesAt net shared.Terms) net.layout.wires (shared_by_all net shared.Terms k.terms) in
    let fed = each_has_source net h in
    record {
      wires = js;
      links = λ k d lt. goes_on net (get_or ws k d) (js k d lt, (ns k d lt, (ps k d lt, ts k d lt)));
      sources = λ k d lt. let r = get_or (rows_of net) k d in let source = source_there net r (fed k d lt) in way_back most_rows net r source.0 source.1;
      once = once net [] (rows_of net) k.once;
    }

pub if_given : (net : Network) (given : Answer) → Gives (λ u. u) given (misfit net) → IfOk given (λ _. FitsTogether net)
if_given net (Ok tt) h = fits net h
if_given net (Err e) h = tt

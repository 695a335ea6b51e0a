-- At first nothing is known, of nothing that was sent.
use Rattle.std.proofs.Common.{◌≡◌, ℕ, ◌<◌, ◌==◌, List, [], length, get_or, slice_get, Some, sym, subst, arith}
use Rattle.std.specs.Prelude.{All}
use Rattle.std.proofs.lemmas.List.Elements.{All-nil}
use Rattle.std.proofs.lemmas.List.Quantifiers.{position-Some}
use Rattle.std.proofs.lemmas.Option.{slice_get_within}
use Rattle.afdx_table.specs.Content.{Content}
use Rattle.afdx_network_check.specs.Net.{Network, Row}
use Rattle.afdx_origins.specs.declared.at_switch.AtSwitch.{AtSwitch}
use Rattle.afdx_origins.specs.Inner.Known.{IsOnItsWay, IsFreshSwitch, AreKnown}

pub known_fresh : (net : Network) (switches : List AtSwitch) → length switches ≡ length net.tables
    → ((k : ℕ) (s : AtSwitch) → k < length switches → (t : Content) → slice_get net.tables k ≡ Some t → IsFreshSwitch t (get_or switches k s)) → AreKnown net [] switches
known_fresh net switches many each = record {
  coming = record {
    many = many;
    each = λ n t s there.
        let f = fresh n t s there in
        record {
          formed = f.formed;
          many = f.many;
          each = λ place l a at.
              let r : Row = record { switch = n; link = l } in
              subst (All (IsOnItsWay net [] r)) (sym (f.each place l a at).none) (All-nil (IsOnItsWay net [] r));
        };
  };
  delays = record {
    ports = λ n place link l s a is. ((fresh n is.table s is.table_is).each place l a is.at).ports;
    each = λ n place link port at l s a d is here.
        let within = position-Some (λ to. to == port) l.to at 0 here in
        ([], tt, ((fresh n is.table s is.table_is).each place l a is.at).no_delays at d within.0);
  };
  told = record { each = λ n link place l s a w x is wire has. absurd (let lt = has.1 in omega (arith, lt)) };
} where
  fresh : (n : ℕ) (t : Content) (s : AtSwitch) → slice_get net.tables n ≡ Some t → IsFreshSwitch t (get_or switches n s)
  fresh n t s there = each n s (let lt = slice_get_within net.tables n t there in omega (arith, lt, many)) t there

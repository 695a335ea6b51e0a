use Rattle.std.proofs.Common.{◌≡◌, ℕ, ◌∷◌, [], List, Option, length, sym, ◌∙◌, ap, arith}
use Rattle.std.proofs.lemmas.List.{length-append}
use Rattle.afdx_network_trace.specs.First.{first_number}
use Rattle.afdx_network_trace.proofs.Walking.{each_pushed}
use Rattle.afdx_network_trace.proofs.numbering.Search.at_switch.Goals as goal

pub loop-number-preserved : goal.loop-number-preserved
loop-number-preserved c =
    let at = c.loop-number in
    let s = c.args.self.now in
    let grown = c.in_ok-push.ensures.items in
    let count = ap (λ (xs : List (Option ℕ)). length xs) grown in
    let long = length-append at.firsts.items (c.first_number.result ∷ []) in
    let many = at.invariant.many in
    record {
      many = omega (arith, count, long, many);
      each = each_pushed (λ (n : ℕ) (first : Option ℕ). first ≡ first_number s.network.now s.dones.now c.args.switch n) at.firsts.items c.push.new.self.items c.first_number.result grown
          at.invariant.each
          (c.first_number.ensures ∙ ap (λ n. first_number s.network.now s.dones.now c.args.switch n) (sym many));
    }

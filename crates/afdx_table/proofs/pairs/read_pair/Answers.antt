use Rattle.std.proofs.Common.{rules, ◌≡◌, ◌==◌, ◌∙◌, Some, sym, slice_index}
use Rattle.std.proofs.lemmas.Bool.{eqb-true, false_from_ne_true}
use Rattle.toml.specs.View.{view}
use Rattle.toml.specs.Parse.{parse_value}
use Rattle.afdx_table.proofs.SlotLemmas.{named_is}
use Rattle.afdx_table.proofs.PairLemmas.{pair_text}
use Rattle.afdx_table.proofs.pairs.read_pair.Goals as goal

pub returns : goal.returns
returns c =
    let name = c.in_ok-name.name.now in
    let text = c.in_ok-text.text.now in
    let whole = pair_text c.args.line.now c.in_ok-before.before.now c.in_ok-before.after.now name text c.in_ok-before.ensures.cases c.in_ok-name.ensures.cases c.in_ok-text.ensures.cases in
    let is = named_is name c.in_ok-key.key (sym c.key_named.ensures ∙ c.in_ok-key.was) in
    let unmarked = false_from_ne_true (slice_index text 0 == 239) (λ e. c.if-first_byte.false (c.first_byte.ensures ∙ eqb-true (slice_index text 0) 239 e)) in
    let parsed : parse_value c.in_ok-text.text.now ≡ Some (view c.in_ok-value.value) = search rules in
    (text, rw (← is) whole, unmarked, parsed)

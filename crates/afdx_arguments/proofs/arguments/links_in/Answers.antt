use Rattle.std.proofs.Common.{List, [], ℕ, ◌+◌, drop, sym, subst}
use Rattle.afdx_arguments.proofs.LinkLemmas.{AreSoFar, none_yet, texts_of, next_link, no_links, all_links}
use Rattle.afdx_arguments.proofs.arguments.links_in.Goals as goal

pub loop-text-init : goal.loop-text-init
loop-text-init c =
    let texts = texts_of c.args.texts.now in
    subst (λ (links : List ℕ). AreSoFar texts texts links) (sym c.new-links.ensures.items) (none_yet texts)

pub returns-in_default : goal.returns-in_default
returns-in_default c =
    no_links c.args.texts.now c.loop-text.text-index (record { ref_ptr = (0, 0); now = [] }) c.loop-text.links.items c.loop-text-test.true c.loop-text.invariant c.in_default.field-0
    c.in_default.ensures.value.0

pub loop-text-preserved : goal.loop-text-preserved
loop-text-preserved c =
    let texts = c.args.texts.now in
    let i = c.loop-text.text-index in
    subst (λ (links : List ℕ). AreSoFar (texts_of texts) (texts_of (drop (i + 1) texts)) links) (sym c.in_ok-push.ensures.items)
    (next_link texts i (record { ref_ptr = (0, 0); now = [] }) c.loop-text.links.items c.loop-text-test.true c.loop-text.invariant c.in-Ok.link c.in-Ok.ensures.value.0)

pub returns : goal.returns
returns c = all_links c.args.texts.now c.loop-text.text-index c.loop-text.links.items c.loop-text-test.false c.loop-text.invariant

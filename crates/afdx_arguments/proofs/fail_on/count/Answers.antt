use Rattle.std.proofs.Common.{lit<, ℕ, List, Bool, rules, tests, ◌∙◌}
use Rattle.std.specs.Str.{bytes_eq}
use Rattle.std.proofs.lemmas.List.Sums.{length-filter}
use Rattle.std.proofs.lemmas.Iterator.Consumers.{count_from_yields_List, YieldsList-at, YieldsList-from_filter}
use Rattle.std.proofs.lemmas.Iterator.Splits.{YieldsList-from_str_split}
use Rattle.afdx_arguments.specs.FailOn.{words_of}
use Rattle.afdx_arguments.proofs.fail_on.count.Goals as goal

pub returns : goal.returns
returns c =
    let is : List ℕ → Bool = λ w. bytes_eq w c.args.word.now in
    count_from_yields_List c.filter.result _ c.count.ensures.ran
    (YieldsList-from_filter _ is
    (YieldsList-at c.filter.ensures.source (YieldsList-from_str_split 44 c.args.list.now (lit< tt) c.split.ensures.text c.split.ensures.has_more c.split.ensures.pattern))
    c.filter.ensures.closure (λ x b q k. search (rules, tests)))
    ∙ length-filter is (words_of c.args.list.now)

use Rattle.std.proofs.Common.{ℕ, ◌*◌, ◌^◌, ◌≤◌, subst, sym, ap, ◌∙◌}
use Rattle.afdx_account.specs.Policing.{Terms}
use Rattle.afdx_table.specs.Link.{Link}
use Rattle.afdx_load.specs.Load.{terms_of, weight_of}
use Rattle.afdx_load.proofs.ShareLemmas.{times, rate_is, burst_is, rate_small, burst_small}
use Rattle.afdx_load.proofs.share.share_of.Goals as goal

pub returns-clause-rate : goal.returns-clause-rate
returns-clause-rate c =
    times (c.weight-weight.ensures ∙ c.new-account.ensures.weight c.args.speed) (c.rate.ensures ∙ ap (λ (t : Terms). t.rate) c.new-account.ensures.terms)
    ∙ ap (λ (l : Link). weight_of c.args.speed l * (terms_of l).rate) c.link.view_is
    ∙ rate_is c.args.speed c.args.link.now

pub returns-clause-burst : goal.returns-clause-burst
returns-clause-burst c =
    times (c.from.ensures ∙ c.weight-weight.ensures ∙ c.new-account.ensures.weight c.args.speed) (c.from-2.ensures ∙ c.cap.ensures ∙ ap (λ (t : Terms). t.cap) c.new-account.ensures.terms)
    ∙ ap (λ (l : Link). weight_of c.args.speed l * (terms_of l).cap) c.link.view_is
    ∙ burst_is c.args.speed c.args.link.now

pub returns-clause-small_burst : goal.returns-clause-small_burst
returns-clause-small_burst c =
    let small : ℕ → Type 0 = λ n. n ≤ 2 ^ 60 in
    subst small (sym (returns-clause-burst c)) (burst_small c.args.speed c.args.link.now c.requires.size c.requires.jitter)

pub returns-clause-small_rate : goal.returns-clause-small_rate
returns-clause-small_rate c =
    let small : ℕ → Type 0 = λ n. n ≤ 2 ^ 32 in
    subst small (sym (returns-clause-rate c)) (rate_small c.args.speed c.args.link.now c.requires.size)

-- All that is allowed to pass conforms to terms of so much more jitter.
use Rattle.std.proofs.Common.{◌≡◌, ℕ, ◌+◌, ◌*◌, ◌-◌, ◌≤◌, min, nat_le, List, [], ◌∷◌, Bool, true, false, refl, sym, ap, ◌∙◌, arith}
use Rattle.std.proofs.lemmas.Bool.{leb-true, le-leb}
use Rattle.afdx_account.specs.declared.frame.Frame.{Frame}
use Rattle.afdx_account.specs.Policing.{Terms}
use Rattle.afdx_account.specs.Level.{InOrder, stepped}
use Rattle.afdx_account.specs.Inner.Laws.{StepsPassWhatConforms}
use Rattle.afdx_levels.specs.Levels.{Levels, slack_of, credited, after, Allowed}
use Rattle.afdx_levels.specs.Inner.Laws.{chosen, AllFit, loosened, SurplusIsJitter}

-- credit of a gap in two parts
credit_parts : (rate since between at : ℕ) → since ≤ between → between ≤ at → rate * (at - since) ≡ rate * (between - since) + rate * (at - between)
credit_parts rate since between at first second =
    let whole : at - since ≡ (between - since) + (at - between) = omega arith in
    ap (λ (n : ℕ). rate * n) whole ∙ omega arith

all_pass : (t : Terms) (tolerance level since : ℕ) (l : Levels) (fs : List Frame) (fates : List Bool)
    → min (t.cap + 2 * slack_of t tolerance) l.most ≤ level + t.rate * (l.since - since) → since ≤ l.since
    → InOrder l.since fs → AllFit t fs → Allowed t tolerance l fs fates
    → stepped (loosened tolerance t) level since (chosen fates fs) ≡ chosen fates fs
all_pass t tolerance level since l [] [] less early order fit may = refl
all_pass t tolerance level since l [] (b ∷ fates) less early order fit may = absurd may
all_pass t tolerance level since l (f ∷ fs) [] less early order fit may = absurd may
all_pass t tolerance level since l (f ∷ fs) (true ∷ fates) less early order fit may =
    let q = t.price f.size in
    let full = t.cap + 2 * slack_of t tolerance in
    let fits : q ≤ t.cap = fit.0 in
    let next : l.since ≤ f.stamp = order.0 in
    let enough = leb-true q (l.most + t.rate * (f.stamp - l.since)) may.0 in
    let gap = credit_parts t.rate since l.since f.stamp early next in
    let now = min full (level + t.rate * (f.stamp - since)) in
    let passes : nat_le q now ≡ true = le-leb q now (omega (arith, gap, enough, fits, less)) in
    let none : t.rate * (f.stamp - f.stamp) ≡ 0 = ap (λ (n : ℕ). t.rate * n) (let z : f.stamp - f.stamp ≡ 0 = omega arith in z) ∙ omega arith in
    rw passes (ap (λ (gs : List Frame). f ∷ gs)
    (all_pass t tolerance (now - q) f.stamp (after t tolerance f.size true (credited t l f.stamp)) fs fates
    (omega (arith, gap, less, none)) (omega arith) order.1 fit.1 may.1))
all_pass t tolerance level since l (f ∷ fs) (false ∷ fates) less early order fit may =
    let next : l.since ≤ f.stamp = order.0 in
    let gap = credit_parts t.rate since l.since f.stamp early next in
    all_pass t tolerance level since (after t tolerance f.size false (credited t l f.stamp)) fs fates
    (omega (arith, gap, less)) (omega arith) order.1 fit.1 may.1

in_order : (from from' : ℕ) (fs : List Frame) (fates : List Bool) → from' ≤ from → InOrder from fs → InOrder from' (chosen fates fs)
in_order from from' fs [] le order = tt
in_order from from' [] (b ∷ fates) le order = tt
in_order from from' (f ∷ fs) (true ∷ fates) le order = (let h = order.0 in omega arith, in_order f.stamp f.stamp fs fates (omega arith) order.1)
in_order from from' (f ∷ fs) (false ∷ fates) le order = in_order f.stamp from' fs fates (let h = order.0 in omega arith) order.1

pub surplus_is_jitter : StepsPassWhatConforms → SurplusIsJitter
surplus_is_jitter law t tolerance l frames fates most order fit may =
    sym (law (loosened tolerance t) (chosen fates frames) (in_order l.since 0 frames fates (omega arith) order))
    ∙ all_pass t tolerance (t.cap + 2 * slack_of t tolerance) 0 l frames fates (omega arith) (omega arith) order fit may

use Rattle.std.proofs.Common.{◌≡◌, ◌<◌, ◌≤◌, ◌+◌, ◌++◌, ◌∷◌, [], ℕ, List, length, false, true, ap, sym, subst, ◌∙◌}
use Rattle.std.specs.Prelude.{IfSome}
use Rattle.std.specs.Vec.{with_items}
use Rattle.std.proofs.lemmas.List.{with_items_is}
use Rattle.std.proofs.lemmas.Option.{IfSome_then}
use Rattle.std.proofs.lemmas.Result.{on_ok_weaker, on_err_weaker}
use Rattle.afdx_spells.specs.declared.spell.Excess.{Excess}
use Rattle.afdx_spells.specs.declared.spell.Spell.{Spell}
use Rattle.afdx_spells.specs.Spells.{Noted, goes_on, last_of, spells_of}
use Rattle.afdx_spells.proofs.Ending.{begins, some_last}
use Rattle.afdx_spells.proofs.spells.Spells.note.Goals as goal

abbrev noted_by : ℕ → List Spell → Noted
noted_by gap spells = record { gap = gap; spells = spells }

noted_as : (gap : ℕ) {one other : List Spell} → one ≡ other → noted_by gap one ≡ noted_by gap other
noted_as gap same = ap (noted_by gap) same

pub go_on-requires : goal.go_on-requires
go_on-requires g c =
    subst (λ (ss : List Spell). 0 < length ss) (c.deref.ensures.value ∙ sym c.deref_mut.ensures.value)
    (some_last c.self.inside.gap c.args.frame.now c.deref.result.now (sym c.goes_on.ensures ∙ c.if-goes_on.true))

pub returns-then-goes_on-clause-spells : goal.returns-then-goes_on-clause-spells
returns-then-goes_on-clause-spells g c = λ frames is.
    let x = c.args.frame.now in
    let held = c.self.inside.all in
    let lent = c.deref_mut.result.now in
    let later = c.go_on.new.all in
    let now = c.args.self.now in
    let gap : c.self.inside.gap ≡ now.gap = ap (λ (v : Noted). v.gap) c.self.view_is in
    let long : length later ≡ held.len = c.go_on.auto.all ∙ ap (λ (ss : List Spell). length ss) c.deref_mut.ensures.value ∙ sym held.ok.0 in
    let back : (with_items held later).items ≡ later = with_items_is held later long in
    let same : c.deref.result.now ≡ lent = c.deref.ensures.value ∙ sym c.deref_mut.ensures.value in
    let judged : c.goes_on.result ≡ goes_on now.gap (last_of lent) x
    = c.goes_on.ensures ∙ ap (λ (ss : List Spell). goes_on c.self.inside.gap (last_of ss) x) same ∙ ap (λ (n : ℕ). goes_on n (last_of lent) x) gap in
    let on : goes_on now.gap (last_of lent) x ≡ true = sym judged ∙ c.if-goes_on.true in
    let are : lent ≡ spells_of now.gap frames = c.deref_mut.ensures.value ∙ ap (λ (v : Noted). v.spells) c.self.view_is ∙ is in
    on_ok_weaker c.go_on.result
    (λ (h : (n : ℕ) (fs : List Excess) → lent ≡ spells_of n fs → goes_on n (last_of lent) x ≡ true → later ≡ spells_of n (fs ++ x ∷ [])).
    back ∙ h now.gap frames are on)
    c.go_on.ensures.ok

pub returns-then-goes_on-clause-stays : goal.returns-then-goes_on-clause-stays
returns-then-goes_on-clause-stays g c =
    let held = c.self.inside.all in
    let later = c.go_on.new.all in
    let long : length later ≡ held.len = c.go_on.auto.all ∙ ap (λ (ss : List Spell). length ss) c.deref_mut.ensures.value ∙ sym held.ok.0 in
    let back : (with_items held later).items ≡ later = with_items_is held later long in
    on_err_weaker c.go_on.result
    (λ (same : later ≡ c.deref_mut.result.now). noted_as c.self.inside.gap (back ∙ same ∙ c.deref_mut.ensures.value) ∙ c.self.view_is) c.go_on.ensures.stays

pub returns-then-goes_on-clause-full : goal.returns-then-goes_on-clause-full
returns-then-goes_on-clause-full g c =
    let now = c.args.self.now in
    let same = c.deref_mut.ensures.value ∙ ap (λ (v : Noted). v.spells) c.self.view_is in
    on_err_weaker c.go_on.result
    (λ (h : IfSome (last_of c.deref_mut.result.now) (λ s. s.count ≡ 18446744073709551615)).
    IfSome_then (last_of now.spells) {P = λ (s : Spell). s.count ≡ 18446744073709551615} {Q = λ (s : Spell). c.args.frame.now.at ≤ s.last + now.gap → s.count ≡ 18446744073709551615}
    (subst (λ (ss : List Spell). IfSome (last_of ss) (λ s. s.count ≡ 18446744073709551615)) same h) (λ s is le. is))
    c.go_on.ensures.full

pub returns-clause-spells : goal.returns-clause-spells
returns-clause-spells g c = λ frames is.
    let x = c.args.frame.now in
    let now = c.args.self.now in
    let spells = c.self.inside.all.items in
    let gap : c.self.inside.gap ≡ now.gap = ap (λ (v : Noted). v.gap) c.self.view_is in
    let judged : c.goes_on.result ≡ goes_on now.gap (last_of spells) x
    = c.goes_on.ensures ∙ ap (λ (ss : List Spell). goes_on c.self.inside.gap (last_of ss) x) c.deref.ensures.value ∙ ap (λ (n : ℕ). goes_on n (last_of spells) x) gap in
    let apart : goes_on now.gap (last_of spells) x ≡ false = sym judged ∙ c.if-goes_on.false in
    let are : spells ≡ spells_of now.gap frames = ap (λ (v : Noted). v.spells) c.self.view_is ∙ is in
    c.in_ok-push.ensures.items ∙ ap (λ (s : Spell). spells ++ s ∷ []) c.of.ensures ∙ begins now.gap frames x spells are apart

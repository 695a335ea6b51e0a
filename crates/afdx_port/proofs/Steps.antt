-- What one event of a line does, in the terms in which the code takes it.
use Rattle.std.proofs.Common.{◌≡◌, ℕ, suc, ◌+◌, ◌-◌, ◌<◌, ◌≤◌, cond, List, [], ◌∷◌, ◌++◌, take, drop, refl, ap, sym, ◌∙◌, append_assoc, append-nil}
use Rattle.std.specs.Prelude.{nat_lt, remove, All}
use Rattle.std.proofs.lemmas.List.Elements.{All-append, All-take, All-drop}
use Rattle.afdx_units.specs.Line.{cost_of}
use Rattle.afdx_port.specs.declared.Settings.{Settings}
use Rattle.afdx_port.specs.declared.Item.{Item}
use Rattle.afdx_port.specs.declared.Sent.{Sent}
use Rattle.afdx_port.specs.Service.{Event, sending, aging, fate, sent_of, aged_of}
use Rattle.afdx_port.specs.Inner.Progress.{on_line}
use Rattle.afdx_port.proofs.Choices.{choose_yes, choose_no}

pub fate_aged : (s : Settings) (b : ℕ) (x : Item) → s.max_delay < b - x.stamp → fate s b x ≡ aging (record { item = x; at = b })
fate_aged s b x long = choose_yes _ _ long

pub fate_sent : (s : Settings) (b : ℕ) (x : Item) → b - x.stamp ≤ s.max_delay → fate s b x ≡ sending (record { item = x; begin = b; end = b + cost_of s.speed x.size })
fate_sent s b x short = choose_no _ _ short

pub All_remove : (P : Item → Type 0) (items : List Item) (k : ℕ) → All P items → All P (remove items k)
All_remove P items k h = All-append P (take k items) (drop (suc k) items) (All-take P k items h) (All-drop P (suc k) items h)

pub sent_of-append : (es fs : List Event) → sent_of (es ++ fs) ≡ sent_of es ++ sent_of fs
sent_of-append [] fs = refl
sent_of-append (sending x ∷ es) fs = ap (λ xs. x ∷ xs) (sent_of-append es fs)
sent_of-append (aging x ∷ es) fs = sent_of-append es fs

pub aged_of-append : (es fs : List Event) → aged_of (es ++ fs) ≡ aged_of es ++ aged_of fs
aged_of-append [] fs = refl
aged_of-append (sending x ∷ es) fs = aged_of-append es fs
aged_of-append (aging x ∷ es) fs = ap (λ xs. x ∷ xs) (aged_of-append es fs)

-- the last one sent is on the line
pub on_line-push : (t : ℕ) (xs : List Sent) (x : Sent) → on_line t (xs ++ x ∷ []) ≡ cond (nat_lt t x.end) x.item.size 0
on_line-push t [] x = refl
on_line-push t (y ∷ []) x = refl
on_line-push t (y ∷ z ∷ zs) x = on_line-push t (z ∷ zs) x

-- what was done and what is left stay all of it, when the next events move from the one to the other
pub carried : {X : Type 0} (pick : List Event → List X) (pick-append : (es fs : List Event) → pick (es ++ fs) ≡ pick es ++ pick fs) (all now rest : List Event) (xs ys goal : List X) → all ≡ now
    ++ rest → ys ≡ xs ++ pick now → xs ++ pick all ≡ goal → ys ++ pick rest ≡ goal
carried pick pick-append all now rest xs ys goal split moved so_far =
    ap (λ zs. zs ++ pick rest) moved ∙ append_assoc xs (pick now) (pick rest)
    ∙ ap (λ zs. xs ++ zs) (sym (pick-append now rest) ∙ ap pick (sym split)) ∙ so_far

pub finished_by : {X : Type 0} (pick : List Event → List X) (rest : List Event) (xs goal : List X) → rest ≡ [] → pick [] ≡ [] → xs ++ pick rest ≡ goal → xs ≡ goal
finished_by pick rest xs goal none nothing so_far = sym (append-nil xs) ∙ ap (λ zs. xs ++ zs) (sym (ap pick none ∙ nothing)) ∙ so_far

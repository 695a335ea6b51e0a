-- A port that lags behind has done what it would have.
use Rattle.std.proofs.Common.{◌≡◌, ℕ, ◌≤◌, Bool, true, false, cond, List, [], ◌∷◌, ◌++◌, length, append-nil, refl, ap, sym, ◌∙◌, arith}
use Rattle.std.specs.Prelude.{slice_get}
use Rattle.std.specs.Option.{option_map}
use Rattle.std.proofs.lemmas.Bool.{ltb-false}
use Rattle.afdx_units.specs.Time.{is_before}
use Rattle.afdx_port.specs.declared.Settings.{Settings}
use Rattle.afdx_port.specs.declared.Item.{Item}
use Rattle.afdx_port.specs.Service.{Event, instant, reach, service, before}
use Rattle.afdx_port.specs.Admission.{fits}
use Rattle.afdx_port.specs.Inner.Progress.{left, is_due}
use Rattle.afdx_port.specs.Content.{Content, done, due, offered, advanced, closed}
use Rattle.afdx_port.specs.Lagging.{has_due}
use Rattle.afdx_port.proofs.Choices.{not_below}
use Rattle.afdx_port.proofs.Turns.{instant-next}
use Rattle.afdx_port.proofs.Earlier.{late_start, admission}
use Rattle.afdx_port.proofs.Parts.{split, parts}
use Rattle.afdx_port.proofs.Working.{left_waits, due_no}
use Rattle.afdx_port.proofs.Picked.{reach-le, done_open}
use Rattle.afdx_port.proofs.AtLine.{due_at}

none_before : (s : Settings) (u free : ℕ) (ws : List Item) → is_before u (option_map instant (slice_get (service s free ws) 0)) ≡ false → before u (service s free ws) ≡ []
none_before s u free [] late = refl
none_before s u free (first ∷ rest) late = late_start s u free first rest (omega (arith, ltb-false _ u late, instant-next s free first rest))

open_is : (c : Content) → c.finished ≡ false → done c ≡ before (reach c.settings c.horizon) (service c.settings 0 c.admitted)
open_is c open' = done_open c.settings c.admitted c.horizon c.finished open'

advance_parts : (c : Content) (to : ℕ) → c.finished ≡ false → c.horizon ≤ to
    → let q = left c.settings (reach c.settings c.horizon) 0 c.admitted in done (advanced to c) ≡ done c ++ before (reach c.settings to) (service c.settings q.free q.waiting)
advance_parts c to open' le =
    let s = c.settings in
    let more = before (reach s to) (service s (left s (reach s c.horizon) 0 c.admitted).free (left s (reach s c.horizon) 0 c.admitted).waiting) in
    done_open s c.admitted to c.finished open' ∙ parts s (reach s c.horizon) (reach s to) 0 c.admitted (reach-le s c.horizon to le) ∙ ap (λ es. es ++ more) (sym (open_is c open'))

pub advance_adds : (c : Content) (to : ℕ) → c.finished ≡ false → c.horizon ≤ to → (more : List Event) × (done (advanced to c) ≡ done c ++ more)
advance_adds c to open' le = (_, advance_parts c to open' le)

pub nothing_due : (c : Content) (to : ℕ) → c.finished ≡ false → c.horizon ≤ to → has_due to c ≡ false → done (advanced to c) ≡ done c
nothing_due c to open' le none =
    let s = c.settings in
    let t = reach s c.horizon in
    let u = reach s to in
    let all = service s 0 c.admitted in
    let q = left s t 0 c.admitted in
    let rest = service s q.free q.waiting in
    let first : due c ≡ option_map instant (slice_get rest 0) =
    ap (λ es. option_map instant (slice_get all (length es))) (open_is c open') ∙ ap (λ es. option_map instant (slice_get es (length (before t all)))) (split s t 0 c.admitted)
    ∙ due_at (before t all) rest in
    let none_left = none_before s u q.free q.waiting (ap (is_before u) (sym first) ∙ none) in
    advance_parts c to open' le ∙ ap (λ es. done c ++ es) none_left ∙ append-nil (done c)

-- what is due stays so where nothing is carried out
pub due_stays : (c : Content) (to : ℕ) → c.finished ≡ false → c.horizon ≤ to → has_due to c ≡ false → due (advanced to c) ≡ due c
due_stays c to open' le none = ap (λ es. option_map instant (slice_get (service c.settings 0 c.admitted) (length es))) (nothing_due c to open' le none)

first_late : (s : Settings) (u free : ℕ) (ws : List Item) → is_due s u free ws ≡ false → is_before u (option_map instant (slice_get (service s free ws) 0)) ≡ false
first_late s u free [] late = refl
first_late s u free (first ∷ rest) late = let ge = due_no s u free first rest late in not_below _ u (omega (arith, ge, instant-next s free first rest))

pub none_due_after : (c : Content) (to : ℕ) → c.finished ≡ false → has_due to (advanced to c) ≡ false
none_due_after c to open' =
    let s = c.settings in
    let u = reach s to in
    let all = service s 0 c.admitted in
    let q = left s u 0 c.admitted in
    let rest = service s q.free q.waiting in
    let first : due (advanced to c) ≡ option_map instant (slice_get rest 0) =
    ap (λ es. option_map instant (slice_get all (length es))) (done_open s c.admitted to c.finished open')
    ∙ ap (λ es. option_map instant (slice_get es (length (before u all)))) (split s u 0 c.admitted) ∙ due_at (before u all) rest in
    ap (is_before u) first ∙ first_late s u q.free q.waiting (left_waits s u 0 c.admitted)

finished_cases : (c : Content) (b : Bool) → c.finished ≡ b → (more : List Event) × (done (closed c) ≡ done c ++ more)
finished_cases c true is = ([], ap (λ b. cond b (service c.settings 0 c.admitted) (before (reach c.settings c.horizon) (service c.settings 0 c.admitted))) (sym is) ∙ sym (append-nil (done c)))
finished_cases c false is =
    let q = left c.settings (reach c.settings c.horizon) 0 c.admitted in
    let rest = service c.settings q.free q.waiting in
    (rest, split c.settings (reach c.settings c.horizon) 0 c.admitted ∙ ap (λ es. es ++ rest) (sym (open_is c is)))

pub finish_adds : (c : Content) → (more : List Event) × (done (closed c) ≡ done c ++ more)
finish_adds c = finished_cases c c.finished refl

pub offer_advances : (c : Content) (x : Item) → c.finished ≡ false → c.horizon ≤ x.stamp → done (offered x c) ≡ done (advanced x.stamp c)
offer_advances c x open' le =
    let s = c.settings in
    done_open s (cond (fits s c.admitted x) (c.admitted ++ x ∷ []) c.admitted) x.stamp c.finished open'
    ∙ admission s (reach s x.stamp) c.admitted x (fits s c.admitted x) (omega arith)
    ∙ sym (done_open s c.admitted x.stamp c.finished open')

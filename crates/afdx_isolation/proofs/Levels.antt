-- The levels of the accounts after some arrivals: how they grow, and what an arrival takes.
use Rattle.std.proofs.Common.{◌≡◌, ℕ, ◌+◌, ◌-◌, ◌≤◌, Bool, true, false, cond, List, [], ◌∷◌, ◌++◌, get_or, refl, ap, sym, ◌∙◌, subst, arith, ⊎_elim, append-nil}
use Rattle.std.specs.Prelude.{nat_eq, nat_le, ◌&&◌, ◌||◌, filter, map, All, Contains}
use Rattle.std.proofs.lemmas.Bool.{cases_Bool, eqb-true}
use Rattle.std.proofs.lemmas.Bool.Decides.{nat_tests}
use Rattle.std.proofs.lemmas.List.{map-append}
use Rattle.std.proofs.lemmas.List.Elements.{All-nil, All-cons, All-push, All-weaker, All-from_recursion, recursion_from_All, Contains-get_or, Contains-append_right, filter-append}
use Rattle.afdx_account.specs.declared.frame.Frame.{Frame}
use Rattle.afdx_account.specs.Policing.{conforms, passed_frames}
use Rattle.afdx_account.specs.Level.{headroom, NoneLater}
use Rattle.afdx_port.specs.declared.Item.{Item}
use Rattle.afdx_isolation.specs.Inner.Flow.{Flow, AreDistinct}
use Rattle.afdx_isolation.specs.Inner.Account.{Grow, AreDebited, charge}
use Rattle.afdx_isolation.specs.Arrivals.{own, frame_of_item}
use Rattle.afdx_isolation.specs.Inner.Arrivals.{is_passed, joins, level_after}
use Rattle.afdx_isolation.specs.Inner.Ground.{Ground}

-- the frames of one link
abbrev pub frames : ℕ → List Item → List Frame
frames id arrivals = map frame_of_item (own id arrivals)

-- no frame of any link is later
abbrev pub Early : List Item → ℕ → Type 0
Early before now = (id : ℕ) → NoneLater (frames id before) now

own-push : (id : ℕ) (before : List Item) (x : Item) → frames id (before ++ x ∷ []) ≡ cond (nat_eq x.link id) (frames id before ++ frame_of_item x ∷ []) (frames id before)
own-push id before x =
    let p = λ (x : Item). nat_eq x.link id in
    ap (map frame_of_item) (filter-append p before (x ∷ []))
    ∙ (elim (nat_eq x.link id) as (λ v. map frame_of_item (filter p before ++ cond v (x ∷ []) []) ≡ cond v (frames id before ++ frame_of_item x ∷ []) (frames id before)) [
      | true ↦ map-append frame_of_item (filter p before) (x ∷ [])
      | false ↦ ap (map frame_of_item) (append-nil (filter p before))
    ])

pub early_later : (before : List Item) (now later : ℕ) → now ≤ later → Early before now → Early before later
early_later before now later le early id =
    recursion_from_All (λ (f : Frame). f.stamp ≤ later) (frames id before)
    (All-weaker (λ (f : Frame). f.stamp ≤ now) (λ (f : Frame). f.stamp ≤ later) (λ f soon. omega (arith, soon, le)) (frames id before)
    (All-from_recursion (λ (f : Frame). f.stamp ≤ now) (frames id before) (early id)))

pub early_push : (before : List Item) (x : Item) → Early before x.stamp → Early (before ++ x ∷ []) x.stamp
early_push before x early id =
    let fs = frames id before in
    let soon = λ (g : Frame). g.stamp ≤ x.stamp in
    subst (λ fs. NoneLater fs x.stamp) (sym (own-push id before x))
    (elim (nat_eq x.link id) as (λ v. NoneLater (cond v (frames id before ++ frame_of_item x ∷ []) (frames id before)) x.stamp) [
      | true ↦ recursion_from_All soon (fs ++ frame_of_item x ∷ []) (All-push soon fs (frame_of_item x) (All-from_recursion soon fs (early id)) (omega arith))
      | false ↦ early id
    ])

-- an arrival joins where some flow's policing passes it
pub joined : (flows : List Flow) (before : List Item) (x : Item) → joins flows before x ≡ true → (flow : Flow) × Contains flows flow × (is_passed before x flow ≡ true)
joined [] before x h = (cc)
joined (k ∷ flows) before x h = ⊎_elim
    (λ (is : is_passed before x k ≡ true). (k, (0, omega arith, refl), is))
    (λ (is : is_passed before x k ≡ false).
    let rest = joined flows before x (right (is_passed before x k) (joins flows before x) is h) in
    (rest.0, Contains-append_right (k ∷ []) flows rest.0 rest.1, rest.2))
    (cases_Bool (is_passed before x k)) where
      right : (a b : Bool) → a ≡ false → a || b ≡ true → b ≡ true
      right a b e h = grind (arith, nat_tests)

pub none_joined : (flows : List Flow) (before : List Item) (x : Item) → joins flows before x ≡ false → All (λ flow. is_passed before x flow ≡ false) flows
none_joined [] before x h = All-nil (λ flow. is_passed before x flow ≡ false)
none_joined (k ∷ flows) before x h = All-cons (λ flow. is_passed before x flow ≡ false) k flows (left' (is_passed before x k) (joins flows before x) h)
    (none_joined flows before x (right (is_passed before x k) (joins flows before x) h)) where
      left' : (a b : Bool) → a || b ≡ false → a ≡ false
      left' a b h = grind (arith, nat_tests)

      right : (a b : Bool) → a || b ≡ false → b ≡ false
      right a b h = grind (arith, nat_tests)

pub passed_link : (before : List Item) (x : Item) (flow : Flow) → is_passed before x flow ≡ true → x.link ≡ flow.id
passed_link before x flow h = same x.link flow.id (conforms flow.terms (passed_frames flow.terms (frames flow.id before)) (frame_of_item x)) h where
  same : (m n : ℕ) (b : Bool) → nat_eq m n && b ≡ true → m ≡ n
  same m n b h = grind (arith, nat_tests)

module _ (g : Ground) where
  -- what is passed of a link's arrivals, with one more
  pub passed_step : (flow : Flow) (before : List Item) (x : Item) → passed_frames flow.terms (frames flow.id (before ++ x ∷ []))
      ≡ cond (is_passed before x flow) (passed_frames flow.terms (frames flow.id before) ++ frame_of_item x ∷ []) (passed_frames flow.terms (frames flow.id before))
  passed_step flow before x =
      let t = flow.terms in
      let fs = frames flow.id before in
      ap (passed_frames t) (own-push flow.id before x)
      ∙ (elim (nat_eq x.link flow.id) as (λ v. passed_frames t (cond v (fs ++ frame_of_item x ∷ []) fs)
      ≡ cond (v && conforms t (passed_frames t fs) (frame_of_item x)) (passed_frames t fs ++ frame_of_item x ∷ []) (passed_frames t fs)) [
        | true ↦ g.next_frame t fs (frame_of_item x)
        | false ↦ refl
      ])

  pub grow_by : (flows : List Flow) (before : List Item) (now later : ℕ) → now ≤ later → Early before now → Grow flows (later - now) (level_after before now) (level_after before later)
  grow_by flows before now later le early k d lt =
      let flow = get_or flows k d in
      let e = g.credited flow.terms (frames flow.id before) now later le (early flow.id) in
      (omega (arith, e), omega (arith, e))

  -- an arrival that is passed takes its price
  level_passed : (flow : Flow) (before : List Item) (x : Item) → Early before x.stamp → is_passed before x flow ≡ true → level_after (before ++ x ∷ []) x.stamp flow + flow.terms.price x.size
      ≤ level_after before x.stamp flow
  level_passed flow before x early is =
      let t = flow.terms in
      let fs = frames flow.id before in
      let ps = passed_frames t fs in
      let f = frame_of_item x in
      let step : level_after (before ++ x ∷ []) x.stamp flow ≡ headroom t (ps ++ f ∷ []) x.stamp = ap (λ qs. headroom t qs x.stamp) (passed_step flow before x ∙ ap (λ v. cond v (ps ++ f ∷ []) ps) is)
      in
      let push = g.debited t ps f in
      let test : nat_le (t.price x.size) (headroom t ps x.stamp) ≡ true = sym (g.decides t fs f (early flow.id)) ∙ second (nat_eq x.link flow.id) (conforms t ps f) is in
      let le = below _ _ test in
      omega (arith, step, push, le) where
        second : (a b : Bool) → a && b ≡ true → b ≡ true
        second a b h = grind (arith, nat_tests)

        below : (m n : ℕ) → nat_le m n ≡ true → m ≤ n
        below m n h = grind (arith, nat_tests)

  -- another one takes nothing
  level_kept : (flow : Flow) (before : List Item) (x : Item) → is_passed before x flow ≡ false → level_after (before ++ x ∷ []) x.stamp flow ≡ level_after before x.stamp flow
  level_kept flow before x is =
      let t = flow.terms in
      let ps = passed_frames t (frames flow.id before) in
      ap (λ qs. headroom t qs x.stamp) (passed_step flow before x ∙ ap (λ v. cond v (ps ++ frame_of_item x ∷ []) ps) is)

  -- of a flow's own arrival, its own policing decides
  pub own_passes : (flows : List Flow) → AreDistinct flows → (before : List Item) (x : Item) (flow : Flow) → Contains flows flow → joins flows before x ≡ true → x.link ≡ flow.id
      → is_passed before x flow ≡ true
  own_passes flows apart before x flow among h same =
      let m = joined flows before x h in
      let e : m.0 ≡ flow = apart m.0 flow m.1 among (sym (passed_link before x m.0 m.2) ∙ same) in
      subst (λ l. is_passed before x l ≡ true) e m.2

  pub debits_joined : (flows : List Flow) → AreDistinct flows → (before : List Item) (x : Item) → Early before x.stamp → joins flows before x ≡ true
      → AreDebited flows x (level_after before x.stamp) (level_after (before ++ x ∷ []) x.stamp)
  debits_joined flows apart before x early h k d lt =
      let flow = get_or flows k d in
      let among = Contains-get_or flows k d lt in
      ⊎_elim
      (λ (is : nat_eq flow.id x.link ≡ true).
      let own' = level_passed flow before x early (own_passes flows apart before x flow among h (sym (eqb-true _ _ is))) in
      let price : charge x flow ≡ flow.terms.price x.size = ap (λ v. cond v (flow.terms.price x.size) 0) is in
      omega (arith, own', price))
      (λ (is : nat_eq flow.id x.link ≡ false).
      let kept = level_kept flow before x (apart' x.link flow.id (conforms flow.terms (passed_frames flow.terms (frames flow.id before)) (frame_of_item x)) is) in
      let price : charge x flow ≡ 0 = ap (λ v. cond v (flow.terms.price x.size) 0) is in
      omega (arith, kept, price))
      (cases_Bool (nat_eq flow.id x.link)) where
        apart' : (m n : ℕ) (b : Bool) → nat_eq n m ≡ false → nat_eq m n && b ≡ false
        apart' m n b h = grind (arith, nat_tests)

  pub grow_kept : (flows : List Flow) (before : List Item) (x : Item) → Early before x.stamp → joins flows before x ≡ false
      → Grow flows (x.stamp - x.stamp) (level_after before x.stamp) (level_after (before ++ x ∷ []) x.stamp)
  grow_kept flows before x early h k d lt =
      let flow = get_or flows k d in
      let kept = level_kept flow before x (none_joined flows before x h k d lt) in
      let same = grow_by flows before x.stamp x.stamp (omega arith) early k d lt in
      (omega (arith, kept, same.0), omega (arith, kept, same.1))

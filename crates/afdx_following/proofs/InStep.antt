-- A watched link stays in step.
use Rattle.std.proofs.Common.{◌≡◌, ℕ, zero, suc, ◌-◌, ◌≤◌, Bool, true, false, List, [], ◌∷◌, ◌++◌, map, take, drop, Option, Some, None, refl, sym, ap, subst, ◌∙◌, arith, inl, inr}
use Rattle.std.specs.Prelude.{slice_get}
use Rattle.std.specs.List.{AllByRecursion}
use Rattle.std.specs.Option.{option_map_or}
use Rattle.std.proofs.lemmas.Bool.{cases_Bool}
use Rattle.afdx_account.specs.declared.account.Account.{Account}
use Rattle.afdx_account.specs.Account.{account_terms}
use Rattle.afdx_account.specs.Policing.{Terms}
use Rattle.afdx_levels.specs.Levels.{Levels, after}
use Rattle.afdx_pairing.specs.Events.{Numbered}
use Rattle.afdx_pairing.specs.Limits.{left_at}
use Rattle.afdx_pairing.specs.Pairing.{gone_by, kept_at, partner}
use Rattle.afdx_pairing.specs.Kept.{Sight, Left, Until}
use Rattle.afdx_following.specs.Output.{Output, IsFresh, HasComeBy, left_by, with_came, with_waiting, with_sight, with_sights, settled, paired_up_to, earliest, gone_on, with_end}
use Rattle.afdx_following.specs.Watched.{Watched, levels_at_first, at_first, frame_size, Fits, levels_at, outlook_at, can_tell, counted, fate_of, with_fate, with_told, decided, first_unknown}
use Rattle.afdx_following.specs.Watched.{with_paired, with_gone, settled_by, changed_at, left_by_at}
use Rattle.afdx_following.specs.Inner.InStep.{ComeInOrder, WaitsBy, IsInStep}
use Rattle.afdx_following.proofs.Growing.{one_came, rest_came, paired_came, paired_policed}

-- ---- lists

pub all_more : {X : Type 0} (P : X → Type 0) (xs : List X) (x : X) → AllByRecursion P xs → P x → AllByRecursion P (xs ++ x ∷ [])
all_more P [] x all one = (one, tt)
all_more P (y ∷ xs) x all one = (all.0, all_more P xs x all.1 one)

pub all_weaker : {X : Type 0} (P Q : X → Type 0) → ((x : X) → P x → Q x) → (xs : List X) → AllByRecursion P xs → AllByRecursion Q xs
all_weaker P Q weaker [] all = tt
all_weaker P Q weaker (x ∷ xs) all = (weaker x all.0, all_weaker P Q weaker xs all.1)

pub all_mapped : {X : Type 0} (P Q : X → Type 0) (f : X → X) → ((x : X) → P x → Q (f x)) → (xs : List X) → AllByRecursion P xs → AllByRecursion Q (map f xs)
all_mapped P Q f makes [] all = tt
all_mapped P Q f makes (x ∷ xs) all = (makes x all.0, all_mapped P Q f makes xs all.1)

pub all_dropped : {X : Type 0} (P : X → Type 0) (k : ℕ) (xs : List X) → AllByRecursion P xs → AllByRecursion P (drop k xs)
all_dropped P zero xs all = all
all_dropped P (suc k) [] all = tt
all_dropped P (suc k) (x ∷ xs) all = all_dropped P k xs all.1

pub order_more : (ns : List Numbered) (n : Numbered) → ComeInOrder ns → AllByRecursion (λ other. other.frame.stamp ≤ n.frame.stamp) ns → ComeInOrder (ns ++ n ∷ [])
order_more [] n order last = (tt, tt)
order_more (x ∷ ns) n order last = (all_more (λ other. x.frame.stamp ≤ other.frame.stamp) ns n order.0 last.0, order_more ns n order.1 last.1)

-- ---- one port

came_later : (at later : ℕ) → at ≤ later → (o : Output) → HasComeBy at o → HasComeBy later o
came_later at later le o held = (
  all_weaker (λ n. n.frame.stamp ≤ at) (λ n. n.frame.stamp ≤ later) (λ n by. omega (arith, le, by)) o.pairing.waiting held.0,
  all_weaker (λ n. n.frame.stamp ≤ at) (λ n. n.frame.stamp ≤ later) (λ n by. omega (arith, le, by)) o.pairing.policed held.1,
)

came_holds : (n : Numbered) (passes : Bool) (o : Output) → HasComeBy n.frame.stamp o → HasComeBy n.frame.stamp (with_came n passes o)
came_holds n true o held = (one_came n.frame.stamp o.pairing.waiting n held.0 (omega arith), held.1)
came_holds n false o held = (held.0, one_came n.frame.stamp o.pairing.policed n held.1 (omega arith))

until_holds : (at i : ℕ) (o : Output) → HasComeBy at o → HasComeBy at (with_sight (Until i) o)
until_holds at i o held = (
  rest_came at (gone_by o.pairing.limits i o.pairing.waiting) o.pairing.waiting held.0,
  rest_came at (gone_by o.pairing.limits i o.pairing.policed) o.pairing.policed held.1,
)

left_holds : (at : ℕ) (n : Numbered) (o : Output) → HasComeBy at o → HasComeBy at (with_sight (Left n) o)
left_holds at n o held =
    let instant = left_at o.pairing.limits n.frame in
    let kept = kept_at instant o.pairing in
    let rest = until_holds at instant o held in
    (paired_came at (partner kept n.frame) kept rest.0, paired_policed at (partner kept n.frame) kept rest.1)

lefts_hold : (at : ℕ) (ns : List Numbered) (o : Output) → HasComeBy at o → HasComeBy at (with_sights (map Left ns) o)
lefts_hold at [] o held = held
lefts_hold at (n ∷ ns) o held = lefts_hold at ns (with_sight (Left n) o) (left_holds at n o held)

waits_later : (at later : ℕ) → at ≤ later → (o : Output) → WaitsBy at o → WaitsBy later o
waits_later at later le o wait = all_weaker (λ n. left_by n o ≤ at) (λ n. left_by n o ≤ later) (λ n by. omega (arith, le, by)) o.waiting wait

pub sights_wait : (at : ℕ) (ss : List Sight) (o : Output) → WaitsBy at o → WaitsBy at (with_sights ss o)
sights_wait at [] o wait = wait
sights_wait at (s ∷ ss) o wait = sights_wait at ss (with_sight s o) wait

pub paired_waits : (at : ℕ) (unknown : Option ℕ) (o : Output) → WaitsBy at o → WaitsBy at (paired_up_to unknown o)
paired_waits at unknown o wait =
    let k = settled unknown o in
    let rest : Output = record o { waiting = drop k o.waiting } in
    sights_wait at (map Left (take k o.waiting)) rest (all_dropped (λ n. left_by n o ≤ at) k o.waiting wait)

paired_holds : (at : ℕ) (unknown : Option ℕ) (o : Output) → HasComeBy at o → HasComeBy at (paired_up_to unknown o)
paired_holds at unknown o held =
    let k = settled unknown o in
    let rest : Output = record o { waiting = drop k o.waiting } in
    lefts_hold at (take k o.waiting) rest held

-- ---- a frame more

pub held_by : (f : Watched) (n : Numbered) (ns : List Numbered) → f.undecided ≡ n ∷ ns → IsInStep f → AllByRecursion (HasComeBy n.frame.stamp) f.outputs
held_by f n ns us kept =
    let since = subst (λ (xs : List Numbered). AllByRecursion (λ x. f.levels.since ≤ x.frame.stamp) xs) us kept.since in
    all_weaker (HasComeBy f.levels.since) (HasComeBy n.frame.stamp) (λ o held. came_later f.levels.since n.frame.stamp since.0 o held) f.outputs kept.held

after_since : (t : Terms) (tolerance size : ℕ) (passes : Bool) (l : Levels) → (after t tolerance size passes l).since ≡ l.since
after_since t tolerance size true l = refl
after_since t tolerance size false l = refl

pub fate_in_step : (n : Numbered) (ns : List Numbered) (passes : Bool) (unsure : ℕ) (f : Watched) → IsInStep (record f { undecided = n ∷ ns })
    → IsInStep (record (with_fate n passes (record f { unsure = unsure })) { undecided = ns })
fate_in_step n ns passes unsure f kept =
    let at = n.frame.stamp in
    let told = with_fate n passes (record f { unsure = unsure }) in
    let now : told.levels.since ≡ at = after_since (account_terms f.account) f.tolerance (frame_size n) passes (levels_at f n) in
    record {
      going = kept.going;
      bounded = kept.bounded;
      in_order = kept.in_order.1;
      since = subst (λ (i : ℕ). AllByRecursion (λ other. i ≤ other.frame.stamp) ns) (sym now) kept.in_order.0;
      fit = kept.fit.1;
      by = kept.by.1;
      known = omega (arith, now, kept.by.0);
      held = subst (λ (i : ℕ). AllByRecursion (HasComeBy i) told.outputs) (sym now)
          (all_mapped (HasComeBy f.levels.since) (HasComeBy at) (λ o. with_came n passes o)
          (λ o held. came_holds n passes o (came_later f.levels.since at kept.since.0 o held)) f.outputs kept.held);
      wait = all_mapped (WaitsBy f.latest) (WaitsBy f.latest) (λ o. with_came n passes o) (λ o wait. wait) f.outputs kept.wait;
    }

pub decided_in_step : (at : Option ℕ) (ns : List Numbered) (f : Watched) → IsInStep (record f { undecided = ns }) → IsInStep (decided at ns f)
decided_in_step at [] f kept = kept
decided_in_step at (n ∷ ns) f kept =
    elim (cases_Bool (can_tell at f.outputs n (outlook_at f n))) [
      | inl told ↦ rw told (decided_in_step at ns (with_told n f) (fate_in_step n ns (fate_of f n) (counted (outlook_at f n) f.unsure) f kept))
      | inr unknown ↦ rw unknown kept
    ]

pub paired_in_step : (f : Watched) → IsInStep f → IsInStep (with_paired f)
paired_in_step f kept =
    let unknown = first_unknown f.undecided in
    record {
      going = kept.going;
      bounded = kept.bounded;
      in_order = kept.in_order;
      since = kept.since;
      fit = kept.fit;
      by = kept.by;
      known = kept.known;
      held = all_mapped (HasComeBy f.levels.since) (HasComeBy f.levels.since) (λ o. paired_up_to unknown o) (λ o held. paired_holds f.levels.since unknown o held) f.outputs kept.held;
      wait = all_mapped (WaitsBy f.latest) (WaitsBy f.latest) (λ o. paired_up_to unknown o) (λ o wait. paired_waits f.latest unknown o wait) f.outputs kept.wait;
    }

pub gone_in_step : (at : Option ℕ) (f : Watched) → IsInStep f → IsInStep (with_gone at f)
gone_in_step None f kept = kept
gone_in_step (Some at) f kept = record {
  going = kept.going;
  bounded = kept.bounded;
  in_order = kept.in_order;
  since = kept.since;
  fit = kept.fit;
  by = kept.by;
  known = kept.known;
  held = all_mapped (HasComeBy f.levels.since) (HasComeBy f.levels.since) (λ o. gone_on at o)
      (λ o held. until_holds f.levels.since (earliest at o.limits (slice_get o.waiting 0) - o.limits.tolerance) o held) f.outputs kept.held;
  wait = all_mapped (WaitsBy f.latest) (WaitsBy f.latest) (λ o. gone_on at o) (λ o wait. wait) f.outputs kept.wait;
}

pub settled_in_step : (at : Option ℕ) (f : Watched) → IsInStep f → IsInStep (settled_by at f)
settled_in_step at f kept = gone_in_step at (with_paired (decided at f.undecided f)) (paired_in_step (decided at f.undecided f) (decided_in_step at f.undecided f kept))

-- ---- what a link is told of

known_came : (f : Watched) (n : Numbered) → f.levels.since ≤ f.latest → f.latest ≤ n.frame.stamp → f.levels.since ≤ n.frame.stamp
known_came f n known le = omega (arith, known, le)

-- with a frame that came
pub own_in_step : (f : Watched) (n : Numbered) → IsInStep f → f.latest ≤ n.frame.stamp → Fits f.account n
    → IsInStep (record f { undecided = f.undecided ++ n ∷ []; latest = n.frame.stamp })
own_in_step f n kept le fits =
    let at = n.frame.stamp in
    let by = all_weaker (λ other. other.frame.stamp ≤ f.latest) (λ other. other.frame.stamp ≤ at) (λ other early. omega (arith, early, le)) f.undecided kept.by in
    record {
      going = kept.going;
      bounded = kept.bounded;
      in_order = order_more f.undecided n kept.in_order by;
      since = all_more (λ other. f.levels.since ≤ other.frame.stamp) f.undecided n kept.since (known_came f n kept.known le);
      fit = all_more (Fits f.account) f.undecided n kept.fit fits;
      by = all_more (λ other. other.frame.stamp ≤ at) f.undecided n by (omega arith);
      known = known_came f n kept.known le;
      held = kept.held;
      wait = all_weaker (WaitsBy f.latest) (WaitsBy at) (λ o wait. waits_later f.latest at le o wait) f.outputs kept.wait;
    }

-- with a record that left
at_place : (P Q : Output → Type 0) (change : Output → Output) → ((o : Output) → P o → Q o) → (place : ℕ) (os : List Output)
    → ((o : Output) → slice_get os place ≡ Some o → P o → Q (change o)) → AllByRecursion P os → AllByRecursion Q (changed_at place change os)
at_place P Q change weaker place [] here all = tt
at_place P Q change weaker zero (o ∷ os) here all = (here o refl all.0, all_weaker P Q weaker os all.1)
at_place P Q change weaker (suc place) (o ∷ os) here all = (weaker o all.0, at_place P Q change weaker place os here all.1)

pub record_in_step : (f : Watched) (place : ℕ) (n : Numbered) (at : ℕ) → IsInStep f → at ≡ left_by_at place n f → f.latest ≤ at
    → IsInStep (record f { outputs = changed_at place (λ o. with_waiting n o) f.outputs; latest = at })
record_in_step f place n at kept is le = record {
  going = kept.going;
  bounded = kept.bounded;
  in_order = kept.in_order;
  since = kept.since;
  fit = kept.fit;
  by = all_weaker (λ other. other.frame.stamp ≤ f.latest) (λ other. other.frame.stamp ≤ at) (λ other early. omega (arith, early, le)) f.undecided kept.by;
  known = (let known = kept.known in omega (arith, known, le));
  held = at_place (HasComeBy f.levels.since) (HasComeBy f.levels.since) (λ o. with_waiting n o) (λ o held. held) place f.outputs (λ o get held. held) kept.held;
  wait = at_place (WaitsBy f.latest) (WaitsBy at) (λ o. with_waiting n o) (λ o wait. waits_later f.latest at le o wait) place f.outputs
      (λ o get wait.
      let by : at ≡ left_by n o = is ∙ ap (λ (one : Option Output). option_map_or (λ p. left_by n p) one 0) get in
      all_more (λ other. left_by other o ≤ at) o.waiting n (waits_later f.latest at le o wait) (omega (arith, by)))
      kept.wait;
}

-- in the end
pub ends_in_step : (last : Option ℕ) (f : Watched) → IsInStep f → IsInStep (record f { outputs = map (λ o. with_end last o) f.outputs })
ends_in_step last f kept = record {
  going = kept.going;
  bounded = kept.bounded;
  in_order = kept.in_order;
  since = kept.since;
  fit = kept.fit;
  by = kept.by;
  known = kept.known;
  held = all_mapped (HasComeBy f.levels.since) (HasComeBy f.levels.since) (λ o. with_end last o) (λ o held. held) f.outputs kept.held;
  wait = all_mapped (WaitsBy f.latest) (WaitsBy f.latest) (λ o. with_end last o) (λ o wait. wait) f.outputs kept.wait;
}

-- at first
fresh_holds : (at : ℕ) (o : Output) → IsFresh o → HasComeBy at o
fresh_holds at o fresh = subst (λ (one : Output). HasComeBy at one) (sym fresh) (tt, tt)

fresh_waits : (at : ℕ) (o : Output) → IsFresh o → WaitsBy at o
fresh_waits at o fresh = subst (λ (one : Output). WaitsBy at one) (sym fresh) tt

first_since : (account : Account) (tolerance : ℕ) (since : Option ℕ) → (levels_at_first account tolerance since).since ≡ option_map_or (λ at. at) since 0
first_since account tolerance None = refl
first_since account tolerance (Some at) = refl

pub first_in_step : (account : Account) (tolerance : ℕ) (since : Option ℕ) (outputs : List Output) → tolerance ≤ 1000000000 → AllByRecursion IsFresh outputs
    → IsInStep (at_first account tolerance since outputs)
first_in_step account tolerance since outputs bounded fresh =
    let first = (levels_at_first account tolerance since).since in
    let is = first_since account tolerance since in
    record {
      going = refl;
      bounded = bounded;
      in_order = tt;
      since = tt;
      fit = tt;
      by = tt;
      known = omega (arith, is);
      held = all_weaker IsFresh (HasComeBy first) (λ o one. fresh_holds first o one) outputs fresh;
      wait = all_weaker IsFresh (WaitsBy (option_map_or (λ at. at) since 0)) (λ o one. fresh_waits (option_map_or (λ at. at) since 0) o one) outputs fresh;
    }

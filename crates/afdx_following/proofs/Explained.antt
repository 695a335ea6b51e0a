-- At a port at which nothing speaks against the switch the records are what left of the frames that a link's account may have passed.
use Rattle.std.proofs.Common.{◌≡◌, ◌⊎◌, ℕ, zero, suc, ◌+◌, ◌*◌, ◌≤◌, ◌==◌, Bool, true, false, cond, IsTrue, List, [], ◌∷◌, ◌++◌, map, take, drop, length}
use Rattle.std.proofs.Common.{Option, Some, None, refl, sym, ap, subst, ◌∙◌, arith, inl, inr}
use Rattle.std.specs.Prelude.{slice_get}
use Rattle.std.specs.List.{AllByRecursion, list_any}
use Rattle.std.specs.Option.{option_map_or}
use Rattle.std.proofs.lemmas.Bool.{cases_Bool, leb-true, ltb-true, eq-eqb, ne_eqb}
use Rattle.std.proofs.lemmas.List.{append-nil, append_assoc, map-append, length-append}
use Rattle.afdx_pcap.specs.Record.{Record}
use Rattle.afdx_account.specs.declared.frame.Frame.{Frame}
use Rattle.afdx_account.specs.declared.account.Account.{Account}
use Rattle.afdx_account.specs.Account.{account_terms}
use Rattle.afdx_account.specs.Policing.{Terms}
use Rattle.afdx_levels.specs.declared.outlook.Outlook.{Outlook}
use Rattle.afdx_levels.specs.declared.outlook.Outlook.TheVariants.{Must, Never, Unsure}
use Rattle.afdx_levels.specs.Levels.{Levels, slack_of, credited, may_be, after, Allowed, levels_after}
use Rattle.afdx_levels.specs.Inner.Laws.{chosen, FateMayBe}
use Rattle.afdx_pairing.specs.Events.{Numbered}
use Rattle.afdx_pairing.specs.Kept.{IsKeptFor, Came, Left, passed_of, FineIsKept}
use Rattle.afdx_following.specs.Tally.{conforms_in}
use Rattle.afdx_following.specs.Output.{Output, IsFresh, has, left_by, stamped_by, with_came, with_waiting, paired_up_to, gone_on, last_at, with_end}
use Rattle.afdx_following.specs.Watched.{Watched, levels_at_first, at_first, frame_size, Fits, levels_at, outlook_at, can_tell, counted, fate_of, with_fate, with_told, decided}
use Rattle.afdx_following.specs.Watched.{first_unknown, with_paired, with_gone, settled_by, with_own, changed_at, left_by_at, stamped_by_at, with_record}
use Rattle.afdx_following.specs.Inner.InStep.{WaitsBy, IsInStep}
use Rattle.afdx_following.specs.Followed.{Notice, Arrived, Departed, with_notices, AreNext, own_in, left_in, judged, FollowedIsKept}
use Rattle.afdx_following.proofs.InStep.{fate_in_step, paired_in_step, gone_in_step, own_in_step, record_in_step, first_in_step}
use Rattle.afdx_following.proofs.Paired.{sights_keep}
use Rattle.afdx_following.proofs.Ports.{records, IsPort, fate_follows, pairs_follow, goes_on, own_follows, other_follows, record_follows, ends}

-- ---- fates

allowed_more : (t : Terms) (tolerance : ℕ) (l : Levels) (fs : List Frame) (ps : List Bool) (f : Frame) (p : Bool) → Allowed t tolerance l fs ps
    → IsTrue (may_be t tolerance f.size (credited t (levels_after t tolerance l fs ps) f.stamp) p) → Allowed t tolerance l (fs ++ f ∷ []) (ps ++ p ∷ [])
allowed_more t tolerance l [] [] f p all may = (may, tt)
allowed_more t tolerance l [] (q ∷ ps) f p all may = absurd all
allowed_more t tolerance l (x ∷ fs) [] f p all may = absurd all
allowed_more t tolerance l (x ∷ fs) (q ∷ ps) f p all may = (all.0, allowed_more t tolerance (after t tolerance x.size q (credited t l x.stamp)) fs ps f p all.1 may)

levels_more : (t : Terms) (tolerance : ℕ) (l : Levels) (fs : List Frame) (ps : List Bool) (f : Frame) (p : Bool) → length ps ≡ length fs
    → levels_after t tolerance l (fs ++ f ∷ []) (ps ++ p ∷ []) ≡ after t tolerance f.size p (credited t (levels_after t tolerance l fs ps) f.stamp)
levels_more t tolerance l [] [] f p even = refl
levels_more t tolerance l [] (q ∷ ps) f p even = absurd (omega (arith, even))
levels_more t tolerance l (x ∷ fs) [] f p even = absurd (omega (arith, even))
levels_more t tolerance l (x ∷ fs) (q ∷ ps) f p even = levels_more t tolerance (after t tolerance x.size q (credited t l x.stamp)) fs ps f p (omega (arith, even))

pub chosen_more : (ps : List Bool) (rs : List Record) (p : Bool) (n : Numbered) → length ps ≡ length rs
    → chosen (ps ++ p ∷ []) (rs ++ n.frame ∷ []) ≡ chosen ps rs ++ passed_of (Came n p ∷ [])
chosen_more [] [] true n even = refl
chosen_more [] [] false n even = refl
chosen_more [] (r ∷ rs) p n even = absurd (omega (arith, even))
chosen_more (q ∷ ps) [] p n even = absurd (omega (arith, even))
chosen_more (true ∷ ps) (r ∷ rs) p n even = ap (λ (xs : List Record). r ∷ xs) (chosen_more ps rs p n (omega (arith, even)))
chosen_more (false ∷ ps) (r ∷ rs) p n even = chosen_more ps rs p n (omega (arith, even))

pub known_after : (t : Terms) (tolerance size : ℕ) (l : Levels) (passes : Bool) → t.price size ≤ t.cap → l.least ≤ l.most → IsTrue (may_be t tolerance size l passes)
    → (after t tolerance size passes l).least ≤ (after t tolerance size passes l).most
known_after t tolerance size l true fits order may = let m = leb-true (t.price size) l.most may in omega arith
known_after t tolerance size l false fits order may = let m = ltb-true l.least (t.price size + 2 * slack_of t tolerance) may in omega arith

known_at : (t : Terms) (l : Levels) (at : ℕ) → l.least ≤ l.most → (credited t l at).least ≤ (credited t l at).most
known_at t l at order = omega (arith, order)

length_judged : (rs : List Record) → length (map judged rs) ≡ length rs
length_judged [] = refl
length_judged (r ∷ rs) = let rest = length_judged rs in omega (arith, rest)

-- ---- places

pub get_mapped : {X : Type 0} (f : X → X) (xs : List X) (place : ℕ) (new : X) → slice_get (map f xs) place ≡ Some new → (old : X) × ((slice_get xs place ≡ Some old) × (f old ≡ new))
get_mapped f [] place new get = absurd (let none = get in cc)
get_mapped f (x ∷ xs) zero new get = (x, (refl, cc))
get_mapped f (x ∷ xs) (suc place) new get = get_mapped f xs place new get

all_at : {X : Type 0} (P : X → Type 0) (xs : List X) (place : ℕ) (x : X) → slice_get xs place ≡ Some x → AllByRecursion P xs → P x
all_at P [] place x get all = absurd (let none = get in cc)
all_at P (y ∷ xs) zero x get all = (let same : y ≡ x = cc in subst P same all.0)
all_at P (y ∷ xs) (suc place) x get all = all_at P xs place x get all.1

pub record IsHere {X : Type 0} (at place : ℕ) (change : X → X) (xs : List X) (new : X) : Type 0 where
  pub same : at ≡ place
  pub old : X
  pub get : slice_get xs place ≡ Some old
  pub is : change old ≡ new

pub record IsElsewhere {X : Type 0} (at place : ℕ) (xs : List X) (new : X) : Type 0 where
  pub apart : at ≡ place → ⊥
  pub get : slice_get xs place ≡ Some new

pub get_changed : {X : Type 0} (at place : ℕ) (change : X → X) (xs : List X) (new : X) → slice_get (changed_at at change xs) place ≡ Some new
    → IsHere at place change xs new ⊎ IsElsewhere at place xs new
get_changed at place change [] new get = absurd (let none = get in cc)
get_changed zero zero change (x ∷ xs) new get = inl (record { same = refl; old = x; get = refl; is = cc })
get_changed zero (suc place) change (x ∷ xs) new get = inr (record { apart = λ same. omega (arith, same); get = get })
get_changed (suc at) zero change (x ∷ xs) new get = inr (record { apart = λ same. omega (arith, same); get = get })
get_changed (suc at) (suc place) change (x ∷ xs) new get =
    elim (get_changed at place change xs new get) [
      | inl here ↦ inl (record { same = ap suc here.same; old = here.old; get = here.get; is = here.is })
      | inr there ↦ inr (record { apart = λ same. there.apart (omega (arith, same)); get = there.get })
    ]

-- ---- the link

-- what is known of a link that was told of these frames and of these records at its ports, where its account was known so at first
record IsTold (t : Terms) (tolerance : ℕ) (l : Levels) (own : List Record) (outs : ℕ → List Record) (f : Watched) : Type 0 where
  decided_ones : List Record
  fates : List Bool
  own_is : own ≡ decided_ones ++ records f.undecided
  even : length fates ≡ length decided_ones
  are_allowed : Allowed t tolerance l (map judged decided_ones) fates
  levels : f.levels ≡ levels_after t tolerance l (map judged decided_ones) fates
  known : f.levels.least ≤ f.levels.most
  terms : account_terms f.account ≡ t
  tolerances : f.tolerance ≡ tolerance
  in_step : IsInStep f
  ports : (place : ℕ) (o : Output) → slice_get f.outputs place ≡ Some o → IsPort f.latest (chosen fates decided_ones) decided_ones f.undecided (outs place) o

levels_same : (t u : Terms) (a b size at : ℕ) (l k : Levels) (p : Bool) → t ≡ u → a ≡ b → l ≡ k → after t a size p (credited t l at) ≡ after u b size p (credited u k at)
levels_same t u a b size at l k p same_terms same_tolerance same_levels =
    ap (λ (x : Terms). after x a size p (credited x l at)) same_terms
    ∙ ap (λ (x : ℕ). after u x size p (credited u l at)) same_tolerance
    ∙ ap (λ (x : Levels). after u b size p (credited u x at)) same_levels

may_same : (t u : Terms) (a b size at : ℕ) (l k : Levels) (p : Bool) → t ≡ u → a ≡ b → l ≡ k → IsTrue (may_be t a size (credited t l at) p) → IsTrue (may_be u b size (credited u k at) p)
may_same t u a b size at l k p same_terms same_tolerance same_levels may =
    subst (λ (x : Levels). IsTrue (may_be u b size (credited u x at) p)) same_levels
    (subst (λ (x : ℕ). IsTrue (may_be u x size (credited u l at) p)) same_tolerance
    (subst (λ (x : Terms). IsTrue (may_be x a size (credited x l at) p)) same_terms may))

fate_told_of : (t : Terms) (tolerance : ℕ) (l : Levels) (own : List Record) (outs : ℕ → List Record) (n : Numbered) (ns : List Numbered) (passes : Bool) (unsure : ℕ) (f : Watched)
    → IsTold t tolerance l own outs (record f { undecided = n ∷ ns }) → IsTrue (may_be (account_terms f.account) f.tolerance (frame_size n) (levels_at f n) passes)
    → IsTold t tolerance l own outs (record (with_fate n passes (record f { unsure = unsure })) { undecided = ns })
fate_told_of t tolerance l own outs n ns passes unsure f h may =
    let done = h.decided_ones in
    let frames = map judged done in
    let one = judged n.frame in
    let more = done ++ n.frame ∷ [] in
    let even = length_judged done in
    let judged_more : map judged more ≡ frames ++ one ∷ [] = map-append judged done (n.frame ∷ []) in
    let may_now = may_same (account_terms f.account) t f.tolerance tolerance one.size one.stamp f.levels (levels_after t tolerance l frames h.fates) passes h.terms h.tolerances h.levels may in
    let chosen_now = chosen_more h.fates done passes n h.even in
    record {
      decided_ones = more;
      fates = h.fates ++ passes ∷ [];
      own_is = h.own_is ∙ sym (append_assoc done (n.frame ∷ []) (records ns));
      even = omega (arith, h.even, length-append h.fates (passes ∷ []), length-append done (n.frame ∷ []));
      are_allowed = subst (λ (fs : List Frame). Allowed t tolerance l fs (h.fates ++ passes ∷ [])) (sym judged_more) (allowed_more t tolerance l frames h.fates one passes h.are_allowed may_now);
      levels = levels_same (account_terms f.account) t f.tolerance tolerance one.size one.stamp f.levels (levels_after t tolerance l frames h.fates) passes h.terms h.tolerances h.levels
          ∙ sym (levels_more t tolerance l frames h.fates one passes (omega (arith, h.even, even)))
          ∙ ap (λ (fs : List Frame). levels_after t tolerance l fs (h.fates ++ passes ∷ [])) (sym judged_more);
      known = known_after (account_terms f.account) f.tolerance (frame_size n) (levels_at f n) passes h.in_step.fit.0 (known_at (account_terms f.account) f.levels n.frame.stamp h.known) may;
      terms = h.terms;
      tolerances = h.tolerances;
      in_step = fate_in_step n ns passes unsure f h.in_step;
      ports = λ place o get.
          let old = get_mapped (λ x. with_came n passes x) f.outputs place o get in
          subst (λ (x : Output). IsPort f.latest (chosen (h.fates ++ passes ∷ []) more) more ns (outs place) x) old.1.1
          (subst (λ (rs : List Record). IsPort f.latest rs more ns (outs place) (with_came n passes old.0)) (sym chosen_now)
          (fate_follows f.latest (chosen h.fates done) done n ns (outs place) old.0 passes (h.ports place old.0 old.1.0)));
    }

decided_told : FateMayBe → (t : Terms) (tolerance : ℕ) (l : Levels) (own : List Record) (outs : ℕ → List Record) (at : Option ℕ) (ns : List Numbered) (f : Watched)
    → IsTold t tolerance l own outs (record f { undecided = ns }) → IsTold t tolerance l own outs (decided at ns f)
decided_told may t tolerance l own outs at [] f h = h
decided_told may t tolerance l own outs at (n ∷ ns) f h =
    elim (cases_Bool (can_tell at f.outputs n (outlook_at f n))) [
      | inl told ↦ rw told (
          let known = known_at (account_terms f.account) f.levels n.frame.stamp h.known in
          let is = may (account_terms f.account) f.tolerance (frame_size n) (levels_at f n) (list_any (λ o. has n o) f.outputs) known in
          decided_told may t tolerance l own outs at ns (with_told n f)
          (fate_told_of t tolerance l own outs n ns (fate_of f n) (counted (outlook_at f n) f.unsure) f h is))
      | inr unknown ↦ rw unknown h
    ]

paired_told : (t : Terms) (tolerance : ℕ) (l : Levels) (own : List Record) (outs : ℕ → List Record) (f : Watched) → IsTold t tolerance l own outs f
    → IsTold t tolerance l own outs (with_paired f)
paired_told t tolerance l own outs f h =
    let unknown = first_unknown f.undecided in
    record {
      decided_ones = h.decided_ones;
      fates = h.fates;
      own_is = h.own_is;
      even = h.even;
      are_allowed = h.are_allowed;
      levels = h.levels;
      known = h.known;
      terms = h.terms;
      tolerances = h.tolerances;
      in_step = paired_in_step f h.in_step;
      ports = λ place o get.
          let old = get_mapped (λ x. paired_up_to unknown x) f.outputs place o get in
          subst (λ (x : Output). IsPort f.latest (chosen h.fates h.decided_ones) h.decided_ones f.undecided (outs place) x) old.1.1
          (pairs_follow f.latest (chosen h.fates h.decided_ones) h.decided_ones f.undecided (outs place) old.0 (h.ports place old.0 old.1.0) h.in_step.in_order
          (all_at (WaitsBy f.latest) f.outputs place old.0 old.1.0 h.in_step.wait));
    }

abbrev IsBy : Option ℕ → ℕ → Type 0
IsBy None latest = Unit {0}
IsBy (Some at) latest = at ≤ latest

gone_told : (t : Terms) (tolerance : ℕ) (l : Levels) (own : List Record) (outs : ℕ → List Record) (at : Option ℕ) (f : Watched) → IsTold t tolerance l own outs f → IsBy at f.latest
    → IsTold t tolerance l own outs (with_gone at f)
gone_told t tolerance l own outs None f h by = h
gone_told t tolerance l own outs (Some at) f h by = record {
  decided_ones = h.decided_ones;
  fates = h.fates;
  own_is = h.own_is;
  even = h.even;
  are_allowed = h.are_allowed;
  levels = h.levels;
  known = h.known;
  terms = h.terms;
  tolerances = h.tolerances;
  in_step = gone_in_step (Some at) f h.in_step;
  ports = λ place o get.
      let old = get_mapped (λ x. gone_on at x) f.outputs place o get in
      subst (λ (x : Output). IsPort f.latest (chosen h.fates h.decided_ones) h.decided_ones f.undecided (outs place) x) old.1.1
      (goes_on f.latest (chosen h.fates h.decided_ones) h.decided_ones f.undecided (outs place) old.0 at (h.ports place old.0 old.1.0) by);
}

pub decided_latest : (at : Option ℕ) (ns : List Numbered) (f : Watched) → (decided at ns f).latest ≡ f.latest
decided_latest at [] f = refl
decided_latest at (n ∷ ns) f =
    elim (cases_Bool (can_tell at f.outputs n (outlook_at f n))) [
      | inl told ↦ rw told (decided_latest at ns (with_told n f))
      | inr unknown ↦ rw unknown refl
    ]

settled_told : FateMayBe → (t : Terms) (tolerance : ℕ) (l : Levels) (own : List Record) (outs : ℕ → List Record) (at : Option ℕ) (f : Watched) → IsTold t tolerance l own outs f
    → IsBy at f.latest → IsTold t tolerance l own outs (settled_by at f)
settled_told may t tolerance l own outs at f h by =
    let d = decided at f.undecided f in
    gone_told t tolerance l own outs at (with_paired d) (paired_told t tolerance l own outs d (decided_told may t tolerance l own outs at f.undecided f h))
    (subst (λ (i : ℕ). IsBy at i) (sym (decided_latest at f.undecided f)) by)

-- ---- what it is told of

own_told : FateMayBe → (t : Terms) (tolerance : ℕ) (l : Levels) (own : List Record) (outs : ℕ → List Record) (f : Watched) (n : Numbered) → IsTold t tolerance l own outs f
    → f.latest ≤ n.frame.stamp → Fits f.account n → IsTold t tolerance l (own ++ n.frame ∷ []) outs (with_own n f)
own_told may t tolerance l own outs f n h le fits =
    let at = n.frame.stamp in
    let done = h.decided_ones in
    let more : Watched = record f { undecided = f.undecided ++ n ∷ []; latest = at } in
    settled_told may t tolerance l (own ++ n.frame ∷ []) outs (Some at) more (record {
      decided_ones = done;
      fates = h.fates;
      own_is = ap (λ (rs : List Record). rs ++ n.frame ∷ []) h.own_is ∙ append_assoc done (records f.undecided) (n.frame ∷ [])
          ∙ ap (λ (rs : List Record). done ++ rs) (sym (map-append (λ (x : Numbered). x.frame) f.undecided (n ∷ [])));
      even = h.even;
      are_allowed = h.are_allowed;
      levels = h.levels;
      known = h.known;
      terms = h.terms;
      tolerances = h.tolerances;
      in_step = own_in_step f n h.in_step le fits;
      ports = λ place o get. own_follows f.latest (chosen h.fates done) done f.undecided (outs place) o n (h.ports place o get) le;
    }) (omega arith)

abbrev one_at : ℕ → ℕ → Numbered → List Record
one_at at place n = cond (at == place) (n.frame ∷ []) []

here_is : (at place : ℕ) (n : Numbered) → at ≡ place → one_at at place n ≡ n.frame ∷ []
here_is at place n same = rw (eq-eqb at place same) refl

none_is : (at place : ℕ) (n : Numbered) → (at ≡ place → ⊥) → one_at at place n ≡ []
none_is at place n apart = rw (ne_eqb at place apart) refl

-- a record was recorded no later than the line was free again after it
pub stamped_soon : (n : Numbered) (one : Option Output) → option_map_or (λ o. stamped_by n o) one 0 ≤ option_map_or (λ o. left_by n o) one 0
stamped_soon n None = omega arith
stamped_soon n (Some o) = omega arith

pub stamped_first : (place : ℕ) (n : Numbered) (f : Watched) → stamped_by_at place n f ≤ left_by_at place n f
stamped_first place n f = stamped_soon n (slice_get f.outputs place)

record_told : FateMayBe → (t : Terms) (tolerance : ℕ) (l : Levels) (own : List Record) (outs : ℕ → List Record) (f : Watched) (at : ℕ) (n : Numbered) → IsTold t tolerance l own outs f
    → f.latest ≤ left_by_at at n f → IsTold t tolerance l own (λ place. outs place ++ one_at at place n) (with_record at n f)
record_told may t tolerance l own outs f at n h le =
    let done = h.decided_ones in
    let passed = chosen h.fates done in
    let now = left_by_at at n f in
    let more : Watched = record f { outputs = changed_at at (λ o. with_waiting n o) f.outputs; latest = now } in
    settled_told may t tolerance l own (λ place. outs place ++ one_at at place n) (Some (stamped_by_at at n f)) more (record {
      decided_ones = done;
      fates = h.fates;
      own_is = h.own_is;
      even = h.even;
      are_allowed = h.are_allowed;
      levels = h.levels;
      known = h.known;
      terms = h.terms;
      tolerances = h.tolerances;
      in_step = record_in_step f at n now h.in_step refl le;
      ports = λ place o get.
          elim (get_changed at place (λ x. with_waiting n x) f.outputs o get) [
            | inl here ↦ (
                let old = h.ports place here.old here.get in
                let there : slice_get f.outputs at ≡ Some here.old = ap (λ (i : ℕ). slice_get f.outputs i) here.same ∙ here.get in
                let by : now ≡ left_by n here.old = ap (λ (one : Option Output). option_map_or (λ x. left_by n x) one 0) there in
                let wait = all_at (WaitsBy f.latest) f.outputs place here.old here.get h.in_step.wait in
                subst (λ (x : Output). IsPort now passed done f.undecided (outs place ++ one_at at place n) x) here.is
                (subst (λ (rs : List Record). IsPort now passed done f.undecided (outs place ++ rs) (with_waiting n here.old)) (sym (here_is at place n here.same))
                (record_follows f.latest passed done f.undecided (outs place) here.old n now old le by wait)))
            | inr there ↦ (
                let old = other_follows f.latest passed done f.undecided (outs place) o now (h.ports place o there.get) le in
                subst (λ (rs : List Record). IsPort now passed done f.undecided rs o)
                (sym (append-nil (outs place)) ∙ ap (λ (rs : List Record). outs place ++ rs) (sym (none_is at place n there.apart))) old)
          ];
    }) (stamped_first at n f)

with_outs : (t : Terms) (tolerance : ℕ) (l : Levels) (own : List Record) (outs new : ℕ → List Record) (f : Watched) → ((place : ℕ) → outs place ≡ new place)
    → IsTold t tolerance l own outs f → IsTold t tolerance l own new f
with_outs t tolerance l own outs new f same h = record {
  decided_ones = h.decided_ones;
  fates = h.fates;
  own_is = h.own_is;
  even = h.even;
  are_allowed = h.are_allowed;
  levels = h.levels;
  known = h.known;
  terms = h.terms;
  tolerances = h.tolerances;
  in_step = h.in_step;
  ports = λ place o get. subst (λ (rs : List Record). IsPort f.latest (chosen h.fates h.decided_ones) h.decided_ones f.undecided rs o) (same place) (h.ports place o get);
}

left_joins : (at place : ℕ) (n : Numbered) (xs : List Notice) (out : List Record)
    → (out ++ one_at at place n) ++ left_in place xs ≡ out ++ left_in place (Departed at n ∷ xs)
left_joins at place n xs out =
    let joins : one_at at place n ++ left_in place xs ≡ left_in place (Departed at n ∷ xs) =
    elim (cases_Bool (at == place)) [
      | inl same ↦ rw same refl
      | inr apart ↦ rw apart refl
    ] in
    append_assoc out (one_at at place n) (left_in place xs) ∙ ap (λ (rs : List Record). out ++ rs) joins

notices_told : FateMayBe → (t : Terms) (tolerance : ℕ) (l : Levels) (own : List Record) (outs : ℕ → List Record) (xs : List Notice) (f : Watched) → IsTold t tolerance l own outs f
    → AreNext f xs → IsTold t tolerance l (own ++ own_in xs) (λ place. outs place ++ left_in place xs) (with_notices xs f)
notices_told may t tolerance l own outs [] f h next =
    subst (λ (rs : List Record). IsTold t tolerance l rs (λ place. outs place ++ []) f) (sym (append-nil own))
    (with_outs t tolerance l own outs (λ place. outs place ++ []) f (λ place. sym (append-nil (outs place))) h)
notices_told may t tolerance l own outs (Arrived n ∷ xs) f h next =
    subst (λ (rs : List Record). IsTold t tolerance l rs (λ place. outs place ++ left_in place xs) (with_notices xs (with_own n f))) (append_assoc own (n.frame ∷ []) (own_in xs))
    (notices_told may t tolerance l (own ++ n.frame ∷ []) outs xs (with_own n f) (own_told may t tolerance l own outs f n h next.0.0 next.0.1) next.1)
notices_told may t tolerance l own outs (Departed at n ∷ xs) f h next =
    with_outs t tolerance l (own ++ own_in xs) (λ place. (outs place ++ one_at at place n) ++ left_in place xs) (λ place. outs place ++ left_in place (Departed at n ∷ xs))
    (with_notices xs (with_record at n f)) (λ place. left_joins at place n xs (outs place))
    (notices_told may t tolerance l own (λ place. outs place ++ one_at at place n) xs (with_record at n f) (record_told may t tolerance l own outs f at n h next.0.1) next.1)

-- ---- at first, and in the end

pub fresh_told : (latest : ℕ) (o : Output) → IsFresh o → IsPort latest [] [] [] [] o
fresh_told latest o fresh =
    subst (λ (x : Output). IsPort latest [] [] [] [] x) (sym fresh) (record {
      sights = [];
      own_is = refl;
      passed_is = refl;
      left_is = refl;
      pairing = refl;
      tally = refl;
      order = tt;
      by = tt;
      by_latest = tt;
      up_to = tt;
      later = tt;
      rise = tt;
    })

known_first : (account : Account) (tolerance : ℕ) (since : Option ℕ) → (levels_at_first account tolerance since).least ≤ (levels_at_first account tolerance since).most
known_first account tolerance None = omega arith
known_first account tolerance (Some at) = omega arith

first_told : (account : Account) (tolerance : ℕ) (since : Option ℕ) (outputs : List Output) → tolerance ≤ 1000000000 → AllByRecursion IsFresh outputs
    → IsTold (account_terms account) tolerance (levels_at_first account tolerance since) [] (λ place. []) (at_first account tolerance since outputs)
first_told account tolerance since outputs bounded fresh = record {
  decided_ones = [];
  fates = [];
  own_is = refl;
  even = refl;
  are_allowed = tt;
  levels = refl;
  known = known_first account tolerance since;
  terms = refl;
  tolerances = refl;
  in_step = first_in_step account tolerance since outputs bounded fresh;
  ports = λ place o get. fresh_told (option_map_or (λ at. at) since 0) o (all_at IsFresh outputs place o get fresh);
}

pub told_in_the_end : (os : List Output) (n : Numbered) (o : Outlook) → can_tell None os n o ≡ true
told_in_the_end os n Must = refl
told_in_the_end os n Never = refl
told_in_the_end os n Unsure = refl

pub none_undecided : (ns : List Numbered) (f : Watched) → (decided None ns f).undecided ≡ []
none_undecided [] f = refl
none_undecided (n ∷ ns) f = rw (told_in_the_end f.outputs n (outlook_at f n)) (none_undecided ns (with_told n f))

pub all_dropped : {X : Type 0} (xs : List X) → drop (length xs) xs ≡ []
all_dropped [] = refl
all_dropped {X} (x ∷ xs) =
    let next : length (x ∷ xs) ≡ suc (length xs) = omega arith in
    ap (λ (k : ℕ). drop k (x ∷ xs)) next ∙ all_dropped xs

pub none_wait : (unknown : Option ℕ) (o : Output) → unknown ≡ None → (paired_up_to unknown o).waiting ≡ []
none_wait None o none = sights_keep (map Left (take (length o.waiting) o.waiting)) (record o { waiting = drop (length o.waiting) o.waiting }) ∙ all_dropped o.waiting
none_wait (Some at) o none = absurd (let never = none in cc)

pub nothing_waits : (f : Watched) (place : ℕ) (o : Output) → slice_get (settled_by None f).outputs place ≡ Some o → o.waiting ≡ []
nothing_waits f place o get =
    let d = decided None f.undecided f in
    let unknown = first_unknown d.undecided in
    let old = get_mapped (λ x. paired_up_to unknown x) d.outputs place o get in
    ap (λ (x : Output). x.waiting) (sym old.1.1) ∙ none_wait unknown old.0 (ap (λ (ns : List Numbered). first_unknown ns) (none_undecided f.undecided f))

pub followed_is_kept : FineIsKept → FateMayBe → FollowedIsKept
followed_is_kept fine may account tolerance since outputs notices last bounded fresh next =
    let t = account_terms account in
    let first = at_first account tolerance since outputs in
    let l = levels_at_first account tolerance since in
    let own = own_in notices in
    let f = with_notices notices first in
    let told = notices_told may t tolerance l [] (λ place. []) notices first (first_told account tolerance since outputs bounded fresh) next in
    let h = settled_told may t tolerance l own (λ place. left_in place notices) None f told tt in
    let all = settled_by None f in
    let none : all.undecided ≡ [] = none_undecided f.undecided f in
    let done : h.decided_ones ≡ own = sym (append-nil h.decided_ones) ∙ ap (λ (ns : List Numbered). h.decided_ones ++ records ns) (sym none) ∙ sym h.own_is in (
      h.fates,
      record {
        are_allowed = subst (λ (rs : List Record). Allowed t tolerance l (map judged rs) h.fates) done h.are_allowed;
        kept = λ place o get conforms.
            let old = get_mapped (λ x. with_end last x) all.outputs place o get in
            let port = subst (λ (ns : List Numbered). IsPort all.latest (chosen h.fates h.decided_ones) h.decided_ones ns (left_in place notices) old.0) none (h.ports place old.0 old.1.0) in
            let same = subst (λ (x : Output). conforms_in x.found.tally ≡ true) (sym old.1.1) conforms in
            let kept = ends fine all.latest (chosen h.fates h.decided_ones) h.decided_ones (left_in place notices) old.0 last port (nothing_waits f place old.0 old.1.0) same in
            subst (λ (x : Output). IsKeptFor x.limits (last_at x.limits last) own (chosen h.fates own) (left_in place notices)) old.1.1
            (subst (λ (rs : List Record). IsKeptFor old.0.limits (last_at old.0.limits last) rs (chosen h.fates rs) (left_in place notices)) done kept);
      },
    )

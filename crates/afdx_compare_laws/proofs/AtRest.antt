-- A link that was at rest and of which stamps are exact: each fate is told at once, and what is told of a port rests on the link's frames and on the port's own records.
use Rattle.std.proofs.Common.{◌≡◌, ℕ, zero, suc, ◌+◌, ◌*◌, ◌-◌, ◌≤◌, min, max, nat_le, nat_lt, ◌==◌, not, Bool, true, false, cond, List, [], ◌∷◌, ◌++◌, map, filter}
use Rattle.std.proofs.Common.{Option, Some, None, refl, sym, ap, subst, ◌∙◌, arith, inl, inr}
use Rattle.std.specs.Prelude.{if◌then◌else◌, option_map, slice_get}
use Rattle.std.specs.List.{AllByRecursion, list_any}
use Rattle.std.specs.Option.{option_map_or}
use Rattle.std.proofs.lemmas.Bool.{cases_Bool, leb-true, leb-false, ltb-true, eqb-true, eqb-false}
use Rattle.std.proofs.lemmas.Option.{slice_get-map}
use Rattle.afdx_account.specs.declared.account.Account.{Account}
use Rattle.afdx_account.specs.Account.{account_terms}
use Rattle.afdx_account.specs.Policing.{Terms}
use Rattle.afdx_levels.specs.declared.outlook.Outlook.{Outlook}
use Rattle.afdx_levels.specs.declared.outlook.Outlook.TheVariants.{Must, Never, Unsure}
use Rattle.afdx_levels.specs.Levels.{Levels, slack_of, at_rest, credited, outlook_of, after, fate_told}
use Rattle.afdx_pairing.specs.declared.limits.Limits.{Limits}
use Rattle.afdx_pairing.specs.Events.{Numbered}
use Rattle.afdx_pairing.specs.Limits.{left_at}
use Rattle.afdx_pairing.specs.Pairing.{Pairing, kept_at, partner, paired}
use Rattle.afdx_pairing.specs.Kept.{Left, Until}
use Rattle.afdx_following.specs.Output.{Found, Output, IsFresh, nothing_found, output_at, has, left_by, with_came, with_waiting, with_sight, earliest, paired_up_to, gone_on, last_at, with_end}
use Rattle.afdx_following.specs.Watched.{Watched, at_first, frame_size, can_tell, counted, with_told, decided, with_paired, with_gone}
use Rattle.afdx_following.specs.Watched.{with_own, changed_at, left_by_at, stamped_by_at, with_record, with_ends}
use Rattle.afdx_following.specs.Followed.{Notice, Arrived, Departed, with_notice, with_notices, IsNext, AreNext}
use Rattle.afdx_following.proofs.Counting.{told_none}
use Rattle.afdx_following.proofs.Explained.{stamped_first}
use Rattle.afdx_compare.proofs.Places.{all_at}
use Rattle.afdx_compare_laws.specs.Conforming.{IsByLast}
use Rattle.afdx_compare_laws.specs.Fine.{IsByEnd}
use Rattle.afdx_compare_laws.proofs.Ending.{later_of, Ends, first_ends, later_ends, frame_ends, stamp_ends}
use Rattle.afdx_compare_laws.proofs.Told.{limits_in, notices_limits}
use Rattle.afdx_compare_laws.proofs.Untils.{until_again, came_first, left_anyway, ended_anyway}

-- ---- an account of which all is known is sure of each frame

abbrev IsSure : Outlook → Type 0
IsSure Must = Unit {0}
IsSure Never = Unit {0}
IsSure Unsure = ⊥

sure_told : (at : ℕ) (os : List Output) (n : Numbered) (o : Outlook) → IsSure o → can_tell (Some at) os n o ≡ true
sure_told at os n Must sure = refl
sure_told at os n Never sure = refl
sure_told at os n Unsure sure = absurd sure

sure_fate : (o : Outlook) (seen other : Bool) → IsSure o → fate_told o seen ≡ fate_told o other
sure_fate Must seen other sure = refl
sure_fate Never seen other sure = refl
sure_fate Unsure seen other sure = absurd sure

sure_count : (o : Outlook) (count : ℕ) → IsSure o → counted o count ≡ count
sure_count Must count sure = refl
sure_count Never count sure = refl
sure_count Unsure count sure = absurd sure

abbrev outlook_by : Bool → Bool → Outlook
outlook_by passes polices = if not passes then Never else if polices then Unsure else Must

known_sure : (t : Terms) (size : ℕ) (l : Levels) → l.least ≡ l.most → IsSure (outlook_of t 0 size l)
known_sure t size l same = by (nat_le (t.price size) l.most) refl (nat_lt l.least (t.price size + 2 * slack_of t 0)) refl where
  by : (passes : Bool) → nat_le (t.price size) l.most ≡ passes → (polices : Bool) → nat_lt l.least (t.price size + 2 * slack_of t 0) ≡ polices → IsSure (outlook_by passes polices)
  by false passes polices may = tt
  by true passes false may = tt
  by true passes true may =
      let enough = leb-true (t.price size) l.most passes in
      let less = ltb-true l.least (t.price size + 2 * slack_of t 0) may in
      absurd (omega (arith, same, enough, less))

credited_known : (t : Terms) (l : Levels) (at : ℕ) → l.least ≡ l.most → (credited t l at).least ≡ (credited t l at).most
credited_known t l at same = ap (λ (x : ℕ). x + t.rate * (at - l.since)) same

-- and stays known
still_known : (t : Terms) (size : ℕ) (l : Levels) → l.least ≡ l.most → t.price size ≤ t.cap
    → (after t 0 size (fate_told (outlook_of t 0 size l) false) l).least ≡ (after t 0 size (fate_told (outlook_of t 0 size l) false) l).most
still_known t size l same fits = by (nat_le (t.price size) l.most) refl (nat_lt l.least (t.price size + 2 * slack_of t 0)) refl where
  by : (passes : Bool) → nat_le (t.price size) l.most ≡ passes → (polices : Bool) → nat_lt l.least (t.price size + 2 * slack_of t 0) ≡ polices
      → (after t 0 size (fate_told (outlook_by passes polices) false) l).least ≡ (after t 0 size (fate_told (outlook_by passes polices) false) l).most
  by false passes polices may =
      let less = leb-false (t.price size) l.most passes in
      let is : l.least ≡ min l.most (t.price size + 2 * slack_of t 0 - 1) = omega (arith, same, fits, less) in is
  by true passes false may =
      let enough = leb-true (t.price size) l.most passes in
      let is : min t.cap (max l.least (t.price size)) - t.price size ≡ min (t.cap + 2 * slack_of t 0) l.most - t.price size = omega (arith, same, fits, enough) in is
  by true passes true may =
      let enough = leb-true (t.price size) l.most passes in
      let less = ltb-true l.least (t.price size + 2 * slack_of t 0) may in
      absurd (omega (arith, same, enough, less))

-- ---- such a link: no fate is open, and no frame was unsure

abbrev pub watched : Account → Levels → List Output → ℕ → Watched
watched account l os latest = record { account = account; tolerance = 0; levels = l; undecided = []; outputs = os; unsure = 0; latest = latest; failed = false }

abbrev passes_next : Terms → Levels → Numbered → Bool
passes_next t l n = fate_told (outlook_of t 0 (frame_size n) (credited t l n.frame.stamp)) false

abbrev levels_next : Terms → Levels → Numbered → Levels
levels_next t l n = after t 0 (frame_size n) (passes_next t l n) (credited t l n.frame.stamp)

abbrev settle : ℕ → Watched → Watched
settle at f = with_gone (Some at) (with_paired f)

own_at_once : (account : Account) (l : Levels) (os : List Output) (latest : ℕ) (n : Numbered) → l.least ≡ l.most
    → with_own n (watched account l os latest)
    ≡ watched account (levels_next (account_terms account) l n)
    (map (λ o. gone_on n.frame.stamp o) (map (λ o. paired_up_to None o) (map (λ o. with_came n (passes_next (account_terms account) l n) o) os))) n.frame.stamp
own_at_once account l os latest n same =
    let t = account_terms account in
    let at = n.frame.stamp in
    let now = credited t l at in
    let outlook = outlook_of t 0 (frame_size n) now in
    let sure = known_sure t (frame_size n) now (credited_known t l at same) in
    let more : Watched = record (watched account l os latest) { undecided = n ∷ []; latest = at } in
    let told : Bool → ℕ → Watched =
    λ passes unsure. record (watched account (after t 0 (frame_size n) passes now) (map (λ o. with_came n passes o) os) at) { unsure = unsure } in
    ap (λ (b : Bool). settle at (if b then decided (Some at) [] (with_told n more) else record more { undecided = n ∷ [] })) (sure_told at os n outlook sure)
    ∙ ap (λ (passes : Bool). settle at (told passes (counted outlook 0))) (sure_fate outlook (list_any (λ o. has n o) os) false sure)
    ∙ ap (λ (count : ℕ). settle at (told (passes_next t l n) count)) (sure_count outlook 0 sure)

-- ---- a port at which no record waits

none_waits : (o : Output) → o.waiting ≡ [] → paired_up_to None o ≡ o
none_waits o none =
    ap (λ (ws : List Numbered). paired_up_to None (record o { waiting = ws })) none ∙ sym (ap (λ (ws : List Numbered). record o { waiting = ws }) none)

one_waits : (n : Numbered) (o : Output) → o.waiting ≡ [] → paired_up_to None (with_waiting n o) ≡ with_sight (Left n) o
one_waits n o none =
    ap (λ (ws : List Numbered). paired_up_to None (record o { waiting = ws ++ n ∷ [] })) none
    ∙ sym (ap (λ (ws : List Numbered). with_sight (Left n) (record o { waiting = ws })) none)

goes_on : (at : ℕ) (o : Output) → o.waiting ≡ [] → o.limits.tolerance ≡ 0 → gone_on at o ≡ with_sight (Until at) o
goes_on at o none exact =
    ap (λ (ws : List Numbered). with_sight (Until (earliest at o.limits (slice_get ws 0) - o.limits.tolerance)) o) none
    ∙ ap (λ (i : ℕ). with_sight (Until i) o) (let is : at - o.limits.tolerance ≡ at = omega (arith, exact) in is)

-- ---- what is told of a port, of the frames and of its own records alone

abbrev pub about : ℕ → Notice → Bool
about place (Arrived n) = true
about place (Departed at n) = at == place

abbrev levels_on : Terms → Notice → Levels → Levels
levels_on t (Arrived n) l = levels_next t l n
levels_on t (Departed at n) l = l

abbrev told_on : Terms → ℕ → Levels → Notice → Output → Output
told_on t place l (Arrived n) o = with_came n (passes_next t l n) o
told_on t place l (Departed at n) o = if at == place then with_sight (Left n) o else o

abbrev pub told_alone : Terms → ℕ → List Notice → Levels → Output → Output
told_alone t place [] l o = o
told_alone t place (x ∷ xs) l o = told_alone t place xs (levels_on t x l) (told_on t place l x o)

-- what is not about the port changes nothing of it
pub alone_about : (t : Terms) (place : ℕ) (xs : List Notice) (l : Levels) (o : Output) → told_alone t place xs l o ≡ told_alone t place (filter (λ x. about place x) xs) l o
alone_about t place [] l o = refl
alone_about t place (Arrived n ∷ xs) l o = alone_about t place xs (levels_next t l n) (with_came n (passes_next t l n) o)
alone_about t place (Departed at n ∷ xs) l o = let some = filter (λ x. about place x) xs in elim (cases_Bool (at == place)) [
  | inl same ↦
      ap (λ (b : Bool). told_alone t place xs l (if b then with_sight (Left n) o else o)) same
      ∙ alone_about t place xs l (with_sight (Left n) o)
      ∙ sym (ap (λ (b : Bool). told_alone t place (cond b (Departed at n ∷ some) some) l o) same ∙ ap (λ (b : Bool). told_alone t place some l (if b then with_sight (Left n) o else o)) same)
  | inr apart ↦
      ap (λ (b : Bool). told_alone t place xs l (if b then with_sight (Left n) o else o)) apart
      ∙ alone_about t place xs l o ∙ sym (ap (λ (b : Bool). told_alone t place (cond b (Departed at n ∷ some) some) l o) apart)
]

-- a port is told so, but that frames may be gone by an instant
record IsSoTold (last : Option ℕ) (m : Limits) (latest : ℕ) (alone o : Output) : Type 0 where
  at : ℕ
  is : o ≡ with_sight (Until at) alone
  none : alone.waiting ≡ []
  limits : alone.limits ≡ m
  pairing_limits : alone.pairing.limits ≡ m
  by : at ≤ latest
  ends : Ends last m at

module _ (last : Option ℕ) (m : Limits) (exact : m.tolerance ≡ 0) where
  -- it goes on to an instant
  gone_so : (latest late by : ℕ) (alone o : Output) → IsSoTold last m latest alone o → latest ≤ late → by ≤ late → Ends last m by → IsSoTold last m late alone (gone_on by (paired_up_to None o))
  gone_so latest late by alone o h le soon ends =
      let seen = with_sight (Until h.at) alone in
      let first = h.by in
      let limits = h.limits in
      let here : alone.limits.tolerance ≡ 0 = ap (λ (x : Limits). x.tolerance) limits ∙ exact in
      record {
        at = later_of h.at by;
        is = ap (λ (x : Output). gone_on by (paired_up_to None x)) h.is ∙ ap (λ (x : Output). gone_on by x) (none_waits seen h.none)
            ∙ goes_on by seen h.none here ∙ until_again h.at by alone;
        none = h.none;
        limits = h.limits;
        pairing_limits = h.pairing_limits;
        by = omega (arith, first, le, soon);
        ends = later_ends last m h.at by h.ends ends;
      }

  -- a frame comes
  came_limits : (n : Numbered) (passes : Bool) (o : Output) → o.pairing.limits ≡ m → (with_came n passes o).pairing.limits ≡ m
  came_limits n true o is = is
  came_limits n false o is = is

  came_so : (latest : ℕ) (n : Numbered) (passes : Bool) (alone o : Output) → IsSoTold last m latest alone o → latest ≤ n.frame.stamp
      → IsSoTold last m latest (with_came n passes alone) (with_came n passes o)
  came_so latest n passes alone o h le =
      let first = h.by in
      record {
        at = h.at;
        is = ap (λ (x : Output). with_came n passes x) h.is ∙ came_first h.at n passes alone (omega (arith, first, le));
        none = h.none;
        limits = h.limits;
        pairing_limits = came_limits n passes alone h.pairing_limits;
        by = h.by;
        ends = h.ends;
      }

  -- a record leaves there
  paired_limits : (partner : Option ℕ) (p : Pairing) → (paired partner p).limits ≡ p.limits
  paired_limits None p = refl
  paired_limits (Some i) p = refl

  left_so : (latest late by : ℕ) (n : Numbered) (alone o : Output) → IsSoTold last m latest alone o → latest ≤ left_at m n.frame → by ≤ late → Ends last m by
      → IsSoTold last m late (with_sight (Left n) alone) (gone_on by (paired_up_to None (with_waiting n o)))
  left_so latest late by n alone o h le soon ends =
      let seen = with_sight (Until h.at) alone in
      let new = with_sight (Left n) alone in
      let first = h.by in
      let limits = h.limits in
      let same = h.pairing_limits in
      let here : alone.limits.tolerance ≡ 0 = ap (λ (x : Limits). x.tolerance) limits ∙ exact in
      let line : left_at m n.frame ≡ left_at alone.pairing.limits n.frame = ap (λ (x : Limits). left_at x n.frame) (sym same) in
      let kept = kept_at (left_at alone.pairing.limits n.frame) alone.pairing in
      record {
        at = by;
        is = ap (λ (x : Output). gone_on by (paired_up_to None (with_waiting n x))) h.is
            ∙ ap (λ (x : Output). gone_on by x) (one_waits n seen h.none ∙ left_anyway h.at n alone (omega (arith, first, le, line)))
            ∙ goes_on by new h.none here;
        none = h.none;
        limits = h.limits;
        pairing_limits = paired_limits (partner kept n.frame) kept ∙ h.pairing_limits;
        by = soon;
        ends = ends;
      }

  -- and in the end
  ends_so : (latest : ℕ) (alone o : Output) → IsSoTold last m latest alone o → (with_end last (paired_up_to None o)).found ≡ (with_end last alone).found
  ends_so latest alone o h =
      let seen = with_sight (Until h.at) alone in
      let by : IsByEnd m (last_at m last) h.at = subst (λ (i : ℕ). IsByEnd m (last_at m last) i) (let is : h.at - m.tolerance ≡ h.at = omega (arith, exact) in is) h.ends in
      ap (λ (x : Output). (with_end last (paired_up_to None x)).found) h.is
      ∙ ap (λ (x : Output). (with_end last x).found) (none_waits seen h.none)
      ∙ ended_anyway last h.at alone
      (subst (λ (x : Limits). IsByEnd x (last_at alone.limits last) h.at) (sym h.pairing_limits) (subst (λ (x : Limits). IsByEnd m (last_at x last) h.at) (sym h.limits) by))

-- ---- lists

there_mapped : {X : Type 0} (f : X → X) (xs : List X) (k : ℕ) (x : X) → slice_get xs k ≡ Some x → slice_get (map f xs) k ≡ Some (f x)
there_mapped {X} f xs k x there = slice_get-map f xs k ∙ ap (λ (o : Option X). option_map f o) there

there_changed : {X : Type 0} (change : X → X) (xs : List X) (k : ℕ) (x : X) → slice_get xs k ≡ Some x → slice_get (changed_at k change xs) k ≡ Some (change x)
there_changed change [] k x there = absurd (let never = there in cc)
there_changed {X} change (y ∷ xs) zero x there = ap (λ (o : Option X). option_map change o) there
there_changed change (y ∷ xs) (suc k) x there = there_changed change xs k x there

there_beside : {X : Type 0} (change : X → X) (at : ℕ) (xs : List X) (k : ℕ) → (at ≡ k → ⊥) → slice_get (changed_at at change xs) k ≡ slice_get xs k
there_beside change at [] k apart = refl
there_beside change zero (x ∷ xs) zero apart = absurd (apart refl)
there_beside change zero (x ∷ xs) (suc k) apart = refl
there_beside change (suc at) (x ∷ xs) zero apart = refl
there_beside change (suc at) (x ∷ xs) (suc k) apart = there_beside change at xs k (λ same. apart (ap suc same))

-- ---- what the link is told

abbrev pub AreExact : List Limits → Type 0
AreExact ms = AllByRecursion (λ x. x.tolerance ≡ 0) ms

stamped_exact : (os : List Output) → AreExact (limits_in os) → (place : ℕ) (n : Numbered) → option_map_or (λ o. n.frame.stamp + o.limits.tolerance) (slice_get os place) 0 ≤ n.frame.stamp
stamped_exact os exact place n = by (slice_get os place) refl where
  by : (one : Option Output) → slice_get os place ≡ one → option_map_or (λ o. n.frame.stamp + o.limits.tolerance) one 0 ≤ n.frame.stamp
  by None get = omega arith
  by (Some o) get =
      let at : slice_get (limits_in os) place ≡ Some o.limits = slice_get-map (λ (x : Output). x.limits) os place ∙ ap (λ (x : Option Output). option_map (λ (y : Output). y.limits) x) get in
      let is = all_at (λ (x : Limits). x.tolerance ≡ 0) (limits_in os) place o.limits at exact in
      omega (arith, is)

module _ (account : Account) (last : Option ℕ) (m : Limits) (exact : m.tolerance ≡ 0) (place : ℕ) where
  abbrev terms : Terms
  terms = account_terms account

  -- a link of which the port at the place is so told
  record IsAtRest (l : Levels) (alone : Output) (f : Watched) : Type 0 where
    os : List Output
    latest : ℕ
    is : f ≡ watched account l os latest
    known : l.least ≡ l.most
    even : AreExact (limits_in os)
    port : Output
    there : slice_get os place ≡ Some port
    told : IsSoTold last m latest alone port

  own_rests : (l : Levels) (alone : Output) (f : Watched) (n : Numbered) → IsAtRest l alone f → IsNext f (Arrived n) → IsByLast 0 last (Arrived n)
      → IsAtRest (levels_next terms l n) (with_came n (passes_next terms l n) alone) (with_own n f)
  own_rests l alone f n h next ended =
      let at = n.frame.stamp in
      let passes = passes_next terms l n in
      let old = watched account l h.os h.latest in
      let came = map (λ o. with_came n passes o) h.os in
      let new = map (λ o. gone_on at o) (map (λ o. paired_up_to None o) came) in
      let once = own_at_once account l h.os h.latest n h.known in
      let first : IsNext old (Arrived n) = subst (λ (x : Watched). IsNext x (Arrived n)) h.is next in
      let le = first.0 in
      record {
        os = new;
        latest = at;
        is = ap (λ (x : Watched). with_own n x) h.is ∙ once;
        known = still_known terms (frame_size n) (credited terms l at) (credited_known terms l at h.known) first.1;
        even = subst (λ (ms : List Limits). AreExact ms) (sym (sym (ap (λ (x : Watched). limits_in x.outputs) once) ∙ notices_limits (Arrived n ∷ []) old)) h.even;
        port = gone_on at (paired_up_to None (with_came n passes h.port));
        there = there_mapped (λ o. gone_on at o) (map (λ o. paired_up_to None o) came) place (paired_up_to None (with_came n passes h.port))
            (there_mapped (λ o. paired_up_to None o) came place (with_came n passes h.port) (there_mapped (λ o. with_came n passes o) h.os place h.port h.there));
        told = gone_so last m exact h.latest at at (with_came n passes alone) (with_came n passes h.port)
            (came_so last m exact h.latest n passes alone h.port h.told le) le (omega arith) (frame_ends 0 last m n exact ended);
      }

  port_limits : (alone : Output) (latest : ℕ) (port : Output) → IsSoTold last m latest alone port → port.limits ≡ m
  port_limits alone latest port told = ap (λ (x : Output). x.limits) told.is ∙ told.limits

  record_rests : (l : Levels) (alone : Output) (f : Watched) (at : ℕ) (n : Numbered) → IsAtRest l alone f → IsNext f (Departed at n) → IsByLast 0 last (Departed at n)
      → IsAtRest l (told_on terms place l (Departed at n) alone) (with_record at n f)
  record_rests l alone f at n h next ended =
      let old = watched account l h.os h.latest in
      let stamped = stamped_by_at at n old in
      let late = left_by_at at n old in
      let left = changed_at at (λ o. with_waiting n o) h.os in
      let first : IsNext old (Departed at n) = subst (λ (x : Watched). IsNext x (Departed at n)) h.is next in
      let le : h.latest ≤ late = first.1 in
      let soon = stamped_first at n old in
      let by : stamped ≤ n.frame.stamp = stamped_exact h.os h.even at n in
      let ends : Ends last m stamped = stamp_ends 0 last m at n stamped exact (omega (arith, by)) ended in
      let told : (one waits : Output) → slice_get left place ≡ Some waits → IsSoTold last m late one (gone_on stamped (paired_up_to None waits)) → IsAtRest l one (with_record at n f) =
      λ one waits there so. record {
        os = map (λ o. gone_on stamped o) (map (λ o. paired_up_to None o) left);
        latest = late;
        is = ap (λ (x : Watched). with_record at n x) h.is;
        known = h.known;
        even = subst (λ (ms : List Limits). AreExact ms) (sym (notices_limits (Departed at n ∷ []) old)) h.even;
        port = gone_on stamped (paired_up_to None waits);
        there = there_mapped (λ o. gone_on stamped o) (map (λ o. paired_up_to None o) left) place (paired_up_to None waits)
            (there_mapped (λ o. paired_up_to None o) left place waits there);
        told = so;
      } in
      elim (cases_Bool (at == place)) [
        | inl same ↦ (
            let here : at ≡ place = eqb-true at place same in
            let there : slice_get h.os at ≡ Some h.port = ap (λ (k : ℕ). slice_get h.os k) here ∙ h.there in
            let is : late ≡ left_by n h.port = ap (λ (one : Option Output). option_map_or (λ o. left_by n o) one 0) there in
            let line : left_by n h.port ≡ left_at m n.frame + m.tolerance = ap (λ (x : Limits). left_at x n.frame + x.tolerance) (port_limits alone h.latest h.port h.told) in
            subst (λ (b : Bool). IsAtRest l (if b then with_sight (Left n) alone else alone) (with_record at n f)) (sym same)
            (told (with_sight (Left n) alone) (with_waiting n h.port)
            (ap (λ (k : ℕ). slice_get left k) (sym here) ∙ there_changed (λ o. with_waiting n o) h.os at h.port there)
            (left_so last m exact h.latest late stamped n alone h.port h.told (omega (arith, le, is, line, exact)) soon ends)))
        | inr apart ↦ subst (λ (b : Bool). IsAtRest l (if b then with_sight (Left n) alone else alone) (with_record at n f)) (sym apart)
            (told alone h.port (there_beside (λ o. with_waiting n o) at h.os place (eqb-false at place apart) ∙ h.there)
            (gone_so last m exact h.latest late stamped alone h.port h.told le soon ends))
      ]

  notice_rests : (x : Notice) (l : Levels) (alone : Output) (f : Watched) → IsAtRest l alone f → IsNext f x → IsByLast 0 last x
      → IsAtRest (levels_on terms x l) (told_on terms place l x alone) (with_notice x f)
  notice_rests (Arrived n) l alone f h next ended = own_rests l alone f n h next ended
  notice_rests (Departed at n) l alone f h next ended = record_rests l alone f at n h next ended

  notices_rest : (xs : List Notice) (l : Levels) (alone : Output) (f : Watched) → IsAtRest l alone f → AreNext f xs → AllByRecursion (IsByLast 0 last) xs
      → (k : Levels) × IsAtRest k (told_alone terms place xs l alone) (with_notices xs f)
  notices_rest [] l alone f h next ended = (l, h)
  notices_rest (x ∷ xs) l alone f h next ended =
      notices_rest xs (levels_on terms x l) (told_on terms place l x alone) (with_notice x f) (notice_rests x l alone f h next.0 ended.0) next.1 ended.1

-- ---- from first to last

-- what is found in the end of a port that is told so
pub record EndsSo (last : Option ℕ) (place : ℕ) (alone : Output) (g : Watched) : Type 0 where
  pub unsure : g.unsure ≡ 0
  pub port : Output
  pub there : slice_get g.outputs place ≡ Some port
  pub found : port.found ≡ (with_end last alone).found

fresh_so : (last : Option ℕ) (m : Limits) (o : Output) → IsFresh o → o.limits ≡ m → IsSoTold last m 0 o o
fresh_so last m o fresh limits =
    let new = output_at o.port o.limits o.found.keeps in
    let first : new ≡ with_sight (Until 0) new = ap (λ (f : Found). record new { found = f }) (sym (told_none (nothing_found o.found.keeps))) in
    record {
      at = 0;
      is = fresh ∙ first ∙ ap (λ (x : Output). with_sight (Until 0) x) (sym fresh);
      none = ap (λ (x : Output). x.waiting) fresh;
      limits = limits;
      pairing_limits = ap (λ (x : Output). x.pairing.limits) fresh ∙ limits;
      by = omega arith;
      ends = first_ends last m;
    }

-- of a link that was at rest, a port ends as it does of the frames and of its own records alone
pub ends_alone : (account : Account) (outputs : List Output) (last : Option ℕ) (place : ℕ) (first : Output) (xs : List Notice) → AllByRecursion IsFresh outputs
    → AreExact (limits_in outputs) → slice_get outputs place ≡ Some first → AreNext (at_first account 0 None outputs) xs → AllByRecursion (IsByLast 0 last) xs
    → EndsSo last place (told_alone (account_terms account) place xs (at_rest (account_terms account) 0) first) (with_ends last (with_notices xs (at_first account 0 None outputs)))
ends_alone account outputs last place first xs fresh exact there next ended =
    let m = first.limits in
    let t = account_terms account in
    let limits : slice_get (limits_in outputs) place ≡ Some m =
    slice_get-map (λ (x : Output). x.limits) outputs place ∙ ap (λ (x : Option Output). option_map (λ (y : Output). y.limits) x) there in
    let even : m.tolerance ≡ 0 = all_at (λ (x : Limits). x.tolerance ≡ 0) (limits_in outputs) place m limits exact in
    let begun = at_first account 0 None outputs in
    let rest = notices_rest account last m even place xs (at_rest t 0) first begun (record {
      os = outputs;
      latest = 0;
      is = refl;
      known = refl;
      even = exact;
      port = first;
      there = there;
      told = fresh_so last m first (all_at IsFresh outputs place first there fresh) refl;
    }) next ended in
    let h = rest.1 in
    let f = with_notices xs begun in
    let paired = map (λ o. paired_up_to None o) h.os in
    record {
      unsure = ap (λ (x : Watched). (with_ends last x).unsure) h.is;
      port = with_end last (paired_up_to None h.port);
      there = ap (λ (x : Watched). slice_get (with_ends last x).outputs place) h.is
          ∙ there_mapped (λ o. with_end last o) paired place (paired_up_to None h.port) (there_mapped (λ o. paired_up_to None o) h.os place h.port h.there);
      found = ends_so last m even h.latest (told_alone t place xs (at_rest t 0) first) h.port h.told;
    }

-- Where some fates of a link's frames explain what left at its ports, those do that are told.
use Rattle.std.proofs.Common.{◌≡◌, ℕ, ◌+◌, ◌≤◌, nat_le, not, Bool, true, false, ◌&&◌}
use Rattle.std.proofs.Common.{List, [], ◌∷◌, ◌++◌, map, length, Option, Some, None, refl, sym, ap, subst, ◌∙◌, arith, inl, inr}
use Rattle.std.specs.Prelude.{if◌then◌else◌}
use Rattle.std.specs.List.{AllByRecursion, AllZip, list_any}
use Rattle.std.specs.Str.{bytes_eq}
use Rattle.std.proofs.lemmas.Bool.{and_parts, and_from, or_from, or_parts, or_right, not_from_false, true≢false, leb-true, le-ltb, le-leb, false_from_ne_true}
use Rattle.std.proofs.lemmas.List.{append_assoc}
use Rattle.std.proofs.lemmas.Slice.Eq.{bytes_eq-Decides}
use Rattle.afdx_units.specs.Line.{size_of, cost_of}
use Rattle.afdx_pcap.specs.Record.{Record}
use Rattle.afdx_account.specs.Policing.{Terms}
use Rattle.afdx_levels.specs.declared.outlook.Outlook.{Outlook}
use Rattle.afdx_levels.specs.declared.outlook.Outlook.TheVariants.{Must, Never, Unsure}
use Rattle.afdx_levels.specs.Levels.{Levels, at_rest, credited, may_be, outlook_of, after, fate_told, Allowed}
use Rattle.afdx_levels.specs.Inner.Laws.{chosen, AllFit, FateMayBe, AtRestIsTheAccount}
use Rattle.afdx_pairing.specs.declared.limits.Limits.{Limits}
use Rattle.afdx_pairing.specs.Limits.{left_at, most_of, is_early, in_bound}
use Rattle.afdx_pairing.specs.Kept.{IsInBound, Apart, MayCome, bytes_of}
use Rattle.afdx_following.specs.Followed.{judged}
use Rattle.afdx_following.proofs.InStep.{all_more}
use Rattle.afdx_compare_laws.specs.Fine.{LeavesLater}
use Rattle.afdx_compare_laws.specs.Fates.{Recorded, is_seen_at, is_seen, fates_seen, AllDiffer, OwnInOrder, LeaveLater, AreApart, IsKnown, IsKeptBy, ToldFatesExplain}
use Rattle.afdx_compare_laws.proofs.Narrowing.{all_map, all_first, all_both, all_chosen}
use Rattle.afdx_compare_laws.proofs.Fine.{first_is, rest_is, none_is, none_after, not_within, early_least}
use Rattle.afdx_following.proofs.Explained.{known_after}

-- ---- lists

all_with : {X : Type 0} (P Q R : X → Type 0) → ((x : X) → P x → Q x → R x) → (xs : List X) → AllByRecursion P xs → AllByRecursion Q xs → AllByRecursion R xs
all_with P Q R f [] all also = tt
all_with P Q R f (x ∷ xs) all also = (f x all.0 also.0, all_with P Q R f xs all.1 also.1)

abbrev nothing : List Record
nothing = []

none_chosen : (fates : List Bool) → chosen fates nothing ≡ []
none_chosen [] = refl
none_chosen (b ∷ fates) = refl

any_there : {X : Type 0} (p : X → Bool) (xs : List X) (y : X) (ys : List X) → p y ≡ true → list_any p (xs ++ y ∷ ys) ≡ true
any_there p [] y ys is = rw is refl
any_there p (x ∷ xs) y ys is = or_right (p x) (list_any p (xs ++ y ∷ ys)) (any_there p xs y ys is)

any_of_none : {X : Type 0} (p : X → Bool) (xs : List X) → AllByRecursion (λ x. p x ≡ false) xs → list_any p xs ≡ false
any_of_none p [] all = refl
any_of_none p (x ∷ xs) all = or_from (p x) (list_any p xs) all.0 (any_of_none p xs all.1)

none_of_any : {X : Type 0} (p : X → Bool) (xs : List X) → list_any p xs ≡ false → AllByRecursion (λ x. p x ≡ false) xs
none_of_any p [] none = tt
none_of_any p (x ∷ xs) none = let both = or_parts (p x) (list_any p xs) none in (both.0, none_of_any p xs both.1)

-- ---- one record is of one frame

-- a record that left within the bounds of a frame is not within those of a later frame of its bytes
apart_from : (m : Limits) (r f y : Record) → r.bytes ≡ y.bytes → left_at m y ≤ r.stamp + most_of m → (r.bytes ≡ f.bytes → r.stamp + most_of m ≤ f.stamp) → LeavesLater m f
    → in_bound m f y ≡ false
apart_from m r f y bytes most far later = false_from_ne_true (in_bound m f y) (λ is.
    let all = and_parts (bytes_eq f.bytes y.bytes && not (is_early m f y)) (nat_le (left_at m y) (f.stamp + most_of m)) is in
    let first = and_parts (bytes_eq f.bytes y.bytes) (not (is_early m f y)) all.0 in
    let least = early_least m f y (is_early m f y) refl first.1 in
    let same : f.bytes ≡ y.bytes = (bytes_eq-Decides f.bytes y.bytes).0 first.0 in
    let after = far (bytes ∙ sym same) in
    omega (arith, least, later, most, after))

-- nor within those of a sooner one
apart_to : (m : Limits) (r g y : Record) → g.bytes ≡ y.bytes → IsInBound m g y → (r.bytes ≡ g.bytes → r.stamp + most_of m ≤ g.stamp) → LeavesLater m g → in_bound m r y ≡ false
apart_to m r g y bytes within far later = false_from_ne_true (in_bound m r y) (λ is.
    let all = and_parts (bytes_eq r.bytes y.bytes && not (is_early m r y)) (nat_le (left_at m y) (r.stamp + most_of m)) is in
    let first = and_parts (bytes_eq r.bytes y.bytes) (not (is_early m r y)) all.0 in
    let same : r.bytes ≡ y.bytes = (bytes_eq-Decides r.bytes y.bytes).0 first.0 in
    let most = leb-true (left_at m y) (r.stamp + most_of m) all.1 in
    let least = within.least in
    let after = far (same ∙ sym bytes) in
    omega (arith, least, later, most, after))

-- a frame and its record
is_within : (m : Limits) (g y : Record) → g.bytes ≡ y.bytes → IsInBound m g y → in_bound m g y ≡ true
is_within m g y bytes within =
    let early = le-ltb (left_at m y + m.tolerance) (g.stamp + m.least + cost_of m.speed (size_of (length g.bytes))) within.least in
    and_from (bytes_eq g.bytes y.bytes && not (is_early m g y)) (nat_le (left_at m y) (g.stamp + most_of m))
    (and_from (bytes_eq g.bytes y.bytes) (not (is_early m g y)) ((bytes_eq-Decides g.bytes y.bytes).1 bytes) (not_from_false (is_early m g y) early))
    (le-leb (left_at m y) (g.stamp + most_of m) within.most)

-- ---- a port, from a frame on

-- of the records those that are still to be taken are of the frames that are still to come, and the others of none of these
record Goes (rs : List Record) (fates : List Bool) (p : Recorded) : Type 0 where
  done : List Record
  seen : List Record
  gone : List Record
  after : List Record
  out_is : p.out ≡ done ++ seen
  passed_is : chosen fates rs ≡ gone ++ after
  same_bytes : bytes_of seen ≡ bytes_of gone
  within : AllZip (IsInBound p.limits) gone seen
  to_come : AllByRecursion (MayCome p.limits p.last) after
  none_done : AllByRecursion (λ y. AllByRecursion (λ f. in_bound p.limits f y ≡ false) rs) done

-- each record at the port is of one frame only
record IsClear (own : List Record) (p : Recorded) : Type 0 where
  later : AllByRecursion (LeavesLater p.limits) own
  differ : AllDiffer (most_of p.limits) own

rest_clear : (r : Record) (rs : List Record) (p : Recorded) → IsClear (r ∷ rs) p → IsClear rs p
rest_clear r rs p clear = record { later = clear.later.1; differ = clear.differ.1 }

tails : (m : Limits) (r : Record) (rs done : List Record) → AllByRecursion (λ y. AllByRecursion (λ f. in_bound m f y ≡ false) (r ∷ rs)) done
    → AllByRecursion (λ y. AllByRecursion (λ f. in_bound m f y ≡ false) rs) done
tails m r rs [] none = tt
tails m r rs (y ∷ done) none = (none.0.1, tails m r rs done none.1)

heads : (m : Limits) (r : Record) (rs done : List Record) → AllByRecursion (λ y. AllByRecursion (λ f. in_bound m f y ≡ false) (r ∷ rs)) done
    → AllByRecursion (λ y. in_bound m r y ≡ false) done
heads m r rs [] none = tt
heads m r rs (y ∷ done) none = (none.0.0, heads m r rs done none.1)

policed_on : (r : Record) (rs : List Record) (fates : List Bool) (p : Recorded) → Goes (r ∷ rs) (false ∷ fates) p → Goes rs fates p
policed_on r rs fates p g = record {
  done = g.done;
  seen = g.seen;
  gone = g.gone;
  after = g.after;
  out_is = g.out_is;
  passed_is = g.passed_is;
  same_bytes = g.same_bytes;
  within = g.within;
  to_come = g.to_come;
  none_done = tails p.limits r rs g.done g.none_done;
}

far_from : (m : Limits) (r y : Record) (rs : List Record) → r.bytes ≡ y.bytes → left_at m y ≤ r.stamp + most_of m
    → AllByRecursion (λ f. r.bytes ≡ f.bytes → r.stamp + most_of m ≤ f.stamp) rs → AllByRecursion (LeavesLater m) rs → AllByRecursion (λ f. in_bound m f y ≡ false) rs
far_from m r y [] bytes most far later = tt
far_from m r y (f ∷ rs) bytes most far later = (apart_from m r f y bytes most far.0 later.0, far_from m r y rs bytes most far.1 later.1)

passed_by : (r : Record) (rs : List Record) (fates : List Bool) (p : Recorded) → IsClear (r ∷ rs) p → (done seen gone after : List Record) → p.out ≡ done ++ seen
    → r ∷ chosen fates rs ≡ gone ++ after → bytes_of seen ≡ bytes_of gone → AllZip (IsInBound p.limits) gone seen → AllByRecursion (MayCome p.limits p.last) after
    → AllByRecursion (λ y. AllByRecursion (λ f. in_bound p.limits f y ≡ false) (r ∷ rs)) done → Goes rs fates p
passed_by r rs fates p clear done seen [] after out_is passed_is same within comes none = record {
  done = done;
  seen = seen;
  gone = [];
  after = chosen fates rs;
  out_is = out_is;
  passed_is = refl;
  same_bytes = same;
  within = within;
  to_come = (subst (λ (xs : List Record). AllByRecursion (MayCome p.limits p.last) xs) (sym passed_is) comes).1;
  none_done = tails p.limits r rs done none;
}
passed_by r rs fates p clear done [] (g ∷ gone) after out_is passed_is same within comes none = absurd (none_is g.bytes (bytes_of gone) same)
passed_by r rs fates p clear done (y ∷ seen) (g ∷ gone) after out_is passed_is same within comes none =
    let first : r ≡ g = first_is r g (chosen fates rs) (gone ++ after) passed_is in
    let bytes : r.bytes ≡ y.bytes = ap (λ (x : Record). x.bytes) first ∙ sym (first_is y.bytes g.bytes (bytes_of seen) (bytes_of gone) same) in
    let stamp = ap (λ (x : Record). x.stamp) first in
    let most = within.0.most in
    record {
      done = done ++ y ∷ [];
      seen = seen;
      gone = gone;
      after = after;
      out_is = out_is ∙ sym (append_assoc done (y ∷ []) seen);
      passed_is = rest_is r g (chosen fates rs) (gone ++ after) passed_is;
      same_bytes = rest_is y.bytes g.bytes (bytes_of seen) (bytes_of gone) same;
      within = within.1;
      to_come = comes;
      none_done = all_more (λ z. AllByRecursion (λ f. in_bound p.limits f z ≡ false) rs) done y (tails p.limits r rs done none)
          (far_from p.limits r y rs bytes (omega (arith, stamp, most)) clear.differ.0 clear.later.1);
    }

passed_on : (r : Record) (rs : List Record) (fates : List Bool) (p : Recorded) → IsClear (r ∷ rs) p → Goes (r ∷ rs) (true ∷ fates) p → Goes rs fates p
passed_on r rs fates p clear g = passed_by r rs fates p clear g.done g.seen g.gone g.after g.out_is g.passed_is g.same_bytes g.within g.to_come g.none_done

-- a frame that was policed is not seen
none_of_gone : (m : Limits) (r : Record) (gone seen : List Record) → bytes_of seen ≡ bytes_of gone → AllZip (IsInBound m) gone seen
    → AllByRecursion (λ g. r.bytes ≡ g.bytes → r.stamp + most_of m ≤ g.stamp) gone → AllByRecursion (LeavesLater m) gone → AllByRecursion (λ y. in_bound m r y ≡ false) seen
none_of_gone m r [] [] same within far later = tt
none_of_gone m r [] (y ∷ seen) same within far later = absurd within
none_of_gone m r (g ∷ gone) [] same within far later = absurd within
none_of_gone m r (g ∷ gone) (y ∷ seen) same within far later = (
  apart_to m r g y (sym (first_is y.bytes g.bytes (bytes_of seen) (bytes_of gone) same)) within.0 far.0 later.0,
  none_of_gone m r gone seen (rest_is y.bytes g.bytes (bytes_of seen) (bytes_of gone) same) within.1 far.1 later.1,
)

policed_unseen : (r : Record) (rs : List Record) (fates : List Bool) (p : Recorded) → IsClear (r ∷ rs) p → Goes (r ∷ rs) (false ∷ fates) p → is_seen_at r p ≡ false
policed_unseen r rs fates p clear g =
    let m = p.limits in
    let gone_of : (P : Record → Type 0) → AllByRecursion P rs → AllByRecursion P g.gone = λ P all.
    all_first P g.gone g.after (subst (λ (xs : List Record). AllByRecursion P xs) g.passed_is (all_chosen P fates rs all)) in
    let seen = none_of_gone m r g.gone g.seen g.same_bytes g.within (gone_of (λ x. r.bytes ≡ x.bytes → r.stamp + most_of m ≤ x.stamp) clear.differ.0) (gone_of (LeavesLater m) clear.later.1) in
    ap (λ (xs : List Record). list_any (λ (y : Record). in_bound m r y) xs) g.out_is
    ∙ any_of_none (λ (y : Record). in_bound m r y) (g.done ++ g.seen) (all_both (λ y. in_bound m r y ≡ false) g.done g.seen (heads m r rs g.done g.none_done) seen)

-- ---- fates that explain, and those that are told

-- they are the same up to a frame that was passed and is seen nowhere
abbrev Agree : List Recorded → List Record → List Bool → List Bool → Type 0
Agree ports [] fates told = Unit {0}
Agree ports (r ∷ rs) [] told = ⊥
Agree ports (r ∷ rs) (b ∷ fates) [] = ⊥
Agree ports (r ∷ rs) (true ∷ fates) (true ∷ told) = Agree ports rs fates told
Agree ports (r ∷ rs) (true ∷ fates) (false ∷ told) = is_seen ports r ≡ false
Agree ports (r ∷ rs) (false ∷ fates) (true ∷ told) = ⊥
Agree ports (r ∷ rs) (false ∷ fates) (false ∷ told) = Agree ports rs fates told

abbrev outlook_by : Bool → Bool → Outlook
outlook_by passes polices = if not passes then Never else if polices then Unsure else Must

seen_passes : (passes polices seen : Bool) → passes ≡ true → seen ≡ true → fate_told (outlook_by passes polices) seen ≡ true
seen_passes true true seen may is = is
seen_passes true false seen may is = refl
seen_passes false polices seen may is = absurd (true≢false (sym may))

unseen_polices : (passes polices seen : Bool) → polices ≡ true → seen ≡ false → fate_told (outlook_by passes polices) seen ≡ false
unseen_polices true true seen may not = not
unseen_polices true false seen may not = absurd (true≢false (sym may))
unseen_polices false polices seen may not = refl

module _ (t : Terms) (tolerance : ℕ) (ports : List Recorded) where
  abbrev told_from : Levels → List Record → List Bool
  told_from l rs = fates_seen t tolerance (is_seen ports) l rs

  -- what is told of a frame and of those after it
  abbrev told_on : Record → List Record → Levels → Bool → List Bool
  told_on r rs now passes = passes ∷ told_from (after t tolerance (judged r).size passes now) rs

  agree : (l : Levels) (rs : List Record) (fates : List Bool) → Allowed t tolerance l (map judged rs) fates → AllByRecursion (IsClear rs) ports
      → AllByRecursion (Goes rs fates) ports → Agree ports rs fates (told_from l rs)
  agree l [] fates allowed clear goes = tt
  agree l (r ∷ rs) [] allowed clear goes = absurd allowed
  agree l (r ∷ rs) (true ∷ fates) allowed clear goes =
      let now = credited t l r.stamp in
      let size = (judged r).size in
      let pass = may_be t tolerance size now true in
      let police = may_be t tolerance size now false in
      let clear_rest = all_map (IsClear (r ∷ rs)) (IsClear rs) (λ p one. rest_clear r rs p one) ports clear in
      let goes_rest = all_with (IsClear (r ∷ rs)) (Goes (r ∷ rs) (true ∷ fates)) (Goes rs fates) (λ p one two. passed_on r rs fates p one two) ports clear goes in
      let rest = agree (after t tolerance size true now) rs fates allowed.1 clear_rest goes_rest in
      by (fate_told (outlook_by pass police) (is_seen ports r)) refl (is_seen ports r) refl rest where
        by : (told : Bool)
            → fate_told (outlook_by (may_be t tolerance (judged r).size (credited t l r.stamp) true) (may_be t tolerance (judged r).size (credited t l r.stamp) false)) (is_seen ports r) ≡ told
            → (seen : Bool) → is_seen ports r ≡ seen → Agree ports rs fates (told_from (after t tolerance (judged r).size true (credited t l r.stamp)) rs)
            → Agree ports (r ∷ rs) (true ∷ fates) (told_on r rs (credited t l r.stamp)
            (fate_told (outlook_by (may_be t tolerance (judged r).size (credited t l r.stamp) true) (may_be t tolerance (judged r).size (credited t l r.stamp) false)) (is_seen ports r)))
        by true told_is seen seen_is rest = subst (λ (b : Bool). Agree ports (r ∷ rs) (true ∷ fates) (told_on r rs (credited t l r.stamp) b)) (sym told_is) rest
        by false told_is true seen_is rest = absurd (true≢false (sym (seen_passes (may_be t tolerance (judged r).size (credited t l r.stamp) true)
            (may_be t tolerance (judged r).size (credited t l r.stamp) false) (is_seen ports r) allowed.0 seen_is) ∙ told_is))
        by false told_is false seen_is rest = subst (λ (b : Bool). Agree ports (r ∷ rs) (true ∷ fates) (told_on r rs (credited t l r.stamp) b)) (sym told_is) seen_is
  agree l (r ∷ rs) (false ∷ fates) allowed clear goes =
      let now = credited t l r.stamp in
      let size = (judged r).size in
      let clear_rest = all_map (IsClear (r ∷ rs)) (IsClear rs) (λ p one. rest_clear r rs p one) ports clear in
      let goes_rest = all_map (Goes (r ∷ rs) (false ∷ fates)) (Goes rs fates) (λ p one. policed_on r rs fates p one) ports goes in
      let rest = agree (after t tolerance size false now) rs fates allowed.1 clear_rest goes_rest in
      let unseen = any_of_none (λ (p : Recorded). is_seen_at r p) ports
      (all_with (IsClear (r ∷ rs)) (Goes (r ∷ rs) (false ∷ fates)) (λ p. is_seen_at r p ≡ false) (λ p one two. policed_unseen r rs fates p one two) ports clear goes) in
      let told = unseen_polices (may_be t tolerance size now true) (may_be t tolerance size now false) (is_seen ports r) allowed.0 unseen in
      subst (λ (b : Bool). Agree ports (r ∷ rs) (false ∷ fates) (told_on r rs now b)) (sym told) rest

-- ---- those that are told explain as well

record Still (m : Limits) (last : Option ℕ) (gone passed : List Record) : Type 0 where
  after : List Record
  passed_is : passed ≡ gone ++ after
  to_come : AllByRecursion (MayCome m last) after

later_comes : (m : Limits) (last : Option ℕ) (r f : Record) → MayCome m last r → r.stamp ≤ f.stamp → MayCome m last f
later_comes m None r f comes le = comes
later_comes m (Some last) r f comes le = omega (arith, comes, le)

all_come : (m : Limits) (last : Option ℕ) (r : Record) (rs : List Record) → MayCome m last r → AllByRecursion (λ f. r.stamp ≤ f.stamp) rs → AllByRecursion (MayCome m last) rs
all_come m last r [] comes order = tt
all_come m last r (f ∷ rs) comes order = (later_comes m last r f comes order.0, all_come m last r rs comes order.1)

module _ (ports : List Recorded) (p : Recorded) (unseen : (r : Record) → is_seen ports r ≡ false → is_seen_at r p ≡ false) where
  abbrev Comes : List Record → Type 0
  Comes rs = AllByRecursion (MayCome p.limits p.last) rs

  unseen_waits : (r : Record) (rs : List Record) (told : List Bool) (fates : List Bool) (done seen gone after : List Record) → p.out ≡ done ++ seen → r ∷ chosen fates rs ≡ gone ++ after
      → bytes_of seen ≡ bytes_of gone → AllZip (IsInBound p.limits) gone seen → Comes after → AllByRecursion (λ f. r.stamp ≤ f.stamp) rs → is_seen_at r p ≡ false
      → Still p.limits p.last gone (chosen told rs)
  unseen_waits r rs told fates done seen [] after out_is passed_is same within comes order not =
      let first = (subst (λ (xs : List Record). Comes xs) (sym passed_is) comes).0 in
      record {
        after = chosen told rs;
        passed_is = refl;
        to_come = all_chosen (MayCome p.limits p.last) told rs (all_come p.limits p.last r rs first order);
      }
  unseen_waits r rs told fates done [] (g ∷ gone) after out_is passed_is same within comes order not = absurd (none_is g.bytes (bytes_of gone) same)
  unseen_waits r rs told fates done (y ∷ seen) (g ∷ gone) after out_is passed_is same within comes order not =
      let first : r ≡ g = first_is r g (chosen fates rs) (gone ++ after) passed_is in
      let bytes : r.bytes ≡ y.bytes = ap (λ (x : Record). x.bytes) first ∙ sym (first_is y.bytes g.bytes (bytes_of seen) (bytes_of gone) same) in
      let is = is_within p.limits r y bytes (subst (λ (x : Record). IsInBound p.limits x y) (sym first) within.0) in
      let there = ap (λ (xs : List Record). list_any (λ (x : Record). in_bound p.limits r x) xs) out_is ∙ any_there (λ (x : Record). in_bound p.limits r x) done y seen is in
      absurd (true≢false (sym there ∙ not))

  still_from : (rs : List Record) (fates told : List Bool) (done seen gone after : List Record) → p.out ≡ done ++ seen → chosen fates rs ≡ gone ++ after
      → bytes_of seen ≡ bytes_of gone → AllZip (IsInBound p.limits) gone seen → Comes after → OwnInOrder rs → Agree ports rs fates told
      → Still p.limits p.last gone (chosen told rs)
  still_from [] fates told done seen gone after out_is passed_is same within comes order agrees =
      let none = sym (none_chosen fates) ∙ passed_is in
      let all = none_after gone after none in
      record {
        after = [];
        passed_is = none_chosen told ∙ none ∙ ap (λ (xs : List Record). gone ++ xs) all;
        to_come = tt;
      }
  still_from (r ∷ rs) [] told done seen gone after out_is passed_is same within comes order agrees = absurd agrees
  still_from (r ∷ rs) (b ∷ fates) [] done seen gone after out_is passed_is same within comes order agrees = absurd agrees
  still_from (r ∷ rs) (true ∷ fates) (true ∷ told) done seen [] after out_is passed_is same within comes order agrees =
      let all = subst (λ (xs : List Record). Comes xs) (sym passed_is) comes in
      let rest = still_from rs fates told done seen [] (chosen fates rs) out_is refl same within all.1 order.1 agrees in
      record { after = r ∷ rest.after; passed_is = ap (λ (xs : List Record). r ∷ xs) rest.passed_is; to_come = (all.0, rest.to_come) }
  still_from (r ∷ rs) (true ∷ fates) (true ∷ told) done [] (g ∷ gone) after out_is passed_is same within comes order agrees = absurd (none_is g.bytes (bytes_of gone) same)
  still_from (r ∷ rs) (true ∷ fates) (true ∷ told) done (y ∷ seen) (g ∷ gone) after out_is passed_is same within comes order agrees =
      let first : r ≡ g = first_is r g (chosen fates rs) (gone ++ after) passed_is in
      let rest = still_from rs fates told (done ++ y ∷ []) seen gone after (out_is ∙ sym (append_assoc done (y ∷ []) seen)) (rest_is r g (chosen fates rs) (gone ++ after) passed_is)
      (rest_is y.bytes g.bytes (bytes_of seen) (bytes_of gone) same) within.1 comes order.1 agrees in
      record {
        after = rest.after;
        passed_is = ap (λ (x : Record). x ∷ chosen told rs) first ∙ ap (λ (xs : List Record). g ∷ xs) rest.passed_is;
        to_come = rest.to_come;
      }
  still_from (r ∷ rs) (true ∷ fates) (false ∷ told) done seen gone after out_is passed_is same within comes order agrees =
      unseen_waits r rs told fates done seen gone after out_is passed_is same within comes order.0 (unseen r agrees)
  still_from (r ∷ rs) (false ∷ fates) (true ∷ told) done seen gone after out_is passed_is same within comes order agrees = absurd agrees
  still_from (r ∷ rs) (false ∷ fates) (false ∷ told) done seen gone after out_is passed_is same within comes order agrees =
      still_from rs fates told done seen gone after out_is passed_is same within comes order.1 agrees

-- ---- at first

apart_all : (m : Limits) (y : Record) (own : List Record) → AllByRecursion (LeavesLater m) own → Apart m own y → AllByRecursion (λ f. in_bound m f y ≡ false) own
apart_all m y [] later apart = tt
apart_all m y (f ∷ own) later apart = (not_within m f y later.0 apart.0, apart_all m y own later.1 apart.1)

before_apart : (m : Limits) (own before : List Record) → AllByRecursion (LeavesLater m) own → AllByRecursion (Apart m own) before
    → AllByRecursion (λ y. AllByRecursion (λ f. in_bound m f y ≡ false) own) before
before_apart m own [] later apart = tt
before_apart m own (y ∷ before) later apart = (apart_all m y own later apart.0, before_apart m own before later apart.1)

goes_first : (own : List Record) (fates : List Bool) (p : Recorded) → IsClear own p → IsKeptBy own fates p → Goes own fates p
goes_first own fates p clear k = record {
  done = k.before;
  seen = k.seen;
  gone = k.gone;
  after = k.after;
  out_is = k.out_is;
  passed_is = k.passed_is;
  same_bytes = k.same_bytes;
  within = k.in_bound;
  to_come = k.to_come;
  none_done = before_apart p.limits own k.before clear.later k.of_none;
}

unseen_each : (ports : List Recorded) → AllByRecursion (λ p. (r : Record) → is_seen ports r ≡ false → is_seen_at r p ≡ false) ports
unseen_each ports = from ports (λ r none. none_of_any (λ (p : Recorded). is_seen_at r p) ports none) where
  from : (ps : List Recorded) → ((r : Record) → is_seen ports r ≡ false → AllByRecursion (λ p. is_seen_at r p ≡ false) ps)
      → AllByRecursion (λ p. (r : Record) → is_seen ports r ≡ false → is_seen_at r p ≡ false) ps
  from [] none = tt
  from (p ∷ ps) none = (λ r is. (none r is).0, from ps (λ r is. (none r is).1))

-- ---- fates of an account of which all is known

seen_allowed : FateMayBe → (t : Terms) (tolerance : ℕ) (seen : Record → Bool) (l : Levels) (rs : List Record) → l.least ≤ l.most → AllFit t (map judged rs)
    → Allowed t tolerance l (map judged rs) (fates_seen t tolerance seen l rs)
seen_allowed may t tolerance seen l [] order fit = tt
seen_allowed may t tolerance seen l (r ∷ rs) order fit =
    let now = credited t l r.stamp in
    let size = (judged r).size in
    let passes = fate_told (outlook_of t tolerance size now) (seen r) in
    let order_now : now.least ≤ now.most = omega (arith, order) in
    let one = may t tolerance size now (seen r) order_now in
    (one, seen_allowed may t tolerance seen (after t tolerance size passes now) rs (known_after t tolerance size now passes fit.0 order_now one) fit.1)

told_when_known : FateMayBe → AtRestIsTheAccount → (t : Terms) (seen : Record → Bool) (own : List Record) (fates : List Bool) → AllFit t (map judged own)
    → Allowed t 0 (at_rest t 0) (map judged own) fates → fates ≡ fates_seen t 0 seen (at_rest t 0) own
told_when_known may rest t seen own fates fit allowed =
    let told = fates_seen t 0 seen (at_rest t 0) own in
    (rest t (map judged own) fates fit).0 allowed ∙ sym ((rest t (map judged own) told fit).0 (seen_allowed may t 0 seen (at_rest t 0) own (omega arith) fit))

known_is_kept : FateMayBe → AtRestIsTheAccount → (t : Terms) (tolerance : ℕ) (l : Levels) (own : List Record) (fates : List Bool) (ports : List Recorded) → IsKnown t tolerance l own
    → Allowed t tolerance l (map judged own) fates → AllByRecursion (IsKeptBy own fates) ports → AllByRecursion (IsKeptBy own (fates_seen t tolerance (is_seen ports) l own)) ports
known_is_kept may rest t tolerance l own fates ports known allowed kept =
    let exactly = subst (λ (x : ℕ). Allowed t x (at_rest t 0) (map judged own) fates) known.exact
    (subst (λ (x : Levels). Allowed t tolerance x (map judged own) fates) known.full allowed) in
    let same = told_when_known may rest t (is_seen ports) own fates known.fit exactly
    ∙ ap (λ (x : Levels). fates_seen t 0 (is_seen ports) x own) (sym known.full)
    ∙ ap (λ (x : ℕ). fates_seen t x (is_seen ports) l own) (sym known.exact) in
    subst (λ (bs : List Bool). AllByRecursion (IsKeptBy own bs) ports) same kept

apart_is_kept : (t : Terms) (tolerance : ℕ) (l : Levels) (own : List Record) (fates : List Bool) (ports : List Recorded) → OwnInOrder own
    → AllByRecursion (IsClear own) ports → Allowed t tolerance l (map judged own) fates → AllByRecursion (IsKeptBy own fates) ports
    → AllByRecursion (IsKeptBy own (fates_seen t tolerance (is_seen ports) l own)) ports
apart_is_kept t tolerance l own fates ports order clear allowed kept =
    let told = fates_seen t tolerance (is_seen ports) l own in
    let goes = all_with (IsClear own) (IsKeptBy own fates) (Goes own fates) (λ p one two. goes_first own fates p one two) ports clear kept in
    let agrees = agree t tolerance ports l own fates allowed clear goes in
    all_with (λ p. (r : Record) → is_seen ports r ≡ false → is_seen_at r p ≡ false) (IsKeptBy own fates) (IsKeptBy own told) (λ p unseen k.
    let still = still_from ports p unseen own fates told k.before k.seen k.gone k.after k.out_is k.passed_is k.same_bytes k.in_bound k.to_come order agrees in
    record {
      before = k.before;
      seen = k.seen;
      gone = k.gone;
      after = still.after;
      out_is = k.out_is;
      passed_is = still.passed_is;
      same_bytes = k.same_bytes;
      in_bound = k.in_bound;
      from_before = k.from_before;
      of_none = k.of_none;
      to_come = still.to_come;
    }) ports (unseen_each ports) kept

pub told_fates_explain : FateMayBe → AtRestIsTheAccount → ToldFatesExplain
told_fates_explain may rest t tolerance l own fates ports order later told allowed kept =
    elim told [
      | inl apart ↦ apart_is_kept t tolerance l own fates ports order
          (all_with (LeaveLater own) (AreApart own) (IsClear own) (λ p one two. record { later = one; differ = two }) ports later apart) allowed kept
      | inr known ↦ known_is_kept may rest t tolerance l own fates ports known allowed kept
    ]

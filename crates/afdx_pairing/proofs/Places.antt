-- Where the records of a queue stand, by their bytes.
use Rattle.std.proofs.Common.{◌≡◌, ◌==◌, ℕ, zero, suc, ◌+◌, ◌-◌, ◌^◌, ◌≤◌, ◌<◌, nat_le, nat_lt, true, false, cond, List, [], ◌∷◌, ◌++◌, length, Option, Some, None}
use Rattle.std.proofs.Common.{Bool, refl, sym, ap, subst, ◌∙◌, arith, inl, inr}
use Rattle.std.specs.Bool.{OnTrue}
use Rattle.std.specs.Prelude.{slice_index_or, slice_get}
use Rattle.std.specs.List.{AllByRecursion, position, position_or_len, find}
use Rattle.std.specs.List.Sorted.{IsPartitionedBy, IsPartitionPoint}
use Rattle.std.specs.Option.{option_map_or}
use Rattle.std.specs.Ordering.{nat_cmp, is_eq}
use Rattle.std.specs.Str.{bytes_eq}
use Rattle.std.specs.Cmp.{eq_by_cmp_equiv}
use Rattle.std.specs.Cmp.Lexicographic.{slice_cmp, nat_list_cmp_total, nat_list_eq_equiv}
use Rattle.std.specs.Map.{lookup, IsKeyTest, AreApart, KeepsOthers}
use Rattle.std.specs.BTreeMap.{BTreeMap, get_by, UpdatesBy}
use Rattle.std.specs.declared.vec.Vec.{Vec}
use Rattle.std.specs.declared.collections.VecDeque.{VecDeque}
use Rattle.std.proofs.lemmas.Bool.{cases_Bool, eqb-true, ltb-true, ltb-false, le-leb, lt-leb, OnTrue_from}
use Rattle.std.proofs.lemmas.List.{append-nil, length-append}
use Rattle.std.proofs.lemmas.List.Folds.{find_at}
use Rattle.std.proofs.lemmas.List.Sorted.{IsPartitionedBy-ltb}
use Rattle.std.proofs.lemmas.List.Sums.{position_or_len_is}
use Rattle.std.proofs.lemmas.Map.Text.{is_eq-slice_cmp}
use Rattle.std.proofs.lemmas.Slice.Eq.{bytes_eq-Decides}
use Rattle.afdx_pairing.specs.declared.spots.Spot.{Spot}
use Rattle.afdx_pairing.specs.Events.{Numbered}
use Rattle.afdx_pairing.specs.Queue.{is_from}
use Rattle.afdx_pairing.specs.Inner.Queue.{spots_of, spots_at, Rise, AreInOrder, ComeInOrder, IsKeptQueue}
use Rattle.afdx_pairing.proofs.Firsts.{first_here, first_later, placed, not_placed}

-- ---- a map by bytes

apart : (bs cs ks : List ℕ) → bytes_eq bs cs ≡ false → is_eq (slice_cmp nat_cmp bs ks) ≡ true → is_eq (slice_cmp nat_cmp cs ks) ≡ false
apart bs cs ks n y = is_eq-slice_cmp cs ks ∙ nat_list_eq_equiv.symm cs ks ∙ sym (nat_list_eq_equiv.congr bs ks cs (sym (is_eq-slice_cmp bs ks) ∙ y)) ∙ n

others : {K X : Type 0} (eq : K → K → Bool) (test : K → Bool) (old new : List (K × X)) → KeepsOthers eq test old new
    → (other : K → Bool) → IsKeyTest eq other → AreApart test other → lookup other new ≡ lookup other old
unfolding KeepsOthers
others eq test old new h = h

-- what a map has at any bytes, where it was changed at some
pub changed : {Y Z : Type 0} (bs : List ℕ) (m n : BTreeMap (Vec ℕ Y) (VecDeque Spot Z)) (w : Option (VecDeque Spot Z))
    → UpdatesBy (λ (a b : Vec ℕ Y). slice_cmp nat_cmp a.items b.items) (λ (k : Vec ℕ Y). slice_cmp nat_cmp bs k.items) m n w
    → (cs : List ℕ) → spots_at n cs ≡ cond (bytes_eq bs cs) (option_map_or (λ q. q.items) w []) (spots_at m cs)
changed {Y} {Z} bs m n w h cs =
    elim (cases_Bool (bytes_eq bs cs)) [
      | inl same ↦ rw same (ap (λ (b : List ℕ). spots_at n b) (sym ((bytes_eq-Decides bs cs).0 same)) ∙ ap (λ (o : Option (VecDeque Spot Z)). option_map_or (λ q. q.items) o []) h.1)
      | inr differ ↦ rw differ (ap (λ (o : Option (VecDeque Spot Z)). option_map_or (λ q. q.items) o [])
          (others _ _ _ _ h.3 _ (λ x y. (eq_by_cmp_equiv nat_list_cmp_total).congr cs x.items y.items) (λ k. apart bs cs k.items differ)))
    ]

-- what stands at any bytes, where what stands at some was taken through f
pub replaced : {Y Z : Type 0} (f : List Spot → List Spot) (bs : List ℕ) (m n : BTreeMap (Vec ℕ Y) (VecDeque Spot Z)) (w : Option (VecDeque Spot Z))
    → UpdatesBy (λ (a b : Vec ℕ Y). slice_cmp nat_cmp a.items b.items) (λ (k : Vec ℕ Y). slice_cmp nat_cmp bs k.items) m n w
    → option_map_or (λ q. q.items) w [] ≡ f (spots_at m bs) → (cs : List ℕ) → spots_at n cs ≡ cond (bytes_eq bs cs) (f (spots_at m cs)) (spots_at m cs)
replaced {Y} {Z} f bs m n w h is cs =
    changed bs m n w h cs
    ∙ elim (cases_Bool (bytes_eq bs cs)) [
      | inl same ↦ rw same (is ∙ ap (λ (b : List ℕ). f (spots_at m b)) ((bytes_eq-Decides bs cs).0 same))
      | inr differ ↦ rw differ refl
    ]

always : {X : Type 0} (b : Bool) (x : X) → cond b x x ≡ x
always true x = refl
always false x = refl

joins : {X : Type 0} (b : Bool) (xs ys : List X) → cond b (xs ++ ys) xs ≡ xs ++ cond b ys []
joins true xs ys = refl
joins false xs ys = sym (append-nil xs)

-- where nothing was changed
pub left_alone : {Y Z : Type 0} (bs : List ℕ) (m n : BTreeMap (Vec ℕ Y) (VecDeque Spot Z)) (w : Option (VecDeque Spot Z))
    → UpdatesBy (λ (a b : Vec ℕ Y). slice_cmp nat_cmp a.items b.items) (λ (k : Vec ℕ Y). slice_cmp nat_cmp bs k.items) m n w
    → option_map_or (λ q. q.items) w [] ≡ spots_at m bs → (cs : List ℕ) → spots_at n cs ≡ spots_at m cs
left_alone bs m n w h is cs = replaced (λ ss. ss) bs m n w h is cs ∙ always (bytes_eq bs cs) (spots_at m cs)

-- and where some were added
pub added : {Y Z : Type 0} (bs : List ℕ) (more : List Spot) (m n : BTreeMap (Vec ℕ Y) (VecDeque Spot Z)) (w : Option (VecDeque Spot Z))
    → UpdatesBy (λ (a b : Vec ℕ Y). slice_cmp nat_cmp a.items b.items) (λ (k : Vec ℕ Y). slice_cmp nat_cmp bs k.items) m n w
    → option_map_or (λ q. q.items) w [] ≡ spots_at m bs ++ more → (cs : List ℕ) → spots_at n cs ≡ spots_at m cs ++ cond (bytes_eq bs cs) more []
added bs more m n w h is cs = replaced (λ ss. ss ++ more) bs m n w h is cs ∙ joins (bytes_eq bs cs) (spots_at m cs) more

-- where a list was put that was not there
pub put_first : {Y Z : Type 0} (bs ks : List ℕ) (s : Spot) (k m n : BTreeMap (Vec ℕ Y) (VecDeque Spot Z)) (q : VecDeque Spot Z) → ks ≡ bs → k ≡ m
    → None ≡ get_by (λ (x : Vec ℕ Y). slice_cmp nat_cmp bs x.items) m → q.items ≡ s ∷ []
    → UpdatesBy (λ (a b : Vec ℕ Y). slice_cmp nat_cmp a.items b.items) (λ (x : Vec ℕ Y). slice_cmp nat_cmp ks x.items) k n (Some q)
    → (cs : List ℕ) → spots_at n cs ≡ spots_at m cs ++ cond (bytes_eq bs cs) (s ∷ []) []
put_first {Y} {Z} bs ks s k m n q key at none is h cs =
    let here = subst (λ (xs : List ℕ). UpdatesBy (λ (a b : Vec ℕ Y). slice_cmp nat_cmp a.items b.items) (λ (x : Vec ℕ Y). slice_cmp nat_cmp xs x.items) k n (Some q)) key h in
    let from = subst (λ (o : BTreeMap (Vec ℕ Y) (VecDeque Spot Z)).
    UpdatesBy (λ (a b : Vec ℕ Y). slice_cmp nat_cmp a.items b.items) (λ (x : Vec ℕ Y). slice_cmp nat_cmp bs x.items) o n (Some q)) at here in
    added bs (s ∷ []) m n (Some q) from (is ∙ ap (λ (o : Option (VecDeque Spot Z)). option_map_or (λ p. p.items) o [] ++ s ∷ []) none) cs

nothing : {X : Type 0} (xs : List X) → length xs ≡ 0 → xs ≡ []
nothing [] none = refl
nothing (x ∷ xs) none = absurd (omega (arith, none))

-- whether none are left
pub none_left : {Y Z : Type 0} (bs : List ℕ) (n : BTreeMap (Vec ℕ Y) (VecDeque Spot Z)) (q : VecDeque Spot Z) (count : ℕ) (empty : Bool)
    → get_by (λ (x : Vec ℕ Y). slice_cmp nat_cmp bs x.items) n ≡ Some q → count ≡ length q.items → empty ≡ (count == 0) → OnTrue empty (spots_at n bs ≡ [])
none_left {Y} {Z} bs n q count empty get count_is is =
    OnTrue_from empty (spots_at n bs ≡ []) (λ yes.
    let zero_is : count ≡ 0 = eqb-true count 0 (sym is ∙ yes) in
    ap (λ (o : Option (VecDeque Spot Z)). option_map_or (λ p. p.items) o []) get ∙ nothing q.items (omega (arith, zero_is, count_is)))

-- ---- a search in a list that is in order

-- spots of records that come in order are in order
none_sooner : (b : List ℕ) (k at : ℕ) (ns : List Numbered) → AllByRecursion (λ n. at ≤ n.frame.stamp) ns → AllByRecursion (λ s. at ≤ s.stamp) (spots_of b k ns)
none_sooner b k at [] all = tt
none_sooner b k at (n ∷ ns) all =
    let rest = none_sooner b (k + 1) at ns all.1 in
    elim (cases_Bool (bytes_eq n.frame.bytes b)) [
      | inl same ↦ rw same (all.0, rest)
      | inr differ ↦ rw differ rest
    ]

pub in_order : (b : List ℕ) (k : ℕ) (ns : List Numbered) → ComeInOrder ns → AreInOrder (spots_of b k ns)
in_order b k [] all = tt
in_order b k (n ∷ ns) all =
    let rest = in_order b (k + 1) ns all.1 in
    elim (cases_Bool (bytes_eq n.frame.bytes b)) [
      | inl same ↦ rw same (none_sooner b (k + 1) n.frame.stamp ns all.0, rest)
      | inr differ ↦ rw differ rest
    ]

pub one_later : (ns : List Numbered) (n : Numbered) → ComeInOrder ns → AllByRecursion (λ other. other.frame.stamp ≤ n.frame.stamp) ns → ComeInOrder (ns ++ n ∷ [])
one_later [] n order last = (tt, tt)
one_later (x ∷ ns) n order last = (all_and_one ns order.0 last.0, one_later ns n order.1 last.1)
  where
    all_and_one : (ns : List Numbered) → AllByRecursion (λ other. x.frame.stamp ≤ other.frame.stamp) ns → x.frame.stamp ≤ n.frame.stamp
        → AllByRecursion (λ other. x.frame.stamp ≤ other.frame.stamp) (ns ++ n ∷ [])
    all_and_one [] all le = (le, tt)
    all_and_one (y ∷ ns) all le = (all.0, all_and_one ns all.1 le)

-- what rises is parted by any number
all_at : {X : Type 0} (f : X → ℕ) (at : ℕ) (xs : List X) (j : ℕ) (d : X) → AllByRecursion (λ x. at ≤ f x) xs → j < length xs → at ≤ f (slice_index_or xs j d)
all_at f at [] j d all lt = absurd (omega (arith, lt))
all_at f at (x ∷ xs) zero d all lt = all.0
all_at f at (x ∷ xs) (suc j) d all lt = all_at f at xs j d all.1 (omega (arith, lt))

rising : {X : Type 0} (f : X → ℕ) (xs : List X) → Rise f xs → (i j : ℕ) (d : X) → i ≤ j → j < length xs → f (slice_index_or xs i d) ≤ f (slice_index_or xs j d)
rising f [] order i j d le lt = absurd (omega (arith, lt))
rising f (x ∷ xs) order zero zero d le lt = omega arith
rising f (x ∷ xs) order zero (suc j) d le lt = all_at f (f x) xs j d order.0 (omega (arith, lt))
rising f (x ∷ xs) order (suc i) zero d le lt = absurd (omega (arith, le))
rising f (x ∷ xs) order (suc i) (suc j) d le lt = rising f xs order.1 i j d (omega (arith, le)) (omega (arith, lt))

pub are_parted : {X : Type 0} (f : X → ℕ) (at : ℕ) (xs : List X) → Rise f xs → IsPartitionedBy (λ x. nat_lt (f x) at) xs
are_parted f at xs order = IsPartitionedBy-ltb f xs at (rising f xs order)

pub sooner_counted : {X : Type 0} (f : X → ℕ) (d : X) (at : ℕ) (xs : List X) (i : ℕ) → i ≤ length xs
    → IsPartitionPoint (λ x. nat_lt (f x) at ≡ true) (λ x. nat_lt (f x) at ≡ false) xs i → i ≡ position_or_len (λ x. nat_le at (f x)) xs
sooner_counted f d at xs i most point =
    sym (position_or_len_is (λ x. nat_le at (f x)) xs i d most
    (λ k lt. lt-leb at (f (slice_index_or xs k d)) (ltb-true (f (slice_index_or xs k d)) at (point.0 k d (omega arith) lt)))
    (λ lt. le-leb at (f (slice_index_or xs i d)) (ltb-false (f (slice_index_or xs i d)) at (point.1 i d (omega arith) lt))))

pub nobody : Numbered
nobody = record { number = 0; frame = record { stamp = 0; original = 0; bytes = [] } }

pub nowhere : Spot
nowhere = record { stamp = 0; place = 0 }

pub spot_from : (from : ℕ) (ss : List Spot) (i : ℕ) → i ≤ length ss
    → IsPartitionPoint (λ s. nat_lt s.stamp from ≡ true) (λ s. nat_lt s.stamp from ≡ false) ss i → find (λ s. nat_le from s.stamp) ss ≡ slice_get ss i
spot_from from ss i most point =
    find_at (λ (s : Spot). nat_le from s.stamp) ss
    ∙ ap (λ (n : ℕ). slice_get ss n) (sym (sooner_counted (λ (s : Spot). s.stamp) nowhere from ss i most point))

-- ---- the first of those that have these bytes

abbrev spot : ℕ → ℕ → Spot
spot stamp place = record { stamp = stamp; place = place }

is_from_it : (b : List ℕ) (from : ℕ) (n : Numbered) → bytes_eq n.frame.bytes b ≡ true → nat_le from n.frame.stamp ≡ true → is_from b from n ≡ true
is_from_it b from n has is = rw (has, is) refl

is_too_soon : (b : List ℕ) (from : ℕ) (n : Numbered) → bytes_eq n.frame.bytes b ≡ true → nat_le from n.frame.stamp ≡ false → is_from b from n ≡ false
is_too_soon b from n has isnt = rw (has, isnt) refl

lacks_bytes : (b : List ℕ) (from : ℕ) (n : Numbered) → bytes_eq n.frame.bytes b ≡ false → is_from b from n ≡ false
lacks_bytes b from n lacks = rw lacks refl

pub spot_found : (b : List ℕ) (from k : ℕ) (ns : List Numbered) (s : Spot) → find (λ (other : Spot). nat_le from other.stamp) (spots_of b k ns) ≡ Some s
    → (k ≤ s.place) × (position_or_len (is_from b from) ns ≡ s.place - k) × (s.place - k < length ns)
spot_found b from k [] s found = cc
spot_found b from k (n ∷ ns) s found =
    elim (cases_Bool (bytes_eq n.frame.bytes b)) [
      | inl has ↦ elim (cases_Bool (nat_le from n.frame.stamp)) [
        | inl is ↦ (let same = rw (has, is) at found in
            let place : k ≡ s.place = ap (λ (o : Option Spot). option_map_or (λ (other : Spot). other.place) o 0) same in
            let first = first_here (is_from b from) n ns (is_from_it b from n has is) in
            (omega (arith, place), omega (arith, place, first), omega (arith, place)))
        | inr isnt ↦ (let rest = spot_found b from (k + 1) ns s (rw (has, isnt) at found) in
            let first = first_later (is_from b from) n ns (is_too_soon b from n has isnt) in
            (omega (arith, rest.0), omega (arith, rest.0, rest.1, first), omega (arith, rest.0, rest.2)))
      ]
      | inr lacks ↦ (let rest = spot_found b from (k + 1) ns s (rw lacks at found) in
          let first = first_later (is_from b from) n ns (lacks_bytes b from n lacks) in
          (omega (arith, rest.0), omega (arith, rest.0, rest.1, first), omega (arith, rest.0, rest.2)))
    ]

pub no_spot : (b : List ℕ) (from k : ℕ) (ns : List Numbered) → find (λ (other : Spot). nat_le from other.stamp) (spots_of b k ns) ≡ None
    → position_or_len (is_from b from) ns ≡ length ns
no_spot b from k [] none = refl
no_spot b from k (n ∷ ns) none =
    elim (cases_Bool (bytes_eq n.frame.bytes b)) [
      | inl has ↦ elim (cases_Bool (nat_le from n.frame.stamp)) [
        | inl is ↦ absurd (let same = rw (has, is) at none in cc)
        | inr isnt ↦ (let rest = no_spot b from (k + 1) ns (rw (has, isnt) at none) in
            omega (arith, rest, first_later (is_from b from) n ns (is_too_soon b from n has isnt)))
      ]
      | inr lacks ↦ (let rest = no_spot b from (k + 1) ns (rw lacks at none) in
          omega (arith, rest, first_later (is_from b from) n ns (lacks_bytes b from n lacks)))
    ]

-- one more is the last of those that have its bytes
pub one_more : (b : List ℕ) (k place : ℕ) (ns : List Numbered) (n : Numbered) → place ≡ k + length ns
    → spots_of b k (ns ++ n ∷ []) ≡ spots_of b k ns ++ cond (bytes_eq n.frame.bytes b) (spot n.frame.stamp place ∷ []) []
one_more b k place [] n is =
    let here : k ≡ place = omega (arith, is) in
    elim (cases_Bool (bytes_eq n.frame.bytes b)) [
      | inl has ↦ rw has (ap (λ (at : ℕ). spot n.frame.stamp at ∷ []) here)
      | inr lacks ↦ rw lacks refl
    ]
one_more b k place (x ∷ ns) n is =
    let rest = one_more b (k + 1) place ns n (omega (arith, is)) in
    elim (cases_Bool (bytes_eq x.frame.bytes b)) [
      | inl has ↦ rw has (ap (λ (ss : List Spot). spot x.frame.stamp k ∷ ss) rest)
      | inr lacks ↦ rw lacks rest
    ]

-- ---- what a queue keeps, and finds

-- with one more
pub kept_with_one : {Y Z : Type 0} (items more : List Numbered) (m n : BTreeMap (Vec ℕ Y) (VecDeque Spot Z)) (gone place : ℕ) (item : Numbered) (bs : List ℕ) (s : Spot)
    → IsKeptQueue items m gone → AllByRecursion (λ other. other.frame.stamp ≤ item.frame.stamp) items → place ≡ gone + length items → place + 1 < 2 ^ 64
    → bs ≡ item.frame.bytes → s ≡ spot item.frame.stamp place
    → ((b : List ℕ) → spots_at n b ≡ spots_at m b ++ cond (bytes_eq bs b) (s ∷ []) []) → more ≡ items ++ item ∷ [] → IsKeptQueue more n gone
kept_with_one items more m n gone place item bs s kept last at small bytes here spots is =
    rw is (record {
      in_order = one_later items item kept.in_order last;
      spots = λ b. spots b
          ∙ ap (λ (xs : List ℕ). spots_at m b ++ cond (bytes_eq xs b) (s ∷ []) []) bytes
          ∙ ap (λ (one : Spot). spots_at m b ++ cond (bytes_eq item.frame.bytes b) (one ∷ []) []) here
          ∙ ap (λ (ss : List Spot). ss ++ cond (bytes_eq item.frame.bytes b) (spot item.frame.stamp place ∷ []) []) (kept.spots b)
          ∙ sym (one_more b gone place items item at);
      counted = omega (arith, at, small, length-append items (item ∷ []));
    })

-- the first of those that have these bytes, by its spot
pub one_found : {Y Z : Type 0} (items now : List Numbered) (m : BTreeMap (Vec ℕ Y) (VecDeque Spot Z)) (gone : ℕ) (b : List ℕ) (from : ℕ) (s : Spot)
    → IsKeptQueue items m gone → items ≡ now → Some s ≡ find (λ (other : Spot). nat_le from other.stamp) (spots_at m b)
    → (gone ≤ s.place) × (Some (s.place - gone) ≡ position (is_from b from) now) × (s.place - gone < length now)
one_found items now m gone b from s kept same found =
    let at = spot_found b from gone items s (ap (λ (ss : List Spot). find (λ (other : Spot). nat_le from other.stamp) ss) (sym (kept.spots b)) ∙ sym found) in
    let place = sym (placed (is_from b from) items (s.place - gone) at.1 at.2) in
    (at.0, place ∙ ap (λ (ns : List Numbered). position (is_from b from) ns) same, subst (λ (ns : List Numbered). s.place - gone < length ns) same at.2)

pub none_found : {Y Z : Type 0} (items now : List Numbered) (m : BTreeMap (Vec ℕ Y) (VecDeque Spot Z)) (gone : ℕ) (b : List ℕ) (from : ℕ)
    → IsKeptQueue items m gone → items ≡ now → None ≡ find (λ (other : Spot). nat_le from other.stamp) (spots_at m b) → None ≡ position (is_from b from) now
none_found items now m gone b from kept same none =
    sym (not_placed (is_from b from) items (no_spot b from gone items (ap (λ (ss : List Spot). find (λ (other : Spot). nat_le from other.stamp) ss) (sym (kept.spots b)) ∙ sym none)))
    ∙ ap (λ (ns : List Numbered). position (is_from b from) ns) same

-- A copy is offered to one port of several, at its place.
use Rattle.std.proofs.Common.{◌≡◌, ℕ, zero, suc, ◌<◌, ◌==◌, ◌||◌, nat_eq, Bool, true, false, cond, List, [], ◌∷◌, length, map, get_or, set, slice_get, position, Option, Some, None, refl}
use Rattle.std.proofs.Common.{sym, ap, ◌∙◌, arith, subst, ⊎_elim, inl, inr}
use Rattle.std.specs.Prelude.{◌⊎◌, Result, Ok, Err, OnOk, IfSome}
use Rattle.std.specs.List.{IsDistinct}
use Rattle.std.specs.declared.vec.Vec.{Vec}
use Rattle.std.specs.Vec.{with_items}
use Rattle.std.proofs.lemmas.Bool.{cases_eq, cases_lt, eqb-true}
use Rattle.std.proofs.lemmas.Bool.Decides.{nat_tests}
use Rattle.std.proofs.lemmas.List.{length-map, length-set, get_or-map, with_items_is}
use Rattle.std.proofs.lemmas.List.Quantifiers.{position-Some}
use Rattle.std.proofs.lemmas.Map.Keys.{apart_from_distinct}
use Rattle.std.proofs.lemmas.Option.{same_Some, slice_get_within, slice_get-get_or, get_or_from_slice_get}
use Rattle.afdx_port.specs.declared.Item.{Item}
use Rattle.afdx_port.specs.declared.Offer.TheVariants.{Full}
use Rattle.afdx_port.specs.Content.{answer, offered}
use Rattle.afdx_core.proofs.Calls.{position_within}
use Rattle.afdx_core.proofs.Offering.{flip, find_of_position, none_of_position, found_none}
use Rattle.afdx_trace.specs.declared.shown.Shown.{Shown}
use Rattle.afdx_trace.specs.declared.traced_port.TracedPort.{TracedPort}
use Rattle.afdx_trace.specs.Inner.Lines.{HasGone}
use Rattle.afdx_trace.specs.Inner.Telling.{HasToldAll, HaveGone, IsOfferedTo, AreOffered, answer_by, answer_among}

-- ---- lists

pub set_same : {X : Type 0} (xs : List X) (i : ℕ) (x : X) → i < length xs → slice_get (set xs i x) i ≡ Some x
set_same [] i x lt = absurd (omega (arith, lt))
set_same (y ∷ xs) zero x lt = refl
set_same (y ∷ xs) (suc i) x lt = set_same xs i x (omega (arith, lt))

pub set_other : {X : Type 0} (xs : List X) (i k : ℕ) (x : X) → (k ≡ i → ⊥) → slice_get (set xs i x) k ≡ slice_get xs k
set_other [] i k x ne = refl
set_other (y ∷ xs) zero zero x ne = absurd (ne refl)
set_other (y ∷ xs) zero (suc k) x ne = refl
set_other (y ∷ xs) (suc i) zero x ne = refl
set_other (y ∷ xs) (suc i) (suc k) x ne = set_other xs i k x (λ e. ne (ap suc e))

-- a vector's items that were changed are those that it has then
pub back_into : {X Z : Type 0} (P : List X → Type 0) (v : Vec X Z) (xs : List X) → length xs ≡ length v.items → P xs → P (with_items v xs).items
back_into P v xs long it = subst P (sym (with_items_is v xs (long ∙ sym v.ok.0))) it

unequal : (a b c : ℕ) → nat_eq a b ≡ false → b ≡ c → (a == c) ≡ false
unequal a b c e f = let g : (a == b) ≡ false = grind (arith, nat_tests) in ap (λ n. a == n) (sym f) ∙ g

unequal' : (a b c : ℕ) → nat_eq b a ≡ false → b ≡ c → (a == c) ≡ false
unequal' a b c e f = let g : (a == b) ≡ false = grind (arith, nat_tests) in ap (λ n. a == n) (sym f) ∙ g

-- where keys differ, no other item has the key of the one at this place
apart : {X : Type 0} (key : X → ℕ) (xs : List X) (place k own : ℕ) (d : X) → IsDistinct nat_eq (map key xs) → place < length xs → k < length xs → (k ≡ place → ⊥) → key (get_or xs place d) ≡ own
    → (key (get_or xs k d) == own) ≡ false
apart key xs place k own d distinct plt klt ne is =
    let long : length (map key xs) ≡ length xs = length-map xs key in
    let at : (j : ℕ) → j < length xs → get_or (map key xs) j 0 ≡ key (get_or xs j d) = λ j lt. get_or-map key xs j d 0 lt in
    ⊎_elim
    (λ lt. let e = apart_from_distinct nat_eq (map key xs) k place 0 distinct lt (omega (arith, long, plt)) in
    ap (λ n. n == own) (sym (at k klt)) ∙ unequal (get_or (map key xs) k 0) (get_or (map key xs) place 0) own e (at place plt ∙ is))
    (λ le. let e = apart_from_distinct nat_eq (map key xs) place k 0 distinct (omega (arith, le, ne)) (omega (arith, long, klt)) in
    ap (λ n. n == own) (sym (at k klt)) ∙ unequal' (get_or (map key xs) k 0) (get_or (map key xs) place 0) own e (at place plt ∙ is))
    (cases_lt k place)

-- two facts at `Ok`
pub on_ok_both : {T E : Type 0} (r : Result T E) (P Q : Type 0) → OnOk r P → OnOk r Q → OnOk r (P × Q)
on_ok_both (Ok x) P Q p q = (p, q)
on_ok_both (Err e) P Q p q = tt

-- ---- ports

module _ {Z : Type 0} where
  abbrev pub is_port : ℕ → TracedPort Z → Bool
  is_port port o = o.row.id == port

  abbrev pub id_of : TracedPort Z → ℕ
  id_of o = o.row.id

  -- the port of a number, at a place
  pub record IsPortAt (port place : ℕ) (o : TracedPort Z) (os : List (TracedPort Z)) : Type 0 where
    pub at : position (is_port port) os ≡ Some place
    pub within : place < length os
    pub here : slice_get os place ≡ Some o
    pub own : o.row.id ≡ port

  pub port_at : (os : List (TracedPort Z)) (port place : ℕ) (d : TracedPort Z) → position (is_port port) os ≡ Some place → IsPortAt port place (get_or os place d) os
  port_at os port place d at = record {
    at = at;
    within = within;
    here = slice_get-get_or os place d within;
    own = eqb-true (get_or os place d).row.id port (position-Some (is_port port) os place d at).1;
  } where
    within : place < length os
    within = (position-Some (is_port port) os place d at).0

  pub found_within : (port : ℕ) (os : List (TracedPort Z)) (r : Option ℕ) → r ≡ position (is_port port) os → IfSome r (λ place. place < length os)
  found_within port os None is = tt
  found_within port os (Some place) is = position_within (is_port port) os place (sym is)

  -- the answer is that of the port at the place
  pub answer_some : (x : Item) (port place : ℕ) (o : TracedPort Z) (os : List (TracedPort Z)) → position (is_port port) os ≡ Some place → slice_get os place ≡ Some o
      → answer x o.flow.content ≡ answer_among x os port
  answer_some x port place o os at here =
      sym (ap (answer_by x) (find_of_position (is_port port) os place o at ∙ ap Some (get_or_from_slice_get os place o o here)))

  pub answer_none : (x : Item) (port : ℕ) (os : List (TracedPort Z)) → position (is_port port) os ≡ None → Full ≡ answer_among x os port
  answer_none x port os at = sym (ap (answer_by x) (none_of_position (is_port port) os at))

  -- a port that is not that of the number is offered nothing
  not_it : (shown : Shown) (x : Item) (port : ℕ) (q : TracedPort Z) → HasToldAll shown q → (q.row.id == port) ≡ false → IsOfferedTo shown x (port ∷ []) q q
  not_it shown x port q told off = record {
    row = refl;
    settings = refl;
    content = sym (ap (λ (b : Bool). cond (b || false) (offered x q.flow.content) q.flow.content) (flip port q.row.id ∙ off));
    told = told;
  }

  -- there is no port of the number
  pub none_offered_to : (shown : Shown) (x : Item) (port : ℕ) (os : List (TracedPort Z)) → ((k : ℕ) (q : TracedPort Z) → slice_get os k ≡ Some q → HasToldAll shown q)
      → position (is_port port) os ≡ None → AreOffered shown x (port ∷ []) os os
  none_offered_to shown x port os told none = record {
    many = refl;
    each = λ k q m here there. subst (λ (n : TracedPort Z). IsOfferedTo shown x (port ∷ []) q n) (same_Some q m (sym here ∙ there)) (not_it shown x port q (told k q here) (off k q here));
  } where
    off : (k : ℕ) (q : TracedPort Z) → slice_get os k ≡ Some q → (q.row.id == port) ≡ false
    off k q here =
        subst (λ (r : TracedPort Z). (r.row.id == port) ≡ false) (get_or_from_slice_get os k q q here)
        (found_none (is_port port) os k q (none_of_position (is_port port) os none) (slice_get_within os k q here))

  -- the port at the place was offered it
  pub one_offered : (shown : Shown) (x : Item) (port place : ℕ) (os : List (TracedPort Z)) (o n : TracedPort Z) → IsDistinct nat_eq (map id_of os)
      → ((k : ℕ) (q : TracedPort Z) → slice_get os k ≡ Some q → HasToldAll shown q) → position (is_port port) os ≡ Some place → slice_get os place ≡ Some o
      → n.row ≡ o.row → n.settings ≡ o.settings → n.flow.content ≡ offered x o.flow.content → HasToldAll shown n → AreOffered shown x (port ∷ []) os (set os place n)
  one_offered shown x port place os o n distinct told at own row settings content all = record {
    many = length-set os place n;
    each = λ k q m here there. by k q m here there (cases_eq k place);
  } where
    lt : place < length os
    lt = slice_get_within os place o own

    own_id : (d : TracedPort Z) → (get_or os place d).row.id ≡ port
    own_id d = eqb-true (get_or os place d).row.id port (position-Some (is_port port) os place d at).1

    is_own : (port == o.row.id) ≡ true
    is_own = flip port o.row.id ∙ subst (λ (r : TracedPort Z). (r.row.id == port) ≡ true) (get_or_from_slice_get os place o o own) (position-Some (is_port port) os place o at).1

    it : IsOfferedTo shown x (port ∷ []) o n
    it = record {
      row = row;
      settings = settings;
      content = content ∙ sym (ap (λ (b : Bool). cond (b || false) (offered x o.flow.content) o.flow.content) is_own);
      told = all;
    }

    by : (k : ℕ) (q m : TracedPort Z) → slice_get os k ≡ Some q → slice_get (set os place n) k ≡ Some m → (k ≡ place) ⊎ (k ≡ place → ⊥) → IsOfferedTo shown x (port ∷ []) q m
    by k q m here there (inl same) =
        let was : o ≡ q = same_Some o q (sym own ∙ ap (slice_get os) (sym same) ∙ here) in
        let is : n ≡ m = same_Some n m (sym (set_same os place n lt) ∙ ap (slice_get (set os place n)) (sym same) ∙ there) in
        subst (λ (r : TracedPort Z). IsOfferedTo shown x (port ∷ []) q r) is (subst (λ (r : TracedPort Z). IsOfferedTo shown x (port ∷ []) r n) was it)
    by k q m here there (inr ne) =
        let off = apart id_of os place k port q distinct lt (slice_get_within os k q here) ne (own_id q) in
        subst (λ (r : TracedPort Z). IsOfferedTo shown x (port ∷ []) q r) (same_Some q m (sym here ∙ sym (set_other os place k n ne) ∙ there))
        (not_it shown x port q (told k q here) (subst (λ (r : TracedPort Z). (r.row.id == port) ≡ false) (get_or_from_slice_get os k q q here) off))

-- its lines went to the file at its place
pub gone_one : {F Z : Type 0} (contents : F → Option (List ℕ)) (start now : List F) (os : List (TracedPort Z)) (place : ℕ) (f g : F) (o n : TracedPort Z) → slice_get now place ≡ Some f
    → slice_get os place ≡ Some o → ((first : F) → HasGone contents first f o.lines → HasGone contents first g n.lines) → HaveGone contents start now os
    → HaveGone contents start (set now place g) (set os place n)
gone_one {F} {Z} contents start now os place f g o n file own step have = record {
  many = have.many ∙ sym (length-set os place n);
  long = length-set now place g ∙ have.long ∙ sym (length-set os place n);
  each = λ k a b m first here there. by k a b m first here there (cases_eq k place);
} where
  by : (k : ℕ) (a b : F) (m : TracedPort Z) → slice_get start k ≡ Some a → slice_get (set now place g) k ≡ Some b → slice_get (set os place n) k ≡ Some m → (k ≡ place) ⊎ (k ≡ place → ⊥)
      → HasGone contents a b m.lines
  by k a b m first here there (inl same) =
      let begun : slice_get start place ≡ Some a = ap (slice_get start) (sym same) ∙ first in
      let now_is : g ≡ b = same_Some g b (sym (set_same now place g (slice_get_within now place f file)) ∙ ap (slice_get (set now place g)) (sym same) ∙ here) in
      let port_is : n ≡ m = same_Some n m (sym (set_same os place n (slice_get_within os place o own)) ∙ ap (slice_get (set os place n)) (sym same) ∙ there) in
      subst (λ (y : F). HasGone contents a y m.lines) now_is (subst (λ (q : TracedPort Z). HasGone contents a g q.lines) port_is (step a (have.each place a f o begun file own)))
  by k a b m first here there (inr ne) = have.each k a b m first (sym (set_other now place k g ne) ∙ here) (sym (set_other os place k n ne) ∙ there)

-- A copy is offered to the ports of its link, one after the other.
use Rattle.std.proofs.Common.{◌≡◌, ℕ, zero, suc, ◌+◌, ◌<◌, ◌≤◌, ◌==◌, ◌||◌, Bool, true, false, cond, nat_eq, List, [], ◌∷◌, ◌++◌, length, map, get_or, slice_get, position, Option, Some}
use Rattle.std.proofs.Common.{All, refl, sym, ap, ◌∙◌, arith, subst}
use Rattle.std.specs.Prelude.{find, take, filter}
use Rattle.std.specs.List.{IsDistinct}
use Rattle.std.proofs.lemmas.Bool.{eqb-true}
use Rattle.std.proofs.lemmas.List.Folds.{list_any-append}
use Rattle.std.proofs.lemmas.List.{length-take-le}
use Rattle.std.proofs.lemmas.List.Elements.{filter_more}
use Rattle.std.proofs.lemmas.Option.{same_Some}
use Rattle.afdx_table.specs.declared.rows.PortRow.{PortRow}
use Rattle.afdx_table.specs.Link.{names_port}
use Rattle.afdx_port.specs.declared.Item.{Item}
use Rattle.afdx_port.specs.declared.Offer.{Offer}
use Rattle.afdx_port.specs.Content.{Content as Port, answer, answers_full, offered}
use Rattle.afdx_core.proofs.Calls.{position-map}
use Rattle.afdx_trace.specs.declared.shown.Shown.{Shown}
use Rattle.afdx_trace.specs.declared.traced_port.TracedPort.{TracedPort}
use Rattle.afdx_trace.specs.Inner.Telling.{HasToldAll, CanBeOffered, IsOfferedTo, AreOffered, answer_by, answer_among, refused_among, PlacesAre}

-- a port is among none, among those before and one more, and not where its number is another
one_more : (id port : ℕ) (to : List ℕ) → names_port id (to ++ port ∷ []) ≡ (names_port id to || ((port == id) || false))
one_more id port to = list_any-append (λ (p : ℕ). p == id) to (port ∷ [])

or_false : (b : Bool) → (b || (false || false)) ≡ b
or_false true = refl
or_false false = refl

or_true : (b : Bool) → (b || (true || false)) ≡ true
or_true true = refl
or_true false = refl

filter_short : (p : ℕ → Bool) (xs : List ℕ) → length (filter p xs) ≤ length xs
filter_short p [] = omega arith
filter_short p (x ∷ xs) = by (p x) (filter_short p xs) where
  by : (b : Bool) → length (filter p xs) ≤ length xs → length (cond b (x ∷ filter p xs) (filter p xs)) ≤ suc (length xs)
  by true le = omega (arith, le)
  by false le = omega (arith, le)

module _ {Z : Type 0} (shown : Shown) (x : Item) where
  -- before the first
  pub none_offered : (os : List (TracedPort Z)) → ((k : ℕ) (o : TracedPort Z) → slice_get os k ≡ Some o → HasToldAll shown o) → AreOffered shown x [] os os
  none_offered os told = record {
    many = refl;
    each = λ k o n here there. same k o n here (same_Some o n (sym here ∙ there));
  } where
    same : (k : ℕ) (o n : TracedPort Z) → slice_get os k ≡ Some o → o ≡ n → IsOfferedTo shown x [] o n
    same k o n here is = subst (λ m. IsOfferedTo shown x [] o m) is (record { row = refl; settings = refl; content = refl; told = told k o here })

  -- a port that is not among those that were offered it is as it was
  untouched : (to : List ℕ) (o m : TracedPort Z) → IsOfferedTo shown x to o m → names_port o.row.id to ≡ false → m.flow.content ≡ o.flow.content
  untouched to o m is apart = is.content ∙ ap (λ (b : Bool). cond b (offered x o.flow.content) o.flow.content) apart

  -- one port more
  one_next : (to : List ℕ) (port : ℕ) (o m n : TracedPort Z) → names_port port to ≡ false → IsOfferedTo shown x to o m → IsOfferedTo shown x (port ∷ []) m n → IsOfferedTo shown x (to ++ port ∷ []) o n
  one_next to port o m n apart before now = record {
    row = now.row ∙ before.row;
    settings = now.settings ∙ before.settings;
    content = by (port == o.row.id) refl;
    told = now.told;
  } where
    later : n.flow.content ≡ cond ((port == o.row.id) || false) (offered x m.flow.content) m.flow.content
    later = now.content ∙ ap (λ (p : PortRow). cond ((port == p.id) || false) (offered x m.flow.content) m.flow.content) before.row

    by : (b : Bool) → (port == o.row.id) ≡ b → n.flow.content ≡ cond (names_port o.row.id (to ++ port ∷ [])) (offered x o.flow.content) o.flow.content
    by true is =
        let own : names_port o.row.id to ≡ false = ap (λ (id : ℕ). names_port id to) (sym (eqb-true port o.row.id is)) ∙ apart in
        later ∙ ap (λ (b : Bool). cond (b || false) (offered x m.flow.content) m.flow.content) is ∙ ap (offered x) (untouched to o m before own)
        ∙ sym (ap (λ (b : Bool). cond b (offered x o.flow.content) o.flow.content)
        (one_more o.row.id port to ∙ ap (λ (b : Bool). names_port o.row.id to || (b || false)) is ∙ or_true (names_port o.row.id to)))
    by false is =
        later ∙ ap (λ (b : Bool). cond (b || false) (offered x m.flow.content) m.flow.content) is ∙ before.content
        ∙ sym (ap (λ (b : Bool). cond b (offered x o.flow.content) o.flow.content)
        (one_more o.row.id port to ∙ ap (λ (b : Bool). names_port o.row.id to || (b || false)) is ∙ or_false (names_port o.row.id to)))

  there_at : (xs : List (TracedPort Z)) (k : ℕ) → k < length xs → (o : TracedPort Z) × (slice_get xs k ≡ Some o)
  there_at [] k lt = absurd (omega (arith, lt))
  there_at (o ∷ xs) zero lt = (o, refl)
  there_at (o ∷ xs) (suc k) lt = there_at xs k (omega (arith, lt))

  within : (xs : List (TracedPort Z)) (k : ℕ) (o : TracedPort Z) → slice_get xs k ≡ Some o → k < length xs
  within [] k o is = absurd (cc)
  within (y ∷ xs) zero o is = omega arith
  within (y ∷ xs) (suc k) o is = let lt = within xs k o is in omega (arith, lt)

  pub next_offered : (to : List ℕ) (port : ℕ) (old mid new : List (TracedPort Z)) → names_port port to ≡ false → AreOffered shown x to old mid → AreOffered shown x (port ∷ []) mid new
      → AreOffered shown x (to ++ port ∷ []) old new
  next_offered to port old mid new apart before now = record {
    many = now.many ∙ before.many;
    each = λ k o n here there.
        let m = there_at mid k (let lt = within old k o here in let same = before.many in omega (arith, lt, same)) in
        one_next to port o m.0 n apart (before.each k o m.0 here m.1) (now.each k m.0 n m.1 there);
  }

  -- the answer of a port that was not offered it yet
  pub answer_same : (to : List ℕ) (port : ℕ) (old mid : List (TracedPort Z)) → names_port port to ≡ false → AreOffered shown x to old mid → answer_among x mid port ≡ answer_among x old port
  answer_same to port [] [] apart are = refl
  answer_same to port [] (m ∷ mid) apart are = absurd (let long = are.many in omega (arith, long))
  answer_same to port (o ∷ old) [] apart are = absurd (let long = are.many in omega (arith, long))
  answer_same to port (o ∷ old) (m ∷ mid) apart are =
      ap (λ (b : Bool). answer_by x (cond b (Some m) (find (λ (q : TracedPort Z). q.row.id == port) mid))) (ap (λ (p : PortRow). p.id == port) first.row)
      ∙ by (o.row.id == port) refl (answer_same to port old mid apart rest) where
        first : IsOfferedTo shown x to o m
        first = are.each 0 o m refl refl

        rest : AreOffered shown x to old mid
        rest = record { many = (let long = are.many in omega (arith, long)); each = λ k a b here there. are.each (suc k) a b here there }

        by : (b : Bool) → (o.row.id == port) ≡ b → answer_among x mid port ≡ answer_among x old port
            → answer_by x (cond b (Some m) (find (λ (q : TracedPort Z). q.row.id == port) mid)) ≡ answer_by x (cond b (Some o) (find (λ (q : TracedPort Z). q.row.id == port) old))
        by true is others = ap (answer x) (untouched to o m first (ap (λ (id : ℕ). names_port id to) (eqb-true o.row.id port is) ∙ apart))
        by false is others = others

  -- it may still be offered to it
  pub can_still : (to : List ℕ) (port : ℕ) (old mid : List (TracedPort Z)) → names_port port to ≡ false → AreOffered shown x to old mid
      → ((k : ℕ) (o : TracedPort Z) → slice_get old k ≡ Some o → CanBeOffered shown x o) → (k : ℕ) (m : TracedPort Z) → slice_get mid k ≡ Some m → m.row.id ≡ port → CanBeOffered shown x m
  can_still to port old mid apart are can k m there own = record {
    told = is.told;
    still_open = ap (λ (c : Port). c.finished) same ∙ before.still_open;
    in_order = subst (λ (c : Port). c.horizon ≤ x.stamp) (sym same) before.in_order;
    numbered = subst (λ (c : Port). All (λ (other : Item). other.number < x.number) c.admitted) (sym same) before.numbered;
  } where
    o : (o : TracedPort Z) × (slice_get old k ≡ Some o)
    o = there_at old k (let lt = within mid k m there in let long = are.many in omega (arith, lt, long))

    is : IsOfferedTo shown x to o.0 m
    is = are.each k o.0 m o.1 there

    before : CanBeOffered shown x o.0
    before = can k o.0 o.1

    same : m.flow.content ≡ o.0.flow.content
    same = untouched to o.0 m is (ap (λ (id : ℕ). names_port id to) (sym (ap (λ (p : PortRow). p.id) is.row) ∙ own) ∙ apart)

  -- ---- where the ports are

  pub same_ids : (to : List ℕ) (old mid : List (TracedPort Z)) → AreOffered shown x to old mid → map (λ (o : TracedPort Z). o.row.id) mid ≡ map (λ (o : TracedPort Z). o.row.id) old
  same_ids to [] [] are = refl
  same_ids to [] (m ∷ mid) are = absurd (let long = are.many in omega (arith, long))
  same_ids to (o ∷ old) [] are = absurd (let long = are.many in omega (arith, long))
  same_ids to (o ∷ old) (m ∷ mid) are =
      ap (λ (p : PortRow). p.id ∷ map (λ (q : TracedPort Z). q.row.id) mid) (are.each 0 o m refl refl).row
      ∙ ap (λ (ids : List ℕ). o.row.id ∷ ids)
      (same_ids to old mid (record { many = (let long = are.many in omega (arith, long)); each = λ k a b here there. are.each (suc k) a b here there }))

  pub once_still : (to : List ℕ) (old mid : List (TracedPort Z)) → AreOffered shown x to old mid → IsDistinct nat_eq (map (λ (o : TracedPort Z). o.row.id) old)
      → IsDistinct nat_eq (map (λ (o : TracedPort Z). o.row.id) mid)
  once_still to old mid are once = subst (IsDistinct nat_eq) (sym (same_ids to old mid are)) once

  pub places_still : (to : List ℕ) (places : List (Option ℕ)) (old mid : List (TracedPort Z)) → AreOffered shown x to old mid → PlacesAre places old → PlacesAre places mid
  places_still to places old mid are before port =
      before port ∙ sym (position-map (λ (o : TracedPort Z). o.row.id) (λ (n : ℕ). n == port) old) ∙ ap (position (λ (n : ℕ). n == port)) (sym (same_ids to old mid are))
      ∙ position-map (λ (o : TracedPort Z). o.row.id) (λ (n : ℕ). n == port) mid

  -- each has told of all that it has carried out
  pub told_still : (to : List ℕ) (old mid : List (TracedPort Z)) → AreOffered shown x to old mid → (k : ℕ) (m : TracedPort Z) → slice_get mid k ≡ Some m → HasToldAll shown m
  told_still to old mid are k m there =
      let o = there_at old k (let lt = within mid k m there in let long = are.many in omega (arith, lt, long)) in
      (are.each k o.0 m o.1 there).told

  -- ---- those that refuse it

  pub refused_next : (ports : List (TracedPort Z)) (to : List ℕ) (k : ℕ) (a : Offer) → k < length to → a ≡ answer_among x ports (get_or to k 0)
      → refused_among x ports (take (k + 1) to) ≡ refused_among x ports (take k to) ++ cond (answers_full a) (get_or to k 0 ∷ []) []
  refused_next ports to k a lt is =
      filter_more (λ (port : ℕ). answers_full (answer_among x ports port)) to k 0 lt
      ∙ ap (λ (b : Offer). refused_among x ports (take k to) ++ cond (answers_full b) (get_or to k 0 ∷ []) []) (sym is)

  pub refused_few : (ports : List (TracedPort Z)) (to : List ℕ) (k : ℕ) → k ≤ length to → length (refused_among x ports (take k to)) ≤ k
  refused_few ports to k le =
      let few = filter_short (λ (port : ℕ). answers_full (answer_among x ports port)) (take k to) in
      let long = length-take-le k to le in
      omega (arith, few, long)

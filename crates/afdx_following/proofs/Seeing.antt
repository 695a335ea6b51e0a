-- Whether a record that waits may be of a frame.
use Rattle.std.proofs.Common.{◌≡◌, ℕ, ◌+◌, ◌*◌, ◌-◌, ◌<◌, nat_le, not, Bool, true, false, ◌&&◌, ◌||◌, List, [], ◌∷◌, length, refl, sym, ap, ◌∙◌, arith, inl, inr}
use Rattle.std.specs.List.{list_any}
use Rattle.std.specs.Str.{bytes_eq}
use Rattle.std.proofs.lemmas.Bool.{cases_Bool, leb-true, leb-false, ltb-true, ltb-false, le-leb, lt-leb}
use Rattle.std.proofs.lemmas.Slice.Eq.{bytes_eq-Decides}
use Rattle.afdx_units.specs.Line.{size_of, tick_of, cost_of}
use Rattle.afdx_pcap.specs.Record.{Record}
use Rattle.afdx_pairing.specs.declared.limits.Limits.{Limits}
use Rattle.afdx_pairing.specs.Events.{Numbered}
use Rattle.afdx_pairing.specs.Limits.{left_at, most_of, soonest, is_early, in_bound}
use Rattle.afdx_pairing.specs.Queue.{is_within}
use Rattle.afdx_following.specs.Output.{Output, has}

any_same : {X : Type 0} (p q : X → Bool) → ((x : X) → p x ≡ q x) → (xs : List X) → list_any p xs ≡ list_any q xs
any_same p q same [] = refl
any_same p q same (x ∷ xs) = ap (λ (b : Bool). b || list_any p xs) (same x) ∙ ap (λ (b : Bool). q x || b) (any_same p q same xs)

none_any : {X : Type 0} (p : X → Bool) → ((x : X) → p x ≡ false) → (xs : List X) → list_any p xs ≡ false
none_any p none [] = refl
none_any p none (x ∷ xs) = ap (λ (b : Bool). b || list_any p xs) (none x) ∙ none_any p none xs

bytes_turned : (bs cs : List ℕ) → bytes_eq bs cs ≡ bytes_eq cs bs
bytes_turned bs cs =
    elim (cases_Bool (bytes_eq bs cs)) [
      | inl same ↦ (let is : bs ≡ cs = (bytes_eq-Decides bs cs).0 same in
          same ∙ sym ((ap (λ (b : List ℕ). bytes_eq b bs) (sym is) ∙ ap (λ (b : List ℕ). bytes_eq bs b) is) ∙ same))
      | inr differ ↦ elim (cases_Bool (bytes_eq cs bs)) [
        | inl same ↦ absurd (let is : cs ≡ bs = (bytes_eq-Decides cs bs).0 same in
            let both = ap (λ (b : List ℕ). bytes_eq b cs) (sym is) ∙ ap (λ (b : List ℕ). bytes_eq cs b) is ∙ same in
            let never = sym differ ∙ both in cc)
        | inr other ↦ differ ∙ sym other
      ]
    ]

not_early : (m : Limits) (came left : Record) (first gap : ℕ) → gap ≡ m.gap * tick_of m.speed → first ≡ soonest m came - gap
    → nat_le first left.stamp ≡ not (is_early m came left)
not_early m came left first gap gap_is first_is =
    let edge = came.stamp + m.least + cost_of m.speed (size_of (length came.bytes)) in
    elim (cases_Bool (is_early m came left)) [
      | inl early ↦ (let sooner = ltb-true (left_at m left + m.tolerance) edge early in
          rw early (lt-leb first left.stamp (omega (arith, sooner, gap_is, first_is))))
      | inr isnt ↦ (let late = ltb-false (left_at m left + m.tolerance) edge isnt in
          rw isnt (le-leb first left.stamp (omega (arith, late, gap_is, first_is))))
    ]

in_time : (m : Limits) (came left : Record) (last gap : ℕ) → gap ≡ m.gap * tick_of m.speed → last + gap ≡ came.stamp + most_of m
    → nat_le left.stamp last ≡ nat_le (left_at m left) (came.stamp + most_of m)
in_time m came left last gap gap_is last_is =
    elim (cases_Bool (nat_le left.stamp last)) [
      | inl is ↦ (let le = leb-true left.stamp last is in is ∙ sym (le-leb (left_at m left) (came.stamp + most_of m) (omega (arith, le, gap_is, last_is))))
      | inr isnt ↦ (let past = leb-false left.stamp last isnt in isnt ∙ sym (lt-leb (left_at m left) (came.stamp + most_of m) (omega (arith, past, gap_is, last_is))))
    ]

-- by its bytes and two instants
pub seen_within : (frame : Numbered) (o : Output) (first last gap : ℕ) → gap ≡ o.limits.gap * tick_of o.limits.speed → first ≡ soonest o.limits frame.frame - gap
    → last + gap ≡ frame.frame.stamp + most_of o.limits → list_any (is_within frame.frame.bytes first last) o.waiting ≡ has frame o
seen_within frame o first last gap gap_is first_is last_is =
    any_same (is_within frame.frame.bytes first last) (λ n. in_bound o.limits frame.frame n.frame)
    (λ n.
    ap (λ (b : Bool). b && nat_le first n.frame.stamp && nat_le n.frame.stamp last) (bytes_turned n.frame.bytes frame.frame.bytes)
    ∙ ap (λ (b : Bool). bytes_eq frame.frame.bytes n.frame.bytes && b && nat_le n.frame.stamp last) (not_early o.limits frame.frame n.frame first gap gap_is first_is)
    ∙ ap (λ (b : Bool). bytes_eq frame.frame.bytes n.frame.bytes && not (is_early o.limits frame.frame n.frame) && b) (in_time o.limits frame.frame n.frame last gap gap_is last_is))
    o.waiting

and_false : (a b : Bool) → b ≡ false → (a && b) ≡ false
and_false true b isnt = isnt
and_false false b isnt = refl

-- none is where each leaves the gap past the last instant
pub none_seen : (frame : Numbered) (o : Output) (gap : ℕ) → gap ≡ o.limits.gap * tick_of o.limits.speed → frame.frame.stamp + most_of o.limits < gap → has frame o ≡ false
none_seen frame o gap gap_is short =
    none_any (λ n. in_bound o.limits frame.frame n.frame)
    (λ n. and_false (bytes_eq frame.frame.bytes n.frame.bytes && not (is_early o.limits frame.frame n.frame)) (nat_le (left_at o.limits n.frame) (frame.frame.stamp + most_of o.limits))
    (lt-leb (left_at o.limits n.frame) (frame.frame.stamp + most_of o.limits) (omega (arith, gap_is, short))))
    o.waiting

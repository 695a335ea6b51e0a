-- What was sent, with one copy more.
use Rattle.std.proofs.Common.{◌≡◌, ℕ, ◌==◌, true, false, cond, List, [], ◌∷◌, ◌++◌, map, ap, sym, ◌∙◌, subst, inl, inr}
use Rattle.std.specs.Prelude.{filter, Contains}
use Rattle.std.specs.List.{AllZip}
use Rattle.std.proofs.lemmas.Bool.{cases_Bool}
use Rattle.std.proofs.lemmas.List.{map-append, append-nil}
use Rattle.std.proofs.lemmas.List.Elements.{filter-append, Contains-append_left}
use Rattle.afdx_port.specs.declared.Sent.{Sent}
use Rattle.afdx_measure.specs.declared.delays.Delays.{Delays}
use Rattle.afdx_measure.specs.Delays.{summary_of}
use Rattle.afdx_wiring.specs.declared.layout.End.{End}
use Rattle.afdx_wiring.specs.File.{is_end}
use Rattle.afdx_network_check.specs.Net.{Network, Row}
use Rattle.afdx_origins.specs.declared.departure.Departure.{Departure}
use Rattle.afdx_origins.specs.Origins.{sent_from, of_link, Hop, CameOver, CameFirst, IsDelay, IsSummary}

-- ---- the copies of a link that a port sent

pub copies_more : (all : List Departure) (d : Departure) (link : ℕ) (e : End)
    → of_link link (sent_from (all ++ d ∷ []) e) ≡ of_link link (sent_from all e) ++ of_link link (sent_from (d ∷ []) e)
copies_more all d link e =
    let of_port = λ (x : Departure). is_end x.from e in
    let copy = λ (x : Departure). x.copy in
    let own = λ (x : Sent). x.item.link == link in
    ap (λ (xs : List Departure). of_link link (map copy xs)) (filter-append of_port all (d ∷ []))
    ∙ ap (of_link link) (map-append copy (filter of_port all) (filter of_port (d ∷ [])))
    ∙ filter-append own (sent_from all e) (sent_from (d ∷ []) e)

-- one more, or none
pub one_more : (d : Departure) (link : ℕ) (e : End) → is_end d.from e ≡ true → (d.copy.item.link == link) ≡ true → of_link link (sent_from (d ∷ []) e) ≡ d.copy ∷ []
one_more d link e here own =
    ap (λ b. of_link link (map (λ (x : Departure). x.copy) (cond b (d ∷ []) []))) here ∙ ap (λ b. cond b (d.copy ∷ []) []) own

pub none_there : (d : Departure) (link : ℕ) (e : End) → is_end d.from e ≡ false → of_link link (sent_from (d ∷ []) e) ≡ []
none_there d link e other = ap (λ b. of_link link (map (λ (x : Departure). x.copy) (cond b (d ∷ []) []))) other

pub none_own : (d : Departure) (link : ℕ) (e : End) → (d.copy.item.link == link) ≡ false → of_link link (sent_from (d ∷ []) e) ≡ []
none_own d link e other = elim (cases_Bool (is_end d.from e)) [
  | inl here ↦ ap (λ b. of_link link (map (λ (x : Departure). x.copy) (cond b (d ∷ []) []))) here ∙ ap (λ b. cond b (d.copy ∷ []) []) other
  | inr there ↦ none_there d link e there
]

-- ---- where frames came from

pub still_left : (all : List Departure) (d : Departure) (link : ℕ) (e : End) (x : Sent) → Contains (of_link link (sent_from all e)) x
    → Contains (of_link link (sent_from (all ++ d ∷ []) e)) x
still_left all d link e x has =
    subst (λ (xs : List Sent). Contains xs x) (sym (copies_more all d link e)) (Contains-append_left (of_link link (sent_from all e)) (of_link link (sent_from (d ∷ []) e)) x has)

still_over : (net : Network) (all : List Departure) (d : Departure) (r : Row) (x : Sent) (hops : List Hop) (first : ℕ) → CameOver net all r x hops first
    → CameOver net (all ++ d ∷ []) r x hops first
still_over net all d r x [] first h = h
still_over net all d r x (hop ∷ hops) first h =
    (h.0, h.1, still_left all d r.link.id hop.wire.from hop.copy h.2, h.3, still_over net all d hop.row hop.copy hops first h.4)

pub still_first : (net : Network) (all : List Departure) (d : Departure) (r : Row) (x : Sent) (first : ℕ) → CameFirst net all r x first → CameFirst net (all ++ d ∷ []) r x first
still_first net all d r x first h = (h.0, still_over net all d r x h.0 first h.1)

-- ---- delays

still_delays : (net : Network) (all : List Departure) (d : Departure) (link : ℕ) (e : End) (xs : List Sent) (ns : List ℕ) → AllZip (IsDelay net all link e) xs ns
    → AllZip (IsDelay net (all ++ d ∷ []) link e) xs ns
still_delays net all d link e [] [] h = tt
still_delays net all d link e [] (n ∷ ns) h = absurd h
still_delays net all d link e (x ∷ xs) [] h = absurd h
still_delays net all d link e (x ∷ xs) (n ∷ ns) h = (
  record { row = h.0.row; first = h.0.first; row_is = h.0.row_is; came = still_first net all d h.0.row x h.0.first h.0.came; delay_is = h.0.delay_is },
  still_delays net all d link e xs ns h.1,
)

zip_push : {X Y : Type 0} (R : X → Y → Type 0) (xs : List X) (ys : List Y) (x : X) (y : Y) → AllZip R xs ys → R x y → AllZip R (xs ++ x ∷ []) (ys ++ y ∷ [])
zip_push R [] [] x y h r = (r, tt)
zip_push R [] (b ∷ ys) x y h r = absurd h
zip_push R (a ∷ xs) [] x y h r = absurd h
zip_push R (a ∷ xs) (b ∷ ys) x y h r = (h.0, zip_push R xs ys x y h.1 r)

-- of a port of which no copy of the link is more
pub same_summary : (net : Network) (all : List Departure) (d : Departure) (link : ℕ) (e : End) (s : Delays) → of_link link (sent_from (d ∷ []) e) ≡ [] → IsSummary net all link e s
    → IsSummary net (all ++ d ∷ []) link e s
same_summary net all d link e s none h =
    let old = of_link link (sent_from all e) in
    let same = copies_more all d link e ∙ ap (λ (xs : List Sent). old ++ xs) none ∙ append-nil old in
    (h.0, subst (λ (xs : List Sent). AllZip (IsDelay net (all ++ d ∷ []) link e) xs h.0) (sym same) (still_delays net all d link e old h.0 h.1), h.2)

-- of one of which one is
pub more_summary : (net : Network) (all : List Departure) (d : Departure) (link : ℕ) (e : End) (s more : Delays) (n : ℕ) → of_link link (sent_from (d ∷ []) e) ≡ d.copy ∷ []
    → IsDelay net (all ++ d ∷ []) link e d.copy n → ((ns : List ℕ) → s ≡ summary_of ns → more ≡ summary_of (ns ++ n ∷ [])) → IsSummary net all link e s → IsSummary net (all ++ d ∷ []) link e more
more_summary net all d link e s more n one delay grows h =
    let old = of_link link (sent_from all e) in
    let same = copies_more all d link e ∙ ap (λ (xs : List Sent). old ++ xs) one in (
      h.0 ++ n ∷ [],
      subst (λ (xs : List Sent). AllZip (IsDelay net (all ++ d ∷ []) link e) xs (h.0 ++ n ∷ [])) (sym same)
          (zip_push (IsDelay net (all ++ d ∷ []) link e) old h.0 d.copy n (still_delays net all d link e old h.0 h.1) delay),
      grows h.0 h.2,
    )

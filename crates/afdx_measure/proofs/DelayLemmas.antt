-- The delays of copies, with one copy more.
use Rattle.std.proofs.Common.{◌≡◌, ◌≢◌, ℕ, ◌==◌, Bool, cond, List, [], ◌∷◌, ◌++◌}
use Rattle.std.proofs.Common.{map, refl, sym, ap, ◌∙◌, append-nil}
use Rattle.std.specs.Prelude.{filter}
use Rattle.std.proofs.lemmas.Bool.{eq-eqb, ne_eqb}
use Rattle.std.proofs.lemmas.List.{map-append}
use Rattle.std.proofs.lemmas.List.Elements.{filter-append}
use Rattle.afdx_port.specs.declared.Sent.{Sent}
use Rattle.afdx_measure.specs.Delays.{delay_of, delays_of}

-- ---- a copy more that was sent

with_copy : (link : ℕ) (sent : List Sent) (x : Sent) → delays_of link (sent ++ x ∷ []) ≡ delays_of link sent ++ map delay_of (cond (x.item.link == link) (x ∷ []) [])
with_copy link sent x =
    ap (map delay_of) (filter-append (λ (y : Sent). y.item.link == link) sent (x ∷ [])) ∙ map-append delay_of (filter (λ (y : Sent). y.item.link == link) sent) (cond (x.item.link ==
    link) (x ∷ []) [])

pub of_the_link : (sent : List Sent) (x : Sent) → delays_of x.item.link (sent ++ x ∷ []) ≡ delays_of x.item.link sent ++ delay_of x ∷ []
of_the_link sent x = with_copy x.item.link sent x ∙ ap (λ (b : Bool). delays_of x.item.link sent ++ map delay_of (cond b (x ∷ []) [])) (eq-eqb x.item.link x.item.link refl)

pub of_another : (link : ℕ) (sent : List Sent) (x : Sent) → link ≢ x.item.link → delays_of link (sent ++ x ∷ []) ≡ delays_of link sent
of_another link sent x h =
    with_copy link sent x ∙ ap (λ (b : Bool). delays_of link sent ++ map delay_of (cond b (x ∷ []) [])) (ne_eqb x.item.link link (λ e. h (sym e))) ∙ append-nil (delays_of link sent)

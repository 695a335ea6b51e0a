-- The delays that are kept are those of what was sent, also once one copy more is.
use Rattle.std.proofs.Common.{◌≡◌, ℕ, ◌==◌, true, List, [], ◌∷◌, ◌++◌, length, get_or, Some, ap, sym, ◌∙◌, subst, inl, inr}
use Rattle.std.specs.Prelude.{position}
use Rattle.std.proofs.lemmas.Bool.{cases_eq, eq-eqb, ne_eqb}
use Rattle.afdx_table.specs.Link.{Link}
use Rattle.afdx_measure.specs.declared.delays.Delays.{Delays}
use Rattle.afdx_measure.specs.Delays.{summary_of}
use Rattle.afdx_wiring.specs.declared.layout.End.{End}
use Rattle.afdx_wiring.specs.File.{is_end}
use Rattle.afdx_network_check.specs.Net.{Network}
use Rattle.afdx_origins.specs.declared.departure.Departure.{Departure}
use Rattle.afdx_origins.specs.declared.at_link.AtLink.{AtLink}
use Rattle.afdx_origins.specs.declared.at_switch.AtSwitch.{AtSwitch}
use Rattle.afdx_origins.specs.Origins.{sent_from, of_link, IsDelay, IsSummary}
use Rattle.afdx_origins.specs.Inner.Known.{IsRowAt, HaveDelays, KeepDelays, HaveDelayMore, HasMore, delays_in}
use Rattle.afdx_origins.proofs.Copies.{one_more, none_there, none_own, same_summary, more_summary}
use Rattle.afdx_origins.proofs.Rows.{one_place, one_row, one_number, two_ports, one_port, end_same, other_switch, other_port}

-- ---- the same delays

pub kept_delays : (net : Network) (all : List Departure) (old new : List AtSwitch) → KeepDelays old new → HaveDelays net all old → HaveDelays net all new
kept_delays net all old new keep h = record {
  ports = λ n place link l s a is. ap length (keep.delays n place s a) ∙ h.ports n place link l s a is;
  each = λ n place link port at l s a d is there.
      subst (λ (ds : List Delays). IsSummary net all link (record { switch = n; port = port }) (get_or ds at d)) (sym (keep.delays n place s a)) (h.each n place link port at l s a d is there);
}

-- ---- one more

module _ (net : Network) (all : List Departure) (d : Departure) (place port delay : ℕ) (l : Link) (old new : List AtSwitch)
    (own : IsRowAt net d.from.switch d.copy.item.link place l) (there : position (λ to. to == d.from.port) l.to ≡ Some port)
    (is_delay : IsDelay net (all ++ d ∷ []) d.copy.item.link d.from d.copy delay) (more : HaveDelayMore d.from.switch place port delay old new) (h : HaveDelays net all old) where
  -- at another switch
  elsewhere : (n k : ℕ) (s : AtSwitch) (a : AtLink) → (n ≡ d.from.switch → ⊥) → delays_in new s a n k ≡ delays_in old s a n k
  elsewhere n k s a differ = ap (λ (x : AtSwitch). (get_or x.links.items k a).delays.items) (more.others n s differ)

  -- of another link
  beside : (n k : ℕ) (s : AtSwitch) (a : AtLink) → n ≡ d.from.switch → (k ≡ place → ⊥) → delays_in new s a n k ≡ delays_in old s a n k
  beside n k s a same differ =
      subst (λ i. delays_in new s a i k ≡ delays_in old s a i k) (sym same) (ap (λ (x : AtLink). x.delays.items) ((more.here s).others k a differ))

  -- of the link
  here : (n k : ℕ) (s : AtSwitch) (a : AtLink) → n ≡ d.from.switch → k ≡ place → HasMore port delay (delays_in old s a n k) (delays_in new s a n k)
  here n k s a same place_same =
      subst (λ i. HasMore port delay (delays_in old s a i k) (delays_in new s a i k)) (sym same)
      (subst (λ i. HasMore port delay (delays_in old s a d.from.switch i) (delays_in new s a d.from.switch i)) (sym place_same) ((more.here s).here a))

  -- the copy is the port's own, or another one's
  no_switch : (n link p : ℕ) → (n ≡ d.from.switch → ⊥) → of_link link (sent_from (d ∷ []) (record { switch = n; port = p })) ≡ []
  no_switch n link p differ = none_there d link (record { switch = n; port = p }) (other_switch d.from n p (λ same. differ (sym same)))

  no_port : (n link p : ℕ) → (d.from.port ≡ p → ⊥) → of_link link (sent_from (d ∷ []) (record { switch = n; port = p })) ≡ []
  no_port n link p differ = none_there d link (record { switch = n; port = p }) (other_port d.from n p differ)

  no_link : (n link p : ℕ) → (d.copy.item.link ≡ link → ⊥) → of_link link (sent_from (d ∷ []) (record { switch = n; port = p })) ≡ []
  no_link n link p differ = none_own d link (record { switch = n; port = p }) (ne_eqb d.copy.item.link link differ)

  pub delayed_more : HaveDelays net (all ++ d ∷ []) new
  delayed_more = record { ports = ports; each = each } where
    ports : (n k link : ℕ) (m : Link) (s : AtSwitch) (a : AtLink) → IsRowAt net n link k m → length (delays_in new s a n k) ≡ length m.to
    ports n k link m s a is = elim (cases_eq n d.from.switch) [
      | inr other ↦ ap length (elsewhere n k s a other) ∙ h.ports n k link m s a is
      | inl same ↦ elim (cases_eq k place) [
        | inr differ ↦ ap length (beside n k s a same differ) ∙ h.ports n k link m s a is
        | inl at ↦ (here n k s a same at).long ∙ h.ports n k link m s a is
      ]
    ]

    stays : (n k link p at : ℕ) (m : Link) (s : AtSwitch) (a : AtLink) (x : Delays) → IsRowAt net n link k m → position (λ to. to == p) m.to ≡ Some at
        → get_or (delays_in new s a n k) at x ≡ get_or (delays_in old s a n k) at x → of_link link (sent_from (d ∷ []) (record { switch = n; port = p })) ≡ []
        → IsSummary net (all ++ d ∷ []) link (record { switch = n; port = p }) (get_or (delays_in new s a n k) at x)
    stays n k link p at m s a x is of_port same none =
        subst (λ (y : Delays). IsSummary net (all ++ d ∷ []) link (record { switch = n; port = p }) y) (sym same)
        (same_summary net all d link (record { switch = n; port = p }) (get_or (delays_in old s a n k) at x) none (h.each n k link p at m s a x is of_port))

    -- the port of the copy
    grows : (n k link p at : ℕ) (m : Link) (s : AtSwitch) (a : AtLink) (x : Delays) → n ≡ d.from.switch → k ≡ place → d.copy.item.link ≡ link → d.from.port ≡ p → at ≡ port
        → IsRowAt net n link k m → position (λ to. to == p) m.to ≡ Some at → IsSummary net (all ++ d ∷ []) link (record { switch = n; port = p }) (get_or (delays_in new s a n k) at x)
    grows n k link p at m s a x same place_same number port_same at_same is of_port =
        let e : End = record { switch = n; port = p } in
        let end : is_end d.from e ≡ true = end_same d.from n p (sym same) port_same in
        let one = one_more d link e end (eq-eqb d.copy.item.link link number) in
        let delay_is = subst (λ i. IsDelay net (all ++ d ∷ []) i e d.copy delay) number
        (subst (λ i. IsDelay net (all ++ d ∷ []) d.copy.item.link (record { switch = n; port = i }) d.copy delay) port_same
        (subst (λ i. IsDelay net (all ++ d ∷ []) d.copy.item.link (record { switch = i; port = d.from.port }) d.copy delay) (sym same) is_delay)) in
        more_summary net all d link e (get_or (delays_in old s a n k) at x) (get_or (delays_in new s a n k) at x) delay one delay_is
        (λ ns was. subst (λ i. get_or (delays_in new s a n k) i x ≡ summary_of (ns ++ delay ∷ [])) (sym at_same)
        ((here n k s a same place_same).here ns x (subst (λ i. get_or (delays_in old s a n k) i x ≡ summary_of ns) at_same was)))
        (h.each n k link p at m s a x is of_port)

    each : (n k link p at : ℕ) (m : Link) (s : AtSwitch) (a : AtLink) (x : Delays) → IsRowAt net n link k m → position (λ to. to == p) m.to ≡ Some at
        → IsSummary net (all ++ d ∷ []) link (record { switch = n; port = p }) (get_or (delays_in new s a n k) at x)
    each n k link p at m s a x is of_port = elim (cases_eq n d.from.switch) [
      | inr other ↦ stays n k link p at m s a x is of_port (ap (λ (ds : List Delays). get_or ds at x) (elsewhere n k s a other)) (no_switch n link p other)
      | inl same ↦ elim (cases_eq k place) [
        | inr differ ↦ stays n k link p at m s a x is of_port (ap (λ (ds : List Delays). get_or ds at x) (beside n k s a same differ))
            (no_link n link p (λ number. differ (one_place net d.from.switch d.copy.item.link k place m l (at_own n link k m same number is) own)))
        | inl place_same ↦
            let is_own : IsRowAt net d.from.switch link place m = subst (λ i. IsRowAt net i link place m) same (subst (λ i. IsRowAt net n link i m) place_same is) in
            let number : d.copy.item.link ≡ link = one_number net d.from.switch d.copy.item.link link place l m own is_own in
            let row : l ≡ m = one_row net d.from.switch d.copy.item.link link place l m own is_own in
            let at_there : position (λ to. to == d.from.port) m.to ≡ Some port = subst (λ (x : Link). position (λ to. to == d.from.port) x.to ≡ Some port) row there in
            elim (cases_eq at port) [
              | inl at_same ↦ grows n k link p at m s a x same place_same number
                  (one_port m.to d.from.port p port at_there (of_port ∙ ap Some at_same)) at_same is of_port
              | inr apart ↦ stays n k link p at m s a x is of_port ((here n k s a same place_same).others at x apart)
                  (no_port n link p (two_ports m.to d.from.port p port at at_there of_port (λ e. apart (sym e))))
            ]
      ]
    ] where
      at_own : (n link k : ℕ) (m : Link) → n ≡ d.from.switch → d.copy.item.link ≡ link → IsRowAt net n link k m → IsRowAt net d.from.switch d.copy.item.link k m
      at_own n link k m same number is = subst (λ i. IsRowAt net i d.copy.item.link k m) same (subst (λ i. IsRowAt net n i k m) (sym number) is)

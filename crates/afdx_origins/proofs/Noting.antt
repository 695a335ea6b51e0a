-- A copy is noted: all that is known stays right.
use Rattle.std.proofs.Common.{◌≡◌, ℕ, ◌-◌, ◌==◌, List, [], ◌∷◌, ◌++◌, length, get_or, slice_get, Some, refl, ap, sym, ◌∙◌, subst, arith, inl, inr}
use Rattle.std.specs.Prelude.{All, Contains, Vec, position}
use Rattle.std.specs.Vec.{with_items}
use Rattle.std.proofs.lemmas.Bool.{cases_eq, eq-eqb}
use Rattle.std.proofs.lemmas.List.{with_items_is}
use Rattle.std.proofs.lemmas.List.Elements.{Contains-append_right}
use Rattle.afdx_port.specs.declared.Sent.{Sent}
use Rattle.afdx_table.specs.Link.{Link}
use Rattle.afdx_table.specs.Content.{Content}
use Rattle.afdx_network_check.specs.Net.{Network}
use Rattle.afdx_origins.specs.declared.departure.Departure.{Departure}
use Rattle.afdx_origins.specs.declared.at_link.Coming.{Coming}
use Rattle.afdx_origins.specs.declared.at_link.AtLink.{AtLink}
use Rattle.afdx_origins.specs.declared.at_switch.AtSwitch.{AtSwitch}
use Rattle.afdx_origins.specs.Origins.{sent_from, of_link, CameFirst}
use Rattle.afdx_origins.specs.Inner.Known.{IsOnItsWay, IsRowAt, IsComing, AreComing, AreKnown, IsCarried, Leaves, KeepDelays, HaveDelayMore, HasDelay}
use Rattle.afdx_origins.proofs.Copies.{copies_more, one_more, still_first}
use Rattle.afdx_origins.proofs.Rows.{leads_there, end_same}
use Rattle.afdx_origins.proofs.Coming.{still_coming}
use Rattle.afdx_origins.proofs.Delaying.{kept_delays, delayed_more}
use Rattle.afdx_origins.proofs.Telling.{frames_stay, told_more}

-- the copy is one of those that its port sent
left_now : (all : List Departure) (d : Departure) → Contains (of_link d.copy.item.link (sent_from (all ++ d ∷ []) d.from)) d.copy
left_now all d =
    let link = d.copy.item.link in
    let one = one_more d link d.from (end_same d.from d.from.switch d.from.port refl refl) (eq-eqb link link refl) in
    subst (λ (xs : List Sent). Contains xs d.copy) (sym (copies_more all d link d.from))
    (Contains-append_right (of_link link (sent_from all d.from)) (of_link link (sent_from (d ∷ []) d.from)) d.copy (subst (λ (xs : List Sent). Contains xs d.copy) (sym one) (0, omega arith, refl)))

-- it leaves with the instant at which its frame had come first
pub leaves_now : (net : Network) (all : List Departure) (d : Departure) (place port first : ℕ) (l : Link) → IsRowAt net d.from.switch d.copy.item.link place l
    → position (λ to. to == d.from.port) l.to ≡ Some port → CameFirst net all (record { switch = d.from.switch; link = l }) d.copy first
    → Leaves net (all ++ d ∷ []) d.from d.copy.item.link d.copy.end first
leaves_now net all d place port first l own there came = record {
  copy = d.copy;
  row = record { switch = d.from.switch; link = l };
  left = left_now all d;
  end_is = refl;
  row_is = own.found;
  leads = leads_there l d.from.port port there;
  came = still_first net all d (record { switch = d.from.switch; link = l }) d.copy first came;
}

-- a delay that is noted changes nothing of the frames that are known
coming_stays : (net : Network) (all : List Departure) (switch place port delay : ℕ) (old new : List AtSwitch) → HaveDelayMore switch place port delay old new
    → AreComing net all old → AreComing net all new
coming_stays net all switch place port delay old new more h = record { many = more.many ∙ h.many; each = each } where
  each : (n : ℕ) (t : Content) (s : AtSwitch) → slice_get net.tables n ≡ Some t → IsComing net all n t (get_or new n s)
  each n t s there = elim (cases_eq n switch) [
    | inr other ↦ subst (IsComing net all n t) (sym (more.others n s other)) (h.each n t s there)
    | inl same ↦ subst (λ k. IsComing net all n t (get_or new k s)) (sym same) (here n t s same there)
  ] where
    here : (n : ℕ) (t : Content) (s : AtSwitch) → n ≡ switch → slice_get net.tables n ≡ Some t → IsComing net all n t (get_or new switch s)
    here n t s same there =
        let was : IsComing net all n t (get_or old switch s) = subst (λ k. IsComing net all n t (get_or old k s)) same (h.each n t s there) in
        let noted : HasDelay place port delay (get_or old switch s).links.items (get_or new switch s).links.items = more.here s in
        record {
          formed = was.formed;
          many = noted.long ∙ was.many;
          each = λ k l a is_link. subst (λ (cs : List Coming). All (IsOnItsWay net all (record { switch = n; link = l })) cs) (sym (stay k a noted)) (was.each k l a is_link);
        } where
          stay : (k : ℕ) (a : AtLink) → HasDelay place port delay (get_or old switch s).links.items (get_or new switch s).links.items
              → (get_or (get_or new switch s).links.items k a).coming.items ≡ (get_or (get_or old switch s).links.items k a).coming.items
          stay k a noted = elim (cases_eq k place) [
            | inr other ↦ ap (λ (x : AtLink). x.coming.items) (noted.others k a other)
            | inl at ↦ subst (λ i. (get_or (get_or new switch s).links.items i a).coming.items ≡ (get_or (get_or old switch s).links.items i a).coming.items) (sym at)
                (ap (λ c. c.items) (noted.coming a))
          ]

-- all that is known, with one copy more: the frame goes on its way, and then its delay is noted
pub known_more : (net : Network) (all : List Departure) (d : Departure) (place port first delay : ℕ) (l : Link) (old over new : List AtSwitch)
    → IsRowAt net d.from.switch d.copy.item.link place l → position (λ to. to == d.from.port) l.to ≡ Some port
    → CameFirst net all (record { switch = d.from.switch; link = l }) d.copy first → delay ≡ d.copy.end - first
    → (Leaves net (all ++ d ∷ []) d.from d.copy.item.link d.copy.end first → AreComing net (all ++ d ∷ []) old → AreComing net (all ++ d ∷ []) over)
    → (Leaves net (all ++ d ∷ []) d.from d.copy.item.link d.copy.end first → AreComing net (all ++ d ∷ []) old → IsCarried net (all ++ d ∷ []) d.from d.copy.item.link d.copy.end old over)
    → KeepDelays old over → HaveDelayMore d.from.switch place port delay over new → AreKnown net all old → AreKnown net (all ++ d ∷ []) new
known_more net all d place port first delay l old over new own there came is carried over_all keeps more known = record {
  coming = coming_stays net (all ++ d ∷ []) d.from.switch place port delay over new more
      (carried (leaves_now net all d place port first l own there came) (still_coming net all d old known.coming));
  delays = delayed_more net all d place port delay l over new own there (record {
    row = record { switch = d.from.switch; link = l };
    first = first;
    row_is = own.found;
    came = still_first net all d (record { switch = d.from.switch; link = l }) d.copy first came;
    delay_is = is;
  }) more (kept_delays net all old over keeps known.delays);
  told = told_more net all d old over new (frames_stay d.from.switch place port delay over new more)
      (over_all (leaves_now net all d place port first l own there came) (still_coming net all d old known.coming)) known.told;
}

-- what a list holds that was lent for a while
pub lent_back : {X Z : Type 0} (v : Vec X Z) (ws : List X) → length ws ≡ length v.items → (with_items v ws).items ≡ ws
lent_back v ws same = with_items_is v ws (same ∙ sym v.ok.0)

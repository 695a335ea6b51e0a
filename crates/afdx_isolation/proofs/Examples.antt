-- A port with a high and a low flow: the premises can be met, and what the laws speak of for three arrivals.
use Rattle.std.proofs.Common.{◌≡◌, ℕ, ◌<◌, ◌≤◌, [], ◌∷◌, refl, ap, sym, ◌∙◌, arith, zero, suc, get_or}
use Rattle.std.specs.Prelude.{All}
use Rattle.std.proofs.lemmas.List.Elements.{All-nil, All-cons}
use Rattle.afdx_units.specs.declared.bag.Bag.TheVariants.{Ms1}
use Rattle.afdx_units.specs.declared.line.Priority.TheVariants.{High, Low}
use Rattle.afdx_units.specs.declared.line.Speed.TheVariants.{Hundred}
use Rattle.afdx_account.specs.Policing.{byte_terms, byte_weight}
use Rattle.afdx_port.specs.declared.Settings.{Settings}
use Rattle.afdx_port.specs.declared.Item.{Item}
use Rattle.afdx_isolation.specs.Inner.Flow.{Flow, IsPaidFor, CarriesFlows, AreDistinct, bound, demand_of}
use Rattle.afdx_isolation.specs.Inner.Arrivals.{passed, feed_of, StampsDoNotFall}

-- a frame of 1000 bytes in each ms, and one of 500 bytes, policed by bytes, on a line of 100 Mbit/s
abbrev control : Flow
control = record { id = 1; terms = byte_terms 1000 Ms1 0; weight = byte_weight Ms1 Hundred; largest = 1000; priority = High }

abbrev bulk : Flow
bulk = record { id = 2; terms = byte_terms 500 Ms1 0; weight = byte_weight Ms1 Hundred; largest = 500; priority = Low }

abbrev port : Settings
port = record { speed = Hundred; buffer = 2989; max_delay = 175977; latency = 0 }

paid : All (IsPaidFor port) (control ∷ bulk ∷ [])
paid = All-cons (IsPaidFor port) control (bulk ∷ []) (record { pays = λ size le _. omega arith; credited = omega arith })
    (All-cons (IsPaidFor port) bulk [] (record { pays = λ size le _. omega arith; credited = omega arith }) (All-nil (IsPaidFor port)))

bounds : (bound (demand_of port (control ∷ bulk ∷ [])) High ≡ 146600) × (bound (demand_of port (control ∷ bulk ∷ [])) Low ≡ 175977)
bounds = (refl, refl)

-- the buffer is the least, and the greatest delay the low bound
carries : CarriesFlows port (control ∷ bulk ∷ [])
carries = record {
  rate = omega arith;
  buffer = omega arith;
  high = All-cons (λ (flow : Flow). flow.priority ≡ High → bound (demand_of port (control ∷ bulk ∷ [])) High ≤ 175977) control (bulk ∷ []) (λ _. omega arith)
      (All-cons (λ (flow : Flow). flow.priority ≡ High → bound (demand_of port (control ∷ bulk ∷ [])) High ≤ 175977) bulk [] (λ _. omega arith)
      (All-nil (λ (flow : Flow). flow.priority ≡ High → bound (demand_of port (control ∷ bulk ∷ [])) High ≤ 175977)));
  low = All-cons (λ (flow : Flow). flow.priority ≡ Low → bound (demand_of port (control ∷ bulk ∷ [])) Low ≤ 175977) control (bulk ∷ []) (λ _. omega arith)
      (All-cons (λ (flow : Flow). flow.priority ≡ Low → bound (demand_of port (control ∷ bulk ∷ [])) Low ≤ 175977) bulk [] (λ _. omega arith)
      (All-nil (λ (flow : Flow). flow.priority ≡ Low → bound (demand_of port (control ∷ bulk ∷ [])) Low ≤ 175977)));
}

apart : AreDistinct (control ∷ bulk ∷ [])
apart a b ia ib e = at ia.0 ib.0 ia.1 ib.1 ia.2 ib.2 where
  at : (i j : ℕ) → i < 2 → j < 2 → get_or (control ∷ bulk ∷ []) i a ≡ a → get_or (control ∷ bulk ∷ []) j b ≡ b → a ≡ b
  at zero zero li lj ea eb = sym ea ∙ eb
  at zero (suc zero) li lj ea eb = absurd (omega (arith, e, ap (λ (l : Flow). l.id) ea, ap (λ (l : Flow). l.id) eb))
  at (suc zero) zero li lj ea eb = absurd (omega (arith, e, ap (λ (l : Flow). l.id) ea, ap (λ (l : Flow). l.id) eb))
  at (suc zero) (suc zero) li lj ea eb = sym ea ∙ eb
  at (suc (suc i)) j li lj ea eb = absurd (omega (arith, li))
  at zero (suc (suc j)) li lj ea eb = absurd (omega (arith, lj))
  at (suc zero) (suc (suc j)) li lj ea eb = absurd (omega (arith, lj))

-- two frames of the high flow, the second too soon, one of the low flow between them, and one of a link that leads elsewhere
abbrev one : Item
one = record { number = 0; link = 1; stamp = 0; size = 1000; priority = High }

abbrev two : Item
two = record { number = 1; link = 2; stamp = 0; size = 500; priority = Low }

abbrev three : Item
three = record { number = 2; link = 1; stamp = 1; size = 1000; priority = High }

abbrev four : Item
four = record { number = 3; link = 9; stamp = 1; size = 64; priority = Low }

in_turn : StampsDoNotFall (one ∷ two ∷ three ∷ four ∷ [])
in_turn = (omega arith, (omega arith, (omega arith, (omega arith, tt))))

offered : feed_of (control ∷ bulk ∷ []) (one ∷ two ∷ three ∷ four ∷ []) ≡ one ∷ two ∷ []
offered = refl

passes : passed control (one ∷ two ∷ three ∷ four ∷ []) ≡ one ∷ []
passes = refl

-- Worked examples of the definitions, which compute.
use Rattle.std.proofs.Common.{◌≡◌, ℕ, List, [], ◌∷◌, refl}
use Rattle.std.specs.Prelude.{map}
use Rattle.afdx_units.specs.declared.line.Speed.TheVariants.{Hundred}
use Rattle.afdx_units.specs.declared.line.Priority.{Priority}
use Rattle.afdx_units.specs.declared.line.Priority.TheVariants.{High, Low}
use Rattle.afdx_port.specs.declared.Settings.{Settings}
use Rattle.afdx_port.specs.declared.Item.{Item}
use Rattle.afdx_port.specs.declared.Sent.{Sent}
use Rattle.afdx_port.specs.declared.Aged.{Aged}
use Rattle.afdx_port.specs.Service.{reach, next, others, service, sent_of, aged_of}
use Rattle.afdx_port.specs.Admission.{admitted}

settings : ℕ → ℕ → Settings
settings buffer max_delay = record { speed = Hundred; buffer = buffer; max_delay = max_delay; latency = 0 }

item : ℕ → ℕ → ℕ → Priority → Item
item number stamp size priority = record { number = number; link = 1; stamp = stamp; size = size; priority = priority }

-- number and end of what is sent; number and instant of what is discarded
ends : Settings → List Item → List (ℕ × ℕ)
ends s feed = map (λ (x : Sent). (x.item.number, x.end)) (sent_of (service s 0 (admitted s feed)))

discarded : Settings → List Item → List (ℕ × ℕ)
discarded s feed = map (λ (x : Aged). (x.item.number, x.at)) (aged_of (service s 0 (admitted s feed)))

-- a high frame overtakes a low one that came with it, but not the one that is being sent
high_overtakes : ends (settings 100000 500000000) (item 1 0 1518 Low ∷ item 2 1 64 Low ∷ item 3 1 64 High ∷ []) ≡ (1, 123040) ∷ (3, 129760) ∷ (2, 136480) ∷ []
unfolding ends settings item reach next others
high_overtakes = refl

high_at_the_instant_of_the_end : ends (settings 100000 500000000) (item 1 0 1518 Low ∷ item 2 1 64 Low ∷ item 3 123040 64 High ∷ []) ≡ (1, 123040) ∷ (3, 129760) ∷ (2, 136480) ∷ []
unfolding ends settings item reach next others
high_at_the_instant_of_the_end = refl

-- an arrival at the end of a frame finds its room free, one before it does not
buffer_at_the_end : ends (settings 1518 500000000) (item 1 0 1518 Low ∷ item 2 123040 1518 Low ∷ []) ≡ (1, 123040) ∷ (2, 246080) ∷ []
unfolding ends settings item reach next others
buffer_at_the_end = refl

buffer_before_the_end : ends (settings 1518 500000000) (item 1 0 1518 Low ∷ item 2 123039 1518 Low ∷ []) ≡ (1, 123040) ∷ []
unfolding ends settings item reach next others
buffer_before_the_end = refl

-- what is discarded at an instant still takes room from an arrival of that instant
buffer_beside_an_aged_item : ends (settings 1581 100000) (item 1 0 1517 Low ∷ item 2 0 64 Low ∷ item 3 122960 1518 Low ∷ []) ≡ (1, 122960) ∷ []
unfolding ends settings item reach next others
buffer_beside_an_aged_item = refl

aged_item_there : discarded (settings 1581 100000) (item 1 0 1517 Low ∷ item 2 0 64 Low ∷ item 3 122960 1518 Low ∷ []) ≡ (2, 122960) ∷ []
unfolding discarded settings item reach next others
aged_item_there = refl

buffer_after_an_aged_item : ends (settings 1581 100000) (item 1 0 1517 Low ∷ item 2 0 64 Low ∷ item 3 122961 1518 Low ∷ []) ≡ (1, 122960) ∷ (3, 246001) ∷ []
unfolding ends settings item reach next others
buffer_after_an_aged_item = refl

-- a wait equal to the greatest is sent, a longer one is discarded
age_at_the_edge : ends (settings 100000 100000) (item 1 0 1518 Low ∷ item 2 0 64 Low ∷ item 3 23040 64 Low ∷ []) ≡ (1, 123040) ∷ (3, 129760) ∷ []
unfolding ends settings item reach next others
age_at_the_edge = refl

age_past_the_edge : discarded (settings 100000 100000) (item 1 0 1518 Low ∷ item 2 0 64 Low ∷ item 3 23040 64 Low ∷ []) ≡ (2, 123040) ∷ []
unfolding discarded settings item reach next others
age_past_the_edge = refl

-- a buffer of 64 holds one frame of 64
port_of_switch_by_calls : ends (settings 64 500000) (item 1 0 64 Low ∷ item 2 0 64 Low ∷ []) ≡ (1, 6720) ∷ []
unfolding ends settings item reach next others
port_of_switch_by_calls = refl

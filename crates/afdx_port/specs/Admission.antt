-- Which items a port admits to its buffer (profile).
use Rattle.std.specs.Prelude.{ℕ, ◌+◌, ◌≤◌, ⊤, Bool, not, nat_lt, nat_le, if◌then◌else◌, List, [], ◌∷◌, ◌++◌, filter, sum_by}
use Rattle.afdx_port.specs.declared.Settings.{Settings}
use Rattle.afdx_port.specs.declared.Item.{Item}
use Rattle.afdx_port.specs.Service.{came, Event, sending, aging, item_of, service}

-- the item's room is free again for an arrival at t: its sending ended by t, or it was discarded before t
abbrev pub is_gone : ℕ → Event → Bool
is_gone t (sending s) = nat_le s.end t
is_gone t (aging a) = nat_lt a.at t

-- the bytes of those admitted that are not gone at t
abbrev pub occupied : Settings → ℕ → List Item → ℕ
occupied s t admitted = sum_by (λ event. (item_of event).size) (filter (λ event. not (is_gone t event)) (service s 0 admitted))

-- x fits beside those admitted before it
abbrev pub fits : Settings → List Item → Item → Bool
fits s admitted x = nat_le (x.size + occupied s (came s x) admitted) s.buffer

-- the admitted items after x was offered
abbrev pub admit : Settings → List Item → Item → List Item
admit s admitted x = if fits s admitted x then admitted ++ x ∷ [] else admitted

-- the admitted items after all of a feed was offered, one by one
abbrev pub admit_all : Settings → List Item → List Item → List Item
admit_all s admitted [] = admitted
admit_all s admitted (x ∷ feed) = admit_all s (admit s admitted x) feed

-- the items of a feed that are admitted
abbrev pub admitted : Settings → List Item → List Item
admitted s feed = admit_all s [] feed

-- each of these would fit beside those before it into so many bytes
abbrev pub AllFitIn : ℕ → Settings → List Item → List Item → Type 0
AllFitIn bytes s before [] = ⊤
AllFitIn bytes s before (x ∷ items) = (x.size + occupied s (came s x) before ≤ bytes) × AllFitIn bytes s (before ++ x ∷ []) items

-- each of these fits beside those before it
abbrev pub AllFit : Settings → List Item → List Item → Type 0
AllFit s before items = AllFitIn s.buffer s before items

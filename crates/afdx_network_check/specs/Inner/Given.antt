-- Jitters that rows are given, as the code gives them.
use Rattle.std.specs.Prelude.{◌*◌, nat_le, List, [], ◌∷◌, slice_get, slice_set, if◌then◌else◌}
use Rattle.std.specs.Option.{option_map_or}
use Rattle.afdx_table.specs.Link.{with_jitter}
use Rattle.afdx_table.specs.Content.{Content, link_place}
use Rattle.afdx_network_check.specs.declared.jitters.RowNeed.{RowNeed}

-- a table, with what the link of this number needs as its jitter
abbrev pub given_in : RowNeed → Content → Content
given_in n t = option_map_or (λ place. record t { links = with_jitter place (n.need * 1000) t.links }) (link_place t n.link) t

-- tables, of which that of the row's switch is changed so, if a table can have it
abbrev pub given : RowNeed → List Content → List Content
given n ts = if nat_le n.need 10000 then option_map_or (λ t. slice_set ts n.switch (given_in n t)) (slice_get ts n.switch) ts else ts

-- tables, each of whose rows here is given what it needs, one after another
abbrev pub given_all : List RowNeed → List Content → List Content
given_all [] ts = ts
given_all (n ∷ ns) ts = given_all ns (given n ts)

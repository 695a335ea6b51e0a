-- What is reported of a spell as text (profile): stamps and how early frames came in ns, in decimal.
use Rattle.std.specs.Prelude.{ℕ, codes, decimal, List, ◌++◌}
use Rattle.afdx_spells.specs.declared.spell.Spell.{Spell}

-- the line of a spell of this link: how many frames were policed, from when to when, and how early they came
abbrev pub spell_line : ℕ → Spell → List ℕ
spell_line link s = codes "link " ++ decimal link ++ codes " policed " ++ decimal s.count ++ codes " from " ++ decimal s.first ++ codes " to " ++ decimal s.last
    ++ codes " early " ++ decimal s.least ++ codes " to " ++ decimal s.greatest ++ codes "\n"

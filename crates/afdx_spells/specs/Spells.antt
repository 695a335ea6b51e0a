-- Spells of policing of a link (profile): its policed frames, parted wherever it kept to its allowance for more than one gap of its own.
use Rattle.std.specs.Prelude.{◌≡◌, ℕ, ◌+◌, ◌-◌, ◌≤◌, min, max, nat_le, Bool, false, if◌then◌else◌, List, [], ◌∷◌, length, map, flat_map, slice_get, Option, Some, None, IfSome}
use Rattle.std.specs.List.{fold}
use Rattle.afdx_spells.specs.declared.spell.Excess.{Excess}
use Rattle.afdx_spells.specs.declared.spell.Spell.{Spell}

-- a policed frame before those of some spells: it joins the first one if no more than a gap lies between the two, else it is a
-- spell by itself
abbrev pub before_all : ℕ → Excess → List (List Excess) → List (List Excess)
before_all gap x [] = (x ∷ []) ∷ []
before_all gap x ([] ∷ parts) = (x ∷ []) ∷ parts
before_all gap x ((y ∷ ys) ∷ parts) = if nat_le y.at (x.at + gap) then (x ∷ y ∷ ys) ∷ parts else (x ∷ []) ∷ (y ∷ ys) ∷ parts

-- a link's policed frames, spell by spell
abbrev pub parted : ℕ → List Excess → List (List Excess)
parted gap [] = []
parted gap (x ∷ frames) = before_all gap x (parted gap frames)

-- the stamp of the last of some frames that begin with one of this stamp
abbrev pub last_at : ℕ → List Excess → ℕ
last_at at [] = at
last_at at (x ∷ frames) = last_at x.at frames

-- what is reported of a spell that begins with x
abbrev pub spell_from : Excess → List Excess → Spell
spell_from x frames = record {
  count = length frames + 1;
  first = x.at;
  last = last_at x.at frames;
  least = fold min x.early (map (λ (y : Excess). y.early) frames);
  greatest = fold max x.early (map (λ (y : Excess). y.early) frames);
}

-- what is reported of some frames that are one spell; no spell is without a frame
abbrev pub spell_in : List Excess → List Spell
spell_in [] = []
spell_in (x ∷ frames) = spell_from x frames ∷ []

-- the spells of a link whose gap is so many ns and whose policed frames these are, in order
unfoldable pub spells_of : ℕ → List Excess → List Spell
spells_of gap frames = flat_map spell_in (parted gap frames)

-- the gap of a link in ns, and its spells so far
pub record Noted : Type 0 where
  pub gap : ℕ
  pub spells : List Spell

-- the last of some spells
abbrev pub last_of : List Spell → Option Spell
last_of spells = slice_get spells (length spells - 1)

-- a frame goes on with a spell, if there is one: at most a gap lies between that one's last frame and it
abbrev pub goes_on : ℕ → Option Spell → Excess → Bool
goes_on gap None x = false
goes_on gap (Some s) x = nat_le x.at (s.last + gap)

-- why a frame cannot be noted: if it goes on with the last spell, that one has 2^64 - 1 frames; else there may be no memory for its spell
abbrev pub HasNoRoom : Noted → Excess → Type 0
HasNoRoom n x = IfSome (last_of n.spells) (λ s. x.at ≤ s.last + n.gap → s.count ≡ 18446744073709551615)

-- The laws of spells: they are apart, and have all policed frames.
use Rattle.std.specs.Prelude.{ℕ, ◌+◌, ◌<◌, ◌≤◌, ◌≡◌, List, [], ◌∷◌, length, flat_map, sum_by}
use Rattle.afdx_spells.specs.declared.spell.Excess.{Excess}
use Rattle.afdx_spells.specs.declared.spell.Spell.{Spell}
use Rattle.afdx_spells.specs.Spells.{parted, last_at, spells_of}

-- after a frame of this stamp each of these comes at most a gap after the one before it
abbrev pub AreClose : ℕ → ℕ → List Excess → Type 0
AreClose gap at [] = Unit {0}
AreClose gap at (x ∷ frames) = (x.at ≤ at + gap) × AreClose gap x.at frames

-- the first of these spells begins more than a gap after this stamp
abbrev pub BeginsLater : ℕ → ℕ → List (List Excess) → Type 0
BeginsLater gap at [] = Unit {0}
BeginsLater gap at ([] ∷ parts) = ⊥
BeginsLater gap at ((x ∷ frames) ∷ parts) = at + gap < x.at

-- none of these spells is without a frame, each is close in itself, and apart from the next one
abbrev pub AreSpells : ℕ → List (List Excess) → Type 0
AreSpells gap [] = Unit {0}
AreSpells gap ([] ∷ parts) = ⊥
AreSpells gap ((x ∷ frames) ∷ parts) = AreClose gap x.at frames × BeginsLater gap (last_at x.at frames) parts × AreSpells gap parts

-- the parts of some policed frames are spells, and have all of them in their order
pub record HaveAll (gap : ℕ) (frames : List Excess) (parts : List (List Excess)) : Type 0 where
  pub all : flat_map (λ (part : List Excess). part) parts ≡ frames
  pub spells : AreSpells gap parts

-- however frames were policed, the parts that are made of them are spells
abbrev pub PartsAreSpells : Type 0
PartsAreSpells = (gap : ℕ) (frames : List Excess) → HaveAll gap frames (parted gap frames)

-- no other parts of policed frames are spells
abbrev pub SpellsAreUnique : Type 0
SpellsAreUnique = (gap : ℕ) (frames : List Excess) (parts : List (List Excess)) → HaveAll gap frames parts → parts ≡ parted gap frames

-- what is reported of spells counts each policed frame once
abbrev pub SpellsHaveAll : Type 0
SpellsHaveAll = (gap : ℕ) (frames : List Excess) → sum_by (λ (s : Spell). s.count) (spells_of gap frames) ≡ length frames

-- Trees of which something is to be kept.
use Rattle.std.proofs.Common.{◌≡◌, ◌⊎◌, ℕ, ◌<◌, List, [], ◌∷◌, length, Option, Ok, sym, subst, inl, inr, arith}
use Rattle.toml.specs.Data.{table, Members}
use Rattle.afdx_table.specs.declared.fault.At.TheVariants as place
use Rattle.afdx_table.specs.declared.fault.Key.{Key}
use Rattle.afdx_table.specs.declared.fault.Key.TheVariants as key
use Rattle.afdx_table.specs.Fields.{known_at, optional_number_at, optional_text_at}
use Rattle.afdx_table.specs.Top.{Top, all_keys, top_keys, version_from, constant_from, latency_from, top_at}
use Rattle.afdx_table.specs.Inner.Room.{head_at, HasItems, WantsRoom}
use Rattle.afdx_table.specs.Inner.Holds.{table_items, HasTables}
use Rattle.afdx_table.proofs.Steps.{answers}
use Rattle.afdx_table.proofs.Says.{tables_at-says}
use Rattle.afdx_table.proofs.TopSteps.{top_steps}

abbrev HasRows : Members → Type 0
HasRows ms = HasItems key.Port ms ⊎ HasItems key.Link ms

-- the head, step by step
pub wants : (ms : Members) (known known_there : Unit {0}) (stated : Option ℕ) (version : ℕ) (text : Option (List ℕ)) (constant : List ℕ) (stated_latency : Option ℕ) (latency_us : ℕ)
    → known_at place.Top all_keys ms ≡ Ok known → optional_number_at place.Top key.Version ms ≡ Ok stated → version_from stated ≡ Ok version → known_at place.Top (top_keys version) ms ≡ Ok known_there
    → optional_text_at place.Top key.Constant ms ≡ Ok text → constant_from text ≡ Ok constant → optional_number_at place.Top key.Latency ms ≡ Ok stated_latency
    → latency_from stated_latency ≡ Ok latency_us → HasRows ms → WantsRoom ms
unfolding head_at
wants ms known known_there stated version text constant stated_latency latency_us h1 h2 h3 h4 h5 h6 h7 h8 rows = (
  latency_us,
  answers (known_at place.Top all_keys ms) _ h1
      (answers (optional_number_at place.Top key.Version ms) _ h2
      (answers (version_from stated) _ h3
      (answers (known_at place.Top (top_keys version) ms) _ h4
      (answers (optional_text_at place.Top key.Constant ms) _ h5
      (answers (constant_from text) _ h6
      (answers (optional_number_at place.Top key.Latency ms) _ h7 h8)))))),
  rows,
)

has_first : (k : Key) (ms : Members) (tables : List Members) → HasTables ms k tables → 0 < length tables → HasItems k ms
has_first k ms [] has some = absurd (omega (arith, some))
has_first k ms (t ∷ tables) (inl none) some = absurd (let e = none.1 in cc)
has_first k ms (t ∷ tables) (inr is) some = (table t, table_items tables, is)

-- a top that was read, and has a port or a link
pub top_wants : (ms : Members) (top : Top) → top_at ms ≡ Ok top → (0 < length top.ports) ⊎ (0 < length top.links) → WantsRoom ms
top_wants ms top h some =
    let s = top_steps ms top h in
    let rows = has_rows ms s.ports s.links (tables_at-says place.Top key.Port ms s.ports s.reads_ports) (tables_at-says place.Top key.Link ms s.links s.reads_links)
    (subst (λ (u : Top). (0 < length u.ports) ⊎ (0 < length u.links)) (sym s.is_top) some) in
    wants ms tt tt s.stated_version s.version s.stated_constant s.constant s.stated_latency s.microseconds
    s.all_known s.reads_version s.gives_version s.known_there s.reads_constant s.gives_constant s.reads_latency s.gives_latency rows
  where
    has_rows : (ms : Members) (ports links : List Members) → HasTables ms key.Port ports → HasTables ms key.Link links → (0 < length ports) ⊎ (0 < length links) → HasRows ms
    has_rows ms ports links p l (inl some) = inl (has_first key.Port ms ports p some)
    has_rows ms ports links p l (inr some) = inr (has_first key.Link ms links l some)

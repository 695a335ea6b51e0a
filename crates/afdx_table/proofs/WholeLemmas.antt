-- What a whole text says whose links were read one by one.
use Rattle.std.proofs.Common.{◌≡◌, ℕ, ◌≤◌, Bool, true, false, ◌&&◌, List, [], ◌∷◌, length, nat_lt, Option, Some, None, is_some, option_map, String, Global, string_bytes, nat_cmp, Ok}
use Rattle.std.proofs.Common.{refl, sym, ap, ◌∙◌, inl, inr, arith}
use Rattle.std.proofs.lemmas.Bool.{cases_Bool}
use Rattle.std.proofs.lemmas.Bool.Decides.{nat_tests}
use Rattle.std.specs.Str.{IsUtf8}
use Rattle.std.specs.Cmp.Lexicographic.{slice_cmp}
use Rattle.std.specs.Map.{lookup}
use Rattle.std.specs.BTreeMap.{is_at}
use Rattle.toml.specs.Data.{Data, Members, no_members, member, as_table, get_member}
use Rattle.toml.specs.Parse.{parse_document}
use Rattle.toml.specs.View.{view, members_view}
use Rattle.toml.specs.declared.value.Value.{Value}
use Rattle.toml.proofs.Views.{view-lookup}
use Rattle.afdx_toml_split.specs.Joined.{link, joined, items_of, all_keys as every_key, HasLinks}
use Rattle.afdx_toml_split.specs.Laws.{LinksAreReadApart}
use Rattle.afdx_table.specs.declared.fault.At.{At}
use Rattle.afdx_table.specs.declared.fault.At.TheVariants as place
use Rattle.afdx_table.specs.declared.fault.Key.{Key}
use Rattle.afdx_table.specs.declared.fault.Key.TheVariants as key
use Rattle.afdx_table.specs.declared.rows.PortRow.{PortRow}
use Rattle.afdx_table.specs.Names.{key_text}
use Rattle.afdx_table.specs.Link.{Link}
use Rattle.afdx_table.specs.Fields.{are_known, is_one_of, known_at, all_of, tables_at, optional_number_at, optional_text_at}
use Rattle.afdx_table.specs.Top.{Top, all_keys, top_keys, version_from, constant_from, latency_from, at_most, top_at}
use Rattle.afdx_table.specs.Ports.{ports_from}
use Rattle.afdx_table.specs.Links.{links_from}
use Rattle.afdx_table.specs.Text.{content_of, tree_of, table_of}
use Rattle.afdx_table.specs.WellFormed.{IsWellFormed}
use Rattle.afdx_table.specs.Inner.Apart.{AreReadApart}
use Rattle.afdx_table.proofs.Steps.{answers}
use Rattle.afdx_table.proofs.TopSteps.{top_steps}
use Rattle.afdx_table.proofs.TextLemmas.{tree}
use Rattle.afdx_table.proofs.TableFormed.{parts-formed}

known_keys : (ks : List Key) (ms : Members) → every_key (is_one_of ks) ms ≡ are_known ks ms
known_keys ks no_members = refl
known_keys ks (member k d ms) = ap (λ rest. is_one_of ks k && rest) (known_keys ks ms)

-- the whole has no other keys, where the array's is one of these
known-whole : (at : At) (ks : List Key) (top : Members) (tables : List Members) (whole : Members) → HasLinks top tables whole → is_one_of ks link ≡ true → known_at at ks whole ≡ known_at at ks top
unfolding known_at
known-whole at ks top tables whole has is =
    let same : are_known ks whole ≡ are_known ks top = sym (known_keys ks whole) ∙ has.keys (is_one_of ks) ∙ rw is (known_keys ks top) in
    rw same refl

link_is_top : (version : ℕ) → is_one_of (top_keys version) link ≡ true
link_is_top version =
    elim (cases_Bool (nat_lt version 3)) [
      | inl early ↦ rw early refl
      | inr late ↦ rw late refl
    ]

all_tables : (tables : List Members) → all_of as_table (items_of tables) ≡ Some tables
all_tables [] = refl
all_tables (ms ∷ tables) = rw (all_tables tables) refl

number-whole : (k : Key) (top whole : Members) → get_member (key_text k) whole ≡ get_member (key_text k) top → optional_number_at place.Top k whole ≡ optional_number_at place.Top k top
unfolding optional_number_at
number-whole k top whole same = rw same refl

text-whole : (k : Key) (top whole : Members) → get_member (key_text k) whole ≡ get_member (key_text k) top → optional_text_at place.Top k whole ≡ optional_text_at place.Top k top
unfolding optional_text_at
text-whole k top whole same = rw same refl

ports-whole : (top whole : Members) → get_member (key_text key.Port) whole ≡ get_member (key_text key.Port) top → tables_at place.Top key.Port whole ≡ tables_at place.Top key.Port top
unfolding tables_at
ports-whole top whole same = rw same refl

links-whole : (top : Members) (tables : List Members) (whole : Members) → HasLinks top tables whole → tables_at place.Top key.Link whole ≡ Ok tables
unfolding tables_at
links-whole top tables whole has = rw (has.values link, all_tables tables) refl

few-whole : (tables : List Members) → length tables ≤ 4096 → at_most 4096 key.Link tables ≡ Ok tt
unfolding at_most
few-whole tables few = let none : nat_lt 4096 (length tables) ≡ false = grind (arith, nat_tests) in rw none refl

-- the top of the whole is that of the text before the links, with their tables
top-whole : (ms : Members) (tables : List Members) (whole : Members) (t : Top) → HasLinks ms tables whole → length tables ≤ 4096 → top_at ms ≡ Ok t → top_at whole ≡ Ok (record t { links = tables })
unfolding top_at
top-whole ms tables whole t has few h =
    let s = top_steps ms t h in
    answers (known_at place.Top all_keys whole) _ (known-whole place.Top all_keys ms tables whole has refl ∙ s.all_known)
    (answers (optional_number_at place.Top key.Version whole) _ (number-whole key.Version ms whole (has.values (key_text key.Version)) ∙ s.reads_version)
    (answers (version_from s.stated_version) _ s.gives_version
    (answers (known_at place.Top (top_keys s.version) whole) _ (known-whole place.Top (top_keys s.version) ms tables whole has (link_is_top s.version) ∙ s.known_there)
    (answers (optional_text_at place.Top key.Constant whole) _ (text-whole key.Constant ms whole (has.values (key_text key.Constant)) ∙ s.reads_constant)
    (answers (constant_from s.stated_constant) _ s.gives_constant
    (answers (optional_number_at place.Top key.Latency whole) _ (number-whole key.Latency ms whole (has.values (key_text key.Latency)) ∙ s.reads_latency)
    (answers (latency_from s.stated_latency) _ s.gives_latency
    (answers (tables_at place.Top key.Port whole) _ (ports-whole ms whole (has.values (key_text key.Port)) ∙ s.reads_ports)
    (answers (tables_at place.Top key.Link whole) _ (links-whole ms tables whole has)
    (answers (at_most 24 key.Port s.ports) _ s.few_ports
    (answers (at_most 4096 key.Link tables) _ (few-whole tables few) (ap (λ (u : Top). Ok (record u { links = tables })) s.is_top))))))))))))

is_absent : {A : Type 0} (f : A → Data) (o : Option A) → is_some o ≡ false → option_map f o ≡ None
is_absent f None none = refl
is_absent f (Some x) none = absurd (cc)

-- a key that a map lacks
pub lacks : (name : List ℕ) (es : List (String Global × Value)) (found : Bool) → found ≡ is_some (lookup (is_at (λ k. slice_cmp nat_cmp name (string_bytes k))) es) → found ≡ false
    → get_member name (members_view es) ≡ None
lacks name es found is none = sym (view-lookup name es) ∙ is_absent view _ (sym is ∙ none)

-- a text whose links were read one by one is the table that they make
pub read_by_links : (bytes head texts : List ℕ) (ms : Members) (t : Top) (ports : List PortRow) (links : List Link) → LinksAreReadApart → IsUtf8 bytes → bytes ≡ joined head (texts ∷ [])
    → parse_document head ≡ Some ms → get_member link ms ≡ None → top_at ms ≡ Ok t → ports_from t.version 0 [] t.ports ≡ Ok ports → AreReadApart t.version ports 0 [] texts links
    → (table_of bytes ≡ Ok (record { constant = t.constant; latency = t.latency; ports = ports; links = links }))
    × IsWellFormed (record { constant = t.constant; latency = t.latency; ports = ports; links = links })
unfolding table_of content_of
read_by_links bytes head texts ms t ports links law utf8 is parsed none top_read ports_read (this, more, first, tables, same, read, few, links_read) =
    let (whole, whole_parsed, has) = law head ms this more first tables parsed none read in
    let text : bytes ≡ joined head (this ∷ more) = is ∙ ap (λ x. joined head (x ∷ [])) same in
    let top = top-whole ms (first ∷ tables) whole t has (omega arith) top_read in
    let tree_read = tree bytes whole utf8 (ap parse_document text ∙ whole_parsed) in (
      answers (tree_of bytes) content_of tree_read
          (answers (top_at whole) _ top
          (answers (ports_from t.version 0 [] t.ports) _ ports_read
          (answers (links_from t.version ports 0 [] (first ∷ tables)) _ links_read refl))),
      parts-formed whole (record t { links = first ∷ tables }) ports links top ports_read links_read,
    )

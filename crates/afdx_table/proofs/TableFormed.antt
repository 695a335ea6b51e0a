-- A table is well formed.
use Rattle.std.proofs.Common.{◌≡◌, ℕ, ◌*◌, ◌%◌, ◌≤◌, nat_eq, List, [], ◌∷◌, length, slice_index, Option, Some, None, Result, Ok, Err, refl, sym, ◌∙◌, subst, inl, inr, arith}
use Rattle.std.specs.List.{IsDistinct}
use Rattle.std.proofs.lemmas.Bool.{cases_Bool}
use Rattle.std.proofs.lemmas.Bool.Decides.{nat_tests}
use Rattle.hex.specs.Hex.{decode_sized}
use Rattle.hex.specs.declared.error.FromHexError.{FromHexError}
use Rattle.hex.proofs.HexLemmas.{decode_sized-ok, decode_of-even, decode_sized-twice, decode_pairs-ok}
use Rattle.toml.specs.Data.{Members}
use Rattle.afdx_table.specs.declared.fault.At.TheVariants as place
use Rattle.afdx_table.specs.declared.fault.Key.{Key}
use Rattle.afdx_table.specs.declared.fault.Key.TheVariants as key
use Rattle.afdx_table.specs.declared.rows.PortRow.{PortRow}
use Rattle.afdx_table.specs.Link.{Link}
use Rattle.afdx_table.specs.Content.{Content}
use Rattle.afdx_table.specs.Top.{Top, group_address, constant_from, latency_from, at_most, top_at}
use Rattle.afdx_table.specs.Ports.{ports_from}
use Rattle.afdx_table.specs.Links.{links_from}
use Rattle.afdx_table.specs.Text.{content_of, tree_of, table_of}
use Rattle.afdx_table.specs.WellFormed.{IsWellFormed, TablesAreWellFormed}
use Rattle.afdx_table.proofs.Steps.{steps, ok_inside}
use Rattle.afdx_table.proofs.TopSteps.{top_steps}
use Rattle.afdx_table.proofs.PortsFormed.{bounded-within, ArePorts, ports_from-formed}
use Rattle.afdx_table.proofs.LinksFormed.{AreLinks, links_from-formed}

-- ---- the top

pub record IsConstant (bytes : List ℕ) : Type 0 where
  pub constant_length : length bytes ≡ 4
  pub constant_first : slice_index bytes 0 % 4 ≡ 3

group_address-formed : (r : Result (List ℕ) FromHexError) (bytes : List ℕ) → ((found : List ℕ) → r ≡ Ok found → length found ≡ 4) → group_address r ≡ Ok bytes → IsConstant bytes
group_address-formed (Err e) bytes sized h = absurd cc
group_address-formed (Ok []) bytes sized h = absurd cc
group_address-formed (Ok (b ∷ bs)) bytes sized h =
    elim (cases_Bool (nat_eq (b % 4) 3)) [
      | inr plain ↦ let g = rw plain at h in absurd cc
      | inl group ↦
          let same : (b ∷ bs) ≡ bytes = ok_inside (b ∷ bs) bytes (rw group at h) in
          let good : IsConstant (b ∷ bs) = record { constant_length = sized (b ∷ bs) refl; constant_first = grind (arith, nat_tests) } in
          subst IsConstant same good
    ]

four_bytes : (text found : List ℕ) → decode_sized text 4 ≡ Ok found → length found ≡ 4
four_bytes text found h =
    let eight : length text ≡ 2 * 4 = decode_sized-ok text 4 found h in
    let even : length text % 2 ≡ 0 = omega arith in
    let pairs = sym (decode_of-even text even) ∙ sym (decode_sized-twice text 4 eight) ∙ h in
    let twice = decode_pairs-ok 0 text found pairs in
    omega (arith, twice.1)

constant_from-formed : (stated : Option (List ℕ)) (bytes : List ℕ) → constant_from stated ≡ Ok bytes → IsConstant bytes
constant_from-formed None bytes h =
    let same : (3 ∷ 0 ∷ 0 ∷ 0 ∷ []) ≡ bytes = ok_inside (3 ∷ 0 ∷ 0 ∷ 0 ∷ []) bytes h in
    let good : IsConstant (3 ∷ 0 ∷ 0 ∷ 0 ∷ []) = record { constant_length = refl; constant_first = refl } in
    subst IsConstant same good
constant_from-formed (Some text) bytes h = group_address-formed (decode_sized text 4) bytes (four_bytes text) h

at_most-formed : (n : ℕ) (k : Key) (tables : List Members) (u : Unit {0}) → at_most n k tables ≡ Ok u → length tables ≤ n
unfolding at_most
at_most-formed n k tables u h = grind (arith, nat_tests)

latency_from-formed : (stated : Option ℕ) (us : ℕ) → latency_from stated ≡ Ok us → us ≤ 100
latency_from-formed None us h = let same : 0 ≡ us = ok_inside 0 us h in omega (arith, same)
latency_from-formed (Some n) us h = (bounded-within place.Top key.Latency 0 100 n us h).1

pub record IsTop (t : Top) : Type 0 where
  pub constant : IsConstant t.constant
  pub latency_most : t.latency ≤ 100000
  pub few_ports : length t.ports ≤ 24
  pub few_links : length t.links ≤ 4096

pub top_at-formed : (ms : Members) (t : Top) → top_at ms ≡ Ok t → IsTop t
top_at-formed ms t h =
    let s = top_steps ms t h in
    subst IsTop s.is_top (record {
      constant = constant_from-formed s.stated_constant s.constant s.gives_constant;
      latency_most = let most = latency_from-formed s.stated_latency s.microseconds s.gives_latency in omega (arith, most);
      few_ports = at_most-formed 24 key.Port s.ports tt s.few_ports;
      few_links = at_most-formed 4096 key.Link s.links tt s.few_links;
    })

-- ---- the whole

no_ports : ArePorts []
no_ports = record { limits = tt; rise = tt }

no_links : (ports : List PortRow) → AreLinks ports []
unfolding IsDistinct
no_links ports = record { limits = tt; distinct = tt }

pub few_ports-formed : (ms : Members) (t : Top) (ports : List PortRow) → top_at ms ≡ Ok t → ports_from t.version 0 [] t.ports ≡ Ok ports → length ports ≤ 24
few_ports-formed ms t ports h p = omega (arith, (top_at-formed ms t h).few_ports, (ports_from-formed t.version 0 [] t.ports ports no_ports p).1)

pub parts-formed : (ms : Members) (t : Top) (ports : List PortRow) (links : List Link) → top_at ms ≡ Ok t → ports_from t.version 0 [] t.ports ≡ Ok ports
    → links_from t.version ports 0 [] t.links ≡ Ok links → IsWellFormed (record { constant = t.constant; latency = t.latency; ports = ports; links = links })
parts-formed ms t ports links h p l =
    let top = top_at-formed ms t h in
    let all_ports = ports_from-formed t.version 0 [] t.ports ports no_ports p in
    let all_links = links_from-formed t.version ports 0 [] t.links links (no_links ports) l in
    record {
      constant_length = top.constant.constant_length;
      constant_first = top.constant.constant_first;
      latency_most = top.latency_most;
      few_ports = few_ports-formed ms t ports h p;
      ports = all_ports.0.limits;
      ports_rise = all_ports.0.rise;
      few_links = omega (arith, top.few_links, all_links.1);
      links = all_links.0.limits;
      links_distinct = all_links.0.distinct;
    }

pub content_of-formed : (ms : Members) (c : Content) → content_of ms ≡ Ok c → IsWellFormed c
unfolding content_of
content_of-formed ms c h =
    let s1 = steps (top_at ms) _ c h in
    let s2 = steps (ports_from s1.value.version 0 [] s1.value.ports) _ c s1.rest in
    let s3 = steps (links_from s1.value.version s2.value 0 [] s1.value.links) _ c s2.rest in
    let new : Content = record { constant = s1.value.constant; latency = s1.value.latency; ports = s2.value; links = s3.value } in
    subst IsWellFormed {x = new} (ok_inside new c s3.rest) (parts-formed ms s1.value s2.value s3.value s1.first s2.first s3.first)

pub table_of-formed : TablesAreWellFormed
unfolding table_of
table_of-formed bytes c h =
    let s = steps (tree_of bytes) content_of c h in
    content_of-formed s.value c s.rest

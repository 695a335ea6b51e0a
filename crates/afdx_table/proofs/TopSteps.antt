-- The top of a table, step by step.
use Rattle.std.proofs.Common.{◌≡◌, ℕ, ◌*◌, List, Option, Ok}
use Rattle.toml.specs.Data.{Members}
use Rattle.afdx_table.specs.declared.fault.At.TheVariants as place
use Rattle.afdx_table.specs.declared.fault.Key.TheVariants as key
use Rattle.afdx_table.specs.Fields.{known_at, optional_number_at, optional_text_at, tables_at}
use Rattle.afdx_table.specs.Top.{Top, all_keys, top_keys, version_from, constant_from, latency_from, at_most, top_at}
use Rattle.afdx_table.proofs.Steps.{steps, ok_inside}

-- what each step of reading a top gave, and that the top is of these
pub record TopSteps (ms : Members) (t : Top) : Type 0 where
  pub stated_version : Option ℕ
  pub version : ℕ
  pub stated_constant : Option (List ℕ)
  pub constant : List ℕ
  pub stated_latency : Option ℕ
  pub microseconds : ℕ
  pub ports : List Members
  pub links : List Members
  pub all_known : known_at place.Top all_keys ms ≡ Ok tt
  pub reads_version : optional_number_at place.Top key.Version ms ≡ Ok stated_version
  pub gives_version : version_from stated_version ≡ Ok version
  pub known_there : known_at place.Top (top_keys version) ms ≡ Ok tt
  pub reads_constant : optional_text_at place.Top key.Constant ms ≡ Ok stated_constant
  pub gives_constant : constant_from stated_constant ≡ Ok constant
  pub reads_latency : optional_number_at place.Top key.Latency ms ≡ Ok stated_latency
  pub gives_latency : latency_from stated_latency ≡ Ok microseconds
  pub reads_ports : tables_at place.Top key.Port ms ≡ Ok ports
  pub reads_links : tables_at place.Top key.Link ms ≡ Ok links
  pub few_ports : at_most 24 key.Port ports ≡ Ok tt
  pub few_links : at_most 4096 key.Link links ≡ Ok tt
  pub is_top : record { version = version; constant = constant; latency = microseconds * 1000; ports = ports; links = links } ≡ t

-- a top that was read went through each step
pub top_steps : (ms : Members) (t : Top) → top_at ms ≡ Ok t → TopSteps ms t
unfolding top_at
top_steps ms t h =
    let s1 = steps (known_at place.Top all_keys ms) _ t h in
    let s2 = steps (optional_number_at place.Top key.Version ms) _ t s1.rest in
    let s3 = steps (version_from s2.value) _ t s2.rest in
    let s4 = steps (known_at place.Top (top_keys s3.value) ms) _ t s3.rest in
    let s5 = steps (optional_text_at place.Top key.Constant ms) _ t s4.rest in
    let s6 = steps (constant_from s5.value) _ t s5.rest in
    let s7 = steps (optional_number_at place.Top key.Latency ms) _ t s6.rest in
    let s8 = steps (latency_from s7.value) _ t s7.rest in
    let s9 = steps (tables_at place.Top key.Port ms) _ t s8.rest in
    let s10 = steps (tables_at place.Top key.Link ms) _ t s9.rest in
    let s11 = steps (at_most 24 key.Port s9.value) _ t s10.rest in
    let s12 = steps (at_most 4096 key.Link s10.value) _ t s11.rest in
    record {
      stated_version = s2.value;
      version = s3.value;
      stated_constant = s5.value;
      constant = s6.value;
      stated_latency = s7.value;
      microseconds = s8.value;
      ports = s9.value;
      links = s10.value;
      all_known = s1.first;
      reads_version = s2.first;
      gives_version = s3.first;
      known_there = s4.first;
      reads_constant = s5.first;
      gives_constant = s6.first;
      reads_latency = s7.first;
      gives_latency = s8.first;
      reads_ports = s9.first;
      reads_links = s10.first;
      few_ports = s11.first;
      few_links = s12.first;
      is_top = ok_inside _ t s12.rest;
    }

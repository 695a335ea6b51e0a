-- A table in which one link has another jitter is as well formed.
use Rattle.std.proofs.Common.{◌≡◌, ℕ, zero, suc, ◌≤◌, nat_eq, List, [], ◌∷◌, map, length, refl, ap, subst, sym}
use Rattle.std.specs.List.{AllByRecursion, IsDistinct}
use Rattle.afdx_table.specs.declared.rows.PortRow.{PortRow}
use Rattle.afdx_table.specs.Link.{Link, with_jitter}
use Rattle.afdx_table.specs.Content.{Content}
use Rattle.afdx_table.specs.WellFormed.{IsLink, IsWellFormed}

pub ids_stay : (place jitter : ℕ) (links : List Link) → map (λ (l : Link). l.id) (with_jitter place jitter links) ≡ map (λ (l : Link). l.id) links
ids_stay place jitter [] = refl
ids_stay zero jitter (l ∷ links) = refl
ids_stay (suc place) jitter (l ∷ links) = ap (λ ids. l.id ∷ ids) (ids_stay place jitter links)

pub as_many : (place jitter : ℕ) (links : List Link) → length (with_jitter place jitter links) ≡ length links
as_many place jitter [] = refl
as_many zero jitter (l ∷ links) = refl
as_many (suc place) jitter (l ∷ links) = ap suc (as_many place jitter links)

other_jitter : (ports : List PortRow) (jitter : ℕ) (l : Link) → jitter ≤ 10000000 → IsLink ports l → IsLink ports (record l { jitter = jitter })
other_jitter ports jitter l most is = record {
  id_most = is.id_most;
  jitter_most = most;
  size_least = is.size_least;
  size_most = is.size_most;
  from_port = is.from_port;
  leads_out = is.leads_out;
  targets = is.targets;
}

all_links : (ports : List PortRow) (place jitter : ℕ) (links : List Link) → jitter ≤ 10000000 → AllByRecursion (IsLink ports) links → AllByRecursion (IsLink ports) (with_jitter place jitter links)
all_links ports place jitter [] most all = tt
all_links ports zero jitter (l ∷ links) most all = (other_jitter ports jitter l most all.0, all.1)
all_links ports (suc place) jitter (l ∷ links) most all = (all.0, all_links ports place jitter links most all.1)

pub still_formed : (c : Content) (place jitter : ℕ) → jitter ≤ 10000000 → IsWellFormed c → IsWellFormed (record c { links = with_jitter place jitter c.links })
still_formed c place jitter most is = record {
  constant_length = is.constant_length;
  constant_first = is.constant_first;
  latency_most = is.latency_most;
  few_ports = is.few_ports;
  ports = is.ports;
  ports_rise = is.ports_rise;
  few_links = subst (λ n. n ≤ 4096) (sym (as_many place jitter c.links)) is.few_links;
  links = all_links c.ports place jitter c.links most is.links;
  links_distinct = subst (IsDistinct nat_eq) (sym (ids_stay place jitter c.links)) is.links_distinct;
}

-- The links of a table are well formed.
use Rattle.std.proofs.Common.{◌≡◌, ◌≢◌, ℕ, ◌+◌, ◌*◌, ◌<◌, ◌≤◌, nat_eq, true, false, List, [], ◌∷◌, ◌++◌, map, length, Ok, refl, ap, subst, inl, inr, arith, append_assoc, length-append}
use Rattle.std.specs.List.{AllByRecursion, IsDistinct, list_any}
use Rattle.std.proofs.lemmas.List.{append-nil}
use Rattle.std.proofs.lemmas.Bool.{cases_Bool}
use Rattle.std.proofs.lemmas.Bool.Decides.{nat_tests}
use Rattle.toml.specs.Data.{Members}
use Rattle.afdx_table.specs.declared.fault.At.{At}
use Rattle.afdx_table.specs.declared.fault.At.TheVariants as place
use Rattle.afdx_table.specs.declared.fault.Key.TheVariants as key
use Rattle.afdx_table.specs.declared.fault.TableFault.TheVariants.{Range}
use Rattle.afdx_table.specs.declared.rows.PortRow.{PortRow}
use Rattle.afdx_table.specs.Link.{Link}
use Rattle.afdx_table.specs.Refusal.{or_refuse}
use Rattle.afdx_table.specs.Names.{bag_of, priority_of}
use Rattle.afdx_table.specs.Fields.{known_at, number_at, numbers_at, text_at, bounded_at, optional_text_at}
use Rattle.afdx_table.specs.Ports.{has_port}
use Rattle.afdx_table.specs.Links.{has_link, targets, link_keys, police_from, row_at, fitting, link_at, links_from}
use Rattle.afdx_table.specs.WellFormed.{AreTargets, IsLink}
use Rattle.afdx_table.proofs.Steps.{steps, ok_inside}
use Rattle.afdx_table.proofs.PortsFormed.{bounded_at-within}

-- ---- lists that grow at the end

pub all-push : {A : Type 0} (P : A → Type 0) (xs : List A) (x : A) → AllByRecursion P xs → P x → AllByRecursion P (xs ++ x ∷ [])
all-push P [] x h p = (p, tt)
all-push P (y ∷ xs) x h p = (h.0, all-push P xs x h.1 p)

differs-push : (y : ℕ) (xs : List ℕ) (x : ℕ) → AllByRecursion (λ z. nat_eq y z ≡ false) xs → nat_eq y x ≡ false → AllByRecursion (λ z. nat_eq y z ≡ false) (xs ++ x ∷ [])
differs-push y xs x h e = all-push (λ z. nat_eq y z ≡ false) xs x h e

-- none of these is x
abbrev pub IsNew : ℕ → List ℕ → Type 0
IsNew x xs = AllByRecursion (λ y. nat_eq y x ≡ false) xs

pub distinct-push : (xs : List ℕ) (x : ℕ) → IsDistinct nat_eq xs → IsNew x xs → IsDistinct nat_eq (xs ++ x ∷ [])
unfolding IsDistinct
distinct-push [] x h new = (tt, tt)
distinct-push (y ∷ xs) x h new = (differs-push y xs x h.0 new.0, distinct-push xs x h.1 new.1)

pub new-from_any : (x : ℕ) (xs : List ℕ) → list_any (λ q. nat_eq q x) xs ≡ false → IsNew x xs
new-from_any x [] h = tt
new-from_any x (y ∷ xs) h =
    elim (cases_Bool (nat_eq y x)) [
      | inl same ↦ let g = rw same at h in absurd cc
      | inr other ↦ let g = rw other at h in (other, new-from_any x xs g)
    ]

pub new-from_links : (id : ℕ) (links : List Link) → has_link links id ≡ false → IsNew id (map (λ l. l.id) links)
new-from_links id [] h = tt
new-from_links id (l ∷ links) h =
    elim (cases_Bool (nat_eq l.id id)) [
      | inl same ↦ let g = rw same at h in absurd cc
      | inr other ↦ let g = rw other at h in (other, new-from_links id links g)
    ]

-- ---- where a link leads

record NextTarget (at : At) (ports : List PortRow) (from : ℕ) (before : List ℕ) (p : ℕ) (rest : List ℕ) : Type 0 where
  is_port : has_port ports p ≡ true
  is_other : p ≢ from
  is_new : IsNew p before
  others : targets at ports from (before ++ p ∷ []) rest ≡ Ok tt

next_target : (at : At) (ports : List PortRow) (from : ℕ) (before : List ℕ) (p : ℕ) (rest : List ℕ) → targets at ports from before (p ∷ rest) ≡ Ok tt → NextTarget at ports from before p rest
unfolding targets
next_target at ports from before p rest h =
    elim (cases_Bool (has_port ports p)) [
      | inr none ↦ let g = rw none at h in absurd cc
      | inl there ↦
          let g1 = rw there at h in
          elim (cases_Bool (nat_eq p from)) [
            | inl own ↦ let g = rw own at g1 in absurd cc
            | inr other ↦
                let g2 = rw other at g1 in
                elim (cases_Bool (list_any (λ q. nat_eq q p) before)) [
                  | inl twice ↦ let g = rw twice at g2 in absurd cc
                  | inr new ↦ record { is_port = there; is_other = grind (arith, nat_tests); is_new = new-from_any p before new; others = rw new at g2 }
                ]
          ]
    ]

pub targets-formed : (at : At) (ports : List PortRow) (from : ℕ) (before rest : List ℕ) → AreTargets ports from before → targets at ports from before rest ≡ Ok tt
    → AreTargets ports from (before ++ rest)
targets-formed at ports from before [] good h = rw append-nil good
targets-formed at ports from before (p ∷ rest) good h =
    let next = next_target at ports from before p rest h in
    let more : AreTargets ports from (before ++ p ∷ []) = record {
      are_ports = all-push (λ q. has_port ports q ≡ true) before p good.are_ports next.is_port;
      are_others = all-push (λ q. q ≢ from) before p good.are_others next.is_other;
      once = distinct-push before p good.once next.is_new;
    } in
    let all = targets-formed at ports from (before ++ p ∷ []) rest more next.others in
    rw append_assoc at all

-- ---- a link's fields

pub record IsRow (l : Link) : Type 0 where
  pub id_most : l.id ≤ 65535
  pub jitter_most : l.jitter ≤ 10000000
  pub size_least : 64 ≤ l.max_size
  pub size_most : l.max_size ≤ 1518

in_nanos : (us : ℕ) → us ≤ 10000 → us * 1000 ≤ 10000000
in_nanos us h = omega arith

pub row_at-formed : (version : ℕ) (at : At) (ms : Members) (row : Link) → row_at version at ms ≡ Ok row → IsRow row
unfolding row_at
row_at-formed version at ms row h =
    let s1 = steps (known_at at (link_keys version) ms) _ row h in
    let s2 = steps (bounded_at at key.Id 0 65535 ms) _ row s1.rest in
    let s3 = steps (bounded_at at key.From 1 24 ms) _ row s2.rest in
    let s4 = steps (numbers_at at key.To 1 24 ms) _ row s3.rest in
    let s5 = steps (number_at at key.Bag ms) _ row s4.rest in
    let s6 = steps (or_refuse (Range at key.Bag) (bag_of s5.value)) _ row s5.rest in
    let s7 = steps (bounded_at at key.Jitter 0 10000 ms) _ row s6.rest in
    let s8 = steps (bounded_at at key.MaxSize 64 1518 ms) _ row s7.rest in
    let s9 = steps (text_at at key.Priority ms) _ row s8.rest in
    let s10 = steps (or_refuse (Range at key.Priority) (priority_of s9.value)) _ row s9.rest in
    let s11 = steps (optional_text_at at key.Police ms) _ row s10.rest in
    let s12 = steps (police_from at s11.value) _ row s11.rest in
    let new : Link = record { id = s2.value; from = s3.value; to = s4.value; bag = s6.value; jitter = s7.value * 1000; max_size = s8.value; priority = s10.value; police = s12.value } in
    let same : new ≡ row = ok_inside new row s12.rest in
    let id = bounded_at-within at key.Id 0 65535 ms s2.value s2.first in
    let jitter = bounded_at-within at key.Jitter 0 10000 ms s7.value s7.first in
    let size = bounded_at-within at key.MaxSize 64 1518 ms s8.value s8.first in
    let good : IsRow new = record { id_most = id.1; jitter_most = in_nanos s7.value jitter.1; size_least = size.0; size_most = size.1 } in
    subst IsRow {x = new} same good

-- ---- a link beside the others

pub record IsNewLink (ports : List PortRow) (before : List Link) (l : Link) : Type 0 where
  pub link : IsLink ports l
  pub is_new : has_link before l.id ≡ false

nonempty : (xs : List ℕ) → nat_eq (length xs) 0 ≡ false → 0 < length xs
nonempty xs h = grind (arith, nat_tests)

-- a link that fits is there once, comes in at a port of the table and leads to others of them
pub record Fits (at : At) (ports : List PortRow) (before : List Link) (row l : Link) : Type 0 where
  pub is_new : has_link before row.id ≡ false
  pub from_port : has_port ports row.from ≡ true
  pub leads_out : 0 < length row.to
  pub targets_fit : targets at ports row.from [] row.to ≡ Ok tt
  pub same : row ≡ l

pub fitting-fits : (at : At) (ports : List PortRow) (before : List Link) (row l : Link) → fitting at ports before row ≡ Ok l → Fits at ports before row l
unfolding fitting
fitting-fits at ports before row l h =
    elim (cases_Bool (has_link before row.id)) [
      | inl twice ↦ let g = rw twice at h in absurd cc
      | inr new ↦
          let g1 = rw new at h in
          elim (cases_Bool (has_port ports row.from)) [
            | inr none ↦ let g = rw none at g1 in absurd cc
            | inl there ↦
                let g2 = rw there at g1 in
                elim (cases_Bool (nat_eq (length row.to) 0)) [
                  | inl empty ↦ let g = rw empty at g2 in absurd cc
                  | inr some ↦
                      let g3 = rw some at g2 in
                      let s = steps (targets at ports row.from [] row.to) _ l g3 in
                      record { is_new = new; from_port = there; leads_out = nonempty row.to some; targets_fit = s.first; same = ok_inside row l s.rest }
                ]
          ]
    ]

pub fitting-formed : (at : At) (ports : List PortRow) (before : List Link) (row l : Link) → IsRow row → fitting at ports before row ≡ Ok l → IsNewLink ports before l
unfolding IsDistinct
fitting-formed at ports before row l fine h =
    let f = fitting-fits at ports before row l h in
    let none_yet : AreTargets ports row.from [] = record { are_ports = tt; are_others = tt; once = tt } in
    let good : IsNewLink ports before row = record {
      link = record {
        id_most = fine.id_most;
        jitter_most = fine.jitter_most;
        size_least = fine.size_least;
        size_most = fine.size_most;
        from_port = f.from_port;
        leads_out = f.leads_out;
        targets = targets-formed at ports row.from [] row.to none_yet f.targets_fit;
      };
      is_new = f.is_new;
    } in
    subst (IsNewLink ports before) f.same good

-- ---- all links

pub record AreLinks (ports : List PortRow) (links : List Link) : Type 0 where
  pub limits : AllByRecursion (IsLink ports) links
  pub distinct : IsDistinct nat_eq (map (λ l. l.id) links)

ids-push : (links : List Link) (l : Link) → map (λ (k : Link). k.id) (links ++ l ∷ []) ≡ map (λ (k : Link). k.id) links ++ l.id ∷ []
ids-push [] l = refl
ids-push (k ∷ links) l = ap (λ ids. k.id ∷ ids) (ids-push links l)

are_links-push : (ports : List PortRow) (links : List Link) (l : Link) → AreLinks ports links → IsNewLink ports links l → AreLinks ports (links ++ l ∷ [])
are_links-push ports links l good new = record {
  limits = all-push (IsLink ports) links l good.limits new.link;
  distinct = rw (ids-push links l) (distinct-push (map (λ k. k.id) links) l.id good.distinct (new-from_links l.id links new.is_new));
}

pub links_from-formed : (version : ℕ) (ports : List PortRow) (n : ℕ) (before : List Link) (tables : List Members) (links : List Link) → AreLinks ports before → links_from version ports n before tables
    ≡ Ok links → AreLinks ports links × (length links ≡ length before + length tables)
unfolding links_from link_at
links_from-formed version ports n before [] links good h =
    let same : before ≡ links = cc in
    (subst (AreLinks ports) same good, omega (arith, ap length same))
links_from-formed version ports n before (ms ∷ rest) links good h =
    let s = steps (link_at version (place.Link (n + 1)) ports before ms) _ links h in
    let t = steps (row_at version (place.Link (n + 1)) ms) (fitting (place.Link (n + 1)) ports before) s.value s.first in
    let new = fitting-formed (place.Link (n + 1)) ports before t.value s.value (row_at-formed version (place.Link (n + 1)) ms t.value t.first) t.rest in
    let all = links_from-formed version ports (n + 1) (before ++ s.value ∷ []) rest links (are_links-push ports before s.value good new) s.rest in
    (all.0, omega (arith, all.1, length-append before (s.value ∷ [])))

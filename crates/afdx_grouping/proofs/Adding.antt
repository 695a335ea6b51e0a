-- A group as its links come one by one.
use Rattle.std.proofs.Common.{◌≡◌, ℕ, ◌+◌, ◌<◌, ◌≤◌, arith, Bool, true, false, cond, List, [], ◌∷◌, ◌++◌, take, get_or, length, refl, sym, ap, ◌∙◌}
use Rattle.std.specs.Prelude.{filter}
use Rattle.std.proofs.lemmas.List.{append-nil}
use Rattle.std.proofs.lemmas.List.Elements.{filter-append, filter_more}
use Rattle.std.proofs.lemmas.List.Sums.{sum_by_push}
use Rattle.std.proofs.lemmas.List.Recursion.{max_push}
use Rattle.afdx_units.specs.declared.line.Speed.{Speed}
use Rattle.afdx_table.specs.declared.rows.PortRow.{PortRow}
use Rattle.afdx_table.specs.Link.{Link}
use Rattle.afdx_load.specs.Load.{is_high_link, rate_of, burst_of, greatest}
use Rattle.afdx_grouping.specs.Groups.{Asked, asked_by, Group, group_of, goes_over, group_at}
use Rattle.afdx_grouping.specs.Adding.{asked_with, group_with, group_added, IsSmall}

same_asked : (a a' b b' c c' : ℕ) → a ≡ a' → b ≡ b' → c ≡ c'
    → let s : Asked = record { burst = a; rate = b; largest = c } in let t : Asked = record { burst = a'; rate = b'; largest = c' } in s ≡ t
same_asked a a' b b' c c' p q r = cc

pub same_group : (a a' b b' : Asked) → a ≡ a' → b ≡ b' → let s : Group = record { all = a; high = b } in let t : Group = record { all = a'; high = b' } in s ≡ t
same_group a a' b b' p q = cc

asked_push : (here : Speed) (links : List Link) (l : Link) → asked_by here (links ++ l ∷ []) ≡ asked_with here l (asked_by here links)
asked_push here links l =
    same_asked _ _ _ _ _ _ (sum_by_push (burst_of here) links l) (sum_by_push (rate_of here) links l) (max_push (greatest (λ k. k.max_size)) (λ k. k.max_size) refl (λ _ _. refl) links l)

asked_some : (here : Speed) (links : List Link) (l : Link) (b : Bool) → asked_by here (links ++ cond b (l ∷ []) []) ≡ cond b (asked_with here l (asked_by here links)) (asked_by here links)
asked_some here links l true = asked_push here links l
asked_some here links l false = ap (asked_by here) (append-nil links)

group_push : (here : Speed) (links : List Link) (l : Link) → group_of here (links ++ l ∷ []) ≡ group_with here l (group_of here links)
group_push here links l =
    same_group _ _ _ _ (asked_push here links l)
    (ap (asked_by here) (filter-append is_high_link links (l ∷ [])) ∙ asked_some here (filter is_high_link links) l (is_high_link l))

group_some : (here : Speed) (links : List Link) (l : Link) (b : Bool) → group_of here (links ++ cond b (l ∷ []) []) ≡ cond b (group_with here l (group_of here links)) (group_of here links)
group_some here links l true = group_push here links l
group_some here links l false = ap (group_of here) (append-nil links)

-- one more link of the table
pub group_more : (links : List Link) (i : ℕ) (from : ℕ) (to : PortRow) (l : Link) (g next : Group) → i < length links → l ≡ get_or links i l → g ≡ group_at (take i links) from to
    → next ≡ group_added from to l g → next ≡ group_at (take (i + 1) links) from to
group_more links i from to l g next within is so_far added =
    added ∙ ap (group_added from to l) so_far ∙ ap (λ (k : Link). group_added from to k (group_at (take i links) from to)) is
    ∙ sym (ap (group_of to.speed) (filter_more (goes_over from to.id) links i l within)
    ∙ group_some to.speed (filter (goes_over from to.id) (take i links)) (get_or links i l) (goes_over from to.id (get_or links i l)))

-- fewer links' sums are smaller
pub less_small : (links more : ℕ) (g : Group) → links ≤ more → IsSmall links g → IsSmall more g
less_small links more g le small = record {
  all_burst = omega (arith, le, small.all_burst);
  all_rate = omega (arith, le, small.all_rate);
  high_burst = omega (arith, le, small.high_burst);
  high_rate = omega (arith, le, small.high_rate);
}

pub none_small : (here : Speed) (g : Group) → g ≡ group_of here [] → IsSmall 0 g
none_small here g is = record {
  all_burst = omega (arith, ap (λ (h : Group). h.all.burst) is);
  all_rate = omega (arith, ap (λ (h : Group). h.all.rate) is);
  high_burst = omega (arith, ap (λ (h : Group). h.high.burst) is);
  high_rate = omega (arith, ap (λ (h : Group). h.high.rate) is);
}

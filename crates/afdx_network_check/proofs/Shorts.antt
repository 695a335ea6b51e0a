-- Rows whose jitter is not enough, row by row and switch by switch.
use Rattle.std.proofs.Common.{◌≡◌, ◌≢◌, ℕ, ◌+◌, ◌<◌, List, [], ◌∷◌, ◌++◌, length, drop, get_or, Option, Some, None, Ok, Err, refl, ap, sym, subst, ◌∙◌, append_assoc}
use Rattle.std.specs.Prelude.{Result, option_to_list}
use Rattle.std.specs.List.{AllByRecursion}
use Rattle.afdx_table.specs.Link.{Link}
use Rattle.afdx_table.specs.Content.{Content}
use Rattle.afdx_wiring.specs.declared.fault.NetworkFault.{NetworkFault}
use Rattle.afdx_wiring.specs.declared.fault.NetworkFault.TheVariants as fault
use Rattle.afdx_wiring.specs.declared.fault.Short.{Short}
use Rattle.afdx_wiring.specs.Refusal.{◌>>=◌, Gives}
use Rattle.afdx_network_check.specs.Net.{Network, Row, row_in, rows_in, rows_from}
use Rattle.afdx_network_check.specs.Order.{added, short_at, shorts_in}
use Rattle.afdx_network_check.proofs.Chains.{next_row, next_rows}

-- what is found: rows, or a refusal
abbrev pub Found : Type 0
Found = Result (List Short) NetworkFault

-- ---- some after others

pub added_none : (found : Found) → added [] found ≡ found
added_none (Ok rest) = refl
added_none (Err e) = refl

added_more : (before here : List Short) (found : Found) → added before (added here found) ≡ added (before ++ here) found
added_more before here (Ok rest) = ap Ok (sym (append_assoc before here rest))
added_more before here (Err e) = refl

-- those of one part, and then those of the next
abbrev both : Found → Found → Found
both found next = found >>= λ here. added here next

added_both : (before : List Short) (found next : Found) → added before (both found next) ≡ both (added before found) next
added_both before (Ok here) next = added_more before here next
added_both before (Err e) next = refl

shorts_append : (net : Network) (xs ys : List Row) → shorts_in net (xs ++ ys) ≡ both (shorts_in net xs) (shorts_in net ys)
shorts_append net [] ys = sym (added_none (shorts_in net ys))
shorts_append net (x ∷ xs) ys = by (short_at net x) (shorts_append net xs ys) where
  by : (a : Result (Option Short) NetworkFault) → shorts_in net (xs ++ ys) ≡ both (shorts_in net xs) (shorts_in net ys)
      → (a >>= λ here. added (option_to_list here) (shorts_in net (xs ++ ys))) ≡ both (a >>= λ here. added (option_to_list here) (shorts_in net xs)) (shorts_in net ys)
  by (Ok here) more = ap (added (option_to_list here)) more ∙ added_both (option_to_list here) (shorts_in net xs) (shorts_in net ys)
  by (Err e) more = refl

-- ---- by row

module _ (net : Network) (before : List Short) (n : ℕ) (ls : List Link) (i : ℕ) (l : Link) (within : i < length ls) (item : l ≡ get_or ls i l) where
  pub row_adds : (here : Option Short) → short_at net (row_in n l) ≡ Ok here
      → added before (shorts_in net (rows_in n (drop i ls))) ≡ added (before ++ option_to_list here) (shorts_in net (rows_in n (drop (i + 1) ls)))
  row_adds here is =
      ap (λ (rs : List Row). added before (shorts_in net rs)) (next_row n ls i l within item)
      ∙ ap (λ (a : Result (Option Short) NetworkFault). added before (a >>= λ o. added (option_to_list o) (shorts_in net (rows_in n (drop (i + 1) ls))))) is
      ∙ added_more before (option_to_list here) (shorts_in net (rows_in n (drop (i + 1) ls)))

  pub row_refuses : (e : NetworkFault) → short_at net (row_in n l) ≡ Err e → added before (shorts_in net (rows_in n (drop i ls))) ≡ Err e
  row_refuses e is =
      ap (λ (rs : List Row). added before (shorts_in net rs)) (next_row n ls i l within item)
      ∙ ap (λ (a : Result (Option Short) NetworkFault). added before (a >>= λ o. added (option_to_list o) (shorts_in net (rows_in n (drop (i + 1) ls))))) is

-- ---- by switch

module _ (net : Network) (before : List Short) (n : ℕ) (ts : List Content) (t : Content) (within : n < length ts) (item : t ≡ get_or ts n t) where
  parted : added before (shorts_in net (rows_from n (drop n ts)))
      ≡ both (added before (shorts_in net (rows_in n t.links))) (shorts_in net (rows_from (n + 1) (drop (n + 1) ts)))
  parted =
      ap (λ (rs : List Row). added before (shorts_in net rs)) (next_rows n ts t within item)
      ∙ ap (added before) (shorts_append net (rows_in n t.links) (rows_from (n + 1) (drop (n + 1) ts)))
      ∙ added_both before (shorts_in net (rows_in n t.links)) (shorts_in net (rows_from (n + 1) (drop (n + 1) ts)))

  pub switch_adds : (after : List Short) → added before (shorts_in net (rows_in n t.links)) ≡ Ok after
      → added before (shorts_in net (rows_from n (drop n ts))) ≡ added after (shorts_in net (rows_from (n + 1) (drop (n + 1) ts)))
  switch_adds after is = parted ∙ ap (λ (found : Found). both found (shorts_in net (rows_from (n + 1) (drop (n + 1) ts)))) is

  pub switch_refuses : (e : NetworkFault) → added before (shorts_in net (rows_in n t.links)) ≡ Err e → added before (shorts_in net (rows_from n (drop n ts))) ≡ Err e
  switch_refuses e is = parted ∙ ap (λ (found : Found). both found (shorts_in net (rows_from (n + 1) (drop (n + 1) ts)))) is

-- ---- at the end, and where it stops

pub refuses : {X Y : Type 0} (view : X → Y) (answer : Result Y NetworkFault) (given : Result X NetworkFault) (e : NetworkFault) → given ≡ Err e
    → (e ≢ fault.Memory → answer ≡ Err e) → Gives view given answer
refuses view answer given e is refused = subst (λ (a : Result _ NetworkFault). Gives view a answer) (sym is) refused

-- ---- none

pub all_none : (net : Network) (rs : List Row) → shorts_in net rs ≡ Ok [] → AllByRecursion (λ r. short_at net r ≡ Ok None) rs
all_none net [] h = tt
all_none net (r ∷ rs) h = by (all_none net rs) (short_at net r) refl h where
  none : (short : Short) (found : Found) → added (short ∷ []) found ≡ Ok [] → ⊥
  none short (Ok rest) is = cc
  none short (Err e) is = cc

  by : (shorts_in net rs ≡ Ok [] → AllByRecursion (λ q. short_at net q ≡ Ok None) rs) → (a : Result (Option Short) NetworkFault) → short_at net r ≡ a
      → (a >>= λ here. added (option_to_list here) (shorts_in net rs)) ≡ Ok [] → AllByRecursion (λ q. short_at net q ≡ Ok None) (r ∷ rs)
  by more (Ok None) is rest = (is, more (sym (added_none (shorts_in net rs)) ∙ rest))
  by more (Ok (Some short)) is rest = absurd (none short (shorts_in net rs) rest)
  by more (Err e) is rest = absurd cc

pub none_at_all : (net : Network) (rs : List Row) → AllByRecursion (λ r. short_at net r ≡ Ok None) rs → shorts_in net rs ≡ Ok []
none_at_all net [] all = refl
none_at_all net (r ∷ rs) all =
    ap (λ (a : Result (Option Short) NetworkFault). a >>= λ here. added (option_to_list here) (shorts_in net rs)) all.0 ∙ added_none (shorts_in net rs) ∙ none_at_all net rs all.1

-- What a link is told came is what of all that arrived is its own.
use Rattle.std.proofs.Common.{◌≡◌, ℕ, Bool, true, false, List, [], ◌∷◌, ◌++◌, Option, Some, None, refl, ap, ◌∙◌}
use Rattle.std.specs.Prelude.{◌==◌, ◌&&◌, if◌then◌else◌, slice_get}
use Rattle.afdx_pcap.specs.Record.{Record}
use Rattle.afdx_table.specs.Content.{Content}
use Rattle.afdx_pairing.specs.Events.{Numbered}
use Rattle.afdx_following.specs.declared.watch.Watch.{Watch}
use Rattle.afdx_following.specs.Watch.{has_frame, has_record}
use Rattle.afdx_following.specs.Followed.{Notice, Arrived, Departed, own_in}
use Rattle.afdx_merging.specs.Merge.{Arrival}
use Rattle.afdx_compare.specs.declared.sources.Source.{Source}
use Rattle.afdx_compare.specs.Comparison.{Comparison, place_of_own, link_at}
use Rattle.afdx_compare.specs.Arrivals.{with_arrival}
use Rattle.afdx_compare.specs.Inner.Told.{told_own, told_record, told_came, told_left, told_of, told}
use Rattle.afdx_compare.specs.Inner.Own.{is_own_of, own_came, own_from, own_of}
use Rattle.afdx_compare.proofs.Next.{arrival_same}

own_more : (xs ys : List Notice) → own_in (xs ++ ys) ≡ own_in xs ++ own_in ys
own_more [] ys = refl
own_more (Arrived n ∷ xs) ys = ap (λ (rs : List Record). n.frame ∷ rs) (own_more xs ys)
own_more (Departed place n ∷ xs) ys = own_more xs ys

own_if : (b : Bool) (n : Numbered) → own_in (if b then Arrived n ∷ [] else []) ≡ (if b then n.frame ∷ [] else [])
own_if true n = refl
own_if false n = refl

own_told : (place : ℕ) (of : Option ℕ) (n : Numbered) → own_in (told_own place of n) ≡ (if is_own_of place of then n.frame ∷ [] else [])
own_told place None n = refl
own_told place (Some link) n = own_if (link == place) n

own_counts : (b : Bool) (place : ℕ) (of : Option ℕ) (n : Numbered) → own_in (if b then told_own place of n else []) ≡ (if b && is_own_of place of then n.frame ∷ [] else [])
own_counts true place of n = own_told place of n
own_counts false place of n = refl

none_if : (b : Bool) (output : ℕ) (n : Numbered) → own_in (if b then Departed output n ∷ [] else []) ≡ []
none_if true output n = refl
none_if false output n = refl

none_told : (place : ℕ) (to : Option (ℕ × ℕ)) (n : Numbered) → own_in (told_record place to n) ≡ []
none_told place None n = refl
none_told place (Some (link, output)) n = none_if (link == place) output n

none_counts : (b : Bool) (place : ℕ) (to : Option (ℕ × ℕ)) (n : Numbered) → own_in (if b then told_record place to n else []) ≡ []
none_counts true place to n = none_told place to n
none_counts false place to n = refl

own_side : (leaves : Bool) (place port : ℕ) (n : Numbered) (c : Comparison)
    → own_in (if leaves then told_left place port n c else told_came place port n c) ≡ (if leaves then [] else own_came c.watch c.table place port n.frame)
own_side true place port n c = none_counts (has_record c.watch n.frame.stamp) place (link_at port n.frame.bytes c) n
own_side false place port n c = own_counts (has_frame c.watch n.frame.stamp) place (place_of_own c.table port n.frame) n

own_source : (place : ℕ) (s : Option Source) (n : Numbered) (c : Comparison) → own_in (told_of place s n c) ≡ own_from c.watch c.table place s n.frame
own_source place None n c = refl
own_source place (Some s) n c = own_side s.leaves place s.port n c

pub own_is : (place : ℕ) (captures : List Source) (arrivals : List Arrival) (c : Comparison) → own_in (told place captures arrivals c) ≡ own_of c.watch c.table place captures arrivals
own_is place captures [] c = refl
own_is place captures (a ∷ arrivals) c =
    let s = slice_get captures a.place in
    let d = with_arrival captures a c in
    let same = arrival_same s a c in
    let first = own_from c.watch c.table place s a.head.frame in
    own_more (told_of place s a.head c) (told place captures arrivals d)
    ∙ ap (λ (rs : List Record). rs ++ own_in (told place captures arrivals d)) (own_source place s a.head c)
    ∙ ap (λ (rs : List Record). first ++ rs) (own_is place captures arrivals d)
    ∙ ap (λ (w : Watch). first ++ own_of w d.table place captures arrivals) same.watch
    ∙ ap (λ (t : Content). first ++ own_of c.watch t place captures arrivals) same.table

-- Each link's records are explained by what it was told.
use Rattle.std.proofs.Common.{◌≡◌, ℕ, ◌≤◌, Bool, List, [], ◌∷◌, Option, Some, sym, ap, subst}
use Rattle.std.specs.Prelude.{slice_get}
use Rattle.std.specs.List.{AllByRecursion}
use Rattle.afdx_table.specs.Link.{Link}
use Rattle.afdx_table.specs.Content.{Content}
use Rattle.afdx_table.specs.WellFormed.{IsWellFormed}
use Rattle.afdx_following.specs.declared.watch.Watch.{Watch}
use Rattle.afdx_following.specs.Watch.{unknown_since}
use Rattle.afdx_following.specs.Output.{Output}
use Rattle.afdx_following.specs.Watched.{Watched}
use Rattle.afdx_following.specs.Followed.{AreNext, IsExplained, FollowedIsKept}
use Rattle.afdx_merging.specs.Merge.{Arrival, AreInOrder}
use Rattle.afdx_recordings.specs.declared.recordings.Recordings.{Recordings}
use Rattle.afdx_compare.specs.declared.sources.Source.{Source}
use Rattle.afdx_compare.specs.Comparison.{Comparison, watch_of, outputs_first, IsBegun, with_until}
use Rattle.afdx_compare.specs.Inner.Sound.{IsLimited, IsSound}
use Rattle.afdx_compare.specs.Inner.Told.{told}
use Rattle.afdx_compare.specs.Inner.Due.{AreDue}
use Rattle.afdx_compare.proofs.Making.{first_fresh}
use Rattle.afdx_compare.proofs.Next.{Laws, links_are_next}
use Rattle.afdx_compare.proofs.Beginning.{first_each, first_at, begun_sound, begun_by, all_from}

-- where the recordings end changes nothing of it

limited_until : (at : ℕ) (w : Watch) (t : Content) (port : ℕ) (o : Output) → IsLimited w t port o.limits → IsLimited (record w { until = Some at }) t port o.limits
limited_until at w t port o is = record { row = is.row; is_row = is.is_row; speed = is.speed; gap = is.gap; tolerance = is.tolerance }

outputs_until : (at : ℕ) (w : Watch) (t : Content) (os : List Output) → AllByRecursion (λ o. IsLimited w t o.port o.limits) os
    → AllByRecursion (λ o. IsLimited (record w { until = Some at }) t o.port o.limits) os
outputs_until at w t [] all = tt
outputs_until at w t (o ∷ os) all = (limited_until at w t o.port o all.0, outputs_until at w t os all.1)

pub until_sound : (at : ℕ) (c : Comparison) → IsSound c → IsSound (with_until at c)
until_sound at c sound = record {
  formed = sound.formed;
  many_links = sound.many_links;
  many_ports = sound.many_ports;
  each = λ place l f there get.
      let of = sound.each place l f there get in record { terms = of.terms; outputs = outputs_until at c.watch c.table f.outputs of.outputs };
}

-- one level of the account of the link at a place explains its records, at each of its ports, once all of these were told that arrived
pub explained : Laws → FollowedIsKept → (t : Content) (r : Recordings) (from until : ℕ) (keeping : Bool) (first : Comparison) (captures : List Source) (arrivals : List Arrival) (last : Option ℕ)
    → IsWellFormed t → r.tolerance ≤ 1000000000 → IsBegun t r from keeping first → AreInOrder arrivals → AreDue (with_until until first).watch first.table captures arrivals
    → (place : ℕ) (l : Link) (f : Watched) → slice_get t.links place ≡ Some l → slice_get first.links place ≡ Some f
    → (fates : List Bool) × IsExplained f (told place captures arrivals (with_until until first)) last fates
explained laws kept t r from until keeping first captures arrivals last formed bounded begun order due place l f there get =
    let w = watch_of t r from in
    let c = with_until until first in
    let one = first_each w t r.outputs keeping t.links first.links begun.links place l f there get in
    let outputs = outputs_first w t r.outputs keeping l.priority l.to in
    let notices = told place captures arrivals c in
    let start : first_at c.watch ≡ first_at w = ap (λ (x : Watch). first_at x) begun.watch in
    let by = subst (λ (at : ℕ). AllByRecursion (λ x. x.latest ≤ at) first.links) (sym start) (begun_by t r from keeping first begun) in
    let next = links_are_next laws place captures arrivals c f (first_at c.watch) (until_sound until first (begun_sound t r from keeping first formed begun)) get order due by
    (all_from c.watch first.table captures arrivals due) in
    subst (λ (x : Watched). (fates : List Bool) × IsExplained x notices last fates) (sym one.first)
    (kept one.account w.tolerance (unknown_since w) outputs notices last bounded (first_fresh w t r.outputs keeping l.priority l.to)
    (subst (λ (x : Watched). AreNext x notices) one.first next))

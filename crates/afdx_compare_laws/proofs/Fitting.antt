-- A link's own frames cost no more than a full account has.
use Rattle.std.proofs.Common.{cond, Bool, true, false, List, [], ◌∷◌, map}
use Rattle.std.specs.Prelude.{filter, Contains}
use Rattle.afdx_pcap.specs.Record.{Record}
use Rattle.afdx_table.specs.Link.{Link}
use Rattle.afdx_table.specs.Content.{Content}
use Rattle.afdx_table.specs.WellFormed.{IsWellFormed}
use Rattle.afdx_table.specs.Inner.Found.{LinksAreFound}
use Rattle.afdx_account.specs.Policing.{Terms}
use Rattle.afdx_filter.specs.Frame.{frame_of}
use Rattle.afdx_filter.specs.Inner.Clean.{CleanFramesHaveALink}
use Rattle.afdx_levels.specs.Inner.Laws.{AllFit}
use Rattle.afdx_load.specs.Load.{terms_of}
use Rattle.afdx_core.specs.Merge.{Capture, records_of}
use Rattle.afdx_following.specs.declared.watch.Watch.{Watch}
use Rattle.afdx_following.specs.Watch.{has_frame}
use Rattle.afdx_session.specs.Headline.{own_records}
use Rattle.afdx_compare.specs.Within.{own_within}
use Rattle.afdx_compare.proofs.Exactly.{all_fit}

fit_filter : (t : Terms) (p : Record → Bool) (rs : List Record) → AllFit t (map frame_of rs) → AllFit t (map frame_of (filter p rs))
fit_filter t p [] fit = tt
fit_filter t p (r ∷ rs) fit = elim (p r) as (λ b. AllFit t (map frame_of (cond b (r ∷ filter p rs) (filter p rs)))) [
  | true ↦ (fit.0, fit_filter t p rs fit.1)
  | false ↦ fit_filter t p rs fit.1
]

module _ (clean : CleanFramesHaveALink) (found : LinksAreFound) (t : Content) (formed : IsWellFormed t) (l : Link) (there : Contains t.links l) where
  pub own_fit : (w : Watch) (read : List Capture) → AllFit (terms_of l) (map frame_of (own_within w t l read))
  own_fit w read = fit_filter (terms_of l) (λ r. has_frame w r.stamp) (own_records t l read)
      (all_fit clean found t formed l there (records_of read l.from))

-- What a comparison keeps between its calls, whatever came and left.
use Rattle.std.proofs.Common.{ℕ, true, false, List, Option, Some, None, refl, sym, ap, subst, ◌∙◌}
use Rattle.std.specs.Prelude.{if◌then◌else◌}
use Rattle.std.specs.List.{AllByRecursion}
use Rattle.afdx_account.specs.declared.account.Account.{Account}
use Rattle.afdx_account.specs.Account.{account_terms}
use Rattle.afdx_table.specs.Link.{Link}
use Rattle.afdx_table.specs.Content.{Content}
use Rattle.afdx_pairing.specs.Events.{Numbered, mark_of}
use Rattle.afdx_following.specs.declared.watch.Watch.{Watch}
use Rattle.afdx_following.specs.Watch.{has_frame, has_record}
use Rattle.afdx_following.specs.Watched.{Watched, changed_at, with_own, with_record}
use Rattle.afdx_compare.specs.declared.sources.Source.{Source}
use Rattle.afdx_compare.specs.Comparison.{Port, Comparison, with_seen, with_foreign, place_of_own, own_came, with_came, link_at, record_left, with_left}
use Rattle.afdx_compare.specs.Inner.Sound.{IsLimited, IsOf, IsSound}
use Rattle.afdx_compare.proofs.Keeping.{Setting, IsLike, own_like, record_like, all_settings, all_outputs}
use Rattle.afdx_compare.proofs.Places.{changed_length, changed_get}

abbrev limited : Watch → Content → Setting → Type 0
limited w t s = IsLimited w t s.port s.limits

like_of : (w : Watch) (t : Content) (l : Link) (f g : Watched) → IsLike g f → IsOf w t l f → IsOf w t l g
like_of w t l f g like of = record {
  terms = ap (λ (a : Account). account_terms a) like.account ∙ of.terms;
  outputs = all_outputs (limited w t) g.outputs (subst (λ (ss : List Setting). AllByRecursion (limited w t) ss) (sym like.settings) (all_settings (limited w t) f.outputs of.outputs));
}

pub links_sound : (place : ℕ) (change : Watched → Watched) → ((f : Watched) → IsLike (change f) f) → (c : Comparison) → IsSound c
    → IsSound (record c { links = changed_at place change c.links })
links_sound place change like c sound = record {
  formed = sound.formed;
  many_links = changed_length place change c.links ∙ sound.many_links;
  many_ports = sound.many_ports;
  each = λ k l g there get.
      let was = changed_get IsLike place change (λ f. record { account = refl; settings = refl }) like c.links k g get in
      like_of c.watch c.table l was.0 g was.2 (sound.each k l was.0 there was.1);
}

pub ports_sound : (place : ℕ) (change : Port → Port) (c : Comparison) → IsSound c → IsSound (record c { ports = changed_at place change c.ports })
ports_sound place change c sound = record {
  formed = sound.formed;
  many_links = sound.many_links;
  many_ports = changed_length place change c.ports ∙ sound.many_ports;
  each = sound.each;
}

own_sound : (place : Option ℕ) (n : Numbered) (c : Comparison) → IsSound c → IsSound (own_came place n c)
own_sound None n c sound = sound
own_sound (Some place) n c sound = links_sound place (with_own n) (own_like n) c sound

pub came_sound : (port : ℕ) (n : Numbered) (c : Comparison) → IsSound c → IsSound (with_came port n c)
came_sound port n c sound =
    elim (has_frame c.watch n.frame.stamp) as (λ b. IsSound (if b then own_came (place_of_own c.table port n.frame) n c else c)) [
      | true ↦ own_sound (place_of_own c.table port n.frame) n c sound
      | false ↦ sound
    ]

record_sound : (place : ℕ) (at : Option (ℕ × ℕ)) (n : Numbered) (c : Comparison) → IsSound c → IsSound (record_left place at n c)
record_sound place None n c sound = ports_sound place (with_foreign c.keeps (mark_of n)) c sound
record_sound place (Some (link, output)) n c sound = links_sound link (with_record output n) (record_like output n) c sound

pub left_sound : (s : Source) (n : Numbered) (c : Comparison) → IsSound c → IsSound (with_left s n c)
left_sound s n c sound =
    let seen : Comparison = record c { ports = changed_at s.place with_seen c.ports } in
    elim (has_record c.watch n.frame.stamp) as (λ b. IsSound (if b then record_left s.place (link_at s.port n.frame.bytes c) n seen else c)) [
      | true ↦ record_sound s.place (link_at s.port n.frame.bytes c) n seen (ports_sound s.place with_seen c sound)
      | false ↦ sound
    ]

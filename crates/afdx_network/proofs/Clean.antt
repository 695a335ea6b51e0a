-- What leaves a switch for a link comes to the next one as the link's own.
use Rattle.std.proofs.Common.{◌≡◌, ℕ, ◌==◌, ◌≤◌, Bool, true, false, cond, List, [], ◌∷◌, length, map, filter, refl, ap, sym, ◌∙◌, arith, subst}
use Rattle.std.specs.Prelude.{Contains}
use Rattle.std.specs.List.{AllByRecursion}
use Rattle.std.proofs.lemmas.Option.{same_Some}
use Rattle.std.proofs.lemmas.Bool.{eq-eqb, true≢false}
use Rattle.afdx_units.specs.Line.{size_of}
use Rattle.afdx_pcap.specs.Record.{Record}
use Rattle.afdx_frame.specs.Address.{constant_of, link_of}
use Rattle.afdx_table.specs.Link.{Link}
use Rattle.afdx_table.specs.Content.{Content, link_row}
use Rattle.afdx_table.specs.WellFormed.{IsWellFormed}
use Rattle.afdx_table.specs.Inner.Found.{LinksAreFound}
use Rattle.afdx_filter.specs.declared.outcome.Verdict.TheVariants.{Clean}
use Rattle.afdx_filter.specs.Frame.{frame_of}
use Rattle.afdx_filter.specs.Verdict.{verdict_of}
use Rattle.afdx_filter.specs.Inner.Exactly.{CleanExactly}
use Rattle.afdx_load.specs.Load.{terms_of}
use Rattle.afdx_core.specs.Rows.{says_clean}
use Rattle.afdx_core.specs.Merge.{records_of}
use Rattle.afdx_core.specs.Inner.Agreement.{VerdictsNameLinks}
use Rattle.afdx_session.specs.Headline.{bytes_of}
use Rattle.afdx_network.specs.Way.{Stage, IsStage, Leg, IsLegFrom, delayed, come_to, passed_at, leave}
use Rattle.afdx_network.proofs.Lists.{all_weaken, all_map, all_unmap, all_tested, filter_of_map, filter_alike, all_passed}

-- what a clean frame of a link is, by its bytes alone
pub record IsOf (constant : List ℕ) (l : Link) (bytes : List ℕ) : Type 0 where
  pub least : 64 ≤ size_of (length bytes)
  pub most : size_of (length bytes) ≤ 1518
  pub fits : size_of (length bytes) ≤ l.max_size
  pub constant_is : constant_of bytes ≡ constant
  pub address : link_of bytes ≡ l.id

pub over_bytes : (P : List ℕ → Type 0) (came left : List Record) → bytes_of left ≡ bytes_of came → AllByRecursion (λ r. P r.bytes) came → AllByRecursion (λ r. P r.bytes) left
over_bytes P came left same all =
    all_unmap P (λ (r : Record). r.bytes) left (subst (AllByRecursion P) (sym same) (all_map P (λ (r : Record). r.bytes) came all))

module _ (exact : CleanExactly) (verdicts : VerdictsNameLinks) (links : LinksAreFound) where
  pub clean_of : (t : Content) (l : Link) (r : Record) → IsWellFormed t → Contains t.links l → says_clean l.id (verdict_of t l.from r) ≡ true → IsOf t.constant l r.bytes
  clean_of t l r formed known is =
      let h = (exact t l.from r l.id).0 (verdicts.clean l.id (verdict_of t l.from r) is) in
      let f = h.2 in
      let address : link_of r.bytes ≡ l.id = sym (links.is_row t (link_of r.bytes) h.0 f.is_link).0 ∙ h.1 in
      let same : h.0 ≡ l = same_Some h.0 l (sym f.is_link ∙ ap (link_row t) address ∙ links.found t formed l known) in
      record {
        least = f.size_least;
        most = f.size_most;
        fits = subst (λ (m : Link). size_of (length r.bytes) ≤ m.max_size) same f.fits;
        constant_is = f.constant;
        address = address;
      }

  pub own_clean : (t : Content) (l : Link) (rs : List Record) → IsWellFormed t → Contains t.links l
      → AllByRecursion (λ r. IsOf t.constant l r.bytes) (filter (λ r. says_clean l.id (verdict_of t l.from r)) rs)
  own_clean t l [] formed known = tt
  own_clean t l (r ∷ rs) formed known = by (says_clean l.id (verdict_of t l.from r)) refl (own_clean t l rs formed known) where
    by : (b : Bool) → says_clean l.id (verdict_of t l.from r) ≡ b
        → AllByRecursion (λ q. IsOf t.constant l q.bytes) (filter (λ q. says_clean l.id (verdict_of t l.from q)) rs)
        → AllByRecursion (λ q. IsOf t.constant l q.bytes) (cond b (r ∷ filter (λ q. says_clean l.id (verdict_of t l.from q)) rs) (filter (λ q. says_clean l.id (verdict_of t l.from q)) rs))
    by true is rest = (clean_of t l r formed known is, rest)
    by false not rest = rest

  -- so are those that the policing passes, and what leaves
  pub passed_clean : (x : Stage) → IsStage x → AllByRecursion (λ r. IsOf x.node.table.constant x.link r.bytes) (passed_at x)
  passed_clean x here =
      all_passed (λ (r : Record). IsOf x.node.table.constant x.link r.bytes) frame_of (terms_of x.link) [] (come_to x)
      (own_clean x.node.table x.link (records_of x.node.read x.link.from) here.node.well_formed here.known)

  pub leave_clean : (x : Stage) → IsStage x → AllByRecursion (λ r. IsOf x.node.table.constant x.link r.bytes) (leave x)
  leave_clean x here =
      over_bytes (IsOf x.node.table.constant x.link) (passed_at x) (leave x) (here.node.passed x.port here.has x.link here.known here.leads) (passed_clean x here)

  -- a record on the wire is a clean frame of the link at the next switch exactly where it has the link's number
  module _ (x : Stage) (s : Leg) (here : IsStage x) (there : IsStage s.stage) (follows : IsLegFrom x s) where
    abbrev says_again : Record → Bool
    says_again r = says_clean s.stage.link.id (verdict_of s.stage.node.table s.stage.link.from (delayed s.cable r))

    is_clean : (r : Record) → IsOf x.node.table.constant x.link r.bytes → says_again r ≡ true
    is_clean r of =
        let clean : verdict_of s.stage.node.table s.stage.link.from (delayed s.cable r) ≡ Clean s.stage.link.id
        = (exact s.stage.node.table s.stage.link.from (delayed s.cable r) s.stage.link.id).1 (
          s.stage.link,
          refl,
          record {
            whole = omega arith;
            size_least = of.least;
            size_most = of.most;
            constant = of.constant_is ∙ sym follows.constant;
            is_link = ap (link_row s.stage.node.table) (of.address ∙ sym follows.number) ∙ links.found s.stage.node.table there.node.well_formed s.stage.link there.known;
            from_port = refl;
            fits = subst (λ (n : ℕ). size_of (length r.bytes) ≤ n) (sym follows.size) of.fits;
          },
        ) in
        ap (says_clean s.stage.link.id) clean ∙ eq-eqb s.stage.link.id s.stage.link.id refl

    clean_again : (r : Record) → ((link_of r.bytes == x.link.id) ≡ true → IsOf x.node.table.constant x.link r.bytes) → says_again r ≡ (link_of r.bytes == x.link.id)
    clean_again r of = by (link_of r.bytes == x.link.id) refl where
      never : (b : Bool) → (link_of r.bytes == x.link.id) ≡ false → says_again r ≡ b → b ≡ false
      never false other is = refl
      never true other is =
          let address = (clean_of s.stage.node.table s.stage.link (delayed s.cable r) there.node.well_formed there.known is).address in
          absurd (true≢false (sym (eq-eqb (link_of r.bytes) x.link.id (address ∙ follows.number)) ∙ other))

      by : (b : Bool) → (link_of r.bytes == x.link.id) ≡ b → says_again r ≡ (link_of r.bytes == x.link.id)
      by true is = is_clean r (of is) ∙ sym is
      by false other = never (says_again r) other refl ∙ sym other

    pub comes_to_the_next : come_to s.stage ≡ map (delayed s.cable) (leave x)
    comes_to_the_next =
        ap (filter (λ (r : Record). says_clean s.stage.link.id (verdict_of s.stage.node.table s.stage.link.from r))) follows.wired
        ∙ filter_of_map (λ (r : Record). says_clean s.stage.link.id (verdict_of s.stage.node.table s.stage.link.from r)) (delayed s.cable) (x.node.out x.port)
        ∙ ap (map (delayed s.cable)) (filter_alike says_again (λ (r : Record). link_of r.bytes == x.link.id) (x.node.out x.port)
        (all_weaken (λ (r : Record). (link_of r.bytes == x.link.id) ≡ true → IsOf x.node.table.constant x.link r.bytes)
        (λ (r : Record). says_again r ≡ (link_of r.bytes == x.link.id)) (x.node.out x.port)
        clean_again (all_tested (λ (r : Record). IsOf x.node.table.constant x.link r.bytes) (λ (r : Record). link_of r.bytes == x.link.id) (x.node.out x.port) (leave_clean x here))))

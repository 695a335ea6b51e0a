-- Which links texts are, read one after the other.
use Rattle.std.proofs.Common.{ℕ, ◌+◌, ◌<◌, ◌≤◌, List, [], ◌∷◌, ◌++◌, length, drop, map, get_or, Ok, Err, Bor, sym, subst, append_assoc, append-nil}
use Rattle.std.specs.Str.Parse.{ParsesUnsigned}
use Rattle.std.proofs.lemmas.List.{drop_more, drop_all}
use Rattle.clap.specs.Words.{Text}
use Rattle.afdx_arguments.specs.Requests.{AreLinks}

-- the texts before the rest of them are these links
pub record AreSoFar (texts rest : List Text) (links : List ℕ) : Type 0 where
  pub on : (more : List ℕ) → AreLinks rest more → AreLinks texts (links ++ more)
  pub back : (all : List ℕ) → AreLinks texts all → (more : List ℕ) × AreLinks rest more

pub none_yet : (texts : List Text) → AreSoFar texts texts []
none_yet texts = record { on = λ more h. h; back = λ all h. (all, h) }

-- the links after the first
after_first : (text : Text) (rest : List Text) (all : List ℕ) → AreLinks (text ∷ rest) all → (more : List ℕ) × AreLinks rest more
after_first text rest [] h = absurd h
after_first text rest (link ∷ links) h = (links, h.1)

one_more : (texts rest : List Text) (text : Text) (links : List ℕ) (link : ℕ) → ParsesUnsigned {E = Unit {0}} 16 10 text (Ok link) → AreSoFar texts (text ∷ rest) links
    → AreSoFar texts rest (links ++ link ∷ [])
one_more texts rest text links link is so_far = record {
  on = λ more h. subst (λ (all : List ℕ). AreLinks texts all) (sym (append_assoc links (link ∷ []) more)) (so_far.on (link ∷ more) (is, h));
  back = λ all h. let more = so_far.back all h in after_first text rest more.0 more.1;
}

-- a text that is no link leaves the texts with none
no_first : {E : Type 0} (text : Text) (rest : List Text) (e : E) (all : List ℕ) → ParsesUnsigned 16 10 text (Err e) → AreLinks (text ∷ rest) all → ⊥
no_first text rest e [] fails h = h
no_first text rest e (link ∷ links) fails h = fails h.0.0

none_at : {E : Type 0} (texts rest : List Text) (text : Text) (links : List ℕ) (e : E) → ParsesUnsigned 16 10 text (Err e) → AreSoFar texts (text ∷ rest) links
    → (all : List ℕ) → AreLinks texts all → ⊥
none_at texts rest text links e fails so_far all h = let more = so_far.back all h in no_first text rest e more.0 fails more.1

-- ---- the same of texts that are lent

abbrev pub texts_of : List (Bor Text) → List Text
texts_of = map (λ t. t.now)

module _ (lent : List (Bor Text)) (i : ℕ) (d : Bor Text) (links : List ℕ) (lt : i < length lent) (so_far : AreSoFar (texts_of lent) (texts_of (drop i lent)) links) where
  text : Text
  text = (get_or lent i d).now

  -- the rest begins with this text
  begins : AreSoFar (texts_of lent) (text ∷ texts_of (drop (i + 1) lent)) links
  unfolding text
  begins = subst (λ (rest : List (Bor Text)). AreSoFar (texts_of lent) (texts_of rest) links) (drop_more lent i d lt) so_far

  pub next_link : (link : ℕ) → ParsesUnsigned {E = Unit {0}} 16 10 (get_or lent i d).now (Ok link) → AreSoFar (texts_of lent) (texts_of (drop (i + 1) lent)) (links ++ link ∷ [])
  unfolding text
  next_link link is = one_more (texts_of lent) (texts_of (drop (i + 1) lent)) text links link is begins

  pub no_links : {E : Type 0} (e : E) → ParsesUnsigned 16 10 (get_or lent i d).now (Err e) → (all : List ℕ) → AreLinks (texts_of lent) all → ⊥
  unfolding text
  no_links e fails = none_at (texts_of lent) (texts_of (drop (i + 1) lent)) text links e fails begins

pub all_links : (lent : List (Bor Text)) (i : ℕ) (links : List ℕ) → length lent ≤ i → AreSoFar (texts_of lent) (texts_of (drop i lent)) links → AreLinks (texts_of lent) links
all_links lent i links le so_far =
    let ended = subst (λ (rest : List (Bor Text)). AreSoFar (texts_of lent) (texts_of rest) links) (drop_all i lent le) so_far in
    subst (λ (all : List ℕ). AreLinks (texts_of lent) all) (append-nil links) (ended.on [] tt)

-- Links that are read one by one, each from its own text.
use Rattle.std.proofs.Common.{◌≡◌, ℕ, ◌+◌, ◌<◌, true, List, [], ◌∷◌, ◌++◌, Some, Ok, refl, ap, ◌∙◌, arith}
use Rattle.std.proofs.lemmas.Bool.Decides.{nat_tests}
use Rattle.toml.specs.Data.{Members}
use Rattle.toml.specs.Parse.{ends_line, parse_document}
use Rattle.afdx_toml_split.specs.Joined.{joined, are_plain}
use Rattle.afdx_table.specs.declared.fault.At.TheVariants as place
use Rattle.afdx_table.specs.declared.rows.PortRow.{PortRow}
use Rattle.afdx_table.specs.Link.{Link}
use Rattle.afdx_table.specs.Links.{link_at, links_from}
use Rattle.afdx_table.specs.Inner.Apart.{AreReadApart}

-- a text leaves the line before it to what stands there, as the front of one that does
pub ends_line-front : (text behind : List ℕ) → ends_line (joined text (behind ∷ [])) ≡ true → ends_line text ≡ true
ends_line-front [] behind h = refl
ends_line-front (c ∷ cs) behind h = grind (arith, nat_tests)

-- the last link
pub last_apart : (version : ℕ) (ports : List PortRow) (n : ℕ) (before : List Link) (text : List ℕ) (row : Link) (ms : Members) → ends_line text ≡ true
    → parse_document text ≡ Some ms → are_plain ms ≡ true → link_at version (place.Link (n + 1)) ports before ms ≡ Ok row → n < 4096 → AreReadApart version ports n before text (before ++ row ∷ [])
unfolding links_from
last_apart version ports n before text row ms ends parsed plain read room = (text, [], ms, [], refl, (ends, parsed, plain, tt), omega arith, rw read refl)

-- a link before others
pub more_apart : (version : ℕ) (ports : List PortRow) (n : ℕ) (before : List Link) (whole text behind : List ℕ) (row : Link) (ms : Members) (links : List Link) → ends_line text ≡ true
    → parse_document text ≡ Some ms → are_plain ms ≡ true → link_at version (place.Link (n + 1)) ports before ms ≡ Ok row → whole ≡ joined text (behind ∷ [])
    → AreReadApart version ports (n + 1) (before ++ row ∷ []) behind links → AreReadApart version ports n before whole links
unfolding links_from
more_apart version ports n before whole text behind row ms links ends parsed plain read is (this, texts, other, tables, same, rest, few, answer) =
    (text, this ∷ texts, ms, other ∷ tables, is ∙ ap (λ t. joined text (t ∷ [])) same, (ends, parsed, plain, rest), omega arith, rw read answer)

use Rattle.std.proofs.Common.{◌≡◌, true, List, [], length}
use Rattle.std.specs.Str.{IsUtf8}
use Rattle.toml.specs.Parse.{ends_line}
use Rattle.afdx_table.specs.Link.{Link}
use Rattle.afdx_table.specs.Inner.Apart.{AreReadApart}
use Rattle.afdx_table.proofs.apart.read_apart.Given as goal

abbrev pub invariant-loop-index : goal.invariant-loop-index
invariant-loop-index l = record {
  utf8 : IsUtf8 l.rest;
  ends : ends_line l.rest ≡ true;
  count : length l.links ≡ l.index;
  links : (all : List Link) → AreReadApart l.version l.ports l.index l.links l.rest all → AreReadApart l.version l.ports 0 [] l.texts all;
}

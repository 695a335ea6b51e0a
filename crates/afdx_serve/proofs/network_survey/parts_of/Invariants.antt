use Rattle.std.proofs.Common.{◌≡◌, ◌++◌, length, map, string_bytes}
use Rattle.std.specs.Vec.Iter.{into_iter_items, into_iter_len}
use Rattle.afdx_serve.specs.Inner.Watching.{ArePartsOf}
use Rattle.afdx_serve.proofs.network_survey.parts_of.Given as goal

abbrev pub invariant-loop-both : goal.invariant-loop-both
invariant-loop-both l = record {
  whole : l.yielded ++ into_iter_items l.both-iterator ≡ into_iter_items l.initial.both-iterator;
  left : into_iter_len l.both-iterator ≡ length (into_iter_items l.both-iterator);
  count : l.switch ≡ length l.yielded;
  parts : ArePartsOf l.form (map string_bytes l.names) l.yielded l.parts;
}

use Rattle.std.proofs.Common.{◌≡◌, ◌++◌, length, map, string_bytes}
use Rattle.std.specs.Vec.Iter.{into_iter_items, into_iter_len}
use Rattle.afdx_rows.specs.Delays.{network_measure_columns}
use Rattle.afdx_serve.specs.NetworkMeasures.{buffers_in}
use Rattle.afdx_serve.proofs.network_measure.put_all_buffers.Given as goal

abbrev pub invariant-loop-both : goal.invariant-loop-both
invariant-loop-both l = record {
  whole : l.yielded ++ into_iter_items l.both-iterator ≡ into_iter_items l.initial.both-iterator;
  left : into_iter_len l.both-iterator ≡ length (into_iter_items l.both-iterator);
  count : l.switch ≡ length l.yielded;
  text : l.text.items ≡ l.fn.text.items ++ buffers_in l.form network_measure_columns (map string_bytes l.names) l.yielded;
}

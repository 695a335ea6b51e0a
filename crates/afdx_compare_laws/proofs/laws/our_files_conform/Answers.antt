use Rattle.afdx_compare_laws.proofs.Files.{our_files_conform}
use Rattle.afdx_compare_laws.proofs.laws.our_files_conform.Goals as goal

pub returns : goal.returns
returns c = our_files_conform (record {
  written = c.what_is_written_is_a_capture.ensures;
  one = c.each_file_has_one_reading.ensures.one_list;
  readable = c.outputs_are_readable.ensures;
  conforms = c.our_runs_conform.ensures;
})

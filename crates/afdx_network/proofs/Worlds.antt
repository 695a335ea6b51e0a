-- Two worlds, end to end.
use Rattle.std.proofs.Common.{◌≡◌, ap, sym, ◌∙◌, subst, List}
use Rattle.std.specs.Prelude.{Contains}
use Rattle.afdx_pcap.specs.Record.{Record}
use Rattle.afdx_table.specs.Link.{Link}
use Rattle.afdx_core.specs.Merge.{records_of}
use Rattle.afdx_session.specs.Headline.{own_records, passed_records, bytes_of, OwnFramesAreTheLinksAlone}
use Rattle.afdx_network.specs.Way.{Stage, IsStage, Leg, last_stage, leave, IsDelivered}

pub two_worlds : OwnFramesAreTheLinksAlone → (x x' : Stage) (legs legs' : List Leg) → IsDelivered x legs → IsDelivered x' legs' → IsStage x → IsStage x'
    → x.link ≡ x'.link → x.node.table.constant ≡ x'.node.table.constant → records_of x.node.read x.link.from ≡ records_of x'.node.read x'.link.from
    → bytes_of (leave (last_stage x legs)) ≡ bytes_of (leave (last_stage x' legs'))
two_worlds alone x x' legs legs' one two stage stage' same constant read =
    let known : Contains x'.node.table.links x.link = subst (Contains x'.node.table.links) (sym same) stage'.known in
    let came : records_of x.node.read x.link.from ≡ records_of x'.node.read x.link.from
    = subst (λ (l : Link). records_of x.node.read x.link.from ≡ records_of x'.node.read l.from) (sym same) read in
    let own = alone x.node.table x'.node.table x.link x.node.read x'.node.read stage.node.well_formed stage'.node.well_formed constant stage.known known came in
    one.bytes ∙ ap (λ (own : List Record). bytes_of (passed_records x.link own)) own
    ∙ ap (λ (l : Link). bytes_of (passed_records l (own_records x'.node.table l x'.node.read))) same ∙ sym two.bytes

use Rattle.query_ask.proofs.RefutingLaws.{never_bad}
use Rattle.query_ask.proofs.attempt.refuted.Goals as goal

pub unreachable-requires : goal.unreachable-requires
unreachable-requires c =
    never_bad c.accept.result c.in-Err-BadLine.field-0 c.in-Err-BadLine.field-0-0 c.args.cnf.clauses c.args.log c.accept.ensures.rejected c.in-Err-BadLine.is c.in-Err-BadLine.field-0-is c.requires

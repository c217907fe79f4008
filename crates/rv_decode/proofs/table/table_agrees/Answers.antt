use Rattle.rv_decode.proofs.Agreement.{given, only, one}
use Rattle.rv_decode.proofs.Ranges.{instruction_in_range}
use Rattle.rv_decode.proofs.table.table_agrees.Goals as goal

pub returns : goal.returns
returns c = record {
  row = λ word instr. (only word instr, given word instr);
  one_row = one;
  in_range = instruction_in_range;
}

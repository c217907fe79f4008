use Rattle.bit_blast.proofs.NodeLaws.{both_value, joined_value, joined_inside, byte_value, byte_inside}
use Rattle.bit_blast.proofs.node_word.node_word.Goals as goal

pub returns-in_ok-word-in-Both-clause-value : goal.returns-in_ok-word-in-Both-clause-value
returns-in_ok-word-in-Both-clause-value c = λ env v g run.
    both_value c.args.gates.now env g _ v c.args.node c.in-Both.a c.in-Both.b _ _ _ _ _ _ c.in-Both.is c.requires c.word-in-Both.ensures c.word-in-Both-2.ensures (c.in_ok-bit-in-Both.ensures.value g run) c.in_ok-word-in-Both.ensures

pub returns-in_ok-word-in-Join-clause-inside : goal.returns-in_ok-word-in-Join-clause-inside
returns-in_ok-word-in-Join-clause-inside c =
    joined_inside c.args.gates.now _ c.args.node _ _ _ _ _ _ _ _ _ c.in-Join.is c.requires c.word-in-Join.ensures c.word-in-Join-2.ensures c.word-in-Join-3.ensures c.word-in-Join-4.ensures c.in_ok-word-in-Join.ensures

pub returns-in_ok-word-in-Join-clause-value : goal.returns-in_ok-word-in-Join-clause-value
returns-in_ok-word-in-Join-clause-value c = λ env v g run.
    joined_value c.args.gates.now env g _ v c.args.node _ _ _ _ _ _ _ _ _ c.in-Join.is c.requires c.word-in-Join.ensures c.word-in-Join-2.ensures c.word-in-Join-3.ensures c.word-in-Join-4.ensures c.in_ok-word-in-Join.ensures

pub returns-in_ok-word-in-Byte-clause-inside : goal.returns-in_ok-word-in-Byte-clause-inside
returns-in_ok-word-in-Byte-clause-inside c = byte_inside c.args.gates.now _ c.args.node _ _ _ _ c.in-Byte.is c.requires c.word-in-Byte.ensures c.in_ok-word-in-Byte.ensures

pub returns-in_ok-word-in-Byte-clause-value : goal.returns-in_ok-word-in-Byte-clause-value
returns-in_ok-word-in-Byte-clause-value c = λ env v g run. byte_value c.args.gates.now env g _ v c.args.node _ _ _ _ c.in-Byte.is c.requires c.word-in-Byte.ensures c.in_ok-word-in-Byte.ensures

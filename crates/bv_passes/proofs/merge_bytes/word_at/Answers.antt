use Rattle.bv_passes.proofs.merge_bytes.word_at.Goals as goal

pub returns-in-Byte-clause-earlier : goal.returns-in-Byte-clause-earlier
returns-in-Byte-clause-earlier c = c.law.ensures.typed.earlier _ _ c.in-Byte.ensures.node

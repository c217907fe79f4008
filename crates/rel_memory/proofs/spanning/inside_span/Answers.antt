use Rattle.rel_memory.proofs.SpanLaws.{one_value, offset_value}
use Rattle.rel_memory.proofs.spanning.inside_span.Goals as goal

pub returns-then-span-eq1-clause-value : goal.returns-then-span-eq1-clause-value
returns-then-span-eq1-clause-value c = λ env v run fits.
    one_value (v c.args.x.0) (v c.in_ok-address.address.0) (v c.in_ok-inside.inside.0) c.args.span c.if-span-eq1.true
    (c.in_ok-address.ensures.value env v (c.in_ok-inside.ensures.extends.values env v run)) (c.in_ok-inside.ensures.value env v run)

pub returns-clause-value : goal.returns-clause-value
returns-clause-value c = λ env v run fits.
    let later = c.in_ok-inside-2.ensures.extends.values env v run in
    let middle = c.in_ok-length.ensures.extends.values env v later in
    let first = c.in_ok-offset.ensures.extends.values env v middle in
    offset_value (v c.args.x.0) (v c.in_ok-address.address.0) (v c.in_ok-offset.offset.0) (v c.in_ok-length.length.0) (v c.in_ok-inside-2.inside.0) c.args.span fits c.requires.fits c.requires.filled
    (c.in_ok-address.ensures.value env v first) (c.in_ok-offset.ensures.value env v middle) (c.in_ok-length.ensures.value env v later) (c.in_ok-inside-2.ensures.value env v run)

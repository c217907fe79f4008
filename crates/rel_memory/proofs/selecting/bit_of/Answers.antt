use Rattle.std.proofs.Common.{◌≡◌, ℕ, ◌<◌, ◌^◌, ◌*◌, ◌%◌, ap, ◌∙◌, arith}
use Rattle.std.proofs.lemmas.Nat.{pow_pos, pow_below}
use Rattle.ct_words.specs.Words.{flag, test_value}
use Rattle.ct_words.specs.declared.cond.Cond.TheVariants.{Ne}
use Rattle.rel_memory.proofs.ChoiceLaws.{bit_value}
use Rattle.rel_memory.proofs.selecting.bit_of.Goals as goal

pub returns-clause-value : goal.returns-clause-value
returns-clause-value c = λ env v run.
    let later = c.in_ok-bit.ensures.extends.values env v run in
    let middle = c.in_ok-zero.ensures.extends.values env v later in
    let first = c.in_ok-masked.ensures.extends.values env v middle in
    let small : 2 ^ c.args.place < 2 ^ 32 = pow_below c.args.place 32 c.requires.place in
    let mask : 1 * 2 ^ c.args.place % 2 ^ 32 ≡ 2 ^ c.args.place = omega arith in
    bit_value (v c.args.x.0) c.args.place (v c.in_ok-mask.mask.0) (v c.in_ok-zero.zero.0) (v c.in_ok-bit.bit.0)
    (c.in_ok-mask.ensures.value env v first ∙ mask) (pow_pos c.args.place) (c.in_ok-zero.ensures.value env v later)
    (c.in_ok-bit.ensures.value env v run ∙ ap (λ (n : ℕ). flag (test_value Ne n (v c.in_ok-zero.zero.0))) (c.in_ok-masked.ensures.value env v middle))

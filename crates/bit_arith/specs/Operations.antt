-- What the circuits of operations and conditions give, and how many gates they may take.
use Rattle.std.specs.Prelude.{◌≡◌, ℕ, List, length}
use Rattle.ct_words.specs.declared.alu_op.AluOp.{AluOp}
use Rattle.ct_words.specs.declared.alu_op.AluOp.TheVariants.{Sll, Srl, Sra, Mul, Mulh, Mulhsu, Mulhu, Div, Divu, Rem, Remu}
use Rattle.ct_words.specs.Words.{alu_value}
use Rattle.gate_form.specs.declared.wire.Wire.{Wire}
use Rattle.gate_form.specs.declared.wire.Gate.{Gate}
use Rattle.gate_form.specs.Net.{AreIn}
use Rattle.bit_arith.specs.declared.limits.TheConstants.{WORD_BITS, SUM_GATES, SHIFT_GATES, PRODUCT_GATES, QUOTIENT_GATES}
use Rattle.bit_arith.specs.Number.{word, IsWord}

-- two words of 32 wires of the gates
pub record AreWords (gates : List Gate) (a b : List Wire) : Type 0 where
  pub left_width : length a ≡ WORD_BITS
  pub right_width : length b ≡ WORD_BITS
  pub left : AreIn gates a
  pub right : AreIn gates b

-- a word that has the operation's value in every run
abbrev pub Computes : List Gate → AluOp → List Wire → List Wire → List Wire → Type 0
Computes gates op a b out = IsWord gates out WORD_BITS (λ v. alu_value op (word v a) (word v b))

-- the greatest number of gates that an operation adds
abbrev pub gate_limit : AluOp → ℕ
gate_limit Sll = SHIFT_GATES
gate_limit Srl = SHIFT_GATES
gate_limit Sra = SHIFT_GATES
gate_limit Mul = PRODUCT_GATES
gate_limit Mulh = PRODUCT_GATES
gate_limit Mulhsu = PRODUCT_GATES
gate_limit Mulhu = PRODUCT_GATES
gate_limit Div = QUOTIENT_GATES
gate_limit Divu = QUOTIENT_GATES
gate_limit Rem = QUOTIENT_GATES
gate_limit Remu = QUOTIENT_GATES
gate_limit _ = SUM_GATES

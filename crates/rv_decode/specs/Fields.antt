-- The fields and immediates of an instruction's word.
use Rattle.std.specs.Prelude.{ℕ, ◌+◌, ◌-◌, ◌*◌, ◌/◌, ◌%◌, ◌^◌}
use Rattle.ct_words.specs.Words.{sign_extended}

-- the bits of a word from high down to low
abbrev pub bits : ℕ → ℕ → ℕ → ℕ
bits word high low = word / 2 ^ low % 2 ^ (high + 1 - low)

-- the fields that all formats share, where a format has them
abbrev pub opcode : ℕ → ℕ
opcode word = bits word 6 0

abbrev pub rd : ℕ → ℕ
rd word = bits word 11 7

abbrev pub funct3 : ℕ → ℕ
funct3 word = bits word 14 12

abbrev pub rs1 : ℕ → ℕ
rs1 word = bits word 19 15

abbrev pub rs2 : ℕ → ℕ
rs2 word = bits word 24 20

abbrev pub funct7 : ℕ → ℕ
funct7 word = bits word 31 25

-- the immediates, as words

-- 12 bits, of the format I
abbrev pub i_immediate : ℕ → ℕ
i_immediate word = sign_extended 12 (bits word 31 20)

-- 12 bits, of the format S
abbrev pub s_immediate : ℕ → ℕ
s_immediate word = sign_extended 12 (bits word 31 25 * 2 ^ 5 + bits word 11 7)

-- 13 bits of which the lowest is 0, of the format B
abbrev pub b_immediate : ℕ → ℕ
b_immediate word =
    sign_extended 13 (bits word 31 31 * 2 ^ 12 + bits word 7 7 * 2 ^ 11 + bits word 30 25 * 2 ^ 5 + bits word 11 8 * 2)

-- the upper 20 bits of a word, of the format U
abbrev pub u_immediate : ℕ → ℕ
u_immediate word = bits word 31 12 * 2 ^ 12

-- 21 bits of which the lowest is 0, of the format J
abbrev pub j_immediate : ℕ → ℕ
j_immediate word =
    sign_extended 21 (bits word 31 31 * 2 ^ 20 + bits word 19 12 * 2 ^ 12 + bits word 20 20 * 2 ^ 11 + bits word 30 21 * 2)

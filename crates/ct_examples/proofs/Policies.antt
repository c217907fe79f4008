-- Policies of a file with one routine: which rule they fail first, and the bytes of input that they stand for.
use Rattle.std.proofs.Common.{◌≡◌, ℕ, List, [], ◌∷◌, Option, Some, None, true, false, option_and_then, option_map, codes, refl}
use Rattle.elf_load.specs.declared.elf.Elf.{Elf}
use Rattle.elf_load.specs.Symbols.{symbol_value}
use Rattle.rv_image.specs.Cell.{cells_from}
use Rattle.rv_image.specs.Image.{cell_at, allowed_at, loaded_at, word_at, executable_word_at, fetch_at}
use Rattle.rv_image.specs.Loading.{zeros_of, parts_of, insert_part, put_part, in_order, part_cells, cells_of}
use Rattle.ct_pairs.specs.declared.place.Place.TheVariants.{Register, Memory}
use Rattle.ct_pairs.specs.declared.input_byte.InputByte.{InputByte}
use Rattle.std.specs.Str.{is_utf8, chars}
use Rattle.toml.proofs.OnLiterals.{toml_on_literals}
use Rattle.ct_document.specs.declared.refusal.PolicyRefusal.TheVariants as refused
use Rattle.ct_document.specs.Document.{document_of}
use Rattle.ct_policy.specs.Numbers.{is_within, word_of, address_word}
use Rattle.ct_document.specs.Registers.{register_of}
use Rattle.ct_document.specs.Values.{address_value, register_value, kind_value}
use Rattle.ct_document.specs.Keys.{memory_value, register_input, memory_input, input_value, policy_of}
use Rattle.ct_policy.specs.Policy.{named_registers, accessible, input_regions, extra_spans, input_bytes, all_input_bytes}
use Rattle.elf_load.specs.Overlap.{first_pair_from, first_overlap}
use Rattle.ct_policy.specs.Regions.{is_accessible, first_outside, fit_memory}
use Rattle.ct_policy.specs.Rules.{names_are_known, numbers_are_within, are_registers, are_few, can_start, value_refusal, memory_refusal, first_policy_refusal}

-- a return at 0x10054, and no symbols
abbrev returning : Elf
returning = record {
  segments = record { address = 0x10054; bytes = 0x67 ∷ 0x80 ∷ 0x00 ∷ 0x00 ∷ []; read = true; write = false; exec = true } ∷ [];
  entry = 0x10054;
  symbols = [];
}

-- the input bytes of a policy
abbrev bytes_of : List ℕ → Option (List InputByte)
bytes_of text = option_map all_input_bytes (option_and_then (policy_of returning) (document_of text))

-- the low byte of a0 is secret
abbrev secret_register : List ℕ
secret_register = codes "format = 1\n[[input]]\nregister = \"a0\"\nbytes = 1\nkind = \"secret\"\n"

accepted : first_policy_refusal returning secret_register ≡ None
unfolding is_utf8 chars toml_on_literals document_of is_within word_of address_word register_of address_value register_value kind_value memory_value register_input memory_input input_value policy_of named_registers accessible input_regions extra_spans is_accessible first_outside first_pair_from first_overlap fit_memory names_are_known numbers_are_within are_registers are_few can_start value_refusal memory_refusal first_policy_refusal cell_at allowed_at loaded_at word_at executable_word_at fetch_at zeros_of parts_of insert_part put_part in_order part_cells cells_of cells_from
accepted = refl

one_byte : bytes_of secret_register ≡ Some (record { place = Register 10 0; secret = true } ∷ [])
unfolding is_utf8 chars toml_on_literals document_of is_within word_of address_word register_of address_value register_value kind_value register_input memory_input input_value policy_of input_bytes
one_byte = refl

unknown_name : first_policy_refusal returning (codes "format = 1\n[registers]\na0 = \"nobody\"\n") ≡ Some refused.NoSymbol
unfolding is_utf8 chars toml_on_literals document_of register_of address_value policy_of symbol_value names_are_known value_refusal first_policy_refusal
unknown_name = refl

-- two inputs have the byte at 0x20001
abbrev sharing : List ℕ
sharing =
    codes "format = 1\nmemory = [{at = 0x20000, length = 3}]\ninput = [{at = 0x20000, length = 2, kind = \"public\"}, {at = 0x20000, offset = 1, length = 1, kind = \"secret\"}]\n"

shared_byte : first_policy_refusal returning sharing ≡ Some (refused.RegionOverlap 0 1)
unfolding is_utf8 chars toml_on_literals document_of is_within word_of address_word register_of address_value register_value kind_value memory_value register_input memory_input input_value policy_of named_registers accessible input_regions is_accessible first_outside first_pair_from first_overlap names_are_known numbers_are_within are_registers value_refusal memory_refusal first_policy_refusal
shared_byte = refl

three_bytes : bytes_of sharing ≡ Some (record { place = Memory 0x20000; secret = false } ∷ record { place = Memory 0x20001; secret = false } ∷ record { place = Memory 0x20001; secret = true } ∷ [])
unfolding is_utf8 chars toml_on_literals document_of word_of address_word address_value register_value kind_value memory_value register_input memory_input input_value policy_of input_bytes
three_bytes = refl

-- Lists of words and the commands that they stand for, computed by the definition.
use Rattle.std.proofs.Common.{◌≡◌, [], ◌∷◌, codes, None, Some, refl}
use Rattle.ct_pairs.specs.declared.entry.Entry.TheVariants.{Number, Name}
use Rattle.ct_lines.specs.declared.command.Command.TheVariants.{Byte, Check, Replay, Trace, List, Gen}
use Rattle.ct_lines.specs.Commands.{command_of, files_of}

hexadecimal_entry : command_of (codes "byte" ∷ codes "f" ∷ codes "0x10054" ∷ codes "10" ∷ []) ≡ Some (Byte (codes "f") (Number 65620) 10)
hexadecimal_entry = refl

decimal_entry : command_of (codes "byte" ∷ codes "f" ∷ codes "65620" ∷ codes "0000000010" ∷ []) ≡ Some (Byte (codes "f") (Number 65620) 10)
decimal_entry = refl

entry_by_name : command_of (codes "byte" ∷ codes "f" ∷ codes "main" ∷ codes "10" ∷ []) ≡ Some (Byte (codes "f") (Name (codes "main")) 10)
entry_by_name = refl

name_with_a_digit_first : command_of (codes "byte" ∷ codes "f" ∷ codes "7main" ∷ codes "10" ∷ []) ≡ None
name_with_a_digit_first = refl

no_words : command_of [] ≡ None
no_words = refl

no_bound : command_of (codes "byte" ∷ codes "a" ∷ codes "0x10054" ∷ []) ≡ None
no_bound = refl

wide_bound : command_of (codes "byte" ∷ codes "f" ∷ codes "0x10054" ∷ codes "100001" ∷ []) ≡ None
wide_bound = refl

trace_of_a_routine : command_of (codes "trace" ∷ codes "f" ∷ codes "0x10054" ∷ codes "5" ∷ []) ≡ Some (Trace (codes "f") (Number 65620) 5)
trace_of_a_routine = refl

check_by_defaults : command_of (codes "check" ∷ codes "a" ∷ codes "p" ∷ []) ≡ Some (Check (codes "a") (codes "p") None 1 20000 16)
check_by_defaults = refl

options_among_names : command_of (codes "check" ∷ codes "--bound" ∷ codes "5" ∷ codes "a" ∷ codes "--targets" ∷ codes "2" ∷ codes "p" ∷ []) ≡ Some (Check (codes "a") (codes "p") (Some 5) 1 20000 2)
options_among_names = refl

options_after_names : command_of (codes "check" ∷ codes "a" ∷ codes "p" ∷ codes "--budget" ∷ codes "0" ∷ codes "--workers" ∷ codes "16" ∷ []) ≡ Some (Check (codes "a") (codes "p") None 16 0 16)
options_after_names = refl

option_twice : command_of (codes "check" ∷ codes "a" ∷ codes "p" ∷ codes "--bound" ∷ codes "5" ∷ codes "--bound" ∷ codes "6" ∷ []) ≡ None
option_twice = refl

option_with_equals : command_of (codes "check" ∷ codes "a" ∷ codes "p" ∷ codes "--bound=5" ∷ []) ≡ None
option_with_equals = refl

option_without_number : command_of (codes "check" ∷ codes "a" ∷ codes "p" ∷ codes "--bound" ∷ []) ≡ None
option_without_number = refl

option_before_a_name : command_of (codes "check" ∷ codes "a" ∷ codes "--bound" ∷ codes "p" ∷ []) ≡ None
option_before_a_name = refl

many_targets : command_of (codes "check" ∷ codes "a" ∷ codes "p" ∷ codes "--targets" ∷ codes "257" ∷ []) ≡ None
many_targets = refl

two_dashes : command_of (codes "check" ∷ codes "--" ∷ codes "a" ∷ []) ≡ None
two_dashes = refl

third_name : command_of (codes "check" ∷ codes "a" ∷ codes "p" ∷ codes "q" ∷ []) ≡ None
third_name = refl

replay_of_a_pair : command_of (codes "replay" ∷ codes "a" ∷ codes "p" ∷ codes "q" ∷ []) ≡ Some (Replay (codes "a") (codes "p") (codes "q"))
replay_of_a_pair = refl

replay_reads_three_files : files_of (Replay (codes "a") (codes "p") (codes "q")) ≡ codes "a" ∷ codes "p" ∷ codes "q" ∷ []
replay_reads_three_files = refl

list_of_a_file : command_of (codes "list" ∷ codes "f" ∷ []) ≡ Some (List (codes "f"))
list_of_a_file = refl

no_file : command_of (codes "list" ∷ []) ≡ None
no_file = refl

two_files : command_of (codes "list" ∷ codes "f" ∷ codes "g" ∷ []) ≡ None
two_files = refl

generated_routine : command_of (codes "gen" ∷ codes "1327" ∷ codes "1" ∷ []) ≡ Some (Gen 1327 1)
generated_routine = refl

no_blocks : command_of (codes "gen" ∷ codes "1327" ∷ codes "0" ∷ []) ≡ None
no_blocks = refl

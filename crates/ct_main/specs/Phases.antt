-- The phases of a command: it reads its files one after another, and holds each against its rules before it reads the next.
use Rattle.std.specs.Prelude.{ℕ, nat_lt, if◌then◌else◌, List, [], ◌∷◌, ◌++◌, length, map, slice_index_or, Option, None, Some, option_map, option_and_then}
use Rattle.std.specs.List.{zip}
use Rattle.std.specs.Option.{option_or, option_map_or}
use Rattle.elf_load.specs.declared.elf.Elf.{Elf}
use Rattle.elf_load.specs.File.{first_refusal}
use Rattle.elf_load.specs.Loading.{elf_of}
use Rattle.ct_outside.specs.declared.reading.TheConstants.{LONGEST}
use Rattle.ct_lines.specs.declared.command.Command.{Command}
use Rattle.ct_lines.specs.declared.command.Command.TheVariants.{Byte, Check, Replay, Trace, List as Listing, Gen}
use Rattle.ct_lines.specs.Commands.{files_of}
use Rattle.ct_pairs.specs.declared.entry.Entry.{Entry}
use Rattle.ct_pairs.specs.declared.input_byte.InputByte.{InputByte}
use Rattle.ct_document.specs.Document.{document_of}
use Rattle.ct_document.specs.Keys.{policy_of}
use Rattle.ct_policy.specs.Policy.{all_input_bytes}
use Rattle.ct_policy.specs.Rules.{first_policy_refusal}
use Rattle.ct_policy.specs.ByteJob.{byte_refusal}
use Rattle.pair_replay.specs.FirstBadLine.{first_bad_line}
use Rattle.ct_main.specs.declared.refusal.Refusal.{Refusal}
use Rattle.ct_main.specs.declared.refusal.Refusal.TheVariants.{Elf as FileRule, Policy as PolicyRule, Long, PairText, ReadFault}

-- the bytes of the executable, which is the first of a command's files
abbrev pub binary_bytes : List (List ℕ) → List ℕ
binary_bytes contents = slice_index_or contents 0 []

-- the executable
abbrev pub program_of : List (List ℕ) → Elf
program_of contents = elf_of (binary_bytes contents)

-- the bytes of the policy, which is the second file
abbrev pub policy_bytes : List (List ℕ) → List ℕ
policy_bytes contents = slice_index_or contents 1 []

-- the bytes of the pair's text, which is the third file
abbrev pub pair_bytes : List (List ℕ) → List ℕ
pair_bytes contents = slice_index_or contents 2 []

-- the input bytes that a policy names; none where it is no policy
abbrev pub policy_inputs : Elf → List ℕ → List InputByte
policy_inputs elf bytes = option_map_or all_input_bytes (option_and_then (policy_of elf) (document_of bytes)) []

-- the rules of a file: the first refusal, if any, from what it and the files before it hold
abbrev pub Rules : Type 0
Rules = List (List ℕ) → Option Refusal

-- the rules of executables
unfoldable pub executable_rules : Rules
executable_rules contents = option_map (λ rule. FileRule rule) (first_refusal (binary_bytes contents))

-- the rules of executables, and then those of a routine's entry
unfoldable pub routine_rules : Entry → Rules
routine_rules entry contents =
    option_or (executable_rules contents) (option_map (λ rule. PolicyRule rule) (byte_refusal (program_of contents) entry))

-- the rules of policies
unfoldable pub policy_rules : Rules
policy_rules contents = option_map (λ rule. PolicyRule rule) (first_policy_refusal (program_of contents) (policy_bytes contents))

-- the lines of the text of a pair, by the inputs of the policy
unfoldable pub pair_rules : Rules
pair_rules contents =
    option_map (λ k. PairText k) (first_bad_line (policy_inputs (program_of contents) (policy_bytes contents)) (pair_bytes contents))

-- the rules of each file of a command, in the order in which it reads them
abbrev pub rules_of : Command → List Rules
rules_of (Byte binary entry bound) = routine_rules entry ∷ []
rules_of (Check binary policy bound workers budget targets) = executable_rules ∷ policy_rules ∷ []
rules_of (Replay binary policy pair) = executable_rules ∷ policy_rules ∷ pair_rules ∷ []
rules_of (Trace binary entry bound) = routine_rules entry ∷ []
rules_of (Listing binary) = executable_rules ∷ []
rules_of (Gen number size) = []

-- a phase: the name of a file, and the rules that it is held against
abbrev pub Phase : Type 0
Phase = List ℕ × Rules

-- the phases of a command, one for each of its files
abbrev pub phases_of : Command → List Phase
phases_of command = zip (files_of command) (rules_of command)

-- the names of the files of phases
abbrev pub names_of : List Phase → List (List ℕ)
names_of phases = map (λ phase. phase.0) phases

-- what the files of phases hold, where files hold this
abbrev pub held : (List ℕ → Option (List ℕ)) → List Phase → List (Option (List ℕ))
held known phases = map (λ phase. known phase.0) phases

-- files that are all there
abbrev pub there : List (List ℕ) → List (Option (List ℕ))
there contents = map (λ bytes. Some bytes) contents

-- a file has to be there and to have at most LONGEST bytes; then what its bytes give
abbrev pub file_refusal : Option (List ℕ) → (List ℕ → Option Refusal) → Option Refusal
file_refusal None rest = Some ReadFault
file_refusal (Some bytes) rest = if nat_lt LONGEST (length bytes) then Some Long else rest bytes

-- the first refusal of phases whose files hold this, after files that hold what was read before
unfoldable pub phases_refusal : List (List ℕ) → List Phase → List (Option (List ℕ)) → Option Refusal
phases_refusal before (phase ∷ phases) (file ∷ files) =
    file_refusal file (λ bytes. option_or (phase.1 (before ++ bytes ∷ [])) (phases_refusal (before ++ bytes ∷ []) phases files))
phases_refusal before _ _ = None

-- the first refusal of a command where files hold this, in the order in which causes are looked for
abbrev pub refusal_of : Command → (List ℕ → Option (List ℕ)) → Option Refusal
refusal_of command known = phases_refusal [] (phases_of command) (held known (phases_of command))

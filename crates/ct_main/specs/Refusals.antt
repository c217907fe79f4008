-- The refusal that each lower layer's error stands for.
use Rattle.elf_load.specs.declared.refusal.ElfRefusal.{ElfRefusal}
use Rattle.elf_load.specs.declared.refusal.ElfRefusal.TheVariants as files
use Rattle.ct_outside.specs.declared.reading.ReadEnd.{ReadEnd}
use Rattle.ct_outside.specs.declared.reading.ReadEnd.TheVariants as ends
use Rattle.ct_lines.specs.declared.words_refusal.WordsRefusal.{WordsRefusal}
use Rattle.ct_lines.specs.declared.words_refusal.WordsRefusal.TheVariants as words
use Rattle.ct_document.specs.declared.refusal.PolicyRefusal.{PolicyRefusal}
use Rattle.ct_document.specs.declared.refusal.PolicyRefusal.TheVariants as policies
use Rattle.pair_replay.specs.declared.refusal.PairRefusal.{PairRefusal}
use Rattle.pair_replay.specs.declared.refusal.PairRefusal.TheVariants as pairs
use Rattle.ct_main.specs.declared.refusal.Refusal.{Refusal}
use Rattle.ct_main.specs.declared.refusal.Refusal.TheVariants.{Words, Elf, Policy, PairText, Long, Memory, ReadFault}

-- words that are no command
abbrev pub words_refusal : WordsRefusal → Refusal
words_refusal words.Memory = Memory
words_refusal words.Refused = Words

-- a file that wasn't read whole
abbrev pub read_refusal : ReadEnd → Refusal
read_refusal ends.Memory = Memory
read_refusal ends.Fault = ReadFault
read_refusal ends.Long = Long

-- a rule of executables
abbrev pub elf_refusal : ElfRefusal → Refusal
elf_refusal files.Memory = Memory
elf_refusal rule = Elf rule

-- a rule of policies
abbrev pub policy_refusal : PolicyRefusal → Refusal
policy_refusal policies.Memory = Memory
policy_refusal rule = Policy rule

-- a line of the text of a pair
abbrev pub pair_refusal : PairRefusal → Refusal
pair_refusal pairs.Memory = Memory
pair_refusal (pairs.Line line) = PairText line

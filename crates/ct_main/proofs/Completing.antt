-- Each cause that stands has its answer, by how the phases of the command ended.
use Rattle.std.proofs.Common.{◌≡◌, ◌∙◌, ◌≤◌, ℕ, List, [], ◌∷◌, length, Option, None, Some, IfSome, refl, sym, subst, inl, inr, arith, append-nil}
use Rattle.std.specs.List.{last_or}
use Rattle.ct_outside.specs.declared.reading.TheConstants.{LONGEST}
use Rattle.ct_lines.specs.declared.command.Command.{Command}
use Rattle.ct_main.specs.declared.refusal.Refusal.{Refusal}
use Rattle.ct_main.specs.declared.refusal.Refusal.TheVariants.{Words, Long, Memory, ReadFault}
use Rattle.ct_main.specs.Outside.{Reading, Writing, AskedNothing, SinkFailed}
use Rattle.ct_main.specs.Phases.{Phase, phases_of, held, phases_refusal, refusal_of}
use Rattle.ct_main.specs.Reads.{AskedFor, WasRefused, StoppedLong, StoppedCutOff, Accepted, EndsPhases}
use Rattle.ct_main.specs.Complete.{OrMemory, IsTold, IsComplete}
use Rattle.ct_main.proofs.PhaseLemmas.{told_refused, told_long, told_accepted}

-- the first refusal of a command is that of its phases
told_of : (words : Option Command) (reading : Reading) (command other : Command) (known : List ℕ → Option (List ℕ)) (expected : Option Refusal) → words ≡ Some command → IsTold words reading other known expected → phases_refusal [] (phases_of command) (held known (phases_of command)) ≡ expected
told_of words reading command other known expected words_are told =
    let from : words ≡ Some other = told.words_are in
    let same : other ≡ command = cc in
    subst (λ c. refusal_of c known ≡ expected) same told.first

-- the words were refused
pub complete_words : (words : Option Command) (reading : Reading) (writing : Writing) → words ≡ None → AskedNothing reading → IsComplete words reading writing (Some Words)
complete_words words reading writing refused nothing = record {
  words_refused = λ _. inl refl;
  long = λ asked _. absurd (asked nothing);
  absent = λ other known told. absurd (let from = told.words_are in cc);
  refused = λ other known first told _. absurd (let from = told.words_are in cc);
  answered = λ other known told _ _. absurd (let from = told.words_are in cc);
}

-- memory was wanted
pub complete_memory : (words : Option Command) (reading : Reading) (writing : Writing) → IsComplete words reading writing (Some Memory)
complete_memory words reading writing = record {
  words_refused = λ _. inr refl;
  long = λ _ _. inr refl;
  absent = λ _ _ _. inr refl;
  refused = λ _ _ _ _ _. inr refl;
  answered = λ _ _ _ _ _. inr refl;
}

-- a file gave a refusal of its rules
complete_refused : (words : Option Command) (reading : Reading) (writing : Writing) (command : Command) (refusal : Refusal) → words ≡ Some command → WasRefused reading (phases_of command) refusal → IsComplete words reading writing (Some refusal)
complete_refused words reading writing command refusal words_are was =
    let first : (known : List ℕ → Option (List ℕ)) (other : Command) (expected : Option Refusal) → IsTold words reading other known expected → Some refusal ≡ expected =
    λ known other expected told. sym (told_refused reading (phases_of command) known refusal told.files was) ∙ told_of words reading command other known expected words_are told in
    record {
      words_refused = λ refused. absurd cc;
      long = λ _ more. absurd (omega (arith, was.read.given, was.read.short, more));
      absent = λ other known told. inl (first known other (Some ReadFault) told);
      refused = λ other known expected told _. inl (first known other (Some expected) told);
      answered = λ other known told _ _. absurd (let same = first known other None told in cc);
    }

-- a file was too long
complete_long : (words : Option Command) (reading : Reading) (writing : Writing) (command : Command) → words ≡ Some command → StoppedLong reading (phases_of command) → IsComplete words reading writing (Some Long)
complete_long words reading writing command words_are was =
    let first : (known : List ℕ → Option (List ℕ)) (other : Command) (expected : Option Refusal) → IsTold words reading other known expected → Some Long ≡ expected =
    λ known other expected told. sym (told_long reading (phases_of command) known told.files was) ∙ told_of words reading command other known expected words_are told in
    record {
      words_refused = λ refused. absurd cc;
      long = λ _ _. inl refl;
      absent = λ other known told. inl (first known other (Some ReadFault) told);
      refused = λ other known expected told _. inl (first known other (Some expected) told);
      answered = λ other known told _ _. absurd (let same = first known other None told in cc);
    }

-- reading a file failed
complete_cut_off : (words : Option Command) (reading : Reading) (writing : Writing) (command : Command) → words ≡ Some command → StoppedCutOff reading (phases_of command) → IsComplete words reading writing (Some ReadFault)
complete_cut_off words reading writing command words_are was = record {
  words_refused = λ refused. absurd cc;
  long = λ _ more. absurd (omega (arith, was.cut_off.short, more));
  absent = λ _ _ _. inl refl;
  refused = λ other known first told works. absurd (works was.cut_off.cause);
  answered = λ other known told works _. absurd (works was.cut_off.cause);
}

-- why a command has a refusal
pub complete_ends : (words : Option Command) (reading : Reading) (writing : Writing) (command : Command) (refusal : Refusal) → words ≡ Some command → EndsPhases reading (phases_of command) refusal → IsComplete words reading writing (Some refusal)
complete_ends words reading writing command Memory words_are ends = complete_memory words reading writing
complete_ends words reading writing command Long words_are ends = complete_long words reading writing command words_are ends
complete_ends words reading writing command ReadFault words_are ends = complete_cut_off words reading writing command words_are ends
complete_ends words reading writing command refusal words_are ends = complete_refused words reading writing command refusal words_are ends.1

-- the last file that was read has no more than LONGEST bytes
last_short : (given : ℕ) (bytes : List ℕ) (contents : List (List ℕ)) → IfSome (last_or (Some bytes) contents) (λ b. (given ≡ length b) × (length b ≤ LONGEST)) → given ≤ LONGEST
last_short given bytes [] short = omega (arith, short.0, short.1)
last_short given bytes (next ∷ contents) short = last_short given next contents short

given_short : (reading : Reading) (phases : List Phase) (contents : List (List ℕ)) → length contents ≡ length phases → AskedFor reading phases → (AskedNothing reading → ⊥) → IfSome (last_or None contents) (λ bytes. (reading.given ≡ length bytes) × (length bytes ≤ LONGEST)) → reading.given ≤ LONGEST
given_short reading [] [] count asks asked given = absurd (asked (asks ∙ append-nil reading.asked_before))
given_short reading [] (bytes ∷ contents) count asks asked given = last_short reading.given bytes contents given
given_short reading (phase ∷ phases) [] count asks asked given = absurd (omega (arith, count))
given_short reading (phase ∷ phases) (bytes ∷ contents) count asks asked given = last_short reading.given bytes contents given

-- all files passed: the answer is none, unless the sink failed
pub complete_accepted : (words : Option Command) (reading : Reading) (writing : Writing) (command : Command) (contents : List (List ℕ)) (refusal : Option Refusal) → words ≡ Some command → Accepted reading (phases_of command) contents → ((SinkFailed writing → ⊥) → OrMemory None refusal) → IsComplete words reading writing refusal
complete_accepted words reading writing command contents refusal words_are accepted none =
    let first : (known : List ℕ → Option (List ℕ)) (other : Command) (expected : Option Refusal) → IsTold words reading other known expected → None ≡ expected =
    λ known other expected told. sym (told_accepted reading (phases_of command) known contents told.files accepted) ∙ told_of words reading command other known expected words_are told in
    record {
      words_refused = λ refused. absurd cc;
      long = λ asked more. absurd (let short = given_short reading (phases_of command) contents accepted.passed.count accepted.asks asked accepted.given in omega (arith, short, more));
      absent = λ other known told. absurd (let same = first known other (Some ReadFault) told in cc);
      refused = λ other known expected told _. absurd (let same = first known other (Some expected) told in cc);
      answered = λ _ _ _ _ works. none works;
    }

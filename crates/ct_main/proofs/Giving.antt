-- What the phases of a command give, by how its calls ended.
use Rattle.std.proofs.Common.{◌≡◌, ◌≢◌, ◌∙◌, ◌≤◌, ◌<◌, ℕ, List, [], ◌∷◌, ◌++◌, length, Option, None, Some, option_map, Result, Ok, Err, IfSome, IsSomeAnd, refl, sym, ap, subst, inl, inr, arith, append_assoc}
use Rattle.std.specs.Prelude.{MatchResult}
use Rattle.std.specs.Result.{IsErrAnd}
use Rattle.elf_load.specs.declared.refusal.ElfRefusal.{ElfRefusal}
use Rattle.elf_load.specs.declared.refusal.ElfRefusal.TheVariants as files
use Rattle.elf_load.specs.declared.elf.Elf.{Elf}
use Rattle.elf_load.specs.File.{first_refusal}
use Rattle.elf_load.specs.Loading.{elf_of}
use Rattle.ct_outside.specs.declared.reading.TheConstants.{LONGEST}
use Rattle.ct_outside.specs.declared.reading.ReadEnd.{ReadEnd}
use Rattle.ct_outside.specs.declared.reading.ReadEnd.TheVariants as ends
use Rattle.ct_pairs.specs.declared.entry.Entry.{Entry}
use Rattle.ct_pairs.specs.declared.job.Job.{Job}
use Rattle.ct_pairs.specs.declared.pair.Pair.{Pair}
use Rattle.ct_pairs.specs.Pair.{IsPair}
use Rattle.ct_document.specs.declared.refusal.PolicyRefusal.{PolicyRefusal}
use Rattle.ct_document.specs.declared.refusal.PolicyRefusal.TheVariants as policies
use Rattle.ct_policy.specs.declared.options.Options.{Options}
use Rattle.ct_policy.specs.ByteJob.{byte_refusal, IsByteJobAt}
use Rattle.ct_policy.specs.Job.{IsJobOfBytes}
use Rattle.ct_policy.specs.Rules.{first_policy_refusal}
use Rattle.pair_replay.specs.declared.refusal.PairRefusal.{PairRefusal}
use Rattle.pair_replay.specs.declared.refusal.PairRefusal.TheVariants as pairs
use Rattle.pair_replay.specs.PairText.{pair_text, wanted_lines, IsBadLine, HasBadLine}
use Rattle.pair_replay.specs.FirstBadLine.{first_bad_line}
use Rattle.ct_main.specs.declared.refusal.Refusal.{Refusal}
use Rattle.ct_main.specs.declared.refusal.Refusal.TheVariants.{Elf as FileRule, Policy as PolicyRule, PairText}
use Rattle.ct_main.specs.Refusals.{read_refusal, elf_refusal, policy_refusal, pair_refusal}
use Rattle.ct_main.specs.Outside.{Reading, read_of, AskedNothing, WasRead}
use Rattle.ct_main.specs.Phases.{Phase, Rules, program_of, policy_bytes, policy_inputs, executable_rules, routine_rules, policy_rules, pair_rules}
use Rattle.ct_main.specs.Reads.{Begun, Accepted, EndsPhases}
use Rattle.ct_main.specs.Texts.{IsPairFor}
use Rattle.ct_main.specs.Tasks.{AskedForName, IsRead, IsUnread, PassedWith, Gives, GivesFirst}
use Rattle.ct_main.proofs.Passing.{none_accepted, first_accepted, second_accepted, first_begun, second_begun, rose_after}
use Rattle.ct_main.proofs.Following.{next_begun, next_read, next_unread, next_accepted}
use Rattle.ct_main.proofs.RuleLemmas.{executable_meets, routine_meets, routine_fails, policy_meets, policy_fails, pair_is, inputs_are}

-- phases that ended give no more than that
err_gives : {T : Type 0} (reading : Reading) (phases : List Phase) (Says : List (List ℕ) → T → Type 0) (result : Result T Refusal) (refusal : Refusal) → IsErrAnd result (λ r. r ≡ refusal) → EndsPhases reading phases refusal → Gives reading phases Says result
err_gives reading phases Says (Ok made) refusal is ends = absurd is
err_gives reading phases Says (Err other) refusal is ends = subst (EndsPhases reading phases) (sym is) ends

-- and whatever phases follow
err_gives_first : {T : Type 0} (reading : Reading) (phases : List Phase) (Says : List (List ℕ) → T → Type 0) (result : Result T Refusal) (refusal : Refusal) → IsErrAnd result (λ r. r ≡ refusal) → ((rest : List Phase) → EndsPhases reading (phases ++ rest) refusal) → GivesFirst reading phases Says result
err_gives_first reading phases Says (Ok made) refusal is ends = absurd is
err_gives_first reading phases Says (Err other) refusal is ends = λ rest. subst (EndsPhases reading (phases ++ rest)) (sym is) (ends rest)

-- what needs no file
pub no_file_gives : (reading : Reading) (Says : List (List ℕ) → Type 0) → AskedNothing reading → Says [] → PassedWith reading [] Says
no_file_gives reading Says nothing says = record { contents = []; accepted = none_accepted reading nothing; says = says }

-- the first file wasn't read whole
unread_ends : (reading : Reading) (name : List ℕ) (rules : Rules) (rest : List Phase) (end : ReadEnd) → IsUnread reading name end → EndsPhases reading ((name, rules) ∷ rest) (read_refusal end)
unread_ends reading name rules rest ends.Memory (inl nothing) = inl nothing
unread_ends reading name rules rest ends.Memory (inr asks) = inr (inl (first_begun reading name rules rest asks))
unread_ends reading name rules rest ends.Fault w = record { last = first_begun reading name rules rest w.0; cut_off = w.1 }
unread_ends reading name rules rest ends.Long w = record { last = first_begun reading name rules rest w.0; long = w.1 }

pub unread_gives : {T : Type 0} (reading : Reading) (name : List ℕ) (rules : Rules) (rest : List Phase) (Says : List (List ℕ) → T → Type 0) (result : Result T Refusal) (end : ReadEnd) → IsErrAnd result (λ r. r ≡ read_refusal end) → IsUnread reading name end → Gives reading ((name, rules) ∷ rest) Says result
unread_gives reading name rules rest Says result end is why =
    err_gives reading ((name, rules) ∷ rest) Says result (read_refusal end) is (unread_ends reading name rules rest end why)

-- the file that was begun last is no executable
elf_ends : (reading : Reading) (phases : List Phase) (last : Begun reading phases) (bytes : List ℕ) (rule : ElfRefusal) → WasRead reading last.begun.0 bytes → (rule ≢ files.Memory → last.begun.1 (last.contents ++ bytes ∷ []) ≡ Some (FileRule rule)) → EndsPhases reading phases (elf_refusal rule)
elf_ends reading phases last bytes files.Memory read first = inr (inl last)
elf_ends reading phases last bytes rule read first =
    let other : rule ≢ files.Memory = λ same. absurd cc in
    (other, record { last = last; bytes = bytes; read = read; first = first other })

-- the file that was begun last meets not the rules of policies, or of entries
policy_ends : (reading : Reading) (phases : List Phase) (last : Begun reading phases) (bytes : List ℕ) (rule : PolicyRefusal) → WasRead reading last.begun.0 bytes → (rule ≢ policies.Memory → last.begun.1 (last.contents ++ bytes ∷ []) ≡ Some (PolicyRule rule)) → EndsPhases reading phases (policy_refusal rule)
policy_ends reading phases last bytes policies.Memory read first = inr (inl last)
policy_ends reading phases last bytes rule read first =
    let other : rule ≢ policies.Memory = λ same. absurd cc in
    (other, record { last = last; bytes = bytes; read = read; first = first other })

-- the first file is no executable
pub elf_gives : {T : Type 0} (reading : Reading) (name bytes : List ℕ) (rules : Rules) (rest : List Phase) (Says : List (List ℕ) → T → Type 0) (result : Result T Refusal) (rule : ElfRefusal) → IsErrAnd result (λ r. r ≡ elf_refusal rule) → IsRead reading name bytes → (rule ≢ files.Memory → rules (bytes ∷ []) ≡ Some (FileRule rule)) → Gives reading ((name, rules) ∷ rest) Says result
elf_gives reading name bytes rules rest Says result rule is file first =
    err_gives reading ((name, rules) ∷ rest) Says result (elf_refusal rule) is
    (elf_ends reading ((name, rules) ∷ rest) (first_begun reading name rules rest file.asks) bytes rule file.read first)

-- an executable
pub executable_gives : (reading : Reading) (name bytes : List ℕ) (elf : Elf) → IsRead reading name bytes → first_refusal bytes ≡ None → elf ≡ elf_of bytes → PassedWith reading ((name, executable_rules) ∷ []) (λ contents. elf ≡ program_of contents)
executable_gives reading name bytes elf file meets elf_is =
    record { contents = bytes ∷ []; accepted = first_accepted reading name bytes executable_rules file (executable_meets bytes meets); says = elf_is }

-- no run begins at an entry
pub entry_gives : {T : Type 0} (reading : Reading) (name bytes : List ℕ) (elf : Elf) (entry : Entry) (Says : List (List ℕ) → T → Type 0) (result : Result T Refusal) (rule : PolicyRefusal) → IsErrAnd result (λ r. r ≡ policy_refusal rule) → IsRead reading name bytes → first_refusal bytes ≡ None → elf ≡ elf_of bytes → (rule ≢ policies.Memory → byte_refusal elf entry ≡ Some rule) → Gives reading ((name, routine_rules entry) ∷ []) Says result
entry_gives reading name bytes elf entry Says result rule is file meets elf_is fails =
    err_gives reading ((name, routine_rules entry) ∷ []) Says result (policy_refusal rule) is
    (policy_ends reading ((name, routine_rules entry) ∷ []) (first_begun reading name (routine_rules entry) [] file.asks) bytes rule file.read
    (λ other. routine_fails bytes entry rule meets (subst (λ e. byte_refusal e entry ≡ Some rule) elf_is (fails other))))

-- the job of a routine
pub routine_gives : (reading : Reading) (name bytes : List ℕ) (elf : Elf) (entry : Entry) (bound : ℕ) (job : Job) → IsRead reading name bytes → first_refusal bytes ≡ None → elf ≡ elf_of bytes → IsByteJobAt elf entry bound job → PassedWith reading ((name, routine_rules entry) ∷ []) (λ contents. IsByteJobAt (program_of contents) entry bound job)
routine_gives reading name bytes elf entry bound job file meets elf_is job_is =
    let own = subst (λ e. IsByteJobAt e entry bound job) elf_is job_is in
    record { contents = bytes ∷ []; accepted = first_accepted reading name bytes (routine_rules entry) file (routine_meets bytes entry meets own.meets); says = own }

-- the phases of a command that reads an executable and a policy, and of others that follow
abbrev pub policy_phases : List ℕ → List ℕ → Rules → List Phase → List Phase
policy_phases name other rules rest = (name, executable_rules) ∷ (other, rules) ∷ rest

-- the names of two files were asked for, one after the other
both_asked : (before between after : List (List ℕ)) (name other : List ℕ) → between ≡ before ++ name ∷ [] → after ≡ between ++ other ∷ [] → after ≡ before ++ name ∷ other ∷ []
both_asked before between after name other first second = second ∙ ap (λ b. b ++ other ∷ []) first ∙ append_assoc before (name ∷ []) (other ∷ [])

-- the file of the policy was begun
abbrev policy_begun : {F : Type 0} (files : F → Option (List ℕ → Option (List ℕ))) (asked : F → List (List ℕ)) (given faults : F → ℕ) (old mid new : F) (name other bytes : List ℕ) (rules : Rules) (rest : List Phase) → IsRead (read_of files asked given faults old mid) name bytes → first_refusal bytes ≡ None → AskedForName (read_of files asked given faults mid new) other → Begun (read_of files asked given faults old new) (policy_phases name other rules rest)
policy_begun files asked given faults old mid new name other bytes rules rest file meets asks =
    second_begun (read_of files asked given faults old mid) (read_of files asked given faults old new) name other bytes executable_rules rules rest file (executable_meets bytes meets) refl
    (both_asked (asked old) (asked mid) (asked new) name other file.asks asks)

-- the policy wasn't read whole
policy_unread_ends : {F : Type 0} (files : F → Option (List ℕ → Option (List ℕ))) (asked : F → List (List ℕ)) (given faults : F → ℕ) (old mid new : F) (name other bytes : List ℕ) (rules : Rules) (rest : List Phase) (end : ReadEnd) → IsRead (read_of files asked given faults old mid) name bytes → first_refusal bytes ≡ None → files mid ≡ files old → faults old ≤ faults mid → IsUnread (read_of files asked given faults mid new) other end → EndsPhases (read_of files asked given faults old new) (policy_phases name other rules rest) (read_refusal end)
policy_unread_ends files asked given faults old mid new name other bytes rules rest ends.Memory file meets same counts (inl nothing) =
    inr (inl (first_begun (read_of files asked given faults old new) name executable_rules ((other, rules) ∷ rest) (nothing ∙ file.asks)))
policy_unread_ends files asked given faults old mid new name other bytes rules rest ends.Memory file meets same counts (inr asks) =
    inr (inl (policy_begun files asked given faults old mid new name other bytes rules rest file meets asks))
policy_unread_ends files asked given faults old mid new name other bytes rules rest ends.Fault file meets same counts w = record {
  last = policy_begun files asked given faults old mid new name other bytes rules rest file meets w.0;
  cut_off = record { cause = rose_after (faults old) (faults mid) (faults new) counts w.1.cause; short = w.1.short };
}
policy_unread_ends files asked given faults old mid new name other bytes rules rest ends.Long file meets same counts w = record {
  last = policy_begun files asked given faults old mid new name other bytes rules rest file meets w.0;
  long = record { given = w.1.given; own = subst (λ f. IfSome f (λ known. IsSomeAnd (known other) (λ b. LONGEST < length b))) same w.1.own };
}

-- the policy meets not its rules
policy_fails_ends : {F : Type 0} (files : F → Option (List ℕ → Option (List ℕ))) (asked : F → List (List ℕ)) (given faults : F → ℕ) (old mid new : F) (name other bytes policy : List ℕ) (rules : Rules) (rest : List Phase) (rule : PolicyRefusal) → IsRead (read_of files asked given faults old mid) name bytes → first_refusal bytes ≡ None → files mid ≡ files old → IsRead (read_of files asked given faults mid new) other policy → (rule ≢ policies.Memory → rules (bytes ∷ policy ∷ []) ≡ Some (PolicyRule rule)) → EndsPhases (read_of files asked given faults old new) (policy_phases name other rules rest) (policy_refusal rule)
policy_fails_ends files asked given faults old mid new name other bytes policy rules rest rule file meets same read fails =
    policy_ends (read_of files asked given faults old new) (policy_phases name other rules rest) (policy_begun files asked given faults old mid new name other bytes rules rest file meets read.asks) policy rule
    (next_read files asked given faults old mid new other policy same read.read) fails

-- an executable and a policy were read and passed
policy_accepted : {F : Type 0} (files : F → Option (List ℕ → Option (List ℕ))) (asked : F → List (List ℕ)) (given faults : F → ℕ) (old mid new : F) (name other bytes policy : List ℕ) (rules : Rules) → IsRead (read_of files asked given faults old mid) name bytes → first_refusal bytes ≡ None → files mid ≡ files old → IsRead (read_of files asked given faults mid new) other policy → rules (bytes ∷ policy ∷ []) ≡ None → Accepted (read_of files asked given faults old new) (policy_phases name other rules []) (bytes ∷ policy ∷ [])
policy_accepted files asked given faults old mid new name other bytes policy rules file meets same read passes =
    second_accepted (read_of files asked given faults old mid) (read_of files asked given faults old new) name other bytes policy executable_rules rules file (executable_meets bytes meets) refl
    (next_read files asked given faults old mid new other policy same read.read) passes
    (both_asked (asked old) (asked mid) (asked new) name other file.asks read.asks)

-- the executable of a policy's command wasn't read whole
pub policy_no_file_gives : {T : Type 0} (reading : Reading) (name other : List ℕ) (Says : List (List ℕ) → T → Type 0) (result : Result T Refusal) (end : ReadEnd) → IsErrAnd result (λ r. r ≡ read_refusal end) → IsUnread reading name end → GivesFirst reading (policy_phases name other policy_rules []) Says result
policy_no_file_gives reading name other Says result end is why =
    err_gives_first reading (policy_phases name other policy_rules []) Says result (read_refusal end) is (λ rest. unread_ends reading name executable_rules ((other, policy_rules) ∷ rest) end why)

-- it is no executable
pub policy_no_elf_gives : {T : Type 0} (reading : Reading) (name other bytes : List ℕ) (Says : List (List ℕ) → T → Type 0) (result : Result T Refusal) (rule : ElfRefusal) → IsErrAnd result (λ r. r ≡ elf_refusal rule) → IsRead reading name bytes → (rule ≢ files.Memory → executable_rules (bytes ∷ []) ≡ Some (FileRule rule)) → GivesFirst reading (policy_phases name other policy_rules []) Says result
policy_no_elf_gives reading name other bytes Says result rule is file first =
    err_gives_first reading (policy_phases name other policy_rules []) Says result (elf_refusal rule) is
    (λ rest. elf_ends reading (policy_phases name other policy_rules rest) (first_begun reading name executable_rules ((other, policy_rules) ∷ rest) file.asks) bytes rule file.read first)

-- the policy wasn't read whole
pub policy_unread_gives : {F T : Type 0} (files : F → Option (List ℕ → Option (List ℕ))) (asked : F → List (List ℕ)) (given faults : F → ℕ) (old mid new : F) (name other bytes : List ℕ) (Says : List (List ℕ) → T → Type 0) (result : Result T Refusal) (end : ReadEnd) → IsErrAnd result (λ r. r ≡ read_refusal end) → IsRead (read_of files asked given faults old mid) name bytes → first_refusal bytes ≡ None → files mid ≡ files old → faults old ≤ faults mid → IsUnread (read_of files asked given faults mid new) other end → GivesFirst (read_of files asked given faults old new) (policy_phases name other policy_rules []) Says result
policy_unread_gives files asked given faults old mid new name other bytes Says result end is file meets same counts why =
    err_gives_first (read_of files asked given faults old new) (policy_phases name other policy_rules []) Says result (read_refusal end) is
    (λ rest. policy_unread_ends files asked given faults old mid new name other bytes policy_rules rest end file meets same counts why)

-- the policy meets not its rules
pub policy_fails_gives : {F T : Type 0} (files : F → Option (List ℕ → Option (List ℕ))) (asked : F → List (List ℕ)) (given faults : F → ℕ) (old mid new : F) (name other bytes policy : List ℕ) (elf : Elf) (Says : List (List ℕ) → T → Type 0) (result : Result T Refusal) (rule : PolicyRefusal) → IsErrAnd result (λ r. r ≡ policy_refusal rule) → IsRead (read_of files asked given faults old mid) name bytes → first_refusal bytes ≡ None → elf ≡ elf_of bytes → files mid ≡ files old → IsRead (read_of files asked given faults mid new) other policy → (rule ≢ policies.Memory → first_policy_refusal elf policy ≡ Some rule) → GivesFirst (read_of files asked given faults old new) (policy_phases name other policy_rules []) Says result
policy_fails_gives files asked given faults old mid new name other bytes policy elf Says result rule is file meets elf_is same read fails =
    err_gives_first (read_of files asked given faults old new) (policy_phases name other policy_rules []) Says result (policy_refusal rule) is
    (λ rest. policy_fails_ends files asked given faults old mid new name other bytes policy policy_rules rest rule file meets same read
    (λ else. policy_fails bytes policy rule (subst (λ e. first_policy_refusal e policy ≡ Some rule) elf_is (fails else))))

-- the job of a policy
pub policy_gives : {F : Type 0} (files : F → Option (List ℕ → Option (List ℕ))) (asked : F → List (List ℕ)) (given faults : F → ℕ) (old mid new : F) (name other bytes policy : List ℕ) (elf : Elf) (options : Options) (job : Job) → IsRead (read_of files asked given faults old mid) name bytes → first_refusal bytes ≡ None → elf ≡ elf_of bytes → files mid ≡ files old → IsRead (read_of files asked given faults mid new) other policy → IsJobOfBytes elf options policy job → PassedWith (read_of files asked given faults old new) (policy_phases name other policy_rules []) (λ contents. IsJobOfBytes (program_of contents) options (policy_bytes contents) job)
policy_gives files asked given faults old mid new name other bytes policy elf options job file meets elf_is same read job_is =
    let own = subst (λ e. IsJobOfBytes e options policy job) elf_is job_is in
    record {
      contents = bytes ∷ policy ∷ [];
      accepted = policy_accepted files asked given faults old mid new name other bytes policy policy_rules file meets same read (policy_meets bytes policy own.meets);
      says = own;
    }

-- so ends a command that reads no more
pub policy_ends_command : {T : Type 0} (reading : Reading) (name other : List ℕ) (Made : T → Type 0) (result : Result T Refusal) (refusal : Refusal) → IsErrAnd result (λ r. r ≡ refusal) → ((rest : List Phase) → EndsPhases reading (policy_phases name other policy_rules [] ++ rest) refusal) → MatchResult result Made (EndsPhases reading (policy_phases name other policy_rules []))
policy_ends_command reading name other Made (Ok made) refusal is ends = absurd is
policy_ends_command reading name other Made (Err found) refusal is ends = subst (EndsPhases reading (policy_phases name other policy_rules [])) (sym is) (ends [])

-- the phases of a replay
abbrev pub replay_phases : List ℕ → List ℕ → List ℕ → List Phase
replay_phases name other pair = policy_phases name other policy_rules ((pair, pair_rules) ∷ [])

-- what the job of a policy is known by
abbrev pub IsPolicyJob : Options → Job → List (List ℕ) → Type 0
IsPolicyJob options job contents = IsJobOfBytes (program_of contents) options (policy_bytes contents) job

-- the policy of a replay wasn't read whole, or meets not its rules
pub replay_ends_gives : {T : Type 0} (reading : Reading) (name other pair : List ℕ) (Says : List (List ℕ) → T → Type 0) (result : Result T Refusal) (refusal : Refusal) → IsErrAnd result (λ r. r ≡ refusal) → ((rest : List Phase) → EndsPhases reading (policy_phases name other policy_rules [] ++ rest) refusal) → Gives reading (replay_phases name other pair) Says result
replay_ends_gives reading name other pair Says result refusal is ends =
    err_gives reading (replay_phases name other pair) Says result refusal is (ends ((pair, pair_rules) ∷ []))

-- the text of the pair wasn't read whole
pub pair_unread_gives : {F T : Type 0} (files : F → Option (List ℕ → Option (List ℕ))) (asked : F → List (List ℕ)) (given faults : F → ℕ) (old mid new : F) (name other pair : List ℕ) (SaysJob : List (List ℕ) → Type 0) (Says : List (List ℕ) → T → Type 0) (result : Result T Refusal) (end : ReadEnd) → IsErrAnd result (λ r. r ≡ read_refusal end) → PassedWith (read_of files asked given faults old mid) (policy_phases name other policy_rules []) SaysJob → files mid ≡ files old → faults old ≤ faults mid → IsUnread (read_of files asked given faults mid new) pair end → Gives (read_of files asked given faults old new) (replay_phases name other pair) Says result
pair_unread_gives files asked given faults old mid new name other pair SaysJob Says result end is passed same counts why =
    err_gives (read_of files asked given faults old new) (replay_phases name other pair) Says result (read_refusal end) is
    (next_unread files asked given faults old mid new ((name, executable_rules) ∷ []) (other, policy_rules) [] passed.contents pair pair_rules end passed.accepted same counts why)

-- two files hold the bytes of an executable and of a policy
two_contents : (contents : List (List ℕ)) → length contents ≡ 2 → (bytes : List ℕ) × (policy : List ℕ) × (contents ≡ bytes ∷ policy ∷ [])
two_contents [] count = absurd (omega (arith, count))
two_contents (bytes ∷ []) count = absurd (omega (arith, count))
two_contents (bytes ∷ policy ∷ []) count = (bytes, policy, refl)
two_contents (bytes ∷ policy ∷ more ∷ contents) count = absurd (omega (arith, count))

-- what the third file gives, by the inputs of the job
pair_first : (contents : List (List ℕ)) (pair : List ℕ) (options : Options) (job : Job) (expected : Option ℕ) → length contents ≡ 2 → IsPolicyJob options job contents → first_bad_line job.inputs pair ≡ expected → pair_rules (contents ++ pair ∷ []) ≡ option_map (λ k. PairText k) expected
pair_first contents pair options job expected count job_is first =
    let two = two_contents contents count in
    let is = subst (IsPolicyJob options job) two.2 job_is in
    let inputs = inputs_are (elf_of two.0) options two.1 job is in
    let own : first_bad_line (policy_inputs (elf_of two.0) two.1) pair ≡ expected = ap (λ i. first_bad_line i pair) inputs ∙ first in
    ap (λ c. pair_rules (c ++ pair ∷ [])) two.2 ∙ pair_is two.0 two.1 pair expected own

-- the text of the pair has a bad line
pair_refused : {F : Type 0} (files : F → Option (List ℕ → Option (List ℕ))) (asked : F → List (List ℕ)) (given faults : F → ℕ) (old mid new : F) (name other pair bytes : List ℕ) (options : Options) (job : Job) (refusal : PairRefusal) → PassedWith (read_of files asked given faults old mid) (policy_phases name other policy_rules []) (IsPolicyJob options job) → files mid ≡ files old → IsRead (read_of files asked given faults mid new) pair bytes → ((k : ℕ) → refusal ≡ pairs.Line k → first_bad_line job.inputs bytes ≡ Some k) → EndsPhases (read_of files asked given faults old new) (replay_phases name other pair) (pair_refusal refusal)
pair_refused files asked given faults old mid new name other pair bytes options job pairs.Memory passed same read first =
    inr (inl (next_begun files asked given faults old mid new (policy_phases name other policy_rules []) [] passed.contents pair pair_rules passed.accepted read.asks))
pair_refused files asked given faults old mid new name other pair bytes options job (pairs.Line k) passed same read first = (
  tt,
  record {
    last = next_begun files asked given faults old mid new (policy_phases name other policy_rules []) [] passed.contents pair pair_rules passed.accepted read.asks;
    bytes = bytes;
    read = next_read files asked given faults old mid new pair bytes same read.read;
    first = pair_first passed.contents bytes options job (Some k) passed.accepted.passed.count passed.says (first k refl);
  },
)

pub pair_fails_gives : {F T : Type 0} (files : F → Option (List ℕ → Option (List ℕ))) (asked : F → List (List ℕ)) (given faults : F → ℕ) (old mid new : F) (name other pair bytes : List ℕ) (options : Options) (job : Job) (Says : List (List ℕ) → T → Type 0) (result : Result T Refusal) (refusal : PairRefusal) → IsErrAnd result (λ r. r ≡ pair_refusal refusal) → PassedWith (read_of files asked given faults old mid) (policy_phases name other policy_rules []) (IsPolicyJob options job) → files mid ≡ files old → IsRead (read_of files asked given faults mid new) pair bytes → HasBadLine job bytes refusal → ((k : ℕ) → IsBadLine (wanted_lines job) bytes k → first_bad_line job.inputs bytes ≡ Some k) → Gives (read_of files asked given faults old new) (replay_phases name other pair) Says result
pair_fails_gives files asked given faults old mid new name other pair bytes options job Says result refusal is passed same read bad law =
    err_gives (read_of files asked given faults old new) (replay_phases name other pair) Says result (pair_refusal refusal) is
    (pair_refused files asked given faults old mid new name other pair bytes options job refusal passed same read (λ k line. law k (subst (HasBadLine job bytes) line bad)))

-- the job of a policy and the pair of a text
pub pair_gives : {F : Type 0} (files : F → Option (List ℕ → Option (List ℕ))) (asked : F → List (List ℕ)) (given faults : F → ℕ) (old mid new : F) (name other pair bytes : List ℕ) (options : Options) (job : Job) (start : Pair) → PassedWith (read_of files asked given faults old mid) (policy_phases name other policy_rules []) (IsPolicyJob options job) → files mid ≡ files old → IsRead (read_of files asked given faults mid new) pair bytes → first_bad_line job.inputs bytes ≡ None → IsPair job start → bytes ≡ pair_text start → PassedWith (read_of files asked given faults old new) (replay_phases name other pair) (λ contents. IsPolicyJob options job contents × IsPairFor contents job start)
pair_gives files asked given faults old mid new name other pair bytes options job start passed same read none is_pair text =
    let two = two_contents passed.contents passed.accepted.passed.count in
    let is = subst (IsPolicyJob options job) two.2 passed.says in
    record {
      contents = passed.contents ++ bytes ∷ [];
      accepted = next_accepted files asked given faults old mid new (policy_phases name other policy_rules []) passed.contents pair bytes pair_rules passed.accepted same read
          (pair_first passed.contents bytes options job None passed.accepted.passed.count passed.says none);
      says = subst (λ c. IsPolicyJob options job (c ++ bytes ∷ []) × IsPairFor (c ++ bytes ∷ []) job start) (sym two.2) (is, record { is_pair = is_pair; text_is = text });
    }

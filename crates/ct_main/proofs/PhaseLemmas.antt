-- What known files give the phases of a command, by how the phases ended.
use Rattle.std.proofs.Common.{◌≡◌, ◌∙◌, ◌<◌, ◌≤◌, ℕ, nat_lt, Bool, true, false, if◌then◌else◌, List, [], ◌∷◌, ◌++◌, length, Option, None, Some, IfSome, IsSomeAnd, refl, sym, ap, subst, arith, append_assoc, append-nil}
use Rattle.std.specs.Option.{option_or}
use Rattle.std.proofs.lemmas.Grind.{common_steps}
use Rattle.ct_outside.specs.declared.reading.TheConstants.{LONGEST}
use Rattle.ct_main.specs.declared.refusal.Refusal.{Refusal}
use Rattle.ct_main.specs.declared.refusal.Refusal.TheVariants.{Long}
use Rattle.ct_main.specs.Outside.{Reading}
use Rattle.ct_main.specs.Phases.{Phase, held, there, file_refusal, phases_refusal}
use Rattle.ct_main.specs.Reads.{Begun, WasRefused, StoppedLong, Accepted}

-- a file that gave no refusal isn't long, meets its rules, and gives none after it
pub record PassesOn (long : Bool) (rule after : Option Refusal) : Type 0 where
  pub short : long ≡ false
  pub meets : rule ≡ None
  pub goes_on : after ≡ None

pub passes_on : (long : Bool) (rule after : Option Refusal) → (if long then Some Long else option_or rule after) ≡ None → PassesOn long rule after
passes_on true rule after none = absurd cc
passes_on false None after none = record { short = refl; meets = refl; goes_on = none }
passes_on false (Some refusal) after none = absurd cc

pub on : (long : Bool) (rule after : Option Refusal) → long ≡ false → rule ≡ None → (if long then Some Long else option_or rule after) ≡ after
on long rule after short meets = rw (short, meets) refl

-- after phases that passed, the refusal is that of the phases that follow
pub phases_on : (before : List (List ℕ)) (phases rest : List Phase) (contents : List (List ℕ)) (files : List (Option (List ℕ))) → length contents ≡ length phases → phases_refusal before phases (there contents) ≡ None → phases_refusal before (phases ++ rest) (there contents ++ files) ≡ phases_refusal (before ++ contents) rest files
unfolding phases_refusal
phases_on before [] rest [] files count meet = ap (λ b. phases_refusal b rest files) (sym (append-nil before))
phases_on before [] rest (bytes ∷ contents) files count meet = absurd (omega (arith, count))
phases_on before (phase ∷ phases) rest [] files count meet = absurd (omega (arith, count))
phases_on before (phase ∷ phases) rest (bytes ∷ contents) files count meet =
    let after = phases_refusal (before ++ bytes ∷ []) phases (there contents) in
    let passed = passes_on (nat_lt LONGEST (length bytes)) (phase.1 (before ++ bytes ∷ [])) after meet in
    on (nat_lt LONGEST (length bytes)) (phase.1 (before ++ bytes ∷ [])) (phases_refusal (before ++ bytes ∷ []) (phases ++ rest) (there contents ++ files)) passed.short passed.meets
    ∙ phases_on (before ++ bytes ∷ []) phases rest contents files (omega (arith, count)) passed.goes_on
    ∙ ap (λ b. phases_refusal b rest files) (append_assoc before (bytes ∷ []) contents)

-- what known files hold for phases one after another
pub held_append : (known : List ℕ → Option (List ℕ)) (first second : List Phase) → held known (first ++ second) ≡ held known first ++ held known second
held_append known [] second = refl
held_append known (phase ∷ first) second = ap (λ files. known phase.0 ∷ files) (held_append known first second)

-- what is said of the files that a shelf tells
pub of_known : (files : Option (List ℕ → Option (List ℕ))) (known : List ℕ → Option (List ℕ)) (P : (List ℕ → Option (List ℕ)) → Type 0) → files ≡ Some known → IfSome files P → P known
of_known None known P told holds = absurd cc
of_known (Some other) known P told holds = let same : other ≡ known = cc in subst P same holds

-- the refusal of known files is that of the file begun last and of those to come
at_last : (reading : Reading) (phases : List Phase) (known : List ℕ → Option (List ℕ)) (last : Begun reading phases) → reading.files ≡ Some known → phases_refusal [] phases (held known phases) ≡ phases_refusal last.contents (last.begun ∷ last.to_come) (held known (last.begun ∷ last.to_come))
at_last reading phases known last told =
    let own = of_known reading.files known (λ k. held k last.before ≡ there last.contents) told last.passed.own in
    let whole : held known phases ≡ there last.contents ++ held known (last.begun ∷ last.to_come) =
    ap (λ p. held known p) last.split ∙ held_append known last.before (last.begun ∷ last.to_come) ∙ ap (λ f. f ++ held known (last.begun ∷ last.to_come)) own in
    ap (λ f. phases_refusal [] phases f) whole
    ∙ ap (λ p. phases_refusal [] p (there last.contents ++ held known (last.begun ∷ last.to_come))) last.split
    ∙ phases_on [] last.before (last.begun ∷ last.to_come) last.contents (held known (last.begun ∷ last.to_come)) last.passed.count last.passed.meet

-- a file that is refused
at_refused : (file : Option (List ℕ)) (bytes : List ℕ) (rule : List ℕ → Option Refusal) (after : List ℕ → Option Refusal) (refusal : Refusal) → file ≡ Some bytes → length bytes ≤ LONGEST → rule bytes ≡ Some refusal → file_refusal file (λ b. option_or (rule b) (after b)) ≡ Some refusal
at_refused file bytes rule after refusal held short first = rw held (by_length (nat_lt LONGEST (length bytes)) refl) where
  by_length : (long : Bool) → nat_lt LONGEST (length bytes) ≡ long → (if nat_lt LONGEST (length bytes) then Some Long else option_or (rule bytes) (after bytes)) ≡ Some refusal
  by_length true is = absurd (grind (arith, common_steps))
  by_length false is = rw (is, first) refl

pub told_refused : (reading : Reading) (phases : List Phase) (known : List ℕ → Option (List ℕ)) (refusal : Refusal) → reading.files ≡ Some known → WasRefused reading phases refusal → phases_refusal [] phases (held known phases) ≡ Some refusal
unfolding phases_refusal
told_refused reading phases known refusal told was =
    let last = was.last in
    let own = of_known reading.files known (λ k. k last.begun.0 ≡ Some was.bytes) told was.read.own in
    at_last reading phases known last told
    ∙ at_refused (known last.begun.0) was.bytes (λ b. last.begun.1 (last.contents ++ b ∷ [])) (λ b. phases_refusal (last.contents ++ b ∷ []) last.to_come (held known last.to_come)) refusal own was.read.short was.first

-- a file that is long
at_long : (file : Option (List ℕ)) (rest : List ℕ → Option Refusal) → IsSomeAnd file (λ bytes. LONGEST < length bytes) → file_refusal file rest ≡ Some Long
at_long None rest long = absurd long
at_long (Some bytes) rest long = by_length (nat_lt LONGEST (length bytes)) refl where
  by_length : (is_long : Bool) → nat_lt LONGEST (length bytes) ≡ is_long → (if nat_lt LONGEST (length bytes) then Some Long else rest bytes) ≡ Some Long
  by_length true is = rw is refl
  by_length false is = absurd (grind (arith, common_steps))

pub told_long : (reading : Reading) (phases : List Phase) (known : List ℕ → Option (List ℕ)) → reading.files ≡ Some known → StoppedLong reading phases → phases_refusal [] phases (held known phases) ≡ Some Long
unfolding phases_refusal
told_long reading phases known told was =
    let last = was.last in
    let own = of_known reading.files known (λ k. IsSomeAnd (k last.begun.0) (λ bytes. LONGEST < length bytes)) told was.long.own in
    at_last reading phases known last told
    ∙ at_long (known last.begun.0) (λ b. option_or (last.begun.1 (last.contents ++ b ∷ [])) (phases_refusal (last.contents ++ b ∷ []) last.to_come (held known last.to_come))) own

pub told_accepted : (reading : Reading) (phases : List Phase) (known : List ℕ → Option (List ℕ)) (contents : List (List ℕ)) → reading.files ≡ Some known → Accepted reading phases contents → phases_refusal [] phases (held known phases) ≡ None
told_accepted reading phases known contents told accepted =
    let own = of_known reading.files known (λ k. held k phases ≡ there contents) told accepted.passed.own in
    rw own accepted.passed.meet

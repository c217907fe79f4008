-- How a file that follows phases that passed ends them, or passes too.
use Rattle.std.proofs.Common.{◌≡◌, ◌≤◌, ◌∙◌, ℕ, List, [], ◌∷◌, ◌++◌, ◌+◌, ◌<◌, length, take, Option, None, Some, IfSome, IsSomeAnd, refl, sym, ap, ap₂, subst, inl, inr, arith, append_assoc, length-append, length-take-le}
use Rattle.std.proofs.lemmas.List.{map-append}
use Rattle.std.specs.List.{last_or}
use Rattle.ct_outside.specs.declared.reading.TheConstants.{LONGEST}
use Rattle.ct_outside.specs.declared.reading.ReadEnd.{ReadEnd}
use Rattle.ct_outside.specs.declared.reading.ReadEnd.TheVariants as ends
use Rattle.ct_main.specs.Refusals.{read_refusal}
use Rattle.ct_main.specs.Outside.{Reading, read_of, WasRead}
use Rattle.ct_main.specs.Phases.{Phase, Rules, names_of, held, there, phases_refusal}
use Rattle.ct_main.specs.Reads.{Passed, Begun, Accepted, EndsPhases}
use Rattle.ct_main.specs.Tasks.{AskedForName, IsRead, IsUnread}
use Rattle.ct_main.proofs.PhaseLemmas.{passes_on, on, phases_on, held_append}
use Rattle.ct_main.proofs.Passing.{short_meets, rose_after}

-- the first of phases that passed passed
meets_front : (before : List (List ℕ)) (front rest : List Phase) (contents : List (List ℕ)) → length contents ≡ length (front ++ rest) → phases_refusal before (front ++ rest) (there contents) ≡ None → phases_refusal before front (there (take (length front) contents)) ≡ None
unfolding phases_refusal
meets_front before [] rest contents count meet = refl
meets_front before (phase ∷ front) rest [] count meet = absurd (omega (arith, count))
meets_front before (phase ∷ front) rest (bytes ∷ contents) count meet =
    let passed = passes_on _ (phase.1 (before ++ bytes ∷ [])) (phases_refusal (before ++ bytes ∷ []) (front ++ rest) (there contents)) meet in
    on _ (phase.1 (before ++ bytes ∷ [])) (phases_refusal (before ++ bytes ∷ []) front (there (take (length front) contents))) passed.short passed.meets
    ∙ meets_front (before ++ bytes ∷ []) front rest contents (omega (arith, count)) passed.goes_on

-- and their files are the first ones
held_front : (known : List ℕ → Option (List ℕ)) (front rest : List Phase) (contents : List (List ℕ)) → held known (front ++ rest) ≡ there contents → held known front ≡ there (take (length front) contents)
held_front known [] rest contents own = refl
held_front known (phase ∷ front) rest [] own = absurd cc
held_front known (phase ∷ front) rest (bytes ∷ contents) own =
    let first : known phase.0 ≡ Some bytes = cc in
    let later : held known (front ++ rest) ≡ there contents = cc in
    ap₂ (λ file files. file ∷ files) first (held_front known front rest contents later)

own_front : (files : Option (List ℕ → Option (List ℕ))) (front rest : List Phase) (contents : List (List ℕ)) → IfSome files (λ known. held known (front ++ rest) ≡ there contents) → IfSome files (λ known. held known front ≡ there (take (length front) contents))
own_front None front rest contents own = tt
own_front (Some known) front rest contents own = held_front known front rest contents own

-- the last of phases that passed was begun after those before it, also where others follow
last_begun : (reading : Reading) (front : List Phase) (last : Phase) (rest : List Phase) (contents : List (List ℕ)) → Accepted reading (front ++ last ∷ []) contents → Begun reading (front ++ last ∷ rest)
last_begun reading front last rest contents accepted =
    let count : length contents ≡ length (front ++ last ∷ []) = accepted.passed.count in
    let longer : length front ≤ length contents = omega (arith, count, length-append front (last ∷ [])) in
    record {
      before = front;
      begun = last;
      to_come = rest;
      split = refl;
      contents = take (length front) contents;
      passed = record {
        count = length-take-le (length front) contents longer;
        own = own_front reading.files front (last ∷ []) contents accepted.passed.own;
        meet = meets_front [] front (last ∷ []) contents count accepted.passed.meet;
      };
      asks = accepted.asks;
    }

-- the names of phases and of the one that follows were asked for
pub next_asked : (before between after : List (List ℕ)) (phases : List Phase) (name : List ℕ) (rules : Rules) → between ≡ before ++ names_of phases → after ≡ between ++ name ∷ [] → after ≡ before ++ names_of (phases ++ (name, rules) ∷ [])
next_asked before between after phases name rules first next =
    next
    ∙ ap (λ b. b ++ name ∷ []) first
    ∙ append_assoc before (names_of phases) (name ∷ [])
    ∙ ap (λ n. before ++ n) (sym (map-append (λ (phase : Phase). phase.0) phases ((name, rules) ∷ [])))

-- phases that passed passed in a longer reading of the same files
abbrev pub same_passed : (first whole : Reading) (phases : List Phase) (contents : List (List ℕ)) → first.files ≡ whole.files → Passed first phases contents → Passed whole phases contents
same_passed first whole phases contents same passed = record {
  count = passed.count;
  own = subst (λ f. IfSome f (λ known. held known phases ≡ there contents)) same passed.own;
  meet = passed.meet;
}

-- the file that follows phases that passed was begun
abbrev pub next_begun : {F : Type 0} (files : F → Option (List ℕ → Option (List ℕ))) (asked : F → List (List ℕ)) (given faults : F → ℕ) (old mid new : F) (phases rest : List Phase) (contents : List (List ℕ)) (name : List ℕ) (rules : Rules) → Accepted (read_of files asked given faults old mid) phases contents → AskedForName (read_of files asked given faults mid new) name → Begun (read_of files asked given faults old new) (phases ++ (name, rules) ∷ rest)
next_begun files asked given faults old mid new phases rest contents name rules accepted asks = record {
  before = phases;
  begun = (name, rules);
  to_come = rest;
  split = refl;
  contents = contents;
  passed = same_passed (read_of files asked given faults old mid) (read_of files asked given faults old new) phases contents refl accepted.passed;
  asks = next_asked (asked old) (asked mid) (asked new) phases name rules accepted.asks asks;
}

-- what was read of a file after others is read of it in the whole
pub next_read : {F : Type 0} (files : F → Option (List ℕ → Option (List ℕ))) (asked : F → List (List ℕ)) (given faults : F → ℕ) (old mid new : F) (name bytes : List ℕ) → files mid ≡ files old → WasRead (read_of files asked given faults mid new) name bytes → WasRead (read_of files asked given faults old new) name bytes
next_read files asked given faults old mid new name bytes same read = record {
  own = subst (λ f. IfSome f (λ known. known name ≡ Some bytes)) same read.own;
  given = read.given;
  short = read.short;
}

-- where nothing more was asked for, the phases passed in the whole reading as well
still_accepted : {F : Type 0} (files : F → Option (List ℕ → Option (List ℕ))) (asked : F → List (List ℕ)) (given faults : F → ℕ) (old mid new : F) (front : List Phase) (last : Phase) (rest : List Phase) (contents : List (List ℕ)) → Accepted (read_of files asked given faults old mid) (front ++ last ∷ []) contents → asked new ≡ asked mid → Begun (read_of files asked given faults old new) (front ++ last ∷ rest)
still_accepted files asked given faults old mid new front last rest contents accepted nothing =
    let begun = last_begun (read_of files asked given faults old mid) front last rest contents accepted in
    record {
      before = begun.before;
      begun = begun.begun;
      to_come = begun.to_come;
      split = begun.split;
      contents = begun.contents;
      passed = record { count = begun.passed.count; own = begun.passed.own; meet = begun.passed.meet };
      asks = nothing ∙ begun.asks;
    }

-- the file that follows phases that passed wasn't read whole
pub next_unread : {F : Type 0} (files : F → Option (List ℕ → Option (List ℕ))) (asked : F → List (List ℕ)) (given faults : F → ℕ) (old mid new : F) (front : List Phase) (last : Phase) (rest : List Phase) (contents : List (List ℕ)) (name : List ℕ) (rules : Rules) (end : ReadEnd) → Accepted (read_of files asked given faults old mid) (front ++ last ∷ []) contents → files mid ≡ files old → faults old ≤ faults mid → IsUnread (read_of files asked given faults mid new) name end → EndsPhases (read_of files asked given faults old new) ((front ++ last ∷ []) ++ (name, rules) ∷ rest) (read_refusal end)
next_unread files asked given faults old mid new front last rest contents name rules ends.Memory accepted same counts (inl nothing) =
    let begun = still_accepted files asked given faults old mid new front last ((name, rules) ∷ rest) contents accepted nothing in
    inr (inl (subst (Begun (read_of files asked given faults old new)) (sym (append_assoc front (last ∷ []) ((name, rules) ∷ rest))) begun))
next_unread files asked given faults old mid new front last rest contents name rules ends.Memory accepted same counts (inr asks) =
    inr (inl (next_begun files asked given faults old mid new (front ++ last ∷ []) rest contents name rules accepted asks))
next_unread files asked given faults old mid new front last rest contents name rules ends.Fault accepted same counts why = record {
  last = next_begun files asked given faults old mid new (front ++ last ∷ []) rest contents name rules accepted why.0;
  cut_off = record { cause = rose_after (faults old) (faults mid) (faults new) counts why.1.cause; short = why.1.short };
}
next_unread files asked given faults old mid new front last rest contents name rules ends.Long accepted same counts why = record {
  last = next_begun files asked given faults old mid new (front ++ last ∷ []) rest contents name rules accepted why.0;
  long = record { given = why.1.given; own = subst (λ f. IfSome f (λ known. IsSomeAnd (known name) (λ b. LONGEST < length b))) same why.1.own };
}

-- the last item of a list that ends with it
last_is : {A : Type 0} (o : Option A) (items : List A) (last : A) → last_or o (items ++ last ∷ []) ≡ Some last
last_is o [] last = refl
last_is o (item ∷ items) last = last_is (Some item) items last

-- the file that follows phases that passed passed too
next_own : (files : Option (List ℕ → Option (List ℕ))) (phases : List Phase) (contents : List (List ℕ)) (name bytes : List ℕ) (rules : Rules) → IfSome files (λ known. held known phases ≡ there contents) → IfSome files (λ known. known name ≡ Some bytes) → IfSome files (λ known. held known (phases ++ (name, rules) ∷ []) ≡ there (contents ++ bytes ∷ []))
next_own None phases contents name bytes rules first next = tt
next_own (Some known) phases contents name bytes rules first next =
    held_append known phases ((name, rules) ∷ [])
    ∙ ap₂ (λ files file. files ++ file ∷ []) first next
    ∙ sym (map-append (λ b. Some b) contents (bytes ∷ []))

next_meets : (phases : List Phase) (contents : List (List ℕ)) (name bytes : List ℕ) (rules : Rules) → length contents ≡ length phases → phases_refusal [] phases (there contents) ≡ None → length bytes ≤ LONGEST → rules (contents ++ bytes ∷ []) ≡ None → phases_refusal [] (phases ++ (name, rules) ∷ []) (there (contents ++ bytes ∷ [])) ≡ None
unfolding phases_refusal
next_meets phases contents name bytes rules count meet short meets =
    ap (phases_refusal [] (phases ++ (name, rules) ∷ [])) (map-append (λ b. Some b) contents (bytes ∷ []))
    ∙ phases_on [] phases ((name, rules) ∷ []) contents (Some bytes ∷ []) count meet
    ∙ short_meets bytes (rules (contents ++ bytes ∷ [])) short meets

pub next_accepted : {F : Type 0} (files : F → Option (List ℕ → Option (List ℕ))) (asked : F → List (List ℕ)) (given faults : F → ℕ) (old mid new : F) (phases : List Phase) (contents : List (List ℕ)) (name bytes : List ℕ) (rules : Rules) → Accepted (read_of files asked given faults old mid) phases contents → files mid ≡ files old → IsRead (read_of files asked given faults mid new) name bytes → rules (contents ++ bytes ∷ []) ≡ None → Accepted (read_of files asked given faults old new) (phases ++ (name, rules) ∷ []) (contents ++ bytes ∷ [])
next_accepted files asked given faults old mid new phases contents name bytes rules accepted same is meets = record {
  passed = record {
    count = length-append contents (bytes ∷ []) ∙ ap (λ n. n + 1) accepted.passed.count ∙ sym (length-append phases ((name, rules) ∷ []));
    own = next_own (files old) phases contents name bytes rules accepted.passed.own (subst (λ f. IfSome f (λ known. known name ≡ Some bytes)) same is.read.own);
    meet = next_meets phases contents name bytes rules accepted.passed.count accepted.passed.meet is.read.short meets;
  };
  asks = next_asked (asked old) (asked mid) (asked new) phases name rules accepted.asks is.asks;
  given = subst (λ o. IfSome o (λ b. (given new ≡ length b) × (length b ≤ LONGEST))) (sym (last_is None contents bytes)) (is.read.given, is.read.short);
}

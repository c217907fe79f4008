-- How the phases of a command pass, or end, by what was read of its files.
use Rattle.std.proofs.Common.{◌≡◌, ◌∙◌, ◌≤◌, ℕ, nat_lt, if◌then◌else◌, List, [], ◌∷◌, ◌++◌, length, Option, None, Some, IfSome, refl, sym, ap, subst, arith, append-nil}
use Rattle.std.specs.Option.{option_or}
use Rattle.std.proofs.lemmas.Grind.{common_steps}
use Rattle.ct_outside.specs.declared.reading.TheConstants.{LONGEST}
use Rattle.ct_outside.specs.Count.{Rose}
use Rattle.ct_main.specs.declared.refusal.Refusal.{Refusal}
use Rattle.ct_main.specs.declared.refusal.Refusal.TheVariants.{Long}
use Rattle.ct_main.specs.Outside.{Reading, WasRead}
use Rattle.ct_main.specs.Phases.{Phase, Rules, held, there, phases_refusal}
use Rattle.ct_main.specs.Reads.{Passed, Begun, Accepted}
use Rattle.ct_main.specs.Tasks.{AskedForName, IsRead}

-- a file that isn't long and meets its rules gives no refusal
pub short_meets : (bytes : List ℕ) (rule : Option Refusal) → length bytes ≤ LONGEST → rule ≡ None → (if nat_lt LONGEST (length bytes) then Some Long else option_or rule None) ≡ None
short_meets bytes rule short meets = rw meets (grind (arith, common_steps))

-- the bytes of one file, as a list
one_own : (files : Option (List ℕ → Option (List ℕ))) (name bytes : List ℕ) (rules : Rules) → IfSome files (λ known. known name ≡ Some bytes) → IfSome files (λ known. held known ((name, rules) ∷ []) ≡ there (bytes ∷ []))
one_own None name bytes rules own = tt
one_own (Some known) name bytes rules own = ap (λ file. file ∷ []) own

-- of no file
pub no_own : (files : Option (List ℕ → Option (List ℕ))) → IfSome files (λ known. held known [] ≡ there [])
no_own None = tt
no_own (Some known) = refl

-- of two
two_own : (files : Option (List ℕ → Option (List ℕ))) (name other bytes more : List ℕ) (rules others : Rules) → IfSome files (λ known. known name ≡ Some bytes) → IfSome files (λ known. known other ≡ Some more) → IfSome files (λ known. held known ((name, rules) ∷ (other, others) ∷ []) ≡ there (bytes ∷ more ∷ []))
two_own None name other bytes more rules others first second = tt
two_own (Some known) name other bytes more rules others first second = rw (first, second) refl

-- two files of which neither is long and each meets its rules give no refusal
both_meet : (bytes more : List ℕ) (rule other : Option Refusal) → length bytes ≤ LONGEST → rule ≡ None → length more ≤ LONGEST → other ≡ None → (if nat_lt LONGEST (length bytes) then Some Long else option_or rule (if nat_lt LONGEST (length more) then Some Long else option_or other None)) ≡ None
both_meet bytes more rule other short meets short_too meets_too = rw (meets, meets_too) (grind (arith, common_steps))

-- the first file passed
pub first_passed : (reading whole : Reading) (name bytes : List ℕ) (rules : Rules) → IsRead reading name bytes → rules (bytes ∷ []) ≡ None → reading.files ≡ whole.files → Passed whole ((name, rules) ∷ []) (bytes ∷ [])
unfolding phases_refusal
first_passed reading whole name bytes rules is meets same = record {
  count = refl;
  own = subst (λ f. IfSome f (λ known. held known ((name, rules) ∷ []) ≡ there (bytes ∷ []))) same (one_own reading.files name bytes rules is.read.own);
  meet = short_meets bytes (rules (bytes ∷ [])) is.read.short meets;
}

-- the first file passed, and there is no other
pub first_accepted : (reading : Reading) (name bytes : List ℕ) (rules : Rules) → IsRead reading name bytes → rules (bytes ∷ []) ≡ None → Accepted reading ((name, rules) ∷ []) (bytes ∷ [])
first_accepted reading name bytes rules is meets = record {
  passed = first_passed reading reading name bytes rules is meets refl;
  asks = is.asks;
  given = (is.read.given, is.read.short);
}

-- no phases give no refusal
pub no_phases : phases_refusal [] [] (there []) ≡ None
unfolding phases_refusal
no_phases = refl

-- where nothing was asked for, no phases are accepted
pub none_accepted : (reading : Reading) → reading.asked ≡ reading.asked_before → Accepted reading [] []
none_accepted reading nothing = record {
  passed = record { count = refl; own = no_own reading.files; meet = no_phases };
  asks = nothing ∙ sym (append-nil reading.asked_before);
  given = tt;
}

-- the first file was begun
abbrev pub first_begun : (reading : Reading) (name : List ℕ) (rules : Rules) (rest : List Phase) → AskedForName reading name → Begun reading ((name, rules) ∷ rest)
first_begun reading name rules rest asks = record {
  before = [];
  begun = (name, rules);
  to_come = rest;
  split = refl;
  contents = [];
  passed = record { count = refl; own = no_own reading.files; meet = no_phases };
  asks = asks;
}

-- the second file was begun, after the first had passed
abbrev pub second_begun : (first whole : Reading) (name other bytes : List ℕ) (rules others : Rules) (rest : List Phase) → IsRead first name bytes → rules (bytes ∷ []) ≡ None → first.files ≡ whole.files → whole.asked ≡ whole.asked_before ++ name ∷ other ∷ [] → Begun whole ((name, rules) ∷ (other, others) ∷ rest)
second_begun first whole name other bytes rules others rest is meets same asks = record {
  before = (name, rules) ∷ [];
  begun = (other, others);
  to_come = rest;
  split = refl;
  contents = bytes ∷ [];
  passed = first_passed first whole name bytes rules is meets same;
  asks = asks;
}

-- both files passed, and there is no other
pub second_accepted : (first whole : Reading) (name other bytes more : List ℕ) (rules others : Rules) → IsRead first name bytes → rules (bytes ∷ []) ≡ None → first.files ≡ whole.files → WasRead whole other more → others (bytes ∷ more ∷ []) ≡ None → whole.asked ≡ whole.asked_before ++ name ∷ other ∷ [] → Accepted whole ((name, rules) ∷ (other, others) ∷ []) (bytes ∷ more ∷ [])
unfolding phases_refusal
second_accepted first whole name other bytes more rules others file meets same read meets_too asks = record {
  passed = record {
    count = refl;
    own = two_own whole.files name other bytes more rules others (subst (λ f. IfSome f (λ known. known name ≡ Some bytes)) same file.read.own) read.own;
    meet = both_meet bytes more (rules (bytes ∷ [])) (others (bytes ∷ more ∷ [])) file.read.short meets read.short meets_too;
  };
  asks = asks;
  given = (read.given, read.short);
}

-- a fault after the first file is a fault of the whole
pub rose_after : (before middle after : ℕ) → before ≤ middle → Rose middle after → Rose before after
rose_after before middle after later rose = grind (arith, common_steps)

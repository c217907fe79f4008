use Rattle.std.proofs.Common.{◌≡◌, ℕ, ◌<◌, ◌≤◌, ◌+◌, ◌-◌, Bool, true, false, List, [], ◌∷◌, length, take, get_or, Option, Some, None, refl, sym, ◌∙◌, ap, subst, arith}
use Rattle.std.specs.Prelude.{reverse, slice_get, IsSome}
use Rattle.std.proofs.lemmas.List.{take_more, take_all, reverse-append}
use Rattle.std.proofs.lemmas.Option.{slice_get_within, same_Some}
use Rattle.cnf_form.specs.declared.lit.Lit.{Lit}
use Rattle.cnf_form.specs.Literals.{flip, has}
use Rattle.cnf_form.specs.Clauses.{all_below, is_ascending}
use Rattle.cnf_form.specs.Resolvent.{joined, resolvent}
use Rattle.cnf_form.proofs.ClauseLaws.{all_below-from, all_below-has}
use Rattle.cnf_form.proofs.JoinLaws.{is_ascending-joined}
use Rattle.cdcl.specs.declared.entry.Entry.{Entry}
use Rattle.cdcl.specs.Trail.{lits_of, level_of, AllFalse, IsTrail, IsLearnt}
use Rattle.cdcl.specs.Analysis.{IsAnalysis, IsOther, AreOthersLower}
use Rattle.cdcl.proofs.AnalysisLaws.{IsAnalysis-start, IsAnalysis-skip, IsAnalysis-resolve, IsAnalysis-end, IsLearnt-decision, IsLearnt-point, level-decision, reason-resolves, reason-at}
use Rattle.cdcl.proofs.analysis.analyze.Goals as goal
use Rattle.cdcl.proofs.analysis.analyze.Goals.{else-level-gt0-via-then-level-gt0+else-not-has_other, else-level-gt0-via-else-level-gt0}

abbrev blank : Entry
blank = record { lit = record { var = 0; negated = false }; reason = None }

-- the newest of the entries that are left
abbrev newest : List Entry → ℕ → Entry
newest entries n = get_or entries (n - 1) blank

abbrev older : List Entry → ℕ → List Entry
older entries n = reverse (take (n - 1) entries)

turn : (entries : List Entry) (n : ℕ) → 0 < n → n ≤ length entries → reverse (take n entries) ≡ newest entries n ∷ older entries n
turn entries n low within =
    let back : n - 1 + 1 ≡ n = omega arith in
    let less : n - 1 < length entries = omega arith in
    subst (λ (k : ℕ). reverse (take k entries) ≡ newest entries n ∷ older entries n) back (ap (λ (es : List Entry). reverse es) (take_more entries (n - 1) blank less) ∙ reverse-append (take (n - 1) entries) (newest entries n ∷ []))

here : (clauses : List (List Lit)) (full entries : List Entry) (n : ℕ) (c : List Lit) (ch : List ℕ) → 0 < n → n ≤ length entries → IsAnalysis clauses full (reverse (take n entries)) c ch → IsAnalysis clauses full (newest entries n ∷ older entries n) c ch
here clauses full entries n c ch low within a = subst (λ (es : List Entry). IsAnalysis clauses full es c ch) (turn entries n low within) a

contains_is : (ls c : List Lit) (l m : Lit) (b : Bool) → b ≡ has ls l → ls ≡ c → l ≡ flip m → has c (flip m) ≡ b
contains_is ls c l m b e f g = sym (e ∙ ap (λ (xs : List Lit). has xs l) f ∙ ap (has c) g)

-- all of the clause is false in the whole trail, and in range
false_all : (clauses : List (List Lit)) (full es : List Entry) (c : List Lit) (ch : List ℕ) → IsAnalysis clauses full es c ch → AllFalse (lits_of full) c
false_all clauses full es c ch a k h = a.part (flip k) (a.false k h)

in_range : (v : ℕ) (full : List Entry) (c : List Lit) → all_below v (lits_of full) ≡ true → AllFalse (lits_of full) c → all_below v c ≡ true
in_range v full c b all = all_below-from v c (λ k h. all_below-has v (lits_of full) (flip k) b (all k h))

line_in_range : (v : ℕ) (clauses : List (List Lit)) (full es : List Entry) (c d : List Lit) (ch : List ℕ) → all_below v (lits_of full) ≡ true → IsAnalysis clauses full es c ch → d ≡ c → all_below v d ≡ true
line_in_range v clauses full es c d ch b a e = subst (λ (ls : List Lit). all_below v ls ≡ true) (sym e) (in_range v full c b (false_all clauses full es c ch a))

others_lower : (full : List Entry) (ls c : List Lit) (l m : Lit) → ls ≡ c → l ≡ m → AreOthersLower full ls l → AreOthersLower full c m
others_lower full ls c l m e f o = subst (λ (x : Lit). AreOthersLower full c x) f (subst (λ (xs : List Lit). AreOthersLower full xs l) e o)

other_is : (full : List Entry) (ls c : List Lit) (l m : Lit) → ls ≡ c → l ≡ m → IsOther full ls l → IsOther full c m
other_is full ls c l m e f o = subst (λ (x : Lit). IsOther full c x) f (subst (λ (xs : List Lit). IsOther full xs l) e o)

some_is : (o : Option (List Lit)) (x : List Lit) → o ≡ Some x → IsSome o
some_is o x e = subst (λ (p : Option (List Lit)). IsSome p) (sym e) refl

still_ascending : (c d next : List Lit) → is_ascending c ≡ true → is_ascending d ≡ true → resolvent c d ≡ Some (joined c d).lits → resolvent c d ≡ Some next → is_ascending next ≡ true
still_ascending c d next a b e f = subst (λ (ls : List Lit). is_ascending ls ≡ true) (same_Some (joined c d).lits next (sym e ∙ f)) (is_ascending-joined c d a b)

reason_within : (clauses : List (List Lit)) (e : Entry) (es : List Entry) (r : ℕ) → IsTrail clauses (e ∷ es) → e.reason ≡ Some r → r < length clauses
reason_within clauses e es r t q = let (d, h) = reason-at clauses e es r t q in slice_get_within clauses r d h

pub get-requires : goal.get-requires
get-requires c = slice_get_within c.args.clauses.now c.args.conflict c.requires.conflict.clause c.requires.conflict.here

pub walk-init : goal.walk-init
walk-init c =
    let clauses = c.args.clauses.now in
    let full = c.args.trail.now.entries in
    let entries = c.entries-entries.result.now in
    let first = c.in_ok-derived.derived.so_far.items in
    let here : slice_get clauses c.args.conflict ≡ Some first = c.get.ensures.clause ∙ ap (λ (ls : List Lit). Some ls) (sym c.in_ok-derived.ensures.clause) in
    let whole : reverse (take (length entries) entries) ≡ full = ap (λ (es : List Entry). reverse es) (take_all (length entries) entries (omega arith)) ∙ c.entries-entries.ensures.entries in
    record {
      within = omega arith;
      ascending = subst (λ (ls : List Lit). is_ascending ls ≡ true) (sym c.in_ok-derived.ensures.clause) c.get.ensures.ascending;
      analysis = subst (λ (ns : List ℕ). IsAnalysis clauses full (reverse (take (length entries) entries)) first ns) (sym c.in_ok-derived.ensures.chain)
          (subst (λ (es : List Entry). IsAnalysis clauses full es first (c.args.conflict ∷ [])) (sym whole)
          (IsAnalysis-start clauses full c.args.conflict first here c.requires.conflict c.requires.trail));
    }

pub returns-in_default-clause-learnt : goal.returns-in_default-clause-learnt
returns-in_default-clause-learnt c =
    let clauses = c.args.clauses.now in
    let full = c.args.trail.now.entries in
    let entries = c.entries-entries.result.now in
    let so_far = c.walk.derived.so_far.items in
    let chain = c.walk.derived.chain.items in
    let e = newest entries c.walk.at in
    let es = older entries c.walk.at in
    let a = here clauses full entries c.walk.at so_far chain c.walk-test.true c.walk.invariant.within c.walk.invariant.analysis in
    let h = contains_is c.as_slice.result.now so_far c.flip-negation.result e.lit true c.if-contains.ensures c.as_slice.ensures.value c.flip-negation.ensures in
    λ low. subst (IsLearnt full) (sym c.into_line.ensures.clause) (IsLearnt-decision clauses full e es so_far chain a h c.in_default.is low)

pub returns-in_default-clause-empty : goal.returns-in_default-clause-empty
returns-in_default-clause-empty c =
    let clauses = c.args.clauses.now in
    let full = c.args.trail.now.entries in
    let entries = c.entries-entries.result.now in
    let so_far = c.walk.derived.so_far.items in
    let chain = c.walk.derived.chain.items in
    let e = newest entries c.walk.at in
    let es = older entries c.walk.at in
    let a = here clauses full entries c.walk.at so_far chain c.walk-test.true c.walk.invariant.within c.walk.invariant.analysis in
    let low : 0 < level_of full = level-decision clauses full e es so_far chain a c.in_default.is in
    λ none. absurd (omega (arith, low, none))

pub returns-in_default-clause-in_range : goal.returns-in_default-clause-in_range
returns-in_default-clause-in_range c = line_in_range c.args.trail.now.vars c.args.clauses.now c.args.trail.now.entries _ c.walk.derived.so_far.items c.into_line.result.clause c.walk.derived.chain.items c.entries-entries.ensures.in_range c.walk.invariant.analysis c.into_line.ensures.clause

pub has_other-requires-clause-in_range : goal.has_other-requires-clause-in_range
has_other-requires-clause-in_range c = line_in_range c.args.trail.now.vars c.args.clauses.now c.args.trail.now.entries _ c.walk.derived.so_far.items c.as_slice-then-level-gt0.result.now c.walk.derived.chain.items c.entries-entries.ensures.in_range c.walk.invariant.analysis c.as_slice-then-level-gt0.ensures.value

pub has_other-requires-clause-falsified : goal.has_other-requires-clause-falsified
has_other-requires-clause-falsified c = subst (AllFalse (lits_of c.args.trail.now.entries)) (sym c.as_slice-then-level-gt0.ensures.value) (false_all c.args.clauses.now c.args.trail.now.entries _ c.walk.derived.so_far.items c.walk.derived.chain.items c.walk.invariant.analysis)

pub returns-then-not-has_other-clause-learnt : goal.returns-then-not-has_other-clause-learnt
returns-then-not-has_other-clause-learnt c =
    let clauses = c.args.clauses.now in
    let full = c.args.trail.now.entries in
    let entries = c.entries-entries.result.now in
    let so_far = c.walk.derived.so_far.items in
    let chain = c.walk.derived.chain.items in
    let e = newest entries c.walk.at in
    let es = older entries c.walk.at in
    let a = here clauses full entries c.walk.at so_far chain c.walk-test.true c.walk.invariant.within c.walk.invariant.analysis in
    let h = contains_is c.as_slice.result.now so_far c.flip-negation.result e.lit true c.if-contains.ensures c.as_slice.ensures.value c.flip-negation.ensures in
    let o = others_lower full c.as_slice-then-level-gt0.result.now so_far c.flip-negation.result (flip e.lit) c.as_slice-then-level-gt0.ensures.value c.flip-negation.ensures c.if-not-has_other.ensures in
    λ low. subst (IsLearnt full) (sym c.into_line-then-not-has_other.ensures.clause) (IsLearnt-point clauses full e es so_far chain a h low o)

pub returns-then-not-has_other-clause-in_range : goal.returns-then-not-has_other-clause-in_range
returns-then-not-has_other-clause-in_range c = line_in_range c.args.trail.now.vars c.args.clauses.now c.args.trail.now.entries _ c.walk.derived.so_far.items c.into_line-then-not-has_other.result.clause c.walk.derived.chain.items c.entries-entries.ensures.in_range c.walk.invariant.analysis c.into_line-then-not-has_other.ensures.clause

pub get-requires-then-contains : goal.get-requires-then-contains
get-requires-then-contains c =
    let clauses = c.args.clauses.now in
    let full = c.args.trail.now.entries in
    let entries = c.entries-entries.result.now in
    let so_far = c.walk.derived.so_far.items in
    let chain = c.walk.derived.chain.items in
    let e = newest entries c.walk.at in
    let es = older entries c.walk.at in
    let a = here clauses full entries c.walk.at so_far chain c.walk-test.true c.walk.invariant.within c.walk.invariant.analysis in
    reason_within clauses e es c.in-Some.reason a.trail c.in-Some.is

pub resolve_with-requires : goal.resolve_with-requires
resolve_with-requires c =
    let clauses = c.args.clauses.now in
    let full = c.args.trail.now.entries in
    let entries = c.entries-entries.result.now in
    let so_far = c.walk.derived.so_far.items in
    let chain = c.walk.derived.chain.items in
    let e = newest entries c.walk.at in
    let es = older entries c.walk.at in
    let a = here clauses full entries c.walk.at so_far chain c.walk-test.true c.walk.invariant.within c.walk.invariant.analysis in
    let h = contains_is c.as_slice.result.now so_far c.flip-negation.result e.lit true c.if-contains.ensures c.as_slice.ensures.value c.flip-negation.ensures in
    some_is _ _ (reason-resolves clauses full e es so_far c.get-then-contains.result.now chain c.in-Some.reason a c.walk.invariant.ascending c.get-then-contains.ensures.ascending h c.in-Some.is c.get-then-contains.ensures.clause).is_resolvent

pub walk-preserved-in-Continue-branch-2 : goal.walk-preserved-in-Continue-branch-2
walk-preserved-in-Continue-branch-2 c =
    let clauses = c.args.clauses.now in
    let full = c.args.trail.now.entries in
    let entries = c.entries-entries.result.now in
    let so_far = c.walk.derived.so_far.items in
    let chain = c.walk.derived.chain.items in
    let e = newest entries c.walk.at in
    let es = older entries c.walk.at in
    let a = here clauses full entries c.walk.at so_far chain c.walk-test.true c.walk.invariant.within c.walk.invariant.analysis in
    let h = contains_is c.as_slice.result.now so_far c.flip-negation.result e.lit true c.if-contains.ensures c.as_slice.ensures.value c.flip-negation.ensures in
    let next = c.resolve_with.new.self.so_far.items in
    let reason = c.get-then-contains.result.now in
    let f = reason-resolves clauses full e es so_far reason chain c.in-Some.reason a c.walk.invariant.ascending c.get-then-contains.ensures.ascending h c.in-Some.is c.get-then-contains.ensures.clause in
    let o : 0 < level_of full → IsOther full so_far (flip e.lit) = elim c.else-level-gt0.branch [
      | else-level-gt0-via-then-level-gt0+else-not-has_other w ↦ λ (_ : 0 < level_of full). other_is full w.as_slice-then-level-gt0.result.now so_far c.flip-negation.result (flip e.lit) w.as_slice-then-level-gt0.ensures.value c.flip-negation.ensures w.if-not-has_other.ensures
      | else-level-gt0-via-else-level-gt0 w ↦ λ (low : 0 < level_of full). absurd (let none = w.if-level-gt0.false in let same = c.level.ensures in omega arith)
    ] in
    record {
      within = let n = c.walk.invariant.within in omega arith;
      ascending = still_ascending so_far reason next c.walk.invariant.ascending c.get-then-contains.ensures.ascending f.is_resolvent c.in_ok-resolve_with.ensures.clause;
      analysis = subst (λ (ns : List ℕ). IsAnalysis clauses full es next ns) (sym c.in_ok-resolve_with.ensures.chain)
          (IsAnalysis-resolve clauses full e es so_far reason next chain c.in-Some.reason a c.walk.invariant.ascending c.get-then-contains.ensures.ascending h c.in-Some.is c.get-then-contains.ensures.clause o c.in_ok-resolve_with.ensures.clause);
    }

pub walk-preserved : goal.walk-preserved
walk-preserved c =
    let clauses = c.args.clauses.now in
    let full = c.args.trail.now.entries in
    let entries = c.entries-entries.result.now in
    let so_far = c.walk.derived.so_far.items in
    let chain = c.walk.derived.chain.items in
    let e = newest entries c.walk.at in
    let es = older entries c.walk.at in
    let a = here clauses full entries c.walk.at so_far chain c.walk-test.true c.walk.invariant.within c.walk.invariant.analysis in
    let h = contains_is c.as_slice.result.now so_far c.flip-negation.result e.lit false c.if-contains.ensures c.as_slice.ensures.value c.flip-negation.ensures in
    record { within = let n = c.walk.invariant.within in omega arith; ascending = c.walk.invariant.ascending; analysis = IsAnalysis-skip clauses full e es so_far chain a h }

pub returns-clause-empty : goal.returns-clause-empty
returns-clause-empty c =
    let full = c.args.trail.now.entries in
    let entries = c.entries-entries.result.now in
    let none : c.walk.at ≡ 0 = let n = c.walk-test.false in omega arith in
    λ _. c.into_line-2.ensures.clause ∙ IsAnalysis-end c.args.clauses.now full c.walk.derived.so_far.items c.walk.derived.chain.items (subst (λ (n : ℕ). IsAnalysis c.args.clauses.now full (reverse (take n entries)) c.walk.derived.so_far.items c.walk.derived.chain.items) none c.walk.invariant.analysis)

pub returns-clause-in_range : goal.returns-clause-in_range
returns-clause-in_range c = line_in_range c.args.trail.now.vars c.args.clauses.now c.args.trail.now.entries _ c.walk.derived.so_far.items c.into_line-2.result.clause c.walk.derived.chain.items c.entries-entries.ensures.in_range c.walk.invariant.analysis c.into_line-2.ensures.clause

pub contains-requires : goal.contains-requires
contains-requires c = record { ascending = subst (λ (ls : List Lit). is_ascending ls ≡ true) (sym c.as_slice.ensures.value) c.walk.invariant.ascending }

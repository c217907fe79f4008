-- What a walk establishes by the answers to its questions.
use Rattle.std.proofs.Common.{◌≡◌, ◌≢◌, ◌⊎◌, ℕ, suc, zero, ◌+◌, ◌<◌, ◌≤◌, max, Bool, true, false, List, [], ◌∷◌, ◌++◌, length, get_or, Option, Some, None, refl, sym, ◌∙◌, ap, subst, inl, inr, arith, slice_index}
use Rattle.std.specs.Prelude.{◌↔◌, MatchOption}
use Rattle.std.specs.List.{All, Any, AllPairs, Contains}
use Rattle.std.proofs.Math.Nat.{max-le}
use Rattle.std.proofs.lemmas.List.{map-append, length-map}
use Rattle.std.proofs.lemmas.List.Elements.{All-append, All-cons, All-nil, Contains-push}
use Rattle.bv_expr.specs.declared.expr_id.ExprId.{ExprId}
use Rattle.bv_expr.specs.declared.values.Values.{Values}
use Rattle.bv_expr.specs.Nodes.{AreBytes}
use Rattle.cnf_form.specs.declared.cnf.Cnf.{Cnf}
use Rattle.cnf_form.specs.declared.line.Line.{Line}
use Rattle.cnf_form.specs.Solvable.{HasSolution}
use Rattle.rv_machine.specs.Step.{Transition}
use Rattle.rv_machine.specs.Trail.{state_after}
use Rattle.ct_pairs.specs.declared.job.Job.{Job}
use Rattle.ct_pairs.specs.declared.pair.Pair.{Pair}
use Rattle.ct_pairs.specs.declared.found.Found.{Found}
use Rattle.ct_pairs.specs.Pair.{left_start}
use Rattle.ct_pairs.specs.Paths.{Follows}
use Rattle.ct_pairs.specs.Split.{SplitsAt}
use Rattle.ct_pairs.specs.Covered.{sites_of}
use Rattle.ct_entries.specs.declared.listed.Cause.{Cause}
use Rattle.ct_entries.specs.declared.listed.Cause.TheVariants.{SpentLeak}
use Rattle.ct_entries.specs.declared.listed.Listed.{Listed}
use Rattle.ct_entries.specs.Entries.{SplitsAfter, GoesTo, IsTrueFound, IsSolvedListed, IsListed, CoversAt}
use Rattle.query_ask.specs.Questions.{Asked}
use Rattle.query_ask.specs.Formulas.{CanBeMet, IsFormulaOf}
use Rattle.query_ask.specs.Answers.{DoMeet}
use Rattle.rel_step.specs.declared.stride.NextIf.{NextIf}
use Rattle.rel_step.specs.declared.stride.Stride.{Stride}
use Rattle.rel_step.specs.Bridge.{pair_of}
use Rattle.rel_step.specs.Runs.{Tells}
use Rattle.rel_step.specs.Strides.{ShowSame, LeftGoes, LeftFaults}
use Rattle.rel_step.specs.PathNodes.{PathNode, IsNode, last_or, next_steps}
use Rattle.path_run.specs.declared.course.Course.{Course}
use Rattle.path_run.specs.declared.told.Told.TheVariants.{Yes, No, Spent}
use Rattle.path_run.specs.Asking.{IsQuestionOf, IsToldOf}
use Rattle.path_run.specs.Counting.{times, weight, share}
use Rattle.path_run.specs.Walks.{EndsHere, IsKnownSplit, IsWalked}
use Rattle.path_run.specs.Stages.{IsCourse, IsCourseWith, IsListing, IsAtStep, AreLeaksKnown, IsSplit, IsFaulting, IsKeeping}
use Rattle.path_run.specs.Telling.{IsToldLeak}
use Rattle.path_run.proofs.Somes.{Any-right}
use Rattle.path_run.proofs.Steps.{times-one, share-one}
use Rattle.path_run.proofs.Walks.{runs_after, walked_found, walked_listed}
use Rattle.path_run.proofs.Places.{follows_pc}
use Rattle.path_run.proofs.Showing.{split_shows, shows_split, shows_goes, shows_ends, went_to}
use Rattle.path_run.proofs.LeakLaws.{short_node, at_some, leaks_from, splits_at}
use Rattle.path_run.proofs.OnwardLaws.{ends_refused, keeping_new, keeping_drop, keeping_keep, last_open}
use Rattle.path_run.proofs.Bridging.{HaveValues, IsAnswering, met_answers, answers_meet}

-- the walk with other entries
pub course_with : (job : Job) (c later : Course) (found : List Found) (listed : List Listed) → IsCourseWith c found listed later → IsWalked job c.path c.at.items found listed c.ends c.doubts → IsCourse job later
course_with job c later found listed w h = rw (w.same_path, w.same_at, w.found_are, w.listed_are, w.same_ends, w.same_doubts) h

-- what is said of splits, of the walk with other entries
leaks_with : (job : Job) (c later : Course) (found : List Found) (listed : List Listed) → IsCourseWith c found listed later →
    ((pair : Pair) → SplitsAfter job c.at.items pair → IsKnownSplit job found c.path.leaked pair ⊎ IsListed job listed pair) → AreLeaksKnown job later
leaks_with job c later found listed w h = rw (w.same_path, w.same_at, w.found_are, w.listed_are) h

-- both runs show different records
abbrev ShowApart : (Bool → Transition) → Type 0
ShowApart runs = ShowSame runs → ⊥

leak_tells : (job : Job) (c : Course) (node : PathNode) (stride : Stride) (leak : ExprId) → IsAtStep job c node stride → stride.leak ≡ Some leak → Tells node.nodes leak.0 (λ v. ShowApart (next_steps job node.here v))
leak_tells job c node stride leak at is = at_some stride.leak leak _ _ is at.shows.leak

-- a pair that answers the leak question splits in the step, at the site
answer_splits : (job : Job) (c : Course) (node : PathNode) (stride : Stride) (pair : Pair) → IsAtStep job c node stride → IsAnswering job node.path false ShowApart pair → SplitsAt job pair stride.site (length c.at.items + 1)
answer_splits job c node stride pair at a =
    subst (λ t. SplitsAt job pair stride.site (length t + 1)) at.placed.path
    (shows_split job pair node.path stride.site (short_node job c node at.placed.path at.short) a.follows a.holds (follows_pc job pair node.path a.follows ∙ sym at.placed.stands.pc ∙ sym at.shows.site))

-- a pair that splits in the step answers it
split_answers : (job : Job) (c : Course) (node : PathNode) (stride : Stride) (pair : Pair) → IsAtStep job c node stride → SplitsAfter job c.at.items pair → IsAnswering job node.path false ShowApart pair
split_answers job c node stride pair at split =
    let s : SplitsAfter job node.path pair = subst (λ t. SplitsAfter job t pair) (sym at.placed.path) split in
    record { follows = s.0; same = λ claimed. cc; holds = split_shows job pair node.path (short_node job c node at.placed.path at.short) s }

-- the answer Yes gives a found pair
pub told_leak_yes : (job : Job) (c later : Course) (node : PathNode) (stride : Stride) (leak : ExprId) (values : Values) → IsAtStep job c node stride → HaveValues node.nodes → stride.leak ≡ Some leak → IsToldOf job node false leak.0 (Yes values) → AreBytes (slice_index values.0) →
    IsCourseWith c (c.found.items ++ record { site = stride.site; step = length c.at.items + 1; pair = pair_of job (slice_index values.0) } ∷ []) c.listed.items later → IsToldLeak job c later
told_leak_yes job c later node stride leak values at have is told bytes w = record {
  walked = course_with job c later (c.found.items ++ one ∷ []) c.listed.items w (walked_found job c.path c.at.items c.found.items c.listed.items c.ends c.doubts one at.placed.walked splits (omega arith));
  leaks = leaks_with job c later (c.found.items ++ one ∷ []) c.listed.items w known;
  same_path = w.same_path;
  same_at = w.same_at;
  same_doubts = w.same_doubts;
}
  where
    one : Found
    one = record { site = stride.site; step = length c.at.items + 1; pair = pair_of job (slice_index values.0) }

    splits : SplitsAt job (pair_of job (slice_index values.0)) stride.site (length c.at.items + 1)
    splits = answer_splits job c node stride (pair_of job (slice_index values.0)) at (met_answers job node false leak.0 told.question ShowApart (slice_index values.0) at.placed.stands have told.asking (leak_tells job c node stride leak at is) bytes told.right.met)

    known : (pair : Pair) → SplitsAfter job c.at.items pair → IsKnownSplit job (c.found.items ++ one ∷ []) c.path.leaked pair ⊎ IsListed job c.listed.items pair
    known pair split =
        inl (split.1.0, length c.at.items + 1, split.1.1, inl (length c.at.items + 1, subst (λ rows. Contains rows (split.1.0, length c.at.items + 1)) (sym (map-append (λ (f : Found). (f.site, f.step)) c.found.items (one ∷ []))) (subst (λ s. Contains (sites_of c.found.items ++ (stride.site, length c.at.items + 1) ∷ []) (s, length c.at.items + 1)) (sym (splits_at job c node stride pair at split)) (Contains-push (sites_of c.found.items) (stride.site, length c.at.items + 1))), omega arith))

-- the answer No says that no pair splits in the step
pub told_leak_no : (job : Job) (c : Course) (node : PathNode) (stride : Stride) (leak : ExprId) → IsAtStep job c node stride → HaveValues node.nodes → stride.leak ≡ Some leak → IsToldOf job node false leak.0 No → IsToldLeak job c c
told_leak_no job c node stride leak at have is told = record {
  walked = at.placed.walked;
  leaks = λ pair split. absurd (told.right (answers_meet job node false leak.0 told.question ShowApart pair at.placed.stands have told.asking (leak_tells job c node stride leak at is) (split_answers job c node stride pair at split)));
  same_path = refl;
  same_at = refl;
  same_doubts = refl;
}

-- a place that was listed last
pub last_listed : (job : Job) (listed : List Listed) (t : List ℕ) (cause : Cause) (pair : Pair) → CoversAt job t cause pair → IsListed job (listed ++ record { path = t; cause = cause } ∷ []) pair
last_listed job listed t cause pair covers =
    Any-right (λ (place : Listed). CoversAt job place.path place.cause pair) listed (record { path = t; cause = cause } ∷ []) (0, record { path = t; cause = cause }, omega arith, refl, covers)

-- the walk with one more place
pub listed_with : (job : Job) (c later : Course) (cause : Cause) → IsCourse job c → IsListing c cause later → IsSolvedListed job (record { path = c.at.items; cause = cause }) → IsCourse job later
listed_with job c later cause h w solved =
    course_with job c later c.found.items (c.listed.items ++ record { path = c.at.items; cause = cause } ∷ []) w (walked_listed job c.path c.at.items c.found.items c.listed.items c.ends c.doubts (record { path = c.at.items; cause = cause }) h solved)

-- the answer Spent lists the place
pub told_leak_spent : (job : Job) (c later : Course) (node : PathNode) (stride : Stride) (leak : ExprId) (cnf : Cnf) (log : List Line) → IsAtStep job c node stride → HaveValues node.nodes → stride.leak ≡ Some leak → IsToldOf job node false leak.0 (Spent cnf log) →
    IsListing c (SpentLeak cnf log) later → IsToldLeak job c later
told_leak_spent job c later node stride leak cnf log at have is told w = record {
  walked = listed_with job c later (SpentLeak cnf log) at.placed.walked w (reads, solves);
  leaks = leaks_with job c later c.found.items (c.listed.items ++ record { path = c.at.items; cause = SpentLeak cnf log } ∷ []) w (λ pair split. inr (last_listed job c.listed.items c.at.items (SpentLeak cnf log) pair split));
  same_path = w.same_path;
  same_at = w.same_at;
  same_doubts = w.same_doubts;
}
  where
    to_split : CanBeMet told.question → (pair : Pair) × SplitsAfter job c.at.items pair
    to_split met =
        let pair : Pair = pair_of job met.env in
        let a = met_answers job node false leak.0 told.question ShowApart met.env at.placed.stands have told.asking (leak_tells job c node stride leak at is) met.bytes met.met in
        (pair, (subst (λ t. Follows job pair t) at.placed.path a.follows, (stride.site, answer_splits job c node stride pair at a)))

    reads : HasSolution cnf → (pair : Pair) × SplitsAfter job c.at.items pair
    reads solution = to_split (told.right.reads solution)

    solves : (pair : Pair) × SplitsAfter job c.at.items pair → HasSolution cnf
    solves (pair, split) =
        told.right.solves (answers_meet job node false leak.0 told.question ShowApart pair at.placed.stands have told.asking (leak_tells job c node stride leak at is) (split_answers job c node stride pair at split))

-- the nexts of a step whose access may be refused
keeping_fault : (job : Job) (c : Course) (node : PathNode) (fault : ℕ) (rest more : List NextIf) (kept : List ℕ) (e d : ℕ) → kept ≡ [] → more ≡ rest → IsFaulting job c node fault rest →
    ((pair : Pair) → Follows job pair c.at.items → EndsHere job c.at.items pair → 1 ≤ e) → e ≤ 1 → d ≤ 1 → e ≤ times job c.at.items + d → IsKeeping job c node kept e d more
keeping_fault job c node fault rest more kept e d empty same f over few_ends few_doubts most =
    subst (λ xs. IsKeeping job c node kept e d xs) (sym same) (keeping_new job c node e d kept rest empty f.todo f.few f.goes over few_ends few_doubts most)

fault_answers : (job : Job) (c : Course) (node : PathNode) (fault : ℕ) (rest : List NextIf) (pair : Pair) → IsSplit job c node → HaveValues node.nodes → IsFaulting job c node fault rest → Follows job pair c.at.items → EndsHere job c.at.items pair → IsAnswering job node.path true LeftFaults pair
fault_answers job c node fault rest pair h have f follows over =
    let (e, refused) = ends_refused job c node h.placed.path h.short h.placed.stands have f.shows pair follows over in
    record { follows = subst (λ t. Follows job pair t) (sym h.placed.path) follows; same = λ _. e.same; holds = refused }

-- some pair is refused: it ends here
pub told_fault_yes : (job : Job) (c : Course) (node : PathNode) (fault : ℕ) (rest more : List NextIf) (kept : List ℕ) (values : Values) → kept ≡ [] → more ≡ rest → IsSplit job c node → HaveValues node.nodes → IsFaulting job c node fault rest → IsToldOf job node true fault (Yes values) → AreBytes (slice_index values.0) →
    IsKeeping job c node kept 1 0 more
told_fault_yes job c node fault rest more kept values empty same h have f told bytes =
    keeping_fault job c node fault rest more kept 1 0 empty same f (λ _ _ _. omega arith) (omega arith) (omega arith) (omega (arith, times-one job c.at.items pair a.follows.is_pair over))
  where
    pair : Pair
    pair = pair_of job (slice_index values.0)

    a : IsAnswering job node.path true LeftFaults pair
    a = met_answers job node true fault told.question LeftFaults (slice_index values.0) h.placed.stands have told.asking f.tells bytes told.right.met

    over : EndsHere job c.at.items pair
    over = subst (λ t. EndsHere job t pair) h.placed.path (shows_ends job pair node.path (short_node job c node h.placed.path h.short) a.follows (a.same refl) a.holds)

-- no pair is refused
pub told_fault_no : (job : Job) (c : Course) (node : PathNode) (fault : ℕ) (rest more : List NextIf) (kept : List ℕ) → kept ≡ [] → more ≡ rest → IsSplit job c node → HaveValues node.nodes → IsFaulting job c node fault rest → IsToldOf job node true fault No →
    IsKeeping job c node kept 0 0 more
told_fault_no job c node fault rest more kept empty same h have f told =
    keeping_fault job c node fault rest more kept 0 0 empty same f
    (λ pair follows over. absurd (told.right (answers_meet job node true fault told.question LeftFaults pair h.placed.stands have told.asking f.tells (fault_answers job c node fault rest pair h have f follows over))))
    (omega arith) (omega arith) (omega arith)

-- it was left open whether some pair is refused
pub told_fault_spent : (job : Job) (c : Course) (node : PathNode) (fault : ℕ) (rest more : List NextIf) (kept : List ℕ) → kept ≡ [] → more ≡ rest → IsFaulting job c node fault rest → IsKeeping job c node kept 1 1 more
told_fault_spent job c node fault rest more kept empty same f =
    keeping_fault job c node fault rest more kept 1 1 empty same f (λ _ _ _. omega arith) (omega arith) (omega arith) (omega arith)

next_tells : (job : Job) (c : Course) (node : PathNode) (kept : List ℕ) (e d : ℕ) (rest : List NextIf) (one : NextIf) → IsKeeping job c node kept e d (rest ++ one ∷ []) → Tells node.nodes one.when.0 (λ v. LeftGoes (next_steps job node.here v) one.next)
next_tells job c node kept e d rest one k = last_open job node rest one (λ (o : NextIf). Tells node.nodes o.when.0 (λ v. LeftGoes (next_steps job node.here v) o.next)) k.todo.tell

-- some pair goes to the next
pub told_next_yes : (job : Job) (c : Course) (node : PathNode) (kept : List ℕ) (e d : ℕ) (rest : List NextIf) (one : NextIf) (values : Values) → IsSplit job c node → HaveValues node.nodes → IsKeeping job c node kept e d (rest ++ one ∷ []) → IsToldOf job node true one.when.0 (Yes values) → AreBytes (slice_index values.0) →
    IsKeeping job c node (kept ++ one.next ∷ []) e (d + 0) rest
told_next_yes job c node kept e d rest one values h have k told bytes =
    keeping_keep job c node kept e d 0 rest one k (omega arith) (omega (arith, share-one job c.at.items one.next pair on h.short))
  where
    pair : Pair
    pair = pair_of job (slice_index values.0)

    a : IsAnswering job node.path true (λ runs. LeftGoes runs one.next) pair
    a = met_answers job node true one.when.0 told.question (λ runs. LeftGoes runs one.next) (slice_index values.0) h.placed.stands have told.asking (next_tells job c node kept e d rest one k) bytes told.right.met

    on : GoesTo job c.at.items pair one.next
    on = subst (λ t. GoesTo job t pair one.next) h.placed.path (shows_goes job pair node.path one.next a.follows (a.same refl) a.holds)

-- no pair goes to the next
pub told_next_no : (job : Job) (c : Course) (node : PathNode) (kept : List ℕ) (e d : ℕ) (rest : List NextIf) (one : NextIf) → IsSplit job c node → HaveValues node.nodes → IsKeeping job c node kept e d (rest ++ one ∷ []) → IsToldOf job node true one.when.0 No → IsKeeping job c node kept e d rest
told_next_no job c node kept e d rest one h have k told = keeping_drop job c node kept e d rest one k none
  where
    none : (pair : Pair) → GoesTo job c.at.items pair one.next → ⊥
    none pair on =
        let w = went_to job pair node.path one.next (subst (λ t. GoesTo job t pair one.next) (sym h.placed.path) on) in
        told.right (answers_meet job node true one.when.0 told.question (λ runs. LeftGoes runs one.next) pair h.placed.stands have told.asking (next_tells job c node kept e d rest one k) (record { follows = w.follows; same = λ _. w.same; holds = w.goes }))

-- it was left open whether some pair goes to the next
pub told_next_spent : (job : Job) (c : Course) (node : PathNode) (kept : List ℕ) (e d : ℕ) (rest : List NextIf) (one : NextIf) → IsKeeping job c node kept e d (rest ++ one ∷ []) → IsKeeping job c node (kept ++ one.next ∷ []) e (d + 1) rest
told_next_spent job c node kept e d rest one k = keeping_keep job c node kept e d 1 rest one k (omega arith) (share_more (weight job (c.at.items ++ one.next ∷ [])))
  where
    share_more : (w : ℕ) → max 1 w ≤ w + 1
    share_more w = max-le {a = 1} {b = w} {k = w + 1} (omega arith) (omega arith)

-- the same, by equal parts
pub keeping_as : (job : Job) (c : Course) (node : PathNode) (kept old_kept : List ℕ) (e old_e d old_d : ℕ) (rest old_rest : List NextIf) → kept ≡ old_kept → e ≡ old_e → d ≡ old_d → rest ≡ old_rest → IsKeeping job c node old_kept old_e old_d old_rest → IsKeeping job c node kept e d rest
keeping_as job c node kept old_kept e old_e d old_d rest old_rest a b f g k = rw (a, b, f, g) k

-- the step at the same place, where it is settled which pairs split
pub at_step_with : (job : Job) (c later : Course) (node : PathNode) (stride : Stride) → IsToldLeak job c later → IsAtStep job c node stride → IsAtStep job later node stride
at_step_with job c later node stride t h = record {
  placed = record { walked = t.walked; stands = h.placed.stands; path = h.placed.path ∙ sym t.same_at };
  short = omega (arith, h.short, ap length t.same_at);
  shows = h.shows;
  found = h.found;
}

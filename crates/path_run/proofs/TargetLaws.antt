-- What is kept of a computed jump: all targets that were seen, or the first of them with a place that is listed.
use Rattle.std.proofs.Common.{◌≡◌, ◌≢◌, ◌⊎◌, ℕ, suc, zero, ◌+◌, ◌<◌, ◌≤◌, Bool, true, false, List, [], ◌∷◌, ◌++◌, length, get_or, take, map, refl, sym, ◌∙◌, ap, subst, inl, inr, arith, slice_index}
use Rattle.std.specs.Prelude.{◌↔◌}
use Rattle.std.specs.List.{All, Any, AllPairs, Contains}
use Rattle.std.proofs.lemmas.List.{length-map, length-take, get_or-map, get_or-take, length_push, take_all}
use Rattle.std.proofs.lemmas.List.Elements.{All-contains}
use Rattle.bv_expr.specs.Nodes.{AreBytes, IsValuation}
use Rattle.bv_expr.specs.Valuations.{values_of}
use Rattle.bv_expr.specs.declared.values.Values.{Values}
use Rattle.cnf_form.specs.declared.cnf.Cnf.{Cnf}
use Rattle.cnf_form.specs.declared.line.Line.{Line}
use Rattle.cnf_form.specs.Solvable.{HasSolution}
use Rattle.ct_pairs.specs.declared.job.Job.{Job}
use Rattle.ct_pairs.specs.declared.pair.Pair.{Pair}
use Rattle.ct_pairs.specs.Paths.{Follows}
use Rattle.ct_entries.specs.declared.listed.Cause.{Cause}
use Rattle.ct_entries.specs.declared.listed.Cause.TheVariants.{SpentNext, Over}
use Rattle.ct_entries.specs.declared.listed.Listed.{Listed}
use Rattle.ct_entries.specs.declared.listed.Seen.{Seen}
use Rattle.ct_entries.specs.Entries.{SplitsAfter, GoesTo, GoesElsewhere, IsSolvedListed, IsListed, CoversAt, AreSeen, AreExplored, explored_of}
use Rattle.query_ask.specs.Formulas.{CanBeMet}
use Rattle.rel_step.specs.Bridge.{pair_of}
use Rattle.rel_step.specs.Runs.{Always, Tells}
use Rattle.rel_step.specs.declared.stride.NextIf.{NextIf}
use Rattle.rel_step.specs.Strides.{LeftGoes}
use Rattle.rel_step.specs.PathNodes.{PathNode, CanGo, next_steps}
use Rattle.path_run.specs.declared.course.Course.{Course}
use Rattle.path_run.specs.declared.told.Told.TheVariants.{Yes, No, Spent}
use Rattle.path_run.specs.Asking.{IsToldOf}
use Rattle.ct_entries.specs.Covering.{LeavesNoNext}
use Rattle.path_run.specs.Walks.{EndsHere, IsKnownSplit}
use Rattle.path_run.specs.Stages.{IsCourse, IsListing, IsSplit, AreLeaksKnown, IsLeft, IsKeeping, IsJumping, nexts_seen}
use Rattle.path_run.proofs.Somes.{Any-left, All-both}
use Rattle.path_run.proofs.Walks.{runs_after}
use Rattle.path_run.proofs.Showing.{shows_goes, went_to}
use Rattle.path_run.proofs.LeakLaws.{short_node}
use Rattle.path_run.proofs.OnwardLaws.{same_next}
use Rattle.path_run.proofs.JumpLaws.{GoesBeyond, tells_beyond, distinct_seen, in_or_not, keeping_only, goes_beyond, never_beyond, jump_not_over}
use Rattle.path_run.proofs.ToldLaws.{last_listed, listed_with}
use Rattle.path_run.proofs.Bridging.{HaveValues, IsAnswering, met_answers, answers_meet, along_env, runs_are}

-- each next that was seen is that of a pair
each_seen : (job : Job) (t : List ℕ) (seen : List Seen) → All (λ (one : Seen). GoesTo job t one.pair one.next) seen → All (λ next. (pair : Pair) × GoesTo job t pair next) (nexts_seen seen)
each_seen job t [] h = λ k d below. absurd (omega (arith, below))
each_seen job t (one ∷ seen) h = by (each_seen job t seen (λ k d below. h (suc k) d (omega (arith, below))))
  where
    by : All (λ next. (pair : Pair) × GoesTo job t pair next) (nexts_seen seen) → (k d : ℕ) → k < length (nexts_seen (one ∷ seen)) → (pair : Pair) × GoesTo job t pair (get_or (nexts_seen (one ∷ seen)) k d)
    by rest zero d below = (one.pair, h 0 one (omega arith))
    by rest (suc k) d below = rest k d (omega (arith, below))

-- the nexts of the first ones
front_each : {X : Type 0} (P : X → Type 0) (n : ℕ) (xs : List X) → All P xs → All P (take n xs)
front_each P n xs h k d below =
    subst P (sym (get_or-take n xs k d (omega (arith, below, length-take n xs)))) (h k d (omega (arith, below, length-take n xs)))

front_pairs : {X : Type 0} (R : X → X → Type 0) (n : ℕ) (xs : List X) → AllPairs R xs → AllPairs R (take n xs)
front_pairs R n xs h i j d below inside =
    let in_n : j < n = omega (arith, inside, length-take n xs) in
    subst (λ y. R (get_or (take n xs) i d) y) (sym (get_or-take n xs j d in_n))
    (subst (λ x. R x (get_or xs j d)) (sym (get_or-take n xs i d (omega (arith, below, in_n)))) (h i j d below (omega (arith, inside, length-take n xs))))

-- the same targets, where the walk has listed more
jumping_with : (job : Job) (c later : Course) (node : PathNode) (target others : ℕ) (seen : List Seen) → later.at.items ≡ c.at.items → IsJumping job c node target others seen → IsJumping job later node target others seen
jumping_with job c later node target others seen same j = record {
  aims = j.aims;
  tells = j.tells;
  each = subst (λ t. All (λ (one : Seen). GoesTo job t one.pair one.next) seen) (sym same) j.each;
  apart = j.apart;
  few = j.few;
  can = j.can;
}

pub split_with : (job : Job) (c later : Course) (node : PathNode) (cause : Cause) → IsSplit job c node → IsListing c cause later → IsSolvedListed job (record { path = c.at.items; cause = cause }) → IsSplit job later node
split_with job c later node cause h w solved = record {
  placed = record { walked = listed_with job c later cause h.placed.walked w solved; stands = h.placed.stands; path = h.placed.path ∙ sym w.same_at };
  short = omega (arith, h.short, ap length w.same_at);
  leaks = leaks;
}
  where
    more : (pair : Pair) → SplitsAfter job c.at.items pair → IsKnownSplit job c.found.items c.path.leaked pair ⊎ IsListed job (c.listed.items ++ record { path = c.at.items; cause = cause } ∷ []) pair
    more pair split = elim (h.leaks pair split) [ inl known ↦ inl known | inr place ↦ inr (Any-left (λ (p : Listed). CoversAt job p.path p.cause pair) c.listed.items (record { path = c.at.items; cause = cause } ∷ []) place) ]

    leaks : AreLeaksKnown job later
    leaks = rw (w.same_path, w.same_at, w.found_are, w.listed_are) more

-- all targets that were seen are kept, where no pair goes beyond them or those that do are covered
keeping_seen : (job : Job) (c : Course) (node : PathNode) (target others : ℕ) (seen kept_of : List Seen) (kept : List ℕ) (e d : ℕ) (rest : List NextIf) → rest ≡ [] → e ≡ 0 → d ≡ 0 → kept ≡ nexts_seen kept_of → length kept_of ≤ job.targets →
    All (λ (one : Seen). GoesTo job c.at.items one.pair one.next) kept_of → AllPairs (λ (a b : Seen). a.next ≢ b.next) kept_of → IsSplit job c node → HaveValues node.nodes → IsJumping job c node target others seen →
    ((pair : Pair) (next : ℕ) → GoesTo job c.at.items pair next → Contains kept next ⊎ IsLeft job c.listed.items pair) → IsKeeping job c node kept e d rest
keeping_seen job c node target others seen kept_of kept e d rest empty no_end no_doubt are few each apart h have j goes =
    keeping_only job c node kept e d rest empty no_end no_doubt h.short (subst (λ xs. AllPairs ◌≢◌ xs) (sym are) (distinct_seen kept_of apart)) (omega (arith, few, ap length are, length-map kept_of (λ (s : Seen). s.next), job.limits.targets_most))
    (subst (λ xs. All (λ next. (pair : Pair) × GoesTo job c.at.items pair next) xs) (sym are) (each_seen job c.at.items kept_of each)) j.can goes (jump_not_over job c node target others e seen h have j)

-- no pair goes beyond the targets that were seen
pub keeping_all : (job : Job) (c : Course) (node : PathNode) (target others : ℕ) (seen : List Seen) (kept : List ℕ) (e d : ℕ) (rest : List NextIf) → rest ≡ [] → e ≡ 0 → d ≡ 0 → kept ≡ nexts_seen seen → length seen ≤ job.targets → IsSplit job c node → HaveValues node.nodes → IsJumping job c node target others seen →
    ((pair : Pair) → IsAnswering job node.path true (GoesBeyond (nexts_seen seen)) pair → ⊥) → IsKeeping job c node kept e d rest
keeping_all job c node target others seen kept e d rest empty no_end no_doubt are few h have j none =
    keeping_seen job c node target others seen seen kept e d rest empty no_end no_doubt are few j.each j.apart h have j
    (λ pair next on. elim (goes_beyond job c node (nexts_seen seen) pair next h on) [ inl there ↦ inl (subst (λ xs. Contains xs next) (sym are) there) | inr a ↦ absurd (none pair a) ])

-- it was told that there are no others
pub told_target_no : (job : Job) (c : Course) (node : PathNode) (target others : ℕ) (seen : List Seen) (kept : List ℕ) (e d : ℕ) (rest : List NextIf) → rest ≡ [] → e ≡ 0 → d ≡ 0 → kept ≡ nexts_seen seen → length seen ≤ job.targets → IsSplit job c node → HaveValues node.nodes → IsJumping job c node target others seen →
    IsToldOf job node true others No → IsKeeping job c node kept e d rest
told_target_no job c node target others seen kept e d rest empty no_end no_doubt are few h have j told =
    keeping_all job c node target others seen kept e d rest empty no_end no_doubt are few h have j
    (λ pair a. told.right (answers_meet job node true others told.question (GoesBeyond (nexts_seen seen)) pair h.placed.stands have told.asking (tells_beyond job node target others (nexts_seen seen) j.aims j.tells) a))

-- the expression is never true
pub keeping_never : (job : Job) (c : Course) (node : PathNode) (target others : ℕ) (seen : List Seen) (kept : List ℕ) (e d : ℕ) (rest : List NextIf) → rest ≡ [] → e ≡ 0 → d ≡ 0 → kept ≡ nexts_seen seen → length seen ≤ job.targets → IsSplit job c node → HaveValues node.nodes → IsJumping job c node target others seen →
    Always node.nodes (λ v. v others ≡ 0) → IsKeeping job c node kept e d rest
keeping_never job c node target others seen kept e d rest empty no_end no_doubt are few h have j never =
    keeping_all job c node target others seen kept e d rest empty no_end no_doubt are few h have j (never_beyond job c node target others seen h have j never)

-- a pair that goes elsewhere is covered by the place that was listed last
left_by : (job : Job) (c later : Course) (cause : Cause) (pair : Pair) → IsListing c cause later → (LeavesNoNext (record { path = c.at.items; cause = cause }) → ⊥) → CoversAt job c.at.items cause pair → IsLeft job later.listed.items pair
left_by job c later cause pair w leaves covers =
    rw w.listed_are (last_listed job c.listed.items c.at.items cause pair covers, λ none. leaves ((All-both LeavesNoNext c.listed.items (record { path = c.at.items; cause = cause } ∷ []) none).1 0 (record { path = c.at.items; cause = cause }) (omega arith)))

elsewhere_or_kept : (job : Job) (t xs : List ℕ) (pair : Pair) (next : ℕ) → GoesTo job t pair next → Contains xs next ⊎ GoesElsewhere job t xs pair
elsewhere_or_kept job t xs pair next on = elim (in_or_not xs next) [ inl there ↦ inl there | inr beyond ↦ inr (next, on, beyond) ]

-- more targets were seen than are explored
pub solved_over : (job : Job) (c : Course) (node : PathNode) (target others : ℕ) (seen : List Seen) → IsJumping job c node target others seen → job.targets < length seen → IsSolvedListed job (record { path = c.at.items; cause = Over seen })
solved_over job c node target others seen j many = record { count = omega (arith, j.few, many); each = j.each; apart = j.apart }

pub keeping_over : (job : Job) (c later : Course) (node : PathNode) (target others : ℕ) (seen : List Seen) (kept : List ℕ) (e d : ℕ) (rest : List NextIf) → rest ≡ [] → e ≡ 0 → d ≡ 0 → kept ≡ nexts_seen (take job.targets seen) → IsSplit job later node → HaveValues node.nodes → IsJumping job c node target others seen →
    IsListing c (Over seen) later → IsKeeping job later node kept e d rest
keeping_over job c later node target others seen kept e d rest empty no_end no_doubt are h have j w =
    keeping_seen job later node target others seen (take job.targets seen) kept e d rest empty no_end no_doubt are (omega (arith, length-take job.targets seen)) (front_each (λ (one : Seen). GoesTo job later.at.items one.pair one.next) job.targets seen (jumping_with job c later node target others seen w.same_at j).each) (front_pairs (λ (a b : Seen). a.next ≢ b.next) job.targets seen j.apart) h have (jumping_with job c later node target others seen w.same_at j) goes
  where
    goes : (pair : Pair) (next : ℕ) → GoesTo job later.at.items pair next → Contains kept next ⊎ IsLeft job later.listed.items pair
    goes pair next on =
        elim (elsewhere_or_kept job c.at.items (explored_of job seen) pair next (subst (λ t. GoesTo job t pair next) w.same_at on)) [
          | inl there ↦ inl (subst (λ xs. Contains xs next) (sym are) there)
          | inr elsewhere ↦ inr (left_by job c later (Over seen) pair w (λ none. none) elsewhere)
        ]

-- it was left open whether there are others
pub solved_spent : (job : Job) (c : Course) (node : PathNode) (target others : ℕ) (seen : List Seen) (explored : List ℕ) (cnf : Cnf) (log : List Line) → explored ≡ nexts_seen seen → length seen ≤ job.targets → IsSplit job c node → HaveValues node.nodes → IsJumping job c node target others seen →
    IsToldOf job node true others (Spent cnf log) → IsSolvedListed job (record { path = c.at.items; cause = SpentNext explored cnf log })
solved_spent job c node target others seen explored cnf log are few h have j told = (
  record {
    few = omega (arith, few, ap length are, length-map seen (λ (s : Seen). s.next));
    apart = subst (λ xs. AllPairs ◌≢◌ xs) (sym are) (distinct_seen seen j.apart);
    each = subst (λ xs. All (λ next. (pair : Pair) × GoesTo job c.at.items pair next) xs) (sym are) (each_seen job c.at.items seen j.each);
  },
  (λ solution. to_pair (told.right.reads solution), solves),
)
  where
    tells : Tells node.nodes others (λ v. GoesBeyond (nexts_seen seen) (next_steps job node.here v))
    tells = tells_beyond job node target others (nexts_seen seen) j.aims j.tells

    to_pair : CanBeMet told.question → (pair : Pair) × GoesElsewhere job c.at.items explored pair
    to_pair met = (pair_of job met.env, goes (met_answers job node true others told.question (GoesBeyond (nexts_seen seen)) met.env h.placed.stands have told.asking tells met.bytes met.met))
      where
        goes : IsAnswering job node.path true (GoesBeyond (nexts_seen seen)) (pair_of job met.env) → GoesElsewhere job c.at.items explored (pair_of job met.env)
        goes a =
            let (next, goes, beyond) = a.holds in
            (next, subst (λ t. GoesTo job t (pair_of job met.env) next) h.placed.path (shows_goes job (pair_of job met.env) node.path next a.follows (a.same refl) goes), subst (λ xs. Contains xs next → ⊥) (sym are) beyond)

    solves : (pair : Pair) × GoesElsewhere job c.at.items explored pair → HasSolution cnf
    solves (pair, (next, on, beyond)) =
        let w = went_to job pair node.path next (subst (λ t. GoesTo job t pair next) (sym h.placed.path) on) in
        told.right.solves (answers_meet job node true others told.question (GoesBeyond (nexts_seen seen)) pair h.placed.stands have told.asking tells (record { follows = w.follows; same = λ _. w.same; holds = (next, w.goes, subst (λ xs. Contains xs next → ⊥) are beyond) }))

pub keeping_spent : (job : Job) (c later : Course) (node : PathNode) (target others : ℕ) (seen : List Seen) (kept explored : List ℕ) (e d : ℕ) (rest : List NextIf) (cnf : Cnf) (log : List Line) → rest ≡ [] → e ≡ 0 → d ≡ 0 → kept ≡ nexts_seen seen → explored ≡ nexts_seen seen → length seen ≤ job.targets →
    IsSplit job later node → HaveValues node.nodes → IsJumping job c node target others seen → IsListing c (SpentNext explored cnf log) later → IsKeeping job later node kept e d rest
keeping_spent job c later node target others seen kept explored e d rest cnf log empty no_end no_doubt are same few h have j w =
    keeping_seen job later node target others seen seen kept e d rest empty no_end no_doubt are few (jumping_with job c later node target others seen w.same_at j).each j.apart h have (jumping_with job c later node target others seen w.same_at j) goes
  where
    goes : (pair : Pair) (next : ℕ) → GoesTo job later.at.items pair next → Contains kept next ⊎ IsLeft job later.listed.items pair
    goes pair next on =
        elim (elsewhere_or_kept job c.at.items explored pair next (subst (λ t. GoesTo job t pair next) w.same_at on)) [
          | inl there ↦ inl (subst (λ xs. Contains xs next) (same ∙ sym are) there)
          | inr elsewhere ↦ inr (left_by job c later (SpentNext explored cnf log) pair w (λ none. none) elsewhere)
        ]

-- what the pair of some values that meet the question shows
pub record SeesTarget (job : Job) (c : Course) (seen : List Seen) (pair : Pair) (next : ℕ) : Type 0 where
  pub goes : GoesTo job c.at.items pair next
  pub new : Contains (nexts_seen seen) next → ⊥

-- the value of the target is where the pair goes
pub sees_target : (job : Job) (c : Course) (node : PathNode) (target others next : ℕ) (seen : List Seen) (values : Values) → IsSplit job c node → HaveValues node.nodes → IsJumping job c node target others seen → IsToldOf job node true others (Yes values) → AreBytes (slice_index values.0) →
    ((v : ℕ → ℕ) → IsValuation (slice_index values.0) v node.nodes → v target ≡ next) → SeesTarget job c seen (pair_of job (slice_index values.0)) next
sees_target job c node target others next seen values h have j told bytes value = record {
  goes = subst (λ t. GoesTo job t pair next) h.placed.path (shows_goes job pair node.path next a.follows (a.same refl) goes_next);
  new = λ there. a.holds.2 (subst (λ n. Contains (nexts_seen seen) n) (sym same) there);
}
  where
    env : ℕ → ℕ
    env = slice_index values.0

    pair : Pair
    pair = pair_of job env

    v : ℕ → ℕ
    v = slice_index (values_of env node.nodes)

    a : IsAnswering job node.path true (GoesBeyond (nexts_seen seen)) pair
    a = met_answers job node true others told.question (GoesBeyond (nexts_seen seen)) env h.placed.stands have told.asking (tells_beyond job node target others (nexts_seen seen) j.aims j.tells) bytes told.right.met

    goes_next : LeftGoes (runs_after job pair node.path) next
    goes_next =
        let along = (told.asking.meaning env v bytes (have env)).0 told.right.met in
        subst (λ n. LeftGoes (runs_after job pair node.path) n) (value v (have env)) (subst (λ runs. LeftGoes runs (v target)) (runs_are job node env v pair h.placed.stands (along_env job node env v bytes (have env) along.along)) (j.aims.goes env v bytes (have env)))

    same : a.holds.0 ≡ next
    same = same_next (runs_after job pair node.path) a.holds.0 next a.holds.1 goes_next

-- all that were seen are the first so many
pub first_all : (seen : List Seen) (kept : List ℕ) (count : ℕ) → count ≡ length seen → kept ≡ nexts_seen (take count seen) → kept ≡ nexts_seen seen
first_all seen kept count e are = are ∙ ap (λ n. nexts_seen (take n seen)) e ∙ ap nexts_seen (take_all (length seen) seen (omega arith))

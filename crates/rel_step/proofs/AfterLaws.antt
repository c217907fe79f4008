-- A node one step later stands for its longer path.
use Rattle.std.proofs.Common.{◌≡◌, ℕ, suc, zero, ◌+◌, ◌<◌, ◌≤◌, Bool, true, false, List, [], ◌∷◌, ◌++◌, length, Option, Some, None, refl, sym, ◌∙◌, ap, subst, arith, append-nil}
use Rattle.std.specs.List.{cons_option}
use Rattle.std.specs.Option.{option_to_list}
use Rattle.std.specs.Prelude.{MatchOption}
use Rattle.std.proofs.lemmas.List.{length-append, length_push, same_from_push}
use Rattle.std.proofs.lemmas.List.Elements.{filter_map-append}
use Rattle.rv_image.specs.Cell.{Cell}
use Rattle.rv_machine.specs.declared.«record».Record.{Record}
use Rattle.rv_machine.specs.State.{State}
use Rattle.rv_machine.specs.Step.{step}
use Rattle.rv_machine.specs.Trail.{state_after, record_after, trail}
use Rattle.bv_expr.specs.Nodes.{IsValuation, AreBytes}
use Rattle.ct_pairs.specs.declared.job.Job.{Job}
use Rattle.ct_pairs.specs.Paths.{nexts}
use Rattle.ct_pairs.proofs.TrailLemmas.{state_after-more, trail-more, trail-none, trail-shown}
use Rattle.rel_step.specs.declared.last.Last.{Last}
use Rattle.rel_step.specs.Bridge.{side_start, side_trail, RunsAlong}
use Rattle.rel_step.specs.Runs.{state_of}
use Rattle.rel_step.specs.PathNodes.{PathNode, last_or, Meets, next_steps, GoTo, IsLast, IsNode, IsAfter}

pub last_or-push : (pc : ℕ) (path : List ℕ) (next : ℕ) → last_or pc (path ++ next ∷ []) ≡ next
last_or-push pc [] next = refl
last_or-push pc (first ∷ path) next = last_or-push first path next

module _ (image : List Cell) (stops : List ℕ) where
  nexts-step : (s : State) (n : ℕ) (o : Option Record) → record_after image stops s n ≡ o → nexts (trail image stops s (n + 1)) ≡ nexts (trail image stops s n) ++ nexts (option_to_list o)
  nexts-step s n o e = ap nexts (trail-more image stops s n ∙ ap (λ p. trail image stops s n ++ option_to_list p) e) ∙ filter_map-append (λ (r : Record). r.next) (trail image stops s n) (option_to_list o)

  length-last : (o : Option Record) → length (nexts (option_to_list o)) ≤ 1
  length-last None = omega arith
  length-last (Some seen) = by seen.next
    where
      by : (o : Option ℕ) → length (cons_option o []) ≤ 1
      by None = omega arith
      by (Some n) = omega arith

  length-nexts : (s : State) (n : ℕ) → length (nexts (trail image stops s n)) ≤ n
  length-nexts s zero = omega (arith, ap (λ rs. length (nexts rs)) (trail-none image stops s))
  length-nexts s (suc n) =
      let longer : suc n ≡ n + 1 = omega arith in
      omega (arith, ap (λ k. length (nexts (trail image stops s k))) longer, ap length (nexts-step s n (record_after image stops s n) refl), length-append (nexts (trail image stops s n)) (nexts (option_to_list (record_after image stops s n))), length-last (record_after image stops s n), length-nexts s n)

  -- what the last record is, by the nexts
  pub record LastSeen (s : State) (n next : ℕ) (path : List ℕ) : Type 0 where
    pub seen : Record
    pub shown : record_after image stops s n ≡ Some seen
    pub goes : seen.next ≡ Some next
    pub before : nexts (trail image stops s n) ≡ path

  too_short : (s : State) (n next : ℕ) (path : List ℕ) → length path ≡ n → nexts (trail image stops s n) ≡ path ++ next ∷ [] → ⊥
  too_short s n next path long e = absurd (omega (arith, long, ap length e, length_push path next, length-nexts s n))

  last_by_next : (s : State) (n next : ℕ) (path : List ℕ) (seen : Record) (o : Option ℕ) → length path ≡ n → record_after image stops s n ≡ Some seen → seen.next ≡ o → nexts (trail image stops s n) ++ cons_option o [] ≡ path ++ next ∷ [] → LastSeen s n next path
  last_by_next s n next path seen None long e is goes = absurd (too_short s n next path long (sym (append-nil _) ∙ goes))
  last_by_next s n next path seen (Some m) long e is goes =
      let (before, same) = same_from_push (nexts (trail image stops s n)) path m next goes in
      record { seen = seen; shown = e; goes = is ∙ ap Some same; before = before }

  last_by : (s : State) (n next : ℕ) (path : List ℕ) (o : Option Record) → length path ≡ n → record_after image stops s n ≡ o → nexts (trail image stops s (n + 1)) ≡ path ++ next ∷ [] → LastSeen s n next path
  last_by s n next path None long e goes = absurd (too_short s n next path long (sym (append-nil _) ∙ sym (nexts-step s n None e) ∙ goes))
  last_by s n next path (Some seen) long e goes =
      last_by_next s n next path seen seen.next long e refl (sym (nexts-step s n (Some seen) e) ∙ goes)

  pub last_of : (s : State) (n next : ℕ) (path : List ℕ) → length path ≡ n → nexts (trail image stops s (n + 1)) ≡ path ++ next ∷ [] → LastSeen s n next path
  last_of s n next path long goes = last_by s n next path (record_after image stops s n) long refl goes

-- the runs go one step further together
pub record GoOn (job : Job) (env : ℕ → ℕ) (path : List ℕ) (next : ℕ) : Type 0 where
  pub before : RunsAlong job env path
  pub seen : Record
  pub left : record_after job.image job.stops (side_start false job env) (length path) ≡ Some seen
  pub right : record_after job.image job.stops (side_start true job env) (length path) ≡ Some seen
  pub goes : seen.next ≡ Some next

module _ (job : Job) (env : ℕ → ℕ) (path : List ℕ) (next : ℕ) where
  abbrev l : State
  l = side_start false job env

  abbrev r : State
  r = side_start true job env

  pub go_on : RunsAlong job env (path ++ next ∷ []) → GoOn job env path next
  go_on h = by (last_of job.image job.stops l (length path) next path refl left_goes) (last_of job.image job.stops r (length path) next path refl (sym (ap nexts same) ∙ left_goes))
    where
      same : trail job.image job.stops l (length path + 1) ≡ trail job.image job.stops r (length path + 1)
      same = subst (λ n. trail job.image job.stops l n ≡ trail job.image job.stops r n) (length_push path next) h.agrees

      left_goes : nexts (trail job.image job.stops l (length path + 1)) ≡ path ++ next ∷ []
      left_goes = subst (λ n. nexts (trail job.image job.stops l n) ≡ path ++ next ∷ []) (length_push path next) h.goes

      by : LastSeen job.image job.stops l (length path) next path → LastSeen job.image job.stops r (length path) next path → GoOn job env path next
      by a b =
          let (before, seen) = same_from_push _ _ a.seen b.seen (sym (trail-shown job.image job.stops l (length path) a.seen a.shown) ∙ same ∙ trail-shown job.image job.stops r (length path) b.seen b.shown) in
          record { before = record { agrees = before; goes = a.before }; seen = a.seen; left = a.shown; right = b.shown ∙ ap Some (sym seen); goes = a.goes }

  pub went_on : GoOn job env path next → RunsAlong job env (path ++ next ∷ [])
  went_on h = record {
    agrees = subst (λ n. side_trail false job env n ≡ side_trail true job env n) (sym (length_push path next)) (trail-shown job.image job.stops l (length path) h.seen h.left ∙ ap (λ rs. rs ++ h.seen ∷ []) h.before.agrees ∙ sym (trail-shown job.image job.stops r (length path) h.seen h.right));
    goes = subst (λ n. nexts (side_trail false job env n) ≡ path ++ next ∷ []) (sym (length_push path next)) (nexts-step job.image job.stops l (length path) (Some h.seen) h.left ∙ ap (λ xs. xs ++ cons_option h.seen.next []) h.before.goes ∙ ap (λ o. path ++ cons_option o []) h.goes);
  }

-- the next record of one of the runs
seen_is : (job : Job) (node : PathNode) (right : Bool) (env v : ℕ → ℕ) → IsNode job node → AreBytes env → IsValuation env v node.nodes → Meets v node.conjuncts → record_after job.image job.stops (side_start right job env) (length node.path) ≡ (next_steps job node.here v right).seen
seen_is job node right env v h bytes is m = ap (λ s. (step job.image job.stops s).seen) (h.states right env v bytes is m)

nothing_left : (job : Job) (node : PathNode) → (o : Option Last) → o ≡ None → MatchOption o (Unit {0}) (IsLast job node)
nothing_left job node None e = tt
nothing_left job node (Some last) e = cc

pub IsNode-after : (job : Job) (node later : PathNode) (next : ℕ) → IsNode job node → IsAfter job node next later → length node.path < job.bound → IsNode job later
IsNode-after job node later next h a short = record {
  within = omega (arith, short, longer);
  pc = a.pc ∙ sym (ap (last_or job.entry) a.path ∙ last_or-push job.entry node.path next);
  here = a.here;
  image = a.image ∙ h.image;
  conjuncts = a.conjuncts;
  exact = λ env v bytes is. (along env v bytes is, meets env v bytes is);
  states = λ right env v bytes is m. by right env v bytes is m ((a.exact env v bytes is).0 m);
  variables = a.variables;
  last = nothing_left job later later.last a.last;
}
  where
    longer : length later.path ≡ length node.path + 1
    longer = ap length a.path ∙ length_push node.path next

    along : (env v : ℕ → ℕ) → AreBytes env → IsValuation env v later.nodes → Meets v later.conjuncts → RunsAlong job env later.path
    along env v bytes is m =
        let (before, (same, (seen, left, goes))) = (a.exact env v bytes is).0 m in
        let was = a.values env v is in
        subst (λ p. RunsAlong job env p) (sym a.path) (went_on job env node.path next (record {
          before = (h.exact env v bytes was).0 before;
          seen = seen;
          left = seen_is job node false env v h bytes was before ∙ left;
          right = seen_is job node true env v h bytes was before ∙ sym same ∙ left;
          goes = goes;
        }))

    meets : (env v : ℕ → ℕ) → AreBytes env → IsValuation env v later.nodes → RunsAlong job env later.path → Meets v later.conjuncts
    meets env v bytes is runs =
        let g = go_on job env node.path next (subst (λ p. RunsAlong job env p) a.path runs) in
        let was = a.values env v is in
        let before = (h.exact env v bytes was).1 g.before in
        let left = sym (seen_is job node false env v h bytes was before) ∙ g.left in
        let right = sym (seen_is job node true env v h bytes was before) ∙ g.right in
        (a.exact env v bytes is).1 (before, (left ∙ sym right, (g.seen, left, g.goes)))

    by : (right : Bool) (env v : ℕ → ℕ) → AreBytes env → IsValuation env v later.nodes → Meets v later.conjuncts → Meets v node.conjuncts × GoTo (next_steps job node.here v) next
        → state_after job.image job.stops (side_start right job env) (length later.path) ≡ state_of right v later.here
    by right env v bytes is m (before, goes) =
        ap (state_after job.image job.stops (side_start right job env)) longer
        ∙ state_after-more job.image job.stops (side_start right job env) (length node.path)
        ∙ ap (λ s. (step job.image job.stops s).after) (h.states right env v bytes (a.values env v is) before)
        ∙ sym (a.states right env v bytes is m)

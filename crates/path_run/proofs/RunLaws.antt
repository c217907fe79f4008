-- Turns after turns, and questions after questions.
use Rattle.std.proofs.Common.{◌≡◌, ℕ, ◌+◌, ◌*◌, ◌-◌, ◌<◌, ◌≤◌, Bool, List, [], length, map, Option, Some, None, refl, sym, ◌∙◌, ap, subst, arith}
use Rattle.std.specs.Prelude.{MatchOption, IfSome, option_map}
use Rattle.std.specs.List.{All}
use Rattle.ct_pairs.specs.declared.job.Job.{Job}
use Rattle.ct_pairs.specs.declared.pair.Pair.{Pair}
use Rattle.ct_pairs.specs.Paths.{Follows}
use Rattle.ct_entries.specs.Entries.{IsTrueListed}
use Rattle.path_tree.specs.declared.path.Path.{Path}
use Rattle.query_ask.specs.Questions.{Asked}
use Rattle.rel_step.specs.PathNodes.{PathNode, IsNode}
use Rattle.path_run.specs.declared.course.Course.{Course}
use Rattle.path_run.specs.declared.record_of.RecordOf.{RecordOf}
use Rattle.path_run.specs.declared.stage.Stage.TheVariants.{Fresh}
use Rattle.path_run.specs.declared.stand.Stand.{Stand}
use Rattle.path_run.specs.declared.told.Told.{Told}
use Rattle.path_run.specs.declared.walk.Walk.{Walk}
use Rattle.path_run.specs.declared.walk.Walked.{Walked}
use Rattle.path_run.specs.declared.walk.Walked.TheVariants.{Ask, Done}
use Rattle.path_run.specs.Asking.{IsQuestionOf, IsRightTold, IsToldOf}
use Rattle.path_run.specs.Replays.{IsReplayed}
use Rattle.path_run.specs.Stages.{IsCourse, IsPlaced, IsStage, asked_at}
use Rattle.path_run.specs.Telling.{HaveSpentLogs}
use Rattle.path_run.specs.Walks.{IsWalked}
use Rattle.path_run.specs.Walking.{IsBegun, IsNowhere, IsWalk, IsIdle, IsLater, IsCome, IsDone, IsAsking, IsTold, KeepsSpent, course_of, path_of, listed_of, turns_left}
use Rattle.path_run.proofs.LogLaws.{true_places}
use Rattle.path_run.proofs.Walks.{walk_first}

-- what a later walk of the same path came to
pub come_from : (job : Job) (c later : Course) (old doubts m n : ℕ) (walked : Walked) → later.path ≡ c.path → KeepsSpent c.listed.items later.listed.items → m ≤ n → old ≡ doubts → IsCome job later old m walked → IsCome job c doubts n walked
come_from job c later old doubts m n (Ask q next) same keeps le as_many (h, asking, logs, few) = (record { is_walk = h.is_walk; same_path = h.same_path ∙ same; nearer = omega (arith, h.nearer, le) }, asking, λ budget spent. logs budget (keeps budget spent), few ∙ as_many)
come_from job c later old doubts m n (Done r node) same keeps le as_many (h, logs, few) = (subst (λ p. IsDone job p r node) same h, λ budget spent. logs budget (keeps budget spent), few ∙ as_many)

-- what is right for a question is right for the walk that asked it
pub told_right : (job : Job) (walk : Walk) (q : Asked) (told : Told) → IsAsking job walk q → IsRightTold q told → IsTold job walk told
told_right job walk q told asking right = by walk.stand asking
  where
    at : (node : PathNode) (o : Option (ℕ × Bool)) → MatchOption o ⊥ (λ asked. IsQuestionOf job node asked.1 asked.0 q) → MatchOption o ⊥ (λ asked. IsToldOf job node asked.1 asked.0 told)
    at node None h = absurd h
    at node (Some asked) h = record { question = q; asking = h; right = right }

    by : (o : Option Stand) → MatchOption o ⊥ (λ stand. MatchOption (asked_at stand.stage) ⊥ (λ asked. IsQuestionOf job stand.node asked.1 asked.0 q)) →
        MatchOption o ⊥ (λ stand. MatchOption (asked_at stand.stage) ⊥ (λ asked. IsToldOf job stand.node asked.1 asked.0 told))
    by None h = absurd h
    by (Some stand) h = at stand.node (asked_at stand.stage) h

-- a walk that begins at a node, or nowhere
pub begun_walk : (job : Job) (path : Path) (c : Course) (node : Option PathNode) (walk : Walk) → IsBegun path c → IsReplayed job path.nexts node → walk.course ≡ c → walk.stand ≡ option_map (λ n. record { node = n; stage = Fresh }) node → IsWalk job walk
begun_walk job path c node walk b h e s = rw (e, s) (by node h)
  where
    same : c.path.nexts ≡ path.nexts
    same = ap (λ (p : Path). p.nexts) b.same_path

    placed : (n : PathNode) → IsNode job n → n.path ≡ path.nexts → IsPlaced job c n
    placed n stands along = record {
      walked = rw (b.at_end, b.found, b.listed, b.ends, b.doubts) (subst (λ p. IsWalked job p path.nexts [] [] 0 0) (sym b.same_path) (walk_first job path (omega (arith, stands.within, ap length along))));
      stands = stands;
      path = along ∙ sym b.at_end;
    }

    nowhere : ((pair : Pair) → length path.nexts ≤ job.bound → Follows job pair path.nexts → ⊥) → IsNowhere job c
    nowhere none = record {
      none = subst (λ t. (pair : Pair) → length t ≤ job.bound → Follows job pair t → ⊥) (sym same) none;
      found = b.found;
      listed = b.listed;
      ends = b.ends;
      doubts = b.doubts;
    }

    by : (o : Option PathNode) → IsReplayed job path.nexts o → MatchOption (option_map (λ n. record { node = n; stage = Fresh }) o) (IsNowhere job c) (λ (stand : Stand). IsStage job c stand.node stand.stage)
    by None none = nowhere none
    by (Some n) (stands, along) = placed n stands along

pub begun_idle : (node : Option PathNode) (walk : Walk) → walk.stand ≡ option_map (λ n. record { node = n; stage = Fresh }) node → IsIdle walk
begun_idle node walk s = rw s (by node)
  where
    by : (o : Option PathNode) → MatchOption (option_map (λ n. record { node = n; stage = Fresh }) o) (Unit {0}) (λ (stand : Stand). asked_at stand.stage ≡ None)
    by None = tt
    by (Some n) = refl

-- a record whose listed logs are all spent has true places
pub done_places : (job : Job) (c : Course) (r : RecordOf) (node : Option PathNode) → IsDone job c.path r node → KeepsSpent c.listed.items r.listed → HaveSpentLogs job.budget c.listed.items → All (IsTrueListed job) r.listed
done_places job c r node h logs spent = true_places job r.listed h.true_record.listed (logs job.budget spent)

use Rattle.std.proofs.Common.{Some}
use Rattle.std.proofs.lemmas.List.Elements.{All-pop, All-push, All-same, All-weaker}
use Rattle.work_crew.specs.Crew.{IsAccount, IsMember, IsStarting}
use Rattle.work_crew.proofs.crew.worked.Goals as goal

pub begin-requires-clause-member : goal.begin-requires-clause-member
begin-requires-clause-member g c = ((All-pop (IsStarting c.args.job.now c.args.pool.now) c.args.members.items c.pop.new.self.items (Some c.in-Some.first) c.in-Some.ensures.items c.requires).1).0

pub begin-requires-clause-free : goal.begin-requires-clause-free
begin-requires-clause-free g c = ((All-pop (IsStarting c.args.job.now c.args.pool.now) c.args.members.items c.pop.new.self.items (Some c.in-Some.first) c.in-Some.ensures.items c.requires).1).1

pub joined-requires-after_bounds : goal.joined-requires-after_bounds
joined-requires-after_bounds g c κs within =
    let member = IsMember c.args.job.now c.args.pool.now in
    let rest = (All-pop (IsStarting c.args.job.now c.args.pool.now) c.args.members.items c.pop.new.self.items (Some c.in-Some.first) c.in-Some.ensures.items c.requires).0 in
    All-same member _ _ c.in_ok-push-in-Ok.ensures.items (All-push member c.pop.new.self.items c.in-Ok.first (All-weaker (IsStarting c.args.job.now c.args.pool.now) member (λ m is. is.0) c.pop.new.self.items rest) c.in-Ok.ensures)

pub joined-requires-in-Err-after_bounds : goal.joined-requires-in-Err-after_bounds
joined-requires-in-Err-after_bounds g c κs within =
    let rest = (All-pop (IsStarting c.args.job.now c.args.pool.now) c.args.members.items c.pop.new.self.items (Some c.in-Some.first) c.in-Some.ensures.items c.requires).0 in
    All-weaker (IsStarting c.args.job.now c.args.pool.now) (IsMember c.args.job.now c.args.pool.now) (λ m is. is.0) c.pop.new.self.items rest

pub returns-in_ok-push-in-Err-clause-left : goal.returns-in_ok-push-in-Err-clause-left
returns-in_ok-push-in-Err-clause-left g c =
    let left = IsAccount c.args.job.now c.args.pool.now in
    All-same left _ _ c.in_ok-push-in-Err.ensures.items (All-push left c.in_ok-all-in-Err.all.items c.in-Err.left c.in_ok-all-in-Err.ensures.left c.in-Err.ensures)

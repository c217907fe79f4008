-- What members of a crew hold and leave.
use Rattle.std.specs.Prelude.{◌≡◌, ◌≤◌, List, [], length, All, Some, slice_get, Option, IfSome, MatchOption}
use Rattle.std.specs.Global.{Vec}
use Rattle.rel_step.specs.declared.simplifying.TheConstants.{MOST_PASSES}
use Rattle.rel_step.specs.PathNodes.{PathNode, IsNode}
use Rattle.ct_pairs.specs.declared.job.Job.{Job}
use Rattle.path_tree.specs.declared.path.Path.{Path}
use Rattle.path_pool.specs.Seats.{PoolView, SeatView, IsFree, IsHolding}
use Rattle.path_run.specs.declared.record_of.RecordOf.{RecordOf}
use Rattle.work_crew.specs.declared.member.Start.{Start}
use Rattle.work_crew.specs.declared.member.Held.{Held}
use Rattle.work_crew.specs.declared.member.Forked.{Forked}
use Rattle.work_crew.specs.declared.member.Member.{Member}
use Rattle.work_crew.specs.declared.member.Account.{Account}
use Rattle.work_crew.specs.Recorded.{AreRecorded}
use Rattle.work_crew.specs.TrueRecords.{IsTrueRecord}

-- a kit has few passes
abbrev pub HasFewPasses : {Pass : Type 0} → Vec Pass → Type 0
HasFewPasses kit = length kit.items ≤ MOST_PASSES

-- the node, where there is one, is that of the path
abbrev pub IsStart : Job → Start → Type 0
IsStart job start = IfSome start.node (λ (n : PathNode). IsNode job n × (n.path ≡ start.path.nexts))

-- there is a start exactly where there is a kid, and it is the first kid's
abbrev pub IsFirstStart : Job → List Path → Option Start → Type 0
IsFirstStart job kids first = MatchOption first (kids ≡ []) (λ (start : Start). IsStart job start × (slice_get kids 0 ≡ Some start.path))

-- a true record of the path, copies of its kids, and the start of the first
pub record IsForked (job : Job) (path : Path) (forked : Forked) : Type 0 where
  pub true_record : IsTrueRecord job forked.record
  pub of_path : forked.record.path ≡ path
  pub kids : forked.kids.items ≡ forked.record.kids
  pub first : IsFirstStart job forked.kids.items forked.first

-- a seat of the pool, and true records of just those paths that its calls say are done
pub record HasRecords (job : Job) (pool : PoolView) (seat : SeatView) (records : List RecordOf) : Type 0 where
  pub own : seat.pool ≡ pool.pool
  pub true_records : All (IsTrueRecord job) records
  pub recorded : AreRecorded seat.seen.pool.paths seat.calls records

abbrev pub IsAccount : Job → PoolView → Account → Type 0
IsAccount job pool account = HasRecords job pool account.seat account.records.items

-- the path is out to the seat, and is one to start from
pub record IsHeld (job : Job) (seat : SeatView) (held : Held) : Type 0 where
  pub start : IsStart job held.start
  pub out : IsHolding seat held.number
  pub path : slice_get seat.seen.pool.paths held.number ≡ Some held.start.path

-- a seat goes on with the path that it holds, or is free to ask for one
abbrev pub GoesOnWith : Job → SeatView → Option Held → Type 0
GoesOnWith job seat held = MatchOption held (IsFree seat) (IsHeld job seat)

-- a member has few passes, the records of what its seat did, and a path or none
pub record IsMember {Pass : Type 0} {Kept : Pass → Type 0} (job : Job) (pool : PoolView) (member : Member Pass Kept) : Type 0 where
  pub few : HasFewPasses member.kit
  pub account : IsAccount job pool member.account
  pub held : GoesOnWith job member.account.seat member.held

-- a member that holds no path
abbrev pub IsStarting : {Pass : Type 0} {Kept : Pass → Type 0} → Job → PoolView → Member Pass Kept → Type 0
IsStarting job pool member = IsMember job pool member × IsFree member.account.seat

-- a seat of the pool that made no call
pub record IsUnused (pool : PoolView) (seat : SeatView) : Type 0 where
  pub own : seat.pool ≡ pool.pool
  pub none : seat.calls ≡ []

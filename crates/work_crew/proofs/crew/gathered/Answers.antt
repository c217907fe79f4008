use Rattle.std.proofs.Common.{◌≡◌, [], Some, arith}
use Rattle.std.proofs.lemmas.List.Elements.{All-nil, All-append, All-push, All-same, All-pop}
use Rattle.path_pool.specs.Seats.{SeatView}
use Rattle.work_crew.specs.Crew.{IsAccount}
use Rattle.work_crew.specs.TrueRecords.{IsTrueRecord}
use Rattle.work_crew.proofs.Members.{no_seats, more_seats}
use Rattle.work_crew.proofs.crew.gathered.Goals as goal

pub members-init : goal.members-init
members-init c =
    let own = λ (seat : SeatView). seat.pool ≡ c.args.pool.now.pool in
    record {
      left = c.requires;
      own = All-same own _ [] c.new-seats.ensures.items (All-nil own);
      records = All-same (IsTrueRecord c.args.job.now) _ [] c.new-records.ensures.items (All-nil (IsTrueRecord c.args.job.now));
      of_seats = rw (c.new-seats.ensures.items, c.new-records.ensures.items) no_seats;
      count = omega (arith, c.new-seats.ensures.len);
    }

pub members-preserved : goal.members-preserved
members-preserved c =
    let i = c.members.invariant in
    let own = λ (seat : SeatView). seat.pool ≡ c.args.pool.now.pool in
    let all = All-pop (IsAccount c.args.job.now c.args.pool.now) c.members.all.items c.pop.new.self.items (Some c.in-Some.left) c.in-Some.ensures.items i.left in
    let left = c.in-Some.left in
    record {
      left = all.0;
      own = All-same own _ _ c.in_ok-push.ensures.items (All-push own c.members.seats.items left.seat i.own all.1.own);
      records = All-same (IsTrueRecord c.args.job.now) _ _ c.in_ok-append.ensures.items (All-append (IsTrueRecord c.args.job.now) c.members.records.items left.records.items i.records all.1.true_records);
      of_seats = rw (c.in_ok-push.ensures.items, c.in_ok-append.ensures.items) (more_seats c.members.seats.items c.members.records.items left.records.items left.seat i.of_seats all.1.recorded);
      count = omega (arith, c.in-Some.ensures.len, c.in_ok-push.ensures.len, i.count);
    }

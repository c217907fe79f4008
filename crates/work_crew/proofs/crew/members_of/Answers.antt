use Rattle.std.proofs.Common.{[], Some, arith}
use Rattle.std.proofs.lemmas.List.Elements.{All-nil, All-take, All-same, All-pop, All-push}
use Rattle.work_crew.specs.Crew.{HasFewPasses, IsStarting, IsUnused}
use Rattle.work_crew.proofs.crew.members_of.Goals as goal

pub members-init : goal.members-init
members-init g c = record {
  few = All-same HasFewPasses _ _ c.truncate.ensures.items (All-take HasFewPasses c.len.result c.args.kits.items c.requires.few);
  few_seats = c.requires.few_seats;
  seats = c.requires.seats;
  members = All-same (IsStarting c.args.job.now c.args.pool.now) _ [] c.new-members.ensures.items (All-nil (IsStarting c.args.job.now c.args.pool.now));
  same = omega (arith, c.truncate.ensures.len, c.len.ensures, c.requires.enough);
  count = omega (arith, c.new-members.ensures.len);
}

pub member_of-member-requires-clause-few : goal.member_of-member-requires-clause-few
member_of-member-requires-clause-few g c = (All-pop HasFewPasses c.members.kits.items c.pop-in-Some.new.self.items (Some c.in-Some-pop.kit) c.in-Some-pop.ensures.items c.members.invariant.few).1

pub member_of-member-requires-clause-seat : goal.member_of-member-requires-clause-seat
member_of-member-requires-clause-seat g c = (All-pop (IsUnused c.args.pool.now) c.members.seats.items c.pop.new.self.items (Some c.in-Some.seat) c.in-Some.ensures.items c.members.invariant.seats).1

pub members-preserved : goal.members-preserved
members-preserved g c =
    let i = c.members.invariant in
    record {
      few = (All-pop HasFewPasses c.members.kits.items c.pop-in-Some.new.self.items (Some c.in-Some-pop.kit) c.in-Some-pop.ensures.items i.few).0;
      few_seats = omega (arith, c.in-Some.ensures.len, i.few_seats);
      seats = (All-pop (IsUnused c.args.pool.now) c.members.seats.items c.pop.new.self.items (Some c.in-Some.seat) c.in-Some.ensures.items i.seats).0;
      members = All-same (IsStarting c.args.job.now c.args.pool.now) _ _ c.in_ok-push.ensures.items (All-push (IsStarting c.args.job.now c.args.pool.now) c.members.members.items c.member_of-member.result i.members (c.member_of-member.ensures.member, c.member_of-member.ensures.free));
      same = omega (arith, c.in-Some.ensures.len, c.in-Some-pop.ensures.len, i.same);
      count = omega (arith, c.in-Some.ensures.len, c.in_ok-push.ensures.len, i.count);
    }

use Rattle.std.proofs.Common.{length, refl, sym, ap, subst, arith}
use Rattle.std.specs.List.{All, range_with_len}
use Rattle.std.proofs.lemmas.List.{length-map}
use Rattle.std.proofs.lemmas.List.Elements.{All-map}
use Rattle.std.proofs.lemmas.List.FromFn.{length-range_with_len}
use Rattle.path_pool.specs.Seats.{first_view}
use Rattle.work_crew.specs.Crew.{IsUnused}
use Rattle.work_crew.proofs.Histories.{records_whole}
use Rattle.work_crew.proofs.crew.records_of_crew.Goals as goal

pub members_of-requires-clause-few_seats : goal.members_of-requires-clause-few_seats
members_of-requires-clause-few_seats g c =
    let pool = c.in_ok-made.made.0 in
    omega (arith, ap length c.in_ok-made.ensures.seats, length-map (range_with_len 0 c.args.workers) (first_view pool.pool c.args.workers), length-range_with_len 0 c.args.workers, c.in_ok-made.made.1.ok.0, c.requires.few_workers)

pub members_of-requires-clause-enough : goal.members_of-requires-clause-enough
members_of-requires-clause-enough g c =
    let pool = c.in_ok-made.made.0 in
    omega (arith, ap length c.in_ok-made.ensures.seats, length-map (range_with_len 0 c.args.workers) (first_view pool.pool c.args.workers), length-range_with_len 0 c.args.workers, c.in_ok-made.made.1.ok.0, c.requires.enough)

pub members_of-requires-clause-seats : goal.members_of-requires-clause-seats
members_of-requires-clause-seats g c =
    let pool = c.in_ok-made.made.0 in
    subst (All (IsUnused pool)) (sym c.in_ok-made.ensures.seats) (All-map (IsUnused pool) (first_view pool.pool c.args.workers) (range_with_len 0 c.args.workers) (λ k d below. record { own = refl; none = refl }))

pub end-requires-clause-all : goal.end-requires-clause-all
end-requires-clause-all g c =
    let pool = c.in_ok-made.made.0 in
    omega (
      arith,
      c.in_ok-gathered.ensures.count,
      c.in_ok-all.ensures.count,
      c.in_ok-members.ensures.count,
      ap length c.in_ok-made.ensures.seats,
      length-map (range_with_len 0 c.args.workers) (first_view pool.pool c.args.workers),
      length-range_with_len 0 c.args.workers,
      c.in_ok-made.made.1.ok.0,
      c.in_ok-made.ensures.pool,
    )

pub returns-clause-whole : goal.returns-clause-whole
returns-clause-whole g c =
    records_whole c.in_ok-made.made.0 c.in_ok-gathered.gathered.0.items c.in_ok-gathered.gathered.1.items c.in_ok-end.end.bag c.in_ok-end.ensures c.none_left.ensures.placed c.in_ok-none_left.ensures.waiting c.in_ok-none_left.ensures.out c.in_ok-gathered.ensures.of_seats

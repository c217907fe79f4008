use Rattle.cdcl.specs.Trail.{lits_of, IsFalsified}
use Rattle.cdcl.specs.Watch.{IsEntered, IsWatched}
use Rattle.cdcl.proofs.RunLaws.{blank_room, begun_watched, option_else}
use Rattle.cdcl.proofs.run.Run.enter.Goals as goal

pub enter_all-requires : goal.enter_all-requires
enter_all-requires c =
    let run = c.args.self.now in
    let b = c.requires.blank in
    record {
      in_range = c.requires.in_range;
      trail = b.trail;
      pairs = b.pairs;
      room = λ v low. blank_room run.trail.vars v run.watches b.watches low;
    }

pub returns-clause-found : goal.returns-clause-found
returns-clause-found c =
    let clauses = c.args.self.now.clauses in
    let trail = c.enter_all.new.trail in
    let pairs = c.enter_all.new.pairs.items in
    let watches = c.enter_all.new.watches in
    let b = c.requires.blank in
    option_else c.in_ok-found.found (IsEntered clauses trail pairs watches) (IsWatched clauses trail pairs watches c.args.self.now.head) (λ number. IsFalsified clauses number (lits_of trail.entries)) c.in_ok-found.ensures.found
    (λ e. begun_watched clauses c.args.self.now.trail trail pairs watches c.args.self.now.head b.trail c.in_ok-found.ensures.grows e b.head)

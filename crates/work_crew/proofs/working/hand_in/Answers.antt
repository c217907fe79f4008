use Rattle.std.proofs.Common.{◌≡◌, [], sym, ◌∙◌, subst}
use Rattle.work_crew.specs.Crew.{IsFirstStart}
use Rattle.work_crew.proofs.Seats.{has_closed, has_split, split_paths}
use Rattle.work_crew.proofs.working.hand_in.Goals as goal

pub returns-in-None-clause-account : goal.returns-in-None-clause-account
returns-in-None-clause-account g c =
    let job = c.args.job.now in
    let forked = c.args.forked in
    let none : forked.kids.items ≡ [] = subst (IsFirstStart job forked.kids.items) c.in-None.is c.requires.forked.first in
    has_closed job c.args.pool.now c.args.account.now.seat c.close-closed.new.seat c.args.number c.args.account.now.records.items c.push_reserved.new.self.items forked.record c.close-closed.ensures.made c.requires.path (sym c.requires.forked.kids ∙ none) c.requires.forked.true_record c.requires.account c.push_reserved.ensures.items

pub returns-in-Ok-clause-account : goal.returns-in-Ok-clause-account
returns-in-Ok-clause-account g c =
    let forked = c.args.forked in
    has_split c.args.job.now c.args.pool.now c.args.account.now.seat c.split.new.seat c.args.number c.in-Ok.number forked.kids.items c.args.account.now.records.items c.push_reserved-in-Ok.new.self.items forked.record c.in-Ok.ensures.divided c.requires.path c.requires.forked.kids c.requires.forked.true_record c.requires.account c.push_reserved-in-Ok.ensures.items

pub returns-in-Ok-clause-next : goal.returns-in-Ok-clause-next
returns-in-Ok-clause-next g c =
    let kids = c.args.forked.kids.items in
    let made = c.in-Ok.ensures.divided in
    let first = subst (IsFirstStart c.args.job.now kids) c.in-Some.is c.requires.forked.first in
    record {
      start = first.0;
      out = made.does;
      path = (split_paths c.args.account.now.seat c.split.new.seat c.args.number c.in-Ok.number kids made).2 ∙ first.1;
    }

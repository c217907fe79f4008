use Rattle.std.proofs.Common.{List, subst}
use Rattle.untaint.specs.declared.equality.Equality.{Equality}
use Rattle.untaint.specs.Kept.{equality}
use Rattle.untaint.specs.Peeling.{KeepsPeeled}
use Rattle.untaint.proofs.KeepLaws.{kept_ordered, kept_appends, kept_contains, known_of, appends_inside, appends_hold, equality_inside, equality_ordered, equality_holds}
use Rattle.untaint.proofs.equalities.Equalities.prove.Goals as goal

-- what is kept in the set is kept in the list
is_kept : (c : goal.In_default) → KeepsPeeled c.args.arena.now (equality c.args.l.0 c.args.r.0) c.args.self.now c.keep.new.kept.keys
is_kept c =
    let P : Equality → Type 0 = λ one. KeepsPeeled c.args.arena.now one c.self.inside.kept.keys c.keep.new.kept.keys in
    let Q : List Equality → Type 0 = λ old. KeepsPeeled c.args.arena.now (equality c.args.l.0 c.args.r.0) old c.keep.new.kept.keys in
    subst Q c.self.view_is (subst P c.of.ensures c.in_default.ensures.kept)

pub invariant_of-self-in_default : goal.invariant_of-self-in_default
invariant_of-self-in_default c =
    let P : Equality → Type 0 = λ one. KeepsPeeled c.args.arena.now one c.self.inside.kept.keys c.keep.new.kept.keys in
    kept_ordered c.args.arena.now c.law.ensures.typed (equality c.args.l.0 c.args.r.0) c.self.inside.kept.keys c.keep.new.kept.keys (equality_ordered c.args.l.0 c.args.r.0) c.self.invariant
    (subst P c.of.ensures c.in_default.ensures.kept)

pub returns-clause-appended : goal.returns-clause-appended
returns-clause-appended c =
    kept_appends c.args.arena.now c.law.ensures.typed (equality c.args.l.0 c.args.r.0) c.args.self.now c.keep.new.kept.keys
    (equality_inside c.args.arena.now c.args.l.0 c.args.r.0 c.requires.left c.requires.right) (is_kept c)

pub returns-clause-known : goal.returns-clause-known
returns-clause-known c =
    known_of c.keep.new.kept.keys c.args.l.0 c.args.r.0 (kept_contains c.args.arena.now (equality c.args.l.0 c.args.r.0) c.args.self.now c.keep.new.kept.keys (is_kept c))

pub returns-clause-inside : goal.returns-clause-inside
returns-clause-inside c = appends_inside c.args.arena.now (equality c.args.l.0 c.args.r.0) c.args.self.now c.keep.new.kept.keys (returns-clause-appended c)

pub returns-clause-holds : goal.returns-clause-holds
returns-clause-holds c = λ env v bytes run same.
    appends_hold c.args.arena.now (equality c.args.l.0 c.args.r.0) c.args.self.now c.keep.new.kept.keys (returns-clause-appended c) env v bytes run
    (equality_holds c.args.l.0 c.args.r.0 v same)

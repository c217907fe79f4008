use Rattle.std.proofs.Common.{◌≡◌, [], ◌∷◌, Some, ◌∙◌, ap}
use Rattle.path_pool.specs.Calls.{calls_of}
use Rattle.path_pool.specs.Plays.{Sat, rested, has_seen, entered, in_turn}
use Rattle.path_pool.proofs.turn.hand_on.Goals as goal

pub pass-requires-clause-turn : goal.pass-requires-clause-turn
pass-requires-clause-turn c =
    let n = c.requires.next in
    let t = n.2 in
    let bag = c.args.bag in
    let laid : c.lay.new.place.me ≡ in_turn c.args.number t.calls t.seen t.older t.ticket n.0 (Some bag) = c.lay.ensures.there ∙ ap (λ (m : Sat). (m.0, (0, Some bag) ∷ [])) t.is in (
      c.args.number,
      bag,
      record {
        calls = calls_of c.args.number bag.history;
        seen = bag;
        older = t.older;
        ticket = t.ticket;
        is = c.raise.ensures.raised bag (ap (λ (m : Sat). m.1) laid) ∙ ap (λ (m : Sat). (entered m.0 bag, m.1)) laid;
      },
    )

pub returns-clause-handed : goal.returns-clause-handed
returns-clause-handed c =
    let bag = c.args.bag in
    let there = c.lay.ensures.there in
    c.pass.ensures.passed
    ∙ ap rested (c.raise.ensures.raised bag (ap (λ (m : Sat). m.1) there))
    ∙ ap (λ (m : Sat). has_seen m bag) there

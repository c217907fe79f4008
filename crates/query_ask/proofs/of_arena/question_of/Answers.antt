use Rattle.std.proofs.Common.{◌≡◌, ◌∙◌, ◌+◌, ◌∷◌, ◌++◌, [], ℕ, List, length, take, subst, sym, ap, arith}
use Rattle.std.proofs.lemmas.List.{take_more, take_all, get_or-map, length-map}
use Rattle.std.specs.Prelude.{slice_index_or}
use Rattle.bv_expr.specs.declared.q_node.QNode.{QNode}
use Rattle.bv_expr.specs.Nodes.{HasWidth}
use Rattle.bv_expr.specs.Typing.{IsTyped}
use Rattle.query_ask.specs.Copies.{IsCopying, HasVars}
use Rattle.bit_blast.specs.Roots.{numbers}
use Rattle.query_ask.specs.Questions.{are_true}
use Rattle.query_ask.specs.Beginning.{IsBegun}
use Rattle.query_ask.proofs.BegunLaws.{more_begun, asked_question, asked_meaning}
use Rattle.query_ask.proofs.of_arena.question_of.Goals as goal

pub visit-requires-clause-known : goal.visit-requires-clause-known
visit-requires-clause-known c =
    let P : List QNode → Type 0 = λ xs. HasVars xs c.loop-id.cone.vars (slice_index_or c.args.conjuncts.now c.loop-id.id-index (record { 0 = 0 })).0 in
    subst P (sym c.nodes-nodes.ensures.all)
    (subst (λ (n : ℕ). HasVars c.args.arena.now n (slice_index_or c.args.conjuncts.now c.loop-id.id-index (record { 0 = 0 })).0) (sym c.loop-id.invariant.vars)
    (c.requires.variables c.loop-id.id-index (record { 0 = 0 }) c.loop-id-test.true))

pub loop-id-preserved : goal.loop-id-preserved
loop-id-preserved c =
    let visit = c.in_ok-number.ensures in
    let same : c.visit.new.self.vars ≡ c.args.vars = visit.vars ∙ c.loop-id.invariant.vars in
    let i = c.loop-id.id-index in
    let id = slice_index_or c.args.conjuncts.now i (record { 0 = 0 }) in
    let long : length (numbers c.args.conjuncts.now) ≡ length c.args.conjuncts.now = length-map c.args.conjuncts.now (λ x. x.0) in
    let low = c.loop-id-test.true in
    let more : take (i + 1) (numbers c.args.conjuncts.now) ≡ take i (numbers c.args.conjuncts.now) ++ id.0 ∷ [] =
    take_more (numbers c.args.conjuncts.now) i 0 (omega (arith, long, low)) ∙ ap (λ (x : ℕ). take i (numbers c.args.conjuncts.now) ++ x ∷ []) (get_or-map (λ x. x.0) c.args.conjuncts.now i (record { 0 = 0 }) 0 low) in
    record {
      vars = same;
      begun = subst (λ (xs : List ℕ). IsBegun c.nodes-nodes.result.now c.args.vars xs c.visit.new.self.origins.keys c.visit.new.self.copies.items c.insert.new.self.keys) (sym more)
          (more_begun c.nodes-nodes.result.now c.args.vars (take i (numbers c.args.conjuncts.now)) c.loop-id.cone.origins.keys c.visit.new.self.origins.keys c.loop-id.cone.copies.items c.visit.new.self.copies.items c.loop-id.kept.keys c.insert.new.self.keys
          id.0 c.in_ok-number.number c.loop-id.invariant.begun
          (subst (λ (n : ℕ). IsCopying c.nodes-nodes.result.now n c.visit.new.self.origins.keys c.visit.new.self.copies.items) same visit.copying) visit.kept
          (subst (λ (xs : List QNode). HasWidth xs id.0 1) (sym c.nodes-nodes.ensures.all) (c.requires.bits i (record { 0 = 0 }) low)) visit.number c.in_ok-insert.ensures.keys);
    }

pub visit-requires-2-clause-known : goal.visit-requires-2-clause-known
visit-requires-2-clause-known c =
    subst (λ (xs : List QNode). HasVars xs c.loop-id.cone.vars c.args.asked.0) (sym c.nodes-nodes.ensures.all)
    (subst (λ (n : ℕ). HasVars c.args.arena.now n c.args.asked.0) (sym c.loop-id.invariant.vars) c.requires.asked_variables)

pub new-requires : goal.new-requires
new-requires c =
    let visit = c.in_ok-asked.ensures in
    let same : c.visit-2.new.self.vars ≡ c.args.vars = visit.vars ∙ c.loop-id.invariant.vars in
    rw c.from_vec.ensures (rw c.from_vec-2.ensures (rw c.in_ok-conjuncts.ensures.items (rw c.as_slice.ensures.keys
    (asked_question c.nodes-nodes.result.now c.args.vars (take c.loop-id.id-index (numbers c.args.conjuncts.now)) c.loop-id.cone.origins.keys c.visit-2.new.self.origins.keys c.loop-id.cone.copies.items c.visit-2.new.self.copies.items c.loop-id.kept.keys
    c.args.asked.0 c.in_ok-asked.asked (subst IsTyped (sym c.nodes-nodes.ensures.all) c.nodes-nodes.ensures.typed) c.loop-id.invariant.begun
    (subst (λ (n : ℕ). IsCopying c.nodes-nodes.result.now n c.visit-2.new.self.origins.keys c.visit-2.new.self.copies.items) same visit.copying) visit.kept
    (subst (λ (xs : List QNode). HasWidth xs c.args.asked.0 1) (sym c.nodes-nodes.ensures.all) c.requires.bit) visit.number))))

pub returns-clause-meaning : goal.returns-clause-meaning
returns-clause-meaning c = λ env.
    let visit = c.in_ok-asked.ensures in
    let same : c.visit-2.new.self.vars ≡ c.args.vars = visit.vars ∙ c.loop-id.invariant.vars in
    let long : length (numbers c.args.conjuncts.now) ≡ length c.args.conjuncts.now = length-map c.args.conjuncts.now (λ x. x.0) in
    let over = c.loop-id-test.false in
    let all : take c.loop-id.id-index (numbers c.args.conjuncts.now) ≡ numbers c.args.conjuncts.now = take_all c.loop-id.id-index (numbers c.args.conjuncts.now) (omega (arith, long, over)) in
    rw c.new.ensures (rw c.from_vec.ensures (rw c.from_vec-2.ensures (rw c.in_ok-conjuncts.ensures.items (rw c.as_slice.ensures.keys
    (asked_meaning c.nodes-nodes.result.now c.args.vars (take c.loop-id.id-index (numbers c.args.conjuncts.now)) c.loop-id.cone.origins.keys c.visit-2.new.self.origins.keys c.loop-id.cone.copies.items c.visit-2.new.self.copies.items c.loop-id.kept.keys
    c.args.asked.0 c.in_ok-asked.asked env (subst IsTyped (sym c.nodes-nodes.ensures.all) c.nodes-nodes.ensures.typed) c.loop-id.invariant.begun
    (subst (λ (n : ℕ). IsCopying c.nodes-nodes.result.now n c.visit-2.new.self.origins.keys c.visit-2.new.self.copies.items) same visit.copying) visit.kept visit.number
    ∙ ap (λ (xs : List ℕ). are_true env c.nodes-nodes.result.now (xs ++ c.args.asked.0 ∷ [])) all
    ∙ ap (λ (xs : List QNode). are_true env xs (numbers c.args.conjuncts.now ++ c.args.asked.0 ∷ [])) c.nodes-nodes.ensures.all)))))

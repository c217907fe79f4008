use Rattle.std.proofs.Common.{◌≡◌, ◌+◌, ◌-◌, ◌^◌, min, true, false, sym, ap, ◌∙◌, rules}
use Rattle.std.specs.Prelude.{is_some}
use Rattle.std.specs.Map.{lookup}
use Rattle.lru.specs.LruCache.{LruCache}
use Rattle.query_ask.specs.Questions.{Asked}
use Rattle.query_ask.specs.declared.verdict.Verdict.{Verdict}
use Rattle.query_ask.specs.contracts.question.QuestionPartialEq.TheImpl as impl
use Rattle.query_cache.proofs.EntryLaws.{missed, found}
use Rattle.query_cache.proofs.QuestionLaws.{question_test}
use Rattle.query_cache.proofs.KeepingLaws.{cached, kept_promoted, comes_first}
use Rattle.query_cache.proofs.cache.Cache.find.Goals as goal

pub invariant_of-self : goal.invariant_of-self
invariant_of-self c = rw c.promote.ensures.entries (kept_promoted _ _ _ c.self.invariant)

pub returns-then-not-promote : goal.returns-then-not-promote
returns-then-not-promote c =
    let q = c.args.question.now in
    let es = c.self.inside.settled.entries in
    let none : is_some (lookup ((impl.eq-value).it q) es) ≡ false = sym c.if-not-promote.ensures.value in
    let m = missed ((impl.eq-value).it q) q (question_test q) es none in
    rw (← c.self.view_is) (
      m.0,
      ap (λ (s : LruCache Asked Verdict). cached s.entries c.self.inside.hits) c.promote.ensures.entries ∙ ap (λ l. cached l c.self.inside.hits) m.1,
    )

pub invariant_of-self-2 : goal.invariant_of-self-2
invariant_of-self-2 c = rw c.promote.ensures.entries (kept_promoted _ _ _ c.self.invariant)

pub returns : goal.returns
returns c =
    let q = c.args.question.now in
    let es = c.self.inside.settled.entries in
    let some : is_some (lookup ((impl.eq-value).it q) es) ≡ true = sym c.if-not-promote.ensures.value in
    let f = found ((impl.eq-value).it q) q (question_test q) es some in
    let counted : c.saturating_add-self-inside.result ≡ min (c.self.inside.hits + 1) (2 ^ 64 - 1) = search rules in
    rw (c.promote.ensures.entries, ← c.self.view_is) (f.value, comes_first _ q es _ c.self.inside.hits _ f counted)

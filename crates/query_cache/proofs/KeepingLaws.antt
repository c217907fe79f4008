-- What is found, moved to the front and put into a cache's entries.
use Rattle.std.proofs.Common.{◌≡◌, ℕ, ◌+◌, ◌-◌, ◌^◌, ◌≤◌, ◌⊎◌, Bool, zero, suc, List, [], ◌∷◌, length, min, take, Option, Some, None, Contains, sym, ap, ◌∙◌, subst, inl, inr}
use Rattle.std.specs.Prelude.{slice_get, option_map, option_copied, IfSome, All}
use Rattle.std.specs.Borrow.{Bor}
use Rattle.std.proofs.lemmas.List.Elements.{All-contains, All-contains_itself, All-weaker}
use Rattle.std.specs.List.{IsDistinct}
use Rattle.std.specs.Map.{keys_of}
use Rattle.bv_expr.proofs.Lists.{different}
use Rattle.lru.specs.LruCache.{LruCache, promoted, put_entries}
use Rattle.lru.proofs.CallerLemmas.{Contains-promoted, Contains-put_entries, IsPut}
use Rattle.query_ask.specs.Questions.{Asked}
use Rattle.query_ask.specs.Verdicts.{Judged, IsVerdict}
use Rattle.query_ask.specs.declared.verdict.Verdict.{Verdict}
use Rattle.query_ask.specs.contracts.question.QuestionPartialEq.TheImpl as impl
use Rattle.query_cache.specs.declared.cache.TheConstants.{MOST_ENTRIES, MOST_NODES}
use Rattle.query_cache.specs.declared.kept.Kept.{Kept}
use Rattle.query_cache.specs.declared.kept.Kept.TheVariants.{Done, TooLarge, Memory}
use Rattle.query_cache.specs.Cached.{Cached, HasRightVerdict, IsSmall, AreKept, AreApart, ComesFirst, Replaces, IsAdded, HasKept, HasSize}
use Rattle.query_cache.proofs.EntryLaws.{Fronts, put}
use Rattle.query_cache.proofs.QuestionLaws.{same_question, question_test, same_passes}

abbrev Entries : Type 0
Entries = List (Asked × Verdict)

-- what holds of all old entries holds after one of them came to the front
All-promoted : (P : Asked × Verdict → Type 0) (test : Asked → Bool) (es : Entries) → All P es → All P (promoted test es)
All-promoted P test es all =
    All-weaker (Contains (promoted test es)) P (λ e within. All-contains P es e all (Contains-promoted test es e within)) (promoted test es) (All-contains_itself (promoted test es))

pub kept_promoted : (test : Asked → Bool) (es : Entries) (most : ℕ) → AreKept es most → AreKept (promoted test es) most
kept_promoted test es most kept = record {
  right = All-promoted HasRightVerdict test es kept.right;
  small = All-promoted IsSmall test es kept.small;
  room = kept.room;
}

-- what holds of all old entries and of the new one holds after the new one was put
put_one : (P : Asked × Verdict → Type 0) (c : LruCache Asked Verdict) (q : Asked) (v : Verdict) → P (q, v) → (e : Asked × Verdict) → IsPut (impl.eq-value).it c q v e → P e
put_one P c q v here e stored =
    let question : q ≡ e.0 = elim stored.1 [ inl same ↦ sym same | inr old ↦ sym (same_question q e.0 old.2) ] in
    subst (λ w. P (e.0, w)) (sym stored.0) (subst (λ k. P (k, v)) question here)

All-put : (P : Asked × Verdict → Type 0) (c : LruCache Asked Verdict) (q : Asked) (v : Verdict) → P (q, v) → All P c.entries → All P (put_entries (impl.eq-value).it c q v)
All-put P c q v here all =
    let after = put_entries (impl.eq-value).it c q v in
    All-weaker (Contains after) P (λ e within. elim (Contains-put_entries (impl.eq-value).it c q v e within) [
      | inl old ↦ All-contains P c.entries e all old
      | inr stored ↦ put_one P c q v here e stored
    ]) after (All-contains_itself after)

pub kept_put : (c : LruCache Asked Verdict) (q : Asked) (v : Verdict) → IsVerdict q v → length q.nodes ≤ MOST_NODES → AreKept c.entries c.cap → AreKept (put_entries (impl.eq-value).it c q v) c.cap
kept_put c q v right small kept = record {
  right = All-put HasRightVerdict c q v right kept.right;
  small = All-put IsSmall c q v small kept.small;
  room = kept.room;
}

-- the entries and the count as one
abbrev pub cached : Entries → ℕ → Cached
cached es hits = record { entries = es; hits = hits }

pub comes_first : (test : Asked → Bool) (q : Asked) (es after : Entries) (hits more : ℕ) (f : Fronts test q es after) → more ≡ min (hits + 1) (2 ^ 64 - 1) → ComesFirst q (cached es hits) f.value (cached after more)
comes_first test q es after hits more f counted = record {
  at = f.stands.at;
  here = f.stands.here;
  entries = f.front ∙ ap (λ others. (q, f.value) ∷ others) f.stands.rest;
  hits = counted;
}

-- the first entry has the verdict that came first
pub first_verdict : (q : Asked) (before : Cached) (v : Verdict) (after : Cached) → ComesFirst q before v after → option_map (λ e. e.1) (slice_get after.entries 0) ≡ Some v
first_verdict q before v after first = ap (λ (es : Entries). option_map (λ (e : Asked × Verdict). e.1) (slice_get es 0)) first.entries

pub lent_verdict : (P : Verdict → Type 0) (lent : Option (Bor Verdict)) (v : Verdict) → option_copied lent ≡ Some v → P v → IfSome lent (λ r. P r.now)
lent_verdict P None v h here = tt
lent_verdict P (Some r) v h here = let same : v ≡ r.now = cc in subst P same here

-- where a new entry goes
pub kept_entry : (c : LruCache Asked Verdict) (entry : Judged) → c.cap ≡ MOST_ENTRIES → Replaces entry c.entries (put_entries (impl.eq-value).it c entry.question entry.verdict) ⊎ IsAdded entry c.entries (put_entries (impl.eq-value).it c entry.question entry.verdict)
kept_entry c entry room = elim (put ((impl.eq-value).it entry.question) entry.question (question_test entry.question) entry.verdict c.cap c.entries) [
  | inl p ↦ inl (record {
    at = p.stands.at;
    older = p.older;
    here = p.stands.here;
    entries = p.front ∙ ap (λ others. (entry.question, entry.verdict) ∷ others) p.stands.rest;
  })
  | inr b ↦ inr (record {
    lacks = b.lacks;
    entries = b.front ∙ ap (λ n. (entry.question, entry.verdict) ∷ take (n - 1) c.entries) room;
  })
]

-- a question with too many nodes is told to be so, and no other
pub sized : (entry : Judged) (before : Cached) (answer : Kept) (after : Cached) → HasKept entry before answer after → HasSize entry answer
sized entry before Done after kept = kept.0
sized entry before TooLarge after kept = kept.0
sized entry before Memory after kept = kept.0

keyed : (es : Entries) (i : ℕ) (q : Asked) (v : Verdict) → slice_get es i ≡ Some (q, v) → slice_get (keys_of es) i ≡ Some q
keyed [] i q v h = cc
keyed (f ∷ es) zero q v h = let same : f ≡ (q, v) = cc in ap (λ (e : Asked × Verdict). Some e.0) same
keyed (f ∷ es) (suc i) q v h = keyed es i q v h

-- entries with distinct questions
pub apart : (es : Entries) → IsDistinct (impl.eq-value).it (keys_of es) → AreApart es
apart es distinct = λ i j q v w at_i at_j. different (impl.eq-value).it same_passes (keys_of es) distinct i j q (keyed es i q v at_i) (keyed es j q w at_j)

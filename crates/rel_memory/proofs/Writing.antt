-- What a write changes.
use Rattle.std.proofs.Common.{◌≡◌, ℕ, ◌≤◌, Bool, cond, eqb, List, [], ◌∷◌, ◌++◌, length, drop, All, Option, Some, None, refl, sym, ap, ◌∙◌, subst, inl, inr, arith}
use Rattle.std.specs.Prelude.{fold, unwrap_or, nat_eq}
use Rattle.std.specs.Option.{option_map_or}
use Rattle.std.specs.Map.{lookup}
use Rattle.rv_image.specs.Image.{loaded_at}
use Rattle.std.proofs.lemmas.Bool.{cases_eq, cases_lt, eq-eqb, ne_eqb}
use Rattle.std.proofs.lemmas.List.{drop_all, drop-append-le, length_push, get_or_append_left, get_or_push, nil_from_length}
use Rattle.std.proofs.lemmas.List.Sums.{fold_push}
use Rattle.bv_expr.specs.declared.q_node.QNode.{QNode}
use Rattle.rel_store.specs.Sides.{side_id, HasSides}
use Rattle.rel_memory.specs.declared.contents.Kept.{Kept}
use Rattle.rel_memory.specs.declared.contents.Written.{Written}
use Rattle.rel_memory.specs.declared.entry.Entry.{Entry}
use Rattle.rel_memory.specs.declared.entry.Entry.TheVariants.{Number, Computed}
use Rattle.rel_memory.specs.Contents.{Contents, IsMemory, IsKept, IsWritten, IsPut, kept_at, first_byte, passed, byte_in, after_write}
use Rattle.rel_memory.specs.Selecting.{IsFirst}
use Rattle.rel_memory.specs.Log.{IsLogged, IsEntry, after_entry}

-- one element more
pub All-push : {A : Type 0} (P : A → Type 0) (xs : List A) (x : A) → All P xs → P x → All P (xs ++ x ∷ [])
All-push P xs x all here k d inside =
    elim (cases_lt k (length xs)) [
      | inl less ↦ rw (get_or_append_left xs (x ∷ []) d k less) (all k d less)
      | inr last ↦ (let at : length xs ≡ k = omega (arith, length_push xs x) in rw (get_or_push xs x d k at) here)
    ]

pub All-front : {A : Type 0} (P : A → Type 0) (xs : List A) (x : A) → All P (xs ++ x ∷ []) → All P xs
All-front P xs x all k d inside = rw get_or_append_left at (all k d (omega (arith, length_push xs x)))

pub All-last : {A : Type 0} (P : A → Type 0) (xs : List A) (x : A) → All P (xs ++ x ∷ []) → P x
All-last P xs x all = rw (get_or_push xs x x (length xs) refl) at (all (length xs) x (omega (arith, length_push xs x)))

drop_nil : {A : Type 0} (n : ℕ) (xs : List A) → length xs ≡ 0 → drop n xs ≡ []
drop_nil n xs none = drop_all n xs (omega arith)

-- where nothing was written at an address that is no number, the first bytes are the bytes
pub byte_in-first : (right : Bool) (v : ℕ → ℕ) (m : Contents) (at : ℕ) → length m.computed ≡ 0 → byte_in right v m at ≡ first_byte right v m at
unfolding byte_in
byte_in-first right v m at none = rw (drop_nil (passed m at) m.computed none) refl

-- the byte that was put last
pub byte_in-here : (right : Bool) (v : ℕ → ℕ) (m : Contents) (at : ℕ) (held : Kept) → kept_at m at ≡ Some held → held.before ≡ length m.computed → byte_in right v m at ≡ v (side_id right held.held)
unfolding byte_in
byte_in-here right v m at held is all = rw is (rw (drop_all held.before m.computed (omega arith)) refl)

-- the other bytes stay
byte_in-there : (right : Bool) (v : ℕ → ℕ) (old new : Contents) (at : ℕ) → new.image ≡ old.image → new.computed ≡ old.computed → kept_at new at ≡ kept_at old at → byte_in right v new at ≡ byte_in right v old at
unfolding byte_in
byte_in-there right v old new at image computed kept = rw (image, computed, kept) refl

first-there : (right : Bool) (v : ℕ → ℕ) (old new : Contents) (at : ℕ) → new.image ≡ old.image → kept_at new at ≡ kept_at old at → first_byte right v new at ≡ first_byte right v old at
first-there right v old new at image kept = rw (image, kept) refl

replayed-there : (right : Bool) (v : ℕ → ℕ) (old new : Contents) (at : ℕ) (log : List Entry) → new.image ≡ old.image → kept_at new at ≡ kept_at old at
    → fold (after_entry right v (kept_at new at) at) (first_byte right v new at) log ≡ fold (after_entry right v (kept_at old at) at) (first_byte right v old at) log
replayed-there right v old new at log image kept =
    ap (λ (latest : Option Kept). fold (after_entry right v latest at) (first_byte right v new at) log) kept
    ∙ ap (λ (first : ℕ). fold (after_entry right v (kept_at old at) at) first log) (first-there right v old new at image kept)

passed_of : (kept : Option Kept) (count : ℕ) → ((one : Kept) → kept ≡ Some one → one.before ≤ count) → option_map_or (λ one. one.before) kept 0 ≤ count
passed_of None count each = omega arith
passed_of (Some one) count each = each one refl

pub passed-few : (nodes : List QNode) (m : Contents) (at : ℕ) → IsMemory nodes m → passed m at ≤ length m.computed
passed-few nodes m at memory = passed_of (kept_at m at) (length m.computed) (λ one is. (memory.kept at one is).before)

module _ (old new : Contents) (a : ℕ) (held : Kept) (put : IsPut old a held new) (all : held.before ≡ length old.computed) where
  here : (at : ℕ) → at ≡ a → kept_at new at ≡ Some held
  here at e = put.kept at ∙ (rw (eq-eqb at a e) refl)

  there : (at : ℕ) → (at ≡ a → ⊥) → kept_at new at ≡ kept_at old at
  there at d = put.kept at ∙ (rw (ne_eqb at a d) refl)

  long : held.before ≡ length new.computed
  long = all ∙ ap length (sym put.computed)

  -- a byte at a number
  pub byte_in-put : (right : Bool) (v : ℕ → ℕ) (at : ℕ) → byte_in right v new at ≡ cond (eqb at a) (v (side_id right held.held)) (byte_in right v old at)
  byte_in-put right v at = elim (cases_eq at a) [
    | inl e ↦ rw (eq-eqb at a e) (byte_in-here right v new at held (here at e) long)
    | inr d ↦ rw (ne_eqb at a d) (byte_in-there right v old new at put.image put.computed (there at d))
  ]

  pub IsMemory-put : (nodes : List QNode) → IsMemory nodes old → HasSides nodes 8 held.held → IsMemory nodes new
  IsMemory-put nodes memory has = record {
    image = rw put.image memory.image;
    kept = λ at one is. elim (cases_eq at a) [
      | inl e ↦ (let both : Some held ≡ Some one = sym (here at e) ∙ is in
          let same : held ≡ one = cc in
          let P : Kept → Type 0 = λ k. IsKept nodes (length new.computed) k in
          subst P same (record { held = has; before = omega (arith, long) }))
      | inr d ↦ (let was = memory.kept at one (sym (there at d) ∙ is) in record { held = was.held; before = omega (arith, was.before, ap length put.computed) })
    ];
    computed = rw put.computed memory.computed;
  }

  pub IsLogged-first : (log : List Entry) → IsLogged old log → length log ≡ 0 → IsLogged new log
  IsLogged-first log logged none = record {
    means = λ right v at. (let empty = nil_from_length log none in rw empty (sym (byte_in-first right v new at (omega (arith, logged.long, ap length put.computed)))));
    long = omega (arith, logged.long, ap length put.computed);
    each = λ nodes are. logged.each nodes (rw (← put.computed) are);
  }

  pub IsLogged-put : (log : List Entry) → IsLogged old log → IsLogged new (log ++ Number a ∷ [])
  IsLogged-put log logged = record {
    means = λ right v at. fold_push (after_entry right v (kept_at new at) at) (first_byte right v new at) log (Number a) ∙ (elim (cases_eq at a) [
      | inl e ↦ rw (eq-eqb a at (sym e), here at e) (sym (byte_in-here right v new at held (here at e) long))
      | inr d ↦ rw (ne_eqb a at (λ e. d (sym e))) (replayed-there right v old new at log put.image (there at d) ∙ logged.means right v at ∙ sym (byte_in-there right v old new at put.image put.computed (there at d)))
    ]);
    long = omega (arith, logged.long, ap length put.computed, length_push log (Number a));
    each = λ nodes are. All-push (IsEntry nodes) log (Number a) (logged.each nodes (rw (← put.computed) are)) tt;
  }

module _ (old new : Contents) (one : Written) (image : new.image ≡ old.image) (kept : new.kept ≡ old.kept) (computed : new.computed ≡ old.computed ++ one ∷ []) where
  -- a byte at no number
  pub byte_in-written : (right : Bool) (v : ℕ → ℕ) (at : ℕ) → passed old at ≤ length old.computed → byte_in right v new at ≡ after_write right v at (byte_in right v old at) one
  unfolding byte_in
  byte_in-written right v at few =
      rw (image, kept, computed, drop-append-le (passed old at) old.computed (one ∷ []) few) (fold_push (after_write right v at) (first_byte right v old at) (drop (passed old at) old.computed) one)

  pub IsMemory-written : (nodes : List QNode) → IsMemory nodes old → IsWritten nodes one → IsMemory nodes new
  IsMemory-written nodes memory has = record {
    image = rw image memory.image;
    kept = λ at k is. (let was = memory.kept at k (rw (← kept) is) in record { held = was.held; before = omega (arith, was.before, ap length computed, length_push old.computed one) });
    computed = rw computed (All-push (IsWritten nodes) old.computed one memory.computed has);
  }

  pub IsLogged-written : (log : List Entry) → IsLogged old log → ((at : ℕ) → passed old at ≤ length old.computed) → IsLogged new (log ++ Computed one ∷ [])
  IsLogged-written log logged few = record {
    means = λ right v at. fold_push (after_entry right v (kept_at new at) at) (first_byte right v new at) log (Computed one)
        ∙ (ap (λ before. after_write right v at before one) (replayed-there right v old new at log image (ap (λ (ks : List (ℕ × Kept)). lookup (nat_eq at) ks) kept) ∙ logged.means right v at) ∙ sym (byte_in-written right v at (few at)));
    long = omega (arith, logged.long, ap length computed, length_push old.computed one, length_push log (Computed one));
    each = λ nodes are. (let all : All (IsWritten nodes) (old.computed ++ one ∷ []) = rw (← computed) are in
        All-push (IsEntry nodes) log (Computed one) (logged.each nodes (All-front (IsWritten nodes) old.computed one all)) (All-last (IsWritten nodes) old.computed one all));
  }

-- two numbers are compared either way
pub swapped : (a b : ℕ) → eqb a b ≡ eqb b a
swapped a b = elim (cases_eq a b) [
  | inl e ↦ eq-eqb a b e ∙ sym (eq-eqb b a (sym e))
  | inr d ↦ ne_eqb a b d ∙ sym (ne_eqb b a (λ e. d (sym e)))
]

-- before any write
pub IsLogged-none : (m : Contents) (log : List Entry) → m.computed ≡ [] → log ≡ [] → IsLogged m log
IsLogged-none m log none empty = record {
  means = λ right v at. rw empty (sym (byte_in-first right v m at (ap length none)));
  long = omega (arith, ap length none);
  each = λ nodes are. rw empty (λ k d inside. absurd (omega arith));
}

-- what was put at a number is the first byte there
pub IsFirst-kept : (nodes : List QNode) (m : Contents) (at : ℕ) (one : Kept) → IsMemory nodes m → kept_at m at ≡ Some one → IsFirst nodes m at one.held
IsFirst-kept nodes m at one memory is = record {
  width = (memory.kept at one is).held;
  byte = λ env v run right. ap (λ kept. option_map_or (λ k. v (side_id right k.held)) kept (unwrap_or (loaded_at m.image at) 0)) (sym is);
}

-- what was last put at a number, at an address
pub number_step : (f : Kept → ℕ) (m : Contents) (at x number before result : ℕ) (one : Kept) → number ≡ at → kept_at m at ≡ Some one → result ≡ cond (eqb number x) (f one) before
    → result ≡ cond (eqb at x) (option_map_or f (kept_at m x) before) before
number_step f m at x number before result one is_number is value = elim (cases_eq at x) [
  | inl e ↦ (let here : kept_at m x ≡ Some one = ap (kept_at m) (sym e) ∙ is in
      rw (eq-eqb at x e, here) (value ∙ (rw (eq-eqb number x (is_number ∙ e)) refl)))
  | inr d ↦ rw (ne_eqb at x d) (value ∙ (rw (ne_eqb number x (λ e. d (sym is_number ∙ e))) refl))
]

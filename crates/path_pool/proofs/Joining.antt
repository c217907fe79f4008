-- Splitting a seat of a pool's table, joining two, and what the last seat knows keep the rule.
use Rattle.std.proofs.Common.{◌≡◌, ℕ, ◌+◌, ◌%◌, ◌^◌, ◌<◌, ◌≢◌, Bool, true, false, cond, ltb, List, [], ◌∷◌, ◌++◌, length, set, Option, Some, None, sym, refl, ap, ◌∙◌, subst, ⊎_elim, arith}
use Rattle.std.proofs.lemmas.List.{length-append}
use Rattle.std.proofs.lemmas.Option.{none-some}
use mathlib.Core.Option.{some}
use mathlib.Core.Option as maybe
use lib.ListN.{get_elem?}
use Rattle.atomic_table.specs.Table.{Splits, Joins, Final, Seen}
use Rattle.atomic_table.proofs.Lists.{set_else, at_set}
use Rattle.path_tree.specs.declared.entered.Entered.{Entered}
use Rattle.path_tree.specs.PoolMachine.{Contents, IsFront}
use Rattle.path_pool.specs.Rule.{total, view, AreFronts, AreCalls, one_if, waits, has_ticket, turns, size, is_number, has_number, between, slot_of, Knows, IsKept}
use Rattle.path_pool.specs.Plays.{kept_part, given_part, joined, spent, IsLast}
use Rattle.path_pool.specs.declared.view.Told.{Told}
use Rattle.path_pool.specs.declared.view.View.{View}
use Rattle.path_pool.proofs.Totals.{total-append, total-set, terms_le, total_only, each_set, each_push}

AreCalls-append : (one two : List Told) (entries : List Entered) → AreCalls one entries → AreCalls two entries → AreCalls (one ++ two) entries
AreCalls-append [] two entries a b = b
AreCalls-append (t ∷ one) two entries a b = (a.0, AreCalls-append one two entries a.1 b)

pub AreFronts-append : (one two : List Contents) (history : Contents) → AreFronts one history → AreFronts two history → AreFronts (one ++ two) history
AreFronts-append [] two history a b = b
AreFronts-append (p ∷ one) two history a b = (a.0, AreFronts-append one two history a.1 b)

pub fronts_left : (one two : List Contents) (history : Contents) → AreFronts (one ++ two) history → AreFronts one history
fronts_left [] two history a = tt
fronts_left (p ∷ one) two history a = (a.0, fronts_left one two history a.1)

pub fronts_right : (one two : List Contents) (history : Contents) → AreFronts (one ++ two) history → AreFronts two history
fronts_right [] two history a = a
fronts_right (p ∷ one) two history a = fronts_right one two history a.1

longer_front : (b : Bool) (one two history : Contents) → IsFront one history → IsFront two history → IsFront (cond b two one) history
longer_front true one two history a b = b
longer_front false one two history a b = a

-- cuts the first part off
pub cuts : (seats id : ℕ) (one : Told) (more : List Told) (seen : Contents) (older : List Contents)
    → Splits (IsKept seats) id (view (one ∷ more) seen older None None) (kept_part (view (one ∷ more) seen older None None)) (given_part (view (one ∷ more) seen older None None))
cuts seats id one more seen older s k me =
    let v = view (one ∷ more) seen older None None in
    let left = kept_part v in
    let right = given_part v in
    let own = k.each id v me in
    let cut : (g : View → ℕ) → total g (set s.views id left ++ right ∷ []) + g v ≡ total g s.views + g left + g right = λ g. omega (arith, total-append g (set s.views id left) (right ∷ []), total-set g s.views id v left me) in
    let wait_same : total waits (set s.views id left ++ right ∷ []) ≡ total waits s.views = omega (arith, cut waits) in
    let turns_same : total turns (set s.views id left ++ right ∷ []) ≡ total turns s.views = omega (arith, cut turns) in
    record {
      history = k.history;
      served = k.served;
      words = k.words ∙ ap (λ (n : ℕ). length k.history.history ∷ (k.served + n) % 2 ^ 64 ∷ k.served % 2 ^ 64 ∷ []) (sym wait_same);
      slot = k.slot ∙ ap (λ (n : ℕ). slot_of n k.history ∷ []) (sym turns_same);
      one_turn = omega (arith, turns_same, k.one_turn);
      counted = k.counted;
      few = k.few;
      tickets = λ n. omega (arith, ap (λ (h : ℕ). between n k.served (k.served + h)) wait_same, cut (has_ticket n), k.tickets n);
      numbers = λ n. omega (arith, cut (has_number n), k.numbers n);
      held = omega (arith, cut size, k.held);
      each = each_push (Knows k.history k.served) (set s.views id left) right
          (each_set (Knows k.history k.served) s.views id left (λ j x other at. k.each j x at) (record {
            calls = (own.calls.0, tt);
            pasts = λ live. own.pasts (omega arith);
            live = omega arith;
            turn = λ taken e. absurd (none-some taken e);
          }))
          (record {
            calls = own.calls.1;
            pasts = λ live. ((own.pasts (omega arith)).0, tt);
            live = omega arith;
            turn = λ taken e. absurd (none-some taken e);
          });
    }

-- joins two seats that hold calls
pub joins : (seats id other : ℕ) (held : List Told) (seen : Contents) (older : List Contents) (held' : List Told) (seen' : Contents) (older' : List Contents) → 0 < length held → 0 < length held'
    → Joins (IsKept seats) id (view held seen older None None) other (view held' seen' older' None None) (joined (view held seen older None None) (view held' seen' older' None None)) spent
joins seats id other held seen older held' seen' older' live live' s k me apart you =
    let v = view held seen older None None in
    let u = view held' seen' older' None None in
    let w = joined v u in
    let first = set s.views id w in
    let own = k.each id v me in
    let its = k.each other u (sym (set_else s.views id other w apart) ∙ you) in
    let join : (g : View → ℕ) → total g (set first other spent) + g u + g v ≡ total g s.views + g w + g spent = λ g. omega (arith, total-set g first other u spent you, total-set g s.views id v w me) in
    let wait_same : total waits (set first other spent) ≡ total waits s.views = omega (arith, join waits) in
    let turns_same : total turns (set first other spent) ≡ total turns s.views = omega (arith, join turns) in
    let mine = own.pasts live in
    let yours = its.pasts live' in
    record {
      history = k.history;
      served = k.served;
      words = k.words ∙ ap (λ (n : ℕ). length k.history.history ∷ (k.served + n) % 2 ^ 64 ∷ k.served % 2 ^ 64 ∷ []) (sym wait_same);
      slot = k.slot ∙ ap (λ (n : ℕ). slot_of n k.history ∷ []) (sym turns_same);
      one_turn = omega (arith, turns_same, k.one_turn);
      counted = k.counted;
      few = k.few;
      tickets = λ n. omega (arith, ap (λ (h : ℕ). between n k.served (k.served + h)) wait_same, join (has_ticket n), k.tickets n);
      numbers = λ n. omega (arith, join (has_number n), total-append (is_number n) held held', k.numbers n);
      held = omega (arith, join size, length-append held held', k.held);
      each = each_set (Knows k.history k.served) first other spent
          (λ j x ne at. ⊎_elim
          (λ here. subst (Knows k.history k.served) here.1 (record {
            calls = AreCalls-append held held' k.history.history own.calls its.calls;
            pasts = λ live. (
              longer_front (ltb (length seen.history) (length seen'.history)) seen seen' k.history mine.0 yours.0,
              AreFronts-append (older ++ older') (seen ∷ seen' ∷ []) k.history (AreFronts-append older older' k.history mine.1 yours.1) (mine.0, (yours.0, tt)),
            );
            live = omega arith;
            turn = λ taken e. absurd (none-some taken e);
          }))
          (λ there. k.each j x there.1) (at_set s.views id j w x at))
          (record {
            calls = tt;
            pasts = λ live. absurd (omega arith);
            live = omega arith;
            turn = λ taken e. absurd (none-some taken e);
          });
    }

no_parts : (g : Told → ℕ) (held : List Told) → length held ≡ 0 → total g held ≡ 0
no_parts g [] none = refl
no_parts g (one ∷ more) none = absurd (omega arith)

-- a view that holds no calls hasn't the turn
turns_without : (history : Contents) (served : ℕ) (x : View) → Knows history served x → length x.held ≡ 0 → (o : Option Contents) → x.turn ≡ o → one_if x.turn ≡ 0
turns_without history served x knows none None e = ap one_if e
turns_without history served x knows none (Some taken) e = absurd (omega (arith, knows.live, none, ap one_if (knows.turn taken e).1))

-- at the end the slot is home, and its value is the history of which the last seat knows
pub last : (seats id : ℕ) (v : View) (ws : List ℕ) (xs : List (Option Contents)) → Final (Seen (IsKept seats) id v) ws xs → 0 < seats → length v.held ≡ seats → v.turn ≡ None → (history : Contents) × (get_elem? xs 0 ≡ some (Some history)) × IsLast seats v history
last seats id v ws xs final least all none =
    let s = final.0 in
    let k = final.1.0 in
    let me = final.1.1 in
    let own = k.each id v me in
    let rest : (j : ℕ) (x : View) → j ≢ id → get_elem? s.views j ≡ some x → length x.held ≡ 0 = λ j x other at. omega (arith, terms_le size s.views id j v x other me at, k.held, all) in
    let no_turn : total turns s.views ≡ 0 = total_only turns s.views id v me (λ j x other at. turns_without k.history k.served x (k.each j x at) (rest j x other at) x.turn refl) ∙ ap one_if none in
    let home : s.homes ≡ some (Some k.history) ∷ [] = k.slot ∙ ap (λ (n : ℕ). slot_of n k.history ∷ []) no_turn in (
      k.history,
      final.4 0 (Some k.history) (ap (λ (hs : List (maybe.Option (Option Contents))). get_elem? hs 0) home),
      record {
        pasts = own.pasts (omega (arith, all));
        calls = own.calls;
        counted = k.counted;
        numbers = λ n. sym (total_only (has_number n) s.views id v me (λ j x other at. no_parts (is_number n) x.held (rest j x other at))) ∙ k.numbers n;
      },
    )

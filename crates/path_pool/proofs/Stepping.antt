-- Each step of a seat at a pool's table keeps the rule.
use Rattle.std.proofs.Common.{◌≡◌, false, ℕ, zero, suc, ◌+◌, ◌%◌, ◌^◌, ◌<◌, ◌≤◌, cond, eqb, List, [], ◌∷◌, ◌++◌, length, get_or, set, Option, Some, None, sym, refl, ap, ◌∙◌, subst, arith}
use Rattle.std.proofs.lemmas.Bool.Decides.{nat_tests}
use Rattle.std.proofs.lemmas.List.{length-append, append_assoc, append-nil}
use Rattle.std.proofs.lemmas.Option.{none-some, same_Some}
use mathlib.Core.Logic.{dite}
use mathlib.Core.Option.{some, some-injective}
use mathlib.Core.Option as maybe
use native.Mathlib.Decide.{ℕ_discrete}
use lib.ListN.{get_elem?}
use lib.Seq.{set-get_or}
use Rattle.atomic_table.specs.Table.{State, Act, keeps, takes, gives, Valid, stepped, step, carried_after, Allows}
use Rattle.atomic_table.proofs.Lists.{set_again, one_turn}
use Rattle.path_tree.specs.declared.entered.PoolCall.{PoolCall}
use Rattle.path_tree.specs.declared.entered.Entered.{Entered}
use Rattle.path_tree.specs.PoolMachine.{Contents, IsFront}
use Rattle.path_pool.specs.Calls.{calls_of}
use Rattle.path_pool.specs.Rule.{total, told, view, AreFronts, AreCalls, one_if, is_ticket, waits, has_ticket, turns, size, is_number, has_number, between, slot_of, Knows, IsKept}
use Rattle.path_pool.specs.Plays.{Sat, waiting, in_turn, drawn, looked, raised, passed, IsNext}
use Rattle.path_pool.specs.declared.view.Told.{Told}
use Rattle.path_pool.specs.declared.view.View.{View}
use Rattle.path_pool.proofs.Totals.{total-set, term_le, terms_le, total_none, total_less, each_set, between_more, between_less, between_most, between_in, same_number, at_most_one, within_seats}

abbrev pub St : Type 0
St = State (Option Contents) View

-- the state in which nothing changed is the state
unmoved : (seats : ℕ) (s : St) (i id : ℕ) (v : View) → IsKept seats s → get_elem? s.views id ≡ some v → IsKept seats (stepped s i (get_or s.words i 0) id [] v keeps)
unmoved seats s i id v k me =
    rw (set-get_or s.words i 0, set_again s.views id v me) k

-- fewer views wait than there are seats
few_wait : (seats : ℕ) (s : St) → (k : IsKept seats s) → total waits s.views ≤ seats
few_wait seats s k =
    let less = total_less waits size s.views (λ j x at. (k.each j x at).live) in
    omega (arith, k.held)

pub front_same : (one : Contents) → IsFront one one
front_same one = record { entries = ([], sym (append-nil one.history)); paths = ([], sym (append-nil one.pool.paths)) }

pub front_further : (one two three : Contents) → IsFront one two → IsFront two three → IsFront one three
front_further one two three a b = record {
  entries = (a.entries.0 ++ b.entries.0, b.entries.1 ∙ ap (λ xs. xs ++ b.entries.0) a.entries.1 ∙ append_assoc one.history a.entries.0 b.entries.0);
  paths = (a.paths.0 ++ b.paths.0, b.paths.1 ∙ ap (λ xs. xs ++ b.paths.0) a.paths.1 ∙ append_assoc one.pool.paths a.paths.0 b.paths.0);
}

pub fronts_further : (pasts : List Contents) (one two : Contents) → AreFronts pasts one → IsFront one two → AreFronts pasts two
fronts_further [] one two all more = tt
fronts_further (past ∷ pasts) one two all more = (front_further past one two all.0 more, fronts_further pasts one two all.1 more)

-- an entry of another seat is no call of this one
calls_other : (number : ℕ) (entries : List Entered) (entry : Entered) → eqb entry.seat number ≡ false → calls_of number (entries ++ entry ∷ []) ≡ calls_of number entries
calls_other number [] entry other = rw other refl
calls_other number (e ∷ entries) entry other =
    ap (λ calls. cond (eqb e.seat number) (e.call ∷ calls) calls) (calls_other number entries entry other)

not_this : (one : Told) (number : ℕ) → is_number number one ≡ 0 → eqb number one.number ≡ false
not_this one number none = grind (arith, nat_tests)

-- calls of other seats stay as they are told
calls_kept : (held : List Told) (number : ℕ) (call : PoolCall) (before after : List Entered) → total (is_number number) held ≡ 0 → after ≡ before ++ record { seat = number; call = call } ∷ [] → AreCalls held before → AreCalls held after
calls_kept [] number call before after none more all = tt
calls_kept (one ∷ held) number call before after none more all = (
  ap (calls_of one.number) more ∙ calls_other one.number before (record { seat = number; call = call }) (not_this one number (omega (arith, none))) ∙ all.0,
  calls_kept held number call before after (omega (arith, none)) more all.1,
)

-- draws a ticket
pub draws : (seats slots id : ℕ) (held : List Told) (seen : Contents) (older : List Contents) → 0 < length held
    → Allows (IsKept seats) slots id (view held seen older None None, []) 1 (λ n. (n + 1) % 2 ^ 64) (drawn (step slots 1 1 0 maybe.none) (view held seen older None None, []))
draws seats slots id held seen older live s k wide me below =
    let v = view held seen older None None in
    let all : ℕ = total waits s.views in
    let ticket : ℕ = k.served + all in
    let w = view held seen older (Some ticket) None in
    let own = k.each id v me in
    let more : total waits (set s.views id w) ≡ all + 1 = omega (arith, total-set waits s.views id v w me) in
    let turns_same : total turns (set s.views id w) ≡ total turns s.views = omega (arith, total-set turns s.views id v w me) in
    let found : get_or s.words 1 0 ≡ ticket % 2 ^ 64 = ap (λ (ws : List ℕ). get_or ws 1 0) k.words in
    let high : k.served + total waits (set s.views id w) ≡ ticket + 1 = omega (arith, more) in
    let next : (ticket % 2 ^ 64 + 1) % 2 ^ 64 ≡ (k.served + total waits (set s.views id w)) % 2 ^ 64 = omega (arith, more) in (
      w,
      keeps,
      tt,
      record {
        history = k.history;
        served = k.served;
        words = ap (λ (ws : List ℕ). set ws 1 ((get_or ws 1 0 + 1) % 2 ^ 64)) k.words ∙ ap (λ (n : ℕ). length k.history.history ∷ n ∷ k.served % 2 ^ 64 ∷ []) next;
        slot = k.slot ∙ ap (λ (n : ℕ). slot_of n k.history ∷ []) (sym turns_same);
        one_turn = omega (arith, k.one_turn);
        counted = k.counted;
        few = k.few;
        tickets = λ n. omega (arith, ap (between n k.served) high, between_more n k.served ticket (omega arith), total-set (has_ticket n) s.views id v w me, k.tickets n);
        numbers = λ n. omega (arith, total-set (has_number n) s.views id v w me, k.numbers n);
        held = omega (arith, total-set size s.views id v w me, k.held);
        each = each_set (Knows k.history k.served) s.views id w (λ j x other at. k.each j x at) (record { calls = own.calls; pasts = own.pasts; live = live; turn = λ taken e. absurd (none-some taken e) });
      },
      (ticket, found, refl),
    )

abbrev Goes : ℕ → St → ℕ → ℕ → Sat → (ℕ → Sat → Type 0) → ℕ → Type 0
Goes seats s i id m then n = (w : View) × (a : Act (Option Contents)) × Valid s.homes m.1 a × IsKept seats (stepped s i n id m.1 w a) × then (get_or s.words i 0) (w, carried_after m.1 a)

-- where the ticket of a view is served, and it hasn't the turn, nobody has it
nobody_turns : (seats : ℕ) (s : St) (id : ℕ) (v : View) → (k : IsKept seats s) → get_elem? s.views id ≡ some v → has_ticket k.served v ≡ 1 → v.turn ≡ None → total turns s.views ≡ 0
nobody_turns seats s id v k me mine none = total_none turns s.views (λ j x at. without j x at x.turn refl)
  where
    without : (j : ℕ) (x : View) → get_elem? s.views j ≡ some x → (o : Option Contents) → x.turn ≡ o → one_if x.turn ≡ 0
    without j x at None e = ap one_if e
    without j x at (Some taken) e =
        let its : has_ticket k.served x ≡ 1 = ap (is_ticket k.served) ((k.each j x at).turn taken e).1 ∙ same_number k.served in
        dite (ℕ_discrete j id)
        (λ same.
        let one : x ≡ v = some-injective x v (sym at ∙ ap (get_elem? s.views) same ∙ me) in
        absurd (none-some taken (sym none ∙ ap (λ (y : View). y.turn) (sym one) ∙ e)))
        (λ other. absurd (omega (arith, its, mine, terms_le (has_ticket k.served) s.views id j v x other me at, k.tickets k.served, between_most k.served k.served (k.served + total waits s.views))))

-- the ticket that is served, where its word is the one of a view's ticket
is_served : (seats : ℕ) (s : St) (id ticket : ℕ) (v : View) → (k : IsKept seats s) → get_elem? s.views id ≡ some v → has_ticket ticket v ≡ 1 → k.served % 2 ^ 64 ≡ ticket % 2 ^ 64 → k.served ≡ ticket
is_served seats s id ticket v k me mine same =
    let within = between_in ticket k.served (k.served + total waits s.views) (omega (arith, mine, term_le (has_ticket ticket) s.views id v me, k.tickets ticket)) in
    let few = few_wait seats s k in
    one_turn k.served ticket (2 ^ 64) within.0 (omega (arith, within.1, few, k.few)) same

-- looks whether a ticket is served
pub looks : (seats slots id number : ℕ) (calls : List PoolCall) (seen : Contents) (older : List Contents) (ticket : ℕ)
    → Allows (IsKept seats) slots id (waiting number calls seen older ticket) 2 (λ n. n) (looked (step slots 2 0 0 maybe.none) (waiting number calls seen older ticket))
looks seats slots id number calls seen older ticket s k wide me below =
    let m = waiting number calls seen older ticket in
    let v : View = m.0 in
    let found : get_or s.words 2 0 ≡ k.served % 2 ^ 64 = ap (λ (ws : List ℕ). get_or ws 2 0) k.words in
    let mine : has_ticket ticket v ≡ 1 = same_number ticket in
    let goes : Dec (get_or s.words 2 0 ≡ ticket % 2 ^ 64) → Goes seats s 2 id m (looked (step slots 2 0 0 maybe.none) m) (get_or s.words 2 0) = λ d. elim d [
      | yes same ↦
          let served : k.served ≡ ticket = is_served seats s id ticket v k me mine (sym found ∙ same) in
          let none = nobody_turns seats s id v k me (ap (λ (t : ℕ). has_ticket t v) served ∙ mine) refl in
          let w = view (told number calls ∷ []) seen older (Some ticket) (Some k.history) in
          let own = k.each id v me in
          let wait_same : total waits (set s.views id w) ≡ total waits s.views = omega (arith, total-set waits s.views id v w me) in
          let turn_one : total turns (set s.views id w) ≡ 1 = omega (arith, none, total-set turns s.views id v w me) in
          let home : s.homes ≡ some (Some k.history) ∷ [] = k.slot ∙ ap (λ (n : ℕ). slot_of n k.history ∷ []) none in (
            w,
            takes 0 (Some k.history),
            ap (λ (hs : List (maybe.Option (Option Contents))). get_elem? hs 0) home,
            record {
              history = k.history;
              served = k.served;
              words = set-get_or s.words 2 0 ∙ k.words ∙ ap (λ (n : ℕ). length k.history.history ∷ (k.served + n) % 2 ^ 64 ∷ k.served % 2 ^ 64 ∷ []) (sym wait_same);
              slot = ap (λ (hs : List (maybe.Option (Option Contents))). set hs 0 maybe.none) home ∙ ap (λ (n : ℕ). slot_of n k.history ∷ []) (sym turn_one);
              one_turn = omega (arith, turn_one);
              counted = k.counted;
              few = k.few;
              tickets = λ n. omega (arith, ap (λ (h : ℕ). between n k.served (k.served + h)) wait_same, total-set (has_ticket n) s.views id v w me, k.tickets n);
              numbers = λ n. omega (arith, total-set (has_number n) s.views id v w me, k.numbers n);
              held = omega (arith, total-set size s.views id v w me, k.held);
              each = each_set (Knows k.history k.served) s.views id w (λ j x other at. k.each j x at) (record {
                calls = own.calls;
                pasts = own.pasts;
                live = own.live;
                turn = λ taken e. (sym (same_Some k.history taken e), ap Some (sym served));
              });
            },
            (
              λ again. (
                k.history,
                refl,
                record {
                  pasts = own.pasts (omega arith);
                  own = own.calls;
                  seats = (below_seats number (omega (arith, same_number number, term_le (has_number number) s.views id v me)), tt);
                },
              ),
              λ not. absurd (not same),
            ),
          )
      | no other ↦ (v, keeps, tt, unmoved seats s 2 id v k me, (λ same. absurd (other same), λ not. refl))
    ] in
    goes (ℕ_discrete (get_or s.words 2 0) (ticket % 2 ^ 64))
  where
    below_seats : (n : ℕ) → 1 ≤ total (has_number n) s.views → n < length k.history.pool.seats
    below_seats n found = omega (arith, within_seats n seats (omega (arith, found, k.numbers n)), k.counted)

-- what a view without the turn knows stays true when another view enters its call
others_know : (number : ℕ) (call : PoolCall) (before after : Contents) (served : ℕ) (x : View) → IsNext before number call after → has_number number x ≡ 0 → turns x ≡ 0 → Knows before served x → Knows after served x
others_know number call before after served x next none no_turn knows = record {
  calls = calls_kept x.held number call before.history after.history none next.entries knows.calls;
  pasts = λ live. fronts_further (x.seen ∷ x.older) before after (knows.pasts live) next.front;
  live = knows.live;
  turn = λ taken e. absurd (omega (arith, no_turn, ap one_if e));
}

-- counts the call that the history in the slot has at its end
pub raises : (seats slots id number : ℕ) (calls : List PoolCall) (seen : Contents) (older : List Contents) (ticket : ℕ) (history after : Contents) (call : PoolCall) → IsNext history number call after → length after.history < 2 ^ 64
    → Allows (IsKept seats) slots id (in_turn number calls seen older ticket history (Some after)) 0 (λ n. (n + 1) % 2 ^ 64) (raised (step slots 0 1 0 maybe.none) (in_turn number calls seen older ticket history (Some after)))
raises seats slots id number calls seen older ticket history after call next fits s k wide me below =
    let m = in_turn number calls seen older ticket history (Some after) in
    let v : View = m.0 in
    let w = view (told number (calls_of number after.history) ∷ []) after older (Some ticket) (Some after) in
    let own = k.each id v me in
    let taken = own.turn history refl in
    let next' : IsNext k.history number call after = subst (λ (h : Contents). IsNext h number call after) taken.0 next in
    let long : length after.history ≡ length k.history.history + 1 = ap length next'.entries ∙ length-append k.history.history (record { seat = number; call = call } ∷ []) in
    let wait_same : total waits (set s.views id w) ≡ total waits s.views = omega (arith, total-set waits s.views id v w me) in
    let turns_same : total turns (set s.views id w) ≡ total turns s.views = omega (arith, total-set turns s.views id v w me) in
    let turn_one : total turns s.views ≡ suc zero = omega (arith, k.one_turn, term_le turns s.views id v me) in
    let counts : (length k.history.history + 1) % 2 ^ 64 ≡ length after.history = omega (arith, long, fits) in (
      w,
      keeps,
      tt,
      record {
        history = after;
        served = k.served;
        words = ap (λ (ws : List ℕ). set ws 0 ((get_or ws 0 0 + 1) % 2 ^ 64)) k.words ∙ ap (λ (n : ℕ). n ∷ (k.served + total waits s.views) % 2 ^ 64 ∷ k.served % 2 ^ 64 ∷ []) counts ∙ ap (λ (n : ℕ). length after.history ∷ (k.served + n) % 2 ^ 64 ∷ k.served % 2 ^ 64 ∷ []) (sym wait_same);
        slot = k.slot ∙ ap (λ (n : ℕ). slot_of n k.history ∷ []) turn_one ∙ ap (λ (n : ℕ). slot_of n after ∷ []) (sym (turns_same ∙ turn_one));
        one_turn = omega (arith, turns_same, k.one_turn);
        counted = next'.counted ∙ k.counted;
        few = k.few;
        tickets = λ n. omega (arith, ap (λ (h : ℕ). between n k.served (k.served + h)) wait_same, total-set (has_ticket n) s.views id v w me, k.tickets n);
        numbers = λ n. omega (arith, total-set (has_number n) s.views id v w me, k.numbers n);
        held = omega (arith, total-set size s.views id v w me, k.held);
        each = each_set (Knows after k.served) s.views id w
            (λ j x other at. others_know number call k.history after k.served x next'
            (omega (arith, same_number number, terms_le (has_number number) s.views id j v x other me at, k.numbers number, at_most_one number seats))
            (omega (arith, terms_le turns s.views id j v x other me at, k.one_turn)) (k.each j x at))
            (record {
              calls = (refl, tt);
              pasts = λ live. (front_same after, fronts_further older k.history after ((own.pasts (omega arith)).1) next'.front);
              live = omega arith;
              turn = λ now e. (sym (same_Some after now e), taken.1);
            });
      },
      refl,
    )

-- passes the turn, with the history in the slot that the seat has
pub passes : (seats slots id number : ℕ) (calls : List PoolCall) (seen : Contents) (older : List Contents) (ticket : ℕ) (history : Contents)
    → Allows (IsKept seats) slots id (in_turn number calls seen older ticket history (Some history)) 2 (λ n. (n + 1) % 2 ^ 64) (passed (step slots 2 1 0 maybe.none) (in_turn number calls seen older ticket history (Some history)))
passes seats slots id number calls seen older ticket history s k wide me below =
    let m = in_turn number calls seen older ticket history (Some history) in
    let v : View = m.0 in
    let w = view (told number calls ∷ []) seen older None None in
    let own = k.each id v me in
    let taken = own.turn history refl in
    let served : ticket ≡ k.served = same_Some ticket k.served taken.1 in
    let wait_less : total waits (set s.views id w) + 1 ≡ total waits s.views = omega (arith, total-set waits s.views id v w me) in
    let turn_none : total turns (set s.views id w) ≡ zero = omega (arith, k.one_turn, total-set turns s.views id v w me) in
    let turn_one : total turns s.views ≡ suc zero = omega (arith, k.one_turn, term_le turns s.views id v me) in
    let high : k.served + 1 + total waits (set s.views id w) ≡ k.served + total waits s.views = omega (arith, wait_less) in
    let next : (k.served % 2 ^ 64 + 1) % 2 ^ 64 ≡ (k.served + 1) % 2 ^ 64 = omega arith in
    let mine : (n : ℕ) → has_ticket n v ≡ cond (eqb k.served n) 1 0 = λ n. ap (λ (t : ℕ). cond (eqb t n) 1 0) served in (
      w,
      gives,
      tt,
      record {
        history = k.history;
        served = k.served + 1;
        words = ap (λ (ws : List ℕ). set ws 2 ((get_or ws 2 0 + 1) % 2 ^ 64)) k.words ∙ ap (λ (n : ℕ). length k.history.history ∷ (k.served + total waits s.views) % 2 ^ 64 ∷ n ∷ []) next ∙ ap (λ (n : ℕ). length k.history.history ∷ n % 2 ^ 64 ∷ (k.served + 1) % 2 ^ 64 ∷ []) (sym high);
        slot = ap (λ (hs : List (maybe.Option (Option Contents))). set hs 0 (some (Some history))) k.slot ∙ ap (λ (h : Contents). some (Some h) ∷ []) taken.0 ∙ ap (λ (n : ℕ). slot_of n k.history ∷ []) (sym turn_none);
        one_turn = omega (arith, turn_none);
        counted = k.counted;
        few = k.few;
        tickets = λ n. omega (arith, ap (between n (k.served + 1)) high, between_less n k.served (k.served + total waits s.views) (omega (arith, wait_less)), mine n, total-set (has_ticket n) s.views id v w me, k.tickets n);
        numbers = λ n. omega (arith, total-set (has_number n) s.views id v w me, k.numbers n);
        held = omega (arith, total-set size s.views id v w me, k.held);
        each = each_set (Knows k.history (k.served + 1)) s.views id w
            (λ j x other at. let its = k.each j x at in record {
              calls = its.calls;
              pasts = its.pasts;
              live = its.live;
              turn = λ now e. absurd (omega (arith, ap one_if e, terms_le turns s.views id j v x other me at, k.one_turn));
            })
            (record {
              calls = own.calls;
              pasts = own.pasts;
              live = omega arith;
              turn = λ now e. absurd (none-some now e);
            });
      },
      refl,
    )

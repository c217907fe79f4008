-- The rule holds of a new pool's table.
use Rattle.std.proofs.Common.{◌≡◌, ℕ, zero, suc, ◌+◌, ◌^◌, ◌<◌, ltb, List, [], ◌∷◌, map, Some, sym, refl, ap, subst, arith}
use Rattle.std.proofs.lemmas.Bool.Decides.{nat_tests}
use Rattle.std.proofs.lemmas.List.{length-replicate, length-map}
use Rattle.std.proofs.lemmas.List.FromFn.{length-range_with_len}
use Rattle.std.proofs.lemmas.Option.{none-some}
use Rattle.std.specs.List.{range_with_len}
use mathlib.Core.Option.{some-injective, some-ne-none}
use Rattle.atomic_table.specs.Table.{opening}
use Rattle.path_tree.specs.declared.seat.Seat.TheVariants.{Free}
use Rattle.path_tree.specs.Bag.{begun}
use Rattle.path_pool.specs.Rule.{total, told, AreCalls, is_number, between, Each, Knows, IsKept, first_of_all}
use Rattle.path_pool.proofs.Totals.{mark}
use Rattle.path_pool.proofs.Stepping.{front_same}

no_calls : (numbers : List ℕ) → AreCalls (map (λ n. told n []) numbers) []
no_calls [] = tt
no_calls (n ∷ numbers) = (refl, no_calls numbers)

pub total-range : (n a k : ℕ) → total (is_number n) (map (λ m. told m []) (range_with_len a k)) + mark (ltb n a) ≡ mark (ltb n (a + k))
total-range n a zero = grind (arith, nat_tests)
total-range n a (suc k) =
    let rest = total-range n (a + 1) k in
    grind (arith, nat_tests)

each_one : {A : Type 0} (P : A → Type 0) (x : A) → P x → Each (x ∷ []) P
each_one P x own zero y at = subst P (some-injective x y at) own
each_one P x own (suc k) y at = absurd (some-ne-none y (sym at))

pub opens : (seats : ℕ) → seats < 2 ^ 32 → IsKept seats (opening (0 ∷ 0 ∷ 0 ∷ []) (Some (begun seats) ∷ []) (first_of_all seats))
opens seats few = record {
  history = begun seats;
  served = 0;
  words = refl;
  slot = refl;
  one_turn = omega arith;
  counted = length-replicate seats Free;
  few = few;
  tickets = λ n. none_yet n;
  numbers = λ n. omega (arith, total-range n 0 seats, none_below n, ap (λ m. mark (ltb n m)) all);
  held = omega (arith, length-map (range_with_len 0 seats) (λ n. told n []), length-range_with_len 0 seats);
  each = each_one (Knows (begun seats) 0) (first_of_all seats) (record {
    calls = no_calls (range_with_len 0 seats);
    pasts = λ live. (front_same (begun seats), tt);
    live = omega arith;
    turn = λ taken e. absurd (none-some taken e);
  });
}
  where
    all : 0 + seats ≡ seats
    all = omega arith

    none_yet : (n : ℕ) → 0 ≡ between n 0 0
    none_yet n = grind (arith, nat_tests)

    none_below : (n : ℕ) → mark (ltb n 0) ≡ 0
    none_below n = grind (arith, nat_tests)

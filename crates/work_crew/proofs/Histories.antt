-- What a history of a pool that has no path left says of the paths that are done.
use Rattle.std.proofs.Common.{◌≡◌, ◌≢◌, ℕ, zero, suc, ◌+◌, ◌<◌, ◌≤◌, Bool, true, false, cond, eqb, List, [], ◌∷◌, ◌++◌, length, refl, sym, ◌∙◌, ap, ne_eqb, lt-ltb, arith}
use Rattle.std.specs.Prelude.{slice_get, ◌==◌}
use Rattle.std.specs.List.{All, sum_by, count_by}
use Rattle.std.proofs.lemmas.Bool.Decides.{nat_tests}
use Rattle.std.proofs.lemmas.Bool.{eqb-true, eqb-false}
use Rattle.std.proofs.lemmas.List.Quantifiers.{position-Some}
use Rattle.std.proofs.lemmas.List.Sums.{sum_by-cons, sum_by-le-sum_by}
use Rattle.std.proofs.lemmas.List.{length-set, length-replicate, append_assoc, append-nil, length-append}
use Rattle.std.proofs.lemmas.Option.{slice_get_within, slice_get_past}
use Rattle.path_tree.specs.declared.path.Path.{Path}
use Rattle.path_tree.specs.declared.seat.Seat.{Seat}
use Rattle.path_tree.specs.declared.seat.Seat.TheVariants.{Free, Holds, Ended}
use Rattle.path_tree.specs.declared.entered.PoolCall.{PoolCall}
use Rattle.path_tree.specs.declared.entered.PoolCall.TheVariants.{Took, Finished, Split, Closed, GaveBack}
use Rattle.path_tree.specs.declared.entered.Entered.{Entered}
use Rattle.path_tree.specs.PoolMachine.{Pool, Contents, beginning, whole_path, is_holding, holds, out_count, moved, IsFront, Needs, Leads, IsLegal, ArePlaced}
use Rattle.path_pool.specs.Calls.{calls_of}
use Rattle.path_pool.specs.Seats.{PoolView, SeatView, HasEnded}
use Rattle.path_run.specs.declared.record_of.RecordOf.{RecordOf}
use Rattle.path_pool.specs.Rule.{total}
use Rattle.path_pool.proofs.Totals.{total-append, total_none, sum_is_total, mark}
use Rattle.work_crew.specs.Recorded.{Ending, ending, endings, kids_of, weigh, path_weight, kids_weight, BeginWith, AreOfSeats, AreWhole}
use Rattle.work_crew.proofs.Seats.{moved_paths, part_further, kids_at, take-zero}

-- f of each path that a call says is done
abbrev of_call : (Ending → ℕ) → PoolCall → ℕ
of_call f call = total f (endings (call ∷ []))

pub of_calls : (Ending → ℕ) → List PoolCall → ℕ
of_calls f calls = total f (endings calls)

abbrev pub of_history : (Ending → ℕ) → List Entered → ℕ
of_history f entries = total (λ (e : Entered). of_call f e.call) entries

pub first_call : (f : Ending → ℕ) (call : PoolCall) (calls : List PoolCall) → total f (endings (call ∷ calls)) ≡ of_call f call + total f (endings calls)
first_call f (Took number) calls = omega arith
first_call f Finished calls = omega arith
first_call f (Split number first count) calls = omega arith
first_call f (Closed number) calls = omega arith
first_call f (GaveBack number) calls = omega arith

led_paths : (first last : Pool) (entries : List Entered) → Leads first entries last → (more : List Path) × (last.paths ≡ first.paths ++ more)
led_paths first last [] leads = ([], ap (λ (p : Pool). p.paths) (sym leads) ∙ sym (append-nil first.paths))
led_paths first last (entry ∷ entries) (next, step, leads) =
    let here = moved_paths first entry.seat entry.call step.kids in
    let there = led_paths next last entries leads in
    (here.0 ++ there.0, there.1 ∙ ap (λ xs. xs ++ there.0) (ap (λ (p : Pool). p.paths) step.change ∙ here.1) ∙ append_assoc first.paths here.0 there.0)

-- kids stand at their numbers, whatever follows them
kids_within : (paths kids more : List Path) (number first count : ℕ) → first ≡ length paths → count ≡ length kids → kids_of ((paths ++ kids) ++ more) (ending number first count) ≡ kids
kids_within paths kids more number first count at many =
    part_further (paths ++ kids) more first count (omega (arith, at, many, length-append paths kids)) ∙ kids_at paths kids number first count at many

paths_after : (g : Path → ℕ) (pool next : Pool) (seat : ℕ) (call : PoolCall) (kids all more : List Path) → Needs pool seat call kids → next ≡ moved pool seat call kids → all ≡ next.paths ++ more → total g next.paths ≡ total g pool.paths + of_call (kids_weight g all) call
paths_after g pool next seat (Took n) kids all more needs change are = omega (arith, ap (λ (p : Pool). total g p.paths) change)
paths_after g pool next seat Finished kids all more needs change are = omega (arith, ap (λ (p : Pool). total g p.paths) change)
paths_after g pool next seat (Split n first count) kids all more needs change are =
    let whole : all ≡ (pool.paths ++ kids) ++ more = are ∙ ap (λ (p : Pool). p.paths ++ more) change in
    let these : kids_of all (ending n first count) ≡ kids = ap (λ ps. kids_of ps (ending n first count)) whole ∙ kids_within pool.paths kids more n first count needs.3 needs.2 in
    omega (arith, ap (λ (p : Pool). total g p.paths) change, total-append g pool.paths kids, sum_is_total g kids, ap (sum_by g) these)
paths_after g pool next seat (Closed n) kids all more needs change are = omega (arith, ap (λ (p : Pool). total g p.paths) change, ap (sum_by g) (take-zero all))
paths_after g pool next seat (GaveBack n) kids all more needs change are = omega (arith, ap (λ (p : Pool). total g p.paths) change)

-- all paths are those at first, and the kids of those that were split
split_paths : (g : Path → ℕ) (first last : Pool) (entries : List Entered) → Leads first entries last → total g last.paths ≡ total g first.paths + of_history (kids_weight g last.paths) entries
split_paths g first last [] leads = omega (arith, ap (λ (p : Pool). total g p.paths) leads)
split_paths g first last (entry ∷ entries) (next, step, leads) =
    let rest = split_paths g next last entries leads in
    let grown = led_paths next last entries leads in
    omega (arith, rest, paths_after g first next entry.seat entry.call step.kids last.paths grown.0 step.needs step.change grown.1)

done_after : (w : ℕ → ℕ) (pool : Pool) (seat : ℕ) (call : PoolCall) (kids : List Path) → total w (moved pool seat call kids).done ≡ total w pool.done + of_call (λ done. w done.number) call
done_after w pool seat (Took n) kids = omega arith
done_after w pool seat Finished kids = omega arith
done_after w pool seat (Split n first count) kids = omega (arith, total-append w pool.done (n ∷ []))
done_after w pool seat (Closed n) kids = omega (arith, total-append w pool.done (n ∷ []))
done_after w pool seat (GaveBack n) kids = omega arith

-- the numbers that are done are those of the calls that say so
done_paths : (w : ℕ → ℕ) (first last : Pool) (entries : List Entered) → Leads first entries last → total w last.done ≡ total w first.done + of_history (λ done. w done.number) entries
done_paths w first last [] leads = omega (arith, ap (λ (p : Pool). total w p.done) leads)
done_paths w first last (entry ∷ entries) (next, step, leads) =
    omega (arith, done_paths w next last entries leads, done_after w first entry.seat entry.call step.kids, ap (λ (p : Pool). total w p.done) step.change)

-- the numbers below n, weighed
abbrev below : (ℕ → ℕ) → ℕ → ℕ
below w zero = 0
below w (suc n) = below w n + w n

no_mark : (b : Bool) → mark b ≡ 0 → b ≡ false
no_mark true none = absurd (omega (arith, none))
no_mark false none = refl

-- w but for one number
abbrev without : ℕ → (ℕ → ℕ) → ℕ → ℕ
without n w m = cond (eqb m n) 0 (w m)

none_in : (w : ℕ → ℕ) (n : ℕ) (xs : List ℕ) → count_by (λ m. m == n) xs ≡ 0 → total w xs ≡ total (without n w) xs
none_in w n [] none = refl
none_in w n (x ∷ xs) none =
    let first = sum_by-cons (λ m. cond (eqb m n) 1 0) x xs in
    let other : eqb x n ≡ false = no_mark (eqb x n) (omega (arith, none, first)) in
    omega (arith, ap (λ b. cond b 0 (w x)) other, none_in w n xs (omega (arith, none, first)))

one_first : (w : ℕ → ℕ) (n x : ℕ) (xs : List ℕ) (b : Bool) → eqb x n ≡ b → count_by (λ m. m == n) (x ∷ xs) ≡ 1 → (count_by (λ m. m == n) xs ≡ 1 → total w xs ≡ total (without n w) xs + w n) → total w (x ∷ xs) ≡ total (without n w) (x ∷ xs) + w n
one_first w n x xs true here one later =
    let first = sum_by-cons (λ m. cond (eqb m n) 1 0) x xs in
    let rest : count_by (λ m. m == n) xs ≡ 0 = omega (arith, one, first, ap mark here) in
    omega (arith, ap (λ b. cond b 0 (w x)) here, ap w (eqb-true x n here), none_in w n xs rest)
one_first w n x xs false other one later =
    let first = sum_by-cons (λ m. cond (eqb m n) 1 0) x xs in
    let rest : count_by (λ m. m == n) xs ≡ 1 = omega (arith, one, first, ap mark other) in
    omega (arith, ap (λ b. cond b 0 (w x)) other, later rest)

-- the one place of a number, apart
one_in : (w : ℕ → ℕ) (n : ℕ) (xs : List ℕ) → count_by (λ m. m == n) xs ≡ 1 → total w xs ≡ total (without n w) xs + w n
one_in w n [] one = absurd (omega (arith, one))
one_in w n (x ∷ xs) one =
    one_first w n x xs (eqb x n) refl one (one_in w n xs)

all_zero : (w : ℕ → ℕ) (xs : List ℕ) → ((m : ℕ) → w m ≡ 0) → total w xs ≡ 0
all_zero w [] zeros = refl
all_zero w (x ∷ xs) zeros = omega (arith, zeros x, all_zero w xs zeros)

below_same : (v w : ℕ → ℕ) (n : ℕ) → ((m : ℕ) → m < n → v m ≡ w m) → below v n ≡ below w n
below_same v w zero same = refl
below_same v w (suc n) same = omega (arith, same n (omega arith), below_same v w n (λ m less. same m (omega arith)))

without_other : (n m : ℕ) (w : ℕ → ℕ) → m < n → without n w m ≡ w m
without_other n m w less = ap (λ b. cond b 0 (w m)) (ne_eqb m n (λ e. omega arith))

above : (n m : ℕ) → n ≤ m → m ≢ n → suc n ≤ m
above n m at other = omega (arith, at, other)

without_zero : (n m : ℕ) (w : ℕ → ℕ) → n ≤ m → ((k : ℕ) → suc n ≤ k → w k ≡ 0) → without n w m ≡ 0
without_zero n m w at zeros = by (eqb m n) refl
  where
    by : (b : Bool) → eqb m n ≡ b → without n w m ≡ 0
    by true here = ap (λ b. cond b 0 (w m)) here
    by false other = ap (λ b. cond b 0 (w m)) other ∙ zeros m (above n m at (eqb-false m n other))

-- where each number below n stands once, and no other weighs anything
once_each : (n : ℕ) (w : ℕ → ℕ) (xs : List ℕ) → ((m : ℕ) → m < n → count_by (λ k. k == m) xs ≡ 1) → ((m : ℕ) → n ≤ m → w m ≡ 0) → total w xs ≡ below w n
once_each zero w xs once zeros = all_zero w xs (λ m. zeros m (omega arith))
once_each (suc n) w xs once zeros =
    let rest = once_each n (without n w) xs (λ m less. once m (omega arith)) (λ m at. without_zero n m w at zeros) in
    omega (arith, one_in w n xs (once n (omega arith)), rest, below_same (without n w) w n (λ m less. without_other n m w less))

below_first : (w : ℕ → ℕ) (n : ℕ) → below w (suc n) ≡ w zero + below (λ k. w (suc k)) n
below_first w zero = omega arith
below_first w (suc n) = omega (arith, below_first w n)

-- the path of a number, weighed
abbrev number_weight : (Path → ℕ) → List Path → ℕ → ℕ
number_weight g paths number = weigh g (slice_get paths number)

below_paths : (g : Path → ℕ) (paths : List Path) → below (number_weight g paths) (length paths) ≡ total g paths
below_paths g [] = refl
below_paths g (p ∷ paths) = omega (arith, below_first (number_weight g (p ∷ paths)) (length paths), below_paths g paths)

at_most_one : (b : Bool) → mark b ≤ 1
at_most_one true = omega arith
at_most_one false = omega arith

holds_less : (n : ℕ) (s : Seat) → mark (holds n s) ≤ mark (is_holding s)
holds_less n Free = omega arith
holds_less n (Holds m) = at_most_one (eqb m n)
holds_less n Ended = omega arith

-- where none waits and none is out, each number is done, once
all_done : (pool : Pool) → ArePlaced pool → pool.waiting ≡ [] → out_count pool ≡ 0 → (n : ℕ) → n < length pool.paths → count_by (λ m. m == n) pool.done ≡ 1
all_done pool placed none_waits none_out n within =
    let waiting : count_by (λ m. m == n) pool.waiting ≡ 0 = ap (count_by (λ m. m == n)) none_waits in
    let out : count_by (holds n) pool.seats ≤ out_count pool = sum_by-le-sum_by (λ s. mark (holds n s)) (λ s. mark (is_holding s)) pool.seats (holds_less n) in
    omega (arith, placed n, waiting, out, none_out, ap mark (lt-ltb n (length pool.paths) within))

-- the paths that are done, weighed, are the root and the kids of all
pub whole : (g : Path → ℕ) (inside : Contents) → IsLegal inside → ArePlaced inside.pool → inside.pool.waiting ≡ [] → out_count inside.pool ≡ 0
    → of_history (path_weight g inside.pool.paths) inside.history ≡ g whole_path + of_history (kids_weight g inside.pool.paths) inside.history
whole g inside legal placed none_waits none_out =
    let first = beginning (length inside.pool.seats) in
    let paths = inside.pool.paths in
    let w = number_weight g paths in
    let done = done_paths w first inside.pool inside.history legal in
    let split = split_paths g first inside.pool inside.history legal in
    let each = once_each (length paths) w inside.pool.done (all_done inside.pool placed none_waits none_out) (λ m past. ap (weigh g) (slice_get_past paths m past)) in
    omega (arith, done, split, each, below_paths g paths)

-- the calls of one seat in the entries
abbrev of_seat : (Ending → ℕ) → ℕ → List Entered → ℕ
of_seat f number entries = total f (endings (calls_of number entries))

seat_first : (f : Ending → ℕ) (b : Bool) (call : PoolCall) (calls : List PoolCall) → total f (endings (cond b (call ∷ calls) calls)) ≡ cond b (of_call f call) 0 + total f (endings calls)
seat_first f true call calls = first_call f call calls
seat_first f false call calls = omega arith

total-sum : {A : Type 0} (f g : A → ℕ) (xs : List A) → total (λ x. f x + g x) xs ≡ total f xs + total g xs
total-sum f g [] = omega arith
total-sum f g (x ∷ xs) = omega (arith, total-sum f g xs)

total-same : {A : Type 0} (f g : A → ℕ) (xs : List A) → ((x : A) → f x ≡ g x) → total f xs ≡ total g xs
total-same f g [] same = refl
total-same f g (x ∷ xs) same = omega (arith, same x, total-same f g xs same)

eqb-swap : (m n : ℕ) → mark (eqb m n) ≡ mark (eqb n m)
eqb-swap m n = grind (arith, nat_tests)

no_seat : (w k : ℕ) (seats : List SeatView) → count_by (λ (s : SeatView). s.number == k) seats ≡ 0 → total (λ (s : SeatView). cond (eqb k s.number) w 0) seats ≡ 0
no_seat w k [] none = refl
no_seat w k (s ∷ seats) none =
    let first = sum_by-cons (λ (s : SeatView). cond (eqb s.number k) 1 0) s seats in
    let other : eqb k s.number ≡ false = no_mark (eqb k s.number) (omega (arith, none, first, eqb-swap s.number k)) in
    omega (arith, ap (λ b. cond b w 0) other, no_seat w k seats (omega (arith, none, first)))

one_seat_first : (w k : ℕ) (s : SeatView) (seats : List SeatView) (b : Bool) → eqb k s.number ≡ b → count_by (λ (s : SeatView). s.number == k) (s ∷ seats) ≡ 1 → (count_by (λ (s : SeatView). s.number == k) seats ≡ 1 → total (λ (s : SeatView). cond (eqb k s.number) w 0) seats ≡ w) → total (λ (s : SeatView). cond (eqb k s.number) w 0) (s ∷ seats) ≡ w
one_seat_first w k s seats true here one later =
    let first = sum_by-cons (λ (s : SeatView). cond (eqb s.number k) 1 0) s seats in
    omega (arith, ap (λ b. cond b w 0) here, no_seat w k seats (omega (arith, one, first, eqb-swap s.number k, ap mark here)))
one_seat_first w k s seats false other one later =
    let first = sum_by-cons (λ (s : SeatView). cond (eqb s.number k) 1 0) s seats in
    omega (arith, ap (λ b. cond b w 0) other, later (omega (arith, one, first, eqb-swap s.number k, ap mark other)))

one_seat : (w k : ℕ) (seats : List SeatView) → count_by (λ (s : SeatView). s.number == k) seats ≡ 1 → total (λ (s : SeatView). cond (eqb k s.number) w 0) seats ≡ w
one_seat w k [] one = absurd (omega (arith, one))
one_seat w k (s ∷ seats) one = one_seat_first w k s seats (eqb k s.number) refl one (one_seat w k seats)

-- an entry is one of a seat of the pool, and the pool has as many seats after it
seat_within : (pool : Pool) (seat : ℕ) (call : PoolCall) (kids : List Path) → Needs pool seat call kids → (seat < length pool.seats) × (length (moved pool seat call kids).seats ≡ length pool.seats)
seat_within pool seat (Took n) kids needs = (slice_get_within pool.seats seat Free needs.0, length-set pool.seats seat (Holds n))
seat_within pool seat Finished kids needs = (slice_get_within pool.seats seat Free needs.0, length-set pool.seats seat Ended)
seat_within pool seat (Split n first count) kids needs = ((position-Some (holds n) pool.seats seat Free needs.0).0, length-set pool.seats seat (Holds first))
seat_within pool seat (Closed n) kids needs = ((position-Some (holds n) pool.seats seat Free needs).0, length-set pool.seats seat Free)
seat_within pool seat (GaveBack n) kids needs = ((position-Some (holds n) pool.seats seat Free needs).0, length-set pool.seats seat Ended)

-- what the calls of a history say is done is what those of each of its seats say
spread : (f : Ending → ℕ) (seats : List SeatView) (first last : Pool) (entries : List Entered) → Leads first entries last → ((n : ℕ) → n < length first.seats → count_by (λ (s : SeatView). s.number == n) seats ≡ 1)
    → total (λ (s : SeatView). of_seat f s.number entries) seats ≡ of_history f entries
spread f seats first last [] leads once = total_none (λ (s : SeatView). 0) seats (λ k x at. refl)
spread f seats first last (entry ∷ entries) (next, step, leads) once =
    let within = seat_within first entry.seat entry.call step.kids step.needs in
    let many : length next.seats ≡ length first.seats = ap (λ (p : Pool). length p.seats) step.change ∙ within.1 in
    let later = spread f seats next last entries leads (λ n below. once n (omega (arith, below, many))) in
    let here = one_seat (of_call f entry.call) entry.seat seats (once entry.seat within.0) in
    let apart = total-same (λ (s : SeatView). of_seat f s.number (entry ∷ entries)) (λ (s : SeatView). cond (eqb entry.seat s.number) (of_call f entry.call) 0 + of_seat f s.number entries) seats (λ s. seat_first f (eqb entry.seat s.number) entry.call (calls_of s.number entries)) in
    omega (arith, later, here, apart, total-sum (λ (s : SeatView). cond (eqb entry.seat s.number) (of_call f entry.call) 0) (λ (s : SeatView). of_seat f s.number entries) seats)

own_sums : (f : Ending → ℕ) (entries : List Entered) (seats : List SeatView) → All (λ (s : SeatView). calls_of s.number entries ≡ s.calls) seats → sum_by (λ (s : SeatView). sum_by f (endings s.calls)) seats ≡ total (λ (s : SeatView). of_seat f s.number entries) seats
own_sums f entries [] own = refl
own_sums f entries (s ∷ seats) own =
    omega (
      arith,
      sum_by-cons (λ (s : SeatView). sum_by f (endings s.calls)) s seats,
      sum_is_total f (endings s.calls),
      ap (λ calls. total f (endings calls)) (own 0 s (omega arith)),
      own_sums f entries seats (λ k d below. own (suc k) d (omega (arith, below))),
    )

front_paths : (inside : Contents) (seats : List SeatView) → All (λ (s : SeatView). IsFront s.seen inside) seats → All (λ (s : SeatView). BeginWith inside.pool.paths s.seen.pool.paths) seats
front_paths inside seats fronts k d below = (fronts k d below).paths

-- the records of all seats of a pool that has no path left are those of a whole tree
pub records_whole : (pool : PoolView) (seats : List SeatView) (records : List RecordOf) (bag : Contents) → HasEnded pool seats bag → ArePlaced bag.pool → bag.pool.waiting ≡ [] → out_count bag.pool ≡ 0 → AreOfSeats seats records → AreWhole records
records_whole pool seats records bag ended placed none_waits none_out are g =
    let paths = bag.pool.paths in
    let first = beginning (length bag.pool.seats) in
    let long : length first.seats ≡ pool.seats = length-replicate (length bag.pool.seats) Free ∙ ended.counted in
    let once : (n : ℕ) → n < length first.seats → count_by (λ (s : SeatView). s.number == n) seats ≡ 1 = λ n below. ended.numbers n (omega (arith, below, long)) in
    let sums = are paths g (front_paths bag seats ended.seen) in
    let all = whole g bag ended.legal placed none_waits none_out in
    omega (
      arith,
      sums.0,
      sums.1,
      all,
      own_sums (path_weight g paths) bag.history seats ended.own,
      own_sums (kids_weight g paths) bag.history seats ended.own,
      spread (path_weight g paths) seats first bag.pool bag.history ended.legal once,
      spread (kids_weight g paths) seats first bag.pool bag.history ended.legal once,
    )

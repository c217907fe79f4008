-- What holds of every run of the machine.
use Rattle.std.proofs.Common.{add-one, zero-add, append-nil, ◌≡◌, ℕ, zero, suc, ◌+◌, ◌-◌, ◌<◌, ◌≤◌, ◌^◌, ◌==◌, false, List, [], ◌∷◌, ◌++◌, Option, Some, None, length, refl, ap, subst, sym, ◌∙◌, arith, length-append, if◌then◌else◌}
use Rattle.std.specs.Prelude.{◌↔◌, IfSome, IsSome, IsNone, is_some, slice_get, option_to_list}
use Rattle.std.proofs.lemmas.Option.{slice_get-get_or}
use Rattle.std.proofs.lemmas.Bool.Decides.{nat_tests}
use Rattle.std.proofs.Math.Seq.{get_or-append_seam}
use Rattle.rv_image.specs.Cell.{Cell}
use Rattle.rv_machine.specs.declared.«record».Record.{Record}
use Rattle.rv_machine.specs.declared.end.End.{End}
use Rattle.rv_machine.specs.State.{State}
use Rattle.rv_machine.specs.Step.{Transition, step}
use Rattle.rv_machine.specs.Trail.{state_after, record_after, trail, IsUnfinished}
use Rattle.rv_machine.proofs.StepLaws.{step_of_some, seen_live, going_is, next_going, length_bytes, pc_below}

-- the unfolding of one step
pub state_after_next : (image : List Cell) (stops : List ℕ) (s : State) (n : ℕ) → state_after image stops s (n + 1) ≡ (step image stops (state_after image stops s n)).after
unfolding state_after
state_after_next image stops s n = rw add-one refl

pub trail_next : (image : List Cell) (stops : List ℕ) (s : State) (n : ℕ) → trail image stops s (n + 1) ≡ trail image stops s n ++ option_to_list (record_after image stops s n)
unfolding trail
trail_next image stops s n = rw add-one refl

pub state_after_zero : (image : List Cell) (stops : List ℕ) (s : State) → state_after image stops s 0 ≡ s
unfolding state_after
state_after_zero image stops s = refl

pub trail_zero : (image : List Cell) (stops : List ℕ) (s : State) → trail image stops s 0 ≡ []
unfolding trail
trail_zero image stops s = refl

-- the sizes stay, and so does the range of the pc
pub length_bytes_after : (image : List Cell) (stops : List ℕ) (s : State) (n : ℕ) → length (state_after image stops s n).bytes ≡ length s.bytes
unfolding state_after
length_bytes_after image stops s zero = refl
length_bytes_after image stops s (suc n) = length_bytes image stops (state_after image stops s n) ∙ length_bytes_after image stops s n

pub pc_below_after : (image : List Cell) (stops : List ℕ) (s : State) (n : ℕ) → s.pc < 2 ^ 32 → (state_after image stops s n).pc < 2 ^ 32
unfolding state_after
pc_below_after image stops s zero h = h
pc_below_after image stops s (suc n) h = pc_below image stops (state_after image stops s n) (pc_below_after image stops s n h)

-- a machine that has ended stays, and shows nothing more
record Stays (image : List Cell) (stops : List ℕ) (s : State) (n m : ℕ) : Type 0 where
  pub state : state_after image stops s m ≡ state_after image stops s n
  pub records : trail image stops s m ≡ trail image stops s n

stays_next : (image : List Cell) (stops : List ℕ) (s : State) (n m : ℕ) → IsSome (state_after image stops s n).ending → Stays image stops s n m → Stays image stops s n (m + 1)
stays_next image stops s n m ended h =
    let same = step_of_some image stops (state_after image stops s m) (rw h.state ended) in
    record {
      state = rw (state_after_next, same) h.state;
      records = trail_next image stops s m ∙ (ap (λ (t : Transition). trail image stops s m ++ option_to_list t.seen) same ∙ (append-nil _ ∙ h.records));
    }

stays_after : (image : List Cell) (stops : List ℕ) (s : State) (n k : ℕ) → IsSome (state_after image stops s n).ending → Stays image stops s n (k + n)
stays_after image stops s n zero ended = rw zero-add (record { state = refl; records = refl })
stays_after image stops s n (suc k) ended =
    let e : suc k + n ≡ (k + n) + 1 = omega arith in
    rw e (stays_next image stops s n (k + n) ended (stays_after image stops s n k ended))

ended_stays : (image : List Cell) (stops : List ℕ) (s : State) (n m : ℕ) → n ≤ m → IsSome (state_after image stops s n).ending → Stays image stops s n m
ended_stays image stops s n m h ended =
    let e : m ≡ (m - n) + n = omega arith in
    rw e (stays_after image stops s n (m - n) ended)

pub state_after_ended : (image : List Cell) (stops : List ℕ) (s : State) (n m : ℕ) → n ≤ m → IsSome (state_after image stops s n).ending → state_after image stops s m ≡ state_after image stops s n
state_after_ended image stops s n m h ended = (ended_stays image stops s n m h ended).state

pub trail_ended : (image : List Cell) (stops : List ℕ) (s : State) (n m : ℕ) → n ≤ m → IsSome (state_after image stops s n).ending → trail image stops s m ≡ trail image stops s n
trail_ended image stops s n m h ended = (ended_stays image stops s n m h ended).records

one_at_most : (seen : Option Record) → length (option_to_list seen) ≤ 1
one_at_most None = omega arith
one_at_most (Some r) = omega arith

-- a run has at most one record a step
pub trail_le : (image : List Cell) (stops : List ℕ) (s : State) (n : ℕ) → length (trail image stops s n) ≤ n
unfolding trail
trail_le image stops s zero = omega arith
trail_le image stops s (suc n) =
    omega (arith, trail_le image stops s n, length-append (trail image stops s n) (option_to_list (record_after image stops s n)), one_at_most (record_after image stops s n))

-- each of n steps that left the machine going gave a record
pub length_going : (image : List Cell) (stops : List ℕ) (s : State) (n : ℕ) → (state_after image stops s n).ending ≡ None → length (trail image stops s n) ≡ n
unfolding trail state_after
length_going image stops s zero h = refl
length_going image stops s (suc n) h =
    let g = going_is image stops (state_after image stops s n) h in
    let before = length_going image stops s n (seen_live image stops (state_after image stops s n) g.r g.seen) in
    rw g.seen (omega (arith, before, length-append (trail image stops s n) (g.r ∷ [])))

-- the last record of n + 1
last_at : (records : List Record) (r : Record) (n : ℕ) → length records ≡ n → slice_get (records ++ r ∷ []) (suc n - 1) ≡ Some r
last_at records r n h =
    let at_end : suc n - 1 ≡ length records = omega arith in
    let within : length records < length (records ++ r ∷ []) = omega (arith, length-append records (r ∷ [])) in
    rw (at_end, slice_get-get_or (records ++ r ∷ []) (length records) r within) (ap Some (get_or-append_seam records r [] r))

unfinished_from_going : (image : List Cell) (stops : List ℕ) (s : State) (n : ℕ) → (state_after image stops s (suc n)).ending ≡ None → IsUnfinished image stops s (suc n)
unfolding trail state_after
unfinished_from_going image stops s n h =
    let g = going_is image stops (state_after image stops s n) h in
    let before = length_going image stops s n (seen_live image stops (state_after image stops s n) g.r g.seen) in
    record {
      records = rw g.seen (omega (arith, before, length-append (trail image stops s n) (g.r ∷ [])));
      last_goes = rw (g.seen, last_at (trail image stops s n) g.r n before) g.next;
    }

going_from_unfinished : (image : List Cell) (stops : List ℕ) (s : State) (n : ℕ) → IsUnfinished image stops s (suc n) → (state_after image stops s (suc n)).ending ≡ None
unfolding trail state_after
going_from_unfinished image stops s n h = by_record (record_after image stops s n) refl where
  last : Option Record → Type 0
  last seen = (length (trail image stops s n ++ option_to_list seen) ≡ suc n) × IfSome (slice_get (trail image stops s n ++ option_to_list seen) (suc n - 1)) (λ r. IsSome r.next)

  by_last : (seen : Option Record) → record_after image stops s n ≡ seen → last seen → (step image stops (state_after image stops s n)).after.ending ≡ None
  by_last None k h = absurd (omega (arith, h.0, trail_le image stops s n, length-append (trail image stops s n) []))
  by_last (Some r) k h =
      let count : length (trail image stops s n) ≡ n = omega (arith, h.0, length-append (trail image stops s n) (r ∷ [])) in
      next_going image stops (state_after image stops s n) r k (rw (last_at (trail image stops s n) r n count) at h.1)

  by_record : (seen : Option Record) → record_after image stops s n ≡ seen → (step image stops (state_after image stops s n)).after.ending ≡ None
  by_record seen k = by_last seen k (subst last k (h.records, h.last_goes))

none_is : {A : Type 0} (o : Option A) → IsNone o → o ≡ None
none_is None h = refl
none_is (Some x) h = cc

-- a run of n steps is unfinished exactly where it has no ending to tell
pub unfinished_is : (image : List Cell) (stops : List ℕ) (s : State) (n : ℕ) → IsNone (if n == 0 then None else (state_after image stops s n).ending) ↔ IsUnfinished image stops s n
unfolding trail
unfinished_is image stops s zero = (λ _. record { records = refl; last_goes = tt }, λ _. refl)
unfinished_is image stops s (suc n) =
    let positive : (suc n == 0) ≡ false = grind (arith, nat_tests) in
    rw positive (
      λ h. unfinished_from_going image stops s n (none_is _ h),
      λ h. let e = going_from_unfinished image stops s n h in rw e refl,
    )

-- one more step adds its record to the number of records
pub length_trail_next : (image : List Cell) (stops : List ℕ) (s : State) (n : ℕ) → length (trail image stops s (n + 1)) ≡ length (trail image stops s n) + (if is_some (step image stops (state_after image stops s n)).seen then 1 else 0)
length_trail_next image stops s n =
    rw trail_next (length-append (trail image stops s n) _ ∙ ap (λ k. length (trail image stops s n) + k) (count (record_after image stops s n)))
  where
    count : (seen : Option Record) → length (option_to_list seen) ≡ (if is_some seen then 1 else 0)
    count None = refl
    count (Some r) = refl

-- a run whose step ended it has come to its last state, and to its last record
pub run_ended : (image : List Cell) (stops : List ℕ) (s before after : State) (n m : ℕ) → before ≡ state_after image stops s n → after ≡ (step image stops before).after → IsSome after.ending → n < m → (after ≡ state_after image stops s m) × (trail image stops s m ≡ trail image stops s (n + 1))
run_ended image stops s before after n m h k ended below =
    let here : after ≡ state_after image stops s (n + 1) = k ∙ (ap (λ (t : State). (step image stops t).after) h ∙ sym (state_after_next image stops s n)) in
    let stays = ended_stays image stops s (n + 1) m (omega arith) (rw here at ended) in
    (here ∙ sym stays.state, stays.records)

-- the ending that a run tells
pub unfinished_by : (image : List Cell) (stops : List ℕ) (s after : State) (n : ℕ) (end : Option End) → after ≡ state_after image stops s n → end ≡ (if n == 0 then None else after.ending) → IsNone end ↔ IsUnfinished image stops s n
unfinished_by image stops s after n end h k = rw (k, h) (unfinished_is image stops s n)

-- for a run, step by step
pub ruleset run_laws = (state_after_zero, trail_zero, state_after_next, length_trail_next, state_after_ended, trail_ended, trail_le, length_bytes_after)

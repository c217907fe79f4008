-- What holds of every step of the machine.
use Rattle.std.proofs.Common.{◌≡◌, ℕ, zero, suc, ◌+◌, ◌/◌, ◌%◌, ◌^◌, ◌<◌, ◌==◌, Bool, true, false, List, Option, Some, None, length, refl, ap, subst, sym, ◌∙◌, arith, length-set, slice_set, if◌then◌else◌}
use Rattle.std.specs.Prelude.{IfSome, IsSome, is_some, MatchOption}
use Rattle.std.specs.List.{list_any}
use Rattle.ct_words.specs.Words.{extend_value}
use Rattle.rv_decode.specs.declared.instr.Instr.{Instr}
use Rattle.rv_decode.specs.declared.instr.Instr.TheVariants.{Lui, Auipc, Jal, Jalr, Branch, Load, Store, OpImm, Op, Fence, Call, Break}
use Rattle.rv_decode.specs.Instructions.{instruction_of}
use Rattle.rv_image.specs.declared.right.Right.TheVariants as rights
use Rattle.rv_image.specs.Cell.{Cell}
use Rattle.rv_image.specs.Image.{allowed_at, fetch_at}
use Rattle.rv_machine.specs.declared.touch.Touch.{Touch}
use Rattle.rv_machine.specs.declared.touch.Touch.TheVariants as touches
use Rattle.rv_machine.specs.declared.«record».Record.{Record}
use Rattle.rv_machine.specs.declared.end.End.{End}
use Rattle.rv_machine.specs.declared.end.End.TheVariants as endings
use Rattle.rv_machine.specs.State.{State, register_value, register_written}
use Rattle.rv_machine.specs.Step.{wrapped, even, following, address_of, loaded_value, byte_stored, bytes_stored, all_allowed, Transition, goes, faults, ends, load, store, perform, decoded_step, fetched_step, live_step, step}
use Rattle.rv_machine.proofs.Memory.{length_stored}

-- the state after an instruction has the sizes, and before the jump also the pc and the ending, of the state before it
record KeepsPlace (s t : State) : Type 0 where
  pub pc : t.pc ≡ s.pc
  pub registers : length t.registers ≡ length s.registers
  pub bytes : length t.bytes ≡ length s.bytes
  pub ending : t.ending ≡ s.ending

-- what each step keeps, and how its record and the state after it agree
pub record IsTransition (s : State) (t : Transition) : Type 0 where
  pub registers : length t.after.registers ≡ length s.registers
  pub bytes : length t.after.bytes ≡ length s.bytes
  pub pc : s.pc < 2 ^ 32 → t.after.pc < 2 ^ 32
  pub seen : IfSome t.seen (λ r. (r.pc ≡ s.pc) × MatchOption r.next (t.after ≡ record s { ending = Some endings.Fault }) (λ next. (t.after.pc ≡ next) × (t.after.ending ≡ s.ending)))
  pub unseen : t.seen ≡ None → IsSome t.after.ending

length_stored_all : (image : List Cell) (bytes : List ℕ) (a n v : ℕ) → length (bytes_stored image bytes a n v) ≡ length bytes
unfolding bytes_stored
length_stored_all image bytes a zero v = refl
length_stored_all image bytes a (suc n) v =
    length_stored_all image (byte_stored image bytes a (v % 256)) (wrapped (a + 1)) n (v / 256) ∙ length_stored image bytes a (v % 256)

written_keeps : (s : State) (r v : ℕ) → KeepsPlace s (register_written s r v)
written_keeps s r v = record { pc = refl; registers = length_written (r == 0); bytes = refl; ending = refl } where
  length_written : (b : Bool) → length (if b then s.registers else slice_set s.registers r v) ≡ length s.registers
  length_written true = refl
  length_written false = simp length-set

stored_keeps : (image : List Cell) (s : State) (a n v : ℕ) → KeepsPlace s (record s { bytes = bytes_stored image s.bytes a n v })
stored_keeps image s a n v = record { pc = refl; registers = refl; bytes = length_stored_all image s.bytes a n v; ending = refl }

same_keeps : (s : State) → KeepsPlace s s
same_keeps s = record { pc = refl; registers = refl; bytes = refl; ending = refl }

goes_is : (s t : State) (touch : Touch) (next : ℕ) → KeepsPlace s t → next < 2 ^ 32 → IsTransition s (goes t touch next)
goes_is s t touch next k below = record {
  registers = k.registers;
  bytes = k.bytes;
  pc = λ _. below;
  seen = (k.pc, (refl, k.ending));
  unseen = λ h. cc;
}

faults_is : (s : State) (touch : Touch) → IsTransition s (faults s touch)
faults_is s touch = record { registers = refl; bytes = refl; pc = λ h. h; seen = (refl, refl); unseen = λ h. cc }

ends_is : (s : State) (end : End) → IsTransition s (ends s end)
ends_is s end = record { registers = refl; bytes = refl; pc = λ h. h; seen = tt; unseen = λ _. refl }

wrapped_below : (a : ℕ) → wrapped a < 2 ^ 32
wrapped_below a = omega arith

even_below : (a : ℕ) → even (wrapped a) < 2 ^ 32
even_below a = omega arith

branch_below : (b : Bool) (x y : ℕ) → (if b then wrapped x else wrapped y) < 2 ^ 32
branch_below true x y = wrapped_below x
branch_below false x y = wrapped_below y

either_is : (s : State) (b : Bool) (t u : Transition) → IsTransition s t → IsTransition s u → IsTransition s (if b then t else u)
either_is s true t u p q = p
either_is s false t u p q = q

load_is : (image : List Cell) (s : State) (rd a bytes : ℕ) (signed : Bool) → IsTransition s (load image s rd a bytes signed)
unfolding load
load_is image s rd a bytes signed =
    either_is s (all_allowed (allowed_at rights.Read image) a bytes) _ _ (goes_is s _ _ _ (written_keeps s rd _) (wrapped_below _)) (faults_is s _)

store_is : (image : List Cell) (s : State) (a bytes v : ℕ) → IsTransition s (store image s a bytes v)
unfolding store
store_is image s a bytes v =
    either_is s (all_allowed (allowed_at rights.Write image) a bytes) _ _ (goes_is s _ _ _ (stored_keeps image s a bytes v) (wrapped_below _)) (faults_is s _)

perform_is : (image : List Cell) (s : State) (instr : Instr) → IsTransition s (perform image s instr)
unfolding perform
perform_is image s (Lui rd imm) = goes_is s _ _ _ (written_keeps s rd _) (wrapped_below _)
perform_is image s (Auipc rd imm) = goes_is s _ _ _ (written_keeps s rd _) (wrapped_below _)
perform_is image s (Jal rd offset) = goes_is s _ _ _ (written_keeps s rd _) (wrapped_below _)
perform_is image s (Jalr rd rs1 offset) = goes_is s _ _ _ (written_keeps s rd _) (even_below _)
perform_is image s (Branch cond rs1 rs2 offset) = goes_is s _ _ _ (same_keeps s) (branch_below _ _ _)
perform_is image s (Load rd rs1 offset bytes signed) = load_is image s rd (address_of s rs1 offset) bytes signed
perform_is image s (Store rs1 rs2 offset bytes) = store_is image s (address_of s rs1 offset) bytes (register_value s rs2)
perform_is image s (OpImm op rd rs1 imm) = goes_is s _ _ _ (written_keeps s rd _) (wrapped_below _)
perform_is image s (Op op rd rs1 rs2) = goes_is s _ _ _ (written_keeps s rd _) (wrapped_below _)
perform_is image s (Fence word) = goes_is s _ _ _ (same_keeps s) (wrapped_below _)
perform_is image s Call = ends_is s _
perform_is image s Break = ends_is s _

pub length_performed : (image : List Cell) (s : State) (instr : Instr) → length (perform image s instr).after.bytes ≡ length s.bytes
length_performed image s instr = (perform_is image s instr).bytes

decoded_is : (image : List Cell) (s : State) (instr : Option Instr) → IsTransition s (decoded_step image s instr)
unfolding decoded_step
decoded_is image s None = ends_is s _
decoded_is image s (Some instr) = perform_is image s instr

fetched_is : (image : List Cell) (s : State) (word : Option ℕ) → IsTransition s (fetched_step image s word)
unfolding fetched_step
fetched_is image s None = ends_is s _
fetched_is image s (Some word) = decoded_is image s (instruction_of word)

pub live_is : (image : List Cell) (stops : List ℕ) (s : State) → IsTransition s (live_step image stops s)
unfolding live_step
live_is image stops s =
    either_is s (list_any (λ stop. stop == s.pc) stops) _ _ (ends_is s _) (fetched_is image s (fetch_at image s.pc))

pub step_of_ended : (image : List Cell) (stops : List ℕ) (s : State) (end : End) → s.ending ≡ Some end → step image stops s ≡ record { after = s; seen = None }
unfolding step
step_of_ended image stops s end h = rw h refl

pub step_of_some : (image : List Cell) (stops : List ℕ) (s : State) → IsSome s.ending → step image stops s ≡ record { after = s; seen = None }
step_of_some image stops s h = by_ending s.ending refl h where
  by_ending : (e : Option End) → s.ending ≡ e → IsSome e → step image stops s ≡ record { after = s; seen = None }
  by_ending None k i = cc
  by_ending (Some end) k i = step_of_ended image stops s end k

pub step_of_live : (image : List Cell) (stops : List ℕ) (s : State) → s.ending ≡ None → step image stops s ≡ live_step image stops s
unfolding step
step_of_live image stops s h = rw h refl

ended_is : (s : State) (end : End) → s.ending ≡ Some end → IsTransition s (record { after = s; seen = None })
ended_is s end h = record { registers = refl; bytes = refl; pc = λ p. p; seen = tt; unseen = λ _. rw h refl }

-- every step
pub step_is : (image : List Cell) (stops : List ℕ) (s : State) → IsTransition s (step image stops s)
step_is image stops s = by_ending s.ending refl where
  by_ending : (e : Option End) → s.ending ≡ e → IsTransition s (step image stops s)
  by_ending None h = rw (step_of_live image stops s h) (live_is image stops s)
  by_ending (Some end) h = rw (step_of_ended image stops s end h) (ended_is s end h)

pub length_bytes : (image : List Cell) (stops : List ℕ) (s : State) → length (step image stops s).after.bytes ≡ length s.bytes
length_bytes image stops s = (step_is image stops s).bytes

pub length_registers : (image : List Cell) (stops : List ℕ) (s : State) → length (step image stops s).after.registers ≡ length s.registers
length_registers image stops s = (step_is image stops s).registers

pub pc_below : (image : List Cell) (stops : List ℕ) (s : State) → s.pc < 2 ^ 32 → (step image stops s).after.pc < 2 ^ 32
pc_below image stops s h = (step_is image stops s).pc h

-- the record of a step has the pc of the state before it
pub seen_pc : (image : List Cell) (stops : List ℕ) (s : State) (r : Record) → (step image stops s).seen ≡ Some r → r.pc ≡ s.pc
seen_pc image stops s r h = let k = rw h at (step_is image stops s).seen in k.0

-- the next of a record is the pc of the state after the step, which goes on
pub seen_next : (image : List Cell) (stops : List ℕ) (s : State) (r : Record) (next : ℕ) → (step image stops s).seen ≡ Some r → r.next ≡ Some next → ((step image stops s).after.pc ≡ next) × ((step image stops s).after.ending ≡ s.ending)
seen_next image stops s r next h n = let k = rw h at (step_is image stops s).seen in rw n at k.1

-- a record without next comes with a fault, and nothing else changes
pub seen_fault : (image : List Cell) (stops : List ℕ) (s : State) (r : Record) → (step image stops s).seen ≡ Some r → r.next ≡ None → (step image stops s).after ≡ record s { ending = Some endings.Fault }
seen_fault image stops s r h n = let k = rw h at (step_is image stops s).seen in rw n at k.1

-- only a machine that hasn't ended gives a record
pub seen_live : (image : List Cell) (stops : List ℕ) (s : State) (r : Record) → (step image stops s).seen ≡ Some r → s.ending ≡ None
seen_live image stops s r h = by_ending s.ending refl where
  by_ending : (e : Option End) → s.ending ≡ e → s.ending ≡ None
  by_ending None k = k
  by_ending (Some end) k = let e : None ≡ Some r = ap (λ (t : Transition). t.seen) (sym (step_of_ended image stops s end k)) ∙ h in cc

-- a step without record leaves a machine that has ended
pub unseen_ended : (image : List Cell) (stops : List ℕ) (s : State) → (step image stops s).seen ≡ None → IsSome (step image stops s).after.ending
unseen_ended image stops s h = (step_is image stops s).unseen h

some_none : {A : Type 0} {x : A} → Some x ≡ None → ⊥
some_none h = cc

ended_none : {A : Type 0} {o : Option A} → IsSome o → o ≡ None → ⊥
ended_none {A} {o} i h = let k = rw h at i in cc

-- a step that leaves the machine going has a record with a next
pub record Going (t : Transition) : Type 0 where
  pub r : Record
  pub seen : t.seen ≡ Some r
  pub next : IsSome r.next

pub going_is : (image : List Cell) (stops : List ℕ) (s : State) → (step image stops s).after.ending ≡ None → Going (step image stops s)
going_is image stops s h = by_record (step image stops s).seen refl where
  by_next : (r : Record) → (step image stops s).seen ≡ Some r → (next : Option ℕ) → r.next ≡ next → IsSome next
  by_next r k None e = absurd (some_none (sym (ap (λ (t : State). t.ending) (seen_fault image stops s r k e)) ∙ h))
  by_next r k (Some next) e = refl

  by_record : (seen : Option Record) → (step image stops s).seen ≡ seen → Going (step image stops s)
  by_record None k = absurd (ended_none (unseen_ended image stops s k) h)
  by_record (Some r) k = record { r = r; seen = k; next = by_next r k r.next refl }

-- a step with a next leaves a machine going that went before it
pub next_going : (image : List Cell) (stops : List ℕ) (s : State) (r : Record) → (step image stops s).seen ≡ Some r → IsSome r.next → (step image stops s).after.ending ≡ None
next_going image stops s r h i = by_next r.next refl i where
  by_next : (next : Option ℕ) → r.next ≡ next → IsSome next → (step image stops s).after.ending ≡ None
  by_next None e k = cc
  by_next (Some next) e k = (seen_next image stops s r next h e).1 ∙ seen_live image stops s r h

-- the ending without a record to which a word leads that was fetched, if it leads to one
abbrev pub instr_ending : Option Instr → Option End
instr_ending None = Some endings.Illegal
instr_ending (Some Call) = Some endings.Call
instr_ending (Some Break) = Some endings.Call
instr_ending (Some instr) = None

abbrev pub word_ending : Option ℕ → Option End
word_ending None = Some endings.BadFetch
word_ending (Some word) = instr_ending (instruction_of word)

-- the ending without a record of a run that comes to an address, if there is one
abbrev pub ending_at : List Cell → List ℕ → ℕ → Option End
ending_at image stops pc = if list_any (λ stop. stop == pc) stops then Some endings.Stop else word_ending (fetch_at image pc)

-- a step ends a run without a record by that ending, and gives a record where there is none
record EndsAt (s : State) (ending : Option End) (t : Transition) : Type 0 where
  pub ends_as : MatchOption ending (IsSome t.seen) (λ end. t ≡ ends s end)

moved_seen : (b : Bool) (s t : State) (touch : Touch) (next : ℕ) → IsSome (if b then goes t touch next else faults s touch).seen
moved_seen true s t touch next = refl
moved_seen false s t touch next = refl

load_seen : (image : List Cell) (s : State) (rd a bytes : ℕ) (signed : Bool) → IsSome (load image s rd a bytes signed).seen
unfolding load
load_seen image s rd a bytes signed =
    moved_seen (all_allowed (allowed_at rights.Read image) a bytes) s (register_written s rd (extend_value (loaded_value image s a bytes) bytes signed)) (touches.Load a) (following s)

store_seen : (image : List Cell) (s : State) (a bytes v : ℕ) → IsSome (store image s a bytes v).seen
unfolding store
store_seen image s a bytes v =
    moved_seen (all_allowed (allowed_at rights.Write image) a bytes) s (record s { bytes = bytes_stored image s.bytes a bytes v }) (touches.Store a) (following s)

instr_ends_at : (image : List Cell) (s : State) (instr : Option Instr) → EndsAt s (instr_ending instr) (decoded_step image s instr)
unfolding decoded_step perform
instr_ends_at image s None = record { ends_as = refl }
instr_ends_at image s (Some (Lui rd imm)) = record { ends_as = refl }
instr_ends_at image s (Some (Auipc rd imm)) = record { ends_as = refl }
instr_ends_at image s (Some (Jal rd offset)) = record { ends_as = refl }
instr_ends_at image s (Some (Jalr rd rs1 offset)) = record { ends_as = refl }
instr_ends_at image s (Some (Branch cond rs1 rs2 offset)) = record { ends_as = refl }
instr_ends_at image s (Some (Load rd rs1 offset bytes signed)) = record { ends_as = load_seen image s rd (address_of s rs1 offset) bytes signed }
instr_ends_at image s (Some (Store rs1 rs2 offset bytes)) = record { ends_as = store_seen image s (address_of s rs1 offset) bytes (register_value s rs2) }
instr_ends_at image s (Some (OpImm op rd rs1 imm)) = record { ends_as = refl }
instr_ends_at image s (Some (Op op rd rs1 rs2)) = record { ends_as = refl }
instr_ends_at image s (Some (Fence word)) = record { ends_as = refl }
instr_ends_at image s (Some Call) = record { ends_as = refl }
instr_ends_at image s (Some Break) = record { ends_as = refl }

word_ends_at : (image : List Cell) (s : State) (word : Option ℕ) → EndsAt s (word_ending word) (fetched_step image s word)
unfolding fetched_step
word_ends_at image s None = record { ends_as = refl }
word_ends_at image s (Some word) = instr_ends_at image s (instruction_of word)

live_ends_at : (image : List Cell) (stops : List ℕ) (s : State) → EndsAt s (ending_at image stops s.pc) (live_step image stops s)
unfolding live_step
live_ends_at image stops s = by_stop (list_any (λ stop. stop == s.pc) stops) where
  by_stop : (b : Bool) → EndsAt s (if b then Some endings.Stop else word_ending (fetch_at image s.pc)) (if b then ends s endings.Stop else fetched_step image s (fetch_at image s.pc))
  by_stop true = record { ends_as = refl }
  by_stop false = word_ends_at image s (fetch_at image s.pc)

-- whether a machine that hasn't ended gives a record, and its ending where it gives none, is decided by its pc
pub step_at_pc : (image : List Cell) (stops : List ℕ) (s : State) → s.ending ≡ None → MatchOption (ending_at image stops s.pc) (IsSome (step image stops s).seen) (λ end. step image stops s ≡ ends s end)
step_at_pc image stops s h = rw (step_of_live image stops s h) (live_ends_at image stops s).ends_as

pub seen_by_pc : (image : List Cell) (stops : List ℕ) (s t : State) → s.ending ≡ None → t.ending ≡ None → s.pc ≡ t.pc → is_some (step image stops s).seen ≡ is_some (step image stops t).seen
seen_by_pc image stops s t p q h =
    by_ending (ending_at image stops s.pc) (step image stops s) (step image stops t) (step_at_pc image stops s p) (subst EndsFrom (sym h) (step_at_pc image stops t q))
  where
    EndsFrom : ℕ → Type 0
    EndsFrom pc = MatchOption (ending_at image stops pc) (IsSome (step image stops t).seen) (λ end. step image stops t ≡ ends t end)

    by_ending : (e : Option End) (x y : Transition) → MatchOption e (IsSome x.seen) (λ end. x ≡ ends s end) → MatchOption e (IsSome y.seen) (λ end. y ≡ ends t end) → is_some x.seen ≡ is_some y.seen
    by_ending None x y a b = a ∙ sym b
    by_ending (Some end) x y a b = ap (λ (z : Transition). is_some z.seen) a ∙ sym (ap (λ (z : Transition). is_some z.seen) b)

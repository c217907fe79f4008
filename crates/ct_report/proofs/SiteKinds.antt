-- Where a pair of a job splits, the image has an instruction with a kind: every other instruction shows the same
-- record wherever two machines stand at one pc.
use Rattle.std.proofs.Common.{◌≡◌, ◌==◌, ◌⊎◌, ℕ, zero, suc, ◌-◌, Bool, true, false, List, [], ◌∷◌, ◌++◌, length, slice_get, Option, Some, None, IsSome, refl, sym, ◌∙◌, ap, inl, inr, arith, rules, if◌then◌else◌, append-nil}
use Rattle.std.specs.Option.{option_to_list, option_and_then}
use Rattle.std.specs.List.{list_any}
use Rattle.std.proofs.lemmas.List.Elements.{All-weaker}
use Rattle.rv_decode.specs.declared.instr.Instr.{Instr}
use Rattle.rv_decode.specs.declared.instr.Instr.TheVariants.{Lui, Auipc, Jal, Jalr, Branch, Load, Store, OpImm, Op, Fence, Call, Break}
use Rattle.rv_decode.specs.Instructions.{instruction_of}
use Rattle.rv_image.specs.Cell.{Cell}
use Rattle.rv_image.specs.Image.{fetch_at}
use Rattle.rv_machine.specs.declared.«record».Record.{Record}
use Rattle.rv_machine.specs.declared.end.End.TheVariants.{Stop}
use Rattle.rv_machine.specs.State.{State}
use Rattle.rv_machine.specs.Step.{Transition, step, live_step, fetched_step, decoded_step, perform, ends}
use Rattle.rv_machine.specs.Trail.{state_after, record_after, trail}
use Rattle.rv_machine.proofs.StepLaws.{step_of_live, seen_pc, seen_live}
use Rattle.rv_machine.proofs.TrailLaws.{length_going}
use Rattle.ct_pairs.specs.declared.job.Job.{Job}
use Rattle.ct_pairs.specs.declared.pair.Pair.{Pair}
use Rattle.ct_pairs.specs.declared.found.Found.{Found}
use Rattle.ct_pairs.specs.Pair.{left_start, right_start}
use Rattle.ct_pairs.specs.Split.{SplitsAt}
use Rattle.ct_pairs.specs.Covered.{AreTrueSites}
use Rattle.ct_pairs.proofs.TrailLemmas.{FirstSplit-one_pc}
use Rattle.ct_pairs.proofs.StartLemmas.{starts_aligned}
use Rattle.ct_report.specs.declared.kind.Kind.{Kind}
use Rattle.ct_report.specs.Kind.{kind_of, instruction_at, HasKind}
use Rattle.ct_report.specs.Report.{SitesHaveKinds}

some_not_none : {A : Type 0} (x : A) → Some x ≡ None → ⊥
some_not_none x e = cc

some_same : (a b : Record) → Some a ≡ Some b → a ≡ b
some_same a b e = cc

-- an instruction without a kind shows the pc and where it goes on, which the pc decides
performed_alike : (image : List Cell) (s t : State) (instr : Instr) → s.pc ≡ t.pc → kind_of instr ≡ None
    → (perform image s instr).seen ≡ (perform image t instr).seen
unfolding perform
performed_alike image s t (Load rd rs1 offset bytes signed) same none = absurd (some_not_none _ none)
performed_alike image s t (Store rs1 rs2 offset bytes) same none = absurd (some_not_none _ none)
performed_alike image s t (Branch condition rs1 rs2 offset) same none = absurd (some_not_none _ none)
performed_alike image s t (Jal rd offset) same none = absurd (some_not_none _ none)
performed_alike image s t (Jalr rd rs1 offset) same none = absurd (some_not_none _ none)
performed_alike image s t (Lui rd imm) same none = rw same
performed_alike image s t (Auipc rd imm) same none = rw same
performed_alike image s t (OpImm op rd rs1 imm) same none = rw same
performed_alike image s t (Op op rd rs1 rs2) same none = rw same
performed_alike image s t (Fence word) same none = rw same
performed_alike image s t Call same none = refl
performed_alike image s t Break same none = refl

decoded_alike : (image : List Cell) (s t : State) (instr : Option Instr) → s.pc ≡ t.pc → option_and_then kind_of instr ≡ None
    → (decoded_step image s instr).seen ≡ (decoded_step image t instr).seen
unfolding decoded_step
decoded_alike image s t None same none = refl
decoded_alike image s t (Some instr) same none = performed_alike image s t instr same none

fetched_alike : (image : List Cell) (s t : State) (word : Option ℕ) → s.pc ≡ t.pc → option_and_then kind_of (option_and_then instruction_of word) ≡ None
    → (fetched_step image s word).seen ≡ (fetched_step image t word).seen
unfolding fetched_step
fetched_alike image s t None same none = refl
fetched_alike image s t (Some word) same none = decoded_alike image s t (instruction_of word) same none

-- whether the pc is a stop address
stopped_alike : (image : List Cell) (s t : State) (b : Bool) (x y : Transition) → x.seen ≡ y.seen → (if b then ends s Stop else x).seen ≡ (if b then ends t Stop else y).seen
stopped_alike image s t true x y same = refl
stopped_alike image s t false x y same = same

live_alike : (image : List Cell) (stops : List ℕ) (s t : State) → s.pc ≡ t.pc → option_and_then kind_of (instruction_at image s.pc) ≡ None
    → (live_step image stops s).seen ≡ (live_step image stops t).seen
unfolding live_step
live_alike image stops s t same none =
    stopped_alike image s t (list_any (λ stop. stop == s.pc) stops) (fetched_step image s (fetch_at image s.pc)) (fetched_step image t (fetch_at image s.pc))
    (fetched_alike image s t (fetch_at image s.pc) same none)
    ∙ ap (λ pc. (if list_any (λ stop. stop == pc) stops then ends t Stop else fetched_step image t (fetch_at image pc)).seen) same

-- two machines at one pc whose instruction has no kind show the same
step_alike : (image : List Cell) (stops : List ℕ) (s t : State) → s.ending ≡ None → t.ending ≡ None → s.pc ≡ t.pc
    → option_and_then kind_of (instruction_at image s.pc) ≡ None → (step image stops s).seen ≡ (step image stops t).seen
step_alike image stops s t left right same none =
    ap (λ (x : Transition). x.seen) (step_of_live image stops s left)
    ∙ live_alike image stops s t same none
    ∙ sym (ap (λ (x : Transition). x.seen) (step_of_live image stops t right))

-- the last element of a list stands at its length, and no other
last_or_earlier : (records : List Record) (last a : Record) (j : ℕ) → slice_get (records ++ last ∷ []) j ≡ Some a
    → (slice_get records j ≡ Some a) ⊎ ((last ≡ a) × (j ≡ length records))
last_or_earlier [] last a zero there = inr (cc, refl)
last_or_earlier [] last a (suc j) there = absurd (some_not_none a (sym there))
last_or_earlier (first ∷ records) last a zero there = inl there
last_or_earlier (first ∷ records) last a (suc j) there = elim (last_or_earlier records last a j there) [
  | inl earlier ↦ inl earlier
  | inr at_end ↦ inr (at_end.0, omega (arith, at_end.1))
]

added : (records : List Record) (seen : Option Record) (n j : ℕ) (a : Record) → ((r : Record) → seen ≡ Some r → length records ≡ n)
    → slice_get (records ++ option_to_list seen) j ≡ Some a → (slice_get records j ≡ Some a) ⊎ ((seen ≡ Some a) × (j ≡ n))
added records None n j a count there = inl (sym (ap (λ rs. slice_get rs j) (append-nil records)) ∙ there)
added records (Some r) n j a count there = elim (last_or_earlier records r a j there) [
  | inl earlier ↦ inl earlier
  | inr at_end ↦ inr (ap (λ (x : Record). Some x) at_end.0, at_end.1 ∙ count r refl)
]

-- what stands at a place of a trail is the record of that step
record_at : (image : List Cell) (stops : List ℕ) (s : State) (n j : ℕ) (a : Record)
    → slice_get (trail image stops s n) j ≡ Some a → record_after image stops s j ≡ Some a
unfolding trail
record_at image stops s zero j a there = absurd (some_not_none a (sym there))
record_at image stops s (suc n) j a there =
    elim (added (trail image stops s n) (record_after image stops s n) n j a
    (λ r seen. length_going image stops s n (seen_live image stops (state_after image stops s n) r seen)) there) [
      | inl earlier ↦ record_at image stops s n j a earlier
      | inr now ↦ ap (λ k. record_after image stops s k) now.1 ∙ now.0
    ]

-- the address has an instruction with a kind where none would be absurd
has_kind : (o : Option Kind) → (o ≡ None → ⊥) → IsSome o
has_kind None h = absurd (h refl)
has_kind (Some kind) h = search rules

pub split_has_kind : (job : Job) (pair : Pair) (site at : ℕ) → SplitsAt job pair site at → HasKind job.image site
split_has_kind job pair site at h =
    let l : State = state_after job.image job.stops (left_start job pair) (at - 1) in
    let r : State = state_after job.image job.stops (right_start job pair) (at - 1) in
    let left : (step job.image job.stops l).seen ≡ Some h.left = record_at job.image job.stops (left_start job pair) job.bound (at - 1) h.left h.first.left_record in
    let right : (step job.image job.stops r).seen ≡ Some h.right = record_at job.image job.stops (right_start job pair) job.bound (at - 1) h.right h.first.right_record in
    let one_pc : h.left.pc ≡ h.right.pc =
    FirstSplit-one_pc job.image job.stops (left_start job pair) (right_start job pair) job.bound at h.left h.right (starts_aligned job pair.shared pair.left pair.shared pair.right) h.first in
    let left_pc : h.left.pc ≡ l.pc = seen_pc job.image job.stops l h.left left in
    let right_pc : h.right.pc ≡ r.pc = seen_pc job.image job.stops r h.right right in
    let here : site ≡ l.pc = sym h.at_site ∙ left_pc in
    has_kind _ (λ none. h.first.differ (some_same h.left h.right
    (sym left
    ∙ step_alike job.image job.stops l r (seen_live job.image job.stops l h.left left) (seen_live job.image job.stops r h.right right)
    (sym left_pc ∙ one_pc ∙ right_pc) (sym (ap (λ pc. option_and_then kind_of (instruction_at job.image pc)) here) ∙ none)
    ∙ right)))

pub sites_have_kinds : (job : Job) (sites : List Found) → AreTrueSites job sites → SitesHaveKinds job sites
sites_have_kinds job sites each = All-weaker _ _ (λ found splits. split_has_kind job found.pair found.site found.step splits) sites each

-- Where two runs start.
use Rattle.std.proofs.Common.{◌≡◌, ℕ, suc, zero, ◌+◌, ◌*◌, ◌^◌, ◌<◌, ◌≤◌, ◌==◌, ◌&&◌, if◌then◌else◌, Bool, true, false, cond, eqb, List, [], ◌∷◌, length, get_or, map, fold, take, drop, replicate, Some, None, refl, sym, ◌∙◌, ap, subst, inl, inr, arith, slice_index, slice_set, length-set}
use Rattle.std.specs.Prelude.{slice_get, unwrap_or, IsTrue}
use Rattle.std.specs.Option.{option_map_or, option_map}
use Rattle.std.specs.List.{list_all}
use Rattle.ct_pairs.specs.Inputs.{is_place}
use Rattle.std.proofs.lemmas.Bool.{cases_lt}
use Rattle.std.proofs.lemmas.Bool.Decides.{eqb_tells}
use Rattle.std.proofs.lemmas.List.{same_lists, get_or-map, get_or-set_same, get_or-set_other, get_or-take, get_or_past, get_or_default, get_or-replicate, length-map, length-take, length-replicate, map-set, take_all, at_drop_more, at_drop_all}
use Rattle.std.proofs.lemmas.List.Elements.{All-nil, All-replicate, All-set, All-weaker}
use Rattle.rv_image.specs.Cell.{Cell}
use Rattle.rv_image.specs.Image.{IsImage, cell_at, loaded_at, bytes_of}
use Rattle.rv_machine.specs.State.{State}
use Rattle.bv_expr.specs.declared.q_node.QNode.{QNode}
use Rattle.bv_expr.specs.declared.q_node.QNode.TheVariants.{Input}
use Rattle.bv_expr.specs.declared.expr_id.ExprId.{ExprId}
use Rattle.bv_expr.specs.Nodes.{IsValuation, HasWidth}
use Rattle.bv_expr.specs.Growth.{Extends, AddsNoInput}
use Rattle.rel_store.specs.declared.rel_value.RelValue.{RelValue}
use Rattle.rel_store.specs.declared.rel_value.RelValue.TheVariants.{Same}
use Rattle.rel_store.specs.Sides.{side_id, HasSides}
use Rattle.rel_memory.specs.Contents.{Contents, IsMemory, HasNumbersOnly, byte_in, kept_at, after_write}
use Rattle.ct_pairs.specs.declared.input_byte.InputByte.{InputByte}
use Rattle.ct_pairs.specs.declared.job.Job.{Job}
use Rattle.ct_pairs.specs.Paths.{nexts}
use Rattle.ct_pairs.specs.Start.{placed, all_placed, unplaced}
use Rattle.ct_pairs.proofs.TrailLemmas.{trail-none, state_after-none}
use Rattle.rel_step.specs.declared.here.Here.{Here}
use Rattle.rel_step.specs.Bridge.{variable_of, side_inputs, side_start, RunsAlong}
use Rattle.rel_step.specs.Runs.{state_of}
use Rattle.rel_step.specs.Following.{bytes_in}
use Rattle.rel_step.specs.PathNodes.{AreVariablesBelow, IsNode}
use Rattle.rel_step.specs.Placing.{IsPlaced, AreSet, IsStarted}
use Rattle.rel_step.proofs.Growing.{HasSides-grows}
use Rattle.rel_step.proofs.ByteLaws.{apart, no_cell}

abbrev made : ℕ → List ℕ → List ℕ → State
made pc rs bs = record { pc = pc; registers = rs; bytes = bs; ending = None }

-- the cell at the address of a cell is that cell
own_cell : (cells : List Cell) → ((i j : ℕ) → i < j → j < length cells → (get_or cells i no_cell).address < (get_or cells j no_cell).address) → (k : ℕ) → k < length cells
    → cell_at cells (get_or cells k no_cell).address ≡ Some (get_or cells k no_cell)
unfolding cell_at
own_cell [] rise k within = absurd (omega arith)
own_cell (first ∷ cells) rise zero within = elim (eqb_tells first.address first.address) [ inl (t1, z) ↦ rw t1 refl | inr (n1, z) ↦ absurd (z refl) ]
own_cell (first ∷ cells) rise (suc k) within =
    let less = rise 0 (suc k) (omega arith) within in
    let inside : k < length cells = omega arith in
    elim (eqb_tells first.address (get_or cells k no_cell).address) [
      | inl (t1, z) ↦ absurd (omega (arith, less, z))
      | inr (n1, z) ↦ rw n1 (own_cell cells (λ i j l w. rise (suc i) (suc j) (omega (arith, l)) (omega (arith, w))) k inside)
    ]

loaded_own : (cells : List Cell) → IsImage cells → (k : ℕ) → k < length cells → unwrap_or (loaded_at cells (get_or cells k no_cell).address) 0 ≡ (get_or cells k no_cell).byte
unfolding loaded_at
loaded_own cells is k within = ap (λ o. unwrap_or (option_map (λ (cell : Cell). cell.byte) o) 0) (own_cell cells (λ i j l w. apart cells i j no_cell is l w) k within)

-- the bytes of a memory in which nothing was put
pub first_bytes : (right : Bool) (v : ℕ → ℕ) (m : Contents) → IsImage m.image → ((at : ℕ) → kept_at m at ≡ None) → m.computed ≡ [] → bytes_in right v m ≡ bytes_of m.image
unfolding byte_in bytes_of
first_bytes right v m is none empty =
    same_lists (bytes_in right v m) (map (λ (cell : Cell). cell.byte) m.image) (length-map m.image _ ∙ sym (length-map m.image _)) each
  where
    byte_is : (at : ℕ) → byte_in right v m at ≡ unwrap_or (loaded_at m.image at) 0
    byte_is at =
        ap (λ o. fold (after_write right v at) (option_map_or (λ kept. v (side_id right kept.held)) o (unwrap_or (loaded_at m.image at) 0)) (drop (option_map_or (λ kept. kept.before) o 0) m.computed)) (none at)
        ∙ ap (λ xs. fold (after_write right v at) (unwrap_or (loaded_at m.image at) 0) (drop 0 xs)) empty

    each : (k d : ℕ) → k < length (bytes_in right v m) → get_or (bytes_in right v m) k d ≡ get_or (map (λ (cell : Cell). cell.byte) m.image) k d
    each k d below =
        let within : k < length m.image = omega (arith, below, length-map m.image (λ (cell : Cell). byte_in right v m cell.address)) in
        get_or-map (λ (cell : Cell). byte_in right v m cell.address) m.image k no_cell d within
        ∙ byte_is (get_or m.image k no_cell).address
        ∙ loaded_own m.image is k within
        ∙ sym (get_or-map (λ (cell : Cell). cell.byte) m.image k no_cell d within)

-- registers
module _ (nodes : List QNode) (registers : List RelValue) (f g : ℕ → ℕ) where
  pub AreSet-same : ((k : ℕ) → f k ≡ g k) → AreSet nodes f registers → AreSet nodes g registers
  AreSet-same e h = record { count = h.count; words = h.words; are = λ right env v is k. h.are right env v is k ∙ e k }

pub AreSet-zero : (nodes : List QNode) (registers : List RelValue) (zero_id : ExprId) (values : List ℕ) → registers ≡ replicate 32 (Same zero_id) → HasWidth nodes zero_id.0 32 → ((env v : ℕ → ℕ) → IsValuation env v nodes → v zero_id.0 ≡ 0)
    → slice_index values 0 ≡ 0 → AreSet nodes (slice_index (take 1 values)) registers
AreSet-zero nodes registers zero_id values same width is z = subst (λ (rs : List RelValue). AreSet nodes (slice_index (take 1 values)) rs) (sym same) (record {
  count = length-replicate 32 (Same zero_id);
  words = All-replicate (HasSides nodes 32) 32 (Same zero_id) (λ right. width);
  are = λ right env v at k. all_zero right env v at k ∙ sym (first_zero k);
})
  where
    first_zero : (k : ℕ) → slice_index (take 1 values) k ≡ 0
    first_zero k = elim (cases_lt k 1) [
      | inl less ↦ (let e : k ≡ 0 = omega arith in ap (slice_index (take 1 values)) e ∙ get_or-take 1 values 0 0 (omega arith) ∙ z)
      | inr past ↦ get_or_past (take 1 values) k 0 (omega (arith, past, length-take 1 values))
    ]

    all_zero : (right : Bool) (env v : ℕ → ℕ) → IsValuation env v nodes → (k : ℕ) → slice_index (map (λ (value : RelValue). v (side_id right value)) (replicate 32 (Same zero_id))) k ≡ 0
    all_zero right env v at k = elim (cases_lt k 32) [
      | inl less ↦ get_or-map (λ (value : RelValue). v (side_id right value)) (replicate 32 (Same zero_id)) k (Same zero_id) 0 (omega (arith, less, length-replicate 32 (Same zero_id))) ∙ ap (λ (value : RelValue). v (side_id right value)) (get_or-replicate 32 k (Same zero_id) (Same zero_id) less) ∙ is env v at
      | inr past ↦ get_or_past (map (λ (value : RelValue). v (side_id right value)) (replicate 32 (Same zero_id))) k 0 (omega (arith, past, length-map (replicate 32 (Same zero_id)) (λ (value : RelValue). v (side_id right value)), length-replicate 32 (Same zero_id)))
    ]

not_zero : (reg : ℕ) → 0 < reg → eqb reg 0 ≡ false
not_zero reg above = elim (eqb_tells reg 0) [ inl (t1, z) ↦ absurd (omega (arith, above, z)) | inr (n1, z) ↦ n1 ]

-- one register more
pub AreSet-more : (old new : List QNode) (registers later : List RelValue) (values : ℕ → ℕ) (reg value : ℕ) (word : ExprId) → Extends old new 1 → 0 < reg → reg < 32 → later ≡ cond (eqb reg 0) registers (slice_set registers reg (Same word)) → HasWidth new word.0 32
    → ((env v : ℕ → ℕ) → IsValuation env v new → v word.0 ≡ value) → AreSet old values registers → AreSet new (λ k. if k == reg then value else values k) later
AreSet-more old new registers later values reg value word grown above below same width is h = subst (λ (rs : List RelValue). AreSet new (λ k. if k == reg then value else values k) rs) (sym (same ∙ ap (λ b. cond b registers (slice_set registers reg (Same word))) (not_zero reg above))) (record {
  count = length-set registers reg (Same word) ∙ h.count;
  words = All-set (HasSides new 32) registers reg (Same word) (λ right. width) (All-weaker (HasSides old 32) (HasSides new 32) (λ r. HasSides-grows old new 1 32 r grown) registers h.words);
  are = each;
})
  where
    each : (right : Bool) (env v : ℕ → ℕ) → IsValuation env v new → (k : ℕ) → slice_index (map (λ (r : RelValue). v (side_id right r)) (slice_set registers reg (Same word))) k ≡ (if k == reg then value else values k)
    each right env v at k =
        let F : RelValue → ℕ = λ r. v (side_id right r) in
        let inside : reg < length (map F registers) = omega (arith, below, h.count, length-map registers F) in
        ap (λ xs. slice_index xs k) (map-set F registers reg (Same word)) ∙ (elim (eqb_tells k reg) [
          | inl (t1, e) ↦ ap (slice_index (slice_set (map F registers) reg (v word.0))) e ∙ get_or-set_same (map F registers) reg (v word.0) 0 inside ∙ is env v at ∙ sym (ap (λ b. if b then value else values k) t1)
          | inr (n1, e) ↦ get_or-set_other (map F registers) reg k (v word.0) 0 e ∙ h.are right env v (grown.values env v at) k ∙ sym (ap (λ b. if b then value else values k) n1)
        ])

-- the first values with one more
pub take_next : (values : List ℕ) (i x : ℕ) → i < length values → slice_index values i ≡ x → (k : ℕ) → (if k == i then x else slice_index (take i values) k) ≡ slice_index (take (i + 1) values) k
take_next values i x within is k = elim (eqb_tells k i) [
  | inl (t1, e) ↦ ap (λ b. if b then x else slice_index (take i values) k) t1 ∙ sym is ∙ ap (slice_index values) (sym e) ∙ sym (get_or-take (i + 1) values k 0 (omega (arith, e)))
  | inr (n1, e) ↦ ap (λ b. if b then x else slice_index (take i values) k) n1 ∙ (elim (cases_lt k i) [
    | inl less ↦ get_or-take i values k 0 less ∙ sym (get_or-take (i + 1) values k 0 (omega (arith, less)))
    | inr past ↦ get_or_past (take i values) k 0 (omega (arith, past, length-take i values)) ∙ sym (get_or_past (take (i + 1) values) k 0 (omega (arith, past, e, length-take (i + 1) values)))
  ])
]

pub take_end : (values : List ℕ) (n : ℕ) → length values ≤ n → (k : ℕ) → slice_index (take n values) k ≡ slice_index values k
take_end values n e k = ap (λ xs. slice_index xs k) (take_all n values e)

-- each input byte of a job has a place
front_true : (a b : Bool) → IsTrue (a && b) → IsTrue a
front_true true b h = refl
front_true false b h = h

back_true : (a b : Bool) → IsTrue (a && b) → IsTrue b
back_true true b h = h
back_true false b h = absurd cc

true_at : (p : InputByte → Bool) (inputs : List InputByte) (i : ℕ) (d : InputByte) → IsTrue (list_all p inputs) → i < length inputs → IsTrue (p (get_or inputs i d))
true_at p [] i d h within = absurd (omega arith)
true_at p (input ∷ inputs) zero d h within = front_true (p input) (list_all p inputs) h
true_at p (input ∷ inputs) (suc i) d h within = true_at p inputs i d (back_true (p input) (list_all p inputs) h) (omega arith)

pub place_at : (job : Job) (image : List Cell) (i : ℕ) (d : InputByte) → image ≡ job.image → i < length job.inputs → IsTrue (is_place image (get_or job.inputs i d).place)
place_at job image i d e within = subst (λ (cells : List Cell). IsTrue (is_place cells (get_or job.inputs i d).place)) (sym e) (true_at (λ input. is_place job.image input.place) job.inputs i d job.limits.are_places within)

-- both runs before any input byte is in its place
no_variables : (nodes old : List QNode) (count : ℕ) → old ≡ [] → AddsNoInput old nodes → AreVariablesBelow count nodes
no_variables nodes old count e h i variable at =
    let was : slice_get [] i ≡ Some (Input variable) = subst (λ (ns : List QNode). slice_get ns i ≡ Some (Input variable)) e (h.at i variable at) in cc

pub IsStarted-first : (job : Job) (old nodes : List QNode) (registers : List RelValue) (memory : Contents) → old ≡ [] → AddsNoInput old nodes → job.entry < 2 ^ 32 → IsImage job.image → AreSet nodes (slice_index (slice_set job.registers 0 0)) registers
    → memory.image ≡ job.image → ((at : ℕ) → kept_at memory at ≡ None) → memory.computed ≡ [] → HasNumbersOnly memory → IsMemory nodes memory
    → IsStarted job 0 nodes (record { pc = job.entry; registers = registers; memory = memory })
unfolding side_start unplaced
IsStarted-first job old nodes registers memory nothing no_input below is set image none empty numbers of_arena = record {
  here = record {
    pc = below;
    count = set.count;
    words = set.words;
    zero_is = λ right env v bytes at. set.are right env v at 0 ∙ get_or-set_same job.registers 0 0 0 (omega (arith, job.limits.register_count));
    memory = of_arena;
  };
  pc = refl;
  image = image;
  numbers = numbers;
  variables = no_variables nodes old (2 * 0) nothing no_input;
  states = λ right env v at. ap (all_placed job.image job.inputs (side_inputs right env 0 job.inputs)) (state_is right env v at);
}
  where
    state_is : (right : Bool) (env v : ℕ → ℕ) → IsValuation env v nodes → made job.entry (map (λ (value : RelValue). v (side_id right value)) registers) (bytes_in right v memory) ≡ made job.entry (slice_set job.registers 0 0) (bytes_of job.image)
    state_is right env v at =
        let F : RelValue → ℕ = λ value. v (side_id right value) in
        let R : List ℕ = slice_set job.registers 0 0 in
        let long : length (map F registers) ≡ length R = length-map registers F ∙ set.count ∙ sym (length-set job.registers 0 0 ∙ job.limits.register_count) in
        let same : map F registers ≡ R = same_lists (map F registers) R long (λ k d within. get_or_default (map F registers) k d 0 within ∙ set.are right env v at k ∙ get_or_default R k 0 d (omega (arith, within, long))) in
        let image_is : IsImage memory.image = subst IsImage (sym image) is in
        ap (λ rs. made job.entry rs (bytes_in right v memory)) same ∙ ap (made job.entry R) (first_bytes right v memory image_is none empty ∙ ap bytes_of image)

-- one input byte more
two_more : (count : ℕ) → 2 * count + 2 ≡ 2 * (count + 1)
two_more count = omega arith

next_input : (image : List Cell) (right : Bool) (env : ℕ → ℕ) (n : ℕ) (input : InputByte) (inputs : List InputByte) (s : State) → all_placed image (input ∷ inputs) (side_inputs right env n (input ∷ inputs)) s ≡ all_placed image inputs (side_inputs right env (n + 2) inputs) (placed image input.place (env (variable_of right n input.secret)) s)
unfolding all_placed side_inputs
next_input image right env n input inputs s = refl

pub IsStarted-more : (job : Job) (count : ℕ) (old mid new : List QNode) (input d : InputByte) (held : RelValue) (before after : Here) → count < length job.inputs → get_or job.inputs count d ≡ input → IsStarted job count old before → Extends old mid 2 → AreVariablesBelow (2 * count + 2) mid
    → ((env v : ℕ → ℕ) → IsValuation env v mid → (right : Bool) → v (side_id right held) ≡ env (variable_of right (2 * count) input.secret)) → IsPlaced mid new before input.place held after → IsStarted job (count + 1) new after
IsStarted-more job count old mid new input d held before after within is h grown below value put = record {
  here = put.here;
  pc = put.pc ∙ h.pc;
  image = put.image ∙ h.image;
  numbers = put.numbers;
  variables = λ i variable at. let least = below i variable (put.no_input.at i variable at) in omega (arith, least);
  states = λ right env v at.
      let was = put.extends.values env v at in
      let rest : List InputByte = drop (count + 1) job.inputs in
      ap (λ n. all_placed job.image rest (side_inputs right env n rest) (state_of right v after)) (sym (two_more count))
      ∙ ap (all_placed job.image rest (side_inputs right env (2 * count + 2) rest)) (put.states right env v at ∙ ap (λ cells. placed cells input.place (v (side_id right held)) (state_of right v before)) h.image ∙ ap (λ x. placed job.image input.place x (state_of right v before)) (value env v was right))
      ∙ sym (next_input job.image right env (2 * count) input rest (state_of right v before))
      ∙ ap (λ one. all_placed job.image (one ∷ rest) (side_inputs right env (2 * count) (one ∷ rest)) (state_of right v before)) (sym is)
      ∙ sym (at_drop_more (λ xs. all_placed job.image xs (side_inputs right env (2 * count) xs) (state_of right v before)) job.inputs count d within)
      ∙ h.states right env v (grown.values env v was);
}

-- all input bytes are in their places
no_more : (image : List Cell) (right : Bool) (env : ℕ → ℕ) (n : ℕ) (s : State) → all_placed image [] (side_inputs right env n []) s ≡ s
unfolding all_placed side_inputs
no_more image right env n s = refl

along_none : (job : Job) (env : ℕ → ℕ) → RunsAlong job env []
along_none job env = record {
  agrees = trail-none job.image job.stops (side_start false job env) ∙ sym (trail-none job.image job.stops (side_start true job env));
  goes = ap nexts (trail-none job.image job.stops (side_start false job env));
}

pub IsNode-first : (job : Job) (nodes : List QNode) (here : Here) → IsStarted job (length job.inputs) nodes here → IsNode job (record { nodes = nodes; here = here; path = []; conjuncts = []; last = None })
IsNode-first job nodes here h = record {
  within = omega arith;
  pc = h.pc;
  here = h.here;
  image = h.image;
  conjuncts = All-nil (λ (id : ExprId). HasWidth nodes id.0 1);
  exact = λ env v bytes is. (λ m. along_none job env, λ runs. All-nil (λ (id : ExprId). v id.0 ≡ 1));
  states = λ right env v bytes is m. state_after-none job.image job.stops (side_start right job env) ∙ sym (h.states right env v is)
      ∙ at_drop_all (λ xs. all_placed job.image xs (side_inputs right env (2 * length job.inputs) xs) (state_of right v here)) job.inputs (length job.inputs) (omega arith)
      ∙ no_more job.image right env (2 * length job.inputs) (state_of right v here);
  variables = h.variables;
  last = tt;
}

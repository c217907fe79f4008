-- What loads read.
use Rattle.std.proofs.Common.{◌≡◌, ℕ, ◌+◌, ◌-◌, ◌*◌, ◌<◌, ◌≤◌, ◌^◌, if◌then◌else◌, Bool, true, false, List, refl, sym, ◌∙◌, ap, subst}
use Rattle.std.proofs.lemmas.Bool.{lt-ltb, le-ltb}
use Rattle.ct_words.specs.Words.{alu_value, extend_value, IsAccessSize}
use Rattle.ct_words.specs.declared.alu_op.AluOp.TheVariants as ops
use Rattle.rv_image.specs.declared.right.Right.TheVariants as rights
use Rattle.rv_image.specs.Image.{allowed_at}
use Rattle.rv_machine.specs.State.{State, register_written}
use Rattle.rv_machine.specs.Step.{wrapped, byte_value}
use Rattle.bv_expr.specs.declared.q_node.QNode.{QNode}
use Rattle.bv_expr.specs.declared.expr_id.ExprId.{ExprId}
use Rattle.bv_expr.specs.Nodes.{AreBytes, IsValuation, HasWidth, joined_bytes}
use Rattle.bv_expr.specs.Growth.{Extends}
use Rattle.bv_passes.specs.Answering.{IsAnswer}
use Rattle.rel_store.specs.Sides.{side_id, HasSides}
use Rattle.rel_store.specs.declared.rel_value.RelValue.{RelValue}
use Rattle.rel_store.specs.declared.rel_value.RelValue.TheVariants.{Same}
use Rattle.rel_store.specs.declared.rel_registers.TheConstants.{REGISTERS}
use Rattle.rel_memory.specs.Contents.{IsAccessible, IsMemory, byte_in}
use Rattle.rel_step.specs.declared.here.Here.{Here}
use Rattle.rel_step.specs.declared.planned.Moved.TheVariants.{Nothing, Register}
use Rattle.rel_step.specs.Runs.{Always, state_of}
use Rattle.rel_step.specs.Accesses.{MayTouch, Reads, byte_of, word_of, given_of, with_loaded, Changes}
use Rattle.rel_step.proofs.Growing.{HasWidth-grows, HasSides-grows}
use Rattle.rel_step.proofs.MemoryBytes.{accessible, all_allowed_at, byte_is}
use Rattle.rel_step.proofs.Addressing.{Fits}
use Rattle.rel_step.proofs.Extending.{extend_signed, extend_unsigned, extend_word, joined_is}

pub Reads-grows : (old new : List QNode) (n : ℕ) (here : Here) (at bytes : ℕ) (word : State → ℕ → ℕ) (value : RelValue) → Extends old new n → Reads old here at bytes word value → Reads new here at bytes word value
Reads-grows old new n here at bytes word value more h right env v b val may = h right env v b (more.values env v val) may

-- there is no byte above those that are loaded
pub reads_none : (nodes : List QNode) (here : Here) (at bytes k : ℕ) (zeros : ExprId) → bytes ≤ k → ((env v : ℕ → ℕ) → IsValuation env v nodes → v zeros.0 ≡ 0) → Reads nodes here at bytes (byte_of here bytes k) (Same zeros)
reads_none nodes here at bytes k zeros le value right env v b val may =
    value env v val ∙ sym (ap (λ t. if t then byte_value here.memory.image (state_of right v here) (wrapped (v at + k)) else 0) (le-ltb k bytes le))

-- a byte that is loaded
pub reads_byte : (mid new : List QNode) (n : ℕ) (here : Here) (at bytes k : ℕ) (address : ExprId) (value : RelValue) → k < bytes → HasWidth new at 32 → Fits new → IsMemory mid here.memory
    → Always mid (λ v. v address.0 ≡ wrapped (v at + k)) → Extends mid new n
    → ((env v : ℕ → ℕ) → AreBytes env → IsValuation env v new → IsAccessible here.memory (v address.0) → (right : Bool) → v (side_id right value) ≡ byte_in right v here.memory (v address.0))
    → Reads new here at bytes (byte_of here bytes k) value
reads_byte mid new n here at bytes k address value lt width fits memory above more reads right env v b val may =
    let e : v address.0 ≡ wrapped (v at + k) = above env v b (more.values env v val) in
    let can : allowed_at rights.Read here.memory.image (wrapped (v at + k)) ≡ true = all_allowed_at (allowed_at rights.Read here.memory.image) bytes (v at) k may lt (fits env v b val at 32 width) in
    let there : allowed_at rights.Read here.memory.image (v address.0) ≡ true = ap (allowed_at rights.Read here.memory.image) e ∙ can in
    reads env v b val (accessible rights.Read here.memory (v address.0) there) right
    ∙ ap (byte_in right v here.memory) e
    ∙ sym (byte_is rights.Read right v here (wrapped (v at + k)) memory.image can)
    ∙ sym (ap (λ t. if t then byte_value here.memory.image (state_of right v here) (wrapped (v at + k)) else 0) (lt-ltb k bytes lt))

joined_at : (v : ℕ → ℕ) (x l0 l1 l2 l3 k0 k1 k2 k3 : ℕ) → l0 ≡ k0 → l1 ≡ k1 → l2 ≡ k2 → l3 ≡ k3 → v x ≡ joined_bytes (v l0) (v l1) (v l2) (v l3) → v x ≡ joined_bytes (v k0) (v k1) (v k2) (v k3)
joined_at v x l0 l1 l2 l3 k0 k1 k2 k3 e0 e1 e2 e3 h =
    h ∙ ap (λ i. joined_bytes (v i) (v l1) (v l2) (v l3)) e0 ∙ ap (λ i. joined_bytes (v k0) (v i) (v l2) (v l3)) e1 ∙ ap (λ i. joined_bytes (v k0) (v k1) (v i) (v l3)) e2 ∙ ap (λ i. joined_bytes (v k0) (v k1) (v k2) (v i)) e3

-- a word of one of the runs, from its bytes
pub record IsJoined (nodes : List QNode) (right : Bool) (b0 b1 b2 b3 : RelValue) (id : ExprId) : Type 0 where
  pub value : (env v : ℕ → ℕ) → IsValuation env v nodes → v id.0 ≡ joined_bytes (v (side_id right b0)) (v (side_id right b1)) (v (side_id right b2)) (v (side_id right b3))

pub joined_side : (nodes : List QNode) (right : Bool) (b0 b1 b2 b3 : RelValue) (id i0 i1 i2 i3 : ExprId) → i0.0 ≡ side_id right b0 → i1.0 ≡ side_id right b1 → i2.0 ≡ side_id right b2 → i3.0 ≡ side_id right b3
    → ((env v : ℕ → ℕ) → IsValuation env v nodes → v id.0 ≡ joined_bytes (v i0.0) (v i1.0) (v i2.0) (v i3.0)) → IsJoined nodes right b0 b1 b2 b3 id
joined_side nodes right b0 b1 b2 b3 id i0 i1 i2 i3 e0 e1 e2 e3 h = record {
  value = λ env v val. joined_at v id.0 i0.0 i1.0 i2.0 i3.0 (side_id right b0) (side_id right b1) (side_id right b2) (side_id right b3) e0 e1 e2 e3 (h env v val);
}

-- a word of both runs, from its sides
pub joined_sides : (mid new : List QNode) (n : ℕ) (b0 b1 b2 b3 word : RelValue) (l r : ExprId) → Extends mid new n → IsJoined mid false b0 b1 b2 b3 l → IsJoined new true b0 b1 b2 b3 r
    → side_id false word ≡ l.0 → side_id true word ≡ r.0
    → (right : Bool) → Always new (λ v. v (side_id right word) ≡ joined_bytes (v (side_id right b0)) (v (side_id right b1)) (v (side_id right b2)) (v (side_id right b3)))
joined_sides mid new n b0 b1 b2 b3 word l r more left right el er false env v b val = ap v el ∙ left.value env v (more.values env v val)
joined_sides mid new n b0 b1 b2 b3 word l r more left right el er true env v b val = ap v er ∙ right.value env v val

-- a byte of a word that is loaded
pub record IsRead (nodes : List QNode) (here : Here) (at bytes k : ℕ) (byte : RelValue) : Type 0 where
  pub wide : HasSides nodes 8 byte
  pub reads : Reads nodes here at bytes (byte_of here bytes k) byte

IsRead-grows : (old new : List QNode) (n : ℕ) (here : Here) (at bytes k : ℕ) (byte : RelValue) → Extends old new n → IsRead old here at bytes k byte → IsRead new here at bytes k byte
IsRead-grows old new n here at bytes k byte more is = record {
  wide = HasSides-grows old new n 8 byte more is.wide;
  reads = Reads-grows old new n here at bytes (byte_of here bytes k) byte more is.reads;
}

-- the bytes of a word that is loaded
record AreRead (nodes : List QNode) (here : Here) (at bytes : ℕ) (b0 b1 b2 b3 : RelValue) : Type 0 where
  pub byte0 : IsRead nodes here at bytes 0 b0
  pub byte1 : IsRead nodes here at bytes 1 b1
  pub byte2 : IsRead nodes here at bytes 2 b2
  pub byte3 : IsRead nodes here at bytes 3 b3

AreRead-grows : (old new : List QNode) (n : ℕ) (here : Here) (at bytes : ℕ) (b0 b1 b2 b3 : RelValue) → Extends old new n → AreRead old here at bytes b0 b1 b2 b3 → AreRead new here at bytes b0 b1 b2 b3
AreRead-grows old new n here at bytes b0 b1 b2 b3 more are = record {
  byte0 = IsRead-grows old new n here at bytes 0 b0 more are.byte0;
  byte1 = IsRead-grows old new n here at bytes 1 b1 more are.byte1;
  byte2 = IsRead-grows old new n here at bytes 2 b2 more are.byte2;
  byte3 = IsRead-grows old new n here at bytes 3 b3 more are.byte3;
}

-- four bytes that are read one after another
all_read : (a b c d : List QNode) (m n o : ℕ) (here : Here) (at bytes : ℕ) (b0 b1 b2 b3 : RelValue) → Extends a b m → Extends b c n → Extends c d o
    → IsRead a here at bytes 0 b0 → IsRead b here at bytes 1 b1 → IsRead c here at bytes 2 b2 → IsRead d here at bytes 3 b3 → AreRead d here at bytes b0 b1 b2 b3
all_read a b c d m n o here at bytes b0 b1 b2 b3 first second third h0 h1 h2 h3 = record {
  byte0 = IsRead-grows c d o here at bytes 0 b0 third (IsRead-grows b c n here at bytes 0 b0 second (IsRead-grows a b m here at bytes 0 b0 first h0));
  byte1 = IsRead-grows c d o here at bytes 1 b1 third (IsRead-grows b c n here at bytes 1 b1 second h1);
  byte2 = IsRead-grows c d o here at bytes 2 b2 third h2;
  byte3 = h3;
}

-- a word that is loaded, which has no bits above its bytes
pub record IsWordRead (nodes : List QNode) (here : Here) (at bytes : ℕ) (word : RelValue) : Type 0 where
  pub reads : Reads nodes here at bytes (word_of here bytes) word
  pub small : (right : Bool) → Always nodes (λ v. MayTouch rights.Read here (v at) bytes → v (side_id right word) < 2 ^ (8 * bytes))

word_read : (nodes : List QNode) (here : Here) (at bytes : ℕ) (b0 b1 b2 b3 word : RelValue) → IsAccessSize bytes → HasWidth nodes at 32 → Fits nodes → AreRead nodes here at bytes b0 b1 b2 b3
    → ((right : Bool) → Always nodes (λ v. v (side_id right word) ≡ joined_bytes (v (side_id right b0)) (v (side_id right b1)) (v (side_id right b2)) (v (side_id right b3)))) → IsWordRead nodes here at bytes word
word_read nodes here at bytes b0 b1 b2 b3 word size width fits are joins = record {
  reads = λ right env v b val may. (both right env v b val may).0;
  small = λ right env v b val may. (both right env v b val may).1;
}
  where
    both : (right : Bool) → Always nodes (λ v. MayTouch rights.Read here (v at) bytes → (v (side_id right word) ≡ word_of here bytes (state_of right v here) (v at)) × (v (side_id right word) < 2 ^ (8 * bytes)))
    both right env v b val may =
        let is = joined_is here (state_of right v here) bytes (v at) (v (side_id right b0)) (v (side_id right b1)) (v (side_id right b2)) (v (side_id right b3)) size (fits env v b val at 32 width)
        (fits env v b val (side_id right b0) 8 (are.byte0.wide right)) (fits env v b val (side_id right b1) 8 (are.byte1.wide right)) (fits env v b val (side_id right b2) 8 (are.byte2.wide right)) (fits env v b val (side_id right b3) 8 (are.byte3.wide right))
        (are.byte0.reads right env v b val may) (are.byte1.reads right env v b val may) (are.byte2.reads right env v b val may) (are.byte3.reads right env v b val may) in
        let e = joins right env v b val in
        let P : ℕ → Type 0 = λ x. x < 2 ^ (8 * bytes) in
        (e ∙ is.0, subst P (sym e) is.1)

-- a word that is loaded byte by byte
pub bytes_read : (o a b c d new : List QNode) (j k l m n : ℕ) (here : Here) (at bytes : ℕ) (b0 b1 b2 b3 word : RelValue) → IsAccessSize bytes → HasWidth o at 32
    → Extends o a j → Extends a b k → Extends b c l → Extends c d m → Extends d new n → Fits new
    → IsRead a here at bytes 0 b0 → IsRead b here at bytes 1 b1 → IsRead c here at bytes 2 b2 → IsRead d here at bytes 3 b3
    → ((right : Bool) → Always new (λ v. v (side_id right word) ≡ joined_bytes (v (side_id right b0)) (v (side_id right b1)) (v (side_id right b2)) (v (side_id right b3)))) → IsWordRead new here at bytes word
bytes_read o a b c d new j k l m n here at bytes b0 b1 b2 b3 word size width first second third fourth fifth fits h0 h1 h2 h3 joins =
    let wide = HasWidth-grows d new n at 32 fifth (HasWidth-grows c d m at 32 fourth (HasWidth-grows b c l at 32 third (HasWidth-grows a b k at 32 second (HasWidth-grows o a j at 32 first width)))) in
    word_read new here at bytes b0 b1 b2 b3 word size wide fits (AreRead-grows d new n here at bytes b0 b1 b2 b3 fifth (all_read a b c d k l m here at bytes b0 b1 b2 b3 second third fourth h0 h1 h2 h3)) joins

-- two shifts in both runs
pub shifted_is : (a b c : List QNode) (m n : ℕ) (above : ℕ) (by : ExprId) (word high given : RelValue) → Extends a b m → Extends b c n → ((env v : ℕ → ℕ) → IsValuation env v a → v by.0 ≡ above)
    → ((env v : ℕ → ℕ) → IsValuation env v b → (right : Bool) → v (side_id right high) ≡ alu_value ops.Sll (v (side_id right word)) (v by.0))
    → ((env v : ℕ → ℕ) → IsValuation env v c → (right : Bool) → v (side_id right given) ≡ alu_value ops.Sra (v (side_id right high)) (v by.0))
    → (right : Bool) → Always c (λ v. v (side_id right given) ≡ alu_value ops.Sra (alu_value ops.Sll (v (side_id right word)) above) above)
shifted_is a b c m n above by word high given first second number up down right env v bytes val =
    let mid = second.values env v val in
    let e = number env v (first.values env v mid) in
    down env v val right ∙ ap (λ x. alu_value ops.Sra (v (side_id right high)) x) e
    ∙ ap (λ x. alu_value ops.Sra x above) (up env v mid right ∙ ap (λ x. alu_value ops.Sll (v (side_id right word)) x) e)

-- the extension in both runs

pub extended_signed : (nodes : List QNode) (word given : RelValue) (bytes above : ℕ) (way : Bool) → IsAccessSize bytes → (bytes ≡ 4 → ⊥) → above ≡ 32 - 8 * bytes → way ≡ true
    → ((right : Bool) → Always nodes (λ v. v (side_id right given) ≡ alu_value ops.Sra (alu_value ops.Sll (v (side_id right word)) above) above))
    → (right : Bool) → Always nodes (λ v. v (side_id right word) < 2 ^ (8 * bytes) → v (side_id right given) ≡ extend_value (v (side_id right word)) bytes way)
extended_signed nodes word given bytes above way size n a e h right env v b val small =
    h right env v b val ∙ extend_signed bytes above (v (side_id right word)) size n a small ∙ ap (extend_value (v (side_id right word)) bytes) (sym e)

pub extended_unsigned : (nodes : List QNode) (word : RelValue) (bytes : ℕ) (way : Bool) → IsAccessSize bytes → way ≡ false
    → (right : Bool) → Always nodes (λ v. v (side_id right word) < 2 ^ (8 * bytes) → v (side_id right word) ≡ extend_value (v (side_id right word)) bytes way)
extended_unsigned nodes word bytes way size e right env v b val small =
    extend_unsigned bytes (v (side_id right word)) size small ∙ ap (extend_value (v (side_id right word)) bytes) (sym e)

pub extended_word : (nodes : List QNode) (word : RelValue) (bytes : ℕ) (way : Bool) → bytes ≡ 4
    → (right : Bool) → Always nodes (λ v. v (side_id right word) < 2 ^ (8 * bytes) → v (side_id right word) ≡ extend_value (v (side_id right word)) bytes way)
extended_word nodes word bytes way e right env v b val small = extend_word bytes (v (side_id right word)) way e small

-- what a load gives: the bytes, extended, simplified
pub loaded_is : (a b c : List QNode) (m n : ℕ) (here : Here) (at bytes : ℕ) (way : Bool) (word given simple : RelValue) → Extends a b m → Extends b c n → Reads a here at bytes (word_of here bytes) word
    → ((right : Bool) → Always a (λ v. MayTouch rights.Read here (v at) bytes → v (side_id right word) < 2 ^ (8 * bytes)))
    → ((right : Bool) → Always b (λ v. v (side_id right word) < 2 ^ (8 * bytes) → v (side_id right given) ≡ extend_value (v (side_id right word)) bytes way))
    → ((right : Bool) → IsAnswer b c (side_id right given) (side_id right simple)) → Reads c here at bytes (given_of here bytes way) simple
loaded_is a b c m n here at bytes way word given simple first second reads small extends answer right env v bs val may =
    let mid = second.values env v val in
    let old = first.values env v mid in
    (answer right).value env v bs val ∙ extends right env v bs mid (small right env v bs old may) ∙ ap (λ x. extend_value x bytes way) (reads right env v bs old may)

pub puts_none : (nodes : List QNode) (here : Here) (rd at bytes : ℕ) (way : Bool) → rd ≡ 0 → Changes nodes here rights.Read at bytes (with_loaded here rd bytes way) Nothing
puts_none nodes here rd at bytes way e = record {
  parts = tt;
  states = λ right env v b val may. let P : ℕ → Type 0 = λ r. state_of right v here ≡ register_written (state_of right v here) r (given_of here bytes way (state_of right v here) (v at)) in subst P (sym e) refl;
}

pub puts_loaded : (nodes : List QNode) (here : Here) (rd at bytes : ℕ) (way : Bool) (given : RelValue) → rd < REGISTERS → HasSides nodes 32 given → Reads nodes here at bytes (given_of here bytes way) given
    → Changes nodes here rights.Read at bytes (with_loaded here rd bytes way) (Register rd given)
puts_loaded nodes here rd at bytes way given below has reads = record {
  parts = (below, has);
  states = λ right env v b val may. ap (register_written (state_of right v here) rd) (reads right env v b val may);
}

-- The rules for the job of one secret byte.
use Rattle.std.specs.Prelude.{ℕ, ◌≡◌, if◌then◌else◌, [], Option, Some, None}
use Rattle.elf_load.specs.declared.elf.Elf.{Elf}
use Rattle.elf_load.specs.Symbols.{symbol_value}
use Rattle.rv_image.specs.Loading.{cells_of}
use Rattle.ct_pairs.specs.declared.entry.Entry.{Entry}
use Rattle.ct_pairs.specs.declared.entry.Entry.TheVariants.{Number, Name}
use Rattle.ct_pairs.specs.declared.job.Job.{Job}
use Rattle.ct_pairs.specs.ByteJob.{IsByteJob}
use Rattle.ct_policy.specs.Starting.{can_fetch}
use Rattle.ct_document.specs.declared.refusal.PolicyRefusal.{PolicyRefusal}
use Rattle.ct_document.specs.declared.refusal.PolicyRefusal.TheVariants as refused

-- the address of an entry
unfoldable pub entry_address : Elf → Entry → Option ℕ
entry_address elf (Number address) = Some address
entry_address elf (Name name) = symbol_value elf name

-- a name has to name a symbol, and an instruction has to be fetched at the address
abbrev pub address_refusal : Elf → Option ℕ → Option PolicyRefusal
address_refusal elf None = Some refused.NoSymbol
address_refusal elf (Some address) = if can_fetch elf [] address then None else Some refused.Entry

-- the first of the two that fails
unfoldable pub byte_refusal : Elf → Entry → Option PolicyRefusal
byte_refusal elf entry = address_refusal elf (entry_address elf entry)

-- the job of one secret byte at the address of an entry
pub record IsByteJobAt (elf : Elf) (entry : Entry) (bound : ℕ) (job : Job) : Type 0 where
  pub address : ℕ
  pub is_address : entry_address elf entry ≡ Some address
  pub meets : byte_refusal elf entry ≡ None
  pub job_is : IsByteJob job (cells_of elf []) address bound

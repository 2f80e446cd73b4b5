-- What a link leaves in the block that was lent to it.
use Rattle.std.specs.Prelude.{◌≡◌, ◌⊎◌, ℕ, ◌<◌, List, slice_index, Vec, Result, Ok, Err, Option}
use Rattle.std.specs.declared.alloc.Global.{Global}
use Rattle.ap_fields.specs.declared.sizes.TheConstants.{BLOCK}
use Rattle.ap_files.specs.Files.{FileMap}
use Rattle.ap_claims.specs.Blocks.{BlockState}
use Rattle.ap_claims.specs.Files.{owners_at}
use Rattle.ap_check.specs.declared.options.Options.{Options}
use Rattle.ap_link.specs.declared.end.LinkEnd.{LinkEnd}
use Rattle.ap_link.specs.declared.end.LinkEnd.TheVariants as end
use Rattle.ap_link.specs.declared.fault.LinkFault.{LinkFault}
use Rattle.ap_link.specs.declared.fault.LinkFault.TheVariants as fault
use Rattle.ap_link.specs.LinkedClaims.{linked_claims, linked_of}
use Rattle.ap_link.specs.FileAnswers.{HasInputs}

-- each byte of the block is the linked file's at that place, and its owners are those of the file's claims that have the place
pub record IsLent (options : Options) (a : List ℕ) (b : Option (List ℕ)) (block : BlockState) : Type 0 where
  pub bytes : (k : ℕ) → k < BLOCK → slice_index block.bytes k ≡ slice_index (linked_of options a b) k
  pub owners : (k : ℕ) → k < BLOCK → slice_index block.owners k ≡ owners_at (linked_claims options a b) k

-- of a link in memory: where the inputs break a rule the block is as it was, and where memory ran out it is either
abbrev pub Lends : Options → BlockState → BlockState → List ℕ → Option (List ℕ) → Result (Vec ℕ Global) LinkFault → Type 0
Lends options old new a b (Ok file) = IsLent options a b new
Lends options old new a b (Err (fault.Rule broken)) = new ≡ old
Lends options old new a b (Err fault.NoMemory) = (new ≡ old) ⊎ IsLent options a b new

-- where files are told, the block of the linked file of the inputs
abbrev pub HasLent : Options → Option FileMap → BlockState → List ℕ → Option (List ℕ) → Type 0
HasLent options kept block first second = HasInputs kept first second (λ a b. IsLent options a b block)

-- the same of a link of files, where reading or writing failed
abbrev pub LendsToFiles : Options → Option FileMap → BlockState → BlockState → List ℕ → Option (List ℕ) → Result ℕ LinkEnd → Type 0
LendsToFiles options kept old new first second (Ok size) = HasLent options kept new first second
LendsToFiles options kept old new first second (Err (end.Rule broken)) = new ≡ old
LendsToFiles options kept old new first second (Err end.ReadFault) = (new ≡ old) ⊎ HasLent options kept new first second
LendsToFiles options kept old new first second (Err end.WriteFault) = (new ≡ old) ⊎ HasLent options kept new first second

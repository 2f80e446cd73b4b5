-- A linked file for Windows has the PE headers of its input for x86-64.
use Rattle.std.proofs.Common.{◌≡◌, inl, inr, ℕ, ◌+◌, ◌≤◌, true, cond, List, [], ◌++◌, Option, Some, refl, sym, ap, ◌∙◌, subst}
use Rattle.std.specs.Prelude.{All, IsSomeAnd}
use Rattle.std.specs.Option.{option_map}
use Rattle.ap_fields.specs.Bytes.{Holds}
use Rattle.ap_fields.specs.declared.sizes.TheConstants.{PE_SPAN}
use Rattle.ap_claims.specs.Lists.{Claim, Among}
use Rattle.ap_claims.proofs.Growing.{among-front, holds-front}
use Rattle.ap_elf.specs.declared.types.Entry.{Entry}
use Rattle.ap_elf.specs.declared.machine.Machine.{Machine}
use Rattle.ap_elf.specs.declared.machine.Machine.TheVariants.{X64}
use Rattle.ap_elf.specs.Machines.{granule_of}
use Rattle.ap_check.specs.declared.options.Options.{Options}
use Rattle.ap_check.specs.Options.{for_windows}
use Rattle.ap_check.specs.Inputs.{Taken, Meets, first_start, last_stop}
use Rattle.ap_check.specs.Windows.{x64_of, base_of, MeetsWindows}
use Rattle.ap_layout.specs.Positions.{Positions, PlacedInput, Fits, placed_inputs}
use Rattle.ap_layout.specs.Jobs.{placed_for}
use Rattle.ap_pe.specs.Linked.{program_of, claims_of, windows_claims}
use Rattle.ap_layout.proofs.X64Places.{found-in}
use Rattle.ap_pe.proofs.Programs.{entry-within}
use Rattle.ap_script.specs.Blocks.{block_of}
use Rattle.ap_script.specs.Stands.{MachinesDiffer, IsOneOf}
use Rattle.ap_script.proofs.Claimed.{block-claimed}
use Rattle.ap_script.proofs.InputStatements.{placed_for-input}
use Rattle.ap_link.specs.LinkedIn.{IsLinkedIn}
use Rattle.ap_link.specs.PeImages.{IsPeIn}

-- a claim for Windows stands in a file that begins with the block
held-in : (options : Options) (inputs : List Taken) (l : Positions) (rest : List ℕ) (p : PlacedInput) (c : Claim) → Fits options inputs l → for_windows options ≡ true → placed_for X64 (placed_inputs inputs l) ≡ Some p
    → Among c (claims_of (Some p)) → Holds (block_of options inputs l ++ rest) c.at c.bytes
held-in options inputs l rest p c fits chosen is among =
    let file = block-claimed options inputs l fits in
    let claims : windows_claims options inputs l ≡ claims_of (Some p) =
    ap (λ b. cond b (claims_of (placed_for X64 (placed_inputs inputs l))) []) chosen ∙ ap claims_of is in
    holds-front (block_of options inputs l) rest c.at c.bytes (file.held c (among-front c (windows_claims options inputs l) _ (subst (Among c) (sym claims) among)))

-- the input for x86-64 among the inputs
input-is : (o : Option PlacedInput) (p : PlacedInput) (e : Option Taken) → o ≡ Some p → option_map (λ q. q.input) o ≡ e → IsSomeAnd e MeetsWindows → MeetsWindows p.input
input-is o p e is same h =
    let found : Some p.input ≡ e = ap (option_map (λ (q : PlacedInput). q.input)) (sym is) ∙ same in
    subst (λ (x : Option Taken). IsSomeAnd x MeetsWindows) (sym found) h

-- it is the one for which places are found
x64-is : (options : Options) (inputs : List Taken) (l : Positions) (p : PlacedInput) → MachinesDiffer inputs → Fits options inputs l → IsOneOf p (placed_inputs inputs l) → p.input.machine ≡ X64
    → placed_for X64 (placed_inputs inputs l) ≡ Some p
x64-is options inputs l p differ fits has machine = ap (λ m. placed_for m (placed_inputs inputs l)) (sym machine) ∙ placed_for-input options inputs l p differ fits has

-- it meets what Windows asks, where that was chosen
pub windows-met : (options : Options) (inputs : List Taken) (l : Positions) (p : PlacedInput) → MachinesDiffer inputs → Fits options inputs l → IsOneOf p (placed_inputs inputs l) → for_windows options ≡ true
    → p.input.machine ≡ X64 → MeetsWindows p.input
windows-met options inputs l p differ fits has chosen machine =
    input-is (placed_for X64 (placed_inputs inputs l)) p (x64_of inputs) (x64-is options inputs l p differ fits has machine) (found-in options inputs l fits).1 (fits.windows chosen)

pub pe-in : (options : Options) (inputs : List Taken) (l : Positions) (rest : List ℕ) (p : PlacedInput) (entries : List Entry) (byte : ℕ → ℕ) → All (λ i. Meets i) inputs → MachinesDiffer inputs → Fits options inputs l
    → IsOneOf p (placed_inputs inputs l) → IsLinkedIn p.input entries byte p.areas p.table (block_of options inputs l ++ rest) → for_windows options ≡ true → p.input.machine ≡ X64
    → IsPeIn p.input entries byte p.areas p.table (program_of p.input) (block_of options inputs l ++ rest)
pe-in options inputs l rest p entries byte meets differ fits has linked chosen machine =
    let e : Taken = p.input in
    let is = x64-is options inputs l p differ fits has machine in
    let windows = windows-met options inputs l p differ fits has chosen machine in
    let entry = entry-within e linked.meets windows in
    let claims = claims_of (Some p) in
    record {
      linked = linked;
      machine = machine;
      even = windows.granule;
      room = subst (λ (m : Machine). base_of e + PE_SPAN ≤ first_start (granule_of m) e.loads) machine windows.room;
      span = subst (λ (m : Machine). last_stop (granule_of m) 0 e.loads ≤ base_of e + 2147483648) machine windows.span;
      from = entry.0;
      to = entry.1;
      mark = held-in options inputs l rest p _ fits chosen is (inl refl);
      place = held-in options inputs l rest p _ fits chosen is (inr (inl refl));
      headers = held-in options inputs l rest p _ fits chosen is (inr (inr (inl refl)));
    }

-- A linked file holds the Mach-O header of its input for x86-64 at its place, and the script's `dd` writes it over the file's first
-- bytes.
use Rattle.std.proofs.Common.{◌≡◌, inl, inr, ℕ, ◌+◌, ◌*◌, ◌/◌, ◌^◌, ◌<◌, ◌≤◌, ◌&&◌, nat_le, nat_lt, cond, List, [], ◌∷◌, ◌++◌, length, take, drop, Option, Some, None, true, refl, sym, ap, ◌∙◌, subst, arith, length-append}
use Rattle.std.specs.Prelude.{IfSome}
use Rattle.std.specs.Option.{option_map}
use Rattle.std.proofs.lemmas.Bool.{and_parts, or_cases}
use Rattle.std.proofs.lemmas.Bool.Decides.{nat_tests}
use Rattle.std.proofs.lemmas.Grind.{same_number_lists}
use Rattle.std.proofs.lemmas.List.{length-take-le, length-drop, get_or-take, get_or-drop}
use Rattle.ap_fields.specs.Bytes.{Holds, over}
use Rattle.ap_fields.specs.declared.sizes.TheConstants.{BLOCK}
use Rattle.ap_octal.specs.DdEffect.{dd_effect}
use Rattle.ap_octal.proofs.DdOntoItself.{onto_itself}
use Rattle.ap_claims.specs.Lists.{Claim, Among}
use Rattle.ap_claims.specs.Files.{IsFile}
use Rattle.ap_claims.proofs.Growing.{among-front, among-behind, holds-front}
use Rattle.ap_check.specs.declared.options.Options.{Options}
use Rattle.ap_check.specs.Options.{for_mac}
use Rattle.ap_check.specs.Inputs.{Taken, Meets, AreLoads, can_start, has_address, is_executable}
use Rattle.ap_check.specs.Windows.{x64_of}
use Rattle.ap_check.specs.Mac.{mach_entry_of, MeetsMac}
use Rattle.ap_check.specs.declared.load.Load.{Load}
use Rattle.ap_elf.specs.declared.machine.Machine.TheVariants.{X64}
use Rattle.ap_elf.specs.Machines.{granule_of}
use Rattle.ap_fields.specs.Granules.{ceil_of}
use Rattle.ap_layout.specs.MachPlaces.{mach_input, place_of, length_of}
use Rattle.ap_layout.specs.Positions.{Positions, PlacedInput, Fits, placed_inputs}
use Rattle.ap_layout.specs.Jobs.{placed_for}
use Rattle.ap_layout.proofs.X64Places.{found-in}
use Rattle.ap_pe.specs.Linked.{windows_claims}
use Rattle.ap_mach.specs.Written.{mach_headers}
use Rattle.ap_mach.specs.Linked.{mach_place, header_text, mach_text, header_claims, mac_claims}
use Rattle.ap_mach.proofs.LinkedHeaders.{length-mach_text}
use Rattle.ap_script.specs.Blocks.{block_of}
use Rattle.ap_script.specs.Stands.{MachinesDiffer, IsOneOf}
use Rattle.ap_script.proofs.InputStatements.{placed_for-input}
use Rattle.ap_script.specs.Claims.{table_claims, script_claims, block_claims}
use Rattle.ap_script.proofs.Claimed.{block-claimed}
use Rattle.ap_script.proofs.BlockParts.{length-block}

-- bytes that a file holds are the part of it that stands there
part-held : (w : List ℕ) (at : ℕ) (bytes : List ℕ) → Holds w at bytes → take (length bytes) (drop at w) ≡ bytes
part-held w at bytes h =
    let n : ℕ = length bytes in
    let fits = h.fits in
    let rest = length-drop at w in
    same_number_lists (take n (drop at w)) bytes (length-take-le n (drop at w) (omega arith))
    (λ k low. let long = length-take-le n (drop at w) (omega arith) in get_or-take n (drop at w) k 0 (omega arith) ∙ get_or-drop at w k 0 ∙ h.same k (omega arith))

-- ---- the header in the file

held-header : (o : Option PlacedInput) (at : ℕ) (claims : List Claim) (w : List ℕ) → ((c : Claim) → Among c (header_claims at o) → Among c claims) → IsFile BLOCK claims w → at ≤ BLOCK → Holds w at (header_text o)
held-header None at claims w sub h low = record { fits = (let long = h.len in omega arith); same = λ k none. absurd (omega arith) }
held-header (Some p) at claims w sub h low = h.held _ (sub _ (inl refl))

pub mach-held : (options : Options) (inputs : List Taken) (l : Positions) (rest : List ℕ) → Fits options inputs l → Holds (block_of options inputs l ++ rest) l.mach_at (mach_text options inputs l)
mach-held options inputs l rest fits =
    let inside = fits.mach in
    let mac = mac_claims options inputs l in
    let sub : (c : Claim) → Among c mac → Among c (block_claims options inputs l) =
    λ c among. among-behind c (windows_claims options inputs l) _ (among-behind c (table_claims (placed_inputs inputs l)) _ (among-front c mac (script_claims options inputs l) among)) in
    holds-front (block_of options inputs l) rest l.mach_at (mach_text options inputs l)
    (held-header (mach_place options inputs l) l.mach_at (block_claims options inputs l) (block_of options inputs l) sub (block-claimed options inputs l fits) (omega arith))

-- ---- what `dd` makes of it

-- its place and its length are whole units of eight bytes
whole-place : (o : Option Taken) → place_of o / 8 * 8 ≡ place_of o
whole-place None = refl
whole-place (Some e) = refl

whole-length : (o : Option Taken) → length_of o / 8 * 8 ≡ length_of o
whole-length None = refl
whole-length (Some e) = omega arith

pub dd-moves : (options : Options) (inputs : List Taken) (l : Positions) (rest : List ℕ) → Fits options inputs l
    → dd_effect true 8 (l.mach_at / 8) (l.mach_len / 8) (block_of options inputs l ++ rest) (block_of options inputs l ++ rest) ≡ over (block_of options inputs l ++ rest) (mach_text options inputs l)
dd-moves options inputs l rest fits =
    let file = block_of options inputs l ++ rest in
    let skip : ℕ = l.mach_at / 8 in
    let count : ℕ = l.mach_len / 8 in
    let at : skip * 8 ≡ l.mach_at = ap (λ n. n / 8 * 8) fits.mach_at ∙ whole-place (mach_input options inputs) ∙ sym fits.mach_at in
    let len : count * 8 ≡ l.mach_len = ap (λ n. n / 8 * 8) fits.mach_len ∙ whole-length (mach_input options inputs) ∙ sym fits.mach_len in
    let inside = fits.mach in
    let block = length-block options inputs l fits in
    let whole = length-append (block_of options inputs l) rest in
    onto_itself 8 skip count file (omega arith) (omega arith)
    ∙ ap (λ n. over file (take (count * 8) (drop n file))) at
    ∙ ap (λ n. over file (take n (drop l.mach_at file))) (len ∙ sym (length-mach_text options inputs l fits))
    ∙ ap (over file) (part-held file l.mach_at (mach_text options inputs l) (mach-held options inputs l rest fits))

-- ---- the input whose header it is

-- an address at which a program may start is one
start-low : (g size low a : ℕ) (loads : List Load) → AreLoads g size low loads → can_start a loads ≡ true → a < 2 ^ 64
start-low g size low a [] are h = absurd (cc)
start-low g size low a (p ∷ loads) are h =
    let top = are.0.top in
    elim (or_cases (has_address p a && is_executable p) (can_start a loads) h) [
      | inl here ↦
          (let has = (and_parts (has_address p a) (is_executable p) here).0 in
          let to : a < p.vaddr + p.memsz = grind (arith, nat_tests, (and_parts (nat_le p.vaddr a) (nat_lt a (p.vaddr + p.memsz)) has).1) in
          omega arith)
      | inr later ↦ start-low g size (ceil_of (p.vaddr + p.memsz) g) a loads are.1 later
    ]

-- the input for x86-64 has its places
found-place : (options : Options) (inputs : List Taken) (l : Positions) (p : PlacedInput) → MachinesDiffer inputs → Fits options inputs l → IsOneOf p (placed_inputs inputs l) → for_mac options ≡ true → p.input.machine ≡ X64
    → mach_place options inputs l ≡ Some p
found-place options inputs l p differ fits has chosen machine =
    ap (λ b. cond b (placed_for X64 (placed_inputs inputs l)) None) chosen
    ∙ ap (λ m. placed_for m (placed_inputs inputs l)) (sym machine)
    ∙ placed_for-input options inputs l p differ fits has

pub mach-input-is : (options : Options) (inputs : List Taken) (l : Positions) (p : PlacedInput) → MachinesDiffer inputs → Fits options inputs l → IsOneOf p (placed_inputs inputs l) → for_mac options ≡ true → p.input.machine ≡ X64
    → mach_input options inputs ≡ Some p.input
mach-input-is options inputs l p differ fits has chosen machine =
    ap (λ b. cond b (x64_of inputs) None) chosen
    ∙ sym (found-in options inputs l fits).1
    ∙ ap (λ m. option_map (λ (q : PlacedInput). q.input) (placed_for m (placed_inputs inputs l))) (sym machine)
    ∙ ap (option_map (λ (q : PlacedInput). q.input)) (placed_for-input options inputs l p differ fits has)

pub mach-text-is : (options : Options) (inputs : List Taken) (l : Positions) (p : PlacedInput) → MachinesDiffer inputs → Fits options inputs l → IsOneOf p (placed_inputs inputs l) → for_mac options ≡ true → p.input.machine ≡ X64
    → mach_text options inputs l ≡ mach_headers (mach_entry_of p.input) p.input.loads p.areas
mach-text-is options inputs l p differ fits has chosen machine = ap header_text (found-place options inputs l p differ fits has chosen machine)

input-meets : (o : Option PlacedInput) (p : PlacedInput) (e : Option Taken) → o ≡ Some p → option_map (λ q. q.input) o ≡ e → IfSome e MeetsMac → MeetsMac p.input
input-meets o p e is same h =
    let found : Some p.input ≡ e = ap (option_map (λ (q : PlacedInput). q.input)) (sym is) ∙ same in
    subst (λ (x : Option Taken). IfSome x MeetsMac) (sym found) h

pub mach-entry-low : (options : Options) (inputs : List Taken) (l : Positions) (p : PlacedInput) → Meets p.input → MachinesDiffer inputs → Fits options inputs l → IsOneOf p (placed_inputs inputs l) → for_mac options ≡ true → p.input.machine ≡ X64
    → mach_entry_of p.input < 2 ^ 64
mach-entry-low options inputs l p meets differ fits has chosen machine =
    let e : Taken = p.input in
    let is = ap (λ m. placed_for m (placed_inputs inputs l)) (sym machine) ∙ placed_for-input options inputs l p differ fits has in
    let starts = input-meets (placed_for X64 (placed_inputs inputs l)) p (x64_of inputs) is (found-in options inputs l fits).1 (fits.mac chosen) in
    start-low (granule_of e.machine) e.size 0 (mach_entry_of e) e.loads meets.loads starts

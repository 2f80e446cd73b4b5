-- The input for x86-64 among the inputs with their places.
use Rattle.std.proofs.Common.{◌≡◌, Bool, true, false, cond, List, [], ◌∷◌, Option, Some, refl, sym, ap, ◌∙◌, subst}
use Rattle.std.specs.Prelude.{IfSome}
use Rattle.std.specs.Option.{option_map}
use Rattle.ap_fields.specs.declared.sizes.TheConstants.{BLOCK}
use Rattle.ap_elf.specs.declared.machine.Machine.{Machine}
use Rattle.ap_elf.specs.declared.machine.Machine.TheVariants.{X64}
use Rattle.ap_elf.specs.Machines.{granule_of, is_machine}
use Rattle.ap_elf.proofs.Machines.{is_machine-same}
use Rattle.ap_check.specs.declared.options.Options.{Options}
use Rattle.ap_check.specs.Inputs.{Taken}
use Rattle.ap_check.specs.Windows.{x64_of}
use Rattle.ap_layout.specs.declared.layout.Area.{Area}
use Rattle.ap_layout.specs.Areas.{ServeAll, new_areas}
use Rattle.ap_layout.specs.Positions.{Positions, PlacedInput, Fits, AreServed, placed_inputs, only_inputs, all_areas}
use Rattle.ap_layout.specs.Jobs.{placed_for}

-- what is known of it with its places
pub record IsFound (news : List Area) (p : PlacedInput) : Type 0 where
  pub machine : p.input.machine ≡ X64
  pub served : ServeAll 4096 news p.input.loads p.areas

found-case : (news : List Area) (p : PlacedInput) (o : Option PlacedInput) (b : Bool) → is_machine X64 p.input.machine ≡ b → ServeAll (granule_of p.input.machine) news p.input.loads p.areas → IfSome o (IsFound news)
    → IfSome (cond b (Some p) o) (IsFound news)
found-case news p o true is served rest =
    let machine = sym (is_machine-same X64 p.input.machine is) in
    record { machine = machine; served = subst (λ (m : Machine). ServeAll (granule_of m) news p.input.loads p.areas) machine served }
found-case news p o false is served rest = rest

found : (news : List Area) (ps : List PlacedInput) → AreServed news ps → IfSome (placed_for X64 ps) (IsFound news)
found news [] served = tt
found news (p ∷ ps) served = found-case news p (placed_for X64 ps) (is_machine X64 p.input.machine) refl served.0 (found news ps served.1)

input-case : (p : PlacedInput) (o : Option PlacedInput) (e : Option Taken) (b : Bool) → option_map (λ q. q.input) o ≡ e → option_map (λ q. q.input) (cond b (Some p) o) ≡ cond b (Some p.input) e
input-case p o e true rest = refl
input-case p o e false rest = rest

x64-same : (ps : List PlacedInput) → option_map (λ p. p.input) (placed_for X64 ps) ≡ x64_of (only_inputs ps)
x64-same [] = refl
x64-same (p ∷ ps) = input-case p (placed_for X64 ps) (x64_of (only_inputs ps)) (is_machine X64 p.input.machine) (x64-same ps)

-- where positions fit, it is found among the inputs with their places
pub found-in : (options : Options) (inputs : List Taken) (l : Positions) → Fits options inputs l
    → IfSome (placed_for X64 (placed_inputs inputs l)) (IsFound (new_areas BLOCK (all_areas (placed_inputs inputs l)))) × (option_map (λ p. p.input) (placed_for X64 (placed_inputs inputs l)) ≡ x64_of inputs)
found-in options inputs l fits =
    let ps = placed_inputs inputs l in
    (found (new_areas BLOCK (all_areas ps)) ps fits.areas, x64-same ps ∙ ap x64_of fits.all)

-- A file that begins with a block does what its dispatch table says.
use Rattle.std.proofs.Common.{◌≡◌, ◌≢◌, append_assoc, refl, subst, sym, ◌/◌, List, [], ◌∷◌, ◌++◌, Bool, true, false, codes, arith}
use Rattle.std.specs.Str.{bytes_eq}
use Rattle.ap_check.specs.declared.options.Options.{Options}
use Rattle.ap_check.specs.Options.{for_windows}
use Rattle.ap_check.specs.Inputs.{Taken}
use Rattle.ap_elf.specs.declared.machine.Machine.TheVariants.{X64, A64}
use Rattle.ap_layout.specs.Positions.{Fits, Positions, placed_inputs}
use Rattle.ap_script.specs.Blocks.{block_of, body_of, shell_text}
use Rattle.ap_script.specs.Delimiter.{without_nul}
use Rattle.ap_script.specs.Script.{header_for}
use Rattle.ap_script.proofs.BlockParts.{small-units}
use Rattle.ap_shell.specs.Files.{Text}
use Rattle.ap_shell.specs.Meaning.{shell_meaning}
use Rattle.ap_shell.specs.Runs.{Ends}
use Rattle.ap_shell.specs.declared.types.Env.{Env}
use Rattle.ap_shell.specs.declared.types.Host.{Host}
use Rattle.ap_shparse.specs.Grammar.{IsScript}
use Rattle.ap_shparse.specs.declared.tree.Nul.{Nul}
use Rattle.ap_shparse.specs.declared.tree.Nul.TheVariants as nul
use Rattle.ap_dispatch.specs.Dispatch.{IsReady, dispatch_for}
use Rattle.ap_dispatch.proofs.LinkedText.{items_for, quoted_text, spelled_header, text_script}
use Rattle.ap_dispatch.proofs.ReadOpening.{magic_name}
use Rattle.ap_dispatch.proofs.ReadWords.{short_decimal}
use Rattle.ap_dispatch.proofs.ScriptMeaning.{script_means}
use Rattle.ap_dispatch.proofs.SystemItems.{AreShort}

other_name : (windows debug : Bool) → bytes_eq (magic_name windows debug) (codes "TMPDIR") ≡ false
other_name true debug = refl
other_name false true = refl
other_name false false = refl

short_units : (options : Options) (inputs : List Taken) (l : Positions) → Fits options inputs l → AreShort (l.mach_at / 8) (l.mach_len / 8)
short_units options inputs l fits =
    let units = small-units options inputs l fits in
    record { skipped = short_decimal (l.mach_at / 8) (omega arith); counted = short_decimal (l.mach_len / 8) (omega arith) }

items_mean : (n : Nul) (options : Options) (inputs : List Taken) (l : Positions) (w : Text) (env : Env) (host : Host) → Fits options inputs l → IsReady env host w
    → shell_meaning env (items_for n options inputs l) host ≡ dispatch_for options inputs l w env host
items_mean nul.Keep options inputs l w env host fits ready =
    let ps = placed_inputs inputs l in
    script_means env host w options.systems (header_for X64 ps) (header_for A64 ps) (l.mach_at / 8) (l.mach_len / 8)
    (magic_name (for_windows options) options.debug) (10 ∷ quoted_text options) (body_of options inputs l ++ 10 ∷ [])
    (other_name (for_windows options) options.debug) ready (spelled_header X64 ps) (spelled_header A64 ps) (short_units options inputs l fits)
items_mean nul.Drop options inputs l w env host fits ready =
    let ps = placed_inputs inputs l in
    script_means env host w options.systems (header_for X64 ps) (header_for A64 ps) (l.mach_at / 8) (l.mach_len / 8)
    (magic_name (for_windows options) options.debug) (10 ∷ without_nul (quoted_text options)) (without_nul (body_of options inputs l) ++ 10 ∷ [])
    (other_name (for_windows options) options.debug) ready (spelled_header X64 ps) (spelled_header A64 ps) (short_units options inputs l fits)

-- a block is the text for a shell, and more
block_begins : (options : Options) (inputs : List Taken) (l : Positions) (rest : Text) → (more : Text) × (block_of options inputs l ++ rest ≡ shell_text options inputs l ++ more)
unfolding block_of
block_begins options inputs l rest = (_, append_assoc (shell_text options inputs l) _ rest)

pub linked_ends : (n : Nul) (options : Options) (inputs : List Taken) (l : Positions) (rest : Text) (env : Env) (host : Host) → Fits options inputs l → inputs ≢ []
    → IsReady env host (block_of options inputs l ++ rest)
    → Ends n (block_of options inputs l ++ rest) env host (dispatch_for options inputs l (block_of options inputs l ++ rest) env host).0 (dispatch_for options inputs l (block_of options inputs l ++ rest) env host).1
linked_ends n options inputs l rest env host fits some ready =
    let (more, is) = block_begins options inputs l rest in
    record {
      items = items_for n options inputs l;
      script = subst (λ t. IsScript n t (items_for n options inputs l)) (sym is) (text_script n options inputs l more fits some);
      meaning = items_mean n options inputs l (block_of options inputs l ++ rest) env host fits ready;
    }

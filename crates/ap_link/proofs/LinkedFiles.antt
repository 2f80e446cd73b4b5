-- A linked file carries each of its inputs.
use Rattle.std.proofs.Common.{◌≡◌, ◌≢◌, inl, inr, ℕ, zero, suc, ◌+◌, ◌^◌, ◌<◌, ◌≤◌, true, cond, not, ◌==◌, List, [], ◌∷◌, ◌++◌, length, All, IfSome, refl, sym, ap, ◌∙◌, subst, arith, append_assoc, append-nil, length-append, Option, Some, None, Result, Ok, Err}
use Rattle.std.proofs.lemmas.Bool.Decides.{nat_tests}
use Rattle.ap_fields.specs.Bytes.{Holds, over}
use Rattle.ap_fields.specs.Readings.{Cell, MemoryImage, bytes_in}
use Rattle.ap_fields.specs.declared.sizes.TheConstants.{BLOCK}
use Rattle.ap_claims.specs.Files.{IsFile}
use Rattle.ap_claims.proofs.OneFile.{claims-agree, files-made}
use Rattle.ap_elf.specs.declared.types.Entry.{Entry}
use Rattle.ap_elf.specs.declared.fault.ElfFault.{ElfFault}
use Rattle.ap_elf.specs.Fields.{header_of, entries_of, loads_in}
use Rattle.ap_fields.specs.FirstFault.{Rules, first_fault}
use Rattle.ap_fields.proofs.FirstFaults.{append-none}
use Rattle.ap_check.specs.declared.fault.Fault.{Fault}
use Rattle.ap_check.specs.declared.options.Options.{Options}
use Rattle.ap_check.specs.Options.{for_windows}
use Rattle.ap_check.specs.Rules.{fault_of, rules_of}
use Rattle.ap_check.specs.Windows.{windows_rules, AreReady}
use Rattle.ap_check.specs.Mac.{mach_entry_of, mac_rules, system_rules, AreForMac}
use Rattle.ap_check.specs.Both.{machines_rules, x64_bytes, first_fault_of_both}
use Rattle.ap_check.proofs.Laws.{input_meets}
use Rattle.ap_check.proofs.Pairs.{pair-says}
use Rattle.ap_elf.specs.declared.machine.Machine.TheVariants.{X64}
use Rattle.ap_check.proofs.SystemRules.{systems-ready}
use Rattle.ap_elf.specs.Machines.{granule_of, number_of}
use Rattle.ap_check.specs.Inputs.{Taken, Meets, input_of, taken_of, loads_of, inputs_of}
use Rattle.ap_loader.specs.Embedded.{has_magic, taken}
use Rattle.ap_loader.specs.ApeReading.{as_ape, reading_over, reading_by, ape_reading}
use Rattle.ap_loader.specs.declared.fault.ApeFault.TheVariants.{NoMagic}
use Rattle.ap_elf.specs.ElfReading.{elf_reading}
use Rattle.ap_assim.specs.Assimilated.{BecomesElf, with_header}
use Rattle.ap_assim.specs.declared.fault.AssimFault.TheVariants.{NotApe}
use Rattle.ap_layout.specs.declared.layout.Area.{Area}
use Rattle.ap_layout.specs.Areas.{end_from}
use Rattle.ap_layout.specs.Positions.{Positions, PlacedInput, Fits, positions_of, placed_inputs, no_sharing, shared_with, areas_one, areas_two, end_one, tables_start, table_length}
use Rattle.ap_layout.specs.Twins.{masks_of}
use Rattle.ap_layout.proofs.Rounded.{granule_of-is}
use Rattle.ap_layout.proofs.NewAreas.{end-least}
use Rattle.ap_layout.proofs.HeaderLengths.{pe_length-most}
use Rattle.ap_layout.proofs.Fitting.{positions-fit, second-may, table-most}
use Rattle.ap_layout.proofs.Serving.{nothing-shared}
use Rattle.ap_script.specs.Tables.{embedded_bytes, table_text}
use Rattle.ap_script.specs.Blocks.{block_of, body_of}
use Rattle.ap_script.specs.Stands.{MachinesDiffer, IsOneOf, HasFreeDelimiter, statement_place, script_dd}
use Rattle.ap_script.specs.Claims.{block_claims}
use Rattle.ap_script.proofs.Claimed.{block-claimed}
use Rattle.ap_script.proofs.BlockParts.{length-body, length-block, block-body, block-tables}
use Rattle.ap_script.proofs.DelimiterWords.{free-delimiter}
use Rattle.ap_script.proofs.TableZeros.{body-zeros}
use Rattle.ap_script.proofs.DdStatements.{first-block}
use Rattle.ap_script.proofs.Openings.{parts-holds}
use Rattle.ap_script.proofs.StatementPlaces.{opens-only, parts-block}
use Rattle.ap_script.proofs.InputStatements.{count-places, places-order, header_for-input}
use Rattle.ap_link.specs.Same.{Same, nothing_else}
use Rattle.ap_link.specs.LinkedIn.{HoldAll, IsLinkedIn}
use Rattle.ap_link.specs.PeImages.{IsPeIn}
use Rattle.ap_link.specs.Linked.{text_one, text_two, tail_of, block_for, true_masks, masks_in, second_of, taken_second, linked_text}
use Rattle.ap_link.specs.LinkedClaims.{positions_in, linked_claims, tail_claims, linked_of}
use Rattle.ap_link.specs.Answers.{Carries, IsLinked}
use Rattle.ap_link.proofs.ClaimedFiles.{AreHeld, one-ends, two-ends, whole-claimed}
use Rattle.ap_pe.specs.Linked.{program_of}
use Rattle.ap_link.proofs.LinkedImages.{elf-is-same, ape-is-same}
use Rattle.ap_link.proofs.PeImageProof.{pe-is-same}
use Rattle.ap_link.proofs.PeLinked.{pe-in, windows-met}
use Rattle.ap_link.proofs.LinkedImports.{MeetsImports, MeetImports, imports-carried, meet-imports}
use Rattle.ap_mach.specs.Linked.{mach_text}
use Rattle.ap_mach.specs.MachReading.{mach_reading}
use Rattle.ap_link.proofs.MachImageProof.{mach-is-same}
use Rattle.ap_link.proofs.MachLinked.{dd-moves, mach-input-is, mach-text-is, mach-entry-low}
use Rattle.ap_link.proofs.PlacedTexts.{none-shared, text-held}
use Rattle.ap_link.proofs.TrueMasks.{true-shared}
use Rattle.ap_link.proofs.Dispatching.{script-dispatches}
use Rattle.ap_link.proofs.TakenStatements.{block-magic, taken-block}

-- what is taken of bytes
entry-taken : (n : ℕ) (b : List ℕ) → (input_of n b).entry ≡ (header_of b).e_entry
unfolding input_of taken_of
entry-taken n b = refl

loads-taken : (n : ℕ) (b : List ℕ) → (input_of n b).loads ≡ loads_of (entries_of b)
unfolding input_of taken_of
loads-taken n b = refl

-- one or two inputs that may be linked
pub record AreLinkable (options : Options) (e : Taken) (o : Option Taken) : Type 0 where
  pub ready : AreReady options (inputs_of e o)
  pub mac : AreForMac options (inputs_of e o)
  pub first : Meets e
  pub second : IfSome o (λ f. Meets f)
  pub differ : IfSome o (λ f. e.machine ≢ f.machine)

all-meet : (options : Options) (e : Taken) (o : Option Taken) → AreLinkable options e o → All (λ i. Meets i) (inputs_of e o)
all-meet options e None h zero d low = h.first
all-meet options e None h (suc k) d low = absurd (omega (arith, low))
all-meet options e (Some f) h zero d low = h.first
all-meet options e (Some f) h (suc zero) d low = h.second
all-meet options e (Some f) h (suc (suc k)) d low = absurd (omega (arith, low))

machines-differ : (options : Options) (e : Taken) (o : Option Taken) → AreLinkable options e o → MachinesDiffer (inputs_of e o)
machines-differ options e None h = (λ k d low. absurd (omega (arith, low)), tt)
machines-differ options e (Some f) h = (other, ((λ k d low. absurd (omega (arith, low))), tt))
  where
    other : All (λ i. e.machine ≢ i.machine) (f ∷ [])
    other zero d low = h.differ
    other (suc k) d low = absurd (omega (arith, low))

-- ---- how long a linked file is

abbrev pub total-of : List ℕ → Taken → Option (Taken × List ℕ) → ℕ
total-of masks e None = end_one e
total-of masks e (Some (f, b)) = end_from (end_one e) (areas_two masks e f)

pub linked-length : (masks : List ℕ) (e : Taken) (a : List ℕ) (o : Option (Taken × List ℕ)) (l : Positions) (w : List ℕ) → length w ≡ BLOCK → (l.total ≡ total-of masks e o) → length (w ++ tail_of masks e a o) ≡ l.total
linked-length masks e a None l w long total =
    let one = one-ends e a in
    length-append w (text_one e a) ∙ omega arith
linked-length masks e a (Some (f, b)) l w long total =
    let one = one-ends e a in
    let two = two-ends masks e f b in
    length-append w (text_one e a ++ text_two masks e f b)
    ∙ ap (λ n. length w + n) (length-append (text_one e a) (text_two masks e f b))
    ∙ omega arith

-- the inputs with their bytes, and without
abbrev pub bare-of : Option (Taken × List ℕ) → Option Taken
bare-of None = None
bare-of (Some i) = Some i.0

total-is : (options : Options) (e : Taken) (o : Option (Taken × List ℕ)) (masks : List ℕ) → (positions_of options e (bare-of o) masks).total ≡ total-of masks e o
unfolding positions_of
total-is options e None masks = refl
total-is options e (Some (f, b)) masks = refl

-- the file, by masks: the block, and what stands behind it
abbrev pub file-with : List ℕ → Options → Taken → List ℕ → Option (Taken × List ℕ) → List ℕ
file-with masks options e a o = block_for options e (bare-of o) masks ++ tail_of masks e a o

abbrev pub file-of : Options → Taken → List ℕ → Option (Taken × List ℕ) → List ℕ
file-of options e a o = file-with (true_masks e a o) options e a o

-- its positions
abbrev pub places-of : Options → Taken → List ℕ → Option (Taken × List ℕ) → Positions
places-of options e a o = positions_of options e (bare-of o) (true_masks e a o)

fits-of : (options : Options) (e : Taken) (o : Option Taken) (masks : List ℕ) → AreLinkable options e o → Fits options (inputs_of e o) (positions_of options e o masks)
fits-of options e o masks h = positions-fit options e o masks h.ready h.mac h.first h.second

pub file-length : (options : Options) (e : Taken) (a : List ℕ) (o : Option (Taken × List ℕ)) → AreLinkable options e (bare-of o) → length (file-of options e a o) ≡ (places-of options e a o).total
file-length options e a o h =
    let masks = true_masks e a o in
    let fits = fits-of options e (bare-of o) masks h in
    linked-length masks e a o (positions_of options e (bare-of o) masks) (block_for options e (bare-of o) masks) (length-block options (inputs_of e (bare-of o)) (positions_of options e (bare-of o) masks) fits)
    (total-is options e o masks)

total-small : (options : Options) (e : Taken) (o : Option Taken) (masks : List ℕ) → AreLinkable options e o → (positions_of options e o masks).total < 2 ^ 31
total-small options e o masks h = (fits-of options e o masks h).small

total-past : (options : Options) (e : Taken) (a : List ℕ) (o : Option (Taken × List ℕ)) → AreLinkable options e (bare-of o) → BLOCK ≤ length (file-of options e a o)
total-past options e a o h =
    let masks = true_masks e a o in
    let fits = fits-of options e (bare-of o) masks h in
    let l1 = length-block options (inputs_of e (bare-of o)) (positions_of options e (bare-of o) masks) fits in
    let l2 = length-append (block_for options e (bare-of o) masks) (tail_of masks e a o) in
    omega arith

-- ---- the areas' contents

first-text : (e : Taken) (a w file behind : List ℕ) → length w ≡ BLOCK → file ≡ w ++ (text_one e a ++ behind) → HoldAll (granule_of e.machine) (bytes_in a) file e.loads (areas_one e)
first-text e a w file behind long whole =
    text-held no_sharing 0 (granule_of e.machine) (bytes_in a) file e.loads BLOCK 0 [] w behind (granule_of-is e.machine) (omega arith) long (omega arith)
    (nothing-shared 0 (granule_of e.machine) 0 [] e.loads) (none-shared 0 (granule_of e.machine) (bytes_in a) file e.loads) whole

second-text : (e f : Taken) (a b w file : List ℕ) → length w ≡ BLOCK → file ≡ w ++ (text_one e a ++ text_two (masks_of e (bytes_in a) f (bytes_in b)) e f b) → HoldAll (granule_of e.machine) (bytes_in a) file e.loads (areas_one e)
    → HoldAll (granule_of f.machine) (bytes_in b) file f.loads (areas_two (masks_of e (bytes_in a) f (bytes_in b)) e f)
second-text e f a b w file long whole first =
    let masks : List ℕ = masks_of e (bytes_in a) f (bytes_in b) in
    let t : List ℕ = text_one e a in
    let u : List ℕ = text_two masks e f b in
    let ends = one-ends e a in
    let l = length-append w t in
    let low = end-least BLOCK (areas_one e) in
    text-held (shared_with masks (areas_one e) f) 0 (granule_of f.machine) (bytes_in b) file f.loads (end_one e) (end_one e) _ (w ++ t) [] (granule_of-is f.machine) low (omega arith) (omega arith)
    (second-may masks e f) (true-shared e a f b file f.loads f.loads 0 first refl)
    (whole ∙ ap (λ x. w ++ (t ++ x)) (sym (append-nil u)) ∙ sym (append_assoc w t (u ++ [])))

all-held : (options : Options) (e : Taken) (a : List ℕ) (o : Option (Taken × List ℕ)) → AreLinkable options e (bare-of o) → AreHeld (true_masks e a o) e a o (file-of options e a o)
all-held options e a None h =
    let fits = fits-of options e None [] h in
    let w : List ℕ = block_for options e None [] in
    first-text e a w (w ++ text_one e a) [] (length-block options (inputs_of e None) (positions_of options e None []) fits) (ap (λ x. w ++ x) (sym (append-nil (text_one e a))))
all-held options e a (Some (f, b)) h =
    let masks : List ℕ = masks_of e (bytes_in a) f (bytes_in b) in
    let fits = fits-of options e (Some f) masks h in
    let w : List ℕ = block_for options e (Some f) masks in
    let long = length-block options (inputs_of e (Some f)) (positions_of options e (Some f) masks) fits in
    let file : List ℕ = w ++ (text_one e a ++ text_two masks e f b) in
    let first = first-text e a w file (text_two masks e f b) long refl in
    (first, second-text e f a b w file long refl first)

held-first : (masks : List ℕ) (e : Taken) (a : List ℕ) (o : Option (Taken × List ℕ)) (file : List ℕ) → AreHeld masks e a o file → HoldAll (granule_of e.machine) (bytes_in a) file e.loads (areas_one e)
held-first masks e a None file h = h
held-first masks e a (Some (f, b)) file h = h.0

-- ---- the first input

first-table : (options : Options) (e : Taken) (o : Option Taken) (masks rest : List ℕ) → Fits options (inputs_of e o) (positions_of options e o masks) → Holds (block_for options e o masks ++ rest) (tables_start options (inputs_of e o)) (table_text e (areas_one e))
unfolding positions_of
first-table options e None masks rest fits = (block-tables options (inputs_of e None) (positions_of options e None masks) rest fits).0
first-table options e (Some f) masks rest fits = (block-tables options (inputs_of e (Some f)) (positions_of options e (Some f) masks) rest fits).0

first-linked : (options : Options) (n : ℕ) (a : List ℕ) (o : Option (Taken × List ℕ)) → AreLinkable options (input_of n a) (bare-of o)
    → IsLinkedIn (input_of n a) (entries_of a) (bytes_in a) (areas_one (input_of n a)) (tables_start options (inputs_of (input_of n a) (bare-of o))) (file-of options (input_of n a) a o)
first-linked options n a o h =
    let e : Taken = input_of n a in
    let masks : List ℕ = true_masks e a o in
    let fits = fits-of options e (bare-of o) masks h in
    let most = table-most e h.first in
    let pe = pe_length-most options (inputs_of e (bare-of o)) (all-meet options e (bare-of o) h) in
    let size = file-length options e a o h in
    let small = total-small options e (bare-of o) masks h in
    record {
      meets = h.first;
      loads = loads-taken n a;
      held = held-first masks e a o (file-of options e a o) (all-held options e a o h);
      past = omega arith;
      inside = omega arith;
      table = first-table options e (bare-of o) masks (tail_of masks e a o) fits;
      block = total-past options e a o h;
      small = omega arith;
    }

-- ---- the second

second-table : (options : Options) (e f : Taken) (masks rest : List ℕ) → Fits options (inputs_of e (Some f)) (positions_of options e (Some f) masks)
    → Holds (block_for options e (Some f) masks ++ rest) (tables_start options (inputs_of e (Some f)) + table_length e) (table_text f (areas_two masks e f))
unfolding positions_of
second-table options e f masks rest fits = (block-tables options (inputs_of e (Some f)) (positions_of options e (Some f) masks) rest fits).1.0

second-linked : (options : Options) (n : ℕ) (e : Taken) (a b : List ℕ) → AreLinkable options e (Some (input_of n b))
    → IsLinkedIn (input_of n b) (entries_of b) (bytes_in b) (areas_two (true_masks e a (Some (input_of n b, b))) e (input_of n b)) (tables_start options (inputs_of e (Some (input_of n b))) + table_length e)
    (file-of options e a (Some (input_of n b, b)))
second-linked options n e a b h =
    let f : Taken = input_of n b in
    let masks : List ℕ = true_masks e a (Some (f, b)) in
    let fits = fits-of options e (Some f) masks h in
    let one = table-most e h.first in
    let two = table-most f h.second in
    let pe = pe_length-most options (inputs_of e (Some f)) (all-meet options e (Some f) h) in
    let size = file-length options e a (Some (f, b)) h in
    let small = total-small options e (Some f) masks h in
    record {
      meets = h.second;
      loads = loads-taken n b;
      held = (all-held options e a (Some (f, b)) h).1;
      past = omega arith;
      inside = omega arith;
      table = second-table options e f masks (tail_of masks e a (Some (f, b))) fits;
      block = total-past options e a (Some (f, b)) h;
      small = omega arith;
    }

-- ---- what a file carries of an input

-- the inputs are among those that have places
first-placed : (options : Options) (e : Taken) (o : Option Taken) (masks : List ℕ)
    → IsOneOf (record { input = e; areas = areas_one e; table = tables_start options (inputs_of e o) }) (placed_inputs (inputs_of e o) (positions_of options e o masks))
unfolding positions_of
first-placed options e None masks = inl refl
first-placed options e (Some f) masks = inl refl

second-placed : (options : Options) (e f : Taken) (masks : List ℕ)
    → IsOneOf (record { input = f; areas = areas_two masks e f; table = tables_start options (inputs_of e (Some f)) + table_length e }) (placed_inputs (e ∷ f ∷ []) (positions_of options e (Some f) masks))
unfolding positions_of
second-placed options e f masks = inr (inl refl)

same-as_ape : (g : ℕ) (byte : ℕ → ℕ) (loads : List Entry) (start : ℕ) (Else : ℕ → Option Cell → Type 0) (reading : Result MemoryImage ElfFault) → Same g byte loads start Else reading → Same g byte loads start Else (as_ape reading)
same-as_ape g byte loads start Else (Ok image) h = h
same-as_ape g byte loads start Else (Err fault) h = absurd h

ape-by : (m page place : ℕ) (file header : List ℕ) → has_magic file ≡ true → taken m file ≡ Some (place, header) → ape_reading m page file ≡ as_ape (reading_over m page file header)
ape-by m page place file header magic is =
    ap (λ b. cond b (reading_by m page file (taken m file)) (Err NoMagic)) magic
    ∙ ap (reading_by m page file) is

elf-by : (m place : ℕ) (file header : List ℕ) → has_magic file ≡ true → taken m file ≡ Some (place, header) → BecomesElf m file (Ok (over file header))
elf-by m place file header magic is =
    ap (λ b. cond b (with_header file (taken m file)) (Err NotApe)) magic
    ∙ ap (with_header file) is

carries : (options : Options) (inputs : List Taken) (l : Positions) (rest : List ℕ) (n table : ℕ) (b : List ℕ) (areas : List Area)
    → All (λ i. Meets i) inputs → MachinesDiffer inputs → Fits options inputs l → IsOneOf (record { input = input_of n b; areas = areas; table = table }) (placed_inputs inputs l)
    → IsLinkedIn (input_of n b) (entries_of b) (bytes_in b) areas table (block_of options inputs l ++ rest) → MeetsImports options b (input_of n b)
    → Carries options b (input_of n b) table (statement_place options inputs l (input_of n b).machine) (mach_text options inputs l) (block_of options inputs l ++ rest)
carries options inputs l rest n table b areas meets differ fits has linked imports =
    let e : Taken = input_of n b in
    let file : List ℕ = block_of options inputs l ++ rest in
    let placed : PlacedInput = record { input = e; areas = areas; table = table } in
    let header = header_for-input options inputs l placed differ fits has in
    let within : for_windows options ≡ true → e.machine ≡ X64 → IsPeIn e (entries_of b) (bytes_in b) areas table (program_of e) file =
    pe-in options inputs l rest placed (entries_of b) (bytes_in b) meets differ fits has linked in
    let start = entry-taken n b in
    record {
      text = parts-holds file (statement_place options inputs l e.machine) (embedded_bytes e table) (parts-block options inputs l rest e.machine (embedded_bytes e table) fits header);
      elf_file = elf-by (number_of e.machine) (statement_place options inputs l e.machine) file (embedded_bytes e table) (block-magic options inputs l rest)
          (taken-block options inputs l rest e.machine (embedded_bytes e table) meets fits header);
      elf = λ page is. subst (λ s. Same (granule_of e.machine) (bytes_in b) (loads_in (entries_of b)) s nothing_else (elf_reading (number_of e.machine) page (over file (embedded_bytes e table)))) start
          (elf-is-same e (entries_of b) (bytes_in b) areas table file page linked is);
      ape = λ page is. subst (λ s. Same (granule_of e.machine) (bytes_in b) (loads_in (entries_of b)) s nothing_else (ape_reading (number_of e.machine) page file)) start
          (subst (λ r. Same (granule_of e.machine) (bytes_in b) (loads_in (entries_of b)) e.entry nothing_else r)
          (sym (ape-by (number_of e.machine) page (statement_place options inputs l e.machine) file (embedded_bytes e table) (block-magic options inputs l rest)
          (taken-block options inputs l rest e.machine (embedded_bytes e table) meets fits header)))
          (same-as_ape (granule_of e.machine) (bytes_in b) (loads_in (entries_of b)) e.entry nothing_else (reading_over (number_of e.machine) page file (embedded_bytes e table))
          (ape-is-same e (entries_of b) (bytes_in b) areas table file page linked is)));
      pe = λ chosen machine. pe-is-same e (entries_of b) (bytes_in b) areas table (program_of e) file (within chosen machine);
      imports = λ chosen machine. imports-carried e b areas table file (windows-met options inputs l placed differ fits has chosen machine) (within chosen machine) (imports chosen machine);
      mach_file = λ chosen machine. (
        block-magic options inputs l rest,
        record {
          dd = script_dd l;
          first = first-block options inputs l rest e meets fits (mach-input-is options inputs l placed differ fits has chosen machine);
          effect = sym (dd-moves options inputs l rest fits);
        },
      );
      mach = λ chosen machine. subst (λ h. Same 4096 (bytes_in b) (loads_in (entries_of b)) (mach_entry_of e) nothing_else (mach_reading (over file h)))
          (sym (mach-text-is options inputs l placed differ fits has chosen machine))
          (mach-is-same e (entries_of b) (bytes_in b) areas table (mach_entry_of e) file linked machine
          (mach-entry-low options inputs l placed linked.meets differ fits has chosen machine));
    }

-- ---- the whole

-- no line of the body ends the here-document
body-free : (options : Options) (inputs : List Taken) (l : Positions) → Fits options inputs l → HasFreeDelimiter (body_of options inputs l)
body-free options inputs l fits =
    let long = length-body options inputs l fits in
    let end = fits.body in
    free-delimiter (body_of options inputs l) (omega arith)

claimed-file : (options : Options) (e : Taken) (a : List ℕ) (o : Option (Taken × List ℕ)) → AreLinkable options e (bare-of o)
    → IsFile (places-of options e a o).total (block_claims options (inputs_of e (bare-of o)) (places-of options e a o) ++ tail_claims (true_masks e a o) e a o) (file-of options e a o)
claimed-file options e a o h =
    let masks : List ℕ = true_masks e a o in
    let l : Positions = positions_of options e (bare-of o) masks in
    whole-claimed masks (block_for options e (bare-of o) masks) (block_claims options (inputs_of e (bare-of o)) l) e a o l.total
    (block-claimed options (inputs_of e (bare-of o)) l (fits-of options e (bare-of o) masks h)) (file-length options e a o h) (all-held options e a o h)

-- the areas of a linked file hold the loads' contents
pub held-in : (options : Options) (a : List ℕ) (b : Option (List ℕ)) → AreLinkable options (input_of 1 a) (taken_second b)
    → (file : List ℕ) × AreHeld (masks_in a b) (input_of 1 a) a (second_of b) file
held-in options a None h = (file-of options (input_of 1 a) a None, all-held options (input_of 1 a) a None h)
held-in options a (Some b) h = (file-of options (input_of 1 a) a (Some (input_of 2 b, b)), all-held options (input_of 1 a) a (Some (input_of 2 b, b)) h)

-- the file as it is written is the file of its claims
pub linked-is : (options : Options) (a : List ℕ) (b : Option (List ℕ)) → AreLinkable options (input_of 1 a) (taken_second b)
    → linked_of options a b ≡ block_for options (input_of 1 a) (taken_second b) (masks_in a b) ++ tail_of (masks_in a b) (input_of 1 a) a (second_of b)
unfolding linked_of
linked-is options a None h = sym (files-made (positions_in options a None).total (linked_claims options a None) (file-of options (input_of 1 a) a None) (claimed-file options (input_of 1 a) a None h))
linked-is options a (Some b) h =
    let o : Option (Taken × List ℕ) = Some (input_of 2 b, b) in
    sym (files-made (positions_in options a (Some b)).total (linked_claims options a (Some b)) (file-of options (input_of 1 a) a o) (claimed-file options (input_of 1 a) a o h))

text-linked : (options : Options) (a : List ℕ) (b : Option (List ℕ)) → AreLinkable options (input_of 1 a) (taken_second b) → MeetImports options a b → IsLinked options a b (linked_text options a b)
unfolding linked_text
text-linked options a None h imports =
    let e : Taken = input_of 1 a in
    let l : Positions = positions_of options e None [] in
    let tail : List ℕ = tail_of [] e a None in
    let fits = fits-of options e None [] h in
    let meets = all-meet options e None h in
    let differ = machines-differ options e None h in
    record {
      bytes = sym (linked-is options a None h);
      size = file-length options e a None h;
      body = block-body options (inputs_of e None) l tail;
      zeros = body-zeros options (inputs_of e None) l meets fits;
      delimiter = body-free options (inputs_of e None) l fits;
      order = places-order options (inputs_of e None) l;
      only = λ k. opens-only options (inputs_of e None) l tail k meets fits;
      count = count-places options (inputs_of e None) l differ fits;
      first = carries options (inputs_of e None) l tail 1 (tables_start options (inputs_of e None)) a (areas_one e) meets differ fits (first-placed options e None []) (first-linked options 1 a None h)
          imports.first;
      second = tt;
      script = script-dispatches options e [] l tail fits;
      moved = dd-moves options (inputs_of e None) l tail fits;
      claims = claimed-file options e a None h;
      agree = claims-agree l.total (linked_claims options a None) (linked_text options a None) (claimed-file options e a None h);
    }
text-linked options a (Some b) h imports =
    let e : Taken = input_of 1 a in
    let f : Taken = input_of 2 b in
    let o : Option (Taken × List ℕ) = Some (f, b) in
    let masks : List ℕ = true_masks e a o in
    let l : Positions = positions_of options e (Some f) masks in
    let tail : List ℕ = tail_of masks e a o in
    let fits = fits-of options e (Some f) masks h in
    let meets = all-meet options e (Some f) h in
    let differ = machines-differ options e (Some f) h in
    record {
      bytes = sym (linked-is options a (Some b) h);
      size = file-length options e a o h;
      body = block-body options (inputs_of e (Some f)) l tail;
      zeros = body-zeros options (inputs_of e (Some f)) l meets fits;
      delimiter = body-free options (inputs_of e (Some f)) l fits;
      order = places-order options (inputs_of e (Some f)) l;
      only = λ k. opens-only options (inputs_of e (Some f)) l tail k meets fits;
      count = count-places options (inputs_of e (Some f)) l differ fits;
      first = carries options (inputs_of e (Some f)) l tail 1 (tables_start options (inputs_of e (Some f))) a (areas_one e) meets differ fits
          (first-placed options e (Some f) masks) (first-linked options 1 a o h) imports.first;
      second = carries options (inputs_of e (Some f)) l tail 2 (tables_start options (inputs_of e (Some f)) + table_length e) b (areas_two masks e f) meets differ fits
          (second-placed options e f masks) (second-linked options 2 e a b h) imports.second;
      script = script-dispatches options e (f ∷ []) l tail fits;
      moved = dd-moves options (inputs_of e (Some f)) l tail fits;
      claims = claimed-file options e a o h;
      agree = claims-agree l.total (linked_claims options a (Some b)) (linked_text options a (Some b)) (claimed-file options e a o h);
    }

-- ---- inputs that break no rule

machines-apart : (e f : Taken) → first_fault (machines_rules (number_of e.machine) (number_of f.machine)) ≡ None → e.machine ≢ f.machine
machines-apart e f none same =
    let number : number_of e.machine ≡ number_of f.machine = ap number_of same in
    let test : (number_of e.machine == number_of f.machine) ≡ true = grind (arith, nat_tests) in
    let fails : first_fault (machines_rules (number_of e.machine) (number_of f.machine)) ≡ Some (fault_of 2 23 0 (number_of f.machine)) =
    ap (λ t. cond (not t) None (Some (fault_of 2 23 0 (number_of f.machine)))) test in
    let clash : None ≡ Some (fault_of 2 23 0 (number_of f.machine)) = sym none ∙ fails in
    cc

pub both-linkable : (options : Options) (a : List ℕ) (b : Option (List ℕ)) → first_fault_of_both options a b ≡ None → AreLinkable options (input_of 1 a) (taken_second b)
both-linkable options a None none =
    let e : Taken = input_of 1 a in
    let two = append-none (rules_of 1 a) (system_rules options (e ∷ []) a) none in
    let systems = systems-ready options (e ∷ []) a two.1 in
    record { ready = systems.0; mac = systems.1; first = input_meets 1 a two.0; second = tt; differ = tt }
both-linkable options a (Some b) none =
    let e : Taken = input_of 1 a in
    let f : Taken = input_of 2 b in
    let bytes = x64_bytes e a (Some b) in
    let systems = system_rules options (e ∷ f ∷ []) bytes in
    let together : Rules Fault = machines_rules (header_of a).e_machine (header_of b).e_machine ++ systems in
    let one = append-none (rules_of 1 a) (rules_of 2 b ++ together) none in
    let two = append-none (rules_of 2 b) together one.1 in
    let taken = append-none (machines_rules (number_of e.machine) (number_of f.machine)) systems (sym (pair-says options a (Some b) e (Some f) ((one.0, refl), (two.0, refl))) ∙ none) in
    let ready = systems-ready options (e ∷ f ∷ []) bytes taken.1 in
    record {
      ready = ready.0;
      mac = ready.1;
      first = input_meets 1 a one.0;
      second = input_meets 2 b two.0;
      differ = machines-apart e f taken.0;
    }

-- of which those that Windows asks
windows-pass : (options : Options) (a : List ℕ) (b : Option (List ℕ)) → first_fault_of_both options a b ≡ None
    → first_fault (windows_rules options (inputs_of (input_of 1 a) (taken_second b)) (x64_bytes (input_of 1 a) a b)) ≡ None
windows-pass options a None none =
    let inputs = input_of 1 a ∷ [] in
    (append-none (windows_rules options inputs a) (mac_rules options inputs) (append-none (rules_of 1 a) (system_rules options inputs a) none).1).0
windows-pass options a (Some b) none =
    let inputs = input_of 1 a ∷ input_of 2 b ∷ [] in
    let bytes = x64_bytes (input_of 1 a) a (Some b) in
    let systems = system_rules options inputs bytes in
    let machines = machines_rules (header_of a).e_machine (header_of b).e_machine in
    let one = append-none (rules_of 1 a) (rules_of 2 b ++ (machines ++ systems)) none in
    (append-none (windows_rules options inputs bytes) (mac_rules options inputs)
    (append-none machines systems (append-none (rules_of 2 b) (machines ++ systems) one.1).1).1).0

-- the linked file of such inputs
pub file-linked : (options : Options) (a : List ℕ) (b : Option (List ℕ)) → first_fault_of_both options a b ≡ None → IsLinked options a b (linked_of options a b)
file-linked options a b none =
    let able = both-linkable options a b none in
    let made = text-linked options a b able (meet-imports options a b able.differ (windows-pass options a b none)) in
    subst (IsLinked options a b) made.bytes made

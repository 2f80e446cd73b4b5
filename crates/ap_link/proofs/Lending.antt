-- What a link leaves in the block that was lent to it.
use Rattle.std.proofs.Common.{◌≡◌, ℕ, List, [], ◌∷◌, get_or, inr, Option, Some, None, Err, refl, sym, ap, ◌∙◌, subst}
use Rattle.std.specs.Prelude.{IfSome}
use Rattle.ap_fields.specs.FirstFault.{first_fault}
use Rattle.ap_files.specs.Files.{FileMap, ForFile}
use Rattle.ap_claims.specs.Blocks.{BlockState}
use Rattle.ap_claims.specs.Files.{IsFilled}
use Rattle.ap_check.specs.declared.options.Options.{Options}
use Rattle.ap_check.specs.Inputs.{Taken, input_of, inputs_of}
use Rattle.ap_check.specs.Both.{pair_rules, AreTakenOf}
use Rattle.ap_layout.specs.Positions.{positions_of}
use Rattle.ap_layout.proofs.Fitting.{positions-fit, masks-none}
use Rattle.ap_layout.specs.Twins.{masks_of}
use Rattle.ap_fields.specs.Readings.{bytes_in as byte_in}
use Rattle.ap_script.specs.Claims.{block_claims}
use Rattle.ap_files.specs.declared.failure.FileFault.{FileFault}
use Rattle.ap_files.specs.declared.failure.FileFault.TheVariants.{Read, Write}
use Rattle.ap_link.specs.declared.end.LinkEnd.{LinkEnd}
use Rattle.ap_link.specs.declared.source.Source.{Source}
use Rattle.ap_link.specs.Linked.{tail_of, masks_in, second_of, taken_second}
use Rattle.ap_link.specs.Lent.{IsLent, HasLent, LendsToFiles}
use Rattle.ap_link.specs.Sources.{AreTrueFor, second_name, second_taken, x64_name, IsSource, end_of_fault}
use Rattle.ap_link.proofs.ClaimedFiles.{bytes-lent, owners-lent}
use Rattle.ap_link.proofs.Delivering.{inputs-by, inputs-told, true-as, AreTold, AreTrue, ArePassed, sources-passed}
use Rattle.ap_link.proofs.LinkedFiles.{AreLinkable, both-linkable, held-in, linked-is}

-- the block of the inputs that are taken of some bytes
abbrev IsFilledFor : List ℕ → Options → Taken → Option Taken → BlockState → Type 0
IsFilledFor masks options e o block = IsFilled (block_claims options (inputs_of e o) (positions_of options e o masks)) block

lent-where : (options : Options) (a : List ℕ) (b : Option (List ℕ)) (block : BlockState) → AreLinkable options (input_of 1 a) (taken_second b) → IsFilledFor (masks_in a b) options (input_of 1 a) (taken_second b) block → IsLent options a b block
lent-where options a b block able h =
    let e : Taken = input_of 1 a in
    let o : Option Taken = taken_second b in
    let masks : List ℕ = masks_in a b in
    let fits = positions-fit options e o masks able.ready able.mac able.first able.second in
    let held = held-in options a b able in
    record {
      bytes = λ k low. bytes-lent options (inputs_of e o) (positions_of options e o masks) (tail_of masks e a (second_of b)) block k fits h low ∙ ap (λ w. get_or w k 0) (sym (linked-is options a b able));
      owners = λ k low. owners-lent masks (block_claims options (inputs_of e o) (positions_of options e o masks)) e a (second_of b) held.0 block k held.1 h low;
    }

-- masks that are true of what was taken
masks-as : (masks : List ℕ) (a : List ℕ) (b : Option (List ℕ)) (first : Source) (second : Option Source) (options : Options) (block : BlockState) → first.input.now ≡ input_of 1 a → second_taken second ≡ taken_second b → AreTrue masks first.input.now a second b
    → IsFilledFor masks options first.input.now (second_taken second) block → IsFilledFor (masks_in a b) options (input_of 1 a) (taken_second b) block
masks-as masks a b first second options block same some are filled =
    by b second some are
    (subst (λ t. IsFilledFor masks options (input_of 1 a) t block) some (subst (λ t. IsFilledFor masks options t (second_taken second) block) same filled))
  where
    by : (b : Option (List ℕ)) (second : Option Source) → second_taken second ≡ taken_second b → AreTrue masks first.input.now a second b → IsFilledFor masks options (input_of 1 a) (taken_second b) block
        → IsFilledFor (masks_in a b) options (input_of 1 a) (taken_second b) block
    by None second some are h = subst (λ l. IsFilled (block_claims options (input_of 1 a ∷ []) l) block) (masks-none options (input_of 1 a) masks) h
    by (Some b) None some are h = absurd (cc)
    by (Some b) (Some s) some are h =
        let other : s.input.now ≡ input_of 2 b = cc in
        subst (λ m. IsFilledFor m options (input_of 1 a) (Some (input_of 2 b)) block)
        (are ∙ ap (λ (x : Taken). masks_of x (byte_in a) s.input.now (byte_in b)) same ∙ ap (λ (x : Taken). masks_of (input_of 1 a) (byte_in a) x (byte_in b)) other) h

-- the same where the inputs are files
second-as : (a : List ℕ) (b : Option (List ℕ)) (e : Taken) (o : Option Taken) → AreTakenOf a b e o → (e ≡ input_of 1 a) × (o ≡ taken_second b)
second-as a None e None is = (is.1, refl)
second-as a None e (Some f) is = absurd is
second-as a (Some b) e None is = absurd is
second-as a (Some b) e (Some f) is = (is.0.1, ap Some is.1.1)

pub lent-files : (options : Options) (kept : Option FileMap) (masks : List ℕ) (first : Source) (second : Option Source) (x : Taken) (y : Option Taken) (block : BlockState) → IsSource kept 1 first → IfSome second (λ t. IsSource kept 2 t)
    → ForFile kept (x64_name first second) (λ b. first_fault (pair_rules options first.input.now (second_taken second) b) ≡ None) → x ≡ first.input.now → y ≡ second_taken second → AreTrueFor kept masks first second
    → IsFilledFor masks options x y block → HasLent options kept block first.name.now (second_name second)
lent-files options kept masks first second x y block h k says same some are filled =
    inputs-by (λ a b. ArePassed options first second None a b × AreTold kept first.name.now (second_name second) a b) (λ a b. IsLent options a b block) kept first.name.now (second_name second)
    (λ m a b e t.
    let both = second-as a b first.input.now (second_taken second) t.0.taken in
    lent-where options a b block (both-linkable options a b t.0.fault)
    (masks-as masks a b first second options block both.0 both.1 (true-as kept m masks first second a b e are t.1)
    (subst (λ z. IsFilledFor masks options first.input.now z block) some (subst (λ z. IsFilledFor masks options z y block) same filled))))
    (inputs-told (ArePassed options first second None) kept first.name.now (second_name second) (sources-passed options kept first second None h k says))

-- and where the file wasn't made
pub lent-unmade : (options : Options) (kept : Option FileMap) (old new : BlockState) (first : List ℕ) (second : Option (List ℕ)) (f : FileFault) (e : LinkEnd) → e ≡ end_of_fault f → HasLent options kept new first second
    → LendsToFiles options kept old new first second (Err e)
lent-unmade options kept old new first second f e is h = subst (λ x. LendsToFiles options kept old new first second (Err x)) (sym is) (by f)
  where
    by : (f : FileFault) → LendsToFiles options kept old new first second (Err (end_of_fault f))
    by Read = inr h
    by Write = inr h

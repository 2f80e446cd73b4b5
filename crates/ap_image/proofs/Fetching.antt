-- What is fetched after something else was, or isn't.
use Rattle.std.proofs.Common.{◌≡◌, Some, Result, Ok, Err, sym, ap, ◌∙◌, subst}
use Rattle.std.specs.Prelude.{IsErrAnd}
use Rattle.ap_image.specs.declared.import_step.WalkFault.{WalkFault}
use Rattle.ap_image.specs.declared.import_step.WalkEnd.{WalkEnd}
use Rattle.ap_image.specs.declared.import_step.WalkEnd.TheVariants.{Fault, ReadFault}
use Rattle.ap_image.specs.Cells.{Memory, CellsState, Unreadable}
use Rattle.ap_image.specs.WalkSteps.{Fetches}

pub way_out : {T : Type 0} (P : Result T WalkEnd → Type 0) (result : Result T WalkEnd) (end : WalkEnd) → IsErrAnd result (λ e. e ≡ end) → P (Err end) → P result
way_out P (Ok v) end other h = absurd other
way_out P (Err e) end is h = subst (λ x. P (Err x)) (sym is) h

told-before : (old mid : CellsState) (memory : Memory) → mid ≡ old → old.told ≡ Some memory → mid.told ≡ Some memory
told-before old mid memory e t = ap (λ (s : CellsState). s.told) e ∙ t

-- a failure on the way is one of the whole
pub fetch-fails : {S T : Type 0} (old mid new : CellsState) (part : Memory → Result S WalkFault) (whole : Memory → Result T WalkFault) (e : WalkEnd) → mid ≡ old
    → ((memory : Memory) (f : WalkFault) → old.told ≡ Some memory → part memory ≡ Err f → whole memory ≡ Err f)
    → Fetches mid new part (Err e) → Fetches old new whole (Err e)
fetch-fails old mid new part whole (Fault f) e h r = (r.0 ∙ e, λ m t. h m f t (r.1 m (told-before old mid m e t)))
fetch-fails old mid new part whole ReadFault e h r = subst (λ (s : CellsState). Unreadable s new) e r

-- and a way out by `?`
pub fetch-out : {S T : Type 0} (old mid new : CellsState) (part : Memory → Result S WalkFault) (whole : Memory → Result T WalkFault) (result : Result T WalkEnd) (e : WalkEnd) → mid ≡ old
    → ((memory : Memory) (f : WalkFault) → old.told ≡ Some memory → part memory ≡ Err f → whole memory ≡ Err f)
    → Fetches mid new part (Err e) → IsErrAnd result (λ x. x ≡ e) → Fetches old new whole result
fetch-out old mid new part whole result e same h r is = way_out (Fetches old new whole) result e is (fetch-fails old mid new part whole e same h r)

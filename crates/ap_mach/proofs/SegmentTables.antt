-- Steps along the segments of loads.
use Rattle.std.proofs.Common.{◌≡◌, ℕ, suc, ◌+◌, ◌*◌, ◌<◌, List, [], ◌∷◌, length, drop, get_or, refl, ap, ◌∙◌, arith, length-append}
use Rattle.std.proofs.lemmas.List.{drop_more}
use Rattle.ap_fields.proofs.FieldReads.{length-structure}
use Rattle.ap_check.specs.declared.load.Load.{Load}
use Rattle.ap_layout.specs.declared.layout.Area.{Area}
use Rattle.ap_mach.specs.declared.types.SegmentCommand.{SegmentCommand}
use Rattle.ap_mach.specs.Segments.{load_segment, load_segments, load_name, segment_rows, segment_command, segment_table}

-- the segments of the loads from a number on
pub segments-more : (loads : List Load) (areas : List Area) (i : ℕ) (p : Load) (x : Area) → i < length loads → length areas ≡ length loads
    → load_segments (drop i loads) (drop i areas) ≡ load_segment (get_or loads i p) (get_or areas i x) ∷ load_segments (drop (i + 1) loads) (drop (i + 1) areas)
segments-more loads areas i p x within same =
    ap (λ (l : List Load). load_segments l (drop i areas)) (drop_more loads i p within)
    ∙ ap (λ (l : List Area). load_segments (get_or loads i p ∷ drop (i + 1) loads) l) (drop_more areas i x (omega arith))

pub length-segment_command : (name most : ℕ) (s : SegmentCommand) → length (segment_command name most s) ≡ 72
unfolding segment_command
length-segment_command name most s = length-structure 72 (segment_rows name most s) refl

pub length-load_segments : (loads : List Load) (areas : List Area) → length areas ≡ length loads → length (load_segments loads areas) ≡ length loads
length-load_segments [] areas same = refl
length-load_segments (p ∷ loads) [] same = absurd (omega arith)
length-load_segments (p ∷ loads) (x ∷ areas) same = ap suc (length-load_segments loads areas (omega arith))

pub length-segment_table : (k : ℕ) (segments : List SegmentCommand) → length (segment_table k segments) ≡ 72 * length segments
length-segment_table k [] = refl
length-segment_table k (s ∷ segments) =
    let one = length-segment_command (load_name k) 7 s in
    let more = length-segment_table (k + 1) segments in
    let both = length-append (segment_command (load_name k) 7 s) (segment_table (k + 1) segments) in
    omega arith

pub ruleset table_steps = (segments-more)

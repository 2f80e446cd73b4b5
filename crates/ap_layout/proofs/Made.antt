-- The positions that are made are those of the inputs.
use Rattle.std.proofs.Common.{◌≡◌, ℕ, ◌+◌, List, [], ◌∷◌, refl, ap, ◌∙◌, Some, None}
use Rattle.ap_check.specs.declared.options.Options.{Options}
use Rattle.ap_check.specs.Inputs.{Taken}
use Rattle.ap_layout.specs.declared.layout.Area.{Area}
use Rattle.ap_layout.specs.Areas.{end_from}
use Rattle.ap_layout.specs.MachPlaces.{mach_start, mach_length}
use Rattle.ap_layout.specs.Positions.{Positions, positions_of, tables_start, input_areas, shared_with, areas_one, end_one, table_length}

abbrev pub positions_by : List (List Area) → List ℕ → ℕ → ℕ → ℕ → ℕ → Positions
positions_by areas tables at len body_end total = record { areas = areas; tables = tables; mach_at = at; mach_len = len; body_end = body_end; total = total }

pub made-one : (options : Options) (e : Taken) (first second : List Area) (tables : List ℕ) (at len start length end : ℕ) → at ≡ mach_start options (e ∷ []) → len ≡ mach_length options (e ∷ []) → start ≡ tables_start options (e ∷ [])
    → first ≡ areas_one e → second ≡ [] → tables ≡ start ∷ [] → length ≡ table_length e → end ≡ end_one e
    → positions_by (first ∷ second ∷ []) tables at len (start + length) end ≡ positions_of options e None []
unfolding positions_of
made-one options e first second tables at len start length end m n p a b t l d = rw (a, b, t, l, d, p, m, n) refl

pub made-two : (options : Options) (e f : Taken) (masks : List ℕ) (first second : List Area) (tables : List ℕ) (at len start length more mid end : ℕ) → at ≡ mach_start options (e ∷ f ∷ []) → len ≡ mach_length options (e ∷ f ∷ []) → start ≡ tables_start options (e ∷ f ∷ [])
    → first ≡ areas_one e → mid ≡ end_one e → second ≡ input_areas (shared_with masks first f) f mid → tables ≡ start ∷ (start + length) ∷ [] → length ≡ table_length e → more ≡ table_length f
    → end ≡ end_from mid (input_areas (shared_with masks first f) f mid)
    → positions_by (first ∷ second ∷ []) tables at len (start + length + more) end ≡ positions_of options e (Some f) masks
unfolding positions_of
made-two options e f masks first second tables at len start length more mid end x y p a m b t l k d = rw (b, d, t, l, k, a, m, p, x, y) refl

pub areas-as : (masks masks2 : List ℕ) (others others2 : List Area) (f : Taken) (c : ℕ) → masks ≡ masks2 → others ≡ others2 → input_areas (shared_with masks others f) f c ≡ input_areas (shared_with masks2 others2 f) f c
areas-as masks masks2 others others2 f c h k = ap (λ m. input_areas (shared_with m others f) f c) h ∙ ap (λ o. input_areas (shared_with masks2 o f) f c) k

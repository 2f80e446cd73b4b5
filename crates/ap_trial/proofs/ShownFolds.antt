-- A plan that shows an image folds as the image does.
use Rattle.std.proofs.Common.{◌≡◌, ℕ, ◌+◌, List, [], ◌∷◌, Option, refl, ap, ◌∙◌}
use Rattle.ap_fields.specs.Readings.{Cell, MemoryImage}
use Rattle.ap_elf.specs.declared.types.Entry.{Entry}
use Rattle.ap_image.specs.Plans.{Mapping}
use Rattle.ap_image.specs.Reading.{Shows}
use Rattle.ap_image.proofs.RegionBytes.{listed-same}
use Rattle.ap_trial.specs.Folds.{folded_all, cell_number, cell_numbers, fold_over, cells_of}

numbers-same : (f g : ℕ → Option Cell) (a n : ℕ) → ((b : ℕ) → f b ≡ g b) → cell_numbers f a n ≡ cell_numbers g a n
unfolding cell_numbers
numbers-same f g a n same = listed-same (λ b. cell_number (f b)) (λ b. cell_number (g b)) a a n (λ k l. ap cell_number (same (a + k)))

pub fold-same : (f g : ℕ → Option Cell) (h : ℕ) (loads : List Entry) → ((b : ℕ) → f b ≡ g b) → fold_over f h loads ≡ fold_over g h loads
fold-same f g h [] same = refl
fold-same f g h (p ∷ loads) same =
    ap (λ l. fold_over f (folded_all h l) loads) (numbers-same f g p.vaddr p.memsz same) ∙ fold-same f g (folded_all h (cell_numbers g p.vaddr p.memsz)) loads same

pub fold-shown : (m : Mapping) (file : List ℕ) (image : MemoryImage) (h : ℕ) (loads : List Entry) → Shows m file image → fold_over (cells_of record { plan = m; file = file }) h loads ≡ fold_over image.cell h loads
fold-shown m file image h loads shows = fold-same (cells_of record { plan = m; file = file }) image.cell h loads shows.cells

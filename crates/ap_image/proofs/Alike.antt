-- Plans of two files that look alike.
use Rattle.std.proofs.Common.{◌≡◌, ℕ, List, Result, Ok, Err, sym, ap, ◌∙◌}
use mathlib.Core.Path.{fun_ext}
use Rattle.ap_fields.specs.Readings.{MemoryImage, bytes_in}
use Rattle.ap_image.specs.Plans.{Mapping, cell_in}
use Rattle.ap_image.specs.Reading.{Shows, IsPlanOf, AgreeOn, AgreeOnPlan}
use Rattle.ap_image.proofs.RegionCells.{cell_in-same}

image-by : (x y : MemoryImage) → x.entry ≡ y.entry → ((a : ℕ) → x.cell a ≡ y.cell a) → x ≡ y
image-by x y entry cell =
    let cells : x.cell ≡ y.cell = fun_ext cell in
    λ i. record { entry = entry i; cell = cells i }

-- images that one plan shows of two files which agree where it shows them
same-image : (m n : Mapping) (f g : List ℕ) (x y : MemoryImage) → m ≡ n → Shows m f x → Shows n g y → AgreeOn m.regions f g → x ≡ y
same-image m n f g x y same sf sg agree =
    image-by x y (sym sf.entry ∙ ap (λ (p : Mapping). p.entry) same ∙ sg.entry)
    (λ a. sym (sf.cells a) ∙ cell_in-same m.regions f g a agree ∙ ap (λ (p : Mapping). cell_in (bytes_in g) p.regions a) same ∙ sg.cells a)

pub images-alike : {F : Type 0} (f g : List ℕ) (p q : Result Mapping F) (x y : Result MemoryImage F) → IsPlanOf p f x → IsPlanOf q g y → p ≡ q → AgreeOnPlan p f g → x ≡ y
images-alike f g (Ok m) (Ok n) (Ok x) (Ok y) sf sg same agree =
    let regions : m ≡ n = cc in
    ap (λ (z : MemoryImage). Ok z) (same-image m n f g x y regions sf sg agree)
images-alike f g (Err d) (Err e) (Err x) (Err y) sf sg same agree =
    let faults : d ≡ e = cc in cc
images-alike f g (Ok m) (Err e) x y sf sg same agree = absurd (cc)
images-alike f g (Err e) (Ok m) x y sf sg same agree = absurd (cc)
images-alike f g (Ok m) q (Err x) y sf sg same agree = absurd sf
images-alike f g (Err e) q (Ok x) y sf sg same agree = absurd sf
images-alike f g (Ok m) (Ok n) (Ok x) (Err y) sf sg same agree = absurd sg
images-alike f g (Err d) (Err e) (Err x) (Ok y) sf sg same agree = absurd sg

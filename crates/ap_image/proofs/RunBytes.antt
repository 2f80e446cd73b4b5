-- The bytes of the runs of regions are those of the regions.
use Rattle.std.proofs.Common.{◌≡◌, ℕ, ◌+◌, ◌≤◌, ◌<◌, Bool, true, false, if◌then◌else◌, List, [], ◌∷◌, ◌++◌, flat_map, refl, sym, ap, ◌∙◌, arith, inl, inr, append_assoc, Some}
use Rattle.std.proofs.lemmas.Bool.{cases_Bool}
use Rattle.std.proofs.lemmas.Bool.Decides.{nat_tests}
use Rattle.std.proofs.lemmas.List.Concat.{flat_map-cons}
use Rattle.ap_fields.specs.Bytes.{listed}
use Rattle.ap_image.specs.declared.plan.Region.{Region}
use Rattle.ap_image.specs.declared.run.Run.{Run}
use Rattle.ap_image.specs.Plans.{AreAscendingFrom, end_of, has_address, region_byte, cell_in}
use Rattle.ap_image.specs.Runs.{run_of, continues, through, runs_from, runs_of}
use Rattle.ap_image.specs.ImageFiles.{byte_of, shown_byte, run_bytes, region_bytes}
use Rattle.ap_image.proofs.RegionBytes.{listed-same, listed-append}

-- bytes that are listed run by run, or region by region
of_run : (ℕ → ℕ) → Run → List ℕ
of_run g run = listed g run.start run.length

of_region : (ℕ → ℕ) → Region → List ℕ
of_region g r = listed g r.start r.span

of_run-through : (g : ℕ → ℕ) (run : Run) (r : Region) → run.start + run.length ≡ r.start → of_run g (through run r) ≡ of_run g run ++ of_region g r
unfolding of_run of_region
of_run-through g run r touch = listed-append g run.start run.length r.span ∙ ap (λ a. listed g run.start run.length ++ listed g a r.span) touch

of_run-run_of : (g : ℕ → ℕ) (r : Region) → of_run g (run_of r) ≡ of_region g r
unfolding of_run of_region
of_run-run_of g r = refl

runs_from-bytes : (g : ℕ → ℕ) (run : Run) (regions : List Region) → flat_map (of_run g) (runs_from run regions) ≡ of_run g run ++ flat_map (of_region g) regions
runs_from-bytes g run [] = flat_map-cons (of_run g) run []
runs_from-bytes g run (r ∷ regions) =
    let split : flat_map (of_region g) (r ∷ regions) ≡ of_region g r ++ flat_map (of_region g) regions = flat_map-cons (of_region g) r regions in
    elim (cases_Bool (continues run r)) [
      | inl on ↦ rw on (
          let touch : run.start + run.length ≡ r.start = grind (arith, nat_tests) in
          runs_from-bytes g (through run r) regions
          ∙ ap (λ l. l ++ flat_map (of_region g) regions) (of_run-through g run r touch)
          ∙ append_assoc (of_run g run) (of_region g r) (flat_map (of_region g) regions)
          ∙ ap (λ l. of_run g run ++ l) (sym split))
      | inr off ↦ rw off (
          flat_map-cons (of_run g) run (runs_from (run_of r) regions)
          ∙ ap (λ l. of_run g run ++ l) (runs_from-bytes g (run_of r) regions ∙ ap (λ l. l ++ flat_map (of_region g) regions) (of_run-run_of g r) ∙ sym split))
    ]

runs_of-bytes : (g : ℕ → ℕ) (regions : List Region) → flat_map (of_run g) (runs_of regions) ≡ flat_map (of_region g) regions
runs_of-bytes g [] = refl
runs_of-bytes g (r ∷ regions) =
    runs_from-bytes g (run_of r) regions ∙ ap (λ l. l ++ flat_map (of_region g) regions) (of_run-run_of g r) ∙ sym (flat_map-cons (of_region g) r regions)

-- equal bytes from an address on, listed
of_region-same : (f g : ℕ → ℕ) (low : ℕ) (r : Region) → low ≤ r.start → ((a : ℕ) → low ≤ a → f a ≡ g a) → of_region f r ≡ of_region g r
unfolding of_region
of_region-same f g low r above h = listed-same f g r.start r.start r.span (λ k l. h (r.start + k) (omega arith))

regions-same : (f g : ℕ → ℕ) (low : ℕ) (regions : List Region) → AreAscendingFrom low regions → ((a : ℕ) → low ≤ a → f a ≡ g a) → flat_map (of_region f) regions ≡ flat_map (of_region g) regions
regions-same f g low [] up h = refl
regions-same f g low (r ∷ regions) up h =
    let above : low ≤ r.start = up.0 in
    let rest : flat_map (of_region f) regions ≡ flat_map (of_region g) regions = regions-same f g (end_of r) regions up.2 (λ a l. h a (omega arith)) in
    flat_map-cons (of_region f) r regions
    ∙ ap (λ l. l ++ flat_map (of_region f) regions) (of_region-same f g low r above h)
    ∙ ap (λ l. of_region g r ++ l) rest
    ∙ sym (flat_map-cons (of_region g) r regions)

-- what is shown at the addresses of the first region, and behind it
shown-first : (byte : ℕ → ℕ) (r : Region) (regions : List Region) (k : ℕ) → k < r.span → shown_byte byte (r ∷ regions) (r.start + k) ≡ region_byte byte r (r.start + k)
shown-first byte r regions k l =
    let on : has_address r (r.start + k) ≡ true = grind (arith, nat_tests) in
    ap (λ (b : Bool). byte_of (if b then Some (region_byte byte r (r.start + k), r.perms.0) else cell_in byte regions (r.start + k))) on

shown-behind : (byte : ℕ → ℕ) (r : Region) (regions : List Region) (a : ℕ) → end_of r ≤ a → shown_byte byte (r ∷ regions) a ≡ shown_byte byte regions a
shown-behind byte r regions a l =
    let off : has_address r a ≡ false = grind (arith, nat_tests) in
    ap (λ (b : Bool). byte_of (if b then Some (region_byte byte r a, r.perms.0) else cell_in byte regions a)) off

first-bytes : (byte : ℕ → ℕ) (r : Region) (regions : List Region) → of_region (shown_byte byte (r ∷ regions)) r ≡ region_bytes byte r
unfolding of_region
first-bytes byte r regions = listed-same (shown_byte byte (r ∷ regions)) (region_byte byte r) r.start r.start r.span (λ k l. shown-first byte r regions k l)

shown-regions : (byte : ℕ → ℕ) (low : ℕ) (regions : List Region) → AreAscendingFrom low regions → flat_map (of_region (shown_byte byte regions)) regions ≡ flat_map (region_bytes byte) regions
shown-regions byte low [] up = refl
shown-regions byte low (r ∷ regions) up =
    flat_map-cons (of_region (shown_byte byte (r ∷ regions))) r regions
    ∙ ap (λ l. l ++ flat_map (of_region (shown_byte byte (r ∷ regions))) regions) (first-bytes byte r regions)
    ∙ ap (λ l. region_bytes byte r ++ l)
    (regions-same (shown_byte byte (r ∷ regions)) (shown_byte byte regions) (end_of r) regions up.2 (λ a l. shown-behind byte r regions a l)
    ∙ shown-regions byte (end_of r) regions up.2)
    ∙ sym (flat_map-cons (region_bytes byte) r regions)

-- the bytes of the runs
pub run_bytes-regions : (byte : ℕ → ℕ) (low : ℕ) (regions : List Region) → AreAscendingFrom low regions → flat_map (region_bytes byte) regions ≡ flat_map (run_bytes byte regions) (runs_of regions)
unfolding of_run
run_bytes-regions byte low regions up = sym (runs_of-bytes (shown_byte byte regions) regions ∙ shown-regions byte low regions up)

pub ruleset byte_steps = (run_bytes-regions)

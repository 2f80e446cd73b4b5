-- The masks of two inputs, load by load.
use Rattle.std.proofs.Common.{◌≡◌, ℕ, zero, suc, ◌+◌, ◌-◌, ◌*◌, ◌^◌, ◌<◌, ◌≤◌, Bool, true, false, List, [], ◌∷◌, length, drop, get_or, map, sym, ap, ◌∙◌, subst, arith, Option, Some, None, Ok}
use Rattle.std.proofs.lemmas.List.{at_drop_more}
use Rattle.std.proofs.lemmas.Grind.{pow_more}
use Rattle.ap_files.specs.Files.{FileMap, FileState}
use Rattle.ap_files.specs.Reads.{HasSize}
use Rattle.ap_files.proofs.ReadLemmas.{has_range}
use Rattle.ap_fields.specs.Granules.{ceil_of}
use Rattle.ap_elf.specs.Machines.{granule_of}
use Rattle.ap_check.specs.declared.load.Load.{Load}
use Rattle.ap_check.specs.Inputs.{Taken, Meets, AreLoads}
use Rattle.ap_layout.specs.Twins.{are_twins, bit_if, mask_of}
use Rattle.ap_link.specs.declared.source.Source.{Source}
use Rattle.ap_link.specs.declared.twins.Side.{Side}
use Rattle.ap_link.specs.Sources.{AreTrueFor}
use Rattle.ap_link.specs.Compared.{AreInFile, Compares, IsBacked, byte_told}

-- what was compared, by the state before
pub twins-told : (old now new : FileState) (one : List ℕ) (g : ℕ) (p : Load) (name : List ℕ) (h : ℕ) (q : Load) (same : Bool) → now ≡ old → Compares now new one g p name h q (Ok same)
    → (new ≡ old) × ((m : FileMap) → old.kept ≡ Some m → same ≡ are_twins g (byte_told old.kept one) p h (byte_told old.kept name) q)
twins-told old now new one g p name h q same still told = (
  told.0 ∙ still,
  subst (λ (s : FileState). (m : FileMap) → s.kept ≡ Some m → same ≡ are_twins g (byte_told s.kept one) p h (byte_told s.kept name) q) still told.1,
)

-- one bit more in front of a mask
pub mask-step : (g : ℕ) (byte : ℕ → ℕ) (loads : List Load) (h : ℕ) (other : ℕ → ℕ) (q : Load) (left mask bit : ℕ) (same : Bool) (d : Load) → 0 < left → left ≤ length loads
    → mask ≡ mask_of g byte (drop left loads) h other q → same ≡ are_twins g byte (get_or loads (left - 1) d) h other q → bit ≡ bit_if same
    → 2 * mask + bit ≡ mask_of g byte (drop (left - 1) loads) h other q
mask-step g byte loads h other q left mask bit same d pos below told twin is =
    let lt : left - 1 < length loads = omega arith in
    let next : left - 1 + 1 ≡ left = omega arith in
    let step : mask_of g byte (drop (left - 1) loads) h other q ≡ bit_if (are_twins g byte (get_or loads (left - 1) d) h other q) + 2 * mask_of g byte (drop (left - 1 + 1) loads) h other q = at_drop_more (λ l. mask_of g byte l h other q) loads (left - 1) d lt in
    let there : mask_of g byte (drop (left - 1 + 1) loads) h other q ≡ mask = ap (λ n. mask_of g byte (drop n loads) h other q) next ∙ sym told in
    let first : bit_if (are_twins g byte (get_or loads (left - 1) d) h other q) ≡ bit = ap bit_if (sym twin) ∙ sym is in
    turned mask bit (bit_if (are_twins g byte (get_or loads (left - 1) d) h other q)) (mask_of g byte (drop (left - 1 + 1) loads) h other q) (mask_of g byte (drop (left - 1) loads) h other q) step there first
  where
    turned : (mask bit a b c : ℕ) → c ≡ a + 2 * b → b ≡ mask → a ≡ bit → 2 * mask + bit ≡ c
    turned mask bit a b c e f g = omega arith

pub bit-small : (b : Bool) (bit : ℕ) → bit ≡ bit_if b → bit ≤ 1
bit-small true bit is = omega arith
bit-small false bit is = omega arith

pub mask-bits : (n k m bit : ℕ) → m < 2 ^ n → bit ≤ 1 → k ≡ n + 1 → 2 * m + bit < 2 ^ k
mask-bits n k m bit low one e = subst (λ x. 2 * m + bit < 2 ^ x) (sym e) (let p = pow_more 2 n in omega arith)

-- loads that meet the rules have their bytes in the file
loads-backed : (kept : Option FileMap) (name : List ℕ) (size g low : ℕ) (loads : List Load) → HasSize kept name size → size ≤ 2 ^ 28 → AreLoads g size low loads
    → (k : ℕ) (d : Load) → k < length loads → IsBacked kept name (get_or loads k d)
loads-backed kept name size g low [] has small are k d lt = absurd (omega arith)
loads-backed kept name size g low (p ∷ loads) has small are zero d lt = record {
  there = λ some. record { range = has_range kept name size p.offset p.filesz has (are.0.part some); small = (let l = are.0.part some in omega arith) };
  size = (let a = are.0.sizes in let b = are.0.top in omega arith);
}
loads-backed kept name size g low (p ∷ loads) has small are (suc k) d lt = loads-backed kept name size g (ceil_of (p.vaddr + p.memsz) g) loads has small are.1 k d (omega arith)

pub side-backed : (kept : Option FileMap) (name same : List ℕ) (i : Taken) (loads : List Load) → HasSize kept name i.size → Meets i → same ≡ name → loads ≡ i.loads → AreInFile kept same loads
side-backed kept name same i loads has meets is are =
    subst (λ n. AreInFile kept n loads) (sym is)
    (subst (λ l. AreInFile kept name l) (sym are)
    (loads-backed kept name i.size (granule_of i.machine) 0 i.loads has meets.most meets.loads))

-- the masks are true
pub none-true : (kept : Option FileMap) (masks : List ℕ) (first : Source) (o : Option Source) → o ≡ None → AreTrueFor kept masks first o
none-true kept masks first o is = subst (λ x. AreTrueFor kept masks first x) (sym is) tt

pub some-true : (kept : Option FileMap) (masks : List ℕ) (first : Source) (o : Option Source) (second : Source) (one other : Side) → o ≡ Some second
    → one.name.now ≡ first.name.now → one.loads.now ≡ first.input.now.loads → one.granule ≡ granule_of first.input.now.machine
    → other.name.now ≡ second.name.now → other.loads.now ≡ second.input.now.loads → other.granule ≡ granule_of second.input.now.machine
    → ((m : FileMap) → kept ≡ Some m → masks ≡ map (λ q. mask_of one.granule (byte_told kept one.name.now) one.loads.now other.granule (byte_told kept other.name.now) q) other.loads.now)
    → AreTrueFor kept masks first o
some-true kept masks first o second one other is n l g n2 l2 g2 told =
    subst (λ x. AreTrueFor kept masks first x) (sym is)
    (λ m k.
    told m k
    ∙ ap (λ x. map (λ q. mask_of one.granule (byte_told kept x) one.loads.now other.granule (byte_told kept other.name.now) q) other.loads.now) n
    ∙ ap (λ x. map (λ q. mask_of one.granule (byte_told kept first.name.now) x other.granule (byte_told kept other.name.now) q) other.loads.now) l
    ∙ ap (λ x. map (λ q. mask_of x (byte_told kept first.name.now) first.input.now.loads other.granule (byte_told kept other.name.now) q) other.loads.now) g
    ∙ ap (λ x. map (λ q. mask_of (granule_of first.input.now.machine) (byte_told kept first.name.now) first.input.now.loads other.granule (byte_told kept x) q) other.loads.now) n2
    ∙ ap (λ x. map (λ q. mask_of (granule_of first.input.now.machine) (byte_told kept first.name.now) first.input.now.loads other.granule (byte_told kept second.name.now) q) x) l2
    ∙ ap (λ x. map (λ q. mask_of (granule_of first.input.now.machine) (byte_told kept first.name.now) first.input.now.loads x (byte_told kept second.name.now) q) second.input.now.loads) g2)

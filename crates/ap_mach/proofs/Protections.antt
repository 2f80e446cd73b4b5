-- Permissions as the bits of initprot, and back.
use Rattle.std.proofs.Common.{◌≡◌, ℕ, zero, suc, ◌+◌, ◌^◌, ◌<◌, true, ◌==◌, ◌&&◌, not, refl, arith, bit_and}
use Rattle.ap_mach.specs.MachReading.{bit_if}
use Rattle.ap_mach.specs.Segments.{protection_of, load_segment}
use Rattle.ap_mach.specs.ReadBack.{SegmentsAllow}

allowed-back : (n : ℕ) → n < 8 → bit_if (protection_of n) 4 1 + (bit_if (protection_of n) 2 2 + bit_if (protection_of n) 1 4) ≡ n
allowed-back zero small = refl
allowed-back (suc zero) small = refl
allowed-back (suc (suc zero)) small = refl
allowed-back (suc (suc (suc zero))) small = refl
allowed-back (suc (suc (suc (suc zero)))) small = refl
allowed-back (suc (suc (suc (suc (suc zero))))) small = refl
allowed-back (suc (suc (suc (suc (suc (suc zero)))))) small = refl
allowed-back (suc (suc (suc (suc (suc (suc (suc zero))))))) small = refl
allowed-back (suc (suc (suc (suc (suc (suc (suc (suc n)))))))) small = absurd (omega arith)

-- the law
pub segments-allow : SegmentsAllow
unfolding load_segment
segments-allow p x small = allowed-back p.perms.0 small

-- what is known of the bits of a load that may be read
pub record Protects (n : ℕ) : Type 0 where
  pub some : not (bit_and (protection_of n) 7 == 0) ≡ true
  pub small : protection_of n < 2 ^ 32

pub protects : (n : ℕ) → n < 8 → (not (bit_and n 4 == 0) && not (bit_and n 3 == 3)) ≡ true → Protects n
protects zero small permitted = absurd (cc)
protects (suc zero) small permitted = absurd (cc)
protects (suc (suc zero)) small permitted = absurd (cc)
protects (suc (suc (suc zero))) small permitted = absurd (cc)
protects (suc (suc (suc (suc zero)))) small permitted = record { some = refl; small = omega arith }
protects (suc (suc (suc (suc (suc zero))))) small permitted = record { some = refl; small = omega arith }
protects (suc (suc (suc (suc (suc (suc zero)))))) small permitted = record { some = refl; small = omega arith }
protects (suc (suc (suc (suc (suc (suc (suc zero))))))) small permitted = absurd (cc)
protects (suc (suc (suc (suc (suc (suc (suc (suc n)))))))) small permitted = absurd (omega arith)

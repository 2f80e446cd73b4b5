use Rattle.std.proofs.Common.{ℕ, List, refl, subst}
use Rattle.ap_fields.specs.Bytes.{Holds}
use Rattle.ap_elf.proofs.Filling.{entry-spelled}
use Rattle.ap_elf.proofs.ReadBack.{entry_at-holds}
use Rattle.ap_elf.proofs.write.entry_bytes.Goals as goal

pub returns-clause-bytes : goal.returns-clause-bytes
returns-clause-bytes c =
    (entry-spelled c.args.p.now _ _ _ _ _ _ _ _ _ refl c.put32.ensures c.put32-2.ensures c.put64.ensures c.put64-2.ensures c.put64-3.ensures c.put64-4.ensures c.put64-5.ensures c.put64-6.ensures).0

pub returns-clause-back : goal.returns-clause-back
returns-clause-back c =
    let s = entry-spelled c.args.p.now _ _ _ _ _ _ _ _ _ refl c.put32.ensures c.put32-2.ensures c.put64.ensures c.put64-2.ensures c.put64-3.ensures c.put64-4.ensures c.put64-5.ensures c.put64-6.ensures in
    λ w at held. entry_at-holds w at c.args.p.now s.1 (subst (λ (b : List ℕ). Holds w at b) s.0 held)

use Rattle.std.proofs.Common.{subst, List, ℕ, MatchOption}
use Rattle.ap_files.specs.Reads.{Reads}
use Rattle.ap_elf.specs.Symbols.{strings_of, Stands}
use Rattle.ap_elf.specs.Seen.{IsSeen}
use Rattle.ap_elf.proofs.seen.name_seen_in.Goals as goal

pub returns : goal.returns
returns g c =
    subst (λ (text : List ℕ). Reads (g.F.Files.state c.args.files.now) (g.F.Files.state c.seen_in.new.files) c.args.name.now
    (λ b r. MatchOption r (¬ Stands (strings_of b c.args.t.now) text) (λ s. IsSeen (strings_of b c.args.t.now) text s)) c.seen_in.result)
    c.put_name.ensures c.seen_in.ensures

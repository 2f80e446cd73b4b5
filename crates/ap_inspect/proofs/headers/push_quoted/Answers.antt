use Rattle.std.proofs.Common.{◌≡◌, ◌++◌, List, ℕ, OnOk, sym, subst}
use Rattle.ap_elf.specs.Machines.{number_of}
use Rattle.ap_inspect.proofs.Takens.{header-opens, header-embeds, quoted-line}
use Rattle.ap_inspect.proofs.headers.push_quoted.Goals as goal

-- src/headers.rt:53:11
pub decode_at-requires : goal.decode_at-requires
decode_at-requires c = header-opens (number_of c.args.machine) c.args.file.now c.args.at c.requires

-- src/headers.rt:54:17
pub unreachable-requires : goal.unreachable-requires
unreachable-requires c = header-embeds (number_of c.args.machine) c.args.file.now c.args.at c.requires c.in-None.ensures

-- src/headers.rt:43:1
pub returns : goal.returns
returns c =
    let line = quoted-line c.args.file.now c.args.at c.in-Some.decoded.end c.in-Some.ensures.embeds.closes in
    subst (λ (l : List ℕ). OnOk c.push_owner.result (c.push_owner.new.text.items ≡ c.args.text.now.items ++ l)) (sym line) c.push_owner.ensures

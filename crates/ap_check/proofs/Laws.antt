-- What follows from the rules of an input.
use Rattle.std.proofs.Common.{◌≡◌, ℕ, List, ◌++◌, length, None}
use Rattle.ap_fields.proofs.FirstFaults.{append-none}
use Rattle.ap_elf.specs.declared.types.Header.{Header}
use Rattle.ap_elf.specs.declared.types.Entry.{Entry}
use Rattle.ap_elf.specs.Fields.{header_of, entries_of}
use Rattle.ap_check.specs.Rules.{size_rules, header_rules, table_rules, bare_rules, symbols_rules, input_rules, rules_of, first_fault_of}
use Rattle.ap_check.specs.Inputs.{Meets, symbols_by, located_of, input_of}
use Rattle.ap_check.proofs.Held.{size-held, table_meets}

-- an input that breaks no rule meets what is said of each that is taken
pub input_meets : (n : ℕ) (b : List ℕ) → first_fault_of n b ≡ None → Meets (input_of n b)
unfolding rules_of input_rules bare_rules input_of
input_meets n b none =
    let size = length b in
    let h : Header = header_of b in
    let entries : List Entry = entries_of b in
    let all = append-none (bare_rules n size h entries) (symbols_rules n (located_of b)) none in
    let sizes = append-none (size_rules n size) (header_rules n size h ++ table_rules n size h entries) all.0 in
    let headers = append-none (header_rules n size h) (table_rules n size h entries) sizes.1 in
    let bounds = size-held n size sizes.0 in
    table_meets n size h entries (symbols_by b (located_of b)) bounds.0 bounds.1 headers.1

use Rattle.std.proofs.Common.{◌≡◌, ℕ, ◌+◌, ◌^◌, ◌≤◌, List, [], ◌++◌, length, sym, ap, ◌∙◌, subst, arith, append_assoc}
use Rattle.ap_pe.specs.Sections.{Named, section_table}
use Rattle.ap_pe.specs.Written.{is_code, is_data, raw_sum, sections_of, end_of, file_header, optional_header, headers_with}
use Rattle.ap_pe.specs.declared.program.Program.{Program}
use Rattle.ap_pe.proofs.Fitting.{fit-last}
use Rattle.ap_pe.proofs.Sums.{sum-behind}
use Rattle.ap_pe.proofs.headers.pe_headers.Goals as goal

pub optional_header-requires-clause-end : goal.optional_header-requires-clause-end
optional_header-requires-clause-end c =
    let e = c.push_sections-end.ensures.end in
    let last = fit-last c.args.p.now.base (c.args.p.now.base + 8192) c.args.loads.now c.requires.fit in
    omega arith

pub optional_header-requires-clause-code : goal.optional_header-requires-clause-code
optional_header-requires-clause-code c =
    subst (λ (s : List Named). raw_sum is_code s ≤ 2 ^ 31) (sym (c.deref.ensures.0 ∙ c.push_sections-end.ensures.items)) (sum-behind is_code c.args.p.now.base c.args.loads.now c.args.areas.now c.requires.fit)

pub optional_header-requires-clause-data_bytes : goal.optional_header-requires-clause-data_bytes
optional_header-requires-clause-data_bytes c =
    subst (λ (s : List Named). raw_sum is_data s ≤ 2 ^ 31) (sym (c.deref.ensures.0 ∙ c.push_sections-end.ensures.items)) (sum-behind is_data c.args.p.now.base c.args.loads.now c.args.areas.now c.requires.fit)

-- three parts, one behind the other
parts : (p : Program) (end last count : ℕ) (named : List Named) (xs a b one two three : List ℕ) → xs ≡ [] → count ≡ length named → end ≡ last → a ≡ file_header count → b ≡ optional_header p end named
    → one ≡ xs ++ a → two ≡ one ++ b → three ≡ two ++ section_table 1 named → three ≡ headers_with p last named
unfolding headers_with
parts p end last count named xs a b one two three empty counted stop is_a is_b first second third =
    let head : one ≡ file_header (length named) = first ∙ ap (λ l. l ++ a) empty ∙ is_a ∙ ap file_header counted in
    let body : b ≡ optional_header p last named = is_b ∙ ap (λ e. optional_header p e named) stop in
    third
    ∙ ap (λ l. l ++ section_table 1 named) (second ∙ ap (λ l. l ++ b) head ∙ ap (λ l. file_header (length named) ++ l) body)
    ∙ append_assoc (file_header (length named)) (optional_header p last named) (section_table 1 named)

pub returns : goal.returns
returns c =
    let p = c.args.p.now in
    let named : List Named = sections_of p.base c.args.loads.now c.args.areas.now in
    let made = c.push_sections-end.ensures.items in
    let first = c.deref.ensures.0 ∙ made in
    let second = c.deref-2.ensures.0 ∙ made in
    parts p c.push_sections-end.result (end_of p.base c.args.loads.now) c.len.result named c.new-bytes.result.items c.file_header.result c.optional_header.result c.push_bytes.new.out.items c.push_bytes-2.new.out.items c.push_table.new.out.items
    c.new-bytes.ensures (c.len.ensures.value ∙ ap length made) c.push_sections-end.ensures.end c.file_header.ensures (c.optional_header.ensures ∙ ap (optional_header p c.push_sections-end.result) first) c.push_bytes.ensures c.push_bytes-2.ensures
    (c.push_table.ensures ∙ ap (λ l. c.push_bytes-2.new.out.items ++ section_table 1 l) second)

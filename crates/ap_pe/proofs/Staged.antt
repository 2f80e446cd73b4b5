-- The first refusal of headers, stage by stage, where their parts are read alone.
use Rattle.std.proofs.Common.{◌≡◌, ℕ, ◌+◌, List, length, take, drop, Some, None, Ok, Err, sym, ap, ◌∙◌, arith}
use Rattle.ap_fields.specs.Fields.{number_at}
use Rattle.ap_fields.specs.Structures.{value_at}
use Rattle.ap_fields.specs.FirstFault.{Rules, first_fault}
use Rattle.ap_fields.proofs.FirstFaults.{none-append, some-append}
use Rattle.ap_pe.specs.declared.types.PeHeaders.{PeHeaders}
use Rattle.ap_pe.specs.declared.types.FileHeader.{FileHeader}
use Rattle.ap_pe.specs.declared.fault.PeFault.{PeFault}
use Rattle.ap_pe.specs.Format.{dos_mark, dos_headers, optional_magic, file_header_at, headers_by, headers_at}
use Rattle.ap_pe.specs.PeReading.{dos_rules, file_rules, optional_rules, rules_at, headers_unless, headers_result}
use Rattle.ap_pe.specs.Stages.{result_at, optional_result}
use Rattle.ap_pe.proofs.PartReads.{number-read, file-read, optional-read}

-- the optional header
optional-same : (b part : List ℕ) (at size magic : ℕ) (f : FileHeader) (h : PeHeaders) → part ≡ take 112 (drop (at + 24) b) → h ≡ headers_by at f part 0 → magic ≡ number_at 2 0 part → size ≡ length b
    → headers_unless (first_fault (optional_rules size magic h)) h ≡ optional_result b at f
optional-same b part at size magic f h read is mark sized =
    let headers : h ≡ headers_by at f b (at + 24) = is ∙ optional-read at (at + 24) f b part read in
    let number : magic ≡ value_at optional_magic (at + 24) b = mark ∙ number-read 2 0 (at + 24) 112 b part read (omega arith) in
    ap (λ n. headers_unless (first_fault (optional_rules n magic h)) h) sized
    ∙ ap (λ m. headers_unless (first_fault (optional_rules (length b) m h)) h) number
    ∙ ap (λ (x : PeHeaders). headers_unless (first_fault (optional_rules (length b) (value_at optional_magic (at + 24) b) x)) x) headers

pub optional-none : (b part : List ℕ) (at size magic : ℕ) (f : FileHeader) (h : PeHeaders) → part ≡ take 112 (drop (at + 24) b) → h ≡ headers_by at f part 0 → magic ≡ number_at 2 0 part → size ≡ length b
    → first_fault (optional_rules size magic h) ≡ None → Ok h ≡ optional_result b at f
optional-none b part at size magic f h read is mark sized none =
    sym (ap (λ o. headers_unless o h) none) ∙ optional-same b part at size magic f h read is mark sized

pub optional-some : (b part : List ℕ) (at size magic : ℕ) (f : FileHeader) (h : PeHeaders) (e : PeFault) → part ≡ take 112 (drop (at + 24) b) → h ≡ headers_by at f part 0 → magic ≡ number_at 2 0 part → size ≡ length b
    → first_fault (optional_rules size magic h) ≡ Some e → Err e ≡ optional_result b at f
optional-some b part at size magic f h e read is mark sized some =
    sym (ap (λ o. headers_unless o h) some) ∙ optional-same b part at size magic f h read is mark sized

-- the COFF file header
file-same : (b part : List ℕ) (at size : ℕ) (f : FileHeader) → part ≡ take 24 (drop at b) → f ≡ file_header_at part 0 → size ≡ length b → file_rules size at f ≡ file_rules (length b) at (file_header_at b at)
file-same b part at size f read is sized =
    ap (λ n. file_rules n at f) sized ∙ ap (file_rules (length b) at) (is ∙ file-read at b part read)

pub file-none : (b part : List ℕ) (at size : ℕ) (f : FileHeader) → part ≡ take 24 (drop at b) → f ≡ file_header_at part 0 → size ≡ length b → first_fault (file_rules size at f) ≡ None
    → optional_result b at f ≡ result_at b at
file-none b part at size f read is sized none =
    let known : f ≡ file_header_at b at = is ∙ file-read at b part read in
    let own : first_fault (file_rules (length b) at (file_header_at b at)) ≡ None = sym (ap first_fault (file-same b part at size f read is sized)) ∙ none in
    let more : Rules PeFault = optional_rules (length b) (value_at optional_magic (at + 24) b) (headers_at b at) in
    ap (optional_result b at) known
    ∙ ap (λ o. headers_unless o (headers_at b at)) (sym (none-append (file_rules (length b) at (file_header_at b at)) more own))

pub file-some : (b part : List ℕ) (at size : ℕ) (f : FileHeader) (e : PeFault) → part ≡ take 24 (drop at b) → f ≡ file_header_at part 0 → size ≡ length b → first_fault (file_rules size at f) ≡ Some e
    → Err e ≡ result_at b at
file-some b part at size f e read is sized some =
    let own : first_fault (file_rules (length b) at (file_header_at b at)) ≡ Some e = sym (ap first_fault (file-same b part at size f read is sized)) ∙ some in
    let more : Rules PeFault = optional_rules (length b) (value_at optional_magic (at + 24) b) (headers_at b at) in
    sym (ap (λ o. headers_unless o (headers_at b at)) (some-append (file_rules (length b) at (file_header_at b at)) more e own))

-- the file's start
dos-same : (b part : List ℕ) (size mark : ℕ) → part ≡ take 64 (drop 0 b) → mark ≡ number_at 2 0 part → size ≡ length b → dos_rules size mark ≡ dos_rules (length b) (value_at dos_mark 0 b)
dos-same b part size mark read is sized =
    ap (λ n. dos_rules n mark) sized ∙ ap (dos_rules (length b)) (is ∙ number-read 2 0 0 64 b part read (omega arith))

pub dos-none : (b part : List ℕ) (size mark at : ℕ) → part ≡ take 64 (drop 0 b) → mark ≡ number_at 2 0 part → at ≡ number_at 4 60 part → size ≡ length b → first_fault (dos_rules size mark) ≡ None
    → result_at b at ≡ headers_result b
dos-none b part size mark at read is place sized none =
    let known : at ≡ value_at dos_headers 0 b = place ∙ number-read 4 60 0 64 b part read (omega arith) in
    let own : first_fault (dos_rules (length b) (value_at dos_mark 0 b)) ≡ None = sym (ap first_fault (dos-same b part size mark read is sized)) ∙ none in
    let there : ℕ = value_at dos_headers 0 b in
    ap (result_at b) known ∙ ap (λ o. headers_unless o (headers_at b there)) (sym (none-append (dos_rules (length b) (value_at dos_mark 0 b)) (rules_at b there) own))

pub dos-some : (b part : List ℕ) (size mark : ℕ) (e : PeFault) → part ≡ take 64 (drop 0 b) → mark ≡ number_at 2 0 part → size ≡ length b → first_fault (dos_rules size mark) ≡ Some e → Err e ≡ headers_result b
dos-some b part size mark e read is sized some =
    let own : first_fault (dos_rules (length b) (value_at dos_mark 0 b)) ≡ Some e = sym (ap first_fault (dos-same b part size mark read is sized)) ∙ some in
    let there : ℕ = value_at dos_headers 0 b in
    sym (ap (λ o. headers_unless o (headers_at b there)) (some-append (dos_rules (length b) (value_at dos_mark 0 b)) (rules_at b there) e own))

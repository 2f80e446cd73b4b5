use Rattle.std.proofs.Common.{◌≡◌, ℕ, List, [], ◌++◌, length, sym, ap, ◌∙◌, append_assoc}
use Rattle.ap_mach.specs.declared.types.SegmentCommand.{SegmentCommand}
use Rattle.ap_mach.specs.Segments.{zero_segment, load_segments, segment_command, segment_table}
use Rattle.ap_mach.specs.Written.{header, thread_command, headers_with}
use Rattle.ap_mach.proofs.SegmentTables.{length-load_segments}
use Rattle.ap_mach.proofs.headers.mach_headers.Goals as goal

-- four parts, one behind the other
parts : (start count : ℕ) (zero own : SegmentCommand) (segments : List SegmentCommand) (xs a b t one two three four : List ℕ) → xs ≡ [] → count ≡ length segments → own ≡ zero
    → a ≡ header count → b ≡ segment_command 0x4f52455a5f5f 0 own → t ≡ thread_command start
    → one ≡ xs ++ a → two ≡ one ++ b → three ≡ two ++ segment_table 1 segments → four ≡ three ++ t → four ≡ headers_with start zero segments
unfolding headers_with
parts start count zero own segments xs a b t one two three four empty counted same is_a is_b is_t first second third fourth =
    let H : List ℕ = header (length segments) in
    let Z : List ℕ = segment_command 0x4f52455a5f5f 0 zero in
    let T : List ℕ = segment_table 1 segments in
    let head : one ≡ H = first ∙ ap (λ l. l ++ a) empty ∙ is_a ∙ ap header counted in
    let next : two ≡ H ++ Z = second ∙ ap (λ l. l ++ b) head ∙ ap (λ l. H ++ l) (is_b ∙ ap (segment_command 0x4f52455a5f5f 0) same) in
    fourth
    ∙ ap (λ l. l ++ t) (third ∙ ap (λ l. l ++ T) next)
    ∙ ap (λ l. ((H ++ Z) ++ T) ++ l) is_t
    ∙ append_assoc (H ++ Z) T (thread_command start)
    ∙ append_assoc H Z (T ++ thread_command start)

pub returns : goal.returns
returns c =
    let loads = c.args.loads.now in
    let areas = c.args.areas.now in
    parts c.args.start (length loads) (zero_segment loads) c.zero_segment-zero.result (load_segments loads areas) c.new-bytes.result.items c.header.result c.segment_command.result c.thread_command.result c.push_bytes.new.out.items c.push_bytes-2.new.out.items c.push_loads.new.out.items c.push_bytes-3.new.out.items
    c.new-bytes.ensures (sym (length-load_segments loads areas c.requires.same)) c.zero_segment-zero.ensures c.header.ensures c.segment_command.ensures c.thread_command.ensures c.push_bytes.ensures c.push_bytes-2.ensures c.push_loads.ensures.items c.push_bytes-3.ensures

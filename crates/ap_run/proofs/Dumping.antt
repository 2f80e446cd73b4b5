-- How a file is dumped, step by step.
use Rattle.std.proofs.Common.{◌≡◌, ℕ, ◌^◌, ◌<◌, ◌≤◌, true, false, cond, List, length, Vec, Some, Result, Ok, Err, refl, sym, ap, ◌∙◌, subst, arith}
use Rattle.std.specs.Prelude.{nat_lt}
use Rattle.std.specs.declared.alloc.Global.{Global}
use Rattle.std.proofs.lemmas.Bool.Decides.{nat_tests}
use Rattle.ap_fields.specs.Readings.{bytes_in}
use Rattle.ap_files.specs.Files.{FileState}
use Rattle.ap_files.specs.Sinks.{SinkState}
use Rattle.ap_files.specs.Appends.{IsMade, Makes}
use Rattle.ap_files.specs.declared.failure.FileFault.TheVariants.{Write}
use Rattle.ap_image.specs.Plans.{Mapping, Imaged}
use Rattle.ap_image.specs.ImageFiles.{total_of, front_of, image_file}
use Rattle.ap_run.specs.declared.end.ReadingFault.{ReadingFault}
use Rattle.ap_run.specs.declared.end.ReadingFault.TheVariants as fault
use Rattle.ap_run.specs.declared.end.Cause.{Cause}
use Rattle.ap_run.specs.declared.end.Cause.TheVariants.{Done, Refused, Unread, Usage, Unbuilt, ReadFault, WriteFault, OutFault, NoMemory}
use Rattle.ap_run.specs.declared.format.Format.{Format}
use Rattle.ap_run.specs.declared.dump.Parts.{Parts}
use Rattle.ap_texts.specs.PlanTexts.{plan_text}
use Rattle.ap_run.specs.Formats.{plan_in}
use Rattle.ap_run.specs.Fetches.{Fetches}
use Rattle.ap_run.specs.Shows.{Printed}
use Rattle.ap_run.specs.Dumps.{Dumped, dumped_by, dumped_in, dumped_as, IsDumped, DumpEnds, ArePartsOf, MakesParts}

-- a file that isn't longer than 2^30 bytes, and one that is
dumped-small : (format : Format) (b : List ℕ) → length b ≤ 2 ^ 30 → dumped_in format b ≡ dumped_by b (plan_in format b)
unfolding dumped_in
dumped-small format b small =
    let f : nat_lt (2 ^ 30) (length b) ≡ false = grind (arith, nat_tests) in
    ap (λ t. cond t (Err (fault.Large (length b))) (dumped_by b (plan_in format b))) f

dumped-large : (format : Format) (b : List ℕ) → 2 ^ 30 < length b → dumped_in format b ≡ Err (fault.Large (length b))
unfolding dumped_in
dumped-large format b large =
    let f : nat_lt (2 ^ 30) (length b) ≡ true = grind (arith, nat_tests) in
    ap (λ t. cond t (Err (fault.Large (length b))) (dumped_by b (plan_in format b))) f

dumped-wide : (b : List ℕ) (m : Mapping) (total : ℕ) → total ≡ total_of m.regions → 2 ^ 30 < total → dumped_by b (Ok m) ≡ Err (fault.Wide total)
dumped-wide b m total is wide =
    let f : nat_lt (2 ^ 30) (total_of m.regions) ≡ true = grind (arith, nat_tests) in
    ap (λ t. cond t (Err (fault.Wide (total_of m.regions))) (Ok (record { image = image_file (bytes_in b) m; text = plan_text m }))) f ∙ ap (λ n. Err (fault.Wide n)) (sym is)

dumped-narrow : (b : List ℕ) (m : Mapping) → total_of m.regions ≤ 2 ^ 30 → dumped_by b (Ok m) ≡ Ok (record { image = image_file (bytes_in b) m; text = plan_text m })
dumped-narrow b m narrow =
    let f : nat_lt (2 ^ 30) (total_of m.regions) ≡ false = grind (arith, nat_tests) in
    ap (λ t. cond t (Err (fault.Wide (total_of m.regions))) (Ok (record { image = image_file (bytes_in b) m; text = plan_text m }))) f

-- what is made of the bytes
pub parts-refused : (format : Format) (b : List ℕ) (f : ReadingFault) → Err f ≡ plan_in format b → MakesParts format b (Err (Unread f))
parts-refused format b f is = ap (dumped_by b) (sym is)

pub parts-wide : (format : Format) (b : List ℕ) (m : Mapping) (total : ℕ) → Ok m ≡ plan_in format b → total ≡ total_of m.regions → 2 ^ 30 < total → MakesParts format b (Err (Unread (fault.Wide total)))
parts-wide format b m total is sum wide = ap (dumped_by b) (sym is) ∙ dumped-wide b m total sum wide

pub parts-made : (format : Format) (b : List ℕ) (m : Mapping) (total : ℕ) (image : Imaged) (parts : Parts) → Ok m ≡ plan_in format b → total ≡ total_of m.regions → total ≤ 2 ^ 30 → image ≡ record { plan = m; file = b }
    → ArePartsOf image parts → MakesParts format b (Ok parts)
parts-made format b m total image parts is sum narrow same made =
    let whole : parts.image ≡ record { plan = m; file = b } = made.image ∙ same in (
      ap (dumped_by b) (sym is)
          ∙ dumped-narrow b m (omega arith)
          ∙ ap (λ (i : Imaged). Ok (record { image = image_file (bytes_in i.file) i.plan; text = plan_text i.plan })) (sym whole)
          ∙ ap (λ t. Ok (record { image = image_file (bytes_in parts.image.file) parts.image.plan; text = t })) (sym (made.text ∙ ap (λ (i : Imaged). plan_text i.plan) (sym made.image))),
      made.front ∙ ap (λ (i : Imaged). front_of i.plan) (sym made.image),
    )

-- ---- the ends

pub dump-unread : (old new : FileState) (sink : SinkState) (format : Format) (name image : List ℕ) (cause : Cause) → Fetches old new name (Err cause) → DumpEnds old new sink sink format name image cause
dump-unread old new sink format name image (Unread f) h =
    (h.0, refl, λ m k. let t = h.1 m k in (t.0, t.1, dumped-large format t.0 t.2.0 ∙ ap Err (sym t.2.1)))
dump-unread old new sink format name image ReadFault h = (h, refl)
dump-unread old new sink format name image NoMemory h = (h, refl)
dump-unread old new sink format name image Done h = absurd h
dump-unread old new sink format name image (Refused f) h = absurd h
dump-unread old new sink format name image Usage h = absurd h
dump-unread old new sink format name image (Unbuilt word) h = absurd h
dump-unread old new sink format name image WriteFault h = absurd h
dump-unread old new sink format name image OutFault h = absurd h

is-dumped : (old new : FileState) (format : Format) (name : List ℕ) (bytes : Vec ℕ Global) (d : Result Dumped ReadingFault) → Fetches old new name (Ok bytes) → dumped_by bytes.items (plan_in format bytes.items) ≡ d
    → IsDumped old format name d
is-dumped old new format name bytes d h is m k =
    let t = h.2 m k in
    (t.0, t.1, ap (dumped_in format) (sym t.2) ∙ dumped-small format bytes.items h.1 ∙ is)

pub dump-refused : (old new : FileState) (sink : SinkState) (format : Format) (name image : List ℕ) (bytes : Vec ℕ Global) (cause : Cause) → Fetches old new name (Ok bytes) → MakesParts format bytes.items (Err cause)
    → DumpEnds old new sink sink format name image cause
dump-refused old new sink format name image bytes (Unread f) h m = (h.0, refl, is-dumped old new format name bytes (Err f) h m)
dump-refused old new sink format name image bytes NoMemory h m = (h.0, refl)
dump-refused old new sink format name image bytes ReadFault h m = absurd m
dump-refused old new sink format name image bytes Done h m = absurd m
dump-refused old new sink format name image bytes (Refused f) h m = absurd m
dump-refused old new sink format name image bytes Usage h m = absurd m
dump-refused old new sink format name image bytes (Unbuilt word) h m = absurd m
dump-refused old new sink format name image bytes WriteFault h m = absurd m
dump-refused old new sink format name image bytes OutFault h m = absurd m

pub dumped-parts : (old new : FileState) (format : Format) (name : List ℕ) (bytes : Vec ℕ Global) (parts : Parts) → Fetches old new name (Ok bytes) → MakesParts format bytes.items (Ok parts)
    → (new ≡ old) × IsDumped old format name (Ok (dumped_as parts))
dumped-parts old new format name bytes parts h m = (h.0, is-dumped old new format name bytes (Ok (dumped_as parts)) h m.0)

pub dump-printed : (old mid new : FileState) (before after : SinkState) (format : Format) (name image : List ℕ) (d : Dumped) (cause : Cause) → (mid ≡ old) × IsDumped old format name (Ok d)
    → IsMade mid new image d.image → Printed before after d.text cause → DumpEnds old new before after format name image cause
dump-printed old mid new before after format name image d Done h s p = (d, subst (λ o. IsMade o new image d.image) h.0 s, p, h.1)
dump-printed old mid new before after format name image d OutFault h s p = (d, subst (λ o. IsMade o new image d.image) h.0 s, p, h.1)
dump-printed old mid new before after format name image d (Refused f) h s p = absurd p
dump-printed old mid new before after format name image d (Unread f) h s p = absurd p
dump-printed old mid new before after format name image d Usage h s p = absurd p
dump-printed old mid new before after format name image d (Unbuilt word) h s p = absurd p
dump-printed old mid new before after format name image d ReadFault h s p = absurd p
dump-printed old mid new before after format name image d WriteFault h s p = absurd p
dump-printed old mid new before after format name image d NoMemory h s p = absurd p

pub dump-unwritten : (old mid new : FileState) (sink : SinkState) (format : Format) (name image : List ℕ) (d : Dumped) → (mid ≡ old) × IsDumped old format name (Ok d)
    → Makes mid new image d.image (Some Write) → DumpEnds old new sink sink format name image WriteFault
dump-unwritten old mid new sink format name image d h s = (d, subst (λ o. Makes o new image d.image (Some Write)) h.0 s, refl, h.1)

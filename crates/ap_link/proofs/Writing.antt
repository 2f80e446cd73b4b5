-- How far the areas of an input are written, and what is made of them.
use Rattle.std.proofs.Common.{◌≡◌, ◌≢◌, ℕ, ◌+◌, ◌-◌, ◌%◌, ◌<◌, true, false, List, [], ◌∷◌, ◌++◌, take, get_or, replicate, Option, Some, None, Ok, refl, sym, ap, ◌∙◌, subst, append_assoc, append-nil}
use Rattle.std.proofs.lemmas.Bool.{cond-true, cond-false}
use Rattle.ap_fields.specs.Bytes.{zeros}
use Rattle.ap_fields.specs.Granules.{IsGranule, ceil_of}
use Rattle.ap_fields.specs.Readings.{bytes_in}
use Rattle.ap_fields.specs.declared.sizes.TheConstants.{BLOCK}
use Rattle.ap_files.specs.Files.{FileState, IsUnfinished, HasRange, Starts, told_bytes}
use Rattle.ap_files.specs.Reads.{HasSize}
use Rattle.ap_files.specs.Appends.{Appends}
use Rattle.ap_files.specs.declared.failure.FileFault.{FileFault}
use Rattle.ap_files.proofs.Growing.{size-added, size-file, bytes-file}
use Rattle.ap_files.proofs.ReadLemmas.{has_range}
use Rattle.ap_files.proofs.Appending.{nothing, then, broken, still-unfinished, range-still, bytes-still}
use Rattle.ap_check.specs.declared.load.Load.{Load}
use Rattle.ap_layout.specs.declared.layout.Area.{Area}
use Rattle.ap_layout.specs.Areas.{content_of, content_length, end_of, end_from, is_new}
use Rattle.ap_elf.specs.Machines.{granule_of}
use Rattle.ap_check.specs.Inputs.{Taken}
use Rattle.ap_link.specs.declared.source.Source.{Source}
use Rattle.ap_link.specs.Linked.{areas_text, input_text}
use Rattle.ap_link.specs.Nexts.{AreNext}
use Rattle.ap_link.specs.Sources.{IsReadable, IsReadableSource, AreReadable, part_of, source_text, tail_told}
use Rattle.ap_link.proofs.AreaTexts.{text-new, text-old, area-parts, gap-room, tail-room, tail-count}

-- some areas are written, and those that are left lead to the whole
pub record Writing (old now : FileState) (out whole : List ℕ) (g : ℕ) (byte : ℕ → ℕ) (size end : ℕ) (loads : List Load) (areas : List Area) : Type 0 where
  pub text : List ℕ
  pub put : Appends old now out text None
  pub leads : text ++ areas_text end g byte loads areas ≡ whole
  pub next : AreNext g size end loads areas

pub writing-start : (s : FileState) (name out : List ℕ) (e : Taken) (g from : ℕ) (loads : List Load) (areas : List Area) → IsUnfinished s out → g ≡ granule_of e.machine → loads ≡ e.loads → AreNext (granule_of e.machine) e.size from e.loads areas
    → Writing s s out (input_text from e (told_bytes s.kept name) areas) g (bytes_in (told_bytes s.kept name)) e.size from loads areas
writing-start s name out e g from loads areas opened g-is loads-is follow =
    let byte : ℕ → ℕ = bytes_in (told_bytes s.kept name) in
    record {
      text = [];
      put = nothing s out opened;
      leads = ap (λ x. areas_text from x byte loads areas) g-is
          ∙ ap (λ x. areas_text from (granule_of e.machine) byte x areas) loads-is;
      next = subst (λ n. AreNext n e.size from loads areas) (sym g-is) (subst (λ x. AreNext (granule_of e.machine) e.size from x areas) (sym loads-is) follow);
    }

pub writing-here : (old now : FileState) (out whole : List ℕ) (g : ℕ) (byte : ℕ → ℕ) (size end : ℕ) (front rest : List Load) (ahead more : List Area) (p : Load) (a : Area) → front ≡ p ∷ rest → ahead ≡ a ∷ more
    → Writing old now out whole g byte size end front ahead → Writing old now out whole g byte size end (p ∷ rest) (a ∷ more)
writing-here old now out whole g byte size end front rest ahead more p a split split2 h =
    subst (λ x. Writing old now out whole g byte size end (p ∷ rest) x) split2 (subst (λ x. Writing old now out whole g byte size end x ahead) split h)

pub writing-open : (old now : FileState) (out whole : List ℕ) (g : ℕ) (byte : ℕ → ℕ) (size end : ℕ) (loads : List Load) (areas : List Area) → IsUnfinished old out → Writing old now out whole g byte size end loads areas → IsUnfinished now out
writing-open old now out whole g byte size end loads areas opened h = still-unfinished old now out h.text h.put opened

-- the part of the input that is asked for lies in it
pub writing-range : (old now : FileState) (input out whole : List ℕ) (g : ℕ) (byte : ℕ → ℕ) (size end : ℕ) (rest : List Load) (more : List Area) (p : Load) (a : Area) → is_new end a ≡ true → IsReadable old.kept input size out
    → Writing old now out whole g byte size end (p ∷ rest) (a ∷ more) → HasRange now.kept input p.offset p.filesz
writing-range old now input out whole g byte size end rest more p a on readable h =
    range-still old now input out h.text p.offset p.filesz readable.apart h.put (has_range old.kept input size p.offset p.filesz readable.size (h.next.0.part on))

-- the whole begins with what is written and the next area
new-leads : (old now : FileState) (out whole : List ℕ) (g : ℕ) (byte : ℕ → ℕ) (size end : ℕ) (rest : List Load) (more : List Area) (p : Load) (a : Area) → is_new end a ≡ true
    → (h : Writing old now out whole g byte size end (p ∷ rest) (a ∷ more)) → (h.text ++ (zeros (a.file - end) ++ content_of g byte p)) ++ areas_text (end_of a) g byte rest more ≡ whole
new-leads old now out whole g byte size end rest more p a on h =
    append_assoc h.text (zeros (a.file - end) ++ content_of g byte p) (areas_text (end_of a) g byte rest more)
    ∙ ap (λ x. h.text ++ x) (sym (text-new end g byte p rest a more on))
    ∙ h.leads

-- what an area has of the input's bytes now it has of those at first
piece-as : (old now new : FileState) (input out text : List ℕ) (g gap : ℕ) (p : Load) (o : Option FileFault) → input ≢ out → Appends old now out text None
    → Appends now new out (zeros gap ++ content_of g (bytes_in (told_bytes now.kept input)) p) o → Appends now new out (zeros gap ++ content_of g (bytes_in (told_bytes old.kept input)) p) o
piece-as old now new input out text g gap p o apart put h =
    subst (λ b. Appends now new out (zeros gap ++ content_of g (bytes_in b) p) o) (bytes-still old now input out text apart put) h

-- a new area is written
pub writing-new : (old now new : FileState) (input out whole : List ℕ) (g size end : ℕ) (rest : List Load) (more : List Area) (p : Load) (a : Area) → is_new end a ≡ true → input ≢ out
    → Writing old now out whole g (bytes_in (told_bytes old.kept input)) size end (p ∷ rest) (a ∷ more)
    → Appends now new out (zeros (a.file - end) ++ content_of g (bytes_in (told_bytes now.kept input)) p) None
    → Writing old new out whole g (bytes_in (told_bytes old.kept input)) size (end_of a) rest more
writing-new old now new input out whole g size end rest more p a on apart h put =
    let byte : ℕ → ℕ = bytes_in (told_bytes old.kept input) in
    let piece : List ℕ = zeros (a.file - end) ++ content_of g byte p in
    record {
      text = h.text ++ piece;
      put = then old now new out h.text piece None h.put (piece-as old now new input out h.text g (a.file - end) p None apart h.put put);
      leads = new-leads old now out whole g byte size end rest more p a on h;
      next = subst (λ e. AreNext g size e rest more) (cond-true (is_new end a) (end_of a) end on) h.next.1;
    }

-- an area that isn't new is passed over
pub writing-old : (old now : FileState) (out whole : List ℕ) (g : ℕ) (byte : ℕ → ℕ) (size end : ℕ) (rest : List Load) (more : List Area) (p : Load) (a : Area) → is_new end a ≡ false
    → Writing old now out whole g byte size end (p ∷ rest) (a ∷ more) → Writing old now out whole g byte size end rest more
writing-old old now out whole g byte size end rest more p a off h = record {
  text = h.text;
  put = h.put;
  leads = ap (λ x. h.text ++ x) (sym (text-old end g byte p rest a more off)) ∙ h.leads;
  next = subst (λ e. AreNext g size e rest more) (cond-false (is_new end a) (end_of a) end off) h.next.1;
}

-- a call fails within an area
pub writing-fails : (old now new : FileState) (input out whole : List ℕ) (g size end : ℕ) (rest : List Load) (more : List Area) (p : Load) (a : Area) (f : FileFault) → is_new end a ≡ true → input ≢ out
    → Writing old now out whole g (bytes_in (told_bytes old.kept input)) size end (p ∷ rest) (a ∷ more)
    → Appends now new out (zeros (a.file - end) ++ content_of g (bytes_in (told_bytes now.kept input)) p) (Some f) → Appends old new out whole (Some f)
writing-fails old now new input out whole g size end rest more p a f on apart h put =
    let byte : ℕ → ℕ = bytes_in (told_bytes old.kept input) in
    let piece : List ℕ = zeros (a.file - end) ++ content_of g byte p in
    subst (λ t. Appends old new out t (Some f)) (new-leads old now out whole g byte size end rest more p a on h)
    (broken old new out (h.text ++ piece) (areas_text (end_of a) g byte rest more) f
    (then old now new out h.text piece (Some f) h.put (piece-as old now new input out h.text g (a.file - end) p (Some f) apart h.put put)))

-- all are written
pub writing-end : (old now : FileState) (out whole : List ℕ) (g : ℕ) (byte : ℕ → ℕ) (size end : ℕ) (front : List Load) (ahead : List Area) → front ≡ [] → Writing old now out whole g byte size end front ahead → Appends old now out whole None
writing-end old now out whole g byte size end front ahead none h =
    subst (λ t. Appends old now out t None) (sym (append-nil h.text) ∙ ap (λ x. h.text ++ areas_text end g byte x ahead) (sym none) ∙ h.leads) h.put

-- ---- an area: zeros, the load's bytes, zeros

area-whole : (g gap : ℕ) (p : Load) (b : List ℕ) → IsGranule g → gap < g
    → take (gap + p.vaddr % g) (replicate 32768 0) ++ (part_of p.offset p.filesz b ++ take (content_length g p - (p.vaddr % g + p.filesz)) (replicate 32768 0)) ≡ zeros gap ++ content_of g (bytes_in b) p
area-whole g gap p b is low =
    area-parts g gap 32768 p b (take (gap + p.vaddr % g) (replicate 32768 0)) (take (content_length g p - (p.vaddr % g + p.filesz)) (replicate 32768 0))
    (gap-room g gap p.vaddr is low) (tail-room g p is) refl refl

pub front-fails : (old new : FileState) (input out : List ℕ) (g gap : ℕ) (p : Load) (f : FileFault) → IsGranule g → gap < g → Appends old new out (take (gap + p.vaddr % g) (replicate 32768 0)) (Some f)
    → Appends old new out (zeros gap ++ content_of g (bytes_in (told_bytes old.kept input)) p) (Some f)
front-fails old new input out g gap p f is low a =
    let b : List ℕ = told_bytes old.kept input in
    subst (λ t. Appends old new out t (Some f)) (area-whole g gap p b is low)
    (broken old new out (take (gap + p.vaddr % g) (replicate 32768 0)) (part_of p.offset p.filesz b ++ take (content_length g p - (p.vaddr % g + p.filesz)) (replicate 32768 0)) f a)

-- the part and what is behind it, behind the front
front-then : (old mid new : FileState) (input out : List ℕ) (g gap : ℕ) (p : Load) (o : Option FileFault) → IsGranule g → gap < g → input ≢ out → Appends old mid out (take (gap + p.vaddr % g) (replicate 32768 0)) None
    → Appends mid new out (part_of p.offset p.filesz (told_bytes mid.kept input) ++ take (content_length g p - (p.vaddr % g + p.filesz)) (replicate 32768 0)) o
    → Appends old new out (zeros gap ++ content_of g (bytes_in (told_bytes old.kept input)) p) o
front-then old mid new input out g gap p o is low apart a h =
    let b : List ℕ = told_bytes old.kept input in
    let front : List ℕ = take (gap + p.vaddr % g) (replicate 32768 0) in
    let behind : List ℕ = take (content_length g p - (p.vaddr % g + p.filesz)) (replicate 32768 0) in
    subst (λ t. Appends old new out t o) (area-whole g gap p b is low)
    (then old mid new out front (part_of p.offset p.filesz b ++ behind) o a
    (subst (λ x. Appends mid new out (part_of p.offset p.filesz x ++ behind) o) (bytes-still old mid input out front apart a) h))

pub part-fails : (old mid new : FileState) (input out : List ℕ) (g gap : ℕ) (p : Load) (f : FileFault) → IsGranule g → gap < g → input ≢ out → Appends old mid out (take (gap + p.vaddr % g) (replicate 32768 0)) None
    → Appends mid new out (part_of p.offset p.filesz (told_bytes mid.kept input)) (Some f) → Appends old new out (zeros gap ++ content_of g (bytes_in (told_bytes old.kept input)) p) (Some f)
part-fails old mid new input out g gap p f is low apart a h =
    front-then old mid new input out g gap p (Some f) is low apart a
    (broken mid new out (part_of p.offset p.filesz (told_bytes mid.kept input)) (take (content_length g p - (p.vaddr % g + p.filesz)) (replicate 32768 0)) f h)

pub area-ends : (old mid put new : FileState) (input out : List ℕ) (g gap n : ℕ) (p : Load) (o : Option FileFault) → IsGranule g → gap < g → n ≡ ceil_of (p.vaddr % g + p.filesz) g → input ≢ out → Appends old mid out (take (gap + p.vaddr % g) (replicate 32768 0)) None
    → Appends mid put out (part_of p.offset p.filesz (told_bytes mid.kept input)) None → Appends put new out (take (n - (p.vaddr % g + p.filesz)) (replicate 32768 0)) o
    → Appends old new out (zeros gap ++ content_of g (bytes_in (told_bytes old.kept input)) p) o
area-ends old mid put new input out g gap n p o is low count apart a h tail =
    front-then old mid new input out g gap p o is low apart a
    (then mid put new out (part_of p.offset p.filesz (told_bytes mid.kept input)) (take (content_length g p - (p.vaddr % g + p.filesz)) (replicate 32768 0)) o h
    (subst (λ k. Appends put new out (take k (replicate 32768 0)) o) (tail-count g n p count) tail))

-- ---- the areas of one or two inputs

-- inputs stay readable
readable-still : (old new : FileState) (name : List ℕ) (size : ℕ) (out text : List ℕ) → Appends old new out text None → IsReadable old.kept name size out → IsReadable new.kept name size out
readable-still old new name size out text a h = record {
  size = subst (λ k. HasSize k name size) (sym a.0.kept) (size-added old.kept name out text size h.apart h.size);
  apart = h.apart;
}

readable-started : (old new : FileState) (name : List ℕ) (size : ℕ) (out : List ℕ) → Starts old new out (Ok tt) → IsReadable old.kept name size out → IsReadable new.kept name size out
readable-started old new name size out s h = record {
  size = subst (λ k. HasSize k name size) (sym s.kept) (size-file old.kept name out [] size h.apart h.size);
  apart = h.apart;
}

all-still : (old new : FileState) (first : Source) (second : Option Source) (out text : List ℕ) → Appends old new out text None → AreReadable old.kept first second out → AreReadable new.kept first second out
all-still old new first None out text a h = (readable-still old new first.name.now first.input.now.size out text a h.0, tt)
all-still old new first (Some s) out text a h =
    (readable-still old new first.name.now first.input.now.size out text a h.0, readable-still old new s.name.now s.input.now.size out text a h.1)

all-started : (old new : FileState) (first : Source) (second : Option Source) (out : List ℕ) → Starts old new out (Ok tt) → AreReadable old.kept first second out → AreReadable new.kept first second out
all-started old new first None out a h = (readable-started old new first.name.now first.input.now.size out a h.0, tt)
all-started old new first (Some s) out a h =
    (readable-started old new first.name.now first.input.now.size out a h.0, readable-started old new s.name.now s.input.now.size out a h.1)

pub readable-now : (old mid new : FileState) (first : Source) (second : Option Source) (out text : List ℕ) → Starts old mid out (Ok tt) → Appends mid new out text None → AreReadable old.kept first second out → AreReadable new.kept first second out
readable-now old mid new first second out text s a h = all-still mid new first second out text a (all-started old mid first second out s h)

pub readable-second : (old new : FileState) (first s : Source) (second : Option Source) (out text : List ℕ) → second ≡ Some s → Appends old new out text None → AreReadable old.kept first second out → IsReadableSource new.kept out s
readable-second old new first s second out text is a h =
    let both : AreReadable old.kept first (Some s) out = subst (λ o. AreReadable old.kept first o out) is h in
    readable-still old new s.name.now s.input.now.size out text a both.1

-- the tail has the inputs' bytes as they were at first
second-tail : (old new : FileState) (first : Source) (second : Option Source) (areas : List (List Area)) (out : List ℕ) → AreReadable old.kept first second out
    → ((name : List ℕ) → name ≢ out → told_bytes new.kept name ≡ told_bytes old.kept name) → tail_told new.kept first second areas ≡ tail_told old.kept first second areas
second-tail old new first None areas out h same = ap (λ b. input_text BLOCK first.input.now b (get_or areas 0 [])) (same first.name.now h.0.apart)
second-tail old new first (Some s) areas out h same =
    let end : ℕ = end_from BLOCK (get_or areas 0 []) in
    ap (λ b. input_text BLOCK first.input.now b (get_or areas 0 []) ++ input_text end s.input.now (told_bytes new.kept s.name.now) (get_or areas 1 [])) (same first.name.now h.0.apart)
    ∙ ap (λ b. input_text BLOCK first.input.now (told_bytes old.kept first.name.now) (get_or areas 0 []) ++ input_text end s.input.now b (get_or areas 1 [])) (same s.name.now h.1.apart)

-- the block, and what is behind it
pub block-behind : (old mid put new : FileState) (first : Source) (second : Option Source) (areas : List (List Area)) (out block : List ℕ) (o : Option FileFault) → Starts old mid out (Ok tt) → Appends mid put out block None → AreReadable old.kept first second out
    → Appends put new out (tail_told put.kept first second areas) o → Appends mid new out (block ++ tail_told old.kept first second areas) o
block-behind old mid put new first second areas out block o s a h tail =
    let same : (name : List ℕ) → name ≢ out → told_bytes put.kept name ≡ told_bytes old.kept name =
    λ name apart. bytes-still mid put name out block apart a ∙ ap (λ k. told_bytes k name) s.kept ∙ bytes-file old.kept name out [] apart in
    then mid put new out block (tail_told old.kept first second areas) o a
    (subst (λ t. Appends put new out t o) (second-tail old put first second areas out h same) tail)

-- the first input's areas, alone or with the second's behind them
pub first-alone : (old new : FileState) (first : Source) (second : Option Source) (areas : List (List Area)) (one : List Area) (out : List ℕ) (o : Option FileFault) → second ≡ None → one ≡ get_or areas 0 []
    → Appends old new out (source_text BLOCK old.kept first one) o → Appends old new out (tail_told old.kept first second areas) o
first-alone old new first second areas one out o is are a =
    subst (λ x. Appends old new out (tail_told old.kept first x areas) o) (sym is) (subst (λ x. Appends old new out (source_text BLOCK old.kept first x) o) are a)

pub first-broken : (old new : FileState) (first : Source) (second : Option Source) (areas : List (List Area)) (one : List Area) (out : List ℕ) (f : FileFault) → one ≡ get_or areas 0 []
    → Appends old new out (source_text BLOCK old.kept first one) (Some f) → Appends old new out (tail_told old.kept first second areas) (Some f)
first-broken old new first None areas one out f are a = subst (λ x. Appends old new out (source_text BLOCK old.kept first x) (Some f)) are a
first-broken old new first (Some s) areas one out f are a =
    broken old new out (source_text BLOCK old.kept first (get_or areas 0 [])) (source_text (end_from BLOCK (get_or areas 0 [])) old.kept s (get_or areas 1 [])) f
    (subst (λ x. Appends old new out (source_text BLOCK old.kept first x) (Some f)) are a)

pub second-behind : (old mid new : FileState) (first s : Source) (second : Option Source) (areas : List (List Area)) (one two : List Area) (out : List ℕ) (end : ℕ) (o : Option FileFault) → second ≡ Some s → AreReadable old.kept first second out
    → one ≡ get_or areas 0 [] → two ≡ get_or areas 1 [] → end ≡ end_from BLOCK (get_or areas 0 [])
    → Appends old mid out (source_text BLOCK old.kept first one) None → Appends mid new out (source_text end mid.kept s two) o → Appends old new out (tail_told old.kept first second areas) o
second-behind old mid new first s second areas one two out end o is h are also ends a b =
    let both : AreReadable old.kept first (Some s) out = subst (λ x. AreReadable old.kept first x out) is h in
    let put = subst (λ x. Appends old mid out (source_text BLOCK old.kept first x) None) are a in
    subst (λ x. Appends old new out (tail_told old.kept first x areas) o) (sym is)
    (then old mid new out (source_text BLOCK old.kept first (get_or areas 0 [])) (source_text (end_from BLOCK (get_or areas 0 [])) old.kept s (get_or areas 1 [])) o put
    (subst (λ t. Appends mid new out t o)
    (ap (λ n. source_text n mid.kept s two) ends ∙ ap (source_text (end_from BLOCK (get_or areas 0 [])) mid.kept s) also
    ∙ ap (λ x. input_text (end_from BLOCK (get_or areas 0 [])) s.input.now x (get_or areas 1 [])) (bytes-still old mid s.name.now out (source_text BLOCK old.kept first (get_or areas 0 [])) both.1.apart put)) b))

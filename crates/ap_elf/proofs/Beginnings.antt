-- Symbols whose names don't begin with a text.
use Rattle.std.proofs.Common.{◌≡◌, ℕ, ◌+◌, ◌*◌, ◌≤◌, ◌&&◌, ◌==◌, nat_le, not, List, [], ◌∷◌, ◌++◌, Bool, true, false, None, length, take, drop, refl, sym, ap, ◌∙◌, subst, arith}
use Rattle.std.specs.Str.{bytes_eq}
use Rattle.std.proofs.lemmas.Bool.{le-leb}
use Rattle.ap_elf.specs.declared.types.Symbol.{Symbol}
use Rattle.ap_elf.specs.declared.types.Tables.{Tables}
use Rattle.ap_elf.specs.Symbols.{symbol_at, symbols_from, strings_of, stands_at, with_nul, value_among, EndBelow}
use Rattle.ap_elf.specs.Begun.{BeginsNot, NoneBegins}
use Rattle.ap_elf.proofs.Searches.{part-part, length-strings}
use Rattle.ap_elf.proofs.Values.{symbols_from-append, value-skipped}

none-append : (strings text : List ℕ) (xs ys : List Symbol) → NoneBegins strings text xs → NoneBegins strings text ys → NoneBegins strings text (xs ++ ys)
none-append strings text [] ys h k = k
none-append strings text (x ∷ xs) ys h k = (h.0, none-append strings text xs ys h.1 k)

-- symbols behind others, from a place on
pub more-begin : (strings text b : List ℕ) (at done count : ℕ) → NoneBegins strings text (symbols_from b at done) → NoneBegins strings text (symbols_from b (at + 24 * done) count)
    → NoneBegins strings text (symbols_from b at (done + count))
more-begin strings text b at done count h k =
    subst (NoneBegins strings text) (sym (symbols_from-append b at done count)) (none-append strings text (symbols_from b at done) (symbols_from b (at + 24 * done) count) h k)

-- and one symbol
pub one-begins : (strings text b : List ℕ) (i : ℕ) (s : Symbol) → s ≡ symbol_at b (24 * i) → BeginsNot strings text s → NoneBegins strings text (symbols_from b 0 i) → NoneBegins strings text (symbols_from b 0 (i + 1))
one-begins strings text b i s is here h =
    more-begin strings text b 0 i 1 h (subst (λ at. NoneBegins strings text (symbols_from b at 1)) (let e : 24 * i ≡ 0 + 24 * i = omega arith in e) (subst (BeginsNot strings text) is here, tt))

-- a text among the strings, by the file's bytes
pub text-file : (b text : List ℕ) (t : Tables) (at : ℕ) → EndBelow (length b) t → at + length text ≤ t.length
    → bytes_eq (take (length text) (drop (t.strings + at) b)) text ≡ stands_at (strings_of b t) text at
text-file b text t at ends fits =
    let long : length (strings_of b t) ≡ t.length = length-strings b t ends in
    let test : nat_le (at + length text) (length (strings_of b t)) ≡ true = le-leb _ _ (omega arith) in
    ap (λ l. bytes_eq l text) (sym (part-part b t.strings t.length at (length text) fits))
    ∙ ap (λ x. x && bytes_eq (take (length text) (drop at (strings_of b t))) text) (sym test)

-- a name that begins with a text that no symbol's name begins with is none's
pub value-begun-not : (strings text name : List ℕ) → ((at : ℕ) → stands_at strings (with_nul name) at ≡ true → stands_at strings text at ≡ true)
    → (symbols : List Symbol) → NoneBegins strings text symbols → value_among strings name symbols ≡ None
value-begun-not strings text name begins [] h = refl
value-begun-not strings text name begins (s ∷ symbols) h =
    value-skipped strings name s symbols (other (not (s.section == 0)) (stands_at strings (with_nul name) s.name) refl refl) ∙ value-begun-not strings text name begins symbols h.1
  where
    other : (d p : Bool) → d ≡ not (s.section == 0) → p ≡ stands_at strings (with_nul name) s.name → (d && p) ≡ false
    other false p e f = refl
    other true false e f = refl
    other true true e f =
        let stands : stands_at strings text s.name ≡ true = begins s.name (sym f) in
        let never : stands_at strings text s.name ≡ false = h.0 (sym e) in
        absurd (cc)

-- Marks of the places that symbols name.
use Rattle.std.proofs.Common.{◌≡◌, ℕ, ◌+◌, ◌*◌, ◌==◌, ◌&&◌, not, List, [], ◌∷◌, ◌++◌, Bool, true, false, None, refl, sym, ◌∙◌, subst, arith}
use Rattle.ap_elf.specs.declared.types.Symbol.{Symbol}
use Rattle.ap_elf.specs.declared.types.Tables.{Tables}
use Rattle.ap_elf.specs.Symbols.{symbol_at, symbols_from, strings_of, stands_at, with_nul, value_among, value_of}
use Rattle.ap_elf.specs.Seen.{may_stand, IsMarked, KeepsMarks, IsNamedBy, AreNamed, ShareNone}
use Rattle.ap_elf.proofs.Values.{symbols_from-append, value-skipped}

-- no marks leave every place open
pub named-by-none : (symbols : List Symbol) → AreNamed [] symbols
named-by-none [] = tt
named-by-none (s ∷ symbols) = (λ e. refl, named-by-none symbols)

pub still-named : (old new : List Bool) (symbols : List Symbol) → KeepsMarks old new → AreNamed old symbols → AreNamed new symbols
still-named old new [] kept h = tt
still-named old new (s ∷ symbols) kept h = (λ e. kept s.name (h.0 e), still-named old new symbols kept h.1)

named-append : (marks : List Bool) (xs ys : List Symbol) → AreNamed marks xs → AreNamed marks ys → AreNamed marks (xs ++ ys)
named-append marks [] ys h k = k
named-append marks (x ∷ xs) ys h k = (h.0, named-append marks xs ys h.1 k)

-- symbols behind others, from a place on
pub more-named : (b : List ℕ) (at done count : ℕ) (old new : List Bool) → KeepsMarks old new → AreNamed old (symbols_from b at done) → AreNamed new (symbols_from b (at + 24 * done) count)
    → AreNamed new (symbols_from b at (done + count))
more-named b at done count old new kept h k =
    subst (AreNamed new) (sym (symbols_from-append b at done count))
    (named-append new (symbols_from b at done) (symbols_from b (at + 24 * done) count) (still-named old new (symbols_from b at done) kept h) k)

-- and one symbol
pub one-named : (b : List ℕ) (i : ℕ) (s : Symbol) (old new : List Bool) → KeepsMarks old new → s ≡ symbol_at b (24 * i) → IsNamedBy new s → AreNamed old (symbols_from b 0 i) → AreNamed new (symbols_from b 0 (i + 1))
one-named b i s old new kept is here h =
    more-named b 0 i 1 old new kept h (subst (λ at. AreNamed new (symbols_from b at 1)) (let e : 24 * i ≡ 0 + 24 * i = omega arith in e) (subst (IsNamedBy new) is here, tt))

-- a name whose places no symbol names is none's
pub value-unnamed : (b name : List ℕ) (t : Tables) (marks named : List Bool) → IsMarked (strings_of b t) (with_nul name) marks → AreNamed named (symbols_from b t.at t.count) → ShareNone marks named → value_of b t name ≡ None
unfolding value_of
value-unnamed b name t marks named marked names apart = each (symbols_from b t.at t.count) names
  where
    none : (s : Symbol) (d p : Bool) → d ≡ not (s.section == 0) → p ≡ stands_at (strings_of b t) (with_nul name) s.name → IsNamedBy named s → (d && p) ≡ false
    none s false p e f h = refl
    none s true false e f h = refl
    none s true true e f h =
        let left : may_stand named s.name ≡ true = h (sym e) in
        let shut : may_stand named s.name ≡ false = apart s.name (marked s.name (sym f)) in
        absurd (cc)

    each : (symbols : List Symbol) → AreNamed named symbols → value_among (strings_of b t) name symbols ≡ None
    each [] h = refl
    each (s ∷ symbols) h = value-skipped (strings_of b t) name s symbols (none s (not (s.section == 0)) (stands_at (strings_of b t) (with_nul name) s.name) refl refl h.0) ∙ each symbols h.1

-- The value of a name among symbols.
use Rattle.std.proofs.Common.{◌≡◌, ℕ, zero, suc, ◌+◌, ◌*◌, ◌-◌, ◌≤◌, ◌==◌, ◌&&◌, not, List, [], ◌∷◌, ◌++◌, Bool, true, false, cond, Option, Some, None, refl, sym, ap, ◌∙◌, arith, ⊎_elim}
use Rattle.std.specs.Prelude.{find}
use Rattle.std.specs.Option.{option_map}
use Rattle.std.proofs.lemmas.Bool.{cases_Bool}
use Rattle.ap_elf.specs.declared.types.Symbol.{Symbol}
use Rattle.ap_elf.specs.declared.types.Tables.{Tables}
use Rattle.ap_elf.specs.Symbols.{symbol_at, symbols_from, strings_of, stands_at, with_nul, is_named, value_among, value_of, Stands}

-- the first symbol, and the others
first-symbol : (t : Bool) (v : ℕ) (s : Symbol) (rest : Option Symbol) → t ≡ true → option_map (λ (x : Symbol). x.value) (cond t (Some s) rest) ≡ Some s.value
first-symbol true v s rest e = refl
first-symbol false v s rest e = absurd (cc)

other-symbol : (t : Bool) (s : Symbol) (rest : Option Symbol) → t ≡ false → option_map (λ (x : Symbol). x.value) (cond t (Some s) rest) ≡ option_map (λ (x : Symbol). x.value) rest
other-symbol true s rest e = absurd (cc)
other-symbol false s rest e = refl

pub value-here : (strings name : List ℕ) (s : Symbol) (rest xs : List Symbol) (whole : Option ℕ) → whole ≡ value_among strings name xs → xs ≡ s ∷ rest → is_named strings name s ≡ true → Some s.value ≡ whole
value-here strings name s rest xs whole is split named =
    sym (is ∙ ap (value_among strings name) split ∙ first-symbol (is_named strings name s) 0 s (find (is_named strings name) rest) named)

pub value-next : (strings name : List ℕ) (s : Symbol) (rest xs : List Symbol) (whole : Option ℕ) → whole ≡ value_among strings name xs → xs ≡ s ∷ rest → is_named strings name s ≡ false
    → whole ≡ value_among strings name rest
value-next strings name s rest xs whole is split other =
    is ∙ ap (value_among strings name) split ∙ other-symbol (is_named strings name s) s (find (is_named strings name) rest) other

-- a symbol that hasn't the name
pub value-skipped : (strings name : List ℕ) (s : Symbol) (symbols : List Symbol) → is_named strings name s ≡ false → value_among strings name (s ∷ symbols) ≡ value_among strings name symbols
value-skipped strings name s symbols other = other-symbol (is_named strings name s) s (find (is_named strings name) symbols) other

-- symbols in two parts
pub value_among-append : (strings name : List ℕ) (xs ys : List Symbol)
    → (value_among strings name xs ≡ None → value_among strings name (xs ++ ys) ≡ value_among strings name ys)
    × ((v : ℕ) → value_among strings name xs ≡ Some v → value_among strings name (xs ++ ys) ≡ Some v)
value_among-append strings name [] ys = (λ e. refl, λ v e. absurd (cc))
value_among-append strings name (s ∷ xs) ys = by (is_named strings name s) (value_among-append strings name xs ys)
  where
    value : Option Symbol → Option ℕ
    value o = option_map (λ (x : Symbol). x.value) o

    by : (t : Bool) → (value (find (is_named strings name) xs) ≡ None → value (find (is_named strings name) (xs ++ ys)) ≡ value_among strings name ys)
        × ((v : ℕ) → value (find (is_named strings name) xs) ≡ Some v → value (find (is_named strings name) (xs ++ ys)) ≡ Some v)
        → (value (cond t (Some s) (find (is_named strings name) xs)) ≡ None → value (cond t (Some s) (find (is_named strings name) (xs ++ ys))) ≡ value_among strings name ys)
        × ((v : ℕ) → value (cond t (Some s) (find (is_named strings name) xs)) ≡ Some v → value (cond t (Some s) (find (is_named strings name) (xs ++ ys))) ≡ Some v)
    by true rest = (λ e. absurd (cc), λ v e. e)
    by false rest = rest

pub symbols_from-append : (b : List ℕ) (at m n : ℕ) → symbols_from b at (m + n) ≡ symbols_from b at m ++ symbols_from b (at + 24 * m) n
symbols_from-append b at zero n = ap (λ k. symbols_from b at k) (let e : 0 + n ≡ n = omega arith in e) ∙ ap (λ k. symbols_from b k n) (let e : at ≡ at + 24 * 0 = omega arith in e)
symbols_from-append b at (suc m) n =
    ap (λ k. symbols_from b at k) (let e : suc m + n ≡ suc (m + n) = omega arith in e)
    ∙ ap (λ l. symbol_at b at ∷ l) (symbols_from-append b (at + 24) m n ∙ ap (λ k. symbols_from b (at + 24) m ++ symbols_from b k n) (let e : at + 24 + 24 * m ≡ at + 24 * suc m = omega arith in e))

-- the symbols that are left, by the next block and the rest
block-step : (b : List ℕ) (o n done count : ℕ) → done + count ≤ n
    → symbols_from b (o + 24 * done) (n - done) ≡ symbols_from b (o + 24 * done) count ++ symbols_from b (o + 24 * (done + count)) (n - (done + count))
block-step b o n done count h =
    ap (λ k. symbols_from b (o + 24 * done) k) (let e : n - done ≡ count + (n - (done + count)) = omega arith in e)
    ∙ symbols_from-append b (o + 24 * done) count (n - (done + count))
    ∙ ap (λ k. symbols_from b (o + 24 * done) count ++ symbols_from b k (n - (done + count))) (let e : o + 24 * done + 24 * count ≡ o + 24 * (done + count) = omega arith in e)

pub block-next : (b strings name : List ℕ) (o n done count : ℕ) (whole : Option ℕ) → done + count ≤ n → whole ≡ value_among strings name (symbols_from b (o + 24 * done) (n - done))
    → None ≡ value_among strings name (symbols_from b (o + 24 * done) count) → whole ≡ value_among strings name (symbols_from b (o + 24 * (done + count)) (n - (done + count)))
block-next b strings name o n done count whole h left none =
    left ∙ ap (value_among strings name) (block-step b o n done count h)
    ∙ (value_among-append strings name (symbols_from b (o + 24 * done) count) (symbols_from b (o + 24 * (done + count)) (n - (done + count)))).0 (sym none)

pub block-found : (b strings name : List ℕ) (o n done count v : ℕ) (whole : Option ℕ) → done + count ≤ n → whole ≡ value_among strings name (symbols_from b (o + 24 * done) (n - done))
    → Some v ≡ value_among strings name (symbols_from b (o + 24 * done) count) → Some v ≡ whole
block-found b strings name o n done count v whole h left some =
    sym (left ∙ ap (value_among strings name) (block-step b o n done count h)
    ∙ (value_among-append strings name (symbols_from b (o + 24 * done) count) (symbols_from b (o + 24 * (done + count)) (n - (done + count)))).1 v (sym some))

-- a name that stands nowhere
no-symbol : (strings name : List ℕ) → ¬ Stands strings (with_nul name) → (s : Symbol) → is_named strings name s ≡ false
no-symbol strings name none s =
    ⊎_elim (λ yes. absurd (none (s.name, yes))) (λ no. by (not (s.section == 0)) no) (cases_Bool (stands_at strings (with_nul name) s.name))
  where
    by : (t : Bool) → stands_at strings (with_nul name) s.name ≡ false → (t && stands_at strings (with_nul name) s.name) ≡ false
    by true e = e
    by false e = refl

value_among-none : (strings name : List ℕ) → ¬ Stands strings (with_nul name) → (symbols : List Symbol) → value_among strings name symbols ≡ None
value_among-none strings name none [] = refl
value_among-none strings name none (s ∷ symbols) =
    other-symbol (is_named strings name s) s (find (is_named strings name) symbols) (no-symbol strings name none s) ∙ value_among-none strings name none symbols

pub value_of-nowhere : (b name : List ℕ) (t : Tables) → ¬ Stands (strings_of b t) (with_nul name) → value_of b t name ≡ None
unfolding value_of
value_of-nowhere b name t none = value_among-none (strings_of b t) name none (symbols_from b t.at t.count)

-- all symbols, before the first block
pub value-start : (b name : List ℕ) (t : Tables) → value_of b t name ≡ value_among (strings_of b t) name (symbols_from b (t.at + 24 * 0) (t.count - 0))
unfolding value_of
value-start b name t =
    let at : t.at + 24 * 0 ≡ t.at = omega arith in
    let n : t.count - 0 ≡ t.count = omega arith in
    rw (at, n) refl

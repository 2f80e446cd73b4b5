-- What is imported, item by item.
use Rattle.std.proofs.Common.{◌≡◌, ℕ, zero, suc, ◌-◌, subst, List, [], ◌∷◌, Option, Some, None, Result, Ok, Err, refl, sym, ap, ◌∙◌}
use Rattle.ap_image.specs.declared.import_step.Step.{Step}
use Rattle.ap_image.specs.declared.import_step.Step.TheVariants as step
use Rattle.ap_image.specs.declared.import_step.What.{What}
use Rattle.ap_image.specs.declared.import_step.What.TheVariants as what
use Rattle.ap_image.specs.declared.import_item.ImportEnd.{ImportEnd}
use Rattle.ap_image.specs.declared.import_item.ImportEnd.TheVariants as fails
use Rattle.ap_image.specs.declared.import_place.TheConstants.{HINT_SIZE}
use Rattle.ap_image.specs.declared.import_step.WalkFault.{WalkFault}
use Rattle.ap_image.specs.declared.import_step.Ending.{Ending}
use Rattle.ap_image.specs.declared.import_step.Ending.TheVariants as end
use Rattle.ap_image.specs.declared.import_place.Place.{Place}
use Rattle.ap_image.specs.declared.import_place.Found.{Found}
use Rattle.ap_image.specs.Cells.{Memory, CellsState, Unreadable}
use Rattle.ap_image.specs.ImportWalk.{Items, after, bytes_from, found, name_at, name_of, named_item, with_item, ended, end_at, items_by, items_from}
use Rattle.ap_image.specs.WalkSteps.{Walking, left_by, left_of}
use Rattle.ap_image.specs.Imports.{Gathers, fault_of}

-- the name of an item that is given was read
pub IsNamed : Memory → Step → Type 0
IsNamed m s = (name : List ℕ) × (name_of m s ≡ Ok name)

no_head : {X : Type 0} (x : X) (xs : List X) → [] ≡ x ∷ xs → ⊥
no_head x xs e = cc

head_of : {X : Type 0} (x y : X) (xs ys : List X) → x ∷ xs ≡ y ∷ ys → x ≡ y
head_of x y xs ys e = cc

not-ended : (e : Ending) (s : Step) (rest : Items) → ended e ≡ with_item s rest → ⊥
not-ended e s rest h = no_head s rest.items (ap (λ (i : Items). i.items) h)

named_by : (m : Memory) (x s : Step) (r : Result (List ℕ) WalkFault) (rest rest' : Items) → name_of m x ≡ r → named_item x r rest ≡ with_item s rest' → IsNamed m s
unfolding IsNamed
named_by m x s (Ok name) rest rest' e h =
    let same : x ≡ s = head_of x s rest.items rest'.items (ap (λ (i : Items). i.items) h) in
    (name, ap (name_of m) (sym same) ∙ e)
named_by m x s (Err f) rest rest' e h = absurd (not-ended (end.Fault f) s rest' h)

named_items : (m : Memory) (r : Result (Option Found) WalkFault) (rest : Place → Items) (s : Step) (rest' : Items) → items_by m r rest ≡ with_item s rest' → IsNamed m s
named_items m (Ok None) rest s rest' h = absurd (not-ended end.Done s rest' h)
named_items m (Ok (Some item)) rest s rest' h = named_by m item.step s (name_of m item.step) (rest item.next) rest' refl h
named_items m (Err f) rest s rest' h = absurd (not-ended (end.Fault f) s rest' h)

none_left : (r : Result (Option Found) WalkFault) (s : Step) (rest' : Items) → end_at r ≡ with_item s rest' → ⊥
none_left (Ok None) s rest' h = not-ended end.Done s rest' h
none_left (Ok (Some item)) s rest' h = not-ended _ s rest' h
none_left (Err f) s rest' h = not-ended (end.Fault f) s rest' h

named_from : (m : Memory) (base : ℕ) (stop : Option ℕ) (place : Place) (n : ℕ) (s : Step) (rest' : Items) → items_from m base stop place n ≡ with_item s rest' → IsNamed m s
unfolding items_from
named_from m base stop place zero s rest' h = absurd (none_left (found m base stop place.entry place.word) s rest' h)
named_from m base stop place (suc n) s rest' h = named_items m (found m base stop place.entry place.word) (λ next. items_from m base stop next n) s rest' h

named_left : (m : Memory) (w : Walking) (o : Option Ending) (s : Step) (rest' : Items) → left_by m w o ≡ with_item s rest' → IsNamed m s
named_left m w None s rest' h = named_from m w.base w.end w.place w.left s rest' h
named_left m w (Some e) s rest' h = absurd (not-ended e s rest' h)

ok_err : {X Y : Type 0} (x : X) (y : Y) (r : Result X Y) → r ≡ Ok x → r ≡ Err y → ⊥
ok_err x y r e f = cc

-- so reading it again doesn't fail
pub dll-read : (m : Memory) (w : Walking) (at : ℕ) (rest : Items) (f : WalkFault) → left_of m w ≡ with_item (step.Entry at) rest → name_at m at ≡ Err f → ⊥
unfolding IsNamed
dll-read m w at rest f h e = let named = named_left m w w.over (step.Entry at) rest h in ok_err named.0 f (name_at m at) named.1 e

pub behind_hint : (r name : Result (List ℕ) WalkFault) (bytes : List ℕ) → after r (λ hint. name) ≡ Ok bytes → name ≡ Ok bytes
behind_hint (Ok hint) name bytes h = h
behind_hint (Err f) name bytes h = absurd (cc)

named_word : (m : Memory) (w : What) (slot : ℕ) (f : WalkFault) → IsNamed m (step.Word w slot) → fault_of m w f → ⊥
unfolding IsNamed
named_word m (what.Name at) slot f named e = ok_err named.0 f (name_at m at) (behind_hint (bytes_from m (at - HINT_SIZE) HINT_SIZE) (name_at m at) named.0 named.1) e
named_word m (what.Ordinal number) slot f named e = e

pub word-read : (m : Memory) (w : Walking) (wanted : What) (slot : ℕ) (rest : Items) (f : WalkFault) → left_of m w ≡ with_item (step.Word wanted slot) rest → fault_of m wanted f → ⊥
word-read m w wanted slot rest f h e = named_word m wanted slot f (named_left m w w.over (step.Word wanted slot) rest h) e

-- a failure in what is gathered, whatever that is
abbrev pub Failing : CellsState → CellsState → (Memory → WalkFault → Type 0) → ImportEnd → Type 0
Failing old new F e = Gathers {T = Unit {0}} old new (λ m x. Unit {0}) F (Err e)

pub gather-fails : (old mid new : CellsState) (F F' : Memory → WalkFault → Type 0) (e : ImportEnd) → mid ≡ old → ((m : Memory) (f : WalkFault) → old.told ≡ Some m → F m f → ⊥)
    → Failing mid new F e → Failing old new F' e
gather-fails old mid new F F' (fails.Fault f) same h r = (r.0 ∙ same, λ m t. absurd (h m f t (r.1 m (ap (λ (s : CellsState). s.told) same ∙ t))))
gather-fails old mid new F F' fails.ReadFault same h r = subst (λ (s : CellsState). Unreadable s new) same r
gather-fails old mid new F F' fails.NoMemory same h r = r ∙ same

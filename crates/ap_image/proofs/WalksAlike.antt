-- Walks over memories of which one has the bytes of the other.
use Rattle.std.proofs.Common.{◌≡◌, ℕ, zero, suc, ◌+◌, ◌-◌, ◌==◌, nat_lt, if◌then◌else◌, Bool, true, false, List, [], ◌∷◌, Option, Some, None, Result, Ok, Err, refl, sym, ap, ◌∙◌}
use Rattle.ap_fields.specs.Fields.{number_at}
use Rattle.ap_image.specs.declared.import_step.Step.{Step}
use Rattle.ap_image.specs.declared.import_step.Step.TheVariants as step
use Rattle.ap_image.specs.declared.import_step.What.TheVariants as what
use Rattle.ap_image.specs.declared.import_step.WalkFault.{WalkFault}
use Rattle.ap_image.specs.declared.import_step.WalkCause.TheVariants.{Long}
use Rattle.ap_image.specs.declared.import_step.Ending.TheVariants as end
use Rattle.ap_image.specs.declared.import_place.Place.{Place}
use Rattle.ap_image.specs.declared.import_place.Found.{Found}
use Rattle.ap_image.specs.declared.import_place.Word as word
use Rattle.ap_image.specs.declared.import_place.TheConstants.{ENTRY_SIZE, WORD_SIZE, HINT_SIZE, MOST_NAME, MOST_ITEMS}
use Rattle.ap_image.specs.Cells.{Memory, StandsIn}
use Rattle.ap_image.specs.ImportWalk.{Items, after, byte_or, byte_at, bytes_from, name_from, name_at, entry_of, entry_at, entry_item, entry_read, entry_found, word_at, word_item, found, name_of, fault, named_item, with_item, end_at, items_by, items_from, items_of}
use Rattle.ap_image.specs.declared.import_item.Wanted.TheVariants as wanted
use Rattle.ap_image.proofs.ImportLists.{behind_hint}
use Rattle.ap_image.specs.Imports.{bytes_of_name, imports_in, imports_of}

-- what one gives the other gives too
Like : {T : Type 0} → Result T WalkFault → Result T WalkFault → Type 0
Like r q = (x : _) → r ≡ Ok x → q ≡ Ok x

like-same : {T : Type 0} (r : Result T WalkFault) → Like r r
unfolding Like
like-same r x e = e

like-err : {T : Type 0} (f : WalkFault) (q : Result T WalkFault) → Like (Err f) q
unfolding Like
like-err f q x e = absurd (cc)

like-after : {S T : Type 0} (r q : Result S WalkFault) (f g : S → Result T WalkFault) → Like r q → ((x : S) → Like (f x) (g x)) → Like (after r f) (after q g)
unfolding Like
like-after (Ok x) q f g h k y e = ap (λ q. after q g) (h x refl) ∙ k x y e
like-after (Err w) q f g h k y e = absurd (cc)

like-if : {T : Type 0} (b : Bool) (r q s t : Result T WalkFault) → Like r q → Like s t → Like (if b then r else s) (if b then q else t)
like-if true r q s t h k = h
like-if false r q s t h k = k

like-byte : (o p : Option ℕ) (a : ℕ) → ((x : ℕ) → o ≡ Some x → p ≡ Some x) → Like (byte_or o a) (byte_or p a)
unfolding Like
like-byte (Some x) p a h y e = ap (λ p. byte_or p a) (h x refl) ∙ e
like-byte None p a h y e = absurd (cc)

byte-like : (m n : Memory) (a : ℕ) → StandsIn m n → Like (byte_at m a) (byte_at n a)
byte-like m n a h = like-byte (m a) (n a) a (h a)

bytes-like : (m n : Memory) (a k : ℕ) → StandsIn m n → Like (bytes_from m a k) (bytes_from n a k)
unfolding bytes_from
bytes-like m n a zero h = like-same (Ok [])
bytes-like m n a (suc k) h =
    like-after (byte_at m a) (byte_at n a) (λ b. after (bytes_from m (suc a) k) (λ bytes. Ok (b ∷ bytes))) (λ b. after (bytes_from n (suc a) k) (λ bytes. Ok (b ∷ bytes))) (byte-like m n a h)
    (λ b. like-after (bytes_from m (suc a) k) (bytes_from n (suc a) k) (λ bytes. Ok (b ∷ bytes)) (λ bytes. Ok (b ∷ bytes)) (bytes-like m n (suc a) k h) (λ bytes. like-same (Ok (b ∷ bytes))))

name-like : (m n : Memory) (start a k : ℕ) → StandsIn m n → Like (name_from m start a k) (name_from n start a k)
unfolding name_from
name-like m n start a zero h =
    like-after (byte_at m a) (byte_at n a) (λ b. if b == 0 then Ok [] else Err (fault Long start)) (λ b. if b == 0 then Ok [] else Err (fault Long start)) (byte-like m n a h)
    (λ b. like-same (if b == 0 then Ok [] else Err (fault Long start)))
name-like m n start a (suc k) h =
    like-after (byte_at m a) (byte_at n a)
    (λ b. if b == 0 then Ok [] else after (name_from m start (suc a) k) (λ bytes. Ok (b ∷ bytes))) (λ b. if b == 0 then Ok [] else after (name_from n start (suc a) k) (λ bytes. Ok (b ∷ bytes)))
    (byte-like m n a h)
    (λ b. like-if (b == 0) (Ok []) (Ok []) (after (name_from m start (suc a) k) (λ bytes. Ok (b ∷ bytes))) (after (name_from n start (suc a) k) (λ bytes. Ok (b ∷ bytes))) (like-same (Ok []))
    (like-after (name_from m start (suc a) k) (name_from n start (suc a) k) (λ bytes. Ok (b ∷ bytes)) (λ bytes. Ok (b ∷ bytes)) (name-like m n start (suc a) k h) (λ bytes. like-same (Ok (b ∷ bytes)))))

entry-like : (m n : Memory) (base at : ℕ) → StandsIn m n → Like (entry_read m base at) (entry_read n base at)
entry-like m n base at h =
    like-after (entry_at m at) (entry_at n at) (λ e. Ok (entry_item base at e)) (λ e. Ok (entry_item base at e))
    (like-after (bytes_from m at ENTRY_SIZE) (bytes_from n at ENTRY_SIZE) (λ b. Ok (entry_of b)) (λ b. Ok (entry_of b)) (bytes-like m n at ENTRY_SIZE h) (λ b. like-same (Ok (entry_of b))))
    (λ e. like-same (Ok (entry_item base at e)))

like-else : {T : Type 0} (b : Bool) (f : WalkFault) (r q : Result T WalkFault) → Like r q → Like (if b then Err f else r) q
like-else true f r q h = like-err f q
like-else false f r q h = h

entry-found : (m n : Memory) (base : ℕ) (stop : Option ℕ) (at : ℕ) → StandsIn m n → Like (entry_found m base stop at) (entry_found n base None at)
entry-found m n base None at h = entry-like m n base at h
entry-found m n base (Some s) at h = like-else (nat_lt s (at + ENTRY_SIZE)) _ (entry_read m base at) (entry_read n base at) (entry-like m n base at h)

found-like : (m n : Memory) (base : ℕ) (stop : Option ℕ) (entry : ℕ) (p : Option word.Word) → StandsIn m n → Like (found m base stop entry p) (found n base None entry p)
found-like m n base stop entry None h = entry-found m n base stop entry h
found-like m n base stop entry (Some p) h =
    like-after (word_at m p.at) (word_at n p.at)
    (λ w. if w == 0 then entry_found m base stop entry else Ok (Some (word_item base entry p w))) (λ w. if w == 0 then entry_found n base None entry else Ok (Some (word_item base entry p w)))
    (like-after (bytes_from m p.at WORD_SIZE) (bytes_from n p.at WORD_SIZE) (λ b. Ok (number_at 8 0 b)) (λ b. Ok (number_at 8 0 b)) (bytes-like m n p.at WORD_SIZE h) (λ b. like-same (Ok (number_at 8 0 b))))
    (λ w. like-if (w == 0) (entry_found m base stop entry) (entry_found n base None entry) (Ok (Some (word_item base entry p w))) (Ok (Some (word_item base entry p w)))
    (entry-found m n base stop entry h) (like-same (Ok (Some (word_item base entry p w)))))

item-name : (m n : Memory) (s : Step) → StandsIn m n → Like (name_of m s) (name_of n s)
item-name m n (step.Entry dll) h = name-like m n dll dll MOST_NAME h
item-name m n (step.Word (what.Name at) slot) h =
    like-after (bytes_from m (at - HINT_SIZE) HINT_SIZE) (bytes_from n (at - HINT_SIZE) HINT_SIZE) (λ hint. name_at m at) (λ hint. name_at n at)
    (bytes-like m n (at - HINT_SIZE) HINT_SIZE h) (λ hint. name-like m n at at MOST_NAME h)
item-name m n (step.Word (what.Ordinal number) slot) h = like-same (Ok [])
item-name m n step.Done h = like-same (Ok [])

-- a walk that isn't ended by a fault
last-like : (r q : Result (Option Found) WalkFault) → Like r q → (end_at r).ending ≡ end.Done → end_at q ≡ end_at r
unfolding Like
last-like (Ok None) q h e = ap end_at (h None refl)
last-like (Ok (Some item)) q h e = absurd (cc)
last-like (Err f) q h e = absurd (cc)

named-like : (s : Step) (r q : Result (List ℕ) WalkFault) (rest others : Items) → Like r q → (rest.ending ≡ end.Done → others ≡ rest) → (named_item s r rest).ending ≡ end.Done
    → named_item s q others ≡ named_item s r rest
unfolding Like
named-like s (Ok name) q rest others h k e = ap (λ q. named_item s q others) (h name refl) ∙ ap (with_item s) (k e)
named-like s (Err f) q rest others h k e = absurd (cc)

by-like : (m n : Memory) (r q : Result (Option Found) WalkFault) (rest others : Place → Items) → StandsIn m n → Like r q → ((p : Place) → (rest p).ending ≡ end.Done → others p ≡ rest p)
    → (items_by m r rest).ending ≡ end.Done → items_by n q others ≡ items_by m r rest
unfolding Like
by-like m n (Ok None) q rest others h l k e = ap (λ q. items_by n q others) (l None refl)
by-like m n (Ok (Some item)) q rest others h l k e =
    ap (λ q. items_by n q others) (l (Some item) refl)
    ∙ named-like item.step (name_of m item.step) (name_of n item.step) (rest item.next) (others item.next) (item-name m n item.step h) (k item.next) e
by-like m n (Err f) q rest others h l k e = absurd (cc)

items-like : (m n : Memory) (base : ℕ) (stop : Option ℕ) (place : Place) (k : ℕ) → StandsIn m n → (items_from m base stop place k).ending ≡ end.Done
    → items_from n base None place k ≡ items_from m base stop place k
unfolding items_from
items-like m n base stop place zero h e =
    last-like (found m base stop place.entry place.word) (found n base None place.entry place.word) (found-like m n base stop place.entry place.word h) e
items-like m n base stop place (suc k) h e =
    by-like m n (found m base stop place.entry place.word) (found n base None place.entry place.word) (λ next. items_from m base stop next k) (λ next. items_from n base None next k) h
    (found-like m n base stop place.entry place.word h) (λ next. items-like m n base stop next k h) e

pub walk-stands : (m n : Memory) (base table : ℕ) (stop : Option ℕ) → StandsIn m n → (items_of m base table stop).ending ≡ end.Done → items_of n base table None ≡ items_of m base table stop
walk-stands m n base table stop h e = items-like m n base stop (record { entry = table; word = None }) MOST_ITEMS h e

-- and its names are the same
same-name : (r q : Result (List ℕ) WalkFault) (name : List ℕ) → Like r q → r ≡ Ok name → bytes_of_name q ≡ bytes_of_name r
unfolding Like
same-name r q name h e = ap bytes_of_name (h name e ∙ sym e)

import-like : (m n : Memory) (s : Step) (name dll : List ℕ) (items : List Step) → StandsIn m n → name_of m s ≡ Ok name → ((d : List ℕ) → imports_in n d items ≡ imports_in m d items)
    → imports_in n dll (s ∷ items) ≡ imports_in m dll (s ∷ items)
import-like m n (step.Entry at) name dll items h e k =
    ap (λ d. imports_in n d items) (same-name (name_at m at) (name_at n at) name (name-like m n at at MOST_NAME h) e) ∙ k (bytes_of_name (name_at m at))
import-like m n (step.Word (what.Name at) slot) name dll items h e k =
    let read = behind_hint (bytes_from m (at - HINT_SIZE) HINT_SIZE) (name_at m at) name e in
    ap (λ w. record { dll = dll; what = wanted.Name w; slot = slot } ∷ imports_in n dll items) (same-name (name_at m at) (name_at n at) name (name-like m n at at MOST_NAME h) read)
    ∙ ap (λ l. record { dll = dll; what = wanted.Name (bytes_of_name (name_at m at)); slot = slot } ∷ l) (k dll)
import-like m n (step.Word (what.Ordinal number) slot) name dll items h e k = ap (λ l. record { dll = dll; what = wanted.Ordinal number; slot = slot } ∷ l) (k dll)
import-like m n step.Done name dll items h e k = k dll

none-last : (r : Result (Option Found) WalkFault) → (end_at r).items ≡ []
none-last (Ok None) = refl
none-last (Ok (Some item)) = refl
none-last (Err f) = refl

imports-named : (m n : Memory) (s : Step) (r : Result (List ℕ) WalkFault) (rest : Items) (dll : List ℕ) → StandsIn m n → name_of m s ≡ r → ((d : List ℕ) → imports_in n d rest.items ≡ imports_in m d rest.items)
    → imports_in n dll (named_item s r rest).items ≡ imports_in m dll (named_item s r rest).items
imports-named m n s (Ok name) rest dll h e k = import-like m n s name dll rest.items h e k
imports-named m n s (Err f) rest dll h e k = refl

imports-by : (m n : Memory) (r : Result (Option Found) WalkFault) (rest : Place → Items) (dll : List ℕ) → StandsIn m n → ((p : Place) (d : List ℕ) → imports_in n d (rest p).items ≡ imports_in m d (rest p).items)
    → imports_in n dll (items_by m r rest).items ≡ imports_in m dll (items_by m r rest).items
imports-by m n (Ok None) rest dll h k = refl
imports-by m n (Ok (Some item)) rest dll h k = imports-named m n item.step (name_of m item.step) (rest item.next) dll h refl (k item.next)
imports-by m n (Err f) rest dll h k = refl

imports-from : (m n : Memory) (base : ℕ) (stop : Option ℕ) (place : Place) (k : ℕ) (dll : List ℕ) → StandsIn m n
    → imports_in n dll (items_from m base stop place k).items ≡ imports_in m dll (items_from m base stop place k).items
unfolding items_from
imports-from m n base stop place zero dll h =
    let none = none-last (found m base stop place.entry place.word) in
    ap (imports_in n dll) none ∙ sym (ap (imports_in m dll) none)
imports-from m n base stop place (suc k) dll h =
    imports-by m n (found m base stop place.entry place.word) (λ next. items_from m base stop next k) dll h (λ next d. imports-from m n base stop next k d h)

pub imports-stand : (m n : Memory) (base table : ℕ) (stop : Option ℕ) → StandsIn m n → (items_of m base table stop).ending ≡ end.Done
    → imports_of n (items_of n base table None) ≡ imports_of m (items_of m base table stop)
imports-stand m n base table stop h e =
    ap (λ (i : Items). imports_of n i) (walk-stands m n base table stop h e) ∙ imports-from m n base stop (record { entry = table; word = None }) MOST_ITEMS [] h

pub ruleset alike_steps = (walk-stands, imports-stand)

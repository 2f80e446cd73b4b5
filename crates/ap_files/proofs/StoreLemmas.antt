-- What a store holds, by its slots, and once one of them has changed.
use Rattle.std.proofs.Common.{◌≡◌, ℕ, ◌≤◌, ◌<◌, ◌+◌, max, nat_le, IsSome, Bool, List, [], ◌∷◌, ◌++◌, length, get_or, set, refl, sym, ap, ◌∙◌, subst, arith, Option, Some, None, unwrap_or}
use Rattle.std.specs.Option.{ForSome}
use Rattle.std.specs.FinMap as map
use Rattle.ap_files.specs.Slots.{FileSlot, put, map_in, files_in, rooms_in, name_in}
use Rattle.ap_files.specs.Places.{IsFirst, IsNowhere}
use Rattle.ap_files.specs.Stores.{Stored, stored_in, nothing_stored, reserved_in}
use Rattle.ap_files.proofs.NameMaps.{put-same, get_changed}
use Rattle.ap_files.proofs.SlotLemmas.{get_nowhere, get_first, map_in-set, map_in-push, name_of_first, name_in-first, name_in-set, name_in-push}

pub no_slots : (place : Option ℕ) → place ≡ None → (slots : List FileSlot) → slots ≡ [] → stored_in slots place ≡ nothing_stored
unfolding map_in
no_slots place p slots e = rw (e, p) refl

same_stored : (a b : Stored) → a.files ≡ b.files → a.rooms ≡ b.rooms → a.unfinished ≡ b.unfinished → a ≡ b
same_stored a b f r u i = record { files = f i; rooms = r i; unfinished = u i }

-- look-ups

pub file_at : (slots : List FileSlot) (place : Option ℕ) (m : Stored) (q : List ℕ) (i : ℕ) (s : FileSlot) → stored_in slots place ≡ m → IsFirst slots q i → s ≡ get_or slots i s → map.get m.files q ≡ s.file
file_at slots place m q i s e first is =
    ap (λ m. map.get m.files q) (sym e) ∙ get_first (λ s. s.file) slots q i s first ∙ ap (λ s. s.file) (sym is)

pub no_file : (slots : List FileSlot) (place : Option ℕ) (m : Stored) (q : List ℕ) → stored_in slots place ≡ m → IsNowhere slots q → map.get m.files q ≡ None
no_file slots place m q e nowhere = ap (λ m. map.get m.files q) (sym e) ∙ get_nowhere (λ s. s.file) slots q nowhere

pub room_at : (slots : List FileSlot) (place : Option ℕ) (m : Stored) (q : List ℕ) (i : ℕ) (s : FileSlot) → stored_in slots place ≡ m → IsFirst slots q i → s ≡ get_or slots i s → map.get m.rooms q ≡ Some s.room
room_at slots place m q i s e first is =
    ap (λ m. map.get m.rooms q) (sym e) ∙ get_first (λ s. Some s.room) slots q i s first ∙ ap (λ s. Some s.room) (sym is)

pub no_room : (slots : List FileSlot) (place : Option ℕ) (m : Stored) (q : List ℕ) → stored_in slots place ≡ m → IsNowhere slots q → map.get m.rooms q ≡ None
no_room slots place m q e nowhere = ap (λ m. map.get m.rooms q) (sym e) ∙ get_nowhere (λ s. Some s.room) slots q nowhere

-- a slot that changes

name_at : (slots : List FileSlot) (q : List ℕ) (i : ℕ) (s : FileSlot) → IsFirst slots q i → s ≡ get_or slots i s → s.name ≡ q
name_at slots q i s first is = ap (λ s. s.name) is ∙ name_of_first slots q i s first

-- a value that stays
kept : {V : Type 0} (f : FileSlot → Option V) (slots : List FileSlot) (q : List ℕ) (i : ℕ) (s s' : FileSlot) → IsFirst slots q i → s ≡ get_or slots i s → s'.name ≡ s.name → f s' ≡ f s → map_in f (set slots i s') ≡ map_in f slots
kept f slots q i s s' first is n e =
    map_in-set f slots q i s' first (n ∙ name_at slots q i s first is)
    ∙ ap (put (map_in f slots) q) e
    ∙ put-same (map_in f slots) q (f s) (get_first f slots q i s first ∙ ap f (sym is))

-- its file has other bytes
pub rewritten : (slots : List FileSlot) (place then : Option ℕ) (m : Stored) (q : List ℕ) (i : ℕ) (s s' : FileSlot) (b : List ℕ) → stored_in slots place ≡ m → IsFirst slots q i → s ≡ get_or slots i s → s' ≡ record s { file = Some b } → stored_in (set slots i s') then ≡ record m { files = map.insert m.files q b; unfinished = name_in slots then }
rewritten slots place then m q i s s' b e first is new =
    subst (λ (m : Stored). stored_in (set slots i s') then ≡ record m { files = map.insert m.files q b; unfinished = name_in slots then }) e
    (same_stored (stored_in (set slots i s') then) (record (stored_in slots place) { files = map.insert (files_in slots) q b; unfinished = name_in slots then })
    (map_in-set (λ s. s.file) slots q i s' first (ap (λ s. s.name) new ∙ name_at slots q i s first is) ∙ ap (λ s. put (files_in slots) q s.file) new)
    (kept (λ s. Some s.room) slots q i s s' first is (ap (λ s. s.name) new) (ap (λ s. Some s.room) new))
    (name_in-set slots i then s s' (ap (λ s. s.name) new ∙ ap (λ s. s.name) is)))

-- its file has other bytes, and is the unfinished one
pub taken_up : (slots : List FileSlot) (place : Option ℕ) (m : Stored) (q : List ℕ) (i : ℕ) (s s' : FileSlot) (b : List ℕ) → stored_in slots place ≡ m → IsFirst slots q i → s ≡ get_or slots i s → s' ≡ record s { file = Some b } → stored_in (set slots i s') (Some i) ≡ record m { files = map.insert m.files q b; unfinished = Some q }
taken_up slots place m q i s s' b e first is new =
    rewritten slots place (Some i) m q i s s' b e first is new
    ∙ ap (λ u. record m { files = map.insert m.files q b; unfinished = u }) (name_in-first slots q i first)

-- its file has other bytes, and what is unfinished stays
pub filled : (slots : List FileSlot) (place : Option ℕ) (m : Stored) (q : List ℕ) (i : ℕ) (s s' : FileSlot) (b : List ℕ) → stored_in slots place ≡ m → IsFirst slots q i → s ≡ get_or slots i s → s' ≡ record s { file = Some b } → stored_in (set slots i s') place ≡ record m { files = map.insert m.files q b }
filled slots place m q i s s' b e first is new =
    rewritten slots place place m q i s s' b e first is new
    ∙ ap (λ (n : Stored). record m { files = map.insert m.files q b; unfinished = n.unfinished }) e

-- its room is wider
pub widened : (slots : List FileSlot) (place : Option ℕ) (m : Stored) (q : List ℕ) (i : ℕ) (s s' : FileSlot) (room : ℕ) → stored_in slots place ≡ m → IsFirst slots q i → s ≡ get_or slots i s → s' ≡ record s { room = max s.room room } → stored_in (set slots i s') place ≡ reserved_in m q room
widened slots place m q i s s' room e first is new =
    subst (λ m. stored_in (set slots i s') place ≡ reserved_in m q room) e
    (same_stored (stored_in (set slots i s') place) (reserved_in (stored_in slots place) q room)
    (kept (λ s. s.file) slots q i s s' first is (ap (λ s. s.name) new) (ap (λ s. s.file) new))
    (map_in-set (λ s. Some s.room) slots q i s' first (ap (λ s. s.name) new ∙ name_at slots q i s first is)
    ∙ ap (λ s. map.insert (rooms_in slots) q s.room) new
    ∙ ap (λ o. map.insert (rooms_in slots) q (max (unwrap_or o 0) room)) (sym (room_at slots place (stored_in slots place) q i s refl first is)))
    (name_in-set slots i place s s' (ap (λ s. s.name) new ∙ ap (λ s. s.name) is)))

-- a slot behind the others

named_as_before : (slots : List FileSlot) (place : Option ℕ) (s' : FileSlot) → ForSome place (λ i. i < length slots) → name_in (slots ++ s' ∷ []) place ≡ name_in slots place
named_as_before slots None s' h = refl
named_as_before slots (Some i) s' h = name_in-push slots i s' (h i refl)

widest : (room : ℕ) → room ≡ max 0 room
widest room = omega arith

pub added : (slots : List FileSlot) (place : Option ℕ) (m : Stored) (q : List ℕ) (room : ℕ) (s' : FileSlot) → stored_in slots place ≡ m → IsNowhere slots q → ForSome place (λ i. i < length slots) → s' ≡ record { name = q; room = room; file = None } → stored_in (slots ++ s' ∷ []) place ≡ reserved_in m q room
added slots place m q room s' e nowhere below new =
    let s : FileSlot = record { name = q; room = room; file = None } in
    subst (λ s. stored_in (slots ++ s ∷ []) place ≡ reserved_in m q room) (sym new)
    (subst (λ m. stored_in (slots ++ s ∷ []) place ≡ reserved_in m q room) e
    (same_stored (stored_in (slots ++ s ∷ []) place) (reserved_in (stored_in slots place) q room)
    (map_in-push (λ s. s.file) slots s nowhere ∙ put-same (files_in slots) q None (get_nowhere (λ s. s.file) slots q nowhere))
    (map_in-push (λ s. Some s.room) slots s nowhere
    ∙ ap (map.insert (rooms_in slots) q) (widest room)
    ∙ ap (λ o. map.insert (rooms_in slots) q (max (unwrap_or o 0) room)) (sym (get_nowhere (λ s. Some s.room) slots q nowhere)))
    (named_as_before slots place s below)))

-- room that was made is there

room_made : (m : Stored) (q : List ℕ) (room : ℕ) → map.get (reserved_in m q room).rooms q ≡ Some (max (unwrap_or (map.get m.rooms q) 0) room)
room_made m q room = get_changed m.rooms q (Some (max (unwrap_or (map.get m.rooms q) 0) room))

some_is : (a b room : ℕ) → Some a ≡ Some (max b room) → room ≤ a
some_is a b room e = let same : a ≡ max b room = cc in omega arith

pub room_enough : (m m' : Stored) (q : List ℕ) (room r : ℕ) → m' ≡ reserved_in m q room → map.get m'.rooms q ≡ Some r → room ≤ r
room_enough m m' q room r e h =
    some_is r (unwrap_or (map.get m.rooms q) 0) room (sym h ∙ ap (λ m. map.get m.rooms q) e ∙ room_made m q room)

pub room_there : (m m' : Stored) (q : List ℕ) (room : ℕ) → m' ≡ reserved_in m q room → map.get m'.rooms q ≡ None → ⊥
room_there m m' q room e h =
    let same : None ≡ Some (max (unwrap_or (map.get m.rooms q) 0) room) = sym h ∙ ap (λ m. map.get m.rooms q) e ∙ room_made m q room in cc

-- what a slot answers to an append is what its store answers
pub fits_as : (o files : Option (List ℕ)) (r : ℕ) (rooms : Option ℕ) (n : ℕ) (b : Bool) → files ≡ o → rooms ≡ Some r → b ≡ nat_le (length (unwrap_or o []) + n) r → b ≡ nat_le (length (unwrap_or files []) + n) (unwrap_or rooms 0)
fits_as o files r rooms n b f e h = rw (f, e) h

pub not_there : (o : Option (List ℕ)) → IsSome o → o ≡ None → ⊥
not_there None h e = absurd (cc)
not_there (Some b) h e = cc

-- A step of a walk, and what is left of it.
use Rattle.std.proofs.Common.{◌≡◌, ℕ, zero, suc, ◌-◌, ◌<◌, List, Option, Some, None, IfSome, Result, Ok, Err, refl, sym, ap, ◌∙◌, arith, subst}
use Rattle.ap_image.specs.declared.import_step.Step.{Step}
use Rattle.ap_image.specs.declared.import_step.Step.TheVariants.{Entry, Word, Done}
use Rattle.ap_image.specs.declared.import_step.WalkFault.{WalkFault}
use Rattle.ap_image.specs.declared.import_step.Ending.{Ending}
use Rattle.ap_image.specs.declared.import_step.Ending.TheVariants as end
use Rattle.ap_image.specs.declared.import_step.WalkEnd.TheVariants.{Fault}
use Rattle.ap_image.specs.declared.import_place.Place.{Place}
use Rattle.ap_image.specs.declared.import_place.Found.{Found}
use Rattle.ap_image.specs.Cells.{Memory, CellsState}
use Rattle.ap_image.specs.ImportWalk.{Items, after, found, name_of, named_item, ended, end_at, with_item, items_by, items_from}
use Rattle.ap_image.specs.declared.import_step.WalkEnd.{WalkEnd}
use Rattle.ap_image.specs.WalkSteps.{IsNear, Fetches, Walking, left_by, left_of, taken, next_of, Steps, Ends, Gives}
use Rattle.ap_image.specs.WalkBounds.{IsFound, IsItem, IsWalking}

some_item : (x item : Found) (q : Result (List ℕ) WalkFault) (rest : Place → Items) → after q (λ name. Ok (Some x)) ≡ Ok (Some item) → named_item x.step q (rest x.next) ≡ with_item item.step (rest item.next)
some_item x item (Ok name) rest e = let same : x ≡ item = cc in ap (λ (i : Found). with_item i.step (rest i.next)) same
some_item x item (Err f) rest e = absurd (cc)

pub by-item : (m : Memory) (r : Result (Option Found) WalkFault) (n : ℕ) (rest : Place → Items) (item : Found)
    → after r (λ o. taken m (suc n) o) ≡ Ok (Some item) → items_by m r rest ≡ with_item item.step (rest item.next)
by-item m (Ok None) n rest item e = absurd (cc)
by-item m (Ok (Some x)) n rest item e = some_item x item (name_of m x.step) rest e
by-item m (Err f) n rest item e = absurd (cc)

no_item : (x : Found) (q : Result (List ℕ) WalkFault) → after q (λ name. Ok (Some x)) ≡ Ok None → ⊥
no_item x (Ok name) e = cc
no_item x (Err f) e = cc

by-end : (m : Memory) (r : Result (Option Found) WalkFault) (n : ℕ) (rest : Place → Items) → after r (λ o. taken m (suc n) o) ≡ Ok None → items_by m r rest ≡ ended end.Done
by-end m (Ok None) n rest e = refl
by-end m (Ok (Some x)) n rest e = absurd (no_item x (name_of m x.step) e)
by-end m (Err f) n rest e = absurd (cc)

last-end : (m : Memory) (r : Result (Option Found) WalkFault) → after r (λ o. taken m zero o) ≡ Ok None → end_at r ≡ ended end.Done
last-end m (Ok None) e = refl
last-end m (Ok (Some x)) e = absurd (cc)
last-end m (Err f) e = absurd (cc)

fault_item : (x : Found) (q : Result (List ℕ) WalkFault) (rest : Items) (f : WalkFault) → after q (λ name. Ok (Some x)) ≡ Err f → named_item x.step q rest ≡ ended (end.Fault f)
fault_item x (Ok name) rest f e = absurd (cc)
fault_item x (Err g) rest f e = let same : g ≡ f = cc in ap (λ f. ended (end.Fault f)) same

by-fault : (m : Memory) (r : Result (Option Found) WalkFault) (n : ℕ) (rest : Place → Items) (f : WalkFault) → after r (λ o. taken m (suc n) o) ≡ Err f → items_by m r rest ≡ ended (end.Fault f)
by-fault m (Ok None) n rest f e = absurd (cc)
by-fault m (Ok (Some x)) n rest f e = fault_item x (name_of m x.step) (rest x.next) f e
by-fault m (Err g) n rest f e = let same : g ≡ f = cc in ap (λ f. ended (end.Fault f)) same

last-fault : (m : Memory) (r : Result (Option Found) WalkFault) (f : WalkFault) → after r (λ o. taken m zero o) ≡ Err f → end_at r ≡ ended (end.Fault f)
last-fault m (Ok None) f e = absurd (cc)
last-fault m (Ok (Some x)) f e = cc
last-fault m (Err g) f e = cc

-- the items that are left, by the next one
left-item : (m : Memory) (base : ℕ) (stop : Option ℕ) (place : Place) (n : ℕ) (item : Found)
    → after (found m base stop place.entry place.word) (λ o. taken m (suc n) o) ≡ Ok (Some item)
    → items_from m base stop place (suc n) ≡ with_item item.step (items_from m base stop item.next n)
unfolding items_from
left-item m base stop place n item e = by-item m (found m base stop place.entry place.word) n (λ next. items_from m base stop next n) item e

left-end : (m : Memory) (base : ℕ) (stop : Option ℕ) (place : Place) (n : ℕ)
    → after (found m base stop place.entry place.word) (λ o. taken m n o) ≡ Ok None → items_from m base stop place n ≡ ended end.Done
unfolding items_from
left-end m base stop place zero e = last-end m (found m base stop place.entry place.word) e
left-end m base stop place (suc n) e = by-end m (found m base stop place.entry place.word) n (λ next. items_from m base stop next n) e

left-fault : (m : Memory) (base : ℕ) (stop : Option ℕ) (place : Place) (n : ℕ) (f : WalkFault)
    → after (found m base stop place.entry place.word) (λ o. taken m n o) ≡ Err f → items_from m base stop place n ≡ ended (end.Fault f)
unfolding items_from
left-fault m base stop place zero f e = last-fault m (found m base stop place.entry place.word) f e
left-fault m base stop place (suc n) f e = by-fault m (found m base stop place.entry place.word) n (λ next. items_from m base stop next n) f e

-- the steps of a walk that isn't over
open_walk : (m : Memory) (w : Walking) → w.over ≡ None → left_of m w ≡ items_from m w.base w.end w.place w.left
open_walk m w e = ap (left_by m w) e

moved : Walking → Found → Walking
moved w item = record { base = w.base; end = w.end; place = item.next; left = w.left - 1; over = w.over }

gives : (s : CellsState) (w : Walking) (item : Found) → w.over ≡ None → 0 < w.left → IsNear item.step → ((m : Memory) → s.told ≡ Some m → next_of m w ≡ Ok (Some item)) → Gives s w (moved w item) item.step
unfolding moved
gives s w item e l near h = record {
  told = λ m t.
      let one : w.left ≡ suc (w.left - 1) = omega arith in
      open_walk m w e ∙ ap (items_from m w.base w.end w.place) one
      ∙ left-item m w.base w.end w.place (w.left - 1) item (ap (λ k. after (found m w.base w.end w.place.entry w.place.word) (λ o. taken m k o)) (sym one) ∙ h m t)
      ∙ ap (with_item item.step) (sym (open_walk m (moved w item) e));
  fewer = omega arith;
  near = near;
}

step-of : (old new : CellsState) (w next : Walking) (step : Step) → IsItem step → new ≡ old → Gives old w next step → Steps old new w next (Ok step)
step-of old new w next (Entry dll) i e g = (e, g)
step-of old new w next (Word what slot) i e g = (e, g)
step-of old new w next Done i e g = absurd i

pub step-item : (old new : CellsState) (w : Walking) (item : Found) → w.over ≡ None → 0 < w.left → IsFound w.left item → new ≡ old
    → ((m : Memory) → old.told ≡ Some m → next_of m w ≡ Ok (Some item))
    → Steps old new w (record { base = w.base; end = w.end; place = item.next; left = w.left - 1; over = w.over }) (Ok item.step)
unfolding moved
step-item old new w item e l i same h = step-of old new w (moved w item) item.step i.step same (gives old w item e l i.near h)

pub step-done : (old new : CellsState) (w : Walking) → w.over ≡ None → new ≡ old → ((m : Memory) → old.told ≡ Some m → next_of m w ≡ Ok None)
    → (new ≡ old) × Ends old w (record w { over = Some end.Done }) end.Done
step-done old new w e same h = (same, record { told = λ m t. open_walk m w e ∙ left-end m w.base w.end w.place w.left (h m t); over = refl })

pub step-fault : (old new : CellsState) (w : Walking) (f : WalkFault) → w.over ≡ None → new ≡ old → ((m : Memory) → old.told ≡ Some m → next_of m w ≡ Err f)
    → (new ≡ old) × Ends old w (record w { over = Some (end.Fault f) }) (end.Fault f)
step-fault old new w f e same h = (same, record { told = λ m t. open_walk m w e ∙ left-fault m w.base w.end w.place w.left f (h m t); over = refl })

-- the walk behind an item
pub walks-on : (w : Walking) (item : Found) → IsWalking w → 0 < w.left → IsFound w.left item
    → IsWalking (record { base = w.base; end = w.end; place = item.next; left = w.left - 1; over = w.over })
walks-on w item is l i = record {
  base = is.base;
  end = is.end;
  left = let most = is.left in omega arith;
  place = i.next (w.left - 1) (omega arith);
}

pub not_over : (o : Option Ending) → ((e : Ending) → o ≡ Some e → ⊥) → o ≡ None
not_over None h = refl
not_over (Some e) h = absurd (h e refl)

-- the same of a walk as it is seen
pub record HasNext (now : Walking) (item : Found) : Type 0 where
  pub left : 0 < now.left
  pub found : IsFound now.left item

pub has_next : (now : Walking) (o : Option Found) (item : Found) → o ≡ Some item → IfSome o (λ item. (0 < now.left) × IsFound now.left item) → HasNext now item
has_next now o item e h = let p = rw e at h in record { left = p.0; found = p.1 }

pub walks-on-seen : (w now : Walking) (item : Found) → w ≡ now → IsWalking w → HasNext now item
    → IsWalking (record { base = w.base; end = w.end; place = item.next; left = w.left - 1; over = w.over })
walks-on-seen w now item e is h = let k = subst (λ (x : Walking). HasNext x item) (sym e) h in walks-on w item is k.left k.found

pub step-item-seen : (old new : CellsState) (w now : Walking) (o : Option Found) (item : Found) → w ≡ now → o ≡ Some item → ((e : Ending) → w.over ≡ Some e → ⊥) → HasNext now item → new ≡ old
    → ((m : Memory) → old.told ≡ Some m → next_of m now ≡ Ok o)
    → Steps old new now (record { base = w.base; end = w.end; place = item.next; left = w.left - 1; over = w.over }) (Ok item.step)
step-item-seen old new w now o item e is not h same next =
    let k = subst (λ (x : Walking). HasNext x item) (sym e) h in
    let n = subst (λ (x : Walking). (m : Memory) → old.told ≡ Some m → next_of m x ≡ Ok o) (sym e) next in
    subst (λ (x : Walking). Steps old new x (record { base = w.base; end = w.end; place = item.next; left = w.left - 1; over = w.over }) (Ok item.step)) e
    (step-item old new w item (not_over w.over not) k.left k.found same (λ m t. n m t ∙ ap (λ o. Ok o) is))

pub step-done-seen : (old new : CellsState) (w now : Walking) (o : Option Found) → w ≡ now → o ≡ None → ((e : Ending) → w.over ≡ Some e → ⊥) → new ≡ old
    → ((m : Memory) → old.told ≡ Some m → next_of m now ≡ Ok o) → (new ≡ old) × Ends old now (record w { over = Some end.Done }) end.Done
step-done-seen old new w now o e is not same next =
    let n = subst (λ (x : Walking). (m : Memory) → old.told ≡ Some m → next_of m x ≡ Ok o) (sym e) next in
    subst (λ (x : Walking). (new ≡ old) × Ends old x (record w { over = Some end.Done }) end.Done) e
    (step-done old new w (not_over w.over not) same (λ m t. n m t ∙ ap (λ o. Ok o) is))

pub step-fault-seen : (old new : CellsState) (w now : Walking) (r : WalkEnd) (f : WalkFault) → w ≡ now → r ≡ Fault f → ((e : Ending) → w.over ≡ Some e → ⊥)
    → Fetches old new (λ m. next_of m now) (Err r) → (new ≡ old) × Ends old now (record w { over = Some (end.Fault f) }) (end.Fault f)
step-fault-seen old new w now r f e is not next =
    let n = subst (λ (x : Walking). Fetches old new (λ m. next_of m x) (Err (Fault f))) (sym e) (rw is at next) in
    subst (λ (x : Walking). (new ≡ old) × Ends old x (record w { over = Some (end.Fault f) }) (end.Fault f)) e
    (step-fault old new w f (not_over w.over not) n.0 n.1)

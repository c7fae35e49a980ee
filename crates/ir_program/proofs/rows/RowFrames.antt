-- What stays as it is where only the rows of one operation change.
use Rattle.std.proofs.Common.{◌≡◌, ◌≢◌, ℕ, ⊎_elim, List, [], Option, Some, option_map, unwrap_or, refl, sym, ap, ◌∙◌, subst, Result, Ok, Err, OnOk, OnErr}
use Rattle.ir_arena.specs.declared.arena.Slot.{Slot}
use Rattle.ir_arena.specs.Arena.{get, slot_at}
use Rattle.ir_entities.specs.Uses.{Uses, key_of}
use Rattle.ir_arena.proofs.Slots.{Live, live_slot}
use Rattle.ir_program.specs.Program.{Program, definitions_of}
use Rattle.ir_program.specs.Sound.{IsThreaded}
use Rattle.ir_program.specs.declared.handles.Ptr.{Ptr}
use Rattle.ir_program.specs.declared.handles.Operation.{Operation}
use Rattle.ir_program.specs.declared.handles.BasicBlock.{BasicBlock}
use Rattle.ir_program.specs.declared.handles.Value.{Value}
use Rattle.ir_program.specs.declared.handles.DefiningEntity.{DefiningEntity}
use Rattle.ir_program.specs.declared.handles.DefiningEntity.TheVariants.{Op as ByOp, Block as ByBlock}
use Rattle.ir_program.specs.declared.records.Definition.{Definition}
use Rattle.ir_program.specs.declared.records.OperationRecord.{OperationRecord}
use Rattle.ir_program.proofs.made.Lent.{same_key, some_is, get-lent, get-lent_other}
use Rattle.ir_program.proofs.made.Frames.{with_operation, same_handle, same_or_not}

-- two handles that lead somewhere lead to different slots
pub other_slot : {T E : Type 0} (slots : List (Slot T)) (p q : Ptr E) (v w : T) → get slots p.key ≡ Some v → get slots q.key ≡ Some w → q ≢ p → q.key.slot ≢ p.key.slot
other_slot slots p q v w e f ne s =
    let at : Live slots p.key = live_slot slots p.key (some_is _ v e) in
    let too : Live slots q.key = live_slot slots q.key (some_is _ w f) in
    let version : q.key.version ≡ p.key.version = sym too.version ∙ (ap (λ i. (slot_at slots i).version) s ∙ at.version) in
    ne (same_handle q p (same_key q.key p.key s version))

-- keys that stay fit threads that stay
pub threaded-same : {K : Type 0} (old new : K → Option ℕ) (u w : Uses K) → w.definitions ≡ u.definitions → ((x : K) → new x ≡ old x) → IsThreaded old u → IsThreaded new w
threaded-same {K} old new u w same threads inv x t =
    let key : key_of w t ≡ key_of u t = ap (λ ds. key_of (record u { definitions = ds }) t) same in
    (λ h. key ∙ (inv x t).0 (sym (threads x) ∙ h), λ h. threads x ∙ (inv x t).1 (sym key ∙ h))

-- an operation that keeps its results
pub same_results : {O B : Type 0} (c : Program O B) (p : Ptr Operation) (o w : OperationRecord O) (here : get c.forest.ops p.key ≡ Some o) (u : Uses Value) (t : Uses (Ptr BasicBlock)) (n : ℕ) → w.results.items ≡ o.results.items
    → (e : DefiningEntity) → definitions_of (with_operation c p o w here u t n) e ≡ definitions_of c e
same_results {O} c p o w here u t n same (ByBlock q) = refl
same_results {O} c p o w here u t n same (ByOp q) = ⊎_elim
    (λ (e : q ≡ p). subst (λ (x : Ptr Operation). definitions_of (with_operation c p o w here u t n) (ByOp x) ≡ definitions_of c (ByOp x)) (sym e)
    (ap results (get-lent c.forest.ops p.key o w here) ∙ same ∙ sym (ap results here)))
    (λ ne. ap results (get-lent_other c.forest.ops p.key o w here q.key (λ h. ne (same_handle q p h))))
    (same_or_not q p)
  where
    results : Option (OperationRecord O) → List Definition
    results x = unwrap_or (option_map (λ (r : OperationRecord O). r.results.items) x) []

-- what follows of a call that went well or left all as it was
pub on_ok : {T E P Q : Type 0} (r : Result T E) → OnOk r P → (P → Q) → OnOk r Q
on_ok (Ok x) p f = f p
on_ok (Err e) p f = tt

pub on_err : {T E P Q R : Type 0} (r : Result T E) → OnErr r P → OnErr r Q → (P → Q → R) → OnErr r R
on_err (Ok x) p q f = tt
on_err (Err e) p q f = f p q

pub either_way : {T E P Q R S : Type 0} (r : Result T E) → OnOk r P → OnErr r Q → OnErr r R → (P → S) → (Q → R → S) → S
either_way (Ok x) p q s f g = f p
either_way (Err e) p q s f g = g q s

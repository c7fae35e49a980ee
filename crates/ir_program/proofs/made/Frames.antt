-- What one operation's or one block's record tells of a program, and what it leaves as it is.
use Rattle.std.proofs.Common.{◌≡◌, ◌≢◌, ℕ, suc, ◌⊎◌, ⊎_elim, inl, inr, List, [], ◌∷◌, map, Option, Some, None, option_map, unwrap_or, refl, sym, ap, ◌∙◌, subst, slice_get, Result, Ok, Err, OnErr}
use Rattle.std.proofs.lemmas.Bool.{cases_eq}
use Rattle.ir_arena.specs.declared.arena.Key.{Key}
use Rattle.ir_arena.specs.declared.arena.Slot.{Slot}
use Rattle.ir_arena.specs.Arena.{get}
use Rattle.ir_arena.specs.Lends.{with_value}
use Rattle.ir_entities.specs.Uses.{Uses, PlaceOfUse, key_of, place_of, named_of, NamesDefinition}
use Rattle.ir_program.specs.Handles.{handle}
use Rattle.ir_program.specs.Program.{Program, OperationView, BlockView, named_or, key_if, handles_of, operation_of, operation_at, block_of, block_at, definitions_of}
use Rattle.ir_program.specs.Edits.{EditsOperation, EditsBlock, IsUnchanged}
use Rattle.ir_program.specs.declared.handles.Ptr.{Ptr}
use Rattle.ir_program.specs.declared.handles.Operation.{Operation}
use Rattle.ir_program.specs.declared.handles.BasicBlock.{BasicBlock}
use Rattle.ir_program.specs.declared.handles.Value.{Value}
use Rattle.ir_program.specs.declared.handles.DefiningEntity.{DefiningEntity}
use Rattle.ir_program.specs.declared.handles.DefiningEntity.TheVariants.{Op as ByOp, Block as ByBlock}
use Rattle.ir_program.specs.declared.records.OperationRecord.{OperationRecord}
use Rattle.ir_program.specs.declared.records.BlockRecord.{BlockRecord}
use Rattle.ir_program.proofs.made.Lent.{same_key, get-lent, get-lent_other, spent-lent, pointer-lent}

-- handles with one key are the same
pub same_handle : {E : Type 0} (p q : Ptr E) → p.key ≡ q.key → p ≡ q
same_handle p q e = rw e refl

pub other_key : {E : Type 0} (p q : Ptr E) → p ≢ q → p.key ≢ q.key
other_key p q ne e = ne (same_handle p q e)

-- functions that agree make the same of all
pub option_map-same : {X Y : Type 0} (f g : X → Y) (x : Option X) → ((y : X) → x ≡ Some y → f y ≡ g y) → option_map f x ≡ option_map g x
option_map-same f g None h = refl
option_map-same f g (Some y) h = ap Some (h y refl)

pub map-same : {X Y : Type 0} (f g : X → Y) (xs : List X) → ((k : ℕ) (x : X) → slice_get xs k ≡ Some x → f x ≡ g x) → map f xs ≡ map g xs
map-same f g [] h = refl
map-same f g (x ∷ xs) h = let here : f x ≡ g x = h 0 x refl in let rest : map f xs ≡ map g xs = map-same f g xs (λ k y e. h (suc k) y e) in rw (here, rest) refl

-- where the places are the same, and the definitions that they name have their keys still, all places name what they named
pub names-kept : {K : Type 0} (none : K) (u w : Uses K) → w.places ≡ u.places → ((q d : ℕ) → NamesDefinition u q d → key_of w d ≡ key_of u d) → (x : ℕ) → named_or none w x ≡ named_or none u x
names-kept none u w same keys x =
    let e : place_of w x ≡ place_of u x = ap (λ ps. slice_get_or ps x) same in
    ap (λ k. unwrap_or k none) (ap (λ o. key_if w (named_of o)) e ∙ by (place_of u x) refl)
  where
    slice_get_or : List (Option PlaceOfUse) → ℕ → Option PlaceOfUse
    slice_get_or ps x = place_of (record u { places = ps }) x

    by : (o : Option PlaceOfUse) → place_of u x ≡ o → key_if w (named_of o) ≡ key_if u (named_of o)
    by None h = refl
    by (Some y) h = keys x y.definition (ap named_of h)

-- the handles of slots depend on their versions alone
pub handles-lent : {T E : Type 0} (slots : List (Slot T)) (k : Key) (v w : T) → get slots k ≡ Some v → (is : List ℕ) → handles_of {E = E} (with_value slots k w) is ≡ handles_of slots is
handles-lent slots k v w here is = map-same _ _ is (λ j i e. ap handle (pointer-lent slots k v w here i))

module _ {O B : Type 0} (c : Program O B) where
  module _ (p : Ptr Operation) (o w : OperationRecord O) (here : get c.forest.ops p.key ≡ Some o) where
    -- the program with another record of the operation
    abbrev pub with_operation : Uses Value → Uses (Ptr BasicBlock) → ℕ → Program O B
    with_operation u t n = record { forest = record c.forest { ops = with_value c.forest.ops p.key w }; values = u; targets = t; counter = n }

    pub operation-edited : (u : Uses Value) (t : Uses (Ptr BasicBlock)) (n : ℕ) (f : OperationView O → OperationView O)
        → operation_of (with_operation u t n) p w ≡ f (operation_of c p o)
        → ((q : Ptr Operation) (r : OperationRecord O) → q ≢ p → get c.forest.ops q.key ≡ Some r → operation_of (with_operation u t n) q r ≡ operation_of c q r)
        → EditsOperation c (with_operation u t n) p f
    operation-edited u t n f now rest = record {
      edited = ap (option_map (operation_of (with_operation u t n) p)) (get-lent c.forest.ops p.key o w here) ∙ ap Some now ∙ sym (ap (λ x. option_map f (option_map (operation_of c p) x)) here);
      others = λ q ne. ap (option_map (operation_of (with_operation u t n) q)) (get-lent_other c.forest.ops p.key o w here q.key (other_key q p ne)) ∙ option_map-same _ _ (get c.forest.ops q.key) (λ r e. rest q r ne e);
      blocks = λ q. option_map-same _ _ (get c.forest.blocks q.key) (λ b e. ap (λ l. record (block_of c q b) { operations = l }) (handles-lent c.forest.ops p.key o w here _));
      regions = λ q. refl;
      erased = record { operations = spent-lent c.forest.ops p.key o w here; blocks = λ q s. s; regions = λ q s. s };
    }

    pub definitions-here : (u : Uses Value) (t : Uses (Ptr BasicBlock)) (n : ℕ) → definitions_of (with_operation u t n) (ByOp p) ≡ w.results.items
    definitions-here u t n = ap (λ x. unwrap_or (option_map (λ (r : OperationRecord O). r.results.items) x) []) (get-lent c.forest.ops p.key o w here)

    pub definitions-elsewhere : (u : Uses Value) (t : Uses (Ptr BasicBlock)) (n : ℕ) (e : DefiningEntity) → e ≢ ByOp p → definitions_of (with_operation u t n) e ≡ definitions_of c e
    definitions-elsewhere u t n (ByBlock q) ne = refl
    definitions-elsewhere u t n (ByOp q) ne = ap (λ x. unwrap_or (option_map (λ (r : OperationRecord O). r.results.items) x) []) (get-lent_other c.forest.ops p.key o w here q.key (λ e. ne (ap ByOp (same_handle q p e))))

  module _ (p : Ptr BasicBlock) (b w : BlockRecord B) (here : get c.forest.blocks p.key ≡ Some b) where
    -- the program with another record of the block
    abbrev pub with_block : Uses Value → Uses (Ptr BasicBlock) → ℕ → Program O B
    with_block u t n = record { forest = record c.forest { blocks = with_value c.forest.blocks p.key w }; values = u; targets = t; counter = n }

    pub block-edited : (u : Uses Value) (t : Uses (Ptr BasicBlock)) (n : ℕ) (f : BlockView B → BlockView B)
        → block_of (with_block u t n) p w ≡ f (block_of c p b)
        → ((q : Ptr Operation) (r : OperationRecord O) → get c.forest.ops q.key ≡ Some r → operation_of (with_block u t n) q r ≡ operation_of c q r)
        → EditsBlock c (with_block u t n) p f
    block-edited u t n f now rest = record {
      edited = ap (option_map (block_of (with_block u t n) p)) (get-lent c.forest.blocks p.key b w here) ∙ ap Some now ∙ sym (ap (λ x. option_map f (option_map (block_of c p) x)) here);
      others = λ q ne. ap (option_map (block_of (with_block u t n) q)) (get-lent_other c.forest.blocks p.key b w here q.key (other_key q p ne));
      operations = λ q. option_map-same _ _ (get c.forest.ops q.key) (λ r e. rest q r e);
      regions = λ q. ap (λ l. option_map (λ x. record { blocks = l }) (get c.forest.regions q.key)) (handles-lent c.forest.blocks p.key b w here _);
      erased = record { operations = λ q s. s; blocks = spent-lent c.forest.blocks p.key b w here; regions = λ q s. s };
    }

    pub arguments-here : (u : Uses Value) (t : Uses (Ptr BasicBlock)) (n : ℕ) → definitions_of (with_block u t n) (ByBlock p) ≡ w.arguments.items
    arguments-here u t n = ap (λ x. unwrap_or (option_map (λ (r : BlockRecord B). r.arguments.items) x) []) (get-lent c.forest.blocks p.key b w here)

    pub arguments-elsewhere : (u : Uses Value) (t : Uses (Ptr BasicBlock)) (n : ℕ) (e : DefiningEntity) → e ≢ ByBlock p → definitions_of (with_block u t n) e ≡ definitions_of c e
    arguments-elsewhere u t n (ByOp q) ne = refl
    arguments-elsewhere u t n (ByBlock q) ne = ap (λ x. unwrap_or (option_map (λ (r : BlockRecord B). r.arguments.items) x) []) (get-lent_other c.forest.blocks p.key b w here q.key (λ e. ne (ap ByBlock (same_handle q p e))))

option_map-id : {X : Type 0} (x : Option X) → option_map (λ y. y) x ≡ x
option_map-id None = refl
option_map-id (Some y) = refl

-- handles are the same or not
pub same_or_not : {E : Type 0} (p q : Ptr E) → (p ≡ q) ⊎ (p ≢ q)
same_or_not p q = ⊎_elim
    (λ s. ⊎_elim (λ v. inl (same_handle p q (same_key p.key q.key s v))) (λ nv. inr (λ h. nv (ap (λ (x : Ptr _). x.key.version) h))) (cases_eq p.key.version q.key.version))
    (λ ns. inr (λ h. ns (ap (λ (x : Ptr _). x.key.slot) h)))
    (cases_eq p.key.slot q.key.slot)

-- an edit that makes of an operation, or of a block, what it was changes nothing
pub edited-to-same : {O B : Type 0} (c d : Program O B) (p : Ptr Operation) → EditsOperation c d p (λ v. v) → d.counter ≡ c.counter → IsUnchanged c d
edited-to-same c d p edits counter = record {
  operations = λ q. ⊎_elim (λ (e : q ≡ p). subst (λ x. operation_at d x ≡ operation_at c x) (sym e) (edits.edited ∙ option_map-id (operation_at c p))) (λ ne. edits.others q ne) (same_or_not q p);
  blocks = edits.blocks;
  regions = edits.regions;
  erased = edits.erased;
  counter = counter;
}

pub block-to-same : {O B : Type 0} (c d : Program O B) (p : Ptr BasicBlock) → EditsBlock c d p (λ v. v) → d.counter ≡ c.counter → IsUnchanged c d
block-to-same c d p edits counter = record {
  operations = edits.operations;
  blocks = λ q. ⊎_elim (λ (e : q ≡ p). subst (λ x. block_at d x ≡ block_at c x) (sym e) (edits.edited ∙ option_map-id (block_at c p))) (λ ne. edits.others q ne) (same_or_not q p);
  regions = edits.regions;
  erased = edits.erased;
  counter = counter;
}

-- what holds holds at an `Err`
pub on_err : {X E P : Type 0} (r : Result X E) → P → OnErr r P
on_err (Ok x) p = record {}
on_err (Err e) p = p

-- The threads of what stands at a place are those of the keys that stand there.
use Rattle.std.proofs.Common.{◌≡◌, ⊎_elim, ℕ, suc, true, false, eqb, List, [], ◌∷◌, Option, Some, None, IsSome, option_map, unwrap_or, refl, sym, ap, ◌∙◌, subst, slice_get}
use Rattle.std.proofs.lemmas.Bool.{cases_Bool, both_ways, or_right, or_left, eq-eqb, or_cases, eqb-true}
use Rattle.std.proofs.lemmas.Option.{slice_get-map}
use Rattle.ir_arena.specs.declared.arena.Key.{Key}
use Rattle.ir_arena.specs.Arena.{get, held}
use Rattle.ir_entities.specs.Forest.{Forest, pointer_to}
use Rattle.ir_entities.specs.Links.{has, AreDistinctNumbers}
use Rattle.ir_entities.specs.Uses.{Uses, key_of}
use Rattle.ir_entities.specs.declared.forest.Place.{Place}
use Rattle.ir_entities.specs.declared.forest.Place.TheVariants.{Op, Block, Region}
use Rattle.ir_program.specs.Erases.{MakeProgram, value_place, block_place, definer_place}
use Rattle.ir_program.specs.Forgets.{threads_of, definitions_in, value_threads_in, block_threads_in}
use Rattle.ir_program.specs.Handles.{handle}
use Rattle.ir_program.specs.Program.{Program, definitions_of, numbered}
use Rattle.ir_program.specs.Sound.{IsProgram}
use Rattle.ir_program.specs.declared.handles.Ptr.{Ptr}
use Rattle.ir_program.specs.declared.handles.BasicBlock.{BasicBlock}
use Rattle.ir_program.specs.declared.handles.Operation.{Operation}
use Rattle.ir_program.specs.declared.handles.Value.{Value}
use Rattle.ir_program.specs.declared.handles.DefiningEntity.{DefiningEntity}
use Rattle.ir_program.specs.declared.handles.DefiningEntity.TheVariants.{Op as ByOp, Block as ByBlock}
use Rattle.ir_program.specs.declared.records.Definition.{Definition}
use Rattle.ir_program.specs.declared.records.OperationRecord.{OperationRecord}
use Rattle.ir_program.specs.declared.records.BlockRecord.{BlockRecord}
use Rattle.ir_program.specs.declared.records.RegionRecord.{RegionRecord}
use Rattle.ir_program.proofs.erased.ForgetSteps.{at-thread}
use Rattle.ir_program.proofs.erased.ForgetWalks.{AreThreadsAt}
use Rattle.ir_program.proofs.made.Lent.{some_is, held-was}
use Rattle.ir_program.proofs.defined.Numbers.{numbers_of, stands-found}
use Rattle.ir_program.proofs.lists.Slotted.{at_has, handle_is}
use Rattle.ir_program.proofs.defined.Stands.{value_for, get-held}

-- what is found by its number stands among the definitions
numbered-has : (n : ℕ) (ds : List Definition) (t : ℕ) → option_map (λ (d : Definition). d.thread) (numbered n ds) ≡ Some t → has t (threads_of ds) ≡ true
numbered-has n [] t h = cc
numbered-has n (d ∷ ds) t h = ⊎_elim
    (λ (e : eqb d.number n ≡ true).
    let s : Some d.thread ≡ Some t = rw e at h in
    let q : t ≡ d.thread = cc in
    or_left (eqb t d.thread) (has t (threads_of ds)) (eq-eqb t d.thread q))
    (λ (e : eqb d.number n ≡ false). or_right (eqb t d.thread) (has t (threads_of ds)) (numbered-has n ds t (rw e at h)))
    (cases_Bool (eqb d.number n))

-- definitions with different numbers whose threads have the keys of their values have different threads
distinct-threads : (u : Uses Value) (e : DefiningEntity) (ds : List Definition) → AreDistinctNumbers (numbers_of ds)
    → ((j : ℕ) (d : Definition) → slice_get ds j ≡ Some d → key_of u d.thread ≡ Some (value_for e d))
    → AreDistinctNumbers (threads_of ds)
distinct-threads u e [] numbers keys = tt
distinct-threads u e (d ∷ ds) numbers keys = (
  ⊎_elim
      (λ h.
      let at : (j : ℕ) × (b : Definition) × (slice_get ds j ≡ Some b) × (b.thread ≡ d.thread) = at-thread ds d.thread h in
      let s : Some (value_for e d) ≡ Some (value_for e at.1) = sym (keys 0 d refl) ∙ ap (key_of u) (sym at.3) ∙ keys (suc at.0) at.1 at.2 in
      let v : value_for e d ≡ value_for e at.1 = cc in
      let n : d.number ≡ at.1.number = ap (λ (w : Value). w.number) v in
      let there : has at.1.number (numbers_of ds) ≡ true = at_has (numbers_of ds) at.0 at.1.number (slice_get-map (λ (y : Definition). y.number) ds at.0 ∙ ap (option_map (λ (y : Definition). y.number)) at.2) in
      absurd (both_ways (has d.number (numbers_of ds)) numbers.0 (subst (λ m. has m (numbers_of ds) ≡ true) (sym n) there)))
      (λ h. h)
      (cases_Bool (has d.thread (threads_of ds))),
  distinct-threads u e ds numbers.1 (λ j b at. keys (suc j) b at),
)

module _ {O B : Type 0} (c : Program O B) (inv : IsProgram c) where
  -- the thread of a definition has the key of its value
  keyed : (e : DefiningEntity) (j : ℕ) (d : Definition) → slice_get (definitions_of c e) j ≡ Some d → key_of c.values d.thread ≡ Some (value_for e d)
  keyed e j d at = (inv.values (value_for e d) d.thread).0 (ap (option_map (λ (x : Definition). x.thread)) (stands-found (definitions_of c e) j d (inv.numbers e).distinct at))

  -- a key's value has its definition where it is defined
  defined-there : (t : ℕ) (v : Value) → key_of c.values t ≡ Some v → has t (threads_of (definitions_of c v.definer)) ≡ true
  defined-there t v key = numbered-has v.number (definitions_of c v.definer) t ((inv.values v t).1 key)

  -- the threads of the values that one entity defines
  module _ (e : DefiningEntity) (at : Place) (is : definitions_of c e ≡ definitions_in c.forest at) (place : definer_place e ≡ at) (only : (t : ℕ) (v : Value) → key_of c.values t ≡ Some v → value_place v ≡ at → v.definer ≡ e) where
    entity-threads : AreThreadsAt value_place at c.values (value_threads_in c.forest at)
    entity-threads = subst (λ ds. AreThreadsAt value_place at c.values (threads_of ds)) is (record {
      distinct = distinct-threads c.values e (definitions_of c e) (inv.numbers e).distinct (keyed e);
      stands = λ t h.
          let d : (j : ℕ) × (b : Definition) × (slice_get (definitions_of c e) j ≡ Some b) × (b.thread ≡ t) = at-thread (definitions_of c e) t h in
          (value_for e d.1, ap (key_of c.values) (sym d.3) ∙ keyed e d.0 d.1 d.2, place);
      all = λ t v key there. subst (λ z. has t (threads_of (definitions_of c z)) ≡ true) (only t v key there) (defined-there t v key);
    })

  -- what defines values is there
  operation-there : (p : Ptr Operation) (t : ℕ) → has t (threads_of (definitions_of c (ByOp p))) ≡ true → IsSome (get c.forest.ops p.key)
  operation-there p t h = by (get c.forest.ops p.key) h
    where
      by : (o : Option (OperationRecord O)) → has t (threads_of (unwrap_or (option_map (λ (r : OperationRecord O). r.results.items) o) [])) ≡ true → IsSome o
      by None n = cc
      by (Some o) n = refl

  block-there : (p : Ptr BasicBlock) (t : ℕ) → has t (threads_of (definitions_of c (ByBlock p))) ≡ true → IsSome (get c.forest.blocks p.key)
  block-there p t h = by (get c.forest.blocks p.key) h
    where
      by : (o : Option (BlockRecord B)) → has t (threads_of (unwrap_or (option_map (λ (r : BlockRecord B). r.arguments.items) o) [])) ≡ true → IsSome o
      by None n = cc
      by (Some o) n = refl

  operation-only : (i t : ℕ) (e : DefiningEntity) → has t (threads_of (definitions_of c e)) ≡ true → definer_place e ≡ Op i → e ≡ ByOp (handle (pointer_to c.forest.ops i))
  operation-only i t (ByBlock p) h place = cc
  operation-only i t (ByOp p) h place =
      let slot : p.key.slot ≡ i = cc in
      ap ByOp (sym (handle_is c.forest.ops p (operation-there p t h)) ∙ ap (λ j. handle (pointer_to c.forest.ops j)) slot)

  block-only : (i t : ℕ) (e : DefiningEntity) → has t (threads_of (definitions_of c e)) ≡ true → definer_place e ≡ Block i → e ≡ ByBlock (handle (pointer_to c.forest.blocks i))
  block-only i t (ByOp p) h place = cc
  block-only i t (ByBlock p) h place =
      let slot : p.key.slot ≡ i = cc in
      ap ByBlock (sym (handle_is c.forest.blocks p (block-there p t h)) ∙ ap (λ j. handle (pointer_to c.forest.blocks j)) slot)

  region-never : (i : ℕ) (e : DefiningEntity) → definer_place e ≡ Region i → ⊥
  region-never i (ByOp p) place = cc
  region-never i (ByBlock p) place = cc

  -- the threads of the values that stand at a place
  pub value-threads : (at : Place) → AreThreadsAt value_place at c.values (value_threads_in c.forest at)
  value-threads (Op i) = entity-threads (ByOp (handle (pointer_to c.forest.ops i))) (Op i)
      (ap (λ x. unwrap_or (option_map (λ (o : OperationRecord O). o.results.items) x) []) (get-held c.forest.ops i))
      refl
      (λ t v key there. operation-only i t v.definer (defined-there t v key) there)
  value-threads (Block i) = entity-threads (ByBlock (handle (pointer_to c.forest.blocks i))) (Block i)
      (ap (λ x. unwrap_or (option_map (λ (b : BlockRecord B). b.arguments.items) x) []) (get-held c.forest.blocks i))
      refl
      (λ t v key there. block-only i t v.definer (defined-there t v key) there)
  value-threads (Region i) = record { distinct = tt; stands = λ t h. cc; all = λ t v key there. absurd (region-never i v.definer there) }

  -- a key's block is there, with this thread
  block-keyed : (t : ℕ) (p : Ptr BasicBlock) → key_of c.targets t ≡ Some p → (b : BlockRecord B) × (get c.forest.blocks p.key ≡ Some b) × (b.thread ≡ t)
  block-keyed t p key = by (get c.forest.blocks p.key) refl ((inv.blocks p t).1 key)
    where
      by : (o : Option (BlockRecord B)) → get c.forest.blocks p.key ≡ o → option_map (λ (r : BlockRecord B). r.thread) o ≡ Some t → (b : BlockRecord B) × (get c.forest.blocks p.key ≡ Some b) × (b.thread ≡ t)
      by None is h = cc
      by (Some b) is h = (b, is, cc)

  one-block : (i : ℕ) (o : Option (BlockRecord B)) → held c.forest.blocks i ≡ o → AreThreadsAt block_place (Block i) c.targets (unwrap_or (option_map (λ (b : BlockRecord B). b.thread ∷ []) o) [])
  one-block i None is = record {
    distinct = tt;
    stands = λ t h. cc;
    all = λ t p key there.
        let b = block-keyed t p key in
        let slot : p.key.slot ≡ i = cc in
        let at : handle (pointer_to c.forest.blocks i) ≡ p = ap (λ j. handle (pointer_to c.forest.blocks j)) (sym slot) ∙ handle_is c.forest.blocks p (some_is _ b.0 b.1) in
        let clash : None ≡ Some b.0 = sym is ∙ sym (get-held c.forest.blocks i) ∙ ap (λ (q : Ptr BasicBlock). get c.forest.blocks q.key) at ∙ b.1 in
        cc;
  }
  one-block i (Some b) is = record {
    distinct = (refl, tt);
    stands = λ t h.
        let same : t ≡ b.thread = ⊎_elim (λ e. eqb-true t b.thread e) (λ (n : has t [] ≡ true). cc) (or_cases (eqb t b.thread) (has t []) h) in
        let p : Ptr BasicBlock = handle (pointer_to c.forest.blocks i) in
        (p, ap (key_of c.targets) same ∙ (inv.blocks p b.thread).0 (ap (option_map (λ (r : BlockRecord B). r.thread)) (get-held c.forest.blocks i ∙ is)), refl);
    all = λ t p key there.
        let w = block-keyed t p key in
        let slot : p.key.slot ≡ i = cc in
        let at : handle (pointer_to c.forest.blocks i) ≡ p = ap (λ j. handle (pointer_to c.forest.blocks j)) (sym slot) ∙ handle_is c.forest.blocks p (some_is _ w.0 w.1) in
        let same : Some b ≡ Some w.0 = sym is ∙ sym (get-held c.forest.blocks i) ∙ ap (λ (q : Ptr BasicBlock). get c.forest.blocks q.key) at ∙ w.1 in
        let one : b ≡ w.0 = cc in
        or_left (eqb t b.thread) (has t []) (eq-eqb t b.thread (sym w.2 ∙ ap (λ (r : BlockRecord B). r.thread) (sym one)));
  }

  -- the thread of the block that stands at a place
  pub block-threads : (at : Place) → AreThreadsAt block_place at c.targets (block_threads_in c.forest at)
  block-threads (Op i) = record { distinct = tt; stands = λ t h. cc; all = λ t p key there. cc }
  block-threads (Block i) = one-block i (held c.forest.blocks i) refl
  block-threads (Region i) = record { distinct = tt; stands = λ t h. cc; all = λ t p key there. cc }

-- the same of the parts of a program
module _ {O B : Type 0} (f : Forest (OperationRecord O) (BlockRecord B) RegionRecord) (u : Uses Value) (w : Uses (Ptr BasicBlock)) (sound : MakeProgram f u w) (at : Place) where
  pub values-at : AreThreadsAt value_place at u (value_threads_in f at)
  values-at = value-threads (record { forest = f; values = u; targets = w; counter = sound.0 }) sound.1 at

  pub blocks-at : AreThreadsAt block_place at w (block_threads_in f at)
  blocks-at = block-threads (record { forest = f; values = u; targets = w; counter = sound.0 }) sound.1 at

-- a block's thread is that of its slot
pub block-thread-in : {O B : Type 0} (f : Forest (OperationRecord O) (BlockRecord B) RegionRecord) (at : Place) (i : ℕ) (k : Key) (r : BlockRecord B) → at ≡ Block i → k.slot ≡ i → Some r ≡ get f.blocks k → has r.thread (block_threads_in f at) ≡ true
block-thread-in {O} {B} f at i k r is slot here =
    let there : held f.blocks i ≡ Some r = ap (held f.blocks) (sym slot) ∙ held-was f.blocks k r r (sym here) in
    let threads : block_threads_in f at ≡ r.thread ∷ [] = ap (block_threads_in f) is ∙ ap (λ x. unwrap_or (option_map (λ (b : BlockRecord B). b.thread ∷ []) x) []) there in
    subst (λ ts. has r.thread ts ≡ true) (sym threads) (or_left (eqb r.thread r.thread) (has r.thread []) (eq-eqb r.thread r.thread refl))

-- The four steps, one after the other, take out what goes.
use Rattle.std.proofs.Common.{◌≡◌, ◌≢◌, ◌⊎◌, inl, inr, ⊎_elim, ℕ, zero, suc, ◌<◌, Bool, true, false, List, [], ◌∷◌, length, map, Option, Some, None, IsSome, is_some, option_map, unwrap_or, slice_get, refl, sym, ap, ◌∙◌, subst}
use Rattle.std.specs.Prelude.{if◌then◌else◌}
use Rattle.std.proofs.lemmas.Option.{slice_get_within}
use Rattle.ir_base.specs.declared.types.TypeHandle.{TypeHandle}
use Rattle.ir_program.specs.Definers.{values_at}
use Rattle.ir_program.specs.Drops.{without_uses}
use Rattle.ir_program.specs.Erased.{definer_node}
use Rattle.ir_program.specs.Lists.{StandsInBlock, StandsInside, itself, in_block, in_region, in_operation, IsLinkedOperation, IsLiveNode}
use Rattle.ir_program.specs.Program.{Program, TypedValue, OperationView, BlockView, RegionView, operation_at, block_at, arguments_at, value_in}
use Rattle.ir_program.specs.Rows.{operands_at, successors_at}
use Rattle.ir_program.specs.Uses.{IsUsed}
use Rattle.ir_program.specs.declared.handles.IRNode.{IRNode}
use Rattle.ir_program.specs.declared.handles.IRNode.TheVariants.{Operation as OperationNode, Region as RegionNode, BasicBlock as BlockNode}
use Rattle.ir_program.specs.declared.handles.DefiningEntity.{DefiningEntity}
use Rattle.ir_program.specs.declared.handles.DefiningEntity.TheVariants.{Block as ByBlock}
use Rattle.ir_program.specs.declared.handles.Ptr.{Ptr}
use Rattle.ir_program.specs.declared.handles.Operation.{Operation}
use Rattle.ir_program.specs.declared.handles.BasicBlock.{BasicBlock}
use Rattle.ir_program.specs.declared.handles.Value.{Value}
use Rattle.ir_program.proofs.made.Frames.{same_or_not}
use Rattle.ir_trees.specs.Searched.{Lists}
use Rattle.ir_trees.specs.Stands.{by_handle, in_program, defined_by}
use Rattle.ir_trees.specs.ListRewrites.{is_among}
use Rattle.ir_trees.specs.Trees.{Defined}
use Rattle.ir_trees.proofs.Members.{at_has, has_at}
use Rattle.opt_trees.specs.Dialect.{Dialect, drop, Lawful}
use Rattle.opt_trees.specs.Dce.{Gone, Whole, Slot, gone_at}
use Rattle.opt_handles.proofs.Handles.{erased_twice}
use Rattle.opt_inside.proofs.Around.{HasLists}
use Rattle.opt_dialect.specs.Masks.{marked}
use Rattle.opt_dce.specs.liveness.Plans.{GoesWith, IsGoing, UsesGo, IsPlan}
use Rattle.opt_dce.specs.declared.liveness.plan.DeadPlan.{DeadPlan}
use Rattle.opt_dce.specs.declared.liveness.plan.LostOperands.{LostOperands}
use Rattle.opt_dce.specs.declared.liveness.plan.DeadArguments.{DeadArguments}
use Rattle.opt_dce.specs.Steps.{without, without_operations, IsWithinPicked, loses, loses_arguments, arguments_gone, thin_block, HasThinned, ErasesPicked, DropsPicked, DetachesPicked, NamesNone, LosesListed, LosesArguments, GoesBelowRoot}
use Rattle.opt_dce.proofs.Among.{among_has, has_among}
use Rattle.opt_dce.proofs.BlockLists.{left_twice, arguments_left}
use Rattle.opt_dce.proofs.Detached.{block_is, detached_within, was_within}
use Rattle.opt_dce.proofs.Dropped.{KeepsPlaces, kept_back, inside_kept, within_kept, drops_kept}
use Rattle.opt_dce.proofs.Erased.{live_outside, operands_were, gone_still}
use Rattle.opt_dce.proofs.Turns.{there_within}
use Rattle.opt_dce.proofs.Picking.{not_true, same_truth, drop_none, is_marked, marked_if}
use Rattle.opt_dce.proofs.Trees.{loses_none, value_of}

-- an operation inside another is that one, or stands in a block
held : {O B : Type 0} (c : Program O B) (op : Ptr Operation) (e : IRNode) (p : Ptr Operation) → StandsInside c (OperationNode op) e → e ≡ OperationNode p → (op ≡ p) ⊎ IsLinkedOperation c p
held c op _ p itself same = let e : op ≡ p = cc in inl e
held c op _ p (in_block q b s i) same = let e : q ≡ p = cc in inr (b, subst (λ z. StandsInBlock c z b) e s)
held c op _ p (in_region b r s i) same = cc
held c op _ p (in_operation r q s i) same = cc

-- some element has this key, or none
keyed_or_not : {X E : Type 0} (key : X → Ptr E) (xs : List X) (p : Ptr E) → ((x : X) × Lists xs x × (key x ≡ p)) ⊎ ((x : X) → Lists xs x → key x ≢ p)
keyed_or_not key [] p = inr (λ x h e. cc h.1)
keyed_or_not key (x ∷ xs) p = ⊎_elim
    (λ e. inl (x, (zero, refl), e))
    (λ ne. ⊎_elim
    (λ r. inl (r.0, (suc r.1.0, r.1.1), r.2))
    (λ none. inr (λ y h. later y h.0 h.1 ne none))
    (keyed_or_not key xs p))
    (same_or_not (key x) p) where
      later : (y : _) (k : ℕ) → slice_get (x ∷ xs) k ≡ Some y → key x ≢ p → ((z : _) → Lists xs z → key z ≢ p) → key y ≢ p
      later y zero h ne none = let s : Some x ≡ Some y = h in let e : y ≡ x = cc in λ g. ne (ap key (sym e) ∙ g)
      later y (suc k) h ne none = none y (k, h)

-- an element that stays was at an index that isn't picked
pub was_at : {X : Type 0} (picks : ℕ → Bool) (xs : List X) (k : ℕ) (x : X) → slice_get (drop picks xs) k ≡ Some x → (j : ℕ) × (slice_get xs j ≡ Some x) × (picks j ≡ false)
was_at picks [] k x h = cc
was_at picks (y ∷ ys) k x h = by_case (picks 0) refl (was_at (λ i. picks (suc i)) ys) k h where
  by_case : (b : Bool) → picks 0 ≡ b → ((k : ℕ) (x : _) → slice_get (drop (λ i. picks (suc i)) ys) k ≡ Some x → (j : ℕ) × (slice_get ys j ≡ Some x) × (picks (suc j) ≡ false))
      → (k : ℕ) → slice_get (if b then drop (λ i. picks (suc i)) ys else y ∷ drop (λ i. picks (suc i)) ys) k ≡ Some x → (j : ℕ) × (slice_get (y ∷ ys) j ≡ Some x) × (picks j ≡ false)
  by_case true e ih k h = let r = ih k x h in (suc r.0, r.1, r.2)
  by_case false e ih zero h = (zero, h, e)
  by_case false e ih (suc k) h = let r = ih k x h in (suc r.0, r.1, r.2)

-- what an operation that loses operands keeps
module _ {O B A : Type 0} (d : Dialect (in_program O B) A) where
  lost_there : (picks : ℕ → Bool) (o : Option (OperationView O)) → is_some (option_map (loses d picks) o) ≡ is_some o
  lost_there picks None = refl
  lost_there picks (Some v) = refl

  lost_regions : (picks : ℕ → Bool) (o : Option (OperationView O)) → unwrap_or (option_map (λ (v : OperationView O). v.regions) (option_map (loses d picks) o)) [] ≡ unwrap_or (option_map (λ (v : OperationView O). v.regions) o) []
  lost_regions picks None = refl
  lost_regions picks (Some v) = refl

  lost_operands : (picks : ℕ → Bool) (o : Option (OperationView O)) → unwrap_or (option_map (λ (v : OperationView O). v.operands) (option_map (loses d picks) o)) [] ≡ drop picks (unwrap_or (option_map (λ (v : OperationView O). v.operands) o) [])
  lost_operands picks None = refl
  lost_operands picks (Some v) = refl

  lost_successors : (picks : ℕ → Bool) (o : Option (OperationView O)) → unwrap_or (option_map (λ (v : OperationView O). v.successors) (option_map (loses d picks) o)) [] ≡ unwrap_or (option_map (λ (v : OperationView O). v.successors) o) []
  lost_successors picks None = refl
  lost_successors picks (Some v) = refl

-- an operation without uses takes nothing
no_operand : {O : Type 0} (o : Option (OperationView O)) (k : ℕ) (v : Value) → slice_get (unwrap_or (option_map (λ (y : OperationView O). y.operands) (option_map without_uses o)) []) k ≡ Some v → ⊥
no_operand None k v h = cc
no_operand (Some y) k v h = cc

no_successor : {O : Type 0} (o : Option (OperationView O)) (k : ℕ) (b : Ptr BasicBlock) → slice_get (unwrap_or (option_map (λ (y : OperationView O). y.successors) (option_map without_uses o)) []) k ≡ Some b → ⊥
no_successor None k b h = cc
no_successor (Some y) k b h = cc

-- a block that has a value is there
has_value : {B : Type 0} (o : Option (BlockView B)) (i : ℕ) (v : Value) → value_in (unwrap_or (option_map (λ (y : BlockView B). y.arguments) o) []) i ≡ Some v → IsSome o
has_value None i v h = cc
has_value (Some y) i v h = refl

-- the value at an index
pub at_value : (ts : List TypedValue) (i : ℕ) → slice_get (map (λ (x : TypedValue). x.value) ts) i ≡ value_in ts i
at_value [] i = refl
at_value (t ∷ ts) zero = refl
at_value (t ∷ ts) (suc i) = at_value ts i

at_defined : (ts : List TypedValue) (i : ℕ) → slice_get (map defined_by ts) i ≡ option_map defined_by (slice_get ts i)
at_defined [] i = refl
at_defined (t ∷ ts) zero = refl
at_defined (t ∷ ts) (suc i) = at_defined ts i

module _ {O B A : Type 0} (d : Dialect (in_program O B) A) (law : Lawful d) (old : Program O B) (lists : HasLists old) (g : Gone by_handle) (plan : DeadPlan) (is : IsPlan old g plan) (uses : UsesGo old g) where
  abbrev among : Ptr Operation → Bool
  among = is_among plan.operations.items

  among_goes : (p : Ptr Operation) → among p ≡ g.item (Whole p)
  among_goes p = same_truth (among p) (g.item (Whole p))
      (λ h. let k = has_at plan.operations.items p (among_has plan.operations.items p h) in (is.operations p).0 (k.0, k.1))
      (λ h. let k = (is.operations p).1 h in has_among plan.operations.items p (at_has plan.operations.items k.0 p k.1))

  pub among_there : (p : Ptr Operation) → among p ≡ true → IsLiveNode old (OperationNode p)
  among_there p h = ap is_some (is.operations_live p (sym (among_goes p) ∙ h)).1

  -- the first step: operands go
  module _ (lost : Program O B) (loses_them : LosesListed d old lost plan.operands.items) where
    pub operation_lost : (p : Ptr Operation) → operation_at lost p ≡ option_map (loses d (g.operand p)) (operation_at old p)
    operation_lost p = ⊎_elim
        (λ (l : (l : LostOperands) × Lists plan.operands.items l × (l.op ≡ p)).
        let same : marked l.0.marks.items ≡ g.operand l.0.op = λ j i. same_truth (marked l.0.marks.items i) (g.operand l.0.op i) (λ h. (is.operands l.0 l.1 i).0 (is_marked l.0.marks.items i h)) (λ h. marked_if l.0.marks.items i ((is.operands l.0 l.1 i).1 h)) j in
        subst (λ q. operation_at lost q ≡ option_map (loses d (g.operand q)) (operation_at old q)) l.2
        (loses_them.listed l.0 l.1 ∙ ap (λ (m : ℕ → Bool). option_map (loses d m) (operation_at old l.0.op)) same))
        (λ none.
        loses_them.others p none ∙ unchanged (operation_at old p) (λ i. not_true (g.operand p i) (λ h. let l = is.all_operands p i h in none l.0 l.1 l.2)))
        (keyed_or_not (λ (l : LostOperands). l.op) plan.operands.items p) where
          unchanged : (o : Option (OperationView O)) → ((i : ℕ) → g.operand p i ≡ false) → o ≡ option_map (loses d (g.operand p)) o
          unchanged None none = refl
          unchanged (Some v) none = ap Some (sym (loses_none d g law (g.operand p) v none))

    pub lost_kept : KeepsPlaces old lost
    lost_kept = record {
      operation = λ p. ap is_some (operation_lost p) ∙ lost_there d (g.operand p) (operation_at old p);
      block = λ b. ap is_some (loses_them.blocks b);
      region = λ r. ap is_some (loses_them.regions r);
      operations = λ b. ap (λ o. unwrap_or (option_map (λ (v : BlockView B). v.operations) o) []) (loses_them.blocks b);
      blocks = λ r. ap (λ o. unwrap_or (option_map (λ (v : RegionView). v.blocks) o) []) (loses_them.regions r);
      regions = λ p. ap (λ o. unwrap_or (option_map (λ (v : OperationView O). v.regions) o) []) (operation_lost p) ∙ lost_regions d (g.operand p) (operation_at old p);
    }

    pub lost_live : (p : Ptr Operation) → among p ≡ true → IsLiveNode lost (OperationNode p)
    lost_live p h = lost_kept.operation p ∙ among_there p h

    within_lost : (e : IRNode) → GoesWith old g e → IsWithinPicked lost among e
    within_lost e h = (h.0, among_goes h.0 ∙ h.1, inside_kept old lost lost_kept (OperationNode h.0) e h.2)

    goes_lost : (e : IRNode) → IsWithinPicked lost among e → GoesWith old g e
    goes_lost e h = (h.0, sym (among_goes h.0) ∙ h.1, inside_kept lost old (kept_back old lost lost_kept) (OperationNode h.0) e h.2)

    -- what goes stands in a block, as all below the root does
    pub lost_linked : (op : Ptr Operation) → GoesBelowRoot old op g → (p : Ptr Operation) → among p ≡ true → IsLinkedOperation lost p
    lost_linked op below p h =
        let b = below.operations p (sym (among_goes p) ∙ h) in
        ⊎_elim
        (λ (e : op ≡ p). absurd (b.other (sym e)))
        (λ l. (l.0, record { operation = lost_kept.operation p ∙ l.1.operation; block = lost_kept.block l.0 ∙ l.1.block; index = l.1.index; here = ap (λ ps. slice_get ps l.1.index) (lost_kept.operations l.0) ∙ l.1.here }))
        (held old op (OperationNode p) p b.inside refl)

    -- the second step: what goes is taken out of its blocks, and names nothing
    module _ (lost_lists : HasLists lost) (apart : Program O B) (detaches : DetachesPicked lost apart among) where
      pub apart_live : (p : Ptr Operation) → among p ≡ true → IsLiveNode apart (OperationNode p)
      apart_live p h = ap is_some (detaches.operations p) ∙ lost_live p h

      within_apart : (e : IRNode) → GoesWith old g e → IsWithinPicked apart among e
      within_apart e h = detached_within lost apart among detaches e (within_lost e h)

      goes_apart : (e : IRNode) → IsWithinPicked apart among e → GoesWith old g e
      goes_apart e h = goes_lost e (was_within lost apart among detaches lost_lists e h)

      module _ (bare : Program O B) (drops : DropsPicked apart bare among) where
        bare_kept : KeepsPlaces apart bare
        bare_kept = drops_kept apart bare among drops

        pub bare_live : (p : Ptr Operation) → among p ≡ true → IsLiveNode bare (OperationNode p)
        bare_live p h = bare_kept.operation p ∙ apart_live p h

        goes_if : (e : IRNode) → IsWithinPicked bare among e → GoesWith old g e
        goes_if e h = goes_apart e (within_kept bare apart (kept_back apart bare bare_kept) among e h)

        within_if : (e : IRNode) → GoesWith old g e → IsWithinPicked bare among e
        within_if e h = within_kept apart bare bare_kept among e (within_apart e h)

        no_going : (p : Ptr Operation) (k : ℕ) (v : Value) → slice_get (operands_at bare p) k ≡ Some v → IsGoing old g v → ⊥
        no_going p k v h going = ⊎_elim
            (λ (e : operation_at bare p ≡ operation_at apart p).
            let was = was_at (g.operand p) (operands_at old p) k v (sym (ap (λ o. slice_get o k) (ap (λ o. unwrap_or (option_map (λ (y : OperationView O). y.operands) o) []) (e ∙ detaches.operations p ∙ operation_lost p) ∙ lost_operands d (g.operand p) (operation_at old p))) ∙ h) in
            ⊎_elim
            (λ goes. bare_none (drops.within p (within_apart (OperationNode p) goes)))
            (λ (yes : g.operand p was.0 ≡ true). let f : g.operand p was.0 ≡ false = was.2 in cc)
            (uses.values p was.0 v was.1 going))
            (λ e. bare_none e)
            (drops.either p) where
              bare_none : operation_at bare p ≡ option_map without_uses (operation_at apart p) → ⊥
              bare_none e = no_operand (operation_at apart p) k v (subst (λ o. slice_get (unwrap_or (option_map (λ (y : OperationView O). y.operands) o) []) k ≡ Some v) e h)

        no_block_going : (p : Ptr Operation) (k : ℕ) (b : Ptr BasicBlock) → slice_get (successors_at bare p) k ≡ Some b → GoesWith old g (BlockNode b) → ⊥
        no_block_going p k b h going = ⊎_elim
            (λ (e : operation_at bare p ≡ operation_at apart p).
            let was = sym (ap (λ o. slice_get o k) (ap (λ o. unwrap_or (option_map (λ (y : OperationView O). y.successors) o) []) (e ∙ detaches.operations p ∙ operation_lost p) ∙ lost_successors d (g.operand p) (operation_at old p))) ∙ h in
            bare_none (drops.within p (within_apart (OperationNode p) (uses.blocks p k b was going))))
            (λ e. bare_none e)
            (drops.either p) where
              bare_none : operation_at bare p ≡ option_map without_uses (operation_at apart p) → ⊥
              bare_none e = no_successor (operation_at apart p) k b (subst (λ o. slice_get (unwrap_or (option_map (λ (y : OperationView O). y.successors) o) []) k ≡ Some b) e h)

        pub names_none : NamesNone bare among
        names_none = record {
          values = λ p k v h i. no_going p k v h (inl (goes_if (definer_node v.definer) i));
          blocks = λ p k b h i. no_block_going p k b h (goes_if (BlockNode b) i);
        }

        -- the third step: what goes is erased
        module _ (bare_lists : HasLists bare) (rest : Program O B) (erases : ErasesPicked bare rest among) where
          -- a block that is left has the arguments that it had
          still_block : (b : Ptr BasicBlock) → IsSome (block_at rest b) → block_at rest b ≡ option_map (without_operations among) (block_at old b)
          still_block b there = erases.blocks b (live_outside bare rest bare_lists among erases (BlockNode b) there) ∙ ap (option_map (without_operations among)) (drops.blocks b ∙ detaches.blocks b) ∙ left_twice among (block_at lost b) ∙ ap (option_map (without_operations among)) (loses_them.blocks b)

          arguments_were : (b : Ptr BasicBlock) → IsSome (block_at rest b) → arguments_at rest b ≡ arguments_at old b
          arguments_were b there = ap (λ o. unwrap_or (option_map (λ (v : BlockView B). v.arguments) o) []) (still_block b there) ∙ arguments_left among (block_at old b)

          pub arguments_count : (a : DeadArguments) → Lists plan.arguments.items a → IsSome (block_at rest a.block) → length a.marks.items ≡ length (arguments_at rest a.block)
          arguments_count a h there =
              let v = is.blocks_live a h in
              (is.arguments a v.0 h v.1).0 ∙ ap (λ o. length (unwrap_or (option_map (λ (y : BlockView B). y.arguments) o) [])) (sym v.1) ∙ ap length (sym (arguments_were a.block there))

          pub arguments_unused : (a : DeadArguments) → Lists plan.arguments.items a → (i : ℕ) (v : Value) → slice_get a.marks.items i ≡ Some true → value_in (arguments_at rest a.block) i ≡ Some v → IsUsed rest v → ⊥
          arguments_unused a h i v mark at used =
              let there : IsSome (block_at rest a.block) = has_value (block_at rest a.block) i v at in
              let view = is.blocks_live a h in
              let listed : value_in view.0.arguments i ≡ Some v = ap (λ o. value_in (unwrap_or (option_map (λ (y : BlockView B). y.arguments) o) []) i) (sym view.1) ∙ ap (λ ts. value_in ts i) (sym (arguments_were a.block there)) ∙ at in
              let goes : g.item (Slot v) ≡ true = ((is.arguments a view.0 h view.1).1 i v (at_value view.0.arguments i ∙ listed)).0 mark in
              let names : slice_get (operands_at rest used.0) used.3 ≡ Some v = ap (λ o. slice_get (unwrap_or (option_map (λ (y : OperationView O). y.operands) o) []) used.3) used.2 ∙ used.4 in
              no_going used.0 used.3 v (operands_were bare rest bare_lists among erases used.0 used.3 v names) (inr goes)

          -- the last step: arguments go
          module _ (definer : (e : DefiningEntity) (k : ℕ) (v : Value) → value_in (values_at old e) k ≡ Some v → v.definer ≡ e) (new : Program O B) (loses_arguments_of : LosesArguments d rest new plan.arguments.items) where
            among_is : among ≡ (λ p. g.item (Whole p))
            among_is = λ j p. among_goes p j

            outside : (e : IRNode) → (GoesWith old g e → ⊥) → IsWithinPicked bare among e → ⊥
            outside e out h = out (goes_if e h)

            -- which of a block's arguments are marked
            marks_are : (a : DeadArguments) → Lists plan.arguments.items a → (v : BlockView B) → block_at old a.block ≡ Some v → (i : ℕ) → marked a.marks.items i ≡ arguments_gone d g v i
            marks_are a h v there i = by_case (slice_get v.arguments i) refl where
              by_case : (o : Option TypedValue) → slice_get v.arguments i ≡ o → marked a.marks.items i ≡ arguments_gone d g v i
              by_case None e =
                  let gone_is : arguments_gone d g v i ≡ false = ap (gone_at g) (at_defined v.arguments i ∙ ap (option_map defined_by) e) in
                  not_true (marked a.marks.items i) (λ m.
                  let within = slice_get_within a.marks.items i true (is_marked a.marks.items i m) in
                  let x = there_within v.arguments i (subst (λ n. i < n) (is.arguments a v h there).0 within) in
                  let f : None ≡ Some x.0 = sym e ∙ x.1 in cc) ∙ sym gone_is
              by_case (Some x) e =
                  let gone_is : arguments_gone d g v i ≡ g.item (Slot x.value) = ap (gone_at g) (at_defined v.arguments i ∙ ap (option_map defined_by) e) in
                  let exact = (is.arguments a v h there).1 i x.value (at_value v.arguments i ∙ ap (option_map (λ (t : TypedValue). t.value)) e) in
                  same_truth (marked a.marks.items i) (g.item (Slot x.value)) (λ m. exact.0 (is_marked a.marks.items i m)) (λ m. marked_if a.marks.items i (exact.1 m)) ∙ sym gone_is

            no_marks : (b : Ptr BasicBlock) → ((a : DeadArguments) → Lists plan.arguments.items a → a.block ≢ b) → (v : BlockView B) → block_at old b ≡ Some v → (i : ℕ) → arguments_gone d g v i ≡ false
            no_marks b none v there i = by_case (slice_get (map defined_by v.arguments) i) refl where
              by_case : (o : Option (Defined Value TypeHandle)) → slice_get (map defined_by v.arguments) i ≡ o → gone_at g o ≡ false
              by_case None e = refl
              by_case (Some x) e = not_true (g.item (Slot x.name)) (λ h.
                  let a = is.all_arguments x.name h in
                  let at : value_in (values_at old (ByBlock b)) i ≡ Some x.name = ap (λ o. value_in (unwrap_or (option_map (λ (y : BlockView B). y.arguments) o) []) i) there ∙ value_of v.arguments i x e in
                  let same : ByBlock a.0.block ≡ ByBlock b = sym a.2 ∙ definer (ByBlock b) i x.name at in
                  let block : a.0.block ≡ b = cc in
                  none a.0 a.1 block)

            rest_is : (b : Ptr BasicBlock) → (GoesWith old g (BlockNode b) → ⊥) → block_at rest b ≡ option_map (without_operations among) (block_at old b)
            rest_is b out = erases.blocks b (outside (BlockNode b) out) ∙ ap (option_map (without_operations among)) (drops.blocks b ∙ detaches.blocks b) ∙ left_twice among (block_at lost b) ∙ ap (option_map (without_operations among)) (loses_them.blocks b)

            block_listed : (a : DeadArguments) → Lists plan.arguments.items a → (GoesWith old g (BlockNode a.block) → ⊥) → block_at new a.block ≡ option_map (thin_block d g) (block_at old a.block)
            block_listed a h out = loses_arguments_of.listed a h ∙ ap (option_map (loses_arguments d (marked a.marks.items))) (rest_is a.block out) ∙ by_case (block_at old a.block) refl where
              by_case : (o : Option (BlockView B)) → block_at old a.block ≡ o → option_map (loses_arguments d (marked a.marks.items)) (option_map (without_operations among) o) ≡ option_map (thin_block d g) o
              by_case None e = refl
              by_case (Some v) e =
                  let marks : marked a.marks.items ≡ arguments_gone d g v = λ j i. marks_are a h v e i j in
                  λ j. Some (record { payload = d.drop_names v.payload (marks j); arguments = drop (marks j) v.arguments; operations = without (among_is j) v.operations })

            block_unlisted : (b : Ptr BasicBlock) → ((a : DeadArguments) → Lists plan.arguments.items a → a.block ≢ b) → (GoesWith old g (BlockNode b) → ⊥) → block_at new b ≡ option_map (thin_block d g) (block_at old b)
            block_unlisted b none out = loses_arguments_of.others b none ∙ rest_is b out ∙ by_case (block_at old b) refl where
              by_case : (o : Option (BlockView B)) → block_at old b ≡ o → option_map (without_operations among) o ≡ option_map (thin_block d g) o
              by_case None e = refl
              by_case (Some v) e =
                  let marks : (λ i. false) ≡ arguments_gone d g v = λ j i. sym (no_marks b none v e i) j in
                  (λ j. Some (record { payload = sym (law.drop_no_names v.payload) j; arguments = sym (drop_none v.arguments) j; operations = without (among_is j) v.operations }))
                  ∙ (λ j. Some (record { payload = d.drop_names v.payload (marks j); arguments = drop (marks j) v.arguments; operations = without (λ p. g.item (Whole p)) v.operations }))

            live_bare : (e : IRNode) → IsLiveNode old e → IsLiveNode bare e
            live_bare (OperationNode p) there = bare_kept.operation p ∙ ap is_some (detaches.operations p) ∙ lost_kept.operation p ∙ there
            live_bare (BlockNode b) there = bare_kept.block b ∙ block_is lost apart among detaches b ∙ lost_kept.block b ∙ there
            live_bare (RegionNode r) there = bare_kept.region r ∙ ap is_some (detaches.regions r) ∙ lost_kept.region r ∙ there

            -- what is left is there still
            live_new : (e : IRNode) → IsLiveNode rest e → IsLiveNode new e
            live_new (OperationNode p) there = ap is_some (loses_arguments_of.operations p) ∙ there
            live_new (RegionNode r) there = ap is_some (loses_arguments_of.regions r) ∙ there
            live_new (BlockNode b) there = ⊎_elim
                (λ (a : (a : DeadArguments) × Lists plan.arguments.items a × (a.block ≡ b)).
                subst (λ q. IsSome (block_at rest q) → IsSome (block_at new q)) a.2
                (λ h. ap is_some (loses_arguments_of.listed a.0 a.1) ∙ arguments_there (marked a.0.marks.items) (block_at rest a.0.block) ∙ h) there)
                (λ none. ap is_some (loses_arguments_of.others b none) ∙ there)
                (keyed_or_not (λ (a : DeadArguments). a.block) plan.arguments.items b) where
                  arguments_there : (picks : ℕ → Bool) (o : Option (BlockView B)) → is_some (option_map (loses_arguments d picks) o) ≡ is_some o
                  arguments_there picks None = refl
                  arguments_there picks (Some v) = refl

            pub thinned : HasThinned d g old new
            thinned = record {
              operations = λ p out. loses_arguments_of.operations p ∙ erases.operations p (outside (OperationNode p) out)
                  ∙ drops.outside p (λ h. out (goes_apart (OperationNode p) h)) ∙ detaches.operations p ∙ operation_lost p;
              blocks = λ b out. ⊎_elim
                  (λ (a : (a : DeadArguments) × Lists plan.arguments.items a × (a.block ≡ b)).
                  subst (λ q. block_at new q ≡ option_map (thin_block d g) (block_at old q)) a.2 (block_listed a.0 a.1 (subst (λ q. GoesWith old g (BlockNode q) → ⊥) (sym a.2) out)))
                  (λ none. block_unlisted b none out)
                  (keyed_or_not (λ (a : DeadArguments). a.block) plan.arguments.items b);
              regions = λ r out. loses_arguments_of.regions r ∙ erases.regions r (outside (RegionNode r) out) ∙ drops.regions r ∙ detaches.regions r ∙ loses_them.regions r;
              gone = λ e there h. gone_still rest new loses_arguments_of.erased e (erases.gone e (live_bare e there) (within_if e h));
              decided = λ e there. ⊎_elim
                  (λ l. inl (live_new e l))
                  (λ g. inr (gone_still rest new loses_arguments_of.erased e g))
                  (erases.decided e (live_bare e there));
              erased = erased_twice old rest new
                  (erased_twice old bare rest
                  (erased_twice old apart bare (erased_twice old lost apart loses_them.erased detaches.erased) drops.erased) erases.erased)
                  loses_arguments_of.erased;
            }

-- what the plan says of operations that lose operands
module _ {O B : Type 0} (old : Program O B) (g : Gone by_handle) (plan : DeadPlan) (is : IsPlan old g plan) where
  pub planned_there : (l : LostOperands) → Lists plan.operands.items l → IsSome (operation_at old l.op)
  planned_there l h = ap is_some (is.operands_live l h).1

  pub planned_count : (l : LostOperands) → Lists plan.operands.items l → length l.marks.items ≡ length (operands_at old l.op)
  planned_count l h =
      let v = is.operands_live l h in
      is.operand_count l v.0 h v.1 ∙ ap (λ o. length (unwrap_or (option_map (λ (y : OperationView O). y.operands) o) [])) (sym v.1)

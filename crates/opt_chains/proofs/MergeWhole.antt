-- Where values are put in place of arguments and then all chains are joined, the program is merged.
use Rattle.std.proofs.Common.{◌≡◌, ◌≢◌, ◌⊎◌, inl, inr, ⊎_elim, ℕ, zero, suc, Bool, true, false, cond, List, [], ◌∷◌, ◌++◌, map, length, take, Option, Some, None, IsSome, option_map, unwrap_or, slice_get, refl, sym, ap, ◌∙◌, subst, ◌≤◌, add-one, arith}
use Rattle.std.specs.Prelude.{if◌then◌else◌}
use Rattle.ir_base.specs.declared.types.TypeHandle.{TypeHandle}
use Rattle.ir_program.specs.Definers.{StandsAtDefiner, values_at}
use Rattle.ir_program.specs.Erased.{IsGone}
use Rattle.ir_program.specs.Lists.{operations_in, blocks_in, StandsInBlock, StandsInRegion, StandsInside, itself, in_block, in_region, in_operation, regions_in}
use Rattle.ir_program.specs.Program.{Program, TypedValue, OperationView, BlockView, RegionView, operation_at, block_at, region_at, arguments_at, value_in, type_at, IsLiveValue}
use Rattle.ir_program.specs.Replacing.{same_block}
use Rattle.ir_program.specs.Rows.{operands_at, successors_at}
use Rattle.ir_program.specs.Uses.{IsUsed}
use Rattle.ir_program.specs.declared.handles.IRNode.{IRNode}
use Rattle.ir_program.specs.declared.handles.IRNode.TheVariants.{Operation as OperationNode, Region as RegionNode, BasicBlock as BlockNode}
use Rattle.ir_program.specs.declared.handles.Ptr.{Ptr}
use Rattle.ir_program.specs.declared.handles.Operation.{Operation}
use Rattle.ir_program.specs.declared.handles.Region.{Region}
use Rattle.ir_program.specs.declared.handles.BasicBlock.{BasicBlock}
use Rattle.ir_program.specs.declared.handles.Value.{Value}
use Rattle.ir_program.proofs.made.Frames.{same_or_not}
use Rattle.ir_program.proofs.used.Renaming.{value-test}
use Rattle.ir_trees.proofs.HandleTests.{block_no, block_yes}
use Rattle.ir_trees.proofs.Members.{Has, Once, at_has, has_at, has_back, has_either, has_front, once_of}
use Rattle.ir_trees.proofs.OneTree.{one_list}
use Rattle.ir_trees.specs.Searched.{Lists}
use Rattle.ir_trees.specs.Stands.{by_handle, in_program, ProgramTree, ProgramHead, AreTree, StandsFor}
use Rattle.ir_trees.specs.Trees.{Operations, Tree}
use Rattle.opt_inside.proofs.Around.{HasLists, around_operation, around_block, not_root}
use Rattle.opt_inside.specs.Occurring.{FoundBlock, EachFound, EachBlock, IsOccurrence, IsBlockOccurrence}
use Rattle.opt_inside.specs.Outside.{AddsNoneOutside, ChangesOperandsOutside}
use Rattle.opt_trees.specs.Dialect.{Dialect}
use Rattle.opt_trees.specs.Occurrences.{Occurrence, block_occurrences_of}
use Rattle.opt_trees.specs.Simplify.{StartingRegions, Joinable, IsGiven, Follows, stops, use_head, use_instead}
use Rattle.opt_inside.specs.reach.Edges.{HasLocalEdgesFrom}
use Rattle.opt_inside.specs.reach.Starts.{IsStartIn}
use Rattle.opt_inside.specs.declared.reach.starts.Start.{Start}
use Rattle.opt_chains.specs.Chained.{AreChains, AreStandIns}
use Rattle.opt_chains.specs.MergedValues.{standing, TakesInstead}
use Rattle.opt_chains.specs.Merging.{front, without, held, is_taken, last_of, along, TakesNoArgument, AreJoins, HasJoined}
use Rattle.opt_chains.specs.Phases.{MergesBlocks}
use Rattle.opt_chains.specs.declared.merging.Join.{Join}
use Rattle.opt_chains.specs.declared.merge_values.StandIn.{StandIn}
use Rattle.opt_chains.proofs.ChainBare.{last_under}
use Rattle.opt_handles.specs.Handles.{KeepsHandles}
use Rattle.opt_handles.proofs.Handles.{erased_twice}
use Rattle.opt_chains.proofs.MergeLists.{none_listed, something, same_some, not_true, true_or_false, last_at, in_front, without_none}
use Rattle.opt_chains.proofs.MergePairs.{is_used}
use Rattle.opt_chains.proofs.MergeSteps.{held_more, held_first, take_more, none_joined}
use Rattle.opt_chains.proofs.MergeValues.{none_instead}
use Rattle.opt_chains.proofs.MergeTrees.{IsMerged, IsChain, at_end, before, merged_tree}

-- a block that is taken is that of a step
taken_by : (js : List Join) (b : Ptr BasicBlock) → is_taken js b ≡ true → (k : ℕ) × (j : Join) × (slice_get js k ≡ Some j) × (j.block ≡ b)
taken_by [] b h = let f : false ≡ true = h in cc
taken_by (j ∷ js) b h = ⊎_elim
    (λ (e : b ≡ j.block). (zero, j, refl, sym e))
    (λ (ne : b ≢ j.block).
    let later = taken_by js b (sym (ap (λ s. cond s true (is_taken js b)) (block_no b j.block ne)) ∙ h) in
    (suc later.0, later.1, later.2, later.3))
    (same_or_not b j.block)

-- nothing is held behind a block that is no step's first
pub none_held : (js : List Join) (b : Ptr BasicBlock) → ((k : ℕ) (j : Join) → slice_get js k ≡ Some j → j.first ≢ b) → held js b ≡ []
none_held [] b h = refl
none_held (j ∷ js) b h = ap (λ s. if s then j.block ∷ held js b else held js b) (block_no j.first b (h zero j refl)) ∙ none_held js b (λ k i g. h (suc k) i g)

-- the last of a list isn't before it where each comes once
not_before : (xs : List (Ptr Operation)) (x : Ptr Operation) → Once (xs ++ x ∷ []) → Has x xs → ⊥
not_before [] x once h = h
not_before (y ∷ xs) x once h = ⊎_elim
    (λ (e : x ≡ y). once.0 (subst (λ z. Has z (xs ++ x ∷ [])) e (at_has (xs ++ x ∷ []) (length xs) x (last_at xs x))))
    (λ r. not_before xs x once.1 r)
    h

last_more : (b : Ptr BasicBlock) (cs : List (Ptr BasicBlock)) (c : Ptr BasicBlock) → last_of b (cs ++ c ∷ []) ≡ c
last_more b [] c = refl
last_more b (a ∷ cs) c = last_more a cs c

whole_taken : {X : Type 0} (xs : List X) → take (length xs) xs ≡ xs
whole_taken [] = refl
whole_taken (x ∷ xs) = ap (λ l. x ∷ l) (whole_taken xs)

named_at : (ts : List TypedValue) (k : ℕ) (x : TypedValue) → slice_get ts k ≡ Some x → value_in ts k ≡ Some x.value
named_at [] k x h = absurd (none_listed k x h)
named_at (y ∷ ts) zero x h = ap (option_map (λ (z : TypedValue). z.value)) h
named_at (y ∷ ts) (suc k) x h = named_at ts k x h

-- what is in a list that was mapped
mapped_at : (f : Value → Value) (vs : List Value) (k : ℕ) (v : Value) → slice_get (map f vs) k ≡ Some v → (u : Value) × (slice_get vs k ≡ Some u) × (v ≡ f u)
mapped_at f [] k v h = absurd (none_listed k v h)
mapped_at f (x ∷ vs) zero v h = let s : Some (f x) ≡ Some v = h in let e : v ≡ f x = cc in (x, refl, e)
mapped_at f (x ∷ vs) (suc k) v h = mapped_at f vs k v h

-- what is at an index below the length
at_index : {X : Type 0} (xs : List X) (k : ℕ) → suc k ≤ length xs → (x : X) × (slice_get xs k ≡ Some x)
at_index [] k le = absurd (omega arith)
at_index (x ∷ xs) zero le = (x, refl)
at_index (x ∷ xs) (suc k) le = at_index xs k (omega arith)

-- what isn't picked is still listed
still_listed : {X : Type 0} (picks : X → Bool) (xs : List X) (k : ℕ) (x : X) → slice_get xs k ≡ Some x → picks x ≡ false
    → (j : ℕ) × (slice_get (without picks xs) j ≡ Some x)
still_listed picks [] k x at none = absurd (none_listed k x at)
still_listed picks (y ∷ ys) zero x at none =
    let same : y ≡ x = cc in
    subst (λ (b : Bool). (j : ℕ) × (slice_get (if b then without picks ys else y ∷ without picks ys) j ≡ Some x))
    (sym (ap picks same ∙ none)) (zero, at)
still_listed picks (y ∷ ys) (suc k) x at none = go (picks y) (still_listed picks ys k x at none)
  where
    go : (b : Bool) → (j : ℕ) × (slice_get (without picks ys) j ≡ Some x)
        → (j : ℕ) × (slice_get (if b then without picks ys else y ∷ without picks ys) j ≡ Some x)
    go true there = there
    go false there = (suc there.0, there.1)

-- the block of a step is held behind its first, and is taken
held_has : (js : List Join) (k : ℕ) (j : Join) → slice_get js k ≡ Some j → Has j.block (held js j.first)
held_has [] k j h = absurd (none_listed k j h)
held_has (i ∷ js) zero j h =
    let same : i ≡ j = cc in
    subst (λ (x : Join). Has x.block (held (i ∷ js) x.first)) same
    (subst (λ (s : Bool). Has i.block (if s then i.block ∷ held js i.first else held js i.first))
    (sym (block_yes i.first i.first refl)) (inl refl))
held_has (i ∷ js) (suc k) j h = go (same_block i.first j.first) (held_has js k j h)
  where
    go : (s : Bool) → Has j.block (held js j.first)
        → Has j.block (if s then i.block ∷ held js j.first else held js j.first)
    go true m = inr m
    go false m = m

taken_has : (js : List Join) (k : ℕ) (j : Join) → slice_get js k ≡ Some j → is_taken js j.block ≡ true
taken_has [] k j h = absurd (none_listed k j h)
taken_has (i ∷ js) zero j h =
    let same : i ≡ j = cc in
    subst (λ (x : Join). is_taken (i ∷ js) x.block ≡ true) same
    (ap (λ s. cond s true (is_taken js i.block)) (block_yes i.block i.block refl))
taken_has (i ∷ js) (suc k) j h = go (same_block j.block i.block) (taken_has js k j h)
  where
    go : (s : Bool) → is_taken js j.block ≡ true → cond s true (is_taken js j.block) ≡ true
    go true m = refl
    go false m = m

-- what stands before an index
take_has : {X : Type 0} (xs : List X) (n k : ℕ) (x : X) → slice_get xs k ≡ Some x → suc k ≤ n
    → slice_get (take n xs) k ≡ Some x
take_has [] n k x h le = absurd (none_listed k x h)
take_has (y ∷ xs) zero k x h le = absurd (omega arith)
take_has (y ∷ xs) (suc n) zero x h le = h
take_has (y ∷ xs) (suc n) (suc k) x h le = take_has xs n k x h (omega arith)

before_or_after : (a b : ℕ) → (suc a ≤ b) ⊎ ((a ≡ b) ⊎ (suc b ≤ a))
before_or_after zero zero = inr (inl refl)
before_or_after zero (suc b) = inl (omega arith)
before_or_after (suc a) zero = inr (inr (omega arith))
before_or_after (suc a) (suc b) = ⊎_elim
    (λ l. inl (omega arith))
    (λ more. ⊎_elim (λ e. inr (inl (ap suc e))) (λ g. inr (inr (omega arith))) more)
    (before_or_after a b)

module _ {O B A : Type 0} (d : Dialect (in_program O B) A) (place : StartingRegions by_handle) (t : ProgramTree O B) where
  -- each is joinable behind the one before
  abbrev IsRow : Ptr BasicBlock → List (Ptr BasicBlock) → Type 0
  IsRow b [] = Unit {0}
  IsRow b (c ∷ cs) = Joinable d place t b c × IsRow c cs

  row_more : (b : Ptr BasicBlock) (cs : List (Ptr BasicBlock)) (c : Ptr BasicBlock) → IsRow b cs → Joinable d place t (last_of b cs) c → IsRow b (cs ++ c ∷ [])
  row_more b [] c row joins = (joins, tt)
  row_more b (a ∷ cs) c row joins = (row.0, row_more a cs c row.1 joins)

  -- what is held behind each block is a row
  rows_held : (js : List Join) → ((k : ℕ) (j : Join) → slice_get js k ≡ Some j → Joinable d place t (last_of j.first (held (take k js) j.first)) j.block) → (k : ℕ) → k ≤ length js → (b : Ptr BasicBlock) → IsRow b (held (take k js) b)
  rows_held js sound zero le b = tt
  rows_held js sound (suc k) le b =
      let j = at_index js k le in
      let le_k : k ≤ length js = omega arith in
      let more : take (suc k) js ≡ take k js ++ j.0 ∷ [] = ap (λ n. take n js) (sym (add-one k)) ∙ take_more js k j.0 j.1 in
      subst (λ l. IsRow b (held l b)) (sym more) (one_more (take k js) j.0 b (λ c. rows_held js sound k le_k c) (sound k j.0 j.1))
    where
      one_more : (done : List Join) (j : Join) (c : Ptr BasicBlock) → ((x : Ptr BasicBlock) → IsRow x (held done x)) → Joinable d place t (last_of j.first (held done j.first)) j.block → IsRow c (held (done ++ j ∷ []) c)
      one_more done j c rows joins = ⊎_elim
          (λ (e : c ≡ j.first). subst (λ x. IsRow x (held (done ++ j ∷ []) x)) (sym e) (subst (IsRow j.first) (sym (held_first done j)) (row_more j.first (held done j.first) j.block (rows j.first) joins)))
          (λ (ne : c ≢ j.first). subst (IsRow c) (sym (held_more done j c ne)) (rows c))
          (same_or_not c j.first)

  -- what a value is followed to
  followed : (ss : List StandIn) (v : Value) → ((s : StandIn) → Has s ss → Follows d place t s.argument s.value) → ((u : Value) → IsGiven d place t v u → (s : StandIn) × Has s ss × (s.argument ≡ v)) → Follows d place t v (standing ss v)
  followed [] v each given = stops v (λ u g. (given u g).1)
  followed (s ∷ ss) v each given = ⊎_elim
      (λ (e : v ≡ s.argument). subst (Follows d place t v) (sym (ap (λ b. cond b s.value (standing ss v)) (value-test.yes v s.argument e))) (subst (λ x. Follows d place t x s.value) (sym e) (each s (inl refl))))
      (λ (ne : v ≢ s.argument). subst (Follows d place t v) (sym (ap (λ b. cond b s.value (standing ss v)) (value-test.no v s.argument ne)))
      (followed ss v (λ x h. each x (inr h)) (λ u g. let f = given u g in (f.0, ⊎_elim (λ (e : f.0 ≡ s). absurd (ne (sym f.2 ∙ ap (λ (x : StandIn). x.argument) e))) (λ r. r) f.1, f.2))))
      (value-test.decide v s.argument)

-- what stands for a value is itself, where it is no argument, or a value in place of an argument
standing_is : (ss : List StandIn) (v : Value) → ((standing ss v ≡ v) × ((s : StandIn) → Has s ss → s.argument ≢ v)) ⊎ ((s : StandIn) × Has s ss × (standing ss v ≡ s.value))
standing_is [] v = inl (refl, λ s h. absurd h)
standing_is (s ∷ ss) v = ⊎_elim
    (λ (e : v ≡ s.argument). inr (s, inl refl, ap (λ b. cond b s.value (standing ss v)) (value-test.yes v s.argument e)))
    (λ (ne : v ≢ s.argument).
    let out : standing (s ∷ ss) v ≡ standing ss v = ap (λ b. cond b s.value (standing ss v)) (value-test.no v s.argument ne) in
    ⊎_elim
    (λ l. inl (out ∙ l.0, λ x h. ⊎_elim (λ (e : x ≡ s) (g : x.argument ≡ v). ne (sym g ∙ ap (λ (y : StandIn). y.argument) e)) (λ r. l.1 x r) h))
    (λ r. inr (r.0, inr r.1, out ∙ r.2))
    (standing_is ss v))
    (value-test.decide v s.argument)

-- what is known of a program before its blocks are joined
pub record IsKnown {O B A : Type 0} (d : Dialect (in_program O B) A) (place : StartingRegions by_handle) (old : Program O B) (op : Ptr Operation) (t : ProgramTree O B) : Type 0 where
  pub lists : HasLists old
  pub start : Start
  pub is_start : IsStartIn old start place
  pub edges : HasLocalEdgesFrom d.is_terminator old start
  pub found : EachFound t (IsOccurrence old op)
  pub blocks_found : EachBlock t (IsBlockOccurrence old op)
  pub used : (v : Value) → IsUsed old v → IsLiveValue old v
  pub stands : (v : Value) (ty : TypeHandle) → type_at old v ≡ Some ty → StandsAtDefiner old v ty

module _ {O B A : Type 0} (d : Dialect (in_program O B) A) (place : StartingRegions by_handle) (old mid : Program O B) (op : Ptr Operation) (t : ProgramTree O B) (known : IsKnown d place old op t) (js : List Join) (ss : List StandIn) (chains : AreChains d place old t js) (ins : AreStandIns d place old t js ss) (takes : TakesInstead old mid (standing ss)) where
  lists : HasLists old
  lists = known.lists

  operations_same : (b : Ptr BasicBlock) → operations_in mid b ≡ operations_in old b
  operations_same b = ap (λ o. unwrap_or (option_map (λ (v : BlockView B). v.operations) o) []) (takes.blocks b)

  blocks_same : (r : Ptr Region) → blocks_in mid r ≡ blocks_in old r
  blocks_same r = ap (λ o. unwrap_or (option_map (λ (v : RegionView). v.blocks) o) []) (takes.regions r)

  successors_same : (p : Ptr Operation) → successors_at mid p ≡ successors_at old p
  successors_same p = ap (λ o. unwrap_or (option_map (λ (v : OperationView O). v.successors) o) []) (takes.operations p) ∙ same (operation_at old p) where
    same : (o : Option (OperationView O)) → unwrap_or (option_map (λ (v : OperationView O). v.successors) (option_map (λ (v : OperationView O). record v { operands = map (standing ss) v.operands }) o)) [] ≡ unwrap_or (option_map (λ (v : OperationView O). v.successors) o) []
    same None = refl
    same (Some v) = refl

  operands_same : (p : Ptr Operation) → operands_at mid p ≡ map (standing ss) (operands_at old p)
  operands_same p = ap (λ o. unwrap_or (option_map (λ (v : OperationView O). v.operands) o) []) (takes.operations p) ∙ same (operation_at old p) where
    same : (o : Option (OperationView O)) → unwrap_or (option_map (λ (v : OperationView O). v.operands) (option_map (λ (v : OperationView O). record v { operands = map (standing ss) v.operands }) o)) [] ≡ map (standing ss) (unwrap_or (option_map (λ (v : OperationView O). v.operands) o) [])
    same None = refl
    same (Some v) = refl

  in_region_now : (b : Ptr BasicBlock) (r : Ptr Region) → StandsInRegion old b r → StandsInRegion mid b r
  in_region_now b r s = record { block = subst IsSome (sym (takes.blocks b)) s.block; region = subst IsSome (sym (takes.regions r)) s.region; index = s.index; here = ap (λ l. slice_get l s.index) (blocks_same r) ∙ s.here }

  -- the steps can be taken once the values are in place
  pub joins_now : AreJoins mid js
  joins_now k j here =
      let next = chains.joins k j here in
      let z = last_of j.first (held (take k js) j.first) in
      record {
        other = next.other;
        together = (next.together.0, in_region_now j.first next.together.0 next.together.1, in_region_now j.block next.together.0 next.together.2);
        joint = record {
          ends = operations_same z ∙ next.joint.ends ∙ ap (λ l. front l ++ j.branch ∷ []) (sym (operations_same z));
          view = record next.joint.view { operands = map (standing ss) next.joint.view.operands };
          there = takes.operations j.branch ∙ ap (option_map (λ (v : OperationView O). record v { operands = map (standing ss) v.operands })) next.joint.there;
          results = next.joint.results;
          regions = next.joint.regions;
          single = λ q n h. next.joint.single q n (ap (λ l. slice_get l n) (sym (successors_same q)) ∙ h);
        };
        kept = next.kept;
        fresh = next.fresh;
        whole = next.whole;
        branch_left = next.branch_left;
      }

  -- and nothing takes an argument of a block that goes
  pub unused_now : (j : Join) → Lists js j → TakesNoArgument mid j.block
  unused_now j listed q k v h e =
      let u = mapped_at (standing ss) (operands_at old q) k v (ap (λ l. slice_get l k) (sym (operands_same q)) ∙ h) in
      let of_it = λ (live : IsLiveValue old v).
      let ty = something (type_at old v) live in
      let at = known.stands v ty.0 ty.1 in
      ins.arguments j listed at.index v (named_at (arguments_at old j.block) at.index (record { value = v; ty = ty.0 }) (ap (λ x. slice_get (values_at old x) at.index) (sym e) ∙ at.stands)) in
      ⊎_elim
      (λ own.
      let same : v ≡ u.0 = u.2 ∙ own.0 in
      let f = of_it (subst (IsLiveValue old) (sym same) (known.used u.0 (is_used old q k u.0 u.1))) in
      own.1 f.0 f.1 (f.2 ∙ same))
      (λ other.
      let same : v ≡ other.0.value = u.2 ∙ other.2 in
      let f = of_it (subst (IsLiveValue old) (sym same) (ins.there other.0 (has_at ss other.0 other.1)).1) in
      ins.fixed other.0 f.0 (has_at ss other.0 other.1) (has_at ss f.0 f.1) (sym same ∙ sym f.2))
      (standing_is ss u.0)

  -- a joined block, the first of its chain and its branch are below the root
  target_below : (a b : Ptr BasicBlock) → Joinable d place t a b → StandsInside old (OperationNode op) (BlockNode b)
  target_below a b joins = subst (λ x. StandsInside old (OperationNode op) (BlockNode x)) joins.target_name (known.blocks_found joins.target joins.target_stands).below

  beside_below : (a b : Ptr BasicBlock) (r : Ptr Region) → StandsInRegion old a r → StandsInRegion old b r → StandsInside old (OperationNode op) (BlockNode b) → StandsInside old (OperationNode op) (BlockNode a)
  beside_below a b r sa sb below = ⊎_elim (λ (e : OperationNode op ≡ BlockNode b). cc) (λ i. in_region a r sa i) (around_block old lists (OperationNode op) b r sb below)

  block_below : (k : ℕ) (j : Join) → slice_get js k ≡ Some j → StandsInside old (OperationNode op) (BlockNode j.block)
  block_below k j here = target_below (last_of j.first (held (take k js) j.first)) j.block (chains.sound k j here)

  first_below : (k : ℕ) (j : Join) → slice_get js k ≡ Some j → StandsInside old (OperationNode op) (BlockNode j.first)
  first_below k j here = let n = chains.joins k j here in beside_below j.first j.block n.together.0 n.together.1 n.together.2 (block_below k j here)

  source_below : (a b : Ptr BasicBlock) → Joinable d place t a b → StandsInside old (OperationNode op) (BlockNode a)
  source_below a b joins = let f = known.found joins.last joins.stands in
      let below : StandsInside old (OperationNode op) (OperationNode joins.last.head.name) = f.below.inside in
      subst (λ x. StandsInside old (OperationNode op) (BlockNode x)) joins.in_block (⊎_elim
      (λ (e : OperationNode op ≡ OperationNode joins.last.head.name). let s : joins.last.head.name ≡ op = cc in absurd (f.below.other s))
      (λ i. i)
      (around_operation old lists (OperationNode op) joins.last.head.name joins.last.site.label.name f.in_block below))

  -- the branch of a step is the last of its block
  branch_in : (k : ℕ) (j : Join) → slice_get js k ≡ Some j → StandsInBlock old j.branch (last_of j.first (held (take k js) j.first))
  branch_in k j here = let n = chains.joins k j here in let z = last_of j.first (held (take k js) j.first) in
      lists.operations z (length (front (operations_in old z))) j.branch (ap (λ l. slice_get l (length (front (operations_in old z)))) n.joint.ends ∙ last_at (front (operations_in old z)) j.branch)

  abbrev IsLeft : Ptr Operation → Type 0
  IsLeft p = (k : ℕ) (j : Join) → slice_get js k ≡ Some j → j.branch ≢ p

  -- what is left of a block's operations
  of_block : (b : Ptr BasicBlock) (p : Ptr Operation) → Has p (operations_in old b) → (k : ℕ) (j : Join) → slice_get js k ≡ Some j → j.branch ≡ p → last_of j.first (held (take k js) j.first) ≡ b
  of_block b p has k j here e =
      let at = has_at (operations_in old b) p has in
      let s = branch_in k j here in
      (lists.operations_once j.branch (last_of j.first (held (take k js) j.first)) b s.index at.0 s.here (at.1 ∙ ap Some (sym e))).0

  left_at_end : (b : Ptr BasicBlock) → ((c : Ptr BasicBlock) → Joinable d place t b c → ⊥) → (p : Ptr Operation) → Has p (operations_in old b) → IsLeft p
  left_at_end b none p has k j here e = none j.block (subst (λ x. Joinable d place t x j.block) (of_block b p has k j here e) (chains.sound k j here))

  left_before : (b : Ptr BasicBlock) (p : Ptr Operation) → Has p (front (operations_in old b)) → IsLeft p
  left_before b p has k j here e =
      let same = of_block b p (in_front (operations_in old b) p has) k j here e in
      let ends : operations_in old b ≡ front (operations_in old b) ++ j.branch ∷ [] = subst (λ x. operations_in old x ≡ front (operations_in old x) ++ j.branch ∷ []) same (chains.joins k j here).joint.ends in
      let once : Once (operations_in old b) = once_of (operations_in old b) (λ m n q x y. (lists.operations_once q b b m n x y).1) in
      not_before (front (operations_in old b)) j.branch (subst Once ends once) (subst (λ x. Has x (front (operations_in old b))) (sym e) has)

  -- rows to their end are chains
  to_chain : (b : Ptr BasicBlock) (cs : List (Ptr BasicBlock)) → IsRow d place t b cs → ((c : Ptr BasicBlock) → Joinable d place t (last_of b cs) c → ⊥) → IsChain d place old t IsLeft b cs
  to_chain b [] row none = at_end b none (left_at_end b none)
  to_chain b (c ∷ cs) row none = before b c cs row.0 (left_before b) (to_chain c cs row.1 none)

  row_held : (b : Ptr BasicBlock) → IsRow d place t b (held js b)
  row_held b = subst (λ l. IsRow d place t b (held l b)) (whole_taken js) (rows_held d place t js chains.sound (length js) (omega arith) b)

  is_first : (b : Ptr BasicBlock) → is_taken js b ≡ false → ((a : Ptr BasicBlock) → Joinable d place t a b → ⊥) × IsChain d place old t IsLeft b (held js b)
  is_first b left = (λ a joins. let f : true ≡ false = sym (chains.all a b joins) ∙ left in cc, to_chain b (held js b) (row_held b) (λ c joins. chains.ends b c left joins))

  was_taken : (b : Ptr BasicBlock) → is_taken js b ≡ true → (a : Ptr BasicBlock) × Joinable d place t a b
  was_taken b h = let s = taken_by js b h in (last_of s.1.first (held (take s.0 js) s.1.first), subst (Joinable d place t (last_of s.1.first (held (take s.0 js) s.1.first))) s.3 (chains.sound s.0 s.1 s.2))

  -- joinable blocks are in one region
  together : (b c : Ptr BasicBlock) → Joinable d place t b c → (r : Ptr Region) (v : RegionView) → region_at old r ≡ Some v → Has b v.blocks → Has c v.blocks
  together b c joins r v there has =
      let f = known.found joins.last joins.stands in
      let in_list : blocks_in old r ≡ v.blocks = ap (λ o. unwrap_or (option_map (λ (x : RegionView). x.blocks) o) []) there in
      let at = has_at v.blocks b has in
      let sb : StandsInRegion old b r = lists.blocks r at.0 b (ap (λ l. slice_get l at.0) in_list ∙ at.1) in
      let named : successors_at old joins.last.head.name ≡ c ∷ [] = ap (λ o. unwrap_or (option_map (λ (x : OperationView O). x.successors) o) []) f.there ∙ sym (ap (λ (h : ProgramHead O B). h.successors) f.head) ∙ joins.leads in
      let sc = known.edges.leaving joins.last.head.name c b r (last_under d place old op t lists known.start known.is_start known.edges known.found b c joins) (zero, ap (λ l. slice_get l zero) named) (subst (StandsInBlock old joins.last.head.name) joins.in_block f.in_block) sb in
      subst (Has c) in_list (at_has (blocks_in old r) sc.index c sc.here)

  found : (b c : Ptr BasicBlock) (v : BlockView B) (ops : Tree by_handle (in_program O B) Operations) → Joinable d place t b c → block_at old c ≡ Some v → AreTree old Operations v.operations ops
      → (x : FoundBlock O B) × Has x (block_occurrences_of t) × (x.label.name ≡ c) × (x.operations ≡ ops)
  found b c v ops joins there tree =
      let f = known.blocks_found joins.target joins.target_stands in
      let same : f.view ≡ v = same_some (block_at old c) f.view v (ap (block_at old) (sym joins.target_name) ∙ f.there) there in
      (joins.target, joins.target_stands, joins.target_name, one_list old Operations v.operations joins.target.operations ops (subst (λ (w : BlockView B). AreTree old Operations w.operations joins.target.operations) same f.operations) tree)

  module _ (new : Program O B) (joined : HasJoined mid new js) where
    along_same : (cs : List (Ptr BasicBlock)) (ps : List (Ptr Operation)) → along mid ps cs ≡ along old ps cs
    along_same [] ps = refl
    along_same (c ∷ cs) ps = ap (λ l. front ps ++ l) (along_same cs (operations_in mid c) ∙ ap (λ l. along old l cs) (operations_same c))

    operation_left : (p : Ptr Operation) (v : OperationView O) → IsLeft p → operation_at old p ≡ Some v → operation_at new p ≡ Some (record v { operands = map (standing ss) v.operands })
    operation_left p v left there = joined.operations p left ∙ takes.operations p ∙ ap (option_map (λ (x : OperationView O). record x { operands = map (standing ss) x.operands })) there

    block_left : (b : Ptr BasicBlock) (v : BlockView B) → is_taken js b ≡ false → block_at old b ≡ Some v → block_at new b ≡ Some (record v { operations = along old v.operations (held js b) })
    block_left b v left there = joined.blocks b left ∙ ap (option_map (λ (x : BlockView B). record x { operations = along mid x.operations (held js b) })) (takes.blocks b ∙ there) ∙ ap (λ l. Some (record v { operations = l })) (along_same (held js b) v.operations)

    region_left : (r : Ptr Region) (v : RegionView) → region_at old r ≡ Some v → (w : RegionView) × (region_at new r ≡ Some w) × (w.blocks ≡ without (is_taken js) v.blocks)
    region_left r v there = (thinner v, joined.regions r ∙ ap thinner_if (takes.regions r ∙ there), refl) where
      thinner : RegionView → RegionView
      thinner x = record { blocks = without (is_taken js) x.blocks }

      thinner_if : Option RegionView → Option RegionView
      thinner_if o = option_map thinner o

    merged : IsMerged d old new t (standing ss) (held js) (is_taken js) IsLeft
    merged = record { operation = operation_left; block = block_left; region = region_left }

    root_left : IsLeft op
    root_left k j here e =
        let s = branch_in k j here in
        not_root old lists op j.branch (last_of j.first (held (take k js) j.first)) s (source_below (last_of j.first (held (take k js) j.first)) j.block (chains.sound k j here)) e

    outside : ChangesOperandsOutside old new op (standing ss)
    outside = record {
      operations = λ p v out there. operation_left p v (λ k j here e. out (subst (λ x. StandsInside old (OperationNode op) (OperationNode x)) e
          (in_block j.branch (last_of j.first (held (take k js) j.first)) (branch_in k j here) (source_below (last_of j.first (held (take k js) j.first)) j.block (chains.sound k j here))))) there;
      blocks = λ b v out there.
          let kept : is_taken js b ≡ false = not_true (is_taken js b) (λ h. let s = taken_by js b h in out (subst (λ x. StandsInside old (OperationNode op) (BlockNode x)) s.3 (block_below s.0 s.1 s.2))) in
          let none : held js b ≡ [] = none_held js b (λ k j here e. out (subst (λ x. StandsInside old (OperationNode op) (BlockNode x)) e (first_below k j here))) in
          block_left b v kept there ∙ ap (λ cs. Some (record v { operations = along old v.operations cs })) none;
      regions = λ r v out there.
          let l = region_left r v there in
          let in_list : blocks_in old r ≡ v.blocks = ap (λ o. unwrap_or (option_map (λ (x : RegionView). x.blocks) o) []) there in
          let all : without (is_taken js) v.blocks ≡ v.blocks = without_none (is_taken js) v.blocks (λ b has. not_true (is_taken js b) (λ h.
          let s = taken_by js b h in
          let at = has_at v.blocks b has in
          let sb : StandsInRegion old b r = lists.blocks r at.0 b (ap (λ x. slice_get x at.0) in_list ∙ at.1) in
          ⊎_elim (λ (e : OperationNode op ≡ BlockNode b). cc) (λ i. out i) (around_block old lists (OperationNode op) b r sb (subst (λ x. StandsInside old (OperationNode op) (BlockNode x)) s.3 (block_below s.0 s.1 s.2))))) in
          l.1 ∙ (λ i. Some (record { blocks = (l.2 ∙ all) i }));
    }

    -- ---- nothing comes outside

    -- the first of a step isn't taken
    first_free : (k : ℕ) (j : Join) → slice_get js k ≡ Some j → is_taken js j.first ≡ false
    first_free k j here = not_true (is_taken js j.first) (λ h.
        let s = taken_by js j.first h in
        ⊎_elim
        (λ (l : suc s.0 ≤ k).
        let was : is_taken (take k js) j.first ≡ true =
        subst (λ b. is_taken (take k js) b ≡ true) s.3 (taken_has (take k js) s.0 s.1 (take_has js k s.0 s.1 s.2 l)) in
        let f : true ≡ false = sym was ∙ (chains.joins k j here).kept in cc)
        (λ more. ⊎_elim
        (λ (e : s.0 ≡ k).
        let same : s.1 ≡ j = same_some (slice_get js k) s.1 j (ap (slice_get js) (sym e) ∙ s.2) here in
        absurd ((chains.joins k j here).other (sym s.3 ∙ ap (λ (x : Join). x.block) same)))
        (λ (g : suc k ≤ s.0).
        let none : held (take s.0 js) j.first ≡ [] =
        subst (λ b. held (take s.0 js) b ≡ []) s.3 (chains.joins s.0 s.1 s.2).whole in
        let one = held_has (take s.0 js) k j (take_has js s.0 k j here g) in
        absurd (subst (Has j.block) none one))
        more)
        (before_or_after s.0 k))

    -- the step whose branch leads from a block to one that is joinable behind it
    step_of : (b c : Ptr BasicBlock) → Joinable d place t b c
        → (k : ℕ) × (j : Join) × (slice_get js k ≡ Some j) × (last_of j.first (held (take k js) j.first) ≡ b)
    step_of b c joins =
        let s = taken_by js c (chains.all b c joins) in
        let z = last_of s.1.first (held (take s.0 js) s.1.first) in
        let other : Joinable d place t z c = subst (Joinable d place t z) s.3 (chains.sound s.0 s.1 s.2) in
        let same : other.last ≡ joins.last =
        joins.single other.last other.stands (subst (Has c) (sym other.leads) (inl refl)) in (
          s.0,
          s.1,
          s.2,
          sym other.in_block
              ∙ ap (λ (o : Occurrence by_handle (in_program O B)). o.site.label.name) same ∙ joins.in_block,
        )

    -- what is left of a block that isn't the last of its chain is before its branch
    before_branch : (b c : Ptr BasicBlock) → Joinable d place t b c → (p : Ptr Operation) → Has p (operations_in old b)
        → IsLeft p → Has p (front (operations_in old b))
    before_branch b c joins p has left =
        let s = step_of b c joins in
        let ends : operations_in old b ≡ front (operations_in old b) ++ s.1.branch ∷ [] =
        subst (λ x. operations_in old x ≡ front (operations_in old x) ++ s.1.branch ∷ []) s.3
        (chains.joins s.0 s.1 s.2).joint.ends in
        ⊎_elim
        (λ i. i)
        (λ last. ⊎_elim (λ e. absurd (left s.0 s.1 s.2 (sym e))) (λ none. absurd none) last)
        (has_either (front (operations_in old b)) (s.1.branch ∷ []) p (subst (Has p) ends has))

    -- what is left of the blocks of a chain stands along it
    along_has : (b : Ptr BasicBlock) (cs : List (Ptr BasicBlock)) → IsRow d place t b cs → (c : Ptr BasicBlock)
        → Has c (b ∷ cs) → (p : Ptr Operation) → Has p (operations_in old c) → IsLeft p
        → Has p (along old (operations_in old b) cs)
    along_has b [] row c has p listed left = ⊎_elim
        (λ e. subst (λ x. Has p (operations_in old x)) e listed)
        (λ none. absurd none)
        has
    along_has b (a ∷ cs) row c has p listed left = ⊎_elim
        (λ e. has_front (front (operations_in old b)) (along old (operations_in old a) cs) p
        (before_branch b a row.0 p (subst (λ x. Has p (operations_in old x)) e listed) left))
        (λ more. has_back (front (operations_in old b)) (along old (operations_in old a) cs) p
        (along_has a cs row.1 c more p listed left))
        has

    -- an operation that is left stands in the first block of its chain
    stands_now : (b : Ptr BasicBlock) → is_taken js b ≡ false → IsSome (block_at old b) → (c : Ptr BasicBlock)
        → Has c (b ∷ held js b) → (p : Ptr Operation) → IsSome (operation_at old p) → Has p (operations_in old c)
        → IsLeft p → StandsInBlock new p b
    stands_now b free live c has p there listed left =
        let v = something (block_at old b) live in
        let w = something (operation_at old p) there in
        let now = block_left b v.0 free v.1 in
        let in_list : operations_in old b ≡ v.0.operations =
        ap (λ o. unwrap_or (option_map (λ (x : BlockView B). x.operations) o) []) v.1 in
        let at = has_at (along old v.0.operations (held js b)) p
        (subst (λ l. Has p (along old l (held js b))) in_list (along_has b (held js b) (row_held b) c has p listed left)) in
        record {
          operation = subst IsSome (sym (operation_left p w.0 left w.1)) refl;
          block = subst IsSome (sym now) refl;
          index = at.0;
          here = ap (λ o. slice_get (unwrap_or (option_map (λ (x : BlockView B). x.operations) o) []) at.0) now ∙ at.1;
        }

    block_now : (b : Ptr BasicBlock) (r : Ptr Region) → StandsInRegion old b r → is_taken js b ≡ false
        → StandsInside new (OperationNode op) (RegionNode r) → StandsInside new (OperationNode op) (BlockNode b)
    block_now b r s free inside =
        let v = something (block_at old b) s.block in
        let w = something (region_at old r) s.region in
        let now = region_left r w.0 w.1 in
        let was : slice_get w.0.blocks s.index ≡ Some b =
        ap (λ o. slice_get (unwrap_or (option_map (λ (x : RegionView). x.blocks) o) []) s.index) (sym w.1) ∙ s.here in
        let listed = still_listed (is_taken js) w.0.blocks s.index b was free in
        in_region b r (record {
          block = subst IsSome (sym (block_left b v.0 free v.1)) refl;
          region = subst IsSome (sym now.1) refl;
          index = listed.0;
          here = ap (λ o. slice_get (unwrap_or (option_map (λ (x : RegionView). x.blocks) o) []) listed.0) now.1
              ∙ ap (λ l. slice_get l listed.0) now.2 ∙ listed.1;
        }) inside

    -- an operation that has a region is no branch of a step
    holder_left : (r : Ptr Region) (p : Ptr Operation) (n : ℕ) → slice_get (regions_in old p) n ≡ Some r → IsLeft p
    holder_left r p n at k j here e =
        let joint = (chains.joins k j here).joint in
        let none : regions_in old p ≡ [] =
        ap (λ o. unwrap_or (option_map (λ (x : OperationView O). x.regions) o) [])
        (ap (operation_at old) (sym e) ∙ joint.there) ∙ joint.regions in
        none_listed n r (ap (λ l. slice_get l n) (sym none) ∙ at)

    -- what is inside the root and is left is inside it still
    abbrev IsInsideNow : IRNode → Type 0
    IsInsideNow (OperationNode p) = IsLeft p → StandsInside new (OperationNode op) (OperationNode p)
    IsInsideNow (BlockNode b) = (r : Ptr Region) × StandsInRegion old b r
        × StandsInside new (OperationNode op) (RegionNode r)
    IsInsideNow (RegionNode r) = StandsInside new (OperationNode op) (RegionNode r)

    still_inside : (e : IRNode) → StandsInside old (OperationNode op) e → IsInsideNow e
    still_inside _ itself = λ left. itself
    still_inside _ (in_block p b s i) = λ left.
        let m = still_inside (BlockNode b) i in by (is_taken js b) refl left m.0 m.1 m.2
      where
        by : (taken : Bool) → is_taken js b ≡ taken → IsLeft p → (r : Ptr Region) → StandsInRegion old b r
            → StandsInside new (OperationNode op) (RegionNode r) → StandsInside new (OperationNode op) (OperationNode p)
        by false e left r z inside =
            in_block p b
            (stands_now b e s.block b (inl refl) p s.operation (at_has (operations_in old b) s.index p s.here) left)
            (block_now b r z e inside)
        by true e left r z inside =
            let k = taken_by js b e in
            let free = first_free k.0 k.1 k.2 in
            let has : Has b (k.1.first ∷ held js k.1.first) =
            inr (subst (λ x. Has x (held js k.1.first)) k.3 (held_has js k.0 k.1 k.2)) in
            let together = (chains.joins k.0 k.1 k.2).together in
            let same : together.0 ≡ r =
            (lists.blocks_once b together.0 r together.2.index z.index (together.2.here ∙ ap Some k.3) z.here).0 in
            let first = subst (StandsInRegion old k.1.first) same together.1 in
            in_block p k.1.first
            (stands_now k.1.first free first.block b has p s.operation
            (at_has (operations_in old b) s.index p s.here) left)
            (block_now k.1.first r first free inside)
    still_inside _ (in_region b r s i) = (r, s, still_inside (RegionNode r) i)
    still_inside _ (in_operation r p s i) =
        let left = holder_left r p s.index s.here in
        let v = something (operation_at old p) s.operation in
        let w = something (region_at old r) s.region in
        let now = operation_left p v.0 left v.1 in
        in_operation r p (record {
          region = subst IsSome (sym (region_left r w.0 w.1).1) refl;
          operation = subst IsSome (sym now) refl;
          index = s.index;
          here = ap (λ o. slice_get (unwrap_or (option_map (λ (x : OperationView O). x.regions) o) []) s.index) now
              ∙ ap (λ o. slice_get (unwrap_or (option_map (λ (x : OperationView O). x.regions) o) []) s.index) (sym v.1)
              ∙ s.here;
        }) (still_inside (OperationNode p) i left)

    some_mapped : {X Y : Type 0} (f : X → Y) (o : Option X) → IsSome (option_map f o) → IsSome o
    some_mapped f None h = h
    some_mapped f (Some x) h = refl

    none_come : AddsNoneOutside old new op
    none_come p live out =
        let left : IsLeft p = λ k j here e.
        let none : operation_at new p ≡ None = ap (operation_at new) (sym e) ∙ (joined.branches k j here).0 in
        let some : IsSome {T = OperationView O} None = subst IsSome none live in cc in (
          some_mapped (λ (x : OperationView O). record x { operands = map (standing ss) x.operands }) (operation_at old p)
              (subst IsSome (joined.operations p left ∙ takes.operations p) live),
          λ inside. out (still_inside (OperationNode p) inside left),
        )

    -- an operation is the branch of a step, or of none
    branch_or_left : (p : Ptr Operation) → ((k : ℕ) × (j : Join) × (slice_get js k ≡ Some j) × (j.branch ≡ p)) ⊎ IsLeft p
    branch_or_left p = search_in js where
      search_in : (is : List Join) → ((k : ℕ) × (j : Join) × (slice_get is k ≡ Some j) × (j.branch ≡ p))
          ⊎ ((k : ℕ) (j : Join) → slice_get is k ≡ Some j → j.branch ≢ p)
      search_in [] = inr (λ k j h. absurd (none_listed k j h))
      search_in (i ∷ is) = ⊎_elim
          (λ (e : i.branch ≡ p). inl (zero, i, refl, e))
          (λ (ne : i.branch ≢ p). ⊎_elim
          (λ later. inl (suc later.0, later.1, later.2, later.3))
          (λ none. inr (at_each i is ne none))
          (search_in is))
          (same_or_not i.branch p)
        where
          at_each : (x : Join) (xs : List Join) → x.branch ≢ p → ((k : ℕ) (j : Join) → slice_get xs k ≡ Some j → j.branch ≢ p)
              → (k : ℕ) (j : Join) → slice_get (x ∷ xs) k ≡ Some j → j.branch ≢ p
          at_each x xs ne none zero j h = let s : Some x ≡ Some j = h in let t : x ≡ j = cc in subst (λ (y : Join). y.branch ≢ p) t ne
          at_each x xs ne none (suc k) j h = none k j h

    -- branches of steps and blocks that are taken are erased, and all else inside the root is inside it still
    inside_or_gone : (e : IRNode) → StandsInside old (OperationNode op) e → StandsInside new (OperationNode op) e ⊎ IsGone new e
    inside_or_gone (OperationNode p) i = ⊎_elim
        (λ (s : (k : ℕ) × (j : Join) × (slice_get js k ≡ Some j) × (j.branch ≡ p)).
        inr (subst (λ x. IsGone new (OperationNode x)) s.3 (joined.branches s.0 s.1 s.2)))
        (λ left. inl (still_inside (OperationNode p) i left))
        (branch_or_left p)
    inside_or_gone (RegionNode r) i = inl (still_inside (RegionNode r) i)
    inside_or_gone (BlockNode b) i = ⊎_elim
        (λ (h : is_taken js b ≡ true). inr (joined.taken b h))
        (λ (free : is_taken js b ≡ false).
        let m = still_inside (BlockNode b) i in inl (block_now b m.0 m.1 free m.2))
        (true_or_false (is_taken js b))

    pub handles_kept : KeepsHandles old new op
    handles_kept = record { erased = erased_twice old mid new takes.erased joined.erased; inside = inside_or_gone }

    -- all in all
    pub merges_blocks : StandsFor old op t → MergesBlocks d place old new op t
    merges_blocks stands =
        let tree = merged_tree d place old new t (standing ss) IsLeft (held js) (is_taken js) merged together found is_first was_taken op root_left stands in
        record {
          after = record { head = use_head (standing ss) t.head; regions = use_instead (standing ss) tree.0 };
          joined = record {
            names = standing ss;
            follows = λ v. followed d place t ss v (λ s h. ins.follows s (has_at ss s h)) (ins.given v);
            regions = tree.0;
            joins = tree.1;
            is = refl;
          };
          stands = tree.2;
          outside = outside;
          none_come = none_come;
        }

-- where there is nothing to join, the program is merged as it is
pub nothing_merged : {O B A : Type 0} (d : Dialect (in_program O B) A) (place : StartingRegions by_handle) (old : Program O B) (op : Ptr Operation) (t : ProgramTree O B) → IsKnown d place old op t → (js : List Join) → AreChains d place old t js → js ≡ [] → StandsFor old op t → MergesBlocks d place old old op t
nothing_merged d place old op t known js chains none stands =
    let empty : AreChains d place old t [] = subst (AreChains d place old t) none chains in
    merges_blocks d place old old op t known [] [] empty (record {
      there = λ s h. absurd (none_listed h.0 s h.1);
      fixed = λ s u h g e. none_listed h.0 s h.1;
      follows = λ s h. absurd (none_listed h.0 s h.1);
      given = λ v u g. let f : false ≡ true = empty.all g.from g.to g.joins in cc;
      arguments = λ j h i v g. absurd (none_listed h.0 j h.1);
    }) (none_instead old) old (none_joined old) stands

-- where there is no step, no blocks are joinable; where there is one, two are
pub none_joinable : {O B A : Type 0} (d : Dialect (in_program O B) A) (place : StartingRegions by_handle) (c : Program O B) (t : ProgramTree O B) (js : List Join) → AreChains d place c t js → js ≡ [] → (a b : Ptr BasicBlock) → Joinable d place t a b → ⊥
none_joinable d place c t js chains none a b joins = let f : false ≡ true = (subst (AreChains d place c t) none chains).all a b joins in cc

pub some_joinable : {O B A : Type 0} (d : Dialect (in_program O B) A) (place : StartingRegions by_handle) (c : Program O B) (t : ProgramTree O B) (js : List Join) → AreChains d place c t js → (js ≡ [] → ⊥) → ((a b : Ptr BasicBlock) → Joinable d place t a b → ⊥) → ⊥
some_joinable d place c t [] chains some none = some refl
some_joinable d place c t (j ∷ js) chains some none = none j.first j.block (chains.sound zero j refl)

pub empty_list : {X : Type 0} (xs : List X) → length xs ≡ 0 → xs ≡ []
empty_list [] e = refl
empty_list (x ∷ xs) e = absurd (omega arith)

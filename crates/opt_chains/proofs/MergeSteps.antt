-- Several blocks joined one after the other.
use Rattle.std.proofs.Common.{◌≡◌, ◌≢◌, ◌⊎◌, inl, inr, ⊎_elim, ℕ, zero, suc, ◌+◌, Bool, true, false, cond, List, [], ◌∷◌, ◌++◌, length, take, Option, Some, None, IsSome, option_map, unwrap_or, slice_get, refl, sym, ap, ◌∙◌, subst, add-one, append_assoc}
use Rattle.std.specs.Prelude.{if◌then◌else◌}
use Rattle.ir_program.specs.Erased.{IsGone}
use Rattle.ir_program.specs.Lists.{operations_in, blocks_in, StandsInRegion}
use Rattle.ir_program.specs.declared.handles.IRNode.TheVariants.{Operation as OperationNode, BasicBlock as BlockNode}
use Rattle.ir_program.specs.Program.{Program, OperationView, BlockView, RegionView, operation_at, block_at, region_at}
use Rattle.ir_program.specs.Replacing.{same_block}
use Rattle.ir_program.specs.declared.handles.Ptr.{Ptr}
use Rattle.ir_program.specs.declared.handles.Operation.{Operation}
use Rattle.ir_program.specs.declared.handles.Region.{Region}
use Rattle.ir_program.specs.declared.handles.BasicBlock.{BasicBlock}
use Rattle.ir_program.proofs.made.Frames.{same_or_not}
use Rattle.ir_trees.proofs.HandleTests.{block_yes, block_no}
use Rattle.ir_trees.proofs.Members.{Has, at_has, has_at}
use Rattle.opt_inside.proofs.Around.{HasLists}
use Rattle.opt_handles.proofs.Handles.{erased_none, erased_twice, stays_gone}
use Rattle.opt_chains.specs.Merging.{front, without, held, is_taken, last_of, along, AreTogether, IsReadyToJoin, TakesNoArgument, IsNextJoin, JoinsBlocks, HasJoined}
use Rattle.opt_chains.specs.declared.merging.Join.{Join}
use Rattle.opt_chains.proofs.MergeLists.{none_listed, last_at, front_last, front_both, without_none, without_both}

-- one step more: what is held and taken then
pub held_more : (js : List Join) (j : Join) (b : Ptr BasicBlock) → b ≢ j.first → held (js ++ j ∷ []) b ≡ held js b
held_more [] j b ne = rw (block_no j.first b (λ e. ne (sym e))) refl
held_more (i ∷ js) j b ne = ap (λ l. if same_block i.first b then i.block ∷ l else l) (held_more js j b ne)

pub held_first : (js : List Join) (j : Join) → held (js ++ j ∷ []) j.first ≡ held js j.first ++ j.block ∷ []
held_first [] j = rw (block_yes j.first j.first refl) refl
held_first (i ∷ js) j = by_case (same_block i.first j.first) (held_first js j) where
  by_case : (s : Bool) → held (js ++ j ∷ []) j.first ≡ held js j.first ++ j.block ∷ []
      → (if s then i.block ∷ held (js ++ j ∷ []) j.first else held (js ++ j ∷ []) j.first) ≡ (if s then i.block ∷ held js j.first else held js j.first) ++ j.block ∷ []
  by_case true e = ap (λ l. i.block ∷ l) e
  by_case false e = e

pub taken_more : (js : List Join) (j : Join) (b : Ptr BasicBlock) → is_taken (js ++ j ∷ []) b ≡ cond (same_block b j.block) true (is_taken js b)
taken_more [] j b = refl
taken_more (i ∷ js) j b = ap (λ t. cond (same_block b i.block) true t) (taken_more js j b) ∙ swap (same_block b i.block) (same_block b j.block) (is_taken js b) where
  swap : (x y z : Bool) → cond x true (cond y true z) ≡ cond y true (cond x true z)
  swap true true z = refl
  swap true false z = refl
  swap false true z = refl
  swap false false z = refl

-- the list up to an index and what is there
pub take_more : {X : Type 0} (xs : List X) (k : ℕ) (x : X) → slice_get xs k ≡ Some x → take (k + 1) xs ≡ take k xs ++ x ∷ []
take_more xs k x h = rw (add-one k) (by_suc xs k x h) where
  by_suc : {X : Type 0} (ys : List X) (n : ℕ) (y : X) → slice_get ys n ≡ Some y → take (suc n) ys ≡ take n ys ++ y ∷ []
  by_suc [] n y e = absurd (none_listed n y e)
  by_suc (z ∷ ys) zero y e = let s : Some z ≡ Some y = e in let q : z ≡ y = cc in ap (λ w. w ∷ []) q
  by_suc (z ∷ ys) (suc n) y e = ap (λ l. z ∷ l) (by_suc ys n y e)

-- a step is one of those before, or the last
pub at_more : {X : Type 0} (xs : List X) (x y : X) (k : ℕ) → slice_get (xs ++ x ∷ []) k ≡ Some y → (slice_get xs k ≡ Some y) ⊎ (y ≡ x)
at_more [] x y zero h = let s : Some x ≡ Some y = h in let e : y ≡ x = cc in inr e
at_more [] x y (suc k) h = absurd (none_listed k y h)
at_more (z ∷ xs) x y zero h = inl h
at_more (z ∷ xs) x y (suc k) h = at_more xs x y k h

-- the region without a block
abbrev less_one : Join → RegionView → RegionView
less_one j v = record { blocks = without (λ b. same_block b j.block) v.blocks }

abbrev less_if : Join → Option RegionView → Option RegionView
less_if j o = option_map (less_one j) o

both_false : (a b : Bool) → cond a true b ≡ false → (a ≡ false) × (b ≡ false)
both_false true b e = let f : true ≡ false = e in cc
both_false false b e = (refl, e)

is_left : (picks : Ptr BasicBlock → Bool) (ps : List (Ptr BasicBlock)) (p : Ptr BasicBlock) → picks p ≡ false → Has p ps → Has p (without picks ps)
is_left picks [] p out h = h
is_left picks (q ∷ ps) p out h = by_case (picks q) refl (is_left picks ps p out) h where
  by_case : (b : Bool) → picks q ≡ b → (Has p ps → Has p (without picks ps)) → Has p (q ∷ ps) → Has p (if b then without picks ps else q ∷ without picks ps)
  by_case true e ih h = ⊎_elim (λ (s : p ≡ q). let f : picks q ≡ false = sym (ap picks s) ∙ out in cc) (λ r. ih r) h
  by_case false e ih h = ⊎_elim (λ s. inl s) (λ r. inr (ih r)) h

at_front : {X : Type 0} (xs ys : List X) (k : ℕ) (x : X) → slice_get xs k ≡ Some x → slice_get (xs ++ ys) k ≡ Some x
at_front [] ys k x h = absurd (none_listed k x h)
at_front (y ∷ xs) ys zero x h = h
at_front (y ∷ xs) ys (suc k) x h = at_front xs ys k x h

module _ {O B : Type 0} (old : Program O B) where
  -- a chain and its last block's end
  pub along_ends : (z : Ptr BasicBlock) (cs : List (Ptr BasicBlock)) (p : Ptr Operation) (ps : List (Ptr Operation)) → ps ≡ operations_in old z → operations_in old (last_of z cs) ≡ front (operations_in old (last_of z cs)) ++ p ∷ []
      → (us : List (Ptr Operation)) × (along old ps cs ≡ us ++ p ∷ [])
  along_ends z [] p ps is ends = (front (operations_in old z), is ∙ ends)
  along_ends z (c ∷ cs) p ps is ends =
      let rest = along_ends c cs p (operations_in old c) refl ends in
      (front ps ++ rest.0, ap (λ l. front ps ++ l) rest.1 ∙ sym (append_assoc (front ps) rest.0 (p ∷ [])))

  -- one block more behind a chain
  pub along_more : (z : Ptr BasicBlock) (cs : List (Ptr BasicBlock)) (p : Ptr Operation) (b : Ptr BasicBlock) (ps : List (Ptr Operation)) → ps ≡ operations_in old z → operations_in old (last_of z cs) ≡ front (operations_in old (last_of z cs)) ++ p ∷ []
      → front (along old ps cs) ++ operations_in old b ≡ along old ps (cs ++ b ∷ [])
  along_more z [] p b ps is ends = refl
  along_more z (c ∷ cs) p b ps is ends =
      let end = along_ends c cs p (operations_in old c) refl ends in
      let shorter : front (along old (operations_in old c) cs) ≡ end.0 = ap front end.1 ∙ front_last end.0 p in
      let whole : front (front ps ++ along old (operations_in old c) cs) ≡ front ps ++ end.0 = ap (λ l. front (front ps ++ l)) end.1 ∙ front_both (front ps) end.0 p in
      ap (λ l. l ++ operations_in old b) (whole ∙ ap (λ l. front ps ++ l) (sym shorter)) ∙ append_assoc (front ps) (front (along old (operations_in old c) cs)) (operations_in old b)
      ∙ ap (λ l. front ps ++ l) (along_more c cs p b (operations_in old c) refl ends)

  -- no step is taken yet
  pub none_joined : HasJoined old old []
  none_joined = record {
    operations = λ p h. refl;
    branches = λ k j h. absurd (none_listed k j h);
    taken = λ b h. let f : false ≡ true = h in cc;
    erased = erased_none old;
    blocks = λ b h. same_block_view (block_at old b);
    regions = λ r. same_region_view (region_at old r);
  } where
    same_block_view : (o : Option (BlockView B)) → o ≡ option_map (λ (v : BlockView B). record v { operations = v.operations }) o
    same_block_view None = refl
    same_block_view (Some v) = refl

    same_region_view : (o : Option RegionView) → o ≡ option_map (λ (v : RegionView). record { blocks = without (is_taken []) v.blocks }) o
    same_region_view None = refl
    same_region_view (Some v) = ap (λ l. Some (record { blocks = l })) (sym (without_none (is_taken []) v.blocks (λ b h. refl)))

  module _ (mid : Program O B) (lists : HasLists mid) (js : List Join) (j : Join) (next : IsNextJoin old js j) (done : HasJoined old mid js) where
    mapped : (o : Option (BlockView B)) (f : List (Ptr Operation) → List (Ptr Operation)) → IsSome o → IsSome (option_map (λ (v : BlockView B). record v { operations = f v.operations }) o)
    mapped None f h = h
    mapped (Some v) f h = h

    listed : (o : Option (BlockView B)) (f : List (Ptr Operation) → List (Ptr Operation)) → IsSome o → unwrap_or (option_map (λ (v : BlockView B). v.operations) (option_map (λ (v : BlockView B). record v { operations = f v.operations }) o)) [] ≡ f (unwrap_or (option_map (λ (v : BlockView B). v.operations) o) [])
    listed None f h = cc
    listed (Some v) f h = refl

    first_live : IsSome (block_at old j.first)
    first_live = next.together.1.block

    -- what the block and the first of its chain hold by now
    block_now : block_at mid j.block ≡ block_at old j.block
    block_now = done.blocks j.block next.fresh ∙ ap (λ cs. option_map (λ (v : BlockView B). record v { operations = along old v.operations cs }) (block_at old j.block)) next.whole ∙ same (block_at old j.block) where
      same : (o : Option (BlockView B)) → option_map (λ (v : BlockView B). record v { operations = v.operations }) o ≡ o
      same None = refl
      same (Some v) = refl

    first_now : operations_in mid j.first ≡ along old (operations_in old j.first) (held js j.first)
    first_now = ap (λ o. unwrap_or (option_map (λ (v : BlockView B). v.operations) o) []) (done.blocks j.first next.kept) ∙ listed (block_at old j.first) (λ ps. along old ps (held js j.first)) first_live

    -- what an operation is by now
    pub operation_now : (q : Ptr Operation) → (operation_at mid q ≡ None) ⊎ (operation_at mid q ≡ operation_at old q)
    operation_now q = by_search js (λ k i h. (done.branches k i h).0) (λ h. done.operations q h) where
      by_search : (is : List Join) → ((k : ℕ) (i : Join) → slice_get is k ≡ Some i → operation_at mid i.branch ≡ None) → (((k : ℕ) (i : Join) → slice_get is k ≡ Some i → i.branch ≢ q) → operation_at mid q ≡ operation_at old q)
          → (operation_at mid q ≡ None) ⊎ (operation_at mid q ≡ operation_at old q)
      by_search [] gone same = inr (same (λ k i h. absurd (none_listed k i h)))
      by_search (i ∷ is) gone same = ⊎_elim
          (λ (e : i.branch ≡ q). inl (subst (λ p. operation_at mid p ≡ None) e (gone zero i refl)))
          (λ (ne : i.branch ≢ q). by_search is (λ k x h. gone (suc k) x h) (λ h. same (at_each ne h)))
          (same_or_not i.branch q)
        where
          at_each : i.branch ≢ q → ((k : ℕ) (x : Join) → slice_get is k ≡ Some x → x.branch ≢ q) → (k : ℕ) (x : Join) → slice_get (i ∷ is) k ≡ Some x → x.branch ≢ q
          at_each ne h zero x e = let s : Some i ≡ Some x = e in let t : i ≡ x = cc in subst (λ (y : Join). y.branch ≢ q) t ne
          at_each ne h (suc k) x e = h k x e

    together_now : AreTogether mid j.first j.block
    together_now =
        let r = next.together.0 in
        let stays : (b : Ptr BasicBlock) → is_taken js b ≡ false → StandsInRegion old b r → StandsInRegion mid b r = λ b left s.
        let has = has_at (without (is_taken js) (blocks_in old r)) b (is_left (is_taken js) (blocks_in old r) b left (at_has (blocks_in old r) s.index b s.here)) in
        lists.blocks r has.0 b (ap (λ l. slice_get l has.0) (blocks_now r) ∙ has.1) in
        (r, stays j.first next.kept next.together.1, stays j.block next.fresh next.together.2)
      where
        blocks_now : (r : Ptr Region) → blocks_in mid r ≡ without (is_taken js) (blocks_in old r)
        blocks_now r = ap (λ o. unwrap_or (option_map (λ (v : RegionView). v.blocks) o) []) (done.regions r) ∙ of (region_at old r) where
          of : (o : Option RegionView) → unwrap_or (option_map (λ (v : RegionView). v.blocks) (option_map (λ (v : RegionView). record { blocks = without (is_taken js) v.blocks }) o)) [] ≡ without (is_taken js) (unwrap_or (option_map (λ (v : RegionView). v.blocks) o) [])
          of None = refl
          of (Some v) = refl

    -- the next step can be taken
    pub ready_now : TakesNoArgument old j.block → IsReadyToJoin mid j
    ready_now unused = record {
      first = subst IsSome (sym (done.blocks j.first next.kept)) (mapped (block_at old j.first) (λ ps. along old ps (held js j.first)) first_live);
      block = subst IsSome (sym block_now) next.together.2.block;
      other = next.other;
      together = together_now;
      joint = record {
        ends =
            let end = along_ends j.first (held js j.first) j.branch (operations_in old j.first) refl next.joint.ends in
            let now : operations_in mid j.first ≡ end.0 ++ j.branch ∷ [] = first_now ∙ end.1 in
            now ∙ ap (λ l. l ++ j.branch ∷ []) (sym (ap front now ∙ front_last end.0 j.branch));
        view = next.joint.view;
        there = done.operations j.branch (λ k i h. next.branch_left i k h) ∙ next.joint.there;
        results = next.joint.results;
        regions = next.joint.regions;
        single = λ q k h. ⊎_elim
            (λ e. absurd (none_listed k j.block (subst (λ o. slice_get (unwrap_or (option_map (λ (y : OperationView O). y.successors) o) []) k ≡ Some j.block) e h)))
            (λ e. next.joint.single q k (subst (λ o. slice_get (unwrap_or (option_map (λ (y : OperationView O). y.successors) o) []) k ≡ Some j.block) e h))
            (operation_now q);
      };
      unused = λ q k v h. ⊎_elim
          (λ e. absurd (none_listed k v (subst (λ o. slice_get (unwrap_or (option_map (λ (y : OperationView O). y.operands) o) []) k ≡ Some v) e h)))
          (λ e. unused q k v (subst (λ o. slice_get (unwrap_or (option_map (λ (y : OperationView O). y.operands) o) []) k ≡ Some v) e h))
          (operation_now q);
    }

    -- and then one step more is taken
    pub one_more : (new : Program O B) → JoinsBlocks mid new j → HasJoined old new (js ++ j ∷ [])
    one_more new step = record {
      operations = λ p h.
          step.operations p (λ e. h (length js) j (last_at js j) (sym e)) ∙ done.operations p (λ k i g. h k i (at_front js (j ∷ []) k i g));
      branches = λ k i h. ⊎_elim
          (λ (g : slice_get js k ≡ Some i). stays_gone mid new step.erased (OperationNode i.branch) (done.branches k i g))
          (λ (e : i ≡ j). subst (λ (x : Join). IsGone new (OperationNode x.branch)) (sym e) step.branch)
          (at_more js j i k h);
      blocks = λ b h.
          let t : cond (same_block b j.block) true (is_taken js b) ≡ false = sym (taken_more js j b) ∙ h in
          let two = both_false (same_block b j.block) (is_taken js b) t in
          let other : b ≢ j.block = λ e. let y : same_block b j.block ≡ true = block_yes b j.block e in let f : true ≡ false = sym y ∙ two.0 in cc in
          ⊎_elim
          (λ (e : b ≡ j.first). subst (λ x. block_at new x ≡ option_map (λ (v : BlockView B). record v { operations = along old v.operations (held (js ++ j ∷ []) x) }) (block_at old x)) (sym e) at_first)
          (λ (ne : b ≢ j.first). step.blocks b ne other ∙ done.blocks b two.1 ∙ ap (λ cs. option_map (λ (v : BlockView B). record v { operations = along old v.operations cs }) (block_at old b)) (sym (held_more js j b ne)))
          (same_or_not b j.first);
      taken = λ b h. ⊎_elim
          (λ (e : b ≡ j.block). subst (λ x. IsGone new (BlockNode x)) (sym e) step.block)
          (λ (ne : b ≢ j.block). stays_gone mid new step.erased (BlockNode b)
          (done.taken b (sym (ap (λ s. cond s true (is_taken js b)) (block_no b j.block ne)) ∙ sym (taken_more js j b) ∙ h)))
          (same_or_not b j.block);
      regions = λ r. step.regions r ∙ ap (less_if j) (done.regions r) ∙ less_both (region_at old r);
      erased = erased_twice old mid new done.erased step.erased;
    } where
      at_first : block_at new j.first ≡ option_map (λ (v : BlockView B). record v { operations = along old v.operations (held (js ++ j ∷ []) j.first) }) (block_at old j.first)
      at_first = step.first ∙ ap (option_map (λ (v : BlockView B). record v { operations = front v.operations ++ operations_in mid j.block })) (done.blocks j.first next.kept)
          ∙ ap (λ l. option_map (λ (v : BlockView B). record v { operations = front v.operations ++ l }) (option_map (λ (v : BlockView B). record v { operations = along old v.operations (held js j.first) }) (block_at old j.first))) (ap (λ o. unwrap_or (option_map (λ (v : BlockView B). v.operations) o) []) block_now)
          ∙ longer (block_at old j.first) refl
          ∙ ap (λ cs. option_map (λ (v : BlockView B). record v { operations = along old v.operations cs }) (block_at old j.first)) (sym (held_first js j)) where
            longer : (o : Option (BlockView B)) → block_at old j.first ≡ o → option_map (λ (v : BlockView B). record v { operations = front v.operations ++ operations_in old j.block }) (option_map (λ (v : BlockView B). record v { operations = along old v.operations (held js j.first) }) o)
                ≡ option_map (λ (v : BlockView B). record v { operations = along old v.operations (held js j.first ++ j.block ∷ []) }) o
            longer None e = refl
            longer (Some v) e = ap (λ l. Some (record v { operations = l })) (along_more j.first (held js j.first) j.branch j.block v.operations (sym (ap (λ o. unwrap_or (option_map (λ (x : BlockView B). x.operations) o) []) e)) next.joint.ends)

      less_both : (o : Option RegionView) → less_if j (option_map (λ (v : RegionView). record { blocks = without (is_taken js) v.blocks }) o) ≡ option_map (λ (v : RegionView). record { blocks = without (is_taken (js ++ j ∷ [])) v.blocks }) o
      less_both None = refl
      less_both (Some v) = ap (λ l. Some (record { blocks = l })) (without_both (is_taken js) (λ b. same_block b j.block) (is_taken (js ++ j ∷ [])) v.blocks (λ b. taken_more js j b))

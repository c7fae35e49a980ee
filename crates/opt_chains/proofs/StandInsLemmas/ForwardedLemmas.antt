-- What is forwarded in the program is what is given in the tree.
use Rattle.std.proofs.Common.{◌≡◌, inr, ⊎_elim, ℕ, zero, suc, ◌<◌, true, false, cond, List, [], ◌∷◌, map, length, take, Option, Some, None, IsSome, option_map, unwrap_or, slice_get, refl, sym, ap, ◌∙◌, subst, arith}
use Rattle.ir_base.specs.declared.types.TypeHandle.{TypeHandle}
use Rattle.ir_program.specs.Definers.{StandsAtDefiner, values_at}
use Rattle.ir_program.specs.Program.{Program, TypedValue, OperationView, BlockView, operation_at, arguments_at, value_in, type_in, type_at, IsLiveValue}
use Rattle.ir_program.specs.Rows.{operands_at, successors_at}
use Rattle.ir_program.specs.Uses.{IsUsed}
use Rattle.ir_program.specs.declared.handles.DefiningEntity.{DefiningEntity}
use Rattle.ir_program.specs.declared.handles.DefiningEntity.TheVariants.{Block as ByBlock}
use Rattle.ir_program.specs.declared.handles.Ptr.{Ptr}
use Rattle.ir_program.specs.declared.handles.Operation.{Operation}
use Rattle.ir_program.specs.declared.handles.BasicBlock.{BasicBlock}
use Rattle.ir_program.specs.declared.handles.Value.{Value}
use Rattle.ir_program.proofs.made.Frames.{same_or_not}
use Rattle.ir_trees.proofs.HandleTests.{block_no}
use Rattle.ir_trees.proofs.Members.{Has, at_has}
use Rattle.ir_trees.specs.Renames.{names_of}
use Rattle.ir_trees.specs.Searched.{Lists}
use Rattle.ir_trees.specs.Stands.{by_handle, in_program, ProgramTree, ProgramHead, ProgramLabel, defined_by}
use Rattle.opt_chains.specs.Chained.{AreChains}
use Rattle.opt_chains.specs.Merging.{held, is_taken, last_of}
use Rattle.opt_chains.specs.declared.merging.Join.{Join}
use Rattle.opt_chains.proofs.ChainBare.{joinable_exit, last_under}
use Rattle.opt_chains.proofs.MergePairs.{is_used}
use Rattle.opt_chains.proofs.NextJoinable.{Occurs}
use Rattle.opt_inside.proofs.Around.{HasLists}
use Rattle.opt_inside.specs.Numbered.{Numbers, NumbersInside}
use Rattle.opt_inside.specs.Occurring.{Found, FoundBlock}
use Rattle.opt_inside.specs.reach.Edges.{FitsEdgesFrom, HasLocalEdgesFrom}
use Rattle.opt_inside.specs.reach.Starts.{IsStartIn}
use Rattle.opt_inside.specs.declared.reach.starts.Start.{Start}
use Rattle.opt_trees.specs.Dialect.{Dialect, Lawful}
use Rattle.opt_trees.specs.Facts.{forwarded}
use Rattle.opt_trees.specs.Occurrences.{cons_if, picks, occurrences_of, block_occurrences_of}
use Rattle.opt_trees.specs.Simplify.{StartingRegions, Joinable, IsGiven}
use Rattle.opt_chains.specs.stand_ins.Forwarded.{forwarded_by, IsForwarded}
use Rattle.opt_chains.proofs.StandInsLemmas.TableLemmas.{none_listed, same_some, element}

-- a block that is taken is that of a step
taken_by : (js : List Join) (b : Ptr BasicBlock) → is_taken js b ≡ true → (k : ℕ) × (j : Join) × (slice_get js k ≡ Some j) × (j.block ≡ b)
taken_by [] b h = let f : false ≡ true = h in cc
taken_by (j ∷ js) b h = ⊎_elim
    (λ (e : b ≡ j.block). (zero, j, refl, sym e))
    (λ ne.
    let later = taken_by js b (sym (ap (λ s. cond s true (is_taken js b)) (block_no b j.block ne)) ∙ h) in
    (suc later.0, later.1, later.2, later.3))
    (same_or_not b j.block)

-- the names of definitions are the values
names_defined : (ts : List TypedValue) (k : ℕ) → slice_get (names_of (map defined_by ts)) k ≡ value_in ts k
names_defined [] k = refl
names_defined (x ∷ ts) zero = refl
names_defined (x ∷ ts) (suc k) = names_defined ts k

-- a value that is there has a type
type_there : (ts : List TypedValue) (k : ℕ) (v : Value) → value_in ts k ≡ Some v → (ty : TypeHandle) × (type_in ts k ≡ Some ty)
type_there [] k v h = cc
type_there (x ∷ ts) zero v h = (x.ty, refl)
type_there (x ∷ ts) (suc k) v h = type_there ts k v h

value_within : (ts : List TypedValue) (k : ℕ) (v : Value) → value_in ts k ≡ Some v → k < length ts
value_within [] k v h = cc
value_within (x ∷ ts) zero v h = omega arith
value_within (x ∷ ts) (suc k) v h = let l = value_within ts k v h in omega (arith, l)

module _ {X : Type 0} (xs : List X) where
  -- what is picked is in the list
  picked_from : (is : List ℕ) (k : ℕ) (x : X) → slice_get (picks xs is) k ≡ Some x → (i : ℕ) × (slice_get xs i ≡ Some x)
  picked_from [] k x h = absurd (none_listed k x h)
  picked_from (i ∷ is) k x h = first_or_later (slice_get xs i) refl (λ j g. picked_from is j x g) k h
    where
      first_or_later : (o : Option X) → slice_get xs i ≡ o → ((j : ℕ) → slice_get (picks xs is) j ≡ Some x → (m : ℕ) × (slice_get xs m ≡ Some x)) → (j : ℕ) → slice_get (cons_if o (picks xs is)) j ≡ Some x → (m : ℕ) × (slice_get xs m ≡ Some x)
      first_or_later None e later j g = later j g
      first_or_later (Some y) e later zero g = (i, e ∙ g)
      first_or_later (Some y) e later (suc j) g = later j g

  -- where each index is in the list, as many are picked
  picked_count : (is : List ℕ) → ((k i : ℕ) → slice_get is k ≡ Some i → i < length xs) → length (picks xs is) ≡ length is
  picked_count [] within = refl
  picked_count (i ∷ is) within =
      let here = element xs i (within zero i refl) in
      ap (λ o. length (cons_if o (picks xs is))) here.1 ∙ ap suc (picked_count is (λ k j h. within (suc k) j h))

module _ {O B A : Type 0} (d : Dialect (in_program O B) A) (place : StartingRegions by_handle) (c : Program O B) (op : Ptr Operation) (t : ProgramTree O B) (occurs : Occurs c op t) where
  forwards_same : (o : Found O B) → Has o (occurrences_of t) → forwarded d o.head 0 ≡ forwarded_by d c o.head.name
  forwards_same o has =
      let i = occurs.sound o has in
      ap (λ (h : ProgramHead O B). forwarded d h 0) i.head
      ∙ ap (λ x. unwrap_or (option_map (λ (v : OperationView O). picks v.operands (d.forwards v.payload (length v.operands) 0)) x) []) (sym i.there)

  arguments_same : (x : FoundBlock O B) → Has x (block_occurrences_of t) → (k : ℕ) → slice_get (names_of x.label.arguments) k ≡ value_in (arguments_at c x.label.name) k
  arguments_same x has k =
      let i = occurs.blocks_sound x has in
      ap (λ (l : ProgramLabel O B). slice_get (names_of l.arguments) k) i.label ∙ names_defined i.view.arguments k
      ∙ ap (λ o. value_in (unwrap_or (option_map (λ (v : BlockView B). v.arguments) o) []) k) (sym i.there)

  leads_to : (a b : Ptr BasicBlock) (joins : Joinable d place t a b) → slice_get (successors_at c joins.last.head.name) 0 ≡ Some b
  leads_to a b joins =
      let i = occurs.sound joins.last joins.stands in
      ap (λ o. slice_get (unwrap_or (option_map (λ (v : OperationView O). v.successors) o) []) 0) i.there
      ∙ ap (λ (h : ProgramHead O B). slice_get h.successors 0) (sym i.head) ∙ ap (λ l. slice_get l 0) joins.leads

  module _ (js : List Join) (chains : AreChains d place c t js) where
    -- the last operation of a block is the branch of the step that joins the next one
    branch_is : (k : ℕ) (j : Join) → slice_get js k ≡ Some j → (a b : Ptr BasicBlock) (joins : Joinable d place t a b) → j.block ≡ b → joins.last.head.name ≡ j.branch
    branch_is k j here a b joins e = (chains.joins k j here).joint.single joins.last.head.name 0 (leads_to a b joins ∙ ap Some (sym e))

    joins_at : (k : ℕ) (j : Join) → slice_get js k ≡ Some j → Joinable d place t (last_of j.first (held (take k js) j.first)) j.block
    joins_at k j here = chains.sound k j here

    pub given_forwarded : (v u : Value) → IsGiven d place t v u → IsForwarded d c js v u
    given_forwarded v u g =
        let step = taken_by js g.to (chains.all g.from g.to g.joins) in
        let branch = branch_is step.0 step.1 step.2 g.from g.to g.joins step.3 in (
          step.1,
          (step.0, step.2),
          (
            g.place,
            ap (λ b. value_in (arguments_at c b) g.place) (step.3 ∙ sym g.joins.target_name) ∙ sym (arguments_same g.joins.target g.joins.target_stands g.place) ∙ g.takes,
            ap (λ p. slice_get (forwarded_by d c p) g.place) (sym branch) ∙ ap (λ l. slice_get l g.place) (sym (forwards_same g.joins.last g.joins.stands)) ∙ g.gives,
          ),
        )

    pub forwarded_given : (v u : Value) → IsForwarded d c js v u → IsGiven d place t v u
    forwarded_given v u f =
        let joins = joins_at f.1.0 f.0 f.1.1 in
        let branch = branch_is f.1.0 f.0 f.1.1 (last_of f.0.first (held (take f.1.0 js) f.0.first)) f.0.block joins refl in
        record {
          from = last_of f.0.first (held (take f.1.0 js) f.0.first);
          to = f.0.block;
          joins = joins;
          place = f.2.0;
          takes = arguments_same joins.target joins.target_stands f.2.0 ∙ ap (λ b. value_in (arguments_at c b) f.2.0) joins.target_name ∙ f.2.1;
          gives = ap (λ l. slice_get l f.2.0) (forwards_same joins.last joins.stands) ∙ ap (λ p. slice_get (forwarded_by d c p) f.2.0) branch ∙ f.2.2;
        }

    module _ (definer : (e : DefiningEntity) (k : ℕ) (v : Value) → value_in (values_at c e) k ≡ Some v → v.definer ≡ e)
        (typed : (e : DefiningEntity) (k : ℕ) (v : Value) → value_in (values_at c e) k ≡ Some v → type_at c v ≡ type_in (values_at c e) k)
        (stands : (v : Value) (ty : TypeHandle) → type_at c v ≡ Some ty → StandsAtDefiner c v ty)
        (used : (v : Value) → IsUsed c v → IsLiveValue c v) where
      argument_typed : (b : Ptr BasicBlock) (k : ℕ) (v : Value) → value_in (arguments_at c b) k ≡ Some v → (ty : TypeHandle) × (type_at c v ≡ Some ty)
      argument_typed b k v h = let ty = type_there (arguments_at c b) k v h in (ty.0, typed (ByBlock b) k v h ∙ ty.1)

      pub argument_live : (v u : Value) → IsForwarded d c js v u → IsLiveValue c v
      argument_live v u f = let ty = argument_typed f.0.block f.2.0 v f.2.1 in subst IsSome (sym ty.1) refl

      -- one value alone is forwarded to an argument
      pub one_forwarded : (v u w : Value) → IsForwarded d c js v u → IsForwarded d c js v w → u ≡ w
      one_forwarded v u w f g =
          let own_f : v.definer ≡ ByBlock f.0.block = definer (ByBlock f.0.block) f.2.0 v f.2.1 in
          let own_g : v.definer ≡ ByBlock g.0.block = definer (ByBlock g.0.block) g.2.0 v g.2.1 in
          let both : ByBlock f.0.block ≡ ByBlock g.0.block = sym own_f ∙ own_g in
          let block : g.0.block ≡ f.0.block = cc in
          let ty = argument_typed f.0.block f.2.0 v f.2.1 in
          let at = stands v ty.0 ty.1 in
          let index : f.2.0 ≡ g.2.0 = at.once f.2.0 (ap (λ e. value_in (values_at c e) f.2.0) own_f ∙ f.2.1) ∙ sym (at.once g.2.0 (ap (λ e. value_in (values_at c e) g.2.0) own_g ∙ g.2.1)) in
          let joins = joins_at f.1.0 f.0 f.1.1 in
          let from = last_of f.0.first (held (take f.1.0 js) f.0.first) in
          let branch : f.0.branch ≡ g.0.branch = sym (branch_is f.1.0 f.0 f.1.1 from f.0.block joins refl) ∙ branch_is g.1.0 g.0 g.1.1 from f.0.block joins block in
          same_some (slice_get (forwarded_by d c g.0.branch) g.2.0) u w ((λ i. slice_get (forwarded_by d c (sym branch i)) (sym index i)) ∙ f.2.2) g.2.2

      forwarded_taken : (p : Ptr Operation) (k : ℕ) (u : Value) → slice_get (forwarded_by d c p) k ≡ Some u → (m : ℕ) × (slice_get (operands_at c p) m ≡ Some u)
      forwarded_taken p k u h = by_case (operation_at c p) h where
        by_case : (o : Option (OperationView O)) → slice_get (unwrap_or (option_map (λ (v : OperationView O). picks v.operands (d.forwards v.payload (length v.operands) 0)) o) []) k ≡ Some u
            → (m : ℕ) × (slice_get (unwrap_or (option_map (λ (v : OperationView O). v.operands) o) []) m ≡ Some u)
        by_case None g = absurd (none_listed k u g)
        by_case (Some v) g = picked_from v.operands (d.forwards v.payload (length v.operands) 0) k u g

      pub forwarded_live : (v u : Value) → IsForwarded d c js v u → IsLiveValue c u
      forwarded_live v u f = let m = forwarded_taken f.0.branch f.2.0 u f.2.2 in used u (is_used c f.0.branch m.0 u m.1)

    module _ (n : Numbers) (numbered : NumbersInside c op n) where
      pub argument_numbered : (v u : Value) → IsForwarded d c js v u → Lists n.values v
      argument_numbered v u f =
          let joins = joins_at f.1.0 f.0 f.1.1 in
          let i = occurs.blocks_sound joins.target joins.target_stands in
          let at : value_in (arguments_at c joins.target.label.name) f.2.0 ≡ Some v = ap (λ b. value_in (arguments_at c b) f.2.0) joins.target_name ∙ f.2.1 in
          let row : value_in i.view.arguments f.2.0 ≡ Some v = ap (λ o. value_in (unwrap_or (option_map (λ (w : BlockView B). w.arguments) o) []) f.2.0) (sym i.there) ∙ at in
          (numbered.values v).1 (inr (joins.target.label.name, i.view, i.below, i.there, at_has (names_of (map defined_by i.view.arguments)) f.2.0 v (names_defined i.view.arguments f.2.0 ∙ row)))

    module _ (lists : HasLists c) (start : Start) (is_start : IsStartIn c start place) (edges : HasLocalEdgesFrom d.is_terminator c start) (fits : FitsEdgesFrom d c start) (lawful : Lawful d) where
      -- something is forwarded to each argument of a block that is joined
      pub each_forwarded : (j : Join) → Lists js j → (k : ℕ) (v : Value) → value_in (arguments_at c j.block) k ≡ Some v → (u : Value) × IsForwarded d c js v u
      each_forwarded j listed k v at =
          let joins = joins_at listed.0 j listed.1 in
          let from = last_of j.first (held (take listed.0 js) j.first) in
          let exit = joinable_exit d place c op t lists start is_start edges occurs.sound from j.block joins in
          let under = last_under d place c op t lists start is_start edges occurs.sound from j.block joins in
          let branch = branch_is listed.0 j listed.1 from j.block joins refl in
          let operands = exit.view.operands in
          let indices = d.forwards exit.view.payload (length operands) 0 in
          let many : length indices ≡ length (arguments_at c j.block) = fits joins.last.head.name exit.view 0 j.block under exit.there exit.branches (ap (λ l. slice_get l 0) exit.successors) in
          let count : length (picks operands indices) ≡ length indices = picked_count operands indices (λ m o h. lawful.forwards_within exit.view.payload (length operands) 0 m o h) in
          let within = value_within (arguments_at c j.block) k v at in
          let u = element (picks operands indices) k (omega (arith, within, many, count)) in
          let row : forwarded_by d c j.branch ≡ picks operands indices = ap (forwarded_by d c) (sym branch) ∙ ap (λ x. unwrap_or (option_map (λ (w : OperationView O). picks w.operands (d.forwards w.payload (length w.operands) 0)) x) []) exit.there in
          (u.0, (j, listed, (k, at, ap (λ l. slice_get l k) row ∙ u.1)))

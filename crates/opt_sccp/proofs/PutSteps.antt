-- One more constant put in.
use Rattle.std.proofs.Common.{◌≡◌, ◌≢◌, inl, inr, ⊎_elim, ℕ, ◌<◌, cond, List, [], ◌∷◌, ◌++◌, map, length, Option, Some, None, option_map, unwrap_or, slice_get, insert, refl, sym, ap, ◌∙◌, subst, arith}
use Rattle.ir_base.specs.declared.types.TypeHandle.{TypeHandle}
use Rattle.ir_program.specs.Program.{Program, OperationView, BlockView, TypedValue, operation_at, block_at, value_in}
use Rattle.ir_program.specs.Definers.{values_at}
use Rattle.ir_program.specs.Edits.{EditsBlock}
use Rattle.ir_program.specs.Lists.{operations_in, StandsInBlock}
use Rattle.ir_program.specs.ListEdits.{PutsOperationBefore}
use Rattle.ir_program.specs.Replacing.{replacing}
use Rattle.ir_program.specs.declared.handles.Ptr.{Ptr}
use Rattle.ir_program.specs.declared.handles.Operation.{Operation}
use Rattle.ir_program.specs.declared.handles.BasicBlock.{BasicBlock}
use Rattle.ir_program.specs.declared.handles.Value.{Value}
use Rattle.ir_program.specs.declared.handles.DefiningEntity.{DefiningEntity}
use Rattle.ir_program.specs.declared.handles.DefiningEntity.TheVariants.{Op as ByOp, Block as ByBlock}
use Rattle.ir_program.proofs.made.Frames.{same_or_not, option_map-same}
use Rattle.ir_program.proofs.used.Renaming.{value-test}
use Rattle.ir_trees.specs.Trees.{Defined, end}
use Rattle.ir_trees.specs.Stands.{in_program, defined_by, label_of}
use Rattle.ir_trees.specs.Rewrites.{roots, in_place, operations_after}
use Rattle.ir_trees.proofs.Members.{Has as Among, at_has}
use Rattle.ir_trees.proofs.ListEdited.{AreOrderly, listed_there, listed_once, elsewhere, at_index}
use Rattle.opt_trees.specs.Dialect.{Dialect}
use Rattle.opt_trees.specs.Occurrences.{Has}
use Rattle.opt_sccp.specs.Made.{IsPutList}
use Rattle.opt_sccp.specs.Placed.{Placed, PlacedFor, placed_for, used_for, renamed, for_results, for_arguments, puts_constants, IsConstant, HasPutConstants, PutsAtDefiner, PutsOne}
use Rattle.opt_sccp.proofs.Definitions.{AreDefined, index_name, results_are, arguments_are, name_at, block_around, IsResultBelow, IsArgumentBelow}
use Rattle.opt_sccp.proofs.GrownLists.{same_results, same_arguments, AddsAt, results_more, arguments_more}
use Rattle.opt_sccp.proofs.Insertions.{with_before, behind, listed_at, insert_behind, same_before, one_more}
use Rattle.opt_sccp.proofs.Options.{something}
use Rattle.opt_sccp.proofs.PlacedLists.{made_in, first_of_two, alone, alone_is, alone_not, placed_more, placed_has, placed_none, has_front, has_last, last_has}
use Rattle.opt_sccp.proofs.PutLists.{before_last, place, placed_at, in_order}
use Rattle.opt_sccp.proofs.PutState.{operation_now}

no_regions_made : {X : Type 0} (xs : List X) → length xs ≡ 0 → xs ≡ []
no_regions_made [] e = refl
no_regions_made (x ∷ xs) e = cc

first_or_none : {X : Type 0} (o : Option X) → first_of_two o None ≡ o
first_or_none None = refl
first_or_none (Some x) = refl

fused : {X : Type 0} (f g h : X → X) (o : Option X) → ((x : X) → f (g x) ≡ h x) → option_map f (option_map g o) ≡ option_map h o
fused f g h None e = refl
fused f g h (Some x) e = ap Some (e x)

module _ {O B A : Type 0} (d : Dialect (in_program O B) A) (old : Program O B) (f : PlacedFor O A) where
  -- the constants before an operation that is there, and the list of a block with constants
  abbrev pub before_at : Option (OperationView O) → List (Ptr Operation)
  before_at None = []
  before_at (Some u) = roots (for_results d f (map defined_by u.results))

  abbrev pub listing : Ptr BasicBlock → BlockView B → List (Ptr Operation)
  listing b l = roots (for_arguments d f (label_of {O = O} b l).arguments end) ++ operations_after old (puts_constants d f) l.operations

  abbrev pub with_listing : Ptr BasicBlock → BlockView B → BlockView B
  with_listing b l = record l { operations = listing b l }

  pub after_is : (xs : List (Ptr Operation)) → ((q : Ptr Operation) → Among q xs → (u : OperationView O) × (operation_at old q ≡ Some u))
      → operations_after old (puts_constants d f) xs ≡ with_before (λ q. before_at (operation_at old q)) xs
  after_is [] there = refl
  after_is (x ∷ xs) there =
      let v = there x (inl refl) in
      let rest = after_is xs (λ q h. there q (inr h)) in
      ap (λ o. in_place old (puts_constants d f) x o (operations_after old (puts_constants d f) xs)) v.1
      ∙ (λ i. before_at (Some v.0) ++ (x ∷ rest i))
      ∙ ap (λ o. before_at o ++ (x ∷ with_before (λ q. before_at (operation_at old q)) xs)) (sym v.1)

module _ {O B A : Type 0} (d : Dialect (in_program O B) A) (old mid new : Program O B) (ps : List (Placed O A)) (put : HasPutConstants d old mid ps)
    (lists : AreOrderly old) (values : AreDefined old) (op : Ptr Operation) (x : Placed O A) (list : IsPutList d old op (made_in (ps ++ x ∷ []))) (step : PutsOne d mid new x) where
  abbrev more : List (Placed O A)
  more = ps ++ x ∷ []

  -- the values that were put in before stand before it, where they are of one definer
  earlier : (y : Placed O A) → Has y ps → (e : DefiningEntity) (a b : ℕ) → value_in (values_at old e) a ≡ Some y.made.value → value_in (values_at old e) b ≡ Some x.made.value → a < b
  earlier y h = let i = before_last ps y x h in in_order d old more values op list i.0 i.1 y x i.2 i.3 i.4

  was_none : placed_for ps x.made.value ≡ None
  was_none = placed_none ps x.made.value (λ y h e.
      let at = placed_at d old more values op list x (last_has ps x) in
      let less : at.1 < at.1 = earlier y h at.0 at.1 at.1 (at.2 ∙ ap Some (sym e)) at.2 in
      omega arith)

  now_is : placed_for more x.made.value ≡ Some x
  now_is = placed_more ps x x.made.value ∙ (λ i. first_of_two (was_none i) (alone_is x x.made.value refl i))

  agree : (v : Value) → v ≢ x.made.value → placed_for more v ≡ placed_for ps v
  agree v ne = placed_more ps x v ∙ ap (λ o. first_of_two (placed_for ps v) o) (alone_not x v ne) ∙ first_or_none (placed_for ps v)

  later_none : (e : DefiningEntity) (j k : ℕ) (w : Value) → value_in (values_at old e) k ≡ Some x.made.value → value_in (values_at old e) j ≡ Some w → k < j → placed_for ps w ≡ None
  later_none e j k w at h less = placed_none ps w (λ y has q. let l : j < k = earlier y has e j k (h ∙ ap Some (sym q)) at in omega arith)

  -- at its definer it is one more
  adds : (e : DefiningEntity) (ts : List TypedValue) → values_at old e ≡ ts → (k : ℕ) → value_in ts k ≡ Some x.made.value → AddsAt d (placed_for more) (placed_for ps) x (map defined_by ts) k
  adds e ts same k at =
      let n = name_at ts k x.made.value at in
      let here : value_in (values_at old e) k ≡ Some x.made.value = ap (λ z. value_in z k) same ∙ at in
      let there : (j : ℕ) (w : Defined Value TypeHandle) → slice_get (map defined_by ts) j ≡ Some w → value_in (values_at old e) j ≡ Some w.name = λ j w h. ap (λ z. value_in z j) same ∙ index_name ts j w h in
      record {
        value = n.0;
        stands = n.1;
        now = ap (placed_for more) n.2 ∙ now_is;
        was = ap (placed_for ps) n.2 ∙ was_none;
        earlier = λ j w h less. agree w.name (λ q. let s : j ≡ k = values.once e j k x.made.value (there j w h ∙ ap Some q) here in omega arith);
        later = λ j w h less. agree w.name (λ q. let s : j ≡ k = values.once e j k x.made.value (there j w h ∙ ap Some q) here in omega arith) ∙ later_none e j k w.name here (there j w h) less;
        later_was = λ j w h less. later_none e j k w.name here (there j w h) less;
      }

  -- at other definers nothing is new
  agree_elsewhere : (e : DefiningEntity) → e ≢ x.made.value.definer → (ts : List TypedValue) → values_at old e ≡ ts
      → (k : ℕ) (w : Defined Value TypeHandle) → slice_get (map defined_by ts) k ≡ Some w → placed_for more w.name ≡ placed_for ps w.name
  agree_elsewhere e ne ts same k w h = agree w.name (λ q. ne (sym (values.definer e k w.name (ap (λ z. value_in z k) same ∙ index_name ts k w h)) ∙ ap (λ (v : Value). v.definer) q))

  before_other : (q : Ptr Operation) (o : Option (OperationView O)) → operation_at old q ≡ o → ByOp q ≢ x.made.value.definer → before_at d old (placed_for more) o ≡ before_at d old (placed_for ps) o
  before_other q None e ne = refl
  before_other q (Some u) e ne = ap roots (same_results d (placed_for more) (placed_for ps) (map defined_by u.results) (agree_elsewhere (ByOp q) ne u.results (results_are old q u e)))

  arguments_other : (b : Ptr BasicBlock) (l : BlockView B) → block_at old b ≡ Some l → ByBlock b ≢ x.made.value.definer
      → for_arguments d (placed_for more) (map defined_by l.arguments) end ≡ for_arguments d (placed_for ps) (map defined_by l.arguments) end
  arguments_other b l there ne = same_arguments d (placed_for more) (placed_for ps) (map defined_by l.arguments) end (agree_elsewhere (ByBlock b) ne l.arguments (arguments_are old b l there))

  operations_other : (b : Ptr BasicBlock) (l : BlockView B) → block_at old b ≡ Some l → ((q : Ptr Operation) → Among q l.operations → ByOp q ≢ x.made.value.definer)
      → operations_after old (puts_constants d (placed_for more)) l.operations ≡ operations_after old (puts_constants d (placed_for ps)) l.operations
  operations_other b l there ne =
      after_is d old (placed_for more) l.operations (listed_there old lists b l there)
      ∙ same_before (λ q. before_at d old (placed_for ps) (operation_at old q)) (λ q. before_at d old (placed_for more) (operation_at old q)) l.operations (λ q has. before_other q (operation_at old q) refl (ne q has))
      ∙ sym (after_is d old (placed_for ps) l.operations (listed_there old lists b l there))

  -- the operation of the constant is none that was there
  fresh_old : (o : Option (OperationView O)) → operation_at old x.op ≡ o → o ≡ None
  fresh_old None e = refl
  fresh_old (Some v) e = let n : None ≡ Some (record v { operands = renamed (placed_for ps) v.operands }) = sym step.builds.fresh ∙ operation_now d old mid ps put x.op v e in cc

  other_op : (y : Placed O A) → Has y ps → y.op ≢ x.op
  other_op y h e = let n : None ≡ Some _ = sym step.builds.fresh ∙ ap (operation_at mid) (sym e) ∙ (put.constants y h).there in cc

  -- what uses of the constants are stays
  definer_there : (y : Placed O A) → Has y ps → y.result ≢ x.made.value
  definer_there y h e = ⊎_elim
      (λ r. let s : ByOp y.op ≡ ByOp r.0 = sym (put.constants y h).own ∙ ap (λ (v : Value). v.definer) e ∙ r.1.definer in
      let q : y.op ≡ r.0 = cc in
      let n : None ≡ Some r.1.view = sym (put.constants y h).fresh ∙ ap (operation_at old) q ∙ r.1.there in cc)
      (λ r. let s : ByOp y.op ≡ ByBlock r.0 = sym (put.constants y h).own ∙ ap (λ (v : Value). v.definer) e ∙ r.1.definer in cc)
      (place d old more values op list x (last_has ps x))

  replaced_none : (v : Value) → placed_for ps v ≡ None → replacing x.made.value x.result v ≡ used_for v (first_of_two None (alone x v))
  replaced_none v e = ⊎_elim
      (λ (s : v ≡ x.made.value). ap (λ b. cond b x.result v) (value-test.yes v x.made.value s) ∙ sym (ap (λ o. used_for v o) (alone_is x v s)))
      (λ (ne : v ≢ x.made.value). ap (λ b. cond b x.result v) (value-test.no v x.made.value ne) ∙ sym (ap (λ o. used_for v o) (alone_not x v ne)))
      (value-test.decide v x.made.value)

  replaced_by : (v : Value) (o : Option (Placed O A)) → placed_for ps v ≡ o → replacing x.made.value x.result (used_for v o) ≡ used_for v (first_of_two o (alone x v))
  replaced_by v None e = replaced_none v e
  replaced_by v (Some y) e = ap (λ b. cond b x.result y.result) (value-test.no y.result x.made.value (definer_there y (placed_has ps v y e).0))

  replaced : (vs : List Value) → map (replacing x.made.value x.result) (renamed (placed_for ps) vs) ≡ renamed (placed_for more) vs
  replaced [] = refl
  replaced (v ∷ vs) = let one = replaced_by v (placed_for ps v) refl ∙ ap (λ o. used_for v o) (sym (placed_more ps x v)) in λ i. one i ∷ replaced vs i

  module _ (b : Ptr BasicBlock) (edit : BlockView B → BlockView B) (edits : EditsBlock step.built step.put b edit) where
    operation_after : (q : Ptr Operation) → q ≢ x.op → operation_at new q ≡ option_map (λ (v : OperationView O). record v { operands = map (replacing x.made.value x.result) v.operands }) (operation_at mid q)
    operation_after q ne = step.replaces.edited q ∙ ap (option_map (λ (v : OperationView O). record v { operands = map (replacing x.made.value x.result) v.operands })) (edits.operations q ∙ step.builds.others q ne)

    old_constant : (y : Placed O A) → Has y ps → IsConstant d old new y
    old_constant y h =
        let c = put.constants y h in
        record { makes = c.makes; fresh = c.fresh; there = operation_after y.op (other_op y h) ∙ ap (option_map (λ (v : OperationView O). record v { operands = map (replacing x.made.value x.result) v.operands })) c.there; own = c.own }

    new_constant : IsConstant d old new x
    new_constant = record {
      makes = step.makes;
      fresh = fresh_old (operation_at old x.op) refl;
      there = step.replaces.edited x.op ∙ ap (option_map (λ (v : OperationView O). record v { operands = map (replacing x.made.value x.result) v.operands })) (edits.operations x.op ∙ step.builds.made)
          ∙ (λ i. Some (record { payload = x.content; results = record { value = sym step.result i; ty = d.constant_type x.made.constant } ∷ []; operands = []; successors = []; regions = no_regions_made step.builds.handles step.builds.count i }));
      own = ap (λ (v : Value). v.definer) step.result;
    }

    constant_more : (y : Placed O A) → Has y more → IsConstant d old new y
    constant_more y h = ⊎_elim (λ r. old_constant y r) (λ e. subst (λ z. IsConstant d old new z) (sym e) new_constant) (has_last ps y x h)

    apart_more : (y z : Placed O A) → Has y more → Has z more → y.op ≡ z.op → y.made.value ≡ z.made.value
    apart_more y z h g e = ⊎_elim
        (λ r. ⊎_elim (λ s. put.apart y z r s e) (λ s. absurd (other_op y r (e ∙ ap (λ (w : Placed O A). w.op) s))) (has_last ps z x g))
        (λ r. ⊎_elim (λ s. absurd (other_op z s (sym e ∙ ap (λ (w : Placed O A). w.op) r))) (λ s. ap (λ (w : Placed O A). w.made.value) (r ∙ sym s)) (has_last ps z x g))
        (has_last ps y x h)

    grown : ((q : Ptr BasicBlock) → block_at step.put q ≡ option_map (with_listing d old (placed_for more) q) (block_at old q)) → HasPutConstants d old new more
    grown blocks = record {
      constants = constant_more;
      apart = apart_more;
      operations = λ q other.
          operation_after q (other x (last_has ps x))
          ∙ ap (option_map (λ (v : OperationView O). record v { operands = map (replacing x.made.value x.result) v.operands })) (put.operations q (λ y h. other y (has_front ps (x ∷ []) y h)))
          ∙ fused (λ (v : OperationView O). record v { operands = map (replacing x.made.value x.result) v.operands }) (λ (v : OperationView O). record v { operands = renamed (placed_for ps) v.operands }) (λ (v : OperationView O). record v { operands = renamed (placed_for more) v.operands })
          (operation_at old q) (λ v i. record v { operands = replaced v.operands i });
      blocks = λ q. step.replaces.blocks q ∙ blocks q;
      regions = λ r. step.replaces.regions r ∙ edits.regions r ∙ step.builds.regions.others r (λ k e. let n : None ≡ Some r = ap (λ rs. slice_get rs k) (sym (no_regions_made step.builds.handles step.builds.count)) ∙ e in cc) ∙ put.regions r;
    }

  built_blocks : (q : Ptr BasicBlock) → block_at step.built q ≡ option_map (with_listing d old (placed_for ps) q) (block_at old q)
  built_blocks q = step.builds.blocks q ∙ put.blocks q

  -- of a result
  module _ (p : Ptr Operation) (r : IsResultBelow old op x.made.value p) (b : Ptr BasicBlock) (s : StandsInBlock old p b) (l : BlockView B) (there : block_at old b ≡ Some l) where
    abbrev front : List (Ptr Operation)
    front = roots (for_arguments d (placed_for ps) (map defined_by l.arguments) end)

    mark_more : before_at d old (placed_for more) (operation_at old p) ≡ before_at d old (placed_for ps) (operation_at old p) ++ x.op ∷ []
    mark_more = subst (λ o. before_at d old (placed_for more) o ≡ before_at d old (placed_for ps) o ++ x.op ∷ []) (sym r.there)
        (results_more d (placed_for more) (placed_for ps) x (map defined_by r.view.results) r.index (adds (ByOp p) r.view.results (results_are old p r.view r.there) r.index r.stands))

    not_mark : (q : Ptr Operation) → q ≢ p → ByOp q ≢ x.made.value.definer
    not_mark q ne e = let t : ByOp q ≡ ByOp p = e ∙ r.definer in let z : q ≡ p = cc in ne z

    no_block : (q : Ptr BasicBlock) → ByBlock q ≢ x.made.value.definer
    no_block q e = let t : ByBlock q ≡ ByOp p = e ∙ r.definer in cc

    put_at : (k : ℕ) × (slice_get (with_before (λ q. before_at d old (placed_for ps) (operation_at old q)) l.operations) k ≡ Some p)
        × (with_before (λ q. before_at d old (placed_for more) (operation_at old q)) l.operations ≡ insert (with_before (λ q. before_at d old (placed_for ps) (operation_at old q)) l.operations) k x.op)
    put_at = one_more same_or_not p x.op (λ q. before_at d old (placed_for ps) (operation_at old q)) (λ q. before_at d old (placed_for more) (operation_at old q)) mark_more
        (λ q ne. before_other q (operation_at old q) refl (not_mark q ne)) l.operations (listed_once old lists b l there) (at_has l.operations s.index p (at_index old lists b l s.index p there s.here))

    listed_was : listing d old (placed_for ps) b l ≡ front ++ with_before (λ q. before_at d old (placed_for ps) (operation_at old q)) l.operations
    listed_was = ap (λ zs. front ++ zs) (after_is d old (placed_for ps) l.operations (listed_there old lists b l there))

    in_built : operations_in step.built b ≡ listing d old (placed_for ps) b l
    in_built = ap (λ o. unwrap_or (option_map (λ (v : BlockView B). v.operations) o) []) (built_blocks b ∙ ap (option_map (with_listing d old (placed_for ps) b)) there)

    mark_here : slice_get (operations_in step.built b) (behind front put_at.0) ≡ Some p
    mark_here = listed_at (operations_in step.built b) front (with_before (λ q. before_at d old (placed_for ps) (operation_at old q)) l.operations) put_at.0 p (in_built ∙ listed_was) put_at.1

    result_edits : EditsBlock step.built step.put b (λ v. record v { operations = insert v.operations (behind front put_at.0) x.op })
    result_edits = let puts : PutsOperationBefore step.built step.put p x.op = subst (λ e. PutsAtDefiner step.built step.put e x.op) r.definer step.puts in puts b (behind front put_at.0) mark_here

    inserted : insert (listing d old (placed_for ps) b l) (behind front put_at.0) x.op ≡ listing d old (placed_for more) b l
    inserted =
        ap (λ zs. insert zs (behind front put_at.0) x.op) listed_was
        ∙ insert_behind front (with_before (λ q. before_at d old (placed_for ps) (operation_at old q)) l.operations) put_at.0 x.op
        ∙ (λ i. roots (sym (arguments_other b l there (no_block b)) i) ++ sym put_at.2 i)
        ∙ ap (λ zs. roots (for_arguments d (placed_for more) (map defined_by l.arguments) end) ++ zs) (sym (after_is d old (placed_for more) l.operations (listed_there old lists b l there)))

    result_blocks : (q : Ptr BasicBlock) → block_at step.put q ≡ option_map (with_listing d old (placed_for more) q) (block_at old q)
    result_blocks q = ⊎_elim
        (λ (e : q ≡ b). subst (λ z. block_at step.put z ≡ option_map (with_listing d old (placed_for more) z) (block_at old z)) (sym e)
        (result_edits.edited
        ∙ ap (option_map (λ (v : BlockView B). record v { operations = insert v.operations (behind front put_at.0) x.op })) (built_blocks b ∙ ap (option_map (with_listing d old (placed_for ps) b)) there)
        ∙ (λ i. Some (record l { operations = inserted i }))
        ∙ sym (ap (option_map (with_listing d old (placed_for more) b)) there)))
        (λ (ne : q ≢ b). result_edits.others q ne ∙ built_blocks q
        ∙ option_map-same (with_listing d old (placed_for ps) q) (with_listing d old (placed_for more) q) (block_at old q) (λ k at.
        let none = arguments_other q k at (no_block q) in
        let rest = operations_other q k at (λ z has. not_mark z (λ same. elsewhere old lists p b q s.index k s.here ne at (subst (λ y. Among y k.operations) same has))) in
        λ i. record k { operations = roots (sym none i) ++ sym rest i }))
        (same_or_not q b)

    pub result_put : HasPutConstants d old new more
    result_put = grown b _ result_edits result_blocks

  -- of an argument
  module _ (b : Ptr BasicBlock) (r : IsArgumentBelow old op x.made.value b) where
    abbrev l : BlockView B
    l = r.view

    argument_edits : EditsBlock step.built step.put b (λ v. record v { operations = x.op ∷ v.operations })
    argument_edits = subst (λ e. PutsAtDefiner step.built step.put e x.op) r.definer step.puts

    no_operation : (q : Ptr Operation) → ByOp q ≢ x.made.value.definer
    no_operation q e = let t : ByOp q ≡ ByBlock b = e ∙ r.definer in cc

    first_more : x.op ∷ listing d old (placed_for ps) b r.view ≡ listing d old (placed_for more) b r.view
    first_more =
        let now = arguments_more d (placed_for more) (placed_for ps) x (map defined_by r.view.arguments) r.index end (adds (ByBlock b) r.view.arguments (arguments_are old b r.view r.there) r.index r.stands) in
        let rest = operations_other b r.view r.there (λ z has. no_operation z) in
        λ i. roots (sym now i) ++ sym rest i

    argument_blocks : (q : Ptr BasicBlock) → block_at step.put q ≡ option_map (with_listing d old (placed_for more) q) (block_at old q)
    argument_blocks q = ⊎_elim
        (λ (e : q ≡ b). subst (λ z. block_at step.put z ≡ option_map (with_listing d old (placed_for more) z) (block_at old z)) (sym e)
        (argument_edits.edited
        ∙ ap (option_map (λ (v : BlockView B). record v { operations = x.op ∷ v.operations })) (built_blocks b ∙ ap (option_map (with_listing d old (placed_for ps) b)) r.there)
        ∙ (λ i. Some (record r.view { operations = first_more i }))
        ∙ sym (ap (option_map (with_listing d old (placed_for more) b)) r.there)))
        (λ (ne : q ≢ b). argument_edits.others q ne ∙ built_blocks q
        ∙ option_map-same (with_listing d old (placed_for ps) q) (with_listing d old (placed_for more) q) (block_at old q) (λ k at.
        let none = arguments_other q k at (λ e. let t : ByBlock q ≡ ByBlock b = e ∙ r.definer in let z : q ≡ b = cc in ne z) in
        let rest = operations_other q k at (λ z has. no_operation z) in
        λ i. record k { operations = roots (sym none i) ++ sym rest i }))
        (same_or_not q b)

    pub argument_put : HasPutConstants d old new more
    argument_put = grown b _ argument_edits argument_blocks

  -- one more constant was put in
  pub one_more_put : HasPutConstants d old new (ps ++ x ∷ [])
  one_more_put = ⊎_elim
      (λ r. let around = block_around old op r.0 r.1.below in let l = something (block_at old around.0) around.1.block in result_put r.0 r.1 around.0 around.1 l.0 l.1)
      (λ r. argument_put r.0 r.1)
      (place d old more values op list x (last_has ps x))

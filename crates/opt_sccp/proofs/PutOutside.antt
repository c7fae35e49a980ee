-- Constants that were put in below the root change operands alone outside it.
use Rattle.std.proofs.Common.{◌≡◌, ◌≢◌, inl, inr, ⊎_elim, ℕ, zero, suc, List, [], ◌∷◌, ◌++◌, map, Option, Some, None, option_map, slice_get, refl, sym, ap, ◌∙◌, subst}
use Rattle.ir_base.specs.declared.types.TypeHandle.{TypeHandle}
use Rattle.ir_program.specs.Program.{Program, OperationView, BlockView, operation_at, block_at}
use Rattle.ir_program.specs.declared.handles.Ptr.{Ptr}
use Rattle.ir_program.specs.declared.handles.Operation.{Operation}
use Rattle.ir_program.specs.declared.handles.BasicBlock.{BasicBlock}
use Rattle.ir_program.specs.declared.handles.Value.{Value}
use Rattle.ir_program.specs.declared.handles.DefiningEntity.TheVariants.{Op as ByOp, Block as ByBlock}
use Rattle.ir_trees.specs.Trees.{Defined, Operations, Tree, end}
use Rattle.ir_trees.specs.Stands.{by_handle, in_program, ProgramTree, defined_by, label_of, StandsFor}
use Rattle.ir_trees.specs.Rewrites.{roots, in_place, operations_after}
use Rattle.ir_trees.proofs.Members.{Has as Among}
use Rattle.ir_trees.proofs.ListEdited.{AreOrderly, listed_there, elsewhere}
use Rattle.opt_trees.specs.Dialect.{Dialect}
use Rattle.opt_trees.specs.Sccp.{used_as}
use Rattle.opt_inside.specs.Occurring.{IsBelowRoot, IsBlockBelow}
use Rattle.opt_sccp.specs.Made.{made_of, IsPutList}
use Rattle.opt_sccp.specs.Placed.{Placed, PlacedFor, placed_for, used_for, renamed, constant_if, for_results, for_arguments, puts_constants, HasPutConstants}
use Rattle.opt_inside.specs.Outside.{ChangesOperandsOutside}
use Rattle.opt_sccp.specs.Puts.{PutsConstants}
use Rattle.opt_sccp.proofs.Definitions.{AreDefined, index_name, result_at, argument_at, block_around}
use Rattle.opt_sccp.proofs.PlacedLists.{made_in, made_is, placed_has, placed_none, placed_found}
use Rattle.opt_sccp.proofs.PutLists.{place, one_for}
use Rattle.opt_sccp.proofs.PutState.{operation_now, stands_now}
use Rattle.opt_sccp.proofs.PutTrees.{constant_in, handle_in, names, used_names, same_root}

module _ {O B A : Type 0} (d : Dialect (in_program O B) A) (f : PlacedFor O A) where
  -- no constants for these values
  pub no_results : (vs : List (Defined Value TypeHandle)) → ((k : ℕ) (v : Defined Value TypeHandle) → slice_get vs k ≡ Some v → f v.name ≡ None) → roots (for_results d f vs) ≡ []
  no_results [] h = refl
  no_results (v ∷ vs) h = ap (λ o. roots (constant_if d o (for_results d f vs))) (h zero v refl) ∙ no_results vs (λ k w g. h (suc k) w g)

  pub no_arguments : (vs : List (Defined Value TypeHandle)) (t : Tree by_handle (in_program O B) Operations) → ((k : ℕ) (v : Defined Value TypeHandle) → slice_get vs k ≡ Some v → f v.name ≡ None) → for_arguments d f vs t ≡ t
  no_arguments [] t h = refl
  no_arguments (v ∷ vs) t h = ap (λ o. for_arguments d f vs (constant_if d o t)) (h zero v refl) ∙ no_arguments vs t (λ k w g. h (suc k) w g)

  -- no constants before these operations
  pub none_before : (old : Program O B) (xs : List (Ptr Operation)) → ((q : Ptr Operation) → Among q xs → (u : OperationView O) × (operation_at old q ≡ Some u) × (roots (for_results d f (map defined_by u.results)) ≡ []))
      → operations_after old (puts_constants d f) xs ≡ xs
  none_before old [] h = refl
  none_before old (x ∷ xs) h =
      let v = h x (inl refl) in
      let rest = none_before old xs (λ q g. h q (inr g)) in
      ap (λ o. in_place old (puts_constants d f) x o (operations_after old (puts_constants d f) xs)) v.1 ∙ (λ i. v.2 i ++ (x ∷ rest i))

-- a constant is of something that was put in
is_placed : {O A : Type 0} (o : Option (Placed O A)) (a : A) → constant_in o ≡ Some a → (x : Placed O A) × (o ≡ Some x)
is_placed None a h = cc
is_placed (Some x) a h = (x, refl)

module _ {O B A : Type 0} (d : Dialect (in_program O B) A) (old new : Program O B) (ps : List (Placed O A)) (put : HasPutConstants d old new ps)
    (lists : AreOrderly old) (values : AreDefined old) (op : Ptr Operation) (list : IsPutList d old op (made_in ps)) where
  -- what isn't below the root has no constants
  no_result : (q : Ptr Operation) (u : OperationView O) → operation_at old q ≡ Some u → (IsBelowRoot old op q → ⊥) → roots (for_results d (placed_for ps) (map defined_by u.results)) ≡ []
  no_result q u there outside = no_results d (placed_for ps) (map defined_by u.results) (λ k v h.
      let definer = values.definer (ByOp q) k v.name (result_at old q u k v.name there (index_name u.results k v h)) in
      placed_none ps v.name (λ x has e. ⊎_elim
      (λ r. let same : r.0 ≡ q = (let s : ByOp r.0 ≡ ByOp q = sym r.1.definer ∙ ap (λ (y : Value). y.definer) e ∙ definer in cc) in outside (subst (λ p. IsBelowRoot old op p) same r.1.below))
      (λ r. let s : ByBlock r.0 ≡ ByOp q = sym r.1.definer ∙ ap (λ (y : Value). y.definer) e ∙ definer in cc)
      (place d old ps values op list x has)))

  no_argument : (b : Ptr BasicBlock) (l : BlockView B) → block_at old b ≡ Some l → (IsBlockBelow old op b → ⊥) → for_arguments d (placed_for ps) (map defined_by l.arguments) end ≡ end
  no_argument b l there outside = no_arguments d (placed_for ps) (map defined_by l.arguments) end (λ k v h.
      let definer = values.definer (ByBlock b) k v.name (argument_at old b l k v.name there (index_name l.arguments k v h)) in
      placed_none ps v.name (λ x has e. ⊎_elim
      (λ r. let s : ByOp r.0 ≡ ByBlock b = sym r.1.definer ∙ ap (λ (y : Value). y.definer) e ∙ definer in cc)
      (λ r. let same : r.0 ≡ b = (let s : ByBlock r.0 ≡ ByBlock b = sym r.1.definer ∙ ap (λ (y : Value). y.definer) e ∙ definer in cc) in outside (subst (λ p. IsBlockBelow old op p) same r.1.below))
      (place d old ps values op list x has)))

  block_outside : (b : Ptr BasicBlock) (l : BlockView B) → (IsBlockBelow old op b → ⊥) → block_at old b ≡ Some l → block_at new b ≡ Some l
  block_outside b l outside there =
      let same = none_before d (placed_for ps) old l.operations (λ q has.
      let u = listed_there old lists b l there q has in (
        u.0,
        u.1,
        no_result q u.0 u.1 (λ below.
            let around = block_around old op q below in
            elsewhere old lists q around.0 b around.1.index l around.1.here (λ e. outside (subst (λ x. IsBlockBelow old op x) (sym e) around.2)) there has),
      )) in
      let none = no_argument b l there outside in
      put.blocks b ∙ ap (option_map (λ (v : BlockView B). record v { operations = roots (for_arguments d (placed_for ps) (label_of {O = O} b v).arguments end) ++ operations_after old (puts_constants d (placed_for ps)) v.operations })) there
      ∙ (λ i. Some (record l { operations = roots (none i) ++ same i }))

  makes : (v : Value) (x : Placed O A) → placed_for ps v ≡ Some x → d.constant x.made.constant ≡ Some x.content
  makes v x e = (put.constants x (placed_has ps v x e).0).makes

  outside : ChangesOperandsOutside old new op (λ v. (names (placed_for ps)).value (used_as v (constant_in (placed_for ps v))))
  outside = record {
    operations = λ p v i there. operation_now d old new ps put p v there ∙ (λ i. Some (record v { operands = map (λ x. sym (used_names d (placed_for ps) makes x) i) v.operands }));
    blocks = λ b v i there. block_outside b v i there;
    regions = λ r v i there. put.regions r ∙ there;
  }

  led_nowhere : (v : Value) (o : Option (Placed O A)) (a : A) → placed_for ps v ≡ o → constant_in o ≡ Some a → operation_at old (handle_in o) ≡ None
  led_nowhere v None a e h = cc
  led_nowhere v (Some x) a e h = (put.constants x (placed_has ps v x e).0).fresh

  apart : (v w : Value) (a b : A) → constant_in (placed_for ps v) ≡ Some a → constant_in (placed_for ps w) ≡ Some b → handle_in (placed_for ps v) ≡ handle_in (placed_for ps w) → v ≡ w
  apart v w a b h g e =
      let x = is_placed (placed_for ps v) a h in
      let y = is_placed (placed_for ps w) b g in
      let m = placed_has ps v x.0 x.1 in
      let n = placed_has ps w y.0 y.1 in
      sym m.1 ∙ put.apart x.0 y.0 m.0 n.0 (sym (ap handle_in x.1) ∙ e ∙ ap handle_in y.1) ∙ n.1

  own : (v : Value) (o : Option (Placed O A)) (a : A) → placed_for ps v ≡ o → constant_in o ≡ Some a
      → (used_for v o).definer ≡ ByOp (handle_in o)
  own v None a e h = cc
  own v (Some x) a e h = (put.constants x (placed_has ps v x e).0).own

  no_others : (p : Ptr Operation) → operation_at old p ≡ None → ((v : Value) (a : A) → constant_in (placed_for ps v) ≡ Some a → p ≢ handle_in (placed_for ps v)) → operation_at new p ≡ None
  no_others p gone other =
      put.operations p (λ x has e.
      let y = placed_found ps x has in
      let m = placed_has ps x.made.value y.0 y.1 in
      let same = one_for d old ps values op list y.0 x m.0 has m.1 in
      other x.made.value y.0.made.constant (ap constant_in y.1) (e ∙ sym (ap handle_in y.1 ∙ ap (λ (z : Placed O A). z.op) same)))
      ∙ ap (option_map (λ (v : OperationView O). record v { operands = renamed (placed_for ps) v.operands })) gone

  pub puts_constants_in : (t : ProgramTree O B) → StandsFor old op t → PutsConstants d old new op (λ v. constant_in (placed_for ps v)) t
  puts_constants_in t stands = record {
    names = names (placed_for ps);
    old_operations = λ p. refl;
    old_blocks = λ b. refl;
    old_values = λ v. refl;
    led_nowhere = λ v a h. led_nowhere v (placed_for ps v) a refl h;
    apart = apart;
    own = λ v a h. own v (placed_for ps v) a refl h;
    stands = subst (λ u. StandsFor new op u) (sym (same_root d (placed_for ps) makes t)) (stands_now d old new ps put lists op t stands);
    outside = outside;
    no_others = no_others;
    no_blocks = λ b gone. put.blocks b ∙ ap (option_map (λ (v : BlockView B). record v { operations = roots (for_arguments d (placed_for ps) (label_of {O = O} b v).arguments end) ++ operations_after old (puts_constants d (placed_for ps)) v.operations })) gone;
    no_regions = λ r gone. put.regions r ∙ gone;
  }

  -- what was put in makes of each tree of the root what the list of values and constants does
  pub puts_all : (t : ProgramTree O B) → StandsFor old op t → PutsConstants d old new op (made_of (made_in ps)) t
  puts_all t stands = subst (λ (m : Value → Option A). PutsConstants d old new op m t) (λ i v. sym (made_is ps v) i) (puts_constants_in t stands)

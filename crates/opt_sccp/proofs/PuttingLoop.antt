-- Constants put in one after the other.
use Rattle.std.proofs.Common.{◌≡◌, ⊎_elim, ℕ, zero, suc, ◌+◌, List, [], ◌∷◌, ◌++◌, map, take, Some, option_map, unwrap_or, slice_get, refl, sym, ap, ◌∙◌, subst, add-one}
use Rattle.std.proofs.lemmas.List.{map-append, map-id}
use Rattle.std.proofs.lemmas.Iterator.Adapters.{option_map_id}
use Rattle.ir_program.specs.Program.{Program, OperationView, BlockView, operation_at, block_at, value_in}
use Rattle.ir_program.specs.Definers.{values_at}
use Rattle.ir_program.specs.Lists.{operations_in}
use Rattle.ir_program.specs.declared.handles.Ptr.{Ptr}
use Rattle.ir_program.specs.declared.handles.Operation.{Operation}
use Rattle.ir_program.specs.declared.handles.BasicBlock.{BasicBlock}
use Rattle.ir_program.specs.declared.handles.Value.{Value}
use Rattle.ir_program.specs.declared.handles.DefiningEntity.TheVariants.{Op as ByOp}
use Rattle.ir_program.proofs.made.Frames.{option_map-same}
use Rattle.ir_trees.specs.Trees.{end}
use Rattle.ir_trees.specs.Stands.{in_program, defined_by}
use Rattle.ir_trees.specs.Rewrites.{roots}
use Rattle.ir_trees.proofs.Members.{Has as Among, at_has}
use Rattle.ir_trees.proofs.ListEdited.{AreOrderly, listed_there, at_index}
use Rattle.opt_trees.specs.Dialect.{Dialect}
use Rattle.opt_trees.specs.Occurrences.{Has}
use Rattle.opt_sccp.specs.declared.putting.Made.{Made}
use Rattle.opt_sccp.specs.Made.{IsPutList, PutsList}
use Rattle.opt_sccp.specs.Placed.{Placed, placed_for, renamed, for_arguments, HasPutConstants, DefinerIsPlaced, CanPutAt, PutsOne, LeadsAlike}
use Rattle.opt_sccp.proofs.Definitions.{AreDefined, results_are, arguments_are, block_around, IsResultBelow, IsArgumentBelow, result_or_argument}
use Rattle.opt_sccp.proofs.Insertions.{with_before, behind, get_behind, listed_at}
use Rattle.opt_sccp.proofs.Options.{something, is_something}
use Rattle.opt_sccp.proofs.PlacedLists.{made_in, index_has, has_index}
use Rattle.opt_sccp.proofs.PutOutside.{no_results, no_arguments, none_before, puts_all}
use Rattle.opt_sccp.proofs.PutState.{operation_now}
use Rattle.opt_sccp.proofs.PutSteps.{before_at, with_listing, listing, after_is, one_more_put}

-- the first k of the list are put in
pub record IsPutting {O B A : Type 0} (d : Dialect (in_program O B) A) (old now : Program O B) (made : List (Made A)) (k : ℕ) : Type 0 where
  pub orderly : AreOrderly old
  pub defined : AreDefined old
  pub placed : List (Placed O A)
  pub are : made_in placed ≡ take k made
  pub put : HasPutConstants d old now placed

-- the first elements of a list
pub get_take : {X : Type 0} (xs : List X) (n i : ℕ) (x : X) → slice_get (take n xs) i ≡ Some x → slice_get xs i ≡ Some x
get_take xs zero i x h = cc
get_take [] (suc n) i x h = cc
get_take (y ∷ xs) (suc n) zero x h = h
get_take (y ∷ xs) (suc n) (suc i) x h = get_take xs n i x h

pub take_next : {X : Type 0} (xs : List X) (k : ℕ) (x : X) → slice_get xs k ≡ Some x → take k xs ++ x ∷ [] ≡ take (suc k) xs
take_next [] k x h = cc
take_next (y ∷ xs) zero x h = let s : Some y ≡ Some x = h in let e : x ≡ y = cc in ap (λ z. z ∷ []) e
take_next (y ∷ xs) (suc k) x h = ap (λ l. y ∷ l) (take_next xs k x h)

pub has_take : {X : Type 0} (xs : List X) (n : ℕ) (x : X) → Has x (take n xs) → Has x xs
has_take xs n x h = let k = has_index (take n xs) x h in index_has xs k.0 x (get_take xs n k.0 x k.1)

-- each member is there among what is put before them
member_at : {X : Type 0} (before : X → List X) (xs : List X) (x : X) → Among x xs → (k : ℕ) × (slice_get (with_before before xs) k ≡ Some x)
member_at before [] x h = absurd h
member_at before (y ∷ xs) x h = ⊎_elim
    (λ e. (behind (before y) zero, get_behind (before y) (y ∷ with_before before xs) zero ∙ ap Some (sym e)))
    (λ r. let g = member_at before xs x r in (behind (before y) (suc g.0), get_behind (before y) (y ∷ with_before before xs) (suc g.0) ∙ g.1)) h

module _ {O B A : Type 0} (d : Dialect (in_program O B) A) (old : Program O B) (op : Ptr Operation) where
  -- the first of a list that can be put in can be put in
  pub taken : (made : List (Made A)) (n : ℕ) → IsPutList d old op made → IsPutList d old op (take n made)
  taken made n list = record {
    below = λ m h. list.below m (has_take made n m h);
    ordered = λ i j x y g h. list.ordered i j x y (get_take made n i x g) (get_take made n j y h);
    made_by = λ m h. list.made_by m (has_take made n m h);
  }

  pub begins : AreOrderly old → AreDefined old → (made : List (Made A)) → IsPutting d old old made 0
  begins orderly defined made = record { orderly = orderly; defined = defined; placed = []; are = refl; put = none_put }
    where
      none_put : HasPutConstants d old old []
      none_put = record {
        constants = λ x h. absurd h;
        apart = λ x y h g e. absurd h;
        operations = λ p other. sym (option_map-same (λ (v : OperationView O). record v { operands = renamed (placed_for {O = O} {A = A} []) v.operands }) (λ v. v) (operation_at old p) (λ v e i. record v { operands = map-id v.operands i }) ∙ option_map_id (operation_at old p));
        blocks = λ b. sym (option_map-same (with_listing d old (placed_for []) b) (λ l. l) (block_at old b) (λ l there.
            let none = no_arguments d (placed_for []) (map defined_by l.arguments) end (λ k v h. refl) in
            let same = none_before d (placed_for []) old l.operations (λ q has. let u = listed_there old orderly b l there q has in (u.0, u.1, no_results d (placed_for []) (map defined_by u.0.results) (λ k v h. refl))) in
            λ i. record l { operations = roots (none i) ++ same i }) ∙ option_map_id (block_at old b));
        regions = λ r. refl;
      }

  module _ (now : Program O B) (made : List (Made A)) (k : ℕ) (putting : IsPutting d old now made k) (list : IsPutList d old op made) where
    -- a value that is to be put in stands where a constant can be put
    result_place : (v : Value) (p : Ptr Operation) → IsResultBelow old op v p → CanPutAt now v
    result_place v p r =
        let around = block_around old op p r.below in
        let b = around.0 in
        let l = something (block_at old b) around.1.block in
        let f = placed_for putting.placed in
        let front = roots (for_arguments d f (map defined_by l.0.arguments) end) in
        let there : operation_at now p ≡ Some (record r.view { operands = renamed f r.view.operands }) = operation_now d old now putting.placed putting.put p r.view r.there in
        let listed : block_at now b ≡ Some (with_listing d old f b l.0) = putting.put.blocks b ∙ ap (option_map (with_listing d old f b)) l.1 in
        let in_list : operations_in now b ≡ listing d old f b l.0 = ap (λ o. unwrap_or (option_map (λ (x : BlockView B). x.operations) o) []) listed in
        let split : listing d old f b l.0 ≡ front ++ with_before (λ q. before_at d old f (operation_at old q)) l.0.operations = ap (λ zs. front ++ zs) (after_is d old f l.0.operations (listed_there old putting.orderly b l.0 l.1)) in
        let at = member_at (λ q. before_at d old f (operation_at old q)) l.0.operations p (at_has l.0.operations around.1.index p (at_index old putting.orderly b l.0 around.1.index p l.1 around.1.here)) in
        let place : DefinerIsPlaced now (ByOp p) = (
          b,
          record {
            operation = is_something (operation_at now p) _ there;
            block = is_something (block_at now b) _ listed;
            index = behind front at.0;
            here = listed_at (operations_in now b) front (with_before (λ q. before_at d old f (operation_at old q)) l.0.operations) at.0 p (in_list ∙ split) at.1;
          },
        ) in
        record {
          place = subst (DefinerIsPlaced now) (sym r.definer) place;
          index = r.index;
          stands = ap (λ e. value_in (values_at now e) r.index) r.definer ∙ ap (λ ts. value_in ts r.index) (results_are now p _ there) ∙ r.stands;
        }

    argument_place : (v : Value) (b : Ptr BasicBlock) → IsArgumentBelow old op v b → CanPutAt now v
    argument_place v b r =
        let listed : block_at now b ≡ Some (with_listing d old (placed_for putting.placed) b r.view) = putting.put.blocks b ∙ ap (option_map (with_listing d old (placed_for putting.placed) b)) r.there in
        record {
          place = subst (DefinerIsPlaced now) (sym r.definer) (is_something (block_at now b) _ listed);
          index = r.index;
          stands = ap (λ e. value_in (values_at now e) r.index) r.definer ∙ ap (λ ts. value_in ts r.index) (arguments_are now b _ listed) ∙ r.stands;
        }

    pub can_put : (j : ℕ) (m : Made A) → slice_get made j ≡ Some m → CanPutAt now m.value
    can_put j m at = ⊎_elim
        (λ r. result_place m.value r.0 r.1)
        (λ r. argument_place m.value r.0 r.1)
        (result_or_argument old op putting.defined m.value (list.below m (index_has made j m at)))

    pub goes_on : (new : Program O B) (m : Made A) → slice_get made k ≡ Some m → (x : Placed O A) × (x.made ≡ m) × PutsOne d now new x → IsPutting d old new made (k + 1)
    goes_on new m at step =
        let x = step.0 in
        let are : made_in (putting.placed ++ x ∷ []) ≡ take (k + 1) made =
        map-append (λ (y : Placed O A). y.made) putting.placed (x ∷ [])
        ∙ (λ i. putting.are i ++ step.1 i ∷ []) ∙ take_next made k m at ∙ ap (λ n. take n made) (sym (add-one k)) in
        record {
          orderly = putting.orderly;
          defined = putting.defined;
          placed = putting.placed ++ x ∷ [];
          are = are;
          put = one_more_put d old now new putting.placed putting.put putting.orderly putting.defined op x (subst (IsPutList d old op) (sym are) (taken made (k + 1) list)) step.2;
        }

    pub stays : (new : Program O B) → LeadsAlike now new → IsPutting d old new made k
    stays new same = record {
      orderly = putting.orderly;
      defined = putting.defined;
      placed = putting.placed;
      are = putting.are;
      put = record {
        constants = λ x h. let c = putting.put.constants x h in record { makes = c.makes; fresh = c.fresh; there = same.operations x.op ∙ c.there; own = c.own };
        apart = putting.put.apart;
        operations = λ p other. same.operations p ∙ putting.put.operations p other;
        blocks = λ b. same.blocks b ∙ putting.put.blocks b;
        regions = λ r. same.regions r ∙ putting.put.regions r;
      };
    }

    pub ends : PutsList d old now op (take k made)
    ends = subst (λ ms. PutsList d old now op ms) putting.are
        (puts_all d old now putting.placed putting.put putting.orderly putting.defined op (subst (IsPutList d old op) (sym putting.are) (taken made k list)))

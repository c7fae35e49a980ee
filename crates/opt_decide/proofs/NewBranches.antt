-- What making an unconditional branch and putting it in place of a decided one did.
use Rattle.std.proofs.Common.{◌≡◌, ◌≢◌, ℕ, zero, suc, ◌≤◌, List, [], ◌∷◌, map, length, Option, Some, None, option_map, unwrap_or, slice_get, refl, sym, ap, ◌∙◌, subst, arith}
use Rattle.std.specs.Prelude.{IsSome}
use Rattle.ir_program.specs.Adds.{AreLiveValues, AreLiveBlocks}
use Rattle.ir_program.specs.Lists.{regions_in, IsLinkedOperation}
use Rattle.ir_program.specs.Made.{BuildsOperation}
use Rattle.ir_program.specs.Program.{Program, OperationView, BlockView, operation_at, block_at, results_at, IsLiveValue}
use Rattle.ir_program.specs.Rows.{operands_at, successors_at}
use Rattle.ir_program.specs.declared.handles.Ptr.{Ptr}
use Rattle.ir_program.specs.declared.handles.Operation.{Operation}
use Rattle.ir_program.specs.declared.handles.BasicBlock.{BasicBlock}
use Rattle.ir_program.specs.declared.handles.Value.{Value}
use Rattle.ir_trees.specs.Stands.{in_program}
use Rattle.opt_trees.specs.Dialect.{Dialect}
use Rattle.opt_trees.specs.Occurrences.{cons_if, picks}
use Rattle.opt_decide.specs.Replaced.{in_place_of, along, SwapsIn, BuildsBranch, DecidesBranch}
use Rattle.opt_decide.specs.declared.plan.Decision.{Decision}

nothing_long : {X : Type 0} (xs : List X) → length xs ≡ 0 → xs ≡ []
nothing_long [] e = refl
nothing_long (x ∷ xs) e = cc

-- what is picked, and what isn't
module _ {X : Type 0} (xs : List X) where
  behind_all : (ys : List X) (i : ℕ) → length ys ≤ i → slice_get ys i ≡ None
  behind_all [] i h = refl
  behind_all (y ∷ ys) zero h = absurd (omega (arith, h))
  behind_all (y ∷ ys) (suc i) h = behind_all ys i (omega (arith, h))

  pub none_there : (i : ℕ) → length xs ≤ i → cons_if (slice_get xs i) [] ≡ []
  none_there i h = ap (λ o. cons_if o []) (behind_all xs i h)

  -- what is picked stands in the list
  pub picked_from : (is : List ℕ) (k : ℕ) (x : X) → slice_get (picks xs is) k ≡ Some x → (i : ℕ) × (slice_get xs i ≡ Some x)
  picked_from [] k x h = cc
  picked_from (i ∷ is) k x h = first_or_later (slice_get xs i) refl (λ j g. picked_from is j x g) k h
    where
      first_or_later : (o : Option X) → slice_get xs i ≡ o → ((j : ℕ) → slice_get (picks xs is) j ≡ Some x → (m : ℕ) × (slice_get xs m ≡ Some x)) → (j : ℕ) → slice_get (cons_if o (picks xs is)) j ≡ Some x → (m : ℕ) × (slice_get xs m ≡ Some x)
      first_or_later None e later j g = later j g
      first_or_later (Some y) e later zero g = (i, e ∙ g)
      first_or_later (Some y) e later (suc j) g = later j g

module _ {O B A : Type 0} (d : Dialect (in_program O B) A) (old built : Program O B) (x : Decision) (q : Ptr Operation) (b : BuildsBranch d old built x q) where
  no_handles : b.builds.handles ≡ []
  no_handles = nothing_long b.builds.handles b.builds.count

  pub two : x.op ≢ q
  two e = let n : Some b.view ≡ None = sym b.there ∙ ap (operation_at old) e ∙ b.builds.fresh in cc

  kept : operation_at built x.op ≡ operation_at old x.op
  kept = b.builds.others x.op two

  pub made : operation_at built q ≡ Some (along d b.view x.edge b.payload)
  made = b.builds.made ∙ (λ i. Some (record (along d b.view x.edge b.payload) { regions = no_handles i }))

  pub still_linked : IsLinkedOperation old x.op → IsLinkedOperation built x.op
  still_linked place = (
    place.0,
    record {
      operation = subst IsSome (sym kept) place.1.operation;
      block = subst IsSome (sym (b.builds.blocks place.0)) place.1.block;
      index = place.1.index;
      here = ap (λ o. slice_get (unwrap_or (option_map (λ (v : BlockView B). v.operations) o) []) place.1.index) (b.builds.blocks place.0) ∙ place.1.here;
    },
  )

  pub still_results : results_at built x.op ≡ results_at old x.op
  still_results = ap (λ o. unwrap_or (option_map (λ (v : OperationView O). v.results) o) []) kept

  pub still_regions : regions_in built x.op ≡ regions_in old x.op
  still_regions = ap (λ o. unwrap_or (option_map (λ (v : OperationView O). v.regions) o) []) kept

  pub new_bare : regions_in built q ≡ []
  new_bare = ap (λ o. unwrap_or (option_map (λ (v : OperationView O). v.regions) o) []) made

  pub new_live : IsSome (operation_at built q)
  new_live = subst IsSome (sym made) refl

  pub decided : (new : Program O B) → SwapsIn built new x.op q → DecidesBranch d old new x q
  decided new s = record {
    payload = b.payload;
    plain = b.plain;
    view = b.view;
    there = b.there;
    puts = record {
      fresh = b.builds.fresh;
      unspent = λ g. b.builds.unspent g.1;
      made = s.others q (λ e. two (sym e)) ∙ made;
      gone = s.gone;
      others = λ y ne other. s.others y ne ∙ b.builds.others y other;
      blocks = λ c. s.blocks c ∙ ap (option_map (λ (l : BlockView B). record l { operations = map (in_place_of x.op q) l.operations })) (b.builds.blocks c);
      regions = λ r. s.regions r ∙ b.builds.regions.others r (λ k h. let n : None ≡ Some r = ap (λ hs. slice_get hs k) (sym no_handles) ∙ h in cc);
      erased = record {
        operations = λ key h. s.erased.operations key (b.builds.erased.operations key h);
        blocks = λ key h. s.erased.blocks key (b.builds.erased.blocks key h);
        regions = λ key h. s.erased.regions key (b.builds.erased.regions key h);
      };
    };
  }

module _ {O B : Type 0} (c : Program O B) (p : Ptr Operation) (v : OperationView O) (there : operation_at c p ≡ Some v) where
  -- what is forwarded stands somewhere
  pub live_operands : ((x : Ptr Operation) (k : ℕ) (u : Value) → slice_get (operands_at c x) k ≡ Some u → IsLiveValue c u) → (is : List ℕ) (us : List Value) → us ≡ picks v.operands is → AreLiveValues c us
  live_operands known is us e k u h =
      let f = picked_from v.operands is k u (ap (λ ys. slice_get ys k) (sym e) ∙ h) in
      known p f.0 u (ap (λ o. slice_get (unwrap_or (option_map (λ (x : OperationView O). x.operands) o) []) f.0) there ∙ f.1)

  pub successors_are : successors_at c p ≡ v.successors
  successors_are = ap (λ o. unwrap_or (option_map (λ (x : OperationView O). x.successors) o) []) there

only_one : {X : Type 0} (o : Option X) (k : ℕ) (x : X) → slice_get (cons_if o []) k ≡ Some x → o ≡ Some x
only_one None k x h = cc
only_one (Some y) zero x h = h
only_one (Some y) (suc k) x h = cc

pub live_target : {O B : Type 0} (c : Program O B) (p : Ptr Operation) → ((x : Ptr Operation) (k : ℕ) (b : Ptr BasicBlock) → slice_get (successors_at c x) k ≡ Some b → IsSome (block_at c b)) → (i : ℕ) (bs : List (Ptr BasicBlock)) → bs ≡ cons_if (slice_get (successors_at c p) i) [] → AreLiveBlocks c bs
live_target c p known i bs e k b h = known p i b (only_one (slice_get (successors_at c p) i) k b (ap (λ ys. slice_get ys k) (sym e) ∙ h))

-- the branch that was made
pub branch_built : {O B A : Type 0} (d : Dialect (in_program O B) A) (old built : Program O B) (x : Decision) (q : Ptr Operation) (payload : O) (v : OperationView O) (us : List Value) (bs : List (Ptr BasicBlock))
    → d.plain ≡ Some payload → operation_at old x.op ≡ Some v
    → us ≡ picks v.operands (d.forwards v.payload (length v.operands) x.edge) → bs ≡ cons_if (slice_get (successors_at old x.op) x.edge) []
    → BuildsOperation old built q payload [] us bs 0 → BuildsBranch d old built x q
branch_built d old built x q payload v us bs plain there operands targets builds = record {
  payload = payload;
  plain = plain;
  view = v;
  there = there;
  builds = subst (λ ys. BuildsOperation old built q payload [] (picks v.operands (d.forwards v.payload (length v.operands) x.edge)) ys 0)
      (targets ∙ ap (λ ys. cons_if (slice_get ys x.edge) []) (successors_are old x.op v there))
      (subst (λ ys. BuildsOperation old built q payload [] ys bs 0) operands builds);
}

-- What becomes of each operation where decisions are carried out, under which name, and what is outside the root.
use Rattle.std.proofs.Common.{◌≡◌, ◌⊎◌, inl, inr, ⊎_elim, ℕ, true, List, [], ◌∷◌, map, Option, Some, None, IsSome, option_map, unwrap_or, slice_get, refl, sym, ap, ◌∙◌, subst}
use Rattle.ir_program.specs.Lists.{StandsInBlock, StandsInside}
use Rattle.ir_program.specs.Program.{Program, OperationView, BlockView, operation_at, block_at}
use Rattle.ir_program.specs.declared.handles.IRNode.TheVariants.{Operation as OperationNode, BasicBlock as BlockNode}
use Rattle.ir_program.specs.declared.handles.Ptr.{Ptr}
use Rattle.ir_program.specs.declared.handles.Operation.{Operation}
use Rattle.ir_program.specs.declared.handles.BasicBlock.{BasicBlock}
use Rattle.ir_trees.specs.Searched.{Lists, heads_in}
use Rattle.ir_trees.specs.Stands.{by_handle, in_program, ProgramHead, Handles, head_of, AreTree, no_operations, no_blocks, no_regions, first_operation, first_block, first_region}
use Rattle.ir_trees.specs.Trees.{Sort, Operations, Blocks, Regions, Tree}
use Rattle.ir_trees.proofs.Members.{Has, has_at, has_either}
use Rattle.opt_trees.specs.Dialect.{Dialect}
use Rattle.opt_inside.specs.Outside.{KeepsOutside}
use Rattle.opt_inside.proofs.Around.{HasLists, around_operation}
use Rattle.opt_decide.specs.Phase.{IsUndecided, HasDecided}
use Rattle.opt_decide.specs.Planned.{AreDecisions}
use Rattle.opt_decide.specs.Replaced.{along}
use Rattle.opt_decide.specs.declared.plan.Decision.{Decision}
use Rattle.opt_decide.proofs.Carried.{among_or_not, bare_branch, both_true}
use Rattle.opt_decide.proofs.Folded.{same_some}

pub not_none : {X : Type 0} (o : Option X) → IsSome o → o ≡ None → ⊥
not_none None h e = cc
not_none (Some x) h e = cc

map_on : {X : Type 0} (f : X → X) (xs : List X) → ((x : X) → Has x xs → f x ≡ x) → map f xs ≡ xs
map_on f [] same = refl
map_on f (x ∷ xs) same = let e = same x (inl refl) in let s = map_on f xs (λ y h. same y (inr h)) in λ i. e i ∷ s i

-- the operations that a tree is of are there
pub heads_there : {O B : Type 0} (c : Program O B) (s : Sort) (hs : Handles s) (t : Tree by_handle (in_program O B) s) → AreTree c s hs t
    → (h : ProgramHead O B) → Has h (heads_in t) → IsSome (operation_at c h.name)
heads_there c _ _ _ no_operations h has = absurd has
heads_there c _ _ _ no_blocks h has = absurd has
heads_there c _ _ _ no_regions h has = absurd has
heads_there {O} {B} c _ _ _ (first_operation p ps v rs rest there inner later) h has = ⊎_elim
    (λ (e : h ≡ head_of {B = B} p v). subst (λ (z : ProgramHead O B). IsSome (operation_at c z.name)) (sym e) (subst IsSome (sym there) refl))
    (λ more. ⊎_elim (heads_there c Regions v.regions rs inner h) (heads_there c Operations ps rest later h) (has_either (heads_in rs) (heads_in rest) h more))
    has
heads_there c _ _ _ (first_block b bs v ops rest there inner later) h has =
    ⊎_elim (heads_there c Operations v.operations ops inner h) (heads_there c Blocks bs rest later h) (has_either (heads_in ops) (heads_in rest) h has)
heads_there c _ _ _ (first_region r rs v bs rest there inner later) h has =
    ⊎_elim (heads_there c Blocks v.blocks bs inner h) (heads_there c Regions rs rest later h) (has_either (heads_in bs) (heads_in rest) h has)

module _ {O B A : Type 0} (d : Dialect (in_program O B) A) (old new : Program O B) (op : Ptr Operation) (ds : List Decision) (are : AreDecisions d old op ds) (has : HasDecided d old new ds) where
  -- an operation that isn't decided
  pub record IsKept (p : Ptr Operation) (v : OperationView O) : Type 0 where
    pub same : has.names p ≡ p
    pub there : operation_at new (has.names p) ≡ Some v

  -- a branch that is decided
  pub record IsBranched (p : Ptr Operation) (v : OperationView O) : Type 0 where
    pub edge : ℕ
    pub payload : O
    pub plain : d.plain ≡ Some payload
    pub branches : d.is_branch v.payload ≡ true
    pub regions : v.regions ≡ []
    pub made : operation_at new (has.names p) ≡ Some (along d v edge payload)

  pub now_at : (p : Ptr Operation) (v : OperationView O) → operation_at old p ≡ Some v → IsKept p v ⊎ IsBranched p v
  now_at p v there = ⊎_elim
      (λ h. let x : Decision = h.0 in
      let m = has.done x h.1 in
      let bare = bare_branch d old x.op x.edge (are.sound x h.1) in
      let at : operation_at old x.op ≡ Some v = ap (operation_at old) h.2 ∙ there in
      let view : m.view ≡ v = same_some m.view v (sym m.there ∙ at) in
      let own : bare.view ≡ v = same_some bare.view v (sym bare.there ∙ at) in
      inr (record {
        edge = x.edge;
        payload = m.payload;
        plain = m.plain;
        branches = ap (λ (w : OperationView O). d.is_branch w.payload) (sym own) ∙ (both_true d old x.op x.edge (d.is_branch bare.view.payload) _ bare.decides).0;
        regions = ap (λ (w : OperationView O). w.regions) (sym own) ∙ bare.regions;
        made = ap (λ z. operation_at new (has.names z)) (sym h.2) ∙ m.made ∙ ap (λ w. Some (along d w x.edge m.payload)) view;
      }))
      (λ none. let e = has.same p none in inl (record { same = e; there = ap (operation_at new) e ∙ has.others p v there none }))
      (among_or_not ds p)

  pub root_undecided : IsUndecided ds op
  root_undecided x l e = (are.below x l).other e

  pub root_same : has.names op ≡ op
  root_same = has.same op root_undecided

  -- a new name led nowhere
  pub free_or_same : (p : Ptr Operation) → (has.names p ≡ p) ⊎ (operation_at old (has.names p) ≡ None)
  free_or_same p = ⊎_elim
      (λ h. inr (ap (λ z. operation_at old (has.names z)) (sym h.2) ∙ (has.done h.0 h.1).fresh))
      (λ none. inl (has.same p none))
      (among_or_not ds p)

  fresh_apart : (x : Decision) (q : Ptr Operation) → Lists ds x → IsUndecided ds q → IsSome (operation_at old q) → has.names x.op ≡ has.names q → ⊥
  fresh_apart x q l none live e = not_none (operation_at old q) live (ap (operation_at old) (sym (has.same q none) ∙ sym e) ∙ (has.done x l).fresh)

  -- names of what is there are apart
  pub apart : (p q : Ptr Operation) → IsSome (operation_at old p) → IsSome (operation_at old q) → has.names p ≡ has.names q → p ≡ q
  apart p q live other e = ⊎_elim
      (λ h. ⊎_elim
      (λ k. sym h.2 ∙ has.apart h.0 k.0 h.1 k.1 (ap has.names h.2 ∙ e ∙ ap has.names (sym k.2)) ∙ k.2)
      (λ none. absurd (fresh_apart h.0 q h.1 none other (ap has.names h.2 ∙ e)))
      (among_or_not ds q))
      (λ none. ⊎_elim
      (λ k. absurd (fresh_apart k.0 p k.1 none live (ap has.names k.2 ∙ sym e)))
      (λ neither. sym (has.same p none) ∙ e ∙ has.same q neither)
      (among_or_not ds q))
      (among_or_not ds p)

  module _ (lists : HasLists old) where
    in_kept : (b : Ptr BasicBlock) (v : BlockView B) → (StandsInside old (OperationNode op) (BlockNode b) → ⊥) → block_at old b ≡ Some v → (p : Ptr Operation) → Has p v.operations → has.names p ≡ p
    in_kept b v outside there p has_p =
        let k = has_at v.operations p has_p in
        let s : StandsInBlock old p b = lists.operations b k.0 p (ap (λ o. slice_get (unwrap_or (option_map (λ (x : BlockView B). x.operations) o) []) k.0) there ∙ k.1) in
        has.same p (λ x l e. ⊎_elim
        (λ (r : OperationNode op ≡ OperationNode p). let same : p ≡ op = cc in (are.below x l).other (e ∙ same))
        outside
        (around_operation old lists (OperationNode op) p b s (subst (λ z. StandsInside old (OperationNode op) (OperationNode z)) e (are.below x l).inside)))

    pub outside_kept : KeepsOutside old new op
    outside_kept = record {
      operations = λ p v out there. has.others p v there (λ x l e. out (subst (λ z. StandsInside old (OperationNode op) (OperationNode z)) e (are.below x l).inside));
      blocks = λ b v out there.
          has.blocks b ∙ ap (option_map (λ (l : BlockView B). record l { operations = map has.names l.operations })) there
          ∙ (let e = map_on has.names v.operations (in_kept b v out there) in λ i. Some (record v { operations = e i }));
      regions = λ r v out there. has.regions r ∙ there;
    }

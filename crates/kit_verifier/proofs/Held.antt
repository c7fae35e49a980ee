-- What a module may hold, said of trees and of lists of handles.
use Rattle.std.proofs.Common.{◌≡◌, ◌↔◌, ⊎_elim, ℕ, ◌<◌, Bool, true, false, List, Option, Some, IsTrue, slice_get, refl, sym, ◌∙◌, subst, true≢false}
use Rattle.ir_program.specs.Lists.{StandsInside, operations_in}
use Rattle.ir_program.specs.Program.{Program}
use Rattle.ir_program.specs.declared.handles.IRNode.{IRNode}
use Rattle.ir_program.specs.declared.handles.IRNode.TheVariants.{Operation as OperationNode, Region as RegionNode, BasicBlock as BlockNode}
use Rattle.ir_program.specs.declared.handles.Ptr.{Ptr}
use Rattle.ir_program.specs.declared.handles.Operation.{Operation}
use Rattle.ir_trees.specs.Stands.{ProgramTree}
use Rattle.ir_trees.proofs.Members.{Has}
use Rattle.opt_inside.proofs.Around.{HasLists, around_operation}
use Rattle.kit_ops.specs.declared.kinds.KitOp.TheVariants.{Module}
use Rattle.kit_checks.specs.Located.{IsAround, IsAroundIf, IsSiteOf}
use Rattle.kit_checks.specs.Reading.{IsInKind}
use Rattle.kit_checks.specs.Rules.{HasFreshName, HasModuleBody, ModuleHolds}
use Rattle.kit_checks.specs.Sites.{Around, Site, operation_list}
use Rattle.kit_checks.specs.Words.{is_symbol, kind_of, symbol_name}
use Rattle.kit_checks.specs.World.{World}
use Rattle.kit_checks.proofs.Down.{operation_listed, operations_are}
use Rattle.kit_checks.proofs.Upward.{operation_tree}
use Rattle.kit_verifier.specs.Repeats.{AreRepeats, IsRepeat, IsRepeatAt, MayBeHeld}
use Rattle.kit_verifier.proofs.Read.{name_is}

module _ {O B : Type 0} (w : World O B) (c : Program O B) (root op : Ptr Operation) where
  -- what is around an operation
  pub around_some : (o : Option (Around O B)) (a : Around O B) → IsAroundIf c root op o → o ≡ Some a → IsAround c root op a
  around_some o a at some = subst (IsAroundIf c root op) some at

  module _ (s : Site O B) (at : IsSiteOf c root op s) (a : Around O B) (here : s.around ≡ Some a) where
    pub it : IsAround c root op a
    it = around_some s.around a at.around here

    -- a repeat in the block of the operation breaks the freshness of its name in the tree
    not_fresh : IsRepeat w c (operations_in c it.block) op → (r : IsRepeat w c (operations_in c it.block) op) → r.index ≡ a.index → HasFreshName w a s.op → ⊥
    not_fresh _ r same fresh =
        let other = operation_tree c it.body.view.operations a.body.operations it.body.operations r.first r.other (subst (λ l. slice_get l r.first ≡ Some r.other) (sym (operations_are c it.block a.body it.body)) r.there) in
        fresh r.first other.0 r.name (subst (λ n. r.first < n) same r.before) other.1
        (sym (name_is w c r.other other.0 other.2) ∙ r.same_name) (sym (name_is w c op s.op at.tree) ∙ r.named)

    -- a name of the tree that isn't fresh is that of a repeat
    pub repeat_of : (k : ℕ) (other : ProgramTree O B) (name : List ℕ) → k < a.index → slice_get (operation_list a.body.operations) k ≡ Some other → symbol_name w other ≡ Some name → symbol_name w s.op ≡ Some name →
        IsRepeat w c (operations_in c it.block) op
    repeat_of k other name before there theirs mine =
        let l = operation_listed c it.body.view.operations a.body.operations it.body.operations k other there in
        record {
          index = a.index;
          here = it.index;
          first = k;
          before = before;
          other = other.head.name;
          there = subst (λ x. slice_get x k ≡ Some other.head.name) (operations_are c it.block a.body it.body) l.0;
          name = name;
          named = name_is w c op s.op at.tree ∙ mine;
          same_name = name_is w c other.head.name other l.1 ∙ theirs;
        }

    pub block_inside : HasLists c → StandsInside c (OperationNode root) (BlockNode it.block)
    block_inside lists = ⊎_elim
        (λ (same : OperationNode root ≡ OperationNode op). absurd (it.other (let e : op ≡ root = cc in e)))
        (λ i. i)
        (around_operation c lists (OperationNode root) op it.block it.in_block at.inside)

    -- so does a repeat in whatever block has the operation
    pub in_its_block : HasLists c → (e : IRNode) → IsRepeatAt w c e op → HasFreshName w a s.op → ⊥
    in_its_block lists (BlockNode b) r fresh =
        let one = lists.operations_once op b it.block r.index a.index r.here it.index in
        let mine : IsRepeat w c (operations_in c it.block) op = subst (λ x. IsRepeat w c (operations_in c x) op) one.0 r in
        by mine (lists.operations_once op it.block it.block mine.index a.index mine.here it.index).1
      where
        by : (m : IsRepeat w c (operations_in c it.block) op) → m.index ≡ a.index → ⊥
        by m same = not_fresh m m same fresh
    in_its_block lists (OperationNode p) r fresh = r
    in_its_block lists (RegionNode p) r fresh = r

    module _ (repeats : List (Ptr Operation)) (are : AreRepeats w c root repeats) where
      -- the name is fresh exactly where the operation is no repeat
      pub fresh_name : HasLists c → (is : Bool) → IsTrue is ↔ (Has op repeats → ⊥) → IsTrue is ↔ HasFreshName w a s.op
      fresh_name lists is tells = (
        λ h k other name before there theirs mine. tells.0 h ((are op).1 (BlockNode it.block, block_inside lists, repeat_of k other name before there theirs mine)),
        λ fresh. tells.1 (λ has. let m = (are op).0 has in in_its_block lists m.0 m.2 fresh),
      )

-- what is held where a part of it decides
pub held_last : {O B : Type 0} (w : World O B) (s : Site O B) (a : Around O B) (is r : Bool) → is ≡ true → is ≡ is_symbol (kind_of w s.op) → IsTrue r ↔ HasFreshName w a s.op → IsTrue r ↔ MayBeHeld w s a
held_last w s a is r holds same tells = (λ h. (sym same ∙ holds, tells.0 h), λ m. tells.1 m.1)

-- the rule, by its parts
module _ {O B : Type 0} (w : World O B) (s : Site O B) where
  pub not_held : (is inside : Bool) → is ≡ true → IsTrue is ↔ (kind_of w s.op ≡ Module → HasModuleBody s.op) → inside ≡ false → IsTrue inside ↔ IsInKind w s Module → IsTrue true ↔ ModuleHolds w s
  not_held is inside holds tells outside test = (
    λ h. record {
      body = tells.0 holds;
      kinds = λ a i. absurd (true≢false (sym (test.1 (a, i)) ∙ outside));
      names = λ a i. absurd (true≢false (sym (test.1 (a, i)) ∙ outside));
    },
    λ m. refl,
  )

  pub all_held : (is inside r : Bool) → is ≡ true → IsTrue is ↔ (kind_of w s.op ≡ Module → HasModuleBody s.op) → inside ≡ true → IsTrue inside ↔ IsInKind w s Module →
      ((a : Around O B) → s.around ≡ Some a → IsTrue r ↔ MayBeHeld w s a) → IsTrue r ↔ ModuleHolds w s
  all_held is inside r holds tells there test each = (
    λ h. record {
      body = tells.0 holds;
      kinds = λ a i. ((each a i.0).0 h).0;
      names = λ a i. ((each a i.0).0 h).1;
    },
    λ m. let i = test.0 there in (each i.0 i.1.0).1 (m.kinds i.0 i.1, m.names i.0 i.1),
  )

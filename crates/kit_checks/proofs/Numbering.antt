-- Numbering the operations inside a root, one entity after the other.
use Rattle.std.proofs.Common.{◌≡◌, ◌≢◌, ◌⊎◌, inl, inr, ⊎_elim, ℕ, zero, suc, ◌<◌, ◌+◌, eqb, cond, List, [], ◌∷◌, ◌++◌}
use Rattle.std.proofs.Common.{length, get_or, set, Bool, true, false, Option, Some, None, IsSome, option_map, slice_get}
use Rattle.std.proofs.Common.{refl, sym, ap, ◌∙◌, subst, append_assoc, arith, length-append}
use Rattle.std.proofs.lemmas.Bool.{eqb-true, false≢true}
use Rattle.std.proofs.lemmas.List.{append-nil, get_or-set_same, get_or-set_other}
use Rattle.ir_program.specs.Handles.{handle}
use Rattle.ir_program.specs.Preorder.{nodes_inside, AreInside, IsPreorder, StandOnceEach}
use Rattle.ir_program.specs.Lists.{operations_in}
use Rattle.ir_program.specs.Program.{Program, operation_at}
use Rattle.ir_program.specs.declared.handles.IRNode.{IRNode}
use Rattle.ir_program.specs.declared.handles.IRNode.TheVariants.{Operation as OperationNode, Region as RegionNode}
use Rattle.ir_program.specs.declared.handles.IRNode.TheVariants.{BasicBlock as BlockNode}
use Rattle.ir_program.specs.declared.handles.Ptr.{Ptr}
use Rattle.ir_program.specs.declared.handles.Operation.{Operation}
use Rattle.ir_program.proofs.made.Frames.{same_handle}
use Rattle.ir_program.proofs.made.Lent.{same_key}
use Rattle.kit_checks.specs.declared.walk_order.WalkOrder.{WalkOrder}
use Rattle.kit_checks.specs.Naming.{AreInWalkOrder, GivesNumber, IsEarlier, IsOrderAt, KeepsNumbers, NumbersEntity, number_in}
use Rattle.kit_checks.proofs.Finding.{get-middle}
use Rattle.kit_checks.proofs.Walk.{front_get, walk_order}

-- what is there has the version of its slot
version_is : {X Y : Type 0} (f : X → Y) (held asked : ℕ) (value : Option X)
    → IsSome (option_map f (cond (eqb held asked) value None)) → held ≡ asked
version_is f held asked value live = by (eqb held asked) refl live
  where
    by : (b : Bool) → eqb held asked ≡ b → IsSome (option_map f (cond b value None)) → held ≡ asked
    by true is h = eqb-true held asked is
    by false is h = absurd (false≢true h)

module _ {O B : Type 0} (c : Program O B) where
  abbrev at_slot : ℕ → ℕ → Ptr Operation
  at_slot slot version = handle (record { slot = slot; version = version })

  one_version : (slot first second : ℕ) → IsSome (operation_at c (at_slot slot first))
      → IsSome (operation_at c (at_slot slot second)) → first ≡ second
  one_version slot first second a b = sym (version_is _ _ first _ a) ∙ version_is _ _ second _ b

  -- no two operations that are there have one slot
  same_slot : (p q : Ptr Operation) → IsSome (operation_at c p) → IsSome (operation_at c q)
      → p.key.slot ≡ q.key.slot → p ≡ q
  same_slot p q live_p live_q e =
      let moved : IsSome (operation_at c (at_slot q.key.slot p.key.version)) =
      subst (λ slot. IsSome (operation_at c (at_slot slot p.key.version))) e live_p in
      same_handle p q (same_key p.key q.key e (one_version q.key.slot p.key.version q.key.version moved live_q))

-- one more number, of no operation, leaves the others
zero_behind : (numbers : List ℕ) (k : ℕ) → get_or (numbers ++ 0 ∷ []) k 0 ≡ get_or numbers k 0
zero_behind [] zero = refl
zero_behind [] (suc k) = refl
zero_behind (n ∷ numbers) zero = refl
zero_behind (n ∷ numbers) (suc k) = zero_behind numbers k

pub room_keeps : (old order after : WalkOrder) → after.numbers.items ≡ order.numbers.items ++ 0 ∷ []
    → KeepsNumbers old order → KeepsNumbers old after
room_keeps old order after is keeps p =
    ap (λ l. get_or l p.key.slot 0) is ∙ zero_behind order.numbers.items p.key.slot ∙ keeps p

-- a number is written where there is room for it
pub number_written : (old order after : WalkOrder) (op : Ptr Operation) (slot number : ℕ) → slot ≡ op.key.slot
    → slot < length order.numbers.items → after.numbers.items ≡ set order.numbers.items slot number
    → KeepsNumbers old order → GivesNumber old after op number
number_written old order after op slot number at room is keeps = record {
  given = ap (λ l. get_or l op.key.slot 0) is ∙ ap (λ k. get_or (set order.numbers.items slot number) k 0) (sym at)
      ∙ get_or-set_same order.numbers.items slot number 0 room;
  others = λ p other. ap (λ l. get_or l p.key.slot 0) is
      ∙ get_or-set_other order.numbers.items slot p.key.slot number 0 (λ same. other (same ∙ at)) ∙ keeps p;
}

-- a member of a front is one of the front
get_front : {X : Type 0} (front rest : List X) (k : ℕ) (x : X) → slice_get (front ++ rest) k ≡ Some x
    → k < length front → slice_get front k ≡ Some x
get_front [] rest k x here less = absurd (omega (arith, less))
get_front (y ∷ front) rest zero x here less = here
get_front (y ∷ front) rest (suc k) x here less = get_front front rest k x here (omega (arith, less))

-- a member of a list with one more
either_part : {X : Type 0} (xs : List X) (y x : X) (k : ℕ) → slice_get (xs ++ y ∷ []) k ≡ Some x
    → (slice_get xs k ≡ Some x) ⊎ ((k ≡ length xs) × (y ≡ x))
either_part [] y x zero here = inr (refl, cc)
either_part [] y x (suc k) here = cc
either_part (z ∷ xs) y x zero here = inl here
either_part (z ∷ xs) y x (suc k) here =
    ⊎_elim inl (λ (last : (k ≡ length xs) × (y ≡ x)). inr (ap suc last.0, last.1)) (either_part xs y x k here)

module _ {O B : Type 0} (c : Program O B) (root : Ptr Operation) where
  -- the entities that have been gone through are counted, and each operation among them has its number; at no other slot
  -- is there a number
  pub record IsNumberedUpTo (order : WalkOrder) (number : ℕ) (left : List IRNode) : Type 0 where
    pub done : List IRNode
    pub parts : nodes_inside c (OperationNode root) ≡ done ++ left
    pub count : number ≡ length done
    pub numbers : (k : ℕ) (p : Ptr Operation) → slice_get done k ≡ Some (OperationNode p) → number_in order p ≡ k + 1
    pub others : (q : Ptr Operation)
        → ((k : ℕ) (p : Ptr Operation) → slice_get done k ≡ Some (OperationNode p) → p.key.slot ≢ q.key.slot)
        → number_in order q ≡ 0

  pub numbering_begins : (order : WalkOrder) (left : List IRNode) → left ≡ nodes_inside c (OperationNode root)
      → ((op : Ptr Operation) → number_in order op ≡ 0) → IsNumberedUpTo order 0 left
  numbering_begins order left all empty =
      record { done = []; parts = sym all; count = refl; numbers = λ k p here. cc; others = λ q apart. empty q }

  module _ (inside : AreInside c (OperationNode root) (nodes_inside c (OperationNode root)))
      (once : StandOnceEach (nodes_inside c (OperationNode root))) where
    -- the number of an operation stays when an entity behind it gets one
    number_stays : (order after : WalkOrder) (number k j : ℕ) (p : Ptr Operation) (e : IRNode) → k < j
        → slice_get (nodes_inside c (OperationNode root)) k ≡ Some (OperationNode p)
        → slice_get (nodes_inside c (OperationNode root)) j ≡ Some e
        → NumbersEntity order after e number → number_in after p ≡ number_in order p
    number_stays order after number k j p (OperationNode q) less here there gives = gives.others p (λ same.
        let live_p = inside.live k (OperationNode p) here in
        let live_q = inside.live j (OperationNode q) there in
        let e : p ≡ q = same_slot c p q live_p live_q same in
        let i : k ≡ j = once k j (OperationNode q) (here ∙ ap (λ x. Some (OperationNode x)) e) there in
        omega arith)
    number_stays order after number k j p (BlockNode b) less here there keeps = keeps p
    number_stays order after number k j p (RegionNode r) less here there keeps = keeps p

    number_given : (order after : WalkOrder) (number : ℕ) (p : Ptr Operation) (e : IRNode) → e ≡ OperationNode p
        → NumbersEntity order after e number → number_in after p ≡ number
    number_given order after number p e is gives =
        (subst (λ x. NumbersEntity order after x number) is gives).given

    -- what is at no slot of the entity keeps its number
    other_stays : (order after : WalkOrder) (number : ℕ) (q : Ptr Operation) (e : IRNode)
        → ((p : Ptr Operation) → e ≡ OperationNode p → p.key.slot ≢ q.key.slot)
        → NumbersEntity order after e number → number_in after q ≡ number_in order q
    other_stays order after number q (OperationNode p) apart gives = gives.others q (λ same. apart p refl (sym same))
    other_stays order after number q (BlockNode b) apart keeps = keeps q
    other_stays order after number q (RegionNode r) apart keeps = keeps q

    pub numbering_goes_on : (order after : WalkOrder) (number next : ℕ) (was left : List IRNode) (e : IRNode)
        → was ≡ e ∷ left → next ≡ number + 1 → NumbersEntity order after e next
        → IsNumberedUpTo order number was → IsNumberedUpTo after next left
    numbering_goes_on order after number next was left e is more gives h = record {
      done = h.done ++ e ∷ [];
      parts = parts ∙ sym (append_assoc h.done (e ∷ []) left);
      count = more ∙ ap (λ n. n + 1) h.count ∙ sym (length-append h.done (e ∷ []));
      numbers = λ k p here. ⊎_elim
          (λ (before : slice_get h.done k ≡ Some (OperationNode p)).
          let front = front_get h.done (e ∷ left) k (OperationNode p) before in
          number_stays order after next k (length h.done) p e front.1 (at k (OperationNode p) front.0)
          (at (length h.done) e (get-middle h.done left e)) gives ∙ h.numbers k p before)
          (λ (last : (k ≡ length h.done) × (e ≡ OperationNode p)).
          number_given order after next p e last.1 gives ∙ more ∙ ap (λ n. n + 1) (h.count ∙ sym last.0))
          (either_part h.done e (OperationNode p) k here);
      others = λ q apart. other_stays order after next q e
          (λ p is. apart (length h.done) p (get-middle h.done [] e ∙ ap Some is)) gives
          ∙ h.others q (λ k p before. apart k p (front_get h.done (e ∷ []) k (OperationNode p) before).0);
    }
      where
        parts : nodes_inside c (OperationNode root) ≡ h.done ++ e ∷ left
        parts = h.parts ∙ ap (λ l. h.done ++ l) is

        at : (k : ℕ) (x : IRNode) → slice_get (h.done ++ e ∷ left) k ≡ Some x
            → slice_get (nodes_inside c (OperationNode root)) k ≡ Some x
        at k x = subst (λ l. slice_get l k ≡ Some x) (sym parts)

    -- an operation that is the last one with a number comes behind those that have one, and before the rest
    last_orders : IsPreorder c (OperationNode root ∷ []) (nodes_inside c (OperationNode root))
        → (order : WalkOrder) (number index : ℕ) (left : List IRNode) (op : Ptr Operation)
        → (h : IsNumberedUpTo order number left) → length h.done ≡ index + 1
        → slice_get h.done index ≡ Some (OperationNode op) → IsOrderAt c root op order
    last_orders preorder order number index left op h last at block within = record {
      before = λ p e.
          let walk = walk_order c root (nodes_inside c (OperationNode root)) inside preorder block within p op e in
          let second : walk.second ≡ index = once walk.second index (OperationNode op) walk.there there in
          let less = walk.before in
          let front : walk.first < length h.done = omega (arith, less, second, last) in
          let first : number_in order p ≡ walk.first + 1 =
          h.numbers walk.first p (get_front h.done left walk.first (OperationNode p)
          (subst (λ l. slice_get l walk.first ≡ Some (OperationNode p)) h.parts walk.here) front) in
          let own : number_in order op ≡ index + 1 = h.numbers index op at in
          (omega (arith, first), omega (arith, first, own, less, second));
      behind = λ p e below.
          let walk = walk_order c root (nodes_inside c (OperationNode root)) inside preorder block within op p e in
          let first : walk.first ≡ index = once walk.first index (OperationNode op) walk.here there in
          let less = walk.before in
          let none : number_in order p ≡ 0 = h.others p (λ k q here same.
          let front = front_get h.done left k (OperationNode q) here in
          let place : slice_get (nodes_inside c (OperationNode root)) k ≡ Some (OperationNode q) =
          subst (λ l. slice_get l k ≡ Some (OperationNode q)) (sym h.parts) front.0 in
          let live_p = inside.live walk.second (OperationNode p) walk.there in
          let live_q = inside.live k (OperationNode q) place in
          let is : q ≡ p = same_slot c q p live_q live_p same in
          let i : k ≡ walk.second = once k walk.second (OperationNode p)
          (place ∙ ap (λ x. Some (OperationNode x)) is) walk.there in
          let few = front.1 in
          omega (arith, i, few, last, less, first)) in
          let more = below.0 in
          omega (arith, none, more);
    }
      where
        there : slice_get (nodes_inside c (OperationNode root)) index ≡ Some (OperationNode op)
        there = subst (λ l. slice_get l index ≡ Some (OperationNode op)) (sym h.parts)
            (front_get h.done left index (OperationNode op) at).0

    -- so with one that has just got its number
    pub numbering_orders : IsPreorder c (OperationNode root ∷ []) (nodes_inside c (OperationNode root))
        → (order after : WalkOrder) (number next : ℕ) (was left : List IRNode) (e : IRNode)
        → was ≡ e ∷ left → next ≡ number + 1 → NumbersEntity order after e next → IsNumberedUpTo order number was
        → (op : Ptr Operation) → e ≡ OperationNode op → IsOrderAt c root op after
    unfolding numbering_goes_on
    numbering_orders preorder order after number next was left e is more gives h op same =
        last_orders preorder after next (length h.done) left op
        (numbering_goes_on order after number next was left e is more gives h)
        (length-append h.done (e ∷ [])) (get-middle h.done [] e ∙ ap Some same)

  pub numbering_ends : AreInside c (OperationNode root) (nodes_inside c (OperationNode root))
      → IsPreorder c (OperationNode root ∷ []) (nodes_inside c (OperationNode root))
      → (order : WalkOrder) (number : ℕ) (left : List IRNode) → left ≡ [] → IsNumberedUpTo order number left
      → AreInWalkOrder c root order
  numbering_ends inside preorder order number left is h op block within = record {
    before = λ p e. let w = in_order p op e in let first = w.1 in let less = w.0 in (omega (arith, first), less);
    behind = λ p e below. let w = in_order op p e in let less = w.0 in let more = below.1 in omega (arith, less, more);
  }
    where
      all : nodes_inside c (OperationNode root) ≡ h.done
      all = h.parts ∙ ap (λ l. h.done ++ l) is ∙ append-nil h.done

      -- the earlier one has a smaller number, which is none of 0
      in_order : (p q : Ptr Operation) → IsEarlier (operations_in c block) p q
          → (number_in order p < number_in order q) × (0 < number_in order p)
      in_order p q e =
          let walk : IsEarlier h.done (OperationNode p) (OperationNode q) =
          subst (λ l. IsEarlier l (OperationNode p) (OperationNode q)) all
          (walk_order c root (nodes_inside c (OperationNode root)) inside preorder block within p q e) in
          let first : number_in order p ≡ walk.first + 1 = h.numbers walk.first p walk.here in
          let second : number_in order q ≡ walk.second + 1 = h.numbers walk.second q walk.there in
          let less = walk.before in
          (omega (arith, first, second, less), omega (arith, first))

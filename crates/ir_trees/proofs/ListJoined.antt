-- Operations of one block joined behind those of another make of trees what moving them does.
use Rattle.std.proofs.Common.{◌≡◌, ◌≢◌, ⊎_elim, inl, inr, Bool, true, false, not, cond, List, [], ◌∷◌, ◌++◌, Some, slice_get, option_map, refl, sym, ap, ◌∙◌, subst}
use Rattle.std.proofs.lemmas.List.{append-nil}
use Rattle.ir_program.specs.Program.{Program, BlockView, block_at}
use Rattle.ir_program.specs.Edits.{AppendsBlock}
use Rattle.ir_program.specs.Lists.{operations_in, StandsInBlock, StandsInside, CanAppendOperations}
use Rattle.ir_program.specs.Replacing.{same_block}
use Rattle.ir_program.specs.declared.handles.IRNode.TheVariants.{Operation as OperationNode, BasicBlock as BlockNode}
use Rattle.ir_program.specs.declared.handles.Ptr.{Ptr}
use Rattle.ir_program.specs.declared.handles.Operation.{Operation}
use Rattle.ir_program.specs.declared.handles.BasicBlock.{BasicBlock}
use Rattle.ir_program.proofs.made.Frames.{same_or_not}
use Rattle.ir_trees.specs.Trees.{Head, Operations, Tree, end, operation}
use Rattle.ir_trees.specs.Stands.{by_handle, in_program, head_of, AreTree, no_operations, first_operation, StandsFor}
use Rattle.ir_trees.specs.Rewrites.{roots, rewritten_root, operations_after, KeepsInside, TurnsInto}
use Rattle.ir_trees.specs.ListRewrites.{same_operation, is_among, moves_to}
use Rattle.ir_trees.proofs.Members.{Has, has_at}
use Rattle.ir_trees.proofs.HandleTests.{operation_yes, operation_no, block_yes, block_no}
use Rattle.ir_trees.proofs.ListMembers.{staying, only_staying}
use Rattle.ir_trees.proofs.ListEdited.{AreOrderly, in_record, listed_there, operations_placed, all_blocks}
use Rattle.ir_trees.proofs.Changed.{unmoved_tree}
use Rattle.ir_trees.proofs.Rewritten.{rewritten_tree}

either : (a b : Bool) → b ≡ true → cond a true b ≡ true
either true b e = refl
either false b e = e

-- what the test of a list tells
among_yes : (ps : List (Ptr Operation)) (p : Ptr Operation) → Has p ps → is_among ps p ≡ true
among_yes [] p h = absurd h
among_yes (q ∷ qs) p h = ⊎_elim
    (λ (e : p ≡ q). ap (λ b. cond b true (is_among qs p)) (operation_yes p q e))
    (λ (r : Has p qs). let rest : is_among qs p ≡ true = among_yes qs p r in either (same_operation p q) (is_among qs p) rest)
    h

among_no : (ps : List (Ptr Operation)) (p : Ptr Operation) → (Has p ps → ⊥) → is_among ps p ≡ false
among_no [] p h = refl
among_no (q ∷ qs) p h = rw (operation_no p q (λ e. h (inl e))) (among_no qs p (λ g. h (inr g)))

-- of a list none stays where all are to go, and all where none is
none_left : (ps xs : List (Ptr Operation)) → ((p : Ptr Operation) → Has p xs → Has p ps) → staying (λ p. not (is_among ps p)) xs ≡ []
none_left ps [] h = refl
none_left ps (x ∷ xs) h = rw (among_yes ps x (h x (inl refl))) (none_left ps xs (λ p g. h p (inr g)))

all_left : (ps xs : List (Ptr Operation)) → ((p : Ptr Operation) → Has p xs → Has p ps → ⊥) → staying (λ p. not (is_among ps p)) xs ≡ xs
all_left ps [] h = refl
all_left ps (x ∷ xs) h = rw (among_no ps x (h x (inl refl))) (ap (λ l. x ∷ l) (all_left ps xs (λ p g. h p (inr g))))

module _ {O B : Type 0} where
  roots_are : (c : Program O B) (ps : List (Ptr Operation)) (t : Tree by_handle (in_program O B) Operations) → AreTree c Operations ps t → roots t ≡ ps
  roots_are c _ _ no_operations = refl
  roots_are c _ _ (first_operation p ps v rs rest there below behind) = ap (λ l. p ∷ l) (roots_are c ps rest behind)

  -- a list of operations where all that is inside each leads to what it led to
  unmoved_list : (old new : Program O B) (ps : List (Ptr Operation)) (t : Tree by_handle (in_program O B) Operations) → AreTree old Operations ps t → ((p : Ptr Operation) → Has p ps → KeepsInside old new p) → AreTree new Operations ps t
  unmoved_list old new _ _ no_operations keeps = no_operations
  unmoved_list old new _ _ (first_operation p ps v rs rest there below behind) keeps =
      let s : StandsFor new p (record { head = head_of p v; regions = rs }) = unmoved_tree old new p (keeps p (inl refl)) (record { head = head_of p v; regions = rs }) (record { view = v; there = there; head = refl; regions = below }) in
      subst (λ (h : Head by_handle (in_program O B)). AreTree new Operations (p ∷ ps) (operation h rs rest)) (sym s.head)
      (first_operation p ps s.view rs rest s.there s.regions (unmoved_list old new ps rest behind (λ q h. keeps q (inr h))))

module _ {O B : Type 0} (old : Program O B) (lists : AreOrderly old) where
  pub appended : (new : Program O B) (donee donor : Ptr BasicBlock) (moved : Tree by_handle (in_program O B) Operations) → CanAppendOperations old donee donor → AppendsBlock old new donee donor → AreTree old Operations (operations_in old donor) moved → TurnsInto old new (rewritten_root (moves_to donee moved))
  appended new donee donor moved can appends tree op t =
      let named : roots moved ≡ operations_in old donor = roots_are old (operations_in old donor) moved tree in
      let in_donor : (p : Ptr Operation) → Has p (operations_in old donor) → StandsInBlock old p donor = λ p h. let k = has_at (operations_in old donor) p h in lists.operations donor k.0 p k.1 in
      let there_now : AreTree new Operations (roots moved) moved = subst (λ x. AreTree new Operations x moved) (sym named) (unmoved_list old new (operations_in old donor) moved tree (λ p h. record {
        operations = λ q i. appends.operations q;
        blocks = λ q i. appends.others q (λ e. can.1 p (in_donor p h) (subst (λ x. StandsInside old (OperationNode p) (BlockNode x)) e i)) (λ e. lists.apart p donor (in_donor p h) (subst (λ x. StandsInside old (OperationNode p) (BlockNode x)) e i));
        regions = λ r i. appends.regions r;
      })) in
      let list : (q : Ptr BasicBlock) (l : BlockView B) → block_at old q ≡ Some l → operations_after old (moves_to donee moved) l.operations ≡ staying (λ p. not (is_among (operations_in old donor) p)) l.operations = λ q l there.
      operations_placed old lists (moves_to donee moved) (λ x. []) (λ x. []) (λ p. not (is_among (roots moved) p)) (λ x v. refl) (λ x v. refl) (λ x v. refl) l.operations (listed_there old lists q l there)
      ∙ only_staying (λ p. not (is_among (roots moved) p)) l.operations ∙ ap (λ ps. staying (λ p. not (is_among ps p)) l.operations) named in
      let left : (q : Ptr BasicBlock) (l : BlockView B) → q ≢ donor → block_at old q ≡ Some l → operations_after old (moves_to donee moved) l.operations ≡ l.operations = λ q l ne there.
      list q l there ∙ all_left (operations_in old donor) l.operations (λ p a b.
      let j = has_at l.operations p a in let k = has_at (operations_in old donor) p b in
      ne (lists.operations_once p q donor j.0 k.0 (ap (λ xs. slice_get xs j.0) (in_record old lists q l there) ∙ j.1) k.1).0) in
      let at_end : (q : Ptr BasicBlock) (s : Bool) → same_block q donee ≡ s → roots (cond (same_block q donee) moved end) ≡ roots (cond s moved end) = λ q s e. ap (λ x. roots (cond x moved end)) e in
      rewritten_tree old new op (moves_to donee moved) (record {
        operations = λ p v s there. (v, appends.operations p ∙ there, refl, refl);
        regions = λ r v s there. (v, appends.regions r ∙ there, sym (all_blocks old lists (moves_to donee moved) (λ x l. refl) r v there));
        blocks = λ q v s there. ⊎_elim
            (λ (same : q ≡ donee).
            let here : block_at old donee ≡ Some v = ap (block_at old) (sym same) ∙ there in (
              record v { operations = v.operations ++ operations_in old donor },
              ap (block_at new) same ∙ appends.donee_edited ∙ ap (option_map (λ (x : BlockView B). record x { operations = x.operations ++ operations_in old donor })) here,
              refl,
              (let a : operations_after old (moves_to donee moved) v.operations ≡ v.operations = left q v (λ e. can.0 (sym same ∙ e)) there in
                  let b : roots (cond (same_block q donee) moved end) ≡ operations_in old donor = at_end q true (block_yes q donee same) ∙ named in
                  sym (λ i. a i ++ b i)),
            ))
            (λ (other : q ≢ donee). ⊎_elim
            (λ (same : q ≡ donor).
            let here : block_at old donor ≡ Some v = ap (block_at old) (sym same) ∙ there in (
              record v { operations = [] },
              ap (block_at new) same ∙ appends.donor_edited ∙ ap (option_map (λ (x : BlockView B). record x { operations = [] })) here,
              refl,
              (let a : operations_after old (moves_to donee moved) v.operations ≡ [] = list q v there ∙ none_left (operations_in old donor) v.operations (λ p h. subst (Has p) (sym (in_record old lists donor v here)) h) in
                  let b : roots (cond (same_block q donee) moved end) ≡ [] = at_end q false (block_no q donee other) in
                  sym (λ i. a i ++ b i)),
            ))
            (λ (third : q ≢ donor). (
              v,
              appends.others q other third ∙ there,
              refl,
              (let a : operations_after old (moves_to donee moved) v.operations ≡ v.operations = left q v third there in
                  let b : roots (cond (same_block q donee) moved end) ≡ [] = at_end q false (block_no q donee other) in
                  sym ((λ i. a i ++ b i) ∙ append-nil v.operations)),
            ))
            (same_or_not q donor))
            (same_or_not q donee);
        around = λ p v q l s e i there. (no_operations, no_operations);
        ends = λ q v s there. (no_operations, by (same_block q donee) there_now);
      }) t
    where
      by : (s : Bool) → AreTree new Operations (roots moved) moved → AreTree new Operations (roots (cond s moved end)) (cond s moved end)
      by true h = h
      by false h = no_operations

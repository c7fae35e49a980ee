-- Deciding leaves a tree as it is exactly where no branch is decided.
use Rattle.std.proofs.Common.{◌≡◌, inl, inr, ⊎_elim, ℕ, true, false, List, [], Option, Some, None, refl, sym, ap, ◌∙◌, subst}
use Rattle.std.specs.Prelude.{not, ◌&&◌, if◌then◌else◌}
use Rattle.ir_program.specs.Program.{Program, OperationView, operation_at}
use Rattle.ir_program.specs.declared.handles.Ptr.{Ptr}
use Rattle.ir_program.specs.declared.handles.Operation.{Operation}
use Rattle.ir_trees.specs.Names.{Names, Contents}
use Rattle.ir_trees.specs.Searched.{Lists}
use Rattle.ir_trees.specs.Stands.{by_handle, in_program, ProgramHead, ProgramTree, head_of, StandsFor}
use Rattle.ir_trees.specs.Trees.{Sort, Operations, Blocks, Regions, Tree, end, operation, block, region}
use Rattle.ir_trees.proofs.Members.{has_front, has_back, has_either}
use Rattle.opt_trees.specs.Dce.{TreeSurroundings}
use Rattle.opt_trees.specs.Dialect.{Dialect, Lawful}
use Rattle.opt_trees.specs.Occurrences.{Has, Inside, Occurrence, inner, next_block, next_region, at_root, occurrences_in, occurrences_of}
use Rattle.opt_trees.specs.Simplify.{is_bare, along_edge, decide, decide_head}
use Rattle.opt_inside.specs.Around.{CanTellTaken, SaysAround}
use Rattle.opt_inside.specs.Occurring.{Found, IsBelowRoot, IsFound, IsOccurrence}
use Rattle.opt_decide.specs.Phase.{HasNoneDecided}
use Rattle.opt_decide.specs.Planned.{AreDecisions, known_alone, picked_edge, decided_edge}
use Rattle.opt_decide.specs.declared.plan.Decision.{Decision}
use Rattle.opt_decide.proofs.Carried.{bare_branch, both_true}
use Rattle.opt_decide.proofs.Folded.{something, same_some}
use Rattle.opt_decide.proofs.SaidAround.{HasValues, around_root, says_known, alike_operands}
use Rattle.opt_decide.proofs.TurnedHeads.{head_stays, head_turned}

module _ {N : Names} {S : Contents} {A : Type 0} (d : Dialect S A) (alone : N.value → Option A) where
  -- deciding leaves the head of an operation
  abbrev pub IsLeft : Occurrence N S → Type 0
  IsLeft o = decide_head d alone o.head o.regions ≡ o.head

  pub tree_left : (s : Sort) (t : Tree N S s) (i : Inside N S s) → ((o : Occurrence N S) → Has o (occurrences_in t i) → IsLeft o) → decide d alone t ≡ t
  tree_left _ end i left = refl
  tree_left _ (operation h rs rest) i left =
      let first = left (record { site = i; head = h; regions = rs }) (inl refl) in
      let within = tree_left Regions rs (inner h i) (λ o g. left o (inr (has_front (occurrences_in rs (inner h i)) (occurrences_in rest i) o g))) in
      let behind = tree_left Operations rest i (λ o g. left o (inr (has_back (occurrences_in rs (inner h i)) (occurrences_in rest i) o g))) in
      λ j. operation (first j) (within j) (behind j)
  tree_left _ (block l ops rest) i left =
      let within = tree_left Operations ops (record { spot = i; label = l }) (λ o g. left o (has_front (occurrences_in ops (record { spot = i; label = l })) (occurrences_in rest (next_block i)) o g)) in
      let behind = tree_left Blocks rest (next_block i) (λ o g. left o (has_back (occurrences_in ops (record { spot = i; label = l })) (occurrences_in rest (next_block i)) o g)) in
      λ j. block l (within j) (behind j)
  tree_left _ (region bs rest) i left =
      let within = tree_left Blocks bs i (λ o g. left o (has_front (occurrences_in bs i) (occurrences_in rest (next_region i)) o g)) in
      let behind = tree_left Regions rest (next_region i) (λ o g. left o (has_back (occurrences_in bs i) (occurrences_in rest (next_region i)) o g)) in
      λ j. region (within j) (behind j)

  pub head_left : (s : Sort) (t : Tree N S s) (i : Inside N S s) → decide d alone t ≡ t → (o : Occurrence N S) → Has o (occurrences_in t i) → IsLeft o
  head_left _ end i same o has = absurd has
  head_left _ (operation h rs rest) i same o has =
      let first : decide_head d alone h rs ≡ h = cc in
      let within : decide d alone rs ≡ rs = cc in
      let behind : decide d alone rest ≡ rest = cc in
      ⊎_elim
      (λ (e : o ≡ record { site = i; head = h; regions = rs }). subst IsLeft (sym e) first)
      (λ more. ⊎_elim (head_left Regions rs (inner h i) within o) (head_left Operations rest i behind o) (has_either (occurrences_in rs (inner h i)) (occurrences_in rest i) o more))
      has
  head_left _ (block l ops rest) i same o has =
      let within : decide d alone ops ≡ ops = cc in
      let behind : decide d alone rest ≡ rest = cc in
      ⊎_elim (head_left Operations ops (record { spot = i; label = l }) within o) (head_left Blocks rest (next_block i) behind o)
      (has_either (occurrences_in ops (record { spot = i; label = l })) (occurrences_in rest (next_block i)) o has)
  head_left _ (region bs rest) i same o has =
      let within : decide d alone bs ≡ bs = cc in
      let behind : decide d alone rest ≡ rest = cc in
      ⊎_elim (head_left Blocks bs i within o) (head_left Regions rest (next_region i) behind o) (has_either (occurrences_in bs i) (occurrences_in rest (next_region i)) o has)

module _ {O B A : Type 0} (d : Dialect (in_program O B) A) (c : Program O B) (op : Ptr Operation) (ds : List Decision) (are : AreDecisions d c op ds) where
  undecided_edge : ds ≡ [] → (p : Ptr Operation) → IsBelowRoot c op p → decided_edge d c p ≡ None
  undecided_edge e p low = by_edge (decided_edge d c p) refl where
    by_edge : (o : Option ℕ) → decided_edge d c p ≡ o → o ≡ None
    by_edge None is = refl
    by_edge (Some i) is = let l = subst (λ z. Lists z (record { op = p; edge = i })) e (are.all p i low is) in let n = l.1 in cc

  module _ (values : HasValues c) (found : (t : ProgramTree O B) → StandsFor c op t → (o : Found O B) → Has o (occurrences_of t) → IsOccurrence c op o) where
    occurrence_left : ds ≡ [] → (w : TreeSurroundings by_handle A) → SaysAround d c op w → (o : Found O B) → IsOccurrence c op o → IsLeft d w.alone o
    occurrence_left e w says o is =
        let p = o.head.name in
        let h : ProgramHead O B = head_of {B = B} p is.view in
        let known = alike_operands d c values op w says p is.view is.there in
        let turned : decide_head d w.alone h o.regions ≡ h =
        ap (λ xs. if is_bare d h o.regions && not (d.is_plain h.content) then along_edge d h (d.edge h.content xs) d.plain else h) known
        ∙ head_turned d c p is.view o.regions is.there is.regions
        ∙ head_stays d (picked_edge d c p) d.plain h (undecided_edge e p is.below) in
        ap (λ z. decide_head d w.alone z o.regions) is.head ∙ turned ∙ sym is.head

    pub none_decided_then : ds ≡ [] → HasNoneDecided d c op
    none_decided_then e w t says stands =
        let same = tree_left d w.alone Regions t.regions (at_root t) (λ o has. occurrence_left e w says o (found t stands o has)) in
        λ i. record { head = t.head; regions = same i }

    module _ (law : Lawful d) (x : Decision) (listed : Lists ds x) where
      -- a branch that is decided isn't left as it is
      branch_turned : (o : Found O B) → IsOccurrence c op o → o.head.name ≡ x.op → IsLeft d (known_alone d c) o → ⊥
      branch_turned o is named left =
          let p = o.head.name in
          let h : ProgramHead O B = head_of {B = B} p is.view in
          let bare = bare_branch d c x.op x.edge (are.sound x listed) in
          let plain = something d.plain bare.plain in
          let picked : picked_edge d c p ≡ Some x.edge = ap (picked_edge d c) named ∙ bare.picks in
          let goes : along_edge d h (Some x.edge) (Some plain.0) ≡ h =
          sym (head_turned d c p is.view o.regions is.there is.regions ∙ (λ i. along_edge d h (picked i) (plain.1 i)))
          ∙ ap (λ z. decide_head d (known_alone d c) z o.regions) (sym is.head) ∙ left ∙ is.head in
          let payload : plain.0 ≡ is.view.payload = ap (λ (z : ProgramHead O B). z.content) goes in
          let view : bare.view ≡ is.view = same_some bare.view is.view (sym bare.there ∙ ap (operation_at c) (sym named) ∙ is.there) in
          let one = both_true d c x.op x.edge (d.is_branch bare.view.payload) _ bare.decides in
          let two = both_true d c x.op x.edge (not (d.is_plain bare.view.payload)) _ one.1 in
          let wrong : false ≡ true = ap not (sym (law.plain_is plain.0 plain.1).0 ∙ ap d.is_plain payload ∙ ap (λ (z : OperationView O). d.is_plain z.payload) (sym view)) ∙ two.0 in
          cc

      pub some_decided_then : CanTellTaken c op → (t : ProgramTree O B) → StandsFor c op t → ((p : Ptr Operation) → IsBelowRoot c op p → IsFound t p) → HasNoneDecided d c op → ⊥
      some_decided_then told t stands all none =
          let w = around_root d c values op told in
          let same : decide d w.alone t.regions ≡ t.regions = ap (λ (z : ProgramTree O B). z.regions) (none w t (says_known d c values op told) stands) in
          let o = all x.op (are.below x listed) in
          branch_turned o.0 (found t stands o.0 o.1) o.2 (head_left d w.alone Regions t.regions (at_root t) same o.0 o.1)

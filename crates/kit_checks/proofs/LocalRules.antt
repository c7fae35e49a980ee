-- All rules that ask for no table of names, tested by each operation.
use Rattle.std.proofs.Common.{◌≡◌, ◌↔◌, IsTrue, Bool, true, false, List, [], ◌∷◌, sym, ◌∙◌, true≢false}
use Rattle.ir_program.specs.Lists.{StandsInside}
use Rattle.ir_program.specs.Preorder.{nodes_inside, AreInside}
use Rattle.ir_program.specs.Program.{Program}
use Rattle.ir_program.specs.declared.handles.IRNode.{IRNode}
use Rattle.ir_program.specs.declared.handles.IRNode.TheVariants.{Operation as OperationNode}
use Rattle.ir_program.specs.declared.handles.IRNode.TheVariants.{Region as RegionNode, BasicBlock as BlockNode}
use Rattle.ir_program.specs.declared.handles.Ptr.{Ptr}
use Rattle.ir_program.specs.declared.handles.Operation.{Operation}
use Rattle.ir_trees.specs.Stands.{ProgramTree, StandsFor}
use Rattle.opt_inside.proofs.Around.{HasLists}
use Rattle.kit_checks.specs.declared.rule.Rule.{Rule}
use Rattle.kit_checks.specs.declared.rule.Rule.TheVariants as rule
use Rattle.kit_checks.specs.Faults.{Keeps}
use Rattle.kit_checks.specs.Searching.{IsTested, KeepsLocalRules, KeptAt, TellsAllAt}
use Rattle.kit_checks.specs.Sites.{Site}
use Rattle.kit_checks.specs.World.{World}
use Rattle.kit_checks.proofs.InsideSites.{placed}
use Rattle.kit_checks.proofs.Searched.{IsKeptUpTo, search_begins, search_goes_on, search_ends, found_nowhere}

-- two tests, one behind the other: the second is made where the first holds
pub both : {P Q : Type 0} {v w out : Bool} → v ≡ true → (IsTrue v ↔ P) → (IsTrue w ↔ Q) → out ≡ w
    → IsTrue out ↔ (P × Q)
both is tells more same = rw same (λ holds. (tells.0 is, more.0 holds), λ h. more.1 h.1)

pub neither : {P Q : Type 0} {v out : Bool} → v ≡ false → (IsTrue v ↔ P) → out ≡ v → IsTrue out ↔ (P × Q)
neither is tells same = (
  λ holds. absurd (true≢false (sym holds ∙ (same ∙ is))),
  λ h. absurd (true≢false (sym (tells.1 h.0) ∙ is)),
)

module _ {O B : Type 0} (w : World O B) (s : Site O B) where
  -- the operation keeps each rule that asks for no table of names, in the order of their numbers
  abbrev pub KeepsLocal : Type 0
  KeepsLocal =
      ((((((((((Keeps w rule.RootIsModule s × Keeps w rule.FunctionHasType s) × Keeps w rule.FunctionHolds s)
      × Keeps w rule.ValuesAreIntegers s) × Keeps w rule.BlocksEnd s) × Keeps w rule.OperandsAreVisible s)
      × Keeps w rule.TypesAgree s) × Keeps w rule.EdgesFit s) × Keeps w rule.ReturnsFit s)
      × Keeps w rule.ConstantsFit s) × Keeps w rule.AttributesAreKnown s) × Keeps w rule.FitsFormat s

  each_local : KeepsLocal → (r : Rule) → IsTested r → Keeps w r s
  each_local h rule.RootIsModule tested = h.0.0.0.0.0.0.0.0.0.0.0
  each_local h rule.ModuleHolds tested = absurd tested
  each_local h rule.FunctionHasType tested = h.0.0.0.0.0.0.0.0.0.0.1
  each_local h rule.FunctionHolds tested = h.0.0.0.0.0.0.0.0.0.1
  each_local h rule.ValuesAreIntegers tested = h.0.0.0.0.0.0.0.0.1
  each_local h rule.BlocksEnd tested = h.0.0.0.0.0.0.0.1
  each_local h rule.OperandsAreVisible tested = h.0.0.0.0.0.0.1
  each_local h rule.TypesAgree tested = h.0.0.0.0.0.1
  each_local h rule.EdgesFit tested = h.0.0.0.0.1
  each_local h rule.CallsFit tested = absurd tested
  each_local h rule.ReturnsFit tested = h.0.0.0.1
  each_local h rule.ConstantsFit tested = h.0.0.1
  each_local h rule.AttributesAreKnown tested = h.0.1
  each_local h rule.FitsFormat tested = h.1

  -- a test of all of these tells of each rule that is tested
  pub all_local : (is : Bool) → (IsTrue is ↔ KeepsLocal) → IsTrue is ↔ ((r : Rule) → IsTested r → Keeps w r s)
  all_local is tells = (
    λ holds. each_local (tells.0 holds),
    λ keeps. tells.1 (
      (
        (
          (
            (
              (
                (
                  (
                    (
                      (
                        (keeps rule.RootIsModule tt, keeps rule.FunctionHasType tt),
                        keeps rule.FunctionHolds tt,
                      ),
                      keeps rule.ValuesAreIntegers tt,
                    ),
                    keeps rule.BlocksEnd tt,
                  ),
                  keeps rule.OperandsAreVisible tt,
                ),
                keeps rule.TypesAgree tt,
              ),
              keeps rule.EdgesFit tt,
            ),
            keeps rule.ReturnsFit tt,
          ),
          keeps rule.ConstantsFit tt,
        ),
        keeps rule.AttributesAreKnown tt,
      ),
      keeps rule.FitsFormat tt,
    ),
  )

module _ {O B : Type 0} (w : World O B) (c : Program O B) (root : Ptr Operation) where
  -- what is answered of an entity says of each rule whether it is kept there
  kept_at : (e : IRNode) (is : Bool) → is ≡ true → TellsAllAt w c root e is → (r : Rule) → IsTested r
      → KeptAt w c root r e
  kept_at (OperationNode op) is holds tells r tested = λ s at. (tells s at).0 holds r tested
  kept_at (BlockNode b) is holds tells r tested = tt
  kept_at (RegionNode b) is holds tells r tested = tt

  -- these are left of all inside the root, and those that were seen keep each rule
  abbrev pub AreKeptUpTo : List IRNode → Type 0
  AreKeptUpTo left = (r : Rule) → IsTested r → IsKeptUpTo w c root r left

  pub walk_begins : (left : List IRNode) → left ≡ nodes_inside c (OperationNode root) → AreKeptUpTo left
  walk_begins left is r tested = search_begins w c root r left is

  pub walk_goes_on : (was left : List IRNode) (e : IRNode) (is : Bool) → was ≡ e ∷ left → is ≡ true
      → TellsAllAt w c root e is → AreKeptUpTo was → AreKeptUpTo left
  walk_goes_on was left e is next holds tells kept r tested =
      search_goes_on w c root r was left e next (kept_at e is holds tells r tested) (kept r tested)

  module _ (lists : HasLists c) where
    pub all_kept : AreInside c (OperationNode root) (nodes_inside c (OperationNode root)) → (left : List IRNode)
        → left ≡ [] → AreKeptUpTo left → KeepsLocalRules w c root
    all_kept inside left none kept r tested =
        found_nowhere w c root r inside lists (search_ends w c root r left none (kept r tested))

    -- where a rule is broken by an entity inside the root, not all are kept
    pub not_all_kept : (t : ProgramTree O B) → StandsFor c root t → (e : IRNode) → StandsInside c (OperationNode root) e
        → (is : Bool) → is ≡ false → TellsAllAt w c root e is → KeepsLocalRules w c root → ⊥
    not_all_kept t stands (OperationNode op) inside is fails tells kept =
        let p = placed c lists root t stands op inside in
        true≢false (sym ((tells p.site p.at).1 (λ r tested. kept r tested t stands p.place p.site p.there)) ∙ fails)
    not_all_kept t stands (BlockNode b) inside is fails tells kept = true≢false (sym tells ∙ fails)
    not_all_kept t stands (RegionNode b) inside is fails tells kept = true≢false (sym tells ∙ fails)

-- What `run` reads and writes, by the programs that the bytes say.
use Rattle.std.proofs.Common.{◌≡◌, ℕ, suc, ◌+◌, List, [], ◌∷◌, map, sym, ap, ◌∙◌, subst}
use Rattle.ir_forest.specs.Closed.{IsSameModule, unlabelled}
use Rattle.ir_print.specs.Pieces.{Entity}
use Rattle.ir_program.specs.declared.handles.Operation.{Operation}
use Rattle.ir_program.specs.declared.handles.Ptr.{Ptr}
use Rattle.ir_trees.specs.Stands.{StandsFor}
use Rattle.kit.specs.Context.{KitContext, KitTree}
use Rattle.kit_behaviour.specs.Laws.{AlikeWithin}
use Rattle.kit_behaviour.specs.Machine.{FunctionsByPath}
use Rattle.kit_behaviour.specs.PassLists.{Goal, IsAfter, SameFaces}
use Rattle.kit_behaviour.specs.Places.{Place}
use Rattle.kit_ruled_views.specs.Operations.{operations_below}
use Rattle.kit_ruled_views.proofs.programs.FunctionSizes.{one_pass}
use Rattle.kit_optimiser.specs.Programs.{PassedPrograms}
use Rattle.kit_optimiser.specs.Passed.{pass_of}
use Rattle.kit_ops.specs.declared.pass.KitPass.{KitPass}
use Rattle.kit_text_programs.specs.Laws.{TextsHaveOneProgram}
use Rattle.irkit_running.specs.Lists.{IsWrittenAs}
use Rattle.irkit_driver.specs.Programs.{AreRun, HasProgram, operations_said, SaysProgram}
use Rattle.irkit_refusals.specs.Texts.{HoldsText, IsAcceptedAs}
use Rattle.irkit_driver.proofs.CutLemmas.{one_said}
use Rattle.irkit_driver.proofs.ModuleLemmas.{accepted_module, has_program, module_fit, module_within}

-- what bytes are accepted as has a program
pub some_program : (numbered : List ℕ → ℕ) (bytes : List ℕ) (s : KitContext) (root : Ptr Operation)
    → IsAcceptedAs bytes s root → (p : FunctionsByPath Place) × SaysProgram numbered bytes p
some_program numbered bytes s root said =
    let p = has_program s numbered said.0.holds.tree (accepted_module bytes s root said) in
    (p.0, record { context = s; root = root; accepted = said; is = p.1 })

module _ (law : TextsHaveOneProgram) (numbered : List ℕ → ℕ) where
  -- trees that stand for texts that are the same but for labels have one program
  one_of_texts : (text other : Entity ℕ) → IsSameModule text other → (s z : KitContext) (root there : Ptr Operation)
      (h : HoldsText text s root) (k : HoldsText other z there) (t u : KitTree) → StandsFor s.program root t
      → StandsFor z.program there u → (p q : FunctionsByPath Place) → HasProgram s numbered t p → HasProgram z numbered u q
      → p ≡ q
  one_of_texts text other same s z root there h k t u tree trees p q is was =
      law text other numbered s z root there h.numbering k.numbering t u p q same h.distinct k.distinct h.stands k.stands
      tree trees is was

  -- bytes have one program
  pub one_program : (bytes : List ℕ) (p q : FunctionsByPath Place) → SaysProgram numbered bytes p
      → SaysProgram numbered bytes q → p ≡ q
  one_program bytes p q a b =
      let x = a.accepted.0 in
      let y = b.accepted.0 in
      one_of_texts x.text y.text (ap unlabelled (one_said bytes x.text y.text x.says_it y.says_it)) a.context b.context
      a.root b.root x.holds y.holds x.holds.tree y.holds.tree x.holds.is_tree y.holds.is_tree p q a.is b.is

module _ (law : TextsHaveOneProgram) (passes : List KitPass) (bytes text : List ℕ) (p q : FunctionsByPath Place)
    (h : AreRun passes bytes text p q) where
  -- the programs of the module that was read, and of what the passes left of it
  abbrev pub given : PassedPrograms (map pass_of passes) h.gives.before h.gives.gives.after h.gives.root h.numbered
  given = h.gives.gives.programs h.numbered h.numbering

  first_same : given.first ≡ p
  first_same =
      let x = h.gives.accepted.0 in
      let y = h.first.accepted.0 in
      one_of_texts law h.numbered x.text y.text (ap unlabelled (one_said bytes x.text y.text x.says_it y.says_it))
      h.gives.before h.first.context h.gives.root h.first.root x.holds y.holds given.before y.holds.tree
      given.is_first.stands y.holds.is_tree given.first p given.is_first.is h.first.is

  last_same : given.last ≡ q
  last_same =
      let x : IsWrittenAs h.gives.gives.after h.gives.root text = h.gives.gives.written in
      let y = h.last.accepted.0 in
      let same : IsSameModule x.tree y.text =
      sym x.same ∙ ap unlabelled (one_said text x.again y.text x.accepted.says_it y.says_it) in
      one_of_texts law h.numbered x.tree y.text same h.gives.gives.after h.last.context h.gives.root h.last.root x.holds
      y.holds given.after y.holds.tree given.is_last.stands y.holds.is_tree given.last q given.is_last.is h.last.is

  -- what is so of those is so of these
  pub moved : (P : FunctionsByPath Place → FunctionsByPath Place → Type 0) → P given.first given.last → P p q
  moved P x = subst (λ z. P z q) first_same (subst (P given.first) last_same x)

  pub run_alike : (c : ℕ) × AlikeWithin c p q
  run_alike = (given.factor, moved (AlikeWithin given.factor) given.alike)

  pub run_goal : Goal (map pass_of passes) p q
  run_goal = moved (Goal (map pass_of passes)) given.goal

  pub run_faces : SameFaces p q
  run_faces = moved SameFaces given.faces

  run_after : IsAfter (map pass_of passes) p q
  run_after = moved (IsAfter (map pass_of passes)) given.passed

pub run_bound : TextsHaveOneProgram → (pass : KitPass) (bytes text : List ℕ) (p q : FunctionsByPath Place)
    (h : AreRun (pass ∷ []) bytes text p q)
    → AlikeWithin (suc (operations_said h.first + operations_said h.last)) p q
run_bound law pass bytes text p q h =
    let t = h.first.accepted.0.holds.tree in
    let u = h.last.accepted.0.holds.tree in
    one_pass (pass_of pass) p q (operations_below t) (operations_below u)
    (module_fit h.first.context h.numbered t p
    (accepted_module bytes h.first.context h.first.root h.first.accepted) h.first.is).rules
    (run_after law (pass ∷ []) bytes text p q h) (module_within h.first.context h.numbered t p h.first.is)
    (module_within h.last.context h.numbered u q h.last.is)

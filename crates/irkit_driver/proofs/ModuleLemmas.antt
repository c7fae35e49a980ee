-- Lists of passes on modules that keep the rules, by the programs before and after.
use Rattle.std.proofs.Common.{◌≡◌, ℕ, suc, ◌+◌, List, [], ◌∷◌, ◌++◌, map, refl, sym, ap, ◌∙◌, subst}
use Rattle.ir_program.specs.Program.{type_at}
use Rattle.ir_program.specs.Replacing.{same_value}
use Rattle.ir_program.specs.declared.handles.Operation.{Operation}
use Rattle.ir_program.specs.declared.handles.Ptr.{Ptr}
use Rattle.ir_trees.specs.Stands.{by_handle}
use Rattle.ir_types.specs.Interned.{key_at}
use Rattle.kit.specs.Context.{KitContext, KitTree}
use Rattle.kit.specs.Lawful.{kit_lawful}
use Rattle.kit.specs.Meaning.{kit}
use Rattle.kit_behaviour.specs.ConstantPropagation.{used_wanted, KeepsFunctionFacts, IsSccpOfFunctions, propagated}
use Rattle.kit_behaviour.specs.Facts.{FunctionFacts, AreMostPreciseFacts}
use Rattle.kit_behaviour.specs.Laws.{AlikeWithin}
use Rattle.kit_behaviour.specs.Machine.{FunctionsByPath}
use Rattle.kit_behaviour.specs.PassLists.{Pass, LeanSccpPass, Fit, Goal, IsAfter, IsPass, SameFaces}
use Rattle.kit_behaviour.specs.Places.{Place}
use Rattle.kit_behaviour.specs.Rules.{OperationsWithin}
use Rattle.kit_behaviour.proofs.Lattice.FactLemmas.{best_unique}
use Rattle.kit_behaviour.proofs.PassListLemmas.{after_alike, after_faces, after_goal, after_one, after_rules}
use Rattle.kit_behaviour.proofs.Propagation.BestFactsExist.{best_exists}
use Rattle.kit_behaviour.proofs.Propagation.FactsByPlace.{facts_stay}
use Rattle.kit_behaviour.proofs.Propagation.SecondPropagation.{lean_settles}
use Rattle.kit_ruled_views.specs.Operations.{operations_below}
use Rattle.kit_ruled_views.proofs.programs.FitPrograms.{fit_program}
use Rattle.kit_ruled_views.proofs.programs.FunctionSizes.{one_pass, program_within}
use Rattle.kit_ruled_views.proofs.programs.ListsOnTrees.{is_after, list_on}
use Rattle.kit_ruled_views.proofs.programs.ProgramsOfTrees.{program_exists}
use Rattle.kit_ruled_views.proofs.programs.RuledSound.{ruled_sound}
use Rattle.kit_ruled_views.proofs.programs.SoundFlat.{sound_flat}
use Rattle.kit_optimiser.specs.Functions.{function_content}
use Rattle.kit_optimiser.proofs.HandlesTold.{handles_told}
use Rattle.kit_optimiser.proofs.HeadsKept.{list_keeps}
use Rattle.kit_optimiser.specs.Passed.{pass_of}
use Rattle.kit_ops.specs.declared.pass.KitPass.{KitPass}
use Rattle.kit_ops.specs.declared.pass.KitPass.TheVariants.{Sccp}
use Rattle.kit_ruled_views.specs.Ruled.{type_or_first}
use Rattle.kit_ruled_views.proofs.HandleSameness.{values_apart}
use Rattle.opt_trees.proofs.FactsKept.{facts_kept}
use Rattle.opt_trees.proofs.Lists.{map-append}
use Rattle.irkit_driver.specs.Facts.{SecondSccpSettles, TreeFactsStay}
use Rattle.irkit_driver.specs.Programs.{ArePassed, HasProgram, IsMadeBy, IsModule}
use Rattle.irkit_refusals.specs.Texts.{IsAcceptedAs}

-- what bytes are accepted as is a module that keeps the rules
pub accepted_module : (bytes : List ℕ) (s : KitContext) (root : Ptr Operation) (said : IsAcceptedAs bytes s root)
    → IsModule s said.0.holds.tree
accepted_module bytes s root said = record {
  rules = said.1 said.0.holds.tree said.0.holds.is_tree;
  names = said.0.holds.names;
  types = said.0.holds.types.inside;
}

-- a module has a program
pub has_program : (s : KitContext) (numbered : List ℕ → ℕ) (t : KitTree) → IsModule s t
    → (p : FunctionsByPath Place) × HasProgram s numbered t p
has_program s numbered t ruled =
    let leads = key_at s.types in
    let typed = type_at s.program in
    let sound = ruled_sound leads typed t ruled.rules numbered ruled.names ruled.types in
    program_exists {N = by_handle} same_value leads numbered t
    (sound_flat {N = by_handle} leads numbered (type_or_first typed) t sound)

-- which is fit
pub module_fit : (s : KitContext) (numbered : List ℕ → ℕ) (t : KitTree) (p : FunctionsByPath Place) → IsModule s t
    → HasProgram s numbered t p → Fit p
module_fit s numbered t p ruled is =
    fit_program (key_at s.types) (type_at s.program) numbered same_value t p values_apart ruled.rules is ruled.names
    ruled.types

-- and whose functions have no more operations than the module
pub module_within : (s : KitContext) (numbered : List ℕ → ℕ) (t : KitTree) (p : FunctionsByPath Place)
    → HasProgram s numbered t p → OperationsWithin (operations_below t) p
module_within s numbered t p is = program_within {N = by_handle} same_value (key_at s.types) numbered t p is

-- what passes make of it has a program too
pub have_programs : (passes : List KitPass) (s : KitContext) (numbered : List ℕ → ℕ) (t u : KitTree) → IsModule s t
    → IsMadeBy passes s numbered t u → (p : FunctionsByPath Place) × (q : FunctionsByPath Place) × ArePassed passes t u p q
have_programs passes s numbered t u ruled made =
    let p = has_program s numbered t ruled in
    let q = list_on {N = by_handle} handles_told (key_at s.types) numbered (map pass_of passes) t u p.0 made p.1 in (
      p.0,
      q.0,
      record { context = s; is_module = ruled; numbered = numbered; made = made; first = p.1; last = q.1 },
    )

module _ (passes : List KitPass) (t u : KitTree) (p q : FunctionsByPath Place) (h : ArePassed passes t u p q) where
  fit : Fit p
  fit = module_fit h.context h.numbered t p h.is_module h.first

  after : IsAfter (map pass_of passes) p q
  after = is_after {N = by_handle} handles_told (key_at h.context.types) h.numbered (map pass_of passes) t u p q h.made
      h.first h.last

  pub alike : (c : ℕ) × AlikeWithin c p q
  alike = after_alike (map pass_of passes) p q fit after

  pub faces : SameFaces p q
  faces = after_faces (map pass_of passes) p q fit.rules after

  pub content : (path : List ℕ) → function_content h.numbered path u ≡ function_content h.numbered path t
  content path = list_keeps {N = by_handle} (key_at h.context.types) h.numbered (map pass_of passes) t u h.made path

  pub goal : Goal (map pass_of passes) p q
  goal = after_goal (map pass_of passes) p q fit.rules after

  pub facts_exist : (path : List ℕ) → (k : FunctionFacts Place) × AreMostPreciseFacts (q path) k
  facts_exist path = best_exists (q path) (after_rules (map pass_of passes) p q fit.rules after path)

pub bound : (pass : KitPass) (t u : KitTree) (p q : FunctionsByPath Place) → ArePassed (pass ∷ []) t u p q
    → AlikeWithin (suc (operations_below t + operations_below u)) p q
bound pass t u p q h =
    one_pass (pass_of pass) p q (operations_below t) (operations_below u) (fit (pass ∷ []) t u p q h).rules
    (after (pass ∷ []) t u p q h) (module_within h.context h.numbered t p h.first)
    (module_within h.context h.numbered u q h.last)

-- constant propagation on one program
propagation : (t u : KitTree) (p q : FunctionsByPath Place) → ArePassed (Sccp ∷ []) t u p q → IsSccpOfFunctions used_wanted p q
propagation t u p q h = let made = after (Sccp ∷ []) t u p q h in subst (IsSccpOfFunctions used_wanted p) made.2 made.1

pub facts_are_kept : (t u : KitTree) (p q : FunctionsByPath Place) → ArePassed (Sccp ∷ []) t u p q → (path : List ℕ)
    (k l : FunctionFacts Place) → AreMostPreciseFacts (p path) k → AreMostPreciseFacts (q path) l → KeepsFunctionFacts used_wanted (p path) k l
facts_are_kept t u p q h path k l best best_after =
    let made = propagation t u p q h in
    let one = best_unique (p path) (made.facts path) k (made.best path) best in
    let same : q path ≡ propagated used_wanted (p path) k =
    made.is path ∙ ap (propagated used_wanted (p path)) one in
    facts_stay used_wanted (p path) k l ((fit (Sccp ∷ []) t u p q h).rules path) best
    (subst (λ f. AreMostPreciseFacts f l) same best_after)

pub tree_facts_stay : TreeFactsStay
tree_facts_stay w t after k l made best best_after = facts_kept kit w t after k l kit_lawful made best best_after

-- what a list of passes makes, in two parts
parts : (xs ys : List Pass) (p r : FunctionsByPath Place) → IsAfter (xs ++ ys) p r
    → (n : FunctionsByPath Place) × IsAfter xs p n × IsAfter ys n r
parts [] ys p r h = (p, refl, h)
parts (x ∷ xs) ys p r h = let m = parts xs ys h.0 r h.2 in (m.0, (h.0, h.1, m.1), m.2)

pub second_settles : SecondSccpSettles
second_settles passes t u v p q r one two =
    let xs = map pass_of passes in
    let a = parts xs (LeanSccpPass ∷ []) p q
    (subst (λ l. IsAfter l p q) (map-append pass_of passes (Sccp ∷ [])) (after (passes ++ Sccp ∷ []) t u p q one)) in
    let b = parts xs (LeanSccpPass ∷ LeanSccpPass ∷ []) p r
    (subst (λ l. IsAfter l p r) (map-append pass_of passes (Sccp ∷ Sccp ∷ []))
    (after (passes ++ Sccp ∷ Sccp ∷ []) t v p r two)) in
    let rules = (fit (passes ++ Sccp ∷ []) t u p q one).rules in
    let begins : b.0 ≡ a.0 = after_one xs p b.0 a.0 rules b.1 a.1 in
    let first : IsAfter (LeanSccpPass ∷ LeanSccpPass ∷ []) a.0 r =
    subst (λ z. IsAfter (LeanSccpPass ∷ LeanSccpPass ∷ []) z r) begins b.2 in
    let kept = after_rules xs p a.0 rules a.1 in
    let once : first.0 ≡ q = after_one (LeanSccpPass ∷ []) a.0 first.0 q kept (first.0, first.1, refl) a.2 in
    let again : IsAfter (LeanSccpPass ∷ []) first.0 r = first.2 in
    sym again.2 ∙ lean_settles a.0 first.0 again.0 kept first.1 again.1 ∙ once

-- What the pass answers, by whether the plan takes something.
use Rattle.std.proofs.Common.{◌≡◌, ◌↔◌, ℕ, zero, suc, Bool, true, false, not, ◌||◌, IsTrue, List, [], ◌∷◌, length, Some, slice_get, refl, sym, ap, ◌∙◌, subst, arith}
use Rattle.std.specs.List.{list_any}
use Rattle.ir_program.specs.Program.{Program}
use Rattle.ir_program.specs.declared.handles.Ptr.{Ptr}
use Rattle.ir_program.specs.declared.handles.Operation.{Operation}
use Rattle.ir_trees.specs.Searched.{Lists}
use Rattle.ir_trees.specs.Stands.{by_handle, in_program, ProgramTree, StandsFor}
use Rattle.opt_trees.specs.Dialect.{Dialect}
use Rattle.opt_trees.specs.Dce.{TreeSurroundings, Gone, IsGoneExactly}
use Rattle.opt_dialect.specs.declared.status.IRStatus.TheVariants.{Unchanged, Changed}
use Rattle.opt_handles.specs.Handles.{KeepsHandles}
use Rattle.opt_dce.specs.liveness.Plans.{IsPlan, UsesGo, IsDeadPlan}
use Rattle.opt_dce.specs.declared.liveness.plan.DeadPlan.{DeadPlan}
use Rattle.opt_dce.specs.declared.liveness.plan.DeadArguments.{DeadArguments}
use Rattle.opt_dce.specs.Steps.{GoesBelowRoot}
use Rattle.opt_dce.specs.Thins.{TakesOut, IsIdle, IsOutcome, thinned_root}

module _ {O B A : Type 0} (d : Dialect (in_program O B) A) (c : Program O B) (op : Ptr Operation) (plan : DeadPlan) where
  module _ (t : ProgramTree O B) (stands : StandsFor c op t) (dead : IsDeadPlan d c op plan t) where
    pub same_outcome : thinned_root d dead.gone t ≡ t → IsOutcome d c c op t Unchanged
    same_outcome same = record {
      made = record {
        around = dead.around;
        pins = dead.pins;
        after = thinned_root d dead.gone t;
        dce = record { gone = dead.gone; is_gone = dead.is_gone stands; is = refl };
        stands = subst (StandsFor c op) (sym same) stands;
        outside = record { operations = λ p v out there. there; blocks = λ b v out there. there; regions = λ r v out there. there };
        none_come = λ p live out. (live, out);
      };
      exact = (λ e. same, λ e. refl);
    }

    pub other_outcome : (new : Program O B) → TakesOut d c new op dead.gone t → (thinned_root d dead.gone t ≡ t → Changed ≡ Unchanged) → IsOutcome d c new op t Changed
    other_outcome new takes other = record {
      made = record {
        around = dead.around;
        pins = dead.pins;
        after = thinned_root d dead.gone t;
        dce = record { gone = dead.gone; is_gone = dead.is_gone stands; is = refl };
        stands = takes.stands;
        outside = takes.outside;
        none_come = takes.none_come;
      };
      exact = (λ e. cc, other);
    }

-- some element passes a test
passing : {X : Type 0} (test : X → Bool) (xs : List X) → list_any test xs ≡ true → (x : X) × Lists xs x × (test x ≡ true)
passing test [] h = let f : false ≡ true = h in cc
passing test (x ∷ xs) h = by_case (test x) refl h (passing test xs) where
  by_case : (b : Bool) → test x ≡ b → (b || list_any test xs) ≡ true → (list_any test xs ≡ true → (y : _) × Lists xs y × (test y ≡ true)) → (y : _) × Lists (x ∷ xs) y × (test y ≡ true)
  by_case true e h ih = (x, (zero, refl), e)
  by_case false e h ih = let r = ih h in (r.0, (suc r.1.0, r.1.1), r.2)

passes : {X : Type 0} (test : X → Bool) (xs : List X) (k : ℕ) (x : X) → slice_get xs k ≡ Some x → test x ≡ true → list_any test xs ≡ true
passes test [] k x h passed = cc
passes test (y ∷ xs) zero x h passed = let s : Some y ≡ Some x = h in let e : y ≡ x = cc in rw (ap test e ∙ passed) refl
passes test (y ∷ xs) (suc k) x h passed = rw (passes test xs k x h passed) (either (test y)) where
  either : (b : Bool) → (b || true) ≡ true
  either true = refl
  either false = refl

none_in : {X : Type 0} (xs : List X) → length xs ≡ 0 → (x : X) → Lists xs x → ⊥
none_in [] e x h = cc h.1
none_in (y ∷ xs) e x h = absurd (omega arith)

some_in : {X : Type 0} (xs : List X) → ((x : X) → Lists xs x → ⊥) → length xs ≡ 0
some_in [] none = refl
some_in (y ∷ xs) none = absurd (none y (zero, refl))

abbrev marks_some : DeadArguments → Bool
marks_some a = list_any (λ (mark : Bool). mark) a.marks.items

-- a plan of no operation is idle where no argument is marked
pub idle_then : (plan : DeadPlan) → length plan.operations.items ≡ 0 → (b : Bool) → b ≡ list_any marks_some plan.arguments.items → (IsTrue (not b) → IsIdle plan) × (IsIdle plan → IsTrue (not b))
idle_then plan empty true e = (
  λ h. let f : false ≡ true = h in cc,
  λ idle. let a = passing marks_some plan.arguments.items (sym e) in let m = passing (λ (mark : Bool). mark) a.0.marks.items a.2 in absurd (idle.arguments a.0 a.1 (m.1.0, m.1.1 ∙ ap Some m.2)),
)
idle_then plan empty false e = (
  λ h. record {
    operations = none_in plan.operations.items empty;
    arguments = λ a l m. let passed : list_any marks_some plan.arguments.items ≡ true = passes marks_some plan.arguments.items l.0 a l.1 (passes (λ (mark : Bool). mark) a.marks.items m.0 true m.1 refl) in let f : false ≡ true = e ∙ passed in cc;
  },
  λ idle. refl,
)

-- one of some operation isn't
pub idle_else : (plan : DeadPlan) (b : Bool) → b ≡ false → (length plan.operations.items ≡ 0 → b ≡ true) → (IsTrue b → IsIdle plan) × (IsIdle plan → IsTrue b)
idle_else plan b no_more empty = (λ h. let f : false ≡ true = sym no_more ∙ h in cc, λ idle. empty (some_in plan.operations.items idle.operations))

-- what is known of what is dead in an operation
pub record KnowsGone {O B A : Type 0} (d : Dialect (in_program O B) A) (c : Program O B) (op : Ptr Operation) : Type 0 where
  pub tree : (t : ProgramTree O B) × StandsFor c op t
  pub below : (t : ProgramTree O B) → StandsFor c op t → (w : TreeSurroundings by_handle A) (g : Gone by_handle) → IsGoneExactly d w t g → GoesBelowRoot c op g
  pub idle : (t : ProgramTree O B) → StandsFor c op t → (w : TreeSurroundings by_handle A) (g : Gone by_handle) → IsGoneExactly d w t g → (plan : DeadPlan) → IsPlan c g plan → IsIdle plan ↔ (thinned_root d g t ≡ t)

module _ {O B A : Type 0} (d : Dialect (in_program O B) A) (c : Program O B) (op : Ptr Operation) (plan : DeadPlan) (knows : KnowsGone d c op) (dead : (t : ProgramTree O B) → IsDeadPlan d c op plan t) where
  -- what goes, by the tree that the operation stands for
  pub some_gone : (g : Gone by_handle) × IsPlan c g plan × UsesGo c g × GoesBelowRoot c op g
  some_gone =
      let t = knows.tree.0 in
      let stands = knows.tree.1 in
      ((dead t).gone, (dead t).plan_of, (dead t).uses, knows.below t stands (dead t).around (dead t).gone ((dead t).is_gone stands))

  module _ (t : ProgramTree O B) (stands : StandsFor c op t) where
    idle_is : IsIdle plan ↔ (thinned_root d (dead t).gone t ≡ t)
    idle_is = knows.idle t stands (dead t).around (dead t).gone ((dead t).is_gone stands) plan (dead t).plan_of

    pub nothing_made : IsIdle plan → IsOutcome d c c op t Unchanged
    nothing_made idle = same_outcome d c op plan t stands (dead t) (idle_is.0 idle)

    pub something_kept : (new : Program O B)
        → ((g : Gone by_handle) → IsPlan c g plan → UsesGo c g → GoesBelowRoot c op g → (u : ProgramTree O B) → StandsFor c op u → TakesOut d c new op g u)
        → KeepsHandles c new op
    something_kept new takes =
        (takes (dead t).gone (dead t).plan_of (dead t).uses (knows.below t stands (dead t).around (dead t).gone ((dead t).is_gone stands)) t stands).handles

    pub something_made : (new : Program O B) → (IsIdle plan → ⊥)
        → ((g : Gone by_handle) → IsPlan c g plan → UsesGo c g → GoesBelowRoot c op g → (u : ProgramTree O B) → StandsFor c op u → TakesOut d c new op g u)
        → IsOutcome d c new op t Changed
    something_made new busy takes =
        other_outcome d c op plan t stands (dead t) new
        (takes (dead t).gone (dead t).plan_of (dead t).uses (knows.below t stands (dead t).around (dead t).gone ((dead t).is_gone stands)) t stands)
        (λ e. absurd (busy (idle_is.1 e)))

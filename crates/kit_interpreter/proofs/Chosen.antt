-- Names of the values of all functions, from names of the values of each.
use Rattle.std.proofs.Common.{◌≡◌, ℕ, ◌<◌, List, length, Option, Some, None, slice_get, nat_eq, refl, sym, subst, arith}
use Rattle.std.proofs.lemmas.Option.{same_Some, none-some}
use Rattle.ir_program.specs.Replacing.{same_value}
use Rattle.ir_program.specs.declared.handles.Ptr.{Ptr}
use Rattle.ir_program.specs.declared.handles.Operation.{Operation}
use Rattle.ir_program.specs.declared.handles.BasicBlock.{BasicBlock}
use Rattle.ir_program.specs.declared.handles.Value.{Value}
use Rattle.kit.specs.Context.{KitContext}
use Rattle.kit_flat.specs.Machine.{run, start}
use Rattle.kit_flat.specs.View.{flat_code}
use Rattle.kit_flat.specs.Shows.{OutcomeShows}
use Rattle.kit_flat.specs.Sound.{FlatFunctionsFit, FunctionFits}
use Rattle.kit_flat.specs.Renames.{FlatNames, IsFunctionOf, IsModuleOf}
use Rattle.kit_flat.specs.declared.flat.FlatFunction.{FlatFunction}
use Rattle.kit_flat.specs.declared.outcome.Outcome.{Outcome}
use Rattle.kit_flat.proofs.Renamed.{run_alike, shows_alike, started_alike}
use Rattle.kit_places.specs.Numbers.{no_value, block_with, operation_with}
use Rattle.kit_places.specs.Store.{body_of, module_code}
use Rattle.kit_interpreter.specs.Lowering.{LowersModule}

module _ (s : KitContext) (m : Ptr Operation) (handles : List (Ptr Operation)) (fs : List FlatFunction)
    (l : LowersModule s m handles fs) where
  abbrev pick : (i : ℕ) (o : Option FlatFunction) → slice_get fs i ≡ o → ℕ → Value
  pick i None e = λ v. no_value
  pick i (Some f) e = (l.each i f e).0

  abbrev names : FlatNames Value (Ptr BasicBlock) (Ptr Operation)
  names = record {
    function = operation_with handles;
    block = λ i. block_with (body_of s.program (operation_with handles i));
    value = λ i. pick i (slice_get fs i) refl;
  }

  picked : (i : ℕ) (o : Option FlatFunction) (e : slice_get fs i ≡ o) (f : FlatFunction) → o ≡ Some f
      → IsFunctionOf same_value (module_code s m) (operation_with handles) (operation_with handles i)
      (block_with (body_of s.program (operation_with handles i))) (pick i o e) f
  picked i None e f h = absurd (none-some f h)
  picked i (Some g) e f h =
      subst (λ (x : FlatFunction). IsFunctionOf same_value (module_code s m) (operation_with handles)
      (operation_with handles i) (block_with (body_of s.program (operation_with handles i))) ((l.each i g e).0) x)
      (same_Some g f h) (l.each i g e).1

  pub sound : FlatFunctionsFit fs
  sound = record { functions_fit = λ i f e. subst (λ (n : ℕ). FunctionFits n f) (sym l.len) (l.each i f e).2 }

  module_is : IsModuleOf same_value (module_code s m) names fs
  module_is = record { sound = sound; functions = λ i f e. picked i (slice_get fs i) refl f e }

  -- what the flat module shows is what the code shows
  pub shows : (i : ℕ) → i < length fs → (xs : List ℕ) (n : ℕ) (o : Outcome)
      → OutcomeShows (run nat_eq (flat_code fs) n (start nat_eq (flat_code fs) i xs)) o
      → OutcomeShows (run same_value (module_code s m) n
      (start same_value (module_code s m) (operation_with handles i) xs)) o
  shows i b xs n o h =
      shows_alike same_value (module_code s m) names fs module_is
      (run nat_eq (flat_code fs) n (start nat_eq (flat_code fs) i xs))
      (run same_value (module_code s m) n (start same_value (module_code s m) (operation_with handles i) xs)) o
      (run_alike same_value (module_code s m) names fs module_is n (start nat_eq (flat_code fs) i xs)
      (start same_value (module_code s m) (operation_with handles i) xs)
      (started_alike same_value (module_code s m) names fs module_is i b xs))
      h

pub ran : (s : KitContext) (within outer : Ptr Operation) (handles : List (Ptr Operation)) (fs : List FlatFunction)
    → LowersModule s outer handles fs → outer ≡ within → (f : Ptr Operation) (i : ℕ) → operation_with handles i ≡ f
    → i < length handles
    → (xs : List ℕ) (n : ℕ) (o : Outcome) → OutcomeShows
    (run nat_eq (flat_code fs) n (start nat_eq (flat_code fs) i xs)) o
    → OutcomeShows (run same_value (module_code s within) n (start same_value (module_code s within) f xs)) o
ran s within outer handles fs l e f i is b xs n o h =
    let c : i < length fs = let k = l.len in omega (arith, k, b) in
    subst (λ (m : Ptr Operation). OutcomeShows
    (run same_value (module_code s m) n (start same_value (module_code s m) f xs)) o) e
    (subst (λ (g : Ptr Operation). OutcomeShows
    (run same_value (module_code s outer) n (start same_value (module_code s outer) g xs)) o) is
    (shows s outer handles fs l i c xs n o h))

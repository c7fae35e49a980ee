-- What the laws of a program tell at the start, and what follows where all decisions or some are carried out.
use Rattle.std.proofs.Common.{◌≡◌, ℕ, zero, suc, List, [], ◌∷◌, take, Some, None, IsSome, slice_get, refl, ap}
use Rattle.std.specs.Prelude.{◌↔◌}
use Rattle.ir_program.specs.Program.{Program, operation_at}
use Rattle.ir_program.specs.declared.handles.Ptr.{Ptr}
use Rattle.ir_program.specs.declared.handles.Operation.{Operation}
use Rattle.ir_trees.specs.Searched.{Lists}
use Rattle.ir_trees.specs.Stands.{in_program, ProgramTree, StandsFor}
use Rattle.opt_trees.specs.Dialect.{Dialect, Lawful}
use Rattle.opt_trees.specs.Occurrences.{Has, occurrences_of}
use Rattle.opt_dialect.specs.declared.status.IRStatus.TheVariants.{Unchanged, Changed}
use Rattle.opt_inside.specs.Around.{CanTellTaken}
use Rattle.opt_inside.specs.Edges.{HasLocalEdgesBelow, FitsEdgesBelow}
use Rattle.opt_inside.specs.Occurring.{Found, IsBelowRoot, IsFound, IsOccurrence}
use Rattle.opt_inside.proofs.Around.{HasLists}
use Rattle.opt_decide.specs.Phase.{HasDecided, HasDecidedSome, CarriesOutPart, DecidesBranches, HasNoneDecided, maps_of}
use Rattle.opt_decide.specs.Planned.{AreDecisions}
use Rattle.opt_decide.specs.declared.plan.Decision.{Decision}
use Rattle.opt_decide.proofs.Carried.{none_decided}
use Rattle.opt_decide.proofs.EdgesDecided.{local_still, fits_still}
use Rattle.opt_decide.proofs.ExchangedNames.{exchanged, exchanged_twice, free_or_kept, kept_if, root_kept, exchanged_apart, stands_exchanged}
use Rattle.opt_decide.proofs.InsideDecided.{none_came, none_outside}
use Rattle.opt_decide.proofs.NamesDecided.{outside_kept}
use Rattle.opt_decide.proofs.NoneDecided.{none_decided_then, some_decided_then}
use Rattle.opt_decide.proofs.SaidAround.{HasValues, around_root, says_known}

pub record Ground {O B A : Type 0} (d : Dialect (in_program O B) A) (c : Program O B) (op : Ptr Operation) : Type 0 where
  pub law : Lawful d
  pub root : IsSome (operation_at c op)
  pub lists : HasLists c
  pub values : HasValues c
  pub told : CanTellTaken c op
  pub tree : (t : ProgramTree O B) × StandsFor c op t
  pub sound : (t : ProgramTree O B) → StandsFor c op t → (o : Found O B) → Has o (occurrences_of t) → IsOccurrence c op o
  pub found : (t : ProgramTree O B) → StandsFor c op t → (p : Ptr Operation) → IsBelowRoot c op p → IsFound t p

in_taken : {X : Type 0} (xs : List X) (m k : ℕ) (y : X) → slice_get (take m xs) k ≡ Some y → slice_get xs k ≡ Some y
in_taken [] zero k y h = let n : None ≡ Some y = h in absurd (cc)
in_taken [] (suc m) k y h = let n : None ≡ Some y = h in absurd (cc)
in_taken (z ∷ xs) zero k y h = let n : None ≡ Some y = h in absurd (cc)
in_taken (z ∷ xs) (suc m) zero y h = h
in_taken (z ∷ xs) (suc m) (suc k) y h = in_taken xs m k y h

module _ {O B A : Type 0} (d : Dialect (in_program O B) A) (old new : Program O B) (op : Ptr Operation) where
  -- the part that is nothing
  pub nothing_done : CarriesOutPart d old old op
  nothing_done = record {
    decisions = [];
    are = record { below = λ x l. let s = l.1 in cc; sound = λ x l. let s = l.1 in cc; once = λ j k x y g h same. cc };
    decided = none_decided d old;
  }

  -- the first of all decisions
  pub part_done : (ds : List Decision) → AreDecisions d old op ds → HasDecidedSome d old new ds → CarriesOutPart d old new op
  part_done ds are some = record {
    decisions = take some.0 ds;
    are = record {
      below = λ x l. are.below x (l.0, in_taken ds some.0 l.0 x l.1);
      sound = λ x l. are.sound x (l.0, in_taken ds some.0 l.0 x l.1);
      once = λ j k x y g h same. are.once j k x y (in_taken ds some.0 j x g) (in_taken ds some.0 k y h) same;
    };
    decided = some.1;
  }

  module _ (ground : Ground d old op) (ds : List Decision) (are : AreDecisions d old op ds) (has : HasDecided d old new ds) where
    pub branches_decided : (t : ProgramTree O B) → StandsFor old op t → DecidesBranches d old new op t
    branches_decided t stands = record {
      around = around_root d old ground.values op ground.told;
      says = says_known d old ground.values op ground.told;
      names = maps_of (exchanged d old new op ds are has);
      operations = free_or_kept d old new op ds are has;
      kept = kept_if d old new op ds are has;
      twice = exchanged_twice d old new op ds are has;
      root = root_kept d old new op ds are has ground.root;
      blocks = λ b. refl;
      values = λ v. refl;
      one_to_one = exchanged_apart d old new op ds are has t;
      stands = stands_exchanged d old new op ds are has ground.lists t stands;
      outside = outside_kept d old new op ds are has ground.lists;
      inside = none_came d old new op ds are has ground.lists ground.root;
      around_it = none_outside d old new op ds are has ground.lists ground.root;
    }

    pub edges_local : HasLocalEdgesBelow d.is_terminator old op → HasLocalEdgesBelow d.is_terminator new op
    edges_local = local_still d ground.law old new op ds are has ground.lists ground.root

    pub edges_fit : FitsEdgesBelow d old op → FitsEdgesBelow d new op
    edges_fit = fits_still d ground.law old new op ds are has ground.lists ground.root

  module _ (ground : Ground d old op) (ds : List Decision) (are : AreDecisions d old op ds) where
    pub exact_none : ds ≡ [] → (Unchanged ≡ Unchanged) ↔ HasNoneDecided d old op
    exact_none e = (λ s. none_decided_then d old op ds are ground.values ground.sound e, λ n. refl)

    pub exact_some : (ds ≡ [] → ⊥) → (Changed ≡ Unchanged) ↔ HasNoneDecided d old op
    exact_some ne = (λ s. absurd (cc), λ none. absurd (any ds refl none))
      where
        any : (xs : List Decision) → ds ≡ xs → HasNoneDecided d old op → ⊥
        any [] e none = ne e
        any (x ∷ xs) e none =
            let l : Lists ds x = (zero, ap (λ ys. slice_get ys zero) e) in
            let t = ground.tree in
            some_decided_then d old op ds are ground.values ground.sound ground.law x l ground.told t.0 t.1 (ground.found t.0 t.1) none

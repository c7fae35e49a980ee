-- Constants put into the tree of a module are constants put into its program.
use Rattle.std.proofs.Common.{◌≡◌, ℕ, zero, suc, Bool, true, false, List, Option, Some, None}
use Rattle.std.proofs.Common.{refl, sym, ap, ◌∙◌, subst}
use Rattle.std.specs.Prelude.{map, reverse, option_map}
use Rattle.ir_base.specs.declared.types.TypeHandle.{TypeHandle}
use Rattle.ir_trees.specs.Names.{Names}
use Rattle.ir_trees.specs.Renames.{IsOneToOne, rename_root}
use Rattle.ir_trees.specs.Trees.{Root}
use Rattle.opt_trees.specs.Facts.{Facts}
use Rattle.opt_trees.specs.Occurrences.{Occurrence, at_root}
use Rattle.opt_trees.specs.Sccp as trees
use Rattle.opt_trees.specs.Sccp.{fresh, put_root}
use Rattle.kit_ops.specs.declared.attributes.IntegerAttr.{IntegerAttr}
use Rattle.kit_ops.specs.declared.types.KitType.{KitType}
use Rattle.kit.specs.Meaning.{kit}
use Rattle.kit_behaviour.specs.ConstantPropagation.{used_wanted, made_of, sccp, IsSccpOfFunctions}
use Rattle.kit_behaviour.specs.Facts as flat
use Rattle.kit_behaviour.specs.InsertedConstants.{OldOrNewName, Old, New, same_name, put_in, use_of}
use Rattle.kit_behaviour.specs.Machine.{Fun, FunctionsByPath}
use Rattle.kit_behaviour.specs.Numbering.{place_fun}
use Rattle.kit_behaviour.specs.Places.{Place, same_place}
use Rattle.kit_behaviour.specs.Renaming.{rename_block, rename_fun}
use Rattle.kit_behaviour.specs.Replacement.{replace}
use Rattle.kit_behaviour.proofs.Behaviour.FrameLemmas as old
use Rattle.kit_behaviour.proofs.Lattice.RenamedFacts.{at_top}
use Rattle.kit_behaviour.proofs.Numbering.NumberingForgetsNames.{placed_renamed}
use Rattle.kit_views.specs.FlatConstants.{as_name, IsPropagatedView}
use Rattle.kit_views.specs.FlatView.{FlattensTo}
use Rattle.kit_views.specs.Reading.{kit_contents, kit_reading}
use Rattle.kit_views.proofs.FlatPropagation as views
use Rattle.kit_ruled_views.proofs.RenamedViews.{flat_under}
use Rattle.kit_ruled_views.specs.ProgramLaws.{AreTold}
use Rattle.kit_ruled_views.specs.Paths.{locate}
use Rattle.kit_ruled_views.specs.Programs.{HasFunctionView, IsProgramOf}
use Rattle.kit_ruled_views.specs.Sound.{tree_of, IsSound}
use Rattle.kit_ruled_views.specs.TreePasses.{IsSccpNamed}
use Rattle.kit_ruled_views.proofs.programs.FlatDefined.{flat_defined}
use Rattle.kit_ruled_views.proofs.programs.FlatDistinct.{flat_distinct}
use Rattle.kit_ruled_views.proofs.programs.Inside.{function_at}
use Rattle.kit_ruled_views.proofs.programs.MadeByPlace.{made_agrees}
use Rattle.kit_ruled_views.proofs.programs.NamesKept.{told_fresh, fresh_law, placed_under, one_to_one_inside}
use Rattle.kit_ruled_views.proofs.programs.PropagationByPlace.{placed_facts, placed_best, constants_placed}
use Rattle.kit_ruled_views.proofs.programs.PutLocated.{old_root, locate_put, locate_renamed, RunningFunction, running}
use Rattle.kit_ruled_views.proofs.programs.SccpInside.{function_sccp, unpinned_inside}

told_as_name : {V : Type 0} (same : V → V → Bool) (x y : OldOrNewName V) →
    told_fresh same (as_name x) (as_name y) ≡ same_name same x y
told_as_name same (Old a) (Old b) = refl
told_as_name same (New a) (New b) = refl
told_as_name same (Old a) (New b) = refl
told_as_name same (New a) (Old b) = refl

abbrev is_entry : ℕ → Bool
is_entry zero = true
is_entry (suc b) = false

-- a function that is not there has most precise facts
abbrev none_facts : flat.FunctionFacts Place
none_facts = record { runs = λ b. is_entry b; of = λ v. flat.Undetermined }

none_fewer : (l : flat.FunctionFacts Place) → flat.AreClosedFacts None l → (b : ℕ) → is_entry b ≡ true → l.runs b ≡ true
none_fewer l c zero h = c.entry_runs
none_fewer l c (suc b) h = absurd (cc h)

none_best : flat.AreMostPreciseFacts None none_facts
none_best = record {
  closed = record { entry_runs = refl; entry_unknown = tt; ops = λ b h. tt };
  best = λ l c. record { fewer = none_fewer l c; above = λ v. at_top (l.of v) };
}

module _ {N : Names} (told : AreTold N) (leads : TypeHandle → Option KitType) (numbered : List ℕ → ℕ)
    (type_at : N.value → TypeHandle) (t : Root N kit_contents) (sound : IsSound {N = N} leads numbered type_at t)
    (after : Root N kit_contents) (pass : IsSccpNamed {N = N} t after) where
  abbrev made : N.value → Option IntegerAttr
  made = pass.is.made

  abbrev facts : Facts N IntegerAttr
  facts = pass.is.facts

  abbrev out : Root N kit_contents → Root N kit_contents
  out u = rename_root {S = kit_contents} pass.names (old_root {N = N} made u)

  value_law : old.IsSameness told.value
  value_law = record { true_same = told.values.true_same; same_true = told.values.same_true }

  where_after : (path : List ℕ) → locate numbered path after ≡ option_map out (locate numbered path t)
  where_after path =
      ap (locate numbered path) (pass.same ∙ ap (rename_root {S = kit_contents} pass.names) pass.is.is)
      ∙ locate_renamed {N = fresh N} {M = N} pass.names numbered path (old_root {N = N} made t)
      ∙ ap (option_map (rename_root {S = kit_contents} pass.names)) (locate_put {N = N} made numbered path t)
      ∙ twice (locate numbered path t)
    where
      twice : (o : Option (Root N kit_contents)) →
          option_map (rename_root {S = kit_contents} pass.names) (option_map (old_root {N = N} made) o) ≡ option_map
          out o
      twice None = refl
      twice (Some u) = refl

  -- the pass on one function: its facts by places, and the function after it
  record IsFunctionAfter (o : Option (Root N kit_contents)) (p : Option (Fun Place)) : Type 0 where
    facts_placed : flat.FunctionFacts Place
    best : flat.AreMostPreciseFacts p facts_placed
    left : HasFunctionView {N = N} told.value leads numbered (option_map out o)
        (place_fun (same_name same_place) (replace (use_of (made_of used_wanted p facts_placed))
        (put_in (made_of used_wanted p facts_placed) p)))

  function_after : (o : Option (Root N kit_contents)) (p : Option (Fun Place)) →
      ((k : Root N kit_contents) → o ≡ Some k → RunningFunction {N = N} t facts pass.is.best.closed k) →
      HasFunctionView {N = N} told.value leads numbered o p → IsFunctionAfter o p
  function_after None p at is =
      record {
        facts_placed = none_facts;
        best = subst (λ z. flat.AreMostPreciseFacts z none_facts) (sym is) none_best;
        left = ap (λ z. place_fun (same_name same_place) (replace (use_of (made_of used_wanted z none_facts))
            (put_in (made_of used_wanted z none_facts) z))) is;
      }
  function_after (Some k) p at is =
      let z = at k refl in
      let o : Occurrence N kit_contents = z.it in
      let fn = function_at {N = N} leads numbered type_at t sound o z.stands z.kind in
      let g : Fun N.value = is.0 in
      let is_flat : FlattensTo (kit_reading leads numbered) (tree_of o) g =
      subst (λ y. FlattensTo (kit_reading leads numbered) y g) (sym z.is) is.1 in
      let own = function_sccp {N = N} told leads numbered type_at t sound o fn pass.around facts made pass.is.is_made pass.is.best
      z.runs in
      let prop : IsPropagatedView {N = N} leads numbered g (put_root {N = N} kit made (tree_of o)) =
      views.propagated leads numbered told.value told.values told.block told.blocks type_at pass.around (tree_of o)
      (put_root {N = N} kit made (tree_of o)) g is_flat fn.sound_function.is_typed
      (unpinned_inside {N = N} told leads numbered type_at t sound o fn pass.around pass.unpinned) own in
      let defined = flat_defined (kit_reading leads numbered) told.value value_law (tree_of o) g is_flat
      fn.sound_function.is_typed.operands in
      let by = prop.propagates in
      let rest : Fun (trees.Name N.value N.value) = map (rename_block as_name) prop.put in
      let l = placed_facts told.value value_law g defined by.facts in
      let n = made_of used_wanted (place_fun told.value (Some g)) l in
      let distinct = flat_distinct (kit_reading leads numbered) (tree_of o) g is_flat in
      let agree = made_agrees told.value value_law g defined distinct by.facts by.made by.gets in
      let inside = one_to_one_inside {N = N} made pass.names t (subst (IsOneToOne pass.names) pass.is.is pass.apart) o
      z.stands in
      let under = flat_under {N = fresh N} {M = N} (kit_reading leads numbered) pass.names
      (put_root {N = N} kit made (tree_of o)) rest inside prop.is_view in
      let same_tree = told_fresh told.value in
      record {
        facts_placed = l;
        best = subst (λ y. flat.AreMostPreciseFacts y l) (sym is.2)
            (placed_best told.value value_law g defined by.facts by.best);
        left = (
          under.0,
          subst (λ y. FlattensTo (kit_reading leads numbered) y under.0)
              (ap out z.is) under.2,
          ap (λ y. place_fun (same_name same_place) (replace (use_of (made_of used_wanted y l))
              (put_in (made_of used_wanted y l) y))) is.2
              ∙ sym (constants_placed told.value value_law g defined by.made n agree)
              ∙ sym (placed_renamed (same_name told.value) same_tree as_name (told_as_name told.value)
              (replace (use_of by.made) (put_in by.made (Some g))))
              ∙ ap (λ y. place_fun same_tree (rename_fun as_name y)) (sym by.is)
              ∙ sym (placed_under {N = fresh N} {M = N} (kit_reading leads numbered) same_tree told.value
              (fresh_law told.value told.values) told.values pass.names (put_root {N = N} kit made (tree_of o))
              rest inside
              prop.is_view)
              ∙ ap (place_fun told.value) under.1,
        );
      }

  pub sccp_on_programs : (p : FunctionsByPath Place) → IsProgramOf {N = N} told.value leads numbered t p →
      (q : FunctionsByPath Place) × IsProgramOf {N = N} told.value leads numbered after q × IsSccpOfFunctions used_wanted p q
  sccp_on_programs p is =
      let each = λ (path : List ℕ). function_after (locate numbered (reverse path) t) (p path)
      (λ k e. running {N = N} t facts pass.is.best.closed numbered (reverse path) t (at_root t) k (λ q i. i)
      pass.is.best.closed.entries e) (is path) in (
        sccp used_wanted (λ path. (each path).facts_placed) p,
        λ path. subst (λ z. HasFunctionView {N = N} told.value leads numbered z
            (sccp used_wanted (λ path. (each path).facts_placed) p path)) (sym (where_after (reverse path))) (each
            path).left,
        record { facts = λ path. (each path).facts_placed; best = λ path. (each path).best; is = λ path. refl },
      )

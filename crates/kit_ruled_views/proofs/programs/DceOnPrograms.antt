-- Removal of dead values from the tree of a module is removal of dead values from its program.
use Rattle.std.proofs.Common.{◌≡◌, ℕ, Bool, true, false, List, [], Option, Some, None, refl, sym}
use Rattle.std.proofs.Common.{ap, ◌∙◌, subst}
use Rattle.std.specs.Prelude.{reverse, option_map}
use Rattle.ir_base.specs.declared.types.TypeHandle.{TypeHandle}
use Rattle.ir_trees.specs.Names.{Names}
use Rattle.ir_trees.specs.Trees.{Root}
use Rattle.opt_trees.specs.Dialect.{drop}
use Rattle.opt_trees.specs.Dce.{TreeSurroundings, Item, Gone, Whole, May, IsDead, dies, thin, thin_head}
use Rattle.opt_trees.specs.Occurrences.{Occurrence, occurrences_of, at_root}
use Rattle.opt_trees.proofs.NoneDead.{true_false}
use Rattle.kit_ops.specs.declared.attributes.IntegerAttr.{IntegerAttr}
use Rattle.kit_ops.specs.declared.kinds.KitOp.TheVariants as ops
use Rattle.kit_ops.specs.declared.types.KitType.{KitType}
use Rattle.kit_ops.specs.Table.{row_of}
use Rattle.kit.specs.Meaning.{kit}
use Rattle.kit_behaviour.specs.DeadValues as flat
use Rattle.kit_behaviour.specs.Machine.{Fun, FunctionsByPath}
use Rattle.kit_behaviour.specs.Numbering.{place_fun, placed}
use Rattle.kit_behaviour.specs.RemovedValues as removed
use Rattle.kit_behaviour.specs.Places.{Place, same_place}
use Rattle.kit_behaviour.proofs.Behaviour.FrameLemmas as old
use Rattle.kit_views.specs.FlatView.{FlattensTo}
use Rattle.kit_views.specs.Laws.{IsThinned}
use Rattle.kit_views.specs.Reading.{kit_contents, kit_reading}
use Rattle.kit_views.proofs.FlatRemoval as views
use Rattle.kit_views.proofs.Read.{kit_reads}
use Rattle.kit_ruled_views.specs.ProgramLaws.{AreTold}
use Rattle.kit_ruled_views.specs.Paths.{locate}
use Rattle.kit_ruled_views.specs.Programs.{HasFunctionView, IsProgramOf}
use Rattle.kit_ruled_views.specs.Sound.{tree_of, IsSound}
use Rattle.kit_ruled_views.specs.TreePasses.{IsDceAlone}
use Rattle.kit_ruled_views.proofs.programs.FlatDefined.{flat_defined}
use Rattle.kit_ruled_views.proofs.programs.Inside.{function_at}
use Rattle.kit_ruled_views.proofs.programs.Lifted.{one_operation}
use Rattle.kit_ruled_views.proofs.programs.DeadInside.{holder_effects}
use Rattle.kit_ruled_views.proofs.programs.Located.{Located, located, heads_aside, thin_root, HoldersStay}
use Rattle.kit_ruled_views.proofs.programs.Located.{locate_thinned}
use Rattle.kit_ruled_views.proofs.RemovalByPlace.{placed_dead, dead_placed, thin_placed}
use Rattle.kit_ruled_views.proofs.programs.Restricted.{rest, function_dce, function_unpinned}

-- nothing is dead in a function that is not there
none_dead : flat.IsDeadSet same_place None (λ v. false)
none_dead = record { holds = λ v h. absurd (cc h); least = λ e h v d. absurd (cc d) }

dropped_nothing : {X : Type 0} (p : ℕ → Bool) (xs : List X) → xs ≡ [] → drop p xs ≡ xs
dropped_nothing p xs e = ap (drop p) e ∙ sym e

module _ {N : Names} (told : AreTold N) (leads : TypeHandle → Option KitType) (numbered : List ℕ → ℕ)
    (type_at : N.value → TypeHandle) (t : Root N kit_contents) (sound : IsSound {N = N} leads numbered type_at t)
    (after : Root N kit_contents) (pass : IsDceAlone {N = N} t after) where
  abbrev w : TreeSurroundings N IntegerAttr
  w = pass.around

  abbrev gone : Gone N
  gone = pass.is.gone

  value_law : old.IsSameness told.value
  value_law = record { true_same = told.values.true_same; same_true = told.values.same_true }

  may_of : (x : Item N) → IsDead kit w t x → May kit t x
  may_of _ (dies x may kept uses) = may

  -- functions and modules stay
  stay : HoldersStay gone (occurrences_of t)
  stay o h holding = by_item (gone.item (Whole o.head.name)) refl
    where
      by_item : (b : Bool) → gone.item (Whole o.head.name) ≡ b → gone.item (Whole o.head.name) ≡ false
      by_item false e = e
      by_item true e =
          let may = may_of (Whole o.head.name) (pass.is.is_gone.dead (Whole o.head.name) e) in
          let same : may.it ≡ o =
          one_operation t sound.names.operations may.it o may.stands h may.name in
          absurd (true_false (row_of o.head.content.kind).has_effects (holder_effects o.head.content.kind holding)
          (subst (λ (z : Occurrence N kit_contents). kit.has_effects z.head.content ≡ false) same may.pure))

  where_after : (path : List ℕ) → locate numbered path after ≡ option_map (thin_root gone) (locate numbered path t)
  where_after path =
      ap (locate numbered path) pass.is.is
      ∙ heads_aside numbered path t.head (thin_head kit gone t.head) (thin kit gone t.regions)
      ∙ locate_thinned gone numbered path t (at_root t) stay

  -- the pass on one function: the set of dead places, and the function after it
  record IsFunctionAfter (o : Option (Root N kit_contents)) (p : Option (Fun Place)) : Type 0 where
    set : Place → Bool
    dead : flat.IsDeadSet same_place p set
    left : HasFunctionView {N = N} told.value leads numbered (option_map (thin_root gone) o)
        (place_fun same_place (removed.thin set p))

  head_stays : (o : Occurrence N kit_contents) → o.head.content.kind ≡ ops.Func → o.head.operands ≡ [] →
      thin_head kit gone o.head ≡ o.head
  head_stays o kind none =
      let c = (kit_reads leads numbered).drops_others o.head.content (gone.operand o.head.name)
      (λ e. func_cond (sym kind ∙ e)) in
      λ i. record {
        name = o.head.name;
        content = c i;
        results = o.head.results;
        operands = dropped_nothing (gone.operand o.head.name) o.head.operands none i;
        successors = o.head.successors;
      }
    where
      func_cond : ops.Func ≡ ops.CondBr → ⊥
      func_cond e = absurd (cc e)

  function_after : (o : Option (Root N kit_contents)) (p : Option (Fun Place)) →
      ((k : Root N kit_contents) → o ≡ Some k → Located (occurrences_of t) k) →
      HasFunctionView {N = N} told.value leads numbered o p → IsFunctionAfter o p
  function_after None p at is = record {
    set = λ v. false;
    dead = subst (λ z. flat.IsDeadSet same_place z (λ v. false)) (sym is) none_dead;
    left = ap (λ z. place_fun same_place (removed.thin (λ v. false) z)) is;
  }
  function_after (Some k) p at is =
      let l = at k refl in
      let o : Occurrence N kit_contents = l.it in
      let fn = function_at {N = N} leads numbered type_at t sound o l.stands l.kind in
      let g : Fun N.value = is.0 in
      let is_flat : FlattensTo (kit_reading leads numbered) (tree_of o) g =
      subst (λ z. FlattensTo (kit_reading leads numbered) z g) (sym l.is) is.1 in
      let thinned : IsThinned kit w (tree_of o) told.value (kit_reading leads numbered) g
      (rest {N = N} told leads numbered type_at t sound w gone pass.is.is_gone o fn) =
      views.removed kit (kit_reading leads numbered) (kit_reads leads numbered) told.value told.values w (tree_of o)
      (rest {N = N} told leads numbered type_at t sound w gone pass.is.is_gone o fn) g is_flat
      (function_unpinned {N = N} told leads numbered type_at t sound w gone pass.is.is_gone o fn pass.unpinned)
      (function_dce {N = N} told leads numbered type_at t sound w gone pass.is.is_gone o fn) in
      let defined = flat_defined (kit_reading leads numbered) told.value value_law (tree_of o) g is_flat
      fn.sound_function.is_typed.operands in
      let set : Place → Bool = placed_dead told.value value_law g defined thinned.dead thinned.is_dead in
      let heads : rest {N = N} told leads numbered type_at t sound w gone pass.is.is_gone o fn ≡ thin_root gone k =
      (λ i. record { head = sym (head_stays o l.kind is_flat.view.no_operands) i; regions = thin kit gone o.regions })
      ∙ ap (thin_root gone) l.is in
      record {
        set = set;
        dead = subst (λ z. flat.IsDeadSet same_place z set) (sym is.2)
            (dead_placed told.value value_law g defined thinned.dead thinned.is_dead);
        left = (
          thinned.rest,
          subst (λ z. FlattensTo (kit_reading leads numbered) z thinned.rest) heads thinned.is_view,
          ap (λ z. place_fun same_place (removed.thin set z)) is.2
              ∙ sym (thin_placed told.value value_law g defined thinned.dead thinned.is_dead)
              ∙ ap (place_fun told.value) thinned.is,
        );
      }

  pub dce_on_programs : (p : FunctionsByPath Place) → IsProgramOf {N = N} told.value leads numbered t p →
      (q : FunctionsByPath Place) × IsProgramOf {N = N} told.value leads numbered after q × flat.IsDceOfFunctions p q
  dce_on_programs p is =
      let each = λ (path : List ℕ). function_after (locate numbered (reverse path) t) (p path)
      (λ k e. located numbered (reverse path) t (at_root t) k e) (is path) in
      let set : List ℕ → Place → Bool = λ path. (each path).set in (
        placed same_place (removed.thinned set p),
        λ path. subst (λ z. HasFunctionView {N = N} told.value leads numbered z (place_fun same_place (removed.thin (set
            path) (p path))))
            (sym (where_after (reverse path))) (each path).left,
        record { set = set; dead = λ path. (each path).dead; is = λ path. refl },
      )

-- What functions carry stays through passes on the tree of a module.
use Rattle.std.proofs.Common.{◌≡◌, ℕ, Bool, true, false, List, [], ◌∷◌, Option, Some, None, refl, sym, ap}
use Rattle.std.proofs.Common.{◌∙◌, subst}
use Rattle.std.specs.Prelude.{option_map}
use Rattle.ir_base.specs.declared.types.TypeHandle.{TypeHandle}
use Rattle.ir_trees.specs.Names.{Names}
use Rattle.ir_trees.specs.Renames.{Maps, rename_root}
use Rattle.ir_trees.specs.Trees.{Root}
use Rattle.opt_trees.specs.Dce.{Item, Gone, Whole, May, IsDead, dies, thin, thin_head}
use Rattle.opt_trees.specs.Occurrences.{Occurrence, occurrences_of, at_root}
use Rattle.opt_trees.specs.Sccp.{fresh}
use Rattle.opt_trees.specs.Simplify.{decided, IsReached, all_of, IsCut, IsLocal, use_head, IsJoined}
use Rattle.opt_trees.proofs.Best.{not_true}
use Rattle.opt_trees.proofs.NoneDead.{true_false}
use Rattle.opt_trees.proofs.Orderly.{decided_local, cut_local}
use Rattle.kit_ops.specs.declared.attributes.IntegerAttr.{IntegerAttr}
use Rattle.kit_ops.specs.declared.kinds.KitOp.TheVariants as ops
use Rattle.kit_ops.specs.declared.types.KitType.{KitType}
use Rattle.kit_ops.specs.Table.{row_of}
use Rattle.kit.specs.Meaning.{KitOperation, kit}
use Rattle.kit_behaviour.specs.PassLists.{Pass, SccpPass, LeanSccpPass, DcePass, SimplifyPass}
use Rattle.kit_views.specs.Reading.{kit_contents}
use Rattle.kit_views.proofs.Read.{kit_reads}
use Rattle.kit_ruled_views.specs.Paths.{locate}
use Rattle.kit_ruled_views.specs.Sound.{IsSound}
use Rattle.kit_ruled_views.specs.TreePasses.{maps_of, IsSccpNamed, IsDceAlone, IsSimplifiedAlone}
use Rattle.kit_ruled_views.specs.TreePasses.{IsTreePass, IsSoundTree, IsTreeAfter}
use Rattle.kit_ruled_views.proofs.programs.DeadInside.{holder_effects}
use Rattle.kit_ruled_views.proofs.programs.FlatShallow.{sound_local}
use Rattle.kit_ruled_views.proofs.programs.Lifted.{one_operation}
use Rattle.kit_ruled_views.proofs.programs.Located.{Located, located, heads_aside, thin_root, HoldersStay, locate_thinned}
use Rattle.kit_ruled_views.proofs.programs.PutLocated.{old_root, locate_put, locate_renamed}
use Rattle.kit_ruled_views.proofs.programs.SimplifyLocated.{cut_tree, Follow, is_func, arrives, whole}
use Rattle.kit_optimiser.specs.Functions.{function_content}

func_cond : ops.Func ≡ ops.CondBr → ⊥
func_cond e = absurd (cc e)

-- what it carries that stands there
abbrev content : {N : Names} → Option (Root N kit_contents) → Option KitOperation
content {N} o = option_map (λ (u : Root N kit_contents). u.head.content) o

-- other names change nothing of it
renamed_content : {N M : Names} (m : Maps N M) (o : Option (Root N kit_contents))
    → content {N = M} (option_map (rename_root {S = kit_contents} m) o) ≡ content {N = N} o
renamed_content m None = refl
renamed_content m (Some u) = refl

-- nor do constants that are put in
put_content : {N : Names} (made : N.value → Option IntegerAttr) (o : Option (Root N kit_contents))
    → content {N = fresh N} (option_map (old_root {N = N} made) o) ≡ content {N = N} o
put_content made None = refl
put_content made (Some u) = refl

module _ {N : Names} (leads : TypeHandle → Option KitType) (numbered : List ℕ → ℕ) where
  sccp_keeps : (t after : Root N kit_contents) → IsSccpNamed {N = N} t after → (path : List ℕ)
      → function_content {N = N} numbered path after ≡ function_content {N = N} numbered path t
  sccp_keeps t after pass path =
      ap (λ z. content {N = N} (locate numbered path z))
      (pass.same ∙ ap (rename_root {S = kit_contents} pass.names) pass.is.is)
      ∙ ap (content {N = N})
      (locate_renamed {N = fresh N} {M = N} pass.names numbered path (old_root {N = N} pass.is.made t))
      ∙ renamed_content {N = fresh N} {M = N} pass.names
      (locate {N = fresh N} numbered path (old_root {N = N} pass.is.made t))
      ∙ ap (content {N = fresh N}) (locate_put {N = N} pass.is.made numbered path t)
      ∙ put_content {N = N} pass.is.made (locate numbered path t)

  module _ (type_at : N.value → TypeHandle) (t : Root N kit_contents)
      (sound : IsSound {N = N} leads numbered type_at t) (after : Root N kit_contents) where
    module _ (pass : IsDceAlone {N = N} t after) where
      abbrev gone : Gone N
      gone = pass.is.gone

      may_of : (x : Item N) → IsDead kit pass.around t x → May kit t x
      may_of _ (dies x may kept uses) = may

      -- functions and modules stay
      stay : HoldersStay gone (occurrences_of t)
      stay o h holding = by_item (gone.item (Whole o.head.name)) refl
        where
          by_item : (b : Bool) → gone.item (Whole o.head.name) ≡ b → gone.item (Whole o.head.name) ≡ false
          by_item false e = e
          by_item true e =
              let may = may_of (Whole o.head.name) (pass.is.is_gone.dead (Whole o.head.name) e) in
              let same : may.it ≡ o = one_operation t sound.names.operations may.it o may.stands h may.name in
              absurd (true_false (row_of o.head.content.kind).has_effects
              (holder_effects o.head.content.kind holding)
              (subst (λ (z : Occurrence N kit_contents). kit.has_effects z.head.content ≡ false) same may.pure))

      -- functions lose no operand
      thinned_content : (o : Option (Root N kit_contents))
          → ((k : Root N kit_contents) → o ≡ Some k → Located (occurrences_of t) k)
          → content {N = N} (option_map (thin_root gone) o) ≡ content {N = N} o
      thinned_content None at = refl
      thinned_content (Some k) at =
          let l = at k refl in
          let kind : k.head.content.kind ≡ ops.Func =
          subst (λ (z : Root N kit_contents). z.head.content.kind ≡ ops.Func) l.is l.kind in
          ap (λ z. Some z) ((kit_reads leads numbered).drops_others k.head.content (gone.operand k.head.name)
          (λ e. func_cond (sym kind ∙ e)))

      dce_keeps : (path : List ℕ)
          → function_content {N = N} numbered path after ≡ function_content {N = N} numbered path t
      dce_keeps path =
          ap (content {N = N}) (ap (locate numbered path) pass.is.is
          ∙ heads_aside numbered path t.head (thin_head kit gone t.head) (thin kit gone t.regions)
          ∙ locate_thinned gone numbered path t (at_root t) stay)
          ∙ thinned_content (locate numbered path t) (λ k e. located numbered path t (at_root t) k e)

    module _ (pass : IsSimplifiedAlone {N = N} t after) where
      abbrev decided_tree : Root N kit_contents
      decided_tree = decided kit pass.around t

      abbrev cut : IsCut kit (all_of t) decided_tree pass.is.cut
      cut = pass.is.is_cut

      -- the tree whose branches are decided, without the blocks that go
      abbrev kept_tree : Root N kit_contents
      kept_tree = cut_tree {N = N} leads numbered type_at t sound pass.around cut.gone

      local_cut : IsLocal kept_tree
      local_cut = subst IsLocal cut.is (cut_local kit (all_of t) decided_tree pass.is.cut cut
          (decided_local kit pass.around t (sound_local {N = N} leads numbered type_at t sound)))

      abbrev joined : IsJoined kit (all_of t) kept_tree pass.simplified
      joined = subst (λ z. IsJoined kit (all_of t) z pass.simplified) cut.is pass.is.is_joined

      reached_stays : (b : N.block) → IsReached decided_tree b → cut.gone b ≡ false
      reached_stays b reach = not_true (cut.gone b) (λ e. (cut.there b e).unreached reach)

      abbrev Follows : Option (Root N kit_contents) → Option (Root N kit_contents) → Type 0
      Follows v out =
          Follow {N = N} leads numbered type_at t sound pass.around cut.gone local_cut reached_stays joined.names
          (is_func {N = N} leads numbered type_at t sound pass.around cut.gone local_cut reached_stays joined.names)
          v out

      where_simplified : (path : List ℕ) → Follows (locate numbered path t) (locate numbered path pass.simplified)
      where_simplified path =
          subst (λ z. Follows (locate numbered path t) (locate numbered path z)) (sym joined.is)
          (arrives {N = N} leads numbered type_at t sound pass.around cut.gone local_cut reached_stays joined.names path
          t.head (use_head joined.names t.head) t.regions (at_root t) joined.regions
          (whole {N = N} leads numbered type_at t sound pass.around cut.gone local_cut reached_stays joined.names
          joined.regions joined.joins))

      followed_content : (v out : Option (Root N kit_contents)) → Follows v out
          → content {N = N} out ≡ content {N = N} v
      followed_content None out e = ap (content {N = N}) e
      followed_content (Some v) out m =
          ap (content {N = N}) m.left ∙ ap (λ (u : Root N kit_contents). Some u.head.content) m.is

      simplify_keeps : (path : List ℕ)
          → function_content {N = N} numbered path after ≡ function_content {N = N} numbered path t
      simplify_keeps path =
          ap (λ z. content {N = N} (locate numbered path z)) pass.same
          ∙ ap (content {N = N})
          (locate_renamed {N = N} {M = N} (maps_of {N = N} pass.names) numbered path pass.simplified)
          ∙ renamed_content {N = N} {M = N} (maps_of {N = N} pass.names) (locate numbered path pass.simplified)
          ∙ followed_content (locate numbered path t) (locate numbered path pass.simplified) (where_simplified path)

  pass_keeps : (x : Pass) (t u : Root N kit_contents) → IsSoundTree {N = N} leads numbered t
      → IsTreePass {N = N} x t u → (path : List ℕ)
      → function_content {N = N} numbered path u ≡ function_content {N = N} numbered path t
  pass_keeps SccpPass t u sound pass path = absurd pass
  pass_keeps LeanSccpPass t u sound pass path = sccp_keeps t u pass path
  pass_keeps DcePass t u sound pass path = dce_keeps sound.0 t sound.1 u pass path
  pass_keeps SimplifyPass t u sound pass path = simplify_keeps sound.0 t sound.1 u pass path

  pub list_keeps : (xs : List Pass) (t r : Root N kit_contents) → IsTreeAfter {N = N} leads numbered xs t r
      → (path : List ℕ) → function_content {N = N} numbered path r ≡ function_content {N = N} numbered path t
  list_keeps [] t r same path = ap (λ z. function_content {N = N} numbered path z) (sym same)
  list_keeps (x ∷ xs) t r (sound, (u, pass, after)) path =
      list_keeps xs u r after path ∙ pass_keeps x t u sound pass path

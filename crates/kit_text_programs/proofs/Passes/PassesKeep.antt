-- Of trees that say the same passes make trees that say the same.
use Rattle.std.proofs.Common.{◌≡◌, ℕ, true, List, [], ◌∷◌, Option, sym, subst}
use Rattle.ir_base.specs.declared.types.TypeHandle.{TypeHandle}
use Rattle.ir_program.proofs.defined.Arrivals.{same_value}
use Rattle.ir_program.proofs.made.Frames.{same_or_not}
use Rattle.ir_trees.specs.Names.{Names}
use Rattle.ir_trees.specs.Renames.{HaveTests, IsSameUpToNames}
use Rattle.ir_trees.specs.Stands.{by_handle}
use Rattle.ir_trees.specs.Trees.{Root}
use Rattle.ir_trees.proofs.Same.{same_back, same_on}
use Rattle.kit.specs.Context.{KitTree}
use Rattle.kit.specs.Meaning.{kit}
use Rattle.kit_behaviour.specs.PassLists.{Pass, SccpPass, LeanSccpPass, DcePass, SimplifyPass}
use Rattle.kit_ruled_views.specs.TreePasses.{IsDceAlone, IsSccpNamed, IsSimplifiedAlone, IsSoundTree, IsTreeAfter}
use Rattle.kit_ruled_views.specs.TreePasses.{IsTreePass, maps_of}
use Rattle.kit_ops.specs.declared.attributes.IntegerAttr.{IntegerAttr}
use Rattle.kit_ops.specs.declared.types.KitType.{KitType}
use Rattle.kit_views.specs.Reading.{kit_contents}
use Rattle.opt_meanings.specs.Laws.{NonePinned}
use Rattle.opt_meanings.specs.Meanings.{Bijection, mean_root, worded, worded_around}
use Rattle.opt_meanings.proofs.DceMeant.{dce_meant}
use Rattle.opt_meanings.proofs.Permuted.{permuted}
use Rattle.opt_meanings.proofs.Said.{defined_meant}
use Rattle.opt_meanings.proofs.SameDce.{same_dces}
use Rattle.opt_meanings.proofs.SameSccp.{same_sccps}
use Rattle.opt_meanings.proofs.SccpMeant.{sccp_meant}
use Rattle.opt_meanings.proofs.SimplifyMeant.{simplify_meant}
use Rattle.opt_meanings.proofs.SimplifyShared.{same_simplifies}
use Rattle.opt_meanings.proofs.Worded.{sccp_worded, dce_worded, simplify_worded}
use Rattle.opt_trees.specs.Dce.{TreeSurroundings, IsDce}
use Rattle.opt_trees.specs.Occurrences.{Has, OperationsApart, defined_in}
use Rattle.opt_trees.specs.Sccp.{fresh, IsSccp}
use Rattle.opt_trees.specs.Simplify.{IsOrderly, IsSimplify}
use Rattle.kit_text_programs.specs.SameLaws.{SayTheSame}
use Rattle.kit_text_programs.specs.Meanings.{integers, kit_said, meanings}
use Rattle.kit_text_programs.proofs.Passes.KitMeant.{kit_meant}
use Rattle.kit_text_programs.proofs.Passes.KnownAlike.{known_alike}
use Rattle.kit_text_programs.proofs.Passes.MeantNames.{renamed_means_same}
use Rattle.kit_text_programs.proofs.Passes.MeantOrderly.{orderly_meant}
use Rattle.kit_text_programs.proofs.Passes.SoundOrderly.{sound_orderly}

handle_tests : HaveTests by_handle
handle_tests = record { operation = same_or_not; block = same_or_not; value = same_value }

-- one context
module _ {N : Names} (c : Bijection TypeHandle ℕ) where
  sccp_said : (w : TreeSurroundings N IntegerAttr) (t : Root N kit_contents) (put : Root (fresh N) kit_contents) →
      IsSccp kit w t put →
      IsSccp kit_said (worded_around (integers c) w) (mean_root (meanings c.to) t) (mean_root (meanings c.to) put)
  sccp_said w t put x =
      sccp_meant (meanings c.to) (worded (integers c) kit) kit_said (kit_meant c) (worded_around (integers c) w) t put
      (sccp_worded (integers c) kit w t put x)

  dce_said : (w : TreeSurroundings N IntegerAttr) (t after : Root N kit_contents) → IsDce kit w t after →
      IsDce kit_said (worded_around (integers c) w) (mean_root (meanings c.to) t) (mean_root (meanings c.to) after)
  dce_said w t after x =
      dce_meant (meanings c.to) (worded (integers c) kit) kit_said (kit_meant c) (worded_around (integers c) w) t after
      (dce_worded (integers c) kit w t after x)

  simplify_said : (w : TreeSurroundings N IntegerAttr) (t after : Root N kit_contents) → OperationsApart t →
      IsSimplify kit w t after →
      IsSimplify kit_said (worded_around (integers c) w) (mean_root (meanings c.to) t) (mean_root (meanings c.to) after)
  simplify_said w t after apart x =
      simplify_meant (meanings c.to) kit_said (worded (integers c) kit) (kit_meant c) (worded_around (integers c) w) t after
      apart (simplify_worded (integers c) kit w t after x)

  -- nothing of what is said is named from outside
  unpinned_said : (w : TreeSurroundings N IntegerAttr) (t : Root N kit_contents) →
      ((v : N.value) → Has v (defined_in t.regions) → w.is_pinned v ≡ true → ⊥) →
      NonePinned (worded_around (integers c) w) (mean_root (meanings c.to) t)
  unpinned_said w t none = λ v has pinned. none v (subst (Has v) (defined_meant (meanings c.to) t.regions) has) pinned

-- two contexts
module _ (c e : Bijection TypeHandle ℕ) where
  abbrev Same : KitTree → KitTree → Type 0
  Same t u = SayTheSame c.to e.to t u

  sccp_keeps : (t u r q : KitTree) → Same t u → IsSccpNamed {N = by_handle} t r → IsSccpNamed {N = by_handle} u q → Same r q
  sccp_keeps t u r q same x y =
      let between = same_sccps kit_said handle_tests (mean_root (meanings c.to) t) (mean_root (meanings e.to) u) same
      (worded_around (integers c) x.around) (worded_around (integers e) y.around)
      (unpinned_said c x.around t x.unpinned) (unpinned_said e y.around u y.unpinned)
      (mean_root (meanings c.to) x.put) (mean_root (meanings e.to) y.put) (sccp_said c x.around t x.put x.is)
      (sccp_said e y.around u y.put y.is) in
      let here : IsSameUpToNames (mean_root (meanings c.to) x.put) (mean_root (meanings c.to) r) =
      subst (λ z. IsSameUpToNames (mean_root (meanings c.to) x.put) (mean_root (meanings c.to) z)) (sym x.same)
      (renamed_means_same (meanings c.to) x.names x.put x.apart) in
      let there : IsSameUpToNames (mean_root (meanings e.to) y.put) (mean_root (meanings e.to) q) =
      subst (λ z. IsSameUpToNames (mean_root (meanings e.to) y.put) (mean_root (meanings e.to) z)) (sym y.same)
      (renamed_means_same (meanings e.to) y.names y.put y.apart) in
      same_on (mean_root (meanings c.to) r) (mean_root (meanings c.to) x.put) (mean_root (meanings e.to) q)
      (same_back (mean_root (meanings c.to) x.put) (mean_root (meanings c.to) r) here)
      (same_on (mean_root (meanings c.to) x.put) (mean_root (meanings e.to) y.put) (mean_root (meanings e.to) q) between there)

  dce_keeps : (t u r q : KitTree) → Same t u → IsDceAlone {N = by_handle} t r → IsDceAlone {N = by_handle} u q → Same r q
  dce_keeps t u r q same x y =
      same_dces kit_said handle_tests (mean_root (meanings c.to) t) (mean_root (meanings e.to) u) same
      (worded_around (integers c) x.around) (worded_around (integers e) y.around)
      (unpinned_said c x.around t x.unpinned) (unpinned_said e y.around u y.unpinned)
      (mean_root (meanings c.to) r) (mean_root (meanings e.to) q) (dce_said c x.around t r x.is) (dce_said e y.around u q y.is)

  module _ (leads others : TypeHandle → Option KitType) (numbered : List ℕ → ℕ) where
    simplify_keeps : (t u r q : KitTree) → Same t u → IsSoundTree {N = by_handle} leads numbered t →
        IsSoundTree {N = by_handle} others numbered u → IsSimplifiedAlone {N = by_handle} t r →
        IsSimplifiedAlone {N = by_handle} u q → Same r q
    simplify_keeps t u r q same sound well x y =
        let found = permuted (mean_root (meanings c.to) t) (mean_root (meanings e.to) u) handle_tests same in
        let first : IsOrderly t = sound_orderly leads numbered sound.0 t sound.1 in
        let second : IsOrderly u = sound_orderly others numbered well.0 u well.1 in
        let between = same_simplifies kit_said handle_tests (mean_root (meanings c.to) t) (mean_root (meanings e.to) u) same
        (worded_around (integers c) x.around) (worded_around (integers e) y.around)
        (known_alike leads others numbered numbered sound.0 well.0 c e found.0 t u found.1 sound.1 well.1 x.around y.around
        x.known y.known) (orderly_meant (meanings c.to) t first) (orderly_meant (meanings e.to) u second)
        (mean_root (meanings c.to) x.simplified) (mean_root (meanings e.to) y.simplified)
        (simplify_said c x.around t x.simplified first.operations x.is)
        (simplify_said e y.around u y.simplified second.operations y.is) in
        let here : IsSameUpToNames (mean_root (meanings c.to) x.simplified) (mean_root (meanings c.to) r) =
        subst (λ z. IsSameUpToNames (mean_root (meanings c.to) x.simplified) (mean_root (meanings c.to) z)) (sym x.same)
        (renamed_means_same (meanings c.to) (maps_of x.names) x.simplified
        (record { operations = λ a b _ _ i. x.apart a b i; blocks = λ a b _ _ i. i; values = λ a b _ _ i. i })) in
        let there : IsSameUpToNames (mean_root (meanings e.to) y.simplified) (mean_root (meanings e.to) q) =
        subst (λ z. IsSameUpToNames (mean_root (meanings e.to) y.simplified) (mean_root (meanings e.to) z)) (sym y.same)
        (renamed_means_same (meanings e.to) (maps_of y.names) y.simplified
        (record { operations = λ a b _ _ i. y.apart a b i; blocks = λ a b _ _ i. i; values = λ a b _ _ i. i })) in
        same_on (mean_root (meanings c.to) r) (mean_root (meanings c.to) x.simplified) (mean_root (meanings e.to) q)
        (same_back (mean_root (meanings c.to) x.simplified) (mean_root (meanings c.to) r) here)
        (same_on (mean_root (meanings c.to) x.simplified) (mean_root (meanings e.to) y.simplified) (mean_root (meanings e.to) q)
        between there)

    pass_keeps : (x : Pass) (t u r q : KitTree) → Same t u → IsSoundTree {N = by_handle} leads numbered t →
        IsSoundTree {N = by_handle} others numbered u → IsTreePass {N = by_handle} x t r →
        IsTreePass {N = by_handle} x u q → Same r q
    pass_keeps SccpPass t u r q same a b x y = absurd x
    pass_keeps LeanSccpPass t u r q same a b x y = sccp_keeps t u r q same x y
    pass_keeps DcePass t u r q same a b x y = dce_keeps t u r q same x y
    pass_keeps SimplifyPass t u r q same a b x y = simplify_keeps t u r q same a b x y

    -- of a list of passes, by induction on the list
    pub passes_keep : (xs : List Pass) (t u r q : KitTree) → Same t u → IsTreeAfter {N = by_handle} leads numbered xs t r →
        IsTreeAfter {N = by_handle} others numbered xs u q → Same r q
    passes_keep [] t u r q same x y =
        subst (λ z. Same r z) y (subst (λ z. Same z u) x same)
    passes_keep (x ∷ xs) t u r q same a b =
        passes_keep xs a.1.0 b.1.0 r q (pass_keeps x t u a.1.0 b.1.0 same a.0 b.0 a.1.1 b.1.1) a.1.2 b.1.2

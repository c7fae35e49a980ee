-- A good tree keeps the rules with its control flow simplified: branches decided, blocks cut, chains joined, and then
-- under other handles of operations.
use Rattle.std.proofs.Common.{Option, refl, sym, ap, subst}
use Rattle.ir_base.specs.declared.types.TypeHandle.{TypeHandle}
use Rattle.ir_program.specs.declared.handles.Value.{Value}
use Rattle.ir_trees.specs.Stands.{by_handle}
use Rattle.kit.specs.Context.{KitTree}
use Rattle.kit.specs.Meaning.{kit}
use Rattle.kit_pass_rules.specs.ChainLaws.{DefinersApart, SimplifiedKeepsRules, SimplifiedStaysGood}
use Rattle.kit_pass_rules.proofs.Apart.JoinedLaw.{joined_stays_good}
use Rattle.kit_pass_rules.proofs.Simplified.DefinerLemmas.{decided_definers, kept_definers}
use Rattle.kit_pass_rules.proofs.Simplified.NameLemmas.{NamesStay, decided_names, cut_names, joined_names}
use Rattle.kit_pass_rules.specs.CutLaws.{DecidedInPlaceStaysGood, CutStaysGood, RenamedKeepsRules, RenamedStaysGood}
use Rattle.kit_ops.specs.declared.attributes.IntegerAttr.{IntegerAttr}
use Rattle.kit_ops.specs.declared.types.KitType.{KitType}
use Rattle.kit_pass_rules.specs.Laws.{IsGood}
use Rattle.opt_trees.specs.Dce.{TreeSurroundings}
use Rattle.opt_trees.specs.Simplify.{all_of, decided, IsJoined, IsSimplify}

-- the three phases in turn
module _ (decided_good : DecidedInPlaceStaysGood) (cut_good : CutStaysGood) (w : TreeSurroundings by_handle IntegerAttr)
    (leads : TypeHandle → Option KitType) (old : Value → Option TypeHandle) (t made : KitTree)
    (good : IsGood leads old t) (definers : DefinersApart t) (is : IsSimplify kit w t made) where
  abbrev branches : KitTree
  branches = decided kit w t

  good_decided : IsGood leads old branches
  good_decided = decided_good w leads old t branches good refl

  good_cut : IsGood leads old is.cut
  good_cut = cut_good leads old branches is.cut good_decided is.is_cut

  definers_cut : DefinersApart is.cut
  definers_cut = subst DefinersApart (sym is.is_cut.is)
      (kept_definers is.is_cut.gone branches (decided_definers w t definers))

  joined : IsJoined kit (all_of is.cut) is.cut made
  joined = subst (λ p. IsJoined kit p is.cut made) (ap (λ (z : KitTree). all_of z) (sym is.is_cut.is)) is.is_joined

  good_joined : IsGood leads old made
  good_joined = joined_stays_good leads old is.cut made good_cut definers_cut joined

  names_stay : NamesStay t made
  names_stay n h =
      decided_names w t n
      (cut_names branches is.cut is.is_cut n (joined_names leads old is.cut good_cut made joined n h))

pub simplify_keeps_rules : DecidedInPlaceStaysGood → CutStaysGood → RenamedKeepsRules → SimplifiedKeepsRules
simplify_keeps_rules decided_good cut_good renamed_good = λ w leads old new t after good definers named typed.
    renamed_good leads old new named.0 after
    (good_joined decided_good cut_good w leads old t named.0 good definers named.1)
    (named.0, refl, named.2, named.3) typed

pub simplify_stays_good : DecidedInPlaceStaysGood → CutStaysGood → RenamedStaysGood → SimplifiedStaysGood
simplify_stays_good decided_good cut_good renamed_good = λ w leads typed t after good definers named.
    let stay = names_stay decided_good cut_good w leads typed t named.0 good definers named.1 in
    renamed_good leads typed named.0 after
    (good_joined decided_good cut_good w leads typed t named.0 good definers named.1)
    (named.0, refl, named.2, (λ x y a b e. named.3 x y (stay x a) (stay y b) e), named.4)

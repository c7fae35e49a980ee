-- A good tree is good with its chains joined.
use Rattle.std.proofs.Common.{Option, None, slice_get, sym, ap, ◌∙◌, subst}
use Rattle.ir_base.specs.declared.types.TypeHandle.{TypeHandle}
use Rattle.ir_program.specs.declared.handles.Value.{Value}
use Rattle.ir_trees.specs.Trees.{Regions}
use Rattle.kit.specs.Context.{KitTree}
use Rattle.kit.specs.Meaning.{kit}
use Rattle.kit_checks.specs.KitWorld.{HasDeclaredTypes}
use Rattle.kit_checks.specs.Words.{values_of}
use Rattle.kit_ops.specs.declared.types.KitType.{KitType}
use Rattle.kit_pass_rules.specs.Laws.{IsGood}
use Rattle.kit_pass_rules.specs.Worlds.{HandlesAreApart}
use Rattle.kit_pass_rules.specs.ChainLaws.{DefinersApart, JoinedStaysGood, JoinedChainsKeepRules}
use Rattle.kit_pass_rules.proofs.Apart.OccurrenceLemmas.{each_operation, each_block, operations_apart, blocks_apart}
use Rattle.kit_pass_rules.proofs.Chains.InversionLemmas.{KitList, Becomes}
use Rattle.kit_pass_rules.proofs.Chains.PlaceLemmas.{orderly, is_local}
use Rattle.kit_pass_rules.proofs.Rules.RuleLemmas.{joined_obeys}
use Rattle.kit_pass_rules.proofs.Rules.TypeLemmas.{with_types}
use Rattle.opt_trees.specs.Occurrences.{Has}
use Rattle.opt_trees.specs.Simplify.{all_of, use_head, use_instead, Follows, ArgumentsApart}

module _ (leads : TypeHandle → Option KitType) (typed : Value → Option TypeHandle) (t : KitTree)
    (good : IsGood leads typed t)
    (names : Value → Value) (made : KitList Regions) (joins : Becomes t None Regions t.regions made) where
  abbrev joined : KitTree
  joined = record { head = use_head names t.head; regions = use_instead names made }

  typed_in : HasDeclaredTypes typed joined
  typed_in = record {
    results = λ o h d i.
        let w = each_operation kit (all_of t) t (orderly leads typed t good) (is_local leads typed t good) names made
        joins o h in
        good.typed_in.results w.it w.stands d (subst (Has d) (ap (λ z. z.results) w.head) i);
    arguments = λ b h d i.
        let w = each_block kit (all_of t) t (orderly leads typed t good) (is_local leads typed t good) names made joins
        b h in
        good.typed_in.arguments w.it w.stands d (subst (Has d) (ap (λ z. z.arguments) w.label) i);
  }

  arguments_apart : ArgumentsApart joined
  arguments_apart x y v i j hx hy ex ey =
      let a = each_block kit (all_of t) t (orderly leads typed t good) (is_local leads typed t good) names made joins x
      hx in
      let b = each_block kit (all_of t) t (orderly leads typed t good) (is_local leads typed t good) names made joins y
      hy in
      let same = good.apart.arguments a.it b.it v i j a.stands b.stands
      (ap (λ l. slice_get (values_of l.arguments) i) (sym a.label) ∙ ex)
      (ap (λ l. slice_get (values_of l.arguments) j) (sym b.label) ∙ ey) in (
        blocks_apart kit (all_of t) t (orderly leads typed t good) (is_local leads typed t good) names made joins x y hx
            hy
            (ap (λ l. l.name) a.label ∙ (ap (λ z. z.label.name) same.0 ∙ ap (λ l. l.name) (sym b.label))),
        same.1,
      )

  apart : HandlesAreApart joined
  apart = record {
    operations = operations_apart kit (all_of t) t (orderly leads typed t good) (is_local leads typed t good) names made
        joins;
    blocks = blocks_apart kit (all_of t) t (orderly leads typed t good) (is_local leads typed t good) names made joins;
    arguments = arguments_apart;
  }

  good_joined : (definers : DefinersApart t) (follows : (v : Value) → Follows kit (all_of t) t v (names v)) →
      IsGood leads typed joined
  good_joined definers follows = record {
    obeys = joined_obeys leads typed t good definers names follows made joins;
    typed_in = typed_in;
    apart = apart;
  }

pub joined_stays_good : JoinedStaysGood
joined_stays_good = λ leads typed t after good definers j.
    subst (IsGood leads typed) (sym j.is) (good_joined leads typed t good j.names j.regions j.joins definers j.follows)

pub joined_keeps_rules : JoinedChainsKeepRules
joined_keeps_rules = λ leads old new t after good definers j typed.
    let made = joined_stays_good leads old t after good definers j in
    with_types leads old new after made.typed_in typed made.obeys

-- What was forwarded to arguments and followed to its end, with all chains, is a plan.
use Rattle.std.proofs.Common.{◌≡◌, ℕ, List, Option, Some, slice_get, sym, subst}
use Rattle.ir_base.specs.declared.types.TypeHandle.{TypeHandle}
use Rattle.ir_program.specs.Definers.{StandsAtDefiner, values_at}
use Rattle.ir_program.specs.Program.{Program, value_in, type_in, type_at, IsLiveValue}
use Rattle.ir_program.specs.Uses.{IsUsed}
use Rattle.ir_program.specs.declared.handles.DefiningEntity.{DefiningEntity}
use Rattle.ir_program.specs.declared.handles.Ptr.{Ptr}
use Rattle.ir_program.specs.declared.handles.Operation.{Operation}
use Rattle.ir_program.specs.declared.handles.Value.{Value}
use Rattle.ir_trees.proofs.Members.{at_has}
use Rattle.ir_trees.specs.Searched.{Lists}
use Rattle.ir_trees.specs.Stands.{by_handle, in_program, ProgramTree}
use Rattle.opt_chains.specs.Chained.{AreChains, AreStandIns, IsJoiningPlan}
use Rattle.opt_chains.specs.declared.merging.Join.{Join}
use Rattle.opt_chains.specs.declared.merge_values.StandIn.{StandIn}
use Rattle.opt_chains.proofs.NextJoinable.{Occurs}
use Rattle.opt_inside.proofs.Around.{HasLists}
use Rattle.opt_inside.specs.Numbered.{Numbers, NumbersInside}
use Rattle.opt_inside.specs.reach.Edges.{FitsEdgesFrom, HasLocalEdgesFrom}
use Rattle.opt_inside.specs.reach.Starts.{IsStartIn}
use Rattle.opt_inside.specs.declared.reach.starts.Start.{Start}
use Rattle.opt_rows.specs.Chains.{StepsAlong as ChasesNumbers}
use Rattle.opt_solvers.specs.ChainsFollowed.{AreFinals}
use Rattle.opt_trees.specs.Dialect.{Dialect, Lawful}
use Rattle.opt_trees.specs.Simplify.{StartingRegions, IsGiven, Follows, ComesBack}
use Rattle.opt_chains.specs.stand_ins.Forwarded.{IsForwarded}
use Rattle.opt_chains.specs.stand_ins.Tables.{IsGivenTable, AreNumbersOf, AreFollowed}
use Rattle.opt_chains.proofs.StandInsLemmas.TableLemmas.{same_some, table_alike}
use Rattle.opt_chains.proofs.StandInsLemmas.FollowedLemmas.{end_is_last, holds_at_end, ends_followed, comes_back, never_back}
use Rattle.opt_chains.proofs.StandInsLemmas.ForwardedLemmas.{given_forwarded, forwarded_given, argument_live, one_forwarded, forwarded_live, argument_numbered, each_forwarded}

-- what is known of the values of a program
pub record KnowsValues {O B : Type 0} (c : Program O B) : Type 0 where
  pub definer : (e : DefiningEntity) (k : ℕ) (v : Value) → value_in (values_at c e) k ≡ Some v → v.definer ≡ e
  pub typed : (e : DefiningEntity) (k : ℕ) (v : Value) → value_in (values_at c e) k ≡ Some v → type_at c v ≡ type_in (values_at c e) k
  pub stands : (v : Value) (ty : TypeHandle) → type_at c v ≡ Some ty → StandsAtDefiner c v ty
  pub used : (v : Value) → IsUsed c v → IsLiveValue c v

module _ {O B A : Type 0} (d : Dialect (in_program O B) A) (place : StartingRegions by_handle) (c : Program O B) (op : Ptr Operation) (t : ProgramTree O B) (occurs : Occurs c op t) (values : KnowsValues c) (n : Numbers) (numbered : NumbersInside c op n)
    (js : List Join) (chains : AreChains d place c t js) (given : List (Option Value)) (table : IsGivenTable n.values (IsForwarded d c js) given) (next : List (Option ℕ)) (numbers : AreNumbersOf n.values given next) where
  to_forwarded : (v u : Value) → IsGiven d place t v u → IsForwarded d c js v u
  to_forwarded = given_forwarded d place c op t occurs js chains

  to_given : (v u : Value) → IsForwarded d c js v u → IsGiven d place t v u
  to_given = forwarded_given d place c op t occurs js chains

  given_table : IsGivenTable n.values (IsGiven d place t) given
  given_table = table_alike n.values (IsForwarded d c js) (IsGiven d place t) given to_given to_forwarded table

  one_given : (v u w : Value) → IsGiven d place t v u → IsGiven d place t v w → u ≡ w
  one_given v u w g h = one_forwarded d place c op t occurs js chains values.definer values.typed values.stands values.used v u w (to_forwarded v u g) (to_forwarded v w h)

  given_numbered : (v u : Value) → IsGiven d place t v u → Lists n.values v
  given_numbered v u g = argument_numbered d place c op t occurs js chains n numbered v u (to_forwarded v u g)

  -- following that comes back by numbers comes back
  pub circle_found : (k : ℕ) → ChasesNumbers next k k → ComesBack d place t
  circle_found = comes_back d place t n.values given given_table one_given given_numbered next numbers

  module _ (lists : HasLists c) (start : Start) (is_start : IsStartIn c start place) (edges : HasLocalEdgesFrom d.is_terminator c start) (fits : FitsEdgesFrom d c start) (lawful : Lawful d) (finals : List ℕ) (answers : AreFinals next finals) (ss : List StandIn) (found : AreFollowed n.values given finals ss) where
    -- what stands for an argument is what it is followed to
    follows : (s : StandIn) → Lists ss s → Follows d place t s.argument s.value
    follows s listed =
        let f = found.sound s listed in
        ends_followed d place t n.values given given_table one_given given_numbered next numbers f.0 f.2.end (answers.follows f.0 f.2.end f.2.followed) s.argument s.value f.2.argument f.2.value

    -- something is given to each argument for which something stands
    has_given : (s : StandIn) → Lists ss s → (u : Value) × IsGiven d place t s.argument u
    has_given s listed =
        let f = found.sound s listed in
        let g = given_table.sound f.0 f.1.0 f.1.1 in
        (f.1.0, subst (λ v. IsGiven d place t v f.1.0) (same_some (slice_get n.values f.0) g.0 s.argument g.1 f.2.argument) g.2)

    live_argument : (v u : Value) → IsGiven d place t v u → IsLiveValue c v
    live_argument v u g = argument_live d place c op t occurs js chains values.definer values.typed values.stands values.used v u (to_forwarded v u g)

    live_value : (v u : Value) → IsGiven d place t v u → IsLiveValue c u
    live_value v u g = forwarded_live d place c op t occurs js chains values.definer values.typed values.stands values.used v u (to_forwarded v u g)

    stands_for : (v u : Value) → IsGiven d place t v u → (s : StandIn) × Lists ss s × (s.argument ≡ v)
    stands_for v u g =
        let k = given_numbered v u g in
        let f = found.all k.0 (given_table.all k.0 v u k.1 g) in
        (f.0, f.1, same_some (slice_get n.values k.0) f.0.argument v f.2.argument k.1)

    stand_ins : AreStandIns d place c t js ss
    stand_ins = record {
      there = λ s listed.
          let g = has_given s listed in
          let live = live_argument s.argument g.0 g.1 in
          (live, holds_at_end d place t (IsLiveValue c) live_value s.argument s.value (follows s listed) live);
      fixed = λ s u listed other e.
          let g = has_given u other in
          end_is_last d place t s.argument s.value (follows s listed) g.0 (subst (λ v. IsGiven d place t v g.0) (sym e) g.1);
      follows = follows;
      given = λ v u g. let f = stands_for v u g in (f.0, at_has ss f.1.0 f.0 f.1.1, f.2);
      arguments = λ j listed k v at.
          let u = each_forwarded d place c op t occurs js chains lists start is_start edges fits lawful j listed k v at in
          let f = stands_for v u.0 (to_given v u.0 u.1) in
          (f.0, at_has ss f.1.0 f.0 f.1.1, f.2);
    }

    pub plan_found : IsJoiningPlan d place c t js ss
    plan_found = record {
      chains = chains;
      stand_ins = stand_ins;
      ends = never_back d place t n.values given given_table one_given given_numbered next numbers answers.never_back;
    }

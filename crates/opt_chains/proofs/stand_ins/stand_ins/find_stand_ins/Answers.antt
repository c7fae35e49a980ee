use Rattle.std.proofs.Common.{◌≡◌, ℕ, List, Option, length, slice_get, Vec, Global, sym, ap, ◌∙◌, subst, arith}
use Rattle.std.specs.Prelude.{MatchOption}
use Rattle.opt_chains.proofs.NextJoinable.{Occurs}
use Rattle.opt_chains.specs.Chained.{IsJoiningPlan}
use Rattle.opt_chains.specs.declared.merge_values.StandIn.{StandIn}
use Rattle.opt_inside.proofs.Around.{HasLists}
use Rattle.opt_inside.specs.Numbered.{numbers_of}
use Rattle.opt_rows.specs.Chains.{StepsAlong}
use Rattle.opt_solvers.specs.ChainsFollowed.{AreFinals, AreLinksInRange}
use Rattle.opt_chains.specs.stand_ins.Forwarded.{IsForwarded}
use Rattle.opt_chains.specs.stand_ins.Tables.{IsGivenTable, AreNumbersOf, AreFollowed}
use Rattle.opt_chains.proofs.StandInsLemmas.FollowedLemmas.{end_in_range, steps_in_range}
use Rattle.opt_chains.proofs.StandInsLemmas.StandInLemmas.{KnowsValues, circle_found, plan_found}
use Rattle.opt_chains.proofs.StandInsLemmas.TableLemmas.{in_length}
use Rattle.opt_chains.proofs.stand_ins.stand_ins.find_stand_ins.Goals as goal

pub forwarded_values-requires-clause-can : goal.forwarded_values-requires-clause-can
forwarded_values-requires-clause-can g c = (c.requires.chains c.requires.begins.0 c.requires.begins.1 c.know_tree.ensures.0 c.know_tree.ensures.1).joins

pub followed-requires : goal.followed-requires
followed-requires g c =
    let keys = c.args.inside.now.values.keys in
    let table : IsGivenTable keys (IsForwarded g.D.Meanings.meaning c.args.program.now c.args.joins.now) c.in_ok-given.given.items = c.in_ok-given.ensures in
    let numbers : AreNumbersOf keys c.in_ok-given.given.items c.in_ok-next.next.items = subst (λ l. AreNumbersOf keys l c.in_ok-next.next.items) c.as_slice.ensures.value c.in_ok-next.ensures in
    subst AreLinksInRange (sym c.as_slice-2.ensures.value) (steps_in_range keys c.in_ok-given.given.items c.in_ok-next.next.items numbers table.len)

pub stand_ins_at_ends-requires-clause-ends : goal.stand_ins_at_ends-requires-clause-ends
stand_ins_at_ends-requires-clause-ends g c n end h =
    let keys = c.args.inside.now.values.keys in
    let next = c.in_ok-next.next.items in
    let finals = c.in-Some.finals.items in
    let table : IsGivenTable keys (IsForwarded g.D.Meanings.meaning c.args.program.now c.args.joins.now) c.in_ok-given.given.items = c.in_ok-given.ensures in
    let numbers : AreNumbersOf keys c.in_ok-given.given.items next = subst (λ l. AreNumbersOf keys l next) c.as_slice.ensures.value c.in_ok-next.ensures in
    let range = steps_in_range keys c.in_ok-given.given.items next numbers table.len in
    let found : AreFinals c.as_slice-2.result.now finals = subst (λ (o : Option (Vec ℕ Global)). MatchOption o ((k : ℕ) × StepsAlong c.as_slice-2.result.now k k) (λ (ends : Vec ℕ Global). AreFinals c.as_slice-2.result.now ends.items)) c.in-Some.is c.in_ok-finals.ensures in
    let answers : AreFinals next finals = subst (λ l. AreFinals l finals) c.as_slice-2.ensures.value found in
    let at = ap (λ l. slice_get l n) (sym c.as_slice-4.ensures.value) ∙ h in
    let less = in_length finals n end at in
    let within = end_in_range next range n end (answers.follows n end at) (omega (arith, less, answers.len)) in
    let len = ap length c.as_slice-3.ensures.value in
    omega (arith, within, numbers.len, len)

pub returns-in_default-clause-circle : goal.returns-in_default-clause-circle
returns-in_default-clause-circle g c e p begins t stands =
    let keys = c.args.inside.now.values.keys in
    let next = c.in_ok-next.next.items in
    let table : IsGivenTable keys (IsForwarded g.D.Meanings.meaning c.args.program.now c.args.joins.now) c.in_ok-given.given.items = c.in_ok-given.ensures in
    let numbers : AreNumbersOf keys c.in_ok-given.given.items next = subst (λ l. AreNumbersOf keys l next) c.as_slice.ensures.value c.in_ok-next.ensures in
    let found : (k : ℕ) × StepsAlong c.as_slice-2.result.now k k = subst (λ (o : Option (Vec ℕ Global)). MatchOption o ((k : ℕ) × StepsAlong c.as_slice-2.result.now k k) (λ (ends : Vec ℕ Global). AreFinals c.as_slice-2.result.now ends.items)) c.in_default.is c.in_ok-finals.ensures in
    let circle : (k : ℕ) × StepsAlong next k k = subst (λ (l : List (Option ℕ)). (k : ℕ) × StepsAlong l k k) c.as_slice-2.ensures.value found in
    let occurs : Occurs c.args.program.now c.args.op t = record {
      sound = c.know_occurrences.ensures.sound t stands;
      found = c.know_occurrences.ensures.found t stands;
      one = c.know_occurrences.ensures.one t stands;
      blocks_sound = c.know_occurrences.ensures.blocks_sound t stands;
      blocks_found = c.know_occurrences.ensures.blocks_found t stands;
      blocks_one = c.know_occurrences.ensures.blocks_one t stands;
      site = c.know_occurrences.ensures.site t stands;
      operations = c.know_occurrences.ensures.operations t stands;
    } in
    let values : KnowsValues c.args.program.now = record { definer = c.know_values.ensures.definer; typed = c.know_values.ensures.typed; stands = c.know_values.ensures.stands; used = c.know_values.ensures.used } in
    circle_found g.D.Meanings.meaning p c.args.program.now c.args.op t occurs values (numbers_of c.args.inside.now) c.requires.numbered c.args.joins.now (c.requires.chains p begins t stands) c.in_ok-given.given.items table next numbers circle.0 circle.1

pub returns-clause-plan : goal.returns-clause-plan
returns-clause-plan g c found e p begins t stands =
    let lists : HasLists c.args.program.now = assumption c.know_lists.ensures in
    let keys = c.args.inside.now.values.keys in
    let given = c.in_ok-given.given.items in
    let next = c.in_ok-next.next.items in
    let finals = c.in-Some.finals.items in
    let table : IsGivenTable keys (IsForwarded g.D.Meanings.meaning c.args.program.now c.args.joins.now) given = c.in_ok-given.ensures in
    let numbers : AreNumbersOf keys given next = subst (λ l. AreNumbersOf keys l next) c.as_slice.ensures.value c.in_ok-next.ensures in
    let ended : AreFinals c.as_slice-2.result.now finals = subst (λ (o : Option (Vec ℕ Global)). MatchOption o ((k : ℕ) × StepsAlong c.as_slice-2.result.now k k) (λ (ends : Vec ℕ Global). AreFinals c.as_slice-2.result.now ends.items)) c.in-Some.is c.in_ok-finals.ensures in
    let answers : AreFinals next finals = subst (λ l. AreFinals l finals) c.as_slice-2.ensures.value ended in
    let followed : AreFollowed keys given finals c.in_ok-found.found.items = subst (λ l. AreFollowed keys given l c.in_ok-found.found.items) c.as_slice-4.ensures.value
    (subst (λ l. AreFollowed keys l c.as_slice-4.result.now c.in_ok-found.found.items) c.as_slice-3.ensures.value
    (subst (λ l. AreFollowed l c.as_slice-3.result.now c.as_slice-4.result.now c.in_ok-found.found.items) c.as_slice-values.ensures.keys c.in_ok-found.ensures)) in
    let occurs : Occurs c.args.program.now c.args.op t = record {
      sound = c.know_occurrences.ensures.sound t stands;
      found = c.know_occurrences.ensures.found t stands;
      one = c.know_occurrences.ensures.one t stands;
      blocks_sound = c.know_occurrences.ensures.blocks_sound t stands;
      blocks_found = c.know_occurrences.ensures.blocks_found t stands;
      blocks_one = c.know_occurrences.ensures.blocks_one t stands;
      site = c.know_occurrences.ensures.site t stands;
      operations = c.know_occurrences.ensures.operations t stands;
    } in
    let values : KnowsValues c.args.program.now = record { definer = c.know_values.ensures.definer; typed = c.know_values.ensures.typed; stands = c.know_values.ensures.stands; used = c.know_values.ensures.used } in
    let same : c.in_ok-found.found ≡ found = cc in
    subst (λ (x : Vec StandIn Global). IsJoiningPlan g.D.Meanings.meaning p c.args.program.now t c.args.joins.now x.items) same
    (plan_found g.D.Meanings.meaning p c.args.program.now c.args.op t occurs values (numbers_of c.args.inside.now) c.requires.numbered c.args.joins.now (c.requires.chains p begins t stands) given table next numbers
    lists c.args._start begins c.requires.edges c.requires.fits g.met.D.OptDialect.lawful finals answers c.in_ok-found.found.items followed)

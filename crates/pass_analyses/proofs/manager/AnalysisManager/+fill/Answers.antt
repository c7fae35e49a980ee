use Rattle.std.proofs.Common.{rules, ◌≡◌, ◌<◌, ◌≤◌, [], ◌++◌, None, length, refl, arith, ◌∙◌, get_or}
use Rattle.pass_analyses.specs.Cached.{cached}
use Rattle.pass_analyses.specs.Filled.{there}
use Rattle.pass_analyses.proofs.Filling.{filled_none, filled_more, filled_end, there_end, higher_end, added_end, added_twice}
use Rattle.pass_analyses.proofs.manager.AnalysisManager.+fill.Goals as goal

pub returns-then-has-clause-filled : goal.returns-then-has-clause-filled
returns-then-has-clause-filled g t c = there (search rules)

pub loop-need-init : goal.loop-need-init
loop-need-init g t c = (filled_none, refl)

pub loop-need-preserved : goal.loop-need-preserved
loop-need-preserved g t c =
    let item = c.need-item.result in
    let is : get_or c.needs-need-items.result.now c.loop-need.need-index item ≡ item = search rules in
    let listed : get_or (g.E.Analysis.reading.needed c.args.kind) c.loop-need.need-index item ≡ item = search rules in
    let within : c.loop-need.need-index < length c.needs-need-items.result.now = search rules in
    let lower : g.E.Analysis.reading.rank_of item < g.E.Analysis.reading.rank_of c.args.kind =
    g.met.E.Analysis.ranked c.args.kind item (c.loop-need.need-index, search rules, listed) in
    let done = c.in_ok-fill.ensures in (
      filled_more item within is lower c.loop-need.invariant.0 done.filled done.there done.higher done.added.0 done.added.1,
      done.data ∙ c.loop-need.invariant.1,
    )

pub returns-in_err-fill-clause-higher : goal.returns-in_err-fill-clause-higher
returns-in_err-fill-clause-higher g t c j above none =
    let item = c.need-item.result in
    let listed : get_or (g.E.Analysis.reading.needed c.args.kind) c.loop-need.need-index item ≡ item = search rules in
    let lower : g.E.Analysis.reading.rank_of item < g.E.Analysis.reading.rank_of c.args.kind =
    g.met.E.Analysis.ranked c.args.kind item (c.loop-need.need-index, search rules, listed) in
    c.fill.ensures.higher j (omega arith) (c.loop-need.invariant.0.higher j (omega arith) none)

pub returns-in_err-fill-clause-added : goal.returns-in_err-fill-clause-added
returns-in_err-fill-clause-added g t c =
    let before = c.loop-need.invariant.0.added in
    let after = c.fill.ensures.added in
    (before.0 ++ after.0, added_twice _ _ _ _ _ before.1 after.1)

pub returns-in_err-fill-clause-data : goal.returns-in_err-fill-clause-data
returns-in_err-fill-clause-data g t c = c.fill.ensures.data ∙ c.loop-need.invariant.1

pub compute_alone-requires-clause-needs : goal.compute_alone-requires-clause-needs
compute_alone-requires-clause-needs g t c _ _ k h =
    let far : length c.needs-need-items.result.now ≤ c.loop-need.need-index = search rules in
    let same : c.needs-need-items.result.now ≡ g.E.Analysis.reading.needed c.args.kind = c.needs-need-items.ensures in
    let longer : length (g.E.Analysis.reading.needed c.args.kind) ≤ c.loop-need.need-index = rw same at far in
    let within : h.0 < length (g.E.Analysis.reading.needed c.args.kind) = h.1 in
    c.loop-need.invariant.0.there h.0 k (omega arith) (rw same h.2)

pub compute_alone-requires-clause-absent : goal.compute_alone-requires-clause-absent
compute_alone-requires-clause-absent g t c _ _ =
    let absent : cached g.E.Kind.PartialEq.eq c.args.self.now.analyses.entries.entries c.args.kind c.args.op ≡ None = search rules in
    c.loop-need.invariant.0.higher c.args.kind (search rules) absent

pub returns-clause-filled : goal.returns-clause-filled
returns-clause-filled g t c =
    let absent : cached g.E.Kind.PartialEq.eq c.args.self.now.analyses.entries.entries c.args.kind c.args.op ≡ None = search rules in
    filled_end g.E.Kind.PartialEq.eq g.met.E.Kind.Eq.laws g.met.E.Analysis.same_kinds (search rules) c.needs-need-items.ensures c.loop-need.invariant.0
    absent c.compute_alone.result _ c.compute_alone.ensures.ok c.compute_alone.ensures.err

pub returns-clause-there : goal.returns-clause-there
returns-clause-there g t c =
    let absent : cached g.E.Kind.PartialEq.eq c.args.self.now.analyses.entries.entries c.args.kind c.args.op ≡ None = search rules in
    there_end g.E.Kind.PartialEq.eq g.met.E.Kind.Eq.laws g.met.E.Analysis.same_kinds (search rules) c.needs-need-items.ensures c.loop-need.invariant.0
    absent c.compute_alone.result _ c.compute_alone.ensures.ok c.compute_alone.ensures.err

pub returns-clause-higher : goal.returns-clause-higher
returns-clause-higher g t c =
    let absent : cached g.E.Kind.PartialEq.eq c.args.self.now.analyses.entries.entries c.args.kind c.args.op ≡ None = search rules in
    higher_end g.E.Kind.PartialEq.eq g.met.E.Kind.Eq.laws g.met.E.Analysis.same_kinds (search rules) c.needs-need-items.ensures c.loop-need.invariant.0
    absent c.compute_alone.result _ c.compute_alone.ensures.ok c.compute_alone.ensures.err

pub returns-clause-added : goal.returns-clause-added
returns-clause-added g t c =
    let absent : cached g.E.Kind.PartialEq.eq c.args.self.now.analyses.entries.entries c.args.kind c.args.op ≡ None = search rules in
    added_end g.E.Kind.PartialEq.eq g.met.E.Kind.Eq.laws g.met.E.Analysis.same_kinds (search rules) c.needs-need-items.ensures c.loop-need.invariant.0
    absent c.compute_alone.result _ c.compute_alone.ensures.ok c.compute_alone.ensures.err

pub returns-clause-data : goal.returns-clause-data
returns-clause-data g t c = c.compute_alone.ensures.data ∙ c.loop-need.invariant.1

pub returns-then-has-clause-added : goal.returns-then-has-clause-added
returns-then-has-clause-added g t c = ([], search rules)

pub fill-requires : goal.fill-requires
fill-requires g t c κs within =
    let item = c.need-item.result in
    let listed : get_or (g.E.Analysis.reading.needed c.args.kind) c.loop-need.need-index item ≡ item = search rules in
    let lower : g.E.Analysis.reading.rank_of item < g.E.Analysis.reading.rank_of c.args.kind =
    g.met.E.Analysis.ranked c.args.kind item (c.loop-need.need-index, search rules, listed) in
    search (rules, lower)

use Rattle.std.proofs.Common.{◌+◌, ◌∙◌, [], drop, Err, refl, sym, subst, ap, arith}
use Rattle.std.proofs.Math.ListN.{drop_of_length-le}
use Rattle.ir_characters.specs.Texts.{codes_of}
use Rattle.ir_grammar.specs.declared.grammar.Event.TheVariants.{Did}
use Rattle.ir_tokens.specs.Tokens.{text_between}
use Rattle.text_dialect.specs.Seen.{seen}
use Rattle.text_frames.proofs.BuildingLemmas.Discarded.{used_since}
use Rattle.text_frames.proofs.BuildingLemmas.Numbers.{erased_both}
use Rattle.text_frames.proofs.BuildingLemmas.Payloads.{payloads_both, payloads_none}
use Rattle.text_frames.proofs.BuildingLemmas.Shown.{payloads_since}
use Rattle.text_frames.proofs.Rising.{get_there}
use Rattle.text_assembling.specs.Assembling.{stage}
use Rattle.text_assembling.specs.declared.assembling.Assembler.{Assembler}
use Rattle.text_assembling.proofs.Gathering.{Gathers, errors_same, gathers_can, gathers_first, gathers_full, gathers_last, gathers_next, gathers_refused, gathers_sound, rest_at, took_so}
use Rattle.text_assembling.proofs.Undone.{erased_same, err_at, held_undone, ok_unless, on_err_any, seen_same}
use Rattle.text_assembling.proofs.assembling.assemble.Goals as goal

pub loop-index-init : goal.loop-index-init
loop-index-init g c = record {
  taken = rw c.in_ok-assembler.ensures.taken (omega arith);
  gathers = gathers_first g.D.TextDialect.says g.D.TextDialect.values (text_between (codes_of c.args.source.chars) c.args.source.starts.now) (stage c.reserve.new.self) c.in_ok-assembler.assembler c.args.events.now
      c.in_ok-assembler.ensures (rw c.reserve.ensures.same c.know_seen.ensures.named) c.requires.nests c.requires.spelt;
  erased = erased_same _ _ refl;
  payloads = payloads_none _;
}

pub take-requires-clause-going : goal.take-requires-clause-going
take-requires-clause-going g c x at =
    let es = c.args.events.now in
    let i = c.loop-index.index in
    let text = text_between (codes_of c.args.source.chars) c.args.source.starts.now in
    record { can = gathers_can g.D.TextDialect.says g.D.TextDialect.values text (seen c.reserve.new.self) c.reserve.new.self.program.counter (stage c.loop-index.ctx) c.loop-index.assembler es (drop (i + 1) es) x (rest_at g.D.TextDialect.says g.D.TextDialect.values text (seen c.reserve.new.self) c.reserve.new.self.program.counter (stage c.loop-index.ctx) c.loop-index.assembler es i (Did x) at c.loop-index.invariant.gathers) }

pub loop-index-preserved : goal.loop-index-preserved
loop-index-preserved g c =
    let es = c.args.events.now in
    let i = c.loop-index.index in
    let text = text_between (codes_of c.args.source.chars) c.args.source.starts.now in
    let e = get_there es i c.loop-index-test.true in
    let now = c.loop-index.invariant in
    record {
      taken = took_so es i c.loop-index.assembler.taken c.take.new.self.taken e.0 e.1 now.taken (λ at. ap (λ (b : Assembler g.row.D.Denot g.row.D-OpKind.Denot g.row.D-Attr.Denot g.row.D-TypeKey.Denot). b.taken) (c.take.ensures.took at).0) (λ x at. (c.take.ensures.did x at).0);
      gathers = gathers_next g.D.TextDialect.says g.D.TextDialect.values text (seen c.reserve.new.self) c.reserve.new.self.program.counter (stage c.loop-index.ctx) c.loop-index.assembler es i (stage c.take.new.ctx) c.take.new.self e.0 e.1
          (λ at. let w = c.take.ensures.took at in (w.0, ap stage w.1))
          (λ x at. let w = c.take.ensures.did x at in (w.0, (ok_unless c.take.result c.in_default.not-Err w.1).steps))
          now.gathers;
      erased = erased_both _ _ _ now.erased c.take.ensures.erased;
      payloads = payloads_both _ _ _ now.payloads c.take.ensures.payloads;
    }

pub discard-requires-clause-loose : goal.discard-requires-clause-loose
discard-requires-clause-loose g c =
    let undoes = err_at c.take.result c.in-Err.fault c.in-Err.is c.take.ensures.undone in
    let held = held_undone (seen c.reserve.new.self) (seen c.loop-index.ctx) (seen c.take.new.ctx) c.loop-index.assembler c.take.new.self undoes.undone c.loop-index.invariant.gathers.at.made.held in
    rw c.deref.ensures.value held.loose

pub discard-requires-clause-used : goal.discard-requires-clause-used
discard-requires-clause-used g c =
    let undoes = err_at c.take.result c.in-Err.fault c.in-Err.is c.take.ensures.undone in
    let held = held_undone (seen c.reserve.new.self) (seen c.loop-index.ctx) (seen c.take.new.ctx) c.loop-index.assembler c.take.new.self undoes.undone c.loop-index.invariant.gathers.at.made.held in
    rw c.deref.ensures.value (used_since _ _ _ held.came)

pub returns-in-Err-clause-undone : goal.returns-in-Err-clause-undone
returns-in-Err-clause-undone g c = rw (sym c.reserve.ensures.same)
    (let undoes = err_at c.take.result c.in-Err.fault c.in-Err.is c.take.ensures.undone in
    let held = held_undone (seen c.reserve.new.self) (seen c.loop-index.ctx) (seen c.take.new.ctx) c.loop-index.assembler c.take.new.self undoes.undone c.loop-index.invariant.gathers.at.made.held in
    c.discard.ensures.undone (seen c.reserve.new.self) (rw c.deref.ensures.value held.came))

pub returns-in-Err-clause-refused : goal.returns-in-Err-clause-refused
returns-in-Err-clause-refused g c f e =
    let es = c.args.events.now in
    let i = c.loop-index.index in
    let text = text_between (codes_of c.args.source.chars) c.args.source.starts.now in
    let wrong = c.take.ensures.refused f (c.in-Err.is ∙ ap Err (errors_same e)) in
    gathers_refused g.D.TextDialect.says g.D.TextDialect.values text (seen c.reserve.new.self) c.reserve.new.self.program.counter (stage c.loop-index.ctx) c.loop-index.assembler es (drop (i + 1) es) wrong.0 (rest_at g.D.TextDialect.says g.D.TextDialect.values text (seen c.reserve.new.self) c.reserve.new.self.program.counter (stage c.loop-index.ctx) c.loop-index.assembler es i (Did wrong.0) wrong.1 c.loop-index.invariant.gathers) f wrong.2.fails

pub returns-in-Err-clause-full : goal.returns-in-Err-clause-full
returns-in-Err-clause-full g c e = rw (sym c.reserve.ensures.same)
    (let es = c.args.events.now in
    let i = c.loop-index.index in
    let text = text_between (codes_of c.args.source.chars) c.args.source.starts.now in
    let wrong = c.take.ensures.full (c.in-Err.is ∙ ap Err (errors_same e)) in
    gathers_full g.D.TextDialect.says g.D.TextDialect.values text (seen c.reserve.new.self) c.reserve.new.self.program.counter (stage c.loop-index.ctx) c.loop-index.assembler es (drop (i + 1) es) wrong.0 (rest_at g.D.TextDialect.says g.D.TextDialect.values text (seen c.reserve.new.self) c.reserve.new.self.program.counter (stage c.loop-index.ctx) c.loop-index.assembler es i (Did wrong.0) wrong.1 c.loop-index.invariant.gathers) wrong.2.fills)

pub returns-in-Err-clause-erased : goal.returns-in-Err-clause-erased
returns-in-Err-clause-erased g c = rw (sym c.reserve.ensures.same)
    (erased_both _ _ _ (erased_both _ _ _ c.loop-index.invariant.erased c.take.ensures.erased) c.discard.ensures.erased)

pub returns-in-Err-clause-payloads : goal.returns-in-Err-clause-payloads
returns-in-Err-clause-payloads g c = rw (sym c.reserve.ensures.same)
    (let undoes = err_at c.take.result c.in-Err.fault c.in-Err.is c.take.ensures.undone in
    let held = held_undone (seen c.reserve.new.self) (seen c.loop-index.ctx) (seen c.take.new.ctx) c.loop-index.assembler c.take.new.self undoes.undone c.loop-index.invariant.gathers.at.made.held in
    payloads_since c.reserve.new.self c.take.new.ctx c.discard.new.ctx (payloads_both _ _ _ c.loop-index.invariant.payloads c.take.ensures.payloads)
    (c.discard.ensures.payloads (seen c.reserve.new.self) (rw c.deref.ensures.value held.came.old)))

pub returns-clause-made : goal.returns-clause-made
returns-clause-made g c leads = rw (sym c.reserve.ensures.same)
    (let es = c.args.events.now in
    let i = c.loop-index.index in
    let text = text_between (codes_of c.args.source.chars) c.args.source.starts.now in
    gathers_last g.D.TextDialect.says g.D.TextDialect.values text (seen c.reserve.new.self) c.reserve.new.self.program.counter (stage c.loop-index.ctx) c.loop-index.assembler es leads
    (subst (λ rest. Gathers g.D.TextDialect.says g.D.TextDialect.values text (seen c.reserve.new.self) c.reserve.new.self.program.counter (stage c.loop-index.ctx) c.loop-index.assembler es rest) (drop_of_length-le es (omega (arith, c.loop-index-test.false))) c.loop-index.invariant.gathers))

pub returns-clause-held : goal.returns-clause-held
returns-clause-held g c = rw (sym c.reserve.ensures.same)
    (c.loop-index.invariant.gathers.at.made.held)

pub returns-clause-sound : goal.returns-clause-sound
returns-clause-sound g c =
    let es = c.args.events.now in
    let i = c.loop-index.index in
    let text = text_between (codes_of c.args.source.chars) c.args.source.starts.now in
    gathers_sound g.D.TextDialect.says g.D.TextDialect.values text (seen c.reserve.new.self) c.reserve.new.self.program.counter (stage c.loop-index.ctx) c.loop-index.assembler es []
    (subst (λ rest. Gathers g.D.TextDialect.says g.D.TextDialect.values text (seen c.reserve.new.self) c.reserve.new.self.program.counter (stage c.loop-index.ctx) c.loop-index.assembler es rest) (drop_of_length-le es (omega (arith, c.loop-index-test.false))) c.loop-index.invariant.gathers)

pub returns-in_err-assembler-clause-undone : goal.returns-in_err-assembler-clause-undone
returns-in_err-assembler-clause-undone g c = rw (sym c.reserve.ensures.same) (on_err_any _ (seen_same _))

pub returns-in_err-assembler-clause-erased : goal.returns-in_err-assembler-clause-erased
returns-in_err-assembler-clause-erased g c = rw (sym c.reserve.ensures.same) (erased_same _ _ refl)

pub returns-in_err-assembler-clause-payloads : goal.returns-in_err-assembler-clause-payloads
returns-in_err-assembler-clause-payloads g c = rw (sym c.reserve.ensures.same) (payloads_none _)

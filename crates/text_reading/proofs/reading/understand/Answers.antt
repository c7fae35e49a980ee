use Rattle.std.proofs.Common.{false, ◌≡◌, ◌∙◌, ◌≤◌, ◌+◌, ◌^◌, length, refl, sym, ap, subst, [], Err}
use Rattle.ir_characters.specs.Texts.{codes_of}
use Rattle.ir_tokens.specs.declared.faults.TextFault.TheVariants.{CounterFull}
use Rattle.std.proofs.lemmas.Result.{IfOk-at_ok, MatchResult-at_ok}
use Rattle.text_dialect.specs.Seen.{seen}
use Rattle.text_frames.proofs.BuildingLemmas.Numbers.{erased_both}
use Rattle.text_frames.proofs.BuildingLemmas.Shown.{payloads_since}
use Rattle.ir_grammar.specs.Nesting.{at_root, at_end, Nests, OwnTokens}
use Rattle.ir_forest.specs.Progress.{Leads}
use Rattle.ir_forest.specs.Identifiers.{AreSpelt}
use Rattle.ir_tokens.specs.Tokens.{text_between}
use Rattle.ir_formats.specs.Words.{token_text}
use Rattle.ir_formats.proofs.Between.{texts_stand}
use Rattle.ir_formats.proofs.Ordered.{own_tokens}
use Rattle.ir_scopes.specs.Naming.{defined_from}
use Rattle.ir_scopes.specs.Scopes.{definitions, IsResolved, IsScopeFault}
use Rattle.ir_rereading.specs.Texts.{language_of}
use Rattle.ir_rereading.proofs.trees.DefinedTokens.{many_defined}
use Rattle.ir_rereading.proofs.verdicts.Identifiers.{reading_spelt}
use Rattle.ir_rereading.proofs.verdicts.TextReadings.{read_in_order, read_whole}
use Rattle.text_dialect.specs.formats.Isolated.{is_isolated}
use Rattle.text_frames.specs.Raised.{names_in, HoldsAllNew, IsAssembled}
use Rattle.text_reading.proofs.Judged.{judged_so}
use Rattle.text_reading.proofs.Understood.{can_link_all, answers_read}
use Rattle.text_reading.proofs.reading.understand.Goals as goal

pub assemble-assembled-requires-clause-nests : goal.assemble-assembled-requires-clause-nests
assemble-assembled-requires-clause-nests g c =
    let d = g.D.TextDialect in
    let l = language_of d.formats d.kind_at (is_isolated g.D.DialectTables.op_has) d.values in
    let cs = codes_of c.args.source.chars in
    let ts = c.requires.reading.0 in
    let names = c.args.names in
    let r = c.args.reading.now in
    let es = r.events.items in
    let text = token_text cs ts in
    let written : text_between cs c.args.source.starts.now ≡ text = ap (text_between cs) c.requires.reading.1 ∙ texts_stand cs ts c.requires.reading.2.tokens in
    let order = read_in_order l g.D.ReadDialect.leads g.met.D.ReadDialect.ordered cs ts names r.taken es r.stop c.requires.reading.2 in
    subst (λ z. Nests at_root [] z) (sym c.deref-2.ensures.value) order.nests

pub assemble-assembled-requires-clause-spelt : goal.assemble-assembled-requires-clause-spelt
assemble-assembled-requires-clause-spelt g c =
    let d = g.D.TextDialect in
    let l = language_of d.formats d.kind_at (is_isolated g.D.DialectTables.op_has) d.values in
    let cs = codes_of c.args.source.chars in
    let ts = c.requires.reading.0 in
    let names = c.args.names in
    let r = c.args.reading.now in
    let es = r.events.items in
    let text = token_text cs ts in
    let written : text_between cs c.args.source.starts.now ≡ text = ap (text_between cs) c.requires.reading.1 ∙ texts_stand cs ts c.requires.reading.2.tokens in
    subst (λ z. AreSpelt z 0 c.deref-2.result.now) (sym written)
    (subst (λ z. AreSpelt text 0 z) (sym c.deref-2.ensures.value) (reading_spelt l cs ts names r.stop r.taken es c.requires.reading.2))

pub resolve-resolved-requires : goal.resolve-resolved-requires
resolve-resolved-requires g c =
    let d = g.D.TextDialect in
    let l = language_of d.formats d.kind_at (is_isolated g.D.DialectTables.op_has) d.values in
    let cs = codes_of c.args.source.chars in
    let r = c.args.reading.now in
    let es = r.events.items in
    let order = read_in_order l g.D.ReadDialect.leads g.met.D.ReadDialect.ordered cs c.requires.reading.0 c.args.names r.taken es r.stop c.requires.reading.2 in
    subst (λ z. OwnTokens false z) (sym c.deref.ensures.value) (own_tokens es order.follows)

pub undo-requires : goal.undo-requires
undo-requires g c = record { held = (seen c.args.ctx.now, c.assemble-assembled.ensures.held) }

pub returns-in-Err-clause-fault : goal.returns-in-Err-clause-fault
returns-in-Err-clause-fault g c =
    let d = g.D.TextDialect in
    let l = language_of d.formats d.kind_at (is_isolated g.D.DialectTables.op_has) d.values in
    let cs = codes_of c.args.source.chars in
    let ts = c.requires.reading.0 in
    let names = c.args.names in
    let r = c.args.reading.now in
    let es = r.events.items in
    let text = token_text cs ts in
    let written : text_between cs c.args.source.starts.now ≡ text = ap (text_between cs) c.requires.reading.1 ∙ texts_stand cs ts c.requires.reading.2.tokens in
    let found = c.resolve-resolved.ensures.resolved in
    let judged = judged_so l g.D.ReadDialect.leads g.met.D.ReadDialect.ordered cs ts names r c.deref-2.result.now c.deref.result.now c.assemble-assembled.result c.resolve-resolved.result
    (text_between cs c.args.source.starts.now) written c.deref-2.ensures.value c.deref.ensures.value c.requires.reading.2 c.requires.deep c.assemble-assembled.ensures.sound c.assemble-assembled.ensures.refused found in
    c.in-Err.ensures.fault l ts names c.requires.reading.1 judged

pub returns-in-Err-clause-full : goal.returns-in-Err-clause-full
returns-in-Err-clause-full g c = λ e.
    let d = g.D.TextDialect in
    let l = language_of d.formats d.kind_at (is_isolated g.D.DialectTables.op_has) d.values in
    let cs = codes_of c.args.source.chars in
    let ts = c.requires.reading.0 in
    let names = c.args.names in
    let r = c.args.reading.now in
    let es = r.events.items in
    let text = token_text cs ts in
    let written : text_between cs c.args.source.starts.now ≡ text = ap (text_between cs) c.requires.reading.1 ∙ texts_stand cs ts c.requires.reading.2.tokens in
    let same : c.in-Err.fault ≡ CounterFull = cc in
    let full = c.assemble-assembled.ensures.full (c.in-Err.ensures.full (ap (λ x. Err x) same)) in
    let n = length (definitions l.isolated es) in
    let many : length (defined_from 0 c.deref-2.result.now) ≡ n = ap (λ z. length (defined_from 0 z)) c.deref-2.ensures.value ∙ many_defined l.isolated es in
    (n, (ts, names, r.stop, r.taken, es, c.requires.reading.2, refl), subst (λ z. 2 ^ 64 ≤ c.args.ctx.now.program.counter + z) many full)

pub connect-requires-clause-waiting : goal.connect-requires-clause-waiting
connect-requires-clause-waiting g c =
    let d = g.D.TextDialect in
    let l = language_of d.formats d.kind_at (is_isolated g.D.DialectTables.op_has) d.values in
    let cs = codes_of c.args.source.chars in
    let ts = c.requires.reading.0 in
    let names = c.args.names in
    let r = c.args.reading.now in
    let es = r.events.items in
    let text = token_text cs ts in
    let written : text_between cs c.args.source.starts.now ≡ text = ap (text_between cs) c.requires.reading.1 ∙ texts_stand cs ts c.requires.reading.2.tokens in
    let found = c.resolve-resolved.ensures.resolved in
    let judged = judged_so l g.D.ReadDialect.leads g.met.D.ReadDialect.ordered cs ts names r c.deref-2.result.now c.deref.result.now c.assemble-assembled.result c.resolve-resolved.result
    (text_between cs c.args.source.starts.now) written c.deref-2.ensures.value c.deref.ensures.value c.requires.reading.2 c.requires.deep c.assemble-assembled.ensures.sound c.assemble-assembled.ensures.refused found in
    let none = c.in_default.ensures.none l ts names c.requires.reading.1 judged in
    let leads = read_whole l g.D.ReadDialect.leads g.met.D.ReadDialect.ordered cs ts names r.taken es r.stop c.requires.reading.2 none in
    let order = read_in_order l g.D.ReadDialect.leads g.met.D.ReadDialect.ordered cs ts names r.taken es r.stop c.requires.reading.2 in
    let own = own_tokens es order.follows in
    let resolution = c.in-Ok-resolved.resolution in
    let resolved = subst (λ z. IsResolved l.isolated names z resolution) c.deref.ensures.value
    (MatchResult-at_ok (IsResolved l.isolated names c.deref.result.now) (IsScopeFault l.isolated names c.deref.result.now) resolution c.in-Ok-resolved.is found) in
    let many = IfOk-at_ok (λ z. length z.definitions ≡ length names) c.in-Ok-resolved.is c.resolve-resolved.ensures.many in
    let start = seen c.args.ctx.now in
    let s = seen c.assemble-assembled.new.ctx in
    let first = c.args.ctx.now.program.counter in
    let next = c.assemble-assembled.new.ctx.program.counter in
    let a = c.in-Ok.assembly in
    let to = subst (λ z. Leads at_root [] z at_end []) (sym c.deref-2.ensures.value) leads in
    let made = subst (λ z. IsAssembled d.says d.values z start s first next a es) written
    (subst (IsAssembled d.says d.values (text_between cs c.args.source.starts.now) start s first next a) c.deref-2.ensures.value
    (IfOk-at_ok (λ z. IsAssembled d.says d.values (text_between cs c.args.source.starts.now) start s first next z c.deref-2.result.now) c.in-Ok.is (c.assemble-assembled.ensures.made to))) in
    let held = IfOk-at_ok (λ z. HoldsAllNew start s z.loose.items) c.in-Ok.is c.assemble-assembled.ensures.held in
    (start, names_in es, made.operands, held)

pub connect-requires-clause-meant : goal.connect-requires-clause-meant
connect-requires-clause-meant g c =
    let d = g.D.TextDialect in
    let l = language_of d.formats d.kind_at (is_isolated g.D.DialectTables.op_has) d.values in
    let cs = codes_of c.args.source.chars in
    let ts = c.requires.reading.0 in
    let names = c.args.names in
    let r = c.args.reading.now in
    let es = r.events.items in
    let text = token_text cs ts in
    let written : text_between cs c.args.source.starts.now ≡ text = ap (text_between cs) c.requires.reading.1 ∙ texts_stand cs ts c.requires.reading.2.tokens in
    let found = c.resolve-resolved.ensures.resolved in
    let judged = judged_so l g.D.ReadDialect.leads g.met.D.ReadDialect.ordered cs ts names r c.deref-2.result.now c.deref.result.now c.assemble-assembled.result c.resolve-resolved.result
    (text_between cs c.args.source.starts.now) written c.deref-2.ensures.value c.deref.ensures.value c.requires.reading.2 c.requires.deep c.assemble-assembled.ensures.sound c.assemble-assembled.ensures.refused found in
    let none = c.in_default.ensures.none l ts names c.requires.reading.1 judged in
    let leads = read_whole l g.D.ReadDialect.leads g.met.D.ReadDialect.ordered cs ts names r.taken es r.stop c.requires.reading.2 none in
    let order = read_in_order l g.D.ReadDialect.leads g.met.D.ReadDialect.ordered cs ts names r.taken es r.stop c.requires.reading.2 in
    let own = own_tokens es order.follows in
    let resolution = c.in-Ok-resolved.resolution in
    let resolved = subst (λ z. IsResolved l.isolated names z resolution) c.deref.ensures.value
    (MatchResult-at_ok (IsResolved l.isolated names c.deref.result.now) (IsScopeFault l.isolated names c.deref.result.now) resolution c.in-Ok-resolved.is found) in
    let many = IfOk-at_ok (λ z. length z.definitions ≡ length names) c.in-Ok-resolved.is c.resolve-resolved.ensures.many in
    let start = seen c.args.ctx.now in
    let s = seen c.assemble-assembled.new.ctx in
    let first = c.args.ctx.now.program.counter in
    let next = c.assemble-assembled.new.ctx.program.counter in
    let a = c.in-Ok.assembly in
    let to = subst (λ z. Leads at_root [] z at_end []) (sym c.deref-2.ensures.value) leads in
    let made = subst (λ z. IsAssembled d.says d.values z start s first next a es) written
    (subst (IsAssembled d.says d.values (text_between cs c.args.source.starts.now) start s first next a) c.deref-2.ensures.value
    (IfOk-at_ok (λ z. IsAssembled d.says d.values (text_between cs c.args.source.starts.now) start s first next z c.deref-2.result.now) c.in-Ok.is (c.assemble-assembled.ensures.made to))) in
    let held = IfOk-at_ok (λ z. HoldsAllNew start s z.loose.items) c.in-Ok.is c.assemble-assembled.ensures.held in
    can_link_all l cs ts names r.stop r.taken es resolution c.requires.reading.2 leads own resolved c.requires.reading.2.numbered many d.says start s first next a made

pub connect-requires-clause-root : goal.connect-requires-clause-root
connect-requires-clause-root g c =
    let d = g.D.TextDialect in
    let l = language_of d.formats d.kind_at (is_isolated g.D.DialectTables.op_has) d.values in
    let cs = codes_of c.args.source.chars in
    let ts = c.requires.reading.0 in
    let names = c.args.names in
    let r = c.args.reading.now in
    let es = r.events.items in
    let text = token_text cs ts in
    let written : text_between cs c.args.source.starts.now ≡ text = ap (text_between cs) c.requires.reading.1 ∙ texts_stand cs ts c.requires.reading.2.tokens in
    let found = c.resolve-resolved.ensures.resolved in
    let judged = judged_so l g.D.ReadDialect.leads g.met.D.ReadDialect.ordered cs ts names r c.deref-2.result.now c.deref.result.now c.assemble-assembled.result c.resolve-resolved.result
    (text_between cs c.args.source.starts.now) written c.deref-2.ensures.value c.deref.ensures.value c.requires.reading.2 c.requires.deep c.assemble-assembled.ensures.sound c.assemble-assembled.ensures.refused found in
    let none = c.in_default.ensures.none l ts names c.requires.reading.1 judged in
    let leads = read_whole l g.D.ReadDialect.leads g.met.D.ReadDialect.ordered cs ts names r.taken es r.stop c.requires.reading.2 none in
    let order = read_in_order l g.D.ReadDialect.leads g.met.D.ReadDialect.ordered cs ts names r.taken es r.stop c.requires.reading.2 in
    let own = own_tokens es order.follows in
    let resolution = c.in-Ok-resolved.resolution in
    let resolved = subst (λ z. IsResolved l.isolated names z resolution) c.deref.ensures.value
    (MatchResult-at_ok (IsResolved l.isolated names c.deref.result.now) (IsScopeFault l.isolated names c.deref.result.now) resolution c.in-Ok-resolved.is found) in
    let many = IfOk-at_ok (λ z. length z.definitions ≡ length names) c.in-Ok-resolved.is c.resolve-resolved.ensures.many in
    let start = seen c.args.ctx.now in
    let s = seen c.assemble-assembled.new.ctx in
    let first = c.args.ctx.now.program.counter in
    let next = c.assemble-assembled.new.ctx.program.counter in
    let a = c.in-Ok.assembly in
    let to = subst (λ z. Leads at_root [] z at_end []) (sym c.deref-2.ensures.value) leads in
    let made = subst (λ z. IsAssembled d.says d.values z start s first next a es) written
    (subst (IsAssembled d.says d.values (text_between cs c.args.source.starts.now) start s first next a) c.deref-2.ensures.value
    (IfOk-at_ok (λ z. IsAssembled d.says d.values (text_between cs c.args.source.starts.now) start s first next z c.deref-2.result.now) c.in-Ok.is (c.assemble-assembled.ensures.made to))) in
    let held = IfOk-at_ok (λ z. HoldsAllNew start s z.loose.items) c.in-Ok.is c.assemble-assembled.ensures.held in
    rw made.stands refl

pub returns-clause-read : goal.returns-clause-read
returns-clause-read g c =
    let d = g.D.TextDialect in
    let l = language_of d.formats d.kind_at (is_isolated g.D.DialectTables.op_has) d.values in
    let cs = codes_of c.args.source.chars in
    let ts = c.requires.reading.0 in
    let names = c.args.names in
    let r = c.args.reading.now in
    let es = r.events.items in
    let text = token_text cs ts in
    let written : text_between cs c.args.source.starts.now ≡ text = ap (text_between cs) c.requires.reading.1 ∙ texts_stand cs ts c.requires.reading.2.tokens in
    let found = c.resolve-resolved.ensures.resolved in
    let judged = judged_so l g.D.ReadDialect.leads g.met.D.ReadDialect.ordered cs ts names r c.deref-2.result.now c.deref.result.now c.assemble-assembled.result c.resolve-resolved.result
    (text_between cs c.args.source.starts.now) written c.deref-2.ensures.value c.deref.ensures.value c.requires.reading.2 c.requires.deep c.assemble-assembled.ensures.sound c.assemble-assembled.ensures.refused found in
    let none = c.in_default.ensures.none l ts names c.requires.reading.1 judged in
    let leads = read_whole l g.D.ReadDialect.leads g.met.D.ReadDialect.ordered cs ts names r.taken es r.stop c.requires.reading.2 none in
    let order = read_in_order l g.D.ReadDialect.leads g.met.D.ReadDialect.ordered cs ts names r.taken es r.stop c.requires.reading.2 in
    let own = own_tokens es order.follows in
    let resolution = c.in-Ok-resolved.resolution in
    let resolved = subst (λ z. IsResolved l.isolated names z resolution) c.deref.ensures.value
    (MatchResult-at_ok (IsResolved l.isolated names c.deref.result.now) (IsScopeFault l.isolated names c.deref.result.now) resolution c.in-Ok-resolved.is found) in
    let many = IfOk-at_ok (λ z. length z.definitions ≡ length names) c.in-Ok-resolved.is c.resolve-resolved.ensures.many in
    let start = seen c.args.ctx.now in
    let s = seen c.assemble-assembled.new.ctx in
    let first = c.args.ctx.now.program.counter in
    let next = c.assemble-assembled.new.ctx.program.counter in
    let a = c.in-Ok.assembly in
    let to = subst (λ z. Leads at_root [] z at_end []) (sym c.deref-2.ensures.value) leads in
    let made = subst (λ z. IsAssembled d.says d.values z start s first next a es) written
    (subst (IsAssembled d.says d.values (text_between cs c.args.source.starts.now) start s first next a) c.deref-2.ensures.value
    (IfOk-at_ok (λ z. IsAssembled d.says d.values (text_between cs c.args.source.starts.now) start s first next z c.deref-2.result.now) c.in-Ok.is (c.assemble-assembled.ensures.made to))) in
    let held = IfOk-at_ok (λ z. HoldsAllNew start s z.loose.items) c.in-Ok.is c.assemble-assembled.ensures.held in
    let linked = c.connect.ensures.linked in
    answers_read l cs ts names r.stop r.taken es resolution c.requires.reading.2 leads own resolved c.requires.reading.2.numbered many d.says start s first next a made
    (seen c.connect.new.ctx) c.connect.new.ctx.program.counter c.connect.result linked c.connect.ensures.root
    (c.connect.ensures.held start (names_in es) made.operands held) c.connect.ensures.counter none

pub returns-clause-refused : goal.returns-clause-refused
returns-clause-refused g c =
    let d = g.D.TextDialect in
    let l = language_of d.formats d.kind_at (is_isolated g.D.DialectTables.op_has) d.values in
    let cs = codes_of c.args.source.chars in
    let ts = c.requires.reading.0 in
    let names = c.args.names in
    let r = c.args.reading.now in
    let es = r.events.items in
    let text = token_text cs ts in
    let written : text_between cs c.args.source.starts.now ≡ text = ap (text_between cs) c.requires.reading.1 ∙ texts_stand cs ts c.requires.reading.2.tokens in
    let found = c.resolve-resolved.ensures.resolved in
    let judged = judged_so l g.D.ReadDialect.leads g.met.D.ReadDialect.ordered cs ts names r c.deref-2.result.now c.deref.result.now c.assemble-assembled.result c.resolve-resolved.result
    (text_between cs c.args.source.starts.now) written c.deref-2.ensures.value c.deref.ensures.value c.requires.reading.2 c.requires.deep c.assemble-assembled.ensures.sound c.assemble-assembled.ensures.refused found in
    let none = c.in_default.ensures.none l ts names c.requires.reading.1 judged in
    let leads = read_whole l g.D.ReadDialect.leads g.met.D.ReadDialect.ordered cs ts names r.taken es r.stop c.requires.reading.2 none in
    let order = read_in_order l g.D.ReadDialect.leads g.met.D.ReadDialect.ordered cs ts names r.taken es r.stop c.requires.reading.2 in
    let own = own_tokens es order.follows in
    let resolution = c.in-Ok-resolved.resolution in
    let resolved = subst (λ z. IsResolved l.isolated names z resolution) c.deref.ensures.value
    (MatchResult-at_ok (IsResolved l.isolated names c.deref.result.now) (IsScopeFault l.isolated names c.deref.result.now) resolution c.in-Ok-resolved.is found) in
    let many = IfOk-at_ok (λ z. length z.definitions ≡ length names) c.in-Ok-resolved.is c.resolve-resolved.ensures.many in
    let start = seen c.args.ctx.now in
    let s = seen c.assemble-assembled.new.ctx in
    let first = c.args.ctx.now.program.counter in
    let next = c.assemble-assembled.new.ctx.program.counter in
    let a = c.in-Ok.assembly in
    let to = subst (λ z. Leads at_root [] z at_end []) (sym c.deref-2.ensures.value) leads in
    let made = subst (λ z. IsAssembled d.says d.values z start s first next a es) written
    (subst (IsAssembled d.says d.values (text_between cs c.args.source.starts.now) start s first next a) c.deref-2.ensures.value
    (IfOk-at_ok (λ z. IsAssembled d.says d.values (text_between cs c.args.source.starts.now) start s first next z c.deref-2.result.now) c.in-Ok.is (c.assemble-assembled.ensures.made to))) in
    let held = IfOk-at_ok (λ z. HoldsAllNew start s z.loose.items) c.in-Ok.is c.assemble-assembled.ensures.held in
    c.connect.ensures.undone start (names_in es) made.operands held

pub returns-in-Err-clause-erased : goal.returns-in-Err-clause-erased
returns-in-Err-clause-erased g c = erased_both _ _ _ c.assemble-assembled.ensures.erased c.undo.ensures.erased

pub returns-clause-erased : goal.returns-clause-erased
returns-clause-erased g c = erased_both _ _ _ c.assemble-assembled.ensures.erased c.connect.ensures.erased

pub returns-in-Err-clause-payloads : goal.returns-in-Err-clause-payloads
returns-in-Err-clause-payloads g c =
    payloads_since c.args.ctx.now c.assemble-assembled.new.ctx c.undo.new.ctx c.assemble-assembled.ensures.payloads
    (c.undo.ensures.payloads (seen c.args.ctx.now) c.assemble-assembled.ensures.held)

pub returns-clause-payloads : goal.returns-clause-payloads
returns-clause-payloads g c =
    let d = g.D.TextDialect in
    let l = language_of d.formats d.kind_at (is_isolated g.D.DialectTables.op_has) d.values in
    let cs = codes_of c.args.source.chars in
    let ts = c.requires.reading.0 in
    let names = c.args.names in
    let r = c.args.reading.now in
    let es = r.events.items in
    let text = token_text cs ts in
    let written : text_between cs c.args.source.starts.now ≡ text = ap (text_between cs) c.requires.reading.1 ∙ texts_stand cs ts c.requires.reading.2.tokens in
    let found = c.resolve-resolved.ensures.resolved in
    let judged = judged_so l g.D.ReadDialect.leads g.met.D.ReadDialect.ordered cs ts names r c.deref-2.result.now c.deref.result.now c.assemble-assembled.result c.resolve-resolved.result
    (text_between cs c.args.source.starts.now) written c.deref-2.ensures.value c.deref.ensures.value c.requires.reading.2 c.requires.deep c.assemble-assembled.ensures.sound c.assemble-assembled.ensures.refused found in
    let none = c.in_default.ensures.none l ts names c.requires.reading.1 judged in
    let leads = read_whole l g.D.ReadDialect.leads g.met.D.ReadDialect.ordered cs ts names r.taken es r.stop c.requires.reading.2 none in
    let order = read_in_order l g.D.ReadDialect.leads g.met.D.ReadDialect.ordered cs ts names r.taken es r.stop c.requires.reading.2 in
    let own = own_tokens es order.follows in
    let resolution = c.in-Ok-resolved.resolution in
    let resolved = subst (λ z. IsResolved l.isolated names z resolution) c.deref.ensures.value
    (MatchResult-at_ok (IsResolved l.isolated names c.deref.result.now) (IsScopeFault l.isolated names c.deref.result.now) resolution c.in-Ok-resolved.is found) in
    let many = IfOk-at_ok (λ z. length z.definitions ≡ length names) c.in-Ok-resolved.is c.resolve-resolved.ensures.many in
    let start = seen c.args.ctx.now in
    let s = seen c.assemble-assembled.new.ctx in
    let first = c.args.ctx.now.program.counter in
    let next = c.assemble-assembled.new.ctx.program.counter in
    let a = c.in-Ok.assembly in
    let to = subst (λ z. Leads at_root [] z at_end []) (sym c.deref-2.ensures.value) leads in
    let made = subst (λ z. IsAssembled d.says d.values z start s first next a es) written
    (subst (IsAssembled d.says d.values (text_between cs c.args.source.starts.now) start s first next a) c.deref-2.ensures.value
    (IfOk-at_ok (λ z. IsAssembled d.says d.values (text_between cs c.args.source.starts.now) start s first next z c.deref-2.result.now) c.in-Ok.is (c.assemble-assembled.ensures.made to))) in
    let held = IfOk-at_ok (λ z. HoldsAllNew start s z.loose.items) c.in-Ok.is c.assemble-assembled.ensures.held in
    payloads_since c.args.ctx.now c.assemble-assembled.new.ctx c.connect.new.ctx c.assemble-assembled.ensures.payloads
    (c.connect.ensures.payloads start (names_in es) made.operands held)

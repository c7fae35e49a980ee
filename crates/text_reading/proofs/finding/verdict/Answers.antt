use Rattle.std.proofs.Common.{◌⊎◌, ◌∙◌, ap, sym, subst}
use Rattle.std.proofs.lemmas.Result.{err_from_is_err_and}
use Rattle.ir_characters.specs.Texts.{codes_of}
use Rattle.ir_tokens.specs.Faults.{IsNamed}
use Rattle.ir_rereading.specs.Texts.{HasFault, tell}
use Rattle.ir_formats.specs.Words.{token_text}
use Rattle.ir_forest.specs.ValueFaults.{HasNumberFault, HasNamesFault}
use Rattle.text_reading.proofs.TextFaults.{refusal}
use Rattle.text_reading.proofs.Places.{token_count}
use Rattle.text_reading.proofs.finding.verdict.Goals as goal

pub returns-in_err-values-clause-fault : goal.returns-in_err-values-clause-fault
returns-in_err-values-clause-fault c = λ l ts names starts judged.
    let p = err_from_is_err_and c.from_residual.result c.from_residual.ensures.1 in
    rw (p.1, p.2) (c.in_err-values.ensures.memory l (codes_of c.args.source.chars))

pub returns-in-Some-clause-fault : goal.returns-in-Some-clause-fault
returns-in-Some-clause-fault c = λ l ts names starts judged.
    let cs = codes_of c.args.source.chars in
    let r = c.args.reading.now in
    let es = r.events.items in
    let first = c.in_ok-values.ensures.found judged.first judged.values_made judged.values_refused in
    let values = subst (IsNamed (λ f. HasNumberFault l.values (token_text cs ts) es f ⊎ HasNamesFault l.values (token_text cs ts) es f)) (sym first) judged.named in
    let scopes = c.in_ok-scopes.ensures.found l.isolated names es judged.names_found in
    let count = token_count cs ts c.args.source.starts.now starts judged.reading.tokens in
    let named = c.fault_of.ensures.first l cs ts names (count ∙ sym c.tokens.ensures) judged.deep values scopes in
    refusal l cs c.told.result (ts, names, r.stop, r.taken, es, c.in-Some.fault, judged.reading, subst (IsNamed (HasFault l cs ts names r.stop r.taken es)) c.in-Some.is named, c.told.ensures.told ∙ ap (tell c.in-Some.fault.kind) (c.place_of.ensures ts starts judged.reading.tokens))

pub returns-in-None-clause-none : goal.returns-in-None-clause-none
returns-in-None-clause-none c = λ l ts names starts judged.
    let cs = codes_of c.args.source.chars in
    let r = c.args.reading.now in
    let es = r.events.items in
    let first = c.in_ok-values.ensures.found judged.first judged.values_made judged.values_refused in
    let values = subst (IsNamed (λ f. HasNumberFault l.values (token_text cs ts) es f ⊎ HasNamesFault l.values (token_text cs ts) es f)) (sym first) judged.named in
    let scopes = c.in_ok-scopes.ensures.found l.isolated names es judged.names_found in
    let count = token_count cs ts c.args.source.starts.now starts judged.reading.tokens in
    let named = c.fault_of.ensures.first l cs ts names (count ∙ sym c.tokens.ensures) judged.deep values scopes in
    subst (IsNamed (HasFault l cs ts names r.stop r.taken es)) c.in-None.is named
